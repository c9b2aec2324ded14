-- What is written into a lent room, and whether a number passes a test.
use Rattle.std.specs.Prelude.{ℕ, zero, suc, ◌+◌, Bool, false, ◌||◌, List, ◌++◌, length, take, drop}

-- the room e with l written from place a on, the rest untouched
unfoldable pub written : {A : Type 0} → List A → ℕ → List A → List A
written e a l = take a e ++ (l ++ drop (a + length l) e)

-- whether a number below n passes
unfoldable pub some : (ℕ → Bool) → ℕ → Bool
some p zero = false
some p (suc n) = some p n || p n
