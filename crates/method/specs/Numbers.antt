-- Document 01, "The session form": numbers, written and read. Definitions only.
use Rattle.std.specs.Prelude.{ℕ, zero, suc, ◌+◌, ◌-◌, ◌*◌, ◌/◌, ◌%◌, Bool, true, false, not, ◌&&◌, ◌||◌, List, [], ◌∷◌, ◌++◌, eqb, get_or, length}
use Rattle.method.specs.Cast.{between}

-- ---- numbers, written: decimal, with no leading zero. A number has no more digits than its own size.
unfoldable pub last_digit : ℕ → List ℕ
last_digit n = (48 + n % 10) ∷ []

unfoldable pub spelled : ℕ → ℕ → List ℕ
spelled zero n = last_digit n
spelled (suc k) n = elim (n / 10) [ zero ↦ last_digit n | suc m ↦ spelled k (n / 10) ++ last_digit n ]

unfoldable pub decimal : ℕ → List ℕ
decimal n = spelled n n

-- and read: "1 to 7 decimal digits with no sign and no leading zero, except `0` itself"
unfoldable pub is_digit : ℕ → Bool
is_digit b = between 48 57 b

unfoldable pub digits : List ℕ → List ℕ
digits [] = []
digits (b ∷ bs) = elim (is_digit b) [ true ↦ b ∷ digits bs | false ↦ [] ]

unfoldable pub is_number : List ℕ → Bool
is_number ds = between 1 7 (length ds) && (eqb (length ds) 1 || not (eqb (get_or ds 0 0) 48))

unfoldable pub value_of : ℕ → List ℕ → ℕ
value_of v [] = v
value_of v (b ∷ bs) = value_of (10 * v + (b - 48)) bs

-- one name that opens this file
unfoldable pub computing_numbers : Unit {0}
unfolding last_digit spelled decimal is_digit digits is_number value_of
computing_numbers = tt
