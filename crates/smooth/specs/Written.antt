-- Writing at the cells of a list, one after another, into the field that begins at a place of the room.
use Rattle.std.specs.Prelude.{ℕ, ◌+◌, ◌<◌, ◌≡◌, Bool, true, List, length, get_or, set, Float}
use Rattle.laws.specs.Loops.{up}

-- f of the room at one cell, and at each cell of a list
abbrev pub write_at : ℕ → (ℕ → List Float → Float) → ℕ → List Float → List Float
write_at from f c r = set r (from + c) (f c r)

unfoldable pub written : ℕ → (ℕ → List Float → Float) → List ℕ → List Float → List Float
written from f cs r = up (λ k. write_at from f (get_or cs k 0)) (length cs) r

-- the list holds those of the numbers below n that pass a test, and no other
pub record Covers (n : ℕ) (at : ℕ → Bool) (cs : List ℕ) : Type 0 where
  pub below : (k : ℕ) → k < length cs → get_or cs k 0 < n
  pub pass : (k : ℕ) → k < length cs → at (get_or cs k 0) ≡ true
  pub each : (c : ℕ) → c < n → at c ≡ true → (k : ℕ) × (k < length cs) × (get_or cs k 0 ≡ c)
