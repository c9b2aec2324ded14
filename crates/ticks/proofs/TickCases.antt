-- Document 01, "Numbers to check by hand", j and k: what `to_tick` gives there, whatever it is, is what the documents
-- say; and other ties of wish 3. Assumes nothing.
use Rattle.std.proofs.Common.{◌≡◌, ◌-◌, ◌^◌, [], ◌∷◌, pos, negsuc}
use lib.Ieee.{nan}
use Rattle.std.specs.Prelude.{ℤ, Option, Some, None}
use Rattle.method.specs.Ticks.{tick}
use Rattle.method.proofs.Cases.{½, -½, -0, 1½, 2½, -1½, -2½, below½, 2^41f, 2^41+1f, 2^41+½f, -2^41-½f, case_j, case_k, case_ties}

pub ticked_j : (a b c d e : Option ℤ) → a ≡ tick ½ → b ≡ tick -½ → c ≡ tick -0 → d ≡ tick 1½ → e ≡ tick 2½
    → a ∷ b ∷ c ∷ d ∷ e ∷ [] ≡ Some (pos 0) ∷ Some (pos 0) ∷ Some (pos 0) ∷ Some (pos 2) ∷ Some (pos 2) ∷ []
ticked_j a b c d e p q r s t = rw (p, q, r, s, t) case_j

pub ticked_k : (a b c : Option ℤ) → a ≡ tick 2^41f → b ≡ tick 2^41+1f → c ≡ tick nan → a ∷ b ∷ c ∷ [] ≡ Some (pos (2 ^ 41)) ∷ None ∷ None ∷ []
ticked_k a b c p q r = rw (p, q, r) case_k

pub ticked_ties : (a b c d e : Option ℤ) → a ≡ tick -1½ → b ≡ tick -2½ → c ≡ tick below½ → d ≡ tick 2^41+½f → e ≡ tick -2^41-½f
    → a ∷ b ∷ c ∷ d ∷ e ∷ [] ≡ Some (negsuc 1) ∷ Some (negsuc 1) ∷ Some (pos 0) ∷ Some (pos (2 ^ 41)) ∷ Some (negsuc (2 ^ 41 - 1)) ∷ []
ticked_ties a b c d e p q r s t = rw (p, q, r, s, t) case_ties
