-- A table of cases under one claim. A case is something that computes, and what it must be. Assumes nothing.
use Prim.Native.Nat.{ℕ, zero, suc}
use mathlib.Core.Path.{◌≡◌, refl}
use mathlib.Core.List.{List, [], ◌∷◌}
use lib.ListN.{get_or}

pub record Case : Type 1 where
  pub of : Type 0
  pub got : of
  pub want : of

abbrev pub Holds : Case → Type 0
Holds c = c.got ≡ c.want

-- the claim: every case holds
abbrev pub AllHold : List Case → Type 0
AllHold [] = Unit {0}
AllHold (c ∷ cs) = Holds c × AllHold cs

abbrev pub no_case : Case
no_case = record { of = Unit {0}; got = tt; want = tt }

-- from the claim, any one case
pub holds_at : (cs : List Case) → AllHold cs → (k : ℕ) → Holds (get_or cs k no_case)
holds_at [] h k = refl
holds_at (c ∷ cs) h zero = h.0
holds_at (c ∷ cs) h (suc k) = holds_at cs h.1 k
