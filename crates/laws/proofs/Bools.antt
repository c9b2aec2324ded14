-- Tests and their parts. Assumes nothing.
use mathlib.Core.Path.{◌≡◌, refl}
use mathlib.Core.Logic.{◌⊎◌, inl, inr}
use mathlib.Core.Bool.{Bool, true, false, not, ◌&&◌, ◌||◌}
use lib.Dec.{T}

pub split {ℓ} : {X : Type ℓ} (b : Bool) → (T b → X) → (T (not b) → X) → X
split true f g = f tt
split false f g = g tt

pub and_l : (a b : Bool) → T (a && b) → T a
and_l true b t = tt
and_l false b t = t

pub and_r : (a b : Bool) → T (a && b) → T b
and_r true b t = t
and_r false b t = absurd t

pub and_in : (a b : Bool) → T a → T b → T (a && b)
and_in true b t u = u
and_in false b t u = t

pub and_no : (a b : Bool) → T (not (a && b)) → (T (not a)) ⊎ (T (not b))
and_no true b t = inr t
and_no false b t = inl t

pub no_and : (a b : Bool) → T (not b) → T (not (a && b))
no_and true b t = t
no_and false b t = tt

pub or_cases : (a b : Bool) → T (a || b) → T a ⊎ T b
or_cases true b t = inl tt
or_cases false b t = inr t

pub or_l : (a b : Bool) → T a → T (a || b)
or_l true b t = tt
or_l false b t = absurd t

pub or_r : (a b : Bool) → T b → T (a || b)
or_r true b t = tt
or_r false b t = t

-- a test that passes is true, and the other way round
pub is_true : (b : Bool) → T b → b ≡ true
is_true true t = refl
is_true false t = absurd t

pub is_false : (b : Bool) → T (not b) → b ≡ false
is_false true t = absurd t
is_false false t = refl

pub so : {b : Bool} → b ≡ true → T b
so e = rw e tt

pub so_not : {b : Bool} → b ≡ false → T (not b)
so_not e = rw e tt
