-- The whole call's checks before 7, in their order. Assumes nothing.
use Prim.Native.Nat.{ℕ, ◌*◌, ◌^◌, ◌≤◌, ◌<◌}
use mathlib.Core.Path.{◌≡◌, refl, sym, ap, ◌∙◌}
use mathlib.Core.Bool.{Bool, true, false, not, ◌&&◌, false≢true}
use native.Mathlib.Nat.{mul-le-mul}
use native.Mathlib.Omega.{arith}
use borrow.Author.Tests.{eqb-true}
use lib.Dec.{ltb, eqb}
use lib.ListN.{length}
use Rattle.method.specs.declared.Sides.{Sides}
use Rattle.method.specs.Cast.{sides_fit, settings_fit, interior, first}
use Rattle.method.specs.Answers.{verdict, fault}
use Rattle.theory.specs.Sides.{Fit}
use Rattle.theory.proofs.Sides.{fit}
use Rattle.answers.specs.declared.Fault.TheVariants.{SideOutOfRange, WrongLength, SettingOutOfRange, BadLabel, NoAir}
use Rattle.std.specs.Prelude.{Result, Ok}
use Rattle.answers.specs.declared.Fault.{Fault}
use Rattle.checks.specs.Rulings.{ruling_of, unless}
use Rattle.checks.specs.Faults.{bad_label_at}
use Rattle.checks.proofs.RuleLaws.{ruled_well, side_is, length_is, setting_is, label_is, no_air_is, ruling_more, test_more, test_last}
use Rattle.checks.proofs.CheckLaws.{label_fault_lem, none_is}
use Rattle.many_checks.specs.declared.Lengths.{Lengths}
use Rattle.method.specs.Many.{AskedMany, many_size, sets_fit, many_lengths_fit, many_checks_before7}
use Rattle.many_checks.specs.ManyRulings.{lengths_of, lengths_by, many_ruling}

-- a product of any u32 with at most 32,768 does not wrap
pub no_wrap : (sets n : ℕ) → sets < 2 ^ 32 → n ≤ 32768 → sets * n < 2 ^ 64
no_wrap sets n h k =
    let most : sets ≤ 4294967295 = omega arith in
    omega (arith, mul-le-mul most k)

-- ---- the ruling is the verdict of document 02's checks
lengths_are : (a : AskedMany) → many_lengths_fit a ≡ lengths_by (many_size a) a.sets (length a.labels) (lengths_of a)
unfolding many_lengths_fit lengths_by lengths_of
lengths_are a = refl

pub many_ruled : (a : AskedMany) → verdict many_checks_before7 a ≡ ruling_of (many_ruling a.sides a.labels a.settings a.sets (lengths_of a))
unfolding many_checks_before7
many_ruled a =
    test_more _ SideOutOfRange side_is _ a (sides_fit a.sides) _ refl
    (test_more _ WrongLength length_is _ a (lengths_by (many_size a) a.sets (length a.labels) (lengths_of a)) _ (ap (λ b. fault (not b)) (lengths_are a))
    (test_more _ SettingOutOfRange setting_is _ a (settings_fit a.settings && sets_fit a.sets) _ refl
    (ruling_more _ BadLabel label_is _ a (first (bad_label_at a.labels) (many_size a)) _ (label_fault_lem a.sides a.labels)
    (test_last _ NoAir no_air_is a (ltb 0 (interior a.sides a.labels)) (none_is (interior a.sides a.labels))))))

-- ---- what the code knows where checks 1 and 2 passed
pub sides_known : {g : Sides} {r : Result (Unit {0}) Fault} → r ≡ unless SideOutOfRange (sides_fit g) → r ≡ Ok tt → Fit g
sides_known {g} e h = fit g (ruled_well SideOutOfRange (sides_fit g) (sym e ∙ h))

first_holds : (p q : Bool) → (p && q) ≡ true → p ≡ true
first_holds true q w = refl
first_holds false q w = absurd (false≢true w)

pub labels_known : (n k l : ℕ) (of : Lengths) (f : Bool) → f ≡ lengths_by n k l of → f ≡ true → l ≡ n
unfolding lengths_by
labels_known n k l of f e q = eqb-true l n (first_holds (eqb l n) _ (sym e ∙ q))
