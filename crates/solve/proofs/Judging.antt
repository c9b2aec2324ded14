-- The checks before 7, in their order. Assumes nothing.
use Prim.Native.Nat.{ℕ}
use mathlib.Core.Path.{◌≡◌, refl, sym, ap, ◌∙◌}
use mathlib.Core.Bool.{Bool, true, false, ◌&&◌, false≢true}
use mathlib.Core.List.{List}
use borrow.Author.Tests.{eqb-true}
use lib.Dec.{ltb, leb, eqb}
use lib.IntN.{ℤ}
use lib.Ieee.{Float}
use lib.ListN.{length}
use Rattle.std.specs.Prelude.{Result, Ok, Err}
use Rattle.method.specs.declared.Sides.{Sides}
use Rattle.method.specs.declared.Settings.{Settings}
use Rattle.method.specs.Cast.{cells, sides_fit, settings_fit, interior}
use Rattle.method.specs.Answers.{verdict}
use Rattle.method.specs.Rooms.{byte_need, float_need, word_need}
use Rattle.method.specs.Solving.{Asked, lengths_fit, checks_before7}
use Rattle.theory.specs.Sides.{Fit}
use Rattle.theory.proofs.Sides.{fit}
use Rattle.theory.proofs.Verdicts.{fails_at, passes_on, fault_no, fault_yes}
use Rattle.answers.specs.declared.Fault.{Fault}
use Rattle.answers.specs.declared.Fault.TheVariants.{SideOutOfRange, WrongLength, SettingOutOfRange, NoAir}
use Rattle.checks.specs.Rulings.{ruling_of, unless}
use Rattle.checks.proofs.RuleLaws.{ruled_well, side_is, setting_is, no_air_is, test_more, test_last, test_ends}
use Rattle.checks.proofs.CheckLaws.{cells_ruled, none_is}
use Rattle.solve.specs.Solve.{asked, lengths_by, content_ruling}

-- ---- what the code knows where checks 1 and 2 passed
pub fits_sides : {g : Sides} {r : Result (Unit {0}) Fault} → r ≡ unless SideOutOfRange (sides_fit g) → r ≡ Ok tt → Fit g
fits_sides {g} e h = fit g (ruled_well SideOutOfRange (sides_fit g) (sym e ∙ h))

pub both : (p q : Bool) → (p && q) ≡ true → (p ≡ true) × (q ≡ true)
both true q k = (refl, k)
both false q k = absurd (false≢true k)

module _ (n labels values pressures bytes floats words : ℕ) (f : Bool) (e : f ≡ lengths_by n labels values pressures bytes floats words) (h : f ≡ true) where
  -- labels and values, and what is asked beside them
  abbrev others : Bool
  others = eqb pressures n && (leb (byte_need n) bytes && (leb (float_need n) floats && leb (word_need n) words))

  pub labels_known : labels ≡ n
  unfolding lengths_by
  labels_known = eqb-true labels n (both (eqb labels n) (eqb values n && others) (sym e ∙ h)).0

  pub values_known : values ≡ n
  unfolding lengths_by
  values_known = eqb-true values n (both (eqb values n) others (both (eqb labels n) (eqb values n && others) (sym e ∙ h)).1).0

-- ---- the verdict, by where the code returns
module _ (g : Sides) (ls : List ℕ) (vs : List ℤ) (t : Settings) (ps : List ℤ) (bytes : List ℕ) (floats : List Float) (words : List ℕ) where
  abbrev a : Asked
  a = asked g ls vs t ps bytes floats words

  lengths_are : (n : ℕ) → n ≡ cells g → lengths_fit a ≡ lengths_by n (length ls) (length vs) (length ps) (length bytes) (length floats) (length words)
  unfolding lengths_fit lengths_by
  lengths_are n e = rw e refl

  module _ (s : Result (Unit {0}) Fault) (es : s ≡ unless SideOutOfRange (sides_fit g)) where
    pub sides_refused : (e : Fault) → s ≡ Err e → verdict checks_before7 a ≡ ruling_of (Err e)
    unfolding checks_before7
    sides_refused e h = test_ends _ SideOutOfRange e side_is _ a (sides_fit g) refl (sym es ∙ h)

    module _ (h : s ≡ Ok tt) (n : ℕ) (en : n ≡ cells g) (f : Bool) (ef : f ≡ lengths_by n (length ls) (length vs) (length ps) (length bytes) (length floats) (length words)) where
      sides_passed : sides_fit g ≡ true
      sides_passed = ruled_well SideOutOfRange (sides_fit g) (sym es ∙ h)

      pub lengths_refused : f ≡ false → verdict checks_before7 a ≡ ruling_of (Err WrongLength)
      unfolding checks_before7
      lengths_refused k = passes_on _ _ a (fault_no (sides_fit g) sides_passed) ∙ fails_at _ _ a 0 (fault_yes (lengths_fit a) (lengths_are n en ∙ sym ef ∙ k))

      pub content_judged : (r : Result (Unit {0}) Fault) → f ≡ true → r ≡ content_ruling g ls vs t n → verdict checks_before7 a ≡ ruling_of r
      unfolding checks_before7
      content_judged r k e =
          passes_on _ _ a (fault_no (sides_fit g) sides_passed) ∙ passes_on _ _ a (fault_no (lengths_fit a) (lengths_are n en ∙ sym ef ∙ k))
          ∙ test_more _ SettingOutOfRange setting_is _ a (settings_fit t) _ refl
          (cells_ruled (λ (b : Asked). b.cast) _ a n en (unless NoAir (ltb 0 (interior g ls))) (test_last _ NoAir no_air_is a (ltb 0 (interior g ls)) (none_is (interior g ls))))
          ∙ ap ruling_of (sym e)
