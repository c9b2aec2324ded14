-- The program's checks: 2 where there are too many cells, else those of the reader; and what is printed by each
-- verdict. Assumes nothing.
use mathlib.Core.Path.{◌≡◌, refl, sym, ap, ◌∙◌}
use mathlib.Core.Bool.{Bool, true, false, ◌&&◌}
use mathlib.Core.List.{List, [], ◌∷◌}
use Prim.Native.Nat.{ℕ, ◌*◌, ◌≤◌}
use native.Mathlib.Omega.{arith}
use borrow.Author.Tests.{le-ltb, ltb-false}
use lib.Dec.{ltb, eqb}
use lib.IntN.{ℤ}
use lib.ListN.{length}
use Rattle.std.specs.Prelude.{Option, None, Some}
use Rattle.method.specs.Cast.{between, cells, sides_fit}
use Rattle.method.specs.Form.{Lines, wrong, right, wrong_line, read_lines, lines, header_of, header, bad_line}
use Rattle.method.specs.Answers.{check, fault, passed, refused, verdict, refusal}
use Rattle.method.specs.Solving.{solving}
use Rattle.method.specs.Reading.{Reading, named, line_check, side_check, body_check, room_check, content_checks, reader_checks}
use Rattle.method.specs.Program.{program_checks, print, asked, shown, printed}
use Rattle.theory.proofs.Verdicts.{fails_at, passes_on, verdict_agree, fault_no, fault_yes}
use Rattle.prints.specs.Prints.{crowded}

-- ---- what is printed, by the verdict
module _ (room : ℕ) (bs : List ℕ) where
  abbrev pub bare : Reading
  bare = record { bytes = bs; values = [] }

  pub printed_refused : (num place : ℕ) → verdict (program_checks room) bare ≡ refused num place → printed room bs ≡ print (refusal num place) []
  unfolding printed
  printed_refused num place e = rw (printed, e)

  pub printed_passed : verdict (program_checks room) bare ≡ passed → printed room bs ≡ shown (solving (asked (header bs)))
  unfolding printed
  printed_passed e = rw (printed, e)

-- ---- a header that has a wrong line names no sides
fit_lines : (l : Lines) → sides_fit (header_of l).sides ≡ true → wrong_line l ≡ None
unfolding header_of wrong_line sides_fit between
fit_lines (wrong k) e = absurd (no e)
  where
    no : false ≡ true → ⊥
    no q = let z : ◌≡◌ {A = ℕ} 0 1 = cc in omega arith
fit_lines (right vs rest) e = refl

pub line_fine : (bs : List ℕ) → sides_fit (header bs).sides ≡ true → bad_line bs ≡ None
unfolding header bad_line
line_fine bs e = fit_lines (read_lines 1 lines bs) e

and_true : (a b : Bool) → (a && b) ≡ true → (a ≡ true) × (b ≡ true)
and_true true b e = (refl, e)
and_true false b e = absurd (no e)
  where
    no : false ≡ true → ⊥
    no q = let z : ◌≡◌ {A = ℕ} 0 1 = cc in omega arith

-- ---- too many cells
pub fault_too_many : (b : Bool) → b ≡ true → fault b ≡ Some 0
unfolding fault
fault_too_many b e = ap fault e

pub fault_none : (b : Bool) → b ≡ false → fault b ≡ None
unfolding fault
fault_none b e = ap fault e

module _ (room : ℕ) (bs : List ℕ) where
  pub too_many : crowded room bs ≡ true → verdict (program_checks room) (bare room bs) ≡ refused 2 0
  unfolding crowded program_checks line_check side_check
  too_many e =
      let p = and_true (sides_fit (header bs).sides) (ltb room (cells (header bs).sides)) e in
      passes_on _ _ (bare room bs) (line_fine bs p.0) ∙ passes_on _ _ (bare room bs) (fault_no (sides_fit (header bs).sides) p.0)
      ∙ fails_at _ _ (bare room bs) 0 (fault_too_many (ltb room (cells (header bs).sides)) p.1)

  -- else the verdict is the reader's, with at least as much room for values
  module _ (vs : List ℤ) (e : crowded room bs ≡ false) (l : room ≤ length vs) where
    abbrev full : Reading
    full = record { bytes = bs; values = vs }

    same_content : verdict content_checks (bare room bs) ≡ verdict content_checks full
    unfolding content_checks
    same_content = verdict_agree content_checks (bare room bs) full (refl, (refl, (refl, tt)))

    abbrev few : Type 0
    few = ltb room (cells (header bs).sides) ≡ false

    past_sides : few → verdict (check 2 (λ r. fault (ltb room (cells (named r).sides))) ∷ body_check ∷ content_checks) (bare room bs)
        ≡ verdict (body_check ∷ room_check ∷ content_checks) full
    unfolding body_check room_check
    past_sides f =
        passes_on _ _ (bare room bs) (fault_none (ltb room (cells (header bs).sides)) f) ∙ go (eqb (length (header bs).body) (5 * cells (header bs).sides)) refl
      where
        roomy : ltb (length vs) (cells (header bs).sides) ≡ false
        roomy = le-ltb (length vs) (cells (header bs).sides) (omega (arith, ltb-false room (cells (header bs).sides) f))

        go : (t : Bool) → eqb (length (header bs).body) (5 * cells (header bs).sides) ≡ t
            → verdict (body_check ∷ content_checks) (bare room bs) ≡ verdict (body_check ∷ room_check ∷ content_checks) full
        go false q = fails_at _ _ (bare room bs) 0 (fault_yes _ q) ∙ sym (fails_at _ _ full 0 (fault_yes _ q))
        go true q =
            passes_on _ _ (bare room bs) (fault_no _ q) ∙ same_content
            ∙ sym (passes_on _ _ full (fault_no _ q) ∙ passes_on _ _ full (fault_none _ roomy))

    past_lines : (t : Bool) → sides_fit (header bs).sides ≡ t → (t && ltb room (cells (header bs).sides)) ≡ false
        → verdict (side_check ∷ check 2 (λ r. fault (ltb room (cells (named r).sides))) ∷ body_check ∷ content_checks) (bare room bs)
        ≡ verdict (side_check ∷ body_check ∷ room_check ∷ content_checks) full
    unfolding side_check
    past_lines false q f = fails_at _ _ (bare room bs) 0 (fault_yes _ q) ∙ sym (fails_at _ _ full 0 (fault_yes _ q))
    past_lines true q f = passes_on _ _ (bare room bs) (fault_no _ q) ∙ past_sides f ∙ sym (passes_on _ _ full (fault_no _ q))

    not_crowded : (t : Bool) → sides_fit (header bs).sides ≡ t → (t && ltb room (cells (header bs).sides)) ≡ false
    unfolding crowded
    not_crowded t q = ap (λ b. b && ltb room (cells (header bs).sides)) (sym q) ∙ e

    pub same_verdict : verdict (program_checks room) (bare room bs) ≡ verdict reader_checks full
    unfolding program_checks reader_checks line_check
    same_verdict = go (bad_line bs) refl
      where
        go : (f : Option ℕ) → bad_line bs ≡ f → verdict (program_checks room) (bare room bs) ≡ verdict reader_checks full
        go (Some p) q = fails_at _ _ (bare room bs) p q ∙ sym (fails_at _ _ full p q)
        go None q =
            passes_on _ _ (bare room bs) q ∙ past_lines (sides_fit (header bs).sides) refl (not_crowded (sides_fit (header bs).sides) refl) ∙ sym (passes_on _ _ full q)
