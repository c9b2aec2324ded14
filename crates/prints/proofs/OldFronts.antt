-- The front of a long old session decides what is printed of it, and what it is in the new form: its two lines have at
-- most 42 bytes, and a body of more than 3 bytes for each cell of the greatest cast is not 3 bytes a cell. Assumes
-- nothing.
use mathlib.Core.Path.{◌≡◌, refl, sym, ap, ◌∙◌}
use mathlib.Core.Bool.{Bool, true, false}
use mathlib.Core.List.{List, [], ◌++◌}
use mathlib.Core.Logic.{⊎_elim}
use Prim.Native.Nat.{ℕ, ◌+◌, ◌*◌, ◌≤◌}
use native.Mathlib.Nat.{mul-le-mul}
use native.Mathlib.Omega.{arith}
use borrow.Author.Tests.{ne_eqb}
use lib.ListN.{length, take, drop, length-append, take-append-drop}
use lib.Seq.{take_all, length-take-le}
use Rattle.laws.specs.Text.{text}
use Rattle.laws.proofs.Naturals.{le_or_lt}
use Rattle.method.specs.declared.Sides.{Sides}
use Rattle.method.specs.declared.Settings.{Settings}
use Rattle.method.specs.declared.Order.{Order}
use Rattle.std.specs.Prelude.{Option, None, Some}
use Rattle.method.specs.Cast.{cells, sides_fit}
use Rattle.method.specs.Numbers.{last_digit, spelled, decimal}
use Rattle.method.specs.Form.{line, Lines, wrong, right, read_lines}
use Rattle.method.specs.Answers.{Verdict, passed, refused, verdict, refusal}
use Rattle.method.specs.Solving.{solving}
use Rattle.method.specs.Program.{print, shown}
use Rattle.method.specs.OldForm.{old_parts, old_header_of, old_header, old_wrong_line, old_bad_line, size_word, old_header_written, old_line_check, old_side_check, old_body_check, old_reader_checks}
use Rattle.method.specs.OldProgram.{old_taken, old_posed, old_printed, Renewal, renewal}
use Rattle.theory.proofs.Sides.{fit}
use Rattle.theory.proofs.Verdicts.{fails_at, passes_on, fault_no, fault_yes}
use Rattle.prints.specs.Prints.{large_room, longest_old_header, old_buffer}
use Rattle.prints.proofs.Fronts.{lines_on, Fronts, end, next, to_front, lines_on_lem, Left, lines_left, not_nowhere, large_room_lem}

-- ---- the four numbers of the two lines
four : Fronts old_parts 42
unfolding old_parts
four = next (to_front 120 (text "size=")) (next (to_front 120 []) (next (to_front 10 []) (next (to_front 10 (text "unit=")) end)))

sides_on : (tail : List ℕ) (ls : Lines) → (old_header_of (lines_on tail ls)).sides ≡ (old_header_of ls).sides
unfolding old_header_of
sides_on tail (wrong k) = refl
sides_on tail (right vs rest) = refl

wrong_on : (tail : List ℕ) (ls : Lines) → old_wrong_line (lines_on tail ls) ≡ old_wrong_line ls
unfolding old_wrong_line
wrong_on tail (wrong k) = refl
wrong_on tail (right vs rest) = refl

body_left : (m : ℕ) (ls : Lines) → Left m ls → old_wrong_line ls ≡ None → m ≤ length (old_header_of ls).body
unfolding old_wrong_line old_header_of
body_left m (wrong k) h e = absurd (not_nowhere refl e)
body_left m (right vs rest) h e = h

body_long : (bs : List ℕ) (m : ℕ) → m + 42 ≤ length bs → old_bad_line bs ≡ None → m ≤ length (old_header bs).body
unfolding old_bad_line old_header
body_long bs m h e = body_left m (read_lines 1 old_parts bs) (lines_left 1 42 old_parts four bs m h) e

module _ (bs tail : List ℕ) (h : 42 ≤ length bs) where
  same_line : old_bad_line (bs ++ tail) ≡ old_bad_line bs
  unfolding old_bad_line
  same_line = ap old_wrong_line (lines_on_lem 1 42 old_parts four bs tail h) ∙ wrong_on tail (read_lines 1 old_parts bs)

  same_sides : (old_header (bs ++ tail)).sides ≡ (old_header bs).sides
  unfolding old_header
  same_sides = ap (λ ls. (old_header_of ls).sides) (lines_on_lem 1 42 old_parts four bs tail h) ∙ sides_on tail (read_lines 1 old_parts bs)

-- ---- sides in range have no more cells than the greatest cast
pub cells_most : (s : Sides) → sides_fit s ≡ true → cells s ≤ large_room
unfolding cells
cells_most s e = let f = fit s e in omega (arith, large_room_lem, mul-le-mul f.nx_32 (mul-le-mul f.ny_32 f.nz_32))

-- ---- the verdict on a long input: 10, 1 or 11
abbrev early : Option ℕ → Bool → Verdict
early (Some p) t = refused 10 p
early None false = refused 1 0
early None true = refused 11 0

module _ (room : ℕ) (t : Settings) where
  verdict_long : (bs : List ℕ) → 3 * large_room + 1 + 42 ≤ length bs → (f : Option ℕ) (w : Bool) → old_bad_line bs ≡ f → sides_fit (old_header bs).sides ≡ w
      → verdict old_reader_checks (old_taken room t bs) ≡ early f w
  unfolding old_reader_checks old_line_check old_side_check old_body_check
  verdict_long bs h (Some p) w x y = fails_at _ _ (old_taken room t bs) p x
  verdict_long bs h None false x y = passes_on _ _ (old_taken room t bs) x ∙ fails_at _ _ (old_taken room t bs) 0 (fault_yes _ y)
  verdict_long bs h None true x y =
      passes_on _ _ (old_taken room t bs) x ∙ passes_on _ _ (old_taken room t bs) (fault_no _ y)
      ∙ fails_at _ _ (old_taken room t bs) 0 (fault_yes _ (ne_eqb (length (old_header bs).body) (3 * cells (old_header bs).sides) longer))
    where
      longer : length (old_header bs).body ≡ 3 * cells (old_header bs).sides → ⊥
      longer e = omega (arith, body_long bs (3 * large_room + 1) h x, cells_most (old_header bs).sides y)

  -- what is printed, by the verdict
  pub old_printed_refused : (bs : List ℕ) (num place : ℕ) → verdict old_reader_checks (old_taken room t bs) ≡ refused num place → old_printed room t bs ≡ print (refusal num place) []
  unfolding old_printed
  old_printed_refused bs num place e = rw (old_printed, e)

  pub old_printed_passed : (bs : List ℕ) → verdict old_reader_checks (old_taken room t bs) ≡ passed → old_printed room t bs ≡ shown (solving (old_posed (old_header bs) t))
  unfolding old_printed
  old_printed_passed bs e = rw (old_printed, e)

  -- and what is written anew
  abbrev pub unrenewed : ℕ → ℕ → Renewal
  unrenewed num place = record { answer = refusal num place; bytes = [] }

  pub renewal_refused : (o : Order) (bs : List ℕ) (num place : ℕ) → verdict old_reader_checks (old_taken room t bs) ≡ refused num place → renewal room o t bs ≡ unrenewed num place
  unfolding renewal
  renewal_refused o bs num place e = rw (renewal, e)

  module _ (bs cs : List ℕ) where
    -- sessions that are refused alike are answered alike
    early_same : (f : Option ℕ) (w : Bool) → verdict old_reader_checks (old_taken room t bs) ≡ early f w → verdict old_reader_checks (old_taken room t cs) ≡ early f w
        → (old_printed room t bs ≡ old_printed room t cs) × ((o : Order) → renewal room o t bs ≡ renewal room o t cs)
    early_same (Some p) w x y = (old_printed_refused bs 10 p x ∙ sym (old_printed_refused cs 10 p y), λ o. renewal_refused o bs 10 p x ∙ sym (renewal_refused o cs 10 p y))
    early_same None false x y = (old_printed_refused bs 1 0 x ∙ sym (old_printed_refused cs 1 0 y), λ o. renewal_refused o bs 1 0 x ∙ sym (renewal_refused o cs 1 0 y))
    early_same None true x y = (old_printed_refused bs 11 0 x ∙ sym (old_printed_refused cs 11 0 y), λ o. renewal_refused o bs 11 0 x ∙ sym (renewal_refused o cs 11 0 y))

  -- THE FRONT DECIDES
  old_front_decides : (bs tail : List ℕ) → 3 * large_room + 1 + 42 ≤ length bs
      → (old_printed room t (bs ++ tail) ≡ old_printed room t bs) × ((o : Order) → renewal room o t (bs ++ tail) ≡ renewal room o t bs)
  old_front_decides bs tail h =
      let l : 42 ≤ length bs = omega arith in
      early_same (bs ++ tail) bs (old_bad_line bs) (sides_fit (old_header bs).sides)
      (verdict_long (bs ++ tail) (omega (arith, length-append bs tail)) (old_bad_line bs) (sides_fit (old_header bs).sides) (same_line bs tail l) (ap sides_fit (same_sides bs tail l)))
      (verdict_long bs h (old_bad_line bs) (sides_fit (old_header bs).sides) refl refl)

-- ---- the buffer
old_header_room : length longest_old_header ≡ 42
unfolding longest_old_header old_header_written size_word line decimal spelled last_digit
old_header_room = refl

pub old_buffer_lem : old_buffer ≡ 3 * large_room + 43
unfolding old_buffer
old_buffer_lem = omega (arith, old_header_room)

module _ (room : ℕ) (t : Settings) (bs : List ℕ) where
  old_front_is_enough : (old_printed room t (take old_buffer bs) ≡ old_printed room t bs) × ((o : Order) → renewal room o t (take old_buffer bs) ≡ renewal room o t bs)
  old_front_is_enough = ⊎_elim
      (λ l. let d = old_front_decides room t (take old_buffer bs) (drop old_buffer bs) (omega (arith, old_buffer_lem, length-take-le old_buffer bs l)) in
      (sym d.0 ∙ ap (old_printed room t) (take-append-drop old_buffer bs), λ o. sym (d.1 o) ∙ ap (renewal room o t) (take-append-drop old_buffer bs)))
      (λ l. let e = take_all old_buffer bs (omega arith) in (ap (old_printed room t) e, λ o. ap (renewal room o t) e))
      (le_or_lt old_buffer (length bs))

  -- an old session is known by its front
  pub old_front_prints : (front : List ℕ) → take old_buffer bs ≡ front → old_printed room t front ≡ old_printed room t bs
  old_front_prints front e = ap (old_printed room t) (sym e) ∙ old_front_is_enough.0

  pub old_front_renews : (o : Order) (front : List ℕ) → take old_buffer bs ≡ front → renewal room o t front ≡ renewal room o t bs
  old_front_renews o front e = ap (renewal room o t) (sym e) ∙ old_front_is_enough.1 o
