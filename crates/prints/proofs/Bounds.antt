-- QUESTION 3 of the print: the numbers in the lines that the program prints keep the bound. Assumes nothing.
use mathlib.Core.Path.{◌≡◌, sym, ap, ◌∙◌}
use mathlib.Core.List.{List, []}
use Prim.Native.Nat.{ℕ, ◌≤◌}
use native.Mathlib.Omega.{arith}
use lib.IntN.{ℤ, pos, nat_abs}
use Rattle.laws.specs.Whole.{◌-ᶻ◌, ◌*ᶻ◌}
use Rattle.method.specs.declared.Answer.{Answer}
use Rattle.method.specs.Cast.{label_at, field}
use Rattle.method.specs.Form.{header, labels_in, cast_in}
use Rattle.method.specs.Answers.{refusal}
use Rattle.method.specs.Solving.{solving}
use Rattle.method.specs.Reading.{line_check, side_check, body_check, content_checks}
use Rattle.method.specs.Program.{program_room, program_checks, print, asked, shown, program}
use Rattle.theory.specs.Exact.{Solves, bound}
use Rattle.theory.proofs.Verdicts.{Judged, fine, faulty, judge}
use Rattle.theory.proofs.Question3.{question_3}
use Rattle.prints.proofs.Rules.{bare, printed_refused, printed_passed}
use Rattle.prints.proofs.Told.{print_answer, print_pressures}

-- an accepted answer that is printed is the solver's, and so are its pressures
pub record IsSolved (bs : List ℕ) (a : Answer) (ps : List ℤ) : Type 0 where
  pub answer : a ≡ (solving (asked (header bs))).answer
  pub pressures : ps ≡ (solving (asked (header bs))).pressures

module _ (bs : List ℕ) (a : Answer) (ps : List ℤ) (e : program bs ≡ print a ps) (z : a.number ≡ 0) where
  pub print_solved : IsSolved bs a ps
  unfolding program shown refusal program_checks line_check side_check body_check content_checks
  print_solved = go (judge (program_checks program_room) (bare program_room bs))
    where
      go : Judged (program_checks program_room) (bare program_room bs) → IsSolved bs a ps
      go (fine v p) =
          let s = solving (asked (header bs)) in
          let q : print a ps ≡ print s.answer s.pressures = sym e ∙ printed_passed program_room bs v in
          record { answer = print_answer a s.answer ps s.pressures q; pressures = print_pressures a s.answer ps s.pressures q z }
      go (faulty num place v f) =
          let q : print a ps ≡ print (refusal num place) [] = sym e ∙ printed_refused program_room bs num place v in
          absurd (omega (arith, z, ap (λ r. r.number) (print_answer a (refusal num place) ps [] q), (f 1 11 (omega arith)).0))

  -- |m·pressure − y| ≤ m · worst · interior · depth, all as printed, for the cast that the input names
  pub question_3_print : (m : ℕ) → 1 ≤ m → (y : ℕ → ℤ) → Solves (cast_in (header bs)) m y → (c : ℕ) → label_at (labels_in (header bs)) c ≡ 0
      → nat_abs (pos m *ᶻ field ps c -ᶻ y c) ≤ bound m a.worst a.interior a.depth
  unfolding asked cast_in
  question_3_print m l y s c h =
      let zero : (solving (asked (header bs))).answer.number ≡ 0 = sym (ap (λ r. r.number) print_solved.answer) ∙ z in
      rw (print_solved.answer, print_solved.pressures) (question_3 (asked (header bs)) zero m l y s c h)
