-- Hand cases of an old session answered directly, and of the same session in the new form: document 01's own example,
-- in its old form. Assumes nothing.
use Prim.Native.Nat.{ℕ}
use mathlib.Core.Path.{◌≡◌, refl, sym, ap, ◌∙◌}
use mathlib.Core.List.{List, [], ◌∷◌, ◌++◌}
use Rattle.laws.specs.Text.{text}
use Rattle.laws.proofs.Table.{Case, AllHold, holds_at}
use Rattle.method.specs.declared.Settings.{Settings}
use Rattle.method.specs.declared.Order.TheVariants.{Big, Little}
use Rattle.method.specs.Answers.{passed, verdict, refusal, done}
use Rattle.method.specs.Form.{header}
use Rattle.method.specs.Solving.{solving}
use Rattle.method.specs.OldForm.{old_header, old_reader_checks}
use Rattle.method.specs.Program.{program_room, program_checks, asked, shown, print, printed, program}
use Rattle.method.specs.OldProgram.{old_taken, old_posed, old_printed, renewal}
use Rattle.method.specs.Computing.{computing}
use Rattle.method.proofs.Cases.{case, example}
use Rattle.method.proofs.OldCases.{plain, smallest}

-- its levels 10 and 20 in units of 10
abbrev pub old_example : List ℕ
old_example = text "size=3x1x1\nunit=10\n" ++ (0 ∷ 1 ∷ 0 ∷ 0 ∷ 0 ∷ 2 ∷ []) ++ (1 ∷ 0 ∷ 1 ∷ [])

-- 7 levels
abbrev pub too_deep : Settings
too_deep = record { tolerance = 0; levels = 7; rounds = 5 }

unfoldable pub table : List Case
table =
    case (verdict old_reader_checks (old_taken 3 plain old_example)) passed
    ∷ case (old_posed (old_header old_example) plain) (asked (header example))
    ∷ case (verdict (program_checks program_room) (record { bytes = example; values = [] })) passed
    ∷ case (old_printed 2 plain old_example) (print (refusal 2 0) [])
    ∷ case (old_printed 3 too_deep old_example) (print (refusal 3 0) [])
    ∷ case (old_printed 3 plain example) (print (refusal 10 1) [])
    ∷ case (old_printed 3 plain smallest) (print (refusal 6 0) [])
    ∷ case (renewal 3 Big plain old_example) (record { answer = done; bytes = example })
    ∷ case (renewal 3 Little too_deep old_example) (record { answer = refusal 3 0; bytes = [] })
    ∷ []

-- THE CLAIM
pub all_old_programs_hold : AllHold table
unfolding table computing old_posed old_printed renewal
all_old_programs_hold = (refl, (refl, (refl, (refl, (refl, (refl, (refl, (refl, (refl, tt)))))))))

-- the print of the old form is the print of the new: the solver is asked the same
pub case_old_example : old_printed 3 plain old_example ≡ program example
unfolding table old_printed printed program
case_old_example =
    let new : program example ≡ shown (solving (asked (header example))) = rw (printed, holds_at table all_old_programs_hold 2) in
    rw (old_printed, holds_at table all_old_programs_hold 0) (ap (λ a. shown (solving a)) (holds_at table all_old_programs_hold 1)) ∙ sym new
