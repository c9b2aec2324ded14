-- Document 01's own example in the old form, by the promise of `respond_old`: with room for its three cells the
-- program's own lines stand at the front. Assumes nothing.
use mathlib.Core.Path.{◌≡◌, ap, ◌∙◌}
use mathlib.Core.List.{List}
use Prim.Native.Nat.{ℕ}
use lib.Seq.{sets}
use Rattle.method.specs.Program.{program}
use Rattle.method.specs.OldProgram.{old_printed}
use Rattle.method.proofs.Cases.{example}
use Rattle.method.proofs.OldCases.{plain}
use Rattle.method.proofs.OldProgramCases.{old_example, case_old_example}
use Rattle.answer_print.specs.Shows.{PutShort}

pub old_example_lines : (most : ℕ) (old new : List ℕ) (r : ℕ) → PutShort most (old_printed 3 plain old_example) old 0 new r → new ≡ sets old 0 (program example)
old_example_lines most old new r z = z.puts.is ∙ ap (sets old 0) case_old_example
