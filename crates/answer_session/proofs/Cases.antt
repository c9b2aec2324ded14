-- Document 01's own example, by the promise of `respond`: with room for 1,000 cells the nine lines stand at the front
-- of the output. Assumes nothing.
use mathlib.Core.Path.{◌≡◌, ap, ◌∙◌}
use mathlib.Core.List.{List}
use Prim.Native.Nat.{ℕ, ◌+◌}
use lib.ListN.{length}
use lib.Seq.{sets}
use Rattle.laws.specs.Text.{text}
use Rattle.method.specs.Program.{program_room, printed, program}
use Rattle.method.proofs.Cases.{example, case_program}
use Rattle.answer_print.specs.Shows.{PutShort}

abbrev nine : List ℕ
nine = text "answer=0\nplace=0\nrounds=1\nworst=0\nworstcell=1\nworstvalue=0\ninterior=1\ndepth=1\ncell=10\ncell=15\ncell=20\n"

module _ (most : ℕ) (old new : List ℕ) (r : ℕ) (z : PutShort most (printed program_room example) old 0 new r) where
  pub nine_lines : new ≡ sets old 0 nine
  unfolding program
  nine_lines = z.puts.is ∙ ap (sets old 0) case_program

  pub nine_lines_long : r ≡ 0 + length nine
  unfolding program
  nine_lines_long = z.puts.next ∙ ap (λ l. 0 + length l) case_program
