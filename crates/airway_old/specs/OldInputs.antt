-- What is promised of an old session that is read from an input.
use Rattle.std.specs.Prelude.{ℕ, ◌≤◌, List, Option, length}
use Rattle.std.specs.Io.KnownBytes.{Consumes}
use Rattle.method.specs.declared.Settings.{Settings}
use Rattle.prints.specs.Prints.{old_buffer}
use Rattle.answer_old_session.specs.OldResponds.{OldProgramOf}

-- THE PROMISE of the program, of an input: a front of what it had left, no longer than the buffer, was taken from it, and
-- every old session of which it is the front is answered
pub record OldAnswerOf (t : Settings) (before after : Option (List ℕ)) (old new : List ℕ) (r : ℕ) : Type 0 where
  pub front : List ℕ
  pub short : length front ≤ old_buffer
  pub taken : Consumes before after front
  pub answers : OldProgramOf t front old new r
