-- What is promised of an input that is read.
use Rattle.std.specs.Prelude.{ℕ, ◌≤◌, ◌≡◌, List, Option, length, take}
use Rattle.std.specs.Io.KnownBytes.{Appends, Consumes}
use Rattle.method.specs.Program.{printed}
use Rattle.prints.specs.Prints.{buffer_for}
use Rattle.answer_session.specs.Responds.{FrontOf}

-- THE PROMISE of a program with room for so many cells, of an input: a front of what it had left, no longer than the
-- buffer, was taken from it, and every session of which it is the front is answered
pub record AnswerOf (room : ℕ) (before after : Option (List ℕ)) (old new : List ℕ) (r : ℕ) : Type 0 where
  pub front : List ℕ
  pub short : length front ≤ buffer_for room
  pub taken : Consumes before after front
  pub answers : FrontOf room front old new r

-- THE PROMISE of its run: just the print that is due to every such session was added to the output
pub record RunOf (room : ℕ) (before after old new : Option (List ℕ)) : Type 0 where
  pub front : List ℕ
  pub short : length front ≤ buffer_for room
  pub taken : Consumes before after front
  pub prints : (bs : List ℕ) → take (buffer_for room) bs ≡ front → Appends old new (printed room bs)
