-- What is promised of an old session that is read from an input.
use Rattle.std.specs.Prelude.{ℕ, ◌≤◌, List, Option, length}
use Rattle.std.specs.Io.KnownBytes.{Consumes}
use Rattle.method.specs.declared.Order.{Order}
use Rattle.method.specs.declared.Settings.{Settings}
use Rattle.prints.specs.Prints.{old_buffer}
use Rattle.session_write.specs.declared.Written.{Written}
use Rattle.renew.specs.Renews.{RenewProgramOf}

-- THE PROMISE of the program, of an input: a front of what it had left, no longer than the buffer, was taken from it, and
-- every old session of which it is the front is written in the new form, or refused
pub record RenewedFrom (o : Order) (t : Settings) (before after : Option (List ℕ)) (old : List ℕ) (r : Written) (new : List ℕ) : Type 0 where
  pub front : List ℕ
  pub short : length front ≤ old_buffer
  pub taken : Consumes before after front
  pub renews : RenewProgramOf o t front old r new
