-- What a session in the new form promises, and what a program that makes it promises.
use Rattle.std.specs.Prelude.{ℕ, ◌≤◌, ◌≡◌, List, length, take}
use Rattle.method.specs.declared.Order.{Order}
use Rattle.method.specs.declared.Settings.{Settings}
use Rattle.method.specs.Rooms.{filled}
use Rattle.method.specs.OldProgram.{renewal}
use Rattle.prints.specs.Prints.{large_room, old_buffer}
use Rattle.session_write.specs.declared.Written.{Written}

-- THE PROMISE of `renew`: the answer, the number of bytes and the final output are those of method's `renewal`, with
-- room for so many cells
pub record RenewOf (room : ℕ) (o : Order) (t : Settings) (bs old : List ℕ) (r : Written) (new : List ℕ) : Type 0 where
  pub answer : r.answer ≡ (renewal room o t bs).answer
  pub count : r.count ≡ length (renewal room o t bs).bytes
  pub output : new ≡ filled (length (renewal room o t bs).bytes) (renewal room o t bs).bytes old

-- THE PROMISE of the program: of every old session whose front was handed in (all of it, where it is no longer)
pub record RenewProgramOf (o : Order) (t : Settings) (front old : List ℕ) (r : Written) (new : List ℕ) : Type 0 where
  pub renews : (bs : List ℕ) → take old_buffer bs ≡ front → RenewOf large_room o t bs old r new
  pub within : r.count ≤ length new
