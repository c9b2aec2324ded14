-- How many bytes the two lines of an old session have.
use Rattle.std.specs.Prelude.{◌≡◌, ℕ, ◌≤◌, length}
use Rattle.method.specs.declared.Sides.{Sides}
use Rattle.method.specs.OldForm.{old_header_written}

pub record OldHeaderLength (s : Sides) (u r : ℕ) : Type 0 where
  pub is : r ≡ length (old_header_written s u)
  pub few : r ≤ 94
