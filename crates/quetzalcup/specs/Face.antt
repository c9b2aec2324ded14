-- What the C interface says differently from the calls behind it: an order is a number, and a need is 0 where there is
-- no cast.
use Rattle.std.specs.Prelude.{◌≡◌, cond, List, ℕ, ltb, ℤ}
use Rattle.method.specs.declared.Sides.{Sides}
use Rattle.method.specs.declared.Settings.{Settings}
use Rattle.method.specs.declared.Order.{Order}
use Rattle.method.specs.declared.Order.TheVariants.{Big, Little}
use Rattle.method.specs.declared.Answer.{Answer}
use Rattle.method.specs.Cast.{cells, sides_fit}
use Rattle.method.specs.Form.{order_of}
use Rattle.method.specs.Answers.{refusal}
use Rattle.method.specs.Reading.{reading}
use Rattle.method.specs.Writing.{writing}
use Rattle.session_write.specs.Writes.{offered}
use Rattle.session_write.specs.declared.Written.{Written}
use Rattle.method.specs.Writing as calls
use Rattle.quetzalcup.specs.declared.Read.{Read}

-- a need by the number of cells; of sides that are out of range, 0
unfoldable pub need_by : (ℕ → ℕ) → Sides → ℕ
need_by need s = cond (sides_fit s) (need (cells s)) 0

-- "Byte order is 0 big, 1 little"
unfoldable pub order_number : Order → ℕ
order_number Big = 0
order_number Little = 1

-- "another is answer 3 of the writer", which checks the sides before the settings
unfoldable pub unordered : Sides → Answer
unordered s = refusal (cond (sides_fit s) 3 1) 0

unfoldable pub written_by : Sides → ℕ → Settings → List ℕ → List ℤ → List ℕ → calls.Written
written_by s n t ls vs old = cond (ltb 1 n) (record { answer = unordered s; count = 0; output = old }) (writing (offered s (order_of n) t ls vs old))

-- THE PROMISE of quetz_read
pub record ReadBack (bytes : List ℕ) (old : List ℤ) (r : Read) (new : List ℤ) : Type 0 where
  pub answer : r.answer ≡ (reading (record { bytes = bytes; values = old })).answer
  pub sides : r.sides ≡ (reading (record { bytes = bytes; values = old })).header.sides
  pub order : r.order ≡ order_number (reading (record { bytes = bytes; values = old })).header.order
  pub settings : r.settings ≡ (reading (record { bytes = bytes; values = old })).header.settings
  pub start : r.start ≡ (reading (record { bytes = bytes; values = old })).start
  pub values : new ≡ (reading (record { bytes = bytes; values = old })).values

-- THE PROMISE of quetz_write
pub record WrittenBy (s : Sides) (n : ℕ) (t : Settings) (ls : List ℕ) (vs : List ℤ) (old : List ℕ) (r : Written) (new : List ℕ) : Type 0 where
  pub answer : r.answer ≡ (written_by s n t ls vs old).answer
  pub count : r.count ≡ (written_by s n t ls vs old).count
  pub output : new ≡ (written_by s n t ls vs old).output
