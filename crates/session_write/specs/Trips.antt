-- What a round trip by the code gives back.
use Rattle.std.specs.Prelude.{ℕ, ◌≡◌, List, ◌++◌, ℤ, length, take, drop}
use Rattle.method.specs.declared.Sides.{Sides}
use Rattle.method.specs.declared.Order.{Order}
use Rattle.method.specs.declared.Settings.{Settings}
use Rattle.method.specs.Cast.{cells}
use Rattle.method.specs.Answers.{done}
use Rattle.session_read.specs.declared.Session.{Session}
use Rattle.session_write.specs.declared.Written.{Written}

-- the session that was written: handed back by `read` (r), found by `labels`, stored in the values that were lent
pub record SameSession (s : Sides) (o : Order) (t : Settings) (ls : List ℕ) (vs lent : List ℤ) (r : Session) (found : List ℕ) (stored : List ℤ) : Type 0 where
  pub answer : r.answer ≡ done
  pub sides : r.sides ≡ s
  pub order : r.order ≡ o
  pub settings : r.settings ≡ t
  pub labels : found ≡ ls
  pub values : stored ≡ vs ++ drop (cells s) lent

-- the bytes that were read: left by `write` at the front of the output that was lent, and so many
pub record SameBytes (bs lent : List ℕ) (r : Written) (left : List ℕ) : Type 0 where
  pub answer : r.answer ≡ done
  pub count : r.count ≡ length bs
  pub output : left ≡ bs ++ drop (length bs) lent
  pub front : take r.count left ≡ bs
