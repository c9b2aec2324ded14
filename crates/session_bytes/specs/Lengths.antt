-- Three lines in a row, and how many bytes the lines of a header have.
use Rattle.std.specs.Prelude.{◌≡◌, List, ◌++◌, ℕ, ◌+◌, ◌≤◌, length}
use Rattle.laws.specs.Text.{text}
use Rattle.method.specs.declared.Sides.{Sides}
use Rattle.method.specs.declared.Order.{Order}
use Rattle.method.specs.declared.Settings.{Settings}
use Rattle.method.specs.Numbers.{decimal}
use Rattle.method.specs.Form.{line, order_word, header_written}

pub record ThreeDigits (a b c r : ℕ) : Type 0 where
  pub is : r ≡ length (decimal a) + length (decimal b) + length (decimal c)
  pub few : r ≤ 60

pub record OrderLength (o : Order) (r : ℕ) : Type 0 where
  pub is : r ≡ length (line (text "order=") (order_word o))
  pub few : r ≤ 13

pub record HeaderLength (s : Sides) (o : Order) (t : Settings) (r : ℕ) : Type 0 where
  pub is : r ≡ length (header_written s o t)
  pub few : r ≤ 172

-- three lines of numbers
unfoldable pub three_lines : List ℕ → ℕ → List ℕ → ℕ → List ℕ → ℕ → List ℕ
three_lines a x b y c z = line a (decimal x) ++ line b (decimal y) ++ line c (decimal z)
