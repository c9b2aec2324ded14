-- Needs by sides in range and out of it; orders and their numbers; what the reader and the writer hand on. Assumes
-- nothing.
use mathlib.Core.Path.{◌≡◌, sym, ap, ◌∙◌}
use mathlib.Core.Bool.{Bool, true, false}
use mathlib.Core.List.{List}
use Prim.Native.Nat.{ℕ, ◌≤◌, ◌<◌}
use native.Mathlib.Omega.{arith}
use borrow.Author.Rules.{rules}
use borrow.Author.Tests.{lt-ltb, le-ltb}
use lib.IntN.{ℤ}
use Rattle.method.specs.declared.Sides.{Sides}
use Rattle.method.specs.declared.Settings.{Settings}
use Rattle.method.specs.declared.Order.{Order}
use Rattle.method.specs.declared.Order.TheVariants.{Big, Little}
use Rattle.method.specs.declared.Answer.{Answer}
use Rattle.method.specs.Cast.{cells, sides_fit}
use Rattle.method.specs.Form.{order_of}
use Rattle.method.specs.Answers.{refusal}
use Rattle.theory.specs.Sides.{Fit}
use Rattle.theory.proofs.Sides.{fit}
use Rattle.grid.proofs.Steps.{cells_most}
use Rattle.session_read.specs.Reads.{ReadOf}
use Rattle.session_write.specs.Writes.{WriteOf}
use Rattle.session_read.specs.declared.Session.{Session}
use Rattle.session_write.specs.declared.Written.{Written}
use Rattle.quetzalcup.specs.Face.{need_by, order_number, unordered, written_by, ReadBack, WrittenBy}

-- ---- sides in range, and out of it
module _ (s : Sides) (w : Bool) (e : w ≡ sides_fit s) where
  pub sides_known : w ≡ true → Fit s
  sides_known t = fit s (sym e ∙ t)

  pub few_cells : (n : ℕ) → w ≡ true → n ≡ cells s → n ≤ 32768
  few_cells n t c = omega (arith, c, cells_most s (sides_known t))

  pub need_fit : (need : ℕ → ℕ) (n m : ℕ) → m ≡ need n → n ≡ cells s → w ≡ true → m ≡ need_by need s
  unfolding need_by
  need_fit need n m q c t = q ∙ ap need c ∙ rw (← e, t)

  pub no_need : (need : ℕ → ℕ) → w ≡ false → 0 ≡ need_by need s
  unfolding need_by
  no_need need t = rw (← e, t)

  pub unordered_fit : (a : Answer) → w ≡ true → a ≡ refusal 3 0 → a ≡ unordered s
  unfolding unordered
  unordered_fit a t f = rw (← e, t, f)

  pub unordered_unfit : (a : Answer) → w ≡ false → a ≡ refusal 1 0 → a ≡ unordered s
  unfolding unordered
  unordered_unfit a t f = rw (← e, t, f)

pub ruleset sides = (rules, sides_known, few_cells, need_fit, no_need, unordered_fit, unordered_unfit)

-- ---- orders and numbers
pub number_big : (o : Order) → o ≡ Big → 0 ≡ order_number o
unfolding order_number
number_big o e = rw e

pub number_little : (o : Order) → o ≡ Little → 1 ≡ order_number o
unfolding order_number
number_little o e = rw e

pub ruleset orders = (rules, number_big, number_little)

-- ---- what is handed on
pub read_back : (bytes : List ℕ) (old new : List ℤ) (r : Session) (n : ℕ) → ReadOf bytes old r new → n ≡ order_number r.order
    → ReadBack bytes old (record { answer = r.answer; sides = r.sides; order = n; settings = r.settings; start = r.start }) new
read_back bytes old new r n z e = record {
  answer = z.answer;
  sides = z.sides;
  order = e ∙ ap order_number z.order;
  settings = z.settings;
  start = z.start;
  values = z.values;
}

module _ (s : Sides) (n : ℕ) (t : Settings) (ls : List ℕ) (vs : List ℤ) (old : List ℕ) where
  pub written_not : (a : Answer) → 1 < n → a ≡ unordered s → WrittenBy s n t ls vs old (record { answer = a; count = 0 }) old
  unfolding written_by
  written_not a h e = record { answer = rw (lt-ltb 1 n h, e); count = rw (lt-ltb 1 n h); output = rw (lt-ltb 1 n h) }

  pub written_so : (r : Written) (new : List ℕ) (o : Order) → n ≤ 1 → o ≡ order_of n → WriteOf s o t ls vs old r new → WrittenBy s n t ls vs old r new
  unfolding written_by
  written_so r new o h e z =
      let q : WriteOf s (order_of n) t ls vs old r new = rw e at z in
      record { answer = rw (le-ltb 1 n h) q.answer; count = rw (le-ltb 1 n h) q.count; output = rw (le-ltb 1 n h) q.output }

pub ruleset handing = (rules, read_back, written_not, written_so)
