-- A walk: from an air cell, face step by face step through air, and with the last step into an opening.
use Rattle.std.specs.Prelude.{ℕ, suc, ◌≡◌}
use mathlib.Core.List.{List, Memᴰ}
use Rattle.method.specs.declared.Sides.{Sides}
use Rattle.method.specs.Cast.{label_at, around}

-- j is a face neighbour of i, or the place outside
abbrev pub Beside : Sides → ℕ → ℕ → Type 0
Beside s i j = Memᴰ j (around s i)

pub data Walk (s : Sides) (ls : List ℕ) : ℕ → ℕ → Type 0 where
  last : {i j : ℕ} → label_at ls i ≡ 0 → Beside s i j → label_at ls j ≡ 1 → Walk s ls i 1
  step : {i j k : ℕ} → label_at ls i ≡ 0 → Beside s i j → Walk s ls j k → Walk s ls i (suc k)
