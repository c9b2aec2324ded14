-- What an accepted answer says of the cast and of the pressures handed back, and what answer 7 says of its place.
use Rattle.std.specs.Prelude.{ℕ, ◌^◌, ◌<◌, ◌≤◌, ◌≡◌, List, length, ℤ, pos, nat_abs}
use Rattle.method.specs.Cast.{label_at, field, residual, interior}
use Rattle.method.specs.Solving.{Asked, solved_cast, size, Solved}
use Rattle.theory.specs.Walks.{Walk}

-- the label of a cell, and the exact residual that pressures leave there
abbrev pub label : Asked → ℕ → ℕ
label a c = label_at (solved_cast a).labels c

abbrev pub left : Asked → List ℤ → ℕ → ℤ
left a ps c = residual (solved_cast a).sides (solved_cast a).labels (field (solved_cast a).values) (field ps) c

-- d is the least number of face steps through air from cell c to an opening
pub record Away (a : Asked) (c d : ℕ) : Type 0 where
  pub walk : Walk (solved_cast a).sides (solved_cast a).labels c d
  pub least : (e : ℕ) → Walk (solved_cast a).sides (solved_cast a).labels c e → d ≤ e

-- of what solving gives where its number is 0
pub record Accepted (a : Asked) (r : Solved) : Type 0 where
  -- worst is the greatest absolute residual of the pressures handed back, and at most the tolerance
  pub worst_all : (c : ℕ) → label a c ≡ 0 → nat_abs (left a r.pressures c) ≤ r.answer.worst
  pub worst_one : (c : ℕ) × (label a c ≡ 0) × (nat_abs (left a r.pressures c) ≡ r.answer.worst)
  pub worst_fits : r.answer.worst ≤ a.settings.tolerance
  -- worstcell is an air cell, worstvalue the exact residual there, of that size; no air cell before it has that size
  pub worst_cell_is_air : label a r.answer.worstcell ≡ 0
  pub worst_value_is_left : r.answer.worstvalue ≡ left a r.pressures r.answer.worstcell
  pub worst_size : nat_abs r.answer.worstvalue ≡ r.answer.worst
  pub worst_first : (c : ℕ) → c < r.answer.worstcell → label a c ≡ 0 → nat_abs (left a r.pressures c) < r.answer.worst
  -- interior is the number of air cells
  pub interior_is : r.answer.interior ≡ interior (solved_cast a).sides (solved_cast a).labels
  -- depth is the greatest least walk
  pub depth_all : (c : ℕ) → label a c ≡ 0 → (d : ℕ) × Away a c d × (d ≤ r.answer.depth)
  pub depth_one : (c : ℕ) × (label a c ≡ 0) × Away a c r.answer.depth
  -- pressures: one a cell, the levels at openings, 0 at walls, within ±2^41 in air
  pub one_a_cell : length r.pressures ≡ size a
  pub at_openings : (c : ℕ) → label a c ≡ 1 → field r.pressures c ≡ field (solved_cast a).values c
  pub at_walls : (c : ℕ) → 2 ≤ label a c → field r.pressures c ≡ pos 0
  pub at_air : (c : ℕ) → label a c ≡ 0 → nat_abs (field r.pressures c) ≤ 2 ^ 41

-- the place of answer 7: the least air cell with no walk of any length
pub record CutOff (a : Asked) (place : ℕ) : Type 0 where
  pub air : label a place ≡ 0
  pub no_walk : (e : ℕ) → Walk (solved_cast a).sides (solved_cast a).labels place e → ⊥
  pub before : (c : ℕ) → c < place → label a c ≡ 0 → (d : ℕ) × Away a c d
