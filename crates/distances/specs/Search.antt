-- The search for distances, as a program on lists: a room of marks and a queue, from the openings outwards.
use Rattle.std.specs.Prelude.{ℕ, suc, Option, None, Some, ◌+◌, ◌-◌, ◌<◌, ◌≤◌, max, ◌≡◌, Bool, cond, ◌&&◌, List, [], ◌∷◌, ltb, eqb, length, get_or, set}
use Rattle.laws.specs.Loops.{up}
use Rattle.laws.specs.Lists.{over}
use Rattle.method.specs.declared.Sides.{Sides}
use Rattle.method.specs.Cast.{Axis, cells, is_air, is_opening, back, on, around}
use Rattle.method.specs.Walks.{depth, sealed}
use Rattle.distances.specs.declared.Walked.{Walked}
use Rattle.theory.specs.Sides.{Fit}
use Rattle.theory.specs.Totals.{total, one_if}

-- The marks of the n cells, the queue after them, and the number of cells in the queue.
pub record Queue : Type 0 where
  pub room : List ℕ
  pub tail : ℕ

abbrev pub queue : List ℕ → ℕ → Queue
queue room tail = record { room = room; tail = tail }

-- the mark of a cell: 0, or one more than its distance
abbrev pub mark : Queue → ℕ → ℕ
mark q c = get_or q.room c 0

-- the k-th cell of the queue
abbrev pub entry : ℕ → Queue → ℕ → ℕ
entry n q k = get_or q.room (n + k) 0

-- cell j enters the queue with the mark v
abbrev pub put : ℕ → ℕ → ℕ → Queue → Queue
put n v j q = record { room = set (set q.room j v) (n + q.tail) j; tail = q.tail + 1 }

-- cell j, reached from a mark m, enters the queue where it has no mark yet
unfoldable pub reach : ℕ → ℕ → ℕ → Queue → Queue
reach n m j q = cond (eqb (mark q j) 0) (put n (m + 1) j q) q

-- the air cells of a list of neighbours are reached from a mark m
abbrev pub reach_all : ℕ → (ℕ → Bool) → ℕ → List ℕ → Queue → Queue
reach_all n air m js q = over air (reach n m) js q

-- a turn of the search: from the head of the queue, where there is one, its neighbours are reached
unfoldable pub turn : ℕ → (ℕ → Bool) → (ℕ → List ℕ) → ℕ → Queue → Queue
turn n air near head q =
    cond (ltb head q.tail) (reach_all n air (mark q (entry n q head)) (near (entry n q head)) q) q

-- an opening enters the queue with the mark 1
unfoldable pub start : ℕ → (ℕ → Bool) → ℕ → Queue → Queue
start n opening i q = cond (opening i) (reach n 0 i q) q

abbrev pub cleared : ℕ → List ℕ → List ℕ
cleared i room = set room i 0

-- all: no marks, then the openings, then from each cell of the queue on
unfoldable pub started : ℕ → (ℕ → Bool) → List ℕ → Queue
started n opening room = up (start n opening) n (queue (up cleared n room) 0)

unfoldable pub searched : Sides → List ℕ → List ℕ → Queue
searched s ls room = up (turn (cells s) (is_air ls) (around s)) (cells s) (started (cells s) (is_opening ls) room)

-- the mark of a distance
unfoldable pub mark_of : Option ℕ → ℕ
mark_of None = 0
mark_of (Some d) = suc d

-- ---- what the marks give
unfoldable pub deeper : List ℕ → List ℕ → ℕ → ℕ → ℕ
deeper ls room c d = cond (is_air ls c) (max d (get_or room c 0 - 1)) d

unfoldable pub lost : List ℕ → List ℕ → ℕ → Bool
lost ls room c = is_air ls c && eqb (get_or room c 0) 0

-- ---- what the stores of the search rest on
-- Cells and queue fit the room, the queue holds cells, no mark is above the number of cells in the queue, and the queue
-- has no more cells than are marked, so an unmarked cell has a place in it.
pub record Safe (n : ℕ) (q : Queue) : Type 0 where
  pub few : n ≤ 32768
  pub long : n + n ≤ length q.room
  pub inside : (k : ℕ) → k < q.tail → entry n q k < n
  pub low : (c : ℕ) → c < n → mark q c ≤ q.tail
  pub free : q.tail + total n (λ c. one_if (eqb (mark q c) 0)) ≤ n

-- what a step of the search promises: the queue that its definition makes of q, safe again, and none of it lost
pub record Moved (n : ℕ) (q want got : Queue) : Type 0 where
  pub is : got ≡ want
  pub safe : Safe n got
  pub grows : q.tail ≤ got.tail

-- reached from a mark m, the neighbours js enter the queue where they are air and have no mark yet
abbrev pub Reaches : List ℕ → ℕ → List ℕ → Queue → Queue → Type 0
Reaches ls m js q got = Moved (length ls) q (reach_all (length ls) (is_air ls) m js q) got

-- the two neighbours along an axis
abbrev pub sideways : ℕ → Axis → ℕ → List ℕ
sideways n a c = back n a c ∷ on n a c ∷ []

-- a step of the search on a box: its sides fit, it has a label for each cell, and the queue is safe
pub record Held (s : Sides) (ls : List ℕ) (q : Queue) : Type 0 where
  pub fit : Fit s
  pub sized : length ls ≡ cells s
  pub safe : Safe (cells s) q

-- a room for the search of a box
pub record Roomy (s : Sides) (ls : List ℕ) (room : List ℕ) : Type 0 where
  pub fit : Fit s
  pub sized : length ls ≡ cells s
  pub long : cells s + cells s ≤ length room

-- THE PROMISE of the search: depth and the first sealed cell are the meaning's, and the room ends as `searched` says
pub record Measured (s : Sides) (ls room₀ room : List ℕ) (r : Walked) : Type 0 where
  pub depth_is : r.depth ≡ depth s ls
  pub sealed_is : r.sealed ≡ sealed s ls
  pub room_is : room ≡ (searched s ls room₀).room
