-- What the branches and loops of the search's code come to. Assumes nothing.
use Prim.Native.Nat.{ℕ, zero, suc, ◌+◌, ◌-◌, ◌<◌, ◌≤◌, max}
use mathlib.Core.Path.{◌≡◌, refl, sym, ap, ap₂, subst, ◌∙◌}
use mathlib.Core.Logic.{⊎_elim}
use mathlib.Core.Bool.{Bool, true, false, cond, ◌&&◌}
use mathlib.Core.List.{List, [], ◌∷◌}
use native.Mathlib.Nat.{le_of_suc-le-suc, eq-or-lt_of_le}
use native.Mathlib.Omega.{arith}
use lib.Dec.{eqb}
use lib.ListN.{length, get_or, length-set, get_or-eq_default}
use lib.Seq.{get_or-set_same, get_or-set_other}
use mir.Syntax.{w64}
use mir.Val.{Fits}
use borrow.Author.Rules.{rules}
use borrow.Author.Tests.{eq-eqb, ne_eqb, lt-ltb, le-ltb}
use Rattle.laws.specs.Loops.{up}
use Rattle.laws.specs.Lists.{over}
use Rattle.laws.proofs.Lists.{get_or_any}
use Rattle.laws.proofs.Loops.{Up, up_none, up_more, up_end}
use Rattle.method.specs.declared.Sides.{Sides}
use Rattle.method.specs.Cast.{Axis, cells, axes, label_at, is_air, is_opening, back, on, beside, around}
use Rattle.method.specs.Rooms as answers
use Rattle.theory.specs.Sides.{x_axis, y_axis, z_axis}
use Rattle.theory.proofs.Counting.{count_le}
use Rattle.rooms.proofs.Clears.{zeroed_is}
use Rattle.grid.proofs.Steps.{air_yes, air_no, plane_pos, plane_most, plane_fits, cells_most}
use Rattle.distances.specs.Search.{Queue, queue, mark, entry, reach, reach_all, sideways, turn, start, cleared, started, searched, deeper, lost, Safe, Moved, Reaches, Held, Roomy}
use Rattle.distances.proofs.SearchSafe.{moved_put, moved_keep, place_in}

-- ---- labels
module _ (ls : List ℕ) (j : ℕ) where
  air_out : length ls ≤ j → is_air ls j ≡ false
  unfolding is_air label_at
  air_out l = ne_eqb (get_or ls j 2) 0 (λ z. omega (arith, get_or-eq_default ls 2 {n = j} l))

  open_yes : j < length ls → get_or ls j 0 ≡ 1 → is_opening ls j ≡ true
  unfolding is_opening label_at
  open_yes l e = eq-eqb (get_or ls j 2) 1 (get_or_any ls j 2 0 l ∙ e)

  open_no : j < length ls → (get_or ls j 0 ≡ 1 → ⊥) → is_opening ls j ≡ false
  unfolding is_opening label_at
  open_no l e = ne_eqb (get_or ls j 2) 1 (λ z. e (get_or_any ls j 0 2 l ∙ z))

-- ---- what is moved
at_want : {n : ℕ} {q want got : Queue} {want' : Queue} → want ≡ want' → Moved n q want got → Moved n q want' got
at_want e h = record { is = h.is ∙ e; safe = h.safe; grows = h.grows }

stand : {n : ℕ} {q want : Queue} → Safe n q → q ≡ want → Moved n q want q
stand s e = record { is = e; safe = s; grows = omega arith }

-- a neighbour, by its label
module _ (ls : List ℕ) (j m : ℕ) (q : Queue) where
  one_air : is_air ls j ≡ true → reach (length ls) m j q ≡ reach_all (length ls) (is_air ls) m (j ∷ []) q
  unfolding over
  one_air e = sym (ap (λ b. cond b (reach (length ls) m j q) q) e)

  one_not : is_air ls j ≡ false → q ≡ reach_all (length ls) (is_air ls) m (j ∷ []) q
  unfolding over
  one_not e = sym (ap (λ b. cond b (reach (length ls) m j q) q) e)

  pub moved_air : (got : Queue) → j < length ls → get_or ls j 0 ≡ 0 → Moved (length ls) q (reach (length ls) m j q) got
      → Reaches ls m (j ∷ []) q got
  moved_air got l e h = at_want (one_air (air_yes ls j l e)) h

  pub moved_not : j < length ls → (get_or ls j 0 ≡ 0 → ⊥) → Safe (length ls) q → Reaches ls m (j ∷ []) q q
  moved_not l e s = stand s (one_not (air_no ls j l e))

  pub moved_out : length ls ≤ j → Safe (length ls) q → Reaches ls m (j ∷ []) q q
  moved_out l s = stand s (one_not (air_out ls j l))

  pub moved_open : (got : Queue) → j < length ls → get_or ls j 0 ≡ 1 → Moved (length ls) q (reach (length ls) 0 j q) got
      → Moved (length ls) q (start (length ls) (is_opening ls) j q) got
  unfolding start
  moved_open got l e h = at_want (sym (ap (λ b. cond b (reach (length ls) 0 j q) q) (open_yes ls j l e))) h

  pub moved_shut : j < length ls → (get_or ls j 0 ≡ 1 → ⊥) → Safe (length ls) q → Moved (length ls) q (start (length ls) (is_opening ls) j q) q
  unfolding start
  moved_shut l e s = stand s (sym (ap (λ b. cond b (reach (length ls) 0 j q) q) (open_no ls j l e)))

pub ruleset airs = (rules, moved_put, moved_keep, place_in, moved_air, moved_not, moved_out, moved_open, moved_shut)

-- one after the other
then : (n : ℕ) (air : ℕ → Bool) (m : ℕ) (js ks : List ℕ) (q p r : Queue) → Moved n q (reach_all n air m js q) p → Moved n p (reach_all n air m ks p) r
    → Moved n q (reach_all n air m ks (reach_all n air m js q)) r
then n air m js ks q p r a b = record { is = b.is ∙ ap (reach_all n air m ks) a.is; safe = b.safe; grows = omega (arith, a.grows, b.grows) }

pub moved_along : (n : ℕ) (air : ℕ → Bool) (m a b c : ℕ) (x : Axis) (q p r : Queue) → a ≡ back n x c → b ≡ on n x c
    → Moved n q (reach_all n air m (a ∷ []) q) p → Moved n p (reach_all n air m (b ∷ []) p) r → Moved n q (reach_all n air m (sideways n x c) q) r
unfolding over
moved_along n air m a b c x q p r e f h k = at_want same (then n air m (a ∷ []) (b ∷ []) q p r h k)
  where
    same : reach_all n air m (b ∷ []) (reach_all n air m (a ∷ []) q) ≡ reach_all n air m (sideways n x c) q
    same = ap₂ (λ a b. reach_all n air m (b ∷ []) (reach_all n air m (a ∷ []) q)) e f

pub ruleset alongs = (rules, moved_along)

-- ---- a box
pub held_safe : (s : Sides) (ls : List ℕ) (q : Queue) → Held s ls q → Safe (length ls) q
held_safe s ls q h = subst (λ n. Safe n q) (sym h.sized) h.safe

six : (n : ℕ) (s : Sides) (air : ℕ → Bool) (m c : ℕ) (q : Queue) → n ≡ cells s →
    reach_all n air m (sideways n (z_axis s) c)
    (reach_all n air m (sideways n (y_axis s) c) (reach_all n air m (sideways n (x_axis s) c) q))
    ≡ reach_all (cells s) air m (around s c) q
unfolding over around axes beside
six n s air m c q e = rw e

pub moved_six : (s : Sides) (ls : List ℕ) (m c : ℕ) (q x y r : Queue) → length ls ≡ cells s
    → Reaches ls m (sideways (length ls) (x_axis s) c) q x
    → Reaches ls m (sideways (length ls) (y_axis s) c) x y
    → Reaches ls m (sideways (length ls) (z_axis s) c) y r
    → Moved (cells s) q (reach_all (cells s) (is_air ls) m (around s c) q) r
moved_six s ls m c q x y r e a b d = record {
  is = d.is ∙ ap (reach_all (length ls) (is_air ls) m (sideways (length ls) (z_axis s) c))
      (b.is ∙ ap (reach_all (length ls) (is_air ls) m (sideways (length ls) (y_axis s) c)) a.is) ∙ six (length ls) s (is_air ls) m c q e;
  safe = subst (λ n. Safe n r) e d.safe;
  grows = omega (arith, a.grows, b.grows, d.grows);
}

pub moved_safe : {n : ℕ} {q want got : Queue} → Moved n q want got → Safe n got
moved_safe h = h.safe

pub ruleset boxes = (rules, moved_safe, plane_pos, plane_most, plane_fits, held_safe, moved_six)

-- ---- a turn
module _ (s : Sides) (ls room : List ℕ) (head tail : ℕ) (h : Held s ls (queue room tail)) (l : head < tail) where
  pub head_cell : get_or room (length ls + head) 0 < cells s
  head_cell = rw h.sized (h.safe.inside head l)

  pub head_mark : get_or room (get_or room (length ls + head) 0) 0 ≤ tail
  head_mark = h.safe.low (get_or room (length ls + head) 0) head_cell

  pub head_fits : Fits w64 (get_or room (length ls + head) 0)
  head_fits = omega (arith, head_cell, h.safe.few)

  pub head_room : get_or room (length ls + head) 0 < length room
  head_room = omega (arith, head_cell, h.safe.long)

  pub moved_head : (got : Queue)
      → Moved (cells s) (queue room tail) (reach_all (cells s) (is_air ls) (get_or room (get_or room (length ls + head) 0) 0) (around s (get_or room (length ls + head) 0)) (queue room tail)) got
      → Moved (cells s) (queue room tail) (turn (cells s) (is_air ls) (around s) head (queue room tail)) got
  unfolding turn
  moved_head got k = at_want (ap (λ n. reach_all (cells s) (is_air ls) (get_or room (get_or room (n + head) 0) 0) (around s (get_or room (n + head) 0)) (queue room tail)) h.sized ∙ sym (ap (λ b. cond b whole (queue room tail)) (lt-ltb head tail l))) k
    where
      whole : Queue
      whole = reach_all (cells s) (is_air ls) (get_or room (get_or room (cells s + head) 0) 0) (around s (get_or room (cells s + head) 0)) (queue room tail)

pub moved_rest : (s : Sides) (ls : List ℕ) (head : ℕ) (q : Queue) → Held s ls q → q.tail ≤ head → Moved (cells s) q (turn (cells s) (is_air ls) (around s) head q) q
unfolding turn
moved_rest s ls head q h l = stand h.safe (sym (ap (λ b. cond b (reach_all (cells s) (is_air ls) (mark q (entry (cells s) q head)) (around s (entry (cells s) q head)) q) q) (le-ltb head q.tail l)))

pub ruleset turns = (rules, head_cell, head_mark, head_fits, head_room, moved_head, moved_rest)

-- ---- the loops
pub held_again : (s : Sides) (ls : List ℕ) (q want got : Queue) → Held s ls q → Moved (cells s) q want got → Held s ls got
held_again s ls q want got h m = record { fit = h.fit; sized = h.sized; safe = m.safe }

pub up_cells : (s : Sides) (ls : List ℕ) (f : ℕ → Queue → Queue) (q p : Queue) (i : ℕ) → length ls ≡ cells s → Up f q i p → i ≤ length ls → length ls ≤ i → p ≡ up f (cells s) q
up_cells s ls f q p i e h a b = up_end (cells s) h (omega arith) (omega arith)

pub moved_more : (f : ℕ → Queue → Queue) (n i : ℕ) (q p r : Queue) → Up f q i p → Moved n p (f i p) r → Up f q (i + 1) r
moved_more f n i q p r h m = up_more h m.is

pub moved_end : (f : ℕ → Queue → Queue) (n i : ℕ) (room : List ℕ) (p : Queue) → Up f (queue room 0) i p → Safe n p → i ≤ n → n ≤ i → Moved n (queue room 0) (up f n (queue room 0)) p
moved_end f n i room p h s a b = record { is = up_end n h a b; safe = s; grows = omega arith }

pub ruleset loops = (rules, held_again, up_cells, up_none, up_more, up_end, moved_more, moved_end)

-- ---- the whole search
length_cleared : (n : ℕ) (room : List ℕ) → length (up cleared n room) ≡ length room
unfolding up
length_cleared zero room = refl
length_cleared (suc n) room = length-set (up cleared n room) n 0 ∙ length_cleared n room

pub cleared_zero : (n : ℕ) (room : List ℕ) → n ≤ length room → (c : ℕ) → c < n → get_or (up cleared n room) c 0 ≡ 0
unfolding up
cleared_zero zero room h c l = absurd (omega arith)
cleared_zero (suc n) room h c l = ⊎_elim
    (λ e. rw e (get_or-set_same (up cleared n room) n 0 0 (omega (arith, length_cleared n room))))
    (λ k. get_or-set_other (up cleared n room) n c 0 0 (λ e. omega arith) ∙ cleared_zero n room (omega arith) c k)
    (eq-or-lt_of_le (le_of_suc-le-suc l))

pub cleared_safe : (n : ℕ) (room : List ℕ) → n ≤ 32768 → n + n ≤ length room → Safe n (queue (up cleared n room) 0)
cleared_safe n room few long = record {
  few = few;
  long = omega (arith, length_cleared n room);
  inside = λ k l. absurd (omega arith);
  low = λ c l. omega (arith, cleared_zero n room (omega arith) c l);
  free = omega (arith, count_le n (λ c. eqb (get_or (up cleared n room) c 0) 0));
}

-- the loop that clears a room of words clears the marks
marks_cleared : (s : Sides) (ls room done : List ℕ) → Roomy s ls room → done ≡ answers.cleared (length ls) 0 room → done ≡ up cleared (length ls) room
marks_cleared s ls room done r e = e ∙ sym (zeroed_is 0 (length ls) room (up cleared (length ls) room) (omega (arith, r.sized, r.long)) refl)

pub marks_room : (s : Sides) (ls room : List ℕ) → Roomy s ls room → length ls ≤ length room
marks_room s ls room r = omega (arith, r.sized, r.long)

pub cleared_roomy : (s : Sides) (ls room done : List ℕ) → Roomy s ls room → done ≡ answers.cleared (length ls) 0 room → Safe (length ls) (queue done 0)
cleared_roomy s ls room done r e = rw (marks_cleared s ls room done r e) (cleared_safe (length ls) room (omega (arith, r.sized, cells_most s r.fit)) (omega (arith, r.sized, r.long)))

pub held_first : (s : Sides) (ls room : List ℕ) (q want got : Queue) → Roomy s ls room → Moved (length ls) q want got → Held s ls got
held_first s ls room q want got r m = record { fit = r.fit; sized = r.sized; safe = subst (λ n. Safe n got) r.sized m.safe }

pub searched_is : (s : Sides) (ls room zeros mid end : List ℕ) (t u : ℕ) → Roomy s ls room → zeros ≡ answers.cleared (length ls) 0 room
    → Moved (length ls) (queue zeros 0) (up (start (length ls) (is_opening ls)) (length ls) (queue zeros 0)) (queue mid t)
    → queue end u ≡ up (turn (cells s) (is_air ls) (around s)) (cells s) (queue mid t)
    → end ≡ (searched s ls room).room
unfolding searched started
searched_is s ls room zeros mid end t u r a b d =
    let e : length ls ≡ cells s = r.sized in
    ap (λ q. q.room) (d ∙ ap (up (turn (cells s) (is_air ls) (around s)) (cells s)) (b.is ∙ ap₂ (λ n z. up (start n (is_opening ls)) n (queue z 0)) e (marks_cleared s ls room zeros r a ∙ ap (λ n. up cleared n room) e)))

pub ruleset searching = (rules, marks_room, cleared_roomy, held_first, searched_is)

-- ---- what the marks give
module _ (ls room : List ℕ) (c : ℕ) (l : c < length ls) where
  deeper_air : (d x : ℕ) → get_or ls c 0 ≡ 0 → x ≡ max d (get_or room c 0 - 1) → x ≡ deeper ls room c d
  unfolding deeper
  deeper_air d x e h = h ∙ sym (ap (λ b. cond b (max d (get_or room c 0 - 1)) d) (air_yes ls c l e))

  pub deeper_more : (d : ℕ) → get_or ls c 0 ≡ 0 → d < get_or room c 0 - 1 → get_or room c 0 - 1 ≡ deeper ls room c d
  deeper_more d e h = deeper_air d (get_or room c 0 - 1) e (omega arith)

  pub deeper_less : (d : ℕ) → get_or ls c 0 ≡ 0 → get_or room c 0 - 1 ≤ d → d ≡ deeper ls room c d
  deeper_less d e h = deeper_air d d e (omega arith)

  pub deeper_none : (d : ℕ) → get_or ls c 0 ≡ 0 → get_or room c 0 ≤ 0 → d ≡ deeper ls room c d
  deeper_none d e h = deeper_air d d e (omega arith)

  pub deeper_not : (d : ℕ) → (get_or ls c 0 ≡ 0 → ⊥) → d ≡ deeper ls room c d
  unfolding deeper
  deeper_not d e = sym (ap (λ b. cond b (max d (get_or room c 0 - 1)) d) (air_no ls c l e))

  pub lost_air : get_or ls c 0 ≡ 0 → eqb (get_or room c 0) 0 ≡ lost ls room c
  unfolding lost
  lost_air e = sym (ap (λ b. b && eqb (get_or room c 0) 0) (air_yes ls c l e))

  pub lost_not : (get_or ls c 0 ≡ 0 → ⊥) → false ≡ lost ls room c
  unfolding lost
  lost_not e = sym (ap (λ b. b && eqb (get_or room c 0) 0) (air_no ls c l e))

pub ruleset marks = (rules, deeper_more, deeper_less, deeper_none, deeper_not, lost_air, lost_not)
