-- The new direction: at every cell where beta is finite, else at entries' cells by way of t. Assumes nothing.
use Prim.Native.Nat.{ℕ, zero, suc, ◌+◌, ◌-◌, ◌*◌, ◌%◌, ◌≤◌, ◌<◌}
use mathlib.Core.Path.{◌≡◌, refl, sym, ap, ap₂, ◌∙◌}
use mathlib.Core.Bool.{Bool, true, false, cond}
use mathlib.Core.List.{List, ◌++◌}
use native.Mathlib.Omega.{arith}
use borrow.Author.Rules.{rules}
use lib.ListN.{length, get_or, set, take, drop}
use lib.Seq.{get_or-set_other}
use lib.Ieee.{Float, nan, inf, fin, lt}
use Rattle.std.specs.Float.{float_is_finite}
use Rattle.laws.specs.Binary64.{+0}
use Rattle.laws.specs.Loops.{up}
use Rattle.laws.specs.Lists.{tab}
use Rattle.laws.proofs.Loops.{Up, up_more, up_end}
use Rattle.laws.proofs.Lists.{length_tab, get_or_tab}
use Rattle.laws.proofs.Fill.{tab_same, part_take, part_drop}
use Rattle.method.specs.declared.Sides.{Sides}
use Rattle.method.specs.Cast.{cells, is_air}
use Rattle.method.specs.Transfers.{value, in_air}
use Rattle.method.specs.Rounds.{direction, finite}
use Rattle.theory.specs.Quiet.{Quiet}
use Rattle.grid.specs.Entries.{cells_of}
use Rattle.smooth.specs.Entries.{AirEntries}
use Rattle.smooth.specs.Written.{write_at, written, Covers}
use Rattle.smooth.proofs.StencilLaws.{field_at, beyond, cells_at}
use Rattle.smooth.proofs.EntryLaws.{cell_at, count_is}
use Rattle.smooth.proofs.Written.{at_air}
use Rattle.smooth.proofs.After.{in_air_length}
use Rattle.cg_fields.specs.Fields.{p_of, z_of, t_of}
use Rattle.cg_fields.specs.Entries.{aim_new, fill_at, Aimed}
use Rattle.cg_fields.proofs.Calm.{plus_scaled, calm, put_front, put_there, put_rest, put_long}

-- ---- the library's test of finite numbers is document 01's
pub finite_is : (x : Float) → float_is_finite x ≡ finite x
unfolding finite float_is_finite
finite_is nan = refl
finite_is (inf s) = refl
finite_is (fin s m e) = refl

-- ---- from +0 and +0 with a finite beta
none_made : (done : ℕ) (beta : Float) → finite beta ≡ true → direction done beta +0 +0 ≡ +0
unfolding direction
none_made zero beta h = refl
none_made (suc k) beta h = plus_scaled beta h

-- a part of the room that lies before k, or after it, as it was
part_before : (n b k : ℕ) (e s : List Float) → b + n ≤ k → take k s ≡ take k e → take n (drop b s) ≡ take n (drop b e)
part_before n b k e s h q = sym (part_take b n k s h) ∙ ap (λ l. take n (drop b l)) q ∙ part_take b n k e h

part_after : (n b k : ℕ) (e s : List Float) → k ≤ b → drop k s ≡ drop k e → take n (drop b s) ≡ take n (drop b e)
part_after n b k e s h q = ap (take n) (sym (part_drop k b s h) ∙ ap (drop (b - k)) q ∙ part_drop k b e h)

rest_after : (b k : ℕ) (e s : List Float) → k ≤ b → drop k s ≡ drop k e → drop b s ≡ drop b e
rest_after b k e s h q = sym (part_drop k b s h) ∙ ap (drop (b - k)) q ∙ part_drop k b e h

-- a room whose p was put anew
aimed_from : (g : Sides) (ls : List ℕ) (done : ℕ) (beta : Float) (e s : List Float) → 5 * cells g ≤ length e
    → s ≡ take (cells g) e ++ (in_air g ls (λ c. direction done beta (value (z_of (cells g) e) c) (value (p_of (cells g) e) c)) ++ drop (cells g + cells g) e)
    → Aimed g ls done beta e s
aimed_from g ls done beta e s h q =
    let n = cells g in
    let y : List Float = in_air g ls (λ c. direction done beta (value (z_of (cells g) e) c) (value (p_of (cells g) e) c)) in
    let l : length (in_air g ls (λ c. direction done beta (value (z_of (cells g) e) c) (value (p_of (cells g) e) c))) ≡ cells g = in_air_length g ls _ in
    let f : cells g + cells g ≤ length e = omega arith in
    record {
      x = put_front (cells g) (cells g) y e s f l q;
      p = put_there (cells g) (cells g) y e s f l q;
      r = part_after (cells g) (3 * cells g) (cells g + cells g) e s (omega arith) (put_rest (cells g) (cells g) y e s f l q);
      beyond = rest_after (5 * cells g) (cells g + cells g) e s (omega arith) (put_rest (cells g) (cells g) y e s f l q);
      long = put_long (cells g) (cells g) y e s f l q;
    }

-- ---- at every cell
module _ {n i done : ℕ} {beta : Float} {s t : List Float} where
  pub aim_quiet : Up (fill_at n (aim_new n done beta)) s i t → i ≤ n → n ≤ i → 5 * n ≤ length s → finite beta ≡ true
      → (g : Sides) (ls : List ℕ) → n ≡ cells g → Quiet g ls (z_of (cells g) s) → Quiet g ls (p_of (cells g) s) → Aimed g ls done beta s t
  unfolding aim_new
  aim_quiet u a b fits fin-b g ls e qz qp =
      let h : ℕ → Float = λ c. direction done beta (value (z_of (cells g) s) c) (value (p_of (cells g) s) c) in
      aimed_from g ls done beta s t (omega arith)
      (up_end n u a b ∙ ap (λ n. up (fill_at n (aim_new n done beta)) n s) e
      ∙ calm g ls (cells g) (aim_new (cells g) done beta) h s (omega arith)
      (λ c r l d. ap₂ (direction done beta) (beyond (cells g + c) r s (2 * cells g + c) d (omega arith)) (beyond (cells g + c) r s (cells g + c) d (omega arith)))
      (λ c l. ap₂ (direction done beta) (field_at (cells g) (2 * cells g) s c l) (field_at (cells g) (cells g) s c l))
      (λ c l d. ap₂ (direction done beta) (qz.at c l d) (qp.at c l d) ∙ none_made done beta fin-b))

pub aim_more : (n i done : ℕ) (beta : Float) (s r : List Float) (v : Float) → Up (fill_at n (aim_new n done beta)) s i r
    → v ≡ direction done beta (value r (2 * n + i)) (value r (n + i)) → Up (fill_at n (aim_new n done beta)) s (i + 1) (set r (n + i) v)
unfolding aim_new
aim_more n i done beta s r v u e = up_more u (ap (set r (n + i)) e)

-- ---- at entries' cells
pub aim_entry_is : (n done e : ℕ) (beta : Float) (s : List Float) {v : Float} → v ≡ direction done beta (value s (2 * n + e % 32768)) (value s (n + e % 32768))
    → set s (4 * n + e % 32768) v ≡ write_at (4 * n) (aim_new n done beta) (e % 32768) s
unfolding aim_new
aim_entry_is n done e beta s k = ap (set s (4 * n + e % 32768)) k

-- after k turns of a list
pub record Listed (from : ℕ) (f : ℕ → List Float → Float) (es : List ℕ) (s₀ : List Float) (k : ℕ) (s : List Float) : Type 0 where
  pub is : Up (λ k. write_at from f (get_or (cells_of es) k 0)) s₀ k s

module _ {from : ℕ} {f : ℕ → List Float → Float} {es : List ℕ} where
  pub listed_none : {s : List Float} → Listed from f es s 0 s
  unfolding up
  listed_none = record { is = record { is = refl } }

  pub listed_more : {s₀ s t : List Float} {k : ℕ} → Listed from f es s₀ k s → t ≡ write_at from f (get_or es k 0 % 32768) s → Listed from f es s₀ (k + 1) t
  listed_more {s₀} {s} {t} {k} r h = record { is = up_more r.is (h ∙ ap (λ c. write_at from f c s) (cell_at es k)) }

  pub listed_end : {s₀ s : List Float} {k : ℕ} → Listed from f es s₀ k s → k ≤ length es → length es ≤ k → s ≡ written from f (cells_of es) s₀
  unfolding written
  listed_end {s₀} {s} {k} r a b = up_end (length (cells_of es)) r.is (omega (arith, count_is es)) (omega (arith, count_is es))

pub ruleset listing = (rules, cells_at, listed_none, listed_more)

-- ---- THE LAW: t cleared, the direction at entries' cells into t, t to p
aim_unread : (N done : ℕ) (beta : Float) (c i : ℕ) (x : Float) (r : List Float) → c < N → aim_new N done beta c (set r (4 * N + i) x) ≡ aim_new N done beta c r
unfolding aim_new
aim_unread N done beta c i x r h =
    ap₂ (direction done beta)
    (get_or-set_other r (4 * N + i) (2 * N + c) x nan (λ e. omega arith))
    (get_or-set_other r (4 * N + i) (N + c) x nan (λ e. omega arith))

module _ (g : Sides) (ls cs : List ℕ) (done : ℕ) (beta : Float) (s m w t : List Float) (v : Covers (cells g) (is_air ls) cs) (h : 5 * cells g ≤ length s)
    (em : m ≡ take (4 * cells g) s ++ (tab (cells g) (λ c. +0) ++ drop (4 * cells g + cells g) s))
    (ew : w ≡ written (4 * cells g) (aim_new (cells g) done beta) cs m)
    (et : t ≡ take (cells g) w ++ (t_of (cells g) w ++ drop (cells g + cells g) w)) where
  N : ℕ
  N = cells g

  none : List Float
  none = tab (cells g) (λ c. +0)

  none_length : length none ≡ N
  unfolding N none
  none_length = length_tab (cells g) (λ c. +0)

  new : List Float
  new = in_air g ls (λ c. aim_new (cells g) done beta c m)

  new_length : length new ≡ N
  unfolding N new
  new_length = in_air_length g ls _

  fits : 4 * N + N ≤ length s
  unfolding N
  fits = omega arith

  m_long : length m ≡ length s
  unfolding N none
  m_long = put_long (cells g) (4 * cells g) (tab (cells g) (λ c. +0)) s m fits none_length em

  m_front : take (4 * N) m ≡ take (4 * N) s
  unfolding N none
  m_front = put_front (cells g) (4 * cells g) (tab (cells g) (λ c. +0)) s m fits none_length em

  m_rest : drop (4 * N + N) m ≡ drop (4 * N + N) s
  unfolding N none
  m_rest = put_rest (cells g) (4 * cells g) (tab (cells g) (λ c. +0)) s m fits none_length em

  w_fits : 4 * N + N ≤ length m
  w_fits = omega (arith, m_long, fits)

  w_is : w ≡ take (4 * N) m ++ (new ++ drop (4 * N + N) m)
  unfolding N new none
  w_is = ew ∙ at_air g ls (4 * cells g) (aim_new (cells g) done beta) cs m (λ c i x r a b. aim_unread (cells g) done beta c i x r a) w_fits v
      (λ c l a. field_at (cells g) (4 * cells g) m c l ∙ ap (λ u. value u c) (put_there (cells g) (4 * cells g) (tab (cells g) (λ c. +0)) s m fits none_length em) ∙ get_or_tab (cells g) (λ c. +0) c nan l)

  w_front : take (4 * N) w ≡ take (4 * N) s
  w_front = put_front N (4 * N) new m w w_fits new_length w_is ∙ m_front

  w_rest : drop (4 * N + N) w ≡ drop (4 * N + N) s
  w_rest = put_rest N (4 * N) new m w w_fits new_length w_is ∙ m_rest

  w_long : length w ≡ length s
  w_long = put_long N (4 * N) new m w w_fits new_length w_is ∙ m_long

  w_t : t_of N w ≡ new
  w_t = put_there N (4 * N) new m w w_fits new_length w_is

  new_is : new ≡ in_air g ls (λ c. direction done beta (value (z_of (cells g) s) c) (value (p_of (cells g) s) c))
  unfolding N new in_air aim_new
  new_is = tab_same (cells g) _ _ (λ c l. ap (λ v. cond (is_air ls c) v +0) (ap₂ (direction done beta)
      (field_at (cells g) (2 * cells g) m c l ∙ ap (λ u. value u c) (part_before (cells g) (2 * cells g) (4 * cells g) s m (omega arith) m_front))
      (field_at (cells g) (cells g) m c l ∙ ap (λ u. value u c) (part_before (cells g) (cells g) (4 * cells g) s m (omega arith) m_front))))

  t_fits : N + N ≤ length w
  t_fits = omega (arith, w_long, fits)

  t_length : length (t_of N w) ≡ N
  t_length = ap length w_t ∙ new_length

  pub by_list : Aimed g ls done beta s t
  unfolding N
  by_list = record {
    x = put_front (cells g) (cells g) (t_of (cells g) w) w t t_fits t_length et ∙ part_before (cells g) 0 (4 * cells g) s w (omega arith) w_front;
    p = put_there (cells g) (cells g) (t_of (cells g) w) w t t_fits t_length et ∙ w_t ∙ new_is;
    r = part_after (cells g) (3 * cells g) (cells g + cells g) w t (omega arith) (put_rest (cells g) (cells g) (t_of (cells g) w) w t t_fits t_length et)
        ∙ part_before (cells g) (3 * cells g) (4 * cells g) s w (omega arith) w_front;
    beyond = rest_after (5 * cells g) (cells g + cells g) w t (omega arith) (put_rest (cells g) (cells g) (t_of (cells g) w) w t t_fits t_length et)
        ∙ rest_after (5 * cells g) (4 * cells g + cells g) s w (omega arith) w_rest;
    long = put_long (cells g) (cells g) (t_of (cells g) w) w t t_fits t_length et ∙ w_long;
  }

pub by_list_is : (n done : ℕ) (beta : Float) (es : List ℕ) (s m w t : List Float) → m ≡ take (4 * n) s ++ (tab n (λ c. +0) ++ drop (4 * n + n) s)
    → w ≡ written (4 * n) (aim_new n done beta) (cells_of es) m → t ≡ take n w ++ (t_of n w ++ drop (n + n) w) → 5 * n ≤ length s
    → (g : Sides) (ls : List ℕ) → AirEntries g ls n g.nx (g.nx * g.ny) es → Aimed g ls done beta s t
by_list_is n done beta es s m w t em ew et h g ls a =
    let k : n ≡ cells g = a.entries.n_is in
    by_list g ls (cells_of es) done beta s m w t a.covers (omega arith)
    (em ∙ ap (λ n. take (4 * n) s ++ (tab n (λ c. +0) ++ drop (4 * n + n) s)) k)
    (ew ∙ ap (λ n. written (4 * n) (aim_new n done beta) (cells_of es) m) k)
    (et ∙ ap (λ n. take n w ++ (t_of n w ++ drop (n + n) w)) k)

-- ---- whether beta is finite, as the code has tested it
pub finite_from : (b : Bool) (x : Float) → b ≡ finite x → b ≡ true → finite x ≡ true
finite_from b x e h = sym e ∙ h
