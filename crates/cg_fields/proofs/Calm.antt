-- Fields that are +0 off air stay so under the updates, which therefore go over all cells; A p over a list that covers
-- the air. Assumes nothing.
use Prim.Native.Nat.{ℕ, ◌+◌, ◌*◌, ◌%◌, ◌≤◌, ◌<◌}
use mathlib.Core.Path.{◌≡◌, refl, sym, ap, ap₂, ◌∙◌}
use mathlib.Core.Bool.{Bool, true, false, cond, false≢true}
use mathlib.Core.List.{List, ◌++◌, append_assoc}
use native.Mathlib.Nat.{mul-pos, zero-lt-suc}
use native.Mathlib.Omega.{arith}
use lib.ListN.{length, set, take, drop, length-append, length-drop}
use lib.Seq.{get_or-take, take_at, drop_at, drop-set-add, take-set-le, length-take-le, drop-drop}
use lib.IntN.{ℤ}
use lib.Ieee as Ieee
use lib.Ieee.{Float, nan, inf, fin, binary64, unlike, down, round, sum, add, sub, mul, neg}
use lib.Ieee.Fits.{down_pos}
use lib.Ieee.Scale.{round_same}
use Rattle.laws.specs.Binary64.{◌⊕◌, ◌⊖◌, ◌⊗◌, +0}
use Rattle.laws.specs.Loops.{up}
use Rattle.laws.specs.Lists.{tab}
use Rattle.laws.proofs.Loops.{Up, up_more, up_end}
use Rattle.laws.proofs.Lists.{length_tab, get_or_tab}
use Rattle.laws.proofs.Fill.{filled, tab_same, part_take}
use Rattle.laws.proofs.Zeros.{dot_zeros}
use Rattle.method.specs.declared.Sides.{Sides}
use Rattle.method.specs.Cast.{cells, is_air}
use Rattle.method.specs.Transfers.{value, in_air}
use Rattle.method.specs.Cycle.{applied}
use Rattle.method.specs.Rounds.{dot, finite}
use Rattle.theory.specs.Quiet.{Quiet}
use Rattle.grid.specs.Entries.{cells_of}
use Rattle.smooth.specs.Entries.{Entry, AllRead, Entries, AirEntries}
use Rattle.smooth.specs.Written.{write_at, written, Covers}
use Rattle.smooth.proofs.StencilLaws.{field_at, beyond, zero_stays}
use Rattle.smooth.proofs.Written.{at_air}
use Rattle.cg_fields.specs.Fields.{x_of, p_of, r_of, t_of}
use Rattle.cg_fields.specs.Entries.{dot_all, advance_new, reduce_new, fill_at, applied_new}

-- ---- a finite number times +0, added to +0 or taken from it
scaled_zero : (s : Bool) (m : ℕ) (e : ℤ) → fin s m e ⊗ +0 ≡ round binary64 (unlike s false) 0 1
unfolding mul
scaled_zero s m e =
    let z : m * Ieee.up e * 0 ≡ 0 = omega arith in
    ap (λ a. round binary64 (unlike s false) a (down e * 1)) z
    ∙ round_same binary64 (unlike s false) 0 (down e * 1) 0 1 (mul-pos (down_pos e) (zero-lt-suc 0)) (zero-lt-suc 0) (omega arith)

plus_no : (t : Bool) → +0 ⊕ round binary64 t 0 1 ≡ +0
unfolding add sum round
plus_no true = refl
plus_no false = refl

minus_no : (t : Bool) → +0 ⊖ round binary64 t 0 1 ≡ +0
unfolding sub neg add sum round
minus_no true = refl
minus_no false = refl

pub plus_scaled : (a : Float) → finite a ≡ true → +0 ⊕ a ⊗ +0 ≡ +0
unfolding finite
plus_scaled nan h = absurd (false≢true h)
plus_scaled (inf s) h = absurd (false≢true h)
plus_scaled (fin s m e) h = ap (◌⊕◌ +0) (scaled_zero s m e) ∙ plus_no (unlike s false)

pub minus_scaled : (a : Float) → finite a ≡ true → +0 ⊖ a ⊗ +0 ≡ +0
unfolding finite
minus_scaled nan h = absurd (false≢true h)
minus_scaled (inf s) h = absurd (false≢true h)
minus_scaled (fin s m e) h = ap (◌⊖◌ +0) (scaled_zero s m e) ∙ minus_no (unlike s false)

-- ---- sums
pub dot_quiet : {a b : List Float} {n i : ℕ} {s : Float} → Up (dot_all a b) +0 i s → i ≤ n → n ≤ i
    → (g : Sides) (ls : List ℕ) → n ≡ cells g → Quiet g ls a → Quiet g ls b → s ≡ dot g ls (value a) (value b)
unfolding dot
dot_quiet {a} {b} {n} {i} {s} u h k g ls e p q =
    up_end n u h k ∙ ap (λ n. up (dot_all a b) n +0) e
    ∙ sym (dot_zeros (is_air ls) (value a) (value b) (cells g) (λ j l t. (p.at j l t, q.at j l t)))

-- ---- a field that begins at k, filled at every cell: f reads what no earlier turn has stored; off air it is +0
pub calm : (g : Sides) (ls : List ℕ) (k : ℕ) (f : ℕ → List Float → Float) (h : ℕ → Float) (s : List Float)
    → k + cells g ≤ length s
    → ((c : ℕ) (r : List Float) → c < cells g → drop (k + c) r ≡ drop (k + c) s → f c r ≡ f c s)
    → ((c : ℕ) → c < cells g → f c s ≡ h c)
    → ((c : ℕ) → c < cells g → is_air ls c ≡ false → h c ≡ +0)
    → up (fill_at k f) (cells g) s ≡ take k s ++ (in_air g ls h ++ drop (k + cells g) s)
unfolding in_air
calm g ls k f h s room same is off =
    filled f s k (cells g) room (λ c r l a b. same c r l b)
    ∙ append_assoc (take k s) _ _
    ∙ ap (λ u. take k s ++ (u ++ drop (k + cells g) s)) (tab_same (cells g) _ _ (λ c l. is c l ∙ go c l (is_air ls c) refl))
  where
    go : (c : ℕ) → c < cells g → (t : Bool) → is_air ls c ≡ t → h c ≡ cond t (h c) +0
    go c l true a = refl
    go c l false a = off c l a

module _ {n i : ℕ} (alpha : Float) {s t : List Float} where
  -- x begins the room
  pub advance_quiet : Up (fill_at 0 (advance_new n alpha)) s i t → i ≤ n → n ≤ i → 5 * n ≤ length s → finite alpha ≡ true
      → (g : Sides) (ls : List ℕ) → n ≡ cells g → Quiet g ls (x_of (cells g) s) → Quiet g ls (p_of (cells g) s)
      → t ≡ in_air g ls (λ c. value (x_of (cells g) s) c ⊕ alpha ⊗ value (p_of (cells g) s) c) ++ drop (cells g) s
  unfolding advance_new
  advance_quiet u a b fits fin-a g ls e qx qp =
      let front : (m : ℕ) → 0 + m ≡ m = λ m. omega arith in
      let h : ℕ → Float = λ c. value (x_of (cells g) s) c ⊕ alpha ⊗ value (p_of (cells g) s) c in
      up_end n u a b ∙ ap (λ n. up (fill_at 0 (advance_new n alpha)) n s) e
      ∙ calm g ls 0 (advance_new (cells g) alpha) h s (omega arith)
      (λ c r l d. ap₂ (λ x p. x ⊕ alpha ⊗ p) (beyond (0 + c) r s c d (omega arith)) (beyond (0 + c) r s (cells g + c) d (omega arith)))
      (λ c l. ap₂ (λ x p. x ⊕ alpha ⊗ p) (sym (get_or-take (cells g) s c nan l)) (field_at (cells g) (cells g) s c l))
      (λ c l d. ap₂ (λ x p. x ⊕ alpha ⊗ p) (qx.at c l d) (qp.at c l d) ∙ plus_scaled alpha fin-a)
      ∙ ap (λ m. in_air g ls h ++ drop m s) (front (cells g))

  pub reduce_quiet : Up (fill_at (3 * n) (reduce_new n alpha)) s i t → i ≤ n → n ≤ i → 5 * n ≤ length s → finite alpha ≡ true
      → (g : Sides) (ls : List ℕ) → n ≡ cells g → Quiet g ls (r_of (cells g) s) → Quiet g ls (t_of (cells g) s)
      → t ≡ take (3 * cells g) s ++ (in_air g ls (λ c. value (r_of (cells g) s) c ⊖ alpha ⊗ value (t_of (cells g) s) c) ++ drop (4 * cells g) s)
  unfolding reduce_new
  reduce_quiet u a b fits fin-a g ls e qr qt =
      let four : 3 * cells g + cells g ≡ 4 * cells g = omega arith in
      let h : ℕ → Float = λ c. value (r_of (cells g) s) c ⊖ alpha ⊗ value (t_of (cells g) s) c in
      up_end n u a b ∙ ap (λ n. up (fill_at (3 * n) (reduce_new n alpha)) n s) e
      ∙ calm g ls (3 * cells g) (reduce_new (cells g) alpha) h s (omega arith)
      (λ c r l d. ap₂ (λ x y. x ⊖ alpha ⊗ y) (beyond (3 * cells g + c) r s (3 * cells g + c) d (omega arith)) (beyond (3 * cells g + c) r s (4 * cells g + c) d (omega arith)))
      (λ c l. ap₂ (λ x y. x ⊖ alpha ⊗ y) (field_at (cells g) (3 * cells g) s c l) (field_at (cells g) (4 * cells g) s c l))
      (λ c l d. ap₂ (λ x y. x ⊖ alpha ⊗ y) (qr.at c l d) (qt.at c l d) ∙ minus_scaled alpha fin-a)
      ∙ ap (λ m. take (3 * cells g) s ++ (in_air g ls h ++ drop m s)) four

-- one more store, as the code makes it
pub advance_more : (n i : ℕ) (alpha : Float) (s r : List Float) → Up (fill_at 0 (advance_new n alpha)) s i r
    → Up (fill_at 0 (advance_new n alpha)) s (i + 1) (set r i (value r i ⊕ alpha ⊗ value r (n + i)))
unfolding advance_new
advance_more n i alpha s r u =
    let front : i ≡ 0 + i = omega arith in
    up_more u (ap (λ m. set r m (value r i ⊕ alpha ⊗ value r (n + i))) front)

pub reduce_more : (n i : ℕ) (alpha : Float) (s r : List Float) → Up (fill_at (3 * n) (reduce_new n alpha)) s i r
    → Up (fill_at (3 * n) (reduce_new n alpha)) s (i + 1) (set r (3 * n + i) (value r (3 * n + i) ⊖ alpha ⊗ value r (4 * n + i)))
unfolding reduce_new
reduce_more n i alpha s r u = up_more u refl

pub dot_more : (a b : List Float) (i : ℕ) (s : Float) → Up (dot_all a b) +0 i s → Up (dot_all a b) +0 (i + 1) (s ⊕ value a i ⊗ value b i)
dot_more a b i s u = up_more u refl

-- ---- a room in which the n elements from k on were put anew
module _ (n k : ℕ) (y s m : List Float) (h : k + n ≤ length s) (l : length y ≡ n) (e : m ≡ take k s ++ (y ++ drop (k + n) s)) where
  front_length : length (take k s) ≡ k
  front_length = length-take-le k s (omega arith)

  pub put_front : take k m ≡ take k s
  put_front = ap (take k) e ∙ take_at (take k s) (y ++ drop (k + n) s) k front_length

  put_tail : drop k m ≡ y ++ drop (k + n) s
  put_tail = ap (drop k) e ∙ drop_at (take k s) (y ++ drop (k + n) s) k front_length

  pub put_there : take n (drop k m) ≡ y
  put_there = ap (take n) put_tail ∙ take_at y (drop (k + n) s) n l

  pub put_rest : drop (k + n) m ≡ drop (k + n) s
  put_rest = sym (drop-drop n k m) ∙ ap (drop n) put_tail ∙ drop_at y (drop (k + n) s) n l

  pub put_long : length m ≡ length s
  put_long = omega (arith, ap length e, length-append (take k s) (y ++ drop (k + n) s), length-append y (drop (k + n) s), length-drop (k + n) s, front_length)

-- ---- A p over entries
module _ (g : Sides) (ls : List ℕ) (n nx plane e : ℕ) (h : Entry g ls n nx plane e) where
  pub apply_entry_is : (s : List Float) {a : Float} → a ≡ applied g ls (take (cells g) (drop (1 * n) s)) (e % 32768)
      → set s (4 * n + e % 32768) a ≡ write_at (4 * n) (applied_new g ls) (e % 32768) s
  unfolding applied_new
  apply_entry_is s {a} k =
      let one : 1 * n ≡ cells g = omega (arith, h.n_is) in
      ap (set s (4 * n + e % 32768)) (k ∙ ap (λ m. applied g ls (take (cells g) (drop m s)) (e % 32768)) one)

apply_unread : (g : Sides) (ls : List ℕ) (c i : ℕ) (x : Float) (r : List Float) → applied_new g ls c (set r (4 * cells g + i) x) ≡ applied_new g ls c r
unfolding applied_new
apply_unread g ls c i x r =
    let far : 4 * cells g + i ≡ cells g + (3 * cells g + i) = omega arith in
    ap (λ p. applied g ls p c)
    (ap (λ m. take (cells g) (drop (cells g) (set r m x))) far ∙ ap (take (cells g)) (drop-set-add (cells g) r (3 * cells g + i) x) ∙ take-set-le (cells g) (drop (cells g) r) (3 * cells g + i) x (omega arith))

apply_covered : (g : Sides) (ls cs : List ℕ) (s m : List Float) → Covers (cells g) (is_air ls) cs → 5 * cells g ≤ length s
    → m ≡ take (4 * cells g) s ++ (tab (cells g) (λ c. +0) ++ drop (4 * cells g + cells g) s)
    → written (4 * cells g) (applied_new g ls) cs m ≡ take (4 * cells g) s ++ (in_air g ls (applied g ls (p_of (cells g) s)) ++ drop (5 * cells g) s)
unfolding applied_new
apply_covered g ls cs s m v h e =
    let n = cells g in
    let five : 4 * cells g + cells g ≡ 5 * cells g = omega arith in
    let y : List Float = tab (cells g) (λ c. +0) in
    let ly : length (tab (cells g) (λ c. +0)) ≡ cells g = length_tab (cells g) (λ c. +0) in
    let fits : 4 * cells g + cells g ≤ length s = omega arith in
    let front : take (4 * cells g) m ≡ take (4 * cells g) s = put_front (cells g) (4 * cells g) (tab (cells g) (λ c. +0)) s m fits ly e in
    let p-same : p_of (cells g) m ≡ p_of (cells g) s =
    sym (part_take (cells g) (cells g) (4 * cells g) m (omega arith)) ∙ ap (λ v. p_of (cells g) v) front ∙ part_take (cells g) (cells g) (4 * cells g) s (omega arith) in
    at_air g ls (4 * cells g) (applied_new g ls) cs m (λ c i x r a b. apply_unread g ls c i x r) (omega (arith, put_long (cells g) (4 * cells g) (tab (cells g) (λ c. +0)) s m fits ly e)) v
    (λ c l a. field_at (cells g) (4 * cells g) m c l ∙ ap (λ w. value w c) (put_there (cells g) (4 * cells g) (tab (cells g) (λ c. +0)) s m fits ly e) ∙ get_or_tab (cells g) (λ c. +0) c nan l)
    ∙ ap₂ (λ a b. a ++ b) front
    (ap₂ (λ p r. in_air g ls (applied g ls p) ++ r) p-same (put_rest (cells g) (4 * cells g) (tab (cells g) (λ c. +0)) s m fits ly e ∙ ap (λ k. drop k s) five))

module _ (n nx plane z : ℕ) (es : List ℕ) (s m : List Float) where
  pub cleared_zero : m ≡ take (4 * n) s ++ (tab n (λ c. +0) ++ drop (4 * n + n) s) → AllRead n nx plane z (length s) es → 5 * n ≤ z → value s z ≡ +0 → value m z ≡ +0
  cleared_zero e r l q =
      zero_stays (4 * n + n) s m z (put_rest n (4 * n) (tab n (λ c. +0)) s m (omega (arith, r.zero_in)) (length_tab n (λ c. +0)) e) (omega arith) q

  pub apply_entries_is : (t : List Float) → m ≡ take (4 * n) s ++ (tab n (λ c. +0) ++ drop (4 * n + n) s) → AllRead n nx plane z (length s) es → 5 * n ≤ z
      → ((g : Sides) (ls : List ℕ) → Entries g ls n nx plane es → t ≡ written (4 * n) (applied_new g ls) (cells_of es) m)
      → (g : Sides) (ls : List ℕ) → AirEntries g ls n nx plane es
      → t ≡ take (4 * cells g) s ++ (in_air g ls (applied g ls (p_of (cells g) s)) ++ drop (5 * cells g) s)
  apply_entries_is t e r l w g ls a =
      let k : n ≡ cells g = a.entries.n_is in
      let e' : m ≡ take (4 * cells g) s ++ (tab (cells g) (λ c. +0) ++ drop (4 * cells g + cells g) s) = e ∙ ap (λ n. take (4 * n) s ++ (tab n (λ c. +0) ++ drop (4 * n + n) s)) k in
      w g ls a.entries ∙ ap (λ n. written (4 * n) (applied_new g ls) (cells_of es) m) k
      ∙ apply_covered g ls (cells_of es) s m a.covers (omega (arith, r.zero_in)) e'
