-- The kernels over entries, at one cell and over a list that covers the air: Jacobi, Jacobi from zero, the residual.
-- Assumes nothing.
use Prim.Native.Nat.{ℕ, ◌+◌, ◌-◌, ◌*◌, ◌/◌, ◌%◌, ◌^◌, ◌≤◌, ◌<◌}
use mathlib.Core.Path.{◌≡◌, sym, ap, ap₂, ◌∙◌}
use mathlib.Core.List.{List, ◌++◌}
use native.Mathlib.Omega.{arith}
use borrow.Author.Rules.{rules}
use lib.Dec.{T}
use lib.ListN.{length, get_or, set, take, drop, length-append}
use lib.Seq.{get_or-take, get_or-drop, drop-set-lt, take-set-le, drop-set-add}
use lib.Ieee.{Float, nan, binary64, fits, of_bits, div}
use Rattle.laws.specs.Binary64.{◌⊕◌, ◌⊖◌, ◌⊗◌, ◌⊘◌, +0, ofℕ}
use Rattle.laws.specs.Lists.{tab}
use Rattle.laws.proofs.Loops.{Up, up_none, up_more, up_end}
use Rattle.laws.proofs.Lists.{length_tab, get_or_tab}
use Rattle.laws.proofs.Zeros.{over_none, jacobi_from_zero}
use Rattle.method.specs.declared.Sides.{Sides}
use Rattle.method.specs.Cast.{cells, is_air, degree, around}
use Rattle.method.specs.Transfers.{value}
use Rattle.method.specs.Cycle.{air_sum, applied, rest, change, jacobi, residue, zeros}
use Rattle.theory.specs.Quiet.{Quiet}
use Rattle.grid.specs.Entries.{cells_of}
use Rattle.smooth.specs.Fields.{u_of, b_of, t_of, Laid}
use Rattle.smooth.specs.Entries.{Entry, AllRead, Entries, AirEntries, InCells}
use Rattle.smooth.specs.Written.{write_at, written, Covers}
use Rattle.smooth.specs.Stencils.{jacobi_new, first_new, residue_new}
use Rattle.smooth.proofs.Sums.{air_in_lem}
use Rattle.smooth.proofs.Turns.{applied_is, applied_take, part_is, two_thirds}
use Rattle.smooth.proofs.Fields.{laid, laid_u, laid_b, laid_t, laid_follows, fields, jacobi_from}
use Rattle.smooth.proofs.Written.{at_air}
use Rattle.smooth.proofs.EntryLaws.{d_of, cell_at, count_is, reads_at}

-- ---- elements of the room
-- the field that begins at k, by its element
pub field_at : (n k : ℕ) (s : List Float) (c : ℕ) → c < n → value s (k + c) ≡ value (take n (drop k s)) c
field_at n k s c h = sym (get_or-take n (drop k s) c nan h ∙ get_or-drop k s c nan)

-- elements from k on, where the room is as it was
pub beyond : (k : ℕ) (r s : List Float) (j : ℕ) → drop k r ≡ drop k s → k ≤ j → value r j ≡ value s j
beyond k r s j e h =
    let q : k + (j - k) ≡ j = omega arith in
    ap (value r) (sym q) ∙ sym (get_or-drop k r (j - k) nan) ∙ ap (λ l. value l (j - k)) e ∙ get_or-drop k s (j - k) nan ∙ ap (value s) q

-- ---- at one entry's cell
module _ (g : Sides) (ls : List ℕ) (n nx plane e : ℕ) (h : Entry g ls n nx plane e) where
  -- A u of the field that begins at `from`
  pub applied_entry_is : (r : List Float) (from : ℕ) {sum : Float} → sum ≡ air_sum g ls (take (length r - from) (drop from r)) (e % 32768)
      → ofℕ (e / 2097152) ⊗ value r (from + e % 32768) ⊖ sum ≡ applied g ls (take (cells g) (drop from r)) (e % 32768)
  applied_entry_is r from {sum} k =
      let c = e % 32768 in
      ap (λ x. ofℕ (e / 2097152) ⊗ x ⊖ sum) (sym (get_or-drop from r (e % 32768) nan))
      ∙ applied_is g ls (drop from r) (e % 32768) (e / 2097152) sum (d_of g ls n nx plane e h) (k ∙ ap (λ l. air_sum g ls l (e % 32768)) (part_is r from))
      ∙ sym (applied_take g ls (cells g) (drop from r) (e % 32768) (omega (arith, h.labelled)) h.here)

  d_is : ofℕ (e / 2097152) ≡ ofℕ (degree g ls (e % 32768))
  d_is = ap ofℕ (d_of g ls n nx plane e h)

  b_is : (s : List Float) → value s (n + e % 32768) ≡ value (b_of (cells g) s) (e % 32768)
  b_is s = ap (λ m. value s (m + e % 32768)) h.n_is ∙ field_at (cells g) (cells g) s (e % 32768) h.here

  pub jacobi_entry_is : (s : List Float) {a : Float} → a ≡ applied g ls (take (cells g) (drop (2 * n) s)) (e % 32768)
      → set s (e % 32768) (value s (2 * n + e % 32768) ⊕ div binary64 (of_bits binary64 4611686018427387904) (of_bits binary64 4613937818241073152) ⊗ ((value s (n + e % 32768) ⊖ a) ⊘ ofℕ (e / 2097152)))
      ≡ write_at 0 (jacobi_new g ls) (e % 32768) s
  unfolding jacobi_new change rest
  jacobi_entry_is s {a} k =
      let c = e % 32768 in
      let none : e % 32768 ≡ 0 + e % 32768 = omega arith in
      let old : value s (2 * n + e % 32768) ≡ value (t_of (cells g) s) (e % 32768) = ap (λ m. value s (2 * m + e % 32768)) h.n_is ∙ field_at (cells g) (2 * cells g) s (e % 32768) h.here in
      let new : a ≡ applied g ls (t_of (cells g) s) (e % 32768) = k ∙ ap (λ m. applied g ls (take (cells g) (drop (2 * m) s)) (e % 32768)) h.n_is in
      ap (λ q. set s (e % 32768) (value s (2 * n + e % 32768) ⊕ q ⊗ ((value s (n + e % 32768) ⊖ a) ⊘ ofℕ (e / 2097152)))) two_thirds
      ∙ ap (λ x. set s (e % 32768) (x ⊕ (ofℕ 2 ⊘ ofℕ 3) ⊗ ((value s (n + e % 32768) ⊖ a) ⊘ ofℕ (e / 2097152)))) old
      ∙ ap (λ x. set s (e % 32768) (value (t_of (cells g) s) (e % 32768) ⊕ (ofℕ 2 ⊘ ofℕ 3) ⊗ ((x ⊖ a) ⊘ ofℕ (e / 2097152)))) (b_is s)
      ∙ ap (λ x. set s (e % 32768) (value (t_of (cells g) s) (e % 32768) ⊕ (ofℕ 2 ⊘ ofℕ 3) ⊗ ((value (b_of (cells g) s) (e % 32768) ⊖ x) ⊘ ofℕ (e / 2097152)))) new
      ∙ ap (λ x. set s (e % 32768) (value (t_of (cells g) s) (e % 32768) ⊕ (ofℕ 2 ⊘ ofℕ 3) ⊗ ((value (b_of (cells g) s) (e % 32768) ⊖ applied g ls (t_of (cells g) s) (e % 32768)) ⊘ x))) d_is
      ∙ ap (λ m. set s m (jacobi_new g ls (e % 32768) s)) none

  -- from zero: the neighbours add nothing, and d·0 is 0
  no_sum : air_sum g ls (zeros g) (e % 32768) ≡ +0
  unfolding air_sum zeros
  no_sum = over_none (is_air ls) (value (zeros g)) (around g (e % 32768)) (λ j m a. get_or_tab (cells g) (λ c. +0) j nan (omega (arith, air_in_lem ls j a, h.labelled)))

  pub first_entry_is : (s : List Float) → T (fits binary64 (value s (n + e % 32768))) → e / 2097152 ≤ 2 ^ 53
      → set s (e % 32768) (of_bits binary64 0 ⊕ div binary64 (of_bits binary64 4611686018427387904) (of_bits binary64 4613937818241073152) ⊗ (value s (n + e % 32768) ⊘ ofℕ (e / 2097152)))
      ≡ write_at 0 (first_new g ls) (e % 32768) s
  unfolding first_new change rest applied of_bits
  first_entry_is s fit small =
      let none : e % 32768 ≡ 0 + e % 32768 = omega arith in
      let z : value (zeros g) (e % 32768) ≡ +0 = unfold zeros in get_or_tab (cells g) (λ c. +0) (e % 32768) nan h.here in
      ap (λ q. set s (e % 32768) (+0 ⊕ q ⊗ (value s (n + e % 32768) ⊘ ofℕ (e / 2097152)))) two_thirds
      ∙ ap (set s (e % 32768)) (sym (jacobi_from_zero (ofℕ 2 ⊘ ofℕ 3) (value s (n + e % 32768)) (e / 2097152) fit small))
      ∙ ap (λ x. set s (e % 32768) (+0 ⊕ (ofℕ 2 ⊘ ofℕ 3) ⊗ ((x ⊖ (ofℕ (e / 2097152) ⊗ +0 ⊖ +0)) ⊘ ofℕ (e / 2097152)))) (b_is s)
      ∙ ap (λ x. set s (e % 32768) (+0 ⊕ (ofℕ 2 ⊘ ofℕ 3) ⊗ ((value (b_of (cells g) s) (e % 32768) ⊖ (x ⊗ +0 ⊖ +0)) ⊘ x))) d_is
      ∙ ap₂ (λ x y. set s (e % 32768) (x ⊕ (ofℕ 2 ⊘ ofℕ 3) ⊗ ((value (b_of (cells g) s) (e % 32768) ⊖ (ofℕ (degree g ls (e % 32768)) ⊗ x ⊖ y)) ⊘ ofℕ (degree g ls (e % 32768))))) (sym z) (sym no_sum)
      ∙ ap (λ m. set s m (first_new g ls (e % 32768) s)) none

  pub residual_entry_is : (s : List Float) {a : Float} → a ≡ applied g ls (take (cells g) (drop 0 s)) (e % 32768)
      → set s (2 * n + e % 32768) (value s (n + e % 32768) ⊖ a) ≡ write_at (2 * n) (residue_new g ls) (e % 32768) s
  unfolding residue_new rest
  residual_entry_is s {a} k = ap₂ (λ b x. set s (2 * n + e % 32768) (b ⊖ x)) (b_is s) k

-- ---- over a list: E says of which cast a word is an entry
abbrev pub WroteBy : (Sides → List ℕ → ℕ → Type 0) → ℕ → (Sides → List ℕ → ℕ → List Float → Float) → ℕ → List Float → List Float → Type 0
WroteBy E from f e s t = (g : Sides) (ls : List ℕ) → E g ls e → t ≡ write_at from (f g ls) (e % 32768) s

pub record Wrote (E : Sides → List ℕ → ℕ → Type 0) (from : ℕ) (f : Sides → List ℕ → ℕ → List Float → Float) (es : List ℕ) (s₀ : List Float) (k : ℕ) (s : List Float) : Type 0 where
  pub for : (g : Sides) (ls : List ℕ) → ((k : ℕ) → k < length es → E g ls (get_or es k 0)) → Up (λ k. write_at from (f g ls) (get_or (cells_of es) k 0)) s₀ k s

module _ {E : Sides → List ℕ → ℕ → Type 0} {from : ℕ} {f : Sides → List ℕ → ℕ → List Float → Float} {es : List ℕ} where
  pub wrote_none : {s : List Float} → Wrote E from f es s 0 s
  wrote_none = record { for = λ g ls e. up_none }

  pub wrote_more : {s₀ s t : List Float} {k : ℕ} → Wrote E from f es s₀ k s → k < length es → WroteBy E from f (get_or es k 0) s t → Wrote E from f es s₀ (k + 1) t
  wrote_more {s₀} {s} {t} {k} r l h =
      record { for = λ g ls e. up_more (r.for g ls e) (h g ls (e k l) ∙ ap (λ c. write_at from (f g ls) c s) (cell_at es k)) }

  pub wrote_end : {s₀ s : List Float} {k : ℕ} → Wrote E from f es s₀ k s → k ≤ length es → length es ≤ k
      → (g : Sides) (ls : List ℕ) → ((k : ℕ) → k < length es → E g ls (get_or es k 0)) → s ≡ written from (f g ls) (cells_of es) s₀
  unfolding written
  wrote_end {s₀} {s} {k} r a b g ls e = up_end (length (cells_of es)) (r.for g ls e) (omega (arith, count_is es)) (omega (arith, count_is es))

pub cells_at : {n : ℕ} {es : List ℕ} (k : ℕ) → InCells n es → k < length es → get_or es k 0 % 32768 < n
cells_at k a h = a.at k h

pub ruleset writing = (rules, reads_at, cells_at, wrote_none, wrote_more)

-- ---- the zero stays where only the fields are changed
pub zero_stays : (k : ℕ) (r s : List Float) (z : ℕ) → drop k s ≡ drop k r → k ≤ z → value r z ≡ +0 → value s z ≡ +0
zero_stays k r s z e h q = beyond k s r z e h ∙ q

module _ (n : ℕ) (s m : List Float) (h : 3 * n ≤ length s) where
  -- after the old u went to t
  kept_laid : m ≡ take (2 * n) s ++ (take n s ++ drop (3 * n) s) → Laid n (u_of n s) (b_of n s) (u_of n s) (drop (3 * n) s) m
  kept_laid e =
      let l = laid n s h in
      record { is = e ∙ fields n s (u_of n s ++ drop (3 * n) s); u_length = l.u_length; b_length = l.b_length; t_length = l.u_length }

  -- after t was cleared
  cleared_laid : m ≡ take (2 * n) s ++ (tab n (λ c. +0) ++ drop (2 * n + n) s) → Laid n (u_of n s) (b_of n s) (tab n (λ c. +0)) (drop (3 * n) s) m
  cleared_laid e =
      let l = laid n s h in
      let three : 2 * n + n ≡ 3 * n = omega arith in
      record {
        is = e ∙ ap (λ k. take (2 * n) s ++ (tab n (λ c. +0) ++ drop k s)) three ∙ fields n s (tab n (λ c. +0) ++ drop (3 * n) s);
        u_length = l.u_length;
        b_length = l.b_length;
        t_length = length_tab n (λ c. +0);
      }

module _ (n nx plane z : ℕ) (es : List ℕ) (s m : List Float) where
  pub cleared_zero : m ≡ take (2 * n) s ++ (tab n (λ c. +0) ++ drop (2 * n + n) s) → AllRead n nx plane z (length s) es → value s z ≡ +0 → value m z ≡ +0
  cleared_zero e r q = zero_stays (3 * n) s m z (laid_follows (cleared_laid n s m (omega (arith, r.fields, r.zero_in)) e)) r.fields q

-- ---- no store changes what is read
jacobi_unread : (g : Sides) (ls : List ℕ) (c i : ℕ) (x : Float) (r : List Float) → i < cells g → jacobi_new g ls c (set r (0 + i) x) ≡ jacobi_new g ls c r
unfolding jacobi_new
jacobi_unread g ls c i x r h =
    ap₂ (λ b u. value u c ⊕ (ofℕ 2 ⊘ ofℕ 3) ⊗ change g ls b u c)
    (ap (take (cells g)) (drop-set-lt (cells g) r (0 + i) x (omega arith)))
    (ap (take (cells g)) (drop-set-lt (2 * cells g) r (0 + i) x (omega arith)))

first_unread : (g : Sides) (ls : List ℕ) (c i : ℕ) (x : Float) (r : List Float) → i < cells g → first_new g ls c (set r (0 + i) x) ≡ first_new g ls c r
unfolding first_new
first_unread g ls c i x r h =
    ap (λ b. value (zeros g) c ⊕ (ofℕ 2 ⊘ ofℕ 3) ⊗ change g ls b (zeros g) c) (ap (take (cells g)) (drop-set-lt (cells g) r (0 + i) x (omega arith)))

residue_unread : (g : Sides) (ls : List ℕ) (c i : ℕ) (x : Float) (r : List Float) → residue_new g ls c (set r (2 * cells g + i) x) ≡ residue_new g ls c r
unfolding residue_new
residue_unread g ls c i x r =
    let far : 2 * cells g + i ≡ cells g + (cells g + i) = omega arith in
    ap₂ (λ b u. rest g ls b u c)
    (ap (λ m. take (cells g) (drop (cells g) (set r m x))) far ∙ ap (take (cells g)) (drop-set-add (cells g) r (cells g + i) x) ∙ take-set-le (cells g) (drop (cells g) r) (cells g + i) x (omega arith))
    (take-set-le (cells g) r (2 * cells g + i) x (omega arith))

-- ---- THE LAWS: the kernels over a list that covers the air
laid_long : {n : ℕ} {u b t r e : List Float} → Laid n u b t r e → length e ≡ 3 * n + length r
laid_long {n} {u} {b} {t} {r} {e} p =
    let q : length e ≡ length (u ++ (b ++ (t ++ r))) = ap length p.is in
    omega (arith, p.u_length, p.b_length, p.t_length, length-append u (b ++ (t ++ r)), length-append b (t ++ r), length-append t r)

module _ (g : Sides) (ls cs : List ℕ) (v : Covers (cells g) (is_air ls) cs) where
  front : (k : ℕ) → 0 + k ≡ k
  front k = omega arith

  -- Jacobi: m is the room with the old u in t
  jacobi_covered : (u b r m : List Float) → Laid (cells g) u b u r m → Quiet g ls u → written 0 (jacobi_new g ls) cs m ≡ jacobi g ls b u ++ (b ++ (u ++ r))
  unfolding jacobi jacobi_new
  jacobi_covered u b r m l q =
      at_air g ls 0 (jacobi_new g ls) cs m (λ c i x r a h. jacobi_unread g ls c i x r h) (omega (arith, laid_long l)) v
      (λ c h a. ap (value m) (front c) ∙ sym (get_or-take (cells g) m c nan h) ∙ ap (λ w. value w c) (laid_u l) ∙ q.at c h a)
      ∙ ap (λ k. jacobi g ls (b_of (cells g) m) (t_of (cells g) m) ++ drop k m) (front (cells g))
      ∙ jacobi_from g ls (cells g) u b r m l

  -- from zero
  pub first_covered : (s : List Float) → 2 * cells g ≤ length s → u_of (cells g) s ≡ zeros g
      → written 0 (first_new g ls) cs s ≡ jacobi g ls (b_of (cells g) s) (zeros g) ++ drop (cells g) s
  unfolding jacobi first_new zeros
  first_covered s h z =
      at_air g ls 0 (first_new g ls) cs s (λ c i x r a h. first_unread g ls c i x r h) (omega arith) v
      (λ c i a. ap (value s) (front c) ∙ sym (get_or-take (cells g) s c nan i) ∙ ap (λ w. value w c) z ∙ get_or_tab (cells g) (λ c. +0) c nan i)
      ∙ ap (λ k. jacobi g ls (b_of (cells g) s) (zeros g) ++ drop k s) (front (cells g))

  -- the residual: m is the room with t cleared
  residue_from : (n : ℕ) (u b t r m : List Float) → Laid n u b t r m
      → u_of n m ++ (b_of n m ++ (residue g ls (b_of n m) (u_of n m) ++ drop (3 * n) m)) ≡ u ++ (b ++ (residue g ls b u ++ r))
  residue_from n u b t r m l = rw (laid_b l, laid_u l, laid_follows l)

  residue_covered : (u b r m : List Float) → Laid (cells g) u b (tab (cells g) (λ c. +0)) r m
      → written (2 * cells g) (residue_new g ls) cs m ≡ u ++ (b ++ (residue g ls b u ++ r))
  unfolding residue residue_new
  residue_covered u b r m l =
      let three : 2 * cells g + cells g ≡ 3 * cells g = omega arith in
      at_air g ls (2 * cells g) (residue_new g ls) cs m (λ c i x r a h. residue_unread g ls c i x r) (omega (arith, laid_long l)) v
      (λ c h a. field_at (cells g) (2 * cells g) m c h ∙ ap (λ w. value w c) (laid_t l) ∙ get_or_tab (cells g) (λ c. +0) c nan h)
      ∙ ap (λ k. take (2 * cells g) m ++ (residue g ls (b_of (cells g) m) (u_of (cells g) m) ++ drop k m)) three
      ∙ fields (cells g) m (residue g ls (b_of (cells g) m) (u_of (cells g) m) ++ drop (3 * cells g) m)
      ∙ residue_from (cells g) u b (tab (cells g) (λ c. +0)) r m l

module _ (n nx plane z : ℕ) (es : List ℕ) (s m t : List Float) where
  pub jacobi_entries_is : m ≡ take (2 * n) s ++ (take n s ++ drop (3 * n) s) → AllRead n nx plane z (length s) es
      → ((g : Sides) (ls : List ℕ) → Entries g ls n nx plane es → t ≡ written 0 (jacobi_new g ls) (cells_of es) m)
      → (g : Sides) (ls : List ℕ) → AirEntries g ls n nx plane es → Quiet g ls (u_of (cells g) s)
      → t ≡ jacobi g ls (b_of (cells g) s) (u_of (cells g) s) ++ (b_of (cells g) s ++ (u_of (cells g) s ++ drop (3 * cells g) s))
  jacobi_entries_is e r w g ls a q =
      let k : n ≡ cells g = a.entries.n_is in
      let h : 3 * n ≤ length s = omega (arith, r.fields, r.zero_in) in
      let e' : m ≡ take (2 * cells g) s ++ (take (cells g) s ++ drop (3 * cells g) s) = e ∙ ap (λ n. take (2 * n) s ++ (take n s ++ drop (3 * n) s)) k in
      w g ls a.entries
      ∙ jacobi_covered g ls (cells_of es) a.covers (u_of (cells g) s) (b_of (cells g) s) (drop (3 * cells g) s) m (kept_laid (cells g) s m (omega arith) e') q

  pub residual_entries_is : m ≡ take (2 * n) s ++ (tab n (λ c. +0) ++ drop (2 * n + n) s) → AllRead n nx plane z (length s) es
      → ((g : Sides) (ls : List ℕ) → Entries g ls n nx plane es → t ≡ written (2 * n) (residue_new g ls) (cells_of es) m)
      → (g : Sides) (ls : List ℕ) → AirEntries g ls n nx plane es
      → t ≡ u_of (cells g) s ++ (b_of (cells g) s ++ (residue g ls (b_of (cells g) s) (u_of (cells g) s) ++ drop (3 * cells g) s))
  residual_entries_is e r w g ls a =
      let k : n ≡ cells g = a.entries.n_is in
      let h : 3 * n ≤ length s = omega (arith, r.fields, r.zero_in) in
      let e' : m ≡ take (2 * cells g) s ++ (tab (cells g) (λ c. +0) ++ drop (2 * cells g + cells g) s) = e ∙ ap (λ n. take (2 * n) s ++ (tab n (λ c. +0) ++ drop (2 * n + n) s)) k in
      w g ls a.entries ∙ ap (λ n. written (2 * n) (residue_new g ls) (cells_of es) m) k
      ∙ residue_covered g ls (cells_of es) a.covers (u_of (cells g) s) (b_of (cells g) s) (drop (3 * cells g) s) m (cleared_laid (cells g) s m (omega arith) e')
