-- A sweep in the order of i + j + k is the sweep in ascending number: a face neighbour of lower number is of a lower
-- wave. Assumes nothing.
use Prim.Native.Nat.{ℕ, zero, suc, ◌+◌, ◌-◌, ◌*◌, ◌<◌, ◌≤◌}
use mathlib.Core.Path.{◌≡◌, refl, sym, ap, ◌∙◌}
use mathlib.Core.Logic.{◌⊎◌, inl, inr, ⊎_elim}
use mathlib.Core.Bool.{Bool, true, false, ◌&&◌, false≢true}
use mathlib.Core.List.{List, [], ◌∷◌, ◌++◌}
use native.Mathlib.Decide.{ℕ_discrete}
use native.Mathlib.Nat.{mul-le-mul_left, eq-or-lt_of_le}
use native.Mathlib.Omega.{arith}
use borrow.Author.Tests.{lt-ltb, le-leb, ltb-true, leb-true}
use lib.Dec.{ltb, leb}
use lib.ListN.{length, get_or}
use lib.Ieee.{Float}
use Rattle.laws.specs.Loops.{up, down}
use Rattle.laws.specs.Lists.{kept, chosen}
use Rattle.laws.proofs.Naturals.{le_or_lt}
use Rattle.method.specs.declared.Sides.{Sides}
use Rattle.method.specs.Cast.{cells, along, number}
use Rattle.method.specs.Cycle.{relaxed}
use Rattle.theory.specs.Walks.{Beside}
use Rattle.theory.specs.Waves.{strung, on_wave, wave_cell, wave_line, wave_of, waves}
use Rattle.theory.proofs.Hits.{same_yes, same_no, hits}
use Rattle.theory.specs.Sides.{x_axis, y_axis, z_axis}
use Rattle.theory.proofs.Places.{Spot, spot_of, spot_lt, x_along, y_along, z_along, Face, beside_near}
use Rattle.theory.proofs.Orders.{hits_append, hits_at, Sorted, sorted_append, Orders, up_order, down_order, same_length}
use Rattle.theory.proofs.Relaxed.{relaxed_swap}

-- the wave of a cell
unfoldable pub wave : Sides → ℕ → ℕ
wave s c = along (x_axis s) c + along (y_axis s) c + along (z_axis s) c

wave_spot : (s : Sides) (c x y z : ℕ) → Spot s c x y z → wave s c ≡ x + y + z
unfolding wave
wave_spot s c x y z p = omega (arith, x_along s c x y z p, y_along s c x y z p, z_along s c x y z p)

-- ---- face neighbours: the lower number has the lower wave
abbrev Lower : Sides → ℕ → ℕ → Type 0
Lower s c j = (c < j) × (wave s c < wave s j)

upward : {s : Sides} {c x y z j x' y' z' : ℕ} → Spot s c x y z → Spot s j x' y' z' → x ≤ x' → y ≤ y' → z ≤ z' → x + y + z < x' + y' + z' → Lower s c j
upward {s} {c} {x} {y} {z} {j} {x'} {y'} {z'} p q a b d h =
    let r : s.ny * z ≤ s.ny * z' = mul-le-mul_left s.ny d in
    let t : s.nx * (y + s.ny * z) ≤ s.nx * (y' + s.ny * z') = mul-le-mul_left s.nx (omega arith) in
    let less : wave s c < wave s j = omega (arith, wave_spot s c x y z p, wave_spot s j x' y' z' q) in
    (⊎_elim (λ e. absurd (omega (arith, ap (wave s) e))) (λ l. l) (eq-or-lt_of_le (omega (arith, p.is, q.is))), less)

module _ (s : Sides) (c x y z : ℕ) (p : Spot s c x y z) (j x' y' z' : ℕ) (q : Spot s j x' y' z') where
  lower : Face x y z x' y' z' → Lower s c j ⊎ Lower s j c
  lower (inl (inl e, f, g)) = inl (upward p q (omega arith) (omega arith) (omega arith) (omega arith))
  lower (inl (inr e, f, g)) = inr (upward q p (omega arith) (omega arith) (omega arith) (omega arith))
  lower (inr (inl (e, inl f, g))) = inl (upward p q (omega arith) (omega arith) (omega arith) (omega arith))
  lower (inr (inl (e, inr f, g))) = inr (upward q p (omega arith) (omega arith) (omega arith) (omega arith))
  lower (inr (inr (e, f, inl g))) = inl (upward p q (omega arith) (omega arith) (omega arith) (omega arith))
  lower (inr (inr (e, f, inr g))) = inr (upward q p (omega arith) (omega arith) (omega arith) (omega arith))

pub beside_lower : (s : Sides) (c j : ℕ) → c < cells s → j < cells s → Beside s c j → Lower s c j ⊎ Lower s j c
beside_lower s c j h k m =
    let n = beside_near s c (along (x_axis s) c) (along (y_axis s) c) (along (z_axis s) c) (spot_of s c h) j k m in
    lower s c (along (x_axis s) c) (along (y_axis s) c) (along (z_axis s) c) (spot_of s c h) j n.0 n.1 n.2 n.3 n.4

-- cells that their numbers and their waves put opposite ways round are no neighbours, and so commute
module _ (s : Sides) (c e : ℕ) (h : c < cells s) (k : e < cells s) (up_to_lem : c ≤ e) (down_to : wave s e ≤ wave s c) where
  no_lower : Lower s c e ⊎ Lower s e c → ⊥
  no_lower r = ⊎_elim (λ (a : Lower s c e). omega arith) (λ (a : Lower s e c). omega arith) r

  apart : Beside s c e → ⊥
  apart m = no_lower (beside_lower s c e h k m)

  apart' : Beside s e c → ⊥
  apart' m = ⊎_elim (λ (a : Lower s e c). omega arith) (λ (a : Lower s c e). omega arith) (beside_lower s e c k h m)

-- ---- lists strung together
nothing : {m : ℕ} → (1 ≤ m → ⊥) → m ≡ 0
nothing {m} h = ⊎_elim (λ a. absurd (h a)) (λ a. omega arith) (le_or_lt 1 m)

module _ (f : ℕ → List ℕ) (c : ℕ) where
  strung_some : (n : ℕ) → 1 ≤ hits (strung f n) c → (i : ℕ) × (i < n) × (1 ≤ hits (f i) c)
  unfolding strung hits
  strung_some zero h = absurd (omega arith)
  strung_some (suc n) h = ⊎_elim
      (λ k. (n, omega arith, k))
      (λ k. let r = strung_some n (omega (arith, hits_append (strung f n) (f n) c)) in (r.0, omega (arith, r.1), r.2))
      (le_or_lt 1 (hits (f n) c))

  strung_one : (n i : ℕ) → i < n → ((k : ℕ) → k < n → 1 ≤ hits (f k) c → k ≡ i) → hits (strung f n) c ≡ hits (f i) c
  unfolding strung
  strung_one zero i h u = absurd (omega arith)
  strung_one (suc n) i h u = ⊎_elim
      (λ k. let e : i ≡ n = omega arith in
      let none : hits (strung f n) c ≡ 0 = nothing (λ a. let r = strung_some n a in omega (arith, u r.0 (omega (arith, r.1)) r.2, r.1)) in
      omega (arith, hits_append (strung f n) (f n) c, ap (λ m. hits (f m) c) e))
      (λ k. let none : hits (f n) c ≡ 0 = nothing (λ a. omega (arith, u n (omega arith) a)) in
      omega (arith, hits_append (strung f n) (f n) c, strung_one n i k (λ m l. u m (omega arith))))
      (le_or_lt n i)

-- waves that each have one key, one after the other
strung_sorted : (key : ℕ → ℕ) (f : ℕ → List ℕ) → ((i c : ℕ) → 1 ≤ hits (f i) c → key c ≡ i) → ((i : ℕ) → Sorted key (f i)) → (n : ℕ) → Sorted key (strung f n)
unfolding strung
strung_sorted key f e h zero = tt
strung_sorted key f e h (suc n) =
    sorted_append key (strung f n) (f n) (strung_sorted key f e h n) (h n)
    (λ x y a b. let r = strung_some f x n a in omega (arith, e r.0 x r.2, e n y b, r.1))

-- a list of one key
flat : (key : ℕ → ℕ) (i : ℕ) (l : List ℕ) → ((c : ℕ) → 1 ≤ hits l c → key c ≡ i) → Sorted key l
unfolding hits
flat key i [] h = tt
flat key i (x ∷ l) h =
    (λ y k. omega (arith, h x (omega (arith, same_yes x x refl)), h y (omega arith)), flat key i l (λ c k. h c (omega arith)))

-- ---- the numbers that pass a test, ascending
hits_kept : (t : Bool) (x c : ℕ) → 1 ≤ hits (kept t x) c → (t ≡ true) × (x ≡ c)
unfolding hits kept
hits_kept true x c h = go (ℕ_discrete x c)
  where
    go : Dec (x ≡ c) → (true ≡ true) × (x ≡ c)
    go (yes e) = (refl, e)
    go (no e) = absurd (omega (arith, same_no x c e))
hits_kept false x c h = absurd (omega arith)

chosen_strung : (p : ℕ → Bool) (n : ℕ) → chosen p n ≡ strung (λ c. kept (p c) c) n
unfolding chosen strung
chosen_strung p zero = refl
chosen_strung p (suc n) = ap (λ l. l ++ kept (p n) n) (chosen_strung p n)

pub chosen_hit : (p : ℕ → Bool) (n c : ℕ) → 1 ≤ hits (chosen p n) c → c < n
chosen_hit p n c h =
    let r = strung_some (λ c. kept (p c) c) c n (rw chosen_strung at h) in
    omega (arith, r.1, (hits_kept (p r.0) r.0 c r.2).1)

pub chosen_pass : (p : ℕ → Bool) (n c : ℕ) → 1 ≤ hits (chosen p n) c → p c ≡ true
chosen_pass p n c h =
    let r = strung_some (λ c. kept (p c) c) c n (rw chosen_strung at h) in
    let q = hits_kept (p r.0) r.0 c r.2 in
    ap p (sym q.1) ∙ q.0

chosen_sorted : (p : ℕ → Bool) (n : ℕ) → Sorted (λ c. c) (chosen p n)
chosen_sorted p n = rw chosen_strung
    (strung_sorted (λ c. c) (λ c. kept (p c) c) (λ i c h. sym (hits_kept (p i) i c h).1)
    (λ i. flat (λ c. c) i (kept (p i) i) (λ c h. sym (hits_kept (p i) i c h).1)) n)

hits_chosen : (p : ℕ → Bool) (n c : ℕ) → c < n → hits (chosen p n) c ≡ hits (kept (p c) c) c
hits_chosen p n c h = rw chosen_strung (strung_one (λ c. kept (p c) c) c n c h (λ k l a. (hits_kept (p k) k c a).1))

-- ---- the waves
both : (a b : Bool) → a && b ≡ true → (a ≡ true) × (b ≡ true)
both true b e = (refl, e)
both false b e = absurd (false≢true e)

module _ (s : Sides) (p : ℕ → Bool) (c : ℕ) where
  -- c stands in the list of w, k and j only if it is that cell
  cell_hit : (w k j : ℕ) → j < s.ny → k < s.nz → 1 ≤ hits (wave_cell s p w k j) c → (j + k ≤ w) × Spot s c (w - (j + k)) j k
  unfolding wave_cell on_wave number
  cell_hit w k j a b h =
      let r = hits_kept (on_wave s w k j && p (number s (w - (j + k)) j k)) (number s (w - (j + k)) j k) c h in
      let t : leb (j + k) w && ltb (w - (j + k)) s.nx ≡ true = (both (leb (j + k) w && ltb (w - (j + k)) s.nx) (p (number s (w - (j + k)) j k)) r.0).0 in
      let v = both (leb (j + k) w) (ltb (w - (j + k)) s.nx) t in
      (leb-true (j + k) w v.0, record { x_in = ltb-true (w - (j + k)) s.nx v.1; y_in = a; z_in = b; is = sym r.1 })

  line_hit : (w k : ℕ) → k < s.nz → 1 ≤ hits (wave_line s p w k) c → (j : ℕ) × (j < s.ny) × (j + k ≤ w) × Spot s c (w - (j + k)) j k
  line_hit w k b h =
      let r = strung_some (wave_cell s p w k) c s.ny h in
      let q = cell_hit w k r.0 r.1 b r.2 in
      (r.0, r.1, q.0, q.1)

  wave_hit : (w : ℕ) → 1 ≤ hits (wave_of s p w) c → (c < cells s) × (wave s c ≡ w)
  wave_hit w h =
      let r = strung_some (wave_line s p w) c s.nz h in
      let k = r.0 in
      let q = line_hit w k r.1 r.2 in
      let j = q.0 in
      (spot_lt s c (w - (j + k)) j k q.3, omega (arith, wave_spot s c (w - (j + k)) j k q.3, q.2))

  pub waves_hit : 1 ≤ hits (waves s p) c → c < cells s
  unfolding waves
  waves_hit h = let r = strung_some (wave_of s p) c (s.nx + s.ny + s.nz) h in (wave_hit r.0 r.2).0

  module _ (h : c < cells s) where
    x : ℕ
    x = along (x_axis s) c

    y : ℕ
    y = along (y_axis s) c

    z : ℕ
    z = along (z_axis s) c

    here : Spot s c x y z
    unfolding x y z
    here = spot_of s c h

    cell_once : hits (wave_cell s p (x + y + z) z y) c ≡ hits (kept (p c) c) c
    unfolding wave_cell on_wave number
    cell_once =
        let e : x + y + z - (y + z) ≡ x = omega arith in
        let n : x + s.nx * (y + s.ny * z) ≡ c = sym here.is in
        rw (e, le-leb (y + z) (x + y + z) (omega arith), lt-ltb x s.nx here.x_in, n)

    line_once : hits (wave_line s p (x + y + z) z) c ≡ hits (kept (p c) c) c
    line_once = strung_one (wave_cell s p (x + y + z) z) c s.ny y here.y_in
        (λ j l a. let q = cell_hit (x + y + z) z j l here.z_in a in sym (y_along s c (x + y + z - (j + z)) j z q.1) ∙ y_along s c x y z here)
        ∙ cell_once

    wave_once : hits (wave_of s p (x + y + z)) c ≡ hits (kept (p c) c) c
    wave_once = strung_one (wave_line s p (x + y + z)) c s.nz z here.z_in
        (λ k l a. let q = line_hit (x + y + z) k l a in sym (z_along s c (x + y + z - (q.0 + k)) q.0 k q.3) ∙ z_along s c x y z here)
        ∙ line_once

    waves_once : hits (waves s p) c ≡ hits (kept (p c) c) c
    unfolding waves
    waves_once = strung_one (wave_of s p) c (s.nx + s.ny + s.nz) (x + y + z) (omega (arith, here.x_in, here.y_in, here.z_in))
        (λ w l a. sym (wave_hit w a).1 ∙ wave_spot s c x y z here)
        ∙ wave_once

  -- what is in the waves is what is chosen
  pub waves_chosen : hits (chosen p (cells s)) c ≡ hits (waves s p) c
  waves_chosen = ⊎_elim
      (λ o. nothing (λ a. omega (arith, chosen_hit p (cells s) c a)) ∙ sym (nothing (λ a. omega (arith, waves_hit a))))
      (λ l. hits_chosen p (cells s) c l ∙ sym (waves_once l))
      (le_or_lt (cells s) c)

module _ (s : Sides) (p : ℕ → Bool) where
  waves_sorted : Sorted (wave s) (waves s p)
  unfolding waves
  waves_sorted = strung_sorted (wave s) (wave_of s p) (λ w c h. (wave_hit s p c w h).1)
      (λ w. flat (wave s) w (wave_of s p w) (λ c h. (wave_hit s p c w h).1)) (s.nx + s.ny + s.nz)

  pub waves_length : length (waves s p) ≡ length (chosen p (cells s))
  waves_length = same_length (waves s p) (chosen p (cells s)) (λ c. sym (waves_chosen s p c))

  pub waves_below : (k : ℕ) → k < length (waves s p) → get_or (waves s p) k 0 < cells s
  waves_below k h = waves_hit s p (get_or (waves s p) k 0) (hits_at (waves s p) k h)

  pub waves_pass : (k : ℕ) → k < length (waves s p) → p (get_or (waves s p) k 0) ≡ true
  waves_pass k h = let c = get_or (waves s p) k 0 in chosen_pass p (cells s) c (omega (arith, waves_chosen s p c, hits_at (waves s p) k h))

-- ---- THE LAWS: over the waves of the cells that pass a test, and over those cells in ascending number
module _ (s : Sides) (ls : List ℕ) (at : ℕ → Bool) (b : List Float) (p : ℕ → Bool) where
  waves_order : Orders (relaxed s ls at b) (λ c. c) (wave s) (chosen p (cells s)) (waves s p)
  waves_order = record {
    sorted = chosen_sorted p (cells s);
    sorted' = waves_sorted s p;
    same_hits = waves_chosen s p;
    swaps = λ x y h k a d.
        let l = chosen_hit p (cells s) x h in
        let m = chosen_hit p (cells s) y k in
        relaxed_swap s ls at b x y (apart s x y l m a d) (apart' s x y l m a d);
  }

  pub wave_up : (u : List Float)
      → up (λ k. relaxed s ls at b (get_or (waves s p) k 0)) (length (waves s p)) u ≡ up (λ k. relaxed s ls at b (get_or (chosen p (cells s)) k 0)) (length (chosen p (cells s))) u
  wave_up u = sym (up_order (relaxed s ls at b) (λ c. c) (wave s) (chosen p (cells s)) (waves s p) waves_order u)

  pub wave_down : (u : List Float)
      → down (λ k. relaxed s ls at b (get_or (waves s p) k 0)) (length (waves s p)) u ≡ down (λ k. relaxed s ls at b (get_or (chosen p (cells s)) k 0)) (length (chosen p (cells s))) u
  wave_down u = sym (down_order (relaxed s ls at b) (λ c. c) (wave s) (chosen p (cells s)) (waves s p) waves_order u)
