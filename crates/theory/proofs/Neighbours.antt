-- Face neighbours: the numbers around a cell, and around those the cell. Assumes nothing.
use mathlib.Core.Path.{◌≡◌, refl, sym, ap, ◌∙◌}
use mathlib.Core.Logic.{◌⊎◌, inl, inr, ⊎_elim}
use mathlib.Core.Bool.{true, cond}
use mathlib.Core.List.Memᴰ
use mathlib.Core.List.{List, [], ◌∷◌, Memᴰ}
use Prim.Native.Nat.{ℕ, ◌+◌, ◌-◌, ◌*◌, ◌/◌, ◌%◌, ◌<◌, ◌≤◌}
use native.Mathlib.Nat.{mod-lt, mod_self, mod-add-mod, mod-eq_of_lt, div-eq_of_lt, zero-mod, add-div_right, mul-pos, mul-le-mul_left, mul-mod_right, div-lt_iff_lt-mul, eq-or-lt_of_le}
use native.Mathlib.Decide.{ℕ_discrete}
use native.Mathlib.Omega.{arith, by_contra}
use borrow.Author.Tests.{lt-ltb, le-ltb}
use Rattle.method.specs.declared.Sides.{Sides}
use Rattle.method.specs.Cast.{Axis, cells, axes, along, back, on, beside, around, sides_fit}
use Rattle.theory.specs.Walks.{Beside}
use Rattle.laws.proofs.Naturals.{le_or_lt}
use Rattle.theory.proofs.Hits.{same, same_yes, same_no, hits, mem_hits, hits_mem}
use Rattle.theory.specs.Sides.{x_axis, y_axis, z_axis}
use Rattle.theory.proofs.Sides.{fit}

-- ---- one axis: a step back and a step on, where there is one
pub back_yes : (n : ℕ) (a : Axis) (c : ℕ) → 0 < along a c → back n a c ≡ c - a.stride
unfolding back
back_yes n a c h = ap (λ b. cond b (c - a.stride) n) (lt-ltb 0 (along a c) h)

pub back_no : (n : ℕ) (a : Axis) (c : ℕ) → along a c ≤ 0 → back n a c ≡ n
unfolding back
back_no n a c h = ap (λ b. cond b (c - a.stride) n) (le-ltb 0 (along a c) h)

pub on_yes : (n : ℕ) (a : Axis) (c : ℕ) → along a c + 1 < a.side → on n a c ≡ c + a.stride
unfolding on
on_yes n a c h = ap (λ b. cond b (c + a.stride) n) (lt-ltb (along a c + 1) a.side h)

pub on_no : (n : ℕ) (a : Axis) (c : ℕ) → a.side ≤ along a c + 1 → on n a c ≡ n
unfolding on
on_no n a c h = ap (λ b. cond b (c + a.stride) n) (le-ltb (along a c + 1) a.side h)

-- a step back that there is goes to no number below 0
pub back_far : (a : Axis) (c : ℕ) → 0 < along a c → a.stride ≤ c
unfolding along
back_far a c p = by_contra a.stride c (λ b. omega (arith, p, ap (λ q. q % a.side) (div-eq_of_lt b), zero-mod a.side))

next_mod : (q m : ℕ) → q % m + 1 < m → (q + 1) % m ≡ q % m + 1
next_mod q m h = sym (mod-add-mod q m 1) ∙ mod-eq_of_lt h

wrap_mod : (q m : ℕ) → 0 < m → m ≤ q % m + 1 → (q + 1) % m ≡ 0
wrap_mod q m h k = sym (mod-add-mod q m 1) ∙ ap (λ x. x % m) full ∙ mod_self m
  where
    full : q % m + 1 ≡ m
    full = omega (arith, mod-lt q h)

-- an axis of n cells: its stride and side are positive, and whole axes fill the cells
pub record Good (n : ℕ) (a : Axis) : Type 0 where
  pub stride_pos : 0 < a.stride
  pub side_pos : 0 < a.side
  pub times : ℕ
  pub fills : n ≡ a.side * times * a.stride

-- the coordinate one step on
along_on : (a : Axis) (c : ℕ) → 0 < a.stride → along a (c + a.stride) ≡ (c / a.stride + 1) % a.side
unfolding along
along_on a c h = ap (λ q. q % a.side) (add-div_right c h)

along_next : (a : Axis) (c : ℕ) → 0 < a.stride → along a c + 1 < a.side → along a (c + a.stride) ≡ along a c + 1
unfolding along
along_next a c h k = along_on a c h ∙ next_mod (c / a.stride) a.side k

along_wrap : (a : Axis) (c : ℕ) → 0 < a.stride → 0 < a.side → a.side ≤ along a c + 1 → along a (c + a.stride) ≡ 0
unfolding along
along_wrap a c h m k = along_on a c h ∙ wrap_mod (c / a.stride) a.side m k

module _ (n : ℕ) (a : Axis) (g : Good n a) (i j : ℕ) (l : i < n) (k : j < n) where
  back_on : back n a i ≡ j → on n a j ≡ i
  back_on e = ⊎_elim
      (λ z. absurd (omega (arith, e, back_no n a i z)))
      (λ p. let ij : i ≡ j + a.stride = omega (arith, e, back_yes n a i p, back_far a i p) in
      let p' : 0 < along a (j + a.stride) = rw (← ij) p in
      ⊎_elim
      (λ w. absurd (omega (arith, p', along_wrap a j g.stride_pos g.side_pos w)))
      (λ b. on_yes n a j b ∙ sym ij)
      (le_or_lt a.side (along a j + 1)))
      (le_or_lt (along a i) 0)

  on_back : on n a j ≡ i → back n a i ≡ j
  on_back e = ⊎_elim
      (λ w. absurd (omega (arith, e, on_no n a j w)))
      (λ b. let ij : i ≡ j + a.stride = omega (arith, e, on_yes n a j b) in
      let p : along a i ≡ along a j + 1 = ap (along a) ij ∙ along_next a j g.stride_pos b in
      omega (arith, back_yes n a i (omega arith)))
      (le_or_lt a.side (along a j + 1))

same_iff : (a b c d : ℕ) → (a ≡ b → c ≡ d) → (c ≡ d → a ≡ b) → same a b ≡ same c d
same_iff a b c d f g = go (ℕ_discrete a b)
  where
    go : Dec (a ≡ b) → same a b ≡ same c d
    go (yes p) = same_yes a b p ∙ sym (same_yes c d (f p))
    go (no p) = same_no a b p ∙ sym (same_no c d (λ q. p (g q)))

-- how often i leads to j along one axis
abbrev pub between : ℕ → Axis → ℕ → ℕ → ℕ
between n a i j = same (back n a i) j + same (on n a i) j

pub link_sym : (n : ℕ) (a : Axis) → Good n a → (i j : ℕ) → i < n → j < n → between n a i j ≡ between n a j i
link_sym n a g i j l k = omega (
  arith,
  same_iff (back n a i) j (on n a j) i (back_on n a g i j l k) (on_back n a g i j l k),
  same_iff (back n a j) i (on n a i) j (back_on n a g j i k l) (on_back n a g j i k l),
)

-- ---- a list of axes
abbrev pub AllGood : ℕ → List Axis → Type 0
AllGood n [] = Unit {0}
AllGood n (a ∷ l) = Good n a × AllGood n l

pub beside_hits_sym : (n : ℕ) (b : List Axis) → AllGood n b → (i j : ℕ) → i < n → j < n → hits (beside n b i) j ≡ hits (beside n b j) i
unfolding beside hits
beside_hits_sym n [] g i j l k = refl
beside_hits_sym n (a ∷ b) g i j l k = omega (arith, link_sym n a g.0 i j l k, beside_hits_sym n b g.1 i j l k)

-- ---- the box
pub axes_good : (s : Sides) → 0 < s.nx → 0 < s.ny → 0 < s.nz → AllGood (cells s) (axes s)
unfolding cells axes
axes_good s hx hy hz = (
  record { stride_pos = omega arith; side_pos = hx; times = s.ny * s.nz; fills = omega arith },
  (
    record { stride_pos = hx; side_pos = hy; times = s.nz; fills = omega arith },
    (record { stride_pos = mul-pos hx hy; side_pos = hz; times = 1; fills = omega arith }, tt),
  ),
)

-- THE CLAIM: j is as often around i as i is around j
pub around_sym' : (s : Sides) → 0 < s.nx → 0 < s.ny → 0 < s.nz → (i j : ℕ) → i < cells s → j < cells s → hits (around s i) j ≡ hits (around s j) i
unfolding around
around_sym' s hx hy hz i j l k = beside_hits_sym (cells s) (axes s) (axes_good s hx hy hz) i j l k

pub around_sym : (s : Sides) → sides_fit s ≡ true → (i j : ℕ) → i < cells s → j < cells s → hits (around s i) j ≡ hits (around s j) i
around_sym s e i j l k = let f = fit s e in around_sym' s f.nx_one f.ny_one f.nz_one i j l k

pub beside_sym' : (s : Sides) → 0 < s.nx → 0 < s.ny → 0 < s.nz → (i j : ℕ) → i < cells s → j < cells s → Beside s i j → Beside s j i
beside_sym' s hx hy hz i j l k m = hits_mem (around s j) i (omega (arith, mem_hits (around s i) j m, around_sym' s hx hy hz i j l k))

pub beside_sym : (s : Sides) → sides_fit s ≡ true → (i j : ℕ) → i < cells s → j < cells s → Beside s i j → Beside s j i
beside_sym s e i j l k m = let f = fit s e in beside_sym' s f.nx_one f.ny_one f.nz_one i j l k m

-- ---- a neighbour is a cell, or the place outside
on_near : (q m t : ℕ) → q < m * t → q % m + 1 < m → q + 1 < m * t
on_near q m t h k = ⊎_elim
    (λ e. absurd (omega (arith, next_mod q m k, ap (λ x. x % m) e, mul-mod_right m t)))
    (λ l. l)
    (eq-or-lt_of_le full)
  where
    full : q + 1 ≤ m * t
    full = omega arith

on_in : (n : ℕ) (a : Axis) → Good n a → (c : ℕ) → c < n → along a c + 1 < a.side → c + a.stride < n
unfolding along
on_in n a g c l k =
    let h : c < a.side * g.times * a.stride = omega (arith, l, g.fills) in
    let q : (c + a.stride) / a.stride < a.side * g.times =
    rw (add-div_right c g.stride_pos) (on_near (c / a.stride) a.side g.times ((div-lt_iff_lt-mul g.stride_pos).1 h) k) in
    omega (arith, (div-lt_iff_lt-mul g.stride_pos).0 q, g.fills)

back_in : (n : ℕ) (a : Axis) (c : ℕ) → c < n → (back n a c < n) ⊎ (back n a c ≡ n)
back_in n a c l = ⊎_elim
    (λ z. inr (back_no n a c z))
    (λ p. inl (omega (arith, back_yes n a c p)))
    (le_or_lt (along a c) 0)

on_in' : (n : ℕ) (a : Axis) → Good n a → (c : ℕ) → c < n → (on n a c < n) ⊎ (on n a c ≡ n)
on_in' n a g c l = ⊎_elim
    (λ z. inr (on_no n a c z))
    (λ p. inl (omega (arith, on_yes n a c p, on_in n a g c l p)))
    (le_or_lt a.side (along a c + 1))

moved : (n j x : ℕ) → j ≡ x → (x < n) ⊎ (x ≡ n) → (j < n) ⊎ (j ≡ n)
moved n j x e h = ⊎_elim (λ l. inl (omega arith)) (λ p. inr (e ∙ p)) h

pub beside_mem_in : (n : ℕ) (b : List Axis) → AllGood n b → (i j : ℕ) → i < n → Memᴰ j (beside n b i) → (j < n) ⊎ (j ≡ n)
unfolding beside
beside_mem_in n [] g i j l m = absurd (Memᴰ.not-nil m)
beside_mem_in n (a ∷ b) g i j l m = ⊎_elim
    (λ e. moved n j (back n a i) e (back_in n a i l))
    (λ r. ⊎_elim (λ e. moved n j (on n a i) e (on_in' n a g.0 i l)) (λ r'. beside_mem_in n b g.1 i j l r') (Memᴰ.cases_cons r))
    (Memᴰ.cases_cons m)

pub beside_in' : (s : Sides) → 0 < s.nx → 0 < s.ny → 0 < s.nz → (i j : ℕ) → i < cells s → Beside s i j → (j < cells s) ⊎ (j ≡ cells s)
unfolding around
beside_in' s hx hy hz i j l m = beside_mem_in (cells s) (axes s) (axes_good s hx hy hz) i j l m

pub beside_in : (s : Sides) → sides_fit s ≡ true → (i j : ℕ) → i < cells s → Beside s i j → (j < cells s) ⊎ (j ≡ cells s)
beside_in s e i j l m = let f = fit s e in beside_in' s f.nx_one f.ny_one f.nz_one i j l m

-- ---- a cell is a neighbour of another once at most, and of itself never
abbrev pub far : ℕ → ℕ → ℕ
far i j = (i - j) + (j - i)

-- a step that there is has the stride for its length, and the axis has two cells at least
pub record Hop (a : Axis) (i j : ℕ) : Type 0 where
  pub long : 2 ≤ a.side
  pub length : far i j ≡ a.stride

along_lt : (a : Axis) (c : ℕ) → 0 < a.side → along a c < a.side
unfolding along
along_lt a c h = mod-lt (c / a.stride) h

module _ (n : ℕ) (a : Axis) (g : Good n a) (i j : ℕ) (k : j < n) where
  back_way : back n a i ≡ j → (i ≡ j + a.stride) × Hop a i j
  back_way e = ⊎_elim
      (λ z. absurd (omega (arith, e, back_no n a i z)))
      (λ p. let ij : i ≡ j + a.stride = omega (arith, e, back_yes n a i p, back_far a i p) in
      (ij, record { long = omega (arith, p, along_lt a i g.side_pos); length = omega arith }))
      (le_or_lt (along a i) 0)

  on_way : on n a i ≡ j → (j ≡ i + a.stride) × Hop a i j
  on_way e = ⊎_elim
      (λ z. absurd (omega (arith, e, on_no n a i z)))
      (λ p. let ij : j ≡ i + a.stride = omega (arith, e, on_yes n a i p) in
      (ij, record { long = omega (arith, p); length = omega arith }))
      (le_or_lt a.side (along a i + 1))

  -- at most one of the two
  pub link_one : (between n a i j ≡ 0) ⊎ ((between n a i j ≡ 1) × Hop a i j)
  link_one = go (ℕ_discrete (back n a i) j) (ℕ_discrete (on n a i) j)
    where
      go : Dec (back n a i ≡ j) → Dec (on n a i ≡ j) → (between n a i j ≡ 0) ⊎ ((between n a i j ≡ 1) × Hop a i j)
      go (yes p) (yes q) = absurd (omega (arith, (back_way p).0, (on_way q).0, g.stride_pos))
      go (yes p) (no q) = inr (omega (arith, same_yes (back n a i) j p, same_no (on n a i) j q), (back_way p).1)
      go (no p) (yes q) = inr (omega (arith, same_no (back n a i) j p, same_yes (on n a i) j q), (on_way q).1)
      go (no p) (no q) = inl (omega (arith, same_no (back n a i) j p, same_no (on n a i) j q))

abbrev pub links : Sides → ℕ → ℕ → ℕ
links s i j = between (cells s) (x_axis s) i j + (between (cells s) (y_axis s) i j + between (cells s) (z_axis s) i j)

pub around_links : (s : Sides) (i j : ℕ) → hits (around s i) j ≡ links s i j
unfolding around axes beside hits
around_links s i j = omega arith

-- the strides of two axes of which the shorter one is long are different
module _ (s : Sides) (hx : 0 < s.nx) (hy : 0 < s.ny) (i j : ℕ) where
  not_xy : Hop (x_axis s) i j → Hop (y_axis s) i j → ⊥
  not_xy p q = omega (arith, p.long, p.length, q.length)

  not_xz : Hop (x_axis s) i j → Hop (z_axis s) i j → ⊥
  not_xz p q = omega (arith, p.long, p.length, q.length, mul-le-mul_left s.nx hy)

  not_yz : Hop (y_axis s) i j → Hop (z_axis s) i j → ⊥
  not_yz p q = omega (arith, p.length, q.length, mul-le-mul_left s.nx p.long)

pub distinct' : (s : Sides) → 0 < s.nx → 0 < s.ny → 0 < s.nz → (i j : ℕ) → i < cells s → j < cells s → hits (around s i) j ≤ 1
unfolding axes
distinct' s hx hy hz i j l k = rw around_links (go (at (x_axis s) g.0) (at (y_axis s) g.1.0) (at (z_axis s) g.1.1.0))
  where
    n : ℕ
    n = cells s

    g : AllGood (cells s) (axes s)
    g = axes_good s hx hy hz

    at : (a : Axis) → Good n a → (between n a i j ≡ 0) ⊎ ((between n a i j ≡ 1) × Hop a i j)
    at a h = link_one n a h i j k

    go : (between n (x_axis s) i j ≡ 0) ⊎ ((between n (x_axis s) i j ≡ 1) × Hop (x_axis s) i j)
        → (between n (y_axis s) i j ≡ 0) ⊎ ((between n (y_axis s) i j ≡ 1) × Hop (y_axis s) i j)
        → (between n (z_axis s) i j ≡ 0) ⊎ ((between n (z_axis s) i j ≡ 1) × Hop (z_axis s) i j) → links s i j ≤ 1
    go (inl x) (inl y) (inl z) = omega arith
    go (inl x) (inl y) (inr z) = omega arith
    go (inl x) (inr y) (inl z) = omega arith
    go (inl x) (inr y) (inr z) = absurd (not_yz s hx hy i j y.1 z.1)
    go (inr x) (inl y) (inl z) = omega arith
    go (inr x) (inl y) (inr z) = absurd (not_xz s hx hy i j x.1 z.1)
    go (inr x) (inr y) z = absurd (not_xy s hx hy i j x.1 y.1)

pub distinct : (s : Sides) → sides_fit s ≡ true → (i j : ℕ) → i < cells s → j < cells s → hits (around s i) j ≤ 1
distinct s e i j l k = let f = fit s e in distinct' s f.nx_one f.ny_one f.nz_one i j l k

link_self : (n : ℕ) (a : Axis) → Good n a → (i : ℕ) → i < n → between n a i i ≡ 0
link_self n a g i l = ⊎_elim (λ e. e) (λ p. absurd (omega (arith, p.1.length, g.stride_pos))) (link_one n a g i i l)

pub not_self' : (s : Sides) → 0 < s.nx → 0 < s.ny → 0 < s.nz → (i : ℕ) → i < cells s → hits (around s i) i ≡ 0
unfolding axes
not_self' s hx hy hz i l =
    let g = axes_good s hx hy hz in
    rw around_links (omega (arith, link_self (cells s) (x_axis s) g.0 i l, link_self (cells s) (y_axis s) g.1.0 i l, link_self (cells s) (z_axis s) g.1.1.0 i l))

pub not_self : (s : Sides) → sides_fit s ≡ true → (i : ℕ) → i < cells s → hits (around s i) i ≡ 0
not_self s e i l = let f = fit s e in not_self' s f.nx_one f.ny_one f.nz_one i l
