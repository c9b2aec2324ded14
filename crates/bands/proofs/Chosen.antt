-- Laws of module `lists`: the cells so far that pass a test stand in the room, wave by wave, and there is room for the
-- next. Assumes nothing.
use Prim.Native.Nat.{ℕ, zero, suc, ◌+◌, ◌-◌, ◌≤◌, ◌<◌}
use mathlib.Core.Path.{◌≡◌, refl, sym, ap, ap₂, ◌∙◌}
use mathlib.Core.Bool.{Bool, true, false, cond, not, ◌&&◌, false≢true}
use mathlib.Core.List.{List, [], ◌∷◌, ◌++◌, map}
use native.Mathlib.Numerals.{add-one}
use native.Mathlib.Omega.{arith}
use borrow.Author.Rules.{rules}
use borrow.Author.Tests.{eq-eqb, ne_eqb, lt-ltb, le-ltb, le-leb, lt-leb}
use lib.Dec.{eqb}
use lib.ListN.{length, set, length-append, length-map}
use Rattle.laws.specs.Loops.{up}
use Rattle.laws.specs.Lists.{kept, chosen}
use Rattle.method.specs.declared.Sides.{Sides}
use Rattle.method.specs.Cast.{cells, number, label_at, is_air, judged, interior}
use Rattle.method.specs.Levels.{halved}
use Rattle.method.specs.Cycle.{in_band}
use Rattle.theory.specs.Waves.{strung, on_wave, wave_cell, wave_line, wave_of, waves}
use Rattle.theory.specs.Sides.{Fit}
use Rattle.theory.proofs.Numbers.{number_in}
use Rattle.theory.proofs.Children.{band_air}
use Rattle.theory.proofs.Waves.{waves_length}
use Rattle.grid.specs.Entries.{entry_of}
use Rattle.grid.proofs.Steps.{cells_most}
use Rattle.levels.specs.Rooms.{written}
use Rattle.bands.specs.Other.{BandAsked}
use Rattle.bands.specs.Lists.{smoothed, list_of, left, left_at, left_of, air_of, Placed, Listed, LevelListed}
use Rattle.levels.proofs.Labelled.{next_fit}
use Rattle.levels.proofs.Rooms.{written_none, length_written, written_on, set_written}

map_both : {A B : Type 0} (f : A → B) (l m : List A) → map f (l ++ m) ≡ map f l ++ map f m
map_both f [] m = refl
map_both f (x ∷ l) m = ap (λ r. f x ∷ r) (map_both f l m)

-- what was lent to a filling comes back: what holds of the words that the filling has holds of them
pub comes_back : {N : Type 0} {n m : N} {x y : List ℕ} (P : List ℕ → Type 0) → m ≡ n → P y → (n ≡ m → x ≡ y) → P x
comes_back P same p back = rw (back (sym same)) p

-- ---- one cell
kept_one : (b : Bool) (n : ℕ) → length (kept b n) ≡ cond b 1 0
unfolding kept
kept_one true n = refl
kept_one false n = refl

module _ (yes : Bool) (c next : ℕ) where
  pub keep_in : (n : ℕ) → yes ≡ true → next + length (kept yes c) ≤ n → next < n
  keep_in n e h = let k : length (kept yes c) ≡ 1 = kept_one yes c ∙ ap (λ b. cond b 1 0) e in omega arith

  pub placed_one : (f : ℕ → ℕ) (v : ℕ) (e : List ℕ) → yes ≡ true → v ≡ f c → next + length (kept yes c) ≤ length e → Placed f e next (kept yes c) (next + 1) (set e next v)
  unfolding kept
  placed_one f v e t q h = rw t (record { next = refl; room = ap (set e next) q ∙ set_written e next (f c) (keep_in (length e) t h) })

  pub placed_none : (f : ℕ → ℕ) (e : List ℕ) → yes ≡ false → Placed f e next (kept yes c) next e
  unfolding kept
  placed_none f e t = rw t (record { next = omega arith; room = written_none e next })

-- ---- how many pass
module _ (p : ℕ → Bool) where
  chosen_suc : (n : ℕ) → length (chosen p (suc n)) ≡ length (chosen p n) + cond (p n) 1 0
  unfolding chosen
  chosen_suc n = length-append (chosen p n) (kept (p n) n) ∙ ap (λ k. length (chosen p n) + k) (kept_one (p n) n)

  pub chosen_count : (n : ℕ) → length (chosen p n) ≡ up (λ c i. cond (p c) (i + 1) i) n 0
  unfolding up chosen
  chosen_count zero = refl
  chosen_count (suc n) = chosen_suc n ∙ go (p n) (chosen_count n)
    where
      go : (b : Bool) {k m : ℕ} → k ≡ m → k + cond b 1 0 ≡ cond b (m + 1) m
      go true e = omega arith
      go false e = omega arith

-- what passes p passes q
pub record Within (p q : ℕ → Bool) : Type 0 where
  pub at : (c : ℕ) → p c ≡ true → q c ≡ true

chosen_wider : (p q : ℕ → Bool) → Within p q → (n : ℕ) → length (chosen p n) ≤ length (chosen q n)
unfolding chosen
chosen_wider p q f zero = omega arith
chosen_wider p q f (suc n) = omega (arith, chosen_suc p n, chosen_suc q n, chosen_wider p q f n, go (p n) (q n) (f.at n))
  where
    go : (a b : Bool) → (a ≡ true → b ≡ true) → cond a 1 0 ≤ cond b 1 0
    go true true h = omega arith
    go true false h = absurd (false≢true (h refl))
    go false true h = omega arith
    go false false h = omega arith

pub air_within : (ls : List ℕ) → Within (is_air ls) (is_air ls)
air_within ls = record { at = λ c h. h }

pub band_within : (g : Sides) (ls : List ℕ) → Within (in_band g ls) (is_air ls)
band_within g ls = record { at = band_air g ls }

-- ---- lists strung together, up to the i-th of n, stand in the room
module _ (F : ℕ → ℕ) (f : ℕ → List ℕ) (e : List ℕ) (a : ℕ) where
  pub strung_none : Placed F e a (strung f 0) a e
  unfolding strung
  strung_none = record { next = omega arith; room = written_none e a }

  strung_next : (i r r' : ℕ) (s s' : List ℕ) → a ≤ length e → Placed F e a (strung f i) r s → Placed F s r (f i) r' s' → Placed F e a (strung f (suc i)) r' s'
  unfolding strung
  strung_next i r r' s s' h u v = record {
    next = omega (arith, u.next, v.next, length-append (strung f i) (f i));
    room =
        v.room
        ∙ ap₂ (λ x k. written x k (map F (f i))) u.room (u.next ∙ ap (λ k. a + k) (sym (length-map (strung f i) F)))
        ∙ written_on e a (map F (strung f i)) h (map F (f i))
        ∙ ap (written e a) (sym (map_both F (strung f i) (f i)));
  }

strung_grows : (f : ℕ → List ℕ) (i k : ℕ) → length (strung f i) ≤ length (strung f (k + i))
unfolding strung
strung_grows f i zero = let q : 0 + i ≡ i = omega arith in rw q (omega arith)
strung_grows f i (suc k) =
    let q : suc k + i ≡ suc (k + i) = omega arith in
    rw q (omega (arith, strung_grows f i k, length-append (strung f (k + i)) (f (k + i))))

strung_up : (f : ℕ → List ℕ) (i n : ℕ) → i ≤ n → length (strung f i) ≤ length (strung f n)
strung_up f i n h = let q : n - i + i ≡ n = omega arith in rw q at (strung_grows f i (n - i))

module _ (F : ℕ → ℕ) (f : ℕ → List ℕ) (e : List ℕ) (a n : ℕ) (h : a + length (strung f n) ≤ length e) (i r : ℕ) (s : List ℕ) (u : Placed F e a (strung f i) r s) where
  strung_same : i ≤ n → length s ≡ length e
  strung_same k = ap length u.room ∙ length_written e a (map F (strung f i)) (omega (arith, length-map (strung f i) F, strung_up f i n k))

  -- there is a place for the next
  strung_room : i < n → r + length (f i) ≤ length s
  unfolding strung
  strung_room k = omega (arith, u.next, strung_same (omega arith), strung_up f (suc i) n k, length-append (strung f i) (f i))

  pub strung_more : (r' : ℕ) (s' : List ℕ) → Placed F s r (f i) r' s' → Placed F e a (strung f (i + 1)) r' s'
  strung_more r' s' v = rw add-one (strung_next F f e a i r r' s s' (omega arith) u v)

-- ---- the cell of wave w at j and k
module _ (g : Sides) (p : ℕ → Bool) (w k j : ℕ) where
  off_wave : on_wave g w k j ≡ false → wave_cell g p w k j ≡ []
  unfolding wave_cell kept
  off_wave e = rw e

  on_wave_lem : j + k ≤ w → w - (j + k) < g.nx → wave_cell g p w k j ≡ kept (p (number g (w - (j + k)) j k)) (number g (w - (j + k)) j k)
  unfolding wave_cell on_wave
  on_wave_lem a b = rw (le-leb (j + k) w a, lt-ltb (w - (j + k)) g.nx b)

  pub early_placed : (f : ℕ → ℕ) (e : List ℕ) (a : ℕ) → w < j + k → Placed f e a (wave_cell g p w k j) a e
  unfolding on_wave
  early_placed f e a h = rw (off_wave (rw (lt-leb (j + k) w h))) (record { next = omega arith; room = written_none e a })

  pub late_placed : (f : ℕ → ℕ) (e : List ℕ) (a : ℕ) → j + k ≤ w → g.nx ≤ w - (j + k) → Placed f e a (wave_cell g p w k j) a e
  unfolding on_wave
  late_placed f e a h l = rw (off_wave (rw (le-leb (j + k) w h, le-ltb (w - (j + k)) g.nx l))) (record { next = omega arith; room = written_none e a })

  module _ (c : ℕ) (q : c ≡ number g (w - (j + k)) j k) (a : j + k ≤ w) (b : w - (j + k) < g.nx) where
    pub wave_in : j < g.ny → k < g.nz → c < cells g
    wave_in l m = rw q (number_in g (w - (j + k)) j k b l m)

    cell_is : wave_cell g p w k j ≡ kept (p c) c
    cell_is = on_wave_lem a b ∙ ap (λ x. kept (p x) x) (sym q)

    kept_room : (next n : ℕ) → next + length (wave_cell g p w k j) ≤ n → next + length (kept (p c) c) ≤ n
    kept_room next n h = rw cell_is at h

    pub wave_placed : (f : ℕ → ℕ) (next r : ℕ) (e s : List ℕ) → Placed f e next (kept (p c) c) r s → Placed f e next (wave_cell g p w k j) r s
    wave_placed f next r e s h = rw cell_is h

-- the same of the tests that the code has, and of the lists that it has
pub smoothed_room : (g : Sides) (b : Bool) (ls : List ℕ) (w k j c : ℕ) → c ≡ number g (w - (j + k)) j k → j + k ≤ w → w - (j + k) < g.nx
    → (next n : ℕ) → next + length (wave_cell g (smoothed b g ls) w k j) ≤ n → next + length (kept (smoothed b g ls c) c) ≤ n
smoothed_room g b ls w k j c q l m = kept_room g (smoothed b g ls) w k j c q l m

module _ (f : ℕ → ℕ) (g : Sides) (p : ℕ → Bool) (e : List ℕ) (a : ℕ) (r : ℕ) (s : List ℕ) where
  pub cell_room : (w k j : ℕ) → a + length (wave_line g p w k) ≤ length e → Placed f e a (strung (wave_cell g p w k) j) r s → j < g.ny
      → r + length (wave_cell g p w k j) ≤ length s
  cell_room w k j h u l = strung_room f (wave_cell g p w k) e a g.ny h j r s u l

  pub line_room : (w k : ℕ) → a + length (wave_of g p w) ≤ length e → Placed f e a (strung (wave_line g p w) k) r s → k < g.nz
      → r + length (wave_line g p w k) ≤ length s
  line_room w k h u l = strung_room f (wave_line g p w) e a g.nz h k r s u l

  module _ (w : ℕ) (u : Placed f e a (strung (wave_of g p) w) r s) where
    pub wave_room : a + length (waves g p) ≤ length e → w < g.nx + g.ny + g.nz → r + length (wave_of g p w) ≤ length s
    unfolding waves
    wave_room h l = strung_room f (wave_of g p) e a (g.nx + g.ny + g.nz) h w r s u l

    pub wave_more : a + length (waves g p) ≤ length e → (r' : ℕ) (s' : List ℕ) → Placed f s r (wave_of g p w) r' s' → Placed f e a (strung (wave_of g p) (w + 1)) r' s'
    unfolding waves
    wave_more h r' s' v = strung_more f (wave_of g p) e a (g.nx + g.ny + g.nz) h w r s u r' s' v

    pub wave_end : w ≤ g.nx + g.ny + g.nz → g.nx + g.ny + g.nz ≤ w → Placed f e a (waves g p) r s
    unfolding waves
    wave_end k l = let q : w ≡ g.nx + g.ny + g.nz = omega arith in rw q at u

-- ---- a level's list is no longer than it has air cells
smoothed_air : (b : Bool) (g : Sides) (ls : List ℕ) → Within (smoothed b g ls) (is_air ls)
unfolding smoothed
smoothed_air true g ls = band_within g ls
smoothed_air false g ls = air_within ls

pub list_le : (b : Bool) (g : Sides) (ls : List ℕ) → length (list_of b g ls) ≤ interior g ls
unfolding list_of interior judged
list_le b g ls = omega (
  arith,
  length-map (waves g (smoothed b g ls)) (entry_of g ls),
  waves_length g (smoothed b g ls),
  chosen_wider (smoothed b g ls) (is_air ls) (smoothed_air b g ls) (cells g),
  chosen_count (is_air ls) (cells g),
)

listed : (f : ℕ → ℕ) (e : List ℕ) (a : ℕ) (l : List ℕ) (r : ℕ) (s : List ℕ) → Placed f e a l r s → Listed e a (map f l) (r - a) s
listed f e a l r s u = record { count = omega (arith, u.next, length-map l f); room = u.room }

module _ (g : Sides) (ls e : List ℕ) (a : ℕ) (b : Bool) where
  pub list_room : a + interior g ls ≤ length e → a + length (waves g (smoothed b g ls)) ≤ length e
  unfolding list_of
  list_room h = omega (arith, list_le b g ls, length-map (waves g (smoothed b g ls)) (entry_of g ls))

  pub list_listed : (r : ℕ) (s : List ℕ) → Placed (entry_of g ls) e a (waves g (smoothed b g ls)) r s → Listed e a (list_of b g ls) (r - a) s
  unfolding list_of
  list_listed r s p = listed (entry_of g ls) e a (waves g (smoothed b g ls)) r s p

-- ---- what is left
module _ (band : Bool) (g : Sides) (ls : List ℕ) (c l : ℕ) (e : l ≡ label_at ls c) where
  pub left_other : (l ≡ 0 → ⊥) → false ≡ left band g ls c
  unfolding left is_air
  left_other h = let q : eqb (label_at ls c) 0 ≡ false = ap (λ x. eqb x 0) (sym e) ∙ ne_eqb l 0 h in rw q

  air_here : l ≡ 0 → is_air ls c ≡ true
  unfolding is_air
  air_here h = ap (λ x. eqb x 0) (sym e) ∙ eq-eqb l 0 h

  pub left_band : {r : Bool} → l ≡ 0 → band ≡ true → r ≡ in_band g ls c → r ≡ true → false ≡ left band g ls c
  unfolding left smoothed
  left_band h b q t = rw (air_here h, b, ← q, t)

  pub left_off : {r : Bool} → l ≡ 0 → band ≡ true → r ≡ in_band g ls c → r ≡ false → true ≡ left band g ls c
  unfolding left smoothed
  left_off h b q t = rw (air_here h, b, ← q, t)

  pub left_none : l ≡ 0 → band ≡ false → false ≡ left band g ls c
  unfolding left smoothed
  left_none h b = rw (air_here h, b, air_here h)

chosen_strung : (p : ℕ → Bool) (n : ℕ) → chosen p n ≡ strung (λ c. kept (p c) c) n
unfolding chosen strung
chosen_strung p zero = refl
chosen_strung p (suc n) = ap (λ l. l ++ kept (p n) n) (chosen_strung p n)

module _ (g : Sides) (ls e : List ℕ) (a : ℕ) (b : Bool) (h : a + length (chosen (left b g ls) (cells g)) ≤ length e) where
  left_room : a + length (strung (left_at b g ls) (cells g)) ≤ length e
  left_room = rw chosen_strung at h

  module _ (c r : ℕ) (s : List ℕ) (u : Placed (entry_of g ls) e a (strung (left_at b g ls) c) r s) where
    pub left_more : (r' : ℕ) (s' : List ℕ) → Placed (entry_of g ls) s r (left_at b g ls c) r' s' → Placed (entry_of g ls) e a (strung (left_at b g ls) (c + 1)) r' s'
    left_more r' s' v = strung_more (entry_of g ls) (left_at b g ls) e a (cells g) left_room c r s u r' s' v

    module _ (n : ℕ) (q : n ≡ cells g) where
      pub left_next : c < n → r + length (left_at b g ls c) ≤ length s
      left_next l = strung_room (entry_of g ls) (left_at b g ls) e a (cells g) left_room c r s u (omega arith)

      pub left_end : c ≤ n → n ≤ c → Placed (entry_of g ls) e a (chosen (left b g ls) (cells g)) r s
      left_end k l =
          let o : c ≡ cells g = omega arith in
          let w : Placed (entry_of g ls) e a (strung (left_at b g ls) (cells g)) r s = rw o at u in
          rw chosen_strung w

pub ruleset on_left = (rules, strung_none, left_next, left_more, left_end)

-- ---- all air: what is swept and what is left are no more than the air
chosen_both : (p q : ℕ → Bool) → Within p q → (n : ℕ) → length (chosen p n) + length (chosen (λ c. q c && not (p c)) n) ≤ length (chosen q n)
unfolding chosen
chosen_both p q f zero = omega arith
chosen_both p q f (suc n) =
    omega (arith, chosen_suc p n, chosen_suc q n, chosen_suc (λ c. q c && not (p c)) n, chosen_both p q f n, go (p n) (q n) (f.at n))
  where
    go : (a b : Bool) → (a ≡ true → b ≡ true) → cond a 1 0 + cond (b && not a) 1 0 ≤ cond b 1 0
    go true true h = omega arith
    go true false h = absurd (false≢true (h refl))
    go false true h = omega arith
    go false false h = omega arith

module _ (b : Bool) (g : Sides) (ls : List ℕ) where
  both_le : length (list_of b g ls) + length (chosen (left b g ls) (cells g)) ≤ interior g ls
  unfolding list_of interior judged left
  both_le = omega (
    arith,
    length-map (waves g (smoothed b g ls)) (entry_of g ls),
    waves_length g (smoothed b g ls),
    chosen_both (smoothed b g ls) (is_air ls) (smoothed_air b g ls) (cells g),
    chosen_count (is_air ls) (cells g),
  )

  left_long : length (left_of b g ls) ≡ length (chosen (left b g ls) (cells g))
  unfolding left_of
  left_long = length-map (chosen (left b g ls) (cells g)) (entry_of g ls)

  pub air_le : length (air_of b g ls) ≤ interior g ls
  air_le = omega (arith, length-append (list_of b g ls) (left_of b g ls), left_long, both_le)

  module _ (a k : ℕ) (e s : List ℕ) (u : Listed e a (list_of b g ls) k s) (h : a + interior g ls ≤ length e) where
    pub swept_in : a + k ≤ length e
    swept_in = omega (arith, u.count, both_le)

    pub rest_room : a + k + length (chosen (left b g ls) (cells g)) ≤ length s
    rest_room =
        let same : length s ≡ length e = ap length u.room ∙ length_written e a (list_of b g ls) (omega (arith, both_le)) in
        omega (arith, u.count, both_le, same)

    module _ (q : ℕ) (t : List ℕ) (v : Placed (entry_of g ls) s (a + k) (chosen (left b g ls) (cells g)) q t) where
      rest_listed : Listed s (a + k) (left_of b g ls) (q - (a + k)) t
      unfolding left_of
      rest_listed = listed (entry_of g ls) s (a + k) (chosen (left b g ls) (cells g)) q t v

      pub air_after : a ≤ q
      air_after = omega (arith, v.next)

      pub air_next : q ≡ a + (q - a)
      air_next = omega (arith, air_after)

      pub air_listed : LevelListed e a (list_of b g ls) (air_of b g ls) (record { start = a; swept = k; air = q - a }) t
      air_listed = record {
        start = refl;
        count = u.count;
        whole = omega (arith, v.next, u.count, rest_listed.count, length-append (list_of b g ls) (left_of b g ls));
        room =
            rest_listed.room
            ∙ ap₂ (λ x i. written x i (left_of b g ls)) u.room (omega (arith, u.count))
            ∙ written_on e a (list_of b g ls) (omega arith) (left_of b g ls);
      }

pub ruleset airs = (rules, rest_room, air_after, air_next, air_listed)

-- ---- what the calls ask
pub band_asked : (g h : Sides) (n m c : ℕ) → Fit g → h ≡ halved g → n ≡ cells g → m ≡ cells h → c < n → BandAsked g h n m c
band_asked g h n m c z p q r l = record { fine = z; next = p; count = q; coarse_count = r; inside = omega arith }

pub cell_small : (g : Sides) (c : ℕ) → Fit g → c < cells g → c < 32768
cell_small g c z h = omega (arith, cells_most g z)

pub band_smoothed : (g : Sides) (ls : List ℕ) (b : Bool) (c : ℕ) (r : Bool) → b ≡ true → r ≡ in_band g ls c → r ≡ smoothed b g ls c
unfolding smoothed
band_smoothed g ls b c r e h = rw e h

pub air_smoothed : (g : Sides) (ls : List ℕ) (b : Bool) (c l : ℕ) → b ≡ false → l ≡ label_at ls c → eqb l 0 ≡ smoothed b g ls c
unfolding smoothed is_air
air_smoothed g ls b c l e h = rw (e, h) refl

pub ruleset keeps = (rules, keep_in, placed_one, placed_none)

pub ruleset smoothes = (rules, next_fit, band_asked, band_smoothed, air_smoothed)

pub ruleset on_waves = (rules, strung_none, strung_more, early_placed, late_placed, wave_in, wave_placed, smoothed_room, cell_room, line_room)

pub ruleset on_lists = (rules, strung_none, wave_room, wave_more, wave_end, list_room, list_listed)

pub ruleset lefts = (rules, left_other, left_band, left_off, left_none)
