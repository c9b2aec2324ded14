-- The list of a level's air holds the entry of each air cell, and of no other: what the kernels over entries ask.
-- Assumes nothing.
use Prim.Native.Nat.{ℕ, zero, suc, ◌+◌, ◌*◌, ◌≤◌, ◌<◌, suc-le-suc}
use mathlib.Core.Path.{◌≡◌, refl, sym, ap, ◌∙◌}
use mathlib.Core.Logic.{⊎_elim}
use mathlib.Core.Bool.{Bool, true, false, not, ◌&&◌, false≢true}
use mathlib.Core.List.{List, [], ◌∷◌, ◌++◌, map}
use native.Mathlib.Decide.{ℕ_discrete}
use native.Mathlib.Nat.{le_of_suc-le-suc, eq-or-lt_of_le}
use native.Mathlib.Omega.{arith}
use lib.ListN.{length, get_or}
use Rattle.laws.specs.Lists.{kept, chosen}
use Rattle.laws.proofs.Naturals.{le_or_lt}
use Rattle.method.specs.declared.Sides.{Sides}
use Rattle.method.specs.Cast.{cells, is_air}
use Rattle.theory.specs.Waves.{waves}
use Rattle.theory.specs.Sides.{Fit}
use Rattle.theory.proofs.Hits.{hits, same_yes, same_no}
use Rattle.theory.proofs.Orders.{hits_append, hits_at}
use Rattle.theory.proofs.Children.{band_air}
use Rattle.theory.proofs.Waves.{chosen_hit, chosen_pass, waves_hit, waves_chosen}
use Rattle.grid.specs.Entries.{entry_of, cells_of}
use Rattle.bands.specs.Lists.{smoothed, list_of, left, left_of, air_of}
use Rattle.smooth.specs.Written.{Covers}
use Rattle.smooth.specs.Entries.{AirEntries}
use Rattle.smooth.proofs.EntryLaws.{cells_back, entries_are}

-- ---- where a number stands in a list
hits_place : (l : List ℕ) (c : ℕ) → 1 ≤ hits l c → (k : ℕ) × (k < length l) × (get_or l k 0 ≡ c)
unfolding hits
hits_place [] c h = absurd (omega arith)
hits_place (x ∷ l) c h = go (ℕ_discrete x c) (hits_place l c)
  where
    go : Dec (x ≡ c) → (1 ≤ hits l c → (k : ℕ) × (k < length l) × (get_or l k 0 ≡ c)) → (k : ℕ) × (k < length (x ∷ l)) × (get_or (x ∷ l) k 0 ≡ c)
    go (yes e) f = (0, omega arith, e)
    go (no e) f = let r = f (omega (arith, same_no x c e)) in (suc r.0, suc-le-suc r.1, r.2)

kept_has : (p : ℕ → Bool) (n c : ℕ) → c ≡ n → p c ≡ true → 1 ≤ hits (kept (p n) n) c
unfolding kept hits
kept_has p n c e t = let q : p n ≡ true = ap p (sym e) ∙ t in rw q (omega (arith, same_yes n c (sym e)))

chosen_has : (p : ℕ → Bool) (n c : ℕ) → c < n → p c ≡ true → 1 ≤ hits (chosen p n) c
unfolding chosen
chosen_has p zero c h t = absurd (omega arith)
chosen_has p (suc n) c h t = ⊎_elim
    (λ (e : c ≡ n). omega (arith, hits_append (chosen p n) (kept (p n) n) c, kept_has p n c e t))
    (λ l. omega (arith, hits_append (chosen p n) (kept (p n) n) c, chosen_has p n c l t))
    (eq-or-lt_of_le (le_of_suc-le-suc h))

map_both : {A B : Type 0} (f : A → B) (l m : List A) → map f (l ++ m) ≡ map f l ++ map f m
map_both f [] m = refl
map_both f (x ∷ l) m = ap (λ r. f x ∷ r) (map_both f l m)

first_holds : (a b : Bool) → a && b ≡ true → a ≡ true
first_holds true b h = refl
first_holds false b h = absurd (false≢true h)

-- ---- what is swept and what is left are the air
module _ (g : Sides) (ls : List ℕ) where
  swept_air : (band : Bool) (c : ℕ) → smoothed band g ls c ≡ true → is_air ls c ≡ true
  unfolding smoothed
  swept_air true c h = band_air g ls c h
  swept_air false c h = h

  module _ (band : Bool) where
    left_air : (c : ℕ) → left band g ls c ≡ true → is_air ls c ≡ true
    unfolding left
    left_air c h = first_holds (is_air ls c) (not (smoothed band g ls c)) h

    left_yes : (c : ℕ) → is_air ls c ≡ true → smoothed band g ls c ≡ false → left band g ls c ≡ true
    unfolding left
    left_yes c a e = rw (a, e)

    both : List ℕ
    both = waves g (smoothed band g ls) ++ chosen (left band g ls) (cells g)

    parts : (c : ℕ) → hits both c ≡ hits (waves g (smoothed band g ls)) c + hits (chosen (left band g ls) (cells g)) c
    unfolding both
    parts c = hits_append (waves g (smoothed band g ls)) (chosen (left band g ls) (cells g)) c

    in_both : (c : ℕ) → 1 ≤ hits both c → (c < cells g) × (is_air ls c ≡ true)
    in_both c h = ⊎_elim
        (λ w. (waves_hit g (smoothed band g ls) c w, swept_air band c (chosen_pass (smoothed band g ls) (cells g) c (omega (arith, waves_chosen g (smoothed band g ls) c)))))
        (λ w. let k : 1 ≤ hits (chosen (left band g ls) (cells g)) c = omega (arith, parts c) in
        (chosen_hit (left band g ls) (cells g) c k, left_air c (chosen_pass (left band g ls) (cells g) c k)))
        (le_or_lt 1 (hits (waves g (smoothed band g ls)) c))

    has_air : (c : ℕ) → c < cells g → is_air ls c ≡ true → 1 ≤ hits both c
    has_air c h a = go (smoothed band g ls c) refl
      where
        go : (t : Bool) → smoothed band g ls c ≡ t → 1 ≤ hits both c
        go true e = omega (arith, parts c, waves_chosen g (smoothed band g ls) c, chosen_has (smoothed band g ls) (cells g) c h e)
        go false e = omega (arith, parts c, chosen_has (left band g ls) (cells g) c h (left_yes c a e))

    below : (k : ℕ) → k < length both → get_or both k 0 < cells g
    below k h = (in_both (get_or both k 0) (hits_at both k h)).0

    passes : (k : ℕ) → k < length both → is_air ls (get_or both k 0) ≡ true
    passes k h = (in_both (get_or both k 0) (hits_at both k h)).1

    covers : Covers (cells g) (is_air ls) both
    covers = record { below = below; pass = passes; each = λ c h a. hits_place both c (has_air c h a) }

    air_is : air_of band g ls ≡ map (entry_of g ls) both
    unfolding list_of left_of both
    air_is = sym (map_both (entry_of g ls) (waves g (smoothed band g ls)) (chosen (left band g ls) (cells g)))

    -- THE LAW
    pub air_entries : Fit g → length ls ≡ cells g → {es : List ℕ} → es ≡ air_of band g ls → AirEntries g ls (length ls) g.nx (g.nx * g.ny) es
    air_entries z len {es} q =
        let w : es ≡ map (entry_of g ls) both = q ∙ air_is in
        let cs : cells_of es ≡ both = ap cells_of w ∙ cells_back g ls z both below in
        record {
          entries = rw w (entries_are g ls z both (length ls) g.nx (g.nx * g.ny) len len refl refl below passes);
          covers = rw cs covers;
        }
