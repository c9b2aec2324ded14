-- Two orders of the same steps come to the same if each two steps that stand one way round in the one and the other way
-- round in the other commute. Assumes nothing.
use Prim.Native.Nat.{ℕ, zero, suc, ◌+◌, ◌<◌, ◌≤◌}
use mathlib.Core.Path.{◌≡◌, refl, sym, ap, subst, ◌∙◌}
use mathlib.Core.List.{List, [], ◌∷◌, ◌++◌}
use native.Mathlib.Nat.{le_of_suc-le-suc}
use native.Mathlib.Decide.{ℕ_discrete}
use native.Mathlib.Omega.{arith}
use lib.ListN.{length, get_or, length-append}
use Rattle.laws.specs.Loops.{up, down}
use Rattle.laws.proofs.Loops.{up_first}
use Rattle.theory.proofs.Hits.{same_yes, same_no, hits}

-- ---- how often a number stands in a list
pub hits_append : (p q : List ℕ) (c : ℕ) → hits (p ++ q) c ≡ hits p c + hits q c
unfolding hits
hits_append [] q c = omega arith
hits_append (x ∷ p) q c = omega (arith, hits_append p q c)

hits_first : (x : ℕ) (q : List ℕ) → 1 ≤ hits (x ∷ q) x
unfolding hits
hits_first x q = omega (arith, same_yes x x refl)

unhit : (c : ℕ) → hits [] c ≡ 0
unfolding hits
unhit c = refl

splits : (m : List ℕ) (x : ℕ) → 1 ≤ hits m x → (p : List ℕ) × (q : List ℕ) × (m ≡ p ++ (x ∷ q))
unfolding hits
splits [] x h = absurd (omega arith)
splits (y ∷ m) x h = go (ℕ_discrete y x) (splits m x)
  where
    go : Dec (y ≡ x) → (1 ≤ hits m x → (p : List ℕ) × (q : List ℕ) × (m ≡ p ++ (x ∷ q))) → (p : List ℕ) × (q : List ℕ) × (y ∷ m ≡ p ++ (x ∷ q))
    go (yes e) r = ([], m, ap (λ z. z ∷ m) e)
    go (no e) r = let t = r (omega (arith, same_no y x e)) in (y ∷ t.0, t.1, ap (◌∷◌ y) t.2)

pub hits_at : (l : List ℕ) (k : ℕ) → k < length l → 1 ≤ hits l (get_or l k 0)
unfolding hits
hits_at [] k h = absurd (omega arith)
hits_at (x ∷ l) zero h = hits_first x l
hits_at (x ∷ l) (suc k) h = omega (arith, hits_at l k (le_of_suc-le-suc h))

-- ---- a list that is sorted by a key
abbrev pub Sorted : (ℕ → ℕ) → List ℕ → Type 0
Sorted key [] = Unit {0}
Sorted key (x ∷ l) = ((y : ℕ) → 1 ≤ hits l y → key x ≤ key y) × Sorted key l

module _ (key : ℕ → ℕ) where
  pub sorted_append : (p q : List ℕ) → Sorted key p → Sorted key q → ((x y : ℕ) → 1 ≤ hits p x → 1 ≤ hits q y → key x ≤ key y) → Sorted key (p ++ q)
  unfolding hits
  sorted_append [] q a b h = b
  sorted_append (x ∷ p) q a b h = (
    λ y k. go y (ℕ_discrete (hits p y) 0) k,
    sorted_append p q a.1 b (λ z y k m. h z y (omega arith) m),
  )
    where
      go : (y : ℕ) → Dec (hits p y ≡ 0) → 1 ≤ hits (p ++ q) y → key x ≤ key y
      go y (yes e) k = h x y (hits_first x p) (omega (arith, hits_append p q y))
      go y (no e) k = a.0 y (omega arith)

  front_le : (p : List ℕ) (x : ℕ) (q : List ℕ) → Sorted key (p ++ (x ∷ q)) → (y : ℕ) → 1 ≤ hits p y → key y ≤ key x
  unfolding hits
  front_le [] x q h y k = absurd (omega arith)
  front_le (z ∷ p) x q h y k = go (ℕ_discrete z y) (front_le p x q h.1 y)
    where
      go : Dec (z ≡ y) → (1 ≤ hits p y → key y ≤ key x) → key y ≤ key x
      go (yes e) r = rw (← e) (h.0 x (omega (arith, hits_append p (x ∷ q) x, hits_first x q)))
      go (no e) r = r (omega (arith, same_no z y e))

  without : (p : List ℕ) (x : ℕ) (q : List ℕ) → Sorted key (p ++ (x ∷ q)) → Sorted key (p ++ q)
  unfolding hits
  without [] x q h = h.1
  without (z ∷ p) x q h = (λ y k. h.0 y (omega (arith, hits_append p (x ∷ q) y, hits_append p q y)), without p x q h.1)

-- ---- a step at each number of a list, in the list's order and against it
module _ {A : Type 0} (f : ℕ → A → A) where
  unfoldable pub forth : List ℕ → A → A
  forth [] s = s
  forth (x ∷ l) s = forth l (f x s)

  unfoldable pub against : List ℕ → A → A
  against [] s = s
  against (x ∷ l) s = f x (against l s)

  pub up_forth : (l : List ℕ) (s : A) → up (λ k. f (get_or l k 0)) (length l) s ≡ forth l s
  unfolding up forth
  up_forth [] s = refl
  up_forth (x ∷ l) s = up_first (λ k. f (get_or (x ∷ l) k 0)) (length l) s ∙ up_forth l (f x s)

  down_last : (g : ℕ → A → A) (n : ℕ) (s : A) → down g (suc n) s ≡ g 0 (down (λ i. g (suc i)) n s)
  unfolding down
  down_last g zero s = refl
  down_last g (suc n) s = down_last g n (g (suc n) s)

  pub down_against : (l : List ℕ) (s : A) → down (λ k. f (get_or l k 0)) (length l) s ≡ against l s
  unfolding down against
  down_against [] s = refl
  down_against (x ∷ l) s = down_last (λ k. f (get_or (x ∷ l) k 0)) (length l) s ∙ ap (f x) (down_against l s)

  -- two steps that commute
  abbrev pub Swap : ℕ → ℕ → Type 0
  Swap x y = (s : A) → f x (f y s) ≡ f y (f x s)

  forth_append : (p q : List ℕ) (s : A) → forth (p ++ q) s ≡ forth q (forth p s)
  unfolding forth
  forth_append [] q s = refl
  forth_append (x ∷ p) q s = forth_append p q (f x s)

  against_append : (p q : List ℕ) (s : A) → against (p ++ q) s ≡ against p (against q s)
  unfolding against
  against_append [] q s = refl
  against_append (x ∷ p) q s = ap (f x) (against_append p q s)

  forth_past : (x : ℕ) (p : List ℕ) → ((y : ℕ) → 1 ≤ hits p y → Swap x y) → (s : A) → f x (forth p s) ≡ forth p (f x s)
  unfolding forth hits
  forth_past x [] c s = refl
  forth_past x (y ∷ p) c s = forth_past x p (λ z h. c z (omega arith)) (f y s) ∙ ap (forth p) (c y (hits_first y p) s)

  against_past : (x : ℕ) (p : List ℕ) → ((y : ℕ) → 1 ≤ hits p y → Swap x y) → (s : A) → f x (against p s) ≡ against p (f x s)
  unfolding against hits
  against_past x [] c s = refl
  against_past x (y ∷ p) c s = c y (hits_first y p) (against p s) ∙ ap (f y) (against_past x p (λ z h. c z (omega arith)) s)

  -- THE LAW: lists of the same numbers, each sorted by a key of its own; what the keys do not put the same way round
  -- commutes
  module _ (key key' : ℕ → ℕ) where
    pub record Orders (l m : List ℕ) : Type 0 where
      pub sorted : Sorted key l
      pub sorted' : Sorted key' m
      pub same_hits : (c : ℕ) → hits l c ≡ hits m c
      pub swaps : (x y : ℕ) → 1 ≤ hits l x → 1 ≤ hits l y → key x ≤ key y → key' y ≤ key' x → Swap x y

    none : (m : List ℕ) → ((c : ℕ) → 0 ≡ hits m c) → [] ≡ m
    none [] h = refl
    none (x ∷ m) h = absurd (omega (arith, h x, hits_first x m))

    -- the first of the one list is brought to the front of the other
    module _ (x : ℕ) (l p q : List ℕ) (o : Orders (x ∷ l) (p ++ (x ∷ q))) where
      before : (y : ℕ) → 1 ≤ hits p y → Swap x y
      unfolding hits
      before y h =
          let k : key' y ≤ key' x = front_le key' p x q o.sorted' y h in
          go (ℕ_discrete x y) k
        where
          go : Dec (x ≡ y) → key' y ≤ key' x → Swap x y
          go (yes e) k = rw (← e) (λ s. refl)
          go (no e) k =
              let there : 1 ≤ hits l y = omega (arith, same_no x y e, o.same_hits y, hits_append p (x ∷ q) y) in
              o.swaps x y (hits_first x l) (omega arith) (o.sorted.0 y there) k

      rest : Orders l (p ++ q)
      unfolding hits
      rest = record {
        sorted = o.sorted.1;
        sorted' = without key' p x q o.sorted';
        same_hits = λ c. omega (arith, o.same_hits c, hits_append p (x ∷ q) c, hits_append p q c);
        swaps = λ y z h k. o.swaps y z (omega arith) (omega arith);
      }

      forth_first : (s : A) → forth (p ++ (x ∷ q)) s ≡ forth (p ++ q) (f x s)
      unfolding forth
      forth_first s = forth_append p (x ∷ q) s ∙ ap (forth q) (forth_past x p before s) ∙ sym (forth_append p q (f x s))

      against_first : (s : A) → against (p ++ (x ∷ q)) s ≡ f x (against (p ++ q) s)
      unfolding against
      against_first s = against_append p (x ∷ q) s ∙ sym (against_past x p before (against q s)) ∙ ap (f x) (sym (against_append p q s))

    moved : (l m : List ℕ) {m' : List ℕ} → m ≡ m' → Orders l m → Orders l m'
    moved l m e o = subst (Orders l) e o

    pub any_order : (l m : List ℕ) → Orders l m → (s : A) → forth l s ≡ forth m s
    unfolding forth
    any_order [] m o s = ap (λ m. forth m s) (none m (λ c. sym (unhit c) ∙ o.same_hits c))
    any_order (x ∷ l) m o s = go (splits m x (omega (arith, o.same_hits x, hits_first x l))) (any_order l)
      where
        go : (p : List ℕ) × (q : List ℕ) × (m ≡ p ++ (x ∷ q)) → ((m : List ℕ) → Orders l m → (s : A) → forth l s ≡ forth m s) → forth l (f x s) ≡ forth m s
        go t ih =
            let o' = moved (x ∷ l) m t.2 o in
            ih (t.0 ++ t.1) (rest x l t.0 t.1 o') (f x s) ∙ sym (forth_first x l t.0 t.1 o' s) ∙ ap (λ m. forth m s) (sym t.2)

    pub any_order_against : (l m : List ℕ) → Orders l m → (s : A) → against l s ≡ against m s
    unfolding against
    any_order_against [] m o s = ap (λ m. against m s) (none m (λ c. sym (unhit c) ∙ o.same_hits c))
    any_order_against (x ∷ l) m o s = go (splits m x (omega (arith, o.same_hits x, hits_first x l))) (any_order_against l)
      where
        go : (p : List ℕ) × (q : List ℕ) × (m ≡ p ++ (x ∷ q)) → ((m : List ℕ) → Orders l m → (s : A) → against l s ≡ against m s) → f x (against l s) ≡ against m s
        go t ih =
            let o' = moved (x ∷ l) m t.2 o in
            ap (f x) (ih (t.0 ++ t.1) (rest x l t.0 t.1 o') s) ∙ sym (against_first x l t.0 t.1 o' s) ∙ ap (λ m. against m s) (sym t.2)

    -- as loops over the lists' places
    module _ (l m : List ℕ) (o : Orders l m) (s : A) where
      pub up_order : up (λ k. f (get_or l k 0)) (length l) s ≡ up (λ k. f (get_or m k 0)) (length m) s
      up_order = up_forth l s ∙ any_order l m o s ∙ sym (up_forth m s)

      pub down_order : down (λ k. f (get_or l k 0)) (length l) s ≡ down (λ k. f (get_or m k 0)) (length m) s
      down_order = down_against l s ∙ any_order_against l m o s ∙ sym (down_against m s)

-- lists of the same numbers are as long
pub same_length : (l m : List ℕ) → ((c : ℕ) → hits l c ≡ hits m c) → length l ≡ length m
unfolding hits
same_length [] [] h = refl
same_length [] (x ∷ m) h = absurd (omega (arith, h x, hits_first x m))
same_length (x ∷ l) m h = go (splits m x (omega (arith, h x, hits_first x l))) (same_length l)
  where
    go : (p : List ℕ) × (q : List ℕ) × (m ≡ p ++ (x ∷ q)) → ((m : List ℕ) → ((c : ℕ) → hits l c ≡ hits m c) → length l ≡ length m) → suc (length l) ≡ length m
    go t ih =
        let p = t.0 in
        let q = t.1 in
        let r = ih (p ++ q) (λ c. omega (arith, h c, ap (λ m. hits m c) t.2, hits_append p (x ∷ q) c, hits_append p q c)) in
        omega (arith, ap length t.2, length-append p (x ∷ q), length-append p q)
