-- The search is right: over any distances that go by neighbours, its marks end as one more than the distance, and 0
-- where there is none. Assumes nothing.
use Prim.Native.Nat.{ℕ, zero, suc, ◌+◌, ◌-◌, ◌<◌, ◌≤◌}
use mathlib.Core.Path.{◌≡◌, refl, sym, ap, subst, ◌∙◌}
use mathlib.Core.Logic.{⊎_elim}
use mathlib.Core.Bool.{Bool, cond}
use mathlib.Core.List.Memᴰ
use mathlib.Core.List.{List, [], ◌∷◌, Memᴰ}
use native.Mathlib.Nat.{eq-or-lt_of_le, le_of_suc-le-suc}
use native.Mathlib.Decide.{ℕ_discrete}
use native.Mathlib.Numerals.{add-one}
use native.Mathlib.Omega.{arith}
use lib.Dec.{T, T_not}
use lib.ListN.{length, get_or, drop}
use lib.Seq.{drop-set-lt}
use borrow.Author.Tests.{lt-ltb, le-ltb}
use Rattle.laws.specs.Loops.{up}
use Rattle.laws.specs.Lists.{over}
use Rattle.laws.proofs.Bools.{split, is_true, is_false}
use Rattle.laws.proofs.Naturals.{le_or_lt}
use Rattle.std.specs.Prelude.{Option, None, Some}
use Rattle.theory.proofs.Reach.{found_cases, same_steps, never}
use Rattle.distances.specs.Search.{Queue, queue, mark, entry, put, reach, reach_all, turn, start, cleared, started, mark_of, Safe}
use Rattle.distances.proofs.SearchSafe.{Put, put_is, put_safe, place, reach_put, reach_keep}
use Rattle.distances.proofs.SearchCode.{cleared_zero, cleared_safe}

-- what the search needs of the distances δ to the openings
pub record Distances (n : ℕ) (air opening : ℕ → Bool) (near : ℕ → List ℕ) (δ : ℕ → Option ℕ) : Type 0 where
  pub at_opening : (c : ℕ) → c < n → T (opening c) → δ c ≡ Some 0
  pub opening_at : (c : ℕ) → δ c ≡ Some 0 → T (opening c)
  pub before : (c d : ℕ) → δ c ≡ Some (suc d) → T (air c) × ((j : ℕ) × Memᴰ j (near c) × (δ j ≡ Some d))
  pub after : (c j d : ℕ) → T (air c) → Memᴰ j (near c) → δ j ≡ Some d → (e : ℕ) × (e ≤ suc d) × (δ c ≡ Some e)
  pub cell : (c d : ℕ) → δ c ≡ Some d → c < n
  pub air_cell : (c : ℕ) → T (air c) → c < n
  pub both : (i j : ℕ) → i < n → j < n → Memᴰ j (near i) → Memᴰ i (near j)

-- what stays from one queue to a later one
pub record Later (n : ℕ) (q p : Queue) : Type 0 where
  pub more : q.tail ≤ p.tail
  pub entries : (k : ℕ) → k < q.tail → entry n p k ≡ entry n q k
  pub kept : (c : ℕ) → c < n → 1 ≤ mark q c → mark p c ≡ mark q c
  pub rest : drop (n + n) p.room ≡ drop (n + n) q.room

pub later_same : (n : ℕ) (q : Queue) → Later n q q
later_same n q = record { more = omega arith; entries = λ k l. refl; kept = λ c l h. refl; rest = refl }

pub later_then : (n : ℕ) (q p r : Queue) → Later n q p → Later n p r → Later n q r
later_then n q p r a b = record {
  more = omega (arith, a.more, b.more);
  entries = λ k l. b.entries k (omega (arith, a.more)) ∙ a.entries k l;
  kept = λ c l h. b.kept c l (omega (arith, a.kept c l h)) ∙ a.kept c l h;
  rest = b.rest ∙ a.rest;
}

later_marked : (n : ℕ) (q p : Queue) → Later n q p → (c : ℕ) → c < n → 1 ≤ mark q c → 1 ≤ mark p c
later_marked n q p a c l h = omega (arith, a.kept c l h)

later_put : (n v j : ℕ) (q p : Queue) → Put n v j q p → mark q j ≡ 0 → Later n q p
later_put n v j q p u z = record {
  more = omega (arith, u.tail_is);
  entries = u.entry_else;
  kept = λ c l h. u.mark_else c l (λ e. omega (arith, ap (mark q) e));
  rest = u.rest_is;
}

module _ (n : ℕ) (air opening : ℕ → Bool) (near : ℕ → List ℕ) (δ : ℕ → Option ℕ) (D : Distances n air opening near δ) where
  -- the queue with the cells before h done
  pub record Good (h : ℕ) (q : Queue) : Type 0 where
    pub safe : Safe n q
    pub marked : (k : ℕ) → k < q.tail → 1 ≤ mark q (entry n q k)
    pub queued : (c : ℕ) → c < n → 1 ≤ mark q c → (k : ℕ) × (k < q.tail) × (entry n q k ≡ c)
    pub sorted : (k l : ℕ) → k ≤ l → l < q.tail → mark q (entry n q k) ≤ mark q (entry n q l)
    pub close : h < q.tail → (k : ℕ) → k < q.tail → mark q (entry n q k) ≤ suc (mark q (entry n q h))
    pub done : (k j : ℕ) → k < h → k < q.tail → Memᴰ j (near (entry n q k)) → T (air j) → 1 ≤ mark q j
    pub right : (c d : ℕ) → c < n → mark q c ≡ suc d → δ c ≡ Some d

  pub Opened : Queue → Type 0
  Opened q = (c : ℕ) → c < n → T (opening c) → 1 ≤ mark q c

  -- ---- a cell enters the queue
  module _ (h m j : ℕ) (q p : Queue) (g : Good h q) (s : Safe n p) (u : Put n (m + 1) j q p) (l : j < n) (z : mark q j ≡ 0) (dj : δ j ≡ Some m) (hl : h ≤ q.tail)
      (top : (k : ℕ) → k < q.tail → mark q (entry n q k) ≤ suc m) (low : h < q.tail → m ≤ mark q (entry n q h)) where
    old : (k : ℕ) → k < q.tail → mark p (entry n p k) ≡ mark q (entry n q k)
    old k b = ap (mark p) (u.entry_else k b) ∙ u.mark_else (entry n q k) (g.safe.inside k b) (λ e. omega (arith, g.marked k b, ap (mark q) e))

    new : mark p (entry n p q.tail) ≡ suc m
    new = ap (mark p) u.entry_here ∙ u.mark_here ∙ add-one m

    at_tail : (k : ℕ) → k ≡ q.tail → mark p (entry n p k) ≡ suc m
    at_tail k e = ap (λ x. mark p (entry n p x)) e ∙ new

    -- an entry of the new queue is an old one or the new one
    which : {X : Type 0} (k : ℕ) → k < p.tail → (k < q.tail → X) → (k ≡ q.tail → X) → X
    which k b f g = ⊎_elim (λ o. g (omega (arith, u.tail_is))) f (le_or_lt q.tail k)

    put_good : Good h p
    put_good = record {
      safe = s;
      marked = λ k b. which k b (λ o. omega (arith, old k o, g.marked k o)) (λ e. omega (arith, at_tail k e));
      queued = λ c lc b. queued_at c lc b (ℕ_discrete c j);
      sorted = λ k i ki b. which i b
          (λ o. omega (arith, old i o, old k (omega arith), g.sorted k i ki o))
          (λ e. which k (omega arith) (λ o. omega (arith, at_tail i e, old k o, top k o)) (λ f. omega (arith, at_tail i e, at_tail k f)));
      close = λ hb k b. which h hb
          (λ ho. which k b (λ o. omega (arith, old h ho, old k o, g.close ho k o)) (λ e. omega (arith, old h ho, at_tail k e, low ho)))
          (λ he. which k b (λ o. omega (arith, at_tail h he, old k o, top k o)) (λ e. omega (arith, at_tail h he, at_tail k e)));
      done = λ k i kh kb mem a. let o : k < q.tail = omega arith in
          later_marked n q p (later_put n (m + 1) j q p u z) i (D.air_cell i a) (g.done k i kh o (subst (λ x. Memᴰ i (near x)) (u.entry_else k o) mem) a);
      right = λ c d lc e. right_at c d lc e (ℕ_discrete c j);
    }
      where
        queued_at : (c : ℕ) → c < n → 1 ≤ mark p c → Dec (c ≡ j) → (k : ℕ) × (k < p.tail) × (entry n p k ≡ c)
        queued_at c lc b (yes e) = (q.tail, omega (arith, u.tail_is), u.entry_here ∙ sym e)
        queued_at c lc b (no e) = let r = g.queued c lc (omega (arith, u.mark_else c lc e)) in (r.0, omega (arith, u.tail_is, r.1), u.entry_else r.0 r.1 ∙ r.2)

        right_at : (c d : ℕ) → c < n → mark p c ≡ suc d → Dec (c ≡ j) → δ c ≡ Some d
        right_at c d lc e (yes f) = ap δ f ∙ dj ∙ ap Some (omega (arith, ap (mark p) f, u.mark_here))
        right_at c d lc e (no f) = g.right c d lc (sym (u.mark_else c lc f) ∙ e)

  -- ---- what is nearer than a bound is marked, where all with a mark below the bound are done
  reached : (h b : ℕ) (q : Queue) → Good h q → Opened q → ((k : ℕ) → k < q.tail → mark q (entry n q k) < b → k < h) → (e x : ℕ) → e < b → δ x ≡ Some e → 1 ≤ mark q x
  unfolding Opened
  reached h b q g o f zero x l d = o x (D.cell x 0 d) (D.opening_at x d)
  reached h b q g o f (suc e) x l d = from (D.before x e d) (λ j dj. reached h b q g o f e j (omega arith) dj)
    where
      from : T (air x) × ((j : ℕ) × Memᴰ j (near x) × (δ j ≡ Some e)) → ((j : ℕ) → δ j ≡ Some e → 1 ≤ mark q j) → 1 ≤ mark q x
      from r rec =
          let j = r.1.0 in
          let dj = r.1.2 in
          let lj = D.cell j e dj in
          let mj = rec j dj in
          let k = g.queued j lj mj in
          let w : mark q j ≡ suc (mark q j - 1) = omega arith in
          let v : mark q j - 1 ≡ e = same_steps (g.right j (mark q j - 1) lj w) dj in
          let back = subst (λ y. Memᴰ x (near y)) (sym k.2) (D.both x j (D.cell x (suc e) d) lj r.1.1) in
          g.done k.0 x (f k.0 k.1 (omega (arith, ap (mark q) k.2))) k.1 back r.0

  -- ---- an unmarked air neighbour of the head is one step further
  module _ (h c m : ℕ) where
    -- the head is c, with the mark m
    pub record Head (q : Queue) : Type 0 where
      pub good : Good h q
      pub opened : Opened q
      pub waits : h < q.tail
      pub is_c : entry n q h ≡ c
      pub is_m : mark q c ≡ m

    head_cell : (q : Queue) → Head q → c < n
    head_cell q t = subst (λ x. x < n) t.is_c (t.good.safe.inside h t.waits)

    head_marked : (q : Queue) → Head q → 1 ≤ mark q c
    head_marked q t = subst (λ x. 1 ≤ mark q x) t.is_c (t.good.marked h t.waits)

    further : (q : Queue) → Head q → (j : ℕ) → Memᴰ j (near c) → T (air j) → mark q j ≡ 0 → δ j ≡ Some m
    further q t j mem a z =
        let lc = head_cell q t in
        let lj = D.air_cell j a in
        let w : mark q c ≡ suc (m - 1) = omega (arith, t.is_m, head_marked q t) in
        let r = D.after j c (m - 1) a (D.both c j lc lj mem) (t.good.right c (m - 1) lc w) in
        ⊎_elim
        (λ b. r.2 ∙ ap Some (omega (arith, b, r.1, t.is_m, head_marked q t)))
        (λ b. absurd (omega (arith, z, reached h m q t.good t.opened ahead r.0 j b r.2)))
        (le_or_lt m r.0)
      where
        ahead : (k : ℕ) → k < q.tail → mark q (entry n q k) < m → k < h
        ahead k b f = ⊎_elim (λ o. absurd (omega (arith, f, t.good.sorted h k o b, ap (mark q) t.is_c, t.is_m))) (λ l. l) (le_or_lt h k)

    head_later : (q p : Queue) → Head q → Later n q p → Good h p → Head p
    unfolding Opened
    head_later q p t a g = record {
      good = g;
      opened = λ x l o. later_marked n q p a x l (t.opened x l o);
      waits = omega (arith, a.more, t.waits);
      is_c = a.entries h t.waits ∙ t.is_c;
      is_m = a.kept c (head_cell q t) (head_marked q t) ∙ t.is_m;
    }

    -- one neighbour is reached
    pub record Step (q p : Queue) (j : ℕ) : Type 0 where
      pub head : Head p
      pub later : Later n q p
      pub here : T (air j) → 1 ≤ mark p j

    step_reach : (q : Queue) → Head q → (j : ℕ) → Memᴰ j (near c) → T (air j) → Step q (reach n m j q) j
    step_reach q t j mem a = go (ℕ_discrete (mark q j) 0)
      where
        go : Dec (mark q j ≡ 0) → Step q (reach n m j q) j
        go (yes z) = subst (λ p. Step q p j) (sym (reach_put n m j q z)) (record {
          head = head_later q (put n (m + 1) j q) t later
              (put_good h m j q (put n (m + 1) j q) t.good
              (put_safe n q t.good.safe j lj z (m + 1) (omega arith) (omega (arith, t.good.safe.low c (head_cell q t), t.is_m)))
              u lj z (further q t j mem a z) (omega (arith, t.waits))
              (λ k b. omega (arith, t.good.close t.waits k b, ap (mark q) t.is_c, t.is_m))
              (λ b. omega (arith, ap (mark q) t.is_c, t.is_m)));
          later = later;
          here = λ a. omega (arith, u.mark_here);
        })
          where
            lj : j < n
            lj = D.air_cell j a

            u : Put n (m + 1) j q (put n (m + 1) j q)
            u = put_is n (m + 1) j q t.good.safe.long lj (place n q t.good.safe j lj z)

            later : Later n q (put n (m + 1) j q)
            later = later_put n (m + 1) j q (put n (m + 1) j q) u z
        go (no z) = subst (λ p. Step q p j) (sym (reach_keep n m j q z)) (record { head = t; later = later_same n q; here = λ a. omega (arith, z) })

    step_one : (q : Queue) → Head q → (j : ℕ) → Memᴰ j (near c) → Step q (cond (air j) (reach n m j q) q) j
    step_one q t j mem = split (air j)
        (λ a. subst (λ b. Step q (cond b (reach n m j q) q) j) (sym (is_true (air j) a)) (step_reach q t j mem a))
        (λ a. subst (λ b. Step q (cond b (reach n m j q) q) j) (sym (is_false (air j) a)) (record { head = t; later = later_same n q; here = λ b. absurd (T_not (air j) a b) }))

    -- all of a list of neighbours
    pub record Steps (q p : Queue) (js : List ℕ) : Type 0 where
      pub head : Head p
      pub later : Later n q p
      pub all : (j : ℕ) → Memᴰ j js → T (air j) → 1 ≤ mark p j

    steps : (js : List ℕ) → ((j : ℕ) → Memᴰ j js → Memᴰ j (near c)) → (q : Queue) → Head q → Steps q (reach_all n air m js q) js
    unfolding over
    steps [] f q t = record { head = t; later = later_same n q; all = λ j mem a. absurd (Memᴰ.not-nil mem) }
    steps (a ∷ js) f q t = add (step_one q t a (f a (Memᴰ.head refl))) (λ x. steps js (λ j mem. f j (Memᴰ.tail mem)) (cond (air a) (reach n m a q) q) x)
      where
        add : Step q (cond (air a) (reach n m a q) q) a → (Head (cond (air a) (reach n m a q) q) → Steps (cond (air a) (reach n m a q) q) (reach_all n air m js (cond (air a) (reach n m a q) q)) js)
            → Steps q (reach_all n air m js (cond (air a) (reach n m a q) q)) (a ∷ js)
        add x rec =
            let y = rec x.head in
            let p = cond (air a) (reach n m a q) q in
            let r = reach_all n air m js p in
            record {
              head = y.head;
              later = later_then n q p r x.later y.later;
              all = λ j mem b. ⊎_elim
                  (λ e. subst (λ i. 1 ≤ mark r i) (sym e) (later_marked n p r y.later a (D.air_cell a (subst (λ i. T (air i)) e b)) (x.here (subst (λ i. T (air i)) e b))))
                  (λ o. y.all j o b)
                  (Memᴰ.cases_cons mem);
            }

  -- ---- a turn
  pub record Turned (h : ℕ) (q p : Queue) : Type 0 where
    pub good : Good h p
    pub opened : Opened p
    pub later : Later n q p

  turned_head : (h : ℕ) (q : Queue) → Good h q → Opened q → h < q.tail → Turned (suc h) q (reach_all n air (mark q (entry n q h)) (near (entry n q h)) q)
  turned_head h q g o l = from (steps h c (mark q c) (near c) (λ j mem. mem) q (record { good = g; opened = o; waits = l; is_c = refl; is_m = refl }))
    where
      c : ℕ
      c = entry n q h

      p : Queue
      p = reach_all n air (mark q c) (near c) q

      from : Steps h c (mark q c) q p (near c) → Turned (suc h) q p
      from s =
          let t = s.head in
          let G = t.good in
          record {
            good = record {
              safe = G.safe;
              marked = G.marked;
              queued = G.queued;
              sorted = G.sorted;
              close = λ b k kb. omega (arith, G.close t.waits k kb, G.sorted h (suc h) (omega arith) b);
              done = λ k j b kb mem a. ⊎_elim
                  (λ e. s.all j (subst (λ x. Memᴰ j (near x)) (ap (entry n p) e ∙ t.is_c) mem) a)
                  (λ o. G.done k j o kb mem a)
                  (eq-or-lt_of_le (le_of_suc-le-suc b));
              right = G.right;
            };
            opened = t.opened;
            later = s.later;
          }

  turned_rest : (h : ℕ) (q : Queue) → Good h q → Opened q → q.tail ≤ h → Turned (suc h) q q
  turned_rest h q g o l = record {
    good = record {
      safe = g.safe;
      marked = g.marked;
      queued = g.queued;
      sorted = g.sorted;
      close = λ b k kb. absurd (omega arith);
      done = λ k j b kb mem a. g.done k j (omega arith) kb mem a;
      right = g.right;
    };
    opened = o;
    later = later_same n q;
  }

  turned : (h : ℕ) (q : Queue) → Good h q → Opened q → Turned (suc h) q (turn n air near h q)
  unfolding turn
  turned h q g o = ⊎_elim
      (λ l. subst (λ b. Turned (suc h) q (cond b (reach_all n air (mark q (entry n q h)) (near (entry n q h)) q) q)) (sym (le-ltb h q.tail l)) (turned_rest h q g o l))
      (λ l. subst (λ b. Turned (suc h) q (cond b (reach_all n air (mark q (entry n q h)) (near (entry n q h)) q) q)) (sym (lt-ltb h q.tail l)) (turned_head h q g o l))
      (le_or_lt q.tail h)

  turns : (k : ℕ) (q : Queue) → Good 0 q → Opened q → Turned k q (up (turn n air near) k q)
  unfolding up
  turns zero q g o = record { good = g; opened = o; later = later_same n q }
  turns (suc k) q g o =
      let t = turns k q g o in
      let w = turned k (up (turn n air near) k q) t.good t.opened in
      record { good = w.good; opened = w.opened; later = later_then n q (up (turn n air near) k q) (turn n air near k (up (turn n air near) k q)) t.later w.later }

  -- ---- the start: the openings among the first i cells are in the queue
  pub record Seeded (i : ℕ) (q p : Queue) : Type 0 where
    pub good : Good 0 p
    pub ones : (c : ℕ) → c < n → mark p c ≤ 1
    pub opens : (c : ℕ) → c < i → c < n → T (opening c) → 1 ≤ mark p c
    pub later : Later n q p

  seed_put : (i : ℕ) (q p : Queue) → Seeded i q p → i < n → T (opening i) → mark p i ≡ 0 → Seeded (suc i) q (put n 1 i p)
  seed_put i q p s l a z = record {
    good = put_good 0 0 i p r s.good (put_safe n p s.good.safe i l z 1 (omega arith) (omega arith)) u l z (D.at_opening i l a) (omega arith)
        (λ k b. s.ones (entry n p k) (s.good.safe.inside k b)) (λ b. omega arith);
    ones = λ c lc. ones_at c lc (ℕ_discrete c i);
    opens = λ c b lc o. ⊎_elim (λ e. omega (arith, ap (mark r) e, u.mark_here)) (λ k. later_marked n p r lat c lc (s.opens c k lc o)) (eq-or-lt_of_le (le_of_suc-le-suc b));
    later = later_then n q p r s.later lat;
  }
    where
      r : Queue
      r = put n 1 i p

      u : Put n 1 i p r
      u = put_is n 1 i p s.good.safe.long l (place n p s.good.safe i l z)

      lat : Later n p r
      lat = later_put n 1 i p r u z

      ones_at : (c : ℕ) → c < n → Dec (c ≡ i) → mark r c ≤ 1
      ones_at c lc (yes e) = omega (arith, ap (mark r) e, u.mark_here)
      ones_at c lc (no e) = omega (arith, u.mark_else c lc e, s.ones c lc)

  seed_keep : (i : ℕ) (q p : Queue) → Seeded i q p → (T (opening i) → 1 ≤ mark p i) → Seeded (suc i) q p
  seed_keep i q p s f = record {
    good = s.good;
    ones = s.ones;
    opens = λ c b lc o. ⊎_elim (λ e. omega (arith, ap (mark p) e, f (subst (λ x. T (opening x)) e o))) (λ k. s.opens c k lc o) (eq-or-lt_of_le (le_of_suc-le-suc b));
    later = s.later;
  }

  seed_one : (i : ℕ) (q p : Queue) → Seeded i q p → i < n → Seeded (suc i) q (start n opening i p)
  unfolding start
  seed_one i q p s l = split (opening i)
      (λ a. subst (λ b. Seeded (suc i) q (cond b (reach n 0 i p) p)) (sym (is_true (opening i) a)) (go a (ℕ_discrete (mark p i) 0)))
      (λ a. subst (λ b. Seeded (suc i) q (cond b (reach n 0 i p) p)) (sym (is_false (opening i) a)) (seed_keep i q p s (λ b. absurd (T_not (opening i) a b))))
    where
      go : T (opening i) → Dec (mark p i ≡ 0) → Seeded (suc i) q (reach n 0 i p)
      go a (yes z) = subst (Seeded (suc i) q) (sym (reach_put n 0 i p z)) (seed_put i q p s l a z)
      go a (no z) = subst (Seeded (suc i) q) (sym (reach_keep n 0 i p z)) (seed_keep i q p s (λ b. omega (arith, z)))

  seeds : (q : Queue) → Seeded 0 q q → (i : ℕ) → i ≤ n → Seeded i q (up (start n opening) i q)
  unfolding up
  seeds q s zero l = s
  seeds q s (suc i) l = seed_one i q (up (start n opening) i q) (seeds q s i (omega arith)) (omega arith)

  -- ---- no marks
  module _ (room : List ℕ) (few : n ≤ 32768) (long : n + n ≤ length room) where
    none : (c : ℕ) → c < n → get_or (up cleared n room) c 0 ≡ 0
    none c l = cleared_zero n room (omega arith) c l

    seeded : Seeded 0 (queue (up cleared n room) 0) (queue (up cleared n room) 0)
    seeded = record {
      good = record {
        safe = cleared_safe n room few long;
        marked = λ k l. absurd (omega arith);
        queued = λ c l b. absurd (omega (arith, none c l));
        sorted = λ k i ki l. absurd (omega arith);
        close = λ b k l. absurd (omega arith);
        done = λ k j b l mem a. absurd (omega arith);
        right = λ c d l e. absurd (omega (arith, none c l));
      };
      ones = λ c l. omega (arith, none c l);
      opens = λ c b l o. absurd (omega arith);
      later = later_same n (queue (up cleared n room) 0);
    }

    whole : Turned n (queue (up cleared n room) 0) (up (turn n air near) n (started n opening room))
    unfolding started Opened
    whole =
        let q = queue (up cleared n room) 0 in
        let s = seeds q seeded n (omega arith) in
        let t = turns n (up (start n opening) n q) s.good (λ c l o. s.opens c l l o) in
        record { good = t.good; opened = t.opened; later = later_then n q (up (start n opening) n q) (up (turn n air near) n (up (start n opening) n q)) s.later t.later }

    -- THE CLAIM: the marks end as the distances say
    pub marks_right : (c : ℕ) → c < n → mark (up (turn n air near) n (started n opening room)) c ≡ mark_of (δ c)
    unfolding mark_of
    marks_right c l = found_cases (δ c) (λ d e. at d e (ℕ_discrete (mark end c) 0)) (λ e. nowhere e (ℕ_discrete (mark end c) 0))
      where
        end : Queue
        end = up (turn n air near) n (started n opening room)

        t : Turned n (queue (up cleared n room) 0) end
        t = whole

        known : (mark end c ≡ 0 → ⊥) → δ c ≡ Some (mark end c - 1)
        known z = t.good.right c (mark end c - 1) l (omega (arith, z))

        at : (d : ℕ) → δ c ≡ Some d → Dec (mark end c ≡ 0) → mark end c ≡ mark_of (δ c)
        at d e (yes z) = absurd (omega (arith, z, reached n (suc d) end t.good t.opened (λ k b x. omega (arith, t.good.safe.free)) d c (omega arith) e))
        at d e (no z) = omega (arith, same_steps (known z) e, z) ∙ ap mark_of (sym e)

        nowhere : δ c ≡ None → Dec (mark end c ≡ 0) → mark end c ≡ mark_of (δ c)
        nowhere e (yes z) = z ∙ ap mark_of (sym e)
        nowhere e (no z) = absurd (never e (known z))

    rest_cleared : (k : ℕ) → k ≤ n → drop (n + n) (up cleared k room) ≡ drop (n + n) room
    unfolding up
    rest_cleared zero h = refl
    rest_cleared (suc k) h = drop-set-lt (n + n) (up cleared k room) k 0 (omega arith) ∙ rest_cleared k (omega arith)

    -- and the room behind the queue is as it was
    pub rest_kept : drop (n + n) (up (turn n air near) n (started n opening room)).room ≡ drop (n + n) room
    rest_kept = whole.later.rest ∙ rest_cleared n (omega arith)
