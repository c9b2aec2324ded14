-- Where the residual is worst: the first air cell of the greatest size, and what the rounds' end says of it. Assumes
-- nothing.
use mathlib.Core.Path.{◌≡◌, sym, ap, ◌∙◌}
use mathlib.Core.Bool.{not}
use mathlib.Core.List.{List}
use Prim.Native.Nat.{ℕ, ◌<◌, ◌≤◌}
use native.Mathlib.Omega.{arith}
use lib.Dec.{T, T_not, eqb, eqb→eq}
use lib.ListN.{length}
use lib.IntN.{ℤ, pos, nat_abs}
use borrow.Author.Tests.{eq-eqb}
use Rattle.laws.proofs.Bools.{and_l, and_r, and_in, so}
use Rattle.std.specs.Prelude.{Option, None, Some}
use Rattle.method.specs.Cast.{Cast, cells, label_at, is_air, judged, field, residual, worst, is_worst, worst_cell, worst_value}
use Rattle.method.specs.declared.Settings.{Settings}
use Rattle.method.specs.Rounds.{solved, failed, pass, fail, ending}
use Rattle.theory.proofs.Ends.{Ended, passing, failing, ending_is}
use Rattle.theory.proofs.Pressures.{worst_passes}
use Rattle.theory.proofs.Reach.{air_test, test_air}
use Rattle.theory.proofs.Greatest.{greatest_all, greatest_attained}
use Rattle.theory.proofs.Firsts.{Search, found, none, search_first}

module _ (k : Cast) (ps : List ℤ) where
  abbrev here : ℕ → ℤ
  here c = residual k.sides k.labels (field k.values) (field ps) c

  -- what worstcell and worstvalue are, where there is air
  pub record Worst : Type 0 where
    pub air : label_at k.labels (worst_cell k ps) ≡ 0
    pub value : worst_value k ps ≡ here (worst_cell k ps)
    pub size : nat_abs (worst_value k ps) ≡ worst k ps
    pub before : (c : ℕ) → c < worst_cell k ps → label_at k.labels c ≡ 0 → nat_abs (here c) < worst k ps

  abbrev cell_in : Option ℕ → ℕ
  cell_in f = elim f [ Some c ↦ c | None ↦ 0 ]

  abbrev value_in : Option ℕ → ℤ
  value_in f = elim f [ Some c ↦ here c | None ↦ pos 0 ]

  -- of a cell that is worst
  worst_air : (c : ℕ) → T (is_worst k ps c) → label_at k.labels c ≡ 0
  unfolding is_worst judged
  worst_air c t = test_air k.labels c (and_l (is_air k.labels c) (eqb (nat_abs (here c)) (worst k ps)) t)

  worst_sized : (c : ℕ) → T (is_worst k ps c) → nat_abs (here c) ≡ worst k ps
  unfolding is_worst judged
  worst_sized c t = eqb→eq (nat_abs (here c)) (worst k ps) (and_r (is_air k.labels c) (eqb (nat_abs (here c)) (worst k ps)) t)

  is_worst_lem : (c : ℕ) → label_at k.labels c ≡ 0 → nat_abs (here c) ≡ worst k ps → T (is_worst k ps c)
  unfolding is_worst judged
  is_worst_lem c e q = and_in (is_air k.labels c) (eqb (nat_abs (here c)) (worst k ps)) (air_test k.labels c e) (so (eq-eqb (nat_abs (here c)) (worst k ps) q))

  -- no air cell is worse
  within : (c : ℕ) → c < cells k.sides → label_at k.labels c ≡ 0 → nat_abs (here c) ≤ worst k ps
  unfolding worst judged
  within c l e = greatest_all (is_air k.labels) (λ j. nat_abs (here j)) (cells k.sides) c l (air_test k.labels c e)

  lower : (c : ℕ) → c < cells k.sides → label_at k.labels c ≡ 0 → T (not (is_worst k ps c)) → nat_abs (here c) < worst k ps
  lower c l e t = omega (arith, within c l e, differs)
    where
      differs : nat_abs (here c) ≡ worst k ps → ⊥
      differs q = T_not (is_worst k ps c) t (is_worst_lem c e q)

  attained : (i : ℕ) → i < cells k.sides → T (is_air k.labels i) → (j : ℕ) × (j < cells k.sides) × T (is_air k.labels j) × (nat_abs (here j) ≡ worst k ps)
  unfolding worst judged
  attained i l t = greatest_attained (is_air k.labels) (λ j. nat_abs (here j)) (cells k.sides) i l t

  pub where_worst : (i : ℕ) → i < cells k.sides → T (is_air k.labels i) → Worst
  unfolding worst_cell worst_value
  where_worst i l t = go (search_first (is_worst k ps) (cells k.sides))
    where
      go : Search (is_worst k ps) (cells k.sides) → Worst
      go (found c e r) =
          let cell : worst_cell k ps ≡ c = ap cell_in e in
          let value : worst_value k ps ≡ here c = ap value_in e in
          record {
            air = ap (label_at k.labels) cell ∙ worst_air c r.here;
            value = value ∙ sym (ap here cell);
            size = ap nat_abs value ∙ worst_sized c r.here;
            before = λ j m e. lower j (omega (arith, m, cell, r.below)) e (r.before j (omega (arith, m, cell)));
          }
      go (none e h) =
          let w = attained i l t in
          absurd (T_not (is_worst k ps w.0) (h w.0 w.1) (is_worst_lem w.0 (test_air k.labels w.0 w.2) w.3))

-- ---- what the rounds' end says: the worst that it carries is that of its pressures, and within the tolerance
not_both : {n w m o : ℕ} {ps : List ℤ} → solved n w ps ≡ failed m o → ⊥
not_both h = let z : ◌≡◌ {A = ℕ} 0 1 = cc in omega arith

same_worst : {n w m v : ℕ} {ps qs : List ℤ} → solved n w ps ≡ solved m v qs → (w ≡ v) × (ps ≡ qs)
same_worst h = (cc, cc)

pub end_worst : (k : Cast) (t : Settings) (n w : ℕ) (ps : List ℤ) → length k.labels ≡ cells k.sides → ending k t ≡ solved n w ps
    → (w ≡ worst k ps) × (w ≤ t.tolerance)
unfolding pass fail
end_worst k t n w ps sized e = go (ending_is k t)
  where
    go : Ended k t (ending k t) → (w ≡ worst k ps) × (w ≤ t.tolerance)
    go (passing st q p) =
        let same = same_worst (sym e ∙ q) in
        (same.0 ∙ ap (worst k) (sym same.1), omega (arith, same.0, worst_passes k st.x sized t p))
    go (failing num st l h q) = absurd (not_both (sym e ∙ q))
