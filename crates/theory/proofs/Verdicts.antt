-- What a list of checks says: passed means that each check found nothing; a refusal has the number of one of them, and
-- those before it passed. Assumes nothing.
use mathlib.Core.Path.{◌≡◌, refl, sym, ap, ap₂, ◌∙◌}
use mathlib.Core.Bool.{Bool, true, false, not}
use mathlib.Core.List.{List, [], ◌∷◌}
use Prim.Native.Nat.{ℕ, ◌≤◌}
use native.Mathlib.Omega.{arith}
use Rattle.std.specs.Prelude.{Option, None, Some}
use Rattle.method.specs.Answers.{Check, fault, Verdict, passed, refused, verdict}
use Rattle.theory.proofs.Reach.{never}

-- every check finds nothing
abbrev pub AllPass : {A : Type 0} → List (Check A) → A → Type 0
AllPass [] a = Unit {0}
AllPass (c ∷ cs) a = (c.fails a ≡ None) × AllPass cs a

-- every check's number is from lo to hi
abbrev pub Numbered : {A : Type 0} → ℕ → ℕ → List (Check A) → Type 0
Numbered lo hi [] = Unit {0}
Numbered lo hi (c ∷ cs) = ((lo ≤ c.number) × (c.number ≤ hi)) × Numbered lo hi cs

-- a verdict by cases, with what was found on the way
pub data Judged {A : Type 0} (cs : List (Check A)) (a : A) : Type 0 where
  fine : verdict cs a ≡ passed → AllPass cs a → Judged cs a
  faulty : (num place : ℕ) → verdict cs a ≡ refused num place → ((lo hi : ℕ) → Numbered lo hi cs → (lo ≤ num) × (num ≤ hi)) → Judged cs a

pub judge : {A : Type 0} (cs : List (Check A)) (a : A) → Judged cs a
unfolding verdict
judge [] a = fine refl tt
judge {A} (c ∷ cs) a = go (c.fails a) refl (judge cs a)
  where
    after : Option ℕ → Verdict
    after f = elim f [ Some place ↦ refused c.number place | None ↦ verdict cs a ]

    go : (f : Option ℕ) → c.fails a ≡ f → Judged cs a → Judged (c ∷ cs) a
    go (Some place) e r = faulty c.number place (ap after e) (λ lo hi n. n.0)
    go None e (fine v p) = fine (ap after e ∙ v) (e, p)
    go None e (faulty num place v f) = faulty num place (ap after e ∙ v) (λ lo hi n. f lo hi n.1)

-- a check for a fault found nothing: there is none
pub no_fault : (b : Bool) → fault (not b) ≡ None → b ≡ true
unfolding fault
no_fault true e = refl
no_fault false e = absurd (never e refl)

pub no_fault' : (b : Bool) → fault b ≡ None → b ≡ false
unfolding fault
no_fault' true e = absurd (never e refl)
no_fault' false e = refl

-- ---- and back: a verdict passes exactly if every check does
pub not_passed : {num place : ℕ} {v : Verdict} → v ≡ passed → v ≡ refused num place → ⊥
not_passed p q = let z : ◌≡◌ {A = ℕ} 0 1 = cc in omega arith

pub all_pass : {A : Type 0} (cs : List (Check A)) (a : A) → verdict cs a ≡ passed → AllPass cs a
all_pass cs a e = go (judge cs a)
  where
    go : Judged cs a → AllPass cs a
    go (fine v p) = p
    go (faulty num place v f) = absurd (not_passed e v)

pub pass_all : {A : Type 0} (cs : List (Check A)) (a : A) → AllPass cs a → verdict cs a ≡ passed
unfolding verdict
pass_all [] a p = refl
pass_all {A} (c ∷ cs) a p = ap after p.0 ∙ pass_all cs a p.1
  where
    after : Option ℕ → Verdict
    after f = elim f [ Some place ↦ refused c.number place | None ↦ verdict cs a ]

pub fault_no : (b : Bool) → b ≡ true → fault (not b) ≡ None
unfolding fault
fault_no b e = rw e

pub fault_yes : (b : Bool) → b ≡ false → fault (not b) ≡ Some 0
unfolding fault
fault_yes b e = rw e

-- ---- one check more
abbrev pub after : ℕ → Option ℕ → Verdict → Verdict
after k (Some p) v = refused k p
after k None v = v

module _ {A : Type 0} where
  pub verdict_cons : (c : Check A) (cs : List (Check A)) (a : A) → verdict (c ∷ cs) a ≡ after c.number (c.fails a) (verdict cs a)
  unfolding verdict
  verdict_cons c cs a = go (c.fails a)
    where
      go : (f : Option ℕ) → ◌≡◌ {A = Verdict} (elim f [ Some place ↦ refused c.number place | None ↦ verdict cs a ]) (after c.number f (verdict cs a))
      go (Some p) = refl
      go None = refl

  pub fails_at : (c : Check A) (cs : List (Check A)) (a : A) (p : ℕ) → c.fails a ≡ Some p → verdict (c ∷ cs) a ≡ refused c.number p
  fails_at c cs a p e = verdict_cons c cs a ∙ ap (λ f. after c.number f (verdict cs a)) e

  pub passes_on : (c : Check A) (cs : List (Check A)) (a : A) → c.fails a ≡ None → verdict (c ∷ cs) a ≡ verdict cs a
  passes_on c cs a e = verdict_cons c cs a ∙ ap (λ f. after c.number f (verdict cs a)) e

  -- what is alike to every check has the same verdict
  abbrev pub Agree : List (Check A) → A → A → Type 0
  Agree [] a b = Unit {0}
  Agree (c ∷ cs) a b = (c.fails a ≡ c.fails b) × Agree cs a b

  pub verdict_agree : (cs : List (Check A)) (a b : A) → Agree cs a b → verdict cs a ≡ verdict cs b
  unfolding verdict
  verdict_agree [] a b h = refl
  verdict_agree (c ∷ cs) a b h = verdict_cons c cs a ∙ ap₂ (after c.number) h.0 (verdict_agree cs a b h.1) ∙ sym (verdict_cons c cs b)
