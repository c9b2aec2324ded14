-- Laws of checks one after the other, and of the faults that the code makes of them. Assumes nothing.
use Rattle.std.specs.Prelude.{◌≡◌, ℕ, Bool, true, false, not, List, [], ◌∷◌, Option, Some, None, Result, Ok, Err, refl}
use Rattle.std.proofs.Common.{sym, ap, ap₂, ◌∙◌}
use borrow.Author.Rules.{rules}
use Rattle.method.specs.Answers.{Check, fault, Verdict, passed, refused, verdict}
use Rattle.theory.proofs.Verdicts.{after, verdict_cons, fault_no}
use Rattle.answers.specs.Faults.{number_of, place_of}
use Rattle.answers.specs.declared.Fault.{Fault}
use Rattle.answers.specs.declared.Fault.TheVariants.{SideOutOfRange, WrongLength, SettingOutOfRange, BadLabel, BadValue, NoAir, SealedAir, BadLine, BadBody, Inexpressible}
use Rattle.checks.specs.Rulings.{ruling_of, ruling_by, unless, first_of}

-- a fault's kind has a number of the table, and its place is the one that it is given
pub record Numbered (num : ℕ) (kind : ℕ → Fault) : Type 0 where
  pub is : (p : ℕ) → refused num p ≡ ruling_of (Err (kind p))

-- a fault that has no place
pub record Placeless (num : ℕ) (e : Fault) : Type 0 where
  pub is : refused num 0 ≡ ruling_of (Err e)

pub side_is : Placeless 1 SideOutOfRange
side_is = record { is = refl }

pub length_is : Placeless 2 WrongLength
length_is = record { is = refl }

pub setting_is : Placeless 3 SettingOutOfRange
setting_is = record { is = refl }

pub label_is : Numbered 4 BadLabel
label_is = record { is = λ p. refl }

pub value_is : Numbered 5 BadValue
value_is = record { is = λ p. refl }

pub no_air_is : Placeless 6 NoAir
no_air_is = record { is = refl }

pub sealed_is : Numbered 7 SealedAir
sealed_is = record { is = λ p. refl }

pub line_is : Numbered 10 BadLine
line_is = record { is = λ p. refl }

pub body_is : Placeless 11 BadBody
body_is = record { is = refl }

pub inexpressible_is : Numbered 13 Inexpressible
inexpressible_is = record { is = λ p. refl }

-- ---- one check more
by_found : {k : ℕ} {kind : ℕ → Fault} → Numbered k kind → (f : Option ℕ) (r : Result (Unit {0}) Fault) → after k f (ruling_of r) ≡ ruling_of (first_of (ruling_by kind f) r)
by_found h (Some p) r = h.is p
by_found h None r = refl

by_test : {k : ℕ} {e : Fault} → Placeless k e → (b : Bool) (r : Result (Unit {0}) Fault) → after k (fault (not b)) (ruling_of r) ≡ ruling_of (first_of (unless e b) r)
unfolding fault
by_test h true r = refl
by_test h false r = h.is

pub first_assoc : (a b c : Result (Unit {0}) Fault) → first_of (first_of a b) c ≡ first_of a (first_of b c)
first_assoc (Err e) b c = refl
first_assoc (Ok u) b c = refl

pub last_ruling : (r : Result (Unit {0}) Fault) → first_of r (Ok tt) ≡ r
last_ruling (Err e) = refl
last_ruling (Ok u) = refl

-- a number and a place, or none, as a verdict
abbrev pub verdict_of : Result (Unit {0}) (ℕ × ℕ) → Verdict
verdict_of (Err e) = refused e.0 e.1
verdict_of (Ok u) = passed

-- a verdict as a number and a place, or none
abbrev pub ruling_in : Verdict → Result (Unit {0}) (ℕ × ℕ)
ruling_in passed = Ok tt
ruling_in (refused k p) = Err (k, p)

-- Each verdict, of any number and place, is that of what it rules. No proof cites it: docs/ name it.
pub ruling_in_lem : (v : Verdict) → v ≡ verdict_of (ruling_in v)
ruling_in_lem passed = refl
ruling_in_lem (refused k p) = refl

-- a ruling of the code, each fault by its number and its place
abbrev pub by_number : Result (Unit {0}) Fault → Result (Unit {0}) (ℕ × ℕ)
by_number (Err e) = Err (number_of e, place_of e)
by_number (Ok u) = Ok u

-- The verdict of a ruling of the code is that of its number and place. No proof cites it: it ties `ruling_in_lem` to what the code rules.
pub by_number_lem : (r : Result (Unit {0}) Fault) → ruling_of r ≡ verdict_of (by_number r)
by_number_lem (Err e) = refl
by_number_lem (Ok u) = refl

-- nothing is against it: neither the first nor the second
pub both_allowed : (a b : Result (Unit {0}) Fault) → first_of a b ≡ Ok tt → (a ≡ Ok tt) × (b ≡ Ok tt)
both_allowed (Err e) b q = cc
both_allowed (Ok u) b q = (refl, q)

pub ruled_none : (kind : ℕ → Fault) (f : Option ℕ) → ruling_by kind f ≡ Ok tt → f ≡ None
ruled_none kind (Some p) e = cc
ruled_none kind None e = refl

pub ruled_well : (e : Fault) (b : Bool) → unless e b ≡ Ok tt → b ≡ true
ruled_well e true q = refl
ruled_well e false q = cc

module _ {A : Type 0} where
  -- the rulings of the checks, the earlier first, are their verdict
  pub ruling_none : (a : A) → verdict [] a ≡ ruling_of (Ok tt)
  unfolding verdict
  ruling_none a = refl

  pub ruling_more : (c : Check A) (kind : ℕ → Fault) → Numbered c.number kind → (cs : List (Check A)) (a : A) (f : Option ℕ) (r : Result (Unit {0}) Fault) → c.fails a ≡ f → verdict cs a ≡ ruling_of r
      → verdict (c ∷ cs) a ≡ ruling_of (first_of (ruling_by kind f) r)
  ruling_more c kind k cs a f r e h = verdict_cons c cs a ∙ ap₂ (after c.number) e h ∙ by_found k f r

  pub ruling_last : (c : Check A) (kind : ℕ → Fault) → Numbered c.number kind → (a : A) (f : Option ℕ) → c.fails a ≡ f → verdict (c ∷ []) a ≡ ruling_of (ruling_by kind f)
  ruling_last c kind k a f e = ruling_more c kind k [] a f (Ok tt) e (ruling_none a) ∙ ap ruling_of (last_ruling (ruling_by kind f))

  -- the same of a check that has no place
  pub test_more : (c : Check A) (e : Fault) → Placeless c.number e → (cs : List (Check A)) (a : A) (b : Bool) (r : Result (Unit {0}) Fault) → c.fails a ≡ fault (not b) → verdict cs a ≡ ruling_of r
      → verdict (c ∷ cs) a ≡ ruling_of (first_of (unless e b) r)
  test_more c e k cs a b r q h = verdict_cons c cs a ∙ ap₂ (after c.number) q h ∙ by_test k b r

  pub test_last : (c : Check A) (e : Fault) → Placeless c.number e → (a : A) (b : Bool) → c.fails a ≡ fault (not b) → verdict (c ∷ []) a ≡ ruling_of (unless e b)
  test_last c e k a b q = test_more c e k [] a b (Ok tt) q (ruling_none a) ∙ ap ruling_of (last_ruling (unless e b))

  -- a check that finds something ends the verdict, whatever comes after it; one that finds nothing hands it on
  pub fault_ends : (c : Check A) (kind : ℕ → Fault) → Numbered c.number kind → (cs : List (Check A)) (a : A) (f : Option ℕ) (e : Fault) → c.fails a ≡ f → ruling_by kind f ≡ Err e → verdict (c ∷ cs) a ≡ ruling_of (Err e)
  fault_ends c kind k cs a (Some p) e q h = verdict_cons c cs a ∙ ap (λ x. after c.number x (verdict cs a)) q ∙ k.is p ∙ ap ruling_of h
  fault_ends c kind k cs a None e q h = cc

  pub fault_passes : (c : Check A) (kind : ℕ → Fault) (cs : List (Check A)) (a : A) (f : Option ℕ) → c.fails a ≡ f → ruling_by kind f ≡ Ok tt → verdict (c ∷ cs) a ≡ verdict cs a
  fault_passes c kind cs a f q h = verdict_cons c cs a ∙ ap (λ x. after c.number x (verdict cs a)) (q ∙ ruled_none kind f h)

  pub test_ends : (c : Check A) (e d : Fault) → Placeless c.number e → (cs : List (Check A)) (a : A) (b : Bool) → c.fails a ≡ fault (not b) → unless e b ≡ Err d → verdict (c ∷ cs) a ≡ ruling_of (Err d)
  unfolding fault
  test_ends c e d k cs a true q h = cc
  test_ends c e d k cs a false q h = verdict_cons c cs a ∙ ap (λ x. after c.number x (verdict cs a)) q ∙ k.is ∙ ap ruling_of h

  pub test_passes : (c : Check A) (e : Fault) (cs : List (Check A)) (a : A) (b : Bool) → c.fails a ≡ fault (not b) → unless e b ≡ Ok tt → verdict (c ∷ cs) a ≡ verdict cs a
  test_passes c e cs a b q h = verdict_cons c cs a ∙ ap (λ x. after c.number x (verdict cs a)) (q ∙ fault_no b (ruled_well e b h))

-- ---- the code's cases
pub unless_well : (e : Fault) (b : Bool) → b ≡ true → Ok tt ≡ unless e b
unless_well e b q = rw q

pub unless_not : (e : Fault) (b : Bool) → b ≡ false → Err e ≡ unless e b
unless_not e b q = rw q

pub ruled_at : (kind : ℕ → Fault) (p : ℕ) (f : Option ℕ) → f ≡ Some p → Err (kind p) ≡ ruling_by kind f
ruled_at kind p f e = rw e

pub ruled_nowhere : (kind : ℕ → Fault) (f : Option ℕ) → f ≡ None → Ok tt ≡ ruling_by kind f
ruled_nowhere kind f e = rw e

pub first_fault : {T : Type 0} (a : Result (Unit {0}) Fault) (b : Result T Fault) (e : Fault) → a ≡ Err e → Err e ≡ first_of a b
first_fault a b e q = rw q

pub first_passed : {T : Type 0} (a : Result (Unit {0}) Fault) (b : Result T Fault) (u : Unit {0}) → a ≡ Ok u → b ≡ first_of a b
first_passed a b u q = rw q

pub ruleset rulings = (rules, unless_well, unless_not, first_fault, first_passed)
