-- How the rounds end: with a state that passes the test, or with answer 8 or 9. Assumes nothing.
use mathlib.Core.Path.{◌≡◌, refl}
use mathlib.Core.Bool.{Bool, true, false}
use Prim.Native.Nat.{ℕ, zero, suc, ◌-◌, ◌≤◌}
use native.Mathlib.Omega.{arith}
use Rattle.method.specs.declared.Settings.{Settings}
use Rattle.method.specs.Cast.{Cast}
use Rattle.method.specs.Ticks.{passes}
use Rattle.method.specs.Rounds.{State, Turn, stalled, turned, round, End, pass, fail, run, start, ending}

pub data Ended (k : Cast) (t : Settings) (e : End) : Type 0 where
  passing : (st : State) → e ≡ pass k t st → passes k t st.x ≡ true → Ended k t e
  failing : (num : ℕ) (st : State) → 8 ≤ num → num ≤ 9 → e ≡ fail k t num st → Ended k t e

module _ (k : Cast) (t : Settings) where
  ends : (left : ℕ) (st : State) → Ended k t (run k t left st)
  unfolding run
  ends zero st = go (passes k t st.x) refl
    where
      go : (b : Bool) → passes k t st.x ≡ b → Ended k t (elim b [ true ↦ pass k t st | false ↦ fail k t 8 st ])
      go true e = passing st refl e
      go false e = failing 8 st (omega arith) (omega arith) refl
  ends (suc left) st = go (passes k t st.x) (round k.sides k.labels (t.levels - 1) st) refl (λ next. ends left next)
    where
      go : (b : Bool) (u : Turn) → passes k t st.x ≡ b → ((next : State) → Ended k t (run k t left next))
          → Ended k t (elim b [ true ↦ pass k t st | false ↦ elim u [ stalled ↦ fail k t 9 st | turned next ↦ run k t left next ] ])
      go true u e rec = passing st refl e
      go false stalled e rec = failing 9 st (omega arith) (omega arith) refl
      go false (turned next) e rec = rec next

pub ending_is : (k : Cast) (t : Settings) → Ended k t (ending k t)
unfolding ending
ending_is k t = ends k t t.rounds (start k)
