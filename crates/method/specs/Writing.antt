-- Document 01, "What comes back": writing a session, for every input. Definitions only.
use Rattle.std.specs.Prelude.{ℕ, Bool, not, ◌&&◌, List, [], ◌∷◌, leb, eqb, length}
use Rattle.method.specs.declared.Settings.{Settings}
use Rattle.method.specs.declared.Order.{Order}
use Rattle.method.specs.declared.Answer.{Answer}
use Rattle.method.specs.Cast.{Cast, cells, sides_fit, settings_fit, label_fault, value_fault}
use Rattle.method.specs.Form.{written}
use Rattle.method.specs.Answers.{refusal, done, Check, check, fault, passed, refused, verdict}
use Rattle.method.specs.Rooms.{filled}

-- ---- writing: a session, and the lent output
pub record Writing : Type 0 where
  pub cast : Cast
  pub order : Order
  pub settings : Settings
  pub output : List ℕ

abbrev pub bytes_of : Writing → List ℕ
bytes_of w = written w.cast w.order w.settings

-- "Writing checks 1, 3, 2, 4, 5."
unfoldable pub writer_lengths_fit : Writing → Bool
writer_lengths_fit w =
    eqb (length w.cast.labels) (cells w.cast.sides) && (eqb (length w.cast.values) (cells w.cast.sides)
    && leb (length (bytes_of w)) (length w.output))

unfoldable pub writer_checks : List (Check Writing)
writer_checks =
    check 1 (λ w. fault (not (sides_fit w.cast.sides)))
    ∷ check 3 (λ w. fault (not (settings_fit w.settings)))
    ∷ check 2 (λ w. fault (not (writer_lengths_fit w)))
    ∷ check 4 (λ w. label_fault w.cast) ∷ check 5 (λ w. value_fault w.cast)
    ∷ []

-- the answer; "The writer hands back the bytes written, 0 on a refusal"; and what the lent output holds
pub record Written : Type 0 where
  pub answer : Answer
  pub count : ℕ
  pub output : List ℕ

unfoldable pub writing : Writing → Written
writing w =
    elim (verdict writer_checks w) [
      | refused num place ↦ record { answer = refusal num place; count = 0; output = w.output }
      | passed ↦ record { answer = done; count = length (bytes_of w); output = filled (length (bytes_of w)) (bytes_of w) w.output }
    ]

-- one name that opens this file
unfoldable pub computing_writing : Unit {0}
unfolding writer_lengths_fit writer_checks writing
computing_writing = tt
