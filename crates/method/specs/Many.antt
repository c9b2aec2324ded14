-- Document 02, wish 1, "One cast, many sources": one cast with 1 to 64 value sets laid end to end. Definitions only.
use Rattle.std.specs.Prelude.{ℕ, zero, suc, ◌*◌, Bool, not, ◌&&◌, List, [], ◌∷◌, ◌++◌, leb, eqb, length, take, drop, ℤ, pos, Float}
use Rattle.laws.specs.Binary64.{+0}
use Rattle.method.specs.declared.Sides.{Sides}
use Rattle.method.specs.declared.Settings.{Settings}
use Rattle.method.specs.declared.Answer.{Answer}
use Rattle.method.specs.Cast.{cells, interior, between, sides_fit, settings_fit, bad_label}
use Rattle.method.specs.Walks.{sealed}
use Rattle.method.specs.Answers.{refusal, done, Check, check, fault, passed, refused, verdict}
use Rattle.method.specs.Rooms.{byte_need, float_need, word_need, cleared}
use Rattle.method.specs.Solving.{Asked, solving}

-- ---- what is handed in and lent: one cast's sides and labels, the settings, how many sets, and their values,
-- pressures and answers laid end to end
pub record AskedMany : Type 0 where
  pub sides : Sides
  pub labels : List ℕ
  pub settings : Settings
  pub sets : ℕ
  pub values : List ℤ
  pub pressures : List ℤ
  pub answers : List ℤ
  pub bytes : List ℕ
  pub floats : List Float
  pub words : List ℕ

abbrev pub many_size : AskedMany → ℕ
many_size a = cells a.sides

-- ---- "All fields of each set's answer, in 01's order": a line for each field, and how many they are
unfoldable pub fields : Answer → List ℤ
fields r =
    pos r.number
    ∷ pos r.place
    ∷ pos r.rounds
    ∷ pos r.worst
    ∷ pos r.worstcell
    ∷ r.worstvalue
    ∷ pos r.interior
    ∷ pos r.depth
    ∷ []

abbrev pub field_count : ℕ
field_count = 8

-- ---- "its own stretch": stretch s of what is laid end to end, n elements each; and stretches 0 to k - 1 laid so
unfoldable pub stretch : {A : Type 0} → ℕ → ℕ → List A → List A
stretch n s l = take n (drop (s * n) l)

unfoldable pub end_to_end : {A : Type 0} → ℕ → (ℕ → List A) → List A
end_to_end zero f = []
end_to_end (suc k) f = end_to_end k f ++ f k

-- ---- the single call for set s
unfoldable pub single : AskedMany → ℕ → Asked
single a s =
    let n = many_size a in
    record {
      cast = record { sides = a.sides; labels = a.labels; values = stretch n s a.values };
      settings = a.settings;
      pressures = stretch n s a.pressures;
      bytes = a.bytes;
      floats = a.floats;
      words = a.words;
    }

-- ---- "a lent slice of signed 64-bit numbers that holds exactly these"; rooms as for one set
unfoldable pub many_lengths_fit : AskedMany → Bool
many_lengths_fit a =
    eqb (length a.labels) (many_size a) && (eqb (length a.values) (a.sets * many_size a) && (eqb (length a.pressures) (a.sets * many_size a)
    && (eqb (length a.answers) (a.sets * field_count) && (leb (byte_need (many_size a)) (length a.bytes)
    && (leb (float_need (many_size a)) (length a.floats) && leb (word_need (many_size a)) (length a.words))))))

-- "1 to 64 value sets"
unfoldable pub sets_fit : ℕ → Bool
sets_fit sets = between 1 64 sets

-- "Refusals: 1, 2, 3 (also for the number of sets), 4, 6, 7 in that order for the whole call": those before 7, which
-- change nothing lent, and 7
unfoldable pub many_checks_before7 : List (Check AskedMany)
many_checks_before7 =
    check 1 (λ a. fault (not (sides_fit a.sides)))
    ∷ check 2 (λ a. fault (not (many_lengths_fit a)))
    ∷ check 3 (λ a. fault (not (settings_fit a.settings && sets_fit a.sets)))
    ∷ check 4 (λ a. bad_label a.sides a.labels)
    ∷ check 6 (λ a. fault (eqb (interior a.sides a.labels) 0))
    ∷ []

unfoldable pub many_checks_from7 : List (Check AskedMany)
many_checks_from7 = check 7 (λ a. sealed a.sides a.labels) ∷ []

-- the answer to the whole call, and what everything lent holds
pub record SolvedMany : Type 0 where
  pub answer : Answer
  pub pressures : List ℤ
  pub answers : List ℤ
  pub bytes : List ℕ
  pub floats : List Float
  pub words : List ℕ

unfoldable pub many_untouched : AskedMany → Answer → SolvedMany
many_untouched a r = record { answer = r; pressures = a.pressures; answers = a.answers; bytes = a.bytes; floats = a.floats; words = a.words }

-- "its rooms as after 0"
unfoldable pub many_handed_back : AskedMany → Answer → List ℤ → List ℤ → SolvedMany
many_handed_back a r ps rs = record {
  answer = r;
  pressures = ps;
  answers = rs;
  bytes = cleared (byte_need (many_size a)) 0 a.bytes;
  floats = cleared (float_need (many_size a)) +0 a.floats;
  words = cleared (word_need (many_size a)) 0 a.words;
}

-- "Each set gets exactly what the single call, which stays, would give it."
unfoldable pub set_pressures : AskedMany → ℕ → List ℤ
set_pressures a s = (solving (single a s)).pressures

unfoldable pub set_fields : AskedMany → ℕ → List ℤ
set_fields a s = fields (solving (single a s)).answer

-- "past 7 the call is 0 with its other fields 0"
unfoldable pub solving_many : AskedMany → SolvedMany
solving_many a =
    elim (verdict many_checks_before7 a) [
      | refused num place ↦ many_untouched a (refusal num place)
      | passed ↦
          elim (verdict many_checks_from7 a) [
            | refused num place ↦ many_handed_back a (refusal num place) a.pressures a.answers
            | passed ↦ many_handed_back a done (end_to_end a.sets (set_pressures a)) (end_to_end a.sets (set_fields a))
          ]
    ]

-- one name that opens this file
unfoldable pub computing_many : Unit {0}
unfolding fields stretch end_to_end single many_lengths_fit sets_fit many_checks_before7 many_checks_from7 many_untouched many_handed_back set_pressures set_fields solving_many
computing_many = tt
