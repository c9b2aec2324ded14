-- Laws of the reader's checks in their order. Assumes nothing.
use mathlib.Core.Path.{◌≡◌, refl, sym, ap, ap₂, ◌∙◌}
use mathlib.Core.Bool.{Bool, true, false, not, ◌&&◌}
use mathlib.Core.List.{List, [], ◌∷◌}
use Prim.Native.Nat.{ℕ, ◌-◌, ◌*◌, ◌≤◌, ◌<◌}
use native.Mathlib.Omega.{arith}
use borrow.Author.Rules.{rules}
use borrow.Author.Tests.{eq-eqb, lt-ltb, ltb-false, leb-false, eqb-true}
use lib.Dec.{ltb, leb, eqb}
use lib.IntN.{pos, nat_abs}
use lib.ListN.{length, take, drop, replicate, length-drop, length-replicate}
use lib.Seq.{take_all}
use Rattle.laws.proofs.Lists.{get_or_tab}
use Rattle.method.specs.declared.Sides.{Sides}
use Rattle.method.specs.declared.Settings.{Settings}
use Rattle.std.specs.Prelude.{None, Result, Ok, Err, MatchResult, IsErrAnd}
use Rattle.method.specs.Cast.{cells, sides_fit, settings_fit, label_at, widest, first, bad_label, bad_value, label_fault, value_fault}
use Rattle.method.specs.Answers.{Check, check, fault, verdict}
use Rattle.method.specs.OldForm.{OldReading, old_named, old_header, old_bad_line, old_value_read, old_labels_in, old_values_in, old_cast_in, unit_fits, old_line_check, old_side_check, old_body_check, old_room_check, old_content_checks, old_reader_checks}
use Rattle.method.specs.OldForm as form
use Rattle.theory.proofs.Firsts.{first_cong}
use Rattle.theory.specs.Sides.{Fit}
use Rattle.theory.proofs.Sides.{fit}
use Rattle.theory.proofs.Verdicts.{fails_at, passes_on}
use Rattle.theory.proofs.OldRoundTrip.{unit_to}
use Rattle.checks.specs.Faults.{bad_label_at}
use Rattle.checks.specs.Rulings.{ruling_of, unless, first_of}
use Rattle.answers.specs.declared.Fault.{Fault}
use Rattle.answers.specs.declared.Fault.TheVariants.{SideOutOfRange, WrongLength, SettingOutOfRange, BadLabel, BadValue, BadLine, BadBody}
use Rattle.checks.proofs.RuleLaws.{side_is, length_is, setting_is, label_is, value_is, body_is, ruling_more, ruling_last, test_ends, test_passes, both_allowed, ruled_well}
use Rattle.old_header.specs.OldLines.{old_named_by, OldHeaderOf, old_header_in, old_wrong_in, old_start_in}
use Rattle.old_header.specs.declared.OldHeader.{OldHeader}
use Rattle.old_read.specs.OldBody.{old_value_in, bad_old_value}
use Rattle.old_read.specs.OldReads.{old_asked, old_verdict_of, old_size_ruling, old_body_ruling, OldSized, OldReadyIf, OldJudgedOf}

-- ---- check 1 found nothing
pub sides_allowed : (s : Sides) (r : Result (Unit {0}) Fault) → r ≡ unless SideOutOfRange (sides_fit s) → r ≡ Ok tt → Fit s
sides_allowed s r e d = fit s (ruled_well SideOutOfRange (sides_fit s) (sym e ∙ d))

pub ruleset sizes = (rules, sides_allowed)

-- ---- check 2, of sides that fit and a body of 3 bytes a cell
pub sizes_2 : (s : Sides) (u left room : ℕ) (t : Settings) (a : Bool) → a ≡ sides_fit s → a ≡ true → (n : ℕ) → n ≡ cells s → left ≡ 3 * n → room < n
    → Err WrongLength ≡ old_size_ruling s u left room t
sizes_2 s u left room t a e d n c f g = rw (sym e ∙ d, eq-eqb left (3 * cells s) (f ∙ ap (λ k. 3 * k) c), lt-ltb room (cells s) (omega arith))

-- what the code tests of the room
pub room_short : (n room : ℕ) (d : Fault) → unless WrongLength (leb n room) ≡ Err d → (room < n) × (d ≡ WrongLength)
room_short n room d e = go (leb n room) refl e
  where
    go : (b : Bool) → leb n room ≡ b → unless WrongLength b ≡ Err d → (room < n) × (d ≡ WrongLength)
    go true q k = cc
    go false q k = (leb-false n room q, cc)

not_twice : (b : Bool) → b ≡ not (not b)
not_twice true = refl
not_twice false = refl

-- ---- of a session whose sizes are right
module _ (bytes : List ℕ) (h : OldHeader) (z : OldSized bytes h) where
  pub sized_fit : Fit h.sides
  sized_fit = fit h.sides z.fit

  pub sized_start : h.start ≤ length bytes
  sized_start = z.within

  pub sized_unit : h.unit ≤ 1000
  sized_unit = z.unit

  pub sized_long : (body : List ℕ) (n : ℕ) → body ≡ drop h.start bytes → n ≡ cells h.sides → 3 * n ≤ length body
  sized_long body n b c = omega (arith, ap length b, z.long)

pub ruleset contents = (rules, sized_fit, sized_start, sized_unit, sized_long)

-- ---- method's checks 4 and 5 are these
module _ (H : form.OldHeader) (e : length H.body ≡ 3 * cells H.sides) where
  abbrev m : ℕ
  m = cells H.sides

  labels_are : old_labels_in H ≡ drop (2 * m) H.body
  unfolding old_labels_in
  labels_are = take_all m (drop (2 * m) H.body) (omega (arith, length-drop (2 * m) H.body))

  label_fault_lem : label_fault (old_cast_in H) ≡ first (bad_label_at (drop (2 * m) H.body)) m
  unfolding bad_label bad_label_at old_cast_in
  label_fault_lem = ap (λ ls. first (λ c. ltb 2 (label_at ls c)) m) labels_are

  value_fault_lem : value_fault (old_cast_in H) ≡ first (bad_old_value H.body (drop (2 * m) H.body) H.unit) m
  unfolding bad_value bad_old_value old_cast_in old_values_in old_value_in
  value_fault_lem =
      first_cong _ _ m
      (λ c l. ap₂ (λ ls v. ltb (widest (label_at ls c)) (nat_abs v)) labels_are
      (get_or_tab m (λ c. old_value_read H.unit (take 2 (drop (2 * c) H.body))) c (pos 0) l))

-- ---- all checks but 10, where the lines are of the form
cell_checks : List (Check OldReading)
cell_checks = check 4 (λ r. label_fault (old_cast_in (old_named r))) ∷ check 5 (λ r. value_fault (old_cast_in (old_named r))) ∷ []

module _ (t : Settings) (bytes : List ℕ) (room : ℕ) (h : OldHeader) (z : OldHeaderOf bytes (Ok h)) where
  abbrev asked : OldReading
  asked = old_asked t bytes room

  named_is : old_header bytes ≡ old_named_by bytes h
  unfolding old_header_in
  named_is = z.is

  pub start_within : h.start ≤ length bytes
  unfolding old_start_in
  start_within = z.within

  no_line : old_bad_line bytes ≡ None
  unfolding old_wrong_in
  no_line = z.line

  -- the checks from 1 on, by what the code tested
  sides_as : (a : Bool) → sides_fit h.sides ≡ a → fault (not (sides_fit (old_header bytes).sides)) ≡ fault (not a)
  sides_as a q = ap (λ H. fault (not (sides_fit H.sides))) named_is ∙ ap (λ x. fault (not x)) q

  body_as : (b : Bool) → eqb (length bytes - h.start) (3 * cells h.sides) ≡ b → fault (not (eqb (length (old_header bytes).body) (3 * cells (old_header bytes).sides))) ≡ fault (not b)
  body_as b q =
      ap (λ H. fault (not (eqb (length H.body) (3 * cells H.sides)))) named_is ∙ ap (λ k. fault (not (eqb k (3 * cells h.sides)))) (length-drop h.start bytes)
      ∙ ap (λ x. fault (not x)) q

  room_as : (c : Bool) → not (ltb room (cells h.sides)) ≡ c → fault (ltb (length (replicate room (pos 0))) (cells (old_header bytes).sides)) ≡ fault (not c)
  room_as c q =
      ap (λ k. fault (ltb k (cells (old_header bytes).sides))) (length-replicate room (pos 0)) ∙ ap (λ H. fault (ltb room (cells H.sides))) named_is
      ∙ ap fault (not_twice (ltb room (cells h.sides))) ∙ ap (λ x. fault (not x)) q

  limits_as : (d : Bool) → (unit_fits h.unit && settings_fit t) ≡ d → fault (not (unit_fits (old_header bytes).unit && settings_fit t)) ≡ fault (not d)
  limits_as d q = ap (λ H. fault (not (unit_fits H.unit && settings_fit t))) named_is ∙ ap (λ x. fault (not x)) q

  abbrev size_checks : List (Check OldReading)
  size_checks = old_side_check ∷ old_body_check ∷ old_room_check ∷ old_content_checks

  -- one of them fails
  sizes_end : (a b c d : Bool) (e : Fault) → sides_fit h.sides ≡ a → eqb (length bytes - h.start) (3 * cells h.sides) ≡ b → not (ltb room (cells h.sides)) ≡ c → (unit_fits h.unit && settings_fit t) ≡ d
      → first_of (unless SideOutOfRange a) (first_of (unless BadBody b) (first_of (unless WrongLength c) (unless SettingOutOfRange d))) ≡ Err e → verdict size_checks asked ≡ ruling_of (Err e)
  unfolding old_side_check old_body_check old_room_check old_content_checks
  sizes_end false b c d e p q r s k = test_ends _ SideOutOfRange e side_is _ asked false (sides_as false p) k
  sizes_end true false c d e p q r s k = test_passes _ SideOutOfRange _ asked true (sides_as true p) refl ∙ test_ends _ BadBody e body_is _ asked false (body_as false q) k
  sizes_end true true false d e p q r s k =
      test_passes _ SideOutOfRange _ asked true (sides_as true p) refl ∙ test_passes _ BadBody _ asked true (body_as true q) refl
      ∙ test_ends _ WrongLength e length_is _ asked false (room_as false r) k
  sizes_end true true true d e p q r s k =
      test_passes _ SideOutOfRange _ asked true (sides_as true p) refl ∙ test_passes _ BadBody _ asked true (body_as true q) refl
      ∙ test_passes _ WrongLength _ asked true (room_as true r) refl ∙ test_ends _ SettingOutOfRange e setting_is _ asked d (limits_as d s) k

  -- none of them fails
  sizes_pass : sides_fit h.sides ≡ true → eqb (length bytes - h.start) (3 * cells h.sides) ≡ true → not (ltb room (cells h.sides)) ≡ true → (unit_fits h.unit && settings_fit t) ≡ true
      → verdict size_checks asked ≡ verdict cell_checks asked
  unfolding old_side_check old_body_check old_room_check old_content_checks cell_checks
  sizes_pass p q r s =
      test_passes _ SideOutOfRange _ asked true (sides_as true p) refl ∙ test_passes _ BadBody _ asked true (body_as true q) refl
      ∙ test_passes _ WrongLength _ asked true (room_as true r) refl ∙ test_passes _ SettingOutOfRange _ asked true (limits_as true s) refl

  module _ (p : Result (Unit {0}) Fault) (e : p ≡ old_size_ruling h.sides h.unit (length bytes - h.start) room t) where
    pub sizes_refused : (d : Fault) → p ≡ Err d → OldJudgedOf t bytes room (Err d)
    unfolding old_reader_checks old_line_check old_verdict_of OldReadyIf
    sizes_refused d q = record { is = passes_on _ _ asked no_line ∙ sizes_end _ _ _ _ d refl refl refl refl (sym e ∙ q); ready = tt }

    -- where these find nothing
    module _ (d : p ≡ Ok tt) where
      four : (sides_fit h.sides ≡ true) × ((eqb (length bytes - h.start) (3 * cells h.sides) ≡ true) × ((not (ltb room (cells h.sides)) ≡ true) × ((unit_fits h.unit && settings_fit t) ≡ true)))
      four =
          let a = both_allowed (unless SideOutOfRange (sides_fit h.sides)) _ (sym e ∙ d) in
          let b = both_allowed (unless BadBody (eqb (length bytes - h.start) (3 * cells h.sides))) _ a.1 in
          let c = both_allowed (unless WrongLength (not (ltb room (cells h.sides)))) _ b.1 in
          (ruled_well SideOutOfRange _ a.0, (ruled_well BadBody _ b.0, (ruled_well WrongLength _ c.0, ruled_well SettingOutOfRange _ c.1)))

      left_true : (a b : Bool) → (a && b) ≡ true → a ≡ true
      left_true true b q = refl
      left_true false b q = q

      pub sizes_sized : OldSized bytes h
      sizes_sized = record {
        is = named_is;
        within = start_within;
        fit = four.0;
        long = length-drop h.start bytes ∙ eqb-true _ _ four.1.0;
        unit = unit_to h.unit (left_true (unit_fits h.unit) (settings_fit t) four.1.1.1);
      }

      roomy : cells h.sides ≤ room
      roomy = ltb-false room (cells h.sides) (not_twice (ltb room (cells h.sides)) ∙ ap not four.1.1.0)

      module _ (q : Result (Unit {0}) Fault) (f : q ≡ old_body_ruling (drop h.start bytes) (cells h.sides) h.unit) where
        cells_found : verdict cell_checks asked ≡ ruling_of q
        unfolding cell_checks
        cells_found =
            ruling_more _ BadLabel label_is _ asked (first (bad_label_at (drop (2 * cells h.sides) (drop h.start bytes))) (cells h.sides)) _
            (ap (λ H. label_fault (old_cast_in H)) named_is ∙ label_fault_lem (old_named_by bytes h) sizes_sized.long)
            (ruling_last _ BadValue value_is asked (first (bad_old_value (drop h.start bytes) (drop (2 * cells h.sides) (drop h.start bytes)) h.unit) (cells h.sides))
            (ap (λ H. value_fault (old_cast_in H)) named_is ∙ value_fault_lem (old_named_by bytes h) sizes_sized.long))
            ∙ ap ruling_of (sym f)

        by_cells : verdict old_reader_checks asked ≡ ruling_of q
        unfolding old_reader_checks old_line_check
        by_cells = passes_on _ _ asked no_line ∙ sizes_pass four.0 four.1.0 four.1.1.0 four.1.1.1 ∙ cells_found

        pub cells_refused : (g : Fault) → q ≡ Err g → OldJudgedOf t bytes room (Err g)
        unfolding old_verdict_of OldReadyIf
        cells_refused g k = record { is = by_cells ∙ ap ruling_of k; ready = tt }

        pub cells_passed : q ≡ Ok tt → OldJudgedOf t bytes room (Ok h)
        unfolding old_verdict_of OldReadyIf
        cells_passed g = record { is = by_cells ∙ ap ruling_of g; ready = record { sized = sizes_sized; roomy = roomy } }

pub ruleset named = (rules, start_within, sizes_refused, sizes_sized, cells_refused, cells_passed)

-- ---- 10, of a line whose number became a fault
line_refused : (t : Settings) (bytes : List ℕ) (room k : ℕ) → OldHeaderOf bytes (Err k) → OldJudgedOf t bytes room (Err (BadLine k))
unfolding old_reader_checks old_line_check old_wrong_in old_verdict_of OldReadyIf
line_refused t bytes room k z = record { is = fails_at _ _ (old_asked t bytes room) k z.line; ready = tt }

ok_or_err : (h : OldHeader) (d : Fault) → ◌≡◌ {A = Result OldHeader Fault} (Ok h) (Err d) → ⊥
ok_or_err h d q = cc

pub bad_line_told : (t : Settings) (bytes : List ℕ) (room : ℕ) (x : Result OldHeader ℕ) (r : Result OldHeader Fault) (d : Fault) → OldHeaderOf bytes x
    → MatchResult x (λ h. r ≡ Ok h) (λ k. IsErrAnd r (λ y. y ≡ BadLine k)) → r ≡ Err d → OldJudgedOf t bytes room (Err d)
bad_line_told t bytes room (Ok h) r d z m e = absurd (ok_or_err h d (sym m ∙ e))
bad_line_told t bytes room (Err k) r d z m e = let q : d ≡ BadLine k = rw e at m in rw q (line_refused t bytes room k z)
