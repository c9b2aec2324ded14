-- Laws of the checks in their order, and of what the reader makes of a judgement. Assumes nothing.
use mathlib.Core.Path.{◌≡◌, refl, sym, ap, ap₂, ◌∙◌}
use mathlib.Core.Bool.{true, not}
use mathlib.Core.List.{List, ◌∷◌}
use Prim.Native.Nat.{ℕ, ◌+◌, ◌-◌, ◌*◌, ◌≤◌, ◌<◌}
use native.Mathlib.Omega.{arith}
use borrow.Author.Rules.{rules}
use borrow.Author.Tests.{eq-eqb, eqb-true, leb-true}
use lib.Dec.{ltb, leb, eqb}
use lib.IntN.{pos, nat_abs}
use lib.ListN.{length, get_or, take, drop, length-drop, length-replicate}
use lib.Seq.{get_or-take}
use Rattle.laws.specs.Lists.{tab}
use Rattle.laws.proofs.Lists.{get_or_tab}
use Rattle.std.specs.Prelude.{Bool, false, None, Result, Ok, Err, MatchResult, IsErrAnd}
use Rattle.method.specs.Cast.{cells, sides_fit, settings_fit, label_at, widest, first, bad_label, bad_value}
use Rattle.method.specs.Form.{header, bad_line, labels_in, values_in, cast_in}
use Rattle.method.specs.Form as form
use Rattle.method.specs.Answers.{fault, verdict}
use Rattle.method.specs.Reading.{line_check, side_check, body_check, room_check, content_checks, reader_checks}
use Rattle.session_header.specs.Lines.{named, HeaderOf, header_in, wrong_in, start_in}
use Rattle.checks.specs.Faults.{bad_label_at}
use Rattle.session_values.specs.Body.{value_in, bad_value_in}
use Rattle.theory.proofs.Firsts.{first_cong}
use Rattle.theory.specs.Sides.{Fit}
use Rattle.theory.proofs.Sides.{fit}
use Rattle.session_read.specs.Reads.{asked, verdict_of, Sized, Bodied, size_ruling, content_ruling, ReadyIf, JudgedOf}
use Rattle.checks.specs.Rulings.{ruling_of, unless, first_of}
use Rattle.answers.specs.declared.Fault.{Fault}
use Rattle.answers.specs.declared.Fault.TheVariants.{SideOutOfRange, WrongLength, SettingOutOfRange, BadLabel, BadValue, BadLine, BadBody}
use Rattle.theory.proofs.Verdicts.{fails_at, passes_on, fault_no}
use Rattle.checks.proofs.RuleLaws.{side_is, length_is, setting_is, label_is, value_is, body_is, ruling_more, ruling_last, test_more, test_ends, test_passes, both_allowed, ruled_well}
use Rattle.session_read.proofs.SizeLaws.{cells_few, short_by}
use Rattle.session_header.specs.declared.Header.{Header}

-- ---- checks 3, 4, 5 of a header
module _ (H : form.Header) (n : ℕ) (e : n ≡ cells H.sides) (l : n ≤ length H.body) where
  label_in : (c : ℕ) → c < n → label_at (labels_in H) c ≡ label_at H.body c
  unfolding label_at labels_in
  label_in c h = ap (λ k. get_or (take k H.body) c 2) (sym e) ∙ get_or-take n H.body c 2 h

  label_fault_lem : bad_label H.sides (labels_in H) ≡ first (bad_label_at H.body) n
  unfolding bad_label bad_label_at
  label_fault_lem = ap (first _) (sym e) ∙ first_cong _ _ n (λ c h. ap (ltb 2) (label_in c h))

  value_in_lem : (c : ℕ) → c < n → get_or (values_in H) c (pos 0) ≡ value_in H.body n H.order c
  unfolding values_in value_in
  value_in_lem c h = ap (λ k. get_or (tab k (λ c. form.value_read H.order (take 4 (drop (k + 4 * c) H.body)))) c (pos 0)) (sym e) ∙ get_or_tab n _ c (pos 0) h

  value_fault_lem : bad_value H.sides (labels_in H) (values_in H) ≡ first (bad_value_in H.body n H.order) n
  unfolding bad_value bad_value_in
  value_fault_lem = ap (first _) (sym e) ∙ first_cong _ _ n (λ c h. ap₂ (λ x y. ltb (widest x) (nat_abs y)) (label_in c h) (value_in_lem c h))

-- ---- the content: what the code found at each check
module _ (bytes : List ℕ) (h : Header) (n : ℕ) (z : Sized bytes h n) where
  settings_of : settings_fit (header bytes).settings ≡ settings_fit h.settings
  settings_of = ap (λ H. settings_fit H.settings) z.is

  labels_of_lem : (body : List ℕ) → body ≡ drop h.start bytes → bad_label (header bytes).sides (labels_in (header bytes)) ≡ first (bad_label_at body) n
  labels_of_lem body b =
      ap (λ H. bad_label H.sides (labels_in H)) z.is ∙ label_fault_lem (named bytes h) n z.cells (omega (arith, z.long)) ∙ ap (λ l. first (bad_label_at l) n) (sym b)

  values_of : (body : List ℕ) → body ≡ drop h.start bytes → bad_value (header bytes).sides (labels_in (header bytes)) (values_in (header bytes)) ≡ first (bad_value_in body n h.order) n
  values_of body b =
      ap (λ H. bad_value H.sides (labels_in H) (values_in H)) z.is ∙ value_fault_lem (named bytes h) n z.cells (omega (arith, z.long))
      ∙ ap (λ l. first (bad_value_in l n h.order) n) (sym b)

  pub content_ruled : (body : List ℕ) (o : Result (Unit {0}) Fault) → o ≡ content_ruling h.settings body n h.order → body ≡ drop h.start bytes → verdict content_checks (asked bytes 0) ≡ ruling_of o
  unfolding content_checks cast_in
  content_ruled body o e b =
      test_more _ SettingOutOfRange setting_is _ (asked bytes 0) (settings_fit h.settings) _ (ap (λ t. fault (not t)) settings_of)
      (ruling_more _ BadLabel label_is _ (asked bytes 0) (first (bad_label_at body) n) _ (labels_of_lem body b)
      (ruling_last _ BadValue value_is (asked bytes 0) (first (bad_value_in body n h.order) n) (values_of body b)))
      ∙ ap ruling_of (sym e)

  pub body_long : (body : List ℕ) → body ≡ drop h.start bytes → 5 * n ≤ length body
  body_long body b = omega (arith, ap length b, z.long)

pub ruleset rests = (rules, content_ruled, body_long)

-- ---- the checks before those of the content
-- no check of the content looks at the values
content_same : (bytes : List ℕ) (room : ℕ) → verdict content_checks (asked bytes room) ≡ verdict content_checks (asked bytes 0)
unfolding verdict content_checks
content_same bytes room = refl

-- checks 1 and 11, of what the header names
module _ (bytes : List ℕ) (room : ℕ) (h : Header) (z : HeaderOf bytes (Ok h)) where
  named_is : header bytes ≡ named bytes h
  unfolding header_in
  named_is = z.is

  pub start_within : h.start ≤ length bytes
  unfolding start_in
  start_within = z.within

  no_line : bad_line bytes ≡ None
  unfolding wrong_in
  no_line = z.line

  sides_of_lem : sides_fit (header bytes).sides ≡ sides_fit h.sides
  sides_of_lem = ap (λ H. sides_fit H.sides) named_is

  long_of : eqb (length (header bytes).body) (5 * cells (header bytes).sides) ≡ eqb (length bytes - h.start) (5 * cells h.sides)
  long_of = ap (λ H. eqb (length H.body) (5 * cells H.sides)) named_is ∙ ap (λ k. eqb k (5 * cells h.sides)) (length-drop h.start bytes)

  -- the first two are these, whatever comes after
  sizes_end : (f g : Bool) (e : Fault) → sides_fit h.sides ≡ f → eqb (length bytes - h.start) (5 * cells h.sides) ≡ g → first_of (unless SideOutOfRange f) (unless BadBody g) ≡ Err e
      → verdict (side_check ∷ body_check ∷ room_check ∷ content_checks) (asked bytes room) ≡ ruling_of (Err e)
  unfolding side_check body_check
  sizes_end true g e a b q =
      test_passes _ SideOutOfRange _ (asked bytes room) true (ap (λ t. fault (not t)) (sides_of_lem ∙ a)) refl
      ∙ test_ends _ BadBody e body_is _ (asked bytes room) g (ap (λ t. fault (not t)) (long_of ∙ b)) q
  sizes_end false g e a b q = test_ends _ SideOutOfRange e side_is _ (asked bytes room) false (ap (λ t. fault (not t)) (sides_of_lem ∙ a)) q

  module _ (r : Result (Unit {0}) Fault) (e : r ≡ size_ruling h.sides (length bytes - h.start)) where
    pub sizes_refused : (d : Fault) → r ≡ Err d → JudgedOf bytes room (Err d)
    unfolding reader_checks line_check verdict_of ReadyIf
    sizes_refused d q = record { is = passes_on _ _ (asked bytes room) no_line ∙ sizes_end _ _ d refl refl (sym e ∙ q); ready = tt }

    pub sizes_bodied : r ≡ Ok tt → Bodied bytes h
    sizes_bodied d =
        let p = both_allowed (unless SideOutOfRange (sides_fit h.sides)) _ (sym e ∙ d) in
        let f : sides_fit h.sides ≡ true = ruled_well SideOutOfRange (sides_fit h.sides) p.0 in
        let g : eqb (length bytes - h.start) (5 * cells h.sides) ≡ true = ruled_well BadBody _ p.1 in
        record {
          line = no_line;
          sized = record {
            is = named_is;
            within = start_within;
            fit = f;
            cells = refl;
            few = cells_few h.sides f;
            long = length-drop h.start bytes ∙ eqb-true _ _ g;
          };
        }

-- check 2 and the content, where 10, 1 and 11 found nothing
module _ (bytes : List ℕ) (room : ℕ) (h : Header) (z : Bodied bytes h) where
  pub bodied_fit : Fit h.sides
  bodied_fit = fit h.sides z.sized.fit

  module _ (n : ℕ) (c : n ≡ cells h.sides) where
    pub bodied_sized : Sized bytes h n
    bodied_sized = rw c z.sized

    module _ (p : Result (Unit {0}) Fault) (ep : p ≡ unless WrongLength (leb n room)) where
      short : room_check.fails (asked bytes room) ≡ fault (not (leb n room))
      unfolding room_check
      short =
          ap fault (ap₂ ltb (length-replicate room (pos 0)) (ap (λ H. cells H.sides) z.sized.is ∙ sym c) ∙ short_by n room)

      past_11 : verdict reader_checks (asked bytes room) ≡ verdict (room_check ∷ content_checks) (asked bytes room)
      unfolding reader_checks line_check side_check body_check
      past_11 =
          passes_on _ _ (asked bytes room) z.line
          ∙ passes_on _ _ (asked bytes room) (fault_no (sides_fit (header bytes).sides) (ap (λ H. sides_fit H.sides) z.sized.is ∙ z.sized.fit))
          ∙ passes_on _ _ (asked bytes room)
          (fault_no (eqb (length (header bytes).body) (5 * cells (header bytes).sides)) (ap (λ H. eqb (length H.body) (5 * cells H.sides)) z.sized.is ∙ eq-eqb _ _ z.sized.long))

      pub room_refused : (d : Fault) → p ≡ Err d → JudgedOf bytes room (Err d)
      unfolding room_check verdict_of ReadyIf
      room_refused d a = record { is = past_11 ∙ test_ends room_check WrongLength d length_is content_checks (asked bytes room) (leb n room) short (sym ep ∙ a); ready = tt }

      module _ (a : p ≡ Ok tt) (q : Result (Unit {0}) Fault) (eq : verdict content_checks (asked bytes 0) ≡ ruling_of q) where
        by_content : verdict reader_checks (asked bytes room) ≡ ruling_of q
        by_content = past_11 ∙ test_passes room_check WrongLength content_checks (asked bytes room) (leb n room) short (sym ep ∙ a) ∙ content_same bytes room ∙ eq

        pub content_refused : (d : Fault) → q ≡ Err d → JudgedOf bytes room (Err d)
        unfolding verdict_of ReadyIf
        content_refused d b = record { is = by_content ∙ rw b; ready = tt }

        pub content_passed : q ≡ Ok tt → JudgedOf bytes room (Ok h)
        unfolding verdict_of ReadyIf
        content_passed b =
            let f : leb n room ≡ true = ruled_well WrongLength (leb n room) (sym ep ∙ a) in
            record { is = by_content ∙ rw b; ready = record { sized = z.sized; roomy = rw c at (leb-true n room f) } }

-- check 10
pub session_10 : (bytes : List ℕ) (room k : ℕ) → HeaderOf bytes (Err k) → JudgedOf bytes room (Err (BadLine k))
unfolding reader_checks line_check wrong_in verdict_of ReadyIf
session_10 bytes room k z = record { is = fails_at _ _ (asked bytes room) k z.line; ready = tt }

-- the same, of a line whose number became a fault
pub bad_line_told : (bytes : List ℕ) (room : ℕ) (x : Result Header ℕ) (r : Result Header Fault) (d : Fault) → HeaderOf bytes x
    → MatchResult x (λ h. r ≡ Ok h) (λ k. IsErrAnd r (λ y. y ≡ BadLine k)) → r ≡ Err d → JudgedOf bytes room (Err d)
bad_line_told bytes room (Ok h) r d z m e = absurd (same_result h d (sym m ∙ e))
  where
    same_result : (h : Header) (d : Fault) → ◌≡◌ {A = Result Header Fault} (Ok h) (Err d) → ⊥
    same_result h d q = cc
bad_line_told bytes room (Err k) r d z m e = let q : d ≡ BadLine k = rw e at m in rw q (session_10 bytes room k z)

pub ruleset sized = (rules, start_within, sizes_refused, sizes_bodied, bodied_fit, bodied_sized, room_refused, content_refused, content_passed, session_10)
