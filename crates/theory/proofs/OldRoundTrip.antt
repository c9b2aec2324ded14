-- An old session written is read as what it was, with its unit, and bytes that are accepted are the one spelling of
-- what was read. Assumes nothing.
use mathlib.Core.Path.{◌≡◌, refl, sym, ap, ap₂, subst, ◌∙◌}
use mathlib.Core.Bool.{Bool, true, false, not, ◌&&◌}
use mathlib.Core.List.{List, ◌++◌, append_assoc, flat_map}
use Prim.Native.Nat.{ℕ, ◌+◌, ◌*◌, ◌<◌, ◌≤◌}
use native.Mathlib.Omega.{arith}
use lib.Dec.{T, leb, eqb, ltb, eqb→eq}
use lib.ListN.{length, get_or, take, drop, length-append, length-drop, take-append-drop}
use lib.Seq.{length-take-le, take_all, take-append_seam, drop_at}
use lib.IntN.{ℤ, pos}
use borrow.Author.Tests.{le-leb, eq-eqb, le-ltb}
use Rattle.method.specs.declared.Sides.{Sides}
use Rattle.method.specs.declared.Settings.{Settings}
use Rattle.std.specs.Prelude.{None}
use Rattle.method.specs.Cast.{Cast, cells, sides_fit, settings_fit, field, first, label_fault, value_fault}
use Rattle.method.specs.Form.{most_first}
use Rattle.method.specs.Answers.{fault, Verdict, passed, refused, refusal, done}
use Rattle.method.specs.Rooms.{filled}
use Rattle.method.specs.Writing.{Written}
use Rattle.method.specs.OldForm.{OldHeader, old_header, old_bad_line, old_value_read, old_value_written, short_signed, old_labels_in, old_values_in, old_cast_in, old_header_written, old_written, unit_fits, OldReading, OldRead, old_named, old_line_check, old_side_check, old_body_check, old_room_check, old_content_checks, old_reader_checks, old_reading, old_is_read, old_not_read, OldWriting, old_bytes_of, old_lengths_fit, expressible, not_expressible, old_writer_checks, old_writing}
use Rattle.laws.proofs.Lists.{length_tab, get_or_tab}
use Rattle.laws.proofs.Bools.{and_l, and_r, so}
use Rattle.theory.specs.Sessions.{Bytes, WrittenBack}
use Rattle.theory.specs.OldSessions.{OldRead0, OldWritten0, OldReadBack, old_to_read, old_again}
use Rattle.theory.proofs.Verdicts.{AllPass, Judged, fine, faulty, judge, no_fault, all_pass, pass_all, fault_no}
use Rattle.theory.proofs.Sides.{fit, from, to}
use Rattle.theory.proofs.Reach.{never}
use Rattle.theory.proofs.Firsts.{Search, found, none, search_first}
use Rattle.theory.proofs.RoundTrip.{bytes_after}
use Rattle.theory.proofs.OldBytes.{row_of, length_two, old_value_back, old_bytes_back, length_rows, rows_back, back_rows, two_at, short_below, signed_short, times_expressible}
use Rattle.theory.proofs.OldLines.{OldShort, old_header_back, no_old_bad_line, back_old_header}

-- ---- the unit
pub unit_from : (u : ℕ) → unit_fits u ≡ true → 1 ≤ u
unfolding unit_fits
unit_from u e = from 1 1000 u (so e)

pub unit_to : (u : ℕ) → unit_fits u ≡ true → u ≤ 1000
unfolding unit_fits
unit_to u e = to 1 1000 u (so e)

-- what fits has at most seven digits
short : (s : Sides) (u : ℕ) → sides_fit s ≡ true → unit_fits u ≡ true → OldShort s u
short s u e f =
    let z = fit s e in
    let m = unit_to u f in
    record { nx = omega arith; ny = omega arith; nz = omega arith; unit = omega arith }

-- ---- a search that found nothing, and one that finds nothing
pub nowhere_all : (test : ℕ → Bool) (n : ℕ) → first (λ c. not (test c)) n ≡ None → (c : ℕ) → c < n → test c ≡ true
nowhere_all test n e c l = go (search_first (λ c. not (test c)) n)
  where
    twice : (b : Bool) → T (not (not b)) → b ≡ true
    twice true t = refl
    twice false t = absurd t

    go : Search (λ c. not (test c)) n → test c ≡ true
    go (found d h r) = absurd (never e h)
    go (none h r) = twice (test c) (r c l)

pub all_nowhere : (test : ℕ → Bool) (n : ℕ) → ((c : ℕ) → c < n → test c ≡ true) → first (λ c. not (test c)) n ≡ None
all_nowhere test n h = go (search_first (λ c. not (test c)) n)
  where
    go : Search (λ c. not (test c)) n → first (λ c. not (test c)) n ≡ None
    go (found d e r) = absurd (subst (λ b. T (not b)) (h d r.below) r.here)
    go (none e r) = e

-- ---- the body: values, then labels
body_back : (h : OldHeader) → length h.body ≡ 3 * cells h.sides → 1 ≤ h.unit → Bytes h.body
    → flat_map (old_value_written h.unit) (old_values_in h) ++ old_labels_in h ≡ h.body
unfolding old_labels_in old_values_in
body_back h e u b =
    let n = cells h.sides in
    let f : length (drop (2 * n) h.body) ≡ n = length-drop (2 * n) h.body ∙ omega arith in
    ap₂ (λ x y. x ++ y)
    (back_rows 2 (old_value_read h.unit) (old_value_written h.unit) n h.body (omega arith)
    (λ c l. let t = two_at h.body (2 * c) (omega arith) in
    ap (λ x. old_value_written h.unit (old_value_read h.unit x)) t
    ∙ old_bytes_back h.unit (get_or h.body (2 * c) 0) (get_or h.body (2 * c + 1) 0) u (b (2 * c)) (b (2 * c + 1)) ∙ sym t))
    (take_all n (drop (2 * n) h.body) (omega arith))
    ∙ take-append-drop (2 * n) h.body

-- ---- READ, THEN WRITTEN with its unit: the same bytes
record Sound (r : OldReading) : Type 0 where
  pub line : old_bad_line r.bytes ≡ None
  pub sides : sides_fit (old_named r).sides ≡ true
  pub long : length (old_named r).body ≡ 3 * cells (old_named r).sides
  pub unit : unit_fits (old_named r).unit ≡ true
  pub label_fault_lem : label_fault (old_cast_in (old_named r)) ≡ None
  pub value_fault_lem : value_fault (old_cast_in (old_named r)) ≡ None

reader_fine : (r : OldReading) → OldRead0 r → Sound r
unfolding old_reader_checks old_line_check old_side_check old_body_check old_room_check old_content_checks
reader_fine r v =
    let p = all_pass old_reader_checks r v in
    let h = old_named r in
    let e = eqb (length h.body) (3 * cells h.sides) in
    let a = unit_fits h.unit in
    let b = settings_fit r.settings in
    record {
      line = p.0;
      sides = no_fault (sides_fit h.sides) p.1.0;
      long = eqb→eq (length h.body) (3 * cells h.sides) (so (no_fault e p.1.1.0));
      unit = true_of a (and_l a b (so (no_fault (a && b) p.1.1.1.1.0)));
      label_fault_lem = p.1.1.1.1.1.0;
      value_fault_lem = p.1.1.1.1.1.1.0;
    }
  where
    true_of : (b : Bool) → T b → b ≡ true
    true_of true t = refl
    true_of false t = absurd t

pub old_read_then_written : (r : OldReading) → Bytes r.bytes → OldRead0 r → old_written (old_cast_in (old_named r)) (old_named r).unit ≡ r.bytes
unfolding old_cast_in old_written
old_read_then_written r b v =
    let z = reader_fine r v in
    let h = old_named r in
    let front = old_header_written h.sides h.unit in
    let e : front ++ h.body ≡ r.bytes = back_old_header r.bytes z.line in
    append_assoc front (flat_map (old_value_written h.unit) (old_values_in h)) (old_labels_in h)
    ∙ ap (λ l. front ++ l) (body_back h z.long (unit_from h.unit z.unit) (bytes_after front h.body (subst Bytes (sym e) b)))
    ∙ e

-- ---- what the writer's checks say
record Fine (k : Cast) (u : ℕ) : Type 0 where
  pub sides : sides_fit k.sides ≡ true
  pub unit : unit_fits u ≡ true
  pub labels : length k.labels ≡ cells k.sides
  pub values : length k.values ≡ cells k.sides
  pub label_fault_lem : label_fault k ≡ None
  pub value_fault_lem : value_fault k ≡ None
  pub expressed : (c : ℕ) → c < cells k.sides → expressible u (field k.values c) ≡ true

writer_fine : (w : OldWriting) → OldWritten0 w → Fine w.cast w.unit
unfolding old_writer_checks old_lengths_fit not_expressible
writer_fine w v =
    let p = all_pass old_writer_checks w v in
    let n = cells w.cast.sides in
    let a = eqb (length w.cast.labels) n in
    let b = eqb (length w.cast.values) n in
    let c = leb (length (old_bytes_of w)) (length w.output) in
    let t : T (a && (b && c)) = so (no_fault (old_lengths_fit w) p.1.1.0) in
    record {
      sides = no_fault (sides_fit w.cast.sides) p.0;
      unit = no_fault (unit_fits w.unit) p.1.0;
      labels = eqb→eq (length w.cast.labels) n (and_l a (b && c) t);
      values = eqb→eq (length w.cast.values) n (and_l b c (and_r a (b && c) t));
      label_fault_lem = p.1.1.1.0;
      value_fault_lem = p.1.1.1.1.0;
      expressed = nowhere_all (λ c. expressible w.unit (field w.cast.values c)) n p.1.1.1.1.1.0;
    }

-- ---- an old session's bytes, read
module _ (k : Cast) (u : ℕ) (z : Fine k u) where
  row : List ℕ
  row = flat_map (old_value_written u) k.values

  body : List ℕ
  body = row ++ k.labels

  named_back : OldHeader
  named_back = record { sides = k.sides; unit = u; body = body }

  bytes_are : old_written k u ≡ old_header_written k.sides u ++ body
  unfolding old_written body row
  bytes_are = append_assoc (old_header_written k.sides u) (flat_map (old_value_written u) k.values) k.labels

  header_is : old_header (old_written k u) ≡ named_back
  unfolding named_back
  header_is = ap old_header bytes_are ∙ old_header_back k.sides u body (short k.sides u z.sides z.unit)

  line_is : old_bad_line (old_written k u) ≡ None
  line_is = ap old_bad_line bytes_are ∙ no_old_bad_line k.sides u body (short k.sides u z.sides z.unit)

  length_row : length row ≡ 2 * cells k.sides
  unfolding row
  length_row = length_rows 2 (old_value_read u) (old_value_written u) (length_two u) k.values ∙ ap (λ n. 2 * n) z.values

  length_body : length body ≡ 3 * cells k.sides
  unfolding body
  length_body = omega (arith, length-append row k.labels, length_row, z.labels)

  labels_are : old_labels_in named_back ≡ k.labels
  unfolding old_labels_in named_back body
  labels_are =
      let n = cells k.sides in
      ap (take n) (drop_at row k.labels (2 * n) length_row) ∙ take_all n k.labels (omega (arith, z.labels))

  values_are : old_values_in named_back ≡ k.values
  unfolding old_values_in named_back body row
  values_are =
      ap (λ m. row_of 2 (old_value_read u) (old_value_written u) m (row ++ k.labels)) (sym z.values)
      ∙ rows_back 2 (old_value_read u) (old_value_written u) (length_two u) k.values k.labels
      (λ c l. let e = z.values in old_value_back u (field k.values c) (z.expressed c (omega arith)))

  cast_is : old_cast_in named_back ≡ k
  unfolding old_cast_in named_back
  cast_is = ap₂ (λ ls vs. record { sides = k.sides; labels = ls; values = vs }) labels_are values_are

  -- the reader's checks pass
  accepted : (t : Settings) (vs : List ℤ) → settings_fit t ≡ true → cells k.sides ≤ length vs
      → AllPass old_reader_checks (record { settings = t; bytes = old_written k u; values = vs })
  unfolding old_reader_checks old_line_check old_side_check old_body_check old_room_check old_content_checks named_back fault
  accepted t vs f l = (
    line_is,
    (
      ap (λ h. fault (not (sides_fit h.sides))) header_is ∙ fault_no (sides_fit k.sides) z.sides,
      (
        ap (λ h. fault (not (eqb (length h.body) (3 * cells h.sides)))) header_is
            ∙ fault_no (eqb (length body) (3 * cells k.sides)) (eq-eqb (length body) (3 * cells k.sides) length_body),
        (
          ap (λ h. fault (ltb (length vs) (cells h.sides))) header_is ∙ ap fault (le-ltb (length vs) (cells k.sides) l),
          (
            ap (λ h. fault (not (unit_fits h.unit && settings_fit t))) header_is ∙ fault_no (unit_fits u && settings_fit t) (ap₂ ◌&&◌ z.unit f),
            (
              ap (λ h. label_fault (old_cast_in h)) header_is ∙ ap label_fault cast_is ∙ z.label_fault_lem,
              (
                ap (λ h. value_fault (old_cast_in h)) header_is ∙ ap value_fault cast_is ∙ z.value_fault_lem,
                tt,
              ),
            ),
          ),
        ),
      ),
    ),
  )

-- ---- a verdict and its answer
is_read_lem : (r : OldReading) → OldRead0 r → old_reading r ≡ old_is_read r
unfolding old_reading
is_read_lem r v = ap after v
  where
    after : Verdict → OldRead
    after x = elim x [ refused num place ↦ old_not_read r (refusal num place) | passed ↦ old_is_read r ]

is_written : OldWriting → Written
is_written w = record { answer = done; count = length (old_bytes_of w); output = filled (length (old_bytes_of w)) (old_bytes_of w) w.output }

is_written_lem : (w : OldWriting) → OldWritten0 w → old_writing w ≡ is_written w
unfolding old_writing is_written
is_written_lem w v = ap after v
  where
    after : Verdict → Written
    after x = elim x [ refused num place ↦ record { answer = refusal num place; count = 0; output = w.output } | passed ↦ is_written w ]

-- an answer 0 is that all checks pass
pub old_read_0 : (r : OldReading) → (old_reading r).answer.number ≡ 0 → OldRead0 r
unfolding old_reading old_not_read refusal old_reader_checks old_line_check old_side_check old_body_check old_room_check old_content_checks
old_read_0 r z = go (judge old_reader_checks r)
  where
    after : Verdict → OldRead
    after x = elim x [ refused num place ↦ old_not_read r (refusal num place) | passed ↦ old_is_read r ]

    go : Judged old_reader_checks r → OldRead0 r
    go (fine v p) = v
    go (faulty num place v f) = absurd (omega (arith, z, ap (λ x. (after x).answer.number) v, f 1 11 (omega arith)))

pub old_written_0 : (w : OldWriting) → (old_writing w).answer.number ≡ 0 → OldWritten0 w
unfolding old_writing refusal old_writer_checks
old_written_0 w z = go (judge old_writer_checks w)
  where
    after : Verdict → Written
    after x = elim x [
      | refused num place ↦ record { answer = refusal num place; count = 0; output = w.output }
      | passed ↦ record { answer = done; count = length (old_bytes_of w); output = filled (length (old_bytes_of w)) (old_bytes_of w) w.output }
    ]

    go : Judged old_writer_checks w → OldWritten0 w
    go (fine v p) = v
    go (faulty num place v f) = absurd (omega (arith, z, ap (λ x. (after x).answer.number) v, f 1 13 (omega arith)))

-- ---- WRITTEN, THEN READ with any settings in range: accepted, and the same session with the same unit
pub old_written_accepted : (w : OldWriting) (t : Settings) (vs : List ℤ) → OldWritten0 w → settings_fit t ≡ true → cells w.cast.sides ≤ length vs
    → OldRead0 (old_to_read w t vs)
old_written_accepted w t vs v f l = pass_all old_reader_checks (old_to_read w t vs) (accepted w.cast w.unit (writer_fine w v) t vs f l)

pub old_written_then_read : (w : OldWriting) (t : Settings) (vs : List ℤ) → OldWritten0 w → settings_fit t ≡ true → cells w.cast.sides ≤ length vs
    → OldReadBack w vs (old_reading (old_to_read w t vs))
unfolding old_is_read filled named_back old_cast_in
old_written_then_read w t vs v f l =
    let z = writer_fine w v in
    let h = header_is w.cast w.unit z in
    let k = cast_is w.cast w.unit z in
    subst (OldReadBack w vs) (sym (is_read_lem (old_to_read w t vs) (old_written_accepted w t vs v f l))) record {
      answer = refl;
      sides = ap (λ h. h.sides) h;
      unit = ap (λ h. h.unit) h;
      labels = ap old_labels_in h ∙ ap (λ k. k.labels) k;
      values = ap (λ h. old_values_in h ++ drop (cells h.sides) vs) h ∙ ap (λ k. k.values ++ drop (cells w.cast.sides) vs) k;
    }

-- the bytes stand at the front of what was lent for them
pub old_written_in_front : (w : OldWriting) → OldWritten0 w → take (old_writing w).count (old_writing w).output ≡ old_bytes_of w
unfolding is_written filled
old_written_in_front w v = ap (λ x. take x.count x.output) (is_written_lem w v) ∙ take-append_seam (old_bytes_of w) (drop (length (old_bytes_of w)) w.output)

-- ---- READ, THEN WRITTEN by the call itself, with the unit that was read: accepted, and the same bytes
length_labels : (h : OldHeader) → length h.body ≡ 3 * cells h.sides → length (old_labels_in h) ≡ cells h.sides
unfolding old_labels_in
length_labels h e = length-take-le (cells h.sides) (drop (2 * cells h.sides) h.body) (omega (arith, length-drop (2 * cells h.sides) h.body))

length_values : (h : OldHeader) → length (old_values_in h) ≡ cells h.sides
unfolding old_values_in
length_values h = length_tab (cells h.sides) (λ c. old_value_read h.unit (take 2 (drop (2 * c) h.body)))

all_expressible : (h : OldHeader) → length h.body ≡ 3 * cells h.sides → 1 ≤ h.unit → Bytes h.body → not_expressible h.unit (old_cast_in h) ≡ None
unfolding not_expressible old_cast_in old_values_in old_value_read
all_expressible h e u b =
    let n = cells h.sides in
    all_nowhere (λ c. expressible h.unit (field (old_values_in h) c)) n
    (λ c l. let two = two_at h.body (2 * c) (omega arith) in
    let s = subst (λ x. most_first 0 x < 65536) (sym two) (short_below (get_or h.body (2 * c) 0) (get_or h.body (2 * c + 1) 0) (b (2 * c)) (b (2 * c + 1))) in
    ap (expressible h.unit) (get_or_tab n (λ c. old_value_read h.unit (take 2 (drop (2 * c) h.body))) c (pos 0) l)
    ∙ times_expressible h.unit (short_signed (most_first 0 (take 2 (drop (2 * c) h.body)))) u (signed_short (most_first 0 (take 2 (drop (2 * c) h.body))) s))

pub old_read_accepted : (r : OldReading) (lent : List ℕ) → Bytes r.bytes → OldRead0 r → length r.bytes ≤ length lent → OldWritten0 (old_again r lent)
unfolding old_writer_checks old_lengths_fit old_cast_in
old_read_accepted r lent b v l =
    let z = reader_fine r v in
    let h = old_named r in
    let n = cells h.sides in
    let u = unit_from h.unit z.unit in
    let m : length (old_bytes_of (old_again r lent)) ≤ length lent = subst (λ bs. length bs ≤ length lent) (sym (old_read_then_written r b v)) l in
    let e : old_header_written h.sides h.unit ++ h.body ≡ r.bytes = back_old_header r.bytes z.line in
    let bytes = bytes_after (old_header_written h.sides h.unit) h.body (subst Bytes (sym e) b) in
    let sized : old_lengths_fit (old_again r lent) ≡ true =
    ap₂ ◌&&◌ (eq-eqb (length (old_labels_in h)) n (length_labels h z.long))
    (ap₂ ◌&&◌ (eq-eqb (length (old_values_in h)) n (length_values h)) (le-leb (length (old_bytes_of (old_again r lent))) (length lent) m)) in
    pass_all old_writer_checks (old_again r lent) (
      fault_no (sides_fit h.sides) z.sides,
      (fault_no (unit_fits h.unit) z.unit, (fault_no (old_lengths_fit (old_again r lent)) sized, (z.label_fault_lem, (z.value_fault_lem, (all_expressible h z.long u bytes, tt))))),
    )

pub old_read_rewritten : (r : OldReading) (lent : List ℕ) → Bytes r.bytes → OldRead0 r → length r.bytes ≤ length lent
    → WrittenBack r.bytes lent (old_writing (old_again r lent))
unfolding is_written filled
old_read_rewritten r lent b v l =
    let e = old_read_then_written r b v in
    subst (WrittenBack r.bytes lent) (sym (is_written_lem (old_again r lent) (old_read_accepted r lent b v l))) record {
      answer = refl;
      count = ap length e;
      output = ap (λ bs. bs ++ drop (length bs) lent) e;
    }

-- ---- COROLLARIES
-- the bytes say the session and the unit
pub old_one_session : (w w' : OldWriting) → OldWritten0 w → OldWritten0 w' → old_bytes_of w ≡ old_bytes_of w' → (w.cast ≡ w'.cast) × (w.unit ≡ w'.unit)
unfolding named_back
old_one_session w w' v v' e =
    let z = writer_fine w v in
    let z' = writer_fine w' v' in
    let h = sym (header_is w.cast w.unit z) ∙ ap old_header e ∙ header_is w'.cast w'.unit z' in
    (sym (cast_is w.cast w.unit z) ∙ ap old_cast_in h ∙ cast_is w'.cast w'.unit z', ap (λ h. h.unit) h)

-- the session, with its unit, says the bytes: one spelling
pub old_one_spelling : (r r' : OldReading) → Bytes r.bytes → Bytes r'.bytes → OldRead0 r → OldRead0 r'
    → old_cast_in (old_named r) ≡ old_cast_in (old_named r') → (old_named r).unit ≡ (old_named r').unit → r.bytes ≡ r'.bytes
old_one_spelling r r' b b' v v' e f =
    sym (old_read_then_written r b v) ∙ ap₂ old_written e f ∙ old_read_then_written r' b' v'
