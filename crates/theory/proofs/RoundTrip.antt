-- A session written is read as what it was, and bytes that are accepted are the one spelling of what was read. Assumes
-- nothing.
use mathlib.Core.Path.{◌≡◌, refl, sym, ap, ap₂, subst, ◌∙◌}
use mathlib.Core.Bool.{true, not, ◌&&◌}
use mathlib.Core.List.{List, ◌++◌, append_assoc, flat_map}
use Prim.Native.Nat.{ℕ, zero, suc, ◌+◌, ◌*◌, ◌<◌, ◌≤◌}
use native.Mathlib.Nat.{le_trans}
use native.Mathlib.Omega.{arith}
use lib.Dec.{T, leb, eqb, ltb, eqb→eq, nltb→le}
use lib.ListN.{length, take, drop, length-append, length-drop, take-append-drop}
use lib.Seq.{length-take-le, take-append_seam, take_at, drop_at, drop-drop, get_or-drop, get_or-append-add}
use lib.IntN.{ℤ, nat_abs}
use borrow.Author.Tests.{le-leb, eq-eqb, le-ltb}
use Rattle.method.specs.declared.Sides.{Sides}
use Rattle.method.specs.declared.Settings.{Settings}
use Rattle.method.specs.declared.Order.{Order}
use Rattle.std.specs.Prelude.{None}
use Rattle.method.specs.Cast.{Cast, cells, between, sides_fit, settings_fit, label_at, field, widest, bad_value, label_fault, value_fault}
use Rattle.method.specs.Form.{Header, header, bad_line, value_read, value_written, labels_in, values_in, cast_in, header_written, written}
use Rattle.method.specs.Answers.{fault, Verdict, passed, refused, refusal, done}
use Rattle.method.specs.Rooms.{filled}
use Rattle.method.specs.Reading.{Reading, Read, named, line_check, side_check, body_check, room_check, content_checks, reader_checks, reading_by, reading, is_read, not_read}
use Rattle.method.specs.Writing.{Writing, Written, bytes_of, writer_lengths_fit, writer_checks, writing}
use Rattle.laws.proofs.Lists.{length_tab}
use Rattle.laws.proofs.Bools.{and_l, and_r, so}
use Rattle.theory.specs.Sessions.{Bytes, Read0, Written0, ReadBack, WrittenBack, again}
use Rattle.theory.proofs.Verdicts.{AllPass, Judged, fine, faulty, judge, no_fault, all_pass, pass_all, fault_no}
use Rattle.theory.proofs.Sides.{fit, to}
use Rattle.theory.proofs.Reach.{never}
use Rattle.theory.proofs.Firsts.{Search, found, none, search_first}
use Rattle.laws.proofs.Fill.{tab_same}
use Rattle.theory.proofs.Bytes.{row, length_row, row_back, back_row}
use Rattle.theory.proofs.Lines.{Short, header_back, no_bad_line, back_header}

-- ---- the body: labels, then values
-- the values stand after the labels
values_row : (h : Header) → values_in h ≡ row h.order (cells h.sides) (drop (cells h.sides) h.body)
unfolding values_in
values_row h =
    let n = cells h.sides in
    tab_same n (λ c. value_read h.order (take 4 (drop (n + 4 * c) h.body))) (λ c. value_read h.order (take 4 (drop (4 * c) (drop n h.body))))
    (λ c l. ap (λ r. value_read h.order (take 4 r)) (sym (drop-drop (4 * c) n h.body)))

-- a body read and written
body_back : (h : Header) → length h.body ≡ 5 * cells h.sides → Bytes h.body → labels_in h ++ flat_map (value_written h.order) (values_in h) ≡ h.body
unfolding labels_in
body_back h e b =
    let n = cells h.sides in
    let l : length (drop n h.body) ≡ 4 * n = length-drop n h.body ∙ omega arith in
    ap (λ vs. take n h.body ++ flat_map (value_written h.order) vs) (values_row h)
    ∙ ap (λ r. take n h.body ++ r) (back_row h.order n (drop n h.body) l (λ i. subst (λ x. x < 256) (sym (get_or-drop n h.body i 0)) (b (n + i))))
    ∙ take-append-drop n h.body

-- a part of bytes
pub bytes_after : (front rest : List ℕ) → Bytes (front ++ rest) → Bytes rest
bytes_after front rest b i = subst (λ x. x < 256) (get_or-append-add front rest i 0) (b (length front + i))

-- ---- READ, THEN WRITTEN: the same bytes
pub read_then_written : (r : Reading) → Bytes r.bytes → Read0 r → written (cast_in (named r)) (named r).order (named r).settings ≡ r.bytes
unfolding reader_checks line_check side_check body_check cast_in written
read_then_written r b v =
    let p = all_pass reader_checks r v in
    let h = named r in
    let front = header_written h.sides h.order h.settings in
    let e : front ++ h.body ≡ r.bytes = back_header r.bytes p.0 in
    append_assoc front (labels_in h) (flat_map (value_written h.order) (values_in h))
    ∙ ap (λ l. front ++ l)
    (body_back h (eqb→eq (length h.body) (5 * cells h.sides) (so (no_fault (eqb (length h.body) (5 * cells h.sides)) p.1.1.0)))
    (bytes_after front h.body (subst Bytes (sym e) b)))
    ∙ e

-- ---- what the writer's checks say
record Fine (k : Cast) (t : Settings) : Type 0 where
  pub sides : sides_fit k.sides ≡ true
  pub settings : settings_fit t ≡ true
  pub labels : length k.labels ≡ cells k.sides
  pub values : length k.values ≡ cells k.sides
  pub label_fault_lem : label_fault k ≡ None
  pub value_fault_lem : value_fault k ≡ None

writer_fine : (w : Writing) → Written0 w → Fine w.cast w.settings
unfolding writer_checks writer_lengths_fit
writer_fine w v =
    let p = all_pass writer_checks w v in
    let n = cells w.cast.sides in
    let a = eqb (length w.cast.labels) n in
    let b = eqb (length w.cast.values) n in
    let c = leb (length (bytes_of w)) (length w.output) in
    let t : T (a && (b && c)) = so (no_fault (writer_lengths_fit w) p.1.1.0) in
    record {
      sides = no_fault (sides_fit w.cast.sides) p.0;
      settings = no_fault (settings_fit w.settings) p.1.0;
      labels = eqb→eq (length w.cast.labels) n (and_l a (b && c) t);
      values = eqb→eq (length w.cast.values) n (and_l b c (and_r a (b && c) t));
      label_fault_lem = p.1.1.1.0;
      value_fault_lem = p.1.1.1.1.0;
    }

widest_most : (l : ℕ) → widest l ≤ 1000000
unfolding widest
widest_most zero = omega arith
widest_most (suc zero) = omega arith
widest_most (suc (suc l)) = omega arith

-- no value is out of range
value_in_lem : (s : Sides) (ls : List ℕ) (vs : List ℤ) → bad_value s ls vs ≡ None → (c : ℕ) → c < cells s → nat_abs (field vs c) ≤ 1000000
unfolding bad_value
value_in_lem s ls vs e c l = go (search_first (λ c. ltb (widest (label_at ls c)) (nat_abs (field vs c))) (cells s))
  where
    go : Search (λ c. ltb (widest (label_at ls c)) (nat_abs (field vs c))) (cells s) → nat_abs (field vs c) ≤ 1000000
    go (found d h r) = absurd (never e h)
    go (none h r) = le_trans (nltb→le (widest (label_at ls c)) (nat_abs (field vs c)) (r c l)) (widest_most (label_at ls c))

-- what fits has at most seven digits
short : (s : Sides) (t : Settings) → sides_fit s ≡ true → settings_fit t ≡ true → Short s t
unfolding settings_fit
short s t e f =
    let z = fit s e in
    let a = between 0 1000000 t.tolerance in
    let b = between 1 6 t.levels in
    let c = between 0 1000 t.rounds in
    let u : T (a && (b && c)) = so f in
    let x = to 0 1000000 t.tolerance (and_l a (b && c) u) in
    let y = to 1 6 t.levels (and_l b c (and_r a (b && c) u)) in
    let v = to 0 1000 t.rounds (and_r b c (and_r a (b && c) u)) in
    record { nx = omega arith; ny = omega arith; nz = omega arith; tolerance = omega arith; levels = omega arith; rounds = omega arith }

-- ---- a session's bytes, read
module _ (k : Cast) (o : Order) (t : Settings) (z : Fine k t) where
  body : List ℕ
  body = k.labels ++ flat_map (value_written o) k.values

  named_back : Header
  named_back = record { sides = k.sides; order = o; settings = t; body = body }

  bytes_are : written k o t ≡ header_written k.sides o t ++ body
  unfolding written body
  bytes_are = append_assoc (header_written k.sides o t) k.labels (flat_map (value_written o) k.values)

  header_is : header (written k o t) ≡ named_back
  unfolding named_back
  header_is = ap header bytes_are ∙ header_back k.sides o t body (short k.sides t z.sides z.settings)

  line_is : bad_line (written k o t) ≡ None
  line_is = ap bad_line bytes_are ∙ no_bad_line k.sides o t body (short k.sides t z.sides z.settings)

  length_body : length body ≡ 5 * cells k.sides
  unfolding body
  length_body =
      let a = length-append k.labels (flat_map (value_written o) k.values) in
      let b = length_row o k.values in
      let c = z.labels in
      let d = z.values in
      omega arith

  cast_is : cast_in named_back ≡ k
  unfolding cast_in labels_in named_back body
  cast_is =
      let n = cells k.sides in
      let values = flat_map (value_written o) k.values in
      ap₂ (λ ls vs. record { sides = k.sides; labels = ls; values = vs }) (take_at k.labels values n z.labels)
      (values_row named_back
      ∙ ap (λ r. row o n r) (drop_at k.labels values n z.labels)
      ∙ ap (λ m. row o m values) (sym z.values)
      ∙ row_back o k.values (λ c l. let e = z.values in let h = value_in_lem k.sides k.labels k.values z.value_fault_lem c (omega arith) in omega arith))

  -- the reader's checks pass
  accepted : (vs : List ℤ) → cells k.sides ≤ length vs → AllPass reader_checks (record { bytes = written k o t; values = vs })
  unfolding reader_checks line_check side_check body_check room_check content_checks named_back fault
  accepted vs l = (
    line_is,
    (
      ap (λ h. fault (not (sides_fit h.sides))) header_is ∙ fault_no (sides_fit k.sides) z.sides,
      (
        ap (λ h. fault (not (eqb (length h.body) (5 * cells h.sides)))) header_is
            ∙ fault_no (eqb (length body) (5 * cells k.sides)) (eq-eqb (length body) (5 * cells k.sides) length_body),
        (
          ap (λ h. fault (ltb (length vs) (cells h.sides))) header_is ∙ ap fault (le-ltb (length vs) (cells k.sides) l),
          (
            ap (λ h. fault (not (settings_fit h.settings))) header_is ∙ fault_no (settings_fit t) z.settings,
            (
              ap (λ h. label_fault (cast_in h)) header_is ∙ ap label_fault cast_is ∙ z.label_fault_lem,
              (
                ap (λ h. value_fault (cast_in h)) header_is ∙ ap value_fault cast_is ∙ z.value_fault_lem,
                tt,
              ),
            ),
          ),
        ),
      ),
    ),
  )

-- ---- a verdict and its answer
-- what reading and writing are where all checks pass
is_read_lem : (r : Reading) → Read0 r → reading r ≡ is_read r
unfolding reading reading_by
is_read_lem r v = ap after v
  where
    after : Verdict → Read
    after x = elim x [ refused num place ↦ not_read r (refusal num place) | passed ↦ is_read r ]

is_written : Writing → Written
is_written w = record { answer = done; count = length (bytes_of w); output = filled (length (bytes_of w)) (bytes_of w) w.output }

is_written_lem : (w : Writing) → Written0 w → writing w ≡ is_written w
unfolding writing is_written
is_written_lem w v = ap after v
  where
    after : Verdict → Written
    after x = elim x [ refused num place ↦ record { answer = refusal num place; count = 0; output = w.output } | passed ↦ is_written w ]

-- an answer 0 is that all checks pass
pub read_0 : (r : Reading) → (reading r).answer.number ≡ 0 → Read0 r
unfolding reading reading_by not_read refusal reader_checks line_check side_check body_check room_check content_checks
read_0 r z = go (judge reader_checks r)
  where
    after : Verdict → Read
    after x = elim x [ refused num place ↦ not_read r (refusal num place) | passed ↦ is_read r ]

    go : Judged reader_checks r → Read0 r
    go (fine v p) = v
    go (faulty num place v f) = absurd (omega (arith, z, ap (λ x. (after x).answer.number) v, f 1 11 (omega arith)))

pub written_0 : (w : Writing) → (writing w).answer.number ≡ 0 → Written0 w
unfolding writing refusal writer_checks
written_0 w z = go (judge writer_checks w)
  where
    after : Verdict → Written
    after x = elim x [
      | refused num place ↦ record { answer = refusal num place; count = 0; output = w.output }
      | passed ↦ record { answer = done; count = length (bytes_of w); output = filled (length (bytes_of w)) (bytes_of w) w.output }
    ]

    go : Judged writer_checks w → Written0 w
    go (fine v p) = v
    go (faulty num place v f) = absurd (omega (arith, z, ap (λ x. (after x).answer.number) v, f 1 5 (omega arith)))

-- ---- WRITTEN, THEN READ: accepted, and the same session
abbrev pub to_read : Writing → List ℤ → Reading
to_read w vs = record { bytes = bytes_of w; values = vs }

pub written_accepted : (w : Writing) (vs : List ℤ) → Written0 w → cells w.cast.sides ≤ length vs → Read0 (to_read w vs)
written_accepted w vs v l = pass_all reader_checks (to_read w vs) (accepted w.cast w.order w.settings (writer_fine w v) vs l)

pub written_then_read : (w : Writing) (vs : List ℤ) → Written0 w → cells w.cast.sides ≤ length vs → ReadBack w vs (reading (to_read w vs))
unfolding is_read filled named_back cast_in
written_then_read w vs v l =
    let z = writer_fine w v in
    let h = header_is w.cast w.order w.settings z in
    let k = cast_is w.cast w.order w.settings z in
    subst (ReadBack w vs) (sym (is_read_lem (to_read w vs) (written_accepted w vs v l))) record {
      answer = refl;
      sides = ap (λ h. h.sides) h;
      order = ap (λ h. h.order) h;
      settings = ap (λ h. h.settings) h;
      labels = ap labels_in h ∙ ap (λ k. k.labels) k;
      values = ap (λ h. values_in h ++ drop (cells h.sides) vs) h ∙ ap (λ k. k.values ++ drop (cells w.cast.sides) vs) k;
    }

-- the bytes stand at the front of what was lent for them
pub written_in_front : (w : Writing) → Written0 w → take (writing w).count (writing w).output ≡ bytes_of w
unfolding is_written filled
written_in_front w v = ap (λ x. take x.count x.output) (is_written_lem w v) ∙ take-append_seam (bytes_of w) (drop (length (bytes_of w)) w.output)

-- ---- READ, THEN WRITTEN by the call itself: accepted, and the same bytes
length_labels : (h : Header) → length h.body ≡ 5 * cells h.sides → length (labels_in h) ≡ cells h.sides
unfolding labels_in
length_labels h e = length-take-le (cells h.sides) h.body (omega arith)

length_values : (h : Header) → length (values_in h) ≡ cells h.sides
unfolding values_in
length_values h = length_tab (cells h.sides) (λ c. value_read h.order (take 4 (drop (cells h.sides + 4 * c) h.body)))

pub read_accepted : (r : Reading) (lent : List ℕ) → Bytes r.bytes → Read0 r → length r.bytes ≤ length lent → Written0 (again r lent)
unfolding reader_checks line_check side_check body_check room_check content_checks writer_checks writer_lengths_fit cast_in
read_accepted r lent b v l =
    let p = all_pass reader_checks r v in
    let h = named r in
    let n = cells h.sides in
    let e = eqb→eq (length h.body) (5 * n) (so (no_fault (eqb (length h.body) (5 * n)) p.1.1.0)) in
    let m : length (bytes_of (again r lent)) ≤ length lent = subst (λ bs. length bs ≤ length lent) (sym (read_then_written r b v)) l in
    let sized : writer_lengths_fit (again r lent) ≡ true =
    ap₂ ◌&&◌ (eq-eqb (length (labels_in h)) n (length_labels h e))
    (ap₂ ◌&&◌ (eq-eqb (length (values_in h)) n (length_values h)) (le-leb (length (bytes_of (again r lent))) (length lent) m)) in
    pass_all writer_checks (again r lent)
    (p.1.0, (p.1.1.1.1.0, (fault_no (writer_lengths_fit (again r lent)) sized, (p.1.1.1.1.1.0, (p.1.1.1.1.1.1.0, tt)))))

pub read_rewritten : (r : Reading) (lent : List ℕ) → Bytes r.bytes → Read0 r → length r.bytes ≤ length lent
    → WrittenBack r.bytes lent (writing (again r lent))
unfolding is_written filled
read_rewritten r lent b v l =
    let e = read_then_written r b v in
    subst (WrittenBack r.bytes lent) (sym (is_written_lem (again r lent) (read_accepted r lent b v l))) record {
      answer = refl;
      count = ap length e;
      output = ap (λ bs. bs ++ drop (length bs) lent) e;
    }

-- ---- COROLLARIES
-- the bytes say the session: two writings of the same bytes are of the same session
pub one_session : (w w' : Writing) → Written0 w → Written0 w' → bytes_of w ≡ bytes_of w'
    → (w.cast ≡ w'.cast) × ((w.order ≡ w'.order) × (w.settings ≡ w'.settings))
unfolding named_back
one_session w w' v v' e =
    let z = writer_fine w v in
    let z' = writer_fine w' v' in
    let h = sym (header_is w.cast w.order w.settings z) ∙ ap header e ∙ header_is w'.cast w'.order w'.settings z' in (
      sym (cast_is w.cast w.order w.settings z) ∙ ap cast_in h ∙ cast_is w'.cast w'.order w'.settings z',
      (ap (λ h. h.order) h, ap (λ h. h.settings) h),
    )

-- the session, with its order, says the bytes: two accepted lists of which the same is read are the same
pub one_spelling : (r r' : Reading) → Bytes r.bytes → Bytes r'.bytes → Read0 r → Read0 r'
    → cast_in (named r) ≡ cast_in (named r') → (named r).order ≡ (named r').order → (named r).settings ≡ (named r').settings → r.bytes ≡ r'.bytes
one_spelling r r' b b' v v' e f g =
    sym (read_then_written r b v) ∙ ap₂ (λ k o. written k o (named r).settings) e f
    ∙ ap (written (cast_in (named r')) (named r').order) g ∙ read_then_written r' b' v'
