-- Laws of the response: too many cells, the reader's refusal, the solver's answer in rooms that may be longer than
-- needed. Assumes nothing.
use mathlib.Core.Path.{◌≡◌, sym, ap, ap₂, ◌∙◌}
use mathlib.Core.Bool.{Bool, true, false, ◌&&◌}
use mathlib.Core.List.{List, []}
use Prim.Native.Nat.{ℕ, ◌+◌, ◌-◌, ◌*◌, ◌≤◌}
use native.Mathlib.Omega.{arith}
use borrow.Author.Rules.{rules}
use borrow.Author.Tests.{eq-eqb, le-leb, ltb-false, eqb-true}
use lib.Dec.{ltb, eqb}
use lib.IntN.{ℤ, pos}
use lib.Ieee.{Float}
use lib.ListN.{length, take, drop, replicate, length-replicate, length-drop}
use lib.Seq.{take_at, length-take-le}
use Rattle.std.specs.Prelude.{Some, None, Result, Ok, Err}
use Rattle.laws.specs.Binary64.{+0}
use Rattle.laws.proofs.Lists.{length_tab}
use Rattle.method.specs.declared.Answer.{Answer}
use Rattle.method.specs.declared.Sides.{Sides}
use Rattle.method.specs.declared.Settings.{Settings}
use Rattle.method.specs.Cast.{Cast, between, cells, sides_fit}
use Rattle.method.specs.Form.{header_of, header, labels_in, values_in, cast_in, value_read}
use Rattle.method.specs.Answers.{passed, verdict, refusal, done}
use Rattle.method.specs.Rooms.{filled, byte_need, float_need, word_need}
use Rattle.method.specs.Solving.{Asked, lengths_fit, solving}
use Rattle.method.specs.Reading.{Reading, line_check, side_check, body_check, room_check, content_checks, reader_checks, not_read, is_read, reading}
use Rattle.method.specs.Program.{program_checks, print, shown, printed}
use Rattle.method.specs.Program as program
use Rattle.theory.specs.Sides.{Fit}
use Rattle.theory.proofs.Sides.{fit}
use Rattle.theory.proofs.Verdicts.{Judged, fine, faulty, judge, AllPass, all_pass, no_fault, no_fault'}
use Rattle.theory.proofs.RoundTrip.{read_0}
use Rattle.session_header.specs.Lines.{HeaderOf, header_in, wrong_in, start_in}
use Rattle.session_header.specs.declared.Header.{Header as Head}
use Rattle.answer_print.specs.Shows.{print_room, PutShort}
use Rattle.session_read.specs.Reads.{ReadOf}
use Rattle.session_read.specs.declared.Session.{Session}
use Rattle.session_read.proofs.ReadLaws.{reading_refused, reading_passed}
use Rattle.rounds.specs.Rounds.{cast_of}
use Rattle.solve.specs.Solve.{asked, SolveOf}
use Rattle.prints.specs.Prints.{crowded}
use Rattle.prints.proofs.Rooms.{print_other, rooms_alike}
use Rattle.prints.proofs.Rules.{printed_refused, printed_passed, too_many, same_verdict}
use Rattle.answer_session.specs.Responds.{Roomy, IsRead, LabelsAt, crowded_by}

-- ---- too many cells
pub sides_known : (s : Sides) (w : Bool) → w ≡ sides_fit s → w ≡ true → Fit s
sides_known s w e t = fit s (sym e ∙ t)

pub past_fit : (s : Sides) (limit n : ℕ) (w : Bool) → w ≡ sides_fit s → w ≡ true → n ≡ cells s → ltb limit n ≡ (sides_fit s && ltb limit (cells s))
past_fit s limit n w e t c = rw (← e, t, c)

pub past_unfit : (s : Sides) (limit : ℕ) (w : Bool) → w ≡ sides_fit s → w ≡ false → false ≡ (sides_fit s && ltb limit (cells s))
past_unfit s limit w e t = rw (← e, t)

pub ruleset sides = (rules, sides_known, past_fit, past_unfit)

pub many_wrong : (limit k : ℕ) (r : Result Head ℕ) → r ≡ Err k → false ≡ crowded_by limit r
unfolding crowded_by
many_wrong limit k r e = sym (ap (crowded_by limit) e)

pub many_named : (limit : ℕ) (t : Bool) (x : Head) (r : Result Head ℕ) → r ≡ Ok x → t ≡ (sides_fit x.sides && ltb limit (cells x.sides)) → t ≡ crowded_by limit r
unfolding crowded_by
many_named limit t x r e q = q ∙ sym (ap (crowded_by limit) e)

-- what a header was read to be says it of the bytes
crowded_by_lem : (bs : List ℕ) (limit : ℕ) (r : Result Head ℕ) → HeaderOf bs r → crowded_by limit r ≡ crowded limit bs
unfolding crowded_by crowded header_in header_of sides_fit between
crowded_by_lem bs limit (Err k) h = sym (ap (λ y. sides_fit y.sides && ltb limit (cells y.sides)) h.is)
crowded_by_lem bs limit (Ok x) h = sym (ap (λ y. sides_fit y.sides && ltb limit (cells y.sides)) h.is)

pub ruleset heads = (rules, many_wrong, many_named)

-- ---- the solver's answer, shown
module _ (g : Sides) (ls : List ℕ) (vs : List ℤ) (t : Settings) (old : List ℤ) (bytes : List ℕ) (floats : List Float) (words : List ℕ) where
  pub solved_put : (r : Answer) (new : List ℤ) (bytes' : List ℕ) (floats' : List Float) (words' w u : List ℕ) (j : ℕ)
      → SolveOf (asked g ls vs t old bytes floats words) r new bytes' floats' words' → length new ≡ length old → PutShort (print_room (length new)) (print r new) w 0 u j
      → PutShort (print_room (length old)) (shown (solving (asked g ls vs t old bytes floats words))) w 0 u j
  unfolding shown
  solved_put r new bytes' floats' words' w u j s l p = record { puts = rw (← s.answer, ← s.pressures) p.puts; short = omega (arith, p.short, l) }

pub ruleset solvings = (rules, solved_put)

-- what is put, by another name and with a greater bound
as_printed : (limit : ℕ) (bs : List ℕ) (ps : List ℤ) (x w u : List ℕ) (j : ℕ) → printed limit bs ≡ x → length ps ≤ limit → PutShort (print_room (length ps)) x w 0 u j
    → PutShort (print_room limit) (printed limit bs) w 0 u j
as_printed limit bs ps x w u j e l p = record { puts = rw e p.puts; short = omega (arith, p.short) }

-- ---- too many cells, printed
pub crowded_put : (bs : List ℕ) (limit : ℕ) (t : Bool) (x : Result Head ℕ) (a : Answer) (ps : List ℤ) (w u : List ℕ) (j : ℕ) → HeaderOf bs x → t ≡ crowded_by limit x → t ≡ true → a ≡ refusal 2 0
    → length ps ≤ limit → PutShort (print_room (length ps)) (print a ps) w 0 u j → PutShort (print_room limit) (printed limit bs) w 0 u j
unfolding refusal
crowded_put bs limit t x a ps w u j h e q f l p =
    as_printed limit bs ps (print a ps) w u j (printed_refused limit bs 2 0 (too_many limit bs (sym (e ∙ crowded_by_lem bs limit x h) ∙ q)) ∙ print_other (refusal 2 0) [] ps (omega arith) ∙ ap (λ r. print r ps) (sym f)) l p

pub not_crowded : (bs : List ℕ) (limit : ℕ) (t : Bool) (x : Result Head ℕ) → HeaderOf bs x → t ≡ crowded_by limit x → t ≡ false → crowded limit bs ≡ false
not_crowded bs limit t x h e q = sym (e ∙ crowded_by_lem bs limit x h) ∙ q

pub ruleset responses = (rules, crowded_put, not_crowded)

-- ---- a session that is read
-- the lengths that the solver asks for
pub lengths_true : (k : Cast) (t : Settings) (ps : List ℤ) (bytes : List ℕ) (floats : List Float) (words : List ℕ) → length k.labels ≡ cells k.sides
    → length k.values ≡ cells k.sides → length ps ≡ cells k.sides → byte_need (cells k.sides) ≤ length bytes → float_need (cells k.sides) ≤ length floats
    → word_need (cells k.sides) ≤ length words
    → lengths_fit (record { cast = k; settings = t; pressures = ps; bytes = bytes; floats = floats; words = words }) ≡ true
unfolding lengths_fit
lengths_true k t ps bytes floats words a b c d e f =
    rw (eq-eqb (length k.labels) (cells k.sides) a, eq-eqb (length k.values) (cells k.sides) b, eq-eqb (length ps) (cells k.sides) c, le-leb (byte_need (cells k.sides)) (length bytes) d, le-leb (float_need (cells k.sides)) (length floats) e, le-leb (word_need (cells k.sides)) (length words) f)

pub byte_more : (n m k : ℕ) → n ≤ m → byte_need m ≤ k → byte_need n ≤ k
unfolding byte_need
byte_more n m k h l = omega arith

pub float_more : (n m k : ℕ) → n ≤ m → float_need m ≤ k → float_need n ≤ k
unfolding float_need
float_more n m k h l = omega arith

pub word_more : (n m k : ℕ) → n ≤ m → word_need m ≤ k → word_need n ≤ k
unfolding word_need
word_more n m k h l = omega arith

values_long : (bs : List ℕ) → length (values_in (header bs)) ≡ cells (header bs).sides
unfolding values_in
values_long bs = length_tab (cells (header bs).sides) (λ x. value_read (header bs).order (take 4 (drop (cells (header bs).sides + 4 * x) (header bs).body)))

pub cast_eq : (s g : Sides) (ls ms : List ℕ) (vs ws : List ℤ) → s ≡ g → ls ≡ ms → vs ≡ ws → cast_of s ls vs ≡ cast_of g ms ws
cast_eq s g ls ms vs ws a b c = ap₂ (λ x y. cast_of x y vs) a b ∙ ap (cast_of g ms) c

module _ (limit : ℕ) (bs : List ℕ) (old new : List ℤ) (s : Session) (z : ReadOf bs old s new) (l : limit ≤ length old) (e : crowded limit bs ≡ false) where
  abbrev lent : Reading
  lent = record { bytes = bs; values = old }

  pub refused_put : (qs : List ℤ) (w u : List ℕ) (j : ℕ) → (s.answer.number ≡ 0 → ⊥) → length qs ≤ limit → PutShort (print_room (length qs)) (print s.answer qs) w 0 u j
      → PutShort (print_room limit) (printed limit bs) w 0 u j
  unfolding is_read not_read done refusal reader_checks line_check side_check body_check room_check content_checks
  refused_put qs w u j x k p = go (judge reader_checks lent)
    where
      go : Judged reader_checks lent → PutShort (print_room limit) (printed limit bs) w 0 u j
      go (fine v a) = absurd (x (ap (λ r. r.number) z.answer ∙ ap (λ r. r.answer.number) (reading_passed lent v)))
      go (faulty num place v f) =
          let a : s.answer ≡ refusal num place = z.answer ∙ ap (λ r. r.answer) (reading_refused lent num place v) in
          as_printed limit bs qs (print s.answer qs) w u j
          (printed_refused limit bs num place (same_verdict limit bs old e l ∙ v) ∙ print_other (refusal num place) [] qs (f 1 11 (omega arith)).0 ∙ ap (λ r. print r qs) (sym a)) k p

  pub read_passed : s.answer.number ≡ 0 → IsRead limit bs s.sides s.settings new
  unfolding is_read filled
  read_passed q =
      let v : verdict reader_checks lent ≡ passed = read_0 lent (ap (λ r. r.number) (sym z.answer) ∙ q) in
      let is : reading lent ≡ is_read lent = reading_passed lent v in
      let g : s.sides ≡ (header bs).sides = z.sides ∙ ap (λ r. r.header.sides) is in
      record {
        free = e;
        passes = same_verdict limit bs old e l ∙ v;
        sides = g;
        settings = z.settings ∙ ap (λ r. r.header.settings) is;
        values = ap₂ take (ap cells g) (z.values ∙ ap (λ r. r.values) is)
            ∙ take_at (values_in (header bs)) (drop (cells (header bs).sides) old) (cells (header bs).sides) (values_long bs);
      }

  pub read_labels : (x : Result Head ℕ) → HeaderOf bs x → s.answer.number ≡ 0 → LabelsAt bs s.sides s.start
  unfolding is_read reader_checks line_check side_check body_check header_in wrong_in start_in labels_in
  read_labels x h q =
      let v : verdict reader_checks lent ≡ passed = read_0 lent (ap (λ r. r.number) (sym z.answer) ∙ q) in
      let is : reading lent ≡ is_read lent = reading_passed lent v in
      go x h (all_pass reader_checks lent v) (z.sides ∙ ap (λ r. r.header.sides) is) (z.start ∙ ap (λ r. r.start) is)
    where
      never : {k : ℕ} → Some k ≡ None → ⊥
      never p = let o : ◌≡◌ {A = ℕ} 0 1 = cc in omega arith

      go : (x : Result Head ℕ) → HeaderOf bs x → AllPass reader_checks lent → s.sides ≡ (header bs).sides → s.start ≡ length bs - length (header bs).body → LabelsAt bs s.sides s.start
      go (Err k) h ok g b = absurd (never (sym h.line ∙ ok.0))
      go (Ok y) h ok g b =
          let long : length (header bs).body ≡ 5 * cells (header bs).sides = eqb-true _ _ (no_fault _ ok.1.1.0) in
          let body : (header bs).body ≡ drop y.start bs = ap (λ r. r.body) h.is in
          let left : length (header bs).body ≡ length bs - y.start = ap length body ∙ length-drop y.start bs in
          let here : s.start ≡ y.start = omega (arith, b, left, h.within) in
          record {
            within = omega (arith, here, left, long, ap cells g, h.within);
            are = ap₂ (λ n k. take n (drop k bs)) (ap cells g) here ∙ ap (take (cells (header bs).sides)) (sym body);
          }

pub ruleset answers = (rules, refused_put, read_passed, read_labels)

-- ---- and solved
module _ (limit : ℕ) (bs : List ℕ) (s : Sides) (t : Settings) (vs : List ℤ) (z : IsRead limit bs s t vs) where
  checked : AllPass (program_checks limit) (record { bytes = bs; values = [] })
  checked = all_pass (program_checks limit) (record { bytes = bs; values = [] }) z.passes

  in_range : sides_fit (header bs).sides ≡ true
  unfolding program_checks side_check
  in_range = no_fault (sides_fit (header bs).sides) checked.1.0

  pub read_fit : Fit s
  read_fit = rw z.sides (fit (header bs).sides in_range)

  cells_few : cells (header bs).sides ≤ limit
  unfolding program_checks
  cells_few = ltb-false limit (cells (header bs).sides) (no_fault' (ltb limit (cells (header bs).sides)) checked.1.1.0)

  body_long : length (header bs).body ≡ 5 * cells (header bs).sides
  unfolding program_checks body_check
  body_long = eqb-true (length (header bs).body) (5 * cells (header bs).sides) (no_fault (eqb (length (header bs).body) (5 * cells (header bs).sides)) checked.1.1.1.0)

  labels_long : length (labels_in (header bs)) ≡ cells (header bs).sides
  unfolding labels_in
  labels_long = length-take-le (cells (header bs).sides) (header bs).body (omega (arith, body_long))

  module _ (ps : List ℤ) (bytes : List ℕ) (floats : List Float) (words out : List ℕ) (room : Roomy limit (length vs) (length ps) (length bytes) (length floats) (length words) (length out))
      (n : ℕ) (c : n ≡ cells s) where
    count_is : n ≡ cells (header bs).sides
    count_is = c ∙ ap cells z.sides

    count_few : n ≤ limit
    count_few = omega (arith, count_is, cells_few)

    pub in_values : n ≤ length vs
    in_values = omega (arith, count_few, room.values_long)

    pub part_values : n ≡ length (take n vs)
    part_values = sym (length-take-le n vs in_values)

    pub in_pressures : n ≤ length ps
    in_pressures = omega (arith, count_few, room.pressures_long)

    pub part_pressures : n ≡ length (take n ps)
    part_pressures = sym (length-take-le n ps in_pressures)

    pub solved_room : print_room (length (take n ps)) ≤ length out
    solved_room = omega (arith, part_pressures, count_few, room.output_long)

    module _ (start : ℕ) (at : LabelsAt bs s start) where
      labels_are : take (start + n - start) (drop start bs) ≡ labels_in (header bs)
      labels_are = let m : start + n - start ≡ cells s = omega (arith, c) in ap (λ k. take k (drop start bs)) m ∙ at.are

      abbrev labels : List ℕ
      labels = take (start + n - start) (drop start bs)

      abbrev called : Asked
      called = asked s (take (start + n - start) (drop start bs)) (take n vs) t (take n ps) bytes floats words

      abbrev N : ℕ
      N = cells (header bs).sides

      exact : lengths_fit (program.asked (header bs)) ≡ true
      unfolding program.asked cast_in
      exact = lengths_true (cast_in (header bs)) (header bs).settings (replicate N (pos 0)) (replicate (byte_need N) 0) (replicate (float_need N) +0) (replicate (word_need N) 0)
          labels_long (values_long bs) (length-replicate N (pos 0)) (omega (arith, length-replicate {A = ℕ} (byte_need N) 0)) (omega (arith, length-replicate (float_need N) +0)) (omega (arith, length-replicate {A = ℕ} (word_need N) 0))

      roomy : lengths_fit (record { cast = cast_in (header bs); settings = (header bs).settings; pressures = take n ps; bytes = bytes; floats = floats; words = words }) ≡ true
      unfolding cast_in
      roomy = lengths_true (cast_in (header bs)) (header bs).settings (take n ps) bytes floats words labels_long (values_long bs) (sym part_pressures ∙ count_is)
          (byte_more N limit (length bytes) cells_few room.bytes_long) (float_more N limit (length floats) cells_few room.floats_long) (word_more N limit (length words) cells_few room.words_long)

      same_cast : cast_of s labels (take n vs) ≡ cast_in (header bs)
      unfolding cast_in
      same_cast = cast_eq s (header bs).sides labels (labels_in (header bs)) (take n vs) (values_in (header bs)) z.sides labels_are (ap (λ k. take k vs) c ∙ z.values)

      same_called : called ≡ record { cast = cast_in (header bs); settings = (header bs).settings; pressures = take n ps; bytes = bytes; floats = floats; words = words }
      same_called = ap₂ (λ k x. record { cast = k; settings = x; pressures = take n ps; bytes = bytes; floats = floats; words = words }) same_cast z.settings

      same_print : shown (solving called) ≡ printed limit bs
      unfolding program.asked
      same_print =
          ap (λ a. shown (solving a)) same_called
          ∙ sym (rooms_alike (cast_in (header bs)) (header bs).settings (replicate N (pos 0)) (take n ps) (replicate (byte_need N) 0) bytes (replicate (float_need N) +0) floats (replicate (word_need N) 0) words exact roomy)
          ∙ sym (printed_passed limit bs z.passes)

      pub solved_is : (u : List ℕ) (j : ℕ) → PutShort (print_room (length (take n ps))) (shown (solving called)) out 0 u j → PutShort (print_room limit) (printed limit bs) out 0 u j
      solved_is u j p = as_printed limit bs (take n ps) (shown (solving called)) out u j (sym same_print) (omega (arith, part_pressures, count_few)) p

pub ruleset parts = (rules, read_fit, in_values, part_values, in_pressures, part_pressures, solved_room, solved_is)
