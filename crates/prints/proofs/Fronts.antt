-- The front of a long input decides the print: a header has at most 94 bytes, and a body of more than 5 bytes for each
-- cell that there is room for is not 5 bytes a cell. Assumes nothing.
use mathlib.Core.Path.{◌≡◌, refl, sym, ap, ap₂, ◌∙◌}
use mathlib.Core.Bool.{Bool, true, false, cond}
use mathlib.Core.List.{List, [], ◌∷◌, ◌++◌}
use mathlib.Core.Logic.{⊎_elim}
use Rattle.std.specs.Prelude.{Option, None, Some}
use Prim.Native.Nat.{ℕ, suc, ◌+◌, ◌*◌, ◌≤◌, ◌<◌}
use native.Mathlib.Nat.{not-suc-le-zero, le_of_suc-le-suc}
use native.Mathlib.Omega.{arith}
use borrow.Author.Tests.{lt-leb, le-leb, ne_eqb, ltb-false}
use lib.Dec.{eqb, ltb}
use lib.ListN.{length, take, drop, length-append, length-drop, take-append-drop}
use lib.Seq.{drop-append-le, take_all, length-take-le}
use Rattle.laws.specs.Text.{text}
use Rattle.laws.proofs.Naturals.{le_or_lt}
use Rattle.method.specs.Cast.{between, cells, sides_fit}
use Rattle.method.specs.Numbers.{last_digit, spelled, decimal, digits, is_digit, is_number, value_of}
use Rattle.method.specs.Form.{order_word, line, header_written, Line, bad, good, after, closed, number_line, order_line, lines, Lines, wrong, right, more, read_lines, header_of, header, wrong_line, bad_line}
use Rattle.method.specs.OldForm.{number_to}
use Rattle.method.specs.Answers.{Verdict, refused, verdict}
use Rattle.method.specs.Reading.{line_check, side_check, body_check}
use Rattle.method.specs.Program.{program_room, program_checks, printed, program}
use Rattle.theory.proofs.Lines.{after_is, line_to}
use Rattle.theory.proofs.Verdicts.{fails_at, passes_on, fault_no, fault_yes}
use Rattle.prints.specs.Prints.{longest_header, buffer_for, input_room, large_room}
use Rattle.prints.proofs.Rules.{bare, printed_refused, fault_too_many, fault_none}

-- what is read, where more bytes follow
abbrev on : List ℕ → Option (List ℕ) → Option (List ℕ)
on tail None = None
on tail (Some cs) = Some (cs ++ tail)

abbrev pub line_on : List ℕ → Line → Line
line_on tail bad = bad
line_on tail (good v rest) = good v (rest ++ tail)

abbrev pub lines_on : List ℕ → Lines → Lines
lines_on tail (wrong k) = wrong k
lines_on tail (right vs rest) = right vs (rest ++ tail)

after_on : (ks bs tail : List ℕ) → length ks ≤ length bs → after ks (bs ++ tail) ≡ on tail (after ks bs)
unfolding after
after_on [] bs tail h = refl
after_on (k ∷ ks) [] tail h = absurd (not-suc-le-zero h)
after_on (k ∷ ks) (b ∷ bs) tail h = go (eqb b k) (after_on ks bs tail (le_of_suc-le-suc h))
  where
    go : (t : Bool) → after ks (bs ++ tail) ≡ on tail (after ks bs)
        → ◌≡◌ {A = Option (List ℕ)} (elim t [ true ↦ after ks (bs ++ tail) | false ↦ None ]) (on tail (elim t [ true ↦ after ks bs | false ↦ None ]))
    go true e = e
    go false e = refl

after_length : (ks bs cs : List ℕ) → after ks bs ≡ Some cs → length bs ≡ length ks + length cs
after_length ks bs cs e = ap length (after_is ks bs cs e) ∙ length-append ks cs

-- ---- a run of digits that ends before the bytes do is the same; one that does not is no shorter
digits_on : (cs tail : List ℕ) → length (digits cs) < length cs → digits (cs ++ tail) ≡ digits cs
unfolding digits
digits_on [] tail h = absurd (not-suc-le-zero h)
digits_on (b ∷ cs) tail h = go (is_digit b) (λ l. digits_on cs tail l) h
  where
    go : (t : Bool) → (length (digits cs) < length cs → digits (cs ++ tail) ≡ digits cs) → length {A = ℕ} (elim t [ true ↦ b ∷ digits cs | false ↦ [] ]) < suc (length cs)
        → ◌≡◌ {A = List ℕ} (elim t [ true ↦ b ∷ digits (cs ++ tail) | false ↦ [] ]) (elim t [ true ↦ b ∷ digits cs | false ↦ [] ])
    go true f l = ap (λ ds. b ∷ ds) (f (le_of_suc-le-suc l))
    go false f l = refl

digits_no_fewer : (cs tail : List ℕ) → length (digits cs) ≤ length (digits (cs ++ tail))
unfolding digits
digits_no_fewer [] tail = omega arith
digits_no_fewer (b ∷ cs) tail = go (is_digit b) (digits_no_fewer cs tail)
  where
    go : (t : Bool) → length (digits cs) ≤ length (digits (cs ++ tail))
        → length {A = ℕ} (elim t [ true ↦ b ∷ digits cs | false ↦ [] ]) ≤ length {A = ℕ} (elim t [ true ↦ b ∷ digits (cs ++ tail) | false ↦ [] ])
    go true f = omega arith
    go false f = omega arith

long_number : (ds : List ℕ) → 7 < length ds → is_number ds ≡ false
unfolding is_number between
long_number ds h = let j : 1 ≤ length ds = omega arith in rw (lt-leb (length ds) 7 h, le-leb 1 (length ds) j)

-- ---- a number after a key, up to a byte x that ends it
held : ℕ → List ℕ → Line
held x cs = closed (digits cs) (after (x ∷ []) (drop (length (digits cs)) cs))

number_none : (x : ℕ) (key bs : List ℕ) → after key bs ≡ None → number_to (x ∷ []) key bs ≡ bad
unfolding number_to
number_none x key bs e = rw (number_to, e)

number_some : (x : ℕ) (key bs cs : List ℕ) → after key bs ≡ Some cs → number_to (x ∷ []) key bs ≡ held x cs
unfolding number_to held
number_some x key bs cs e = rw (number_to, e)

closed_not : (ds : List ℕ) (o : Option (List ℕ)) → is_number ds ≡ false → closed ds o ≡ bad
unfolding closed
closed_not ds None e = refl
closed_not ds (Some rest) e = rw e

closed_on : (ds tail : List ℕ) (o : Option (List ℕ)) → closed ds (on tail o) ≡ line_on tail (closed ds o)
unfolding closed
closed_on ds tail None = refl
closed_on ds tail (Some rest) = go (is_number ds)
  where
    go : (t : Bool) → ◌≡◌ {A = Line} (cond t (good (value_of 0 ds) (rest ++ tail)) bad) (line_on tail (cond t (good (value_of 0 ds) rest) bad))
    go true = refl
    go false = refl

held_on : (x : ℕ) (cs tail : List ℕ) → 8 ≤ length cs → held x (cs ++ tail) ≡ line_on tail (held x cs)
unfolding held
held_on x cs tail h = ⊎_elim whole ended (le_or_lt (length cs) (length (digits cs)))
  where
    -- all of it is digits, and more of them than a number has
    whole : length cs ≤ length (digits cs) → held x (cs ++ tail) ≡ line_on tail (held x cs)
    whole l =
        closed_not (digits (cs ++ tail)) _ (long_number (digits (cs ++ tail)) (omega (arith, digits_no_fewer cs tail)))
        ∙ sym (ap (line_on tail) (closed_not (digits cs) _ (long_number (digits cs) (omega arith))))

    ended : length (digits cs) < length cs → held x (cs ++ tail) ≡ line_on tail (held x cs)
    ended l =
        let k : length (digits cs) ≤ length cs = omega arith in
        ap (λ ds. closed ds (after (x ∷ []) (drop (length ds) (cs ++ tail)))) (digits_on cs tail l)
        ∙ ap (λ y. closed (digits cs) (after (x ∷ []) y)) (drop-append-le (length (digits cs)) cs tail k)
        ∙ ap (closed (digits cs)) (after_on (x ∷ []) (drop (length (digits cs)) cs) tail (omega (arith, length-drop (length (digits cs)) cs)))
        ∙ closed_on (digits cs) tail (after (x ∷ []) (drop (length (digits cs)) cs))

-- what is left after a line
abbrev left_of : Line → List ℕ
left_of bad = []
left_of (good v rest) = rest

not_good : {l : Line} {v : ℕ} {rest : List ℕ} → l ≡ bad → l ≡ good v rest → ⊥
not_good p q = let z : ◌≡◌ {A = ℕ} 0 1 = cc in omega arith

closed_left : (ds x : List ℕ) (v : ℕ) (rest : List ℕ) → closed ds (Some x) ≡ good v rest → x ≡ rest
unfolding closed
closed_left ds x v rest e = go (is_number ds) e
  where
    go : (t : Bool) → cond t (good (value_of 0 ds) x) bad ≡ good v rest → x ≡ rest
    go true q = ap left_of q
    go false q = absurd (not_good refl q)

held_left : (x : ℕ) (cs : List ℕ) (v : ℕ) (rest : List ℕ) → held x cs ≡ good v rest → length cs ≤ length rest + 8
unfolding held closed
held_left x cs v rest e = go (after (x ∷ []) (drop (length (digits cs)) cs)) refl
  where
    go : (o : Option (List ℕ)) → after (x ∷ []) (drop (length (digits cs)) cs) ≡ o → length cs ≤ length rest + 8
    go None q = absurd (not_good (ap (closed (digits cs)) q) e)
    go (Some y) q = ⊎_elim
        (λ l. absurd (not_good (closed_not (digits cs) (after (x ∷ []) (drop (length (digits cs)) cs)) (long_number (digits cs) l)) e))
        (λ l. omega (arith, after_length (x ∷ []) (drop (length (digits cs)) cs) y q, length-drop (length (digits cs)) cs, ap length (closed_left (digits cs) y v rest (sym (ap (closed (digits cs)) q) ∙ e))))
        (le_or_lt 8 (length (digits cs)))

-- ---- a reader of a line that w bytes decide
pub record Front (l : List ℕ → Line) (w : ℕ) : Type 0 where
  pub on : (bs tail : List ℕ) → w ≤ length bs → l (bs ++ tail) ≡ line_on tail (l bs)
  pub left : (bs : List ℕ) (v : ℕ) (rest : List ℕ) → l bs ≡ good v rest → length bs ≤ length rest + w

pub to_front : (x : ℕ) (key : List ℕ) → Front (number_to (x ∷ []) key) (length key + 8)
to_front x key = record { on = on'; left = left' }
  where
    on' : (bs tail : List ℕ) → length key + 8 ≤ length bs → number_to (x ∷ []) key (bs ++ tail) ≡ line_on tail (number_to (x ∷ []) key bs)
    on' bs tail h = go (after key bs) refl
      where
        same : after key (bs ++ tail) ≡ on tail (after key bs)
        same = after_on key bs tail (omega arith)

        go : (o : Option (List ℕ)) → after key bs ≡ o → number_to (x ∷ []) key (bs ++ tail) ≡ line_on tail (number_to (x ∷ []) key bs)
        go None e = number_none x key (bs ++ tail) (same ∙ ap (on tail) e) ∙ sym (ap (line_on tail) (number_none x key bs e))
        go (Some cs) e =
            number_some x key (bs ++ tail) (cs ++ tail) (same ∙ ap (on tail) e) ∙ held_on x cs tail (omega (arith, after_length key bs cs e)) ∙ sym (ap (line_on tail) (number_some x key bs cs e))

    left' : (bs : List ℕ) (v : ℕ) (rest : List ℕ) → number_to (x ∷ []) key bs ≡ good v rest → length bs ≤ length rest + (length key + 8)
    left' bs v rest e = go (after key bs) refl
      where
        go : (o : Option (List ℕ)) → after key bs ≡ o → length bs ≤ length rest + (length key + 8)
        go None q = absurd (not_good (number_none x key bs q) e)
        go (Some cs) q = omega (arith, after_length key bs cs q, held_left x cs v rest (sym (number_some x key bs cs q) ∙ e))

number_front : (key : List ℕ) → Front (number_line key) (length key + 8)
number_front key = let f = to_front 10 key in record {
  on = λ bs tail h. line_to key (bs ++ tail) ∙ f.on bs tail h ∙ sym (ap (line_on tail) (line_to key bs));
  left = λ bs v rest e. f.left bs v rest (sym (line_to key bs) ∙ e);
}

-- ---- the line of the order
abbrev ordered : Option (List ℕ) → Option (List ℕ) → Line
ordered (Some rest) o = good 0 rest
ordered None (Some rest) = good 1 rest
ordered None None = bad

order_by : (bs : List ℕ) → order_line bs ≡ ordered (after (text "order=big\n") bs) (after (text "order=little\n") bs)
unfolding order_line
order_by bs = go (after (text "order=big\n") bs) (after (text "order=little\n") bs)
  where
    go : (a b : Option (List ℕ)) → ◌≡◌ {A = Line} (elim a [ Some rest ↦ good 0 rest | None ↦ elim b [ Some rest ↦ good 1 rest | None ↦ bad ] ]) (ordered a b)
    go (Some rest) b = refl
    go None (Some rest) = refl
    go None None = refl

ordered_on : (tail : List ℕ) (a b : Option (List ℕ)) → ordered (on tail a) (on tail b) ≡ line_on tail (ordered a b)
ordered_on tail (Some rest) b = refl
ordered_on tail None (Some rest) = refl
ordered_on tail None None = refl

order_front : Front order_line 13
order_front = record { on = on'; left = left' }
  where
    on' : (bs tail : List ℕ) → 13 ≤ length bs → order_line (bs ++ tail) ≡ line_on tail (order_line bs)
    on' bs tail h =
        order_by (bs ++ tail) ∙ ap₂ ordered (after_on (text "order=big\n") bs tail (omega arith)) (after_on (text "order=little\n") bs tail h)
        ∙ ordered_on tail (after (text "order=big\n") bs) (after (text "order=little\n") bs) ∙ sym (ap (line_on tail) (order_by bs))

    left' : (bs : List ℕ) (v : ℕ) (rest : List ℕ) → order_line bs ≡ good v rest → length bs ≤ length rest + 13
    left' bs v rest e = go (after (text "order=big\n") bs) (after (text "order=little\n") bs) refl refl (sym (order_by bs) ∙ e)
      where
        go : (a b : Option (List ℕ)) → after (text "order=big\n") bs ≡ a → after (text "order=little\n") bs ≡ b → ordered a b ≡ good v rest → length bs ≤ length rest + 13
        go (Some x) b p q r = omega (arith, after_length (text "order=big\n") bs x p, ap (λ l. length (left_of l)) r)
        go None (Some x) p q r = omega (arith, after_length (text "order=little\n") bs x q, ap (λ l. length (left_of l)) r)
        go None None p q r = absurd (not_good refl r)

-- ---- lines one after the other
pub data Fronts : List (List ℕ → Line) → ℕ → Type 0 where
  end : Fronts [] 0
  next : {l : List ℕ → Line} {ls : List (List ℕ → Line)} {w n : ℕ} → Front l w → Fronts ls n → Fronts (l ∷ ls) (w + n)

seven : Fronts lines 94
unfolding lines
seven = next (number_front (text "nx=")) (next (number_front (text "ny=")) (next (number_front (text "nz=")) (next order_front (next (number_front (text "tolerance=")) (next (number_front (text "levels=")) (next (number_front (text "rounds=")) end))))))

module _ (k : ℕ) (l : List ℕ → Line) (ls : List (List ℕ → Line)) (bs : List ℕ) where
  read_bad : l bs ≡ bad → read_lines k (l ∷ ls) bs ≡ wrong k
  unfolding read_lines
  read_bad e = rw e

  read_good : (v : ℕ) (rest : List ℕ) → l bs ≡ good v rest → read_lines k (l ∷ ls) bs ≡ more v (read_lines (suc k) ls rest)
  unfolding read_lines
  read_good v rest e = rw e

more_on : (v : ℕ) (tail : List ℕ) (ls : Lines) → more v (lines_on tail ls) ≡ lines_on tail (more v ls)
unfolding more
more_on v tail (wrong k) = refl
more_on v tail (right vs rest) = refl

pub lines_on_lem : (k n : ℕ) (ls : List (List ℕ → Line)) → Fronts ls n → (bs tail : List ℕ) → n ≤ length bs → read_lines k ls (bs ++ tail) ≡ lines_on tail (read_lines k ls bs)
unfolding read_lines
lines_on_lem k n [] end bs tail h = refl
lines_on_lem k n (l ∷ ls) (next {w = w} {n = m} f fs) bs tail h = go (l bs) refl (λ rest g. lines_on_lem (suc k) m ls fs rest tail g)
  where
    go : (x : Line) → l bs ≡ x → ((rest : List ℕ) → m ≤ length rest → read_lines (suc k) ls (rest ++ tail) ≡ lines_on tail (read_lines (suc k) ls rest))
        → read_lines k (l ∷ ls) (bs ++ tail) ≡ lines_on tail (read_lines k (l ∷ ls) bs)
    go bad e rec = read_bad k l ls (bs ++ tail) (f.on bs tail (omega arith) ∙ ap (line_on tail) e) ∙ sym (ap (lines_on tail) (read_bad k l ls bs e))
    go (good v rest) e rec =
        read_good k l ls (bs ++ tail) v (rest ++ tail) (f.on bs tail (omega arith) ∙ ap (line_on tail) e)
        ∙ ap (more v) (rec rest (omega (arith, f.left bs v rest e))) ∙ more_on v tail (read_lines (suc k) ls rest)
        ∙ sym (ap (lines_on tail) (read_good k l ls bs v rest e))

-- at least n bytes are left after the lines
abbrev pub Left : ℕ → Lines → Type 0
Left n (wrong k) = Unit {0}
Left n (right vs rest) = n ≤ length rest

more_left : (n v : ℕ) (ls : Lines) → Left n ls → Left n (more v ls)
unfolding more
more_left n v (wrong k) h = tt
more_left n v (right vs rest) h = h

pub lines_left : (k n : ℕ) (ls : List (List ℕ → Line)) → Fronts ls n → (bs : List ℕ) (m : ℕ) → m + n ≤ length bs → Left m (read_lines k ls bs)
unfolding read_lines
lines_left k n [] end bs m h = omega arith
lines_left k n (l ∷ ls) (next {w = w} {n = o} f fs) bs m h = go (l bs) refl (λ rest g. lines_left (suc k) o ls fs rest m g)
  where
    go : (x : Line) → l bs ≡ x → ((rest : List ℕ) → m + o ≤ length rest → Left m (read_lines (suc k) ls rest)) → Left m (read_lines k (l ∷ ls) bs)
    go bad e rec = rw (read_bad k l ls bs e) tt
    go (good v rest) e rec = rw (read_good k l ls bs v rest e) (more_left m v (read_lines (suc k) ls rest) (rec rest (omega (arith, f.left bs v rest e))))

-- ---- the header, where more bytes follow
sides_on : (tail : List ℕ) (ls : Lines) → (header_of (lines_on tail ls)).sides ≡ (header_of ls).sides
unfolding header_of
sides_on tail (wrong k) = refl
sides_on tail (right vs rest) = refl

wrong_on : (tail : List ℕ) (ls : Lines) → wrong_line (lines_on tail ls) ≡ wrong_line ls
unfolding wrong_line
wrong_on tail (wrong k) = refl
wrong_on tail (right vs rest) = refl

pub not_nowhere : {f : Option ℕ} {p : ℕ} → f ≡ Some p → f ≡ None → ⊥
not_nowhere p q = let z : ◌≡◌ {A = ℕ} 0 1 = cc in omega arith

body_left : (m : ℕ) (ls : Lines) → Left m ls → wrong_line ls ≡ None → m ≤ length (header_of ls).body
unfolding wrong_line header_of
body_left m (wrong k) h e = absurd (not_nowhere refl e)
body_left m (right vs rest) h e = h

body_long : (bs : List ℕ) (m : ℕ) → m + 94 ≤ length bs → bad_line bs ≡ None → m ≤ length (header bs).body
unfolding bad_line header
body_long bs m h e = body_left m (read_lines 1 lines bs) (lines_left 1 94 lines seven bs m h) e

module _ (bs tail : List ℕ) (h : 94 ≤ length bs) where
  same_line : bad_line (bs ++ tail) ≡ bad_line bs
  unfolding bad_line
  same_line = ap wrong_line (lines_on_lem 1 94 lines seven bs tail h) ∙ wrong_on tail (read_lines 1 lines bs)

  same_sides : (header (bs ++ tail)).sides ≡ (header bs).sides
  unfolding header
  same_sides = ap (λ ls. (header_of ls).sides) (lines_on_lem 1 94 lines seven bs tail h) ∙ sides_on tail (read_lines 1 lines bs)

-- ---- the verdict on a long input
abbrev early : Option ℕ → Bool → Bool → Verdict
early (Some p) t u = refused 10 p
early None false u = refused 1 0
early None true true = refused 2 0
early None true false = refused 11 0

module _ (room : ℕ) (bs : List ℕ) (h : 5 * room + 1 + 94 ≤ length bs) where
  verdict_long : (f : Option ℕ) (t u : Bool) → bad_line bs ≡ f → sides_fit (header bs).sides ≡ t → ltb room (cells (header bs).sides) ≡ u
      → verdict (program_checks room) (bare room bs) ≡ early f t u
  unfolding program_checks line_check side_check body_check
  verdict_long (Some p) t u x y z = fails_at _ _ (bare room bs) p x
  verdict_long None false u x y z = passes_on _ _ (bare room bs) x ∙ fails_at _ _ (bare room bs) 0 (fault_yes _ y)
  verdict_long None true true x y z = passes_on _ _ (bare room bs) x ∙ passes_on _ _ (bare room bs) (fault_no _ y) ∙ fails_at _ _ (bare room bs) 0 (fault_too_many _ z)
  verdict_long None true false x y z =
      passes_on _ _ (bare room bs) x ∙ passes_on _ _ (bare room bs) (fault_no _ y) ∙ passes_on _ _ (bare room bs) (fault_none _ z)
      ∙ fails_at _ _ (bare room bs) 0 (fault_yes _ (ne_eqb (length (header bs).body) (5 * cells (header bs).sides) longer))
    where
      longer : length (header bs).body ≡ 5 * cells (header bs).sides → ⊥
      longer e = omega (arith, body_long bs (5 * room + 1) h x, ltb-false room (cells (header bs).sides) z)

early_print : (room : ℕ) (bs cs : List ℕ) (f : Option ℕ) (t u : Bool) → verdict (program_checks room) (bare room bs) ≡ early f t u
    → verdict (program_checks room) (bare room cs) ≡ early f t u → printed room bs ≡ printed room cs
early_print room bs cs (Some p) t u x y = printed_refused room bs 10 p x ∙ sym (printed_refused room cs 10 p y)
early_print room bs cs None false u x y = printed_refused room bs 1 0 x ∙ sym (printed_refused room cs 1 0 y)
early_print room bs cs None true true x y = printed_refused room bs 2 0 x ∙ sym (printed_refused room cs 2 0 y)
early_print room bs cs None true false x y = printed_refused room bs 11 0 x ∙ sym (printed_refused room cs 11 0 y)

-- THE FRONT DECIDES: what follows 5 bytes a cell of room, one byte more and 94 bytes of header, changes nothing that is
-- printed
pub front_decides : (room : ℕ) (bs tail : List ℕ) → 5 * room + 1 + 94 ≤ length bs → printed room (bs ++ tail) ≡ printed room bs
front_decides room bs tail h =
    let f = bad_line bs in
    let t = sides_fit (header bs).sides in
    let u = ltb room (cells (header bs).sides) in
    let l : 94 ≤ length bs = omega arith in
    early_print room (bs ++ tail) bs f t u
    (verdict_long room (bs ++ tail) (omega (arith, length-append bs tail)) f t u (same_line bs tail l) (ap sides_fit (same_sides bs tail l)) (ap (λ s. ltb room (cells s)) (same_sides bs tail l)))
    (verdict_long room bs h f t u refl refl refl)

-- ---- the program's buffer, from the longest header and the program's room
header_room : length longest_header ≡ 94
unfolding longest_header header_written line order_word decimal spelled last_digit
header_room = refl

pub buffer_for_lem : (room : ℕ) → buffer_for room ≡ 5 * room + 95
unfolding buffer_for
buffer_for_lem room = omega (arith, header_room)

pub input_room_lem : input_room ≡ 5 * program_room + 95
unfolding input_room
input_room_lem = buffer_for_lem program_room

pub front_is_enough_for : (room : ℕ) (bs : List ℕ) → printed room (take (buffer_for room) bs) ≡ printed room bs
front_is_enough_for room bs = ⊎_elim
    (λ l. sym (front_decides room (take (buffer_for room) bs) (drop (buffer_for room) bs) (omega (arith, buffer_for_lem room, length-take-le (buffer_for room) bs l))) ∙ ap (printed room) (take-append-drop (buffer_for room) bs))
    (λ l. ap (printed room) (take_all (buffer_for room) bs (omega arith)))
    (le_or_lt (buffer_for room) (length bs))

pub front_is_enough : (bs : List ℕ) → program (take input_room bs) ≡ program bs
unfolding program input_room
front_is_enough bs = front_is_enough_for program_room bs

-- an input is known by its front: inputs with the same front have the same print
pub front_prints_for : (room : ℕ) (bs input : List ℕ) → take (buffer_for room) bs ≡ input → printed room input ≡ printed room bs
front_prints_for room bs input e = ap (printed room) (sym e) ∙ front_is_enough_for room bs

pub front_prints : (bs input : List ℕ) → take input_room bs ≡ input → program input ≡ program bs
front_prints bs input e = ap program (sym e) ∙ front_is_enough bs

-- ---- the greatest casts: sides in range never have more cells than the large program has room for
pub large_room_lem : large_room ≡ 32768
unfolding large_room cells
large_room_lem = refl
