-- The lines of a session, written and read, read and written. Assumes nothing.
use mathlib.Core.Path.{◌≡◌, refl, sym, ap, ap₂, subst, ◌∙◌}
use mathlib.Core.Bool.{Bool, true, false, cond}
use mathlib.Core.List.{List, [], ◌∷◌, ◌++◌, append_assoc}
use Rattle.std.specs.Prelude.{Option, None, Some}
use Prim.Native.Nat.{ℕ, zero, suc, ◌^◌, ◌<◌}
use native.Mathlib.Omega.{arith}
use lib.Dec.{eqb, eqb→eq}
use lib.ListN.{length, drop, take-append-drop}
use lib.Seq.{drop-append_seam}
use borrow.Author.Tests.{eq-eqb}
use Rattle.laws.specs.Text.{text}
use Rattle.laws.proofs.Bools.{so}
use Rattle.method.specs.declared.Order.{Order}
use Rattle.method.specs.declared.Order.TheVariants.{Big, Little}
use Rattle.method.specs.declared.Sides.{Sides}
use Rattle.method.specs.declared.Settings.{Settings}
use Rattle.method.specs.Cast.{between}
use Rattle.method.specs.OldForm.{number_to}
use Rattle.method.specs.Numbers.{decimal, is_digit, digits, is_number, value_of}
use Rattle.method.specs.Form.{Line, bad, good, after, closed, number_line, order_line, line, order_word, order_of, lines, Lines, wrong, right, more, read_lines, Header, header_of, header, wrong_line, bad_line, header_written}
use Rattle.theory.proofs.Digits.{decimal_number, decimal_stop, value_decimal, digits_digits, digits_front, decimal_value, value_small}
use Rattle.theory.proofs.Reach.{never}

-- ---- the bytes after those that are asked for
taken : Bool → Option (List ℕ) → Option (List ℕ)
taken true o = o
taken false o = None

after_cons : (k : ℕ) (ks : List ℕ) (b : ℕ) (bs : List ℕ) → after (k ∷ ks) (b ∷ bs) ≡ taken (eqb b k) (after ks bs)
unfolding after taken
after_cons k ks b bs = go (eqb b k)
  where
    go : (t : Bool) → elim t [ true ↦ after ks bs | false ↦ None ] ≡ taken t (after ks bs)
    go true = refl
    go false = refl

pub after_own : (ks rest : List ℕ) → after ks (ks ++ rest) ≡ Some rest
unfolding after taken
after_own [] rest = refl
after_own (k ∷ ks) rest = after_cons k ks k (ks ++ rest) ∙ ap₂ taken (eq-eqb k k refl) (after_own ks rest)

same_some : {o : Option (List ℕ)} {a b : List ℕ} → o ≡ Some a → o ≡ Some b → a ≡ b
same_some p q = cc

no_some : {a : List ℕ} {o : Option (List ℕ)} → o ≡ None → o ≡ Some a → ⊥
no_some p q = let z : ◌≡◌ {A = ℕ} 0 1 = cc in omega arith

pub after_is : (ks bs rest : List ℕ) → after ks bs ≡ Some rest → bs ≡ ks ++ rest
unfolding after taken
after_is [] bs rest e = same_some refl e
after_is (k ∷ ks) [] rest e = absurd (no_some refl e)
after_is (k ∷ ks) (b ∷ bs) rest e = go (eqb b k) refl (sym (after_cons k ks b bs) ∙ e) (after_is ks bs rest)
  where
    go : (t : Bool) → eqb b k ≡ t → taken t (after ks bs) ≡ Some rest → (after ks bs ≡ Some rest → bs ≡ ks ++ rest) → b ∷ bs ≡ k ∷ (ks ++ rest)
    go true q r f = ap₂ (λ x l. x ∷ l) (eqb→eq b k (so q)) (f r)
    go false q r f = absurd (no_some refl r)

-- ---- a number after a key, up to an end: one byte that is no digit
held : List ℕ → Option (List ℕ) → Line
held end None = bad
held end (Some cs) = closed (digits cs) (after end (drop (length (digits cs)) cs))

to_held : (end key bs : List ℕ) → number_to end key bs ≡ held end (after key bs)
unfolding number_to held
to_held end key bs = go (after key bs)
  where
    go : (o : Option (List ℕ)) → elim o [ None ↦ bad | Some cs ↦ closed (digits cs) (after end (drop (length (digits cs)) cs)) ] ≡ held end o
    go None = refl
    go (Some cs) = refl

-- a line of a key and a number is one up to a line feed
pub line_to : (key bs : List ℕ) → number_line key bs ≡ number_to (text "\n") key bs
unfolding number_line held
line_to key bs = go (after key bs) ∙ sym (to_held (text "\n") key bs)
  where
    go : (o : Option (List ℕ)) → elim o [ None ↦ bad | Some cs ↦ closed (digits cs) (after (text "\n") (drop (length (digits cs)) cs)) ] ≡ held (text "\n") o
    go None = refl
    go (Some cs) = refl

to_split : (x : ℕ) (key word rest : List ℕ) → key ++ word ++ (x ∷ []) ++ rest ≡ key ++ (word ++ (x ∷ rest))
to_split x key word rest = append_assoc (key ++ word) (x ∷ []) rest ∙ append_assoc key word (x ∷ rest)

pub number_to_lem : (x : ℕ) (key : List ℕ) (v : ℕ) (rest : List ℕ) → is_digit x ≡ false → v < 10 ^ 7
    → number_to (x ∷ []) key (key ++ decimal v ++ (x ∷ []) ++ rest) ≡ good v rest
unfolding held closed
number_to_lem x key v rest e h =
    to_held (x ∷ []) key (key ++ decimal v ++ (x ∷ []) ++ rest)
    ∙ ap (held (x ∷ [])) (ap (after key) (to_split x key (decimal v) rest) ∙ after_own key (decimal v ++ (x ∷ rest)))
    ∙ ap (λ ds. closed ds (after (x ∷ []) (drop (length ds) (decimal v ++ (x ∷ rest))))) (decimal_stop v x rest e)
    ∙ ap (λ l. closed (decimal v) (after (x ∷ []) l)) (drop-append_seam (decimal v) (x ∷ rest))
    ∙ ap (closed (decimal v)) (after_own (x ∷ []) rest)
    ∙ ap₂ (λ t n. cond t (good n rest) bad) (decimal_number v h) (value_decimal v)

line_feed : is_digit 10 ≡ false
unfolding is_digit between
line_feed = refl

pub number_line_lem : (key : List ℕ) (v : ℕ) (rest : List ℕ) → v < 10 ^ 7 → number_line key (line key (decimal v) ++ rest) ≡ good v rest
unfolding line
number_line_lem key v rest h = line_to key (line key (decimal v) ++ rest) ∙ number_to_lem 10 key v rest line_feed h

not_good : {l : Line} {v : ℕ} {rest : List ℕ} → l ≡ bad → l ≡ good v rest → ⊥
not_good p q = let z : ◌≡◌ {A = ℕ} 0 1 = cc in omega arith

good_value : {v v' : ℕ} {rest rest' : List ℕ} → good v rest ≡ good v' rest' → v ≡ v'
good_value p = cc

good_rest : {v v' : ℕ} {rest rest' : List ℕ} → good v rest ≡ good v' rest' → rest ≡ rest'
good_rest p = cc

-- what was read up to an end
pub record SpeltTo (x : ℕ) (key bs : List ℕ) (v : ℕ) (rest : List ℕ) : Type 0 where
  pub bytes : bs ≡ key ++ decimal v ++ (x ∷ []) ++ rest
  pub small : v < 10 ^ 7

spelt_held : (x : ℕ) (cs : List ℕ) (v : ℕ) (rest : List ℕ) → held (x ∷ []) (Some cs) ≡ good v rest → (cs ≡ decimal v ++ (x ∷ rest)) × (v < 10 ^ 7)
unfolding held closed
spelt_held x cs v rest e = go (after (x ∷ []) (drop (length (digits cs)) cs)) refl e
  where
    go : (o : Option (List ℕ)) → after (x ∷ []) (drop (length (digits cs)) cs) ≡ o → closed (digits cs) o ≡ good v rest → (cs ≡ decimal v ++ (x ∷ rest)) × (v < 10 ^ 7)
    go None q r = absurd (not_good refl r)
    go (Some l) q r = num (is_number (digits cs)) refl r
      where
        num : (t : Bool) → is_number (digits cs) ≡ t → cond t (good (value_of 0 (digits cs)) l) bad ≡ good v rest → (cs ≡ decimal v ++ (x ∷ rest)) × (v < 10 ^ 7)
        num false n s = absurd (not_good refl s)
        num true n s =
            let value = good_value s in
            let word : digits cs ≡ decimal v = sym (decimal_value (digits cs) (digits_digits cs) n) ∙ ap decimal value in (
              sym (take-append-drop (length (digits cs)) cs)
                  ∙ ap₂ (λ x y. x ++ y) (digits_front cs ∙ word) (after_is (x ∷ []) (drop (length (digits cs)) cs) l q ∙ ap (λ r. x ∷ r) (good_rest s)),
              subst (λ n. n < 10 ^ 7) value (value_small (digits cs) (digits_digits cs) n),
            )

pub to_number : (x : ℕ) (key bs : List ℕ) (v : ℕ) (rest : List ℕ) → number_to (x ∷ []) key bs ≡ good v rest → SpeltTo x key bs v rest
unfolding held
to_number x key bs v rest e = go (after key bs) refl (sym (to_held (x ∷ []) key bs) ∙ e)
  where
    go : (o : Option (List ℕ)) → after key bs ≡ o → held (x ∷ []) o ≡ good v rest → SpeltTo x key bs v rest
    go None q r = absurd (not_good refl r)
    go (Some cs) q r =
        let s = spelt_held x cs v rest r in
        record { bytes = after_is key bs cs q ∙ ap (λ l. key ++ l) s.0 ∙ sym (to_split x key (decimal v) rest); small = s.1 }

-- what a good line was
pub record Spelt (key bs : List ℕ) (v : ℕ) (rest : List ℕ) : Type 0 where
  pub bytes : bs ≡ line key (decimal v) ++ rest
  pub small : v < 10 ^ 7

pub line_number_lem : (key bs : List ℕ) (v : ℕ) (rest : List ℕ) → number_line key bs ≡ good v rest → Spelt key bs v rest
unfolding line
line_number_lem key bs v rest e =
    let s = to_number 10 key bs v rest (sym (line_to key bs) ∙ e) in
    record { bytes = s.bytes; small = s.small }

-- ---- the order's line: its value is 0 for `big`, 1 for `little`
pub code_of : Order → ℕ
code_of Big = 0
code_of Little = 1

pub order_code : (o : Order) → order_of (code_of o) ≡ o
unfolding order_of code_of
order_code Big = refl
order_code Little = refl

second : Option (List ℕ) → Line
second None = bad
second (Some rest) = good 1 rest

first_of : Option (List ℕ) → Option (List ℕ) → Line
first_of None o = second o
first_of (Some rest) o = good 0 rest

order_held : (bs : List ℕ) → order_line bs ≡ first_of (after (text "order=big\n") bs) (after (text "order=little\n") bs)
unfolding order_line first_of second
order_held bs = go (after (text "order=big\n") bs) (after (text "order=little\n") bs)
  where
    go : (a b : Option (List ℕ)) → elim a [ Some rest ↦ good 0 rest | None ↦ elim b [ Some rest ↦ good 1 rest | None ↦ bad ] ] ≡ first_of a b
    go (Some rest) b = refl
    go None (Some rest) = refl
    go None None = refl

-- the two lines differ in their seventh byte
other_order : (rest : List ℕ) → after (text "order=big\n") (text "order=little\n" ++ rest) ≡ None
unfolding after
other_order rest = refl

pub order_line_lem : (o : Order) (rest : List ℕ) → order_line (line (text "order=") (order_word o) ++ rest) ≡ good (code_of o) rest
unfolding code_of first_of second line order_word
order_line_lem Big rest =
    order_held (text "order=big\n" ++ rest)
    ∙ ap (λ a. first_of a (after (text "order=little\n") (text "order=big\n" ++ rest))) (after_own (text "order=big\n") rest)
order_line_lem Little rest =
    order_held (text "order=little\n" ++ rest)
    ∙ ap₂ first_of (other_order rest) (after_own (text "order=little\n") rest)

order_was : (o : Order) (bs rest : List ℕ) (v : ℕ) → code_of o ≡ v → bs ≡ line (text "order=") (order_word o) ++ rest
    → (bs ≡ line (text "order=") (order_word (order_of v)) ++ rest) × (code_of (order_of v) ≡ v)
order_was o bs rest v c e =
    let q : order_of v ≡ o = ap order_of (sym c) ∙ order_code o in
    (e ∙ ap (λ x. line (text "order=") (order_word x) ++ rest) (sym q), ap code_of q ∙ c)

pub line_order : (bs : List ℕ) (v : ℕ) (rest : List ℕ) → order_line bs ≡ good v rest
    → (bs ≡ line (text "order=") (order_word (order_of v)) ++ rest) × (code_of (order_of v) ≡ v)
unfolding code_of first_of second line order_word
line_order bs v rest e =
    go (after (text "order=big\n") bs) (after (text "order=little\n") bs) refl refl (sym (order_held bs) ∙ e)
  where
    go : (a b : Option (List ℕ)) → after (text "order=big\n") bs ≡ a → after (text "order=little\n") bs ≡ b → first_of a b ≡ good v rest
        → (bs ≡ line (text "order=") (order_word (order_of v)) ++ rest) × (code_of (order_of v) ≡ v)
    go (Some l) b p q r = order_was Big bs rest v (good_value r) (after_is (text "order=big\n") bs l p ∙ ap (λ x. text "order=big\n" ++ x) (good_rest r))
    go None (Some l) p q r = order_was Little bs rest v (good_value r) (after_is (text "order=little\n") bs l q ∙ ap (λ x. text "order=little\n" ++ x) (good_rest r))
    go None None p q r = absurd (not_good refl r)

below_2 : (v : ℕ) → v < 2 → code_of (order_of v) ≡ v
unfolding code_of order_of
below_2 zero h = refl
below_2 (suc zero) h = refl
below_2 (suc (suc v)) h = absurd (omega arith)

code_2 : (v : ℕ) → code_of (order_of v) ≡ v → v < 2
unfolding code_of
code_2 v e = go (order_of v) e
  where
    go : (o : Order) → code_of o ≡ v → v < 2
    go Big e = omega arith
    go Little e = omega arith

-- ---- lines one after the other
-- a line's form: how it is read, how a value is spelled, the values that it can have; one spelling for each
pub record Form : Type 0 where
  pub read : List ℕ → Line
  pub spell : ℕ → List ℕ
  pub limit : ℕ
  pub there : (v : ℕ) (rest : List ℕ) → v < limit → read (spell v ++ rest) ≡ good v rest
  pub back : (bs : List ℕ) (v : ℕ) (rest : List ℕ) → read bs ≡ good v rest → (bs ≡ spell v ++ rest) × (v < limit)

abbrev pub spelt : List Form → List ℕ → List ℕ
spelt [] vs = []
spelt (f ∷ fs) [] = []
spelt (f ∷ fs) (v ∷ vs) = f.spell v ++ spelt fs vs

-- as many values as lines, each within its limit
abbrev pub Within : List Form → List ℕ → Type 0
Within [] [] = Unit {0}
Within [] (v ∷ vs) = ⊥
Within (f ∷ fs) [] = ⊥
Within (f ∷ fs) (v ∷ vs) = (v < f.limit) × Within fs vs

abbrev pub readers : List Form → List (List ℕ → Line)
readers [] = []
readers (f ∷ fs) = f.read ∷ readers fs

on_line : ℕ → List (List ℕ → Line) → Line → Lines
on_line k ls bad = wrong k
on_line k ls (good v rest) = more v (read_lines (suc k) ls rest)

read_cons : (k : ℕ) (l : List ℕ → Line) (ls : List (List ℕ → Line)) (bs : List ℕ) → read_lines k (l ∷ ls) bs ≡ on_line k ls (l bs)
unfolding read_lines on_line
read_cons k l ls bs = go (l bs)
  where
    go : (x : Line) → elim x [ bad ↦ wrong k | good v rest ↦ more v (read_lines (suc k) ls rest) ] ≡ on_line k ls x
    go bad = refl
    go (good v rest) = refl

pub read_spelt : (k : ℕ) (fs : List Form) (vs rest : List ℕ) → Within fs vs → read_lines k (readers fs) (spelt fs vs ++ rest) ≡ right vs rest
unfolding read_lines on_line more
read_spelt k [] [] rest h = refl
read_spelt k [] (v ∷ vs) rest h = absurd h
read_spelt k (f ∷ fs) [] rest h = absurd h
read_spelt k (f ∷ fs) (v ∷ vs) rest h =
    read_cons k f.read (readers fs) (f.spell v ++ spelt fs vs ++ rest)
    ∙ ap (on_line k (readers fs)) (ap f.read (append_assoc (f.spell v) (spelt fs vs) rest) ∙ f.there v (spelt fs vs ++ rest) h.0)
    ∙ ap (more v) (read_spelt (suc k) fs vs rest h.1)

-- what was read where no line was wrong
abbrev pub Told : List Form → List ℕ → Lines → Type 0
Told fs bs (wrong k) = Unit {0}
Told fs bs (right vs rest) = (bs ≡ spelt fs vs ++ rest) × Within fs vs

pub told : (k : ℕ) (fs : List Form) (bs : List ℕ) → Told fs bs (read_lines k (readers fs) bs)
unfolding read_lines on_line more
told k [] bs = (refl, tt)
told k (f ∷ fs) bs = subst (Told (f ∷ fs) bs) (sym (read_cons k f.read (readers fs) bs)) (go (f.read bs) refl (λ r. told (suc k) fs r))
  where
    rest_told : (v : ℕ) (r : List ℕ) → f.read bs ≡ good v r → (x : Lines) → Told fs r x → Told (f ∷ fs) bs (more v x)
    rest_told v r e (wrong j) t = tt
    rest_told v r e (right vs rest) t =
        let b = f.back bs v r e in
        (b.0 ∙ ap (λ l. f.spell v ++ l) t.0 ∙ sym (append_assoc (f.spell v) (spelt fs vs) rest), (b.1, t.1))

    go : (x : Line) → f.read bs ≡ x → ((r : List ℕ) → Told fs r (read_lines (suc k) (readers fs) r)) → Told (f ∷ fs) bs (on_line k (readers fs) x)
    go bad e t = tt
    go (good v r) e t = rest_told v r e (read_lines (suc k) (readers fs) r) (t r)

-- ---- the seven
numbered : List ℕ → Form
numbered key = record {
  read = number_line key;
  spell = λ v. line key (decimal v);
  limit = 10 ^ 7;
  there = λ v rest h. number_line_lem key v rest h;
  back = λ bs v rest e. let s = line_number_lem key bs v rest e in (s.bytes, s.small);
}

ordered : Form
ordered = record {
  read = order_line;
  spell = λ v. line (text "order=") (order_word (order_of v));
  limit = 2;
  there = λ v rest h. order_line_lem (order_of v) rest ∙ ap (λ x. good x rest) (below_2 v h);
  back = λ bs v rest e. let s = line_order bs v rest e in (s.0, code_2 v s.1);
}

pub forms : List Form
forms =
    numbered (text "nx=") ∷ numbered (text "ny=") ∷ numbered (text "nz=") ∷ ordered
    ∷ numbered (text "tolerance=") ∷ numbered (text "levels=") ∷ numbered (text "rounds=") ∷ []

pub lines_are : lines ≡ readers forms
unfolding lines forms numbered ordered
lines_are = refl

-- ---- the header
regroup : (a b c d e f g rest : List ℕ) → a ++ b ++ c ++ d ++ e ++ f ++ g ++ rest ≡ (a ++ (b ++ (c ++ (d ++ (e ++ (f ++ (g ++ []))))))) ++ rest
regroup a b c d e f g rest = simp append_assoc

-- each number has at most seven digits
pub record Short (s : Sides) (t : Settings) : Type 0 where
  pub nx : s.nx < 10 ^ 7
  pub ny : s.ny < 10 ^ 7
  pub nz : s.nz < 10 ^ 7
  pub tolerance : t.tolerance < 10 ^ 7
  pub levels : t.levels < 10 ^ 7
  pub rounds : t.rounds < 10 ^ 7

values_of : Sides → Order → Settings → List ℕ
values_of s o t = s.nx ∷ s.ny ∷ s.nz ∷ code_of o ∷ t.tolerance ∷ t.levels ∷ t.rounds ∷ []

header_spelt : (nx ny nz v tolerance levels rounds : ℕ) (rest : List ℕ)
    → header_written (record { nx = nx; ny = ny; nz = nz }) (order_of v) (record { tolerance = tolerance; levels = levels; rounds = rounds }) ++ rest
    ≡ spelt forms (nx ∷ ny ∷ nz ∷ v ∷ tolerance ∷ levels ∷ rounds ∷ []) ++ rest
unfolding header_written forms numbered ordered
header_spelt nx ny nz v tolerance levels rounds rest =
    regroup (line (text "nx=") (decimal nx)) (line (text "ny=") (decimal ny)) (line (text "nz=") (decimal nz)) (line (text "order=") (order_word (order_of v)))
    (line (text "tolerance=") (decimal tolerance)) (line (text "levels=") (decimal levels)) (line (text "rounds=") (decimal rounds)) rest

order_small : (o : Order) → code_of o < 2
unfolding code_of
order_small Big = omega arith
order_small Little = omega arith

header_read : (s : Sides) (o : Order) (t : Settings) (rest : List ℕ) → Short s t
    → read_lines 1 lines (header_written s o t ++ rest) ≡ right (values_of s o t) rest
unfolding values_of forms numbered ordered
header_read s o t rest h =
    ap₂ (read_lines 1) lines_are
    (ap (λ x. header_written s x t ++ rest) (sym (order_code o))
    ∙ header_spelt s.nx s.ny s.nz (code_of o) t.tolerance t.levels t.rounds rest)
    ∙ read_spelt 1 forms (values_of s o t) rest (h.nx, (h.ny, (h.nz, (order_small o, (h.tolerance, (h.levels, (h.rounds, tt)))))))

-- a header written and read
pub header_back : (s : Sides) (o : Order) (t : Settings) (rest : List ℕ) → Short s t
    → header (header_written s o t ++ rest) ≡ record { sides = s; order = o; settings = t; body = rest }
unfolding header header_of values_of
header_back s o t rest h =
    ap header_of (header_read s o t rest h)
    ∙ ap (λ x. record { sides = s; order = x; settings = t; body = rest }) (order_code o)

pub no_bad_line : (s : Sides) (o : Order) (t : Settings) (rest : List ℕ) → Short s t → bad_line (header_written s o t ++ rest) ≡ None
unfolding bad_line wrong_line
no_bad_line s o t rest h = ap wrong_line (header_read s o t rest h)

-- a header read and written
abbrev rewritten : Header → List ℕ
rewritten h = header_written h.sides h.order h.settings ++ h.body

was : (bs : List ℕ) (x : Lines) → Told forms bs x → wrong_line x ≡ None → rewritten (header_of x) ≡ bs
unfolding wrong_line header_of forms numbered ordered
was bs (wrong k) t e = absurd (never e refl)
was bs (right (a ∷ (b ∷ (c ∷ (d ∷ (e ∷ (f ∷ (g ∷ []))))))) rest) t n = header_spelt a b c d e f g rest ∙ sym t.0
was bs (right [] rest) t n = absurd t.1
was bs (right (a ∷ []) rest) t n = absurd t.1.1
was bs (right (a ∷ (b ∷ [])) rest) t n = absurd t.1.1.1
was bs (right (a ∷ (b ∷ (c ∷ []))) rest) t n = absurd t.1.1.1.1
was bs (right (a ∷ (b ∷ (c ∷ (d ∷ [])))) rest) t n = absurd t.1.1.1.1.1
was bs (right (a ∷ (b ∷ (c ∷ (d ∷ (e ∷ []))))) rest) t n = absurd t.1.1.1.1.1.1
was bs (right (a ∷ (b ∷ (c ∷ (d ∷ (e ∷ (f ∷ [])))))) rest) t n = absurd t.1.1.1.1.1.1.1
was bs (right (a ∷ (b ∷ (c ∷ (d ∷ (e ∷ (f ∷ (g ∷ (x ∷ vs)))))))) rest) t n = absurd t.1.1.1.1.1.1.1.1

pub back_header : (bs : List ℕ) → bad_line bs ≡ None → rewritten (header bs) ≡ bs
unfolding bad_line header
back_header bs e = was bs (read_lines 1 lines bs) (subst (λ ls. Told forms bs (read_lines 1 ls bs)) (sym lines_are) (told 1 forms bs)) e
