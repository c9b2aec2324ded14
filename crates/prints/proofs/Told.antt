-- A print says its numbers: two answers with the same print are the same, and on 0 so are their pressures. Assumes
-- nothing.
use mathlib.Core.Path.{◌≡◌, refl, sym, ap, ap₂, ◌∙◌}
use mathlib.Core.List.{List, [], ◌∷◌, ◌++◌, append_assoc, append-nil, flat_map}
use Prim.Native.Nat.{ℕ, zero, suc}
use native.Mathlib.Omega.{arith}
use lib.IntN.{ℤ, pos, negsuc}
use lib.ListN.{length, drop}
use lib.Seq.{drop-append_seam}
use Rattle.laws.specs.Text.{text}
use Rattle.method.specs.declared.Answer.{Answer}
use Rattle.method.specs.Cast.{between}
use Rattle.method.specs.Numbers.{last_digit, spelled, decimal, is_digit, digits, value_of}
use Rattle.method.specs.Form.{line}
use Rattle.method.specs.Program.{whole, answer_lines, print}
use Rattle.theory.proofs.Digits.{decimal_stop, value_decimal}

-- ---- a number and what follows its LF
cancel : (ks x y : List ℕ) → ks ++ x ≡ ks ++ y → x ≡ y
cancel ks x y e = sym (drop-append_seam ks x) ∙ ap (drop (length ks)) e ∙ drop-append_seam ks y

-- words that are each followed by one LF
record Told (A : Type 0) (a b : A) (x y : List ℕ) : Type 0 where
  same : a ≡ b
  rest : x ≡ y

-- a number's digits end at the LF
ends_there : (n : ℕ) (x : List ℕ) → digits (decimal n ++ (10 ∷ x)) ≡ decimal n
unfolding is_digit between
ends_there n x = decimal_stop n 10 x refl

number_told : (n m : ℕ) (x y : List ℕ) → decimal n ++ (10 ∷ x) ≡ decimal m ++ (10 ∷ y) → Told ℕ n m x y
number_told n m x y e =
    let d : decimal n ≡ decimal m = sym (ends_there n x) ∙ ap digits e ∙ ends_there m y in
    record {
      same = sym (value_decimal n) ∙ ap (value_of 0) d ∙ value_decimal m;
      rest = ap (drop 1) (cancel (decimal m) (10 ∷ x) (10 ∷ y) (ap (λ ds. ds ++ (10 ∷ x)) (sym d) ∙ e));
    }

line_is : (key word x : List ℕ) → line key word ++ x ≡ key ++ (word ++ (10 ∷ x))
unfolding line
line_is key word x = append_assoc (key ++ word) (text "\n") x ∙ append_assoc key word (10 ∷ x)

line_told : (key : List ℕ) (n m : ℕ) (x y : List ℕ) → line key (decimal n) ++ x ≡ line key (decimal m) ++ y → Told ℕ n m x y
line_told key n m x y e =
    number_told n m x y (cancel key (decimal n ++ (10 ∷ x)) (decimal m ++ (10 ∷ y)) (sym (line_is key (decimal n) x) ∙ e ∙ line_is key (decimal m) y))

-- ---- the line of a pressure
-- a minus is no digit, and a number has one
not_minus : (n : ℕ) (x y : List ℕ) → decimal n ++ (10 ∷ x) ≡ 45 ∷ y → ⊥
unfolding digits is_digit between value_of decimal spelled last_digit
not_minus n x y e =
    let d : decimal n ≡ [] = sym (ends_there n x) ∙ ap digits e in
    let z : n ≡ 0 = sym (value_decimal n) ∙ ap (value_of 0) d in
    let l : length (decimal 0) ≡ 0 = ap (λ k. length (decimal k)) (sym z) ∙ ap length d in
    omega (arith, l)

whole_told : (p q : ℤ) (x y : List ℕ) → whole p ++ (10 ∷ x) ≡ whole q ++ (10 ∷ y) → Told ℤ p q x y
unfolding whole
whole_told (pos n) (pos m) x y e = let t = number_told n m x y e in record { same = ap pos t.same; rest = t.rest }
whole_told (pos n) (negsuc m) x y e = absurd (not_minus n x (decimal (suc m) ++ (10 ∷ y)) e)
whole_told (negsuc n) (pos m) x y e = absurd (not_minus m y (decimal (suc n) ++ (10 ∷ x)) (sym e))
whole_told (negsuc n) (negsuc m) x y e =
    let t = number_told (suc n) (suc m) x y (ap (drop 1) e) in
    let s : n ≡ m = omega (arith, t.same) in
    record { same = ap negsuc s; rest = t.rest }

-- ---- the eight lines
value_told : (key : List ℕ) (p q : ℤ) (x y : List ℕ) → line key (whole p) ++ x ≡ line key (whole q) ++ y → Told ℤ p q x y
value_told key p q x y e =
    whole_told p q x y (cancel key (whole p ++ (10 ∷ x)) (whole q ++ (10 ∷ y)) (sym (line_is key (whole p) x) ∙ e ∙ line_is key (whole q) y))

answer_eq : (a b : Answer) → a.number ≡ b.number → a.place ≡ b.place → a.rounds ≡ b.rounds → a.worst ≡ b.worst → a.worstcell ≡ b.worstcell
    → a.worstvalue ≡ b.worstvalue → a.interior ≡ b.interior → a.depth ≡ b.depth → a ≡ b
answer_eq a b n p r w c v i d =
    ap₂ (λ x y. record { number = x; place = y; rounds = a.rounds; worst = a.worst; worstcell = a.worstcell; worstvalue = a.worstvalue; interior = a.interior; depth = a.depth }) n p
    ∙ ap₂ (λ x y. record { number = b.number; place = b.place; rounds = x; worst = y; worstcell = a.worstcell; worstvalue = a.worstvalue; interior = a.interior; depth = a.depth }) r w
    ∙ ap₂ (λ x y. record { number = b.number; place = b.place; rounds = b.rounds; worst = b.worst; worstcell = x; worstvalue = y; interior = a.interior; depth = a.depth }) c v
    ∙ ap₂ (λ x y. record { number = b.number; place = b.place; rounds = b.rounds; worst = b.worst; worstcell = b.worstcell; worstvalue = b.worstvalue; interior = x; depth = y }) i d

eight : (a : Answer) (x : List ℕ) → answer_lines a ++ x
    ≡ line (text "answer=") (decimal a.number) ++ (line (text "place=") (decimal a.place) ++ (line (text "rounds=") (decimal a.rounds)
    ++ (line (text "worst=") (decimal a.worst) ++ (line (text "worstcell=") (decimal a.worstcell) ++ (line (text "worstvalue=") (whole a.worstvalue)
    ++ (line (text "interior=") (decimal a.interior) ++ (line (text "depth=") (decimal a.depth) ++ x)))))))
unfolding answer_lines
eight a x = simp append_assoc

answer_told : (a b : Answer) (x y : List ℕ) → answer_lines a ++ x ≡ answer_lines b ++ y → Told Answer a b x y
answer_told a b x y e =
    let t1 = line_told (text "answer=") a.number b.number _ _ (sym (eight a x) ∙ e ∙ eight b y) in
    let t2 = line_told (text "place=") a.place b.place _ _ t1.rest in
    let t3 = line_told (text "rounds=") a.rounds b.rounds _ _ t2.rest in
    let t4 = line_told (text "worst=") a.worst b.worst _ _ t3.rest in
    let t5 = line_told (text "worstcell=") a.worstcell b.worstcell _ _ t4.rest in
    let t6 = value_told (text "worstvalue=") a.worstvalue b.worstvalue _ _ t5.rest in
    let t7 = line_told (text "interior=") a.interior b.interior _ _ t6.rest in
    let t8 = line_told (text "depth=") a.depth b.depth x y t7.rest in
    record {
      same = answer_eq a b t1.same t2.same t3.same t4.same t5.same t6.same t7.same t8.same;
      rest = t8.rest;
    }

cells_told : (ps qs : List ℤ) → flat_map (λ p. line (text "cell=") (whole p)) ps ≡ flat_map (λ p. line (text "cell=") (whole p)) qs → ps ≡ qs
unfolding flat_map line
cells_told [] [] e = refl
cells_told [] (q ∷ qs) e = absurd (let z : ◌≡◌ {A = ℕ} 0 1 = cc in omega arith)
cells_told (p ∷ ps) [] e = absurd (let z : ◌≡◌ {A = ℕ} 0 1 = cc in omega arith)
cells_told (p ∷ ps) (q ∷ qs) e =
    let f : ℤ → List ℕ = λ r. line (text "cell=") (whole r) in
    let t = whole_told p q (flat_map f ps) (flat_map f qs)
    (cancel (text "cell=") _ _ (sym (line_is (text "cell=") (whole p) (flat_map f ps)) ∙ e ∙ line_is (text "cell=") (whole q) (flat_map f qs))) in
    ap₂ (λ r rs. r ∷ rs) t.same (cells_told ps qs t.rest)

-- ---- the whole print
abbrev cell_lines : ℕ → List ℤ → List ℕ
cell_lines zero ps = flat_map (λ p. line (text "cell=") (whole p)) ps
cell_lines (suc k) ps = []

print_is : (a : Answer) (ps : List ℤ) → print a ps ≡ answer_lines a ++ cell_lines a.number ps
unfolding print
print_is a ps = go a.number
  where
    go : (n : ℕ) → ◌≡◌ {A = List ℕ} (elim n [ zero ↦ answer_lines a ++ flat_map (λ p. line (text "cell=") (whole p)) ps | suc k ↦ answer_lines a ]) (answer_lines a ++ cell_lines n ps)
    go zero = refl
    go (suc k) = sym (append-nil (answer_lines a))

module _ (a b : Answer) (ps qs : List ℤ) (e : print a ps ≡ print b qs) where
  told : Told Answer a b (cell_lines a.number ps) (cell_lines b.number qs)
  told = answer_told a b (cell_lines a.number ps) (cell_lines b.number qs) (sym (print_is a ps) ∙ e ∙ print_is b qs)

  pub print_answer : a ≡ b
  print_answer = told.same

  pub print_pressures : a.number ≡ 0 → ps ≡ qs
  print_pressures z =
      cells_told ps qs
      (ap (λ n. cell_lines n ps) (sym z) ∙ told.rest ∙ ap (λ n. cell_lines n qs) (ap (λ r. r.number) (sym print_answer) ∙ z))
