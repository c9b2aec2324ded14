-- Laws of the parts of a session that are put: lines, header, values. Assumes nothing.
use mathlib.Core.Path.{◌≡◌, refl, ◌∙◌}
use mathlib.Core.List.{List, [], ◌∷◌, ◌++◌, append_assoc, flat_map}
use Prim.Native.Nat.{ℕ, ◌+◌, ◌*◌, ◌≤◌}
use native.Mathlib.Omega.{arith}
use borrow.Author.Rules.{rules}
use lib.ListN.{length, length-append}
use lib.IntN.{ℤ, pos, negsuc}
use mir.Syntax.{w32}
use mir.Val.{SFits, to_z, of_z}
use mir.Facts.{to_z-of_z}
use Rattle.std.specs.Int.{to_be_bytes, to_le_bytes}
use Rattle.laws.specs.Text.{text}
use Rattle.method.specs.declared.Sides.{Sides}
use Rattle.method.specs.declared.Settings.{Settings}
use Rattle.method.specs.declared.Order.{Order}
use Rattle.method.specs.declared.Order.TheVariants.{Big, Little}
use Rattle.method.specs.Numbers.{decimal}
use Rattle.method.specs.Form.{line, order_word, header_written, in_order, four_bytes, word_of, value_written, written}
use Rattle.text_out.specs.Puts.{Put}
use Rattle.text_out.proofs.PutLaws.{all_put, first_room, second_room, third_room}
use Rattle.session_bytes.specs.Lengths.{three_lines}

-- three lines
module _ (a : List ℕ) (x : ℕ) (b : List ℕ) (y : ℕ) (c : List ℕ) (z : ℕ) (w : List ℕ) (i : ℕ) where
  three_room : i + length (three_lines a x b y c z) ≤ length w → i + length (line a (decimal x) ++ line b (decimal y) ++ line c (decimal z)) ≤ length w
  unfolding three_lines
  three_room r = r

  pub three_first : i + length (three_lines a x b y c z) ≤ length w → i + length (line a (decimal x)) ≤ length w
  three_first r = first_room (line a (decimal x)) (line b (decimal y)) (line c (decimal z)) w i (three_room r)

  pub three_second : (u : List ℕ) (j : ℕ) → i + length (three_lines a x b y c z) ≤ length w → Put (line a (decimal x)) w i u j → j + length (line b (decimal y)) ≤ length u
  three_second u j r p = second_room (line a (decimal x)) (line b (decimal y)) (line c (decimal z)) w i (three_room r) u j p

  pub three_third : (u v : List ℕ) (j k : ℕ) → i + length (three_lines a x b y c z) ≤ length w → Put (line a (decimal x)) w i u j → Put (line b (decimal y)) u j v k → k + length (line c (decimal z)) ≤ length v
  three_third u v j k r p q = third_room (line a (decimal x)) (line b (decimal y)) (line c (decimal z)) w i (three_room r) u j p v k q

  pub three_put : (u v d : List ℕ) (j k m : ℕ) → Put (line a (decimal x)) w i u j → Put (line b (decimal y)) u j v k → Put (line c (decimal z)) v k d m → Put (three_lines a x b y c z) w i d m
  unfolding three_lines
  three_put u v d j k m p q g = all_put _ _ _ w u v d i j k m p q g

-- the header: sides, order, settings
abbrev pub side_lines : Sides → List ℕ
side_lines s = three_lines (text "nx=") s.nx (text "ny=") s.ny (text "nz=") s.nz

abbrev pub setting_lines : Settings → List ℕ
setting_lines t = three_lines (text "tolerance=") t.tolerance (text "levels=") t.levels (text "rounds=") t.rounds

pub header_parts : (s : Sides) (o : Order) (t : Settings) → header_written s o t ≡ side_lines s ++ line (text "order=") (order_word o) ++ setting_lines t
unfolding header_written three_lines
header_parts s o t = simp append_assoc

module _ (s : Sides) (o : Order) (t : Settings) (w : List ℕ) (i : ℕ) where
  header_room : i + length (header_written s o t) ≤ length w → i + length (side_lines s ++ line (text "order=") (order_word o) ++ setting_lines t) ≤ length w
  header_room r = rw (header_parts s o t) at r

  pub header_first : i + length (header_written s o t) ≤ length w → i + length (side_lines s) ≤ length w
  header_first r = first_room (side_lines s) (line (text "order=") (order_word o)) (setting_lines t) w i (header_room r)

  pub header_second : (u : List ℕ) (j : ℕ) → i + length (header_written s o t) ≤ length w → Put (side_lines s) w i u j → j + length (line (text "order=") (order_word o)) ≤ length u
  header_second u j r p = second_room (side_lines s) (line (text "order=") (order_word o)) (setting_lines t) w i (header_room r) u j p

  pub header_third : (u v : List ℕ) (j k : ℕ) → i + length (header_written s o t) ≤ length w → Put (side_lines s) w i u j → Put (line (text "order=") (order_word o)) u j v k → k + length (setting_lines t) ≤ length v
  header_third u v j k r p q = third_room (side_lines s) (line (text "order=") (order_word o)) (setting_lines t) w i (header_room r) u j p v k q

  pub header_put : (u v d : List ℕ) (j k m : ℕ) → Put (side_lines s) w i u j → Put (line (text "order=") (order_word o)) u j v k → Put (setting_lines t) v k d m → Put (header_written s o t) w i d m
  header_put u v d j k m p q g = rw (header_parts s o t) (all_put _ _ _ w u v d i j k m p q g)

-- the order
pub order_room_big : (o : Order) (i m : ℕ) → o ≡ Big → i + length (line (text "order=") (order_word o)) ≤ m → i + 10 ≤ m
unfolding line order_word
order_room_big o i m e r = rw e at r

pub order_room_little : (o : Order) (i m : ℕ) → o ≡ Little → i + length (line (text "order=") (order_word o)) ≤ m → i + 13 ≤ m
unfolding line order_word
order_room_little o i m e r = rw e at r

pub order_put_big : (o : Order) (a b : List ℕ) (i j : ℕ) → o ≡ Big → Put (text "order=big\n") a i b j → Put (line (text "order=") (order_word o)) a i b j
unfolding line order_word
order_put_big o a b i j e p = rw e p

pub order_put_little : (o : Order) (a b : List ℕ) (i j : ℕ) → o ≡ Little → Put (text "order=little\n") a i b j → Put (line (text "order=") (order_word o)) a i b j
unfolding line order_word
order_put_little o a b i j e p = rw e p

-- ---- values
big_bytes : (v : ℤ) → to_be_bytes w32 (word_of v) ≡ value_written Big v
unfolding value_written in_order four_bytes word_of
big_bytes (pos n) = refl
big_bytes (negsuc n) = refl

little_bytes : (v : ℤ) → to_le_bytes w32 (word_of v) ≡ value_written Little v
unfolding value_written in_order four_bytes word_of
little_bytes (pos n) = refl
little_bytes (negsuc n) = refl

module _ (o : Order) (v : ℤ) (w : ℕ) (bytes x y : List ℕ) (i j : ℕ) (f : SFits w32 v) (k : w ≡ word_of (to_z w32 (of_z w32 v))) (u : Put bytes x i y j) where
  pub value_big : o ≡ Big → bytes ≡ to_be_bytes w32 w → Put (value_written o v) x i y j
  value_big e b = rw (e, ← big_bytes v) (rw (to_z-of_z f) at (rw k at (rw b at u)))

  pub value_little : o ≡ Little → bytes ≡ to_le_bytes w32 w → Put (value_written o v) x i y j
  value_little e b = rw (e, ← little_bytes v) (rw (to_z-of_z f) at (rw k at (rw b at u)))

value_length : (o : Order) (v : ℤ) → length (value_written o v) ≡ 4
unfolding value_written in_order four_bytes
value_length Big v = refl
value_length Little v = refl

pub values_length : (o : Order) (vs : List ℤ) → length (flat_map (value_written o) vs) ≡ 4 * length vs
unfolding flat_map
values_length o [] = omega arith
values_length o (v ∷ vs) = length-append (value_written o v) (flat_map (value_written o) vs) ∙ omega (arith, value_length o v, values_length o vs)

-- ---- a whole session
module _ (s : Sides) (o : Order) (t : Settings) (ls : List ℕ) (vs : List ℤ) (a : List ℕ) (r : length (written (record { sides = s; labels = ls; values = vs }) o t) ≤ length a) where
  whole_room : 0 + length (header_written s o t ++ ls ++ flat_map (value_written o) vs) ≤ length a
  unfolding written
  whole_room = omega (arith, r)

  pub whole_first : 0 + length (header_written s o t) ≤ length a
  whole_first = first_room (header_written s o t) ls (flat_map (value_written o) vs) a 0 whole_room

  pub whole_second : (b : List ℕ) (j : ℕ) → Put (header_written s o t) a 0 b j → j + length ls ≤ length b
  whole_second b j p = second_room (header_written s o t) ls (flat_map (value_written o) vs) a 0 whole_room b j p

  pub whole_third : (b c : List ℕ) (j k : ℕ) → Put (header_written s o t) a 0 b j → Put ls b j c k → k + 4 * length vs ≤ length c
  whole_third b c j k p q =
      omega (arith, third_room (header_written s o t) ls (flat_map (value_written o) vs) a 0 whole_room b j p c k q, values_length o vs)

pub whole_put : (s : Sides) (o : Order) (t : Settings) (ls : List ℕ) (vs : List ℤ) (a b c d : List ℕ) (j k m : ℕ) → Put (header_written s o t) a 0 b j → Put ls b j c k
    → Put (flat_map (value_written o) vs) c k d m → Put (written (record { sides = s; labels = ls; values = vs }) o t) a 0 d m
unfolding written
whole_put s o t ls vs a b c d j k m p q u = all_put _ _ _ a b c d 0 j k m p q u

pub ruleset wholes = (rules, whole_first, whole_second, whole_third, whole_put)

pub ruleset threes = (rules, three_first, three_second, three_third, three_put)

pub ruleset headed = (rules, header_first, header_second, header_third, header_put)

pub ruleset ordered = (rules, order_room_big, order_room_little, order_put_big, order_put_little)
