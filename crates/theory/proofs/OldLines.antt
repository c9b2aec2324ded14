-- The two lines of an old session, written and read, read and written. Assumes nothing.
use mathlib.Core.Path.{◌≡◌, refl, sym, ap, ap₂, subst, ◌∙◌}
use mathlib.Core.Bool.{false}
use mathlib.Core.List.{List, [], ◌∷◌, ◌++◌, append_assoc}
use Prim.Native.Nat.{ℕ, ◌^◌, ◌<◌}
use Rattle.laws.specs.Text.{text}
use Rattle.method.specs.declared.Sides.{Sides}
use Rattle.std.specs.Prelude.{None}
use Rattle.method.specs.Cast.{between}
use Rattle.method.specs.Numbers.{decimal, is_digit}
use Rattle.method.specs.Form.{line, Lines, wrong, right, read_lines}
use Rattle.method.specs.OldForm.{number_to, old_parts, OldHeader, old_header_of, old_header, old_wrong_line, old_bad_line, size_word, old_header_written}
use Rattle.theory.proofs.Lines.{Form, spelt, readers, read_spelt, Told, told, number_to_lem, to_number}
use Rattle.theory.proofs.Reach.{never}

-- ---- the four numbers
part_to : (x : ℕ) → is_digit x ≡ false → List ℕ → Form
part_to x e key = record {
  read = number_to (x ∷ []) key;
  spell = λ v. key ++ decimal v ++ (x ∷ []);
  limit = 10 ^ 7;
  there = λ v rest h. number_to_lem x key v rest e h;
  back = λ bs v rest q. let s = to_number x key bs v rest q in (s.bytes, s.small);
}

no_digit_x : is_digit 120 ≡ false
unfolding is_digit between
no_digit_x = refl

no_digit_lf : is_digit 10 ≡ false
unfolding is_digit between
no_digit_lf = refl

parts : List Form
parts = part_to 120 no_digit_x (text "size=") ∷ part_to 120 no_digit_x [] ∷ part_to 10 no_digit_lf [] ∷ part_to 10 no_digit_lf (text "unit=") ∷ []

parts_are : old_parts ≡ readers parts
unfolding old_parts parts part_to
parts_are = refl

-- ---- the header
regroup : (a x y z t n u rest : List ℕ) → a ++ (x ++ t ++ y ++ t ++ z) ++ n ++ u ++ rest ≡ ((a ++ x ++ t) ++ ((y ++ t) ++ ((z ++ n) ++ (u ++ [])))) ++ rest
regroup a x y z t n u rest = simp append_assoc

-- each number has at most seven digits
pub record OldShort (s : Sides) (u : ℕ) : Type 0 where
  pub nx : s.nx < 10 ^ 7
  pub ny : s.ny < 10 ^ 7
  pub nz : s.nz < 10 ^ 7
  pub unit : u < 10 ^ 7

header_spelt : (nx ny nz u : ℕ) (rest : List ℕ)
    → old_header_written (record { nx = nx; ny = ny; nz = nz }) u ++ rest ≡ spelt parts (nx ∷ ny ∷ nz ∷ u ∷ []) ++ rest
unfolding old_header_written size_word line parts part_to
header_spelt nx ny nz u rest = regroup (text "size=") (decimal nx) (decimal ny) (decimal nz) (text "x") (text "\n") (text "unit=" ++ decimal u ++ text "\n") rest

header_read : (s : Sides) (u : ℕ) (rest : List ℕ) → OldShort s u
    → read_lines 1 old_parts (old_header_written s u ++ rest) ≡ right (s.nx ∷ s.ny ∷ s.nz ∷ u ∷ []) rest
unfolding parts part_to
header_read s u rest h =
    ap₂ (read_lines 1) parts_are (header_spelt s.nx s.ny s.nz u rest)
    ∙ read_spelt 1 parts (s.nx ∷ s.ny ∷ s.nz ∷ u ∷ []) rest (h.nx, (h.ny, (h.nz, (h.unit, tt))))

-- written and read
pub old_header_back : (s : Sides) (u : ℕ) (rest : List ℕ) → OldShort s u
    → old_header (old_header_written s u ++ rest) ≡ record { sides = s; unit = u; body = rest }
unfolding old_header old_header_of
old_header_back s u rest h = ap old_header_of (header_read s u rest h)

pub no_old_bad_line : (s : Sides) (u : ℕ) (rest : List ℕ) → OldShort s u → old_bad_line (old_header_written s u ++ rest) ≡ None
unfolding old_bad_line old_wrong_line
no_old_bad_line s u rest h = ap old_wrong_line (header_read s u rest h)

-- read and written
abbrev rewritten : OldHeader → List ℕ
rewritten h = old_header_written h.sides h.unit ++ h.body

was : (bs : List ℕ) (x : Lines) → Told parts bs x → old_wrong_line x ≡ None → rewritten (old_header_of x) ≡ bs
unfolding old_wrong_line old_header_of parts part_to
was bs (wrong k) t e = absurd (never e refl)
was bs (right (a ∷ (b ∷ (c ∷ (d ∷ [])))) rest) t n = header_spelt a b c d rest ∙ sym t.0
was bs (right [] rest) t n = absurd t.1
was bs (right (a ∷ []) rest) t n = absurd t.1.1
was bs (right (a ∷ (b ∷ [])) rest) t n = absurd t.1.1.1
was bs (right (a ∷ (b ∷ (c ∷ []))) rest) t n = absurd t.1.1.1.1
was bs (right (a ∷ (b ∷ (c ∷ (d ∷ (x ∷ vs))))) rest) t n = absurd t.1.1.1.1.1

pub back_old_header : (bs : List ℕ) → old_bad_line bs ≡ None → rewritten (old_header bs) ≡ bs
unfolding old_bad_line old_header
back_old_header bs e = was bs (read_lines 1 old_parts bs) (subst (λ ls. Told parts bs (read_lines 1 ls bs)) (sym parts_are) (told 1 parts bs)) e
