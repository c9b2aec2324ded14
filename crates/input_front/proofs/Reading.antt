-- What one read adds to what stands at a buffer's front.
use Rattle.std.proofs.Common.{◌≡◌, ℕ, ◌+◌, ◌≤◌, List, [], ◌++◌, length, take, arith, sym, ap, ◌∙◌, subst, length-take-le}
use Rattle.std.proofs.Math.Seq.{take-append-add, take-append-le}
use Rattle.std.proofs.KnownBytes.{Consumes-nil, Consumes-kept, Consumes-trans}
use Rattle.std.specs.Io.{ReadsAtMost}
use Rattle.std.specs.Io.KnownBytes.{Consumes, ReadConsumes}
use Rattle.std.specs.Result.{result_unwrap_or}
use Rattle.std.specs.Prelude.{Option, Result, Ok, Err}
use borrow.Rule.Slice.PartMut.{put_mid, post_of}

-- as many bytes as a read gave, none where it failed, fit its buffer and were taken from the reader
pub read_gave : {E : Type 0} (a b : Option (List ℕ)) (r : Result ℕ E) (n : ℕ) (buf : List ℕ) → n ≡ result_unwrap_or r 0 → ReadsAtMost r buf
    → ReadConsumes a b r buf → (n ≤ length buf) × Consumes a b (take n buf)
read_gave a b (Ok m) n buf e bound bytes = subst (λ k. (k ≤ length buf) × Consumes a b (take k buf)) (sym e) (bound.0, bytes.0)
read_gave a b (Err x) n buf e bound bytes =
    subst (λ k. (k ≤ length buf) × Consumes a b (take k buf)) (sym e) (omega arith, Consumes-kept a a b [] (Consumes-nil a) bytes)

-- n bytes more at the front, where they were read to the place after it
front_more : (at k n : ℕ) (xs ys : List ℕ) → at ≤ length xs → n ≤ length ys → take (at + n) (put_mid at k xs ys) ≡ take at xs ++ take n ys
front_more at k n xs ys within fits =
    ap (λ m. take (m + n) (put_mid at k xs ys)) (sym (length-take-le at xs within))
    ∙ take-append-add (take at xs) (ys ++ post_of at k xs) n
    ∙ ap (λ l. take at xs ++ l) (take-append-le n ys (post_of at k xs) fits)

pub taken_more : (a b c : Option (List ℕ)) (at k n : ℕ) (xs ys : List ℕ) → at ≤ length xs → Consumes a b (take at xs) → (n ≤ length ys) × Consumes b c (take n ys)
    → Consumes a c (take (at + n) (put_mid at k xs ys))
taken_more a b c at k n xs ys within before more =
    subst (Consumes a c) (sym (front_more at k n xs ys within more.0)) (Consumes-trans a b c (take at xs) (take n ys) before more.1)
