-- One text more, and one number more.
use Rattle.std.proofs.Common.{◌≡◌, ℕ, suc, ◌+◌, ◌*◌, List, [], ◌++◌, append_assoc, ap, refl, arith}
use Rattle.cube_sample.specs.Sample.{drawn, following, repeated}

pub none_repeated : (text : ℕ → List ℕ) → repeated text 0 ≡ []
unfolding repeated
none_repeated text = refl

one_repeated : (text : ℕ → List ℕ) (count : ℕ) → repeated text (count + 1) ≡ repeated text count ++ text count
unfolding repeated
one_repeated text count =
    let next : count + 1 ≡ suc count = omega arith in
    rw next refl

pub appended : (text : ℕ → List ℕ) (count : ℕ) (start before line after : List ℕ)
    → after ≡ before ++ line → before ≡ start ++ repeated text count → line ≡ text count
    → after ≡ start ++ repeated text (count + 1)
appended text count start before line after after_is before_is line_is =
    rw (after_is, before_is, line_is, one_repeated text count) (append_assoc start (repeated text count) (text count))

pub grown : (text : ℕ → List ℕ) (count : ℕ) (before line after : List ℕ)
    → after ≡ before ++ line → before ≡ repeated text count → line ≡ text count → after ≡ repeated text (count + 1)
grown text count before line after after_is before_is line_is =
    rw (after_is, before_is, line_is, one_repeated text count) refl

pub none_drawn : (size : ℕ) → drawn size 0 ≡ size
unfolding drawn
none_drawn size = refl

pub one_drawn : (size count next : ℕ) → next ≡ count + 1 → following (drawn size count) ≡ drawn size next
unfolding drawn
one_drawn size count next is =
    let more : next ≡ suc count = omega (arith, is) in
    rw more refl

-- four numbers are one record's
pub record_drawn : (size count : ℕ) → drawn size (4 * count + 4) ≡ drawn size (4 * (count + 1))
record_drawn size count =
    let same : 4 * count + 4 ≡ 4 * (count + 1) = omega arith in
    ap (drawn size) same
