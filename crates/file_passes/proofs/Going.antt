-- Which files are read by one pass after another.
use Rattle.std.proofs.Common.{[], ◌∷◌, inl, inr, refl, subst}
use Rattle.file_passes.specs.Course.{Contents, IsCourse}
use Rattle.file_passes.specs.Pass.{Readings, Pass, ◌>>=◌}
use Rattle.file_passes.specs.Reading.{IsReadOn}
use Rattle.file_passes.proofs.KeptFacts.{Grows, grows_past, IsKept}

pub on-refl : {A : Type 0} (P : Pass A) (known : Contents) (readings : Readings) → IsReadOn P known readings readings
on-refl P known [] = refl
on-refl P known (reading ∷ older) = inl refl

pub on-later : {A B : Type 0} (P : Pass A) (K : A → Pass B) (known : Contents) (old new : Readings)
    → IsReadOn P known old new → IsReadOn (P >>= K) known old new
on-later P K known old [] on = on
on-later P K known old (reading ∷ older) (inl same) = inl same
on-later P K known old (reading ∷ older) (inr ((extent, turn, tells), new, on)) =
    inr ((extent, inl turn, tells), new, on-later P K known old older on)

pub grows-on : {A : Type 0} (P : Pass A) (known : Contents) (old new : Readings) → IsReadOn P known old new → Grows old new
grows-on P known old [] on = subst (Grows old) on (λ name bytes is. is)
grows-on P known old (reading ∷ older) (inl same) = subst (Grows old) same (λ name bytes is. is)
grows-on P known old (reading ∷ older) (inr (next, new, on)) =
    let before = grows-on P known old older on in
    let now = grows_past older reading new in
    λ name bytes is. now name bytes (before name bytes is)

-- a pass reads on after another has found something
pub on-bind : {A B : Type 0} (P : Pass A) (K : A → Pass B) (keeps : IsKept P) (known : Contents) (a : A) (old mid new : Readings)
    → P.finds mid a → IsReadOn P known old mid → IsReadOn (K a) known mid new → IsReadOn (P >>= K) known old new
on-bind P K keeps known a old mid [] finds before on = subst (IsReadOn (P >>= K) known old) on (on-later P K known old mid before)
on-bind P K keeps known a old mid (reading ∷ older) finds before (inl same) =
    subst (IsReadOn (P >>= K) known old) same (on-later P K known old mid before)
on-bind P K keeps known a old mid (reading ∷ older) finds before (inr ((extent, turn, tells), new, on)) =
    let found = keeps mid older a (grows-on (K a) known mid older on) finds in
    inr ((extent, inr (a, found, turn), tells), new, on-bind P K keeps known a old mid older finds before on)

-- what was read from the first file on is a course
pub course-of : {A : Type 0} (P : Pass A) (known : Contents) (readings : Readings) → IsReadOn P known [] readings → IsCourse P known readings
course-of P known [] on = tt
course-of P known (reading ∷ older) (inl same) = cc
course-of P known (reading ∷ older) (inr (next, new, on)) = (next, course-of P known older on)
