-- How answers follow one another.
use Rattle.std.proofs.Common.{◌≡◌, Result, Ok, Err, inl, inr, refl}
use Rattle.bind_areas.specs.declared.cause.BindCause.{BindCause}
use Rattle.bind_areas.specs.Meaning.{Meaning, ◌>>=◌, Answers}

-- what stands later doesn't count
pub stops : {A B : Type 0} (meant : Meaning A) (next : A → Meaning B) (cause : BindCause) → Answers meant (Err cause) → Answers (meant >>= next) (Err cause)
stops meant next cause (inl memory) = inl memory
stops meant next cause (inr is) = inr (rw is refl)

-- what stands later decides
pub goes_on : {A B : Type 0} (meant : Meaning A) (a : A) (next : A → Meaning B) (answer : Result B BindCause) → meant ≡ Ok a → Answers (next a) answer → Answers (meant >>= next) answer
goes_on meant a next answer is h = rw is h
