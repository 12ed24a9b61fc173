-- What a part of a rule text means.
use Rattle.std.specs.Prelude.{◌≡◌, Result, Ok, Err, ◌⊎◌}
use Rattle.bind_areas.specs.declared.cause.BindCause.{BindCause}
use Rattle.bind_areas.specs.declared.cause.BindCause.TheVariants.{Memory}

-- what it means, or the first cause in reading order why it means nothing
abbrev pub Meaning : Type 0 → Type 0
Meaning A = Result A BindCause

abbrev pub done : {E A : Type 0} → A → Result A E
done a = Ok a

-- in a `do` block the lines stand in reading order: the first that has a fault gives it
infixl 10 ◌>>=◌
abbrev pub ◌>>=◌ : {E A B : Type 0} → Result A E → (A → Result B E) → Result B E
Ok a >>= next = next a
Err cause >>= next = Err cause

-- an answer is what is meant; out of memory may come in its place
abbrev pub Answers : {A : Type 0} → Meaning A → Result A BindCause → Type 0
Answers meant (Ok a) = meant ≡ Ok a
Answers meant (Err cause) = (cause ≡ Memory) ⊎ (meant ≡ Err cause)
