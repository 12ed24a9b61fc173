-- What a view's text means in a model.
use Rattle.std.specs.Prelude.{◌≡◌, ◌⊎◌, List, [], ◌∷◌, Option, Some, None, Result, Ok, Err}
use Rattle.view_query.specs.declared.fault.ViewFault.{ViewFault}
use Rattle.view_query.specs.declared.fault.ViewFault.TheVariants.{UnknownName, Memory}

-- what it means, or the first cause why it means nothing
abbrev pub Meaning : Type 0 → Type 0
Meaning A = Result A ViewFault

abbrev pub done : {E A : Type 0} → A → Result A E
done a = Ok a

-- in a `do` block the first line that has a fault gives it
infixl 10 ◌>>=◌
abbrev pub ◌>>=◌ : {E A B : Type 0} → Result A E → (A → Result B E) → Result B E
Ok a >>= next = next a
Err cause >>= next = Err cause

-- what a name means, where it means something
abbrev pub known : {A : Type 0} → Option A → Meaning A
known None = Err UnknownName
known (Some a) = done a

-- what each of these means, in their order
abbrev pub each : {A B : Type 0} → (A → Meaning B) → List A → Meaning (List B)
each meaning [] = done []
each meaning (x ∷ xs) = do
  first ← meaning x
  further ← each meaning xs
  done (first ∷ further)

-- an answer is what is meant; out of memory may come in its place
abbrev pub Answers : {A : Type 0} → Meaning A → Result A ViewFault → Type 0
Answers meant (Ok a) = meant ≡ Ok a
Answers meant (Err cause) = (cause ≡ Memory) ⊎ (meant ≡ Err cause)
