-- Deployment goes in stages: each finds what the later ones need, or is refused, and then none comes after it.
use Rattle.std.specs.Prelude.{◌≡◌, ◌⊎◌, ℕ, ◌+◌, List, [], ◌∷◌, Option, Some, None, Result, Ok, Err}
use Rattle.model_bind.specs.declared.fault.DeployFault.{DeployFault}
use Rattle.model_bind.specs.Foundation.{memory}

-- a stage, by its two ends: what it finds, or why it refuses
pub record Stage (A : Type 0) : Type 1 where
  pub finds : A → Type 0
  pub refuses : DeployFault → Type 0

-- this is found
abbrev pub found : {A : Type 0} → A → Stage A
found a = record { finds = λ b. b ≡ a; refuses = λ _. ⊥ }

-- what is meant is found, or refused
abbrev pub meant : {A : Type 0} → Result A DeployFault → Stage A
meant answer = record { finds = λ a. answer ≡ Ok a; refuses = λ fault. answer ≡ Err fault }

-- nothing is looked for but a refusal
abbrev pub unless : Option DeployFault → Stage (Unit {0})
unless refusal = record { finds = λ _. refusal ≡ None; refuses = λ fault. refusal ≡ Some fault }

-- one stage, and then another that depends on what the first found
infixl 10 ◌>>=◌
abbrev pub ◌>>=◌ : {A B : Type 0} → Stage A → (A → Stage B) → Stage B
◌>>=◌ {A} {B} S K = record {
  finds = λ b. (a : A) × S.finds a × (K a).finds b;
  refuses = λ fault. S.refuses fault ⊎ ((a : A) × S.finds a × (K a).refuses fault);
}

-- the same stage for each of these in turn, which are numbered from this place on
abbrev pub each : {A B : Type 0} → (ℕ → A → Stage B) → ℕ → List A → Stage (List B)
each stage n [] = found []
each stage n (x ∷ xs) = do
  y ← stage n x
  ys ← each stage (n + 1) xs
  found (y ∷ ys)

-- an answer is one of the ends of a stage; out of memory may take its place
abbrev pub Comes : {A : Type 0} → Stage A → Result A DeployFault → Type 0
Comes stage (Ok a) = stage.finds a
Comes stage (Err fault) = (fault ≡ memory) ⊎ stage.refuses fault
