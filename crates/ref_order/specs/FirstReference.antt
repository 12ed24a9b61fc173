-- The first reference of a model of which something doesn't hold.
use Rattle.std.specs.Prelude.{◌≡◌, ℕ, suc, ◌<◌, Some, take, length, slice_get, All}
use Rattle.rule_model.specs.declared.rules.Statement.{Statement}
use Rattle.rule_model.specs.BoundModel.{BoundModel, rules_of}
use Rattle.ref_order.specs.Counted.{Counted, counted_of}

-- it holds of all references of the statement
abbrev pub HoldsOfEach : (Counted → Type 0) → Statement → Type 0
HoldsOfEach holds s = All holds (counted_of s)

-- the reference of this number, from 1, is the first of the statement of which it doesn't
pub record IsFirstOf (holds : Counted → Type 0) (s : Statement) (reference : ℕ) : Type 0 where
  pub place : ℕ
  pub number : reference ≡ suc place
  pub it : Counted
  pub here : slice_get (counted_of s) place ≡ Some it
  pub fails : ¬ holds it
  pub before : All holds (take place (counted_of s))

-- and the first of the model: of the statement of this number of this cube
pub record IsFirstReference (holds : ℕ → Statement → Counted → Type 0) (model : BoundModel)
    (cube statement reference : ℕ) : Type 0 where
  pub inside : cube < length model.space.cubes
  pub place : ℕ
  pub number : statement ≡ suc place
  pub it : Statement
  pub here : slice_get (rules_of model cube).statements place ≡ Some it
  pub first : IsFirstOf (holds cube it) it reference
  pub before : All (λ s. HoldsOfEach (holds cube s) s) (take place (rules_of model cube).statements)
  pub cubes_before : (k : ℕ) → k < cube → All (λ s. HoldsOfEach (holds k s) s) (rules_of model k).statements
