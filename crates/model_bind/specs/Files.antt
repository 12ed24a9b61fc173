-- The rule files of a model's cubes.
use Rattle.std.specs.Prelude.{ℕ, List}

-- a file of rules that was read: its bytes, and those of its name, by which a refusal names it
pub record RuleFile : Type 0 where
  pub name : List ℕ
  pub bytes : List ℕ
