-- What the files that a model names mean to its users' commands.
use Rattle.std.specs.Prelude.{◌≡◌, ℕ, ◌≤◌, List, length}
use Rattle.model_text.specs.Contents.{most_scripts}
use Rattle.rule_model.specs.BoundModel.{BoundModel}
use Rattle.script_bound.specs.declared.script.BoundScript.{BoundScript}

-- the names of a model's scripts, in its order, what their files mean, and the name of the rule file of each cube,
-- empty where a cube has none
pub record ModelFiles : Type 0 where
  pub script_names : List (List ℕ)
  pub bound : List BoundScript
  pub rule_files : List (List ℕ)

-- each name has its script, and there are no more than a model may have
pub record AreNamed (names : List (List ℕ)) (scripts : List BoundScript) : Type 0 where
  pub each : length scripts ≡ length names
  pub few : length names ≤ most_scripts

-- a model that was accepted, with its files
pub record Checked : Type 0 where
  pub model : BoundModel
  pub files : ModelFiles
