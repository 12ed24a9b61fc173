-- What a model keeps.
use Rattle.std.specs.Prelude.{◌≡◌, ℕ, ℤ, List, map}
use Rattle.cube_space.specs.Layout.{Layout}
use Rattle.cube_space.specs.Cells.{IsSpace}
use Rattle.rule_model.specs.declared.rules.CubeRules.{CubeRules}
use Rattle.rule_model.specs.Weights.{AreWeightsOf, HasSmallProducts}
use Rattle.rule_model.specs.Conditions.{AreRules}
use Rattle.rule_model.specs.Inside.Words.{rule_words}
use Rattle.rule_model.specs.Inside.Files.{AreFiles}
use Rattle.rule_model.specs.declared.words.Words.{Words}
use Rattle.rule_model.specs.declared.filed.FiledFeeder.{FiledFeeder}

-- its space is one, there are the coefficients of each dimension, no weight product is above the greatest, the rules
-- are those of its cubes, the words are those of its statements, and the feeders are filed
pub record IsBound (space : Layout) (tables : List (List (List (ℕ × ℤ)))) (rules : List CubeRules)
    (words : List (List Words)) (files : List (List FiledFeeder)) : Type 0 where
  pub valid : IsSpace space
  pub weights : AreWeightsOf space.dimensions tables
  pub products : HasSmallProducts space
  pub ruled : AreRules space rules
  pub read : words ≡ map rule_words rules
  pub filed : AreFiles space rules files
