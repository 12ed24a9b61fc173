-- What contracts see of a bound model: its dimensions, its cubes over them, and the rules of each cube.
use Rattle.std.specs.Prelude.{ℕ, false, None, List, [], slice_index_or}
use Rattle.cube_space.specs.Layout.{Layout}
use Rattle.rule_model.specs.declared.rules.CubeRules.{CubeRules}

pub record BoundModel : Type 0 where
  pub space : Layout
  pub rules : List CubeRules

-- the rules of a cube that has none
abbrev pub no_rules : CubeRules
no_rules =
    record { skipcheck = false; statements = []; feeders = []; order = record { positions = []; totals = None } }

-- the rules of a cube
abbrev pub rules_of : BoundModel → ℕ → CubeRules
rules_of model cube = slice_index_or model.rules cube no_rules
