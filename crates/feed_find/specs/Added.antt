-- A model with the feeders that are found for it.
use Rattle.std.specs.Prelude.{ℕ, suc, ◌==◌, ◌<◌, if◌then◌else◌, Some, None, List, [], ◌∷◌, ◌++◌, map, length}
use Rattle.std.specs.List.{filter_map}
use Rattle.cube_space.specs.Layout.{Layout}
use Rattle.rule_model.specs.declared.rules.CubeRules.{CubeRules}
use Rattle.rule_model.specs.declared.rules.Feeder.{Feeder}
use Rattle.rule_model.specs.BoundModel.{BoundModel, rules_of}
use Rattle.rule_model.specs.Conditions.{IsFeeder}
use Rattle.rule_model.specs.System.{cubes_of}
use Rattle.model_counts.specs.Counts.{feeder_statements}
use Rattle.feed_find.specs.declared.chosen.FoundFeeder.{FoundFeeder}

-- a feeder of a cube of a space
abbrev pub IsFound : Layout → FoundFeeder → Type 0
IsFound space found = (found.cube < length space.cubes) × IsFeeder space found.cube found.feeder

-- these feeders, each as a feeder statement of its own, numbered from this one on
abbrev pub numbered : ℕ → List Feeder → List Feeder
numbered n [] = []
numbered n (feeder ∷ more) =
    record { area = feeder.area; target = feeder.target; statement = n } ∷ numbered (suc n) more

-- the rules of a cube with more feeders behind their own
abbrev pub with_feeders : CubeRules → List Feeder → CubeRules
with_feeders rules more = record {
  skipcheck = rules.skipcheck;
  statements = rules.statements;
  feeders = rules.feeders ++ numbered (feeder_statements rules.feeders) more;
  order = rules.order;
}

-- those of a cube among these
abbrev pub feeders_in : ℕ → List FoundFeeder → List Feeder
feeders_in cube found = filter_map (λ one. if one.cube == cube then Some one.feeder else None) found

-- the model in which each cube has those of these feeders that are its own
unfoldable pub with_found : BoundModel → List FoundFeeder → BoundModel
with_found m found = record {
  space = m.space;
  rules = map (λ cube. with_feeders (rules_of m cube) (feeders_in cube found)) (cubes_of m);
}
