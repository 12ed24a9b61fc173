-- The system of rule equations that a model means: the one place where the model's tables become what the laws of
-- rules speak of.
use Rattle.std.specs.Prelude.{ℕ, List, map, length}
use Rattle.std.specs.List.{flat_map, range_with_len}
use Rattle.cube_space.specs.Layout.{Layout}
use Rattle.cube_space.specs.Cells.{cube_of, size_of, is_leaf_cell}
use Rattle.rule_laws.specs.RuleSystem.{RuleSystem, Rule, Feed}
use Rattle.rule_laws.specs.OrderByPlace.{Positions}
use Rattle.rule_model.specs.declared.rules.Statement.{Statement}
use Rattle.rule_model.specs.declared.rules.Feeder.{Feeder}
use Rattle.rule_model.specs.BoundModel.{BoundModel, rules_of}
use Rattle.rule_model.specs.Weights.{leaves_below}
use Rattle.rule_model.specs.Areas.{in_area, is_source}
use Rattle.rule_model.specs.Targets.{target, component_cells, element_at}
use Rattle.rule_model.specs.Order.{most_positions, number_at, rank, cell_level, level_count}

-- a statement of a cube, and a feeder of a cube
abbrev pub rule_of : Layout → ℕ → Statement → Rule
rule_of space cube statement =
    record {
      cube = cube;
      area = in_area space statement.area;
      leaf_part = statement.leaf;
      consolidated_part = statement.cons;
    }

abbrev pub feed_of : Layout → ℕ → Feeder → Feed
feed_of space cube feeder = record { source = is_source space cube feeder.area; target = feeder.target }

-- the statements and the feeders of a cube, in their order
abbrev pub cube_rules : BoundModel → ℕ → List Rule
cube_rules model cube = map (rule_of model.space cube) (rules_of model cube).statements

abbrev pub cube_feeds : BoundModel → ℕ → List Feed
cube_feeds model cube = map (feed_of model.space cube) (rules_of model cube).feeders

-- the numbers of the cubes
abbrev pub cubes_of : BoundModel → List ℕ
cubes_of model = range_with_len 0 (length model.space.cubes)

unfoldable pub system_of : BoundModel → RuleSystem
system_of model =
    record {
      size = size_of model.space;
      cube_of = cube_of model.space;
      skips_check = λ cube. (rules_of model cube).skipcheck;
      is_leaf = is_leaf_cell model.space;
      below = leaves_below model.space;
      components = component_cells model.space;
      rules = flat_map (cube_rules model) (cubes_of model);
      feeds = flat_map (cube_feeds model) (cubes_of model);
      target = target model.space;
      own = element_at model.space;
      rank = rank model;
      level = cell_level model.space;
      levels = level_count model.space;
    }

-- the positions of the declared order, and the number of a cell at each
unfoldable pub positions_of : BoundModel → Positions
positions_of model = record { count = most_positions; at = number_at model }
