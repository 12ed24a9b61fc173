-- The ranks of a model's nodes among those of all nodes of its plan.
use Rattle.std.specs.Prelude.{ℕ, Bool, true, false, List, [], ◌∷◌, map, slice_index, Some, None, if◌then◌else◌}
use Rattle.std.specs.List.{range_with_len}
use Rattle.rule_model.specs.declared.order.Order.{Order}
use Rattle.rule_model.specs.declared.order.Position.{Position}
use Rattle.rule_model.specs.declared.order.Position.TheVariants.{Ranks}
use Rattle.rule_model.specs.Order.{position_of}
use Rattle.rule_model.specs.System.{cubes_of}
use Rattle.arrow_laws.specs.Nodes.{NodeRanks, has_kinds, last_of}
use Rattle.order_find.specs.Numbers.{width, number_of, place_at}
use Rattle.order_find.specs.Slots.{Plan}

-- those of a cube's nodes of a kind
abbrev pub ranks_of : Plan → List ℕ → Bool → ℕ → List ℕ
ranks_of p numbered kind cube =
    map (λ element. slice_index numbered (number_of p.numbering (place_at cube kind element)))
    (range_with_len 0 (width p.model.space cube))

-- and those of each cube
abbrev pub all_ranks : Plan → List ℕ → NodeRanks
all_ranks p numbered =
    record {
      leaves = map (ranks_of p numbered true) (cubes_of p.model);
      totals = map (ranks_of p numbered false) (cubes_of p.model);
    }

-- the order of a cube by them
abbrev pub positions_in : Plan → List ℕ → ℕ → Bool → List Position
positions_in p numbered cube kind =
    position_of p.model cube true 0 ∷ Ranks (last_of p.model.space cube) (ranks_of p numbered kind cube) ∷ []

abbrev pub order_in : Plan → List ℕ → ℕ → Order
order_in p numbered cube =
    record {
      positions = positions_in p numbered cube true;
      totals = if has_kinds p.model cube then Some (positions_in p numbered cube false) else None;
    }
