-- The model that a model text binds to, with the rules of its cubes. What the rule text of a cube means over these
-- dimensions and cubes is given, and None where it is refused.
use Rattle.std.specs.Prelude.{ℕ, suc, List, [], ◌∷◌, if◌then◌else◌}
use Rattle.std.specs.Prelude.{Option, Some, None, is_some, option_map, option_and_then}
use Rattle.std.specs.Option.{option_map_or}
use Rattle.cube_space.specs.Layout.{Layout}
use Rattle.model_text.specs.Contents.{Contents}
use Rattle.model_text.specs.declared.parts.CubeText.{CubeText}
use Rattle.model_bind.specs.Foundation.{layout_of, foundation_refusal}
use Rattle.rule_model.specs.declared.order.Order.{Order}
use Rattle.rule_model.specs.declared.rules.CubeRules.{CubeRules}
use Rattle.rule_model.specs.BoundModel.{BoundModel}
use Rattle.bind_order.specs.Orders.{order_of}

-- the order that a cube declares: the one that its order line means, and one without positions where it has no
-- line
abbrev pub declared_order : Layout → ℕ → CubeText → Option Order
declared_order space cube text =
    option_map_or (λ line. order_of space cube line.1) text.order (Some (record { positions = []; totals = None }))

-- the rules of a cube: what its rule text means, with the order that it declares; None where one of both is refused
abbrev pub cube_bound : Layout → ℕ → CubeText → Option CubeRules → Option CubeRules
cube_bound space cube text meant =
    option_and_then (λ bound. option_map (λ order. record bound { order = order }) (declared_order space cube text))
    meant

-- the rules of these cubes, the first of which has this number, where the rule texts mean this, by cube
abbrev pub cubes_bound : Layout → (ℕ → Option CubeRules) → ℕ → List CubeText → Option (List CubeRules)
cubes_bound space meant cube [] = Some []
cubes_bound space meant cube (text ∷ texts) =
    option_and_then (λ bound. option_map (λ later. bound ∷ later) (cubes_bound space meant (suc cube) texts))
    (cube_bound space cube text (meant cube))

-- the model; None where a text is refused
abbrev pub model_bound : (Layout → ℕ → Option CubeRules) → Contents → Option BoundModel
model_bound meant contents =
    if is_some (foundation_refusal contents) then None
    else option_map (λ bound. record { space = layout_of contents; rules = bound })
    (cubes_bound (layout_of contents) (meant (layout_of contents)) 0 contents.cubes)
