-- What a model stands on: its dimensions and cubes, and why they are refused.
use Rattle.std.specs.Prelude.{◌≡◌, ℕ, ◌⊎◌, ⊤, nat_lt, if◌then◌else◌, List, [], ◌∷◌, length, map, slice_index_or}
use Rattle.std.specs.Prelude.{Option, Some, None, option_map, Result, Ok, Err}
use Rattle.std.specs.List.{range_with_len}
use Rattle.std.specs.Option.{option_or}
use Rattle.cube_lex.specs.Positions.{nowhere}
use Rattle.cube_lex.specs.declared.position.Position.{Position}
use Rattle.dim_text.specs.Progress.{Text}
use Rattle.dim_weights.specs.declared.fault.WeightFault.{WeightFault}
use Rattle.dim_weights.specs.declared.fault.WeightFault.TheVariants as weights
use Rattle.dim_weights.specs.Refusal.{refusal_of as weights_refused}
use Rattle.cube_space.specs.declared.shape.CubeShape.{CubeShape}
use Rattle.cube_space.specs.declared.fault.SpaceFault.{SpaceFault}
use Rattle.cube_space.specs.declared.fault.SpaceFault.TheVariants as spaces
use Rattle.cube_space.specs.Layout.{Layout}
use Rattle.cube_space.specs.Refusal.{refusal_of as space_refused}
use Rattle.rule_model.specs.Weights.{weight_product, most_weight_product}
use Rattle.model_text.specs.Contents.{Contents}
use Rattle.model_text.specs.declared.parts.CubeText.{CubeText}
use Rattle.model_text.specs.declared.order.OrderLine.{OrderLine}
use Rattle.model_bind.specs.declared.fault.At.TheVariants as spots
use Rattle.model_bind.specs.declared.fault.DeployFault.{DeployFault}
use Rattle.model_bind.specs.declared.fault.DeployCause.{DeployCause}
use Rattle.model_bind.specs.declared.fault.DeployCause.TheVariants as causes

-- a cube of the text, without its places and its rules
abbrev pub shape_of : CubeText → CubeShape
shape_of cube = record { name = cube.name; dims = cube.dims }

-- the dimensions and the cubes of a model text
abbrev pub layout_of : Contents → Layout
layout_of contents = record {
  dimensions = map (λ text. text.dimension) contents.dims;
  cubes = map shape_of contents.cubes;
}

-- the place of each cube's `CUBE`
abbrev pub cube_places : List CubeText → List Position
cube_places cubes = map (λ cube. cube.at) cubes

-- each cube's order line and the place of its `ORDER`, where it has one
abbrev pub order_lines : List CubeText → List (Option (Position × OrderLine))
order_lines cubes = map (λ cube. cube.order) cubes

-- the model file is refused at this place
abbrev pub refused_in_model : Position → DeployCause → DeployFault
refused_in_model place cause = record { file = None; at = spots.Text place; cause = cause }

-- out of memory has no place
abbrev pub memory : DeployFault
memory = refused_in_model nowhere causes.Memory

-- what is wrong with a dimension's coefficients: at the element that has one too large, and where there are
-- too many pairs at its `DIM`
abbrev pub on_dimension : Text → WeightFault → DeployFault
on_dimension text (weights.CoefficientTooLarge element) =
    refused_in_model (slice_index_or text.positions element nowhere) causes.CoefficientTooLarge
on_dimension text (weights.TooManyPairs count) = refused_in_model text.head (causes.TooManyPairs count)
on_dimension text weights.Memory = memory

abbrev pub dimension_refusal : Text → Option DeployFault
dimension_refusal text = option_map (on_dimension text) (weights_refused text.dimension)

-- what is wrong with a cube's cells: at its `CUBE`
abbrev pub on_cube : List Position → SpaceFault → DeployFault
on_cube places (spaces.DimensionCount cube) =
    refused_in_model (slice_index_or places cube nowhere) causes.DimensionCount
on_cube places (spaces.CubeTooLarge cube) = refused_in_model (slice_index_or places cube nowhere) causes.CubeTooLarge
on_cube places (spaces.ModelTooLarge cube) = refused_in_model (slice_index_or places cube nowhere) causes.ModelTooLarge
on_cube places spaces.Memory = memory

abbrev pub space_refusal : List Position → Layout → Option DeployFault
space_refusal places layout = option_map (on_cube places) (space_refused layout)

-- the weight product of a cube is above the greatest: at its `CUBE`
abbrev pub product_refusal : List Position → Layout → ℕ → Option DeployFault
product_refusal places layout cube =
    if nat_lt most_weight_product (weight_product layout cube)
    then Some (refused_in_model (slice_index_or places cube nowhere) causes.WeightProduct)
    else None

-- what the first of these is refused for that is refused
abbrev pub first_refusal : {A : Type 0} → (A → Option DeployFault) → List A → Option DeployFault
first_refusal refusal [] = None
first_refusal refusal (x ∷ xs) = option_or (refusal x) (first_refusal refusal xs)

abbrev pub dimensions_refusal : List Text → Option DeployFault
dimensions_refusal dims = first_refusal dimension_refusal dims

abbrev pub products_refusal : List Position → Layout → Option DeployFault
products_refusal places layout =
    first_refusal (product_refusal places layout) (range_with_len 0 (length layout.cubes))

-- the first refusal: first of all dimensions by their coefficients, then of the cubes by their cells, then of the cubes
-- by their weight products
unfoldable pub foundation_refusal : Contents → Option DeployFault
foundation_refusal contents =
    option_or (dimensions_refusal contents.dims)
    (option_or
    (space_refusal (cube_places contents.cubes) (layout_of contents))
    (products_refusal (cube_places contents.cubes) (layout_of contents)))

-- an answer has this cause: it is Ok where there is none, and else the cause; out of memory may always come
abbrev pub IsAnsweredBy : {T : Type 0} → Option DeployFault → Result T DeployFault → Type 0
IsAnsweredBy None (Ok value) = ⊤
IsAnsweredBy (Some cause) (Ok value) = ⊥
IsAnsweredBy None (Err fault) = fault ≡ memory
IsAnsweredBy (Some cause) (Err fault) = (fault ≡ cause) ⊎ (fault ≡ memory)
