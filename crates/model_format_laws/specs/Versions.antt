-- A model text in another version.
use Rattle.std.specs.Prelude.{ℕ, ◌++◌, List, map, option_map}
use Rattle.std.specs.List.{flat_map}
use Rattle.cube_lex.specs.Written.{Spelling}
use Rattle.model_text.specs.Contents.{Contents, dimension_names}
use Rattle.model_text.specs.Spelled.{dim_spelled, cube_spelled, script_spelled}
use Rattle.model_text.specs.declared.order.OrderLine.{OrderLine}
use Rattle.model_text.specs.declared.parts.CubeText.{CubeText}

-- an order line, a cube and the whole contents, as they stand in a text of this version
abbrev pub line_in : ℕ → OrderLine → OrderLine
line_in version line = record { version = version; words = line.words }

abbrev pub cube_in : ℕ → CubeText → CubeText
cube_in version cube = record cube { order = option_map (λ order. (order.0, line_in version order.1)) cube.order }

abbrev pub contents_in : ℕ → Contents → Contents
contents_in version contents = record contents { version = version; cubes = map (cube_in version) contents.cubes }

-- how contents are written behind the `MODEL` statement
abbrev pub rest_spelled : Contents → List Spelling
rest_spelled contents =
    flat_map dim_spelled contents.dims
    ++ (flat_map (cube_spelled (dimension_names contents.dims)) contents.cubes
    ++ flat_map script_spelled contents.scripts)
