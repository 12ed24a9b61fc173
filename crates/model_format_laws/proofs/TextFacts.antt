-- A text in another version is written the same, but for the number behind `MODEL`.
use Rattle.std.proofs.Common.{◌≡◌, ◌∙◌, refl, ap, ℕ, List, [], ◌∷◌, ◌++◌, map, Option, Some, None, option_map}
use Rattle.std.specs.List.{flat_map}
use Rattle.cube_lex.specs.declared.position.Position.{Position}
use Rattle.model_text.specs.Contents.{Contents, dimension_names}
use Rattle.model_text.specs.Spelled.{dim_spelled, cube_spelled, script_spelled}
use Rattle.model_text.specs.declared.order.OrderLine.{OrderLine}
use Rattle.model_text.specs.declared.parts.CubeText.{CubeText}
use Rattle.model_format_laws.specs.Versions.{line_in, cube_in, contents_in, rest_spelled}

same_order : (names : List (List ℕ)) (version : ℕ) (cube : CubeText) → cube_spelled names (cube_in version cube) ≡ cube_spelled names cube
same_order names version cube = by cube.order
  where
    with_order : Option (Position × OrderLine) → CubeText
    with_order order = record cube { order = order }

    by : (o : Option (Position × OrderLine)) → cube_spelled names (with_order (option_map (λ order. (order.0, line_in version order.1)) o)) ≡ cube_spelled names (with_order o)
    by None = refl
    by (Some order) = refl

same_cubes : (names : List (List ℕ)) (version : ℕ) (cubes : List CubeText) → flat_map (cube_spelled names) (map (cube_in version) cubes) ≡ flat_map (cube_spelled names) cubes
same_cubes names version [] = refl
same_cubes names version (cube ∷ cubes) =
    ap (λ l. l ++ flat_map (cube_spelled names) (map (cube_in version) cubes)) (same_order names version cube) ∙ ap (λ l. cube_spelled names cube ++ l) (same_cubes names version cubes)

pub same_rest : (contents : Contents) (version : ℕ) → rest_spelled (contents_in version contents) ≡ rest_spelled contents
same_rest contents version =
    ap (λ l. flat_map dim_spelled contents.dims ++ (l ++ flat_map script_spelled contents.scripts)) (same_cubes (dimension_names contents.dims) version contents.cubes)
