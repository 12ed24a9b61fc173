-- Whether a reference is one from a cube of a space, as a test.
use Rattle.std.specs.Prelude.{ℕ, ◌==◌, Bool, true, false, ◌&&◌, nat_lt, List, [], ◌∷◌, length, slice_index_or}
use Rattle.std.specs.List.{list_all}
use Rattle.std.specs.Option.{option_map_or}
use Rattle.cube_space.specs.Layout.{Layout, sizes}
use Rattle.rule_laws.specs.declared.reference.Reference.{Reference}
use Rattle.rule_laws.specs.declared.reference.Arg.{Arg}
use Rattle.rule_laws.specs.declared.reference.Arg.TheVariants.{Fixed, Moved}

abbrev pub is_arg : List ℕ → ℕ → Arg → Bool
is_arg source size (Fixed element) = nat_lt element size
is_arg source size (Moved from to) =
    nat_lt from (length source) && ((length to == slice_index_or source from 0)
    && list_all (λ target. option_map_or (λ element. nat_lt element size) target true) to)

abbrev pub are_args : List ℕ → List ℕ → List Arg → Bool
are_args source [] [] = true
are_args source [] (arg ∷ args) = false
are_args source (size ∷ sizes) [] = false
are_args source (size ∷ sizes) (arg ∷ args) = is_arg source size arg && are_args source sizes args

abbrev pub is_reference : Layout → ℕ → Reference → Bool
is_reference space cube r =
    nat_lt r.cube (length space.cubes) && are_args (sizes space cube) (sizes space r.cube) r.args
