-- Whether feeders cover a reference, decided dimension by dimension over the tables of a model.
use Rattle.std.specs.Prelude.{ℕ, suc, ℤ, ◌==◌, Bool, true, false, not, ◌&&◌, ◌||◌, if◌then◌else◌, Option, None, is_none}
use Rattle.std.specs.Prelude.{List, [], ◌∷◌, length, slice_get, slice_index_or}
use Rattle.std.specs.List.{list_all, list_any}
use Rattle.std.specs.Option.{option_map_or}
use Rattle.dim_core.specs.Outline.{Outline}
use Rattle.dim_weights.specs.Coefficients.{coef}
use Rattle.dim_weights.specs.Table.{is_nonzero, leaves_of}
use Rattle.cube_space.specs.Layout.{axes}
use Rattle.rule_laws.specs.declared.reference.Reference.{Reference}
use Rattle.rule_laws.specs.declared.reference.Arg.{Arg}
use Rattle.rule_laws.specs.declared.reference.Arg.TheVariants.{Fixed, Moved}
use Rattle.rule_model.specs.declared.area.Area.{Area}
use Rattle.rule_model.specs.declared.rules.Feeder.{Feeder}
use Rattle.rule_model.specs.declared.rules.Statement.{Statement}
use Rattle.rule_model.specs.BoundModel.{BoundModel, rules_of}
use Rattle.rule_model.specs.Areas.{in_set, in_source_set}
use Rattle.rule_model.specs.System.{cubes_of}
use Rattle.order_laws.specs.Scales.{is_leaf_element}
use Rattle.cover_laws.specs.Looking.{Look, sent, each_narrow, is_possible, each_named, all_named}

-- the leaves that count in an element, in the dimension at a place
abbrev pub leaves_at : List Outline → ℕ → ℕ → List (ℕ × ℤ)
leaves_at dimensions j element = option_map_or (λ d. leaves_of d element) (slice_get dimensions j) []

-- whether some leaf counts in it, and whether this leaf does
abbrev pub has_leaves : List Outline → ℕ → ℕ → Bool
has_leaves dimensions j element = not (length (leaves_at dimensions j element) == 0)

abbrev pub counts_in : List Outline → ℕ → ℕ → ℕ → Bool
counts_in dimensions j element leaf =
    option_map_or (λ d. is_nonzero (coef d element leaf)) (slice_get dimensions j) false

-- ---- the reference names no total that a statement governs

-- what the reference names, as far as it is in an area of its cube
abbrev pub look_within : BoundModel → ℕ → Area → Reference → Area → Look
look_within model cube area r governed = record {
  space = model.space;
  cube = cube;
  area = area;
  args = r.args;
  counts = λ j. in_set (slice_index_or governed.sets j None);
}

-- from no leaf cell of the area does the reference name a consolidated cell of this area of its cube
unfoldable pub names_no_total : BoundModel → ℕ → Area → Reference → Area → Bool
names_no_total model cube area r governed =
    all_named (look_within model cube area r governed) (is_leaf_element (axes model.space r.cube)) 0 r.args
    || not (is_possible (look_within model cube area r governed))

-- and no statement of its cube that has a C part is for such a cell
unfoldable pub names_no_governed : BoundModel → ℕ → Area → Reference → Bool
names_no_governed model cube area r =
    list_all (λ (s : Statement). is_none s.cons || names_no_total model cube area r s.area)
    (rules_of model r.cube).statements

-- ---- a feeder covers the reference

-- what the reference names, as far as leaf cells lie below it
abbrev pub look_below : BoundModel → ℕ → Area → Reference → Look
look_below model cube area r = record {
  space = model.space;
  cube = cube;
  area = area;
  args = r.args;
  counts = has_leaves (axes model.space r.cube);
}

-- each leaf that counts in an element is among the sources of a feeder
abbrev pub are_sources : List Outline → List (Option (List ℕ)) → ℕ → ℕ → Bool
are_sources dimensions sets j element =
    option_map_or (λ d. list_all (λ pair. in_source_set d (slice_index_or sets j None) pair.0) (leaves_of d element))
    (slice_get dimensions j) true

-- each narrow element counts in this one
abbrev pub stands_over : Look → ℕ → ℕ → Bool
stands_over look i element = each_narrow look i (counts_in (axes look.space look.cube) i element)

-- each leaf that counts in an element is sent to an element that passes
abbrev pub each_sent : List Outline → ℕ → List (Option ℕ) → (ℕ → Bool) → ℕ → Bool
each_sent dimensions j to test element =
    list_all (λ pair. option_map_or test (sent to pair.0) false) (leaves_at dimensions j element)

-- a feeder's argument that follows the dimension which this argument of the reference names elements of: from each leaf
-- below one of these it names an element over each narrow element, or, where the reference's argument follows the same
-- dimension as it, over the one from which it is named
abbrev pub reaches_from : Look → List Outline → ℕ → List (Option ℕ) → ℕ → Arg → Bool
reaches_from look dimensions i to j (Fixed target) = each_sent dimensions j to (stands_over look i) target
reaches_from look dimensions i to j (Moved from by) = if from == i
    then each_narrow look i (λ element. option_map_or
    (each_sent dimensions j to (λ over. counts_in (axes look.space look.cube) i over element)) (sent by element) true)
    else each_named look (each_sent dimensions j to (stands_over look i)) (Moved from by)

-- a feeder's argument for a dimension names an element over each narrow element
abbrev pub reaches : Look → List Outline → ℕ → Arg → Bool
reaches look dimensions i (Fixed over) = stands_over look i over
reaches look dimensions i (Moved j to) =
    option_map_or (reaches_from look dimensions i to j) (slice_get look.args j) false

-- and each of these arguments does, which begin at this dimension
abbrev pub all_reach : Look → List Outline → ℕ → List Arg → Bool
all_reach look dimensions i [] = true
all_reach look dimensions i (arg ∷ args) = reaches look dimensions i arg && all_reach look dimensions (suc i) args

-- a feeder of a cube feeds the leaf cells of the area from all leaf cells below what the reference names, where there
-- is such a cell
unfoldable pub feeds_all : BoundModel → ℕ → Area → Reference → ℕ → Feeder → Bool
feeds_all model cube area r own feeder =
    ((own == r.cube) && (feeder.target.cube == cube))
    && (all_named (look_below model cube area r) (are_sources (axes model.space r.cube) feeder.area.sets) 0 r.args
    && all_reach (look_below model cube area r) (axes model.space r.cube) 0 feeder.target.args)

-- where there is no such cell, it covers the reference, whatever it feeds
abbrev pub covers : BoundModel → ℕ → Area → Reference → ℕ → Feeder → Bool
covers model cube area r own feeder =
    not (is_possible (look_below model cube area r)) || feeds_all model cube area r own feeder

-- some feeder of the model does
unfoldable pub has_cover : BoundModel → ℕ → Area → Reference → Bool
has_cover model cube area r =
    list_any (λ own. list_any (covers model cube area r own) (rules_of model own).feeders) (cubes_of model)

-- the reference of a statement of a cube with this area is covered
unfoldable pub is_covered : BoundModel → ℕ → Area → Reference → Bool
is_covered model cube area r = names_no_governed model cube area r && has_cover model cube area r
