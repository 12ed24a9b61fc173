-- From a model text and its rule files to the bound model, of which no check has seen the whole.
use Rattle.std.specs.Prelude.{◌≡◌, ℕ, Bool, true, false, List, [], ◌∷◌, map, slice_get, slice_index_or}
use Rattle.std.specs.Prelude.{Option, Some, None}
use Rattle.std.specs.Option.{option_map_or}
use Rattle.model_text.specs.Contents.{Contents}
use Rattle.dim_core.specs.Outline.{name_of}
use Rattle.cube_space.specs.Layout.{Layout, axes}
use Rattle.cube_space.specs.Cells.{IsSpace}
use Rattle.rule_model.specs.BoundModel.{BoundModel}
use Rattle.rule_model.specs.declared.order.Order.{Order}
use Rattle.rule_model.specs.declared.rules.CubeRules.{CubeRules}
use Rattle.arrow_laws.specs.Nodes.{last_of}
use Rattle.arrow_laws.specs.Ranked.{with_orders}
use Rattle.order_find.specs.Found.{AreFound, IsFindFault}
use Rattle.order_find.specs.declared.fault.FindFault.{FindFault}
use Rattle.order_find.specs.declared.fault.FindFault.TheVariants as finds
use Rattle.order_find.specs.declared.link.Link.{Link}
use Rattle.order_find.specs.declared.link.LinkBy.{LinkBy}
use Rattle.order_find.specs.declared.link.LinkBy.TheVariants as links
use Rattle.model_bind.specs.Files.{RuleFile}
use Rattle.model_bind.specs.declared.bound.Bound.{Bound}
use Rattle.model_bind.specs.declared.fault.DeployFault.{DeployFault}
use Rattle.model_bind.specs.declared.fault.DeployCause.TheVariants as causes
use Rattle.model_bind.specs.Foundation.{layout_of, cube_places, order_lines}
use Rattle.model_bind.specs.Foundation.{dimensions_refusal, space_refusal, products_refusal}
use Rattle.model_bind.specs.Rules.{refused_at, is_automatic, text_stage, meaning_stage, order_stage, asking}
use Rattle.model_bind.specs.Stages.{Stage, found, unless, each, ◌>>=◌}

-- the name of a link's element of its cube's last dimension
abbrev pub link_name : Layout → Link → List ℕ
link_name space link =
    option_map_or (λ dimension. name_of dimension link.element)
    (slice_get (axes space link.cube) (last_of space link.cube)) []

-- a circle that begins in this cube, by a reference: at the statement of that, by the names of its elements
abbrev pub circle_refusal : List (Option RuleFile) → ℕ → LinkBy → List (List ℕ) → Option DeployFault
circle_refusal files cube (links.Reference statement reference) names =
    Some (refused_at files cube statement (causes.Cycle names))
circle_refusal files cube links.Below names = None

abbrev pub cycle_refusal : Layout → List (Option RuleFile) → List Link → Option DeployFault
cycle_refusal space files [] = None
cycle_refusal space files (first ∷ rest) =
    circle_refusal files first.cube first.by (map (link_name space) (first ∷ rest))

-- why no order is found; out of memory is nothing of it
abbrev pub find_refusal : Layout → List (Option RuleFile) → FindFault → Option DeployFault
find_refusal space files (finds.Unlagged cube statement reference) =
    Some (refused_at files cube statement (causes.Unlagged reference))
find_refusal space files (finds.Cycle walk) = cycle_refusal space files walk.items
find_refusal space files finds.Memory = None

-- the second is the first with the orders that are found for it
pub record IsRanked (model ranked : BoundModel) : Type 0 where
  pub space : IsSpace model.space
  pub orders : List Order
  pub found : AreFound model orders
  pub with_them : ranked
      ≡ with_orders model (λ cube. slice_index_or orders cube (record { positions = []; totals = None }))

-- the orders of a model are found, each by its lag and by what formulas read at the same lag
abbrev pub find_stage : List (Option RuleFile) → BoundModel → Stage BoundModel
find_stage files model = record {
  finds = IsRanked model;
  refuses = λ fault.
      (first : FindFault) × IsFindFault model first × (find_refusal model.space files first ≡ Some fault);
}

-- where they are to be found
abbrev pub ranked_stage : Bool → List (Option RuleFile) → BoundModel → Stage BoundModel
ranked_stage true files model = find_stage files model
ranked_stage false files model = found model

-- the bound model of a text and of the rules of its cubes
abbrev pub model_of : Contents → List CubeRules → BoundModel
model_of contents rules = record { space = layout_of contents; rules = rules }

-- coefficients, cells and weight products; then rule texts, what they mean, and order lines; then the orders that are
-- to be found. Each is checked over the whole model before the next. What is bound is the model, and which of its cubes
-- ask for feeders to be found
unfoldable pub binding : Contents → List (Option RuleFile) → Stage Bound
binding contents files = do
  _ ← unless (dimensions_refusal contents.dims)
  _ ← unless (space_refusal (cube_places contents.cubes) (layout_of contents))
  _ ← unless (products_refusal (cube_places contents.cubes) (layout_of contents))
  texts ← each (λ _. text_stage) 0 files
  meant ← each (meaning_stage (layout_of contents) files) 0 texts
  rules ← each (order_stage (layout_of contents) (order_lines contents.cubes)) 0 meant
  model ← ranked_stage (is_automatic (order_lines contents.cubes)) files (model_of contents rules)
  found (record { model = model; asking = asking texts })
