use Rattle.std.proofs.Common.{◌≡◌, ℕ, List, sym, ◌∙◌, ap, subst, true, false, not}
use Rattle.std.specs.Prelude.{is_some}
use Rattle.cube_space.specs.Layout.{Layout}
use Rattle.cube_space.specs.Cells.{IsSpace, is_place, cube_of, elements_of}
use Rattle.cube_space.proofs.Places.{is_place-parts}
use Rattle.rule_model.specs.Targets.{component_cells}
use Rattle.rule_model.proofs.Components.{axis_low, element_low, components_by, components_past}
use Rattle.rule_model.proofs.targets.has_components.Goals as goal

valid : (s : Layout) (t : Layout) → s ≡ t → IsSpace t → IsSpace s
valid s t is space = subst IsSpace (sym is) space

there : (s t : Layout) (cube : ℕ) (elements : List ℕ) → s ≡ t → is_place t cube elements ≡ true → is_place s cube elements ≡ true
there s t cube elements is place = ap (λ l. is_place l cube elements) is ∙ place

pub shape-requires : goal.shape-requires
shape-requires c =
    (is_place-parts c.space-space.result.now c.args.cube c.args.elements.now (there _ _ c.args.cube c.args.elements.now c.space-space.ensures.space c.requires)).there

pub dimension-requires : goal.dimension-requires
dimension-requires c =
    axis_low c.space-space.result.now c.args.cube c.shape.result.now c.as_slice-dims.result.now c.args.elements.now c.args.dim (valid _ _ c.space-space.ensures.space c.space-space.ensures.valid)
    (there _ _ c.args.cube c.args.elements.now c.space-space.ensures.space c.requires) c.shape.ensures c.as_slice-dims.ensures c.if-place-dims.false

pub bounds-elements-place : goal.bounds-elements-place
bounds-elements-place c =
    (element_low c.space-space.result.now c.args.cube c.shape.result.now c.as_slice-dims.result.now c.args.elements.now c.args.dim (valid _ _ c.space-space.ensures.space c.space-space.ensures.valid)
    (there _ _ c.args.cube c.args.elements.now c.space-space.ensures.space c.requires) c.shape.ensures c.as_slice-dims.ensures c.dimension.result.now c.if-place-dims.false c.dimension.ensures).0

pub is_leaf-requires : goal.is_leaf-requires
is_leaf-requires c =
    (element_low c.space-space.result.now c.args.cube c.shape.result.now c.as_slice-dims.result.now c.args.elements.now c.args.dim (valid _ _ c.space-space.ensures.space c.space-space.ensures.valid)
    (there _ _ c.args.cube c.args.elements.now c.space-space.ensures.space c.requires) c.shape.ensures c.as_slice-dims.ensures c.dimension.result.now c.if-place-dims.false c.dimension.ensures).1

pub returns : goal.returns
returns c =
    subst (λ (s : Layout). (cell : ℕ) → cube_of s cell ≡ c.args.cube → elements_of s cell ≡ c.args.elements.now → not c.is_leaf.result ≡ is_some (component_cells s cell c.args.dim))
    c.space-space.ensures.space
    (components_by c.space-space.result.now c.args.cube c.shape.result.now c.as_slice-dims.result.now c.args.elements.now c.args.dim (valid _ _ c.space-space.ensures.space c.space-space.ensures.valid)
    (there _ _ c.args.cube c.args.elements.now c.space-space.ensures.space c.requires) c.shape.ensures c.as_slice-dims.ensures c.dimension.result.now c.is_leaf.result c.if-place-dims.false c.dimension.ensures c.is_leaf.ensures)

pub returns-then-place-dims : goal.returns-then-place-dims
returns-then-place-dims c =
    subst (λ (s : Layout). (cell : ℕ) → cube_of s cell ≡ c.args.cube → elements_of s cell ≡ c.args.elements.now → false ≡ is_some (component_cells s cell c.args.dim))
    c.space-space.ensures.space
    (λ cell own _. components_past c.space-space.result.now c.args.cube c.shape.result.now c.as_slice-dims.result.now c.args.elements.now c.args.dim (valid _ _ c.space-space.ensures.space c.space-space.ensures.valid)
    (there _ _ c.args.cube c.args.elements.now c.space-space.ensures.space c.requires) c.shape.ensures c.as_slice-dims.ensures c.if-place-dims.true cell own)
