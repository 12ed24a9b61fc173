use Rattle.std.proofs.Common.{◌≡◌, ◌∙◌, ◌||◌, sym, ap, subst, arith, Bool, ℕ, List, All, take, length, get_or}
use Rattle.std.specs.List.{AllZip, list_any}
use Rattle.std.proofs.lemmas.List.{take_all}
use Rattle.std.proofs.lemmas.List.Folds.{list_any_more, list_any_at}
use Rattle.dim_core.specs.Outline.{Outline}
use Rattle.cube_space.specs.Layout.{Layout, axes, sizes_of}
use Rattle.cube_space.specs.Cells.{IsSpace, cube_of, elements_of}
use Rattle.cube_space.proofs.Places.{cell-place}
use Rattle.rule_model.specs.declared.rules.CubeRules.{CubeRules}
use Rattle.rule_model.specs.declared.rules.Statement.{Statement}
use Rattle.rule_model.specs.BoundModel.{rules_of}
use Rattle.rule_model.specs.Conditions.{IsSet}
use Rattle.model_laws.proofs.Placed.{IsPlaced, placed}
use Rattle.sparse_sum.proofs.Placed.{cube-there}
use Rattle.cell_spread.specs.Inside.Meets.{speaks_below}
use Rattle.cell_spread.specs.Spread.{is_governed, cells_below}
use Rattle.cell_spread.proofs.Governed.{statements-sets, ruled-below}
use Rattle.cell_spread.proofs.ruled.is_ruled_below.Goals.{After-as_slice-dims, After-as_slice-statements, After-speaks_below}
use Rattle.cell_spread.proofs.ruled.is_ruled_below.Goals as goal

here : (c : After-as_slice-dims) → IsPlaced c.args.model.now.space c.args.cell c.place-cube.result c.as_slice-dims.result.now c.place-cube.new.at
here c =
    subst (λ (s : Layout). IsPlaced s c.args.cell c.place-cube.result c.as_slice-dims.result.now c.place-cube.new.at) c.space-space.ensures.space
    (placed c.space-space.result.now c.args.cell c.place-cube.result c.shape.result.now c.as_slice-dims.result.now c.place-cube.new.at _
    (subst IsSpace (sym c.space-space.ensures.space) c.space-space.ensures.valid) (rw c.space-space.ensures.space c.requires) c.place-cube.ensures.cube c.shape.ensures c.as_slice-dims.ensures c.place-cube.ensures.elements)

pub shape-requires : goal.shape-requires
shape-requires c = cube-there c.space-space.result.now c.args.cell c.place-cube.result (rw c.space-space.ensures.space c.requires) c.place-cube.ensures.cube

pub rules-requires : goal.rules-requires
rules-requires c = (here (goal.at.rules-requires c).After-as_slice-dims).there

pub slice_bounds-at-end : goal.slice_bounds-at-end
slice_bounds-at-end c = let p = here (goal.at.slice_bounds-at-end c).After-as_slice-dims in omega (arith, p.few, c.type_inv.at)

pub slice_bounds-speaks_below-end : goal.slice_bounds-speaks_below-end
slice_bounds-speaks_below-end c = (here (goal.at.slice_bounds-speaks_below-end c).After-as_slice-dims).long

pub speaks_below-requires-clause-few : goal.speaks_below-requires-clause-few
speaks_below-requires-clause-few c = (here (goal.at.speaks_below-requires-clause-few c).After-as_slice-dims).few

pub speaks_below-requires-clause-dims : goal.speaks_below-requires-clause-dims
speaks_below-requires-clause-dims c = (here (goal.at.speaks_below-requires-clause-dims c).After-as_slice-dims).in_range

pub speaks_below-requires-clause-at : goal.speaks_below-requires-clause-at
speaks_below-requires-clause-at c = (here (goal.at.speaks_below-requires-clause-at c).After-as_slice-dims).digits

pub speaks_below-requires-clause-sets : goal.speaks_below-requires-clause-sets
speaks_below-requires-clause-sets c =
    let p = here (goal.at.speaks_below-requires-clause-sets c).After-as_slice-dims in
    let own : c.as_slice-statements.result.now ≡ (rules_of c.args.model.now c.place-cube.result).statements = c.as_slice-statements.ensures ∙ ap (λ (r : CubeRules). r.statements) c.rules.ensures in
    let all = subst (All (λ (s : Statement). AllZip IsSet (sizes_of (axes c.args.model.now.space c.place-cube.result)) s.area.sets)) (sym own) (statements-sets c.args.model.now c.place-cube.result c.space-space.ensures.rules p.there) in
    let one = all c.loop-statement.statement-index c.statement-item.result c.loop-statement-test.true in
    subst (λ (ds : List Outline). AllZip IsSet (sizes_of ds) c.statement-item.result.area.sets) (sym p.axes_are)
    (subst (λ (s : Statement). AllZip IsSet (sizes_of (axes c.args.model.now.space c.place-cube.result)) s.area.sets) (sym c.statement-item.is) one)

-- the statements of the cell's cube
own-statements : (c : After-as_slice-statements) → c.as_slice-statements.result.now ≡ (rules_of c.args.model.now (cube_of c.args.model.now.space c.args.cell)).statements
own-statements c =
    c.as_slice-statements.ensures ∙ ap (λ (r : CubeRules). r.statements) c.rules.ensures
    ∙ ap (λ (k : ℕ). (rules_of c.args.model.now k).statements) (c.place-cube.ensures.cube ∙ ap (λ (s : Layout). cube_of s c.args.cell) c.space-space.ensures.space)

all-below : (c : After-as_slice-statements) → list_any (is_governed c.args.model.now) (cells_below c.args.model.now.space c.args.cell)
    ≡ list_any (speaks_below (axes c.args.model.now.space (cube_of c.args.model.now.space c.args.cell)) (elements_of c.args.model.now.space c.args.cell)) c.as_slice-statements.result.now
all-below c =
    let there = (cell-place c.args.model.now.space c.args.cell c.requires).place.there in
    ruled-below c.args.model.now c.space-space.ensures.valid c.args.cell c.requires (statements-sets c.args.model.now (cube_of c.args.model.now.space c.args.cell) c.space-space.ensures.rules there)
    ∙ ap (list_any (speaks_below (axes c.args.model.now.space (cube_of c.args.model.now.space c.args.cell)) (elements_of c.args.model.now.space c.args.cell))) (sym (own-statements c))

-- what the statement says of leaf cells below
spoke : (c : After-speaks_below) → IsPlaced c.args.model.now.space c.args.cell c.place-cube.result c.as_slice-dims.result.now c.place-cube.new.at
    → speaks_below (axes c.args.model.now.space (cube_of c.args.model.now.space c.args.cell)) (elements_of c.args.model.now.space c.args.cell) (get_or c.as_slice-statements.result.now c.loop-statement.statement-index c.statement-item.result) ≡ c.speaks_below.result
spoke c p =
    let f = speaks_below (axes c.args.model.now.space (cube_of c.args.model.now.space c.args.cell)) (elements_of c.args.model.now.space c.args.cell) in
    ap f (sym c.statement-item.is)
    ∙ sym (c.speaks_below.ensures ∙ ap (λ (ds : List Outline). speaks_below ds (take (length c.as_slice-dims.result.now) c.place-cube.new.at) c.statement-item.result) p.its_axes
    ∙ ap (λ (es : List ℕ). speaks_below (axes c.args.model.now.space (cube_of c.args.model.now.space c.args.cell)) es c.statement-item.result) p.elements)

pub returns-then-speaks_below : goal.returns-then-speaks_below
returns-then-speaks_below c =
    let p = here (goal.at.returns-then-speaks_below c).After-as_slice-dims in
    let f = speaks_below (axes c.args.model.now.space (cube_of c.args.model.now.space c.args.cell)) (elements_of c.args.model.now.space c.args.cell) in
    sym (all-below (goal.at.returns-then-speaks_below c).After-as_slice-statements
    ∙ list_any_at f c.as_slice-statements.result.now c.loop-statement.statement-index c.statement-item.result c.loop-statement-test.true (spoke (goal.at.returns-then-speaks_below c).After-speaks_below p ∙ c.if-speaks_below.true))

pub loop-statement-preserved : goal.loop-statement-preserved
loop-statement-preserved c =
    let p = here (goal.at.loop-statement-preserved c).After-as_slice-dims in
    let f = speaks_below (axes c.args.model.now.space (cube_of c.args.model.now.space c.args.cell)) (elements_of c.args.model.now.space c.args.cell) in
    record {
      none = list_any_more f c.as_slice-statements.result.now c.loop-statement.statement-index c.statement-item.result c.loop-statement-test.true
          ∙ ap (λ (b : Bool). b || f (get_or c.as_slice-statements.result.now c.loop-statement.statement-index c.statement-item.result)) c.loop-statement.invariant.none
          ∙ spoke (goal.at.loop-statement-preserved c).After-speaks_below p ∙ c.if-speaks_below.false;
    }

pub returns : goal.returns
returns c =
    let f = speaks_below (axes c.args.model.now.space (cube_of c.args.model.now.space c.args.cell)) (elements_of c.args.model.now.space c.args.cell) in
    sym (all-below (goal.at.returns c).After-as_slice-statements
    ∙ ap (list_any f) (sym (take_all c.loop-statement.statement-index c.as_slice-statements.result.now c.loop-statement-test.false)) ∙ c.loop-statement.invariant.none)
