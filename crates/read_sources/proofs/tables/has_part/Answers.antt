use Rattle.std.proofs.Common.{◌≡◌, ◌<◌, refl, sym, ap, ◌∙◌, arith, ◌&&◌, Bool, ℕ, ℤ, true, false, pos, List, [], length}
use Rattle.std.specs.Prelude.{slice_index_or}
use Rattle.std.specs.List.{list_any}
use Rattle.std.specs.Option.{option_map_or}
use Rattle.std.proofs.lemmas.List.{get_or_default}
use Rattle.std.proofs.lemmas.List.Folds.{Any-from_list_any}
use Rattle.dim_core.specs.Outline.{components_of}
use Rattle.dim_weights.specs.Table.{is_nonzero}
use Rattle.cube_space.specs.Layout.{axes}
use Rattle.order_laws.specs.Scales.{parts_in, is_leaf_element}
use Rattle.ref_order.proofs.Args.{component-below}
use Rattle.read_sources.specs.Giving.{is_wanted}
use Rattle.read_sources.proofs.tables.has_part.Goals as goal

-- none passes
none-any : (test : ℕ × ℤ → Bool) (parts : List (ℕ × ℤ)) → ((j : ℕ) → j < length parts → test (slice_index_or parts j (0, pos 0)) ≡ false) → (t : Bool) → list_any test parts ≡ t → t ≡ false
none-any test parts none false is = refl
none-any test parts none true is =
    let (k, part, low, same, passes) = Any-from_list_any test parts is in
    let off = none k low in
    let clash : true ≡ false = sym passes ∙ ap test (sym (get_or_default parts k (0, pos 0) part low ∙ same)) ∙ off in cc

pub is_total-leaf-requires-clause-element : goal.is_total-leaf-requires-clause-element
is_total-leaf-requires-clause-element c =
    component-below c.args.model.now.space c.args.cube c.args.dim c.args.element c.each.k c.axis.result.now c.components-parts.result.now c.axis.ensures.valid c.axis.ensures.axis c.components-parts.ensures c.each-test.true

pub returns : goal.returns
returns c =
    let dims = axes c.args.model.now.space c.args.cube in
    let e = c.args.element in
    let parts : List (ℕ × ℤ) = c.components-parts.result.now in
    let all : parts ≡ parts_in dims c.args.dim e = c.components-parts.ensures ∙ ap (λ d. option_map_or (λ d. components_of d e) d []) (sym c.axis.ensures.axis) in
    let test : ℕ × ℤ → Bool = λ part. is_wanted c.args.wanted (is_leaf_element dims c.args.dim part.0) && is_nonzero part.1 in
    sym (ap (list_any test) (sym all) ∙ none-any test parts (λ j low. c.each.invariant j (omega (arith, low, c.each-test.false, c.each.auto.k-end))) (list_any test parts) refl)
