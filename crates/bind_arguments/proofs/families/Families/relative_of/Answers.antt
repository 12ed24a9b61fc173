use Rattle.std.proofs.Common.{◌≡◌, ◌∙◌, Some, slice_get, ap, sym, subst}
use Rattle.std.specs.Option.{option_map}
use Rattle.dim_core.specs.Outline.{components_of}
use Rattle.bind_arguments.specs.Bound.{dimension_at}
use Rattle.bind_arguments.specs.Family.{relative_of}
use Rattle.bind_arguments.specs.Inside.Families.{AreFamiliesIn}
use Rattle.bind_arguments.specs.declared.family.Family.{Family}
use Rattle.bind_arguments.proofs.Around.{found_dimension}
use Rattle.bind_arguments.proofs.FamilyFacts.{family_in}
use Rattle.bind_arguments.proofs.families.Families.relative_of.Goals as goal

pub family_of-requires : goal.family_of-requires
family_of-requires c =
    subst (λ made. (family : Family) × (slice_get made c.args.dim ≡ Some (Some family))) (sym c.as_slice.ensures.value) c.in_ok-make-in-Parent.ensures.there

pub family_of-requires-in-NextLeaf : goal.family_of-requires-in-NextLeaf
family_of-requires-in-NextLeaf c =
    subst (λ made. (family : Family) × (slice_get made c.args.dim ≡ Some (Some family))) (sym c.as_slice-in-NextLeaf.ensures.value) c.in_ok-make-in-NextLeaf.ensures.there

pub returns-in-Component-clause-relative : goal.returns-in-Component-clause-relative
returns-in-Component-clause-relative c =
    let at = found_dimension c.args.space.now c.args.dim c.dimension.result.now c.dimension.ensures in
    c.component_at.ensures ∙ ap (λ d. option_map (λ part. part.0) (slice_get (components_of d c.args.element) c.in-Component.place)) (sym at)
    ∙ sym (ap (λ relative. relative_of (dimension_at c.args.space.now c.args.dim) relative c.args.element) c.in-Component.is)

pub returns-in_ok-make-in-Parent-clause-relative : goal.returns-in_ok-make-in-Parent-clause-relative
returns-in_ok-make-in-Parent-clause-relative c =
    let space = c.args.space.now in
    let right = family_in space c.as_slice.result.now c.args.dim c.family_of.result.now (subst (AreFamiliesIn space) (sym c.as_slice.ensures.value) c.make.ensures.families) c.family_of.ensures in
    c.parent_at.ensures (dimension_at space c.args.dim) right c.requires.element
    ∙ sym (ap (λ relative. relative_of (dimension_at space c.args.dim) relative c.args.element) c.in-Parent.is)

pub returns-in_ok-make-in-NextLeaf-clause-relative : goal.returns-in_ok-make-in-NextLeaf-clause-relative
returns-in_ok-make-in-NextLeaf-clause-relative c =
    let space = c.args.space.now in
    let right = family_in space c.as_slice-in-NextLeaf.result.now c.args.dim c.family_of-in-NextLeaf.result.now (subst (AreFamiliesIn space) (sym c.as_slice-in-NextLeaf.ensures.value) c.make-in-NextLeaf.ensures.families) c.family_of-in-NextLeaf.ensures in
    c.next_leaf.ensures (dimension_at space c.args.dim) right c.requires.element
    ∙ sym (ap (λ relative. relative_of (dimension_at space c.args.dim) relative c.args.element) c.in-NextLeaf.is)
