use Rattle.std.proofs.Common.{rules, ◌≡◌, ◌∙◌, ap, sym, subst, Some, None, arith, w64, ℤ, pos, negsuc, suc, ◌+ℤ◌, IfOk, ◌≤◌, unsigned_abs, length, slice_get}
use Rattle.cube_fixed.specs.Range.{IsInRange}
use Rattle.std.proofs.lemmas.Int.{to_z-of_z, ints}
use mir.Val.{SFits}
use Rattle.std.specs.Option.{option_and_then, option_map_or}
use Rattle.dim_core.specs.Outline.{index_of, attribute_of, names_of}
use Rattle.bind_arguments.specs.Bound.{dimension_at, name_in, name_at, name_given, index_in}
use Rattle.bind_arguments.specs.Family.{relative_of}
use Rattle.bind_arguments.proofs.Tables.{if_low, index_low as named_low}
use Rattle.bind_arguments.proofs.NamesGiven.{current_parts, index_low, place_parts, attribute_parts, relative_parts, given_current, given_index, given_place, given_attribute, given_relative, given_owner}
use Rattle.bind_arguments.specs.declared.bound_argument.BoundArgument.TheViews.{the_lemmas}
use Rattle.bind_arguments.proofs.giving.+element_given.Goals as goal

sum_fits : (a b : ℤ) → unsigned_abs a ≤ 4294967296 → IsInRange b → SFits w64 (a +ℤ b)
sum_fits (pos a) (pos b) small also = omega (arith, ints)
sum_fits (pos a) (negsuc b) small also = omega (arith, ints)
sum_fits (negsuc a) (pos b) small also = omega (arith, ints)
sum_fits (negsuc a) (negsuc b) small also = omega (arith, ints)

pub dimension-requires : goal.dimension-requires
dimension-requires t c = (current_parts c.args.space.now c.requires.within.0 c.args.argument.now c.requires.within.1 c.in-Current.place c.in-Current.dim c.in-Current.is).low

pub dimension-requires-in-AtIndex : goal.dimension-requires-in-AtIndex
dimension-requires-in-AtIndex t c = index_low c.args.space.now c.requires.within.0 c.args.argument.now c.requires.within.1 c.in-AtIndex.dim c.in-AtIndex.index c.in-AtIndex.is

pub dimension-source-requires : goal.dimension-source-requires
dimension-source-requires t c = (place_parts c.args.space.now c.requires.within.0 c.args.argument.now c.requires.within.1 c.in-AtPlace.dim c.in-AtPlace.source c.in-AtPlace.of c.in-AtPlace.shift c.in-AtPlace.is).source_low

pub dimension-requires-in-AtPlace : goal.dimension-requires-in-AtPlace
dimension-requires-in-AtPlace t c = (place_parts c.args.space.now c.requires.within.0 c.args.argument.now c.requires.within.1 c.in-AtPlace.dim c.in-AtPlace.source c.in-AtPlace.of c.in-AtPlace.shift c.in-AtPlace.is).low

pub element_given-requires : goal.element_given-requires
element_given-requires t c =
    let parts = place_parts c.args.space.now c.requires.within.0 c.args.argument.now c.requires.within.1 c.in-AtPlace.dim c.in-AtPlace.source c.in-AtPlace.of c.in-AtPlace.shift c.in-AtPlace.is in
    (search (rules, the_lemmas), ((c.requires.within.0, rw c.get.ensures parts.of_within), c.requires.families))

pub overflow_add-index : goal.overflow_add-index
overflow_add-index t c =
    let parts = place_parts c.args.space.now c.requires.within.0 c.args.argument.now c.requires.within.1 c.in-AtPlace.dim c.in-AtPlace.source c.in-AtPlace.of c.in-AtPlace.shift c.in-AtPlace.is in
    let a : SFits w64 c.index_of.result = search rules in
    let b : SFits w64 c.in-AtPlace.shift = search rules in
    rw (to_z-of_z w64 c.index_of.result a, to_z-of_z w64 c.in-AtPlace.shift b) (sum_fits c.index_of.result c.in-AtPlace.shift c.index_of.ensures.small parts.small)

pub dimension-owner-requires : goal.dimension-owner-requires
dimension-owner-requires t c = (attribute_parts c.args.space.now c.requires.within.0 c.args.argument.now c.requires.within.1 c.in-AttributeOf.dim c.in-AttributeOf.of c.in-AttributeOf.attribute c.in-AttributeOf.is).low

pub element_given-requires-in-AttributeOf : goal.element_given-requires-in-AttributeOf
element_given-requires-in-AttributeOf t c =
    let parts = attribute_parts c.args.space.now c.requires.within.0 c.args.argument.now c.requires.within.1 c.in-AttributeOf.dim c.in-AttributeOf.of c.in-AttributeOf.attribute c.in-AttributeOf.is in
    (search (rules, the_lemmas), ((c.requires.within.0, rw c.get-in-AttributeOf.ensures parts.of_within), c.requires.families))

pub returns-in-Current-clause-given : goal.returns-in-Current-clause-given
returns-in-Current-clause-given t c =
    c.same_element.ensures ∙ ap (option_and_then (index_of c.args.dimension.now)) (sym (given_current c.args.space.now c.args.element c.args.argument.now c.in-Current.place c.in-Current.dim c.dimension.result.now c.in-Current.is c.dimension.ensures))

pub returns-in-AtIndex-clause-given : goal.returns-in-AtIndex-clause-given
returns-in-AtIndex-clause-given t c =
    let fits : SFits w64 c.in-AtIndex.index = search rules in
    c.element_at.ensures ∙ ap (λ n. option_and_then (index_of c.args.dimension.now) (name_at c.dimension-in-AtIndex.result.now n)) (to_z-of_z w64 c.in-AtIndex.index fits)
    ∙ ap (option_and_then (index_of c.args.dimension.now)) (sym (given_index c.args.space.now c.args.element c.args.argument.now c.in-AtIndex.dim c.in-AtIndex.index c.dimension-in-AtIndex.result.now c.in-AtIndex.is c.dimension-in-AtIndex.ensures))

pub returns-in_ok-place-in-AtPlace-clause-given : goal.returns-in_ok-place-in-AtPlace-clause-given
returns-in_ok-place-in-AtPlace-clause-given t c =
    let parts = place_parts c.args.space.now c.requires.within.0 c.args.argument.now c.requires.within.1 c.in-AtPlace.dim c.in-AtPlace.source c.in-AtPlace.of c.in-AtPlace.shift c.in-AtPlace.is in
    let index : c.index_of.result ≡ index_in c.dimension-source.result.now (name_given c.args.space.now c.args.element c.in-AtPlace.of) =
    c.index_of.ensures.value ∙ ap (λ o. option_map_or (λ e. pos (suc e)) o (pos 0)) (c.in_ok-place-in-AtPlace.ensures.given ∙ ap (λ a. option_and_then (index_of c.dimension-source.result.now) (name_given c.args.space.now c.args.element a)) c.get.ensures) in
    let name = given_place c.args.space.now c.args.element c.args.argument.now c.in-AtPlace.dim c.in-AtPlace.source c.in-AtPlace.of c.in-AtPlace.shift c.dimension-in-AtPlace.result.now c.dimension-source.result.now c.in-AtPlace.is c.dimension-in-AtPlace.ensures c.dimension-source.ensures in
    let a : SFits w64 c.index_of.result = search rules in
    let b : SFits w64 c.in-AtPlace.shift = search rules in
    let whole : SFits w64 (c.index_of.result +ℤ c.in-AtPlace.shift) = sum_fits c.index_of.result c.in-AtPlace.shift c.index_of.ensures.small parts.small in
    let given = rw (to_z-of_z w64 c.index_of.result a, to_z-of_z w64 c.in-AtPlace.shift b, to_z-of_z w64 (c.index_of.result +ℤ c.in-AtPlace.shift) whole) at c.element_at-in-AtPlace.ensures in
    given ∙ ap (λ i. option_and_then (index_of c.args.dimension.now) (name_at c.dimension-in-AtPlace.result.now (i +ℤ c.in-AtPlace.shift))) index
    ∙ ap (option_and_then (index_of c.args.dimension.now)) (sym name)

pub returns-in-Some-clause-given : goal.returns-in-Some-clause-given
returns-in-Some-clause-given t c =
    let found : option_and_then (index_of c.dimension-owner.result.now) (name_given c.args.space.now c.args.element c.in-AttributeOf.of) ≡ Some c.in-Some.owned =
    ap (λ a. option_and_then (index_of c.dimension-owner.result.now) (name_given c.args.space.now c.args.element a)) (sym c.get-in-AttributeOf.ensures) ∙ sym c.in_ok-owned-in-AttributeOf.ensures.given ∙ c.in-Some.is in
    let name = given_attribute c.args.space.now c.args.element c.args.argument.now c.in-AttributeOf.dim c.in-AttributeOf.of c.in-AttributeOf.attribute c.dimension-owner.result.now c.in-AttributeOf.is c.dimension-owner.ensures
    ∙ ap (option_and_then (λ e. name_in (attribute_of c.dimension-owner.result.now e c.in-AttributeOf.attribute))) found in
    subst (λ o. IfOk c.element_named.result (λ given. given ≡ option_and_then (index_of c.args.dimension.now) o)) (ap name_in c.attribute.ensures ∙ sym name) c.element_named.ensures

pub returns-in-None-clause-given : goal.returns-in-None-clause-given
returns-in-None-clause-given t c =
    let found : option_and_then (index_of c.dimension-owner.result.now) (name_given c.args.space.now c.args.element c.in-AttributeOf.of) ≡ None =
    ap (λ a. option_and_then (index_of c.dimension-owner.result.now) (name_given c.args.space.now c.args.element a)) (sym c.get-in-AttributeOf.ensures) ∙ sym c.in_ok-owned-in-AttributeOf.ensures.given ∙ c.in-None.is in
    sym (ap (option_and_then (index_of c.args.dimension.now)) (given_attribute c.args.space.now c.args.element c.args.argument.now c.in-AttributeOf.dim c.in-AttributeOf.of c.in-AttributeOf.attribute c.dimension-owner.result.now c.in-AttributeOf.is c.dimension-owner.ensures
    ∙ ap (option_and_then (λ e. name_in (attribute_of c.dimension-owner.result.now e c.in-AttributeOf.attribute))) found))

pub dimension-owner-requires-in-RelativeOf : goal.dimension-owner-requires-in-RelativeOf
dimension-owner-requires-in-RelativeOf t c = (relative_parts c.args.space.now c.requires.within.0 c.args.argument.now c.requires.within.1 c.in-RelativeOf.dim c.in-RelativeOf.of c.in-RelativeOf.relative c.in-RelativeOf.is).low

pub element_given-requires-in-RelativeOf : goal.element_given-requires-in-RelativeOf
element_given-requires-in-RelativeOf t c =
    let parts = relative_parts c.args.space.now c.requires.within.0 c.args.argument.now c.requires.within.1 c.in-RelativeOf.dim c.in-RelativeOf.of c.in-RelativeOf.relative c.in-RelativeOf.is in
    (search (rules, the_lemmas), ((c.requires.within.0, rw c.get-in-RelativeOf.ensures parts.of_within), c.requires.families))

pub relative_given-requires-clause-dim : goal.relative_given-requires-clause-dim
relative_given-requires-clause-dim t c = (relative_parts c.args.space.now c.requires.within.0 c.args.argument.now c.requires.within.1 c.in-RelativeOf.dim c.in-RelativeOf.of c.in-RelativeOf.relative c.in-RelativeOf.is).low

pub relative_given-requires-clause-element : goal.relative_given-requires-clause-element
relative_given-requires-clause-element t c =
    let D = dimension_at c.args.space.now c.in-RelativeOf.dim in
    let owned = given_owner c.args.space.now c.args.element c.args.argument.now c.in-RelativeOf.dim c.in-RelativeOf.of c.get-in-RelativeOf.result.now c.dimension-owner-in-RelativeOf.result.now c.in_ok-owned-in-RelativeOf.owned
    c.dimension-owner-in-RelativeOf.ensures c.in_ok-owned-in-RelativeOf.ensures.given c.get-in-RelativeOf.ensures in
    if_low (length D.elements) c.in_ok-owned-in-RelativeOf.owned (λ e is. named_low D (name_given c.args.space.now c.args.element c.in-RelativeOf.of) e (sym owned ∙ is))

pub returns-in_ok-owned-in-RelativeOf-clause-given : goal.returns-in_ok-owned-in-RelativeOf-clause-given
returns-in_ok-owned-in-RelativeOf-clause-given t c =
    let D = dimension_at c.args.space.now c.in-RelativeOf.dim in
    let owned = given_owner c.args.space.now c.args.element c.args.argument.now c.in-RelativeOf.dim c.in-RelativeOf.of c.get-in-RelativeOf.result.now c.dimension-owner-in-RelativeOf.result.now c.in_ok-owned-in-RelativeOf.owned
    c.dimension-owner-in-RelativeOf.ensures c.in_ok-owned-in-RelativeOf.ensures.given c.get-in-RelativeOf.ensures in
    let name : option_and_then (slice_get (names_of D.elements)) (option_and_then (relative_of D c.in-RelativeOf.relative) c.in_ok-owned-in-RelativeOf.owned) ≡ name_given c.args.space.now c.args.element c.args.argument.now =
    ap (λ o. option_and_then (slice_get (names_of D.elements)) (option_and_then (relative_of D c.in-RelativeOf.relative) o)) owned
    ∙ sym (given_relative c.args.space.now c.args.element c.args.argument.now c.in-RelativeOf.dim c.in-RelativeOf.of c.in-RelativeOf.relative c.in-RelativeOf.is) in
    subst (λ o. IfOk c.relative_given.result (λ given. given ≡ option_and_then (index_of c.args.dimension.now) o)) name c.relative_given.ensures.given
