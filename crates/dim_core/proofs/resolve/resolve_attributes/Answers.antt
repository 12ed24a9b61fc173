use Rattle.std.proofs.Common.{◌≡◌, ◌+◌, ℕ, List, [], ◌∷◌, ◌++◌, length, sym, ap, ◌∙◌, subst, arith, Err, Ok, Option, option_map, inl}
use Rattle.std.specs.List.{AllZip, IsDistinct}
use Rattle.std.specs.Vec.Iter.{into_iter_items}
use Rattle.std.proofs.lemmas.List.{append-nil}
use Rattle.std.proofs.lemmas.Slice.Zip.{AllZip-long}
use Rattle.dim_core.specs.declared.attribute.Attribute.{Attribute}
use Rattle.dim_core.specs.declared.attributes.Attributes.{Attributes}
use Rattle.dim_core.specs.declared.fault.DimFault.TheVariants.{BadAttribute}
use Rattle.dim_core.specs.Draft.{first_bad_among, IsResolvedAttribute}
use Rattle.dim_core.specs.Outline.{is_same_attribute}
use Rattle.dim_core.specs.Refusal.{IsAnsweredBy}
use Rattle.dim_core.proofs.BadAttributes.{first_bad-none, first_bad-first, good-push, taken_front, nothing_left, is_bad, is_good}
use Rattle.dim_core.proofs.resolve.resolve_attributes.Goals as goal

pub loop-call-init : goal.loop-call-init
unfolding IsDistinct
loop-call-init c =
    let P : List Attribute → Type 0 = λ l. AllZip (IsResolvedAttribute c.args.names.now.keys) [] l in
    let D : List Attribute → Type 0 = IsDistinct is_same_attribute in
    (tt, tt, subst P (sym c.new-resolved.ensures) tt, λ k h. absurd (omega arith), subst D (sym c.new-resolved.ensures) tt)

pub returns-then-not-branch-clause-answered : goal.returns-then-not-branch-clause-answered
returns-then-not-branch-clause-answered c =
    let names = c.args.names.now.keys in
    let before = c.loop-call.yielded in
    let call = c.in-Some.call in
    let parts : c.args.calls.items ≡ before ++ call ∷ into_iter_items c.next.new.self =
    sym c.into_iter-call-iterator.ensures.into_iter_gives.0 ∙ taken_front c.into_iter-call-iterator.result before c.loop-call.call-iterator c.loop-call.yielded_by ∙ ap (λ rest. before ++ rest) c.in-Some.ensures.steps.0 in
    let bad = is_bad _ c.in_ok-add_call.field-0 (c.in_ok-add_call.ensures.bad before c.loop-call.invariant.2) c.if-not-branch.true in
    let first = first_bad-first names c.args.calls.items before call (into_iter_items c.next.new.self) parts c.loop-call.invariant.3 bad in
    let long : length c.as_slice-before.result.now ≡ length before = ap length c.as_slice-before.ensures ∙ AllZip-long (IsResolvedAttribute names) before c.loop-call.resolved c.loop-call.invariant.2 in
    let P : Option ℕ → Type 0 = λ o. IsAnsweredBy {T = Attributes} (option_map BadAttribute o) (Err (BadAttribute (length c.as_slice-before.result.now + 1))) in
    subst P (sym first) (inl (ap (λ n. BadAttribute (n + 1)) long))

pub loop-call-preserved : goal.loop-call-preserved
loop-call-preserved c =
    let names = c.args.names.now.keys in
    let before = c.loop-call.yielded in
    let good = is_good _ c.in_ok-add_call.field-0 (c.in_ok-add_call.ensures.bad before c.loop-call.invariant.2) c.if-not-branch.false in (
      tt,
      tt,
      c.in_ok-add_call.ensures.added c.if-not-branch.false before c.loop-call.invariant.2,
      good-push names before c.in-Some.call c.loop-call.invariant.3 good,
      c.in_ok-add_call.ensures.once c.if-not-branch.false c.loop-call.invariant.4,
    )

pub returns-clause-answered : goal.returns-clause-answered
returns-clause-answered c =
    let names = c.args.names.now.keys in
    let seen = c.loop-call.yielded in
    let parts : c.args.calls.items ≡ seen ++ into_iter_items c.loop-call.call-iterator =
    sym c.into_iter-call-iterator.ensures.into_iter_gives.0 ∙ taken_front c.into_iter-call-iterator.result seen c.loop-call.call-iterator c.loop-call.yielded_by in
    let all : c.args.calls.items ≡ seen = parts ∙ ap (λ rest. seen ++ rest) (nothing_left (into_iter_items c.loop-call.call-iterator) (sym c.loop-call.call-iterator.rest.ok.0 ∙ c.in-None.ensures.steps.0)) ∙ append-nil seen in
    let P : Option ℕ → Type 0 = λ o. IsAnsweredBy (option_map BadAttribute o) (Ok c.in_ok-finish.field-0) in
    subst P (sym (ap (first_bad_among names) all ∙ first_bad-none names seen c.loop-call.invariant.3)) tt
