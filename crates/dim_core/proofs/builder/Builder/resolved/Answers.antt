use Rattle.std.proofs.Common.{◌≡◌, length, sym, ◌∙◌, subst, ap, arith, List, ℕ, ℤ, All, IsTrue, None, Ok, Err, Option, option_map, Vec, Global}
use Rattle.std.specs.List.{AllZip}
use Rattle.std.proofs.lemmas.Result.{err_from_is_err_and}
use Rattle.std.proofs.lemmas.Slice.Zip.{AllZip-long}
use Rattle.dim_order.specs.Levels.{AreLevels}
use Rattle.dim_order.specs.Loops.{ArePartsWithin, IsOrder, first_on_loop}
use Rattle.dim_core.specs.declared.attribute.Attribute.{Attribute}
use Rattle.dim_core.specs.declared.fault.DimFault.{DimFault}
use Rattle.dim_core.specs.declared.fault.DimFault.TheVariants.{Loop}
use Rattle.dim_core.specs.Inside.Kept.{IsStored, AreAttributed}
use Rattle.dim_core.specs.Outline.{elements_of}
use Rattle.dim_core.specs.Draft.{Draft, first_unknown, first_bad_attribute, first_loop, are_known, IsResolved}
use Rattle.dim_core.specs.Refusal.{first_cause, IsAnsweredBy}
use Rattle.dim_core.specs.declared.dimension.Dimension.{Dimension}
use Rattle.dim_core.proofs.Answering.{answered_ok, answered_err, answered_memory, answered_bad, none_bad, causes_left}
use Rattle.dim_core.proofs.Resolving.{all_known, resolved_stored, resolved_within, resolved_finished, resolved_attributed, first_loop-resolved, first_bad-elements_of}
use Rattle.dim_core.proofs.builder.Builder.resolved.Goals as goal

pub resolve_all-requires-clause-known : goal.resolve_all-requires-clause-known
resolve_all-requires-clause-known c =
    let b = c.self.inside in
    let P : Draft → Type 0 = λ d. first_unknown d ≡ None in
    let K : List (List (List ℕ × ℤ)) → Type 0 = All (λ parts. IsTrue (are_known b.names.keys parts)) in
    subst K (sym c.deref.ensures.value) (all_known b.name b.names.keys b.components.items b.attributes.items c.self.invariant.0.paired (subst P (sym c.self.view_is) c.requires))

pub order_and_levels-requires-clause-few : goal.order_and_levels-requires-clause-few
order_and_levels-requires-clause-few c =
    let b = c.self.inside in
    let resolved : AllZip (IsResolved b.names.keys) b.components.items c.in_ok-resolved.resolved.items = rw (← c.deref.ensures.value) c.in_ok-resolved.ensures in
    let long = AllZip-long (IsResolved b.names.keys) b.components.items c.in_ok-resolved.resolved.items resolved in
    omega (arith, long, ap length c.deref-2.ensures.value, c.self.invariant.0.paired, c.self.invariant.0.few)

pub order_and_levels-requires-clause-within : goal.order_and_levels-requires-clause-within
order_and_levels-requires-clause-within c =
    let b = c.self.inside in
    let resolved : AllZip (IsResolved b.names.keys) b.components.items c.in_ok-resolved.resolved.items = rw (← c.deref.ensures.value) c.in_ok-resolved.ensures in
    let P : List (List (ℕ × ℤ)) → Type 0 = ArePartsWithin in
    subst P (sym c.deref-2.ensures.value) (resolved_within b.names.keys b.components.items b.component_count c.in_ok-resolved.resolved.items c.self.invariant.0 resolved)

pub new-requires-clause-stored : goal.new-requires-clause-stored
new-requires-clause-stored c =
    let b = c.self.inside in
    let lists = c.in_ok-resolved.resolved.items in
    let order = c.in-Ok-order_and_levels.order.items in
    let levels = c.in-Ok-order_and_levels.levels.items in
    let resolved : AllZip (IsResolved b.names.keys) b.components.items lists = rw (← c.deref.ensures.value) c.in_ok-resolved.ensures in
    let O : List (List (ℕ × ℤ)) → Type 0 = λ lists. IsOrder lists order in
    let L : List (List (ℕ × ℤ)) → Type 0 = λ lists. AreLevels lists levels in
    let S : List (List ℕ) → Type 0 = λ names. IsStored names lists order levels in
    subst S (sym c.in_ok-kept.ensures) (resolved_stored b.names.keys b.components.items b.component_count lists order levels c.self.invariant.0 resolved (subst O c.deref-2.ensures.value c.in-Ok-order_and_levels.ensures.order) (subst L c.deref-2.ensures.value c.in-Ok-order_and_levels.ensures.levels))

pub new-requires-clause-attributed : goal.new-requires-clause-attributed
new-requires-clause-attributed c =
    let b = c.self.inside in
    let A : List (List ℕ) → Type 0 = λ names. AreAttributed b.name names c.in-Ok.described in
    subst A (sym c.in_ok-kept.ensures) (resolved_attributed b.name b.names.keys b.attributes.items c.in-Ok.described c.self.invariant.1 c.in-Ok.ensures.resolved c.in-Ok.ensures.once)

pub returns-in_err-kept-clause-answered : goal.returns-in_err-kept-clause-answered
returns-in_err-kept-clause-answered c =
    let p = err_from_is_err_and c.from_residual-in_err-kept.result c.from_residual-in_err-kept.ensures.1 in
    rw p.1 (answered_memory Dimension _ p.0 p.2)

pub returns-in-Ok-order_and_levels-clause-finished : goal.returns-in-Ok-order_and_levels-clause-finished
returns-in-Ok-order_and_levels-clause-finished c =
    let b = c.self.inside in
    let resolved : AllZip (IsResolved b.names.keys) b.components.items c.in_ok-resolved.resolved.items = rw (← c.deref.ensures.value) c.in_ok-resolved.ensures in
    rw (← c.self.view_is, c.new.ensures, c.in_ok-kept.ensures) (resolved_finished b.name b.names.keys b.components.items c.in_ok-resolved.resolved.items b.attributes.items c.in-Ok.described c.self.invariant.0.paired resolved c.in-Ok.ensures.resolved)

pub returns-in-Ok-order_and_levels-clause-answered : goal.returns-in-Ok-order_and_levels-clause-answered
returns-in-Ok-order_and_levels-clause-answered c =
    let b = c.self.inside in
    let resolved : AllZip (IsResolved b.names.keys) b.components.items c.in_ok-resolved.resolved.items = rw (← c.deref.ensures.value) c.in_ok-resolved.ensures in
    let same = first_loop-resolved b.name b.names.keys b.components.items b.attributes.items c.in_ok-resolved.resolved.items c.self.invariant.0.paired resolved in
    let good = first_bad-elements_of b.name b.names.keys b.components.items b.attributes.items c.self.invariant.0.paired ∙ none_bad _ c.in-Ok.described c.in-Ok.ensures.answered in
    let L : List (List (ℕ × ℤ)) → Type 0 = λ lists. IsAnsweredBy (option_map Loop (first_on_loop lists)) (Ok (c.in-Ok-order_and_levels.order, c.in-Ok-order_and_levels.levels)) in
    let here = answered_ok (option_map Loop (first_on_loop c.in_ok-resolved.resolved.items)) (c.in-Ok-order_and_levels.order, c.in-Ok-order_and_levels.levels) c.new.result (subst L c.deref-2.ensures.value c.in-Ok-order_and_levels.ensures.answered) in
    let A : Option DimFault → Type 0 = λ cause. IsAnsweredBy cause (Ok c.new.result) in
    let P : Draft → Type 0 = λ d. IsAnsweredBy (first_cause None (first_bad_attribute d) (first_loop d)) (Ok c.new.result) in
    subst P c.self.view_is (subst A (sym (causes_left _ _ _ good same)) here)

pub returns-in-Err-order_and_levels-clause-answered : goal.returns-in-Err-order_and_levels-clause-answered
returns-in-Err-order_and_levels-clause-answered c =
    let b = c.self.inside in
    let resolved : AllZip (IsResolved b.names.keys) b.components.items c.in_ok-resolved.resolved.items = rw (← c.deref.ensures.value) c.in_ok-resolved.ensures in
    let same = first_loop-resolved b.name b.names.keys b.components.items b.attributes.items c.in_ok-resolved.resolved.items c.self.invariant.0.paired resolved in
    let good = first_bad-elements_of b.name b.names.keys b.components.items b.attributes.items c.self.invariant.0.paired ∙ none_bad _ c.in-Ok.described c.in-Ok.ensures.answered in
    let L : List (List (ℕ × ℤ)) → Type 0 = λ lists. IsAnsweredBy {T = Vec ℕ Global × Vec ℕ Global} (option_map Loop (first_on_loop lists)) (Err c.in-Err-order_and_levels.fault) in
    let here = answered_err (Vec ℕ Global × Vec ℕ Global) Dimension (option_map Loop (first_on_loop c.in_ok-resolved.resolved.items)) c.in-Err-order_and_levels.fault (subst L c.deref-2.ensures.value c.in-Err-order_and_levels.ensures.answered) in
    let A : Option DimFault → Type 0 = λ cause. IsAnsweredBy {T = Dimension} cause (Err c.in-Err-order_and_levels.fault) in
    let P : Draft → Type 0 = λ d. IsAnsweredBy {T = Dimension} (first_cause None (first_bad_attribute d) (first_loop d)) (Err c.in-Err-order_and_levels.fault) in
    subst P c.self.view_is (subst A (sym (causes_left _ _ _ good same)) here)

pub returns-in-Err-clause-answered : goal.returns-in-Err-clause-answered
returns-in-Err-clause-answered c =
    let b = c.self.inside in
    let same = first_bad-elements_of b.name b.names.keys b.components.items b.attributes.items c.self.invariant.0.paired in
    let d : Draft = record { name = b.name; elements = elements_of b.names.keys b.components.items; attributes = b.attributes.items } in
    let O : Option ℕ → Type 0 = λ bad. IsAnsweredBy {T = Dimension} (first_cause None bad (first_loop d)) (Err c.in-Err.fault) in
    let P : Draft → Type 0 = λ d. IsAnsweredBy {T = Dimension} (first_cause None (first_bad_attribute d) (first_loop d)) (Err c.in-Err.fault) in
    subst P c.self.view_is (subst O (sym same) (answered_bad (List Attribute) Dimension _ (first_loop d) c.in-Err.fault c.in-Err.ensures.answered))
