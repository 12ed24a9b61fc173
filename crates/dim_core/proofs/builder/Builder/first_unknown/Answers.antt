use Rattle.std.proofs.Common.{◌≡◌, sym, ◌∙◌, subst, Some, None}
use Rattle.dim_core.specs.Draft.{Draft, first_unknown}
use Rattle.dim_core.proofs.Resolving.{first_unknown-elements_of}
use Rattle.dim_core.proofs.builder.Builder.first_unknown.Goals as goal

pub returns-in-Some : goal.returns-in-Some
returns-in-Some c =
    let b = c.self.inside in
    let P : Draft → Type 0 = λ d. Some c.in-Some.element ≡ first_unknown d in
    subst P c.self.view_is (rw c.deref.ensures.value at c.in-Some.ensures.value ∙ sym (first_unknown-elements_of b.name b.names.keys b.components.items b.attributes.items c.self.invariant.0.paired))

pub returns-in-None : goal.returns-in-None
returns-in-None c =
    let b = c.self.inside in
    let P : Draft → Type 0 = λ d. None ≡ first_unknown d in
    subst P c.self.view_is (rw c.deref.ensures.value at c.in-None.ensures.value ∙ sym (first_unknown-elements_of b.name b.names.keys b.components.items b.attributes.items c.self.invariant.0.paired))
