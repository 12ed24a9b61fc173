use Rattle.std.proofs.Common.{◌≡◌, length, sym, ◌∙◌, eq-eqb}
use Rattle.dim_core.proofs.Elements.{is_too_many-elements_of, all_taken, room_left}
use Rattle.dim_core.proofs.builder.Builder.is_too_many.Goals as goal

pub returns-then-len-eq-MAX_ELEMENTS : goal.returns-then-len-eq-MAX_ELEMENTS
returns-then-len-eq-MAX_ELEMENTS c =
    let tests = is_too_many-elements_of c.self.inside.names.keys c.self.inside.components.items c.self.inside.component_count c.args.further c.self.invariant.0.paired c.self.invariant.0.counted in
    let full : length c.self.inside.names.keys ≡ 100000 = sym c.len.ensures.len ∙ c.if-len-eq-MAX_ELEMENTS.true in
    rw (← c.self.view_is) (eq-eqb c.len.result 100000 c.if-len-eq-MAX_ELEMENTS.true ∙ sym (tests ∙ all_taken (length c.self.inside.names.keys) _ full))

pub returns-else-len-eq-MAX_ELEMENTS : goal.returns-else-len-eq-MAX_ELEMENTS
returns-else-len-eq-MAX_ELEMENTS c =
    let tests = is_too_many-elements_of c.self.inside.names.keys c.self.inside.components.items c.self.inside.component_count c.args.further c.self.invariant.0.paired c.self.invariant.0.counted in
    rw (← c.self.view_is)
    (room_left (length c.self.inside.names.keys) c.self.inside.component_count c.args.further c.self.invariant.0.few (λ e. c.if-len-eq-MAX_ELEMENTS.false (c.len.ensures.len ∙ e)) c.self.invariant.0.few_components ∙ sym tests)
