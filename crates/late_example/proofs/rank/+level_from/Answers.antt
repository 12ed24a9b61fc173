use Rattle.std.proofs.Common.{arith, ℕ, ◌<◌, length}
use Rattle.cube_space.specs.Layout.{axes}
use Rattle.late_example.proofs.Levels.{levels_more, levels_none, element_low, from_low}
use Rattle.late_example.proofs.rank.+level_from.Goals as goal

left : (from n : ℕ) → Rattle.std.specs.Prelude.◌≤◌ from n → (Rattle.std.specs.Prelude.◌≡◌ from n → ⊥) → from < n
left from n low apart = omega (arith, low, apart)

pub returns-then-from-elements-clause-value : goal.returns-then-from-elements-clause-value
returns-then-from-elements-clause-value t c = levels_none (axes c.args.model.now.space c.args.cube) c.args.elements.now c.args.from c.if-from-elements.true

pub axis-requires-clause-dim : goal.axis-requires-clause-dim
axis-requires-clause-dim t c =
    from_low c.args.model.now.space c.args.cube c.args.from c.args.elements.now c.requires.elements (left c.args.from (length c.args.elements.now) c.requires.from c.if-from-elements.false)

pub level-requires : goal.level-requires
level-requires t c =
    let low = left c.args.from (length c.args.elements.now) c.requires.from c.if-from-elements.false in
    let less = element_low c.args.model.now.space c.args.cube c.args.from c.args.elements.now c.axis.result.now c.requires.elements low c.axis.ensures.axis in
    omega (arith, less)

pub overflow_add-result : goal.overflow_add-result
overflow_add-result t c = omega (arith, c.level.type_inv, c.level_from-rest.ensures.size, c.requires.few)

pub returns-clause-value : goal.returns-clause-value
returns-clause-value t c =
    let low = left c.args.from (length c.args.elements.now) c.requires.from c.if-from-elements.false in
    let next = levels_more (axes c.args.model.now.space c.args.cube) c.args.elements.now c.args.from c.axis.result.now c.axis.ensures.axis low in
    omega (arith, next, c.level.ensures.level, c.level_from-rest.ensures.value)
