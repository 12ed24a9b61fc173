use Rattle.std.proofs.Common.{◌<◌, ◌≤◌, ◌∙◌, ◌==◌, ap, sym, arith, is_some, length}
use Rattle.std.specs.List.{list_any}
use Rattle.order_laws.specs.Scales.{set_count}
use Rattle.rule_notes.proofs.AreaFacts.{short-lacks, lacks-here, has-here, has-done}
use Rattle.rule_notes.proofs.areas.has_listed.Goals as goal

pub returns-then-listed-count : goal.returns-then-listed-count
returns-then-listed-count c =
    let short : length c.args.listed.now < set_count c.args.size c.args.inner.now = omega (arith, c.count-count.ensures, c.if-listed-count.true) in
    sym (short-lacks c.args.listed.now c.args.size c.args.inner.now c.requires.listed c.requires.inner short)

pub returns-in_default : goal.returns-in_default
returns-in_default c =
    let low : c.each.k < set_count c.args.size c.args.inner.now = omega (arith, c.count-count.ensures, c.each-test.true) in
    lacks-here (λ element. list_any (λ e. e == element) c.args.listed.now) c.args.size c.args.inner.now c.each.k c.element_at.result low c.element_at.ensures (sym c.place_in.ensures.listed ∙ ap is_some c.in_default.is) c.each.invariant

pub each-preserved : goal.each-preserved
each-preserved c =
    let low : c.each.k < set_count c.args.size c.args.inner.now = omega (arith, c.count-count.ensures, c.each-test.true) in
    has-here (λ element. list_any (λ e. e == element) c.args.listed.now) c.args.size c.args.inner.now c.each.k c.element_at.result low c.element_at.ensures (sym c.place_in.ensures.listed ∙ ap is_some c.in-Some.is) c.each.invariant

pub returns : goal.returns
returns c =
    let past : set_count c.args.size c.args.inner.now ≤ c.each.k = omega (arith, c.count-count.ensures, c.each-test.false) in
    has-done (λ element. list_any (λ e. e == element) c.args.listed.now) c.args.size c.args.inner.now c.each.k past c.each.invariant
