use Rattle.std.proofs.Common.{◌≡◌, ◌↔◌, IsTrue, sym, ap, ◌∙◌}
use Rattle.rule_model.specs.declared.area.Area.{Area}
use Rattle.feed_find.proofs.Sameness.{same-sets, found-same}
use Rattle.feed_find.proofs.same.same_found.Goals as goal

pub returns : goal.returns
returns c =
    let one = c.args.one.now.feeder.area in
    let other = c.args.other.now.feeder.area in
    let own = ap (λ (a : Area). a.sets) c.get.ensures in
    let its = ap (λ (a : Area). a.sets) c.get-2.ensures in
    let exact : IsTrue c.is_same_area.result ↔ one.sets ≡ other.sets =
    (λ on. sym own ∙ c.is_same_area.ensures.0 on ∙ its, λ same. c.is_same_area.ensures.1 (own ∙ same ∙ sym its)) in
    found-same c.is_same_area.result c.same_reference.result c.args.one.now c.args.other.now c.if-one-other.false c.if-not-same_reference.false c.same_reference.ensures
    (same-sets c.is_same_area.result one.sets other.sets exact)
