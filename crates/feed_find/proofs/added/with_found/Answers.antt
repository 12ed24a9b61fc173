use Rattle.std.proofs.Common.{◌≡◌, ◌∙◌, ap, sym, subst, length}
use Rattle.std.proofs.lemmas.Bool.Decides.{Decides-eqb}
use Rattle.std.proofs.lemmas.List.{nil_from_length}
use Rattle.std.proofs.lemmas.Result.{IfOk-weaker}
use Rattle.std.specs.Prelude.{All}
use Rattle.rule_model.specs.BoundModel.{BoundModel}
use Rattle.rule_model.specs.Conditions.{AreRules}
use Rattle.feed_find.specs.Added.{IsFound, with_found}
use Rattle.feed_find.specs.Views.{lists_in, groups_of}
use Rattle.feed_find.proofs.Adding.{with-none, groups-long, model-with, rules-with}
use Rattle.feed_find.proofs.added.with_found.Goals as goal

pub returns-then-is_empty : goal.returns-then-is_empty
returns-then-is_empty c =
    let none : length c.args.found ≡ 0 = ap length (sym c.as_slice.ensures) ∙ (Decides-eqb (length c.as_slice.result.now) 0).0 (sym c.if-is_empty.ensures) in
    with-none c.args.model c.space-space.ensures.rules.each_cube ∙ ap (with_found c.args.model) (sym (nil_from_length c.args.found none))

pub with_groups-requires-clause-long : goal.with_groups-requires-clause-long
with_groups-requires-clause-long c =
    let m = c.args.model in
    let is = c.into_parts-space.ensures.model in
    let own = subst (λ (m : BoundModel). AreRules m.space m.rules) is c.space-space.ensures.rules in
    groups-long c.cubes.result c.args.found c.in_ok-groups.groups.items c.in_ok-groups.ensures ∙ c.cubes.ensures ∙ sym own.each_cube

pub of-requires-clause-rules : goal.of-requires-clause-rules
of-requires-clause-rules c =
    let is = c.into_parts-space.ensures.model in
    let space = c.into_parts-space.result.0 in
    let own = subst (λ (m : BoundModel). AreRules m.space m.rules) is c.space-space.ensures.rules in
    let valid = subst (λ (m : BoundModel). All (IsFound m.space) c.args.found) is c.requires in
    rules-with space c.into_parts-space.result.2.items c.in_ok-rules.rules.items c.args.found (lists_in c.in_ok-groups.groups.items)
    (c.in_ok-groups.ensures ∙ ap (λ n. groups_of n c.args.found) c.cubes.ensures) c.in_ok-rules.ensures.all own valid c.in_ok-rules.ensures.few

pub returns : goal.returns
returns c =
    let is = c.into_parts-space.ensures.model in
    let space = c.into_parts-space.result.0 in
    let rules = c.in_ok-rules.rules.items in
    let own = subst (λ (m : BoundModel). AreRules m.space m.rules) is c.space-space.ensures.rules in
    let made = model-with space c.into_parts-space.result.2.items rules c.args.found c.args.model (lists_in c.in_ok-groups.groups.items) is
    (c.in_ok-groups.ensures ∙ ap (λ n. groups_of n c.args.found) c.cubes.ensures) c.in_ok-rules.ensures.all own.each_cube in
    IfOk-weaker c.of.result (λ (all : BoundModel). all ≡ record { space = space; rules = rules }) (λ (all : BoundModel). all ≡ with_found c.args.model c.args.found) (λ all so. so ∙ made) c.of.ensures
