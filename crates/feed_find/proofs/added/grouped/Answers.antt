use Rattle.std.proofs.Common.{◌<◌, ◌∙◌, ◌++◌, ◌∷◌, [], List, ap, sym, arith, length, set}
use Rattle.std.specs.Vec.Iter.{into_iter_items}
use Rattle.std.proofs.lemmas.List.Elements.{All-head, All-tail, All-same}
use Rattle.rule_model.specs.declared.rules.Feeder.{Feeder}
use Rattle.feed_find.specs.declared.chosen.FoundFeeder.{FoundFeeder}
use Rattle.feed_find.specs.Views.{lists_in}
use Rattle.feed_find.proofs.Adding.{items-set, items-at, items-more, groups-long, groups-next, grouped-more}
use Rattle.feed_find.proofs.added.grouped.Goals as goal

pub cubes-preserved : goal.cubes-preserved
cubes-preserved c =
    ap lists_in c.in_ok-push.ensures.items ∙ items-more c.cubes.groups.items c.new.result ∙ ap (λ (gs : List (List Feeder)). gs ++ c.new.result.items ∷ []) c.cubes.invariant
    ∙ groups-next c.cubes.count c.new.result.items c.new.ensures.items

pub index_mut-requires : goal.index_mut-requires
index_mut-requires c =
    let IsLow = λ (one : FoundFeeder). one.cube < c.args.cubes in
    let x = c.in-Some.one in
    let rest = into_iter_items c.next.new.self in
    let own = All-head IsLow x rest (All-same IsLow (x ∷ rest) (into_iter_items c.loop-one.one-iterator) (sym c.in-Some.ensures.steps.0) c.loop-one.invariant.left) in
    omega (arith, own, groups-long c.args.cubes c.loop-one.yielded c.loop-one.groups.items c.loop-one.invariant.groups)

pub loop-one-preserved : goal.loop-one-preserved
loop-one-preserved c =
    let IsLow = λ (one : FoundFeeder). one.cube < c.args.cubes in
    let x = c.in-Some.one in
    let rest = into_iter_items c.next.new.self in
    let all = All-same IsLow (x ∷ rest) (into_iter_items c.loop-one.one-iterator) (sym c.in-Some.ensures.steps.0) c.loop-one.invariant.left in
    let own = All-head IsLow x rest all in
    let groups = c.loop-one.groups.items in
    let low : x.cube < length groups = omega (arith, own, groups-long c.args.cubes c.loop-one.yielded groups c.loop-one.invariant.groups) in
    record {
      next = tt;
      finite = tt;
      groups = grouped-more c.args.cubes c.loop-one.yielded x (lists_in groups) (lists_in (set groups x.cube c.push-in-loop-one.new.self)) c.loop-one.invariant.groups own
          (items-set groups x.cube c.push-in-loop-one.new.self
          ∙ ap (λ (fs : List Feeder). set (lists_in groups) x.cube fs) (c.in_ok-push-2.ensures.items ∙ ap (λ (fs : List Feeder). fs ++ x.feeder ∷ []) (items-at groups x.cube c.index_mut.result.now low c.index_mut.ensures.value)));
      left = All-tail IsLow x rest all;
    }
