use Rattle.std.proofs.Common.{◌∷◌, [], ◌++◌, map, sym}
use Rattle.std.specs.Vec.Iter.{into_iter_items}
use Rattle.std.proofs.lemmas.List.Elements.{All-head, All-tail, All-same}
use Rattle.feed_find.specs.Views.{IsChosen, as_picked}
use Rattle.feed_find.proofs.Gathering.{gathered-same, picked-more}
use Rattle.feed_find.proofs.gathered.add_all.Goals as goal

pub add_chosen-requires-clause-chosen : goal.add_chosen-requires-clause-chosen
add_chosen-requires-clause-chosen c =
    let P = IsChosen c.args.space.now in
    let rest = into_iter_items c.next.new.self in
    All-head P c.in-Some.one rest (All-same P (c.in-Some.one ∷ rest) (into_iter_items c.loop-one.one-iterator) (sym c.in-Some.ensures.steps.0) c.loop-one.invariant.left)

pub loop-one-preserved : goal.loop-one-preserved
loop-one-preserved c =
    let P = IsChosen c.args.space.now in
    let x = c.in-Some.one in
    let rest = into_iter_items c.next.new.self in
    let to = as_picked c.args.cube c.args.statement in
    let before = c.loop-one.yielded in
    record {
      next = tt;
      finite = tt;
      added = λ picked so.
          gathered-same ((picked ++ map to before) ++ to x ∷ []) (picked ++ map to (before ++ x ∷ [])) c.add_chosen.new.gathered (picked-more to picked before x)
          (c.in_ok-add_chosen.ensures.added (picked ++ map to before) (c.loop-one.invariant.added picked so));
      valid = c.in_ok-add_chosen.ensures.valid;
      left = All-tail P x rest (All-same P (x ∷ rest) (into_iter_items c.loop-one.one-iterator) (sym c.in-Some.ensures.steps.0) c.loop-one.invariant.left);
    }
