use Rattle.std.proofs.Common.{◌≡◌, ◌∷◌, [], ◌++◌, List, subst, sym, refl}
use Rattle.std.proofs.lemmas.Result.{IfOk-weaker}
use Rattle.lists.specs.Keys.{insert_key}
use Rattle.feed_find.specs.declared.chosen.Chosen.{Chosen}
use Rattle.feed_find.specs.Found.{Picked, same_found}
use Rattle.feed_find.specs.Views.{AreGathered, as_picked}
use Rattle.feed_find.proofs.Gathering.{gathered-feeder, gathered-unturned}
use Rattle.feed_find.proofs.gathered.add_chosen.Goals as goal

pub returns-in-Found-clause-added : goal.returns-in-Found-clause-added
returns-in-Found-clause-added c =
    let old = c.args.gathered.now in
    let new = record old { feeders = c.insert.new.self } in
    IfOk-weaker c.insert.result (λ _. c.insert.new.self ≡ insert_key same_found old.feeders c.in-Found.feeder)
    (λ _. (picked : List Picked) → AreGathered picked old → AreGathered (picked ++ as_picked c.args.cube c.args.statement c.args.chosen ∷ []) new)
    (λ _ added picked so. subst (λ (chosen : Chosen). AreGathered (picked ++ as_picked c.args.cube c.args.statement chosen ∷ []) new) (sym c.in-Found.is)
    (gathered-feeder picked c.args.cube c.args.statement c.in-Found.feeder old new so added refl))
    c.insert.ensures.added

pub returns-in_ok-push-in-Unturned-clause-added : goal.returns-in_ok-push-in-Unturned-clause-added
returns-in_ok-push-in-Unturned-clause-added c = λ picked so.
    let old = c.args.gathered.now in
    let new = record old { unturned = c.push.new.self } in
    subst (λ (chosen : Chosen). AreGathered (picked ++ as_picked c.args.cube c.args.statement chosen ∷ []) new) (sym c.in-Unturned.is)
    (gathered-unturned picked c.args.cube c.args.statement c.in-Unturned.reference old new so refl c.in_ok-push-in-Unturned.ensures.items)
