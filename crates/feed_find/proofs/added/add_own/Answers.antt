use Rattle.std.proofs.Common.{◌≡◌, ap, ◌∙◌, List, [], set, Result, Ok, Err, OnOk}
use Rattle.rule_model.specs.declared.rules.Feeder.{Feeder}
use Rattle.feed_find.specs.Views.{lists_in}
use Rattle.feed_find.proofs.Adding.{items-set}
use Rattle.feed_find.proofs.added.add_own.Goals as goal

anyway : {A E : Type 0} (P : Type 0) (r : Result A E) → P → OnOk r P
anyway P (Ok a) p = p
anyway P (Err e) p = tt

pub returns-clause-groups : goal.returns-clause-groups
returns-clause-groups c =
    let groups = c.args.groups.now in
    anyway (lists_in (set groups c.args.cube c.replace-group.new.dest) ≡ set (lists_in groups) c.args.cube []) c.with_feeders.result
    (items-set groups c.args.cube c.replace-group.new.dest ∙ ap (λ (fs : List Feeder). set (lists_in groups) c.args.cube fs) (ap (λ g. g.items) c.replace-group.ensures.after ∙ c.new.ensures.items))
