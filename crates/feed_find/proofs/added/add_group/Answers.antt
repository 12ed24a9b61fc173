use Rattle.std.proofs.Common.{rules, ◌≡◌, ◌<◌, ◌+◌, ◌++◌, ◌∷◌, [], ◌∙◌, List, length, sym, ap, arith, append_assoc}
use Rattle.std.specs.Vec.Iter.{into_iter_items}
use Rattle.std.proofs.lemmas.List.{length-append}
use Rattle.dim_core.proofs.BadAttributes.{taken_front}
use Rattle.rule_model.specs.declared.rules.Feeder.{Feeder}
use Rattle.feed_find.specs.Added.{numbered}
use Rattle.feed_find.proofs.Adding.{numbered-more}
use Rattle.feed_find.proofs.added.add_group.Goals as goal

pub overflow_add-number : goal.overflow_add-number
overflow_add-number c =
    let before = c.loop-feeder.yielded in
    let x = c.in-Some.feeder in
    let rest = into_iter_items c.next.new.self in
    let parts : c.args.group.items ≡ before ++ x ∷ rest =
    sym c.into_iter-feeder-iterator.ensures.into_iter_gives.0 ∙ taken_front c.into_iter-feeder-iterator.result before c.loop-feeder.feeder-iterator c.loop-feeder.yielded_by ∙ ap (λ l. before ++ l) c.in-Some.ensures.steps.0 in
    let low : c.loop-feeder.number + 1 < 4294967296 = omega (arith, c.requires, c.loop-feeder.invariant.number, ap length parts, length-append before (x ∷ rest)) in
    search rules

pub loop-feeder-preserved : goal.loop-feeder-preserved
loop-feeder-preserved c =
    let before = c.loop-feeder.yielded in
    let x = c.in-Some.feeder in
    let own = c.args.feeders.now.items in
    let first = c.args.first in
    record {
      next = tt;
      finite = tt;
      number = omega (arith, c.loop-feeder.invariant.number, length-append before (x ∷ []));
      added =
          c.in_ok-add_numbered.ensures ∙ ap (λ (fs : List Feeder). fs ++ numbered c.loop-feeder.number (x ∷ [])) c.loop-feeder.invariant.added
          ∙ append_assoc own (numbered first before) (numbered c.loop-feeder.number (x ∷ []))
          ∙ ap (λ (fs : List Feeder). own ++ fs) (ap (λ n. numbered first before ++ numbered n (x ∷ [])) c.loop-feeder.invariant.number ∙ sym (numbered-more first before x));
    }
