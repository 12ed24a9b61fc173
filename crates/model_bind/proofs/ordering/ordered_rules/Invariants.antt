use Rattle.std.proofs.Common.{◌≡◌, length}
use Rattle.model_bind.specs.Rules.{order_stage}
use Rattle.model_bind.proofs.CubeRules.{AreFirst}
use Rattle.model_bind.proofs.Stages.{AreFound}
use Rattle.model_bind.proofs.ordering.ordered_rules.Given as goal

-- the rules so far have their order
abbrev pub invariant-loop-rules : goal.invariant-loop-rules
invariant-loop-rules l = record {
  next : (goal.iterator-loop-rules).can_next l.rules-iterator;
  finite : (goal.iterator-loop-rules).is_finite l.rules-iterator;
  place : l.cube ≡ length l.yielded;
  found : AreFound (order_stage l.found.space l.found.orders) 0 l.yielded l.ordered.items;
  rules : AreFirst l.found.space l.ordered.items l.cube;
}
