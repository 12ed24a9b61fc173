use Rattle.std.proofs.Common.{◌≡◌, [], take, drop}
use Rattle.bind_order.specs.Ranks.{listed_ranks, are_listed}
use Rattle.bind_order.proofs.listed.listed_ranks.Given as goal

abbrev pub invariant-loop-entry : goal.invariant-loop-entry
invariant-loop-entry l = record {
  given : l.given.items ≡ listed_ranks l.dimension (take l.entry-index l.list);
  listed : are_listed l.dimension l.totals (take l.entry-index l.list) (drop l.entry-index l.list) ≡ are_listed l.dimension l.totals [] l.list;
}
