-- Of the cells so far those that a kept cell feeds were found.
use Rattle.std.proofs.Common.{take}
use Rattle.feed_map.specs.Inside.Gains.{Gains}
use Rattle.feed_map.specs.Inside.Risks.{IsAgain}
use Rattle.feed_map.proofs.risk.add_again.Given as goal

abbrev pub invariant-each : goal.invariant-each
invariant-each l = Gains (IsAgain l.model l.kept (take l.place l.risk)) l.fn.growth l.growth
