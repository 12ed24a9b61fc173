use Rattle.std.proofs.Common.{subst}
use Rattle.operand_cover.specs.Cover.{AddsFeederOf}
use Rattle.operand_cover.proofs.lines.feeder_lines.Goals as goal

pub returns : goal.returns
returns c =
    subst (λ old. AddsFeederOf c.args.space.now c.args.cube c.args.feeder.now old c.push_feeder.new.lines.items) c.in_ok-lines.ensures c.in_ok-push_feeder.ensures
