use Rattle.std.proofs.Common.{subst, ap}
use Rattle.std.proofs.lemmas.List.{take_all}
use Rattle.std.specs.List.{flat_map}
use Rattle.cube_lex.specs.Written.{Spaces}
use Rattle.cube_lex.proofs.Spaced.{spaces-more}
use Rattle.model_text.specs.Spelled.{next_position_spelled}
use Rattle.model_text.proofs.order_printing.write_further_positions.Goals as goal

pub loop-position-preserved : goal.loop-position-preserved
loop-position-preserved c = spaces-more next_position_spelled c.args.out.now.items c.loop-position.out.items c.write_next_position.new.out.items c.args.positions.now c.loop-position.position-index c.position-item.result c.loop-position-test.true c.loop-position.invariant
    (subst (λ x. Spaces c.loop-position.out.items c.write_next_position.new.out.items (next_position_spelled x)) c.position-item.is c.in_ok-write_next_position.ensures)

pub returns : goal.returns
returns c = subst (Spaces c.args.out.now.items c.loop-position.out.items) (ap (flat_map next_position_spelled) (take_all c.loop-position.position-index c.args.positions.now c.loop-position-test.false)) c.loop-position.invariant
