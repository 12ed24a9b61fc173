use Rattle.std.proofs.Common.{◌-◌, length, take, drop, get_or, refl, subst}
use Rattle.std.specs.List.{flat_map}
use Rattle.cube_lex.specs.Written.{Spaces}
use Rattle.cube_lex.proofs.Adding.{spaces_same, then_spaces}
use Rattle.model_text.proofs.Adding.{first_and_rest}
use Rattle.model_text.specs.Spelled.{position_spelled, next_position_spelled, positions_spelled}
use Rattle.model_text.proofs.order_printing.write_positions.Goals as goal

pub returns : goal.returns
returns c =
    spaces_same c.write_further_positions.result c.args.out.now.items c.write_further_positions.new.out.items _ (positions_spelled c.args.positions.now)
    (first_and_rest position_spelled next_position_spelled positions_spelled (λ x rest. refl) c.args.positions.now c.first-item.result c.in-len1-up.len_at_least)
    (then_spaces c.write_further_positions.result c.args.out.now.items c.write_position.new.out.items c.write_further_positions.new.out.items
    (position_spelled (get_or c.args.positions.now 0 c.first-item.result)) (flat_map next_position_spelled (take (length c.args.positions.now - 1) (drop 1 c.args.positions.now)))
    (subst (λ x. Spaces c.args.out.now.items c.write_position.new.out.items (position_spelled x)) c.first-item.is c.in_ok-write_position.ensures)
    c.write_further_positions.ensures)
