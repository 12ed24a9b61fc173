use Rattle.std.proofs.Common.{List, [], ◌∷◌, ◌++◌, codes}
use Rattle.cube_lex.specs.Written.{Spelling}
use Rattle.cube_lex.proofs.Adding.{then_writes}
use Rattle.cube_lex.specs.Written.{sign_token}
use Rattle.model_text.specs.Spelled.{rules_spelled, order_spelled, ending_spelled}
use Rattle.model_text.proofs.cube_printing.write_end.Goals as goal

pub returns : goal.returns
returns c =
    let front : List Spelling = sign_token (codes ")") ∷ sign_token (codes ";") ∷ [] in
    let rules : List Spelling = rules_spelled c.args.rules.now in
    let order : List Spelling = order_spelled c.args.order.now in
    then_writes c.write_line-2.result c.args.out.now.items c.write_line.new.out.items c.write_line-2.new.out.items front (rules ++ (order ++ ending_spelled)) c.in_ok-write_line.ensures.ok
    (then_writes c.write_line-2.result c.write_line.new.out.items c.write_rules.new.out.items c.write_line-2.new.out.items rules (order ++ ending_spelled) c.in_ok-write_rules.ensures
    (then_writes c.write_line-2.result c.write_rules.new.out.items c.write_order.new.out.items c.write_line-2.new.out.items order ending_spelled c.in_ok-write_order.ensures c.write_line-2.ensures.ok))
