use Rattle.std.proofs.Common.{List, [], ◌∷◌, codes, subst, arith}
use Rattle.cube_lex.proofs.Spaced.{spaces-both, then_line}
use Rattle.cube_lex.specs.Written.{Spelling, Spaces, sign_token}
use Rattle.rule_printer.specs.Spelled.{area_spelled, body_spelled, statement_spelled}
use Rattle.rule_printer.proofs.printing.write_statement.Goals as goal

pub returns : goal.returns
returns c =
    let cells : List Spelling = area_spelled c.args.statement.now.area in
    let given : List Spelling = body_spelled c.args.statement.now.body in
    let first : Spaces c.args.out.now.items c.write_area.new.out.items cells = subst (λ l. Spaces c.args.out.now.items c.write_area.new.out.items (area_spelled l)) c.as_slice.ensures c.in_ok-write_area.ensures in
    let behind : Spaces c.write_area.new.out.items c.write_body.new.out.items (sign_token (codes "=") ∷ given) =
    spaces-both c.write_area.new.out.items c.write_sign.new.out.items c.write_body.new.out.items (sign_token (codes "=") ∷ []) given c.in_ok-write_sign.ensures.spaced c.in_ok-write_body.ensures in
    then_line c.write_line_end.result c.args.out.now.items c.write_body.new.out.items c.write_line_end.new.out.items (statement_spelled c.args.statement.now) (omega arith)
    (spaces-both c.args.out.now.items c.write_area.new.out.items c.write_body.new.out.items cells (sign_token (codes "=") ∷ given) first behind) c.write_line_end.ensures.byte
