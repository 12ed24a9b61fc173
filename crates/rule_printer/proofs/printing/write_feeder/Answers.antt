use Rattle.std.proofs.Common.{List, [], ◌∷◌, ◌++◌, codes, subst, arith}
use Rattle.cube_lex.proofs.Spaced.{spaces-both, then_line}
use Rattle.cube_lex.specs.Written.{Spelling, Spaces, sign_token}
use Rattle.rule_printer.specs.Spelled.{area_spelled, listed_spelled, target_spelled, feeder_spelled}
use Rattle.rule_printer.proofs.printing.write_feeder.Goals as goal

pub returns : goal.returns
returns c =
    let cells : List Spelling = area_spelled c.args.feeder.now.area in
    let fed : List Spelling = listed_spelled target_spelled c.args.feeder.now.targets in
    let end : List Spelling = sign_token (codes ";") ∷ [] in
    let first : Spaces c.args.out.now.items c.write_area.new.out.items cells = subst (λ l. Spaces c.args.out.now.items c.write_area.new.out.items (area_spelled l)) c.as_slice.ensures c.in_ok-write_area.ensures in
    let last : Spaces c.write_sign.new.out.items c.write_targets.new.out.items fed =
    subst (λ l. Spaces c.write_sign.new.out.items c.write_targets.new.out.items (listed_spelled target_spelled l)) c.as_slice-2.ensures c.in_ok-write_targets.ensures in
    let behind : Spaces c.write_area.new.out.items c.write_sign-2.new.out.items (sign_token (codes "=>") ∷ (fed ++ end)) =
    spaces-both c.write_area.new.out.items c.write_sign.new.out.items c.write_sign-2.new.out.items (sign_token (codes "=>") ∷ []) (fed ++ end) c.in_ok-write_sign.ensures.spaced
    (spaces-both c.write_sign.new.out.items c.write_targets.new.out.items c.write_sign-2.new.out.items fed end last c.in_ok-write_sign-2.ensures.spaced) in
    then_line c.write_line_end.result c.args.out.now.items c.write_sign-2.new.out.items c.write_line_end.new.out.items (feeder_spelled c.args.feeder.now) (omega arith)
    (spaces-both c.args.out.now.items c.write_area.new.out.items c.write_sign-2.new.out.items cells (sign_token (codes "=>") ∷ (fed ++ end)) first behind) c.write_line_end.ensures.byte
