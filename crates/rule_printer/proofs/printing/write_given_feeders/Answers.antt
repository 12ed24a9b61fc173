use Rattle.std.proofs.Common.{List, [], ◌∷◌, ◌++◌, codes, ap, append_assoc, arith}
use Rattle.std.specs.List.{flat_map}
use Rattle.cube_lex.proofs.Spaced.{spaces-both, spaces-line}
use Rattle.cube_lex.specs.Written.{Spelling, Spaces, Writes, sign_token, word_token}
use Rattle.rule_printer.proofs.WrittenParts.{then_writes, writes_same}
use Rattle.rule_printer.specs.Spelled.{feeder_spelled, automatic_spelled, given_feeders_spelled}
use Rattle.rule_printer.proofs.printing.write_given_feeders.Goals as goal

pub returns : goal.returns
returns c =
    let each : List Spelling = flat_map feeder_spelled c.args.feeders.now in
    let automatic : List Spelling = automatic_spelled c.args.finds in
    let semicolon : List Spelling = sign_token (codes ";") ∷ [] in
    let head : List Spelling = word_token (codes "FEEDERS") ∷ (automatic ++ semicolon) in
    let words : Spaces c.args.out.now.items c.write_automatic.new.out.items (word_token (codes "FEEDERS") ∷ automatic) =
    spaces-both c.args.out.now.items c.write_word.new.out.items c.write_automatic.new.out.items (word_token (codes "FEEDERS") ∷ []) automatic
    c.in_ok-write_word.ensures.spaced c.in_ok-write_automatic.ensures in
    let all : Spaces c.args.out.now.items c.write_sign.new.out.items head =
    spaces-both c.args.out.now.items c.write_automatic.new.out.items c.write_sign.new.out.items (word_token (codes "FEEDERS") ∷ automatic) semicolon words c.in_ok-write_sign.ensures.spaced in
    let line : Writes c.args.out.now.items c.write_line_end.new.out.items head =
    spaces-line c.args.out.now.items c.write_sign.new.out.items c.write_line_end.new.out.items head (omega arith) all c.in_ok-write_line_end.ensures.byte in
    writes_same c.write_each_feeder.result c.args.out.now.items c.write_each_feeder.new.out.items (head ++ each) (given_feeders_spelled c.args.finds c.args.feeders.now)
    (ap (λ l. word_token (codes "FEEDERS") ∷ l) (append_assoc automatic semicolon each))
    (then_writes c.write_each_feeder.result c.args.out.now.items c.write_line_end.new.out.items c.write_each_feeder.new.out.items head each line c.write_each_feeder.ensures)
