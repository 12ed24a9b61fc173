use Rattle.std.proofs.Common.{List, [], ◌∷◌, codes, sym, ap, arith}
use Rattle.cube_lex.proofs.Spaced.{spaces-both, then_line}
use Rattle.cube_lex.specs.Written.{Spelling, sign_token, word_token}
use Rattle.rule_printer.proofs.WrittenParts.{writes_same}
use Rattle.rule_printer.specs.Spelled.{skipcheck_spelled}
use Rattle.rule_printer.proofs.printing.write_skipcheck.Goals as goal

pub returns-in_ok-write_sign : goal.returns-in_ok-write_sign
returns-in_ok-write_sign c =
    let tokens : List Spelling = word_token (codes "SKIPCHECK") ∷ sign_token (codes ";") ∷ [] in
    writes_same c.write_line_end.result c.args.out.now.items c.write_line_end.new.out.items tokens (skipcheck_spelled c.args.skipcheck) (ap skipcheck_spelled (sym c.if-skipcheck.true))
    (then_line c.write_line_end.result c.args.out.now.items c.write_sign.new.out.items c.write_line_end.new.out.items tokens (omega arith)
    (spaces-both c.args.out.now.items c.write_word.new.out.items c.write_sign.new.out.items (word_token (codes "SKIPCHECK") ∷ []) (sign_token (codes ";") ∷ []) c.in_ok-write_word.ensures.spaced c.in_ok-write_sign.ensures.spaced)
    c.write_line_end.ensures.byte)
