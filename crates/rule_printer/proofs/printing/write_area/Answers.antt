use Rattle.std.proofs.Common.{[], ◌∷◌, ◌++◌, codes}
use Rattle.cube_lex.specs.Written.{sign_token}
use Rattle.rule_printer.proofs.WrittenParts.{then_adds}
use Rattle.rule_printer.specs.Spelled.{listed_spelled, entry_spelled}
use Rattle.rule_printer.proofs.printing.write_area.Goals as goal

pub returns : goal.returns
returns c =
    then_adds c.write_sign-2.result c.args.out.now.items c.write_sign.new.out.items c.write_sign-2.new.out.items (sign_token (codes "[") ∷ []) (listed_spelled entry_spelled c.args.entries.now ++ sign_token (codes "]") ∷ []) c.in_ok-write_sign.ensures.spaced
    (then_adds c.write_sign-2.result c.write_sign.new.out.items c.write_entries.new.out.items c.write_sign-2.new.out.items (listed_spelled entry_spelled c.args.entries.now) (sign_token (codes "]") ∷ []) c.in_ok-write_entries.ensures c.write_sign-2.ensures.spaced)
