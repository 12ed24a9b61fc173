use Rattle.std.proofs.Common.{[], ◌∷◌, ◌++◌, codes}
use Rattle.cube_lex.specs.Written.{sign_token}
use Rattle.rule_printer.proofs.WrittenParts.{then_adds}
use Rattle.rule_printer.specs.Spelled.{listed_spelled, simple_spelled}
use Rattle.rule_printer.proofs.parts.write_bracket.Goals as goal

pub returns : goal.returns
returns c =
    then_adds c.write_sign-2.result c.args.out.now.items c.write_sign.new.out.items c.write_sign-2.new.out.items (sign_token (codes "[") ∷ []) (listed_spelled simple_spelled c.args.simples.now ++ sign_token (codes "]") ∷ []) c.in_ok-write_sign.ensures.spaced
    (then_adds c.write_sign-2.result c.write_sign.new.out.items c.write_simples.new.out.items c.write_sign-2.new.out.items (listed_spelled simple_spelled c.args.simples.now) (sign_token (codes "]") ∷ []) c.in_ok-write_simples.ensures c.write_sign-2.ensures.spaced)
