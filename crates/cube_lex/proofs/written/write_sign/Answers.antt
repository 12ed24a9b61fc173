use Rattle.cube_lex.specs.declared.token.Kind.TheVariants.{Sign}
use Rattle.cube_lex.proofs.WrittenTexts.{added, sign-tested}
use Rattle.cube_lex.proofs.Spaced.{spaced}
use Rattle.cube_lex.proofs.written.write_sign.Goals as goal

pub returns-clause-ok : goal.returns-clause-ok
returns-clause-ok c =
    let sign = sign-tested c.args.sign.now c.requires in
    added c.write_spaced.result c.args.out.now.items c.write_spaced.new.out.items Sign c.args.sign.now sign.0 sign.1 c.write_spaced.ensures.ok

pub returns-clause-spaced : goal.returns-clause-spaced
returns-clause-spaced c =
    let sign = sign-tested c.args.sign.now c.requires in
    spaced c.write_spaced.result c.args.out.now.items c.write_spaced.new.out.items Sign c.args.sign.now sign.0 sign.1 c.write_spaced.ensures.ok
