use Rattle.std.proofs.Common.{refl}
use Rattle.cube_lex.specs.Quoted.{quoted}
use Rattle.cube_lex.specs.declared.token.Kind.TheVariants.{Text}
use Rattle.cube_lex.proofs.WrittenTexts.{added}
use Rattle.cube_lex.proofs.Spaced.{spaced}
use Rattle.cube_lex.proofs.written.write_quoted.Goals as goal

pub returns-else-is_err-clause-ok : goal.returns-else-is_err-clause-ok
returns-else-is_err-clause-ok c = added c.push_quoted-written.result c.args.out.now.items c.push_quoted-written.new.out.items Text (quoted c.args.bytes.now)
    (c.args.bytes.now, c.requires.plain, refl) c.requires.short c.push_quoted-written.ensures.ok

pub returns-else-is_err-clause-spaced : goal.returns-else-is_err-clause-spaced
returns-else-is_err-clause-spaced c = spaced c.push_quoted-written.result c.args.out.now.items c.push_quoted-written.new.out.items Text (quoted c.args.bytes.now)
    (c.args.bytes.now, c.requires.plain, refl) c.requires.short c.push_quoted-written.ensures.ok
