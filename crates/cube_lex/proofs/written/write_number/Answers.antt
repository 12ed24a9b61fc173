use Rattle.cube_lex.specs.declared.token.Kind.TheVariants.{Number}
use Rattle.cube_lex.proofs.WrittenTexts.{added}
use Rattle.cube_lex.proofs.Spaced.{spaced}
use Rattle.cube_lex.proofs.written.write_number.Goals as goal

pub returns-clause-ok : goal.returns-clause-ok
returns-clause-ok c = added c.write_spaced.result c.args.out.now.items c.write_spaced.new.out.items Number c.args.number.now c.requires.number c.requires.short c.write_spaced.ensures.ok

pub returns-clause-spaced : goal.returns-clause-spaced
returns-clause-spaced c = spaced c.write_spaced.result c.args.out.now.items c.write_spaced.new.out.items Number c.args.number.now c.requires.number c.requires.short c.write_spaced.ensures.ok
