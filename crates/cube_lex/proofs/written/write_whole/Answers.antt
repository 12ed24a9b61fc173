use Rattle.std.proofs.Common.{◌≡◌, decimal, inl, arith, rules}
use Rattle.std.proofs.lemmas.Fmt.{length-decimal-le}
use Rattle.cube_lex.specs.declared.token.Kind.TheVariants.{Number}
use Rattle.cube_lex.proofs.Wholes.{decimal-is_digits}
use Rattle.cube_lex.proofs.WrittenTexts.{added}
use Rattle.cube_lex.proofs.Spaced.{spaced}
use Rattle.cube_lex.proofs.written.write_whole.Goals as goal

pub returns-clause-ok : goal.returns-clause-ok
returns-clause-ok c =
    let digits : c.as_bytes.result.now ≡ decimal c.args.number = search rules in
    added c.write_spaced.result c.args.out.now.items c.write_spaced.new.out.items Number (decimal c.args.number)
    (inl (decimal-is_digits c.args.number (omega arith))) (omega (arith, length-decimal-le 20 c.args.number (omega arith) (omega arith) (omega arith)))
    (rw digits at c.write_spaced.ensures.ok)

pub returns-clause-spaced : goal.returns-clause-spaced
returns-clause-spaced c =
    let digits : c.as_bytes.result.now ≡ decimal c.args.number = search rules in
    spaced c.write_spaced.result c.args.out.now.items c.write_spaced.new.out.items Number (decimal c.args.number)
    (inl (decimal-is_digits c.args.number (omega arith))) (omega (arith, length-decimal-le 20 c.args.number (omega arith) (omega arith) (omega arith)))
    (rw digits at c.write_spaced.ensures.ok)
