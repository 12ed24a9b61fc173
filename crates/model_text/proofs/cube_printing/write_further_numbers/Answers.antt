use Rattle.std.proofs.Common.{subst, ap}
use Rattle.std.proofs.lemmas.List.{take_all}
use Rattle.std.specs.List.{flat_map}
use Rattle.cube_lex.specs.Written.{Spaces}
use Rattle.cube_lex.proofs.Spaced.{spaces-more}
use Rattle.model_text.specs.Contents.{dimension_names}
use Rattle.model_text.specs.Spelled.{next_dimension_spelled}
use Rattle.model_text.proofs.cube_printing.write_further_numbers.Goals as goal

pub loop-number-preserved : goal.loop-number-preserved
loop-number-preserved c = spaces-more (next_dimension_spelled (dimension_names c.args.dims.now)) c.args.out.now.items c.loop-number.out.items c.write_number.new.out.items c.args.numbers.now c.loop-number.number-index _ c.loop-number-test.true c.loop-number.invariant c.in_ok-write_number.ensures

pub returns : goal.returns
returns c = subst (Spaces c.args.out.now.items c.loop-number.out.items) (ap (flat_map (next_dimension_spelled (dimension_names c.args.dims.now))) (take_all c.loop-number.number-index c.args.numbers.now c.loop-number-test.false)) c.loop-number.invariant
