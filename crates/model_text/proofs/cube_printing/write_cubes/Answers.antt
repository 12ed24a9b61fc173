use Rattle.std.proofs.Common.{subst, ap}
use Rattle.std.proofs.lemmas.List.{take_all}
use Rattle.std.specs.List.{flat_map}
use Rattle.cube_lex.specs.Written.{Writes}
use Rattle.cube_lex.proofs.Spaced.{writes-more}
use Rattle.model_text.specs.Contents.{dimension_names}
use Rattle.model_text.specs.Spelled.{cube_spelled}
use Rattle.model_text.proofs.cube_printing.write_cubes.Goals as goal

pub loop-cube-preserved : goal.loop-cube-preserved
loop-cube-preserved c = writes-more (cube_spelled (dimension_names c.args.dims.now)) c.args.out.now.items c.loop-cube.out.items c.write_cube.new.out.items c.args.cubes.now c.loop-cube.cube-index c.cube-item.result c.loop-cube-test.true c.loop-cube.invariant
    (subst (λ x. Writes c.loop-cube.out.items c.write_cube.new.out.items ((cube_spelled (dimension_names c.args.dims.now)) x)) c.cube-item.is c.in_ok-write_cube.ensures)

pub returns : goal.returns
returns c = subst (Writes c.args.out.now.items c.loop-cube.out.items) (ap (flat_map (cube_spelled (dimension_names c.args.dims.now))) (take_all c.loop-cube.cube-index c.args.cubes.now c.loop-cube-test.false)) c.loop-cube.invariant
