use Rattle.std.proofs.Common.{subst, ap}
use Rattle.std.proofs.lemmas.List.{take_all}
use Rattle.std.specs.List.{flat_map}
use Rattle.cube_lex.specs.Written.{Writes}
use Rattle.cube_lex.proofs.Spaced.{writes-more}
use Rattle.model_text.specs.Spelled.{script_spelled}
use Rattle.model_text.proofs.printing.write_scripts.Goals as goal

pub loop-script-preserved : goal.loop-script-preserved
loop-script-preserved c = writes-more script_spelled c.args.out.now.items c.loop-script.out.items c.write_script.new.out.items c.args.scripts.now c.loop-script.script-index c.script-item.result c.loop-script-test.true c.loop-script.invariant
    (subst (λ x. Writes c.loop-script.out.items c.write_script.new.out.items (script_spelled x)) c.script-item.is c.in_ok-write_script.ensures)

pub returns : goal.returns
returns c = subst (Writes c.args.out.now.items c.loop-script.out.items) (ap (flat_map script_spelled) (take_all c.loop-script.script-index c.args.scripts.now c.loop-script-test.false)) c.loop-script.invariant
