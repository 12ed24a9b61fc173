use Rattle.script_laws.proofs.Rejects.{leaves_nothing}
use Rattle.script_laws.proofs.laws.a_record_that_is_passed_over_leaves_nothing.Goals as goal

pub returns : goal.returns
returns c decimal most row body store columns rows before stopped writes more reason stops lies few =
    leaves_nothing decimal most row body store columns rows before stopped writes more reason stops lies few
