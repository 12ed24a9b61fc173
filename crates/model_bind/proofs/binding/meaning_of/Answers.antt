use Rattle.rule_bind.specs.Rules.{rules_of}
use Rattle.model_bind.specs.Rules.{file_name}
use Rattle.model_bind.proofs.InStages.{without-meaning}
use Rattle.model_bind.proofs.binding.meaning_of.Goals as goal

pub returns-in-Err-clause-comes : goal.returns-in-Err-clause-comes
returns-in-Err-clause-comes c =
    without-meaning (file_name c.args.files.now c.args.cube) (rules_of c.args.space.now c.args.cube c.args.text.now) c.in-Err.fault c.meaning_fault.result c.in-Err.ensures.bound c.meaning_fault.ensures.memory c.meaning_fault.ensures.told
