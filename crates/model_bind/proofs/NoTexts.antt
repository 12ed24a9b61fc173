-- A cube without a rule file is within the limits of rule texts.
use Rattle.std.proofs.Common.{arith}
use Rattle.rule_tree.specs.Sizes.{IsWithinLimits}
use Rattle.model_bind.specs.Rules.{no_text}

pub no_text_within : IsWithinLimits no_text
no_text_within = record { statements = omega arith; feeders = omega arith; nodes = omega arith; targets = omega arith }
