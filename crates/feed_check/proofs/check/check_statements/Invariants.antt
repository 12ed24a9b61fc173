use Rattle.std.proofs.Common.{All, take}
use Rattle.rule_laws.specs.Cover.{IsCoveredRule}
use Rattle.rule_model.specs.System.{system_of, cube_rules}
use Rattle.feed_cover.specs.Answers.{AreAnswers}
use Rattle.feed_check.proofs.check.check_statements.Given as goal

abbrev pub invariant-each : goal.invariant-each
invariant-each l = record {
  covered : All (IsCoveredRule (system_of l.model)) (take l.n (cube_rules l.model l.cube));
  answers : AreAnswers l.model l.cube l.answers;
}
