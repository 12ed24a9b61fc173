use Rattle.std.proofs.Common.{drop}
use Rattle.judged_files.proofs.ScriptFacts.{AreParsed}
use Rattle.judged_files.proofs.scripts.scripts_of.Given as goal

-- the scripts so far were read
abbrev pub invariant-loop-source : goal.invariant-loop-source
invariant-loop-source l = AreParsed l.sources (drop l.source-index l.sources) l.all.items
