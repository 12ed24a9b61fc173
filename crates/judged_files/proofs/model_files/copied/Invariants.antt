use Rattle.std.proofs.Common.{◌≡◌, ◌++◌, drop}
use Rattle.judged_files.proofs.model_files.copied.Given as goal

-- the copies so far, and then the texts that are left
abbrev pub invariant-loop-text : goal.invariant-loop-text
invariant-loop-text l = l.copies.items ++ drop l.text-index l.texts ≡ l.texts
