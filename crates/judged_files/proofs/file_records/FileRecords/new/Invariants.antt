use Rattle.std.proofs.Common.{◌≡◌, ◌++◌, drop}
use Rattle.judged_files.specs.Inside.Kept.{names_of}
use Rattle.judged_files.proofs.file_records.FileRecords.new.Given as goal

-- the names so far, and then those of the files that are left
abbrev pub invariant-loop-source : goal.invariant-loop-source
invariant-loop-source l = l.names ++ names_of (drop l.source-index l.sources) ≡ names_of l.sources
