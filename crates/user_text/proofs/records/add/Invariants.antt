use Rattle.std.proofs.Common.{◌≡◌, ◌++◌, take}
use Rattle.csv.specs.Records.{fields_of}
use Rattle.user_text.proofs.records.add.Given as goal

abbrev pub invariant-loop-column : goal.invariant-loop-column
invariant-loop-column l = (l.column-iterator.row.now ≡ l.fn.taken)
    × (l.columns ≡ l.fn.columns ++ take l.column-iterator.at (fields_of l.fn.taken))
