use Rattle.std.proofs.Common.{◌≡◌}
use Rattle.script_reader.specs.Readers.TextReading.{gathered, gathered_from}
use Rattle.script_reader.proofs.section.gathered.Given as goal

-- what is gathered so far, and then what the pieces that are left add to it
abbrev pub invariant-loop-piece : goal.invariant-loop-piece
invariant-loop-piece l = gathered_from l.prolog.items l.body.items l.epilog.items l.section l.piece-iterator.rest.items ≡ gathered l.fn.pieces.items
