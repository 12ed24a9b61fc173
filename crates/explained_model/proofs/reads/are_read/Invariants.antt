use Rattle.std.proofs.Common.{take, All}
use Rattle.std.specs.Prelude.{IsSome}
use Rattle.cube_words.specs.Words.{texts_of}
use Rattle.file_passes.specs.Pass.{bytes_of}
use Rattle.explained_model.proofs.reads.are_read.Given as goal

abbrev pub invariant-loop-name : goal.invariant-loop-name
invariant-loop-name l = All (λ name. IsSome (bytes_of l.readings name)) (texts_of (take l.name-index l.names))
