use Rattle.std.proofs.Common.{List, ◌++◌, drop}
use Rattle.cube_outside.specs.declared.files.Extent.{Extent}
use Rattle.file_passes.specs.Pass.{Source, files}
use Rattle.cube_words.specs.Words.{texts_of}
use Rattle.file_passes.proofs.readings.Readings.sources.Given as goal

-- the rest of the files were read, and they come behind those so far
abbrev pub invariant-loop-name : goal.invariant-loop-name
invariant-loop-name l = record {
  rest : (extent : Extent) × (all : List Source) × (files extent (texts_of (drop l.name-index l.names))).finds l.self all;
  behind : (extent : Extent) (more : List Source) → (files extent (texts_of (drop l.name-index l.names))).finds l.self more
      → (files extent (texts_of l.names)).finds l.self (l.all.items ++ more);
}
