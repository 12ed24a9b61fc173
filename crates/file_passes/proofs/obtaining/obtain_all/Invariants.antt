use Rattle.std.proofs.Common.{◌≡◌, drop}
use Rattle.file_passes.specs.Inside.Steps.{CarriesOn}
use Rattle.cube_words.specs.Words.{texts_of}
use Rattle.file_passes.proofs.obtaining.obtain_all.Given as goal

-- the files so far were read
abbrev pub invariant-loop-name : goal.invariant-loop-name
invariant-loop-name g l = record {
  known : (g.F.Files.seen l.files).known ≡ (g.F.Files.seen l.fn.files).known;
  on : CarriesOn g.F.Files.seen l.extent (texts_of l.names) l.fn.files l.fn.readings
      (texts_of (drop l.name-index l.names)) l.files l.readings;
}
