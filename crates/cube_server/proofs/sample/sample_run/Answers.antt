use Rattle.std.proofs.Common.{◌∙◌, ap, map, refl, reverse, Some, rules}
use Rattle.cube_outside.specs.NamedBytes.{bytes_named}
use Rattle.cube_outside.specs.Seen.{Seen}
use Rattle.cube_outside.specs.declared.memory_files.MemoryFiles.{MemoryFiles}
use Rattle.cube_words.specs.Words.{texts_of}
use Rattle.file_passes.specs.Outside.{outside}
use Rattle.cube_server.proofs.SampleRuns.{sample-run}
use Rattle.cube_server.proofs.sample.sample_run.Goals as goal

-- what is seen of files in memory
abbrev seen : MemoryFiles → Seen
seen files = record {
  known = Some (bytes_named files.pairs.items);
  faults = files.count;
  missed = files.missed.items;
  asked = reverse (map (λ name. name.items) files.asked.items);
}

pub returns-in-Ok-Serve : goal.returns-in-Ok-Serve
returns-in-Ok-Serve c =
    let files = c.in_ok-files.files in
    let met = outside seen files c.run_passes.new.files in
    sample-run c.args.size files met (texts_of c.deref.result.now) c.new-readings.result c.run_passes.new.readings c.in-Ok-Serve.field-0 c.in-Ok-Serve.model c.in-Ok-Serve.users
    c.in_ok-files.ensures.pairs refl (ap texts_of c.deref.ensures.value ∙ c.in_ok-words.ensures) c.new-readings.ensures (search rules) c.in-Ok-Serve.ensures
