use Rattle.file_passes.specs.Outside.{outside}
use Rattle.cube_words.specs.Words.{texts_of}
use Rattle.cube_server.proofs.EndFacts.{Allows-result, Allows-done, asks-result, asks-done}
use Rattle.cube_server.proofs.answer.answer_of.Goals as goal

pub returns-in-Ok-clause-allowed : goal.returns-in-Ok-clause-allowed
returns-in-Ok-clause-allowed g c =
    Allows-done c.done.result (texts_of c.args.words.now)
    (outside g.F.Files.seen c.args.files.now c.run_passes.new.files)
    c.new-readings.result c.run_passes.new.readings c.in-Ok.job c.new-readings.ensures c.in-Ok.ensures c.done.ensures.status c.done.ensures.text

pub returns-in-Ok-clause-asked : goal.returns-in-Ok-clause-asked
returns-in-Ok-clause-asked g c =
    asks-done c.done.result (texts_of c.args.words.now)
    (outside g.F.Files.seen c.args.files.now c.run_passes.new.files)
    c.new-readings.result c.run_passes.new.readings c.in-Ok.job c.new-readings.ensures c.in-Ok.ensures

pub returns-in-Err-clause-allowed : goal.returns-in-Err-clause-allowed
returns-in-Err-clause-allowed g c =
    Allows-result c.halted.result (texts_of c.args.words.now)
    (outside g.F.Files.seen c.args.files.now c.run_passes.new.files)
    c.new-readings.result c.run_passes.new.readings c.in-Err.halt c.missed.result.now c.new-readings.ensures c.in-Err.ensures c.missed.ensures c.halted.ensures

pub returns-in-Err-clause-asked : goal.returns-in-Err-clause-asked
returns-in-Err-clause-asked g c =
    asks-result c.halted.result (texts_of c.args.words.now)
    (outside g.F.Files.seen c.args.files.now c.run_passes.new.files)
    c.new-readings.result c.run_passes.new.readings c.in-Err.halt c.new-readings.ensures c.in-Err.ensures
