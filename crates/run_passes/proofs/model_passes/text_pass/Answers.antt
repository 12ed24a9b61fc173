use Rattle.judged_files.specs.Models.{text_judgement}
use Rattle.file_passes.specs.Outside.{outside}
use Rattle.file_passes.specs.Pass.{file, judged}
use Rattle.file_passes.proofs.Coming.{comes-stopped, comes-judged}
use Rattle.run_passes.specs.RefusalOrder.{as_text}
use Rattle.run_passes.proofs.model_passes.text_pass.Goals as goal

pub returns-in-Err-clause-comes : goal.returns-in-Err-clause-comes
returns-in-Err-clause-comes g c =
    comes-stopped (file as_text c.args.name.now) (λ source. judged (text_judgement source))
    (outside g.F.Files.seen c.args.files.now c.obtain.new.files)
    c.args.readings.now c.obtain.new.readings c.in-Err.halt c.in-Err.ensures.through

pub returns-clause-comes : goal.returns-clause-comes
returns-clause-comes g c =
    comes-judged (file as_text c.args.name.now) text_judgement
    (outside g.F.Files.seen c.args.files.now c.obtain.new.files)
    c.args.readings.now c.obtain.new.readings c.source.result c.text_of.result c.in_default.ensures.through.0 (c.source.ensures as_text) c.text_of.ensures
