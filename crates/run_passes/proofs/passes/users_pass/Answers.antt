use Rattle.std.proofs.Common.{subst, inl}
use Rattle.judged_files.specs.Users.{users_judgement}
use Rattle.file_passes.specs.Outside.{outside}
use Rattle.file_passes.specs.Pass.{files, judged}
use Rattle.cube_words.specs.Words.{texts_of}
use Rattle.file_passes.specs.Halting.{Judges}
use Rattle.file_passes.proofs.Going.{on-later}
use Rattle.file_passes.proofs.Coming.{comes-stopped, comes-judged}
use Rattle.run_passes.specs.RefusalOrder.{as_text}
use Rattle.run_passes.proofs.passes.users_pass.Goals as goal

pub returns-in-Err-clause-comes : goal.returns-in-Err-clause-comes
returns-in-Err-clause-comes g c =
    comes-stopped (files as_text (texts_of c.args.names.now)) (λ sources. judged (users_judgement c.args.scripts.now sources))
    (outside g.F.Files.seen c.args.files.now c.obtain_all.new.files)
    c.args.readings.now c.obtain_all.new.readings c.in-Err.halt c.in-Err.ensures.through

pub returns-in-Ok-clause-comes : goal.returns-in-Ok-clause-comes
returns-in-Ok-clause-comes g c =
    let judges = subst (λ s. Judges (users_judgement c.args.scripts.now s) c.users_of.result) c.deref.ensures.value c.users_of.ensures in
    comes-judged (files as_text (texts_of c.args.names.now)) (users_judgement c.args.scripts.now)
    (outside g.F.Files.seen c.args.files.now c.obtain_all.new.files)
    c.args.readings.now c.obtain_all.new.readings c.in-Ok.sources.items c.users_of.result c.in_default.ensures.through.0 (c.in-Ok.ensures as_text) judges

pub returns-in-Err-sources-clause-comes : goal.returns-in-Err-sources-clause-comes
returns-in-Err-sources-clause-comes g c = (
  on-later (files as_text (texts_of c.args.names.now)) (λ sources. judged (users_judgement c.args.scripts.now sources)) (g.F.Files.seen c.args.files.now).known
      c.args.readings.now c.obtain_all.new.readings c.in_default.ensures.through.0.0,
  inl c.in_default.ensures.through.0.2,
)
