use Rattle.std.proofs.Common.{◌≡◌, ◌∙◌, ap, sym, subst, All, Ok, Err, inl}
use Rattle.cube_outside.specs.declared.files.Extent.TheVariants.{Whole}
use Rattle.cube_words.specs.Words.{texts_of}
use Rattle.file_passes.specs.Halting.{ComesThrough, Judges}
use Rattle.file_passes.specs.Outside.{outside}
use Rattle.file_passes.specs.Pass.{files, judged}
use Rattle.file_passes.specs.Reading.{Goes}
use Rattle.file_passes.proofs.Coming.{comes-stopped, comes-judged}
use Rattle.file_passes.proofs.Going.{on-refl, on-later}
use Rattle.judged_files.specs.Loads.{AreReady, record_files, commands_judgement}
use Rattle.judged_files.proofs.ReadyFacts.{all-ready}
use Rattle.run_passes.specs.RefusalOrder.{records_pass}
use Rattle.run_passes.proofs.passes.records_pass.Goals as goal

pub commands_of-requires : goal.commands_of-requires
commands_of-requires g c =
    let again : texts_of c.deref-2.result.now ≡ record_files c.args.users = ap texts_of c.deref-2.ensures.value ∙ c.in-Ok.ensures ∙ ap record_files c.as_slice.ensures in
    let read = subst (λ l. (files Whole l).finds c.obtain_all.new.readings c.in-Ok-sources.sources.items) again (c.in-Ok-sources.ensures Whole) in
    subst (λ s. All (AreReady c.args.model_files.now s) c.args.users) (sym c.deref-3.ensures.value)
    (all-ready c.args.model_files.now c.in-Ok-sources.sources.items Whole c.obtain_all.new.readings c.args.users c.requires read)

pub returns-in-Err-clause-comes : goal.returns-in-Err-clause-comes
returns-in-Err-clause-comes g c = (on-refl (records_pass c.args.model_files.now c.args.users) (g.F.Files.seen c.args.files.now).known c.args.readings.now, inl (λ base begun. begun))

pub returns-in-Err-obtain_all-clause-comes : goal.returns-in-Err-obtain_all-clause-comes
returns-in-Err-obtain_all-clause-comes g c =
    let names : texts_of c.deref.result.now ≡ record_files c.args.users = ap texts_of c.deref.ensures.value ∙ c.in-Ok.ensures ∙ ap record_files c.as_slice.ensures in
    let o = outside g.F.Files.seen c.args.files.now c.obtain_all.new.files in
    comes-stopped (files Whole (record_files c.args.users)) (λ sources. judged (commands_judgement c.args.model_files.now sources c.args.users))
    o c.args.readings.now c.obtain_all.new.readings c.in-Err-obtain_all.halt
    (subst (λ l. ComesThrough (files Whole l) o c.args.readings.now c.obtain_all.new.readings (Err c.in-Err-obtain_all.halt)) names c.in-Err-obtain_all.ensures.through)

pub returns-in-Err-sources-clause-comes : goal.returns-in-Err-sources-clause-comes
returns-in-Err-sources-clause-comes g c =
    let names : texts_of c.deref.result.now ≡ record_files c.args.users = ap texts_of c.deref.ensures.value ∙ c.in-Ok.ensures ∙ ap record_files c.as_slice.ensures in
    let o = outside g.F.Files.seen c.args.files.now c.obtain_all.new.files in
    let went = subst (λ l. Goes (files Whole l) o c.args.readings.now c.obtain_all.new.readings) names c.in_default.ensures.through.0 in (
      on-later (files Whole (record_files c.args.users)) (λ sources. judged (commands_judgement c.args.model_files.now sources c.args.users))
          (g.F.Files.seen c.args.files.now).known c.args.readings.now c.obtain_all.new.readings went.0,
      inl went.2,
    )

pub returns-in-Ok-commands_of-clause-comes : goal.returns-in-Ok-commands_of-clause-comes
returns-in-Ok-commands_of-clause-comes g c =
    let names : texts_of c.deref.result.now ≡ record_files c.args.users = ap texts_of c.deref.ensures.value ∙ c.in-Ok.ensures ∙ ap record_files c.as_slice.ensures in
    let again : texts_of c.deref-2.result.now ≡ record_files c.args.users = ap texts_of c.deref-2.ensures.value ∙ c.in-Ok.ensures ∙ ap record_files c.as_slice.ensures in
    let o = outside g.F.Files.seen c.args.files.now c.obtain_all.new.files in
    let judges = subst (λ s. Judges (commands_judgement c.args.model_files.now s c.args.users) (Ok c.in-Ok-commands_of.commands)) c.deref-3.ensures.value c.in-Ok-commands_of.ensures in
    comes-judged (files Whole (record_files c.args.users)) (λ sources. commands_judgement c.args.model_files.now sources c.args.users) o
    c.args.readings.now c.obtain_all.new.readings c.in-Ok-sources.sources.items (Ok c.in-Ok-commands_of.commands)
    (subst (λ l. Goes (files Whole l) o c.args.readings.now c.obtain_all.new.readings) names c.in_default.ensures.through.0)
    (subst (λ l. (files Whole l).finds c.obtain_all.new.readings c.in-Ok-sources.sources.items) again (c.in-Ok-sources.ensures Whole)) judges

pub returns-clause-comes : goal.returns-clause-comes
returns-clause-comes g c =
    let names : texts_of c.deref.result.now ≡ record_files c.args.users = ap texts_of c.deref.ensures.value ∙ c.in-Ok.ensures ∙ ap record_files c.as_slice.ensures in
    let o = outside g.F.Files.seen c.args.files.now c.obtain_all.new.files in
    let went = subst (λ l. Goes (files Whole l) o c.args.readings.now c.obtain_all.new.readings) names c.in_default.ensures.through.0 in (
      on-later (files Whole (record_files c.args.users)) (λ sources. judged (commands_judgement c.args.model_files.now sources c.args.users))
          (g.F.Files.seen c.args.files.now).known c.args.readings.now c.obtain_all.new.readings went.0,
      inl went.2,
    )
