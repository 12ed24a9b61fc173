use Rattle.std.proofs.Common.{◌≡◌, ◌∙◌, ap, subst, Err, inl}
use Rattle.judged_files.specs.Rules.{rule_names, binding_judgement}
use Rattle.file_passes.specs.Outside.{outside}
use Rattle.file_passes.specs.Pass.{files, judged}
use Rattle.run_passes.specs.RefusalOrder.{as_text, bind_pass}
use Rattle.cube_words.specs.Words.{texts_of}
use Rattle.file_passes.specs.Halting.{ComesThrough, Judges}
use Rattle.file_passes.specs.Reading.{Goes}
use Rattle.file_passes.proofs.Going.{on-refl, on-later}
use Rattle.file_passes.proofs.Coming.{comes-stopped, comes-judged}
use Rattle.run_passes.proofs.feeders_passes.bind_pass.Goals as goal

pub returns-in-Err-clause-comes : goal.returns-in-Err-clause-comes
returns-in-Err-clause-comes g c = (on-refl (bind_pass c.args.name.now c.args.text) (g.F.Files.seen c.args.files.now).known c.args.readings.now, inl (λ base begun. begun))

pub returns-in-Err-obtain_all-clause-comes : goal.returns-in-Err-obtain_all-clause-comes
returns-in-Err-obtain_all-clause-comes g c =
    let names : texts_of c.deref.result.now ≡ rule_names c.args.text.cubes = ap texts_of c.deref.ensures.value ∙ c.in-Ok.ensures ∙ ap rule_names c.cubes.ensures.cubes in
    let o = outside g.F.Files.seen c.args.files.now c.obtain_all.new.files in
    comes-stopped (files as_text (rule_names c.args.text.cubes)) (λ sources. judged (binding_judgement c.args.name.now c.args.text sources))
    o c.args.readings.now c.obtain_all.new.readings c.in-Err-obtain_all.halt
    (subst (λ l. ComesThrough (files as_text l) o c.args.readings.now c.obtain_all.new.readings (Err c.in-Err-obtain_all.halt)) names c.in-Err-obtain_all.ensures.through)

pub returns-in-Ok-sources-clause-comes : goal.returns-in-Ok-sources-clause-comes
returns-in-Ok-sources-clause-comes g c =
    let names : texts_of c.deref.result.now ≡ rule_names c.args.text.cubes = ap texts_of c.deref.ensures.value ∙ c.in-Ok.ensures ∙ ap rule_names c.cubes.ensures.cubes in
    let again : texts_of c.deref-2.result.now ≡ rule_names c.args.text.cubes = ap texts_of c.deref-2.ensures.value ∙ c.in-Ok.ensures ∙ ap rule_names c.cubes.ensures.cubes in
    let o = outside g.F.Files.seen c.args.files.now c.obtain_all.new.files in
    let judges = subst (λ s. Judges (binding_judgement c.args.name.now c.args.text s) c.bound_of.result) c.deref-in-Ok-sources.ensures.value c.bound_of.ensures in
    comes-judged (files as_text (rule_names c.args.text.cubes)) (binding_judgement c.args.name.now c.args.text) o
    c.args.readings.now c.obtain_all.new.readings c.in-Ok-sources.sources.items c.bound_of.result
    (subst (λ l. Goes (files as_text l) o c.args.readings.now c.obtain_all.new.readings) names c.in_default.ensures.through.0)
    (subst (λ l. (files as_text l).finds c.obtain_all.new.readings c.in-Ok-sources.sources.items) again (c.in-Ok-sources.ensures as_text)) judges

pub returns-in-Err-sources-clause-comes : goal.returns-in-Err-sources-clause-comes
returns-in-Err-sources-clause-comes g c =
    let names : texts_of c.deref.result.now ≡ rule_names c.args.text.cubes = ap texts_of c.deref.ensures.value ∙ c.in-Ok.ensures ∙ ap rule_names c.cubes.ensures.cubes in
    let o = outside g.F.Files.seen c.args.files.now c.obtain_all.new.files in
    let went = subst (λ l. Goes (files as_text l) o c.args.readings.now c.obtain_all.new.readings) names c.in_default.ensures.through.0 in (
      on-later (files as_text (rule_names c.args.text.cubes)) (λ sources. judged (binding_judgement c.args.name.now c.args.text sources))
          (g.F.Files.seen c.args.files.now).known c.args.readings.now c.obtain_all.new.readings went.0,
      inl went.2,
    )
