use Rattle.std.proofs.Common.{◌≡◌, ◌∙◌, Ok, refl, subst, inl}
use Rattle.std.specs.Prelude.{string_bytes}
use Rattle.std.proofs.lemmas.List.{length-map}
use Rattle.cube_words.specs.Words.{texts_of}
use Rattle.file_passes.specs.Halting.{Comes}
use Rattle.file_passes.specs.Outside.{outside}
use Rattle.file_passes.proofs.Coming.{comes-stopped, comes-mapped}
use Rattle.file_passes.proofs.Going.{on-later}
use Rattle.judged_files.specs.ModelFiles.{Checked}
use Rattle.run_passes.specs.RefusalOrder.{scripts_pass}
use Rattle.run_passes.specs.Inside.Plans.{checked_of, behind_scripts, behind_rules}
use Rattle.run_passes.proofs.ScriptsNamed.{scripts-named}
use Rattle.run_passes.proofs.model_passes.behind_rules.Goals as goal

pub new-requires : goal.new-requires
new-requires g c =
    scripts-named c.scripts_pass.new.readings (texts_of c.args.scripts.now) c.args.names c.in-Ok.trees c.in-Ok.ensures.comes.1
    (length-map c.args.scripts.now string_bytes ∙ c.requires.each) c.requires.few

pub returns-in-Err-clause-comes : goal.returns-in-Err-clause-comes
returns-in-Err-clause-comes g c =
    comes-stopped (scripts_pass (texts_of c.args.scripts.now)) (behind_scripts c.args.names c.args.rules c.args.model)
    (outside g.F.Files.seen c.args.files.now c.scripts_pass.new.files)
    c.args.readings.now c.scripts_pass.new.readings c.in-Err.halt c.in-Err.ensures.comes

pub returns-in-Ok-new-clause-comes : goal.returns-in-Ok-new-clause-comes
returns-in-Ok-new-clause-comes g c =
    let o = outside g.F.Files.seen c.args.files.now c.scripts_pass.new.files in
    let whole : Checked = record { model = c.args.model; files = c.in-Ok-new.files } in
    let same : checked_of c.args.model c.args.names c.args.rules c.in-Ok.trees ≡ whole = rw (← c.in-Ok-new.ensures.names, ← c.in-Ok-new.ensures.bound, ← c.in-Ok-new.ensures.rules) refl in
    let came = comes-mapped (scripts_pass (texts_of c.args.scripts.now)) (checked_of c.args.model c.args.names c.args.rules) o
    c.args.readings.now c.scripts_pass.new.readings c.in-Ok.trees c.in-Ok.ensures.comes in
    subst (λ x. Comes (behind_rules (texts_of c.args.scripts.now) c.args.names c.args.rules c.args.model) o c.args.readings.now c.scripts_pass.new.readings (Ok x)) same came

pub returns-in-Err-new-clause-comes : goal.returns-in-Err-new-clause-comes
returns-in-Err-new-clause-comes g c = (
  on-later (scripts_pass (texts_of c.args.scripts.now)) (behind_scripts c.args.names c.args.rules c.args.model) (g.F.Files.seen c.args.files.now).known
      c.args.readings.now c.scripts_pass.new.readings c.in-Ok.ensures.comes.0.0,
  inl c.in-Ok.ensures.comes.0.2,
)
