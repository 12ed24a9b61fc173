use Rattle.std.proofs.Common.{◌≡◌, ◌≤◌, ◌∙◌, ap, sym, subst, length, inl}
use Rattle.std.specs.Prelude.{string_bytes}
use Rattle.std.proofs.lemmas.List.{length-map}
use Rattle.cube_words.specs.Words.{texts_of}
use Rattle.file_passes.specs.Halting.{Comes}
use Rattle.file_passes.specs.Outside.{outside}
use Rattle.file_passes.proofs.Coming.{comes-stopped, comes-behind}
use Rattle.file_passes.proofs.Going.{on-refl}
use Rattle.judged_files.specs.Rules.{all_rule_names}
use Rattle.judged_files.specs.Scripts.{script_files}
use Rattle.model_text.specs.Contents.{script_names, most_scripts}
use Rattle.run_passes.specs.RefusalOrder.{deploy_pass}
use Rattle.run_passes.specs.Inside.Plans.{behind_text, behind_rules}
use Rattle.run_passes.proofs.PlanFacts.{steady-deploy}
use Rattle.run_passes.proofs.model_passes.behind_text.Goals as goal

pub behind_rules-requires-clause-each : goal.behind_rules-requires-clause-each
behind_rules-requires-clause-each g c =
    let files : texts_of c.deref.result.now ≡ script_files c.args.text.scripts = ap texts_of c.deref.ensures.value ∙ c.in-Ok.ensures ∙ ap script_files c.scripts.ensures.scripts in
    let names : c.in-Ok-script_names.names ≡ script_names c.args.text.scripts = c.in-Ok-script_names.ensures ∙ ap script_names c.scripts-2.ensures.scripts in
    sym (length-map c.deref.result.now string_bytes) ∙ ap length files ∙ length-map c.args.text.scripts (λ script. script.file)
    ∙ sym (length-map c.args.text.scripts (λ script. script.name)) ∙ sym (ap length names)

pub behind_rules-requires-clause-few : goal.behind_rules-requires-clause-few
behind_rules-requires-clause-few g c =
    let names : c.in-Ok-script_names.names ≡ script_names c.args.text.scripts = c.in-Ok-script_names.ensures ∙ ap script_names c.scripts-2.ensures.scripts in
    let same : length c.in-Ok-script_names.names ≡ length c.args.text.scripts = ap length names ∙ length-map c.args.text.scripts (λ script. script.name) in
    subst (λ n. n ≤ most_scripts) (sym same) c.scripts.ensures.valid.few_scripts

pub returns-in_default-clause-comes : goal.returns-in_default-clause-comes
returns-in_default-clause-comes g c = (
  on-refl (behind_text c.args.name.now c.args.text) (g.F.Files.seen c.args.files.now).known c.args.readings.now,
  inl (λ base begun. begun),
)

pub returns-in_default-script_names-clause-comes : goal.returns-in_default-script_names-clause-comes
returns-in_default-script_names-clause-comes g c = (
  on-refl (behind_text c.args.name.now c.args.text) (g.F.Files.seen c.args.files.now).known c.args.readings.now,
  inl (λ base begun. begun),
)

pub returns-in_default-all_rule_names-clause-comes : goal.returns-in_default-all_rule_names-clause-comes
returns-in_default-all_rule_names-clause-comes g c = (
  on-refl (behind_text c.args.name.now c.args.text) (g.F.Files.seen c.args.files.now).known c.args.readings.now,
  inl (λ base begun. begun),
)

pub returns-in-Ok-deploy_pass-clause-comes : goal.returns-in-Ok-deploy_pass-clause-comes
returns-in-Ok-deploy_pass-clause-comes g c =
    let files : texts_of c.deref.result.now ≡ script_files c.args.text.scripts = ap texts_of c.deref.ensures.value ∙ c.in-Ok.ensures ∙ ap script_files c.scripts.ensures.scripts in
    let names : c.in-Ok-script_names.names ≡ script_names c.args.text.scripts = c.in-Ok-script_names.ensures ∙ ap script_names c.scripts-2.ensures.scripts in
    let rules : c.in-Ok-all_rule_names.rules ≡ all_rule_names c.args.text.cubes = c.in-Ok-all_rule_names.ensures ∙ ap all_rule_names c.cubes.ensures.cubes in
    let o = outside g.F.Files.seen c.deploy_pass.new.files c.behind_rules.new.files in
    let model = c.in-Ok-deploy_pass.model in
    let here = subst (λ l. Comes (behind_rules l c.in-Ok-script_names.names c.in-Ok-all_rule_names.rules model) o c.deploy_pass.new.readings c.behind_rules.new.readings c.behind_rules.result) files c.behind_rules.ensures.comes in
    let named = subst (λ l. Comes (behind_rules (script_files c.args.text.scripts) l c.in-Ok-all_rule_names.rules model) o c.deploy_pass.new.readings c.behind_rules.new.readings c.behind_rules.result) names here in
    let then = subst (λ l. Comes (behind_rules (script_files c.args.text.scripts) (script_names c.args.text.scripts) l model) o c.deploy_pass.new.readings c.behind_rules.new.readings c.behind_rules.result) rules named in
    comes-behind g.F.Files.seen (deploy_pass c.args.name.now c.args.text) (behind_rules (script_files c.args.text.scripts) (script_names c.args.text.scripts) (all_rule_names c.args.text.cubes)) (steady-deploy c.args.name.now c.args.text).kept
    c.args.files.now c.deploy_pass.new.files c.behind_rules.new.files c.args.readings.now c.deploy_pass.new.readings c.behind_rules.new.readings model c.behind_rules.result
    c.in-Ok-deploy_pass.ensures.known c.in-Ok-deploy_pass.ensures.comes then

pub returns-clause-comes : goal.returns-clause-comes
returns-clause-comes g c =
    comes-stopped (deploy_pass c.args.name.now c.args.text) (behind_rules (script_files c.args.text.scripts) (script_names c.args.text.scripts) (all_rule_names c.args.text.cubes))
    (outside g.F.Files.seen c.args.files.now c.deploy_pass.new.files)
    c.args.readings.now c.deploy_pass.new.readings c.in-Err.halt c.in-Err.ensures.comes
