use Rattle.std.proofs.Common.{rules, ◌≡◌, Ok, Err, subst}
use Rattle.std.proofs.lemmas.Result.{err_from_is_err_and}
use Rattle.cube_words.specs.Words.{texts_of}
use Rattle.file_passes.specs.Halting.{Comes}
use Rattle.file_passes.specs.Outside.{outside}
use Rattle.file_passes.proofs.Coming.{comes-stopped, comes-behind}
use Rattle.judged_files.proofs.ReadyFacts.{known-users}
use Rattle.run_passes.specs.RefusalOrder.{users_pass}
use Rattle.run_passes.specs.Inside.Plans.{behind_users}
use Rattle.run_passes.proofs.PlanFacts.{steady-users}
use Rattle.run_passes.proofs.passes.behind_model.Goals as goal

pub behind_users-requires : goal.behind_users-requires
behind_users-requires g c =
    let names : c.as_slice-scripts.result.now ≡ c.args.checked.files.script_names = search rules in
    let found = subst (λ l. (users_pass l (texts_of c.args.users.now)).finds c.users_pass.new.readings c.in_ok-texts.texts) names c.in_ok-texts.ensures.comes.1 in
    known-users c.args.checked.files.script_names found.0 c.in_ok-texts.texts found.2

pub returns : goal.returns
returns g c =
    let o = outside g.F.Files.seen c.args.files.now c.users_pass.new.files in
    let names : c.as_slice-scripts.result.now ≡ c.args.checked.files.script_names = search rules in
    let came = subst (λ l. Comes (users_pass l (texts_of c.args.users.now)) o c.args.readings.now c.users_pass.new.readings (Ok c.in_ok-texts.texts)) names c.in_ok-texts.ensures.comes in
    comes-behind g.F.Files.seen (users_pass c.args.checked.files.script_names (texts_of c.args.users.now)) (behind_users c.args.checked)
    (steady-users c.args.checked.files.script_names (texts_of c.args.users.now)).kept
    c.args.files.now c.users_pass.new.files c.behind_users.new.files c.args.readings.now c.users_pass.new.readings c.behind_users.new.readings c.in_ok-texts.texts c.behind_users.result
    c.in_ok-texts.ensures.known came c.behind_users.ensures

pub returns-in_err-texts : goal.returns-in_err-texts
returns-in_err-texts g c =
    let p = err_from_is_err_and c.from_residual.result c.from_residual.ensures.1 in
    let o = outside g.F.Files.seen c.args.files.now c.users_pass.new.files in
    let names : c.as_slice-scripts.result.now ≡ c.args.checked.files.script_names = search rules in
    let came = subst (λ l. Comes (users_pass l (texts_of c.args.users.now)) o c.args.readings.now c.users_pass.new.readings (Err c.in_err-texts.field-0.0)) names c.in_err-texts.ensures.comes in
    rw (p.1, p.2) (comes-stopped (users_pass c.args.checked.files.script_names (texts_of c.args.users.now)) (behind_users c.args.checked) o
    c.args.readings.now c.users_pass.new.readings c.in_err-texts.field-0.0 came)
