use Rattle.std.proofs.Common.{Ok, Err, sym, subst, inl}
use Rattle.std.proofs.lemmas.Result.{err_from_is_err_and}
use Rattle.file_passes.specs.Halting.{Comes}
use Rattle.file_passes.specs.Outside.{outside}
use Rattle.file_passes.proofs.Coming.{comes-stopped, comes-mapped}
use Rattle.file_passes.proofs.Going.{on-refl}
use Rattle.judged_files.specs.Users.{AreKnown}
use Rattle.run_passes.specs.RefusalOrder.{records_pass}
use Rattle.run_passes.specs.Inside.Plans.{checked_of, ready_of, behind_records, behind_users}
use Rattle.run_passes.proofs.passes.behind_users.Goals as goal

pub records_pass-requires : goal.records_pass-requires
records_pass-requires g c = subst (λ checked. AreKnown checked.files.script_names c.args.texts) (sym c.checked.view_is) c.requires

pub returns : goal.returns
returns g c =
    let o = outside g.F.Files.seen c.args.files.now c.records_pass.new.files in
    let whole = checked_of c.checked.inside.model c.checked.inside.files.script_names c.checked.inside.files.rule_files c.checked.inside.files.bound in
    let came = comes-mapped (records_pass c.checked.inside.files c.args.texts) (ready_of whole) o
    c.args.readings.now c.records_pass.new.readings c.in_ok-commands.commands c.in_ok-commands.ensures.comes in
    let shared = subst (λ w. Comes (behind_users w c.args.texts) o c.args.readings.now c.records_pass.new.readings (Ok (ready_of whole c.in_ok-commands.commands))) c.checked.view_is came in
    subst (λ names. Comes (behind_users c.args.checked c.args.texts) o c.args.readings.now c.records_pass.new.readings
    (Ok (record { model = c.checked.inside.model; commands = c.in_ok-commands.commands; rule_files = names }))) (sym c.in-Ok.ensures) shared

pub returns-in_err-commands : goal.returns-in_err-commands
returns-in_err-commands g c =
    let p = err_from_is_err_and c.from_residual.result c.from_residual.ensures.1 in
    let o = outside g.F.Files.seen c.args.files.now c.records_pass.new.files in
    let whole = checked_of c.checked.inside.model c.checked.inside.files.script_names c.checked.inside.files.rule_files c.checked.inside.files.bound in
    let came = comes-stopped (records_pass c.checked.inside.files c.args.texts) (behind_records whole) o
    c.args.readings.now c.records_pass.new.readings c.in_err-commands.field-0.0 c.in_err-commands.ensures.comes in
    rw (p.1, p.2)
    (subst (λ w. Comes (behind_users w c.args.texts) o c.args.readings.now c.records_pass.new.readings (Err c.in_err-commands.field-0.0)) c.checked.view_is came)

pub returns-in-Err : goal.returns-in-Err
returns-in-Err g c = (on-refl (behind_users c.args.checked c.args.texts) (g.F.Files.seen c.args.files.now).known c.args.readings.now, inl (λ base begun. begun))
