use Rattle.std.proofs.Common.{◌≡◌, ◌∙◌, refl, sym, ap, ◌++◌, [], length, unwrap_or}
use Rattle.cell_reader.specs.Snapshots.{version_of}
use Rattle.cell_reader.specs.Works as works
use Rattle.cell_writes.specs.Writes.{last_writes}
use Rattle.history.specs.declared.effect.Effect.TheVariants as effects
use Rattle.load_cells.specs.Loads.{store_of}
use Rattle.script_run.specs.Load.{load, writes_of}
use Rattle.script_run.specs.Meaning.{Outcome}
use Rattle.user_text.specs.Jobs.{rows_in}
use Rattle.user_session.specs.Content.{content_of}
use Rattle.user_session.specs.Planning.{load_effect, PlanEffect}
use Rattle.user_session.specs.RejectedLoad.{told_rejects}
use Rattle.user_session.specs.Replies.{reply_text}
use Rattle.user_session.specs.declared.reply.Reply.TheVariants.{Committed}
use Rattle.user_session.proofs.Loads.{done-effect, same-load, stopped-effect}
use Rattle.user_session.proofs.load_command.load.Goals as goal

pub returns-in_ok-writes-in-Done-clause-effect : goal.returns-in_ok-writes-in-Done-clause-effect
returns-in_ok-writes-in-Done-clause-effect c =
    let job = c.args.job.now in
    let content = content_of c.args.state.now in
    let begun = c.in_ok-cells.cells.work in
    let outcome : Outcome = load c.args.script.now job.params job.decimal (unwrap_or job.rejects 0) (rows_in job) (store_of content.model content.stored) [] in
    let ran : Outcome = load c.args.script.now job.params job.decimal c.unwrap_or.result c.rows.result (store_of (works.opening_of begun).model (works.opening_of begun).stored) (works.writes_of begun) in
    let opening : works.opening_of begun ≡ version_of c.args.state.now = rw c.in_ok-cells.ensures c.in_ok-work.ensures.opening in
    let none : works.writes_of begun ≡ [] = rw c.in_ok-cells.ensures c.in_ok-work.ensures.writes in
    let same : ran ≡ outcome = same-load c.args.script.now job.params job.decimal c.unwrap_or.result (unwrap_or job.rejects 0) c.rows.result (rows_in job) (works.opening_of begun) (version_of c.args.state.now) (works.writes_of begun) c.unwrap_or.ensures c.rows.ensures opening none in
    let items : c.in_ok-writes-in-Done.writes.items ≡ last_writes (writes_of ran) = c.in_ok-writes-in-Done.ensures.writes ∙ (rw c.into_work.ensures (ap last_writes c.in_ok-rejects.ensures.writes)) in
    let effect : load_effect content job c.args.script.now ≡ effects.Commit c.in_ok-writes-in-Done.writes.items (reply_text (Committed (length c.in_ok-writes-in-Done.writes.items)) ++ told_rejects job.rejects c.in-Done.rejects) =
    done-effect job.rejects ran outcome c.in_ok-rejects.field-0 c.in-Done.rejects same c.in_ok-rejects.ensures.ran c.in-Done.is
    ∙ ap (λ writes. effects.Commit writes (reply_text (Committed (length writes)) ++ told_rejects job.rejects c.in-Done.rejects)) (sym items) in
    rw (effect, ← c.as_slice.ensures) c.loaded.ensures

pub returns-in_ok-text-in-Rejected-clause-effect : goal.returns-in_ok-text-in-Rejected-clause-effect
returns-in_ok-text-in-Rejected-clause-effect c =
    let job = c.args.job.now in
    let content = content_of c.args.state.now in
    let begun = c.in_ok-cells.cells.work in
    let outcome : Outcome = load c.args.script.now job.params job.decimal (unwrap_or job.rejects 0) (rows_in job) (store_of content.model content.stored) [] in
    let ran : Outcome = load c.args.script.now job.params job.decimal c.unwrap_or.result c.rows.result (store_of (works.opening_of begun).model (works.opening_of begun).stored) (works.writes_of begun) in
    let opening : works.opening_of begun ≡ version_of c.args.state.now = rw c.in_ok-cells.ensures c.in_ok-work.ensures.opening in
    let none : works.writes_of begun ≡ [] = rw c.in_ok-cells.ensures c.in_ok-work.ensures.writes in
    let same : ran ≡ outcome = same-load c.args.script.now job.params job.decimal c.unwrap_or.result (unwrap_or job.rejects 0) c.rows.result (rows_in job) (works.opening_of begun) (version_of c.args.state.now) (works.writes_of begun) c.unwrap_or.ensures c.rows.ensures opening none in
    let effect = stopped-effect job.rejects ran outcome c.in_ok-rejects.field-0 c.in-Rejected.section c.in-Rejected.row c.in-Rejected.statement c.in-Rejected.reason same c.in_ok-rejects.ensures.ran c.in-Rejected.is in
    let text = c.new-in-Rejected.ensures ∙ c.in_ok-text-in-Rejected.ensures in
    rw (effect, text) refl
