use Rattle.std.proofs.Common.{◌+◌, None}
use Rattle.user_session.specs.Content.{opening}
use Rattle.output_laws.proofs.a_sandbox_is_seen_by_its_user_alone.Goals as goal

pub returns : goal.returns
returns c model users others told replies log other index commands own again history history_too are are_too here here_too writes places =
    let first = opening model in
    let runs = c.layered_runs_make_a_history.ensures.runs first None users told log history in
    let runs_too = c.layered_runs_make_a_history.ensures.runs first None others replies other history_too in
    c.a_layer_is_seen_by_its_user_alone.ensures.alone first log other (index + 1) (index + 1) None own again commands
    (runs.1 index commands own are here).1 (runs_too.1 index commands again are_too here_too).1 writes places
