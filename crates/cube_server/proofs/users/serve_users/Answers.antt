use denote.Param.Send.{sendable}
use Rattle.std.proofs.Common.{rules, ◌≡◌}
use Rattle.user_session.specs.Content.{content_of, opening}
use Rattle.cube_server.proofs.Crosses.{Content-send, Content-sync, PlanCommand-send, PlanCommand-sync, Snapshot-send, Snapshot-sync}
use Rattle.cube_server.proofs.users.serve_users.Goals as goal

pub serve-requires-send-W-State : goal.serve-requires-send-W-State
serve-requires-send-W-State g c κs = search (sendable, Snapshot-send)

pub serve-requires-sync-W-State : goal.serve-requires-sync-W-State
serve-requires-sync-W-State g c κs = search (sendable, Snapshot-sync)

pub serve-requires-send-W-Content : goal.serve-requires-send-W-Content
serve-requires-send-W-Content g c κs = search (sendable, Content-send)

pub serve-requires-sync-W-Content : goal.serve-requires-sync-W-Content
serve-requires-sync-W-Content g c κs = search (sendable, Content-sync)

pub serve-requires-send-W-Command : goal.serve-requires-send-W-Command
serve-requires-send-W-Command g c κs within = search (sendable, PlanCommand-send)

pub serve-requires-sync-W-Command : goal.serve-requires-sync-W-Command
serve-requires-sync-W-Command g c κs within = search (sendable, PlanCommand-sync)

pub returns-clause-history : goal.returns-clause-history
returns-clause-history g c =
    let opened : content_of c.in_ok-opening.opening ≡ opening c.args.model = search rules in
    rw opened at (rw c.into_vec.ensures at c.serve.ensures.history)
