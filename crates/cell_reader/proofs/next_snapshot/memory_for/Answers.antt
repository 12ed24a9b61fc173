use Rattle.std.proofs.Common.{rules, ◌≡◌}
use Rattle.memo_cells.specs.Shared.{version_kept}
use Rattle.cell_reader.proofs.Works.{kept_values}
use Rattle.cell_reader.proofs.next_snapshot.memory_for.Goals as goal

pub returns : goal.returns
returns c =
    let model : (version_kept c.in_ok-memo.memo).model.value ≡ c.args.version.now.model = search rules in
    let stored : (version_kept c.in_ok-memo.memo).stored.value ≡ c.args.version.now.stored = search rules in
    kept_values (version_kept c.in_ok-memo.memo) c.args.version.now model stored
