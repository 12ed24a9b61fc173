use Rattle.std.proofs.Common.{◌≡◌, ◌++◌, [], All, vec_len}
use Rattle.std.specs.Prelude.{reverse}
use Rattle.cell_trace.specs.Inside.Items.{IsListable, entered_lines_at}
use Rattle.cell_trace.specs.Inside.Sums.{IsReady}
use Rattle.cell_trace.proofs.listing.put_entered.Given as goal

abbrev pub invariant-loop-one : goal.invariant-loop-one
invariant-loop-one l =
    record {
      lines : l.lines.items ++ entered_lines_at l.here l.seen.items (reverse l.left.items)
          ≡ l.fn.lines.items ++ entered_lines_at l.here [] (reverse l.fn.entered.items);
      listable : All (IsListable l.here) l.left.items;
      ready : IsReady l.here l.known l.reader;
    }

abbrev pub decreases-loop-one : goal.decreases-loop-one
decreases-loop-one l = vec_len l.left
