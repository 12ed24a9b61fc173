use Rattle.std.proofs.Common.{◌≡◌, drop}
use Rattle.cell_reader.specs.Works.{opening_of, writes_of}
use Rattle.script_values.specs.Cells.{with_zeros}
use Rattle.load_cells.specs.Loads.{open_among, store_of}
use Rattle.load_cells.proofs.zeros.zero_out.Given as goal

-- what is left to write gives what all gives
abbrev pub invariant-each : goal.invariant-each
invariant-each l =
    let first = opening_of l.initial.work in
    let store = store_of first.model first.stored in
    record {
      same : opening_of l.work ≡ first;
      left : with_zeros store (writes_of l.work) (open_among first.model (drop l.cell-index l.cells))
          ≡ with_zeros store (writes_of l.initial.work) (open_among first.model l.cells);
    }
