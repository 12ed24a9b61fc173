use Rattle.std.proofs.Common.{◌≡◌, ◌*◌}
use Rattle.cube_sample.specs.Sample.{drawn, price_line, repeated, units_line}
use Rattle.cube_sample.proofs.records.record_files.Given as goal

abbrev pub invariant-loop-index : goal.invariant-loop-index
invariant-loop-index l = (l.generator.last ≡ drawn l.fn.size (4 * l._index))
    × (l.units_file.items ≡ repeated (units_line l.fn.size) l._index)
    × (l.price_file.items ≡ repeated (price_line l.fn.size) l._index)
