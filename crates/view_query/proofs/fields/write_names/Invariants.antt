use Rattle.std.proofs.Common.{◌≡◌, ◌++◌, drop}
use Rattle.view_query.specs.Inside.Text.{tabbed, names_along}
use Rattle.view_query.proofs.fields.write_names.Given as goal

abbrev pub invariant-loop-index : goal.invariant-loop-index
invariant-loop-index l =
    l.out.items ++ tabbed (names_along l.space l.cube (drop l.index l.along) (drop l.index l.line))
    ≡ l.fn.out.items ++ tabbed (names_along l.space l.cube l.along l.line)
