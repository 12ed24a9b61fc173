use Rattle.std.proofs.Common.{◌≡◌, ◌++◌}
use Rattle.cube_fixed.specs.Text.{printed}
use Rattle.view_query.proofs.WritingFacts.{picked}
use Rattle.view_query.proofs.fields.write_values.Given as goal

abbrev pub invariant-loop-place : goal.invariant-loop-place
invariant-loop-place l = l.out.items ++ picked printed l.shown l.values l.place ≡ l.fn.out.items ++ picked printed l.shown l.values 0
