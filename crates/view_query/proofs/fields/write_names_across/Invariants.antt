use Rattle.std.proofs.Common.{◌≡◌, ◌++◌, slice_get, Some, slice_index_or}
use Rattle.view_query.specs.declared.shape.Axis.{Axis}
use Rattle.view_query.specs.Table.{shown_name}
use Rattle.view_query.proofs.WritingFacts.{picked}
use Rattle.view_query.proofs.fields.write_names_across.Given as goal

abbrev pub invariant-loop-place : goal.invariant-loop-place
invariant-loop-place l = (across : Axis) → slice_get l.along l.index ≡ Some across
    → l.out.items ++ picked (λ line. shown_name l.space l.cube across (slice_index_or line l.index 0)) l.shown l.lines l.place
    ≡ l.fn.out.items ++ picked (λ line. shown_name l.space l.cube across (slice_index_or line l.index 0)) l.shown l.lines 0
