use Rattle.std.proofs.Common.{◌≡◌, map, take}
use Rattle.std.specs.List.{range_with_len}
use Rattle.view_query.specs.Views.{element_at}
use Rattle.view_query.proofs.reading.put_elements.Given as goal

abbrev pub invariant-loop-place : goal.invariant-loop-place
invariant-loop-place l = take l.place l.at ≡ map (element_at l.view l.row l.column) (range_with_len 0 l.place)
