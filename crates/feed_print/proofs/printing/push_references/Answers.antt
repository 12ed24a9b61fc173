use Rattle.feed_print.specs.Printed.{reference_line}
use Rattle.feed_print.proofs.CubeLines.{more_lines}
use Rattle.feed_print.proofs.printing.push_references.Goals as goal

pub each-preserved : goal.each-preserved
each-preserved c =
    more_lines reference_line c.args.places.now c.each.index _ c.args.out.now.items c.each.out.items c.push_reference.new.out.items c.each-test.true c.in_ok-push_reference.ensures c.each.invariant
