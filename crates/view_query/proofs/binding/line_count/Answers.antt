use Rattle.std.proofs.Common.{◌≡◌, ◌*◌, ◌+◌, ◌∙◌, length, get_or, min, sym, ap, arith}
use Rattle.std.specs.List.{drop-map}
use Rattle.std.proofs.Math.Nat.{min-le_right}
use Rattle.std.proofs.lemmas.List.{length-map, get_or-map}
use Rattle.cube_space.specs.Radix.{product}
use Rattle.cube_space.proofs.Steps.{product-turn, product-end}
use Rattle.view_query.proofs.Counts.{counts, length-lines}
use Rattle.view_query.proofs.binding.line_count.Goals as goal

pub loop-axis-preserved : goal.loop-axis-preserved
loop-axis-preserved c =
    let all = counts c.args.axes.now in
    let i = c.loop-axis.axis-index in
    let size = length c.as_slice.result.now in
    let long : length all ≡ length c.args.axes.now = length-map c.args.axes.now (λ axis. length axis.elements) in
    let own : size ≡ get_or all i 0 =
    ap length c.as_slice.ensures ∙ ap (λ a. length a.elements) c.axis-item.is
    ∙ sym (get_or-map (λ axis. length axis.elements) c.args.axes.now i c.axis-item.result 0 c.loop-axis-test.true) in
    record {
      fits = omega (arith, c.saturating_mul-count.ensures, min-le_right (c.loop-axis.count * size) 18446744073709551615);
      rest = ap (λ l. min (c.saturating_mul-count.result * product l) 18446744073709551615) (sym (drop-map (λ axis. length axis.elements) (i + 1) c.args.axes.now))
          ∙ product-turn all i c.loop-axis.count size _ _ _ (omega (arith, long, c.loop-axis-test.true)) own c.saturating_mul-count.ensures
          (ap (λ l. min (c.loop-axis.count * product l) 18446744073709551615) (drop-map (λ axis. length axis.elements) i c.args.axes.now) ∙ c.loop-axis.invariant.rest);
    }

pub returns : goal.returns
returns c =
    let all = counts c.args.axes.now in
    let i = c.loop-axis.axis-index in
    let long : length all ≡ length c.args.axes.now = length-map c.args.axes.now (λ axis. length axis.elements) in
    product-end all i c.loop-axis.count 18446744073709551615 (min (product all) 18446744073709551615) (omega (arith, long, c.loop-axis-test.false)) c.loop-axis.invariant.fits
    (ap (λ l. min (c.loop-axis.count * product l) 18446744073709551615) (drop-map (λ axis. length axis.elements) i c.args.axes.now) ∙ c.loop-axis.invariant.rest)
    ∙ ap (λ n. min n 18446744073709551615) (sym (length-lines c.args.axes.now))
