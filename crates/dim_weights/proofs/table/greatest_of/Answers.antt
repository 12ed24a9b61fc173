use Rattle.std.proofs.Common.{◌≡◌, ◌∙◌, ap, w64, pos, arith}
use Rattle.std.proofs.lemmas.Int.{fits_signed_from_abs, to_z_pos}
use Rattle.std.proofs.lemmas.List.{take_all}
use Rattle.dim_weights.specs.Table.{greatest_in, greatest_of}
use Rattle.dim_weights.proofs.Tables.{greatest_of-more, greatest_of-le}
use Rattle.dim_order.proofs.Maxima.{ord_max-is}
use Rattle.dim_weights.proofs.table.greatest_of.Goals as goal

pub loop-row-preserved : goal.loop-row-preserved
loop-row-preserved c =
    let more = greatest_of-more c.args.rows.now c.loop-row.row-index c.row-item.result c.loop-row-test.true in
    let same = ap greatest_in (c.as_slice.ensures ∙ c.row-item.is) in
    omega (arith, more, same, c.loop-row.invariant, c.max-greatest.ensures, ord_max-is c.loop-row.greatest c.greatest_in.result, c.greatest_in.ensures)

pub overflow_cast-result : goal.overflow_cast-result
overflow_cast-result c =
    let all : c.loop-row.greatest ≡ greatest_of c.args.rows.now = c.loop-row.invariant ∙ ap greatest_of (take_all c.loop-row.row-index c.args.rows.now (omega (arith, c.loop-row-test.false))) in
    let most = greatest_of-le 1000000000 c.args.rows.now (λ e. (c.requires e).small) in
    fits_signed_from_abs w64 (pos c.loop-row.greatest) (omega (arith, all, most))

pub returns-clause-value : goal.returns-clause-value
returns-clause-value c =
    let all : c.loop-row.greatest ≡ greatest_of c.args.rows.now = c.loop-row.invariant ∙ ap greatest_of (take_all c.loop-row.row-index c.args.rows.now (omega (arith, c.loop-row-test.false))) in
    let most = greatest_of-le 1000000000 c.args.rows.now (λ e. (c.requires e).small) in
    to_z_pos w64 c.loop-row.greatest (omega (arith, all, most)) ∙ ap pos all

pub returns-clause-within : goal.returns-clause-within
returns-clause-within c = greatest_of-le 1000000000 c.args.rows.now (λ e. (c.requires e).small)
