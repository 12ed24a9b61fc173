use Rattle.std.proofs.Common.{◌≡◌, ◌∙◌, ◌<◌, ap, subst, ℕ, ℤ, List, length, IfOk, IfSome, IfNone, arith}
use Rattle.std.specs.List.{range_with_len}
use Rattle.dim_weights.specs.Inside.Sums.{sum_at}
use Rattle.dim_weights.specs.Table.{nonzero_among, greatest_in}
use Rattle.dim_weights.specs.Inside.Rows.{pairs_over, counted_over}
use Rattle.dim_weights.proofs.Pairs.{agree-range}
use Rattle.dim_weights.proofs.rows.pairs_over.Goals as goal

same : (c : goal.After-take_pairs) → nonzero_among (sum_at c.add_element.new.sums) (range_with_len 0 (length c.add_element.new.sums))
    ≡ pairs_over (length c.args.sums.now) c.args.rows.now c.args.element c.args.parts.now
same c =
    ap (λ (n : ℕ). nonzero_among (sum_at c.add_element.new.sums) (range_with_len 0 n)) c.add_element.ensures.length
    ∙ agree-range (sum_at c.add_element.new.sums) (counted_over c.args.rows.now c.args.element c.args.parts.now) (length c.args.sums.now) (λ leaf _. c.in_ok-add_element.ensures.counted leaf) (length c.args.sums.now) 0 (omega arith)

pub returns-clause-pairs : goal.returns-clause-pairs
returns-clause-pairs c =
    let P : List (ℕ × ℤ) → Type 0 = λ xs. IfOk c.take_pairs.result (λ found. IfSome found (λ pairs. pairs.items ≡ xs)) in
    subst P (same c) c.take_pairs.ensures.pairs

pub returns-clause-large : goal.returns-clause-large
returns-clause-large c =
    let P : List (ℕ × ℤ) → Type 0 = λ xs. IfOk c.take_pairs.result (λ found. IfNone found (1000000000 < greatest_in xs)) in
    subst P (same c) c.take_pairs.ensures.large
