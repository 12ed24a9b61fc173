use Rattle.std.proofs.Common.{◌≡◌, ◌∙◌, sym, ap, subst, arith, ℕ, ℤ, List, length, not, Some, ◌==◌, ◌<◌}
use Rattle.std.specs.List.{list_any}
use Rattle.dim_weights.specs.Table.{is_nonzero, leaves_of, share}
use Rattle.rule_model.specs.Conditions.{IsSet}
use Rattle.cell_spread.specs.Inside.Meets.{meets_in}
use Rattle.cell_spread.proofs.Areas.{listed-counts, some-counts}
use Rattle.cell_spread.proofs.ruled.meets_in.Goals as goal

pub returns-in-Some : goal.returns-in-Some
returns-in-Some c d table set =
    let listed = c.as_slice.result.now in
    let own : c.args.set.now ≡ Some listed = c.in-Some.is ∙ ap Some (sym c.as_slice.ensures) in
    let low : c.args.element < length d.elements = (let l = table.whole in omega (arith, l, c.requires)) in
    let is : IsSet (length d.elements) (Some listed) = subst (IsSet (length d.elements)) own set in
    c.counts_any.ensures
    ∙ ap (λ (pairs : List (ℕ × ℤ)). list_any (λ leaf. is_nonzero (share pairs leaf)) listed) (table.each c.args.element low)
    ∙ listed-counts d c.args.element listed is.1
    ∙ sym (ap (meets_in d c.args.element) own)

pub returns-in-None : goal.returns-in-None
returns-in-None c d table set =
    ap not (c.is_empty.ensures ∙ ap (λ (pairs : List (ℕ × ℤ)). length pairs == 0) (c.leaves.ensures.leaves d table))
    ∙ some-counts (leaves_of d c.args.element)
    ∙ sym (ap (meets_in d c.args.element) c.in-None.is)
