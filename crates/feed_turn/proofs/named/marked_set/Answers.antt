use Rattle.std.proofs.Common.{rules, ◌≡◌, ◌∙◌, true, false, Some, None, ap, sym, if◌then◌else◌, filter, get_or}
use Rattle.std.specs.List.{range_with_len}
use Rattle.feed_turn.specs.Leaves.{all_elements}
use Rattle.feed_turn.proofs.named.marked_set.Goals as goal

pub returns-then-has_each_leaf : goal.returns-then-has_each_leaf
returns-then-has_each_leaf c =
    let on : c.has_each_leaf.result ≡ true = search rules in
    ap (λ b. if b then None else Some (filter (λ e. get_or c.args.marks.now e false) (all_elements c.args.dimension.now))) (sym on ∙ c.has_each_leaf.ensures)

pub returns : goal.returns
returns c =
    let off : c.has_each_leaf.result ≡ false = search rules in
    ap Some (c.new.ensures ∙ c.in_ok-named.ensures ∙ ap (λ n. filter (λ e. get_or c.args.marks.now e false) (range_with_len 0 n)) c.len.ensures.len)
    ∙ ap (λ b. if b then None else Some (filter (λ e. get_or c.args.marks.now e false) (all_elements c.args.dimension.now))) (sym off ∙ c.has_each_leaf.ensures)
