use Rattle.std.proofs.Common.{◌≡◌, ◌∙◌, ℕ, Option, List, IfOk, ap, subst, arith, length, map}
use Rattle.std.specs.List.{range_with_len}
use Rattle.std.proofs.lemmas.List.{with_items_is}
use Rattle.std.proofs.lemmas.List.FromFn.{length-map-range_with_len}
use Rattle.feed_turn.specs.Named.{is_named}
use Rattle.feed_turn.proofs.Marked.{marks-set}
use Rattle.feed_turn.proofs.named.named_set.Goals as goal

pub marked_set-requires : goal.marked_set-requires
marked_set-requires c =
    let f = is_named c.args.to.now c.args.leaves.now in
    let n = length c.args.dimension.now.elements in
    let size : length c.deref_mut.result.now ≡ n = omega (arith, c.deref_mut.ensures.len, c.in_ok-marks.ensures.len, c.len.ensures.len) in
    let long : length c.mark_named.new.marks ≡ c.in_ok-marks.marks.len = omega (arith, ap length c.mark_named.ensures, length-map-range_with_len f 0 (length c.deref_mut.result.now), c.deref_mut.ensures.len) in
    let are = c.deref.ensures.value ∙ with_items_is c.in_ok-marks.marks c.mark_named.new.marks long ∙ c.mark_named.ensures ∙ ap (λ n. map f (range_with_len 0 n)) size in
    ap length are ∙ length-map-range_with_len f 0 n

pub returns : goal.returns
returns c =
    let f = is_named c.args.to.now c.args.leaves.now in
    let n = length c.args.dimension.now.elements in
    let size : length c.deref_mut.result.now ≡ n = omega (arith, c.deref_mut.ensures.len, c.in_ok-marks.ensures.len, c.len.ensures.len) in
    let long : length c.mark_named.new.marks ≡ c.in_ok-marks.marks.len = omega (arith, ap length c.mark_named.ensures, length-map-range_with_len f 0 (length c.deref_mut.result.now), c.deref_mut.ensures.len) in
    let are = c.deref.ensures.value ∙ with_items_is c.in_ok-marks.marks c.mark_named.new.marks long ∙ c.mark_named.ensures ∙ ap (λ n. map f (range_with_len 0 n)) size in
    subst (λ (s : Option (List ℕ)). IfOk c.marked_set.result (λ set. set ≡ s)) (marks-set c.args.dimension.now c.args.to.now c.args.leaves.now c.deref.result.now are) c.marked_set.ensures
