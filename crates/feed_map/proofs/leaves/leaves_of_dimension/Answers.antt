use Rattle.std.proofs.Common.{rules, ◌≡◌, ◌∙◌, ◌++◌, ◌∷◌, [], ap, sym, length, arith}
use Rattle.std.specs.List.{filter, range_with_len}
use Rattle.cube_space.specs.Cells.{is_leaf}
use Rattle.cube_space.proofs.LeafTests.{is_leaf-test}
use Rattle.feed_map.proofs.LeafFacts.{leaf-more, total-more}
use Rattle.feed_map.proofs.leaves.leaves_of_dimension.Goals.{then-is_leaf+in_ok-push, else-is_leaf}
use Rattle.feed_map.proofs.leaves.leaves_of_dimension.Goals as goal

pub each-preserved : goal.each-preserved
each-preserved c =
    let d = c.args.dimension.now in
    let n = c.each.element in
    let leaf = is_leaf-test d n c.is_leaf.result c.is_leaf.ensures in
    elim c.if-is_leaf.branch [
      | then-is_leaf+in_ok-push w ↦
          let pushed : c.if-is_leaf.leaves.items ≡ c.each.leaves.items ++ n ∷ [] = rw (w.leaves-is, w.in_ok-push.ensures.items) (search rules) in
          pushed ∙ ap (λ xs. xs ++ n ∷ []) c.each.invariant ∙ sym (leaf-more d n (sym leaf ∙ w.if-is_leaf.true))
      | else-is_leaf w ↦
          let same : c.if-is_leaf.leaves.items ≡ c.each.leaves.items = rw w.leaves-is (search rules) in
          same ∙ c.each.invariant ∙ sym (total-more d n (sym leaf ∙ w.if-is_leaf.false))
    ]

pub returns : goal.returns
returns c =
    let all : c.each.element ≡ length c.args.dimension.now.elements = omega (arith, c.each-test.false, c.each.auto.element-end, c.len-element-end.ensures.len) in
    c.new.ensures ∙ c.each.invariant ∙ ap (λ n. filter (is_leaf c.args.dimension.now) (range_with_len 0 n)) all
