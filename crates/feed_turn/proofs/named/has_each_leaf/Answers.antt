use Rattle.std.proofs.Common.{rules, ◌≡◌, ◌<◌, ◌∙◌, Bool, true, false, not, ◌||◌, ap, sym, refl, arith, get_or, length}
use Rattle.std.proofs.lemmas.Bool.{or_left, or_right}
use Rattle.cube_space.specs.Cells.{is_leaf}
use Rattle.cube_space.proofs.LeafTests.{is_leaf-test}
use Rattle.feed_turn.proofs.Ranges.{all-fails, all-next}
use Rattle.feed_turn.proofs.named.has_each_leaf.Goals as goal
use Rattle.feed_turn.proofs.named.has_each_leaf.Goals.{else-is_leaf-via-then-is_leaf+else-not-marks-element, else-is_leaf-via-else-is_leaf}

off : (t : Bool) → not t ≡ true → t ≡ false
off true h = absurd (cc)
off false h = refl

on : (t : Bool) → not t ≡ false → t ≡ true
on true h = refl
on false h = absurd (cc)

pub returns-then-not-marks-element : goal.returns-then-not-marks-element
returns-then-not-marks-element c =
    let d = c.args.dimension.now in
    let k = c.each.element in
    let low : k < length d.elements = omega (arith, c.each-test.true, c.len-element-end.ensures.len) in
    let leaf : is_leaf d k ≡ true = sym (is_leaf-test d k c.is_leaf.result c.is_leaf.ensures) ∙ c.if-is_leaf.true in
    let clear : get_or c.args.marks.now k false ≡ false = search rules in
    sym (all-fails (λ e. not (is_leaf d e) || get_or c.args.marks.now e false) (length d.elements) k low (ap (λ b. not b || get_or c.args.marks.now k false) leaf ∙ clear))

pub each-preserved : goal.each-preserved
each-preserved c =
    let d = c.args.dimension.now in
    let k = c.each.element in
    let test = is_leaf-test d k c.is_leaf.result c.is_leaf.ensures in
    elim c.else-is_leaf.branch [
      | else-is_leaf-via-then-is_leaf+else-not-marks-element w ↦
          let set : get_or c.args.marks.now k false ≡ true = search rules in
          all-next (λ e. not (is_leaf d e) || get_or c.args.marks.now e false) k c.each.invariant (or_right (not (is_leaf d k)) (get_or c.args.marks.now k false) set)
      | else-is_leaf-via-else-is_leaf w ↦
          all-next (λ e. not (is_leaf d e) || get_or c.args.marks.now e false) k c.each.invariant (or_left (not (is_leaf d k)) (get_or c.args.marks.now k false) (ap not (sym test ∙ w.if-is_leaf.false)))
    ]
