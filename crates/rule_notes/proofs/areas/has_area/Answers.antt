use Rattle.std.proofs.Common.{◌≡◌, ◌∙◌, ◌+◌, ◌-◌, ◌&&◌, arith, ap, sym, suc, ℕ, Bool, Option, List, length, true, false}
use Rattle.std.specs.List.{list_all, range_with_len}
use Rattle.cube_space.specs.Layout.{axes}
use Rattle.rule_notes.specs.Inside.Areas.{has_set, has_set_at, has_area}
use Rattle.rule_notes.proofs.Ranges.{all-more}
use Rattle.rule_notes.proofs.areas.has_area.Goals as goal

-- the answer in one dimension
here : (size : ℕ) (own its : Option (List ℕ)) (size_is : ℕ) (own_is its_is : Option (List ℕ)) (t r : Bool) → size ≡ size_is → own ≡ own_is → its ≡ its_is → r ≡ has_set size own its → r ≡ t → has_set size_is own_is its_is ≡ t
here size own its size_is own_is its_is t r a b c is r_is = ap (λ n. has_set n own_is its_is) (sym a) ∙ ap (λ s. has_set size s its_is) (sym b) ∙ ap (has_set size own) (sym c) ∙ sym is ∙ r_is

pub returns-then-not-has_set : goal.returns-then-not-has_set
unfolding has_area
returns-then-not-has_set c =
    let space = c.args.model.now.space in
    let test = has_set_at space c.args.cube c.args.outer.now c.args.inner.now in
    let count = length (axes space c.args.cube) in
    let more : count - c.each.dim ≡ suc (count - (c.each.dim + 1)) = omega (arith, c.each-test.true, c.axis_count-dim-end.ensures.count) in
    let lacks : test c.each.dim ≡ false =
    here c.len.result c.set_at-own.result.now c.set_at-its.result.now _ _ _ false c.has_set.result (c.len.ensures.len ∙ sym c.axis.ensures.size) c.set_at-own.ensures.set c.set_at-its.ensures.set c.has_set.ensures c.if-not-has_set.true in
    sym (all-more test c.each.dim (count - c.each.dim) (count - (c.each.dim + 1)) more ∙ ap (λ t. t && list_all test (range_with_len (c.each.dim + 1) (count - (c.each.dim + 1)))) lacks) ∙ c.each.invariant

pub each-preserved : goal.each-preserved
each-preserved c =
    let space = c.args.model.now.space in
    let test = has_set_at space c.args.cube c.args.outer.now c.args.inner.now in
    let count = length (axes space c.args.cube) in
    let more : count - c.each.dim ≡ suc (count - (c.each.dim + 1)) = omega (arith, c.each-test.true, c.axis_count-dim-end.ensures.count) in
    let has : test c.each.dim ≡ true =
    here c.len.result c.set_at-own.result.now c.set_at-its.result.now _ _ _ true c.has_set.result (c.len.ensures.len ∙ sym c.axis.ensures.size) c.set_at-own.ensures.set c.set_at-its.ensures.set c.has_set.ensures c.if-not-has_set.false in
    sym (all-more test c.each.dim (count - c.each.dim) (count - (c.each.dim + 1)) more ∙ ap (λ t. t && list_all test (range_with_len (c.each.dim + 1) (count - (c.each.dim + 1)))) has) ∙ c.each.invariant

pub returns : goal.returns
unfolding has_area
returns c =
    let space = c.args.model.now.space in
    let test = has_set_at space c.args.cube c.args.outer.now c.args.inner.now in
    let count = length (axes space c.args.cube) in
    let none : count - c.each.dim ≡ 0 = omega (arith, c.each-test.false, c.axis_count-dim-end.ensures.count) in
    sym (ap (λ n. list_all test (range_with_len c.each.dim n)) none) ∙ c.each.invariant
