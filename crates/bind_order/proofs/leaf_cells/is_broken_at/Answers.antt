use Rattle.std.proofs.Common.{◌≡◌, ◌∙◌, ◌∷◌, ◌+◌, ◌<◌, ◌≤◌, ◌&&◌, ◌||◌, ℕ, suc, Bool, true, false, List, length, drop, slice_get, Some, refl, sym, ap, arith}
use Rattle.std.specs.List.{list_all}
use Rattle.std.proofs.lemmas.Bool.{or_right}
use Rattle.std.proofs.lemmas.List.{drop_more, drop_all}
use Rattle.std.proofs.lemmas.Option.{get_or_from_slice_get}
use Rattle.dim_core.specs.Outline.{Outline}
use Rattle.cube_space.specs.Layout.{axes}
use Rattle.bind_order.specs.declared.by_kind.PositionByKind.{PositionByKind}
use Rattle.bind_order.specs.Inside.Breaks.{agrees, exceeds, breaks_at, has_pair, have_pairs, is_broken_at}
use Rattle.bind_order.proofs.leaf_cells.is_broken_at.Goals.{then-has_pair, else-has_pair+else-not-has_pair}
use Rattle.bind_order.proofs.leaf_cells.is_broken_at.Goals as goal

-- where constants forbid it, nothing breaks, and else the pairs of elements decide
never : (ds : List Outline) (front : List PositionByKind) (last : PositionByKind) → (exceeds last && list_all agrees front) ≡ false → is_broken_at ds front last ≡ false
unfolding is_broken_at
never ds front last none = ap (λ b. b && have_pairs (breaks_at front last) 0 false ds) none

by-pairs : (ds : List Outline) (front : List PositionByKind) (last : PositionByKind) → (exceeds last && list_all agrees front) ≡ true → is_broken_at ds front last ≡ have_pairs (breaks_at front last) 0 false ds
unfolding is_broken_at
by-pairs ds front last may = ap (λ b. b && have_pairs (breaks_at front last) 0 false ds) may

-- a turn of the loop
turn : (test : ℕ → ℕ → ℕ → Bool) (ds : List Outline) (place : ℕ) (some total leaf whole : Bool) (d : Outline) → place < length ds → slice_get ds place ≡ Some d
    → total ≡ has_pair (test place) false d → leaf ≡ has_pair (test place) true d → have_pairs test place some (drop place ds) ≡ whole
    → ((total || leaf) && have_pairs test (suc place) (some || total) (drop (place + 1) ds)) ≡ whole
unfolding have_pairs
turn test ds place some total leaf whole d low is a b so =
    let split : drop place ds ≡ d ∷ drop (place + 1) ds = drop_more ds place d low ∙ ap (λ x. x ∷ drop (place + 1) ds) (get_or_from_slice_get ds place d d is) in
    ap (λ t. (t || leaf) && have_pairs test (suc place) (some || t) (drop (place + 1) ds)) a
    ∙ ap (λ l. (has_pair (test place) false d || l) && have_pairs test (suc place) (some || has_pair (test place) false d) (drop (place + 1) ds)) b
    ∙ sym (ap (have_pairs test place some) split) ∙ so

-- one that goes on
step : (test : ℕ → ℕ → ℕ → Bool) (ds : List Outline) (place : ℕ) (some total leaf next whole : Bool) (d : Outline) → place < length ds → slice_get ds place ≡ Some d
    → total ≡ has_pair (test place) false d → leaf ≡ has_pair (test place) true d → (total || leaf) ≡ true → next ≡ (some || total)
    → have_pairs test place some (drop place ds) ≡ whole → have_pairs test (place + 1) next (drop (place + 1) ds) ≡ whole
step test ds place some total leaf next whole d low is a b on same so =
    let further : place + 1 ≡ suc place = omega arith in
    ap (λ k. have_pairs test k next (drop (place + 1) ds)) further
    ∙ ap (λ s. have_pairs test (suc place) s (drop (place + 1) ds)) same
    ∙ sym (ap (λ t. t && have_pairs test (suc place) (some || total) (drop (place + 1) ds)) on)
    ∙ turn test ds place some total leaf whole d low is a b so

end : (test : ℕ → ℕ → ℕ → Bool) (ds : List Outline) (place : ℕ) (some whole : Bool) → length ds ≤ place → have_pairs test place some (drop place ds) ≡ whole → some ≡ whole
unfolding have_pairs
end test ds place some whole past so = sym (ap (have_pairs test place some) (drop_all place ds past)) ∙ so

or_nothing : (a b : Bool) → b ≡ false → a ≡ (a || b)
or_nothing true b none = refl
or_nothing false b none = sym none

pub returns-then-not-may_break : goal.returns-then-not-may_break
returns-then-not-may_break c =
    sym (never (axes c.args.space.now c.args.cube) c.args.front.now c.args.last.now (sym c.may_break.ensures ∙ c.if-not-may_break.true))

pub returns-then-not-has_pair : goal.returns-then-not-has_pair
returns-then-not-has_pair c =
    let ds = axes c.args.space.now c.args.cube in
    let front = c.args.front.now in
    let last = c.args.last.now in
    let test = breaks_at front last in
    let i = c.loop-place.place in
    let low : i < length ds = omega (arith, c.loop-place-test.true, c.axis_count-place-end.ensures.value) in
    let total = c.has_pair.result in
    let leaf = c.has_pair-else-has_pair.result in
    let off : (total || leaf) ≡ false = ap (λ t. t || leaf) c.if-has_pair.false ∙ c.if-not-has_pair.true in
    sym (ap (λ b. b && have_pairs test (suc i) (c.loop-place.some || total) (drop (i + 1) ds)) off)
    ∙ turn test ds i c.loop-place.some total leaf _ c.axis-dimension.result.now low c.axis-dimension.ensures c.has_pair.ensures c.has_pair-else-has_pair.ensures c.loop-place.invariant
    ∙ sym (by-pairs ds front last (sym c.may_break.ensures ∙ c.if-not-may_break.false))

pub loop-place-preserved : goal.loop-place-preserved
loop-place-preserved c =
    let ds = axes c.args.space.now c.args.cube in
    let test = breaks_at c.args.front.now c.args.last.now in
    let i = c.loop-place.place in
    let some = c.loop-place.some in
    let total = c.has_pair.result in
    let d = c.axis-dimension.result.now in
    let low : i < length ds = omega (arith, c.loop-place-test.true, c.axis_count-place-end.ensures.value) in
    elim c.if-has_pair.branch [
      | then-has_pair w ↦ step test ds i some total (has_pair (test i) true d) c.if-has_pair.some _ d low c.axis-dimension.ensures c.has_pair.ensures refl
          (ap (λ t. t || has_pair (test i) true d) w.if-has_pair.true) (w.some-is ∙ sym (or_right some total w.if-has_pair.true)) c.loop-place.invariant
      | else-has_pair+else-not-has_pair w ↦ step test ds i some total w.has_pair-else-has_pair.result c.if-has_pair.some _ d low c.axis-dimension.ensures c.has_pair.ensures w.has_pair-else-has_pair.ensures
          (or_right total w.has_pair-else-has_pair.result w.if-not-has_pair.false) (w.some-is ∙ or_nothing some total w.if-has_pair.false) c.loop-place.invariant
    ]

pub returns : goal.returns
returns c =
    let ds = axes c.args.space.now c.args.cube in
    let front = c.args.front.now in
    let last = c.args.last.now in
    end (breaks_at front last) ds c.loop-place.place c.loop-place.some _ (omega (arith, c.loop-place-test.false, c.axis_count-place-end.ensures.value)) c.loop-place.invariant
    ∙ sym (by-pairs ds front last (sym c.may_break.ensures ∙ c.if-not-may_break.false))
