use Rattle.std.proofs.Common.{◌≡◌, refl, ℕ, zero, suc, ℤ, ◌-◌, ◌<◌, ◌∙◌, sym, ap, arith, Option, Some, None, List, length, map, [], ◌∷◌, ◌++◌}
use Rattle.std.specs.Prelude.{slice_get, slice_index_or, unwrap_or}
use Rattle.std.proofs.lemmas.List.{length-map}
use Rattle.order_find.specs.declared.link.LinkBy.{LinkBy}
use Rattle.order_find.specs.declared.link.LinkBy.TheVariants.{Below}
use Rattle.order_find.specs.Slots.{leaves_below}
use Rattle.order_find.specs.Links.{maker}
use Rattle.read_sources.proofs.Lists.{in-first, in-second, in-third}
use Rattle.order_find.proofs.circle.made_by.Goals as goal

-- each of these slots is one towards a leaf
below-held : (xs : List (ℕ × ℤ)) (k : ℕ) → k < length xs → unwrap_or (slice_get (map (λ (pair : ℕ × ℤ). Some Below) xs) k) None ≡ Some Below
below-held [] k low = absurd (omega (arith, low))
below-held (x ∷ xs) zero low = refl
below-held (x ∷ xs) (suc k) low = below-held xs k (omega (arith, low))

pub returns-then-slot-whole : goal.returns-then-slot-whole
returns-then-slot-whole c =
    let p = c.args.graph.now in
    let place = c.args.place in
    let below = leaves_below p.model place in
    let whole = slice_index_or p.of_cubes place.cube [] in
    let own = slice_index_or p.of_nodes c.args.node [] in
    let none : ℕ × ℤ → Option LinkBy = λ pair. Some Below in
    let by : ℕ → Option LinkBy = λ k. Some (maker p k) in
    let leaves : length c.leaves_below-leaves.result.now ≡ length (map none below) =
    ap length (c.leaves_below-leaves.ensures.leaves ∙ ap (λ m. leaves_below m place) c.model.ensures.model) ∙ sym (length-map below none) in
    let many : length c.of_cube-whole.result.now ≡ length (map by whole) = ap length c.of_cube-whole.ensures ∙ sym (length-map whole by) in
    c.row_maker.ensures ∙ ap (λ xs. unwrap_or (slice_get (map by xs) (c.args.slot - length c.leaves_below-leaves.result.now)) None) c.of_cube-whole.ensures
    ∙ in-second (map none below) (map by whole) (map by own) c.args.slot (c.args.slot - length c.leaves_below-leaves.result.now) None
    (omega (arith, leaves, c.if-slot-leaves.false)) (omega (arith, many, c.if-slot-whole.true))

pub returns : goal.returns
returns c =
    let p = c.args.graph.now in
    let place = c.args.place in
    let below = leaves_below p.model place in
    let whole = slice_index_or p.of_cubes place.cube [] in
    let own = slice_index_or p.of_nodes c.args.node [] in
    let none : ℕ × ℤ → Option LinkBy = λ pair. Some Below in
    let by : ℕ → Option LinkBy = λ k. Some (maker p k) in
    let leaves : length c.leaves_below-leaves.result.now ≡ length (map none below) =
    ap length (c.leaves_below-leaves.ensures.leaves ∙ ap (λ m. leaves_below m place) c.model.ensures.model) ∙ sym (length-map below none) in
    let many : length c.of_cube-whole.result.now ≡ length (map by whole) = ap length c.of_cube-whole.ensures ∙ sym (length-map whole by) in
    c.row_maker-2.ensures ∙ ap (λ xs. unwrap_or (slice_get (map by xs) (c.args.slot - length c.leaves_below-leaves.result.now - length c.of_cube-whole.result.now)) None) c.of_node.ensures
    ∙ in-third (map none below) (map by whole) (map by own) c.args.slot (c.args.slot - length c.leaves_below-leaves.result.now - length c.of_cube-whole.result.now) None
    (omega (arith, leaves, many, c.if-slot-leaves.false, c.if-slot-whole.false))

pub returns-then-slot-leaves : goal.returns-then-slot-leaves
returns-then-slot-leaves c =
    let p = c.args.graph.now in
    let place = c.args.place in
    let below = leaves_below p.model place in
    let whole = slice_index_or p.of_cubes place.cube [] in
    let own = slice_index_or p.of_nodes c.args.node [] in
    let none : ℕ × ℤ → Option LinkBy = λ pair. Some Below in
    let by : ℕ → Option LinkBy = λ k. Some (maker p k) in
    let leaves : length c.leaves_below-leaves.result.now ≡ length (map none below) =
    ap length (c.leaves_below-leaves.ensures.leaves ∙ ap (λ m. leaves_below m place) c.model.ensures.model) ∙ sym (length-map below none) in
    sym (below-held below c.args.slot (omega (arith, leaves, length-map below none, c.if-slot-leaves.true)))
    ∙ in-first (map none below) (map by whole ++ map by own) c.args.slot None (omega (arith, leaves, c.if-slot-leaves.true))
