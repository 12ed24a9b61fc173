-- Ranks of a plan's nodes, cut into those of each cube's elements.
use Rattle.std.proofs.Common.{◌≡◌, sym, ap, ◌∙◌, arith, subst, ℕ, ◌<◌, ◌≤◌, ◌^◌, ◌+◌, Bool, true, false, List, [], ◌∷◌, ◌++◌, length, map, All}
use Rattle.std.specs.Prelude.{Some, None, slice_index, slice_index_or, if◌then◌else◌}
use Rattle.std.specs.List.{range_with_len}
use Rattle.std.proofs.lemmas.List.FromFn.{get_or-map-range_with_len, length-map-range_with_len, map-range_with_len_more}
use Rattle.std.proofs.lemmas.List.Elements.{All-map}
use Rattle.cube_space.specs.Layout.{axes}
use Rattle.rule_model.specs.declared.order.Order.{Order}
use Rattle.rule_model.specs.declared.order.Position.{Position}
use Rattle.rule_model.specs.declared.order.Position.TheVariants.{Ranks}
use Rattle.rule_model.specs.Order.{position_of}
use Rattle.rule_model.specs.System.{cubes_of}
use Rattle.rule_model.specs.Conditions.{greatest_rank, rank_in}
use Rattle.order_laws.proofs.ChildFacts.{size-at}
use Rattle.least_ranks.specs.Graph.{Fits, IsLeast}
use Rattle.arrow_laws.specs.Nodes.{has_kinds, last_of, ranks_in}
use Rattle.arrow_laws.specs.Arrows.{IsLevelThroughout}
use Rattle.arrow_laws.specs.Ranked.{AreNodeRanks, order_by}
use Rattle.order_find.specs.declared.numbering.Place.{Place}
use Rattle.order_find.specs.Numbers.{IsPlace, width, number_of, place_at}
use Rattle.order_find.specs.Slots.{Plan, node_count, arrows_of}
use Rattle.order_find.specs.PlanOfAll.{IsPlanOfAll, AreRanksOf}
use Rattle.order_find.specs.Found.{AreLeast, AreFound}
use Rattle.order_find.specs.Cut.{ranks_of, all_ranks, order_in}
use Rattle.order_find.proofs.Fitting.{fit-model, extended, nodes-are}

module _ (p : Plan) (numbered : List ℕ) where
  pub ranks-in : (kind : Bool) (cube : ℕ) → cube < length p.model.space.cubes → ranks_in (all_ranks p numbered) kind cube ≡ ranks_of p numbered kind cube
  ranks-in true cube low = get_or-map-range_with_len (ranks_of p numbered true) 0 (length p.model.space.cubes) cube cube [] low (omega arith)
  ranks-in false cube low = get_or-map-range_with_len (ranks_of p numbered false) 0 (length p.model.space.cubes) cube cube [] low (omega arith)

  are-ranks : AreRanksOf p numbered (all_ranks p numbered)
  are-ranks place is =
      ap (λ ranks. rank_in ranks place.element) (ranks-in place.kind place.cube is.cube)
      ∙ get_or-map-range_with_len (λ element. slice_index numbered (number_of p.numbering (place_at place.cube place.kind element))) 0 (width p.model.space place.cube) place.element place.element 0 is.element (omega arith)

  least : IsPlanOfAll p → IsLeast (arrows_of p) numbered → AreLeast p.model (all_ranks p numbered)
  least all most others fits node cube element kind =
      let (again, fit, are) = extended p others all fits in
      let place : Place = record { cube = node.cube; element = node.element; kind = node.kind } in
      let is : IsPlace p.model place = record { cube = cube; element = element; kind = kind } in
      let number = number_of p.numbering place in
      let low : number < (arrows_of p).nodes = omega (arith, nodes-are p, place-low p all place is) in
      omega (arith, most again fit number low, are-ranks place is, are place is)
    where
      place-low : (p : Plan) → IsPlanOfAll p → (place : Place) → IsPlace p.model place → number_of p.numbering place < node_count p
      place-low p all place is = omega (arith, Rattle.std.proofs.lemmas.Option.slice_get_within p.numbering.places.items (number_of p.numbering place) place (all.plan.numbering.there place is))

  pub node-ranks : ((k : ℕ) → slice_index numbered k < 2 ^ 32) → AreNodeRanks p.model (all_ranks p numbered)
  node-ranks fits = record {
    each = λ cube kind d low has at.
        ap length (ranks-in kind cube low) ∙ length-map-range_with_len (λ element. slice_index numbered (number_of p.numbering (place_at cube kind element))) 0 (width p.model.space cube)
        ∙ size-at (axes p.model.space cube) (last_of p.model.space cube) d at;
    small = λ cube kind low has.
        subst (All (λ rank. rank ≤ greatest_rank)) (sym (ranks-in kind cube low))
        (All-map (λ rank. rank ≤ greatest_rank) (λ element. slice_index numbered (number_of p.numbering (place_at cube kind element))) (range_with_len 0 (width p.model.space cube))
        (λ k d within. let few = fits (number_of p.numbering (place_at cube kind (slice_index_or (range_with_len 0 (width p.model.space cube)) k d))) in omega (arith, few)));
  }

-- one element more of a cube
pub ranks-more : (p : Plan) (numbered : List ℕ) (cube : ℕ) (kind : Bool) (n number : ℕ) (own more : List ℕ) → more ≡ own ++ slice_index numbered number ∷ []
    → own ≡ map (λ element. slice_index numbered (number_of p.numbering (place_at cube kind element))) (range_with_len 0 n) → number ≡ number_of p.numbering (place_at cube kind n)
    → more ≡ map (λ element. slice_index numbered (number_of p.numbering (place_at cube kind element))) (range_with_len 0 (n + 1))
ranks-more p numbered cube kind n number own more is own_is number_is =
    let rank : ℕ → ℕ = λ element. slice_index numbered (number_of p.numbering (place_at cube kind element)) in
    is ∙ ap (λ xs. xs ++ slice_index numbered number ∷ []) own_is ∙ ap (λ k. map rank (range_with_len 0 n) ++ slice_index numbered k ∷ []) number_is
    ∙ sym (map-range_with_len_more rank 0 n n (omega arith))

-- one order more
pub orders-more : (p : Plan) (numbered : List ℕ) (n : ℕ) (own more : List Order) (order : Order) → n < length p.model.space.cubes → more ≡ own ++ order ∷ []
    → own ≡ map (order_by p.model (all_ranks p numbered)) (range_with_len 0 n)
    → order ≡ order_in p numbered n
    → more ≡ map (order_by p.model (all_ranks p numbered)) (range_with_len 0 (n + 1))
orders-more p numbered n own more order low is own_is order_is =
    let by : ℕ → Order = order_by p.model (all_ranks p numbered) in
    let listed : List ℕ → List Position = λ ranks. position_of p.model n true 0 ∷ Ranks (last_of p.model.space n) ranks ∷ [] in
    let make : List ℕ → List ℕ → Order = λ leaves totals. record { positions = listed leaves; totals = if has_kinds p.model n then Some (listed totals) else None } in
    let same : order ≡ by n = order_is ∙ ap (λ leaves. make leaves (ranks_of p numbered false n)) (sym (ranks-in p numbered true n low)) ∙ ap (make (ranks_in (all_ranks p numbered) true n)) (sym (ranks-in p numbered false n low)) in
    is ∙ ap (λ xs. xs ++ order ∷ []) own_is ∙ ap (λ last. map by (range_with_len 0 n) ++ last ∷ []) same ∙ sym (map-range_with_len_more by 0 n n (omega arith))

pub are-found : (p : Plan) (numbered : List ℕ) (orders : List Order) → IsPlanOfAll p → IsLevelThroughout p.model → Fits (arrows_of p) numbered → IsLeast (arrows_of p) numbered
    → AreNodeRanks p.model (all_ranks p numbered) → orders ≡ map (order_by p.model (all_ranks p numbered)) (cubes_of p.model) → AreFound p.model orders
are-found p numbered orders all level fits most each is = record {
  level = level;
  ranks = all_ranks p numbered;
  each = each;
  fit = fit-model p all numbered fits (all_ranks p numbered) (are-ranks p numbered);
  least = least p numbered all most;
  made = is;
}
