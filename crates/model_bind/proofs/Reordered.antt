-- The rules of a model in the orders that are found.
use Rattle.std.proofs.Common.{◌≡◌, inl, inr, refl, sym, ap, ◌∙◌, arith, subst, ℕ, ◌+◌, ◌<◌, ◌≤◌, None, List, [], ◌∷◌, ◌++◌, map, length, set, length-append, All}
use Rattle.std.specs.Prelude.{slice_index_or}
use Rattle.std.specs.List.{range_with_len}
use Rattle.std.proofs.lemmas.Bool.{cases_lt}
use Rattle.std.proofs.lemmas.List.{length-set, get_or-set_same, get_or-set_other, get_or_append_left, get_or_push}
use Rattle.std.proofs.lemmas.List.FromFn.{fill_by_all, get_or-map-range_with_len, length-map-range_with_len}
use Rattle.cube_space.specs.Cells.{IsSpace}
use Rattle.rule_model.specs.declared.order.Order.{Order}
use Rattle.rule_model.specs.declared.rules.CubeRules.{CubeRules}
use Rattle.rule_model.specs.BoundModel.{BoundModel, rules_of, no_rules}
use Rattle.rule_model.specs.Conditions.{AreRules}
use Rattle.arrow_laws.specs.Arrows.{FitArrows}
use Rattle.arrow_laws.specs.Nodes.{NodeRanks}
use Rattle.arrow_laws.specs.Ranked.{HasOneLag, with_order, order_by, ranked, AreNodeRanks}
use Rattle.order_find.specs.Found.{AreFound}
use Rattle.model_bind.specs.Binding.{IsRanked}

abbrev no_order : Order
no_order = record { positions = []; totals = None }

-- the rules of a cube with another order
abbrev pub reordered : List CubeRules → List Order → ℕ → CubeRules
reordered rules orders cube = with_order (slice_index_or rules cube no_rules) (slice_index_or orders cube no_order)

-- the first of these rules have these orders
pub record AreReordered (rules : List CubeRules) (orders : List Order) (now : List CubeRules) : Type 0 where
  pub long : length now ≡ length rules
  pub front : (k : ℕ) → k < length orders → slice_index_or now k no_rules ≡ reordered rules orders k
  pub back : (k : ℕ) → length orders ≤ k → slice_index_or now k no_rules ≡ slice_index_or rules k no_rules

pub none-reordered : (rules : List CubeRules) → AreReordered rules [] rules
none-reordered rules = record { long = refl; front = λ k low. absurd (omega (arith, low)); back = λ k high. refl }

-- one more
pub more-reordered : (rules : List CubeRules) (orders : List Order) (now : List CubeRules) (order : Order) → AreReordered rules orders now → length orders < length rules
    → AreReordered rules (orders ++ order ∷ []) (set now (length orders) (with_order (slice_index_or now (length orders) no_rules) order))
more-reordered rules orders now order are low = record {
  long = length-set now n put ∙ are.long;
  front = λ k under. elim (cases_lt k n) [
    | inl less ↦ get_or-set_other now n k put no_rules (omega (arith, less)) ∙ are.front k less ∙ ap (with_order (slice_index_or rules k no_rules)) (sym (get_or_append_left orders (order ∷ []) no_order k less))
    | inr high ↦ (let same : n ≡ k = omega (arith, high, under, long) in subst (λ i. slice_index_or (set now n put) i no_rules ≡ reordered rules (orders ++ order ∷ []) i) same here)
  ];
  back = λ k over. get_or-set_other now n k put no_rules (omega (arith, over, long)) ∙ are.back k (omega (arith, over, long));
}
  where
    n : ℕ
    n = length orders

    put : CubeRules
    put = with_order (slice_index_or now n no_rules) order

    long : length (orders ++ order ∷ []) ≡ n + 1
    long = length-append orders (order ∷ [])

    here : slice_index_or (set now n put) n no_rules ≡ reordered rules (orders ++ order ∷ []) n
    here =
        let own : slice_index_or now n no_rules ≡ slice_index_or rules n no_rules = are.back n (omega arith) in
        get_or-set_same now n put no_rules (omega (arith, low, are.long)) ∙ ap (λ r. with_order r order) own
        ∙ ap (with_order (slice_index_or rules n no_rules)) (sym (get_or_push orders order no_order n refl))

-- all of them
pub all-reordered : (rules : List CubeRules) (orders : List Order) (now : List CubeRules) → AreReordered rules orders now → length orders ≡ length rules
    → now ≡ map (reordered rules orders) (range_with_len 0 (length rules))
all-reordered rules orders now are each =
    fill_by_all (reordered rules orders) now (length rules) no_rules are.long (λ k low. are.front k (omega (arith, low, each)))

module _ (m : BoundModel) (orders : List Order) (space : IsSpace m.space) (are : AreRules m.space m.rules) (found : AreFound m orders) where
  abbrev count : ℕ
  count = length m.space.cubes

  pub as-many : length orders ≡ length m.rules
  as-many = ap length found.made ∙ length-map-range_with_len (order_by m found.ranks) 0 count ∙ sym are.each_cube

  own-is : (k : ℕ) → k < count → slice_index_or orders k no_order ≡ order_by m found.ranks k
  own-is k low = ap (λ l. slice_index_or l k no_order) found.made ∙ get_or-map-range_with_len (order_by m found.ranks) 0 count k k no_order low (omega arith)

  abbrev after : List CubeRules
  after = map (reordered m.rules orders) (range_with_len 0 (length m.rules))

  after-long : length after ≡ count
  after-long = length-map-range_with_len (reordered m.rules orders) 0 (length m.rules) ∙ are.each_cube

  after-ranked : after ≡ (ranked m found.ranks).rules
  after-ranked =
      fill_by_all (λ cube. with_order (rules_of m cube) (order_by m found.ranks cube)) after count no_rules after-long
      (λ k low. get_or-map-range_with_len (reordered m.rules orders) 0 (length m.rules) k k no_rules (omega (arith, low, are.each_cube)) (omega arith)
      ∙ ap (with_order (rules_of m k)) (own-is k low))

  pub are-rules : ((b : BoundModel) (ranks : NodeRanks) → IsSpace b.space → AreRules b.space b.rules → All HasOneLag b.rules → FitArrows b ranks → AreNodeRanks b ranks
      → AreRules b.space (ranked b ranks).rules) → All HasOneLag m.rules → AreRules m.space after
  are-rules law one = subst (AreRules m.space) (sym after-ranked) (law m found.ranks space are one found.fit found.each)

  pub is-ranked : IsRanked m (record { space = m.space; rules = after })
  is-ranked = record {
    space = space;
    orders = orders;
    found = found;
    with_them = ap (λ n. record { space = m.space; rules = map (reordered m.rules orders) (range_with_len 0 n) }) are.each_cube;
  }
