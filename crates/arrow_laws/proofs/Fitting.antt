-- Ranks that fit the arrows of a model order it.
use Rattle.std.proofs.Common.{◌≡◌, refl, sym, ap, ◌∙◌, arith, subst, ℕ, zero, suc, ◌+◌, ◌<◌, ◌≤◌, ◌⊎◌, Bool, true, false, not, ◌||◌, Some, None, List, [], ◌∷◌, length, map, get_or, All, Contains, inl, inr, if◌then◌else◌}
use Rattle.std.specs.Prelude.{◌↔◌, IsTrue, unwrap_or, slice_get, slice_index_or}
use Rattle.std.proofs.lemmas.List.FromFn.{length-map-range_with_len, get_or-map-range_with_len}
use Rattle.std.proofs.lemmas.List.Elements.{All-contains, Contains-get_or, All-nil, All-cons}
use Rattle.dim_core.specs.Outline.{Outline}
use Rattle.dim_weights.proofs.Nonzero.{counts-nonzero}
use Rattle.cube_space.specs.Layout.{axes}
use Rattle.cube_space.specs.Cells.{IsSpace, IsCell, cube_of, elements_of, is_leaf, is_leaf_cell}
use Rattle.rule_laws.specs.declared.formula.Formula.{Formula}
use Rattle.rule_laws.specs.Meaning.{Precedent, Named, Components, precedents}
use Rattle.rule_laws.specs.RuleSystem.{Rule, part_of}
use Rattle.rule_laws.specs.Ordered.{IsCellOf, HasPrecedent, Throughout}
use Rattle.rule_laws.specs.OrderByPlace.{IsDecidedByPosition, IsDecidedByLevel, IsOrderedByPlace}
use Rattle.rule_model.specs.declared.order.Position.{Position}
use Rattle.rule_model.specs.declared.order.Position.TheVariants.{Constant, Ranks}
use Rattle.rule_model.specs.declared.rules.CubeRules.{CubeRules}
use Rattle.rule_model.specs.declared.rules.Statement.{Statement}
use Rattle.rule_model.specs.BoundModel.{BoundModel, rules_of, no_rules}
use Rattle.rule_model.specs.Order.{most_positions, positions_for, position_in, position_of, number_by, number_at, cell_level}
use Rattle.rule_model.specs.System.{system_of, positions_of, rule_of, cube_rules}
use Rattle.rule_model.specs.Conditions.{IsPrecedent, IsStatement, IsPosition, IsLeafBelow, HoldsLeafCells, IsOrderOf, AreCubeRules, AreRules}
use Rattle.rule_model.proofs.LeafCells.{element-of, coefs-counted}
use Rattle.model_laws.proofs.Formed.{well_formed}
use Rattle.model_laws.proofs.Levels.{axis-is}
use Rattle.order_laws.proofs.CellFacts.{cell-cube}
use Rattle.order_laws.proofs.Ordered.{parts-flat, parts-map, part-reads}
use Rattle.cover_laws.proofs.Counted.{only-own}
use Rattle.arrow_laws.specs.Nodes.{NodeRanks, node_of, node_kind, has_kinds, has_nodes, last_of, ranks_in, rank_of}
use Rattle.arrow_laws.specs.Arrows.{lag, IsLagged, IsLevel, IsWeak, Reads, FitArrows, IsLevelThroughout}
use Rattle.arrow_laws.specs.Ranked.{with_order, HasOneLag, positions_by, order_by, ranked, AreNodeRanks, HoldsLeavesOf}
use Rattle.arrow_laws.specs.ByDimension.{is_lagged, is_weak}
use Rattle.lists.proofs.Found.{there as place-there}
use Rattle.arrow_laws.proofs.Made.{last-there}
use Rattle.arrow_laws.proofs.Lag.{lagged-decided, weak-decided}

module _ (m : BoundModel) (valid : IsSpace m.space) (ranks : NodeRanks) (fit : FitArrows m ranks) where
  -- no element ranks lower than a leaf that counts in it
  pub leaves-held : (cube : ℕ) (d : Outline) → cube < length m.space.cubes → slice_get (axes m.space cube) (last_of m.space cube) ≡ Some d
      → HoldsLeavesOf d (ranks_in ranks true cube) (ranks_in ranks (node_kind m cube false) cube)
  leaves-held cube d there last element leaf own other counts = by (node_kind m cube false) refl (is_leaf d element) refl
    where
      IsHeld : Bool → Type 0
      IsHeld kind = get_or (ranks_in ranks true cube) leaf 0 ≤ get_or (ranks_in ranks kind cube) element 0

      arrow : (node_kind m cube false ≡ true → is_leaf d element ≡ false) → IsHeld (node_kind m cube false)
      arrow consolidated =
          let low = fit (record { cube = cube; element = element; kind = node_kind m cube false }) (record { cube = cube; element = leaf; kind = true }) false
          (inr (record {
            within = there;
            same_cube = refl;
            dimension = d;
            last = last;
            source = own;
            target = other;
            source_kind = refl;
            target_kind = refl;
            consolidated = consolidated;
            counts = counts;
            weak = refl;
          })) in
          omega (arith, low)

      as-high : (a b : ℕ) → a ≡ b → get_or (ranks_in ranks true cube) b 0 ≤ get_or (ranks_in ranks true cube) a 0
      as-high a b e = let same : get_or (ranks_in ranks true cube) a 0 ≡ get_or (ranks_in ranks true cube) b 0 = ap (λ x. get_or (ranks_in ranks true cube) x 0) e in omega (arith, same)

      by : (k : Bool) → node_kind m cube false ≡ k → (t : Bool) → is_leaf d element ≡ t → IsHeld (node_kind m cube false)
      by true k true is =
          subst IsHeld (sym k) (as-high element leaf (only-own d (axis-is m.space valid cube (last_of m.space cube) d last) element leaf own is (counts-nonzero _ counts)))
      by false k true is = arrow (λ e. absurd (let clash : false ≡ true = sym k ∙ e in cc))
      by kind k false is = arrow (λ e. is)

-- the rules of each cube have one lag
one-each : (rules : List CubeRules) → All HasOneLag rules → (cube : ℕ) → HasOneLag (get_or rules cube no_rules)
one-each [] all cube = refl
one-each (r ∷ rules) all zero = all 0 no_rules (omega arith)
one-each (r ∷ rules) all (suc cube) = one-each rules (λ k d low. all (suc k) d (omega (arith, low))) cube

module _ (m : BoundModel) (valid : IsSpace m.space) (ranks : NodeRanks) (fit : FitArrows m ranks) (one : All HasOneLag m.rules) where
  abbrev after : BoundModel
  after = ranked m ranks

  -- the first number of a cell before, whatever its kind
  position-before : (cube : ℕ) (kind : Bool) → position_of m cube kind 0 ≡ position_of m cube true 0
  position-before cube true = refl
  position-before cube false = one-each m.rules one cube

  -- the positions of a kind are those of its nodes
  lists : (cube : ℕ) (kind : Bool) → positions_for kind (order_by m ranks cube) ≡ positions_by m ranks cube (node_kind m cube kind)
  lists cube true = refl
  lists cube false = by (has_kinds m cube)
    where
      by : (h : Bool) → unwrap_or (if h then Some (positions_by m ranks cube false) else None) (positions_by m ranks cube true) ≡ positions_by m ranks cube (not h)
      by true = refl
      by false = refl

  abbrev position_after : ℕ → Bool → ℕ → Position
  position_after cube kind q = slice_index_or (positions_by m ranks cube kind) q (Constant 0)

  either : (cube : ℕ) (kind : Bool) (q : ℕ) → position_in (order_by m ranks cube) kind q ≡ position_after cube (node_kind m cube kind) q
  either cube kind q = ap (λ l. slice_index_or l q (Constant 0)) (lists cube kind)

  rules-after : (cube : ℕ) → cube < length m.space.cubes → rules_of after cube ≡ with_order (rules_of m cube) (order_by m ranks cube)
  rules-after cube there = get_or-map-range_with_len (λ cube. with_order (rules_of m cube) (order_by m ranks cube)) 0 (length m.space.cubes) cube cube no_rules there (omega arith)

  number-after : (q c : ℕ) → IsCell m.space c
      → number_at after q c ≡ number_by (position_after (cube_of m.space c) (node_kind m (cube_of m.space c) (is_leaf_cell m.space c)) q) (elements_of m.space c)
  unfolding number_at
  number-after q c cell =
      ap (λ (r : CubeRules). number_by (position_in r.order (is_leaf_cell m.space c) q) (elements_of m.space c)) (rules-after (cube_of m.space c) (cell-cube m.space c cell))
      ∙ ap (λ (p : Position). number_by p (elements_of m.space c)) (either (cube_of m.space c) (is_leaf_cell m.space c) q)

  lag-after : (c : ℕ) → IsCell m.space c → number_at after 0 c ≡ lag m c
  unfolding number_at
  lag-after c cell = number-after 0 c cell ∙ ap (λ (p : Position). number_by p (elements_of m.space c)) (sym (position-before (cube_of m.space c) (is_leaf_cell m.space c)))

  rank-after : (c : ℕ) → IsCell m.space c → number_at after 1 c ≡ rank_of ranks (node_of m c)
  rank-after c cell = number-after 1 c cell

  -- a cube has nodes of the kind of its cells
  nodes-there : (cube : ℕ) (kind : Bool) → IsTrue (has_nodes m cube (node_kind m cube kind))
  nodes-there cube kind = by (has_kinds m cube) kind
    where
      by : (h kind : Bool) → (kind || not h) || h ≡ true
      by true true = refl
      by true false = refl
      by false true = refl
      by false false = refl

  -- the order of a cube after is one of it
  module _ (ruled : AreRules m.space m.rules) (node_ranks : AreNodeRanks m ranks) (cube : ℕ) (there : cube < length m.space.cubes) where
    abbrev lag_position : Position
    lag_position = position_of m cube true 0

    abbrev rank_position : Bool → Position
    rank_position kind = Ranks (last_of m.space cube) (ranks_in ranks kind cube)

    abbrev totals : Bool
    totals = node_kind m cube false

    first : IsPosition (axes m.space cube) lag_position
    first = by (rules_of m cube).order.positions ((ruled.cube cube there).order.each true)
      where
        by : (positions : List Position) → All (IsPosition (axes m.space cube)) positions → IsPosition (axes m.space cube) (get_or positions 0 (Constant 0))
        by [] all = omega arith
        by (position ∷ positions) all = all 0 position (omega arith)

    second : (kind : Bool) → IsTrue (has_nodes m cube kind) → All (IsPosition (axes m.space cube)) (rank_position kind ∷ [])
    second kind has =
        let (d, here) = place-there (axes m.space cube) (last_of m.space cube) (last-there m.space cube valid there) in
        All-cons (IsPosition (axes m.space cube)) (rank_position kind) []
        (d, here, record { each = node_ranks.each cube kind d there has here; small = node_ranks.small cube kind there has }) (All-nil (IsPosition (axes m.space cube)))

    -- a leaf cell has no greater lag than a consolidated cell in which it counts, and no greater rank
    lag-held : (cell leaf : List ℕ) → IsLeafBelow (axes m.space cube) cell leaf → number_by lag_position leaf ≤ number_by lag_position cell
    lag-held cell leaf below =
        let low = (ruled.cube cube there).order.holds_leaf_cells cell leaf 0 below (λ k less. absurd (omega (arith, less))) in
        subst (λ (p : Position). number_by lag_position leaf ≤ number_by p cell) (position-before cube false) low

    rank-held : (cell leaf : List ℕ) → IsLeafBelow (axes m.space cube) cell leaf → number_by (rank_position true) leaf ≤ number_by (rank_position totals) cell
    rank-held cell leaf below =
        let axis = last_of m.space cube in
        let (d, here) = place-there (axes m.space cube) axis (last-there m.space cube valid there) in
        leaves-held m valid ranks fit cube d there here (get_or cell axis 0) (get_or leaf axis 0)
        (element-of (axes m.space cube) cell axis d below.cell here).1 (element-of (axes m.space cube) leaf axis d below.leaf here).1
        (coefs-counted (axes m.space cube) cell leaf axis d below.counts here)

    held : HoldsLeafCells (axes m.space cube) (order_by m ranks cube)
    held cell leaf zero below equal =
        subst (λ (p : Position). number_by lag_position leaf ≤ number_by p cell) (sym (either cube false 0)) (lag-held cell leaf below)
    held cell leaf (suc zero) below equal =
        subst (λ (p : Position). number_by (rank_position true) leaf ≤ number_by p cell) (sym (either cube false 1)) (rank-held cell leaf below)
    held cell leaf (suc (suc place)) below equal = omega arith

    order-after : IsOrderOf m.space cube (order_by m ranks cube)
    order-after = record { few = few; each = each; holds_leaf_cells = held }
      where
        few : (kind : Bool) → length (positions_for kind (order_by m ranks cube)) ≤ most_positions
        few kind = subst (λ (l : List Position). length l ≤ most_positions) (sym (lists cube kind)) (omega arith)

        each : (kind : Bool) → All (IsPosition (axes m.space cube)) (positions_for kind (order_by m ranks cube))
        each kind =
            subst (All (IsPosition (axes m.space cube))) (sym (lists cube kind))
            (All-cons (IsPosition (axes m.space cube)) lag_position (rank_position (node_kind m cube kind) ∷ []) first (second (node_kind m cube kind) (nodes-there cube kind)))

  -- what holds of the rules before holds after
  pub rules-hold : AreRules m.space m.rules → AreNodeRanks m ranks → AreRules m.space after.rules
  rules-hold ruled node_ranks = record {
    each_cube = length-map-range_with_len (λ cube. with_order (rules_of m cube) (order_by m ranks cube)) 0 (length m.space.cubes);
    cube = λ cube there. subst (AreCubeRules m.space cube) (sym (rules-after cube there)) (each cube there);
  }
    where
      each : (cube : ℕ) → cube < length m.space.cubes → AreCubeRules m.space cube (with_order (rules_of m cube) (order_by m ranks cube))
      each cube there =
          let before = ruled.cube cube there in
          record {
            few_statements = before.few_statements;
            few_feeders = before.few_feeders;
            statements = before.statements;
            feeders = before.feeders;
            order = order-after ruled node_ranks cube there;
          }

  -- cells that don't fall by rank, and aren't greater by lag, are nowhere greater
  none-greater : (c t : ℕ) → IsCell m.space c → IsCell m.space t → lag m t ≤ lag m c → rank_of ranks (node_of m t) ≤ rank_of ranks (node_of m c)
      → (q : ℕ) → number_at after q t ≤ number_at after q c
  none-greater c t cell read lags ranked zero = let a = lag-after c cell in let b = lag-after t read in omega (arith, a, b, lags)
  none-greater c t cell read lags ranked (suc zero) = let a = rank-after c cell in let b = rank-after t read in omega (arith, a, b, ranked)
  none-greater c t cell read lags ranked (suc (suc q)) = let a = number-after (suc (suc q)) c cell in let b = number-after (suc (suc q)) t read in omega (arith, a, b)

  -- the cells of a rule, and what is read from them, are as before
  of-before : (rule : Rule) (kind : Bool) (c : ℕ) → IsCellOf (system_of after) rule kind c → IsCellOf (system_of m) rule kind c
  unfolding system_of
  of-before rule kind c of = record { cell = of.cell; kind_is = of.kind_is; applied = of.applied }

  has-before : (p : Precedent) (c t : ℕ) → HasPrecedent (system_of after) p c t → HasPrecedent (system_of m) p c t
  unfolding system_of
  has-before (Named r) c t has = has
  has-before (Components dim) c t has = has

  module _ (ruled : AreRules m.space m.rules) (level : IsLevelThroughout m) where
    cell-is : (rule : Rule) (kind : Bool) (c : ℕ) → IsCellOf (system_of m) rule kind c → IsCell m.space c
    unfolding system_of
    cell-is rule kind c of = of.cell

    read-is : (p : Precedent) (c t : ℕ) → IsCell m.space c → HasPrecedent (system_of m) p c t → IsCell m.space t
    unfolding system_of
    read-is (Named r) c t cell has = (well_formed m valid ruled).target_cell r c t cell has
    read-is (Components dim) c t cell (pairs, some, (weight, has, counts)) =
        (All-contains (λ pair. IsCell m.space pair.0 × (cell_level m.space pair.0 < cell_level m.space c)) pairs (t, weight) ((well_formed m valid ruled).component_cells c dim pairs cell some) has).0

    module _ (cube : ℕ) (there : cube < length m.space.cubes) (s : Statement) (stands : Contains (rules_of m cube).statements s) (kind : Bool)
        (p : Precedent) (reads : Reads m cube s kind p) (is : IsPrecedent m.space cube p) where
      abbrev rule : Rule
      rule = rule_of m.space cube s

      own-level : IsLevel m cube s kind p
      own-level = All-contains (λ s. (kind : Bool) (p : Precedent) → Reads m cube s kind p → IsLevel m cube s kind p) (rules_of m cube).statements s (level cube there) stands kind p reads

      -- what holds of the cells before holds after
      module _ (Holds : ℕ → ℕ → Type 0) where
        throughout-after : Throughout (system_of m) rule kind p (λ c t. IsCell m.space c → IsCell m.space t → Holds c t) → Throughout (system_of after) rule kind p Holds
        throughout-after h c t of has =
            let before = of-before rule kind c of in
            let had = has-before p c t has in
            let cell = cell-is rule kind c before in
            h c t before had cell (read-is p c t cell had)

      -- ranks along the arrows
      module _ (not_lagged : ¬ IsLagged m cube s kind p) (strict : Bool) (weak : IsWeak m cube s kind p ↔ (strict ≡ false)) where
        falls : Throughout (system_of m) rule kind p (λ c t. rank_of ranks (node_of m t) + (if strict then 1 else 0) ≤ rank_of ranks (node_of m c))
        falls c t of has =
            fit (node_of m c) (node_of m t) strict (inl (record {
              cube = cube;
              within = there;
              statement = s;
              stands = stands;
              kind = kind;
              precedent = p;
              reads = reads;
              level = own-level;
              not_lagged = not_lagged;
              weak = weak;
              joined = record { cell = c; read = t; is_of = of; has = has; source = refl; target = refl };
            }))

      abbrev IsDecided : Type 0
      IsDecided = IsDecidedByPosition (system_of after) (positions_of after) rule kind p ⊎ IsDecidedByLevel (system_of after) (positions_of after) rule kind p

      by-lag : IsLagged m cube s kind p → IsDecided
      unfolding positions_of
      by-lag lagged = inl (0, omega arith, throughout-after (λ c t. number_at after 0 t < number_at after 0 c) smaller, λ q low. absurd (omega (arith, low)))
        where
          smaller : Throughout (system_of m) rule kind p (λ c t. IsCell m.space c → IsCell m.space t → number_at after 0 t < number_at after 0 c)
          smaller c t of has cell read = let a = lag-after c cell in let b = lag-after t read in let low = lagged c t of has in omega (arith, a, b, low)

      by-rank : ¬ IsLagged m cube s kind p → ¬ IsWeak m cube s kind p → IsDecided
      unfolding positions_of
      by-rank not_lagged not_weak =
          inl (1, omega arith, throughout-after (λ c t. number_at after 1 t < number_at after 1 c) smaller, λ q low. throughout-after (λ c t. number_at after q t ≤ number_at after q c) (within q low))
        where
          down : Throughout (system_of m) rule kind p (λ c t. rank_of ranks (node_of m t) + 1 ≤ rank_of ranks (node_of m c))
          down = falls not_lagged true (λ weak. absurd (not_weak weak), λ e. absurd (cc))

          smaller : Throughout (system_of m) rule kind p (λ c t. IsCell m.space c → IsCell m.space t → number_at after 1 t < number_at after 1 c)
          smaller c t of has cell read = let a = rank-after c cell in let b = rank-after t read in let low = down c t of has in omega (arith, a, b, low)

          within : (q : ℕ) → q < 1 → Throughout (system_of m) rule kind p (λ c t. IsCell m.space c → IsCell m.space t → number_at after q t ≤ number_at after q c)
          within q low c t of has cell read = none-greater c t cell read (own-level c t of has) (omega (arith, down c t of has)) q

      by-level : ¬ IsLagged m cube s kind p → IsWeak m cube s kind p → IsDecided
      unfolding positions_of system_of
      by-level not_lagged weak =
          inr (
            throughout-after (λ c t. cell_level m.space t < cell_level m.space c) (λ c t of has cell read. weak c t of has),
            λ q low. throughout-after (λ c t. number_at after q t ≤ number_at after q c) (within q),
          )
        where
          down : Throughout (system_of m) rule kind p (λ c t. rank_of ranks (node_of m t) + 0 ≤ rank_of ranks (node_of m c))
          down = falls not_lagged false (λ weak. refl, λ e. weak)

          within : (q : ℕ) → Throughout (system_of m) rule kind p (λ c t. IsCell m.space c → IsCell m.space t → number_at after q t ≤ number_at after q c)
          within q c t of has cell read = none-greater c t cell read (own-level c t of has) (omega (arith, down c t of has)) q

      decided : IsDecided
      decided =
          let area = (All-contains (IsStatement m.space cube) (rules_of m cube).statements s (ruled.cube cube there).statements stands).area in
          by (is_lagged m cube s.area kind p) refl (is_weak m cube s.area kind p) refl
          (lagged-decided m valid ruled cube there s area kind p is) (weak-decided m valid ruled cube there s area kind p is)
        where
          by : (a : Bool) → is_lagged m cube s.area kind p ≡ a → (b : Bool) → is_weak m cube s.area kind p ≡ b
              → (is_lagged m cube s.area kind p ≡ true ↔ IsLagged m cube s kind p) → (is_weak m cube s.area kind p ≡ true ↔ IsWeak m cube s kind p) → IsDecided
          by true e b f lagged weak = by-lag (lagged.0 e)
          by false e true f lagged weak = by-level (λ h. (let clash = lagged.1 h in absurd (cc))) (weak.0 f)
          by false e false f lagged weak = by-rank (λ h. (let clash = lagged.1 h in absurd (cc))) (λ h. (let clash = weak.1 h in absurd (cc)))

    abbrev IsOrderedRule : Rule → Type 0
    IsOrderedRule rule = (kind : Bool) (f : Formula) → part_of rule kind ≡ Some f
        → All (λ p. IsDecidedByPosition (system_of after) (positions_of after) rule kind p ⊎ IsDecidedByLevel (system_of after) (positions_of after) rule kind p) (precedents f)

    rule-ordered : (cube : ℕ) → cube < length m.space.cubes → (s : Statement) → Contains (rules_of m cube).statements s → IsOrderedRule (rule_of m.space cube s)
    rule-ordered cube there s stands kind f e k d low =
        let statement = All-contains (IsStatement m.space cube) (rules_of m cube).statements s (ruled.cube cube there).statements stands in
        decided cube there s stands kind (get_or (precedents f) k d) (f, e, Contains-get_or (precedents f) k d low) (part-reads m valid ruled cube s kind f statement e k d low)

    pub fitting-ordered : IsOrderedByPlace (system_of after) (positions_of after)
    unfolding system_of
    fitting-ordered = parts-flat IsOrderedRule (cube_rules after) 0 (length m.space.cubes) each
      where
        each : (cube : ℕ) → 0 ≤ cube → cube < 0 + length m.space.cubes → All IsOrderedRule (cube_rules after cube)
        each cube from low =
            let there : cube < length m.space.cubes = omega (arith, low) in
            subst (λ (r : CubeRules). All IsOrderedRule (map (rule_of m.space cube) r.statements)) (sym (rules-after cube there))
            (parts-map IsOrderedRule (rule_of m.space cube) (rules_of m cube).statements
            (λ k d l. rule-ordered cube there (get_or (rules_of m cube).statements k d) (Contains-get_or (rules_of m cube).statements k d l)))
