-- Sums that go on: what they come to, and that they end.
use Rattle.std.proofs.Common.{◌≡◌, refl, sym, ◌∙◌, ap, subst, arith, ℕ, zero, suc, ◌+◌, ◌<◌, ◌≤◌, leb, ltb, ◌⊎◌, inl, inr, Bool, true, false, ◌||◌, ℤ, pos, ◌+ℤ◌, List, [], ◌∷◌, drop, filter, length, Contains, Option, Some, None, get_or}
use Rattle.std.specs.List.{All, list_all}
use Rattle.std.proofs.lemmas.Bool.{ltb-true, and_parts}
use Rattle.std.proofs.Math.Seq.{drop-cons}
use Rattle.std.proofs.lemmas.Int.{ints}
use Rattle.std.proofs.lemmas.List.Elements.{All-head, All-tail, All-contains, All-filter, All-weaker, All-nil, All-cons}
use Rattle.accepted.specs.Checks.{IsAccepted}
use Rattle.cell_store.specs.Entries.{cells_of}
use Rattle.cell_versions.specs.Versions.{NumberedVersion}
use Rattle.cube_fixed.specs.declared.value.Value.{Value}
use Rattle.cube_fixed.specs.declared.value.Value.TheVariants.{Num, Over}
use Rattle.cube_fixed.specs.Arithmetic.{zero_value}
use Rattle.cube_fixed.specs.Total.{Total, no_terms, with_term, term_of, over_enters, value_of}
use Rattle.cube_space.specs.Cells.{IsSpace, IsCell, is_leaf_cell}
use Rattle.cube_space.specs.Layout.{Layout}
use Rattle.dim_weights.specs.Table.{is_nonzero}
use Rattle.feed_map.specs.FedCells.{AreFedCells}
use Rattle.feed_sources.proofs.Members.{none-there, at-front, behind, front-or-behind}
use Rattle.rule_evaluate.specs.declared.ask.Ask.{Ask}
use Rattle.rule_evaluate.specs.declared.ask.Ask.TheVariants.{Value as of_value, Base as of_base, Children as of_children}
use Rattle.rule_laws.specs.RuleSystem.{IsLeafCell, depth}
use Rattle.rule_laws.proofs.SystemFacts.{below-depth}
use Rattle.rule_model.specs.Conditions.{AreRules}
use Rattle.rule_model.specs.System.{system_of}
use Rattle.rule_model.specs.Targets.{component_cells, parts_at, with_components, with_element_at}
use Rattle.rule_model.specs.Weights.{leaves_below}
use Rattle.sparse_sum.specs.Live.{is_live, live_below}
use Rattle.sparse_sum.specs.Walking.{Progress, left}
use Rattle.cell_values.specs.Reading.{value_on, IsUngoverned}
use Rattle.cell_values.specs.Inside.Questions.{values_of, level_on, work_on, cost_on, depth_on, base_on, children_on, leaves_on, components_on, is_grounded}
use Rattle.cell_values.specs.Inside.Sums.{sum_on, Advances}
use Rattle.cell_values.proofs.Members.{nonzero-is, counts-nonzero}
use Rattle.cell_values.proofs.Values.{formed, quiet-value}
use Rattle.cell_values.proofs.Work.{cost-more, work-all, work-less}
use Rattle.std.proofs.Math.Bool.{or-false as or_false}

drop-past : (i : ℕ) (xs : List (ℕ × ℤ)) → length xs ≤ i → drop i xs ≡ []
drop-past zero [] past = refl
drop-past (suc i) [] past = refl
drop-past zero (x ∷ xs) past = absurd (omega (arith, past))
drop-past (suc i) (x ∷ xs) past = drop-past i xs (omega (arith, past))

pub some-components : (space : Layout) (c d : ℕ) → 0 < length (parts_at space c d) → component_cells space c d ≡ Some (with_components space c d (parts_at space c d))
unfolding component_cells
some-components space c d some = by (parts_at space c d) refl some
  where
    by : (parts : List (ℕ × ℤ)) → parts_at space c d ≡ parts → 0 < length parts → component_cells space c d ≡ Some (with_components space c d (parts_at space c d))
    by [] is some = absurd (omega (arith, some))
    by (part ∷ parts) is some = rw is refl

-- ---- terms that count for nothing

module _ (v : NumberedVersion) where
  abbrev CountsNothing : ℕ × ℤ → Type 0
  CountsNothing pair = (pair.1 ≡ pos 0) ⊎ (value_on v pair.0 ≡ zero_value)

  weightless : (t : Total) (u : Value) → ((with_term t (pos 0) u).exact ≡ t.exact) × ((with_term t (pos 0) u).over ≡ t.over)
  weightless t (Num z) = (omega (arith, ints), or_false t.over)
  weightless t Over = (omega (arith, ints), or_false t.over)

  nothing : (t : Total) (pair : ℕ × ℤ) → CountsNothing pair
      → ((with_term t pair.1 (value_on v pair.0)).exact ≡ t.exact) × ((with_term t pair.1 (value_on v pair.0)).over ≡ t.over)
  nothing t pair (inl none) =
      subst (λ (z : ℤ). ((with_term t z (value_on v pair.0)).exact ≡ t.exact) × ((with_term t z (value_on v pair.0)).over ≡ t.over)) (sym none) (weightless t (value_on v pair.0))
  nothing t pair (inr zero_is) =
      subst (λ (u : Value). ((with_term t pair.1 u).exact ≡ t.exact) × ((with_term t pair.1 u).over ≡ t.over)) (sym zero_is) (omega (arith, ints), or_false t.over)

  alike : (s t : Total) → s.exact ≡ t.exact → s.over ≡ t.over → value_of s ≡ value_of t
  alike s t exact over = rw (exact, over) refl

  sum-filter : (p : ℕ × ℤ → Bool) (pairs : List (ℕ × ℤ)) → ((pair : ℕ × ℤ) → Contains pairs pair → p pair ≡ false → CountsNothing pair)
      → (s t : Total) → s.exact ≡ t.exact → s.over ≡ t.over → sum_on v s (filter p pairs) ≡ sum_on v t pairs
  unfolding sum_on
  sum-filter p [] none s t exact over = alike s t exact over
  sum-filter p (pair ∷ pairs) none s t exact over = by (p pair) refl (λ s t exact over. sum-filter p pairs (λ one has. none one (behind pair pairs one has)) s t exact over)
    where
      by : (b : Bool) → p pair ≡ b
          → ((s t : Total) → s.exact ≡ t.exact → s.over ≡ t.over → sum_on v s (filter p pairs) ≡ sum_on v t pairs)
          → sum_on v s (filter p (pair ∷ pairs)) ≡ sum_on v t (pair ∷ pairs)
      by true on rest =
          rw on
          (rest (with_term s pair.1 (value_on v pair.0)) (with_term t pair.1 (value_on v pair.0))
          (ap (λ (z : ℤ). z +ℤ term_of pair.1 (value_on v pair.0)) exact) (ap (λ (b : Bool). b || over_enters pair.1 (value_on v pair.0)) over))
      by false off rest =
          let gone = nothing t pair (none pair (at-front pair pairs) off) in
          rw off (rest s (with_term t pair.1 (value_on v pair.0)) (exact ∙ sym gone.0) (over ∙ sym gone.1))

  -- ---- going on

  pub advances-none : (t : Total) (pairs : List (ℕ × ℤ)) → Advances v t pairs t pairs
  advances-none t pairs = record {
    sum = refl;
    terms = omega arith;
    cost = omega arith;
    plain = λ all. all;
  }

  pub advances-term : (first : Total) (all : List (ℕ × ℤ)) (before after : Total) (pairs rest : List (ℕ × ℤ)) (x : ℕ) (z : ℤ)
      → Advances v first all before pairs → pairs ≡ (x, z) ∷ rest → after ≡ with_term before z (value_on v x) → Advances v first all after rest
  unfolding sum_on
  advances-term first all before after pairs rest x z so_far next is =
      let here : Advances v first all before ((x, z) ∷ rest) = subst (Advances v first all before) next so_far in
      let terms : after.terms ≡ before.terms + 1 = ap (λ (t : Total). t.terms) is in
      let fewer = here.terms in
      let cost = here.cost in
      let more : cost_on v (values_of ((x, z) ∷ rest)) ≡ suc (work_on v (of_value x) + cost_on v (values_of rest)) = cost-more v (of_value x) (values_of rest) in
      record {
        sum = ap (λ (t : Total). sum_on v t rest) is ∙ here.sum;
        terms = omega (arith, terms, fewer);
        cost = omega (arith, cost, more);
        plain = λ plain. All-tail (λ pair. IsUngoverned v pair.0) (x, z) rest (here.plain plain);
      }

  pub advances-same : (first : Total) (all : List (ℕ × ℤ)) (before after : Total) (pairs rest : List (ℕ × ℤ))
      → Advances v first all before pairs → pairs ≡ rest → after ≡ before → Advances v first all after rest
  advances-same first all before after pairs rest so_far next is =
      subst (λ (t : Total). Advances v first all t rest) (sym is) (subst (Advances v first all before) next so_far)

  pub advances-end : (first : Total) (all : List (ℕ × ℤ)) (after : Total) (pairs : List (ℕ × ℤ))
      → Advances v first all after pairs → pairs ≡ [] → value_of after ≡ sum_on v first all
  unfolding sum_on
  advances-end first all after pairs so_far none = ap (sum_on v after) (sym none) ∙ so_far.sum

  -- ---- where sums begin

  pub base-sum : (valid : IsSpace v.model.space) → AreRules v.model.space v.model.rules → IsAccepted v.model → AreFedCells v.model v.stored v.fed
      → (c : ℕ) → IsCell v.model.space c → is_leaf_cell v.model.space c ≡ false → sum_on v no_terms (leaves_on v c) ≡ base_on v c
  unfolding base_on leaves_on sum_on system_of
  base-sum valid rules accepted are c is_cell total =
      let sums = sum-filter (λ pair. is_live (cells_of v.stored) v.fed pair.0) (leaves_below v.model.space c)
      (λ pair has quiet. inr (quiet-value v valid rules accepted pair.0 (leaf pair has).0 are (leaf pair has).1 quiet)) no_terms no_terms refl refl in
      rw total sums
    where
      leaf : (pair : ℕ × ℤ) → Contains (leaves_below v.model.space c) pair → IsLeafCell (system_of v.model) pair.0
      leaf pair has = (All-contains (λ pair. IsLeafCell (system_of v.model) pair.0 × ((system_of v.model).rank pair.0 ≤ (system_of v.model).rank c)) (leaves_below v.model.space c) pair ((formed v valid rules accepted).leaves_below c is_cell) has).0

  pub children-sum : (c d : ℕ) → 0 < length (parts_at v.model.space c d) → sum_on v no_terms (components_on v c d 0) ≡ children_on v c d
  unfolding children_on components_on sum_on system_of
  children-sum c d some =
      let whole = some-components v.model.space c d some in
      let sums = sum-filter (λ pair. is_nonzero pair.1) (with_components v.model.space c d (parts_at v.model.space c d)) (λ pair has off. inl (nonzero-is pair.1 off)) no_terms no_terms refl refl in
      rw whole sums

  -- ---- leaf cells

  -- the cells of a walk are leaf cells
  pub leaves-are : (valid : IsSpace v.model.space) → AreRules v.model.space v.model.rules → IsAccepted v.model → (walk : Progress) → IsCell v.model.space walk.cell
      → All (λ pair. is_leaf_cell v.model.space pair.0 ≡ true) (left v.model.space (cells_of v.stored) v.fed walk)
  unfolding system_of
  leaves-are valid rules accepted walk is_cell =
      All-filter (λ pair. leb walk.from pair.0) IsLeafPair (live_below v.model.space (cells_of v.stored) v.fed walk.cell)
      (All-filter (λ pair. is_live (cells_of v.stored) v.fed pair.0) IsLeafPair (leaves_below v.model.space walk.cell)
      (All-weaker (λ pair. IsLeafCell (system_of v.model) pair.0 × ((system_of v.model).rank pair.0 ≤ (system_of v.model).rank walk.cell)) IsLeafPair (λ pair h. h.0.1)
      (leaves_below v.model.space walk.cell) ((formed v valid rules accepted).leaves_below walk.cell is_cell)))
    where
      IsLeafPair : ℕ × ℤ → Type 0
      IsLeafPair pair = is_leaf_cell v.model.space pair.0 ≡ true

  pub leaf-next : (pairs rest : List (ℕ × ℤ)) (x : ℕ) (z : ℤ) → All (λ pair. is_leaf_cell v.model.space pair.0 ≡ true) pairs → pairs ≡ (x, z) ∷ rest → is_leaf_cell v.model.space x ≡ true
  leaf-next pairs rest x z all is = All-head (λ pair. is_leaf_cell v.model.space pair.0 ≡ true) (x, z) rest (subst (All (λ pair. is_leaf_cell v.model.space pair.0 ≡ true)) is all)

  -- ---- questions are less deep than what leads to them

  in_values : (pairs : List (ℕ × ℤ)) (Holds : ℕ → Type 0) → All (λ pair. Holds pair.0) pairs → (e : Ask) → Contains (values_of pairs) e → (x : ℕ) × (e ≡ of_value x) × Holds x
  in_values [] Holds all e has = absurd (none-there e has)
  in_values (pair ∷ pairs) Holds all e has =
      at (front-or-behind (of_value pair.0) (values_of pairs) e has) (λ later. in_values pairs Holds (All-tail (λ pair. Holds pair.0) pair pairs all) e later)
    where
      at : (of_value pair.0 ≡ e) ⊎ Contains (values_of pairs) e → (Contains (values_of pairs) e → (x : ℕ) × (e ≡ of_value x) × Holds x) → (x : ℕ) × (e ≡ of_value x) × Holds x
      at (inl same) rest = (pair.0, sym same, All-head (λ pair. Holds pair.0) pair pairs all)
      at (inr later) rest = rest later

  values-less : (pairs : List (ℕ × ℤ)) (c : ℕ) → All (λ pair. depth_on v pair.0 < depth_on v c) pairs → (e : Ask) → Contains (values_of pairs) e → level_on v e < depth_on v c + depth_on v c
  values-less pairs c all e has =
      let (x, same, less) = in_values pairs (λ x. depth_on v x < depth_on v c) all e has in
      subst (λ (q : Ask). level_on v q < depth_on v c + depth_on v c) (sym same) (omega (arith, less))

  pub base-work : (valid : IsSpace v.model.space) → AreRules v.model.space v.model.rules → IsAccepted v.model
      → (c : ℕ) → IsCell v.model.space c → is_leaf_cell v.model.space c ≡ false → cost_on v (values_of (leaves_on v c)) < work_on v (of_base c)
  unfolding leaves_on depth_on system_of
  base-work valid rules accepted c is_cell total =
      let less = All-filter (λ pair. is_live (cells_of v.stored) v.fed pair.0) (λ pair. depth (system_of v.model) pair.0 < depth (system_of v.model) c) (leaves_below v.model.space c)
      (All-weaker (λ pair. IsLeafCell (system_of v.model) pair.0 × (depth (system_of v.model) pair.0 < depth (system_of v.model) c)) (λ pair. depth (system_of v.model) pair.0 < depth (system_of v.model) c) (λ pair h. h.1)
      (leaves_below v.model.space c) (below-depth (system_of v.model) (formed v valid rules accepted) c is_cell total)) in
      work-all v (of_base c) (values-less (live_below v.model.space (cells_of v.stored) v.fed c) c less)

  pub total-work : (valid : IsSpace v.model.space) → AreRules v.model.space v.model.rules → IsAccepted v.model
      → (c : ℕ) → IsCell v.model.space c → is_leaf_cell v.model.space c ≡ false → cost_on v (values_of (leaves_on v c)) < work_on v (of_value c)
  total-work valid rules accepted c is_cell total =
      let less = base-work valid rules accepted c is_cell total in
      let more = work-less v (of_value c) (of_base c) (at-front (of_base c) _) (omega arith) in
      omega (arith, less, more)

  all-passing : (p : ℕ × ℤ → Bool) (Holds : ℕ × ℤ → Type 0) → ((pair : ℕ × ℤ) → p pair ≡ true → Holds pair) → (pairs : List (ℕ × ℤ)) → list_all p pairs ≡ true → All Holds pairs
  all-passing p Holds holds [] all = All-nil Holds
  all-passing p Holds holds (pair ∷ pairs) all =
      let parts = and_parts (p pair) (list_all p pairs) all in
      All-cons Holds pair pairs (holds pair parts.0) (all-passing p Holds holds pairs parts.1)

  pub children-work : (c d : ℕ) → is_grounded v c d ≡ true → cost_on v (values_of (components_on v c d 0)) < work_on v (of_children c d)
  unfolding is_grounded
  children-work c d grounded =
      work-all v (of_children c d) (values-less (components_on v c d 0) c
      (all-passing (λ pair. ltb (depth_on v pair.0) (depth_on v c)) (λ pair. depth_on v pair.0 < depth_on v c) (λ pair less. ltb-true (depth_on v pair.0) (depth_on v c) less) (components_on v c d 0) grounded))

  -- ---- components

  module _ (c d i : ℕ) (low : i < length (parts_at v.model.space c d)) (o : ℕ × ℤ) where
    abbrev part : ℕ × ℤ
    part = get_or (parts_at v.model.space c d) i o

    split : drop i (parts_at v.model.space c d) ≡ part ∷ drop (suc i) (parts_at v.model.space c d)
    split = drop-cons (parts_at v.model.space c d) i o low

    pub component-zero : part.1 ≡ pos 0 → components_on v c d i ≡ components_on v c d (suc i)
    unfolding components_on
    component-zero none =
        ap (λ (parts : List (ℕ × ℤ)). filter (λ pair. is_nonzero pair.1) (with_components v.model.space c d parts)) split ∙ by (with_element_at v.model.space c d part.0) refl
      where
        off : is_nonzero part.1 ≡ false
        off = ap is_nonzero none

        by : (x : Option ℕ) → with_element_at v.model.space c d part.0 ≡ x
            → filter (λ pair. is_nonzero pair.1) (with_components v.model.space c d (part ∷ drop (suc i) (parts_at v.model.space c d))) ≡ filter (λ pair. is_nonzero pair.1) (with_components v.model.space c d (drop (suc i) (parts_at v.model.space c d)))
        by None is = rw is refl
        by (Some x) is = rw (is, off) refl

    pub component-none : with_element_at v.model.space c d part.0 ≡ None → components_on v c d i ≡ components_on v c d (suc i)
    unfolding components_on
    component-none none =
        ap (λ (parts : List (ℕ × ℤ)). filter (λ pair. is_nonzero pair.1) (with_components v.model.space c d parts)) split ∙ rw none refl

    pub component-some : (x : ℕ) → with_element_at v.model.space c d part.0 ≡ Some x → (part.1 ≡ pos 0 → ⊥) → components_on v c d i ≡ (x, part.1) ∷ components_on v c d (suc i)
    unfolding components_on
    component-some x is counts =
        let on : is_nonzero part.1 ≡ true = counts-nonzero part.1 counts in
        ap (λ (parts : List (ℕ × ℤ)). filter (λ pair. is_nonzero pair.1) (with_components v.model.space c d parts)) split ∙ rw (is, on) refl

  pub component-end : (c d i : ℕ) → length (parts_at v.model.space c d) ≤ i → components_on v c d i ≡ []
  unfolding components_on
  component-end c d i past = ap (λ (parts : List (ℕ × ℤ)). filter (λ pair. is_nonzero pair.1) (with_components v.model.space c d parts)) (drop-past i (parts_at v.model.space c d) past)
