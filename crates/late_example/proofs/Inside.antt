-- The cells of an area, and those of an area that is narrowed in a dimension.
use Rattle.std.proofs.Common.{◌≡◌, refl, sym, ◌∙◌, arith, subst, ℕ, ◌<◌, ◌≤◌, Bool, true, false, ◌||◌, Option, Some, None, List, [], ◌∷◌, length, get_or, ◌==◌, nat_lt}
use Rattle.std.proofs.lemmas.Bool.{and_parts, and_from, lt-ltb}
use Rattle.std.proofs.lemmas.Bool.Decides.{Decides-eqb}
use Rattle.cube_space.specs.Radix.{are_digits, number_of}
use Rattle.cube_space.specs.Layout.{axes, sizes}
use Rattle.cube_space.specs.Cells.{IsCell, cube_of, elements_of}
use Rattle.cube_space.proofs.Places.{cell-place, place_number}
use Rattle.cube_space.proofs.Radix.{digit-below}
use Rattle.rule_laws.specs.Ordered.{IsCellOf}
use Rattle.rule_model.specs.declared.area.Area.{Area}
use Rattle.rule_model.specs.declared.rules.Statement.{Statement}
use Rattle.rule_model.specs.declared.rules.Form.TheVariants.{Both}
use Rattle.rule_model.specs.BoundModel.{BoundModel}
use Rattle.rule_model.specs.Areas.{in_set, in_sets}
use Rattle.rule_model.specs.System.{system_of}
use Rattle.rule_model.specs.Conditions.{IsArea, AreRules}
use Rattle.order_laws.specs.Scales.{set_count, set_element}
use Rattle.order_laws.proofs.SetFacts.{place-of, place-in, set-at}
use Rattle.order_laws.proofs.CellFacts.{axes-sizes}
use Rattle.order_laws.proofs.Decided.{cell-of}
use Rattle.ref_order.proofs.Sums.{sets-long}
use Rattle.late_example.specs.Inside.Narrowing.{area_rule, places_of, set_at, narrowed, IsInside, IsSingle, first_of}
use Rattle.late_example.proofs.Sets.{keep, inside, whole, set-here, length-put, place-found, found-place, narrowed-area}

abbrev pub statement_of : Area → Statement
statement_of area = record { area = area; leaf = None; cons = None; form = Both }

-- what is known of a cell of an area by its elements
pub record IsIn (m : BoundModel) (cube : ℕ) (area : Area) (c : ℕ) : Type 0 where
  pub cell : IsCell m.space c
  pub own : cube_of m.space c ≡ cube
  pub digits : are_digits (sizes m.space cube) (elements_of m.space c) ≡ true
  pub inside : in_sets area.sets (elements_of m.space c) ≡ true
  pub long : length (elements_of m.space c) ≡ length (axes m.space cube)

module _ (m : BoundModel) (ruled : AreRules m.space m.rules) (cube : ℕ) (there : cube < length m.space.cubes) where
  pub as-cell : (area : Area) (kind : Bool) (c : ℕ) → (system_of m).is_leaf c ≡ kind → IsInside m cube area c → IsCellOf (system_of m) (area_rule m cube area) kind c
  as-cell area kind c is h = record { cell = h.cell; kind_is = is; applied = h.inside }

  pub as-inside : (area : Area) (kind : Bool) (c : ℕ) → IsCellOf (system_of m) (area_rule m cube area) kind c → IsInside m cube area c
  as-inside area kind c of = record { cell = of.cell; inside = of.applied }

  pub is-in : (area : Area) (c : ℕ) → IsArea m.space cube area → IsInside m cube area c → IsIn m cube area c
  unfolding system_of
  is-in area c is h =
      let found = cell-of m ruled cube there (statement_of area) is ((system_of m).is_leaf c) c (as-cell area ((system_of m).is_leaf c) c refl h) in
      record { cell = found.0.cell; own = found.0.own; digits = found.1.digits; inside = found.1.inside; long = found.1.long }

  pub in-is : (area : Area) (c : ℕ) → IsCell m.space c → cube_of m.space c ≡ cube → in_sets area.sets (elements_of m.space c) ≡ true → IsInside m cube area c
  unfolding system_of
  in-is area c cell own has = record { cell = cell; inside = and_from (cube == cube_of m.space c) (in_sets area.sets (elements_of m.space c)) ((Decides-eqb cube (cube_of m.space c)).1 (sym own)) has }

  -- the element of a cell in a dimension has a place in the area's set
  abbrev pub own_at : ℕ → ℕ → ℕ
  own_at c dim = get_or (elements_of m.space c) dim 0

  pub has-place : (area : Area) (c dim : ℕ) → IsArea m.space cube area → dim < length (axes m.space cube) → IsInside m cube area c
      → (k : ℕ) × (k < set_count (get_or (sizes m.space cube) dim 0) (set_at area dim)) × (set_element (set_at area dim) k ≡ own_at c dim)
  has-place area c dim is low h =
      let known = is-in area c is h in
      let size = get_or (sizes m.space cube) dim 0 in
      let es = elements_of m.space c in
      let less : own_at c dim < size = digit-below (sizes m.space cube) es dim 0 0 known.digits (omega (arith, low, axes-sizes m.space cube)) in
      let own = inside area.sets es dim known.inside (known.long ∙ sym (sets-long m.space cube area is)) (omega (arith, low, sets-long m.space cube area is)) in
      place-of size (set_at area dim) (own_at c dim) (and_from (nat_lt (own_at c dim) size) (in_set (set_at area dim) (own_at c dim)) (lt-ltb (own_at c dim) size less) own)

  -- a cell of the area whose element has one of the places is in the narrowed one
  pub narrow-in : (area : Area) (c dim from to k : ℕ) → IsArea m.space cube area → IsInside m cube area c → from ≤ k → k < to → set_element (set_at area dim) k ≡ own_at c dim → IsInside m cube (narrowed area dim from to) c
  narrow-in area c dim from to k is h le low at =
      let known = is-in area c is h in
      let x = set_at area dim in
      let has = subst (λ e. in_set (Some (places_of x from to)) e ≡ true) at (found-place x from to k le low) in
      in-is (narrowed area dim from to) c known.cell known.own (keep area.sets (elements_of m.space c) dim (Some (places_of x from to)) known.inside has (known.long ∙ sym (sets-long m.space cube area is)))

  -- and the other way round
  pub record IsNarrowIn (area : Area) (c dim from to : ℕ) : Type 0 where
    pub inside : IsInside m cube area c
    pub place : ℕ
    pub from_on : from ≤ place
    pub before : place < to
    pub element : set_element (set_at area dim) place ≡ own_at c dim

  pub narrow-out : (area : Area) (c dim from to : ℕ) → IsArea m.space cube area → dim < length (axes m.space cube) → from ≤ to → to ≤ set_count (get_or (sizes m.space cube) dim 0) (set_at area dim)
      → IsInside m cube (narrowed area dim from to) c → IsNarrowIn area c dim from to
  narrow-out area c dim from to is low le within h =
      let x = set_at area dim in
      let y = Some (places_of x from to) in
      let es = elements_of m.space c in
      let size = get_or (sizes m.space cube) dim 0 in
      let narrow = narrowed area dim from to in
      let known = is-in narrow c (narrowed-area m.space cube area dim from to is within) h in
      let long : length es ≡ length area.sets = known.long ∙ sym (sets-long m.space cube area is) in
      let short : dim < length area.sets = omega (arith, low, sets-long m.space cube area is) in
      let here : in_set y (own_at c dim) ≡ true = subst (λ z. in_set z (own_at c dim) ≡ true) (set-here area.sets dim y None short)
      (inside narrow.sets es dim known.inside (long ∙ sym (length-put area.sets dim y)) (omega (arith, short, length-put area.sets dim y))) in
      let found = place-found x from to (own_at c dim) here le in
      let listed = place-in size x found.0 (set-at (sizes m.space cube) area.sets dim is) (omega (arith, found.2, within)) in
      let own = subst (λ e. in_set x e ≡ true) found.3 (and_parts (nat_lt (set_element x found.0) size) (in_set x (set_element x found.0)) listed).1 in
      record {
        inside = in-is area c known.cell known.own (whole area.sets es dim y known.inside long short (λ _. own));
        place = found.0;
        from_on = found.1;
        before = found.2;
        element = found.3;
      }

  -- cells of the cube stand by the numbers of their elements
  pub less-cell : (c d : ℕ) → IsCell m.space c → IsCell m.space d → cube_of m.space c ≡ cube → cube_of m.space d ≡ cube
      → number_of (sizes m.space cube) (elements_of m.space c) < number_of (sizes m.space cube) (elements_of m.space d) → c < d
  less-cell c d cell_c cell_d own_c own_d less =
      let one : place_number m.space cube (elements_of m.space c) ≡ c = subst (λ k. place_number m.space k (elements_of m.space c) ≡ c) own_c (cell-place m.space c cell_c).number in
      let two : place_number m.space cube (elements_of m.space d) ≡ d = subst (λ k. place_number m.space k (elements_of m.space d) ≡ d) own_d (cell-place m.space d cell_d).number in
      omega (arith, one, two, less)

-- a set of one element has its first alone
pub single-is : (x : Option (List ℕ)) (e : ℕ) → IsSingle x → in_set x e ≡ true → e ≡ first_of x
single-is None e one h = absurd one
single-is (Some []) e one h = absurd (omega (arith, one))
single-is (Some (a ∷ b ∷ l)) e one h = absurd (omega (arith, one))
single-is (Some (a ∷ [])) e one h = sym ((Decides-eqb a e).0 (by (a == e) h))
  where
    by : (t : Bool) → t || false ≡ true → t ≡ true
    by true h = refl
    by false h = absurd (cc)
