-- Arguments that name the element that a cell has, in a dimension that both cubes have.
use Rattle.std.proofs.Common.{◌≡◌, refl, sym, ap, ◌∙◌, arith, subst, ℕ, ◌<◌, Bool, true, false, not, Option, Some, None, ℤ, List, [], length, get_or, inl, inr}
use Rattle.std.specs.Prelude.{slice_get, slice_index_or}
use Rattle.std.specs.List.{list_all, range_with_len}
use Rattle.std.specs.Option.{option_map_or}
use Rattle.std.proofs.lemmas.Bool.{and_parts, cases_lt}
use Rattle.std.proofs.lemmas.List.Sums.{list_all-from_AllPass}
use Rattle.dim_core.specs.Outline.{Outline, IsDimension, IsElement}
use Rattle.dim_weights.specs.Coefficients.{coef}
use Rattle.dim_weights.specs.Table.{is_nonzero, leaves_of}
use Rattle.cube_space.specs.Layout.{axes, sizes}
use Rattle.cube_space.specs.Cells.{IsSpace, is_leaf}
use Rattle.rule_laws.specs.Maps.{identity}
use Rattle.rule_laws.proofs.MapFacts.{inside, outside}
use Rattle.rule_laws.specs.declared.reference.Arg.{Arg}
use Rattle.rule_laws.specs.declared.reference.Arg.TheVariants.{Fixed, Moved}
use Rattle.rule_model.specs.Conditions.{IsArea}
use Rattle.model_laws.proofs.Levels.{axis-is}
use Rattle.order_laws.specs.Scales.{is_leaf_element}
use Rattle.order_laws.proofs.SetFacts.{place-of}
use Rattle.ref_order.proofs.Axes.{size-of-axis}
use Rattle.ref_order.proofs.Sums.{element-below}
use Rattle.cover_laws.specs.Looking.{Look, sent, is_narrow, each_narrow, each_named}
use Rattle.cover_laws.specs.Covered.{counts_in, each_sent}
use Rattle.cover_laws.proofs.Looks.{IsNarrow, each_narrow-intro}
use Rattle.cover_laws.proofs.Counted.{own-counts, only-own, in-among}

-- an element that is sent by an identity is sent to itself
sent-self : (n e t : ℕ) → sent (identity n) e ≡ Some t → e ≡ t
sent-self n e t h = elim (cases_lt e n) [
  | inl low ↦ let both : Some e ≡ Some t = inside n e low ∙ h in cc
  | inr high ↦ absurd (let none : None ≡ Some t = outside n e high ∙ h in cc)
]

narrow-leaf : (look : Look) (i e : ℕ) → is_narrow look i e ≡ true → is_leaf_element (axes look.space look.cube) i e ≡ true
unfolding is_narrow
narrow-leaf look i e h = (and_parts _ _ h).0

module _ (look : Look) (is_area : IsArea look.space look.cube look.area) where
  -- where all elements pass, those that are named do
  pub all-named : (test : ℕ → Bool) (arg : Arg) → ((e : ℕ) → test e ≡ true) → each_named look test arg ≡ true
  all-named test (Fixed t) h = h t
  all-named test (Moved from to) h = each_narrow-intro look is_area from (λ e. option_map_or test (sent to e) true) (λ e is. by (sent to e))
    where
      by : (o : Option ℕ) → option_map_or test o true ≡ true
      by None = refl
      by (Some t) = h t

  module _ (ds : List Outline) (i j : ℕ) (same : slice_get (axes look.space look.cube) i ≡ slice_get ds j) where
    -- a narrow element is a leaf wherever its dimension stands
    leaf : (e : ℕ) → is_narrow look i e ≡ true → is_leaf_element ds j e ≡ true
    leaf e narrow = ap (λ o. not (option_map_or (λ d. not (is_leaf d e)) o false)) (sym same) ∙ narrow-leaf look i e narrow

    pub kept-leaves : (n : ℕ) → each_named look (is_leaf_element ds j) (Moved i (identity n)) ≡ true
    kept-leaves n = each_narrow-intro look is_area i (λ e. option_map_or (is_leaf_element ds j) (sent (identity n) e) true) (λ e is. by e is.narrow (sent (identity n) e) refl)
      where
        by : (e : ℕ) → is_narrow look i e ≡ true → (o : Option ℕ) → sent (identity n) e ≡ o → option_map_or (is_leaf_element ds j) o true ≡ true
        by e narrow None is = refl
        by e narrow (Some t) is = subst (λ t. is_leaf_element ds j t ≡ true) (sent-self n e t is) (leaf e narrow)

    shown : (b : Bool) → not (not b) ≡ true → b ≡ true
    shown true h = refl
    shown false h = absurd (cc)

    module _ (valid : IsSpace look.space) (n : ℕ) (whole : (d : Outline) → slice_get ds j ≡ Some d → length d.elements ≡ n) where
      module _ (e : ℕ) (is : IsNarrow look is_area i e) where
        module _ (d : Outline) (at : slice_get ds j ≡ Some d) where
          here : IsElement d e
          here =
              let place = place-of (slice_index_or (sizes look.space look.cube) i 0) (slice_index_or look.area.sets i None) e is.inside in
              let low = element-below look.space look.cube i place.0 look.area (slice_index_or look.area.sets i None) is_area refl place.1 in
              let below : e < slice_index_or (sizes look.space look.cube) i 0 = subst (λ x. x < slice_index_or (sizes look.space look.cube) i 0) place.2 low in
              omega (arith, below, size-of-axis look.space look.cube i d (same ∙ at))

          is-leaf : is_leaf d e ≡ true
          is-leaf = shown (is_leaf d e) (ap (λ o. not (option_map_or (λ d. not (is_leaf d e)) o false)) (sym at) ∙ leaf e is.narrow)

          dimension : IsDimension d
          dimension = axis-is look.space valid look.cube i d (same ∙ at)

          counts : counts_in (axes look.space look.cube) i e e ≡ true
          counts = ap (λ o. option_map_or (λ (d : Outline). is_nonzero (coef d e e)) o false) (same ∙ at) ∙ own-counts d dimension e here is-leaf

          passes : (l : ℕ) → is_nonzero (coef d e l) ≡ true → option_map_or (λ over. counts_in (axes look.space look.cube) i over e) (sent (identity n) l) false ≡ true
          passes l h =
              let low : e < n = omega (arith, here, whole d at) in
              subst (λ l. option_map_or (λ over. counts_in (axes look.space look.cube) i over e) (sent (identity n) l) false ≡ true) (only-own d dimension e l here is-leaf h)
              (ap (λ o. option_map_or (λ over. counts_in (axes look.space look.cube) i over e) o false) (sym (inside n e low)) ∙ counts)

          sends : list_all (λ (pair : ℕ × ℤ). option_map_or (λ over. counts_in (axes look.space look.cube) i over e) (sent (identity n) pair.0) false) (leaves_of d e) ≡ true
          sends = list_all-from_AllPass (λ (pair : ℕ × ℤ). option_map_or (λ over. counts_in (axes look.space look.cube) i over e) (sent (identity n) pair.0) false) (leaves_of d e)
              (λ q x low. passes (get_or (leaves_of d e) q x).0 (in-among (coef d e) (range_with_len 0 (length d.elements)) q x low).1)

        own : (o : Option Outline) → slice_get ds j ≡ o
            → list_all (λ (pair : ℕ × ℤ). option_map_or (λ over. counts_in (axes look.space look.cube) i over e) (sent (identity n) pair.0) false) (option_map_or (λ d. leaves_of d e) o []) ≡ true
        own None at = refl
        own (Some d) at = sends d at

        back : (k : ℕ) (o : Option ℕ) → sent (identity k) e ≡ o
            → option_map_or (each_sent ds j (identity n) (λ over. counts_in (axes look.space look.cube) i over e)) o true ≡ true
        back k None at = refl
        back k (Some t) at = subst (λ t. each_sent ds j (identity n) (λ over. counts_in (axes look.space look.cube) i over e) t ≡ true) (sent-self k e t at) (own (slice_get ds j) refl)

      -- an element that is kept on both ways counts in itself
      pub kept-reaches : (k : ℕ) → each_narrow look i (λ e. option_map_or (each_sent ds j (identity n) (λ over. counts_in (axes look.space look.cube) i over e)) (sent (identity k) e) true) ≡ true
      kept-reaches k =
          each_narrow-intro look is_area i (λ e. option_map_or (each_sent ds j (identity n) (λ over. counts_in (axes look.space look.cube) i over e)) (sent (identity k) e) true) (λ e is. back e is k (sent (identity k) e) refl)
