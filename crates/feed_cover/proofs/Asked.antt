-- The feeders that are asked about a reference are enough: the others don't feed its cells.
use Rattle.std.proofs.Common.{◌≡◌, refl, sym, ap, ◌∙◌, arith, subst, ℕ, zero, suc, ◌+◌, ◌<◌, ◌≤◌, Bool, true, false, not, ◌&&◌, ◌||◌, cond, Option, Some, None, IfSome, List, [], ◌∷◌, length, get_or, map, filter, take, All, ltb, ◌==◌}
use Rattle.std.specs.Prelude.{slice_get, slice_index_or}
use Rattle.std.specs.List.{list_any, range_with_len}
use Rattle.std.specs.Option.{option_map_or}
use Rattle.std.proofs.lemmas.Bool.{and_parts, and_from, eq-eqb, false_from_ne_true}
use Rattle.std.proofs.lemmas.Bool.Decides.{Decides-eqb}
use Rattle.std.proofs.lemmas.List.{get_or-map, length-map, take_more}
use Rattle.std.proofs.lemmas.List.Elements.{All-filter}
use Rattle.std.proofs.lemmas.List.Folds.{Any-from_list_any, list_any-append}
use Rattle.std.proofs.lemmas.List.FromFn.{length-range_with_len, get_or-range_with_len}
use Rattle.std.proofs.lemmas.Option.{slice_get-get_or}
use Rattle.lists.proofs.Found.{found_holds}
use Rattle.dim_core.specs.Outline.{Outline, IsElement}
use Rattle.dim_weights.specs.Coefficients.{coef}
use Rattle.dim_weights.specs.Table.{is_nonzero}
use Rattle.cube_space.specs.Layout.{axes, sizes, sizes_of}
use Rattle.cube_space.specs.Cells.{is_leaf}
use Rattle.rule_laws.specs.declared.reference.Arg.{Arg}
use Rattle.rule_laws.specs.declared.reference.Arg.TheVariants.{Fixed, Moved}
use Rattle.rule_model.specs.declared.filed.FixedLeaf.{FixedLeaf}
use Rattle.rule_model.specs.declared.filed.FiledFeeder.{FiledFeeder}
use Rattle.rule_model.specs.declared.rules.Feeder.{Feeder}
use Rattle.rule_model.specs.BoundModel.{BoundModel, rules_of}
use Rattle.rule_model.specs.Conditions.{IsArg, IsFeeder, AreRules}
use Rattle.rule_model.specs.Filed.{is_leaf_at, wider, widest_leaf, leaf_of, is_same_leaf, is_filed, filed_places}
use Rattle.model_laws.proofs.Levels.{axis-is}
use Rattle.order_laws.specs.Scales.{set_count, set_element}
use Rattle.ref_order.proofs.Args.{args-long, arg-at}
use Rattle.ref_order.proofs.Axes.{size-of-axis}
use Rattle.cover_laws.specs.Looking.{Look, some_below, is_narrow, is_possible, some_in}
use Rattle.cover_laws.specs.Covered.{counts_in, stands_over, feeds_all, look_below, all_reach}
use Rattle.cover_laws.proofs.Looks.{each-elim, not-or, each_narrow-elim, each_narrow-intro}
use Rattle.cover_laws.proofs.Pairs.{arg-there}
use Rattle.cover_laws.proofs.Counted.{only-own}
use Rattle.feed_cover.specs.declared.reference_view.ReferenceView.{ReferenceView}
use Rattle.feed_cover.specs.declared.reference_view.Counted.TheVariants.{Leaves}
use Rattle.feed_cover.specs.Tests.{fixed_reach}
use Rattle.feed_cover.specs.Views.{look_of, IsView}
use Rattle.feed_cover.specs.Asked.{feeds, feeds_at, NoneFeeds, IsOnlyNarrow, IsNarrowBelow}
use Rattle.feed_cover.proofs.Covers.{at-range, look-leaves}
use Rattle.feed_cover.proofs.Reaching.{fixed-false}

-- ---- lists

any-found : {X : Type 0} (p : X → Bool) (xs : List X) (i : ℕ) (x : X) → slice_get xs i ≡ Some x → p x ≡ true → list_any p xs ≡ true
any-found p [] i x at on = absurd (cc)
any-found p (y ∷ xs) zero x at on = let same : y ≡ x = cc in ap (λ t. t || list_any p xs) (ap p same ∙ on)
any-found p (y ∷ xs) (suc i) x at on = later (p y) (list_any p xs) (any-found p xs i x at on)
  where
    later : (a b : Bool) → b ≡ true → a || b ≡ true
    later true b h = refl
    later false b h = h

any-filter : (p q : ℕ → Bool) (xs : List ℕ) → list_any q (filter p xs) ≡ list_any (λ x. p x && q x) xs
any-filter p q [] = refl
any-filter p q (x ∷ xs) = by (p x) ∙ ap (λ t. (p x && q x) || t) (any-filter p q xs)
  where
    by : (b : Bool) → list_any q (cond b (x ∷ filter p xs) (filter p xs)) ≡ (b && q x) || list_any q (filter p xs)
    by true = refl
    by false = refl

found-low : {X : Type 0} (xs : List X) (i : ℕ) (x : X) → slice_get xs i ≡ Some x → i < length xs
found-low [] i x at = absurd (cc)
found-low (y ∷ xs) zero x at = omega arith
found-low (y ∷ xs) (suc i) x at = omega (arith, found-low xs i x at)

range-low : (n : ℕ) → All (λ p. p < n) (range_with_len 0 n)
range-low n k d low = let less : k < n = omega (arith, low, length-range_with_len 0 n) in omega (arith, get_or-range_with_len 0 n k d less, less)

pub any-more : {X : Type 0} (p : X → Bool) (xs : List X) (k : ℕ) (d : X) → k < length xs → p (get_or xs k d) ≡ false → list_any p (take k xs) ≡ false → list_any p (take (k + 1) xs) ≡ false
any-more p xs k d low here before =
    ap (list_any p) (take_more xs k d low) ∙ list_any-append p (take k xs) (get_or xs k d ∷ []) ∙ ap (λ t. t || list_any p (get_or xs k d ∷ [])) before ∙ ap (λ t. t || false) here

-- ---- the one narrow element

module _ (look : Look) (dim : ℕ) where
  abbrev set : Option (List ℕ)
  set = slice_index_or look.area.sets dim None

  abbrev count : ℕ
  count = set_count (slice_index_or (sizes look.space look.cube) dim 0) set

  abbrev none_below : ℕ → Type 0
  none_below k = some_below (λ j. is_narrow look dim (set_element set j)) k ≡ false

  same-narrow : (element e k : ℕ) → IsOnlyNarrow look dim element → k < count → set_element set k ≡ e → is_narrow look dim e ≡ true → e ≡ element
  same-narrow element e k only low at narrow =
      let here : is_narrow look dim (set_element set k) ≡ true = ap (is_narrow look dim) at ∙ narrow in
      sym at ∙ (Decides-eqb (set_element set k) element).0
      (not-or (is_narrow look dim (set_element set k)) (set_element set k == element) (each-elim (λ k. not (is_narrow look dim (set_element set k)) || (set_element set k == element)) count only.each k low) here)

  pub only-done : (only : Option ℕ) (k : ℕ) → k ≡ count → IfSome only (IsNarrowBelow look dim k) → (only ≡ None → none_below k) → (element : ℕ) → IsOnlyNarrow look dim element → only ≡ Some element
  only-done None k end found none element is =
      let off : some_in look dim (is_narrow look dim) ≡ false = ap (some_below (λ j. is_narrow look dim (set_element set j))) (sym end) ∙ none refl in
      absurd (let clash : true ≡ false = sym is.some ∙ off in cc)
  only-done (Some e) k end (j, low, at, narrow) none element is = ap Some (same-narrow element e j is (omega (arith, low, end)) at narrow)

  pub only-two : (only : Option ℕ) (k e : ℕ) → k < count → set_element set k ≡ e → is_narrow look dim e ≡ true → IfSome only (IsNarrowBelow look dim k) → option_map_or (λ o. not (o == e)) only false ≡ true
      → (element : ℕ) → IsOnlyNarrow look dim element → ⊥
  only-two None k e low here narrow found other element is = (let clash : false ≡ true = other in cc)
  only-two (Some o) k e low here narrow (j, less, at, own) other element is =
      let one : o ≡ element = same-narrow element o j is (omega (arith, less, low)) at own in
      let two : e ≡ element = same-narrow element e k is low here narrow in
      let clash : false ≡ true = sym (ap not (eq-eqb o e (one ∙ sym two))) ∙ other in
      absurd (cc)

  pub still-below : (only : Option ℕ) (k : ℕ) → IfSome only (IsNarrowBelow look dim k) → IfSome only (IsNarrowBelow look dim (k + 1))
  still-below None k found = found
  still-below (Some e) k (j, low, at, narrow) = (j, omega (arith, low), at, narrow)

-- ---- a feeder that is filed by a leaf

-- the leaf is one that an argument names
abbrev IsNamed : List Outline → ℕ → List Arg → FixedLeaf → Type 0
IsNamed ds k args leaf = (j : ℕ) × (k + j ≡ leaf.dim) × (slice_get args j ≡ Some (Fixed leaf.element)) × (is_leaf_at ds leaf.dim leaf.element ≡ true)

leaf-at : (ds : List Outline) (k : ℕ) (args : List Arg) (leaf : FixedLeaf) → widest_leaf ds k args ≡ Some leaf → IsNamed ds k args leaf
leaf-at ds k [] leaf is = absurd (cc)
leaf-at ds k (Moved from to ∷ args) leaf is = let (j, at, arg, low) = leaf-at ds (suc k) args leaf is in (suc j, omega (arith, at), arg, low)
leaf-at ds k (Fixed e ∷ args) leaf is = by (λ l rest. leaf-at ds (suc k) args l rest) (is_leaf_at ds k e) refl is
  where
    later : (l : FixedLeaf) → IsNamed ds (suc k) args l → IsNamed ds k (Fixed e ∷ args) l
    later l (j, at, arg, low) = (suc j, omega (arith, at), arg, low)

    here : is_leaf_at ds k e ≡ true → IsNamed ds k (Fixed e ∷ args) (record { dim = k; element = e })
    here on = (0, omega arith, refl, on)

    which : is_leaf_at ds k e ≡ true → (o : Option FixedLeaf) → ((l : FixedLeaf) → o ≡ Some l → IsNamed ds (suc k) args l) → IsNamed ds k (Fixed e ∷ args) (wider (sizes_of ds) (record { dim = k; element = e }) o)
    which on None rest = here on
    which on (Some l) rest = pick (ltb (slice_index_or (sizes_of ds) k 0) (slice_index_or (sizes_of ds) l.dim 0))
      where
        pick : (b : Bool) → IsNamed ds k (Fixed e ∷ args) (cond b l (record { dim = k; element = e }))
        pick true = later l (rest l refl)
        pick false = here on

    by : ((l : FixedLeaf) → widest_leaf ds (suc k) args ≡ Some l → IsNamed ds (suc k) args l) → (b : Bool) → is_leaf_at ds k e ≡ b
        → cond b (Some (wider (sizes_of ds) (record { dim = k; element = e }) (widest_leaf ds (suc k) args))) (widest_leaf ds (suc k) args) ≡ Some leaf → IsNamed ds k (Fixed e ∷ args) leaf
    by rest true on is =
        let own : FixedLeaf = wider (sizes_of ds) (record { dim = k; element = e }) (widest_leaf ds (suc k) args) in
        let same : own ≡ leaf = cc in
        subst (IsNamed ds k (Fixed e ∷ args)) same (which on (widest_leaf ds (suc k) args) rest)
    by rest false off is = later leaf (rest leaf is)

stands-at : (look : Look) (i : ℕ) (args : List Arg) → fixed_reach look i args ≡ true → (j e : ℕ) → slice_get args j ≡ Some (Fixed e) → stands_over look (i + j) e ≡ true
stands-at look i [] h j e is = absurd (cc)
stands-at look i (Moved from to ∷ args) h zero e is = absurd (cc)
stands-at look i (Moved from to ∷ args) h (suc j) e is = let next : suc i + j ≡ i + suc j = omega arith in subst (λ n. stands_over look n e ≡ true) next (stands-at look (suc i) args h j e is)
stands-at look i (Fixed over ∷ args) h zero e is =
    let same : over ≡ e = cc in
    let own : i ≡ i + 0 = omega arith in
    subst (λ n. stands_over look n e ≡ true) own (subst (λ o. stands_over look i o ≡ true) same (and_parts _ _ h).0)
stands-at look i (Fixed over ∷ args) h (suc j) e is = let next : suc i + j ≡ i + suc j = omega arith in subst (λ n. stands_over look n e ≡ true) next (stands-at look (suc i) args (and_parts _ _ h).1 j e is)

low-at : (args : List Arg) (j : ℕ) (arg : Arg) → slice_get args j ≡ Some arg → (j < length args) × (slice_index_or args j (Fixed 0) ≡ arg)
low-at [] j arg is = absurd (cc)
low-at (a ∷ args) zero arg is = (omega arith, cc)
low-at (a ∷ args) (suc j) arg is = let (low, at) = low-at args j arg is in (omega (arith, low), at)

feeds-parts : (m : BoundModel) (view : ReferenceView) (own : ℕ) (f : Feeder) → feeds m view own f ≡ true
    → (f.target.cube ≡ view.cube) × (fixed_reach (look_below m view.cube view.area.now view.reference.now) 0 f.target.args ≡ true)
unfolding feeds_all
feeds-parts m view own f on =
    let parts = and_parts _ _ on in
    ((Decides-eqb f.target.cube view.cube).0 (and_parts _ _ parts.0).1, by (fixed_reach (look_below m view.cube view.area.now view.reference.now) 0 f.target.args) refl (and_parts _ _ parts.1).1)
  where
    by : (b : Bool) → fixed_reach (look_below m view.cube view.area.now view.reference.now) 0 f.target.args ≡ b
        → all_reach (look_below m view.cube view.area.now view.reference.now) (axes m.space view.reference.now.cube) 0 f.target.args ≡ true → b ≡ true
    by true is all = refl
    by false is all = absurd (let clash : true ≡ false = sym all ∙ fixed-false (look_below m view.cube view.area.now view.reference.now) (axes m.space view.reference.now.cube) 0 f.target.args is in cc)

some-narrow : (look : Look) (dim : ℕ) → is_possible look ≡ true → dim < length (axes look.space look.cube) → some_in look dim (is_narrow look dim) ≡ true
unfolding is_possible
some-narrow look dim possible low = each-elim (λ i. some_in look i (is_narrow look i)) (length (axes look.space look.cube)) (and_parts _ _ possible).0 dim low

module _ (m : BoundModel) (view : ReferenceView) (own : ℕ) (is_view : IsView m view) (leaves : view.counted ≡ Leaves) where
  abbrev look : Look
  look = look_of m view

  abbrev fs : List Feeder
  fs = (rules_of m own).feeders

  -- the area has its leaf alone
  module _ (possible : is_possible look ≡ true) (f : Feeder) (leaf : FixedLeaf) (is_feeder : IsFeeder m.space own f) (on : feeds m view own f ≡ true) (filed : leaf_of m.space f ≡ Some leaf) where
    abbrev ds : List Outline
    ds = axes m.space view.cube

    at : (j : ℕ) × (0 + j ≡ leaf.dim) × (slice_get f.target.args j ≡ Some (Fixed leaf.element)) × (is_leaf_at ds leaf.dim leaf.element ≡ true)
    at = leaf-at ds 0 f.target.args leaf (ap (λ c. widest_leaf (axes m.space c) 0 f.target.args) (sym (feeds-parts m view own f on).0) ∙ filed)

    here : slice_get f.target.args leaf.dim ≡ Some (Fixed leaf.element)
    here = let e : leaf.dim ≡ at.0 = omega (arith, at.1) in ap (slice_get f.target.args) e ∙ at.2

    arg : (leaf.dim < length f.target.args) × (slice_index_or f.target.args leaf.dim (Fixed 0) ≡ Fixed leaf.element)
    arg = low-at f.target.args leaf.dim (Fixed leaf.element) here

    pub dim-low : leaf.dim < length ds
    dim-low = omega (arith, arg.0, args-long m.space own f.target is_feeder.target, ap (λ c. length (axes m.space c)) (feeds-parts m view own f on).0)

    element-low : leaf.element < slice_index_or (sizes m.space view.cube) leaf.dim 0
    element-low =
        subst (λ c. leaf.element < slice_index_or (sizes m.space c) leaf.dim 0) (feeds-parts m view own f on).0
        (subst (IsArg (sizes m.space own) (slice_index_or (sizes m.space f.target.cube) leaf.dim 0)) arg.1
        (arg-at (IsArg (sizes m.space own)) (sizes m.space f.target.cube) f.target.args leaf.dim (Fixed 0) is_feeder.target.1 arg.0))

    stands : stands_over look leaf.dim leaf.element ≡ true
    stands =
        ap (λ l. stands_over l leaf.dim leaf.element) (look-leaves m view leaves)
        ∙ (let e : 0 + leaf.dim ≡ leaf.dim = omega arith in
        subst (λ n. stands_over (look_below m view.cube view.area.now view.reference.now) n leaf.element ≡ true) e
        (stands-at (look_below m view.cube view.area.now view.reference.now) 0 f.target.args (feeds-parts m view own f on).1 leaf.dim leaf.element here))

    only-counts : (e : ℕ) → counts_in ds leaf.dim leaf.element e ≡ true → (e == leaf.element) ≡ true
    only-counts e h =
        let (d, found) = arg-there ds leaf.dim dim-low in
        let low : IsElement d leaf.element = omega (arith, element-low, size-of-axis m.space view.cube leaf.dim d found) in
        let is : is_leaf d leaf.element ≡ true = ap (λ o. option_map_or (λ d. is_leaf d leaf.element) o false) (sym found) ∙ at.3 in
        let counts : is_nonzero (coef d leaf.element e) ≡ true = ap (λ o. option_map_or (λ (d : Outline). is_nonzero (coef d leaf.element e)) o false) (sym found) ∙ h in
        eq-eqb e leaf.element (sym (only-own d (axis-is m.space is_view.valid view.cube leaf.dim d found) leaf.element e low is counts))

    pub only-narrow : IsOnlyNarrow look leaf.dim leaf.element
    only-narrow = record {
      some = some-narrow look leaf.dim possible dim-low;
      each = each_narrow-intro look is_view.area leaf.dim (λ e. e == leaf.element)
          (λ e is. only-counts e (each_narrow-elim look is_view.area leaf.dim (λ e. counts_in ds leaf.dim leaf.element e) stands e is));
    }

  -- ---- groups

  feeder-is : AreRules m.space m.rules → own < length m.space.cubes → (place : ℕ) (f : Feeder) → slice_get fs place ≡ Some f → IsFeeder m.space own f
  feeder-is ruled there place f at = found_holds (IsFeeder m.space own) fs place f (ruled.cube own there).feeders at

  module _ (possible : is_possible look ≡ true) (ruled : AreRules m.space m.rules) (there : own < length m.space.cubes) where
    pub dim-none : (dim : ℕ) (found : Option ℕ) → ((element : ℕ) → IsOnlyNarrow look dim element → found ≡ Some element)
        → ((element : ℕ) → found ≡ Some element → NoneFeeds m view own (Some (record { dim = dim; element = element })))
        → (leaf : FixedLeaf) → leaf.dim ≡ dim → NoneFeeds m view own (Some leaf)
    dim-none dim found only none leaf same place f at filed = false_from_ne_true (feeds m view own f) (λ on.
        let narrow : IsOnlyNarrow look dim leaf.element = subst (λ n. IsOnlyNarrow look n leaf.element) same (only-narrow possible f leaf (feeder-is ruled there place f at) on filed) in
        let own_leaf : FixedLeaf = record { dim = dim; element = leaf.element } in
        let equal : leaf ≡ own_leaf = ap (λ n. record { dim = n; element = leaf.element }) same in
        let off : feeds m view own f ≡ false = none leaf.element (only leaf.element narrow) place f at (filed ∙ ap Some equal) in
        let clash : true ≡ false = sym on ∙ off in cc)

    pub leaf-none : (n : ℕ) → length (axes m.space view.cube) ≤ n → ((leaf : FixedLeaf) → leaf.dim < n → NoneFeeds m view own (Some leaf)) → (leaf : FixedLeaf) → NoneFeeds m view own (Some leaf)
    leaf-none n past none leaf place f at filed = false_from_ne_true (feeds m view own f) (λ on.
        let low = dim-low possible f leaf (feeder-is ruled there place f at) on filed in
        let off : feeds m view own f ≡ false = none leaf (omega (arith, low, past)) place f at filed in
        let clash : true ≡ false = sym on ∙ off in cc)

  pub at-feeds : (place : ℕ) (own_fs : List Feeder) (f : Feeder) → own_fs ≡ fs → place < length own_fs → f ≡ get_or own_fs place f → feeds_at m view own place ≡ feeds m view own f
  at-feeds place own_fs f same low is =
      ap (λ o. option_map_or (feeds m view own) o false) (ap (λ (xs : List Feeder). slice_get xs place) (sym same) ∙ slice_get-get_or own_fs place f low ∙ ap Some (sym is))

  some-at : (place : ℕ) → feeds_at m view own place ≡ true → list_any (feeds m view own) fs ≡ true
  some-at place on = by (slice_get fs place) refl on
    where
      by : (o : Option Feeder) → slice_get fs place ≡ o → option_map_or (feeds m view own) o false ≡ true → list_any (feeds m view own) fs ≡ true
      by None at on = absurd (cc)
      by (Some f) at on = any-found (feeds m view own) fs place f at on

  pub group-some : (group : List FiledFeeder) → list_any (λ (filed : FiledFeeder). feeds_at m view own filed.place) group ≡ true → list_any (feeds m view own) fs ≡ true
  group-some group on = let (i, filed, low, is, holds) = Any-from_list_any (λ (filed : FiledFeeder). feeds_at m view own filed.place) group on in some-at filed.place holds

  pub group-none : (group : List FiledFeeder) (leaf : Option FixedLeaf) → map (λ (filed : FiledFeeder). filed.place) group ≡ filed_places m.space fs view.cube leaf
      → list_any (λ (filed : FiledFeeder). feeds_at m view own filed.place) group ≡ false → NoneFeeds m view own leaf
  group-none group leaf are off place f at filed = false_from_ne_true (feeds m view own f) (λ on.
      let cube : (f.target.cube == view.cube) ≡ true = eq-eqb f.target.cube view.cube (feeds-parts m view own f on).0 in
      let mine : is_filed m.space fs view.cube leaf place ≡ true = ap (λ o. option_map_or (λ (f : Feeder). (f.target.cube == view.cube) && is_same_leaf (leaf_of m.space f) leaf) o false) at
      ∙ and_from _ _ cube (ap (λ l. is_same_leaf l leaf) filed ∙ same-leaf leaf) in
      let fed : feeds_at m view own place ≡ true = ap (λ o. option_map_or (feeds m view own) o false) at ∙ on in
      let found : list_any (feeds_at m view own) (filed_places m.space fs view.cube leaf) ≡ true = any-filter (is_filed m.space fs view.cube leaf) (feeds_at m view own) (range_with_len 0 (length fs))
      ∙ at-range (λ p. is_filed m.space fs view.cube leaf p && feeds_at m view own p) (length fs) place (found-low fs place f at) (and_from _ _ mine fed) in
      let clash : true ≡ false = sym found ∙ ap (list_any (feeds_at m view own)) (sym are) ∙ sym (any-map group) ∙ off in cc)
    where
      same-leaf : (leaf : Option FixedLeaf) → is_same_leaf leaf leaf ≡ true
      same-leaf None = refl
      same-leaf (Some leaf) = and_from _ _ (eq-eqb leaf.dim leaf.dim refl) (eq-eqb leaf.element leaf.element refl)

      any-map : (group : List FiledFeeder) → list_any (λ (filed : FiledFeeder). feeds_at m view own filed.place) group ≡ list_any (feeds_at m view own) (map (λ (filed : FiledFeeder). filed.place) group)
      any-map [] = refl
      any-map (g ∷ group) = ap (λ t. feeds_at m view own g.place || t) (any-map group)

  pub group-low : (group : List FiledFeeder) (leaf : Option FixedLeaf) → map (λ (filed : FiledFeeder). filed.place) group ≡ filed_places m.space fs view.cube leaf → All (λ (filed : FiledFeeder). filed.place < length fs) group
  group-low group leaf are k d low =
      let long : k < length (filed_places m.space fs view.cube leaf) = omega (arith, low, length-map group (λ (filed : FiledFeeder). filed.place), ap length are) in
      let below = All-filter (is_filed m.space fs view.cube leaf) (λ p. p < length fs) (range_with_len 0 (length fs)) (range-low (length fs)) k 0 long in
      subst (λ p. p < length fs) (ap (λ ps. get_or ps k 0) (sym are) ∙ get_or-map (λ (filed : FiledFeeder). filed.place) group k d 0 low) below

  pub all-none : ((leaf : FixedLeaf) → NoneFeeds m view own (Some leaf)) → NoneFeeds m view own None → list_any (feeds m view own) fs ≡ false
  all-none some none = false_from_ne_true (list_any (feeds m view own) fs) (λ on.
      let (i, f, low, is, holds) = Any-from_list_any (feeds m view own) fs on in
      let at : slice_get fs i ≡ Some f = slice_get-get_or fs i f low ∙ ap Some is in
      let off : feeds m view own f ≡ false = by i f at (leaf_of m.space f) refl in
      let clash : true ≡ false = sym holds ∙ off in cc)
    where
      by : (i : ℕ) (f : Feeder) → slice_get fs i ≡ Some f → (leaf : Option FixedLeaf) → leaf_of m.space f ≡ leaf → feeds m view own f ≡ false
      by i f at None filed = none i f at filed
      by i f at (Some leaf) filed = some leaf i f at filed
