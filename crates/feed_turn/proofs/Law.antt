-- The feeder that is found covers the reference.
use Rattle.std.proofs.Common.{◌≡◌, ap, ◌∙◌, sym, arith, refl, subst, ℕ, zero, suc, ◌+◌, ◌<◌, Bool, true, false, not, ◌||◌, ◌&&◌, ◌==◌, Option, Some, None, option_map, ℤ, List, [], ◌∷◌, length, get_or, map, filter, if◌then◌else◌, Contains, eq-eqb}
use Rattle.std.specs.Prelude.{slice_get, slice_index_or, option_and_then, nat_lt}
use Rattle.std.specs.List.{list_any, list_all, range_with_len}
use Rattle.std.specs.Option.{option_map_or, option_or}
use Rattle.std.proofs.lemmas.Bool.{and_parts, and_from, or_right, ltb-true}
use Rattle.std.proofs.lemmas.Bool.Decides.{Decides-eqb}
use Rattle.std.proofs.lemmas.List.FromFn.{get_or-map-range_with_len, length-map-range_with_len}
use Rattle.std.proofs.lemmas.Option.{get_or_from_slice_get, slice_get_within}
use Rattle.lists.proofs.Found.{mapped}
use Rattle.lists.proofs.Members.{kept_member}
use Rattle.dim_core.specs.Outline.{Outline, IsElement}
use Rattle.dim_weights.specs.Coefficients.{coef}
use Rattle.dim_weights.specs.Table.{is_nonzero, leaves_of}
use Rattle.cube_space.specs.Layout.{axes, sizes}
use Rattle.cube_space.specs.Cells.{IsSpace, is_leaf}
use Rattle.rule_laws.specs.declared.reference.Reference.{Reference}
use Rattle.rule_laws.specs.declared.reference.Arg.{Arg}
use Rattle.rule_laws.specs.declared.reference.Arg.TheVariants.{Fixed, Moved}
use Rattle.rule_model.specs.declared.area.Area.{Area}
use Rattle.rule_model.specs.declared.rules.Feeder.{Feeder}
use Rattle.rule_model.specs.BoundModel.{BoundModel}
use Rattle.rule_model.specs.Areas.{in_set, in_source_set}
use Rattle.rule_model.specs.Conditions.{IsArea, IsReference}
use Rattle.model_laws.proofs.Levels.{axis-is}
use Rattle.order_laws.specs.Scales.{is_leaf_element}
use Rattle.cover_laws.specs.Looking.{Look, sent, is_narrow, is_possible, each_narrow, each_named, all_named}
use Rattle.cover_laws.specs.Covered.{counts_in, look_below, are_sources, stands_over, each_sent, reaches_from, reaches, all_reach, feeds_all, covers}
use Rattle.cover_laws.proofs.Looks.{IsNarrow, each_narrow-intro, all_named-intro}
use Rattle.cover_laws.proofs.Counted.{own-counts, only-own, in-among, contained}
use Rattle.cover_laws.proofs.Reached.{all-intro}
use Rattle.feed_turn.specs.Leaves.{set_leaves, counts, over}
use Rattle.feed_turn.specs.Named.{named_set}
use Rattle.feed_turn.specs.Inverse.{inverse}
use Rattle.feed_turn.specs.Shift.{short_form}
use Rattle.feed_turn.specs.Turning.{Turn, area_leaves, area_over, source_set, source_sets, source_area, is_shared, keeps_each, is_kept, inverse_at, map_back, way_back, first_way, target_arg, target_args, feeder_to, turned_feeder}
use Rattle.feed_turn.proofs.Ranges.{range-at, within}
use Rattle.feed_turn.proofs.Shared.{same-axis}
use Rattle.feed_turn.proofs.Places.{size-at, axis-there, IsMove, move-at}
use Rattle.feed_turn.proofs.BackFacts.{back-long, back-sends, short-sends, keeps-itself}
use Rattle.feed_turn.proofs.Found.{found-at, first-found}
use Rattle.feed_turn.proofs.SourceFacts.{any-of, sent-named, named-listed, over-counts}

-- ---- lists

-- what is in a list and passes is kept
kept : (p : ℕ → Bool) (xs : List ℕ) (x : ℕ) → list_any (λ y. y == x) xs ≡ true → p x ≡ true → Contains (filter p xs) x
kept p [] x has on = absurd (cc)
kept p (y ∷ xs) x has on = by (y == x) refl has (kept p xs x)
  where
    first : (y ≡ x) → (b : Bool) → p y ≡ b → Contains (Rattle.std.proofs.Common.cond b (y ∷ filter p xs) (filter p xs)) x
    first same true here = (0, omega arith, same)
    first same false off = absurd (let clash : true ≡ false = sym on ∙ ap p (sym same) ∙ off in cc)

    later : Contains (filter p xs) x → (b : Bool) → Contains (Rattle.std.proofs.Common.cond b (y ∷ filter p xs) (filter p xs)) x
    later (k, low, at) true = (suc k, omega (arith, low), at)
    later c false = c

    by : (t : Bool) → (y == x) ≡ t → (t || list_any (λ y. y == x) xs) ≡ true → (list_any (λ y. y == x) xs ≡ true → p x ≡ true → Contains (filter p xs) x) → Contains (Rattle.std.proofs.Common.cond (p y) (y ∷ filter p xs) (filter p xs)) x
    by true same has rest = first ((Decides-eqb y x).0 same) (p y) refl
    by false other has rest = later (rest has on) (p y)

-- ---- one dimension

shown : (b : Bool) → not (not b) ≡ true → b ≡ true
shown true h = refl
shown false h = absurd (cc)

narrow-is-leaf : (look : Look) (i e : ℕ) → is_narrow look i e ≡ true → is_leaf_element (axes look.space look.cube) i e ≡ true
unfolding is_narrow
narrow-is-leaf look i e h = (and_parts _ _ h).0

-- the leaves of an element pass where each leaf that counts in it does
each-leaf : (d : Outline) (element : ℕ) (p : ℕ → Bool) → ((l : ℕ) → l < length d.elements → counts d element l ≡ true → p l ≡ true) → list_all (λ (pair : ℕ × ℤ). p pair.0) (leaves_of d element) ≡ true
each-leaf d element p h = all-intro (λ (pair : ℕ × ℤ). p pair.0) (leaves_of d element) (λ pair has.
    let (inside, on) = contained (λ (p : ℕ × ℤ). Contains (range_with_len 0 (length d.elements)) p.0 × (is_nonzero (coef d element p.0) ≡ true)) (leaves_of d element) pair (in-among (coef d element) (range_with_len 0 (length d.elements))) has in
    h pair.0 (low pair.0 inside) on)
  where
    low : (l : ℕ) → Contains (range_with_len 0 (length d.elements)) l → l < length d.elements
    low l (k, less, at) =
        let small = within (length d.elements) k less in
        let same : k ≡ l = sym (range-at (length d.elements) k l small) ∙ at in
        omega (arith, small, same)

module _ (m : BoundModel) (valid : IsSpace m.space) (cube : ℕ) (there : cube < length m.space.cubes) (area : Area) (is_area : IsArea m.space cube area) (r : Reference) (is : IsReference m.space cube r) where
  abbrev turn : Turn
  turn = record { space = m.space; cube = cube; area = area; reference = r }

  abbrev look : Look
  look = look_below m cube area r

  abbrev own : List Outline
  own = axes m.space cube

  abbrev its : List Outline
  its = axes m.space r.cube

  -- a narrow element is one of the leaves of the area
  record IsOwnLeaf (i e : ℕ) (d : Outline) : Type 0 where
    low : IsElement d e
    leaf : is_leaf d e ≡ true
    among : Contains (area_leaves m.space cube area i) e

  narrow-leaf : (i e : ℕ) (d : Outline) → slice_get own i ≡ Some d → IsNarrow look is_area i e → IsOwnLeaf i e d
  narrow-leaf i e d at n = record { low = low; leaf = leaf; among = subst (λ xs. Contains xs e) (ap (λ o. option_map_or (λ d. set_leaves d (slice_index_or area.sets i None)) o []) (sym at)) (by (slice_index_or area.sets i None) refl) }
    where
      parts : (nat_lt e (slice_index_or (sizes m.space cube) i 0) ≡ true) × (in_set (slice_index_or area.sets i None) e ≡ true)
      parts = and_parts (nat_lt e (slice_index_or (sizes m.space cube) i 0)) (in_set (slice_index_or area.sets i None) e) n.inside

      low : e < length d.elements
      low = let small = ltb-true e (slice_index_or (sizes m.space cube) i 0) parts.0 in omega (arith, small, size-at own i d at)

      leaf : is_leaf d e ≡ true
      leaf = shown (is_leaf d e) (ap (λ o. not (option_map_or (λ d. not (is_leaf d e)) o false)) (sym at) ∙ narrow-is-leaf look i e n.narrow)

      by : (set : Option (List ℕ)) → slice_index_or area.sets i None ≡ set → Contains (set_leaves d set) e
      by None none = kept_member (is_leaf d) (length d.elements) e low leaf
      by (Some listed) some = kept (is_leaf d) listed e (ap (λ s. in_set s e) (sym some) ∙ parts.1) leaf

  -- a leaf counts in itself
  itself : (i e : ℕ) (d : Outline) → slice_get own i ≡ Some d → IsOwnLeaf i e d → counts d e e ≡ true
  itself i e d at l = own-counts d (axis-is m.space valid cube i d at) e l.low l.leaf

  over-own : (i over e : ℕ) (d : Outline) → slice_get own i ≡ Some d → counts d over e ≡ true → counts_in own i over e ≡ true
  over-own i over e d at on = ap (λ o. option_map_or (λ (d : Outline). is_nonzero (coef d over e)) o false) at ∙ on

  -- ---- the sources

  sets-at : (base : ℕ) (args : List Arg) (j : ℕ) (arg : Arg) → slice_get args j ≡ Some arg → slice_index_or (source_sets turn base args) j None ≡ source_set turn (base + j) arg
  sets-at base [] j arg at = absurd (cc)
  sets-at base (a ∷ args) zero arg at = let same : a ≡ arg = cc in ap (source_set turn base) same ∙ ap (λ n. source_set turn n arg) (let e : base ≡ base + 0 = omega arith in e)
  sets-at base (a ∷ args) (suc j) arg at = sets-at (suc base) args j arg at ∙ ap (λ n. source_set turn n arg) (let e : suc base + j ≡ base + suc j = omega arith in e)

  abbrev sets : List (Option (List ℕ))
  sets = source_sets turn 0 r.args

  set-at : (j : ℕ) (arg : Arg) → slice_get r.args j ≡ Some arg → slice_index_or sets j None ≡ source_set turn j arg
  set-at j arg at = sets-at 0 r.args j arg at ∙ ap (λ n. source_set turn n arg) (let e : 0 + j ≡ j = omega arith in e)

  -- the leaves of an element are sources where it is listed, or all are
  sources : (j t : ℕ) (set : Option (List ℕ)) → slice_index_or sets j None ≡ set → ((d : Outline) (listed : List ℕ) → slice_get its j ≡ Some d → set ≡ Some listed → Contains listed t) → are_sources its sets j t ≡ true
  sources j t set at has = ap (λ s. option_map_or (λ d. list_all (λ (pair : ℕ × ℤ). in_source_set d s pair.0) (leaves_of d t)) (slice_get its j) true) at ∙ by (slice_get its j) refl set refl
    where
      by : (o : Option Outline) → slice_get its j ≡ o → (s : Option (List ℕ)) → set ≡ s → option_map_or (λ d. list_all (λ (pair : ℕ × ℤ). in_source_set d s pair.0) (leaves_of d t)) o true ≡ true
      by None e s same = refl
      by (Some d) e None same = each-leaf d t (λ l. true) (λ l low on. refl)
      by (Some d) e (Some listed) same = each-leaf d t (λ l. list_any (λ e. is_nonzero (coef d e l)) listed) (λ l low on. any-of (λ e. is_nonzero (coef d e l)) listed t (has d listed e same) on)

  named : (j : ℕ) (arg : Arg) → slice_get r.args j ≡ Some arg → each_named look (are_sources its sets j) arg ≡ true
  named j (Fixed t) at = sources j t (Some (t ∷ [])) (set-at j (Fixed t) at) (λ d listed e same. let one : t ∷ [] ≡ listed = cc in subst (λ xs. Contains xs t) one (0, omega arith, refl))
  named j (Moved from to) at = each_narrow-intro look is_area from (λ e. option_map_or (are_sources its sets j) (sent to e) true) (λ e n. by e n (sent to e) refl)
    where
      move : IsMove m.space cube r j from to
      move = move-at m.space cube r j from to is at

      by : (e : ℕ) → IsNarrow look is_area from e → (o : Option ℕ) → sent to e ≡ o → option_map_or (are_sources its sets j) o true ≡ true
      by e n None goes = refl
      by e n (Some t) goes = sources j t (source_set turn j (Moved from to)) (set-at j (Moved from to) at) listed
        where
          listed : (d : Outline) (found : List ℕ) → slice_get its j ≡ Some d → source_set turn j (Moved from to) ≡ Some found → Contains found t
          listed d found here some =
              let (own_d, own_at) = axis-there own from move.followed in
              let leaf = narrow-leaf from e own_d own_at n in
              let low : t < length d.elements = (let small = move.below e t goes in omega (arith, small, size-at its j d here)) in
              named-listed d to (area_leaves m.space cube area from) t found (sent-named to (area_leaves m.space cube area from) e t leaf.among goes) low
              (ap (λ o. option_and_then (λ d. named_set d to (area_leaves m.space cube area from)) o) (sym here) ∙ some)

  -- ---- the target

  -- back from a leaf below what an element is sent to, the element is found
  module _ (i j : ℕ) (to back : List (Option ℕ)) (own_d its_d : Outline) (own_at : slice_get own i ≡ Some own_d) (its_at : slice_get its j ≡ Some its_d) (move : IsMove m.space cube r j i to) where
    back-kept : is_kept turn i j to ≡ true → own_d ≡ its_d → (e t l : ℕ) → IsOwnLeaf i e own_d → sent to e ≡ Some t → counts its_d t l ≡ true → sent to l ≡ Some e
    back-kept kept same e t l leaf goes on =
        let keeps = (and_parts (is_shared turn i j) (keeps_each to) kept).1 in
        let inside : e < length to = (let low = leaf.low in omega (arith, low, move.whole, size-at own i own_d own_at)) in
        let stays : e ≡ t = keeps-itself to e t keeps inside goes in
        let counted : counts own_d e l ≡ true = ap (λ (d : Outline). counts d e l) same ∙ ap (λ t. counts its_d t l) stays ∙ on in
        let alone : e ≡ l = only-own own_d (axis-is m.space valid cube i own_d own_at) e l leaf.low leaf.leaf counted in
        subst (λ l. sent to l ≡ Some e) alone (goes ∙ ap Some (sym stays))

    back-inverse : (list : List (Option ℕ)) → inverse its_d to (area_leaves m.space cube area i) ≡ Some list → (stays : Bool) (e t l : ℕ) → IsOwnLeaf i e own_d → sent to e ≡ Some t → l < length its_d.elements → counts its_d t l ≡ true
        → sent (short_form stays list) l ≡ Some e
    back-inverse list found stays e t l leaf goes low on =
        short-sends stays list l e (omega (arith, low, back-long its_d to (area_leaves m.space cube area i) list found))
        (back-sends its_d to (area_leaves m.space cube area i) list found e t l leaf.among goes on low)

  shared-axis : (i j : ℕ) → i < length own → j < length its → is_shared turn i j ≡ true → slice_get own i ≡ slice_get its j
  shared-axis i j low less h = same-axis m.space valid cube r.cube there is.0 i j low less ((Decides-eqb _ _).0 h)

  back-found : (i j : ℕ) (to back : List (Option ℕ)) (own_d its_d : Outline) → slice_get own i ≡ Some own_d → slice_get its j ≡ Some its_d → IsMove m.space cube r j i to → map_back turn i j to ≡ Some back
      → (e t l : ℕ) → IsOwnLeaf i e own_d → sent to e ≡ Some t → l < length its_d.elements → counts its_d t l ≡ true → sent back l ≡ Some e
  unfolding map_back
  back-found i j to back own_d its_d own_at its_at move h e t l leaf goes low on = by (is_kept turn i j to) refl h
    where
      by : (b : Bool) → is_kept turn i j to ≡ b → (if b then Some to else option_map (short_form (is_shared turn i j)) (inverse_at turn i j to)) ≡ Some back → sent back l ≡ Some e
      by true kept h =
          let same : to ≡ back = cc in
          let shared = (and_parts (is_shared turn i j) (keeps_each to) kept).0 in
          let axes_same = shared-axis i j move.followed move.target shared in
          let one : Some own_d ≡ Some its_d = sym own_at ∙ axes_same ∙ its_at in
          let equal : own_d ≡ its_d = cc in
          subst (λ (b : List (Option ℕ)). sent b l ≡ Some e) same (back-kept i j to back own_d its_d own_at its_at move kept equal e t l leaf goes on)
      by false other h =
          let (list, found, is_back) = mapped (short_form (is_shared turn i j)) (inverse_at turn i j to) back h in
          let found_d = ap (λ o. option_and_then (λ d. inverse d to (area_leaves m.space cube area i)) o) (sym its_at) ∙ found in
          subst (λ (b : List (Option ℕ)). sent b l ≡ Some e) is_back (back-inverse i j to back own_d its_d own_at its_at move list found_d (is_shared turn i j) e t l leaf goes low on)

  -- so the way back reaches each narrow element
  way-reaches : (i j : ℕ) (to back : List (Option ℕ)) (own_d : Outline) → slice_get own i ≡ Some own_d → slice_get r.args j ≡ Some (Moved i to) → map_back turn i j to ≡ Some back → reaches look its i (Moved j back) ≡ true
  way-reaches i j to back own_d own_at at found =
      ap (λ o. option_map_or (reaches_from look its i back j) o false) at
      ∙ ap (λ b. if b then each_narrow look i (λ e. option_map_or (each_sent its j back (λ over. counts_in own i over e)) (sent to e) true) else each_named look (each_sent its j back (stands_over look i)) (Moved i to)) (eq-eqb i i refl)
      ∙ each_narrow-intro look is_area i (λ e. option_map_or (each_sent its j back (λ over. counts_in own i over e)) (sent to e) true) (λ e n. by e (narrow-leaf i e own_d own_at n) (sent to e) refl)
    where
      move : IsMove m.space cube r j i to
      move = move-at m.space cube r j i to is at

      by : (e : ℕ) → IsOwnLeaf i e own_d → (o : Option ℕ) → sent to e ≡ o → option_map_or (each_sent its j back (λ over. counts_in own i over e)) o true ≡ true
      by e leaf None goes = refl
      by e leaf (Some t) goes =
          let (its_d, its_at) = axis-there its j move.target in
          ap (λ o. list_all (λ (pair : ℕ × ℤ). option_map_or (λ over. counts_in own i over e) (sent back pair.0) false) (option_map_or (λ d. leaves_of d t) o [])) its_at
          ∙ each-leaf its_d t (λ l. option_map_or (λ over. counts_in own i over e) (sent back l) false) (λ l low on.
          ap (λ o. option_map_or (λ over. counts_in own i over e) o false) (back-found i j to back own_d its_d own_at its_at move found e t l leaf goes low on)
          ∙ over-own i e e own_d own_at (itself i e own_d own_at leaf))

  over-reaches : (i element : ℕ) (own_d : Outline) → slice_get own i ≡ Some own_d → area_over m.space cube area i ≡ Some element → reaches look its i (Fixed element) ≡ true
  over-reaches i element own_d own_at found = each_narrow-intro look is_area i (counts_in own i element) (λ e n.
      let leaf = narrow-leaf i e own_d own_at n in
      over-own i element e own_d own_at (over-counts own_d (area_leaves m.space cube area i) element e (ap (λ o. option_and_then (λ d. over d (area_leaves m.space cube area i)) o) (sym own_at) ∙ found) leaf.among (itself i e own_d own_at leaf)))

  way-found : (i j : ℕ) (arg found : Arg) (own_d : Outline) → slice_get own i ≡ Some own_d → slice_get r.args j ≡ Some arg → way_back turn i j arg ≡ Some found → reaches look its i found ≡ true
  way-found i j (Fixed t) found own_d own_at at h = absurd (cc)
  way-found i j (Moved from to) found own_d own_at at h = by (from == i) refl h
    where
      by : (b : Bool) → (from == i) ≡ b → (if b then option_map (Moved j) (map_back turn i j to) else None) ≡ Some found → reaches look its i found ≡ true
      by false other h = absurd (cc)
      by true same h =
          let (back, found_back, is_found) = mapped (Moved j) (map_back turn i j to) found h in
          let follows : from ≡ i = (Decides-eqb from i).0 same in
          let at_i : slice_get r.args j ≡ Some (Moved i to) = at ∙ ap (λ n. Some (Moved n to)) follows in
          subst (λ (a : Arg). reaches look its i a ≡ true) is_found (way-reaches i j to back own_d own_at at_i found_back)

  target-reaches : (i : ℕ) (arg : Arg) → i < length own → target_arg turn i ≡ Some arg → reaches look its i arg ≡ true
  target-reaches i arg low h = let (own_d, own_at) = axis-there own i low in by own_d own_at (first_way turn i 0 r.args) refl h
    where
      by : (own_d : Outline) → slice_get own i ≡ Some own_d → (o : Option Arg) → first_way turn i 0 r.args ≡ o → option_or o (option_map Fixed (area_over m.space cube area i)) ≡ Some arg → reaches look its i arg ≡ true
      by own_d own_at (Some way) e h =
          let same : way ≡ arg = cc in
          let (j, found, at, is_way) = first-found turn i 0 r.args way e in
          subst (λ (a : Arg). reaches look its i a ≡ true) same (way-found i j found way own_d own_at at (ap (λ n. way_back turn i n found) (let e : j ≡ 0 + j = omega arith in e) ∙ is_way))
      by own_d own_at None e h =
          let (element, found, is_fixed) = mapped Fixed (area_over m.space cube area i) arg h in
          subst (λ (a : Arg). reaches look its i a ≡ true) is_fixed (over-reaches i element own_d own_at found)

  reach : (base : ℕ) (args : List Arg) → ((k : ℕ) (arg : Arg) → slice_get args k ≡ Some arg → reaches look its (base + k) arg ≡ true) → all_reach look its base args ≡ true
  reach base [] h = refl
  reach base (a ∷ args) h = and_from (reaches look its base a) (all_reach look its (suc base) args)
      (ap (λ n. reaches look its n a) (let e : base ≡ base + 0 = omega arith in e) ∙ h 0 a refl)
      (reach (suc base) args (λ k arg at. ap (λ n. reaches look its n arg) (let e : suc base + k ≡ base + suc k = omega arith in e) ∙ h (suc k) arg at))

  args-reach : (args : List Arg) → target_args turn ≡ Some args → all_reach look its 0 args ≡ true
  unfolding target_args
  args-reach args h = reach 0 args (λ k arg at.
      let n = length own in
      let here = found-at (map (target_arg turn) (range_with_len 0 n)) args k arg h at in
      let low : k < n = omega (arith, slice_get_within (map (target_arg turn) (range_with_len 0 n)) k (Some arg) here, length-map-range_with_len (target_arg turn) 0 n) in
      let found : target_arg turn k ≡ Some arg = sym (get_or-map-range_with_len (target_arg turn) 0 n k k None low (omega arith)) ∙ get_or_from_slice_get (map (target_arg turn) (range_with_len 0 n)) k (Some arg) None here in
      ap (λ n. reaches look its n arg) (let e : 0 + k ≡ k = omega arith in e) ∙ target-reaches k arg low found)

  feeds : (statement : ℕ) (args : List Arg) → target_args turn ≡ Some args → feeds_all m cube area r r.cube (feeder_to turn statement args) ≡ true
  unfolding feeds_all source_area
  feeds statement args found =
      and_from ((r.cube == r.cube) && (cube == cube)) (all_named look (are_sources its sets) 0 r.args && all_reach look its 0 args)
      (and_from (r.cube == r.cube) (cube == cube) (eq-eqb r.cube r.cube refl) (eq-eqb cube cube refl))
      (and_from (all_named look (are_sources its sets) 0 r.args) (all_reach look its 0 args) (all_named-intro look (are_sources its sets) r.args named) (args-reach args found))

  pub turned-covers : (statement : ℕ) (feeder : Feeder) → turned_feeder turn statement ≡ Some feeder → covers m cube area r r.cube feeder ≡ true
  unfolding turned_feeder
  turned-covers statement feeder h =
      let (args, found, made) = mapped (feeder_to turn statement) (target_args turn) feeder h in
      subst (λ (f : Feeder). covers m cube area r r.cube f ≡ true) made
      (or_right (not (is_possible look)) (feeds_all m cube area r r.cube (feeder_to turn statement args)) (feeds statement args found))
