-- The feeder that is found is one of the reference's cube.
use Rattle.std.proofs.Common.{◌≡◌, ap, ◌∙◌, sym, arith, refl, subst, ℕ, zero, suc, ◌+◌, ◌-◌, ◌<◌, Bool, true, false, ◌==◌, Option, Some, None, IfSome, option_map, List, [], ◌∷◌, length, get_or, map, filter, if◌then◌else◌, cond, nat_lt, All}
use Rattle.std.specs.Prelude.{slice_get, slice_index_or, option_and_then}
use Rattle.std.specs.List.{range_with_len, find, AllZip}
use Rattle.std.specs.Option.{option_map_or, option_or}
use Rattle.std.proofs.lemmas.Bool.{and_parts, ltb-true}
use Rattle.std.proofs.lemmas.Bool.Decides.{Decides-eqb}
use Rattle.std.proofs.lemmas.List.{length-map}
use Rattle.std.proofs.lemmas.List.Elements.{All-filter, All-map}
use Rattle.std.proofs.lemmas.List.FromFn.{get_or-map-range_with_len, length-map-range_with_len}
use Rattle.std.proofs.lemmas.Option.{get_or_from_slice_get, slice_get_within, unwrap_or-slice_get}
use Rattle.lists.proofs.Found.{mapped}
use Rattle.lists.proofs.Members.{kept_increases}
use Rattle.dim_core.specs.Outline.{Outline}
use Rattle.cube_space.specs.Layout.{Layout, axes, sizes}
use Rattle.cube_space.specs.Cells.{IsSpace, is_leaf}
use Rattle.rule_laws.specs.Maps.{identity, behind, before, place_behind, place_before}
use Rattle.rule_laws.specs.declared.reference.Reference.{Reference}
use Rattle.rule_laws.specs.declared.reference.Arg.{Arg}
use Rattle.rule_laws.specs.declared.reference.Arg.TheVariants.{Fixed, Moved}
use Rattle.rule_model.specs.declared.area.Area.{Area}
use Rattle.rule_model.specs.declared.rules.Feeder.{Feeder}
use Rattle.rule_model.specs.Conditions.{IsSet, IsArea, IsArg, IsReference, IsFeeder}
use Rattle.feed_turn.specs.Leaves.{all_elements, set_leaves, is_total_over, over}
use Rattle.feed_turn.specs.Named.{is_named, names_each_leaf, named_set}
use Rattle.feed_turn.specs.Inverse.{leads, leading_to, inverse}
use Rattle.feed_turn.specs.Shift.{shift, shift_from, sends_alike, shifted, short_form}
use Rattle.feed_turn.specs.Turning.{Turn, area_leaves, area_over, source_set, source_sets, source_area, is_shared, keeps_each, is_kept, inverse_at, map_back, way_back, first_way, target_arg, target_args, feeder_to, turned_feeder}
use Rattle.feed_turn.proofs.Ranges.{all-range}
use Rattle.feed_turn.proofs.Places.{axes-sizes, size-at, axis-there, set-inside, arg-inside, args-long, IsMove, move-at}
use Rattle.feed_turn.proofs.BackFacts.{back-long, back-at}
use Rattle.feed_turn.proofs.Found.{found-at, found-long, first-found}
use Rattle.feed_turn.proofs.Shared.{same-axis}

-- ---- lists

zip-from : {A : Type 0} (R : ℕ → A → Type 0) (ss : List ℕ) (xs : List A) → length xs ≡ length ss → ((k : ℕ) (x : A) → slice_get xs k ≡ Some x → R (slice_index_or ss k 0) x) → AllZip R ss xs
zip-from R [] [] long h = tt
zip-from R [] (x ∷ xs) long h = absurd (omega (arith, long))
zip-from R (s ∷ ss) [] long h = absurd (omega (arith, long))
zip-from R (s ∷ ss) (x ∷ xs) long h = (h 0 x refl, zip-from R ss xs (omega (arith, long)) (λ k y at. h (suc k) y at))

one-set : (size t : ℕ) → t < size → IsSet size (Some (t ∷ []))
one-set size t low = (λ k less. absurd (omega (arith, less)), inside)
  where
    inside : All (λ e. e < size) (t ∷ [])
    inside zero d less = low
    inside (suc k) d less = absurd (omega (arith, less))

-- an option of which what is there is below a size
abbrev IsBelow : ℕ → Option ℕ → Type 0
IsBelow size o = IfSome o (λ e. e < size)

found-below : (xs : List ℕ) (k n : ℕ) → All (λ e. e < n) xs → IsBelow n (slice_get xs k)
found-below [] k n all = tt
found-below (x ∷ xs) zero n all = all 0 0 (omega arith)
found-below (x ∷ xs) (suc k) n all = found-below xs k n (λ j d low. all (suc j) d (omega (arith, low)))

find-below : (p : ℕ → Bool) (xs : List ℕ) (x n : ℕ) → All (λ e. e < n) xs → find p xs ≡ Some x → x < n
find-below p [] x n all is = absurd (cc)
find-below p (y ∷ xs) x n all is = by (p y) is (find-below p xs x n (λ k d low. all (suc k) d (omega (arith, low))))
  where
    by : (b : Bool) → cond b (Some y) (find p xs) ≡ Some x → (find p xs ≡ Some x → x < n) → x < n
    by true is rest = let same : y ≡ x = cc in subst (λ e. e < n) same (all 0 0 (omega arith))
    by false is rest = rest is

-- ---- one dimension

elements-below : (d : Outline) → All (λ e. e < length d.elements) (all_elements d)
elements-below d = all-range (λ e. e < length d.elements) (length d.elements) (λ k low. low)

pub leaves-below : (d : Outline) (set : Option (List ℕ)) → IsSet (length d.elements) set → All (λ e. e < length d.elements) (set_leaves d set)
leaves-below d None is = All-filter (is_leaf d) (λ e. e < length d.elements) (all_elements d) (elements-below d)
leaves-below d (Some listed) is = All-filter (is_leaf d) (λ e. e < length d.elements) listed is.1

over-below : (d : Outline) (leaves : List ℕ) (element : ℕ) → All (λ e. e < length d.elements) leaves → over d leaves ≡ Some element → element < length d.elements
over-below d [] element all is = find-below (is_total_over d []) (all_elements d) element (length d.elements) (elements-below d) is
over-below d (x ∷ []) element all is = let same : x ≡ element = cc in subst (λ e. e < length d.elements) same (all 0 0 (omega arith))
over-below d (x ∷ y ∷ leaves) element all is = find-below (is_total_over d (x ∷ y ∷ leaves)) (all_elements d) element (length d.elements) (elements-below d) is

named-valid : (d : Outline) (to : List (Option ℕ)) (leaves : List ℕ) → IsSet (length d.elements) (named_set d to leaves)
unfolding named_set
named-valid d to leaves = by (names_each_leaf d to leaves)
  where
    by : (b : Bool) → IsSet (length d.elements) (if b then None else Some (filter (is_named to leaves) (all_elements d)))
    by true = tt
    by false = (kept_increases (is_named to leaves) (length d.elements), All-filter (is_named to leaves) (λ e. e < length d.elements) (all_elements d) (elements-below d))

-- the map back is one of as many elements, to those of the size
record IsMap (size target : ℕ) (map : List (Option ℕ)) : Type 0 where
  long : length map ≡ size
  below : All (IsBelow target) map

inverse-valid : (d : Outline) (to : List (Option ℕ)) (leaves : List ℕ) (n : ℕ) (back : List (Option ℕ)) → All (λ e. e < n) leaves → inverse d to leaves ≡ Some back → IsMap (length d.elements) n back
inverse-valid d to leaves n back all is = record {
  long = back-long d to leaves back is;
  below = λ k e low.
      let inside : k < length d.elements = omega (arith, low, back-long d to leaves back is) in
      let at : get_or back k e ≡ slice_get (leading_to d to leaves k) 0 = Rattle.std.proofs.lemmas.List.get_or_default back k e None low ∙ sym (unwrap_or-slice_get back k None) ∙ back-at d to leaves back is k inside in
      subst (IsBelow n) (sym at) (found-below (leading_to d to leaves k) 0 n (All-filter (leads d to k) (λ e. e < n) leaves all));
}

behind-below : (n p e : ℕ) → IsBelow n (place_behind n p e)
behind-below n p e = by (nat_lt (e + p) n) refl
  where
    by : (b : Bool) → nat_lt (e + p) n ≡ b → IsBelow n (if b then Some (e + p) else None)
    by true on = ltb-true (e + p) n on
    by false off = tt

before-below : (n p e : ℕ) → e < n → IsBelow n (place_before p e)
before-below n p e low = by (nat_lt e p)
  where
    by : (b : Bool) → IsBelow n (if b then None else Some (e - p))
    by true = tt
    by false = omega (arith, low)

shift-valid : (n from to : ℕ) → IsMap n n (shift n from to)
shift-valid n from to = by (from == to) (nat_lt from to)
  where
    by : (s t : Bool) → IsMap n n (if s then identity n else if t then behind n (to - from) else before n (from - to))
    by true t = record { long = length-map-range_with_len Some 0 n; below = All-map (IsBelow n) Some (range_with_len 0 n) (all-range (λ k. k < n) n (λ k low. low)) }
    by false true = record { long = length-map-range_with_len (place_behind n (to - from)) 0 n; below = All-map (IsBelow n) (place_behind n (to - from)) (range_with_len 0 n) (all-range (λ k. IsBelow n (place_behind n (to - from) k)) n (λ k low. behind-below n (to - from) k)) }
    by false false = record { long = length-map-range_with_len (place_before (from - to)) 0 n; below = All-map (IsBelow n) (place_before (from - to)) (range_with_len 0 n) (all-range (λ k. IsBelow n (place_before (from - to) k)) n (λ k low. before-below n (from - to) k low)) }

found-shift : (n place : ℕ) (back map : List (Option ℕ)) → shift_from n place back ≡ Some map → IsMap n n map
found-shift n place [] map is = absurd (cc)
found-shift n place (None ∷ back) map is = found-shift n (place + 1) back map is
found-shift n place (Some element ∷ back) map is = let same : shift n place element ≡ map = cc in subst (IsMap n n) same (shift-valid n place element)

shifted-valid : (n : ℕ) (back : List (Option ℕ)) (o : Option (List (Option ℕ))) → IsMap n n back → shift_from (length back) 0 back ≡ o → IsMap n n (shifted back o)
shifted-valid n back None valid is = valid
shifted-valid n back (Some map) valid is = by (sends_alike map back)
  where
    by : (b : Bool) → IsMap n n (if b then map else back)
    by true = subst (λ k. IsMap k k map) valid.long (found-shift (length back) 0 back map is)
    by false = valid

short-valid : (stays : Bool) (size n : ℕ) (back : List (Option ℕ)) → IsMap size n back → (stays ≡ true → size ≡ n) → IsMap size n (short_form stays back)
unfolding short_form
short-valid false size n back valid same = valid
short-valid true size n back valid same =
    let e = same refl in
    subst (λ k. IsMap k n (shifted back (shift_from (length back) 0 back))) (sym e) (shifted-valid n back (shift_from (length back) 0 back) (subst (λ k. IsMap k n back) e valid) refl)

-- ---- the feeder

module _ (space : Layout) (valid : IsSpace space) (cube : ℕ) (there : cube < length space.cubes) (area : Area) (is_area : IsArea space cube area) (r : Reference) (is : IsReference space cube r) where
  abbrev turn : Turn
  turn = record { space = space; cube = cube; area = area; reference = r }

  leaves-inside : (i : ℕ) (d : Outline) → slice_get (axes space cube) i ≡ Some d → All (λ e. e < length d.elements) (area_leaves space cube area i)
  leaves-inside i d at = subst (λ xs. All (λ e. e < length d.elements) xs) (ap (λ o. option_map_or (λ d. set_leaves d (slice_index_or area.sets i None)) o []) (sym at)) (leaves-below d (slice_index_or area.sets i None) (set-inside (axes space cube) area.sets i d is_area at))

  sources-long : (base : ℕ) (args : List Arg) → length (source_sets turn base args) ≡ length args
  sources-long base [] = refl
  sources-long base (a ∷ args) = ap suc (sources-long (suc base) args)

  source-arg : (base : ℕ) (args : List Arg) (k : ℕ) (set : Option (List ℕ)) → slice_get (source_sets turn base args) k ≡ Some set → (arg : Arg) × (slice_get args k ≡ Some arg) × (source_set turn (base + k) arg ≡ set)
  source-arg base [] k set at = absurd (cc)
  source-arg base (a ∷ args) zero set at = let same : source_set turn base a ≡ set = cc in (a, refl, ap (λ n. source_set turn n a) (let e : base + 0 ≡ base = omega arith in e) ∙ same)
  source-arg base (a ∷ args) (suc k) set at = let (arg, found, same) = source-arg (suc base) args k set at in (arg, found, ap (λ n. source_set turn n arg) (let e : base + suc k ≡ suc base + k = omega arith in e) ∙ same)

  source-valid : (j : ℕ) (arg : Arg) → slice_get r.args j ≡ Some arg → IsSet (slice_index_or (sizes space r.cube) j 0) (source_set turn j arg)
  source-valid j (Fixed t) at = one-set (slice_index_or (sizes space r.cube) j 0) t (arg-inside (sizes space cube) (sizes space r.cube) r.args j (Fixed t) is.1 at)
  source-valid j (Moved from to) at =
      let move = move-at space cube r j from to is at in
      let (d, here) = axis-there (axes space r.cube) j move.target in
      subst (λ n. IsSet n (source_set turn j (Moved from to))) (sym (size-at (axes space r.cube) j d here))
      (subst (IsSet (length d.elements)) (ap (λ o. option_and_then (λ d. named_set d to (area_leaves space cube area from)) o) (sym here)) (named-valid d to (area_leaves space cube area from)))

  sources-valid : IsArea space r.cube (source_area turn)
  unfolding source_area
  sources-valid = zip-from IsSet (sizes space r.cube) (source_sets turn 0 r.args) (sources-long 0 r.args ∙ args-long space cube r is ∙ sym (axes-sizes space r.cube))
      (λ k set at. let (arg, found, same) = source-arg 0 r.args k set at in
      subst (IsSet (slice_index_or (sizes space r.cube) k 0)) (ap (λ n. source_set turn n arg) (let e : k ≡ 0 + k = omega arith in e) ∙ same) (source-valid k arg found))

  abbrev IsTarget : ℕ → Arg → Type 0
  IsTarget i = IsArg (sizes space r.cube) (slice_index_or (sizes space cube) i 0)

  back-valid : (i j : ℕ) (to back : List (Option ℕ)) → slice_get r.args j ≡ Some (Moved i to) → map_back turn i j to ≡ Some back → IsMap (slice_index_or (sizes space r.cube) j 0) (slice_index_or (sizes space cube) i 0) back
  unfolding map_back
  back-valid i j to back at h = by (is_kept turn i j to) refl h
    where
      move : IsMove space cube r j i to
      move = move-at space cube r j i to is at

      alike : is_shared turn i j ≡ true → slice_index_or (sizes space r.cube) j 0 ≡ slice_index_or (sizes space cube) i 0
      alike h =
          let (own_d, own_at) = axis-there (axes space cube) i move.followed in
          let (its_d, its_at) = axis-there (axes space r.cube) j move.target in
          let one : Some own_d ≡ Some its_d = sym own_at ∙ same-axis space valid cube r.cube there is.0 i j move.followed move.target ((Decides-eqb _ _).0 h) ∙ its_at in
          let equal : own_d ≡ its_d = cc in
          size-at (axes space r.cube) j its_d its_at ∙ ap (λ (d : Outline). length d.elements) (sym equal) ∙ sym (size-at (axes space cube) i own_d own_at)

      by : (b : Bool) → is_kept turn i j to ≡ b → (if b then Some to else option_map (short_form (is_shared turn i j)) (inverse_at turn i j to)) ≡ Some back → IsMap (slice_index_or (sizes space r.cube) j 0) (slice_index_or (sizes space cube) i 0) back
      by true kept h =
          let same : to ≡ back = cc in
          let e = alike (and_parts (is_shared turn i j) (keeps_each to) kept).0 in
          let all : All (IsBelow (slice_index_or (sizes space r.cube) j 0)) to = (arg-inside (sizes space cube) (sizes space r.cube) r.args j (Moved i to) is.1 at).2 in
          subst (IsMap (slice_index_or (sizes space r.cube) j 0) (slice_index_or (sizes space cube) i 0)) same (record { long = move.whole ∙ sym e; below = subst (λ n. All (IsBelow n) to) e all })
      by false other h =
          let (own_d, own_at) = axis-there (axes space cube) i move.followed in
          let (its_d, its_at) = axis-there (axes space r.cube) j move.target in
          let (list, found, is_back) = mapped (short_form (is_shared turn i j)) (inverse_at turn i j to) back h in
          let found_d = ap (λ o. option_and_then (λ d. inverse d to (area_leaves space cube area i)) o) (sym its_at) ∙ found in
          let made = inverse-valid its_d to (area_leaves space cube area i) (length own_d.elements) list (leaves-inside i own_d own_at) found_d in
          let sized : IsMap (slice_index_or (sizes space r.cube) j 0) (slice_index_or (sizes space cube) i 0) list = subst (λ n. IsMap n (slice_index_or (sizes space cube) i 0) list) (sym (size-at (axes space r.cube) j its_d its_at)) (subst (λ n. IsMap (length its_d.elements) n list) (sym (size-at (axes space cube) i own_d own_at)) made) in
          subst (IsMap (slice_index_or (sizes space r.cube) j 0) (slice_index_or (sizes space cube) i 0)) is_back (short-valid (is_shared turn i j) (slice_index_or (sizes space r.cube) j 0) (slice_index_or (sizes space cube) i 0) list sized alike)

  way-valid : (i j : ℕ) (arg found : Arg) → slice_get r.args j ≡ Some arg → way_back turn i j arg ≡ Some found → IsTarget i found
  way-valid i j (Fixed t) found at h = absurd (cc)
  way-valid i j (Moved from to) found at h = by (from == i) refl h
    where
      by : (b : Bool) → (from == i) ≡ b → (if b then option_map (Moved j) (map_back turn i j to) else None) ≡ Some found → IsTarget i found
      by false other h = absurd (cc)
      by true same h =
          let (back, found_back, is_found) = mapped (Moved j) (map_back turn i j to) found h in
          let follows : from ≡ i = (Decides-eqb from i).0 same in
          let at_i : slice_get r.args j ≡ Some (Moved i to) = at ∙ ap (λ n. Some (Moved n to)) follows in
          let made = back-valid i j to back at_i found_back in
          let move = move-at space cube r j i to is at_i in
          subst (IsTarget i) is_found (omega (arith, move.target, axes-sizes space r.cube), made.long, made.below)

  target-valid : (i : ℕ) (arg : Arg) → i < length (axes space cube) → target_arg turn i ≡ Some arg → IsTarget i arg
  target-valid i arg low h = let (d, at) = axis-there (axes space cube) i low in by d at (first_way turn i 0 r.args) refl h
    where
      by : (d : Outline) → slice_get (axes space cube) i ≡ Some d → (o : Option Arg) → first_way turn i 0 r.args ≡ o → option_or o (option_map Fixed (area_over space cube area i)) ≡ Some arg → IsTarget i arg
      by d at (Some way) e h =
          let same : way ≡ arg = cc in
          let (j, found, here, is_way) = first-found turn i 0 r.args way e in
          subst (IsTarget i) same (way-valid i j found way here (ap (λ n. way_back turn i n found) (let e : j ≡ 0 + j = omega arith in e) ∙ is_way))
      by d at None e h =
          let (element, found, is_fixed) = mapped Fixed (area_over space cube area i) arg h in
          let low = over-below d (area_leaves space cube area i) element (leaves-inside i d at) (ap (λ o. option_and_then (λ d. over d (area_leaves space cube area i)) o) (sym at) ∙ found) in
          let below : element < slice_index_or (sizes space cube) i 0 = omega (arith, low, size-at (axes space cube) i d at) in
          subst (IsTarget i) is_fixed below

  args-valid : (args : List Arg) → target_args turn ≡ Some args → AllZip (IsArg (sizes space r.cube)) (sizes space cube) args
  unfolding target_args
  args-valid args h = zip-from (IsArg (sizes space r.cube)) (sizes space cube) args (found-long (map (target_arg turn) (range_with_len 0 (length (axes space cube)))) args h ∙ length-map-range_with_len (target_arg turn) 0 (length (axes space cube)) ∙ sym (axes-sizes space cube))
      (λ k arg at.
      let n = length (axes space cube) in
      let here = found-at (map (target_arg turn) (range_with_len 0 n)) args k arg h at in
      let low : k < n = omega (arith, slice_get_within (map (target_arg turn) (range_with_len 0 n)) k (Some arg) here, length-map-range_with_len (target_arg turn) 0 n) in
      let found : target_arg turn k ≡ Some arg = sym (get_or-map-range_with_len (target_arg turn) 0 n k k None low (omega arith)) ∙ get_or_from_slice_get (map (target_arg turn) (range_with_len 0 n)) k (Some arg) None here in
      target-valid k arg low found)

  pub turned-valid : (statement : ℕ) (feeder : Feeder) → turned_feeder turn statement ≡ Some feeder → IsFeeder space r.cube feeder
  unfolding turned_feeder
  turned-valid statement feeder h =
      let (args, found, made) = mapped (feeder_to turn statement) (target_args turn) feeder h in
      subst (IsFeeder space r.cube) made (record { area = sources-valid; target = (there, args-valid args found) })
