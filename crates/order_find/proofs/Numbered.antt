-- The numbers of the nodes, cube by cube.
use Rattle.std.proofs.Common.{◌≡◌, refl, sym, ap, ◌∙◌, subst, arith, ℕ, zero, suc, ◌+◌, ◌<◌, ◌≤◌, ◌⊎◌, inl, inr, Bool, true, false, Some, List, [], ◌∷◌, ◌++◌, length, map}
use Rattle.std.specs.Prelude.{slice_get, slice_index_or, option_map, if◌then◌else◌}
use Rattle.std.specs.List.{range_with_len}
use Rattle.std.proofs.lemmas.Bool.{cases_lt}
use Rattle.std.proofs.lemmas.List.{append_assoc, length-append, get_or_append_left, get_or_push, length_push}
use Rattle.std.proofs.lemmas.List.FromFn.{length-range_with_len, get_or-range_with_len, length-map-range_with_len, map-range_with_len_more}
use Rattle.std.proofs.lemmas.Option.{slice_get-map, slice_get_within, slice_get-get_or}
use Rattle.lists.proofs.Found.{some_same}
use Rattle.order_find.specs.declared.numbering.Place.{Place}
use Rattle.rule_model.specs.BoundModel.{BoundModel}
use Rattle.arrow_laws.specs.Nodes.{has_nodes}
use Rattle.order_find.specs.declared.numbering.Numbering.{Numbering}
use Rattle.order_find.specs.Numbers.{AreNumbered, IsNumbering, IsPlace, width, width_of, place_at, places_of, number_of}

-- what two lists have, one behind the other
get-left : {X : Type 0} (xs ys : List X) (k : ℕ) (x : X) → slice_get xs k ≡ Some x → slice_get (xs ++ ys) k ≡ Some x
get-left [] ys k x is = absurd (cc is)
get-left (y ∷ xs) ys zero x is = is
get-left (y ∷ xs) ys (suc k) x is = get-left xs ys k x is

get-past : {X : Type 0} (xs ys : List X) (k j : ℕ) → k ≡ length xs + j → slice_get (xs ++ ys) k ≡ slice_get ys j
get-past [] ys k j is = let same : k ≡ j = omega arith in ap (slice_get ys) same
get-past (x ∷ xs) ys zero j is = absurd (omega arith)
get-past (x ∷ xs) ys (suc k) j is = get-past xs ys k j (omega arith)

get-either : {X : Type 0} (xs ys : List X) (k : ℕ) (x : X) → slice_get (xs ++ ys) k ≡ Some x
    → (slice_get xs k ≡ Some x) ⊎ ((j : ℕ) × (k ≡ length xs + j) × (slice_get ys j ≡ Some x))
get-either [] ys k x is = inr (k, omega arith, is)
get-either (y ∷ xs) ys zero x is = inl is
get-either (y ∷ xs) ys (suc k) x is = by (get-either xs ys k x is)
  where
    by : (slice_get xs k ≡ Some x) ⊎ ((j : ℕ) × (k ≡ length xs + j) × (slice_get ys j ≡ Some x))
        → (slice_get xs k ≡ Some x) ⊎ ((j : ℕ) × (suc k ≡ suc (length xs) + j) × (slice_get ys j ≡ Some x))
    by (inl h) = inl h
    by (inr (j, e, h)) = inr (j, omega (arith, e), h)

get-place : (cube : ℕ) (kind : Bool) (w e : ℕ) → e < w → slice_get (places_of cube kind w) e ≡ Some (place_at cube kind e)
get-place cube kind w e low =
    let range : slice_get (range_with_len 0 w) e ≡ Some e = slice_get-get_or (range_with_len 0 w) e 0 (omega (arith, low, length-range_with_len 0 w)) ∙ ap Some (get_or-range_with_len 0 w e 0 low ∙ omega arith) in
    slice_get-map (place_at cube kind) (range_with_len 0 w) e ∙ ap (option_map (place_at cube kind)) range

place-got : (cube : ℕ) (kind : Bool) (w e : ℕ) (place : Place) → slice_get (places_of cube kind w) e ≡ Some place → (e < w) × (place ≡ place_at cube kind e)
place-got cube kind w e place is =
    let within : e < length (map (place_at cube kind) (range_with_len 0 w)) = slice_get_within (places_of cube kind w) e place is in
    let low : e < w = omega (arith, within, length-map-range_with_len (place_at cube kind) 0 w) in
    (low, some_same (sym is ∙ get-place cube kind w e low))

pub places-more : (cube : ℕ) (kind : Bool) (e : ℕ) (old now : List Place) → now ≡ old ++ places_of cube kind e → now ++ place_at cube kind e ∷ [] ≡ old ++ places_of cube kind (e + 1)
places-more cube kind e old now is =
    ap (λ xs. xs ++ place_at cube kind e ∷ []) is ∙ append_assoc old (places_of cube kind e) (place_at cube kind e ∷ [])
    ∙ ap (λ xs. old ++ xs) (sym (map-range_with_len_more (place_at cube kind) 0 e e (omega arith)))

pub places-long : (cube : ℕ) (kind : Bool) (w : ℕ) (old now : List Place) → now ≡ old ++ places_of cube kind w → length now ≡ length old + w
places-long cube kind w old now is = ap length is ∙ length-append old (places_of cube kind w) ∙ ap (λ n. length old + n) (length-map-range_with_len (place_at cube kind) 0 w)

-- the cubes before one have their numbers
pub none-numbered : (m : BoundModel) (kind : Bool) (old : List Place) → AreNumbered m kind old 0 [] old
none-numbered m kind old = record { each = refl; keeps = λ number place is. is; there = λ c e low. absurd (omega (arith, low)); back = λ number place is. inl is }

-- a number is that of a node before, or of one of these cubes
abbrev Back : BoundModel → Bool → List Place → ℕ → List ℕ → ℕ → Place → Type 0
Back m kind old cubes firsts number place =
    (slice_get old number ≡ Some place)
    ⊎ ((place.cube < cubes) × (place.element < width_of m kind place.cube) × (place.kind ≡ kind) × (slice_index_or firsts place.cube 0 + place.element ≡ number))

-- and those up to it, where its nodes come behind theirs
pub numbered-next : (m : BoundModel) (kind : Bool) (old : List Place) (cube first w : ℕ) (firsts : List ℕ) (places : List Place) → w ≡ width_of m kind cube → first ≡ length places
    → AreNumbered m kind old cube firsts places → AreNumbered m kind old (cube + 1) (firsts ++ first ∷ []) (places ++ places_of cube kind w)
numbered-next m kind old cube first w firsts places wide begins n = record {
  each = omega (arith, length_push firsts first, n.each);
  keeps = λ number place is. get-left places (places_of cube kind w) number place (n.keeps number place is);
  there = there;
  back = back;
}
  where
    firsts' : List ℕ
    firsts' = firsts ++ first ∷ []

    places' : List Place
    places' = places ++ places_of cube kind w

    same : (c : ℕ) → c < cube → slice_index_or firsts' c 0 ≡ slice_index_or firsts c 0
    same c low = get_or_append_left firsts (first ∷ []) 0 c (omega (arith, low, n.each))

    own : slice_index_or firsts' cube 0 ≡ length places
    own = get_or_push firsts first 0 cube n.each ∙ begins

    new : (e : ℕ) → e < width_of m kind cube → slice_get places' (slice_index_or firsts' cube 0 + e) ≡ Some (place_at cube kind e)
    new e low =
        let less : e < w = subst (λ x. e < x) (sym wide) low in
        get-past places (places_of cube kind w) (slice_index_or firsts' cube 0 + e) e (omega (arith, own)) ∙ get-place cube kind w e less

    there : (c e : ℕ) → c < cube + 1 → e < width_of m kind c → slice_get places' (slice_index_or firsts' c 0 + e) ≡ Some (place_at c kind e)
    there c e low less = by (cases_lt c cube)
      where
        by : (c < cube) ⊎ (cube ≤ c) → slice_get places' (slice_index_or firsts' c 0 + e) ≡ Some (place_at c kind e)
        by (inl before) = ap (λ k. slice_get places' (k + e)) (same c before) ∙ get-left places (places_of cube kind w) (slice_index_or firsts c 0 + e) (place_at c kind e) (n.there c e before less)
        by (inr past) =
            let is : cube ≡ c = omega (arith, low, past) in
            subst (λ a. e < width_of m kind a → slice_get places' (slice_index_or firsts' a 0 + e) ≡ Some (place_at a kind e)) is (new e) less

    back : (number : ℕ) (place : Place) → slice_get places' number ≡ Some place → Back m kind old (cube + 1) firsts' number place
    back number place is = by (get-either places (places_of cube kind w) number place is)
      where
        before : Back m kind old cube firsts number place → Back m kind old (cube + 1) firsts' number place
        before (inl held) = inl held
        before (inr (low, less, kinds, e)) = inr (omega (arith, low), less, kinds, ap (λ k. k + place.element) (same place.cube low) ∙ e)

        by : (slice_get places number ≡ Some place) ⊎ ((j : ℕ) × (number ≡ length places + j) × (slice_get (places_of cube kind w) j ≡ Some place)) → Back m kind old (cube + 1) firsts' number place
        by (inl held) = before (n.back number place held)
        by (inr (j, e, h)) =
            let (low, is) = place-got cube kind w j place h in
            let less : j < width_of m kind cube = subst (λ x. j < x) wide low in
            subst (Back m kind old (cube + 1) firsts' number) (sym is) (inr (omega arith, less, refl, omega (arith, own, e)))

-- how many nodes of a kind a cube has, where it has some
width-there : (m : BoundModel) (kind : Bool) (cube : ℕ) (t : Bool) → has_nodes m cube kind ≡ t → t ≡ true → width_of m kind cube ≡ width m.space cube
width-there m kind cube true is on = ap (λ t. if t then width m.space cube else 0) is
width-there m kind cube false is on = absurd (cc on)

there-width : (m : BoundModel) (kind : Bool) (cube e : ℕ) (t : Bool) → has_nodes m cube kind ≡ t → e < (if t then width m.space cube else 0) → (e < width m.space cube) × (has_nodes m cube kind ≡ true)
there-width m kind cube e true is low = (low, is)
there-width m kind cube e false is low = absurd (omega (arith, low))

module _ (m : BoundModel) (n : Numbering) (count : ℕ) (all : count ≡ length m.space.cubes) (places : List Place) (firsts : AreNumbered m true [] count n.firsts.items places) (totals : AreNumbered m false places count n.totals.items n.places.items) where
  placed : (cube e : ℕ) (kind : Bool) → IsPlace m (place_at cube kind e) → slice_get n.places.items (number_of n (place_at cube kind e)) ≡ Some (place_at cube kind e)
  placed cube e true is =
      let low : e < width_of m true cube = is.element in
      totals.keeps (slice_index_or n.firsts.items cube 0 + e) (place_at cube true e) (firsts.there cube e (omega (arith, all, is.cube)) low)
  placed cube e false is =
      let low : e < width_of m false cube = subst (λ w. e < w) (sym (width-there m false cube (has_nodes m cube false) refl is.kind)) is.element in
      totals.there cube e (omega (arith, all, is.cube)) low

  abbrev Backs : ℕ → Place → Type 0
  Backs number place = IsPlace m place × (number_of n place ≡ number)

  back-in : (kind : Bool) (number : ℕ) (place : Place) → place.kind ≡ kind → place.cube < count → place.element < width_of m kind place.cube → (slice_index_or (if kind then n.firsts.items else n.totals.items) place.cube 0 + place.element ≡ number) → Backs number place
  back-in kind number place same low less e =
      let (inside, has) = there-width m kind place.cube place.element (has_nodes m place.cube kind) refl less in (
        record { cube = omega (arith, low, all); element = inside; kind = subst (λ k. has_nodes m place.cube k ≡ true) (sym same) has },
        ap (λ k. slice_index_or (if k then n.firsts.items else n.totals.items) place.cube 0 + place.element) same ∙ e,
      )

  back : (number : ℕ) (place : Place) → slice_get n.places.items number ≡ Some place → Backs number place
  back number place at = by (totals.back number place at)
    where
      by-first : (slice_get [] number ≡ Some place) ⊎ ((place.cube < count) × (place.element < width_of m true place.cube) × (place.kind ≡ true) × (slice_index_or n.firsts.items place.cube 0 + place.element ≡ number)) → Backs number place
      by-first (inl none) = absurd (cc none)
      by-first (inr (low, less, kind, e)) = back-in true number place kind low less e

      by : (slice_get places number ≡ Some place) ⊎ ((place.cube < count) × (place.element < width_of m false place.cube) × (place.kind ≡ false) × (slice_index_or n.totals.items place.cube 0 + place.element ≡ number)) → Backs number place
      by (inl held) = by-first (firsts.back number place held)
      by (inr (low, less, kind, e)) = back-in false number place kind low less e

  pub numbering-is : IsNumbering m n
  numbering-is = record {
    firsts = firsts.each ∙ all;
    totals = totals.each ∙ all;
    there = λ place is. placed place.cube place.element place.kind is;
    back = back;
  }
