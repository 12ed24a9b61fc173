-- Components by name and by index.
use Rattle.std.proofs.Common.{◌≡◌, ℕ, zero, suc, ◌<◌, ℤ, List, [], ◌∷◌, length, get_or, refl, ap, sym, ◌∙◌, arith, subst, true, nat_le, None, not, position, IsTrue, All, sum_by, unsigned_abs, map}
use Rattle.std.specs.List.{AllZip, IsDistinct}
use Rattle.std.proofs.lemmas.Bool.{leb-true, and_parts as and_true, not-false as not_false}
use Rattle.std.proofs.lemmas.List.Elements.{All-cons, All-nil, All-head, All-tail}
use Rattle.std.proofs.lemmas.List.Quantifiers.{position-Some}
use Rattle.std.proofs.lemmas.List.Sums.{sum_by-cons}
use Rattle.std.proofs.lemmas.Slice.Zip.{AllZip-long}
use Rattle.dim_core.specs.declared.attribute.Attribute.{Attribute}
use Rattle.dim_core.specs.declared.attribute.NamedAttribute.{NamedAttribute}
use Rattle.dim_name.specs.Name.{is_name, is_same_name}
use Rattle.dim_core.specs.Draft.{IsResolved, has_weights, are_known, by_index, first_unknown, first_bad_among, first_bad_attribute, first_loop, IsFinished, IsResolvedAttribute}
use Rattle.dim_core.specs.Inside.Kept.{IsKept, IsStored, AreNamed, AreAttributed}
use Rattle.dim_order.specs.Levels.{AreLevels}
use Rattle.dim_order.specs.Loops.{IsOrder, ArePartsWithin, first_on_loop}
use Rattle.dim_core.specs.Outline.{Element, elements_of, IsWeight, is_same_attribute, IsDimension, names_of, component_lists}
use Rattle.lists.proofs.Places.{none_passes}
use Rattle.dim_core.proofs.Elements.{names_of-elements_of, component_lists-elements_of, length-elements_of, get_or_within}

-- the test of a builder over its fields
pub first_unknown-elements_of : (of : List ℕ) (names : List (List ℕ)) (lists : List (List (List ℕ × ℤ))) (calls : List NamedAttribute) → length lists ≡ length names
    → first_unknown (record { name = of; elements = elements_of names lists; attributes = calls }) ≡ position (λ parts. not (are_known names parts)) lists
first_unknown-elements_of of names lists calls paired =
    let shown = names_of-elements_of names lists paired in
    let parts = component_lists-elements_of names lists paired in
    rw (shown, parts) refl

-- a draft of which no component is unknown
pub all_known : (of : List ℕ) (names : List (List ℕ)) (lists : List (List (List ℕ × ℤ))) (calls : List NamedAttribute) → length lists ≡ length names
    → first_unknown (record { name = of; elements = elements_of names lists; attributes = calls }) ≡ None → All (λ parts. IsTrue (are_known names parts)) lists
all_known of names lists calls paired none =
    let unknown : position (λ parts. not (are_known names parts)) lists ≡ None = sym (first_unknown-elements_of of names lists calls paired) ∙ none in
    λ e d within. not_false _ (none_passes (λ parts. not (are_known names parts)) lists unknown e d within)

resolved_parts : (names : List (List ℕ)) (written : List (List ℕ × ℤ)) (resolved : List (ℕ × ℤ)) → IsResolved names written resolved → has_weights written ≡ true
    → All (λ c. (c.0 < length names) × IsWeight c.1) resolved
resolved_parts names [] [] r w = All-nil (λ c. (c.0 < length names) × IsWeight c.1)
resolved_parts names [] (c ∷ cs) r w = elim r [ ]
resolved_parts names (part ∷ parts) [] r w = elim r [ ]
resolved_parts names (part ∷ parts) (c ∷ cs) r w =
    let tests = and_true (nat_le (unsigned_abs part.1) 1000000) (has_weights parts) w in
    let small = leb-true (unsigned_abs part.1) 1000000 tests.0 in
    let P : ℤ → Type 0 = IsWeight in
    All-cons (λ c. (c.0 < length names) × IsWeight c.1) c cs
    ((position-Some (is_same_name part.0) names c.0 [] r.0.0).0, subst P (sym r.0.1) small)
    (resolved_parts names parts cs r.1 tests.1)

resolved_parts_at : (names : List (List ℕ)) (lists : List (List (List ℕ × ℤ))) (resolved : List (List (ℕ × ℤ))) → AllZip (IsResolved names) lists resolved
    → All (λ list. IsTrue (has_weights list)) lists → (e : ℕ) → All (λ c. (c.0 < length names) × IsWeight c.1) (get_or resolved e [])
resolved_parts_at names [] [] r w e = All-nil (λ c. (c.0 < length names) × IsWeight c.1)
resolved_parts_at names [] (c ∷ cs) r w e = elim r [ ]
resolved_parts_at names (l ∷ ls) [] r w e = elim r [ ]
resolved_parts_at names (l ∷ ls) (c ∷ cs) r w zero = resolved_parts names l c r.0 (All-head (λ list. IsTrue (has_weights list)) l ls w)
resolved_parts_at names (l ∷ ls) (c ∷ cs) r w (suc e) = resolved_parts_at names ls cs r.1 (All-tail (λ list. IsTrue (has_weights list)) l ls w) e

sum_by-resolved : (names : List (List ℕ)) (lists : List (List (List ℕ × ℤ))) (resolved : List (List (ℕ × ℤ))) → AllZip (IsResolved names) lists resolved
    → sum_by length resolved ≡ sum_by length lists
sum_by-resolved names [] [] r = refl
sum_by-resolved names [] (c ∷ cs) r = elim r [ ]
sum_by-resolved names (l ∷ ls) [] r = elim r [ ]
sum_by-resolved names (l ∷ ls) (c ∷ cs) r =
    omega (arith, sum_by-cons length l ls, sum_by-cons length c cs, sum_by-resolved names ls cs r.1, AllZip-long _ l c r.0)

finished_elements : (names shown : List (List ℕ)) (lists : List (List (List ℕ × ℤ))) (resolved : List (List (ℕ × ℤ))) → AllZip (IsResolved names) lists resolved
    → AllZip (λ (from : Element (List ℕ)) (to : Element ℕ). (to.name ≡ from.name) × IsResolved names from.components to.components) (elements_of shown lists) (elements_of shown resolved)
finished_elements names [] lists resolved r = tt
finished_elements names (s ∷ shown) [] [] r = tt
finished_elements names (s ∷ shown) [] (c ∷ cs) r = elim r [ ]
finished_elements names (s ∷ shown) (l ∷ ls) [] r = elim r [ ]
finished_elements names (s ∷ shown) (l ∷ ls) (c ∷ cs) r = ((refl, r.0), finished_elements names shown ls cs r.1)

-- the fields of a builder, with its components by index and an order, are those of a dimension
pub resolved_stored : (names : List (List ℕ)) (lists : List (List (List ℕ × ℤ))) (count : ℕ) (resolved : List (List (ℕ × ℤ))) (order levels : List ℕ)
    → IsKept names lists count → AllZip (IsResolved names) lists resolved → IsOrder resolved order → AreLevels resolved levels → IsStored names resolved order levels
resolved_stored names lists count resolved order levels kept r ordered leveled =
    let total = sum_by-resolved names lists resolved r ∙ sym kept.counted in
    record {
      paired = AllZip-long (IsResolved names) lists resolved r ∙ kept.paired;
      distinct = kept.distinct;
      few = kept.few;
      few_components = rw total kept.few_components;
      parts = resolved_parts_at names lists resolved r kept.weights;
      ordered = ordered;
      leveled = leveled;
    }

elements_named : {C : Type 0} (names : List (List ℕ)) (lists : List (List (C × ℤ))) → All (λ n. IsTrue (is_name n)) names → All (λ e. IsTrue (is_name e.name)) (elements_of names lists)
elements_named [] lists h = All-nil (λ e. IsTrue (is_name e.name))
elements_named (name ∷ names) [] h = All-nil (λ e. IsTrue (is_name e.name))
elements_named (name ∷ names) (l ∷ lists) h =
    All-cons (λ e. IsTrue (is_name e.name)) (record { name = name; components = l }) (elements_of names lists)
    (All-head (λ n. IsTrue (is_name n)) name names h) (elements_named names lists (All-tail (λ n. IsTrue (is_name n)) name names h))

-- the fields of a dimension are seen as one
pub stored_dimension : (of : List ℕ) (names : List (List ℕ)) (lists : List (List (ℕ × ℤ))) (order levels : List ℕ) (attributes : List Attribute) → IsStored names lists order levels → AreAttributed of names attributes
    → IsDimension (record { name = of; elements = elements_of names lists; attributes = attributes })
stored_dimension of names lists order levels attributes stored attributed =
    let counted = length-elements_of names lists stored.paired in
    let listed = component_lists-elements_of names lists stored.paired in
    let D : List (List ℕ) → Type 0 = IsDistinct is_same_name in
    let O : List (List (ℕ × ℤ)) → Type 0 = λ ls. IsOrder ls order in
    record {
      few = rw counted stored.few;
      few_components = rw listed stored.few_components;
      distinct = subst D (sym (names_of-elements_of names lists stored.paired)) stored.distinct;
      parts = λ e. rw (counted, listed) (stored.parts e);
      order = order;
      ordered = subst O (sym listed) stored.ordered;
      attributes = rw counted attributed.within;
      attributes_once = attributed.once;
      is_named = attributed.own;
      elements_named = elements_named names lists attributed.elements;
      attributes_named = attributed.named;
    }

-- each component by index is an element
pub resolved_within : (names : List (List ℕ)) (lists : List (List (List ℕ × ℤ))) (count : ℕ) (resolved : List (List (ℕ × ℤ)))
    → IsKept names lists count → AllZip (IsResolved names) lists resolved → ArePartsWithin resolved
resolved_within names lists count resolved kept r e d there k part inside =
    let long = AllZip-long (IsResolved names) lists resolved r in
    let same : get_or resolved e d ≡ get_or resolved e [] = get_or_within resolved e d [] there in
    let P : List (ℕ × ℤ) → Type 0 = All (λ c. (c.0 < length names) × IsWeight c.1) in
    let at = subst P (sym same) (resolved_parts_at names lists resolved r kept.weights e) k part inside in
    omega (arith, at.0, long, kept.paired)

-- the components by index are what the draft says
pub resolved_is : (names : List (List ℕ)) (written : List (List ℕ × ℤ)) (resolved : List (ℕ × ℤ)) → IsResolved names written resolved → resolved ≡ by_index names written
resolved_is names [] [] r = refl
resolved_is names [] (c ∷ cs) r = elim r [ ]
resolved_is names (part ∷ parts) [] r = elim r [ ]
resolved_is names (part ∷ parts) (c ∷ cs) r =
    let rest = resolved_is names parts cs r.1 in
    let here : (c.0, c.1) ≡ (c.0, part.1) = ap (λ (w : ℤ). (c.0, w)) r.0.1 in
    rw (r.0.0) (ap (λ (x : ℕ × ℤ). x ∷ cs) here ∙ ap (λ xs. (c.0, part.1) ∷ xs) rest)

resolved_are : (names : List (List ℕ)) (lists : List (List (List ℕ × ℤ))) (resolved : List (List (ℕ × ℤ))) → AllZip (IsResolved names) lists resolved → resolved ≡ map (by_index names) lists
resolved_are names [] [] r = refl
resolved_are names [] (c ∷ cs) r = elim r [ ]
resolved_are names (l ∷ ls) [] r = elim r [ ]
resolved_are names (l ∷ ls) (c ∷ cs) r =
    let here = resolved_is names l c r.0 in
    let rest = resolved_are names ls cs r.1 in
    ap (λ x. x ∷ cs) here ∙ ap (λ xs. by_index names l ∷ xs) rest

pub first_loop-resolved : (of : List ℕ) (names : List (List ℕ)) (lists : List (List (List ℕ × ℤ))) (calls : List NamedAttribute) (resolved : List (List (ℕ × ℤ))) → length lists ≡ length names → AllZip (IsResolved names) lists resolved
    → first_loop (record { name = of; elements = elements_of names lists; attributes = calls }) ≡ first_on_loop resolved
first_loop-resolved of names lists calls resolved paired r =
    let shown = names_of-elements_of names lists paired in
    let parts = component_lists-elements_of names lists paired in
    let e : map (by_index (names_of (elements_of names lists))) (component_lists (elements_of names lists)) ≡ map (by_index names) lists =
    ap (λ ns. map (by_index ns) (component_lists (elements_of names lists))) shown ∙ ap (map (by_index names)) parts in
    ap first_on_loop (e ∙ sym (resolved_are names lists resolved r))

-- and the draft that they are seen as is finished so
pub resolved_finished : (of : List ℕ) (names : List (List ℕ)) (lists : List (List (List ℕ × ℤ))) (resolved : List (List (ℕ × ℤ))) (calls : List NamedAttribute) (attributes : List Attribute)
    → length lists ≡ length names → AllZip (IsResolved names) lists resolved → AllZip (IsResolvedAttribute names) calls attributes
    → IsFinished (record { name = of; elements = elements_of names lists; attributes = calls }) (record { name = of; elements = elements_of names resolved; attributes = attributes })
resolved_finished of names lists resolved calls attributes paired r a = record {
  name = refl;
  elements = rw (names_of-elements_of names lists paired) (finished_elements names names lists resolved r);
  attributes = rw (names_of-elements_of names lists paired) a;
}

-- the attributes of a builder, with their elements by index, are those of a dimension
attributes_at : (names : List (List ℕ)) (calls : List NamedAttribute) (attributes : List Attribute) → AllZip (IsResolvedAttribute names) calls attributes
    → All (λ call. IsTrue (is_name call.name)) calls → All (λ a. IsTrue (is_name a.name)) attributes × All (λ a. a.element < length names) attributes
attributes_at names [] [] r n = (All-nil (λ a. IsTrue (is_name a.name)), All-nil (λ a. a.element < length names))
attributes_at names [] (a ∷ rest) r n = elim r [ ]
attributes_at names (call ∷ calls) [] r n = elim r [ ]
attributes_at names (call ∷ calls) (a ∷ rest) r n =
    let others = attributes_at names calls rest r.1 (All-tail (λ c. IsTrue (is_name c.name)) call calls n) in
    let P : List ℕ → Type 0 = λ text. IsTrue (is_name text) in (
      All-cons (λ a. IsTrue (is_name a.name)) a rest (subst P (sym r.0.1) (All-head (λ c. IsTrue (is_name c.name)) call calls n)) others.0,
      All-cons (λ a. a.element < length names) a rest (position-Some (is_same_name call.element) names a.element [] r.0.0).0 others.1,
    )

pub resolved_attributed : (of : List ℕ) (names : List (List ℕ)) (calls : List NamedAttribute) (attributes : List Attribute) → AreNamed of names calls
    → AllZip (IsResolvedAttribute names) calls attributes → IsDistinct is_same_attribute attributes → AreAttributed of names attributes
resolved_attributed of names calls attributes named r once =
    let at = attributes_at names calls attributes r named.attributes in
    record { own = named.own; elements = named.elements; named = at.0; within = at.1; once = once }

pub first_bad-elements_of : (of : List ℕ) (names : List (List ℕ)) (lists : List (List (List ℕ × ℤ))) (calls : List NamedAttribute) → length lists ≡ length names
    → first_bad_attribute (record { name = of; elements = elements_of names lists; attributes = calls }) ≡ first_bad_among names calls
first_bad-elements_of of names lists calls paired = ap (λ ns. first_bad_among ns calls) (names_of-elements_of names lists paired)
