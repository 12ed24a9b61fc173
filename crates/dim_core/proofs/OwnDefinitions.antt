-- What a finished dimension has is accepted again, and finishes to the same dimension.
use Rattle.std.proofs.Common.{◌≡◌, ℕ, suc, ◌+◌, ◌<◌, ◌≤◌, ℤ, List, [], ◌∷◌, length, map, take, get_or, sum_by, unsigned_abs, nat_le, nat_lt, refl, ap, sym, ◌∙◌, subst, arith, Bool, true, false, ◌&&◌, ◌||◌, not, Some, None, All, if◌then◌else◌, position}
use Rattle.std.specs.List.{AllZip, IsDistinct, list_any}
use Rattle.std.proofs.lemmas.Bool.Decides.{nat_tests}
use Rattle.std.proofs.lemmas.List.{get_or-map, get_or-take, length-map, length-take, take-map}
use Rattle.std.proofs.lemmas.List.Elements.{All-head, All-tail}
use Rattle.std.proofs.lemmas.List.Folds.{list_any_at, list_any_none}
use Rattle.std.proofs.lemmas.List.Sums.{sum_by_more_le, sum_by-cons}
use Rattle.std.proofs.lemmas.Map.Keys.{apart_from_distinct}
use Rattle.dim_order.specs.Loops.{first_on_loop}
use Rattle.dim_order.proofs.LoopLemmas.{first_on_loop-ordered}
use Rattle.lists.proofs.Places.{position-none, get_or_within}
use Rattle.dim_name.specs.Name.{has_name, is_same_name, place_of}
use Rattle.dim_core.specs.declared.attribute.Attribute.{Attribute}
use Rattle.dim_core.specs.declared.attribute.NamedAttribute.{NamedAttribute}
use Rattle.dim_core.specs.declared.fault.DimFault.TheVariants.{Duplicate, WeightRange, TooMany}
use Rattle.dim_core.specs.Draft.{Draft, are_known, has_weights, by_index, is_repeated, is_bad_attribute, call_at, first_unknown, first_bad_attribute, first_bad_among, first_loop, IsFinished, IsResolved, IsResolvedAttribute}
use Rattle.dim_core.specs.Outline.{Element, Outline, names_of, name_of, component_lists, components_of, component_count, is_same_attribute, IsWeight, IsDimension}
use Rattle.dim_core.specs.Refusal.{refusal_of, first_cause, finish_refusal_of}
use Rattle.dim_core.specs.Written.{by_name, written_element, written_attribute, written}
use Rattle.dim_core.proofs.BadAttributes.{first_bad-none}
use Rattle.dim_core.proofs.Naming.{new_name, same_names, same_attributes, same_number, place_at, repeated-resolved}
use Rattle.dim_core.proofs.Resolving.{resolved_is}

-- the elements of the draft
pub names_of-written : (names : List (List ℕ)) (es : List (Element ℕ)) → names_of (map (written_element names) es) ≡ names_of es
names_of-written names [] = refl
names_of-written names (e ∷ es) = ap (λ ns. e.name ∷ ns) (names_of-written names es)

lists-written : (names : List (List ℕ)) (es : List (Element ℕ)) → component_lists (map (written_element names) es) ≡ map (by_name names) (component_lists es)
lists-written names [] = refl
lists-written names (e ∷ es) = ap (λ ls. by_name names e.components ∷ ls) (lists-written names es)

length-by_name : (names : List (List ℕ)) (parts : List (ℕ × ℤ)) → length (by_name names parts) ≡ length parts
length-by_name names parts = length-map parts (λ part. (get_or names part.0 [], part.1))

count-written : (names : List (List ℕ)) (es : List (Element ℕ)) → component_count (map (written_element names) es) ≡ component_count es
count-written names [] = refl
count-written names (e ∷ es) =
    omega (arith, sum_by-cons length (by_name names e.components) (component_lists (map (written_element names) es)), sum_by-cons length e.components (component_lists es), length-by_name names e.components, count-written names es)

weighed : (names : List (List ℕ)) (parts : List (ℕ × ℤ)) → All (λ c. (c.0 < length names) × IsWeight c.1) parts → has_weights (by_name names parts) ≡ true
weighed names [] h = refl
weighed names (c ∷ cs) h =
    let here : nat_le (unsigned_abs c.1) 1000000 ≡ true = small (unsigned_abs c.1) (All-head (λ c. (c.0 < length names) × IsWeight c.1) c cs h).1 in
    let rest = weighed names cs (All-tail (λ c. (c.0 < length names) × IsWeight c.1) c cs h) in
    ap (λ t. t && has_weights (by_name names cs)) here ∙ rest
  where
    small : (n : ℕ) → n ≤ 1000000 → nat_le n 1000000 ≡ true
    small n h = grind (arith, nat_tests)

has_own : (names : List (List ℕ)) (k : ℕ) → k < length names → has_name names (get_or names k []) ≡ true
has_own names k within = list_any_at (is_same_name (get_or names k [])) names k [] within (same_names.refl (get_or names k []))

known : (names : List (List ℕ)) (parts : List (ℕ × ℤ)) → All (λ c. (c.0 < length names) × IsWeight c.1) parts → are_known names (by_name names parts) ≡ true
known names [] h = refl
known names (c ∷ cs) h =
    let here = has_own names c.0 (All-head (λ c. (c.0 < length names) × IsWeight c.1) c cs h).0 in
    let rest = known names cs (All-tail (λ c. (c.0 < length names) × IsWeight c.1) c cs h) in
    ap (λ t. t && are_known names (by_name names cs)) here ∙ rest

-- each element is accepted after those before it
none_of : (defined weights many : Bool) → defined ≡ false → weights ≡ true → many ≡ false
    → (if defined then Some Duplicate else if not weights then Some WeightRange else if many then Some TooMany else None) ≡ None
none_of true weights many d w m = absurd (cc)
none_of false false many d w m = absurd (cc)
none_of false true true d w m = absurd (cc)
none_of false true false d w m = refl

not_many : (n m : ℕ) → n ≤ 100000 → m ≤ 1000000 → (nat_lt 100000 n || nat_lt 1000000 m) ≡ false
not_many n m few parts = grind (arith, nat_tests)

pub element_accepted : (d : Outline) (draft : Draft) (e : ℕ) → IsDimension d → e < length d.elements → draft.elements ≡ take e (written d).elements
    → refusal_of draft (name_of d e) (by_name (names_of d.elements) (components_of d e)) ≡ None
element_accepted d draft e is within so_far =
    let names = names_of d.elements in
    let lists = component_lists d.elements in
    let named : e < length names = omega (arith, length-map d.elements (λ (x : Element ℕ). x.name)) in
    let listed : e < length lists = omega (arith, length-map d.elements (λ (x : Element ℕ). x.components)) in
    let parts = subst (λ n. All (λ c. (c.0 < n) × IsWeight c.1) (components_of d e)) (sym (length-map d.elements (λ (x : Element ℕ). x.name))) (is.parts e) in
    let first : draft.elements ≡ map (written_element names) (take e d.elements) = so_far ∙ take-map (written_element names) e d.elements in
    let shown : names_of draft.elements ≡ take e names = ap names_of first ∙ names_of-written names (take e d.elements) ∙ sym (take-map (λ (x : Element ℕ). x.name) e d.elements) in
    let counted : component_count draft.elements ≡ sum_by length (take e lists) = ap component_count first ∙ count-written names (take e d.elements) ∙ ap (sum_by length) (sym (take-map (λ (x : Element ℕ). x.components) e d.elements)) in
    let long : length draft.elements ≡ e = ap length first ∙ length-map (take e d.elements) (written_element names) ∙ omega (arith, length-take e d.elements) in
    let sum = sum_by_more_le length lists e [] listed in
    let further = length-by_name names (components_of d e) in
    none_of _ _ _ (ap (λ ns. has_name ns (name_of d e)) shown ∙ new_name names e is.distinct named) (weighed names (components_of d e) parts)
    (not_many (length draft.elements + 1) (component_count draft.elements + length (by_name names (components_of d e))) (omega (arith, is.few)) (omega (arith, is.few_components)))

-- each component is known
all_known : (names : List (List ℕ)) (lists : List (List (ℕ × ℤ))) → ((e : ℕ) → All (λ c. (c.0 < length names) × IsWeight c.1) (get_or lists e []))
    → position (λ parts. not (are_known names parts)) (map (by_name names) lists) ≡ None
all_known names lists within =
    position-none (λ parts. not (are_known names parts)) (map (by_name names) lists)
    (λ k d inside.
    let there : k < length lists = omega (arith, length-map lists (by_name names)) in
    let at = get_or-map (by_name names) lists k [] d there in
    let P : List (List ℕ × ℤ) → Type 0 = λ parts. not (are_known names parts) ≡ false in
    subst P (sym at) (ap not (known names (get_or lists k []) (within k))))

-- and comes to itself
back : (names : List (List ℕ)) → IsDistinct is_same_name names → (parts : List (ℕ × ℤ)) → All (λ c. (c.0 < length names) × IsWeight c.1) parts → by_index names (by_name names parts) ≡ parts
back names distinct [] h = refl
back names distinct (c ∷ cs) h =
    let here = place_at names distinct c.0 (All-head (λ c. (c.0 < length names) × IsWeight c.1) c cs h).0 in
    let rest = back names distinct cs (All-tail (λ c. (c.0 < length names) × IsWeight c.1) c cs h) in
    rw here (ap (λ xs. c ∷ xs) rest)

all_back : (names : List (List ℕ)) → IsDistinct is_same_name names → (lists : List (List (ℕ × ℤ))) → ((e : ℕ) → All (λ c. (c.0 < length names) × IsWeight c.1) (get_or lists e []))
    → map (by_index names) (map (by_name names) lists) ≡ lists
all_back names distinct [] within = refl
all_back names distinct (l ∷ ls) within =
    ap (λ x. x ∷ map (by_index names) (map (by_name names) ls)) (back names distinct l (within 0)) ∙ ap (λ xs. l ∷ xs) (all_back names distinct ls (λ e. within (suc e)))

-- the attributes come to themselves
attribute_back : (names : List (List ℕ)) → IsDistinct is_same_name names → (a : Attribute) → a.element < length names → IsResolvedAttribute names (written_attribute names a) a
attribute_back names distinct a within = (place_at names distinct a.element within, refl, refl)

none_repeated : (names : List (List ℕ)) → IsDistinct is_same_name names → (attributes : List Attribute) → All (λ a. a.element < length names) attributes → (a : Attribute) → a.element < length names
    → list_any (is_same_attribute a) attributes ≡ false → list_any (is_repeated (written_attribute names a)) (map (written_attribute names) attributes) ≡ false
none_repeated names distinct [] within a there h = refl
none_repeated names distinct (b ∷ bs) within a there h =
    let inside = All-head (λ a. a.element < length names) b bs within in
    let same = repeated-resolved names (written_attribute names a) (written_attribute names b) a b (attribute_back names distinct a there) (attribute_back names distinct b inside) in
    by (is_same_attribute a b) (list_any (is_same_attribute a) bs) same h (none_repeated names distinct bs (All-tail (λ a. a.element < length names) b bs within) a there)
  where
    by : (s t : Bool) → is_repeated (written_attribute names a) (written_attribute names b) ≡ s → (s || t) ≡ false → (t ≡ false → list_any (is_repeated (written_attribute names a)) (map (written_attribute names) bs) ≡ false)
        → (is_repeated (written_attribute names a) (written_attribute names b) || list_any (is_repeated (written_attribute names a)) (map (written_attribute names) bs)) ≡ false
    by true t e f rest = absurd (cc)
    by false t e f rest = ap (λ s. s || list_any (is_repeated (written_attribute names a)) (map (written_attribute names) bs)) e ∙ rest f

good_attribute : (names : List (List ℕ)) → IsDistinct is_same_name names → (attributes : List Attribute) → All (λ a. a.element < length names) attributes → IsDistinct is_same_attribute attributes
    → (k : ℕ) → k < length attributes → is_bad_attribute names (take k (map (written_attribute names) attributes)) (call_at (map (written_attribute names) attributes) k) ≡ false
good_attribute names distinct attributes within once k inside =
    let nothing : Attribute = record { element = 0; name = []; text = [] } in
    let a : Attribute = get_or attributes k nothing in
    let there : a.element < length names = within k nothing inside in
    let at : call_at (map (written_attribute names) attributes) k ≡ written_attribute names a = get_or-map (written_attribute names) attributes k nothing (record { element = []; name = []; text = [] }) inside in
    let front : take k (map (written_attribute names) attributes) ≡ map (written_attribute names) (take k attributes) = take-map (written_attribute names) k attributes in
    let new : list_any (is_same_attribute a) (take k attributes) ≡ false = list_any_none (is_same_attribute a) (take k attributes) (λ j d before. apart j d before nothing) in
    let single : list_any (is_repeated (written_attribute names a)) (map (written_attribute names) (take k attributes)) ≡ false =
    none_repeated names distinct (take k attributes) (λ j d before. inside_front j d before) a there new in
    let P : List NamedAttribute → NamedAttribute → Type 0 = λ calls call. is_bad_attribute names calls call ≡ false in
    subst (λ calls. P calls (call_at (map (written_attribute names) attributes) k)) (sym front)
    (subst (P (map (written_attribute names) (take k attributes))) (sym at)
    (ap (λ t. not t || list_any (is_repeated (written_attribute names a)) (map (written_attribute names) (take k attributes))) (has_own names a.element there) ∙ single))
  where
    inside_front : (j : ℕ) (d : Attribute) → j < length (take k attributes) → (get_or (take k attributes) j d).element < length names
    inside_front j d before =
        let less : j < k = omega (arith, length-take k attributes) in
        let P : Attribute → Type 0 = λ a. a.element < length names in
        subst P (sym (get_or-take k attributes j d less)) (within j d (omega arith))

    apart : (j : ℕ) (d : Attribute) → j < length (take k attributes) → (nothing : Attribute) → is_same_attribute (get_or attributes k nothing) (get_or (take k attributes) j d) ≡ false
    apart j d before nothing =
        let less : j < k = omega (arith, length-take k attributes) in
        let at = get_or-take k attributes j d less ∙ get_or_within attributes j d nothing (omega arith) in
        let P : Attribute → Type 0 = λ b. is_same_attribute (get_or attributes k nothing) b ≡ false in
        subst P (sym at) (same_attributes.symm (get_or attributes k nothing) (get_or attributes j nothing) ∙ apart_from_distinct is_same_attribute attributes j k nothing once less inside)

none_bad : (names : List (List ℕ)) → IsDistinct is_same_name names → (attributes : List Attribute) → All (λ a. a.element < length names) attributes → IsDistinct is_same_attribute attributes
    → first_bad_among names (map (written_attribute names) attributes) ≡ None
none_bad names distinct attributes within once =
    first_bad-none names (map (written_attribute names) attributes)
    (λ k inside. good_attribute names distinct attributes within once k (omega (arith, length-map attributes (written_attribute names))))

-- the parts of each list, counted against the names
parts_named : (d : Outline) → IsDimension d → (e : ℕ) → All (λ c. (c.0 < length (names_of d.elements)) × IsWeight c.1) (components_of d e)
parts_named d is e = subst (λ n. All (λ c. (c.0 < n) × IsWeight c.1) (components_of d e)) (sym (length-map d.elements (λ (x : Element ℕ). x.name))) (is.parts e)

attributes_named : (d : Outline) → IsDimension d → All (λ a. a.element < length (names_of d.elements)) d.attributes
attributes_named d is = subst (λ n. All (λ a. a.element < n) d.attributes) (sym (length-map d.elements (λ (x : Element ℕ). x.name))) is.attributes

pub written_finishes : (d : Outline) → IsDimension d → finish_refusal_of (written d) ≡ None
written_finishes d is =
    let names = names_of d.elements in
    let lists = component_lists d.elements in
    let shown : names_of (written d).elements ≡ names = names_of-written names d.elements in
    let listed : component_lists (written d).elements ≡ map (by_name names) lists = lists-written names d.elements in
    let unknown : first_unknown (written d) ≡ None =
    ap (λ ns. position (λ parts. not (are_known ns parts)) (component_lists (written d).elements)) shown
    ∙ ap (position (λ parts. not (are_known names parts))) listed ∙ all_known names lists (parts_named d is) in
    let bad : first_bad_attribute (written d) ≡ None =
    ap (λ ns. first_bad_among ns (written d).attributes) shown ∙ none_bad names is.distinct d.attributes (attributes_named d is) is.attributes_once in
    let loop : first_loop (written d) ≡ None =
    ap (λ ns. first_on_loop (map (by_index ns) (component_lists (written d).elements))) shown
    ∙ ap (λ ls. first_on_loop (map (by_index names) ls)) listed ∙ ap first_on_loop (all_back names is.distinct lists (parts_named d is))
    ∙ first_on_loop-ordered lists is.order is.ordered in
    ap (λ u. first_cause u (first_bad_attribute (written d)) (first_loop (written d))) unknown
    ∙ ap (λ b. first_cause None b (first_loop (written d))) bad ∙ ap (first_cause None None) loop

-- and nothing but the dimension comes of it
pub element_is : (a b : Element ℕ) → a.name ≡ b.name → a.components ≡ b.components → a ≡ b
element_is a b e f = ap (λ n. record { name = n; components = a.components }) e ∙ ap (λ c. record { name = b.name; components = c }) f

pub attribute_is : (a b : Attribute) → a.element ≡ b.element → a.name ≡ b.name → a.text ≡ b.text → a ≡ b
attribute_is a b e f g =
    let A : ℕ → List ℕ → List ℕ → Attribute = λ e n t. record { element = e; name = n; text = t } in
    ap (λ e. A e a.name a.text) e ∙ ap (λ n. A b.element n a.text) f ∙ ap (A b.element b.name) g

pub outline_is : (a b : Outline) → a.name ≡ b.name → a.elements ≡ b.elements → a.attributes ≡ b.attributes → a ≡ b
outline_is a b e f g =
    let O : List ℕ → List (Element ℕ) → List Attribute → Outline = λ n es as'. record { name = n; elements = es; attributes = as' } in
    ap (λ n. O n a.elements a.attributes) e ∙ ap (λ es. O b.name es a.attributes) f ∙ ap (O b.name b.elements) g

elements_are : (names shown : List (List ℕ)) → IsDistinct is_same_name names → shown ≡ names → (es fs : List (Element ℕ)) → ((e : ℕ) → All (λ c. (c.0 < length names) × IsWeight c.1) (get_or (component_lists es) e []))
    → AllZip (λ (from : Element (List ℕ)) (to : Element ℕ). (to.name ≡ from.name) × IsResolved shown from.components to.components) (map (written_element names) es) fs → fs ≡ es
elements_are names shown distinct same [] [] within z = refl
elements_are names shown distinct same [] (f ∷ fs) within z = elim z [ ]
elements_are names shown distinct same (e ∷ es) [] within z = elim z [ ]
elements_are names shown distinct same (e ∷ es) (f ∷ fs) within z =
    let parts : f.components ≡ e.components = resolved_is shown (by_name names e.components) f.components z.0.1 ∙ ap (λ ns. by_index ns (by_name names e.components)) same ∙ back names distinct e.components (within 0) in
    ap (λ x. x ∷ fs) (element_is f e z.0.0 parts) ∙ ap (λ xs. e ∷ xs) (elements_are names shown distinct same es fs (λ k. within (suc k)) z.1)

attributes_are : (names shown : List (List ℕ)) → IsDistinct is_same_name names → shown ≡ names → (es fs : List Attribute) → All (λ a. a.element < length names) es
    → AllZip (IsResolvedAttribute shown) (map (written_attribute names) es) fs → fs ≡ es
attributes_are names shown distinct same [] [] within z = refl
attributes_are names shown distinct same [] (f ∷ fs) within z = elim z [ ]
attributes_are names shown distinct same (e ∷ es) [] within z = elim z [ ]
attributes_are names shown distinct same (e ∷ es) (f ∷ fs) within z =
    let place : place_of names (get_or names e.element []) ≡ Some f.element = ap (λ ns. place_of ns (get_or names e.element [])) (sym same) ∙ z.0.0 in
    let at : f.element ≡ e.element = same_number f.element e.element (sym place ∙ place_at names distinct e.element (All-head (λ a. a.element < length names) e es within)) in
    ap (λ x. x ∷ fs) (attribute_is f e at z.0.1 z.0.2)
    ∙ ap (λ xs. e ∷ xs) (attributes_are names shown distinct same es fs (All-tail (λ a. a.element < length names) e es within) z.1)

pub written_is : (d f : Outline) → IsDimension d → IsFinished (written d) f → f ≡ d
written_is d f is z =
    let names = names_of d.elements in
    let shown : names_of (written d).elements ≡ names = names_of-written names d.elements in
    outline_is f d z.name (elements_are names (names_of (written d).elements) is.distinct shown d.elements f.elements (parts_named d is) z.elements)
    (attributes_are names (names_of (written d).elements) is.distinct shown d.attributes f.attributes (attributes_named d is) z.attributes)
