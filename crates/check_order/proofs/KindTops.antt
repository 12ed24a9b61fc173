-- The greatest number that cells of a kind have at a position is found from the elements of each dimension.
use Rattle.std.proofs.Common.{◌≡◌, ◌≢◌, inl, inr, refl, sym, ap, ◌∙◌, subst, arith, ℕ, zero, suc, ◌+◌, ◌*◌, ◌<◌, ◌≤◌, ◌==◌, nat_lt, Bool, true, false, not, ◌&&◌, ◌||◌, if◌then◌else◌, ℤ, pos, Option, Some, None, List, [], ◌∷◌, length, get_or, All}
use Rattle.std.specs.Prelude.{slice_get}
use Rattle.std.specs.List.{range_with_len, list_any}
use Rattle.std.specs.Option.{option_map_or}
use Rattle.std.proofs.lemmas.Bool.{and_from, and_parts, cases_lt, lt-ltb, ltb-true, eq-eqb, eqb-true}
use Rattle.std.proofs.lemmas.List.Elements.{All-tail}
use Rattle.std.proofs.lemmas.Option.{slice_get_within}
use Rattle.dim_core.specs.Outline.{Outline, IsDimension, IsElement, components_of, level}
use Rattle.dim_core.proofs.LevelLaws.{component-lower}
use Rattle.cube_space.specs.Radix.{product, are_digits}
use Rattle.cube_space.proofs.Radix.{number-digits}
use Rattle.cube_space.specs.Layout.{sizes_of}
use Rattle.cube_space.specs.Cells.{is_leaf, are_leaves}
use Rattle.rule_model.specs.declared.order.Position.{Position}
use Rattle.rule_model.specs.declared.order.Position.TheVariants.{Constant, Ranks}
use Rattle.rule_model.specs.Conditions.{IsPosition, greatest_rank}
use Rattle.rule_model.specs.Order.{greatest, number_by}
use Rattle.rule_model.proofs.LeafCells.{element-of}
use Rattle.check_order.specs.declared.tops.Which.{Which}
use Rattle.check_order.specs.declared.tops.Which.TheVariants.{All as Each, Totals}
use Rattle.check_order.specs.Inside.Tops.{is_taken, has_total, has_total_at, is_at, has_total_elsewhere, which_of, taken_rank, greatest_taken, position_top}
use Rattle.check_order.proofs.Greatest.{mapped-within, mapped-holds}

-- ---- a test of the numbers in a range

module _ (test : ℕ → Bool) where
  pub any-from : (a n k : ℕ) → a ≤ k → k < a + n → test k ≡ true → list_any test (range_with_len a n) ≡ true
  any-from a zero k from low holds = absurd (omega (arith, from, low))
  any-from a (suc n) k from low holds = by (test a) refl (λ after. any-from (a + 1) n k (omega (arith, after)) (omega (arith, low)) holds)
    where
      by : (t : Bool) → test a ≡ t → (a < k → list_any test (range_with_len (a + 1) n) ≡ true) → (t || list_any test (range_with_len (a + 1) n)) ≡ true
      by true e rest = refl
      by false e rest = elim (cases_lt a k) [
        | inl after ↦ rest after
        | inr before ↦ absurd (let same : a ≡ k = omega (arith, before, from) in let wrong : false ≡ true = sym e ∙ ap test same ∙ holds in cc)
      ]

  pub none-from : (a n : ℕ) → ((k : ℕ) → a ≤ k → k < a + n → test k ≡ false) → list_any test (range_with_len a n) ≡ false
  none-from a zero none = refl
  none-from a (suc n) none =
      ap (λ t. t || list_any test (range_with_len (a + 1) n)) (none a (omega arith) (omega arith)) ∙ none-from (a + 1) n (λ k from low. none k (omega (arith, from)) (omega (arith, low)))

  pub any-found : (a n : ℕ) → list_any test (range_with_len a n) ≡ true → (k : ℕ) × (a ≤ k) × (k < a + n) × (test k ≡ true)
  any-found a zero some = absurd (cc)
  any-found a (suc n) some = by (test a) refl (any-found (a + 1) n) some
    where
      Found : ℕ → ℕ → Type 0
      Found a n = (k : ℕ) × (a ≤ k) × (k < a + n) × (test k ≡ true)

      by : (t : Bool) → test a ≡ t → (list_any test (range_with_len (a + 1) n) ≡ true → Found (a + 1) n) → (t || list_any test (range_with_len (a + 1) n)) ≡ true → Found a (suc n)
      by true e later some = (a, omega arith, omega arith, e)
      by false e later some = let rest = later some in (rest.0, omega (arith, rest.1), omega (arith, rest.2), rest.3)

and-right : (t : Bool) → (t && false) ≡ false
and-right true = refl
and-right false = refl

not-true : (t : Bool) → not t ≡ true → t ≡ false
not-true false e = refl
not-true true e = absurd (cc)

-- ---- leaves

-- below each element there is a leaf
leaf-below : (d : Outline) → IsDimension d → (n e : ℕ) → level d e < n → IsElement d e → (leaf : ℕ) × IsElement d leaf × (is_leaf d leaf ≡ true)
leaf-below d is zero e low there = absurd (omega (arith, low))
leaf-below d is (suc n) e low there = by (components_of d e) refl (leaf-below d is n)
  where
    Found : Type 0
    Found = (leaf : ℕ) × IsElement d leaf × (is_leaf d leaf ≡ true)

    by : (parts : List (ℕ × ℤ)) → components_of d e ≡ parts → ((e : ℕ) → level d e < n → IsElement d e → Found) → Found
    by [] same lower = (e, there, ap (λ (parts : List (ℕ × ℤ)). length parts == 0) same)
    by (part ∷ parts) same lower =
        let more : length (components_of d e) ≡ suc (length parts) = ap length same in
        let down = component-lower d is e there 0 (0, pos 0) (omega (arith, more)) in
        lower (get_or (components_of d e) 0 (0, pos 0)).0 (omega (arith, down, low)) (is.parts e 0 (0, pos 0) (omega (arith, more))).0

leaf-there : (d : Outline) → IsDimension d → 0 < length d.elements → (leaf : ℕ) × IsElement d leaf × (is_leaf d leaf ≡ true)
leaf-there d is some = leaf-below d is (suc (level d 0)) 0 (omega arith) some

-- ---- elements, one of each dimension

left-some : (a b : ℕ) → 0 < a * b → 0 < a
left-some zero b h = absurd (omega arith)
left-some (suc a) b h = omega arith

right-some : (a b : ℕ) → 0 < a * b → 0 < b
right-some a zero h = absurd (omega arith)
right-some a (suc b) h = omega arith

-- one of these, and no more
abbrev HasCells : List Outline → Type 0
HasCells ds = 0 < product (sizes_of ds)

first-some : (d : Outline) (ds : List Outline) → HasCells (d ∷ ds) → 0 < length d.elements
first-some d ds some = left-some (length d.elements) (product (sizes_of ds)) some

rest-some : (d : Outline) (ds : List Outline) → HasCells (d ∷ ds) → HasCells ds
rest-some d ds some = right-some (length d.elements) (product (sizes_of ds)) some

-- these are the elements of a cell of this kind
pub record IsOfKind (ds : List Outline) (kind : Bool) (es : List ℕ) : Type 0 where
  pub digits : are_digits (sizes_of ds) es ≡ true
  pub own : are_leaves ds es ≡ kind

element-first : (d : Outline) (ds : List Outline) (e : ℕ) (es : List ℕ) (kind own : Bool) → IsElement d e → is_leaf d e ≡ own → IsOfKind ds kind es → IsOfKind (d ∷ ds) (own && kind) (e ∷ es)
element-first d ds e es kind own there is rest = record {
  digits = and_from (nat_lt e (length d.elements)) (are_digits (sizes_of ds) es) (lt-ltb e (length d.elements) there) rest.digits;
  own = ap (λ t. t && are_leaves ds es) is ∙ ap (λ t. own && t) rest.own;
}

of-kind : (ds : List Outline) (es : List ℕ) → are_digits (sizes_of ds) es ≡ true → IsOfKind ds (are_leaves ds es) es
of-kind ds es digits = record { digits = digits; own = refl }

-- a cell of this kind; and one that has this element in the dimension at this place
record HasOne (ds : List Outline) (kind : Bool) : Type 0 where
  es : List ℕ
  is : IsOfKind ds kind es

record HasElement (ds : List Outline) (kind : Bool) (dim e : ℕ) : Type 0 where
  es : List ℕ
  is : IsOfKind ds kind es
  here : get_or es dim 0 ≡ e

one-first : (d : Outline) (ds : List Outline) (e : ℕ) (kind own : Bool) → IsElement d e → is_leaf d e ≡ own → HasOne ds kind → HasElement (d ∷ ds) (own && kind) 0 e
one-first d ds e kind own there is rest = record { es = e ∷ rest.es; is = element-first d ds e rest.es kind own there is rest.is; here = refl }

one-later : (d : Outline) (ds : List Outline) (first : ℕ) (kind own : Bool) (dim e : ℕ) → IsElement d first → is_leaf d first ≡ own → HasElement ds kind dim e → HasElement (d ∷ ds) (own && kind) (suc dim) e
one-later d ds first kind own dim e there is rest = record { es = first ∷ rest.es; is = element-first d ds first rest.es kind own there is rest.is; here = rest.here }

some-one : (ds : List Outline) → HasCells ds → (kind : Bool) × HasOne ds kind
some-one ds some = let es = number-digits (sizes_of ds) 0 some in (are_leaves ds es.0, record { es = es.0; is = of-kind ds es.0 es.1 })

leaves-there : (ds : List Outline) → All IsDimension ds → HasCells ds → HasOne ds true
leaves-there [] all some = record { es = []; is = of-kind [] [] refl }
leaves-there (d ∷ ds) all some =
    let first = leaf-there d (all 0 d (omega arith)) (first-some d ds some) in
    let rest = leaves-there ds (All-tail IsDimension d ds all) (rest-some d ds some) in
    let has = one-first d ds first.0 true true first.1 first.2 rest in
    record { es = has.es; is = has.is }

-- a leaf is an element of a leaf cell
leaf-has : (ds : List Outline) (dim e : ℕ) (d : Outline) → All IsDimension ds → HasCells ds → slice_get ds dim ≡ Some d → IsElement d e → is_leaf d e ≡ true → HasElement ds true dim e
leaf-has [] dim e d all some is there leaf = absurd (cc is)
leaf-has (x ∷ ds) zero e d all some is there leaf =
    let same : d ≡ x = cc in
    one-first x ds e true true (subst (λ d. IsElement d e) same there) (subst (λ d. is_leaf d e ≡ true) same leaf) (leaves-there ds (All-tail IsDimension x ds all) (rest-some x ds some))
leaf-has (x ∷ ds) (suc dim) e d all some is there leaf =
    let first = leaf-there x (all 0 x (omega arith)) (first-some x ds some) in
    one-later x ds first.0 true true dim e first.1 first.2 (leaf-has ds dim e d (All-tail IsDimension x ds all) (rest-some x ds some) is there leaf)

-- some cell has an element
any-has : (ds : List Outline) (dim e : ℕ) (d : Outline) → HasCells ds → slice_get ds dim ≡ Some d → IsElement d e → (kind : Bool) × HasElement ds kind dim e
any-has [] dim e d some is there = absurd (cc is)
any-has (x ∷ ds) zero e d some is there =
    let same : d ≡ x = cc in
    let rest = some-one ds (rest-some x ds some) in
    (is_leaf x e && rest.0, one-first x ds e rest.0 (is_leaf x e) (subst (λ d. IsElement d e) same there) refl rest.1)
any-has (x ∷ ds) (suc dim) e d some is there =
    let rest = any-has ds dim e d (rest-some x ds some) is there in
    (is_leaf x 0 && rest.0, one-later x ds 0 rest.0 (is_leaf x 0) dim e (first-some x ds some) refl rest.1)

-- after any element, a consolidated cell stays one
total-later : (x : Outline) (ds : List Outline) (dim e : ℕ) → HasCells (x ∷ ds) → HasElement ds false dim e → HasElement (x ∷ ds) false (suc dim) e
total-later x ds dim e some rest =
    subst (λ k. HasElement (x ∷ ds) k (suc dim) e) (and-right (is_leaf x 0)) (one-later x ds 0 false (is_leaf x 0) dim e (first-some x ds some) refl rest)

-- a total is an element of a consolidated cell
total-has : (ds : List Outline) (dim e : ℕ) (d : Outline) → HasCells ds → slice_get ds dim ≡ Some d → IsElement d e → is_leaf d e ≡ false → HasElement ds false dim e
total-has [] dim e d some is there total = absurd (cc is)
total-has (x ∷ ds) zero e d some is there total =
    let same : d ≡ x = cc in
    let rest = some-one ds (rest-some x ds some) in
    one-first x ds e rest.0 false (subst (λ d. IsElement d e) same there) (subst (λ d. is_leaf d e ≡ false) same total) rest.1
total-has (x ∷ ds) (suc dim) e d some is there total = total-later x ds dim e some (total-has ds dim e d (rest-some x ds some) is there total)

-- each element is one of a consolidated cell, where another dimension has a total
beside-has : (ds : List Outline) (dim e other t : ℕ) (d o : Outline) → HasCells ds → other ≢ dim → slice_get ds dim ≡ Some d → IsElement d e → slice_get ds other ≡ Some o → IsElement o t → is_leaf o t ≡ false → HasElement ds false dim e
beside-has [] dim e other t d o some apart is there its within total = absurd (cc is)
beside-has (x ∷ ds) zero e zero t d o some apart is there its within total = absurd (apart refl)
beside-has (x ∷ ds) zero e (suc other) t d o some apart is there its within total =
    let same : d ≡ x = cc in
    let rest = total-has ds other t o (rest-some x ds some) its within total in
    subst (λ k. HasElement (x ∷ ds) k 0 e) (and-right (is_leaf x e)) (one-first x ds e false (is_leaf x e) (subst (λ d. IsElement d e) same there) refl (record { es = rest.es; is = rest.is }))
beside-has (x ∷ ds) (suc dim) e zero t d o some apart is there its within total =
    let same : o ≡ x = cc in
    let rest = any-has ds dim e d (rest-some x ds some) is there in
    one-later x ds t rest.0 false dim e (subst (λ o. IsElement o t) same within) (subst (λ o. is_leaf o t ≡ false) same total) rest.1
beside-has (x ∷ ds) (suc dim) e (suc other) t d o some apart is there its within total =
    total-later x ds dim e some (beside-has ds dim e other t d o (rest-some x ds some) (λ same. apart (ap suc same)) is there its within total)

-- there is an element of each dimension
element-at : (ds : List Outline) (kind : Bool) (es : List ℕ) (dim : ℕ) (d : Outline) → IsOfKind ds kind es → slice_get ds dim ≡ Some d → IsElement d (get_or es dim 0)
element-at ds kind es dim d of is = (element-of ds es dim d of.digits is).1

-- a leaf cell has leaves alone
leaf-at : (ds : List Outline) (es : List ℕ) (dim : ℕ) (d : Outline) → IsOfKind ds true es → slice_get ds dim ≡ Some d → is_leaf d (get_or es dim 0) ≡ true
leaf-at [] es dim d of is = absurd (cc is)
leaf-at (x ∷ ds) [] dim d of is = absurd (let wrong = of.digits in cc)
leaf-at (x ∷ ds) (e ∷ es) zero d of is =
    let same : x ≡ d = cc in
    subst (λ d. is_leaf d e ≡ true) same (and_parts (is_leaf x e) (are_leaves ds es) of.own).0
leaf-at (x ∷ ds) (e ∷ es) (suc dim) d of is =
    let parts = and_parts (nat_lt e (length x.elements)) (are_digits (sizes_of ds) es) of.digits in
    let kinds = and_parts (is_leaf x e) (are_leaves ds es) of.own in
    leaf-at ds es dim d (record { digits = parts.1; own = kinds.1 }) is

-- a consolidated cell has a total
pub record HasTotal (ds : List Outline) (es : List ℕ) : Type 0 where
  pub dim : ℕ
  pub dimension : Outline
  pub is : slice_get ds dim ≡ Some dimension
  pub there : IsElement dimension (get_or es dim 0)
  pub total : is_leaf dimension (get_or es dim 0) ≡ false

total-at : (ds : List Outline) (es : List ℕ) → IsOfKind ds false es → HasTotal ds es
total-at [] [] of = absurd (let wrong = of.own in cc)
total-at [] (e ∷ es) of = absurd (let wrong = of.digits in cc)
total-at (x ∷ ds) [] of = absurd (let wrong = of.digits in cc)
total-at (x ∷ ds) (e ∷ es) of =
    let parts = and_parts (nat_lt e (length x.elements)) (are_digits (sizes_of ds) es) of.digits in
    by (ltb-true e (length x.elements) parts.0) (is_leaf x e) refl of.own (λ kind. total-at ds es (record { digits = parts.1; own = kind }))
  where
    by : IsElement x e → (leaf : Bool) → is_leaf x e ≡ leaf → (leaf && are_leaves ds es) ≡ false → (are_leaves ds es ≡ false → HasTotal ds es) → HasTotal (x ∷ ds) (e ∷ es)
    by there false is kind later = record { dim = 0; dimension = x; is = refl; there = there; total = is }
    by there true is kind later =
        let rest = later kind in
        record { dim = suc rest.dim; dimension = rest.dimension; is = rest.is; there = rest.there; total = rest.total }

-- ---- dimensions with a total

-- this is a total of the dimension at this place
pub record IsTotalAt (ds : List Outline) (dim : ℕ) (dimension : Outline) (element : ℕ) : Type 0 where
  pub is : slice_get ds dim ≡ Some dimension
  pub there : IsElement dimension element
  pub total : is_leaf dimension element ≡ false

total-found : (d : Outline) → has_total d ≡ true → (t : ℕ) × IsElement d t × (is_leaf d t ≡ false)
total-found d some =
    let found = any-found (is_taken Totals d) 0 (length d.elements) some in
    (found.0, omega (arith, found.2), not-true (is_leaf d found.0) found.3)

pub has-total : (d : Outline) (t : ℕ) → t < length d.elements → is_taken Totals d t ≡ true → has_total d ≡ true
has-total d t there total = any-from (is_taken Totals d) 0 (length d.elements) t (omega arith) (omega (arith, there)) total

pub no-total : (d : Outline) → ((k : ℕ) → k < length d.elements → is_taken Totals d k ≡ false) → has_total d ≡ false
no-total d none = none-from (is_taken Totals d) 0 (length d.elements) (λ k from low. none k (omega (arith, low)))

module _ (ds : List Outline) (place : Option ℕ) where
  abbrev pub passes : ℕ → Bool
  passes dim = not (is_at dim place) && has_total_at ds dim

  -- a dimension beside that at the place, and its total
  record HasElsewhere : Type 0 where
    dim : ℕ
    apart : is_at dim place ≡ false
    dimension : Outline
    element : ℕ
    at : IsTotalAt ds dim dimension element

  elsewhere-found : has_total_elsewhere ds place ≡ true → HasElsewhere
  elsewhere-found some = let found = any-found passes 0 (length ds) some in by found.0 found.3
    where
      at : (dim : ℕ) → is_at dim place ≡ false → (o : Option Outline) → slice_get ds dim ≡ o → option_map_or has_total o false ≡ true → HasElsewhere
      at dim apart None is some = absurd (cc)
      at dim apart (Some d) is some =
          let total = total-found d some in
          record { dim = dim; apart = apart; dimension = d; element = total.0; at = record { is = is; there = total.1; total = total.2 } }

      by : (dim : ℕ) → passes dim ≡ true → HasElsewhere
      by dim holds =
          let parts = and_parts (not (is_at dim place)) (has_total_at ds dim) holds in
          at dim (not-true (is_at dim place) parts.0) (slice_get ds dim) refl parts.1

  has-elsewhere : (dim : ℕ) (d : Outline) (t : ℕ) → is_at dim place ≡ false → IsTotalAt ds dim d t → has_total_elsewhere ds place ≡ true
  has-elsewhere dim d t apart at =
      let here : has_total_at ds dim ≡ true = ap (λ o. option_map_or has_total o false) at.is ∙ has-total d t at.there (ap not at.total) in
      any-from passes 0 (length ds) dim (omega arith) (omega (arith, slice_get_within ds dim d at.is)) (and_from (not (is_at dim place)) (has_total_at ds dim) (ap not apart) here)

  -- as it is found dimension by dimension
  pub elsewhere-here : (dim : ℕ) (d : Outline) → slice_get ds dim ≡ Some d → is_at dim place ≡ false → has_total d ≡ true → has_total_elsewhere ds place ≡ true
  elsewhere-here dim d is apart has =
      let total = total-found d has in
      has-elsewhere dim d total.0 apart (record { is = is; there = total.1; total = total.2 })

  pub elsewhere-none : ((k : ℕ) → k < length ds → passes k ≡ false) → has_total_elsewhere ds place ≡ false
  elsewhere-none none = none-from passes 0 (length ds) (λ k from low. none k (omega (arith, low)))

  pub at-place : (dim : ℕ) → is_at dim place ≡ true → passes dim ≡ false
  at-place dim own = ap (λ t. not t && has_total_at ds dim) own

  pub without : (dim : ℕ) (d : Outline) → slice_get ds dim ≡ Some d → has_total d ≡ false → passes dim ≡ false
  without dim d is none = ap (λ o. not (is_at dim place) && option_map_or has_total o false) is ∙ ap (λ t. not (is_at dim place) && t) none ∙ and-right (not (is_at dim place))

-- ---- the greatest number of a kind

-- a total of a dimension beside another, or one of both
only-total : (ds : List Outline) (dim other : ℕ) (d o : Outline) (es : List ℕ) → has_total_elsewhere ds (Some dim) ≡ false → slice_get ds dim ≡ Some d → IsTotalAt ds other o (get_or es other 0) → is_leaf d (get_or es dim 0) ≡ false
only-total ds dim other d o es none is at = by (other == dim) refl
  where
    by : (same : Bool) → (other == dim) ≡ same → is_leaf d (get_or es dim 0) ≡ false
    by false apart = absurd (let wrong : true ≡ false = sym (has-elsewhere ds (Some dim) other o (get_or es other 0) apart at) ∙ none in cc)
    by true same =
        let here : other ≡ dim = eqb-true other dim same in
        let own : Some o ≡ Some d = sym at.is ∙ ap (slice_get ds) here ∙ is in
        let one : o ≡ d = cc in
        subst (λ d. is_leaf d (get_or es dim 0) ≡ false) one (subst (λ k. is_leaf o (get_or es k 0) ≡ false) here at.total)

module _ (ds : List Outline) where
  -- cells of a kind have elements that are taken
  taken-at : (kind : Bool) (es : List ℕ) (dim : ℕ) (d : Outline) → IsOfKind ds kind es → slice_get ds dim ≡ Some d → is_taken (which_of ds kind dim) d (get_or es dim 0) ≡ true
  taken-at true es dim d of is = leaf-at ds es dim d of is
  taken-at false es dim d of is = by (has_total_elsewhere ds (Some dim)) refl
    where
      total : HasTotal ds es
      total = total-at ds es of

      by : (others : Bool) → has_total_elsewhere ds (Some dim) ≡ others → is_taken (if others then Each else Totals) d (get_or es dim 0) ≡ true
      by true others = refl
      by false none = ap not (only-total ds dim total.dim d total.dimension es none is (record { is = total.is; there = total.there; total = total.total }))

  -- an element that is taken is one of a cell of the kind
  taken-has : All IsDimension ds → HasCells ds → (kind : Bool) (dim e : ℕ) (d : Outline) → slice_get ds dim ≡ Some d → IsElement d e → is_taken (which_of ds kind dim) d e ≡ true → HasElement ds kind dim e
  taken-has all some true dim e d is there taken = leaf-has ds dim e d all some is there taken
  taken-has all some false dim e d is there taken = by (has_total_elsewhere ds (Some dim)) refl taken
    where
      beside : HasElsewhere ds (Some dim) → HasElement ds false dim e
      beside b =
          let differ : b.dim ≢ dim = λ same. let wrong : true ≡ false = sym (eq-eqb b.dim dim same) ∙ b.apart in cc in
          beside-has ds dim e b.dim b.element d b.dimension some differ is there b.at.is b.at.there b.at.total

      by : (others : Bool) → has_total_elsewhere ds (Some dim) ≡ others → is_taken (if others then Each else Totals) d e ≡ true → HasElement ds false dim e
      by true others taken = beside (elsewhere-found ds (Some dim) others)
      by false none taken = total-has ds dim e d some is there (not-true (is_leaf d e) taken)

  ranks-top : (kind : Bool) (dim : ℕ) (ranks : List ℕ) (d : Outline) → slice_get ds dim ≡ Some d → position_top ds kind (Ranks dim ranks) ≡ greatest_taken (which_of ds kind dim) d ranks
  ranks-top kind dim ranks d is = ap (λ o. option_map_or (λ d. greatest_taken (which_of ds kind dim) d ranks) o 0) is

  -- a cell has no more than its kind has
  pub number-within : (kind : Bool) (p : Position) (es : List ℕ) → IsOfKind ds kind es → IsPosition ds p → number_by p es ≤ position_top ds kind p
  number-within true (Constant number) es of fits = omega arith
  number-within false (Constant number) es of fits =
      let total = total-at ds es of in
      let some = has-elsewhere ds None total.dim total.dimension (get_or es total.dim 0) refl (record { is = total.is; there = total.there; total = total.total }) in
      let same : position_top ds false (Constant number) ≡ number = ap (λ t. if t then number else 0) some in
      omega (arith, same)
  number-within kind (Ranks dim ranks) es of (d, is, are) =
      let e : ℕ = get_or es dim 0 in
      let which : Which = which_of ds kind dim in
      let there : IsElement d e = element-at ds kind es dim d of is in
      let taken : taken_rank which d ranks e ≡ get_or ranks e 0 = ap (λ t. if t then get_or ranks e 0 else 0) (taken-at kind es dim d of is) in
      let most = mapped-holds (taken_rank which d ranks) 0 (length d.elements) e (omega arith) (omega (arith, there)) in
      omega (arith, taken, most, ranks-top kind dim ranks d is)

  -- and some cell has as much
  module _ (all : All IsDimension ds) (some : HasCells ds) (kind : Bool) (most : ℕ) where
    constant-there : (number : ℕ) → ((es : List ℕ) → IsOfKind ds kind es → number ≤ most) → position_top ds kind (Constant number) ≤ most
    constant-there number each = by kind refl
      where
        total-one : HasElsewhere ds None → HasOne ds false
        total-one b = let has = total-has ds b.dim b.element b.dimension some b.at.is b.at.there b.at.total in record { es = has.es; is = has.is }

        low : HasOne ds kind → number ≤ most
        low one = each one.es one.is

        by-total : kind ≡ false → (t : Bool) → has_total_elsewhere ds None ≡ t → (if t then number else 0) ≤ most
        by-total own true has = low (subst (HasOne ds) (sym own) (total-one (elsewhere-found ds None has)))
        by-total own false has = omega arith

        by : (k : Bool) → kind ≡ k → (if k || has_total_elsewhere ds None then number else 0) ≤ most
        by true own = low (subst (HasOne ds) (sym own) (leaves-there ds all some))
        by false own = by-total own (has_total_elsewhere ds None) refl

    pub position-there : (p : Position) → IsPosition ds p → ((es : List ℕ) → IsOfKind ds kind es → number_by p es ≤ most) → position_top ds kind p ≤ most
    position-there (Constant number) fits each = constant-there number each
    position-there (Ranks dim ranks) (d, is, are) each = subst (λ n. n ≤ most) (sym (ranks-top kind dim ranks d is)) (mapped-within (taken_rank which d ranks) 0 (length d.elements) most rank-low)
      where
        which : Which
        which = which_of ds kind dim

        with-cell : (e : ℕ) → HasElement ds kind dim e → get_or ranks e 0 ≤ most
        with-cell e has = subst (λ e. get_or ranks e 0 ≤ most) has.here (each has.es has.is)

        rank-low : (e : ℕ) → 0 ≤ e → e < 0 + length d.elements → taken_rank which d ranks e ≤ most
        rank-low e from low = by (is_taken which d e) refl
          where
            by : (t : Bool) → is_taken which d e ≡ t → (if t then get_or ranks e 0 else 0) ≤ most
            by true taken = with-cell e (taken-has all some kind dim e d is (omega (arith, low)) taken)
            by false taken = omega arith

  pub top-small : (kind : Bool) (p : Position) → IsPosition ds p → position_top ds kind p ≤ greatest_rank
  top-small kind (Constant number) fits = by (kind || has_total_elsewhere ds None)
    where
      by : (t : Bool) → (if t then number else 0) ≤ greatest_rank
      by true = fits
      by false = omega arith
  top-small kind (Ranks dim ranks) (d, is, are) = subst (λ n. n ≤ greatest_rank) (sym (ranks-top kind dim ranks d is)) (mapped-within (taken_rank which d ranks) 0 (length d.elements) greatest_rank rank-small)
    where
      which : Which
      which = which_of ds kind dim

      rank-small : (e : ℕ) → 0 ≤ e → e < 0 + length d.elements → taken_rank which d ranks e ≤ greatest_rank
      rank-small e from low = by (is_taken which d e)
        where
          by : (t : Bool) → (if t then get_or ranks e 0 else 0) ≤ greatest_rank
          by true = are.small e 0 (omega (arith, are.each, low))
          by false = omega arith
