-- What the fields of a builder keep as a definition is taken.
use Rattle.std.proofs.Common.{◌≡◌, ℕ, ◌+◌, ◌≤◌, ℤ, List, [], ◌∷◌, ◌++◌, length, refl, ap, sym, ◌∙◌, arith, sum_by, nat_lt, ◌||◌, Bool, true, false, not, Some, None, IsTrue, if◌then◌else◌, length-append}
use Rattle.std.specs.List.{IsDistinct}
use Rattle.std.proofs.lemmas.Bool.Decides.{nat_tests}
use Rattle.std.proofs.lemmas.List.Elements.{All-push}
use Rattle.std.proofs.lemmas.List.Sums.{sum_by-append, sum_by-cons}
use Rattle.indexmap.specs.IndexSet.{insert_key}
use Rattle.dim_core.specs.declared.fault.DimFault.TheVariants.{Duplicate, WeightRange, TooMany}
use Rattle.dim_core.specs.declared.attribute.NamedAttribute.{NamedAttribute}
use Rattle.dim_name.specs.Name.{has_name, is_same_name}
use Rattle.dim_core.specs.Draft.{has_weights, with_element}
use Rattle.dim_core.specs.Refusal.{refusal_of}
use Rattle.dim_core.specs.Inside.Kept.{IsKept}
use Rattle.dim_core.specs.Outline.{elements_of}
use Rattle.dim_core.proofs.Elements.{elements_of-push, is_defined-elements_of, is_too_many-elements_of}

-- where no cause is found, each test came out well
passed : (defined weights many : Bool) → (if defined then Some Duplicate else if not weights then Some WeightRange else if many then Some TooMany else None) ≡ None
    → (defined ≡ false) × (weights ≡ true) × (many ≡ false)
passed true weights many h = absurd (cc)
passed false false many h = absurd (cc)
passed false true true h = absurd (cc)
passed false true false h = (refl, refl, refl)

bounds : (m n : ℕ) → (nat_lt 100000 m || nat_lt 1000000 n) ≡ false → (m ≤ 100000) × (n ≤ 1000000)
bounds m n h =
    let first : m ≤ 100000 = grind (arith, nat_tests) in
    let second : n ≤ 1000000 = grind (arith, nat_tests) in
    (first, second)

module _ (of : List ℕ) (names : List (List ℕ)) (lists : List (List (List ℕ × ℤ))) (count : ℕ) (calls : List NamedAttribute) (name : List ℕ) (components : List (List ℕ × ℤ))
    (kept : IsKept names lists count) (free : refusal_of (record { name = of; elements = elements_of names lists; attributes = calls }) name components ≡ None) where
  accepted : (has_name names name ≡ false) × (has_weights components ≡ true) × ((nat_lt 100000 (length names + 1) || nat_lt 1000000 (count + length components)) ≡ false)
  accepted =
      let tests = passed _ _ _ free in
      (sym (is_defined-elements_of of names lists calls name kept.paired) ∙ tests.0, tests.1, sym (is_too_many-elements_of names lists count (length components) kept.paired kept.counted) ∙ tests.2)

  -- the name goes last
  pub new_key : insert_key is_same_name names name ≡ names ++ name ∷ []
  new_key = ap (λ b. if b then names else names ++ name ∷ []) accepted.0

  within : (length names + 1 ≤ 100000) × (count + length components ≤ 1000000)
  within = bounds (length names + 1) (count + length components) accepted.2

  pub kept_after : IsDistinct is_same_name (names ++ name ∷ []) → IsKept (names ++ name ∷ []) (lists ++ components ∷ []) (count + length components)
  kept_after distinct = record {
    paired = simp (length-append) (omega (arith, kept.paired));
    distinct = distinct;
    counted =
        let more = sum_by-append length lists (components ∷ []) in
        let one : sum_by length (components ∷ []) ≡ length components = omega (arith, sum_by-cons length components []) in
        omega (arith, more, one, kept.counted);
    few = simp (length-append) (omega (arith, within.0));
    few_components = within.1;
    weights = All-push (λ list. IsTrue (has_weights list)) lists components kept.weights accepted.1;
  }

-- a builder's fields with one more name and list of components are seen as the draft with one more element
pub one_more : (of : List ℕ) (names names' : List (List ℕ)) (lists lists' : List (List (List ℕ × ℤ))) (calls : List NamedAttribute) (name : List ℕ) (components : List (List ℕ × ℤ)) → length lists ≡ length names
    → names' ≡ names ++ name ∷ [] → lists' ≡ lists ++ components ∷ []
    → record { name = of; elements = elements_of names' lists'; attributes = calls } ≡ with_element (record { name = of; elements = elements_of names lists; attributes = calls }) name components
one_more of names names' lists lists' calls name components paired n l =
    let e = elements_of-push names lists name components paired in
    rw (n, l, e) refl
