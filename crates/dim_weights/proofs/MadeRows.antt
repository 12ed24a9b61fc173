-- Rows that are made, element by element.
use Rattle.std.proofs.Common.{◌≡◌, ◌≢◌, ◌⊎◌, inl, inr, ℕ, zero, suc, ◌+◌, ◌<◌, ◌≤◌, Bool, true, false, eqb, ℤ, List, [], ◌∷◌, ◌++◌, length, take, get_or, set, refl, ap, sym, ◌∙◌, subst, arith, All, Option, Some, None, Result, Ok, Err, IfSome, IfNone, IsOkUnless}
use Rattle.std.specs.List.{range_with_len, list_all}
use Rattle.std.proofs.Math.ListN.{length-set}
use Rattle.std.proofs.lemmas.Bool.{eqb-true, eq-eqb, cases_lt}
use Rattle.std.proofs.lemmas.List.{get_or-set_same, get_or-set_other}
use Rattle.std.proofs.lemmas.List.Sums.{sum_by_more, get_or-le-sum_by, list_all-from_AllPass}
use Rattle.dim_core.specs.Outline.{Outline, IsDimension, components_of, component_lists}
use Rattle.dim_order.specs.Members.{is_among}
use Rattle.dim_order.proofs.Depths.{among-front}
use Rattle.lists.proofs.Places.{get_or_within}
use Rattle.dim_core.proofs.LevelLaws.{length-component_lists, component-lower}
use Rattle.dim_weights.specs.declared.fault.WeightFault.{WeightFault}
use Rattle.dim_weights.specs.declared.fault.WeightFault.TheVariants.{Memory}
use Rattle.dim_core.specs.Outline.{IsElement, level}
use Rattle.dim_weights.specs.Coefficients.{coef}
use Rattle.dim_weights.specs.Table.{leaves_in, leaves_of, share, greatest_in, IsWeightsOf}
use Rattle.dim_weights.specs.Refusal.{fault_of, fault_at, first_fault, refusal_of, pair_count}
use Rattle.dim_weights.specs.Inside.Sums.{IsRow, AreRows}
use Rattle.dim_weights.specs.Inside.Rows.{Rows, AreParts, pairs_over, counted_over, with_row, AreRowsOf, IsBuilding}
use Rattle.dim_weights.specs.Inside.Levels.{IsByLevel}
use Rattle.dim_weights.proofs.Pairs.{agree-range, share-range, within-range, rises-range, rising-RisesFrom}
use Rattle.dim_weights.proofs.Equations.{coef-from}
use Rattle.dim_weights.proofs.Building.{among-more}

-- what the fields keep
pub IsRow-made : (n : ℕ) (rows : List (List (ℕ × ℤ))) (element : ℕ) (parts pairs : List (ℕ × ℤ)) → pairs ≡ pairs_over n rows element parts → greatest_in pairs ≤ 1000000000 → length pairs ≤ 4000000 → IsRow n pairs
IsRow-made n rows element parts pairs made small few =
    let P : List (ℕ × ℤ) → Type 0 = λ ps. All (λ pair. pair.0 < n) ps in
    let f = counted_over rows element parts in
    record {
      leaves = subst P (sym made) (within-range (counted_over rows element parts) n n 0 (omega arith));
      rising = rw made (rising-RisesFrom 0 (pairs_over n rows element parts) (rises-range (counted_over rows element parts) n 0));
      small = small;
      few = few;
    }

pub IsRow-none : (n : ℕ) → IsRow n []
IsRow-none n = record { leaves = λ k d within. absurd (omega arith); rising = λ k within. absurd (omega arith); small = omega arith; few = omega arith }

pub IsBuilding-add : (rows : List (List (ℕ × ℤ))) (element count : ℕ) (pairs : List (ℕ × ℤ)) → element < length rows → AreRows (length rows) rows → IsRow (length rows) pairs → count ≤ 4000000 → IsBuilding (set rows element pairs) count
IsBuilding-add rows element count pairs within are row few = record {
  made = λ k.
      let R : ℕ → Type 0 = λ n. IsRow n (leaves_in (set rows element pairs) k) in
      subst R (sym (length-set rows element pairs)) (by k (eqb k element) refl);
  few = few;
}
  where
    by : (k : ℕ) (b : Bool) → eqb k element ≡ b → IsRow (length rows) (leaves_in (set rows element pairs) k)
    by k true e =
        let same : leaves_in (set rows element pairs) k ≡ pairs = ap (λ (x : ℕ). leaves_in (set rows element pairs) x) (eqb-true k element e) ∙ get_or-set_same rows element pairs [] within in
        let P : List (ℕ × ℤ) → Type 0 = IsRow (length rows) in
        subst P (sym same) row
    by k false e =
        let other : k ≢ element = (λ same. let t = eq-eqb k element same in cc) in
        let same : leaves_in (set rows element pairs) k ≡ leaves_in rows k = get_or-set_other rows element k pairs [] other in
        let P : List (ℕ × ℤ) → Type 0 = IsRow (length rows) in
        subst P (sym same) (are k)

pub none-push : (rows : List (List (ℕ × ℤ))) → ((k : ℕ) → leaves_in rows k ≡ []) → (k : ℕ) → leaves_in (rows ++ [] ∷ []) k ≡ []
none-push [] none zero = refl
none-push [] none (suc k) = refl
none-push (r ∷ rows) none zero = none 0
none-push (r ∷ rows) none (suc k) = none-push rows (λ j. none (suc j)) k

pub IsBuilding-none : (rows : List (List (ℕ × ℤ))) → ((k : ℕ) → leaves_in rows k ≡ []) → IsBuilding rows 0
IsBuilding-none rows none = record {
  made = λ k. (let P : List (ℕ × ℤ) → Type 0 = IsRow (length rows) in subst P (sym (none k)) (IsRow-none (length rows)));
  few = omega arith;
}

pub AreParts-of : (d : Outline) (dim : IsDimension d) (element : ℕ) → IsElement d element → AreParts (length d.elements) (components_of d element)
AreParts-of d dim element here =
    let some = get_or-le-sum_by length (component_lists d.elements) element [] (omega (arith, length-component_lists d)) in
    record { within = dim.parts element; few = omega (arith, dim.few_components, some) }

-- components come at a lower level, so they come before
module _ (d : Outline) (dim : IsDimension d) (elements : List ℕ) (by : IsByLevel d elements) where
  pub lower-before : (i other : ℕ) → i < length elements → IsElement d other → level d other < level d (get_or elements i 0) → is_among (take i elements) other ≡ true
  lower-before i other within inside lower =
      let place = by.each other inside in
      let at : get_or elements place.0 0 ≡ other = get_or_within elements place.0 0 _ place.1 ∙ place.2 in
      decide place.0 at place.1 (cases_lt place.0 i)
    where
      decide : (j : ℕ) → get_or elements j 0 ≡ other → j < length elements → (j < i) ⊎ (i ≤ j) → is_among (take i elements) other ≡ true
      decide j at long (inl front) = subst (λ (x : ℕ). is_among (take i elements) x ≡ true) at (among-front elements i j front long)
      decide j at long (inr after) =
          let up = by.rising i j 0 after long in
          let same : level d (get_or elements j 0) ≡ level d other = ap (level d) at in
          absurd (omega arith)

  pub components-before : (i : ℕ) → i < length elements → list_all (λ part. is_among (take i elements) part.0) (components_of d (get_or elements i 0)) ≡ true
  components-before i within =
      list_all-from_AllPass (λ part. is_among (take i elements) part.0) (components_of d (get_or elements i 0))
      (λ k e there. lower-before i (get_or (components_of d (get_or elements i 0)) k e).0 within (dim.parts (get_or elements i 0) k e there).0 (component-lower d dim (get_or elements i 0) (by.within i 0 within) k e there))

  -- so the row is that of the element
  pub row-is : (rows : List (List (ℕ × ℤ))) (i : ℕ) → i < length elements → ((x : ℕ) → is_among (take i elements) x ≡ true → leaves_in rows x ≡ leaves_of d x)
      → pairs_over (length d.elements) rows (get_or elements i 0) (components_of d (get_or elements i 0)) ≡ leaves_of d (get_or elements i 0)
  row-is rows i within each =
      agree-range (counted_over rows (get_or elements i 0) (components_of d (get_or elements i 0))) (coef d (get_or elements i 0)) (length d.elements)
      (λ leaf low.
      coef-from d dim leaf (take i elements) (λ x. share (leaves_in rows x) leaf) (get_or elements i 0) (by.within i 0 within) (components-before i within)
      (λ x among inside. ap (λ (ps : List (ℕ × ℤ)). share ps leaf) (each x among) ∙ share-range (coef d x) (length d.elements) 0 leaf (omega arith) (omega arith)))
      (length d.elements) 0 (omega arith)

  pub count-is : (i : ℕ) → i < length elements → pair_count d (take (i + 1) elements) ≡ pair_count d (take i elements) + length (leaves_of d (get_or elements i 0))
  count-is i within = sum_by_more (λ element. length (leaves_of d element)) elements i 0 within

  pub fault-is : (made : Rows) (i : ℕ) → i < length elements → AreRowsOf d (take i elements) made
      → fault_of (get_or elements i 0) (pairs_over (length d.elements) made.rows (get_or elements i 0) (components_of d (get_or elements i 0))) (made.count + length (pairs_over (length d.elements) made.rows (get_or elements i 0) (components_of d (get_or elements i 0)))) ≡ fault_at d elements i
  fault-is made i within are =
      let row = row-is made.rows i within are.each in
      let count = count-is i within in
      let sum : made.count + length (leaves_of d (get_or elements i 0)) ≡ pair_count d (take (i + 1) elements) = omega (arith, are.counted, count) in
      ap (λ (ps : List (ℕ × ℤ)). fault_of (get_or elements i 0) ps (made.count + length ps)) row ∙ ap (fault_of (get_or elements i 0) (leaves_of d (get_or elements i 0))) sum

  pub AreRowsOf-more : (made : Rows) (i : ℕ) → i < length elements → AreRowsOf d (take i elements) made
      → AreRowsOf d (take (i + 1) elements) (with_row made (get_or elements i 0) (pairs_over (length d.elements) made.rows (get_or elements i 0) (components_of d (get_or elements i 0))))
  AreRowsOf-more made i within are = record {
    whole = omega (arith, length-set made.rows (get_or elements i 0) (pairs_over (length d.elements) made.rows (get_or elements i 0) (components_of d (get_or elements i 0))), are.whole);
    each = λ x among. pick x (eqb x (get_or elements i 0)) refl (among-more elements i x within among);
    counted = (let count = count-is i within in let size = ap length row in omega (arith, are.counted, count, size));
  }
    where
      row : pairs_over (length d.elements) made.rows (get_or elements i 0) (components_of d (get_or elements i 0)) ≡ leaves_of d (get_or elements i 0)
      row = row-is made.rows i within are.each

      pick : (x : ℕ) (b : Bool) → eqb x (get_or elements i 0) ≡ b → (is_among (take i elements) x ≡ true) ⊎ (x ≡ get_or elements i 0)
          → leaves_in (set made.rows (get_or elements i 0) (pairs_over (length d.elements) made.rows (get_or elements i 0) (components_of d (get_or elements i 0)))) x ≡ leaves_of d x
      pick x true e place =
          let inside : get_or elements i 0 < length made.rows = omega (arith, by.within i 0 within, are.whole) in
          let same = eqb-true x (get_or elements i 0) e in
          ap (λ (y : ℕ). leaves_in (set made.rows (get_or elements i 0) (pairs_over (length d.elements) made.rows (get_or elements i 0) (components_of d (get_or elements i 0)))) y) same
          ∙ (get_or-set_same made.rows (get_or elements i 0) _ [] inside ∙ (row ∙ ap (leaves_of d) (sym same)))
      pick x false e (inl before) =
          let other : x ≢ get_or elements i 0 = (λ same. let t = eq-eqb x (get_or elements i 0) same in cc) in
          get_or-set_other made.rows (get_or elements i 0) x _ [] other ∙ are.each x before
      pick x false e (inr here) = let t = eq-eqb x (get_or elements i 0) here in absurd (cc)

  pub IsWeightsOf-all : (made : Rows) (i : ℕ) → length elements ≤ i → AreRowsOf d (take i elements) made → IsWeightsOf d made.rows
  IsWeightsOf-all made i past are = record {
    whole = are.whole;
    each = λ element here.
        let place = by.each element here in
        let at : get_or elements place.0 0 ≡ element = get_or_within elements place.0 0 _ place.1 ∙ place.2 in
        are.each element (subst (λ (x : ℕ). is_among (take i elements) x ≡ true) at (among-front elements i place.0 (omega (arith, place.1)) place.1));
  }

pub AreRowsOf-none : (d : Outline) (made : Rows) → length made.rows ≡ length d.elements → made.count ≡ 0 → AreRowsOf d [] made
AreRowsOf-none d made whole none = record { whole = whole; each = λ x among. absurd (cc); counted = none }

-- the first fault
pub first-some : (at : ℕ → Option WeightFault) (fault : WeightFault) (n a i : ℕ) → i < n → ((j : ℕ) → j < i → at (a + j) ≡ None) → at (a + i) ≡ Some fault → first_fault at (range_with_len a n) ≡ Some fault
first-some at fault zero a i within free here = absurd (omega arith)
first-some at fault (suc n) a zero within free here = let e : a + 0 ≡ a = omega arith in let h : at a ≡ Some fault = rw e at here in rw h refl
first-some at fault (suc n) a (suc i) within free here =
    let e : a + 0 ≡ a = omega arith in
    let first : at a ≡ None = ap at (sym e) ∙ free 0 (omega arith) in
    let rest = first-some at fault n (a + 1) i (omega arith) (λ j low. ap at (omega arith) ∙ free (suc j) (omega arith)) (ap at (omega arith) ∙ here) in
    rw first rest

pub first-none : (at : ℕ → Option WeightFault) (n a : ℕ) → ((j : ℕ) → j < n → at (a + j) ≡ None) → first_fault at (range_with_len a n) ≡ None
first-none at zero a free = refl
first-none at (suc n) a free =
    let e : a + 0 ≡ a = omega arith in
    let first : at a ≡ None = ap at (sym e) ∙ free 0 (omega arith) in
    let rest = first-none at n (a + 1) (λ j low. ap at (omega arith) ∙ free (suc j) (omega arith)) in
    rw first rest

module _ (d : Outline) (elements : List ℕ) (by : IsByLevel d elements) where
  pub refusal-some : (fault : WeightFault) (i : ℕ) → i < length elements → ((j : ℕ) → j < i → fault_at d elements j ≡ None) → fault_at d elements i ≡ Some fault → refusal_of d ≡ Some fault
  refusal-some fault i within free here =
      ap (λ (es : List ℕ). first_fault (fault_at d es) (range_with_len 0 (length d.elements))) (sym by.is)
      ∙ first-some (fault_at d elements) fault (length d.elements) 0 i (omega (arith, by.whole)) (λ j low. ap (fault_at d elements) (omega arith) ∙ free j low) (ap (fault_at d elements) (omega arith) ∙ here)

  pub refusal-none : ((j : ℕ) → j < length elements → fault_at d elements j ≡ None) → refusal_of d ≡ None
  refusal-none free =
      ap (λ (es : List ℕ). first_fault (fault_at d es) (range_with_len 0 (length d.elements))) (sym by.is)
      ∙ first-none (fault_at d elements) (length d.elements) 0 (λ j low. ap (fault_at d elements) (omega arith) ∙ free j (omega (arith, by.whole)))

-- answers
pub memory-refused : {V : Type 0} (r : Option WeightFault) (out : Result V WeightFault) → out ≡ Err Memory → IfSome r (λ fault. (out ≡ Err fault) ⊎ (out ≡ Err Memory))
memory-refused None out same = tt
memory-refused (Some fault) out same = inr same

unless : {V : Type 0} (out : Result V WeightFault) (e : WeightFault) → out ≡ Err e → IsOkUnless out Memory → out ≡ Err Memory
unless {V} out e same ok =
    let P : Result V WeightFault → Type 0 = λ r. IsOkUnless r Memory in
    let at : e ≡ Memory = subst P same ok in
    same ∙ ap Err at

memory-unless : {V : Type 0} (out : Result V WeightFault) → out ≡ Err Memory → IsOkUnless out Memory
memory-unless {V} out same = let P : Result V WeightFault → Type 0 = λ r. IsOkUnless r Memory in subst P (sym same) refl

pub memory-accepted : {V : Type 0} (r : Option WeightFault) (out : Result V WeightFault) → out ≡ Err Memory → IfNone r (IsOkUnless out Memory)
memory-accepted None out same = memory-unless out same
memory-accepted (Some fault) out same = tt

module _ {U V : Type 0} (f r : Option WeightFault) (inner : Result U WeightFault) (out : Result V WeightFault) (e : WeightFault) (inner_is : inner ≡ Err e) (out_is : out ≡ Err e)
    (known : (fault : WeightFault) → f ≡ Some fault → r ≡ Some fault) where
  same-memory : inner ≡ Err Memory → out ≡ Err Memory
  same-memory memory = let at : e ≡ Memory = cc in out_is ∙ ap Err at

  pub cause-refused : IfSome f (λ fault. (inner ≡ Err fault) ⊎ (inner ≡ Err Memory)) → IfNone f (IsOkUnless inner Memory) → IfSome r (λ fault. (out ≡ Err fault) ⊎ (out ≡ Err Memory))
  cause-refused refused accepted = by f refl refused accepted
    where
      by : (g : Option WeightFault) → f ≡ g → IfSome g (λ fault. (inner ≡ Err fault) ⊎ (inner ≡ Err Memory)) → IfNone g (IsOkUnless inner Memory) → IfSome r (λ fault. (out ≡ Err fault) ⊎ (out ≡ Err Memory))
      by (Some fault) is (inl cause) ok =
          let same = known fault is in
          let at : e ≡ fault = cc in
          let P : Option WeightFault → Type 0 = λ x. IfSome x (λ fault. (out ≡ Err fault) ⊎ (out ≡ Err Memory)) in
          subst P (sym same) (inl (out_is ∙ ap Err at))
      by (Some fault) is (inr memory) ok = memory-refused r out (same-memory memory)
      by None is cause ok = memory-refused r out (same-memory (unless inner e inner_is ok))

  pub cause-accepted : IfSome f (λ fault. (inner ≡ Err fault) ⊎ (inner ≡ Err Memory)) → IfNone f (IsOkUnless inner Memory) → IfNone r (IsOkUnless out Memory)
  cause-accepted refused accepted = by f refl refused accepted
    where
      by : (g : Option WeightFault) → f ≡ g → IfSome g (λ fault. (inner ≡ Err fault) ⊎ (inner ≡ Err Memory)) → IfNone g (IsOkUnless inner Memory) → IfNone r (IsOkUnless out Memory)
      by (Some fault) is cause ok =
          let same = known fault is in
          let P : Option WeightFault → Type 0 = λ x. IfNone x (IsOkUnless out Memory) in
          subst P (sym same) tt
      by None is cause ok = memory-accepted r out (same-memory (unless inner e inner_is ok))

-- where an element was added, nothing is wrong with it
pub ok-free : {U : Type 0} (f : Option WeightFault) (inner : Result U WeightFault) (x : U) → inner ≡ Ok x → IfSome f (λ fault. (inner ≡ Err fault) ⊎ (inner ≡ Err Memory)) → f ≡ None
ok-free None inner x ok refused = refl
ok-free (Some fault) inner x ok (inl cause) = absurd (cc)
ok-free (Some fault) inner x ok (inr memory) = absurd (cc)

pub free-more : (at : ℕ → Option WeightFault) (i : ℕ) → ((j : ℕ) → j < i → at j ≡ None) → at i ≡ None → (j : ℕ) → j < i + 1 → at j ≡ None
free-more at i free here j low = by (cases_lt j i)
  where
    by : (j < i) ⊎ (i ≤ j) → at j ≡ None
    by (inl before) = free j before
    by (inr after) = let same : j ≡ i = omega arith in ap at same ∙ here
