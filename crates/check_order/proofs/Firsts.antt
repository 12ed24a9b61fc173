-- The first item that statements, or cubes, from a place on give.
use Rattle.std.proofs.Common.{inl, inr, ◌≤◌, ◌≡◌, refl, sym, ap, ◌∙◌, arith, ℕ, zero, suc, ◌+◌, ◌<◌, Option, Some, None, option_map, List, [], ◌∷◌, ◌++◌, length, get_or}
use Rattle.std.specs.Prelude.{slice_get}
use Rattle.std.specs.List.{flat_map, filter_map, range_with_len, cons_option}
use Rattle.std.proofs.lemmas.Bool.{cases_lt}
use Rattle.std.specs.Option.{option_map_or}
use Rattle.std.proofs.lemmas.Option.{slice_get_read}
use Rattle.rule_model.specs.declared.rules.Statement.{Statement}
use Rattle.rule_model.specs.BoundModel.{BoundModel}
use Rattle.check_order.specs.declared.fault.OrderFault.{OrderFault}
use Rattle.check_order.specs.declared.fault.OrderFault.TheVariants.{NotEarlier}
use Rattle.check_order.specs.References.{marks_of, first_late, late_in}

module _ {Y : Type 0} (h : ℕ → Option Y) where
  pub option-first : (a k j : ℕ) (y : Y) → k ≡ suc j → h a ≡ Some y → Some y ≡ slice_get (filter_map h (range_with_len a k)) 0
  option-first a k j y e is = sym (ap (λ k. slice_get (filter_map h (range_with_len a k)) 0) e ∙ ap (λ o. slice_get (cons_option o (filter_map h (range_with_len (a + 1) j))) 0) is)

  pub option-past : (a k j : ℕ) → k ≡ suc j → h a ≡ None → slice_get (filter_map h (range_with_len (a + 1) j)) 0 ≡ slice_get (filter_map h (range_with_len a k)) 0
  option-past a k j e is = sym (ap (λ k. slice_get (filter_map h (range_with_len a k)) 0) e ∙ ap (λ o. slice_get (cons_option o (filter_map h (range_with_len (a + 1) j))) 0) is)

  -- where none is first, there is none
  pub no-options : (a k : ℕ) → slice_get (filter_map h (range_with_len a k)) 0 ≡ None → (n : ℕ) → a ≤ n → n < a + k → h n ≡ None
  no-options a zero none n from low = absurd (omega (arith, from, low))
  no-options a (suc k) none n from low = by (h a) refl (λ rest after. no-options (a + 1) k rest n (omega (arith, after)) (omega (arith, low)))
    where
      by : (o : Option Y) → h a ≡ o → (slice_get (filter_map h (range_with_len (a + 1) k)) 0 ≡ None → a < n → h n ≡ None) → h n ≡ None
      by (Some y) is next = absurd (let wrong : Some y ≡ None = option-first a (suc k) k y refl is ∙ none in cc)
      by None is next = elim (cases_lt a n) [
        | inl after ↦ next (option-past a (suc k) k refl is ∙ none) after
        | inr before ↦ let same : n ≡ a = omega (arith, before, from) in ap h same ∙ is
      ]

  pub options-none : (a k : ℕ) → ((n : ℕ) → a ≤ n → n < a + k → h n ≡ None) → slice_get (filter_map h (range_with_len a k)) 0 ≡ None
  options-none a zero none = refl
  options-none a (suc k) none =
      sym (option-past a (suc k) k refl (none a (omega arith) (omega arith))) ∙ options-none (a + 1) k (λ n from low. none n (omega (arith, from)) (omega (arith, low)))

module _ {Y : Type 0} (h : ℕ → List Y) where
  first-of : (xs ys : List Y) (y : Y) → slice_get xs 0 ≡ Some y → slice_get (xs ++ ys) 0 ≡ Some y
  first-of [] ys y is = absurd (cc)
  first-of (x ∷ xs) ys y is = is

  past-of : (xs ys : List Y) → slice_get xs 0 ≡ None → slice_get (xs ++ ys) 0 ≡ slice_get ys 0
  past-of [] ys is = refl
  past-of (x ∷ xs) ys is = absurd (cc)

  pub list-first : (a k j : ℕ) (y : Y) → k ≡ suc j → slice_get (h a) 0 ≡ Some y → Some y ≡ slice_get (flat_map h (range_with_len a k)) 0
  list-first a k j y e is = sym (ap (λ k. slice_get (flat_map h (range_with_len a k)) 0) e ∙ first-of (h a) (flat_map h (range_with_len (a + 1) j)) y is)

  pub list-past : (a k j : ℕ) → k ≡ suc j → slice_get (h a) 0 ≡ None → slice_get (flat_map h (range_with_len (a + 1) j)) 0 ≡ slice_get (flat_map h (range_with_len a k)) 0
  list-past a k j e is = sym (ap (λ k. slice_get (flat_map h (range_with_len a k)) 0) e ∙ past-of (h a) (flat_map h (range_with_len (a + 1) j)) is)

  pub no-lists : (a k : ℕ) → slice_get (flat_map h (range_with_len a k)) 0 ≡ None → (n : ℕ) → a ≤ n → n < a + k → slice_get (h n) 0 ≡ None
  no-lists a zero none n from low = absurd (omega (arith, from, low))
  no-lists a (suc k) none n from low = by (slice_get (h a) 0) refl (λ rest after. no-lists (a + 1) k rest n (omega (arith, after)) (omega (arith, low)))
    where
      by : (o : Option Y) → slice_get (h a) 0 ≡ o → (slice_get (flat_map h (range_with_len (a + 1) k)) 0 ≡ None → a < n → slice_get (h n) 0 ≡ None) → slice_get (h n) 0 ≡ None
      by (Some y) is next = absurd (let wrong : Some y ≡ None = list-first a (suc k) k y refl is ∙ none in cc)
      by None is next = elim (cases_lt a n) [
        | inl after ↦ next (list-past a (suc k) k refl is ∙ none) after
        | inr before ↦ let same : n ≡ a = omega (arith, before, from) in ap (λ k. slice_get (h k) 0) same ∙ is
      ]

  pub lists-none : (a k : ℕ) → ((n : ℕ) → a ≤ n → n < a + k → slice_get (h n) 0 ≡ None) → slice_get (flat_map h (range_with_len a k)) 0 ≡ None
  lists-none a zero none = refl
  lists-none a (suc k) none =
      sym (list-past a (suc k) k refl (none a (omega arith) (omega arith))) ∙ lists-none (a + 1) k (λ n from low. none n (omega (arith, from)) (omega (arith, low)))

-- what a statement at a place has late
module _ (m : BoundModel) (cube : ℕ) (ss : List Statement) (n : ℕ) (s : Statement) (low : n < length ss) (is : s ≡ get_or ss n s) where
  abbrev fault_by : Option ℕ → Option OrderFault
  fault_by late = option_map (NotEarlier cube (n + 1)) late

  pub here : late_in m cube ss n ≡ fault_by (first_late (marks_of m cube s))
  here = ap (λ o. option_map_or (λ s. fault_by (first_late (marks_of m cube s))) o None) (slice_get_read ss (length ss) n s refl low is)

  -- a statement that has nothing late has no fault
  pub no_fault : late_in m cube ss n ≡ None → first_late (marks_of m cube s) ≡ None
  no_fault none = by (first_late (marks_of m cube s)) (sym here ∙ none)
    where
      by : (late : Option ℕ) → fault_by late ≡ None → late ≡ None
      by None e = refl
      by (Some r) e = absurd (cc)

  pub late_there : (r : ℕ) → first_late (marks_of m cube s) ≡ Some r → late_in m cube ss n ≡ Some (NotEarlier cube (n + 1) r)
  late_there r late = here ∙ ap fault_by late

  pub none_there : first_late (marks_of m cube s) ≡ None → late_in m cube ss n ≡ None
  none_there late = here ∙ ap fault_by late
