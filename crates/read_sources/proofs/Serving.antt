-- A dimension has a number of each kind just where it has an element that so names.
use Rattle.std.proofs.Common.{◌≡◌, refl, sym, ap, ◌∙◌, arith, ℕ, zero, suc, ◌<◌, ◌⊎◌, inl, inr, Bool, true, false, not, ◌&&◌, ◌||◌, ◌==◌, ℤ, pos, ◌-ℤ◌, Option, Some, None, option_map, is_some, if◌then◌else◌, List, [], ◌∷◌, length}
use Rattle.std.specs.Prelude.{slice_index_or, IsTrue, ◌↔◌}
use Rattle.std.specs.List.{list_any, list_all}
use Rattle.std.proofs.lemmas.Bool.{and_parts, and_from, cases_lt}
use Rattle.std.proofs.lemmas.Bool.Decides.{Decides-eqb}
use Rattle.std.proofs.lemmas.List.{get_or_default}
use Rattle.std.proofs.lemmas.List.Folds.{Any-from_list_any, list_any-from_Any}
use Rattle.dim_weights.specs.Table.{is_nonzero}
use Rattle.cube_space.specs.Layout.{axes, sizes}
use Rattle.rule_laws.specs.declared.reference.Arg.{Arg}
use Rattle.rule_laws.specs.declared.reference.Arg.TheVariants.{Fixed, Moved}
use Rattle.rule_laws.specs.Meaning.{Precedent, Named, Components}
use Rattle.rule_model.specs.BoundModel.{BoundModel}
use Rattle.rule_model.specs.Conditions.{IsArea}
use Rattle.order_laws.specs.Greatest.{plus, larger, greatest, only}
use Rattle.order_laws.specs.Scales.{scale_of, moved_sum, parts_in, set_count, set_element, is_leaf_element}
use Rattle.order_laws.specs.Earlier.{Kinds, is_same, moved_leaves, component_number, components_number, number_by_kinds, greatest_of_kinds}
use Rattle.order_laws.proofs.SetFacts.{place-of, place-in, set-at}
use Rattle.ref_order.specs.declared.kinds.ByKinds.{ByKinds}
use Rattle.ref_order.specs.Kinds.{AreByKinds, number_of}
use Rattle.cover_laws.specs.Looking.{sent}
use Rattle.arrow_laws.specs.ByDimension.{names_from}
use Rattle.read_sources.specs.declared.source.Source.{Source}
use Rattle.read_sources.specs.Ways.{precedent}
use Rattle.read_sources.specs.Giving.{may_name, HasOfKinds, AreKindsIn}

-- ---- numbers that are there

some-plus : (a : Option ℤ) (z : ℤ) → is_some (plus a (Some z)) ≡ is_some a
some-plus None z = refl
some-plus (Some a) z = refl

plus-some : (z : ℤ) (b : Option ℤ) → is_some (plus (Some z) b) ≡ is_some b
plus-some z None = refl
plus-some z (Some b) = refl

larger-either : (a b : Option ℤ) → is_some (larger a b) ≡ true → (is_some a ≡ true) ⊎ (is_some b ≡ true)
larger-either None b h = inr h
larger-either (Some a) b h = inl refl

larger-first : (a b : Option ℤ) → is_some a ≡ true → is_some (larger a b) ≡ true
larger-first None b h = absurd (cc)
larger-first (Some a) None h = refl
larger-first (Some a) (Some b) h = refl

larger-second : (a b : Option ℤ) → is_some b ≡ true → is_some (larger a b) ≡ true
larger-second None b h = h
larger-second (Some a) None h = refl
larger-second (Some a) (Some b) h = refl

greatest-some : (number : ℕ → Option ℤ) (n k : ℕ) → k < n → is_some (number k) ≡ true → is_some (greatest number n) ≡ true
greatest-some number zero k low h = absurd (omega (arith, low))
greatest-some number (suc n) k low h = elim (cases_lt k n) [
  | inl less ↦ larger-second (number n) (greatest number n) (greatest-some number n k less h)
  | inr more ↦ let same : k ≡ n = omega (arith, low, more) in larger-first (number n) (greatest number n) (ap (λ j. is_some (number j)) (sym same) ∙ h)
]

some-greatest : (number : ℕ → Option ℤ) (n : ℕ) → is_some (greatest number n) ≡ true → (k : ℕ) × (k < n) × (is_some (number k) ≡ true)
some-greatest number zero h = absurd (cc)
some-greatest number (suc n) h = elim (larger-either (number n) (greatest number n) h) [
  | inl here ↦ (n, omega arith, here)
  | inr later ↦ let (k, low, there) = some-greatest number n later in (k, omega (arith, low), there)
]

only-parts : (t : Bool) (a : Option ℤ) → is_some (only t a) ≡ true → (t ≡ true) × (is_some a ≡ true)
only-parts true a h = (refl, h)
only-parts false a h = absurd (cc)

only-from : (t : Bool) (a : Option ℤ) → t ≡ true → is_some a ≡ true → is_some (only t a) ≡ true
only-from true a on h = h
only-from false a on h = absurd (cc)

moved-some : (worth : ℕ → ℕ → ℕ) (j : ℕ) (args : List Arg) (i e : ℕ) → is_some (moved_sum worth j args i e) ≡ list_all (names_from i e) args
moved-some worth j [] i e = refl
moved-some worth j (Fixed t ∷ args) i e = moved-some worth (suc j) args i e
moved-some worth j (Moved from to ∷ args) i e = by (i == from) (sent to e) (moved-some worth (suc j) args i e)
  where
    rest : Option ℤ
    rest = moved_sum worth (suc j) args i e

    by : (t : Bool) (o : Option ℕ) → is_some rest ≡ list_all (names_from i e) args → is_some (if t then plus (option_map (λ target. pos (worth j target)) o) rest else rest)
        ≡ (not t || is_some o) && list_all (names_from i e) args
    by true None later = refl
    by true (Some target) later = plus-some (pos (worth j target)) rest ∙ later
    by false o later = later

-- ---- an element has a number just where it may so name

-- components that are wanted have a number
abbrev parts_number : (ℕ × ℤ → Option ℤ) → List (ℕ × ℤ) → Option ℤ
parts_number number parts = greatest (λ k. number (slice_index_or parts k (0, pos 0))) (length parts)

some-part : (number : ℕ × ℤ → Option ℤ) (test : ℕ × ℤ → Bool) (parts : List (ℕ × ℤ)) → ((part : ℕ × ℤ) → is_some (number part) ≡ true → test part ≡ true)
    → is_some (parts_number number parts) ≡ true → list_any test parts ≡ true
some-part number test parts counted h =
    let (k, low, there) = some-greatest (λ k. number (slice_index_or parts k (0, pos 0))) (length parts) h in
    let part : ℕ × ℤ = slice_index_or parts k (0, pos 0) in
    list_any-from_Any test parts (k, part, low, get_or_default parts k part (0, pos 0) low, counted part there)

part-some : (number : ℕ × ℤ → Option ℤ) (test : ℕ × ℤ → Bool) (parts : List (ℕ × ℤ)) → ((part : ℕ × ℤ) → test part ≡ true → is_some (number part) ≡ true)
    → list_any test parts ≡ true → is_some (parts_number number parts) ≡ true
part-some number test parts counts h =
    let (k, part, low, is, passes) = Any-from_list_any test parts h in
    let same : slice_index_or parts k (0, pos 0) ≡ part = get_or_default parts k (0, pos 0) part low ∙ is in
    greatest-some (λ k. number (slice_index_or parts k (0, pos 0))) (length parts) k low (ap (λ (part : ℕ × ℤ). is_some (number part)) same ∙ counts part passes)

module _ (m : BoundModel) (cube : ℕ) (kinds : Kinds) (place : ℕ) where
  abbrev alike : ℕ → Bool → ℕ → Bool
  alike i leaf element = is_same leaf (is_leaf_element (axes m.space cube) i element)

  component-may : (dim e : ℕ) (leaf : Bool) (part : ℕ × ℤ) → is_some (component_number m cube kinds place dim e leaf part) ≡ true → alike dim leaf part.0 && is_nonzero part.1 ≡ true
  component-may dim e leaf part h =
      let (nonzero, same) = and_parts (is_nonzero part.1) (alike dim leaf part.0) (only-parts (is_nonzero part.1 && alike dim leaf part.0) _ h).0 in
      and_from (alike dim leaf part.0) (is_nonzero part.1) same nonzero

  may-component : (dim e : ℕ) (leaf : Bool) (part : ℕ × ℤ) → alike dim leaf part.0 && is_nonzero part.1 ≡ true → is_some (component_number m cube kinds place dim e leaf part) ≡ true
  may-component dim e leaf part h =
      let (same, nonzero) = and_parts (alike dim leaf part.0) (is_nonzero part.1) h in
      only-from (is_nonzero part.1 && alike dim leaf part.0) _ (and_from (is_nonzero part.1) (alike dim leaf part.0) nonzero same) refl

  abbrev parts : ℕ → ℕ → List (ℕ × ℤ)
  parts i e = parts_in (axes m.space cube) i e

  abbrev has_alike : ℕ → Bool → ℕ → Bool
  has_alike i leaf e = list_any (λ (part : ℕ × ℤ). alike i leaf part.0 && is_nonzero part.1) (parts i e)

  pub number-may : (p : Precedent) (i e : ℕ) (leaf : Bool) → is_some (number_by_kinds m cube kinds place p i e leaf) ≡ true → may_name m.space cube p leaf i e ≡ true
  number-may (Named r) i e leaf h =
      let worth : ℕ → ℕ → ℕ = (scale_of m r.cube kinds.its place).worth in
      let (same, some) = only-parts (is_same leaf (moved_leaves (axes m.space r.cube) 0 r.args i e)) _ h in
      and_from (list_all (names_from i e) r.args) _ (sym (moved-some worth 0 r.args i e) ∙ sym (some-plus (moved_sum worth 0 r.args i e) _) ∙ some) same
  number-may (Components dim) i e leaf h = by (i == dim) refl h
    where
      by : (t : Bool) → (i == dim) ≡ t
          → is_some (if t then components_number m cube kinds place dim e leaf (parts dim e) else only (alike i leaf e) (Some (pos ((scale_of m cube kinds.its place).worth i e) -ℤ pos ((scale_of m cube kinds.own place).worth i e)))) ≡ true
          → (if t then has_alike i leaf e else alike i leaf e) ≡ true
      by true is h =
          let same : i ≡ dim = (Decides-eqb i dim).0 is in
          ap (λ d. has_alike d leaf e) same ∙ some-part (component_number m cube kinds place dim e leaf) (λ (part : ℕ × ℤ). alike dim leaf part.0 && is_nonzero part.1) (parts dim e) (component-may dim e leaf) h
      by false is h = (only-parts (alike i leaf e) _ h).0

  pub may-number : (p : Precedent) (i e : ℕ) (leaf : Bool) → may_name m.space cube p leaf i e ≡ true → is_some (number_by_kinds m cube kinds place p i e leaf) ≡ true
  may-number (Named r) i e leaf h =
      let worth : ℕ → ℕ → ℕ = (scale_of m r.cube kinds.its place).worth in
      let (names, same) = and_parts (list_all (names_from i e) r.args) (is_same leaf (moved_leaves (axes m.space r.cube) 0 r.args i e)) h in
      only-from (is_same leaf (moved_leaves (axes m.space r.cube) 0 r.args i e)) _ same (some-plus (moved_sum worth 0 r.args i e) _ ∙ moved-some worth 0 r.args i e ∙ names)
  may-number (Components dim) i e leaf h = by (i == dim) refl h
    where
      by : (t : Bool) → (i == dim) ≡ t → (if t then has_alike i leaf e else alike i leaf e) ≡ true
          → is_some (if t then components_number m cube kinds place dim e leaf (parts dim e) else only (alike i leaf e) (Some (pos ((scale_of m cube kinds.its place).worth i e) -ℤ pos ((scale_of m cube kinds.own place).worth i e)))) ≡ true
      by true is h =
          let same : dim ≡ i = sym ((Decides-eqb i dim).0 is) in
          part-some (component_number m cube kinds place dim e leaf) (λ (part : ℕ × ℤ). alike dim leaf part.0 && is_nonzero part.1) (parts dim e) (may-component dim e leaf) (ap (λ d. has_alike d leaf e) same ∙ h)
      by false is h = only-from (alike i leaf e) _ h refl

-- ---- the kinds of the elements of an area

module _ (m : BoundModel) (s : Source) (is_area : IsArea m.space s.cube s.area.now) (i : ℕ) where
  abbrev size : ℕ
  size = slice_index_or (sizes m.space s.cube) i 0

  abbrev set : Option (List ℕ)
  set = slice_index_or s.area.now.sets i None

  abbrev most : Kinds → ℕ → Kinds → Option ℤ
  most kinds place here = greatest_of_kinds m s.cube s.area.now kinds place (precedent s) i here

  most-has : (kinds : Kinds) (place : ℕ) (here : Kinds) → is_some (most kinds place here) ≡ true → HasOfKinds m s i here
  most-has kinds place here h =
      let test : ℕ → Bool = λ e. is_same here.own (is_leaf_element (axes m.space s.cube) i e) in
      let number : ℕ → Option ℤ = λ e. number_by_kinds m s.cube kinds place (precedent s) i e here.its in
      let (k, low, there) = some-greatest (λ k. only (test (set_element set k)) (number (set_element set k))) (set_count size set) h in
      let e = set_element set k in
      let (passes, some) = only-parts (test e) (number e) there in
      (e, place-in size set k (set-at (sizes m.space s.cube) s.area.now.sets i is_area) low, passes, number-may m s.cube kinds place (precedent s) i e here.its some)

  has-most : (kinds : Kinds) (place : ℕ) (here : Kinds) → HasOfKinds m s i here → is_some (most kinds place here) ≡ true
  has-most kinds place here (e, inside, passes, may) =
      let test : ℕ → Bool = λ e. is_same here.own (is_leaf_element (axes m.space s.cube) i e) in
      let number : ℕ → Option ℤ = λ e. number_by_kinds m s.cube kinds place (precedent s) i e here.its in
      let (k, low, is) = place-of size set e inside in
      greatest-some (λ k. only (test (set_element set k)) (number (set_element set k))) (set_count size set) k low
      (ap (λ x. is_some (only (test x) (number x))) is ∙ only-from (test e) (number e) passes (may-number m s.cube kinds place (precedent s) i e here.its may))

  pub kinds-are : (numbers : ByKinds) (kinds : Kinds) (place : ℕ) → AreByKinds numbers (most kinds place) → AreKindsIn m s i numbers
  kinds-are numbers kinds place are here = by here.own here.its
    where
      number-is : (own its : Bool) → number_of numbers (record { own = own; its = its }) ≡ most kinds place (record { own = own; its = its })
      number-is true true = are.leaf.leaf
      number-is true false = are.leaf.total
      number-is false true = are.total.leaf
      number-is false false = are.total.total

      by : (own its : Bool) → IsTrue (is_some (number_of numbers (record { own = own; its = its }))) ↔ HasOfKinds m s i (record { own = own; its = its })
      by own its = (
        λ h. most-has kinds place (record { own = own; its = its }) (ap is_some (sym (number-is own its)) ∙ h),
        λ has. ap is_some (number-is own its) ∙ has-most kinds place (record { own = own; its = its }) has,
      )
