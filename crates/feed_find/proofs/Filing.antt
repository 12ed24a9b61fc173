-- Feeders are found by their slots.
use Rattle.std.proofs.Common.{◌≡◌, ◌≢◌, ◌⊎◌, inl, inr, refl, ap, ◌∙◌, sym, subst, arith, ℕ, zero, suc, ◌+◌, ◌<◌, Bool, true, false, ◌||◌, Option, Some, None, List, [], ◌∷◌, ◌++◌, length, map, get_or, set, slice_get, fold, Contains, All, Vec, length-append}
use Rattle.std.specs.List.{list_any}
use Rattle.std.specs.Option.{option_map_or, option_eq}
use Rattle.std.specs.Cmp.Lexicographic.{pointwise}
use Rattle.std.specs.Prelude.{nat_eq}
use Rattle.std.specs.declared.alloc.Global.{Global}
use Rattle.std.proofs.lemmas.Bool.{cases_eq}
use Rattle.std.proofs.lemmas.List.{length-set, length-map, map-set, get_or-set_same, get_or-set_other, get_or_append_left}
use Rattle.std.proofs.lemmas.List.Elements.{Contains-append_left, Contains-push}
use Rattle.std.proofs.lemmas.List.Folds.{list_any_none, list_any_at}
use Rattle.std.proofs.lemmas.Option.{slice_get-get_or}
use Rattle.std.proofs.Math.Seq.{get_or-append_seam}
use Rattle.feed_find.specs.declared.chosen.FoundFeeder.{FoundFeeder}
use Rattle.feed_find.specs.Found.{same_reference, same_area, same_found}
use Rattle.feed_find.specs.Filed.{slot_count, mark_with, slot_of, places_of, AreFiled}
use Rattle.feed_find.proofs.Sameness.{areas-same}

-- ---- a slot with more places

in-set : (slots : List (List ℕ)) (s t : ℕ) (places : List ℕ) (place : ℕ) → s < length slots
    → ((k : ℕ) → Contains (get_or slots s []) k → Contains places k) → Contains (get_or slots t []) place → Contains (get_or (set slots s places) t []) place
in-set slots s t places place low keeps there = by (cases_eq t s)
  where
    by : (t ≡ s) ⊎ (t ≢ s) → Contains (get_or (set slots s places) t []) place
    by (inl same) =
        subst (λ u. Contains (get_or (set slots s places) u []) place) (sym same)
        (subst (λ (ps : List ℕ). Contains ps place) (sym (get_or-set_same slots s places [] low))
        (keeps place (subst (λ u. Contains (get_or slots u []) place) same there)))
    by (inr other) = subst (λ (ps : List ℕ). Contains ps place) (sym (get_or-set_other slots s t places [] other)) there

pub filed-set : (feeders : List FoundFeeder) (slots : List (List ℕ)) (s : ℕ) (places : List ℕ) → AreFiled feeders slots → s < length slots
    → ((k : ℕ) → Contains (get_or slots s []) k → Contains places k) → AreFiled feeders (set slots s places)
filed-set feeders slots s places are low keeps = record {
  long = length-set slots s places ∙ are.long;
  filed = λ place one less. in-set slots s (slot_of (get_or feeders place one)) places place low keeps (are.filed place one less);
}

-- the places of slots of which one has others
pub places-set : (slots : List (Vec ℕ Global)) (s : ℕ) (places : Vec ℕ Global) → places_of (set slots s places) ≡ set (places_of slots) s places.items
places-set slots s places = map-set (λ (v : Vec ℕ Global). v.items) slots s places

pub places-at : (slots : List (Vec ℕ Global)) (s : ℕ) (places : Vec ℕ Global) → s < length slots → get_or slots s places ≡ places → get_or (places_of slots) s [] ≡ places.items
places-at [] s places low is = absurd (omega (arith, low))
places-at (v ∷ slots) zero places low is = ap (λ (w : Vec ℕ Global). w.items) is
places-at (v ∷ slots) (suc s) places low is = places-at slots s places (omega (arith, low)) is

-- ---- a feeder more

pub filed-push : (feeders : List FoundFeeder) (slots : List (List ℕ)) (one : FoundFeeder) → AreFiled feeders slots
    → Contains (get_or slots (slot_of one) []) (length feeders) → AreFiled (feeders ++ one ∷ []) slots
filed-push feeders slots one are own = record { long = are.long; filed = λ place other less. by place other less (cases_eq place (length feeders)) }
  where
    In : ℕ → FoundFeeder → Type 0
    In place x = Contains (get_or slots (slot_of x) []) place

    by : (place : ℕ) (other : FoundFeeder) → place < length (feeders ++ one ∷ []) → (place ≡ length feeders) ⊎ (place ≢ length feeders) → In place (get_or (feeders ++ one ∷ []) place other)
    by place other less (inl last) =
        subst (λ k. In k (get_or (feeders ++ one ∷ []) k other)) (sym last)
        (subst (In (length feeders)) (sym (get_or-append_seam feeders one [] other)) own)
    by place other less (inr before) =
        let low : place < length feeders = omega (arith, less, before, length-append feeders (one ∷ [])) in
        subst (In place) (sym (get_or_append_left feeders (one ∷ []) other place low)) (are.filed place other low)

pub filed-none : (slots : List (List ℕ)) → length slots ≡ slot_count → AreFiled [] slots
filed-none slots long = record { long = long; filed = λ place one less. absurd (omega (arith, less)) }

-- ---- which feeders are the same

pub found-there : {X : Type 0} (p : X → Bool) (xs : List X) (k : ℕ) → option_map_or p (slice_get xs k) false ≡ true → list_any p xs ≡ true
found-there p [] k is = absurd (cc is)
found-there p (x ∷ xs) zero is = list_any_at p (x ∷ xs) 0 x (omega arith) is
found-there p (x ∷ xs) (suc k) is = by (p x) refl (found-there p xs k is)
  where
    by : (b : Bool) → p x ≡ b → list_any p xs ≡ true → list_any p (x ∷ xs) ≡ true
    by true here rest = list_any_at p (x ∷ xs) 0 x (omega arith) here
    by false here rest = ap (λ c. c || list_any p xs) here ∙ rest

same-slot : (one other : FoundFeeder) → same_found one other ≡ true → slot_of one ≡ slot_of other
same-slot one other is = ap (fold mark_with 0) (areas-same one other is)

-- none of all feeders is the same, where none of a slot is
pub none-there : (one : FoundFeeder) (feeders : List FoundFeeder) (slots : List (List ℕ)) → AreFiled feeders slots
    → list_any (λ place. option_map_or (same_found one) (slice_get feeders place) false) (get_or slots (slot_of one) []) ≡ false
    → list_any (same_found one) feeders ≡ false
none-there one feeders slots are none = list_any_none (same_found one) feeders (λ place d less. by place d less (same_found one (get_or feeders place d)) refl)
  where
    At : ℕ → Bool
    At place = option_map_or (same_found one) (slice_get feeders place) false

    by : (place : ℕ) (d : FoundFeeder) → place < length feeders → (b : Bool) → same_found one (get_or feeders place d) ≡ b → same_found one (get_or feeders place d) ≡ false
    by place d less false is = is
    by place d less true is =
        let there : Contains (get_or slots (slot_of one) []) place = subst (λ s. Contains (get_or slots s []) place) (sym (same-slot one (get_or feeders place d) is)) (are.filed place d less) in
        let at : At place ≡ true = ap (λ (o : Option FoundFeeder). option_map_or (same_found one) o false) (slice_get-get_or feeders place d less) ∙ is in
        let clash : true ≡ false = sym (list_any_at At (get_or slots (slot_of one) []) there.0 place there.1 (ap At there.2 ∙ at)) ∙ none in
        absurd (cc clash)

-- ---- what becomes of the slots where a place is added to one, or isn't

module _ (feeders : List FoundFeeder) (slots : List (Vec ℕ Global)) (s : ℕ) (had has : Vec ℕ Global) (are : AreFiled feeders (places_of slots)) (low : s < slot_count) (at : get_or slots s had ≡ had) where
  within : s < length slots
  within = omega (arith, low, are.long, length-map slots (λ (v : Vec ℕ Global). v.items))

  pub filed-with : ((place : ℕ) → Contains had.items place → Contains has.items place) → AreFiled feeders (places_of (set slots s has))
  filed-with keeps =
      subst (AreFiled feeders) (sym (places-set slots s has))
      (filed-set feeders (places_of slots) s has.items are (omega (arith, low, are.long))
      (λ place there. keeps place (subst (λ (ps : List ℕ). Contains ps place) (places-at slots s had within at) there)))

  pub filed-more : (one : FoundFeeder) → s ≡ slot_of one → has.items ≡ had.items ++ length feeders ∷ [] → AreFiled (feeders ++ one ∷ []) (places_of (set slots s has))
  filed-more one own grown =
      filed-push feeders (places_of (set slots s has)) one
      (filed-with (λ place there. subst (λ (ps : List ℕ). Contains ps place) (sym grown) (Contains-append_left had.items (length feeders ∷ []) place there)))
      (subst (λ (ps : List ℕ). Contains ps (length feeders))
      (sym (ap (λ t. get_or (places_of (set slots s has)) t []) (sym own) ∙ ap (λ (ss : List (List ℕ)). get_or ss s []) (places-set slots s has) ∙ get_or-set_same (places_of slots) s has.items [] (omega (arith, low, are.long)) ∙ grown))
      (Contains-push had.items (length feeders)))
