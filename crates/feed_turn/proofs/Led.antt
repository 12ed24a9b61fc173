-- The slots of the leaves of a dimension, as the leaves of an area are put in.
use Rattle.std.proofs.Common.{◌≡◌, ap, ◌∙◌, sym, arith, refl, ℕ, ◌+◌, ◌<◌, ◌≤◌, Bool, true, false, Option, Some, None, ℤ, List, [], ◌∷◌, ◌++◌, length, get_or, take, drop, filter, replicate, if◌then◌else◌, cond, nat_le}
use Rattle.std.specs.Prelude.{is_some, slice_get}
use Rattle.std.specs.Option.{option_map_or}
use Rattle.std.proofs.lemmas.Bool.{le-leb, lt-leb}
use Rattle.std.proofs.lemmas.List.{append-nil, length-append, length-replicate, get_or-replicate, take-append-drop, take_more}
use Rattle.std.proofs.lemmas.List.Elements.{filter-append}
use Rattle.std.proofs.lemmas.List.FromFn.{fill_by_all}
use Rattle.dim_core.specs.Outline.{Outline}
use Rattle.dim_weights.specs.Table.{IsWeightsOf}
use Rattle.cover_laws.specs.Looking.{sent}
use Rattle.feed_turn.specs.Leaves.{counts}
use Rattle.feed_turn.specs.Inverse.{leads, leading_to, is_one_to_one, only_leading, inverse}
use Rattle.feed_turn.specs.Inside.Slots.{has_leaf, pairs_from, IsPut, IsTaken}
use Rattle.feed_turn.proofs.Ranges.{all-fails, all-passes}
use Rattle.feed_turn.proofs.Pairs.{has-counts}

-- the leaves of what an element is sent to are those that it leads to
pub has-leads : (d : Outline) (weights : List (List (ℕ × ℤ))) (to : List (Option ℕ)) (element x : ℕ) → IsWeightsOf d weights → ((target : ℕ) → sent to element ≡ Some target → target < length d.elements)
    → x < length d.elements → has_leaf (pairs_from weights (sent to element)) x ≡ leads d to x element
has-leads d weights to element x are inside low = by (sent to element) (λ target is. inside target is)
  where
    by : (o : Option ℕ) → ((target : ℕ) → o ≡ Some target → target < length d.elements) → has_leaf (pairs_from weights o) x ≡ option_map_or (λ target. counts d target x) o false
    by None inside = refl
    by (Some target) inside = ap (λ (pairs : List (ℕ × ℤ)). has_leaf pairs x) (are.each target (inside target refl)) ∙ has-counts d target x low

-- one element more of a list of which the slot has the first and only one
record IsFirst (xs : List ℕ) (slot : Option ℕ) : Type 0 where
  first : slot ≡ slice_get xs 0
  few : length xs ≤ 1

one-more : (xs : List ℕ) (element : ℕ) (old new : Option ℕ) (b : Bool) → IsFirst xs old → (b ≡ true → old ≡ None) → new ≡ (if b then Some element else old) → IsFirst (xs ++ cond b (element ∷ []) []) new
one-more [] element old new true is free made = record { first = made; few = omega arith }
one-more (x ∷ xs) element old new true is free made = absurd (let full : Some x ≡ None = sym is.first ∙ free refl in cc)
one-more xs element old new false is free made = record {
  first = made ∙ is.first ∙ ap (λ ys. slice_get ys 0) (sym (append-nil xs));
  few = omega (arith, is.few, ap length (append-nil xs));
}

-- the slots have the first of the leaves that lead there, of which there is at most one
pub record AreLed (d : Outline) (to : List (Option ℕ)) (leaves : List ℕ) (slots : List (Option ℕ)) : Type 0 where
  pub long : length slots ≡ length d.elements
  pub each : (x : ℕ) → x < length d.elements → get_or slots x None ≡ slice_get (leading_to d to leaves x) 0
  pub few : (x : ℕ) → x < length d.elements → length (leading_to d to leaves x) ≤ 1

pub led-none : (d : Outline) (to : List (Option ℕ)) (n : ℕ) → n ≡ length d.elements → AreLed d to [] (replicate n None)
led-none d to n is = record {
  long = length-replicate n None ∙ is;
  each = λ x low. get_or-replicate n x None None (omega (arith, low, is));
  few = λ x low. omega arith;
}

module _ (d : Outline) (to : List (Option ℕ)) (pairs : List (ℕ × ℤ)) (element : ℕ) (has : (x : ℕ) → x < length d.elements → has_leaf pairs x ≡ leads d to x element) where
  pub led-more : (leaves : List ℕ) (slots new : List (Option ℕ)) → AreLed d to leaves slots → IsPut pairs element slots new → AreLed d to (leaves ++ element ∷ []) new
  led-more leaves slots new led put = record {
    long = put.long ∙ led.long;
    each = λ x low. (step x low).first ∙ ap (λ ys. slice_get ys 0) (sym (filter-append (leads d to x) leaves (element ∷ [])));
    few = λ x low. omega (arith, (step x low).few, ap length (filter-append (leads d to x) leaves (element ∷ [])));
  }
    where
      step : (x : ℕ) → x < length d.elements → IsFirst (leading_to d to leaves x ++ cond (leads d to x element) (element ∷ []) []) (get_or new x None)
      step x low =
          let within : x < length slots = omega (arith, low, led.long) in
          one-more (leading_to d to leaves x) element (get_or slots x None) (get_or new x None) (leads d to x element) (record { first = led.each x low; few = led.few x low })
          (λ on. put.free x within (has x low ∙ on)) (put.each x within ∙ ap (λ b. if b then Some element else get_or slots x None) (has x low))

  some-first : (xs : List ℕ) → is_some (slice_get xs 0) ≡ true → 0 < length xs
  some-first [] on = absurd (cc)
  some-first (x ∷ xs) on = omega arith

  pub led-taken : (leaves rest : List ℕ) (slots : List (Option ℕ)) → AreLed d to leaves slots → IsTaken pairs slots → is_one_to_one d to (leaves ++ element ∷ [] ++ rest) ≡ false
  led-taken leaves rest slots led (x, low, there, full) =
      let inside : x < length d.elements = omega (arith, low, led.long) in
      let on : leads d to x element ≡ true = sym (has x inside) ∙ there in
      let before : 0 < length (leading_to d to leaves x) = some-first (leading_to d to leaves x) (ap is_some (sym (led.each x inside)) ∙ full) in
      let here : filter (leads d to x) (element ∷ []) ≡ element ∷ [] = ap (λ b. cond b (element ∷ []) []) on in
      let first = filter-append (leads d to x) (leaves ++ element ∷ []) rest in
      let second = filter-append (leads d to x) leaves (element ∷ []) in
      let many : 1 < length (leading_to d to (leaves ++ element ∷ [] ++ rest) x) =
      omega (arith, before, ap length first, ap length second, ap length here, length-append (filter (leads d to x) (leaves ++ element ∷ [])) (filter (leads d to x) rest), length-append (leading_to d to leaves x) (filter (leads d to x) (element ∷ []))) in
      all-fails (λ leaf. nat_le (length (leading_to d to (leaves ++ element ∷ [] ++ rest) leaf)) 1) (length d.elements) x inside (lt-leb (length (leading_to d to (leaves ++ element ∷ [] ++ rest) x)) 1 many)

pub led-done : (d : Outline) (to : List (Option ℕ)) (leaves : List ℕ) (slots : List (Option ℕ)) → AreLed d to leaves slots → Some slots ≡ inverse d to leaves
unfolding inverse
led-done d to leaves slots led =
    let n = length d.elements in
    let one : is_one_to_one d to leaves ≡ true = all-passes (λ leaf. nat_le (length (leading_to d to leaves leaf)) 1) n (λ x low. le-leb (length (leading_to d to leaves x)) 1 (led.few x low)) in
    let same : slots ≡ only_leading d to leaves = fill_by_all (λ leaf. slice_get (leading_to d to leaves leaf) 0) slots n None led.long led.each in
    ap Some same ∙ ap (λ b. if b then Some (only_leading d to leaves) else None) (sym one)

pub led-fails : (d : Outline) (to : List (Option ℕ)) (leaves : List ℕ) → is_one_to_one d to leaves ≡ false → None ≡ inverse d to leaves
unfolding inverse
led-fails d to leaves off = ap (λ b. if b then Some (only_leading d to leaves) else None) (sym off)

-- the leaves around one of them
pub around : (leaves : List ℕ) (k d : ℕ) → k < length leaves → take k leaves ++ get_or leaves k d ∷ [] ++ drop (k + 1) leaves ≡ leaves
around leaves k d low = ap (λ front. front ++ drop (k + 1) leaves) (sym (take_more leaves k d low)) ∙ take-append-drop (k + 1) leaves
