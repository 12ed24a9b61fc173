-- A draft whose components are defined before what they are components of has no loop.
use Rattle.std.proofs.Common.{◌≡◌, ℕ, zero, suc, ◌+◌, ◌<◌, ◌≤◌, ℤ, List, [], ◌∷◌, length, map, take, get_or, refl, ap, sym, ◌∙◌, arith, Bool, true, false, ◌||◌, not, cond, eqb, nat_lt, Some, None, position}
use Rattle.std.specs.List.{list_any, list_all, range_with_len, position_or_len}
use Rattle.std.proofs.lemmas.Bool.{eq-eqb}
use Rattle.std.proofs.lemmas.Bool.Decides.{nat_tests}
use Rattle.std.proofs.lemmas.List.{get_or-map, get_or-take, length-map, length-take}
use Rattle.std.proofs.lemmas.List.Folds.{list_any_at}
use Rattle.std.proofs.lemmas.List.FromFn.{length-range_with_len, get_or-range_with_len}
use Rattle.std.proofs.lemmas.Map.Keys.{IsDistinct-from_apart}
use Rattle.dim_order.specs.Members.{is_among}
use Rattle.dim_order.specs.Loops.{IsOrder}
use Rattle.dim_order.proofs.LoopLemmas.{first_on_loop-ordered}
use Rattle.dim_order.proofs.Tests.{both, place_among}
use Rattle.dim_name.specs.Name.{has_name, is_same_name}
use Rattle.dim_core.specs.Draft.{Draft, are_known, by_index, first_bad_attribute, first_loop, HasEarlierComponents}
use Rattle.dim_core.specs.Refusal.{finish_refusal_of, first_cause}
use Rattle.dim_core.specs.Outline.{names_of, component_lists}
use Rattle.dim_core.proofs.CallerLemmas.{first_unknown-earlier, length-component_lists}

-- what passes among the first i is found there
found_in_front : {X : Type 0} (p : X → Bool) (xs : List X) (i : ℕ) → list_any p (take i xs) ≡ true → (position_or_len p xs < i) × (position_or_len p xs < length xs)
found_in_front p [] zero h = absurd (cc)
found_in_front p [] (suc i) h = absurd (cc)
found_in_front p (x ∷ xs) zero h = absurd (cc)
found_in_front p (x ∷ xs) (suc i) h = by (p x) refl h (found_in_front p xs i)
  where
    by : (b : Bool) → p x ≡ b → (b || list_any p (take i xs)) ≡ true → (list_any p (take i xs) ≡ true → (position_or_len p xs < i) × (position_or_len p xs < length xs))
        → (cond (not b) (1 + position_or_len p xs) 0 < suc i) × (cond (not b) (1 + position_or_len p xs) 0 < suc (length xs))
    by true e h rest = (omega arith, omega arith)
    by false e h rest = let r = rest h in (omega (arith, r.0), omega (arith, r.1))

position_in_front : {X : Type 0} (p : X → Bool) (xs : List X) (i : ℕ) → list_any p (take i xs) ≡ true → (position p xs ≡ Some (position_or_len p xs)) × (position_or_len p xs < i)
position_in_front p xs i h =
    let at = found_in_front p xs i h in
    (by (position_or_len p xs) (length xs) at.1, at.0)
  where
    by : (n m : ℕ) → n < m → cond (nat_lt n m) (Some n) None ≡ Some n
    by n m within = test (nat_lt n m) refl
      where
        test : (b : Bool) → nat_lt n m ≡ b → cond b (Some n) None ≡ Some n
        test true t = refl
        test false t = absurd (grind (arith, nat_tests))

-- the numbers below n, in order
among_range : (n i k : ℕ) → k < i → i ≤ n → is_among (take i (range_with_len 0 n)) k ≡ true
among_range n i k before within =
    let long : k < length (take i (range_with_len 0 n)) = omega (arith, length-take i (range_with_len 0 n), length-range_with_len 0 n) in
    let at : get_or (take i (range_with_len 0 n)) k 0 ≡ k = get_or-take i (range_with_len 0 n) k 0 before ∙ get_or-range_with_len 0 n k 0 (omega arith) ∙ omega arith in
    list_any_at (eqb k) (take i (range_with_len 0 n)) k 0 long (eq-eqb _ _ (sym at))

known_earlier : (names : List (List ℕ)) (n i : ℕ) → i ≤ n → (written : List (List ℕ × ℤ)) → are_known (take i names) written ≡ true → list_all (λ part. is_among (take i (range_with_len 0 n)) part.0) (by_index names written) ≡ true
known_earlier names n i within [] h = refl
known_earlier names n i within (part ∷ parts) h =
    let tests = both (has_name (take i names) part.0) (are_known (take i names) parts) h in
    let at = position_in_front (is_same_name part.0) names i tests.0 in
    let here = among_range n i (position_or_len (is_same_name part.0) names) at.1 within in
    let rest = known_earlier names n i within parts tests.1 in
    rw (at.0, here) rest

differ : (m n : ℕ) → m < n → eqb m n ≡ false
differ m n h = grind (arith, nat_tests)

pub in_order : (names : List (List ℕ)) (lists : List (List (List ℕ × ℤ))) → ((e : ℕ) → e < length lists → are_known (take e names) (get_or lists e []) ≡ true)
    → IsOrder (map (by_index names) lists) (range_with_len 0 (length lists))
in_order names lists earlier = record {
  whole = length-range_with_len 0 (length lists) ∙ sym (length-map lists (by_index names));
  distinct = IsDistinct-from_apart eqb (range_with_len 0 (length lists)) apart;
  within = λ e h.
      let at = place_among (range_with_len 0 (length lists)) e h in
      let inside : at.0 < length lists = omega (arith, at.1, length-range_with_len 0 (length lists)) in
      let here : at.0 ≡ e = omega (arith, get_or-range_with_len 0 (length lists) at.0 0 inside, at.2) in
      omega (arith, length-map lists (by_index names));
  each = λ e there.
      let inside : e < length lists = omega (arith, length-map lists (by_index names)) in
      let long : e < length (range_with_len 0 (length lists)) = omega (arith, length-range_with_len 0 (length lists)) in
      list_any_at (eqb e) (range_with_len 0 (length lists)) e 0 long (eq-eqb _ _ (omega (arith, get_or-range_with_len 0 (length lists) e 0 inside)));
  earlier = λ i before.
      let inside : i < length lists = omega (arith, length-range_with_len 0 (length lists)) in
      let here : get_or (range_with_len 0 (length lists)) i 0 ≡ i = omega (arith, get_or-range_with_len 0 (length lists) i 0 inside) in
      let parts = get_or-map (by_index names) lists i [] [] inside in
      rw (here, parts) (known_earlier names (length lists) i (omega arith) (get_or lists i []) (earlier i inside));
}
  where
    apart : (i j d : ℕ) → i < j → j < length (range_with_len 0 (length lists)) → eqb (get_or (range_with_len 0 (length lists)) i d) (get_or (range_with_len 0 (length lists)) j d) ≡ false
    apart i j d before inside =
        let there : j < length lists = omega (arith, length-range_with_len 0 (length lists)) in
        let first = get_or-range_with_len 0 (length lists) i d (omega arith) in
        let second = get_or-range_with_len 0 (length lists) j d there in
        differ _ _ (omega arith)

-- nothing refuses such a draft
pub first_loop-earlier : (draft : Draft) → HasEarlierComponents draft → first_loop draft ≡ None
first_loop-earlier draft earlier =
    let lists = component_lists draft.elements in
    let names = names_of draft.elements in
    first_on_loop-ordered (map (by_index names) lists) (range_with_len 0 (length lists)) (in_order names lists (λ e there. earlier e (omega (arith, length-component_lists draft.elements))))

pub finish_refusal-earlier : (draft : Draft) → HasEarlierComponents draft → first_bad_attribute draft ≡ None → finish_refusal_of draft ≡ None
finish_refusal-earlier draft earlier good =
    ap (λ u. first_cause u (first_bad_attribute draft) (first_loop draft)) (first_unknown-earlier draft earlier)
    ∙ ap (λ b. first_cause None b (first_loop draft)) good ∙ ap (first_cause None None) (first_loop-earlier draft earlier)
