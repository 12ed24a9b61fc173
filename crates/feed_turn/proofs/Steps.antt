-- The arguments of a turned reference, one after another.
use Rattle.std.proofs.Common.{◌≡◌, ap, ◌∙◌, sym, arith, refl, ℕ, zero, suc, ◌+◌, ◌<◌, ◌≤◌, true, false, Option, Some, None, option_map, List, [], ◌∷◌, ◌++◌, length, map, drop}
use Rattle.std.specs.Prelude.{slice_get, is_some}
use Rattle.std.specs.List.{range_with_len}
use Rattle.std.specs.Option.{option_or}
use Rattle.std.proofs.lemmas.List.{drop_more, drop_all, append_assoc, append-nil}
use Rattle.std.proofs.lemmas.List.FromFn.{map-range_with_len_more, get_or-map-range_with_len, length-map-range_with_len}
use Rattle.std.proofs.lemmas.Option.{get_or_from_slice_get, slice_get_within}
use Rattle.rule_laws.specs.declared.reference.Arg.{Arg}
use Rattle.feed_turn.specs.Turning.{Turn, source_set, source_sets, way_back, first_way, all_found}

-- ---- the sources

pub sources-next : (turn : Turn) (args : List Arg) (place : ℕ) (arg : Arg) → slice_get args place ≡ Some arg → source_sets turn place (drop place args) ≡ source_set turn place arg ∷ source_sets turn (place + 1) (drop (place + 1) args)
sources-next turn args place arg at =
    let low = slice_get_within args place arg at in
    let next : suc place ≡ place + 1 = omega arith in
    ap (source_sets turn place) (drop_more args place arg low ∙ ap (λ (a : Arg). a ∷ drop (place + 1) args) (get_or_from_slice_get args place arg arg at))
    ∙ ap (λ n. source_set turn place arg ∷ source_sets turn n (drop (place + 1) args)) next

pub sources-more : (turn : Turn) (args : List Arg) (place : ℕ) (arg : Arg) (sets : List (Option (List ℕ))) (set : Option (List ℕ)) → slice_get args place ≡ Some arg → set ≡ source_set turn place arg
    → source_sets turn 0 args ≡ sets ++ source_sets turn place (drop place args) → source_sets turn 0 args ≡ (sets ++ set ∷ []) ++ source_sets turn (place + 1) (drop (place + 1) args)
sources-more turn args place arg sets set at is so =
    let rest = source_sets turn (place + 1) (drop (place + 1) args) in
    so ∙ ap (λ ss. sets ++ ss) (sources-next turn args place arg at ∙ ap (λ s. s ∷ rest) (sym is)) ∙ sym (append_assoc sets (set ∷ []) rest)

pub sources-done : (turn : Turn) (args : List Arg) (place : ℕ) (sets : List (Option (List ℕ))) → length args ≤ place → source_sets turn 0 args ≡ sets ++ source_sets turn place (drop place args) → sets ≡ source_sets turn 0 args
sources-done turn args place sets past so = sym (so ∙ ap (λ list. sets ++ source_sets turn place list) (drop_all place args past) ∙ append-nil sets)

-- ---- the first way back

pub way-next : (turn : Turn) (dim : ℕ) (args : List Arg) (place : ℕ) (arg : Arg) → slice_get args place ≡ Some arg → first_way turn dim place (drop place args) ≡ option_or (way_back turn dim place arg) (first_way turn dim (place + 1) (drop (place + 1) args))
way-next turn dim args place arg at =
    let low = slice_get_within args place arg at in
    let next : suc place ≡ place + 1 = omega arith in
    ap (first_way turn dim place) (drop_more args place arg low ∙ ap (λ (a : Arg). a ∷ drop (place + 1) args) (get_or_from_slice_get args place arg arg at))
    ∙ ap (λ n. option_or (way_back turn dim place arg) (first_way turn dim n (drop (place + 1) args))) next

found-or : (o p : Option Arg) → is_some o ≡ true → o ≡ option_or o p
found-or None p on = absurd (cc)
found-or (Some x) p on = refl

none-or : (o p : Option Arg) → is_some o ≡ false → option_or o p ≡ p
none-or None p off = refl
none-or (Some x) p off = absurd (cc)

pub way-found : (turn : Turn) (dim : ℕ) (args : List Arg) (place : ℕ) (arg : Arg) (way : Option Arg) → slice_get args place ≡ Some arg → way ≡ way_back turn dim place arg → is_some way ≡ true
    → first_way turn dim 0 args ≡ first_way turn dim place (drop place args) → way ≡ first_way turn dim 0 args
way-found turn dim args place arg way at is on so =
    found-or way (first_way turn dim (place + 1) (drop (place + 1) args)) on
    ∙ ap (λ o. option_or o (first_way turn dim (place + 1) (drop (place + 1) args))) is ∙ sym (so ∙ way-next turn dim args place arg at)

pub way-more : (turn : Turn) (dim : ℕ) (args : List Arg) (place : ℕ) (arg : Arg) (way : Option Arg) → slice_get args place ≡ Some arg → way ≡ way_back turn dim place arg → is_some way ≡ false
    → first_way turn dim 0 args ≡ first_way turn dim place (drop place args) → first_way turn dim 0 args ≡ first_way turn dim (place + 1) (drop (place + 1) args)
way-more turn dim args place arg way at is off so =
    so ∙ way-next turn dim args place arg at ∙ none-or (way_back turn dim place arg) (first_way turn dim (place + 1) (drop (place + 1) args)) (ap is_some (sym is) ∙ off)

pub way-none : (turn : Turn) (dim : ℕ) (args : List Arg) (place : ℕ) → length args ≤ place → first_way turn dim 0 args ≡ first_way turn dim place (drop place args) → None ≡ first_way turn dim 0 args
way-none turn dim args place past so = sym (so ∙ ap (first_way turn dim place) (drop_all place args past))

-- ---- all arguments

found-push : (xs : List (Option Arg)) (args : List Arg) (arg : Arg) → all_found xs ≡ Some args → all_found (xs ++ Some arg ∷ []) ≡ Some (args ++ arg ∷ [])
found-push [] args arg is = let same : [] ≡ args = cc in ap (λ list. Some (list ++ arg ∷ [])) same
found-push (None ∷ xs) args arg is = absurd (cc)
found-push (Some a ∷ xs) args arg is = by (all_found xs) refl is (found-push xs)
  where
    by : (o : Option (List Arg)) → all_found xs ≡ o → option_map (λ rest. a ∷ rest) o ≡ Some args → ((list : List Arg) (arg : Arg) → all_found xs ≡ Some list → all_found (xs ++ Some arg ∷ []) ≡ Some (list ++ arg ∷ []))
        → option_map (λ rest. a ∷ rest) (all_found (xs ++ Some arg ∷ [])) ≡ Some (args ++ arg ∷ [])
    by None e is rest = absurd (cc)
    by (Some list) e is rest = let same : a ∷ list ≡ args = cc in ap (option_map (λ rest. a ∷ rest)) (rest list arg e) ∙ ap (λ list. Some (list ++ arg ∷ [])) same

found-gap : (xs : List (Option Arg)) (k : ℕ) → slice_get xs k ≡ Some None → all_found xs ≡ None
found-gap [] k at = absurd (cc)
found-gap (x ∷ xs) zero at = let same : x ≡ None = cc in ap (λ (x : Option Arg). all_found (x ∷ xs)) same
found-gap (None ∷ xs) (suc k) at = refl
found-gap (Some a ∷ xs) (suc k) at = ap (option_map (λ rest. a ∷ rest)) (found-gap xs k at)

pub args-more : (arg-of : ℕ → Option Arg) (k : ℕ) (args : List Arg) (arg : Arg) → arg-of k ≡ Some arg → all_found (map arg-of (range_with_len 0 k)) ≡ Some args → all_found (map arg-of (range_with_len 0 (k + 1))) ≡ Some (args ++ arg ∷ [])
args-more arg-of k args arg is so =
    ap all_found (map-range_with_len_more arg-of 0 k k (omega arith) ∙ ap (λ o. map arg-of (range_with_len 0 k) ++ o ∷ []) is)
    ∙ found-push (map arg-of (range_with_len 0 k)) args arg so

pub args-gap : (arg-of : ℕ → Option Arg) (n k : ℕ) → k < n → arg-of k ≡ None → None ≡ all_found (map arg-of (range_with_len 0 n))
args-gap arg-of n k low none =
    let there = Rattle.std.proofs.lemmas.Option.slice_get-get_or (map arg-of (range_with_len 0 n)) k None (omega (arith, low, length-map-range_with_len arg-of 0 n)) in
    sym (found-gap (map arg-of (range_with_len 0 n)) k (there ∙ ap Some (get_or-map-range_with_len arg-of 0 n k k None low (omega arith) ∙ none)))
