-- The ranks that a list gives, entry by entry.
use Rattle.std.proofs.Common.{◌≡◌, ◌≢◌, ◌<◌, ◌≤◌, ℕ, zero, suc, ◌+◌, Bool, true, false, cond, ◌&&◌, eqb, ◌==◌, List, [], ◌∷◌, ◌++◌, map, length, Option, Some, None, IfSome, is_some, find, option_map, if◌then◌else◌, nat_le, refl, sym, ap, ◌∙◌, subst, arith, slice_index_or, slice_set}
use Rattle.std.specs.List.{range_with_len}
use Rattle.std.specs.Option.{option_map_or}
use Rattle.std.proofs.lemmas.Bool.{ne_eqb, eq-eqb, and_parts, leb-true}
use Rattle.std.proofs.lemmas.List.FromFn.{get_or-map-range_with_len}
use Rattle.std.proofs.lemmas.List.FromFn.{length-map-range_with_len}
use Rattle.dim_core.specs.Outline.{Outline, IsDimension, index_of}
use Rattle.cube_space.specs.Cells.{is_leaf}
use Rattle.rule_model.specs.Conditions.{greatest_rank}
use Rattle.dim_core.proofs.Naming.{called_within}
use Rattle.bind_order.specs.Ranks.{most_written, is_named, listed_rank, listed_ranks, index_rank, index_ranks, may_list, entry_element, are_listed, are_writable}
use Rattle.bind_order.specs.Inside.Given.{AreWithin}

-- the rank that a list gives an element, by the list of all
pub rank_at : (d : Outline) (before : List (List ℕ × ℕ)) (given : List (Option ℕ)) (element : ℕ) → given ≡ listed_ranks d before → element < length d.elements
    → slice_index_or given element None ≡ listed_rank d before element
rank_at d before given element is low =
    ap (λ l. slice_index_or l element None) is ∙ get_or-map-range_with_len (listed_rank d before) 0 (length d.elements) element element None low (omega arith)

pub entry_is : (d : Outline) (totals : Bool) (before : List (List ℕ × ℕ)) (name : List ℕ) (given : List (Option ℕ)) (element : ℕ) (b : Bool) → index_of d name ≡ Some element
    → given ≡ listed_ranks d before → may_list d totals (slice_index_or given element None) element ≡ b
    → (if b then Some element else None) ≡ entry_element d totals before name
entry_is d totals before name given element b called is may =
    let same = rank_at d before given element is (called_within d name element called) in
    let may2 : may_list d totals (listed_rank d before element) element ≡ b = ap (λ o. may_list d totals o element) (sym same) ∙ may in
    let whole : entry_element d totals before name ≡ (if b then Some element else None) = rw called (ap (λ b. if b then Some element else None) may2) in
    sym whole

-- an entry that lists an element
or_else : Option ℕ → Option ℕ → Option ℕ
or_else (Some a) b = Some a
or_else None b = b

pushed : (d : Outline) (before : List (List ℕ × ℕ)) (entry : List ℕ × ℕ) (k : ℕ)
    → listed_rank d (before ++ entry ∷ []) k ≡ or_else (listed_rank d before k) (if is_named d k entry.0 then Some entry.1 else None)
unfolding or_else
pushed d [] entry k = by (is_named d k entry.0)
  where
    by : (b : Bool) → option_map (λ (e : List ℕ × ℕ). e.1) (cond b (Some entry) None) ≡ (if b then Some entry.1 else None)
    by true = refl
    by false = refl
pushed d (first ∷ before) entry k = by (is_named d k first.0) (pushed d before entry k)
  where
    by : (b : Bool) → listed_rank d (before ++ entry ∷ []) k ≡ or_else (listed_rank d before k) (if is_named d k entry.0 then Some entry.1 else None)
        → option_map (λ (e : List ℕ × ℕ). e.1) (cond b (Some first) (find (λ e. is_named d k e.0) (before ++ entry ∷ [])))
        ≡ or_else (option_map (λ (e : List ℕ × ℕ). e.1) (cond b (Some first) (find (λ e. is_named d k e.0) before))) (if is_named d k entry.0 then Some entry.1 else None)
    by true later = refl
    by false later = later

entry_free : (d : Outline) (totals : Bool) (before : List (List ℕ × ℕ)) (name : List ℕ) (element : ℕ) → entry_element d totals before name ≡ Some element
    → (index_of d name ≡ Some element) × (listed_rank d before element ≡ None)
entry_free d totals before name element is = by (index_of d name) refl
  where
    by : (o : Option ℕ) → index_of d name ≡ o → (index_of d name ≡ Some element) × (listed_rank d before element ≡ None)
    by None called = absurd (let none : entry_element d totals before name ≡ None = rw called refl in let e : None ≡ Some element = sym none ∙ is in cc e)
    by (Some found) called = may (listed_rank d before found) refl (may_list d totals (listed_rank d before found) found) refl
      where
        may : (r : Option ℕ) → listed_rank d before found ≡ r → (b : Bool) → may_list d totals (listed_rank d before found) found ≡ b
            → (index_of d name ≡ Some element) × (listed_rank d before element ≡ None)
        may r rank false bad = absurd (let none : entry_element d totals before name ≡ None = rw called (ap (λ b. if b then Some found else None) bad) in let e : None ≡ Some element = sym none ∙ is in cc e)
        may (Some r) rank true good = absurd (let e : false ≡ true = ap (λ o. may_list d totals o found) (sym rank) ∙ good in cc e)
        may None rank true good =
            let some : entry_element d totals before name ≡ Some found = rw called (ap (λ b. if b then Some found else None) good) in
            let e : Some found ≡ Some element = sym some ∙ is in
            let same : found ≡ element = cc in
            (called ∙ ap Some same, subst (λ k. listed_rank d before k ≡ None) same rank)

same_later : (f g : ℕ → Option ℕ) (a n : ℕ) → ((k : ℕ) → a ≤ k → g k ≡ f k) → map f (range_with_len a n) ≡ map g (range_with_len a n)
same_later f g a zero same = refl
same_later f g a (suc n) same =
    ap (λ r. r ∷ map f (range_with_len (a + 1) n)) (sym (same a (omega arith))) ∙ ap (λ l. g a ∷ l) (same_later f g (a + 1) n (λ k low. same k (omega (arith, low))))

set_later : (f g : ℕ → Option ℕ) (a n i : ℕ) (rank : Option ℕ) → i < n → g (a + i) ≡ rank → ((k : ℕ) → k ≢ a + i → g k ≡ f k)
    → slice_set (map f (range_with_len a n)) i rank ≡ map g (range_with_len a n)
set_later f g a zero i rank low here other = absurd (omega (arith, low))
set_later f g a (suc n) zero rank low here other =
    let same : a + 0 ≡ a = omega arith in
    ap (λ r. r ∷ map f (range_with_len (a + 1) n)) (sym here ∙ ap g same) ∙ ap (λ l. g a ∷ l) (same_later f g (a + 1) n (λ k above. other k (λ e. omega (arith, e, above))))
set_later f g a (suc n) (suc i) rank low here other =
    let same : a + suc i ≡ a + 1 + i = omega arith in
    ap (λ r. r ∷ slice_set (map f (range_with_len (a + 1) n)) i rank) (sym (other a (λ e. omega (arith, e))))
    ∙ ap (λ l. g a ∷ l) (set_later f g (a + 1) n i rank (omega (arith, low)) (ap g (sym same) ∙ here) (λ k differs. other k (λ e. differs (e ∙ same))))

-- the ranks with one more entry
pub given_more : (d : Outline) (totals : Bool) (before : List (List ℕ × ℕ)) (entry : List ℕ × ℕ) (element : ℕ) (given next : List (Option ℕ)) → given ≡ listed_ranks d before
    → entry_element d totals before entry.0 ≡ Some element → next ≡ slice_set given element (Some entry.1) → next ≡ listed_ranks d (before ++ entry ∷ [])
unfolding or_else
given_more d totals before entry element given next is lists set =
    set ∙ ap (λ l. slice_set l element (Some entry.1)) is
    ∙ set_later (listed_rank d before) (listed_rank d (before ++ entry ∷ [])) 0 (length d.elements) element (Some entry.1) (called_within d entry.0 element free.0) here other
  where
    free : (index_of d entry.0 ≡ Some element) × (listed_rank d before element ≡ None)
    free = entry_free d totals before entry.0 element lists

    named : (k : ℕ) → is_named d k entry.0 ≡ eqb element k
    named k = ap (λ o. option_map_or (λ index. index == k) o false) free.0

    here : listed_rank d (before ++ entry ∷ []) (0 + element) ≡ Some entry.1
    here = let same : 0 + element ≡ element = omega arith in ap (listed_rank d (before ++ entry ∷ [])) same ∙ pushed d before entry element ∙ ap (λ o. or_else o (if is_named d element entry.0 then Some entry.1 else None)) free.1
        ∙ ap (λ b. if b then Some entry.1 else None) (named element ∙ eq-eqb element element refl)

    same_or : (o : Option ℕ) → or_else o None ≡ o
    same_or None = refl
    same_or (Some a) = refl

    other : (k : ℕ) → k ≢ 0 + element → listed_rank d (before ++ entry ∷ []) k ≡ listed_rank d before k
    other k differs = pushed d before entry k
        ∙ ap (λ b. or_else (listed_rank d before k) (if b then Some entry.1 else None)) (named k ∙ ne_eqb element k (λ e. differs (omega (arith, e))))
        ∙ same_or (listed_rank d before k)

pub listed_more : (d : Outline) (totals : Bool) (element : ℕ) (before next : List (List ℕ × ℕ)) (rest later : List (List ℕ × ℕ)) (entry : List ℕ × ℕ) (whole : Bool) → rest ≡ entry ∷ later
    → next ≡ before ++ entry ∷ [] → entry_element d totals before entry.0 ≡ Some element → are_listed d totals before rest ≡ whole → are_listed d totals next later ≡ whole
listed_more d totals element before next rest later entry whole is pushed lists so =
    let step : are_listed d totals before (entry ∷ later) ≡ are_listed d totals (before ++ entry ∷ []) later = ap (λ o. is_some o && are_listed d totals (before ++ entry ∷ []) later) lists in
    ap (λ l. are_listed d totals l later) pushed ∙ sym step ∙ ap (are_listed d totals before) (sym is) ∙ so

pub listed_stops : (d : Outline) (totals : Bool) (before : List (List ℕ × ℕ)) (rest later : List (List ℕ × ℕ)) (entry : List ℕ × ℕ) (whole : Bool) → rest ≡ entry ∷ later
    → entry_element d totals before entry.0 ≡ None → are_listed d totals before rest ≡ whole → whole ≡ false
listed_stops d totals before rest later entry whole is lists so =
    let step : are_listed d totals before (entry ∷ later) ≡ false = ap (λ o. is_some o && are_listed d totals (before ++ entry ∷ []) later) lists in
    sym so ∙ ap (are_listed d totals before) is ∙ step

-- an index is within the dimension, and a rank that is listed isn't too great to be written
pub index_within : (d : Outline) → IsDimension d → AreWithin (index_ranks d)
index_within d dim k x low =
    let here : k < length d.elements = omega (arith, low, length-map-range_with_len (index_rank d) 0 (length d.elements)) in
    let is : slice_index_or (index_ranks d) k x ≡ index_rank d k = get_or-map-range_with_len (index_rank d) 0 (length d.elements) k k x here (omega arith) in
    subst (λ o. IfSome o (λ r. r ≤ greatest_rank)) (sym is) (by here (is_leaf d k))
  where
    by : k < length d.elements → (b : Bool) → IfSome (if b then Some (k + 1) else None) (λ r. r ≤ greatest_rank)
    by here true = omega (arith, here, dim.few)
    by here false = tt

small_found : (list : List (List ℕ × ℕ)) (test : List ℕ × ℕ → Bool) → are_writable list ≡ true → IfSome (option_map (λ entry. entry.1) (find test list)) (λ r. r ≤ greatest_rank)
small_found [] test all = tt
small_found (entry ∷ list) test all =
    let both = and_parts (nat_le entry.1 most_written) (are_writable list) all in
    by (leb-true entry.1 most_written both.0) (test entry) (small_found list test both.1)
  where
    by : entry.1 ≤ most_written → (b : Bool) → IfSome (option_map (λ entry. entry.1) (find test list)) (λ r. r ≤ greatest_rank)
        → IfSome (option_map (λ (e : List ℕ × ℕ). e.1) (cond b (Some entry) (find test list))) (λ r. r ≤ greatest_rank)
    by low true later = omega (arith, low)
    by low false later = later

pub listed_within : (d : Outline) (list : List (List ℕ × ℕ)) → are_writable list ≡ true → AreWithin (listed_ranks d list)
listed_within d list all k x low =
    let here : k < length d.elements = omega (arith, low, length-map-range_with_len (listed_rank d list) 0 (length d.elements)) in
    let is : slice_index_or (listed_ranks d list) k x ≡ listed_rank d list k = get_or-map-range_with_len (listed_rank d list) 0 (length d.elements) k k x here (omega arith) in
    subst (λ o. IfSome o (λ r. r ≤ greatest_rank)) (sym is) (small_found list (λ entry. is_named d k entry.0) all)
