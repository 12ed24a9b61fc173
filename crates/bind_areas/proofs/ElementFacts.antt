-- The elements that names call.
use Rattle.std.proofs.Common.{◌≡◌, ◌<◌, ◌≤◌, ℕ, Bool, false, List, [], ◌∷◌, ◌⊎◌, inl, inr, length, filter, filter_map, Option, Some, None, refl, sym, ◌∙◌, arith, eqb, IsPermutation, nat_cmp, IsSorted}
use Rattle.std.specs.List.{range_with_len, dedup}
use Rattle.std.proofs.lemmas.Map.Keys.{IsStrictlyIncreasing-dedup}
use Rattle.std.proofs.lemmas.Bool.{ne_eqb, cases_lt}
use Rattle.dim_core.specs.Outline.{Outline, index_of}
use Rattle.dim_core.proofs.Naming.{called_within}
use Rattle.bind_areas.specs.Areas.{elements_called}
use Rattle.lists.proofs.Rising.{among, rises, kept_rises, rising_same, among_kept, past_kept, among_dedup, among_moved}

-- no number past the elements is called
none_called : (d : Outline) (names : List (List ℕ)) (n : ℕ) → length d.elements ≤ n → among n (filter_map (index_of d) names) ≡ false
none_called d [] n past = refl
none_called d (name ∷ names) n past = by (none_called d names n past) (index_of d name) refl
  where
    by : among n (filter_map (index_of d) names) ≡ false → (o : Option ℕ) → index_of d name ≡ o → among n (filter_map (index_of d) (name ∷ names)) ≡ false
    by later None is = rw is later
    by later (Some element) is = rw (is, ne_eqb element n (λ e. omega (arith, e, past, called_within d name element is))) later

-- sorted and without repeats, the elements that names call are those of the dimension that are called
pub called_is : (d : Outline) (names : List (List ℕ)) (sorted : List ℕ) → IsPermutation (filter_map (index_of d) names) sorted → IsSorted nat_cmp sorted → dedup eqb sorted ≡ elements_called d names
unfolding elements_called
called_is d names sorted moved up =
    rising_same 0 (dedup eqb sorted) (filter p (range_with_len 0 (length d.elements)))
    (rises 0 (dedup eqb sorted) (IsStrictlyIncreasing-dedup sorted up) (λ _. omega arith)) (kept_rises p 0 (length d.elements)) each
  where
    p : ℕ → Bool
    p n = among n (filter_map (index_of d) names)

    mine : (n : ℕ) → among n (dedup eqb sorted) ≡ p n
    mine n = among_dedup n sorted ∙ sym (among_moved n (filter_map (index_of d) names) sorted moved)

    by : (n : ℕ) → (n < length d.elements) ⊎ (length d.elements ≤ n) → among n (dedup eqb sorted) ≡ among n (filter p (range_with_len 0 (length d.elements)))
    by n (inl low) = mine n ∙ sym (among_kept p 0 (length d.elements) n (omega arith) (omega (arith, low)))
    by n (inr past) = mine n ∙ none_called d names n past ∙ sym (past_kept p 0 (length d.elements) n (omega (arith, past)))

    each : (n : ℕ) → among n (dedup eqb sorted) ≡ among n (filter p (range_with_len 0 (length d.elements)))
    each n = by n (cases_lt n (length d.elements))
