-- The elements of a set, one after the other.
use Rattle.std.proofs.Common.{◌≡◌, ◌+◌, ◌<◌, ◌&&◌, ℕ, Bool, cond, List, Some, length, find, drop, get_or, ap, drop-cons, add-one}
use Rattle.std.specs.List.{list_all}
use Rattle.std.proofs.lemmas.List.FromFn.{length-range_with_len, get_or-range_with_len}

module _ (test : ℕ → Bool) (elements : List ℕ) (i : ℕ) (within : i < length elements) where
  pub find_next : find test (drop i elements) ≡ cond (test (get_or elements i 0)) (Some (get_or elements i 0)) (find test (drop (i + 1) elements))
  find_next = rw (add-one) (ap (find test) (drop-cons elements i 0 within))

  pub all_next : list_all test (drop i elements) ≡ (test (get_or elements i 0) && list_all test (drop (i + 1) elements))
  all_next = rw (add-one) (ap (list_all test) (drop-cons elements i 0 within))

pub ruleset ranges = (length-range_with_len, get_or-range_with_len)
