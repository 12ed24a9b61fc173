-- What is among the first of a list.
use Rattle.std.proofs.Common.{◌≡◌, ◌⊎◌, inl, inr, ℕ, ◌+◌, ◌<◌, true, eqb, List, length, take, get_or, sym, ◌∙◌}
use Rattle.std.proofs.lemmas.Bool.{eqb-true}
use Rattle.std.proofs.lemmas.List.Folds.{list_any_more}
use Rattle.dim_order.specs.Members.{is_among}
use Rattle.dim_order.proofs.Tests.{either}

-- one more is among the first
pub among-more : (xs : List ℕ) (i k : ℕ) → i < length xs → is_among (take (i + 1) xs) k ≡ true → (is_among (take i xs) k ≡ true) ⊎ (k ≡ get_or xs i 0)
among-more xs i k within among = by (either (is_among (take i xs) k) (eqb k (get_or xs i 0)) (sym (list_any_more (eqb k) xs i 0 within) ∙ among))
  where
    by : (is_among (take i xs) k ≡ true) ⊎ (eqb k (get_or xs i 0) ≡ true) → (is_among (take i xs) k ≡ true) ⊎ (k ≡ get_or xs i 0)
    by (inl before) = inl before
    by (inr here) = inr (eqb-true k (get_or xs i 0) here)
