-- Sources of a feeder in a dimension, listed or all.
use Rattle.std.proofs.Common.{◌≡◌, refl, sym, ap, ◌∙◌, ℕ, ◌<◌, ◌≤◌, Bool, true, false, Option, Some, None, ℤ, List, [], ◌∷◌, length, get_or, take}
use Rattle.std.specs.Prelude.{slice_get, slice_index_or, is_some}
use Rattle.std.specs.List.{list_all, list_any}
use Rattle.std.specs.Option.{option_map_or}
use Rattle.std.proofs.lemmas.List.{take_all}
use Rattle.std.proofs.lemmas.List.Folds.{list_all_at}
use Rattle.dim_core.specs.Outline.{Outline}
use Rattle.dim_weights.specs.Coefficients.{coef}
use Rattle.dim_weights.specs.Table.{is_nonzero, leaves_of}
use Rattle.rule_model.specs.Areas.{in_source_set}
use Rattle.cover_laws.specs.Covered.{leaves_at, counts_in, are_sources}

-- a leaf counts in one of the listed elements
abbrev pub is_listed_source : List Outline → ℕ → List ℕ → ℕ × ℤ → Bool
is_listed_source ds j listed pair = list_any (λ element. counts_in ds j element pair.0) listed

pub all-sources : (ds : List Outline) (sets : List (Option (List ℕ))) (j e : ℕ) → slice_index_or sets j None ≡ None → true ≡ are_sources ds sets j e
all-sources ds sets j e none = by (slice_get ds j) ∙ sym (ap (λ s. option_map_or (λ d. list_all (λ pair. in_source_set d s pair.0) (leaves_of d e)) (slice_get ds j) true) none)
  where
    each : (ps : List (ℕ × ℤ)) → true ≡ list_all (λ (pair : ℕ × ℤ). true) ps
    each [] = refl
    each (p ∷ ps) = each ps

    by : (o : Option Outline) → true ≡ option_map_or (λ d. list_all (λ pair. in_source_set d None pair.0) (leaves_of d e)) o true
    by None = refl
    by (Some d) = each (leaves_of d e)

listed-sources : (ds : List Outline) (sets : List (Option (List ℕ))) (j e : ℕ) (listed : List ℕ) → slice_index_or sets j None ≡ Some listed → list_all (is_listed_source ds j listed) (leaves_at ds j e) ≡ are_sources ds sets j e
listed-sources ds sets j e listed some = by (slice_get ds j) ∙ sym (ap (λ s. option_map_or (λ d. list_all (λ pair. in_source_set d s pair.0) (leaves_of d e)) (slice_get ds j) true) some)
  where
    by : (o : Option Outline) → list_all (λ pair. list_any (λ element. option_map_or (λ d. is_nonzero (coef d element pair.0)) o false) listed) (option_map_or (λ d. leaves_of d e) o [])
        ≡ option_map_or (λ d. list_all (λ pair. in_source_set d (Some listed) pair.0) (leaves_of d e)) o true
    by None = refl
    by (Some d) = refl

pub sources-done : (ds : List Outline) (sets : List (Option (List ℕ))) (j e k : ℕ) (listed : List ℕ) (pairs : List (ℕ × ℤ)) → slice_index_or sets j None ≡ Some listed → pairs ≡ leaves_at ds j e
    → list_all (is_listed_source ds j listed) (take k pairs) ≡ true → length pairs ≤ k → true ≡ are_sources ds sets j e
sources-done ds sets j e k listed pairs some is all low =
    sym all ∙ ap (list_all (is_listed_source ds j listed)) (take_all k pairs low ∙ is) ∙ listed-sources ds sets j e listed some

pub sources-fail : (ds : List Outline) (sets : List (Option (List ℕ))) (j e k : ℕ) (d : ℕ × ℤ) (listed : List ℕ) (pairs : List (ℕ × ℤ)) → slice_index_or sets j None ≡ Some listed → pairs ≡ leaves_at ds j e
    → k < length pairs → is_listed_source ds j listed (get_or pairs k d) ≡ false → false ≡ are_sources ds sets j e
sources-fail ds sets j e k d listed pairs some is low off =
    sym (list_all_at (is_listed_source ds j listed) pairs k d low off) ∙ ap (list_all (is_listed_source ds j listed)) is ∙ listed-sources ds sets j e listed some

pub no-list : (set : Option (List ℕ)) → is_some set ≡ false → set ≡ None
no-list None h = refl
no-list (Some listed) h = absurd (cc)
