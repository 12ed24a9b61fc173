-- Lists by the places of dimensions, and the places of entries.
use Rattle.std.proofs.Common.{◌≡◌, ◌≤◌, ◌<◌, arith, get_or, ℕ, suc, ◌+◌, List, [], ◌∷◌, ◌++◌, Bool, true, false, if◌then◌else◌, Some, length, drop, slice_get, Ok, Err, refl, sym, ap, ◌∙◌, append_assoc, append-nil}
use Rattle.std.proofs.lemmas.List.{drop_more, drop_all}
use Rattle.std.proofs.lemmas.Option.{slice_get_within, get_or_from_slice_get}
use Rattle.dim_core.specs.Outline.{Outline}
use Rattle.rule_tree.specs.declared.rule.EntryText.{EntryText}
use Rattle.bind_areas.specs.declared.cause.BindCause.{BindCause}
use Rattle.bind_areas.specs.Meaning.{Meaning, Answers}
use Rattle.bind_areas.specs.Areas.{places_where, owns, each_at, free_place, placed}
use Rattle.bind_areas.proofs.Meanings.{stops}

-- the next item stands in front of what is still to come
pub next_item : {A : Type 0} (xs : List A) (i : ℕ) (x : A) → slice_get xs i ≡ Some x → drop i xs ≡ x ∷ drop (i + 1) xs
next_item xs i x is = drop_more xs i x (slice_get_within xs i x is) ∙ ap (λ y. y ∷ drop (i + 1) xs) (get_or_from_slice_get xs i x x is)

-- one more of what there is for each dimension
pub each_more : {A : Type 0} (given : ℕ → Outline → A) (front next whole : List A) (a : A) (i : ℕ) (ds : List Outline) (d : Outline) → slice_get ds i ≡ Some d
    → next ≡ front ++ a ∷ [] → a ≡ given i d → front ++ each_at given i (drop i ds) ≡ whole → next ++ each_at given (i + 1) (drop (i + 1) ds) ≡ whole
each_more given front next whole a i ds d is pushed here before =
    ap (λ l. l ++ each_at given (i + 1) (drop (i + 1) ds)) (pushed ∙ ap (λ x. front ++ x ∷ []) here)
    ∙ append_assoc front (given i d ∷ []) (each_at given (i + 1) (drop (i + 1) ds))
    ∙ ap (λ l. front ++ each_at given i l) (sym (next_item ds i d is)) ∙ before

pub each_all : {A : Type 0} (given : ℕ → Outline → A) (front whole : List A) (i : ℕ) (ds : List Outline) → length ds ≤ i
    → front ++ each_at given i (drop i ds) ≡ whole → front ≡ whole
each_all given front whole i ds past before = sym (append-nil front) ∙ ap (λ l. front ++ each_at given i l) (sym (drop_all i ds past)) ∙ before

-- the same of the places that pass a test
more_places : (test : Outline → Bool) (front next whole : List ℕ) (i : ℕ) (rest : List Outline) (b : Bool) → next ≡ (if b then front ++ i ∷ [] else front)
    → front ++ (if b then i ∷ places_where test (i + 1) rest else places_where test (i + 1) rest) ≡ whole → next ++ places_where test (i + 1) rest ≡ whole
more_places test front next whole i rest true is before = ap (λ l. l ++ places_where test (i + 1) rest) is ∙ append_assoc front (i ∷ []) (places_where test (i + 1) rest) ∙ before
more_places test front next whole i rest false is before = ap (λ l. l ++ places_where test (i + 1) rest) is ∙ before

pub places_more : (test : Outline → Bool) (front next whole : List ℕ) (i : ℕ) (ds : List Outline) (d : Outline) → slice_get ds i ≡ Some d
    → next ≡ (if test d then front ++ i ∷ [] else front) → front ++ places_where test i (drop i ds) ≡ whole → next ++ places_where test (i + 1) (drop (i + 1) ds) ≡ whole
places_more test front next whole i ds d is now before =
    more_places test front next whole i (drop (i + 1) ds) (test d) now (ap (λ l. front ++ places_where test i l) (sym (next_item ds i d is)) ∙ before)

pub places_all : (test : Outline → Bool) (front whole : List ℕ) (i : ℕ) (ds : List Outline) → length ds ≤ i → front ++ places_where test i (drop i ds) ≡ whole → front ≡ whole
places_all test front whole i ds past before = sym (append-nil front) ∙ ap (λ l. front ++ places_where test i l) (sym (drop_all i ds past)) ∙ before

-- one more entry has its place
pub placed_more : (ds : List Outline) (taken : List ℕ) (rest later : List EntryText) (entry : EntryText) (place : ℕ) (whole : Meaning (List ℕ)) → rest ≡ entry ∷ later
    → free_place ds taken entry ≡ Ok place → placed ds taken rest ≡ whole → placed ds (taken ++ place ∷ []) later ≡ whole
placed_more ds taken rest later entry place whole is here before =
    let step : placed ds taken (entry ∷ later) ≡ placed ds (taken ++ place ∷ []) later = rw here refl in
    sym step ∙ ap (placed ds taken) (sym is) ∙ before

-- it has none, and later entries don't count
pub placed_stops : (ds : List Outline) (taken : List ℕ) (rest later : List EntryText) (entry : EntryText) (cause : BindCause) (whole : Meaning (List ℕ)) → rest ≡ entry ∷ later
    → Answers (free_place ds taken entry) (Err cause) → placed ds taken rest ≡ whole → Answers whole (Err cause)
placed_stops ds taken rest later entry cause whole is here before =
    let stopped : Answers (placed ds taken (entry ∷ later)) (Err cause) = stops (free_place ds taken entry) (λ place. placed ds (taken ++ place ∷ []) later) cause here in
    rw (sym before, is) stopped

-- the places that pass a test are places
Each : (ℕ → Type 0) → List ℕ → Type 0
Each P [] = Unit {0}
Each P (x ∷ xs) = P x × Each P xs

each_weaker : (P Q : ℕ → Type 0) (xs : List ℕ) → ((n : ℕ) → P n → Q n) → Each P xs → Each Q xs
unfolding Each
each_weaker P Q [] weaker each = tt
each_weaker P Q (x ∷ xs) weaker each = (weaker x each.0, each_weaker P Q xs weaker each.1)

places_below : (test : Outline → Bool) (i : ℕ) (ds : List Outline) → Each (λ p. p < i + length ds) (places_where test i ds)
unfolding Each
places_below test i [] = tt
places_below test i (d ∷ ds) = by (each_weaker (λ p. p < i + 1 + length ds) (λ p. p < i + suc (length ds)) (places_where test (i + 1) ds) (λ n low. omega (arith, low)) (places_below test (i + 1) ds)) (test d)
  where
    by : Each (λ p. p < i + suc (length ds)) (places_where test (i + 1) ds) → (b : Bool) → Each (λ p. p < i + suc (length ds)) (if b then i ∷ places_where test (i + 1) ds else places_where test (i + 1) ds)
    by later true = (omega arith, later)
    by later false = later

first_holds : (P : ℕ → Type 0) (xs : List ℕ) → Each P xs → 1 ≤ length xs → P (get_or xs 0 0)
unfolding Each
first_holds P [] each some = absurd (omega arith)
first_holds P (x ∷ xs) each some = each.0

pub place_within : (entry : EntryText) (ds : List Outline) → 1 ≤ length (places_where (owns entry) 0 ds) → get_or (places_where (owns entry) 0 ds) 0 0 < length ds
place_within entry ds some =
    let low = first_holds (λ p. p < 0 + length ds) (places_where (owns entry) 0 ds) (places_below (owns entry) 0 ds) some in
    omega (arith, low)
