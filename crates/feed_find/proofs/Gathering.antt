-- What is gathered grows with what is picked.
use Rattle.std.proofs.Common.{◌≡◌, refl, ap, ◌∙◌, sym, ℕ, zero, suc, ◌+◌, ◌<◌, Bool, true, false, Option, Some, None, List, [], ◌∷◌, ◌++◌, length, map, fold, filter_map, slice_get, append_assoc, cond}
use Rattle.std.specs.List.{flat_map, range_with_len, cons_option}
use Rattle.std.specs.Option.{option_map_or}
use Rattle.std.proofs.lemmas.List.{append-nil, map-append}
use Rattle.std.proofs.lemmas.List.Elements.{filter_map-append}
use Rattle.std.proofs.lemmas.List.Concat.{flat_map-append}
use Rattle.dim_weights.proofs.ByLevel.{range-push}
use Rattle.lists.specs.Keys.{insert_key}
use Rattle.feed_find.specs.declared.chosen.Chosen.{Chosen}
use Rattle.feed_find.specs.declared.chosen.Chosen.TheVariants.{Found, Unturned}
use Rattle.feed_find.specs.declared.chosen.FoundFeeder.{FoundFeeder}
use Rattle.feed_find.specs.declared.unturned.Unturned.{Unturned as UnturnedOne}
use Rattle.feed_find.specs.declared.gathered.Gathered.{Gathered}
use Rattle.feed_find.specs.Found.{Picked, feeder_of, unturned_of, each_once, same_found}
use Rattle.feed_find.specs.Views.{AreGathered, as_picked}

folded : {A B : Type 0} (f : B → A → B) (z : B) (xs ys : List A) → fold f z (xs ++ ys) ≡ fold f (fold f z xs) ys
folded f z [] ys = refl
folded f z (x ∷ xs) ys = folded f (f z x) xs ys

-- one more feeder
pub gathered-feeder : (picked : List Picked) (cube statement : ℕ) (one : FoundFeeder) (old new : Gathered) → AreGathered picked old
    → new.feeders ≡ insert_key same_found old.feeders one → new.unturned.items ≡ old.unturned.items
    → AreGathered (picked ++ as_picked cube statement (Found one) ∷ []) new
gathered-feeder picked cube statement one old new so added same = record {
  feeders =
      added ∙ ap (λ (fs : List FoundFeeder). insert_key same_found fs one) so.feeders
      ∙ sym (ap each_once (filter_map-append feeder_of picked (as_picked cube statement (Found one) ∷ [])) ∙ folded (insert_key same_found) [] (filter_map feeder_of picked) (one ∷ []));
  unturned =
      same ∙ so.unturned
      ∙ sym (filter_map-append unturned_of picked (as_picked cube statement (Found one) ∷ []) ∙ append-nil (filter_map unturned_of picked));
}

-- one more reference that can't be turned round
pub gathered-unturned : (picked : List Picked) (cube statement reference : ℕ) (old new : Gathered) → AreGathered picked old
    → new.feeders ≡ old.feeders
    → new.unturned.items ≡ old.unturned.items ++ record { cube = cube; statement = statement; reference = reference } ∷ []
    → AreGathered (picked ++ as_picked cube statement (Unturned reference) ∷ []) new
gathered-unturned picked cube statement reference old new so same added = record {
  feeders =
      same ∙ so.feeders
      ∙ sym (ap each_once (filter_map-append feeder_of picked (as_picked cube statement (Unturned reference) ∷ []) ∙ append-nil (filter_map feeder_of picked)));
  unturned =
      added ∙ ap (λ (us : List UnturnedOne). us ++ record { cube = cube; statement = statement; reference = reference } ∷ []) so.unturned
      ∙ sym (filter_map-append unturned_of picked (as_picked cube statement (Unturned reference) ∷ []));
}

-- nothing more
pub gathered-same : (picked more : List Picked) (gathered : Gathered) → more ≡ picked → AreGathered picked gathered → AreGathered more gathered
gathered-same picked more gathered same so = record {
  feeders = so.feeders ∙ ap (λ (ps : List Picked). each_once (filter_map feeder_of ps)) (sym same);
  unturned = so.unturned ∙ ap (λ (ps : List Picked). filter_map unturned_of ps) (sym same);
}

-- behind what was picked: one item more of a list, or of a range
pub picked-more : {X : Type 0} (f : X → Picked) (picked : List Picked) (seen : List X) (x : X)
    → picked ++ map f (seen ++ x ∷ []) ≡ (picked ++ map f seen) ++ f x ∷ []
picked-more f picked seen x = ap (λ (ps : List Picked). picked ++ ps) (map-append f seen (x ∷ [])) ∙ sym (append_assoc picked (map f seen) (f x ∷ []))

pub range-more : (f : ℕ → List Picked) (k : ℕ) → flat_map f (range_with_len 0 (k + 1)) ≡ flat_map f (range_with_len 0 k) ++ f k
range-more f k =
    ap (flat_map f) (range-push k) ∙ flat_map-append f (range_with_len 0 k) (k ∷ [])
    ∙ ap (λ (ps : List Picked). flat_map f (range_with_len 0 k) ++ ps) (append-nil (f k))

pub behind-more : (f : ℕ → List Picked) (picked : List Picked) (k : ℕ)
    → picked ++ flat_map f (range_with_len 0 (k + 1)) ≡ (picked ++ flat_map f (range_with_len 0 k)) ++ f k
behind-more f picked k = ap (λ (ps : List Picked). picked ++ ps) (range-more f k) ∙ sym (append_assoc picked (flat_map f (range_with_len 0 k)) (f k))
