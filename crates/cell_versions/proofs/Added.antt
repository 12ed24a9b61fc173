-- What some writes have added, where they took no cell out.
use Rattle.std.proofs.Common.{◌≡◌, ◌↔◌, refl, sym, ◌∙◌, ap, ℕ, ℤ, Bool, true, false, not, ◌&&◌, true≢false, List, [], ◌∷◌, ◌++◌, map, take, Contains, ◌⊎◌, inl, inr, ⊎_elim, cond, length, get_or, ◌<◌, ◌+◌}
use Rattle.std.specs.Prelude.{◌==◌, IsTrue}
use Rattle.std.specs.List.{list_any}
use Rattle.std.proofs.lemmas.Bool.{and_parts, not-true as not_true}
use Rattle.std.proofs.lemmas.List.{take_more, map-append}
use Rattle.std.proofs.lemmas.List.Elements.{All-contains, All-nil, All-push, All-weaker, Contains-append_left, Contains-push}
use Rattle.cell_store.specs.declared.entry.Entry.{Entry}
use Rattle.cell_store.specs.Entries.{cells_of, after_writes}
use Rattle.feed_map.specs.FedCells.{AreFedCells, without}
use Rattle.rule_model.specs.BoundModel.{BoundModel}
use Rattle.lists.proofs.Rising.{among}
use Rattle.lists.proofs.Members.{contains_from_among, among_from_contains}
use Rattle.cell_versions.specs.Inside.Changes.{IsAddedBy, FeedsNone}
use Rattle.cell_versions.proofs.Cells.{has, filtered, untouched}
use Rattle.cell_versions.proofs.Fed.{AreFedCells-alike}

pub none_added : (m : BoundModel) (before after : List Entry) (cells added : List ℕ) → cells ≡ [] → added ≡ [] → IsAddedBy m before after cells added
none_added m before after cells added no_cell nothing = rw (no_cell, nothing) (record {
  now = All-nil (Contains (cells_of after));
  new = All-nil (λ cell. Contains (cells_of before) cell → ⊥);
  kept = All-nil (λ cell. Contains (cells_of before) cell → Contains (cells_of after) cell ⊎ FeedsNone m cell);
  told = All-nil (λ cell. Contains (cells_of after) cell → Contains (cells_of before) cell ⊎ Contains [] cell);
})

module _ (m : BoundModel) (before after : List Entry) (cells added : List ℕ) (cell : ℕ) (so_far : IsAddedBy m before after cells added) where
  -- one cell more, which adds nothing
  pub same_added : (Contains (cells_of before) cell → Contains (cells_of after) cell ⊎ FeedsNone m cell) → (Contains (cells_of after) cell → Contains (cells_of before) cell)
      → IsAddedBy m before after (cells ++ cell ∷ []) added
  same_added there back = record {
    now = so_far.now;
    new = so_far.new;
    kept = All-push (λ c. Contains (cells_of before) c → Contains (cells_of after) c ⊎ FeedsNone m c) cells cell so_far.kept there;
    told = All-push (λ c. Contains (cells_of after) c → Contains (cells_of before) c ⊎ Contains added c) cells cell so_far.told (λ is. inl (back is));
  }

  -- one cell more, which is added
  pub more_added : Contains (cells_of after) cell → (Contains (cells_of before) cell → ⊥) → IsAddedBy m before after (cells ++ cell ∷ []) (added ++ cell ∷ [])
  more_added is was = record {
    now = All-push (Contains (cells_of after)) added cell so_far.now is;
    new = All-push (λ c. Contains (cells_of before) c → ⊥) added cell so_far.new was;
    kept = All-push (λ c. Contains (cells_of before) c → Contains (cells_of after) c ⊎ FeedsNone m c) cells cell so_far.kept (λ old. absurd (was old));
    told = All-push (λ c. Contains (cells_of after) c → Contains (cells_of before) c ⊎ Contains (added ++ cell ∷ []) c) cells cell
        (All-weaker (λ c. Contains (cells_of after) c → Contains (cells_of before) c ⊎ Contains added c) (λ c. Contains (cells_of after) c → Contains (cells_of before) c ⊎ Contains (added ++ cell ∷ []) c)
        (λ c told now. ⊎_elim (λ old. inl old) (λ new. inr (Contains-append_left added (cell ∷ []) c new)) (told now))
        cells so_far.told)
        (λ now. inr (Contains-push added cell));
  }

module _ (model : BoundModel) (before : List Entry) (writes : List (ℕ × ℤ)) (added fed : List ℕ) where
  abbrev after : List Entry
  after = after_writes before writes

  abbrev cells : List ℕ
  cells = map (λ write. write.0) writes

  module _ (is : IsAddedBy model before after cells added) where
    no_more : (c : ℕ) → among c cells ≡ false → (Contains (cells_of after) c → Contains (cells_of before) c) × (Contains (cells_of before) c → Contains (cells_of after) c)
    no_more c apart =
        let same : has c after ≡ has c before = untouched c writes before apart in (
          λ now. contains_from_among (cells_of before) c (sym same ∙ among_from_contains (cells_of after) c now),
          λ old. contains_from_among (cells_of after) c (same ∙ among_from_contains (cells_of before) c old),
        )

    here : (c : ℕ) → has c (without after added) ≡ (not (list_any (λ cell. cell == c) added) && has c after)
    here c = filtered (λ x. not (list_any (λ cell. cell == x) added)) c after

    there : (c : ℕ) → Contains (cells_of (without after added)) c → Contains (cells_of before) c
    there c kept =
        let parts = and_parts (not (among c added)) (has c after) (sym (here c) ∙ among_from_contains (cells_of (without after added)) c kept) in
        let now = contains_from_among (cells_of after) c parts.1 in
        by now (not_true (among c added) parts.0) (among c cells) refl
      where
        by : Contains (cells_of after) c → among c added ≡ false → (b : Bool) → among c cells ≡ b → Contains (cells_of before) c
        by now apart false outside = (no_more c outside).0 now
        by now apart true inside = ⊎_elim (λ old. old) (λ new. absurd (true≢false (sym (among_from_contains added c new) ∙ apart)))
            (All-contains (λ x. Contains (cells_of after) x → Contains (cells_of before) x ⊎ Contains added x) cells c is.told (contains_from_among cells c inside) now)

    stays : (c : ℕ) → Contains (cells_of before) c → Contains (cells_of after) c → Contains (cells_of (without after added)) c
    stays c old there = contains_from_among (cells_of (without after added)) c (here c ∙ rw (fresh (among c added) refl, among_from_contains (cells_of after) c there) refl)
      where
        fresh : (b : Bool) → among c added ≡ b → among c added ≡ false
        fresh false is_new = is_new
        fresh true listed = absurd (All-contains (λ x. Contains (cells_of before) x → ⊥) added c is.new (contains_from_among added c listed) old)

    back : (c : ℕ) → Contains (cells_of before) c → Contains (cells_of (without after added)) c ⊎ FeedsNone model c
    back c old = by (among c cells) refl
      where
        by : (b : Bool) → among c cells ≡ b → Contains (cells_of (without after added)) c ⊎ FeedsNone model c
        by false outside = inl (stays c old ((no_more c outside).1 old))
        by true inside = ⊎_elim (λ there. inl (stays c old there)) (λ none. inr none)
            (All-contains (λ x. Contains (cells_of before) x → Contains (cells_of after) x ⊎ FeedsNone model x) cells c is.kept (contains_from_among cells c inside) old)

    -- what was fed before is what the cells feed that aren't added
    pub fed_without : AreFedCells model before fed → AreFedCells model (without after added) fed
    fed_without are = AreFedCells-alike model before (without after added) fed (λ c. (back c, there c)) are

-- one cell more, told by what was stored and what is
pub one_more : (m : BoundModel) (before after : List Entry) (cells added later : List ℕ) (cell : ℕ) (was is : Bool)
    → IsTrue was ↔ Contains (cells_of before) cell → IsTrue is ↔ Contains (cells_of after) cell
    → (was ≡ true → (is ≡ true) ⊎ FeedsNone m cell) → later ≡ cond (is && not was) (added ++ cell ∷ []) added
    → IsAddedBy m before after cells added → IsAddedBy m before after (cells ++ cell ∷ []) later
one_more m before after cells added later cell true true old now stays is_later so_far =
    rw is_later (same_added m before after cells added cell so_far (λ _. inl (now.0 refl)) (λ _. old.0 refl))
one_more m before after cells added later cell true false old now stays is_later so_far =
    rw is_later (same_added m before after cells added cell so_far (λ _. ⊎_elim (λ is. absurd (true≢false (sym is))) (λ none. inr none) (stays refl)) (λ there. absurd (true≢false (sym (now.1 there)))))
one_more m before after cells added later cell false true old now stays is_later so_far =
    rw is_later (more_added m before after cells added cell so_far (now.0 refl) (λ there. true≢false (sym (old.1 there))))
one_more m before after cells added later cell false false old now stays is_later so_far =
    rw is_later (same_added m before after cells added cell so_far (λ there. absurd (true≢false (sym (old.1 there)))) (λ there. absurd (true≢false (sym (now.1 there)))))

pub map_more : (writes : List (ℕ × ℤ)) (i : ℕ) (write : ℕ × ℤ) → i < length writes → write ≡ get_or writes i write
    → map (λ w. w.0) (take (i + 1) writes) ≡ map (λ w. w.0) (take i writes) ++ write.0 ∷ []
map_more writes i write less is = ap (map (λ w. w.0)) (take_more writes i write less ∙ ap (λ w. take i writes ++ w ∷ []) (sym is)) ∙ map-append (λ w. w.0) (take i writes) (write ∷ [])
