-- What some writes have changed between stored and not stored.
use Rattle.std.proofs.Common.{◌≡◌, refl, sym, ◌∙◌, ℕ, ℤ, Bool, true, false, List, [], ◌∷◌, ◌++◌, map, Contains, ◌⊎◌, inl, inr, ⊎_elim, ◌↔◌}
use Rattle.std.specs.Prelude.{IsTrue}
use Rattle.std.proofs.lemmas.List.Elements.{All-contains, All-nil, All-push, All-weaker}
use Rattle.cell_store.specs.declared.entry.Entry.{Entry}
use Rattle.cell_store.specs.Entries.{cells_of, after_writes}
use Rattle.feed_map.specs.FedCells.{IsStoredChange}
use Rattle.lists.proofs.Rising.{among}
use Rattle.lists.proofs.Members.{contains_from_among, among_from_contains}
use Rattle.cell_versions.specs.Inside.Changes.{IsChangeBy}
use Rattle.cell_versions.proofs.Cells.{has, untouched}

pub none_changed : (before after : List Entry) (cells went came : List ℕ) → cells ≡ [] → ((c : ℕ) → Contains came c → ⊥) → IsChangeBy before after cells went came
none_changed before after cells went came no_cell nothing = rw no_cell (record {
  gone = All-nil (λ cell. Contains (cells_of before) cell → Contains (cells_of after) cell ⊎ Contains went cell);
  new = All-nil (λ cell. Contains (cells_of after) cell → Contains (cells_of before) cell ⊎ Contains came cell);
  stored = λ c has. absurd (nothing c has);
})

-- one cell more: it is noted where it is in one store alone
pub one_changed : (before after : List Entry) (cells went came went' came' : List ℕ) (cell : ℕ) (was is : Bool)
    → IsTrue was ↔ Contains (cells_of before) cell → IsTrue is ↔ Contains (cells_of after) cell
    → ((c : ℕ) → Contains went c → Contains went' c) → (was ≡ true → (is ≡ true) ⊎ Contains went' cell)
    → ((c : ℕ) → Contains came c → Contains came' c) → (is ≡ true → (was ≡ true) ⊎ Contains came' cell) → ((c : ℕ) → Contains came' c → Contains came c ⊎ ((is ≡ true) × (cell ≡ c)))
    → IsChangeBy before after cells went came → IsChangeBy before after (cells ++ cell ∷ []) went' came'
one_changed before after cells went came went' came' cell was is old now went_kept went_there came_kept came_there came_only so_far = record {
  gone = All-push (λ c. Contains (cells_of before) c → Contains (cells_of after) c ⊎ Contains went' c) cells cell
      (All-weaker (λ c. Contains (cells_of before) c → Contains (cells_of after) c ⊎ Contains went c) (λ c. Contains (cells_of before) c → Contains (cells_of after) c ⊎ Contains went' c)
      (λ c told has. ⊎_elim (λ still. inl still) (λ gone. inr (went_kept c gone)) (told has)) cells so_far.gone)
      (λ has. ⊎_elim (λ still. inl (now.0 still)) (λ gone. inr gone) (went_there (old.1 has)));
  new = All-push (λ c. Contains (cells_of after) c → Contains (cells_of before) c ⊎ Contains came' c) cells cell
      (All-weaker (λ c. Contains (cells_of after) c → Contains (cells_of before) c ⊎ Contains came c) (λ c. Contains (cells_of after) c → Contains (cells_of before) c ⊎ Contains came' c)
      (λ c told has. ⊎_elim (λ still. inl still) (λ new. inr (came_kept c new)) (told has)) cells so_far.new)
      (λ has. ⊎_elim (λ still. inl (old.0 still)) (λ new. inr new) (came_there (now.1 has)));
  stored = λ c has. ⊎_elim (λ before. so_far.stored c before) (λ one. subst_cell c one) (came_only c has);
}
  where
    subst_cell : (c : ℕ) → (is ≡ true) × (cell ≡ c) → Contains (cells_of after) c
    subst_cell c (on, same) = rw same at (now.0 on)

-- other cells are stored as before
pub changed_is : (before : List Entry) (writes : List (ℕ × ℤ)) (went came : List ℕ) → IsChangeBy before (after_writes before writes) (map (λ write. write.0) writes) went came
    → IsStoredChange before (after_writes before writes) went came
changed_is before writes went came is = record {
  gone = λ c has. gone c has (among c cells) refl;
  new = λ c has. new c has (among c cells) refl;
  stored = is.stored;
}
  where
    after : List Entry
    after = after_writes before writes

    cells : List ℕ
    cells = map (λ write. write.0) writes

    gone : (c : ℕ) → Contains (cells_of before) c → (b : Bool) → among c cells ≡ b → Contains (cells_of after) c ⊎ Contains went c
    gone c has false apart = inl (contains_from_among (cells_of after) c (untouched c writes before apart ∙ among_from_contains (cells_of before) c has))
    gone c has true inside = All-contains (λ x. Contains (cells_of before) x → Contains (cells_of after) x ⊎ Contains went x) cells c is.gone (contains_from_among cells c inside) has

    new : (c : ℕ) → Contains (cells_of after) c → (b : Bool) → among c cells ≡ b → Contains (cells_of before) c ⊎ Contains came c
    new c has false apart = inl (contains_from_among (cells_of before) c (sym (untouched c writes before apart) ∙ among_from_contains (cells_of after) c has))
    new c has true inside = All-contains (λ x. Contains (cells_of after) x → Contains (cells_of before) x ⊎ Contains came x) cells c is.new (contains_from_among cells c inside) has
