-- A load that begins within the limits stays within them.
use Rattle.std.proofs.Common.{Result, Ok, ◌≡◌, refl, subst, ℕ, ℤ, Bool, true, false, not, if◌then◌else◌, List, [], ◌∷◌, ◌++◌, ◌&&◌, length, Option, Some, None}
use Rattle.std.specs.Prelude.{All, is_none, nat_lt, option_map, pos, suc}
use Rattle.std.specs.List.{list_all}
use Rattle.std.proofs.lemmas.List.Elements.{All-filter, All-head, All-push, All-tail}
use Rattle.cell_reader.proofs.StoredCells.{IsLeaf, stored-leaves}
use Rattle.cell_reader.specs.FedCount.{fed_count}
use Rattle.cell_reader.specs.Limits.{IsWithinLimits}
use Rattle.cell_reader.specs.StoredBelow.{stored_below}
use Rattle.cell_reader.specs.WritePermission.{why_closed}
use Rattle.cell_reader.specs.declared.write_permission.Closed.{Closed}
use Rattle.cell_reader.specs.declared.write_permission.Closed.TheVariants.{NotALeaf, RuleDerived}
use Rattle.cell_store.specs.declared.entry.Entry.{Entry}
use Rattle.cell_store.specs.Entries.{after_writes}
use Rattle.cell_store.specs.StoreLimit.{most_cells}
use Rattle.cube_fixed.specs.declared.value.Value.{Value}
use Rattle.cube_fixed.specs.declared.value.Value.TheVariants.{Num, Over}
use Rattle.cube_space.specs.Cells.{IsCell, is_leaf_cell}
use Rattle.cube_space.specs.Layout.{Layout}
use Rattle.dim_name.specs.Name.{is_name}
use Rattle.feed_map.specs.FedCells.{most_fed}
use Rattle.load_cells.specs.Loads.{cell_by_texts, open_among, passed, reason_of, store_of}
use Rattle.rule_model.specs.BoundModel.{BoundModel}
use Rattle.rule_model.specs.Input.{is_input}
use Rattle.rule_model.specs.Named.{cell_named}
use Rattle.script_values.specs.Cells.{unless, unless_refused, with_cell, with_number, with_value, with_zeros, writing, zeroed_at, zeroing}
use Rattle.script_values.specs.declared.load_reason.LoadReason.{LoadReason}
use Rattle.script_values.specs.declared.load_reason.LoadReason.TheVariants.{StoreLimit, FedLimit}
use Rattle.user_session.specs.declared.content.Content.{Content}
use Rattle.user_session.proofs.Within.{AreWithin, named-cell}
use Rattle.std.proofs.lemmas.Bool.{ltb-false as at_most}

-- texts that name a cell
texts-cell : (space : Layout) (cube : List ℕ) (elements : List (List ℕ)) (c : ℕ) → cell_by_texts space cube elements ≡ Some c → IsCell space c
texts-cell space cube elements c is = by (is_name cube && list_all is_name elements) is
  where
    by : (b : Bool) → (if b then cell_named space cube elements else None) ≡ Some c → IsCell space c
    by true is = named-cell space cube elements c is
    by false is = absurd (cc)

-- a cell that may be written is a leaf cell
pub open-leaf : (model : BoundModel) (c : ℕ) → why_closed model c ≡ None → is_leaf_cell model.space c ≡ true
open-leaf model c is = by (is_leaf_cell model.space c) refl (is_input model c) is
  where
    by : (leaf : Bool) → is_leaf_cell model.space c ≡ leaf → (input : Bool)
        → (if not leaf then Some NotALeaf else if not input then Some RuleDerived else None) ≡ None → is_leaf_cell model.space c ≡ true
    by true leaf input is = leaf
    by false leaf input is = absurd (cc)

-- what is stored where no limit is passed
none-passed : (model : BoundModel) (stored : List Entry) → passed model stored ≡ None → IsWithinLimits model stored
none-passed model stored is = by (nat_lt most_cells (length stored)) refl (nat_lt most_fed (fed_count model stored)) refl is
  where
    by : (b : Bool) → nat_lt most_cells (length stored) ≡ b → (d : Bool) → nat_lt most_fed (fed_count model stored) ≡ d
        → (if b then Some (StoreLimit (length stored)) else if d then Some (FedLimit (suc most_fed)) else None) ≡ None
        → IsWithinLimits model stored
    by true few d fed is = absurd (cc)
    by false few true fed is = absurd (cc)
    by false few false fed is = record { few_stored = at_most most_cells (length stored) few; few_fed = at_most most_fed (fed_count model stored) fed }

module _ (content : Content) (before after : List (ℕ × ℤ)) (within : AreWithin content before) where
  abbrev Leads : Result (List (ℕ × ℤ)) LoadReason → Type 0
  Leads written = written ≡ Ok after → AreWithin content after

  with_limits : (c : ℕ) (n : ℤ) → IsCell content.model.space c → is_leaf_cell content.model.space c ≡ true → (limit : Option LoadReason)
      → passed content.model (after_writes content.stored (before ++ (c, n) ∷ [])) ≡ limit → Leads (unless limit (before ++ (c, n) ∷ []))
  with_limits c n cell leaf None is leads =
      let few = none-passed content.model (after_writes content.stored (before ++ (c, n) ∷ [])) is in
      let same : before ++ (c, n) ∷ [] ≡ after = cc in
      subst (AreWithin content) same (record {
        leaves = All-push (λ write. IsCell content.model.space write.0 × (is_leaf_cell content.model.space write.0 ≡ true)) before (c, n) within.leaves (cell, leaf);
        within = λ before. few;
      })
  with_limits c n cell leaf (Some reason) is leads = absurd (cc)

  number_kept : (c : ℕ) (value : Value) → IsCell content.model.space c → is_leaf_cell content.model.space c ≡ true → Leads (with_number (store_of content.model content.stored) before c value)
  number_kept c (Num n) cell leaf leads = with_limits c n cell leaf (passed content.model (after_writes content.stored (before ++ (c, n) ∷ []))) refl leads
  number_kept c Over cell leaf leads = absurd (cc)

  value_kept : (c : ℕ) (value : Value) → IsCell content.model.space c → (why : Option Closed) → why_closed content.model c ≡ why
      → Leads (with_value (store_of content.model content.stored) before c value (option_map reason_of why))
  value_kept c value cell None is leads = number_kept c value cell (open-leaf content.model c is) leads
  value_kept c value cell (Some why) is leads = absurd (cc)

  cell_kept : (value : Value) (named : Option ℕ) → ((c : ℕ) → named ≡ Some c → IsCell content.model.space c) → Leads (with_cell (store_of content.model content.stored) before value named)
  cell_kept value (Some c) is_cell leads = value_kept c value (is_cell c refl) (why_closed content.model c) refl leads
  cell_kept value None is_cell leads = absurd (cc)

  pub write-kept : (cube : List ℕ) (elements : List (List ℕ)) (value : Value) → writing (store_of content.model content.stored) before cube elements value ≡ Ok after → AreWithin content after
  write-kept cube elements value =
      cell_kept value (cell_by_texts content.model.space cube elements) (λ c is. texts-cell content.model.space cube elements c is)

-- a 0 in each of these leaf cells
zeros-kept : (content : Content) (cells : List ℕ) (before after : List (ℕ × ℤ)) → AreWithin content before → All (IsLeaf content.model.space) cells
    → with_zeros (store_of content.model content.stored) before cells ≡ Ok after → AreWithin content after
zeros-kept content [] before after within leaves is = let same : before ≡ after = cc in subst (AreWithin content) same within
zeros-kept content (cell ∷ cells) before after within leaves is =
    by (λ next more. zeros-kept content cells (before ++ (cell, pos 0) ∷ []) after next (All-tail (IsLeaf content.model.space) cell cells leaves) more)
    (passed content.model (after_writes content.stored (before ++ (cell, pos 0) ∷ []))) refl is
  where
    by : (AreWithin content (before ++ (cell, pos 0) ∷ []) → with_zeros (store_of content.model content.stored) (before ++ (cell, pos 0) ∷ []) cells ≡ Ok after → AreWithin content after)
        → (limit : Option LoadReason) → passed content.model (after_writes content.stored (before ++ (cell, pos 0) ∷ [])) ≡ limit
        → unless_refused limit (with_zeros (store_of content.model content.stored) (before ++ (cell, pos 0) ∷ []) cells) ≡ Ok after → AreWithin content after
    by on None is more =
        let own = All-head (IsLeaf content.model.space) cell cells leaves in
        on (with_limits content before (before ++ (cell, pos 0) ∷ []) within cell (pos 0) own.0 own.1 None is refl) more
    by on (Some reason) is more = absurd (cc)

pub zeroing-kept : (content : Content) (before after : List (ℕ × ℤ)) → AreWithin content before → (cube : List ℕ) (elements : List (List ℕ))
    → zeroing (store_of content.model content.stored) before cube elements ≡ Ok after → AreWithin content after
zeroing-kept content before after within cube elements = by (cell_by_texts content.model.space cube elements)
  where
    by : (named : Option ℕ) → zeroed_at (store_of content.model content.stored) before named ≡ Ok after → AreWithin content after
    by (Some cell) is =
        let stored : List ℕ = stored_below content.model.space (after_writes content.stored before) cell in
        zeros-kept content (open_among content.model stored) before after within
        (All-filter (λ one. is_none (why_closed content.model one)) (IsLeaf content.model.space) stored (stored-leaves content.model.space (after_writes content.stored before) cell)) is
    by None is = absurd (cc)
