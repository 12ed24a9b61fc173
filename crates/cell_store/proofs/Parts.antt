-- A list that stands in parts with more items after them: `last` is the cell of the last item of a part, `items` gives its items.
use Rattle.std.proofs.Common.{◌≡◌, ℕ, Bool, ◌+◌, ◌<◌, List, [], ◌∷◌, ◌++◌, length, map, ap, sym, ◌∙◌, None, Some, All, append_assoc, take, drop, get_or, take-append-drop, inl, inr}
use Rattle.std.specs.List.{slice_get, flat_map}
use Rattle.std.proofs.lemmas.Bool.Decides.{leb_tells}
use Rattle.std.proofs.lemmas.List.Elements.{All-head, All-tail}
use Rattle.std.proofs.lemmas.List.{drop_more}
use Rattle.std.proofs.lemmas.List.Concat.{flat_map-append}
use Rattle.cell_store.specs.Inside.Order.{IsRising, at_least_by, up_to_by, above_by, first_from, EndsAt, after_entries}
use Rattle.cell_store.proofs.Rising.{Rises-from_increasing, increasing_from_Rises}
use Rattle.cell_store.proofs.InOrder.{InOrder, AllOver, AllUpTo, in_order-front, in_order-back, ends_up_to, over-ended}
use Rattle.cell_store.proofs.Edits.{up_to-up_to, over-above, after-parts}
use Rattle.cell_store.proofs.Runs.{first_in_run, first_past_runs, runs_in_order, run_in_order}

pub rising-front : {X : Type 0} (cell : X → ℕ) (front back all : List X) → front ++ back ≡ all → IsRising cell all → IsRising cell front
rising-front cell front back all is up =
    let whole : InOrder cell (front ++ back) = Rises-from_increasing (map cell (front ++ back)) (rw is up) in
    increasing_from_Rises (map cell front) (in_order-front cell front back whole)

pub rising-back : {X : Type 0} (cell : X → ℕ) (front back all : List X) → front ++ back ≡ all → IsRising cell all → IsRising cell back
rising-back cell front back all is up =
    let whole : InOrder cell (front ++ back) = Rises-from_increasing (map cell (front ++ back)) (rw is up) in
    increasing_from_Rises (map cell back) (in_order-back cell front back whole)

-- the first part that ends at or above a cell is one of them
pub found_is : {R : Type 0} (P : R → Type 0) (last : R → ℕ) (parts : List R) (k : ℕ) (part : R) → All P parts → slice_get (at_least_by last parts k) 0 ≡ Some part → P part
found_is P last [] k part all is = absurd (cc)
found_is P last (x ∷ parts) k part all is =
    elim (leb_tells k (last x)) [
      | inl t ↦ (
          let first = rw t.0 at is in
          let same : x ≡ part = cc in
          rw same at (All-head P x parts all))
      | inr t ↦ (let rest = rw t.0 at is in found_is P last parts k part (All-tail P x parts all) rest)
    ]

module _ {R X : Type 0} (cell : X → ℕ) (last : R → ℕ) (items : R → List X) (shared : List R) (more : List X) (ends : All (λ run. EndsAt cell (last run) (items run)) shared) (rising : IsRising cell (flat_map items shared ++ more)) where
  in_order : InOrder cell (flat_map items shared ++ more)
  in_order = Rises-from_increasing (map cell (flat_map items shared ++ more)) rising

  pub shared_rising : IsRising last shared
  shared_rising = increasing_from_Rises (map last shared) (runs_in_order cell last items shared ends (in_order-front cell (flat_map items shared) more in_order))

  pub more_rising : IsRising cell more
  more_rising = increasing_from_Rises (map cell more) (in_order-back cell (flat_map items shared) more in_order)

  pub found_rising : (k : ℕ) (part : R) → slice_get (at_least_by last shared k) 0 ≡ Some part → IsRising cell (items part)
  found_rising k part is = increasing_from_Rises (map cell (items part)) (run_in_order cell last items shared more k part in_order is)

  pub first-in_part : (k : ℕ) (part : R) → slice_get (at_least_by last shared k) 0 ≡ Some part → first_from cell (items part) k ≡ first_from cell (flat_map items shared ++ more) k
  first-in_part k part is = sym (first_in_run cell last items shared more k part ends in_order is)

  pub first-in_more : (k : ℕ) → slice_get (at_least_by last shared k) 0 ≡ None → first_from cell more k ≡ first_from cell (flat_map items shared ++ more) k
  first-in_more k is = sym (first_past_runs cell last items shared more k ends in_order is)

  from_place : (i : ℕ) → InOrder cell (flat_map items (drop i shared) ++ more)
  from_place i =
      let parts : flat_map items shared ≡ flat_map items (take i shared) ++ flat_map items (drop i shared) = ap (λ runs. flat_map items runs) (sym (take-append-drop i shared)) ∙ flat_map-append items (take i shared) (drop i shared) in
      let whole : flat_map items shared ++ more ≡ flat_map items (take i shared) ++ (flat_map items (drop i shared) ++ more) = ap (λ xs. xs ++ more) parts ∙ append_assoc (flat_map items (take i shared)) (flat_map items (drop i shared)) more in
      in_order-back cell (flat_map items (take i shared)) (flat_map items (drop i shared) ++ more) (rw whole at in_order)

  rest_is : (i : ℕ) (part : R) → i < length shared → part ≡ get_or shared i part → flat_map items (drop i shared) ++ more ≡ items part ++ (flat_map items (drop (i + 1) shared) ++ more)
  rest_is i part low is =
      let first : drop i shared ≡ part ∷ drop (i + 1) shared = drop_more shared i part low ∙ ap (λ run. run ∷ drop (i + 1) shared) (sym is) in
      ap (λ runs. flat_map items runs ++ more) first ∙ append_assoc (items part) (flat_map items (drop (i + 1) shared)) more

  part_order : (i : ℕ) (part : R) → i < length shared → part ≡ get_or shared i part → InOrder cell (items part ++ (flat_map items (drop (i + 1) shared) ++ more))
  part_order i part low is = rw (rest_is i part low is) at (from_place i)

  part_ends : (i : ℕ) (part : R) → i < length shared → part ≡ get_or shared i part → EndsAt cell (last part) (items part)
  part_ends i part low is = rw (sym is) at (ends i part low)

  pub rising-part : (i : ℕ) (part : R) → i < length shared → part ≡ get_or shared i part → IsRising cell (items part)
  rising-part i part low is = increasing_from_Rises (map cell (items part)) (in_order-front cell (items part) (flat_map items (drop (i + 1) shared) ++ more) (part_order i part low is))

  -- the writes at or below the last cell of a part change that part alone
  part-next : (is_gone : X → Bool) (i : ℕ) (part : R) (writes here rest : List X) → i < length shared → part ≡ get_or shared i part → here ++ rest ≡ writes → here ≡ up_to_by cell writes (last part) → rest ≡ above_by cell writes (last part)
      → after_entries cell is_gone (flat_map items (drop i shared) ++ more) writes ≡ after_entries cell is_gone (items part) here ++ after_entries cell is_gone (flat_map items (drop (i + 1) shared) ++ more) rest
  part-next is_gone i part writes here rest low is parts early late =
      let order = part_order i part low is in
      let ended = part_ends i part low is in
      let later = flat_map items (drop (i + 1) shared) ++ more in
      let up_to : AllUpTo cell (last part) here = rw early (up_to-up_to cell (last part) writes) in
      let over : AllOver cell (last part) rest = rw late (over-above cell (last part) writes) in
      ap (λ xs. after_entries cell is_gone xs writes) (rest_is i part low is) ∙ (ap (λ ws. after_entries cell is_gone (items part ++ later) ws) (sym parts)
      ∙ after-parts cell is_gone (last part) (items part) later here rest (ends_up_to cell (last part) (items part) (in_order-front cell (items part) later order) ended) (over-ended cell (last part) (items part) later ended order) up_to over)

  -- one part more, where `done` is done so far
  pub changed-next : (is_gone : X → Bool) (i : ℕ) (part : R) (writes here rest done done' total : List X) → i < length shared → part ≡ get_or shared i part → here ++ rest ≡ writes → here ≡ up_to_by cell writes (last part) → rest ≡ above_by cell writes (last part)
      → done' ≡ done ++ after_entries cell is_gone (items part) here → done ++ after_entries cell is_gone (flat_map items (drop i shared) ++ more) writes ≡ total
      → done' ++ after_entries cell is_gone (flat_map items (drop (i + 1) shared) ++ more) rest ≡ total
  changed-next is_gone i part writes here rest done done' total low is parts early late done_is so_far =
      let first = after_entries cell is_gone (items part) here in
      let later = after_entries cell is_gone (flat_map items (drop (i + 1) shared) ++ more) rest in
      ap (λ xs. xs ++ later) done_is ∙ (append_assoc done first later ∙ (ap (λ xs. done ++ xs) (sym (part-next is_gone i part writes here rest low is parts early late)) ∙ so_far))
