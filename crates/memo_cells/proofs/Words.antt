-- The words of a memo after one of them is written: what its slots hold, and what is known of them.
use Rattle.std.proofs.Common.{◌≡◌, ◌≢◌, ℕ, ◌+◌, ◌*◌, ◌%◌, ◌<◌, List, length, get_or, set, sym, ap, ◌∙◌, subst, ⊎_elim, arith, get_or-set_same, get_or-set_other}
use mathlib.Core.Logic.{dite}
use native.Mathlib.Decide.{ℕ_discrete}
use Rattle.std.proofs.lemmas.Bool.{or_cases, and_parts, eqb-true}
use Rattle.std.proofs.lemmas.List.Folds.{list_any-append}
use Rattle.memo_cells.specs.declared.version.About.{About}
use Rattle.memo_cells.specs.declared.seat.SeatView.{SeatView}
use Rattle.memo_cells.specs.Values.{cell_value, value_in}
use Rattle.memo_cells.specs.Seats.{key_at, value_at}
use Rattle.memo_cells.specs.Inside.Rule.{HoldsSlot, Fits}
use Rattle.memo_cells.specs.Inside.Plays.{learned, together}

-- each word that isn't 0 stays
abbrev pub Grows : List ℕ → List ℕ → Type 0
Grows ws us = (i : ℕ) → get_or ws i 0 ≢ 0 → get_or us i 0 ≡ get_or ws i 0

pub grows-set : (ws : List ℕ) (i n : ℕ) → get_or ws i 0 ≡ 0 → Grows ws (set ws i n)
grows-set ws i n none j more = get_or-set_other ws i j n 0 (λ same. more (ap (λ k. get_or ws k 0) same ∙ none))

-- a slot holds by its two words alone
pub holds-same : (about : About) (ws us : List ℕ) (slot : ℕ) → get_or us (key_at slot) 0 ≡ get_or ws (key_at slot) 0
    → get_or us (value_at slot) 0 ≡ get_or ws (value_at slot) 0 → HoldsSlot about ws slot → HoldsSlot about us slot
holds-same about ws us slot key value h =
    record {
      empty = λ none. value ∙ h.empty (sym key ∙ none);
      named = λ cell is. h.named cell (sym key ∙ is);
      valued = λ cell is more. ap value_in value ∙ h.valued cell (sym key ∙ is) (λ none. more (value ∙ none));
    }

abbrev pub HoldSlots : About → List ℕ → Type 0
HoldSlots about ws = (slot : ℕ) → slot < about.slots → HoldsSlot about ws slot

-- a key is written for a cell of the slot
pub holds-key : (about : About) (ws : List ℕ) (slot cell : ℕ) → length ws ≡ 2 * about.slots → slot < about.slots
    → cell % about.slots ≡ slot → get_or ws (key_at slot) 0 ≡ 0 → HoldSlots about ws
    → HoldSlots about (set ws (key_at slot) (cell + 1))
holds-key about ws slot cell size below of_slot none h k k_below =
    dite (ℕ_discrete k slot)
    (λ same. subst (HoldsSlot about us) (sym same) here)
    (λ other. holds-same about ws us k
    (get_or-set_other ws (key_at slot) (key_at k) (cell + 1) 0 (λ e. other (omega arith)))
    (get_or-set_other ws (key_at slot) (value_at k) (cell + 1) 0 (λ e. omega arith))
    (h k k_below))
  where
    us : List ℕ
    us = set ws (key_at slot) (cell + 1)

    key : get_or us (key_at slot) 0 ≡ cell + 1
    key = get_or-set_same ws (key_at slot) (cell + 1) 0 (omega arith)

    value : get_or us (value_at slot) 0 ≡ 0
    value = get_or-set_other ws (key_at slot) (value_at slot) (cell + 1) 0 (λ e. omega arith) ∙ (h slot below).empty none

    here : HoldsSlot about us slot
    here =
        record {
          empty = λ e. value;
          named = λ c is. let e = sym is ∙ key in let same : c ≡ cell = omega arith in ap (λ x. x % about.slots) same ∙ of_slot;
          valued = λ c is more. absurd (more value);
        }

-- a value is written for the cell that the key names
pub holds-value : (about : About) (ws : List ℕ) (slot cell word : ℕ) → length ws ≡ 2 * about.slots → slot < about.slots
    → get_or ws (key_at slot) 0 ≡ cell + 1 → 0 < word → value_in word ≡ cell_value about.version cell
    → HoldSlots about ws → HoldSlots about (set ws (value_at slot) word)
holds-value about ws slot cell word size below named more right h k k_below =
    dite (ℕ_discrete k slot)
    (λ same. subst (HoldsSlot about us) (sym same) here)
    (λ other. holds-same about ws us k
    (get_or-set_other ws (value_at slot) (key_at k) word 0 (λ e. omega arith))
    (get_or-set_other ws (value_at slot) (value_at k) word 0 (λ e. other (omega arith)))
    (h k k_below))
  where
    us : List ℕ
    us = set ws (value_at slot) word

    key : get_or us (key_at slot) 0 ≡ get_or ws (key_at slot) 0
    key = get_or-set_other ws (value_at slot) (key_at slot) word 0 (λ e. omega arith)

    value : get_or us (value_at slot) 0 ≡ word
    value = get_or-set_same ws (value_at slot) word 0 (omega arith)

    here : HoldsSlot about us slot
    here =
        record {
          empty = λ none. let e = sym named ∙ (sym key ∙ none) in absurd (omega arith);
          named = λ c is. (h slot below).named c (sym key ∙ is);
          valued = λ c is _.
              let e = sym named ∙ (sym key ∙ is) in
              let same : c ≡ cell = omega arith in
              ap value_in value ∙ (right ∙ ap (cell_value about.version) (sym same));
        }

-- ---- what is known

pub fits-grows : (about : About) (ws us : List ℕ) (v : SeatView) → Grows ws us → Fits about ws v → Fits about us v
fits-grows about ws us v grows fits =
    record {
      version = fits.version;
      slots = fits.slots;
      known = λ at word has. let is = fits.known at word has in (grows at (λ none. is.1 (sym is.0 ∙ none)) ∙ is.0, is.1);
      some = λ at has none. fits.some at has (sym (grows at (fits.some at has)) ∙ none);
    }

-- one word more is known
pub fits-learned : (about : About) (ws : List ℕ) (v : SeatView) (at word : ℕ) → get_or ws at 0 ≡ word → word ≢ 0
    → Fits about ws v → Fits about ws (learned v at word)
fits-learned about ws v at word is more fits =
    record {
      version = fits.version;
      slots = fits.slots;
      known = λ i w has.
          ⊎_elim
          (λ here.
          let parts = and_parts _ _ here in
          let place : at ≡ i = eqb-true at i parts.0 in
          let same : word ≡ w = eqb-true word w parts.1 in
          (ap (λ k. get_or ws k 0) (sym place) ∙ (is ∙ same), λ none. more (same ∙ none)))
          (λ later. fits.known i w later)
          (or_cases _ _ has);
      some = λ i has none.
          ⊎_elim
          (λ here.
          let place : at ≡ i = eqb-true at i here in
          more (sym is ∙ (ap (λ k. get_or ws k 0) place ∙ none)))
          (λ later. fits.some i later none)
          (or_cases _ _ has);
    }

-- what both knew is known
pub fits-together : (about : About) (ws : List ℕ) (v w : SeatView) → Fits about ws v → Fits about ws w
    → Fits about ws (together v w)
fits-together about ws v w one other =
    record {
      version = one.version;
      slots = one.slots;
      known = λ i word has. ⊎_elim (one.known i word) (other.known i word)
          (or_cases _ _ (sym (list_any-append _ v.known w.known) ∙ has));
      some = λ i has. ⊎_elim (one.some i) (other.some i)
          (or_cases _ _ (sym (list_any-append _ v.known w.known) ∙ has));
    }
