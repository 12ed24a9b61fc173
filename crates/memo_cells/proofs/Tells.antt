-- What the words that a look or a keep finds say of cells.
use Rattle.std.proofs.Common.{◌≡◌, ◌≢◌, ℕ, ◌+◌, ◌-◌, ◌%◌, Some, true, cond, sym, refl, ap, ◌∙◌, subst, arith}
use Rattle.std.proofs.lemmas.Bool.{and_from, or_left, eq-eqb, ne_eqb}
use Rattle.cube_fixed.specs.declared.value.Value.{Value}
use Rattle.memo_cells.specs.declared.version.Version.{Version}
use Rattle.memo_cells.specs.declared.seat.SeatView.{SeatView}
use Rattle.memo_cells.specs.Values.{cell_value, value_in}
use Rattle.memo_cells.specs.Seats.{key_at, value_at, has_word}
use Rattle.memo_cells.specs.Inside.Plays.{Found, learned, missed, after_load}

-- the key of another cell is of a cell of this slot
pub other-in_slot : (v : SeatView) (slot key slots : ℕ) → Found v (key_at slot) key → v.slots ≡ slots → key ≢ 0
    → (key - 1) % slots ≡ slot
other-in_slot v slot key slots found same more =
    ap (λ n. (key - 1) % n) (sym same) ∙ found.named slot (key - 1) refl (omega arith)

-- the value under the cell's key is the cell's
pub value-found : (v w : SeatView) (slot cell key word : ℕ) (version : Version) (value : Value) → key ≡ cell + 1
    → w ≡ after_load v (key_at slot) key → Found w (value_at slot) word → w.version ≡ Some version → word ≢ 0
    → value ≡ value_in word → value ≡ cell_value version cell
value-found v w slot cell key word version value is loaded found live more read =
    read ∙ found.valued slot cell version live refl has more
  where
    learns : after_load v (key_at slot) key ≡ learned v (key_at slot) key
    learns = ap (λ b. cond b (missed v (key_at slot)) (learned v (key_at slot) key)) (ne_eqb key 0 (λ e. omega arith))

    has : has_word w.known (key_at slot) (cell + 1) ≡ true
    has =
        subst (λ (x : SeatView). has_word x.known (key_at slot) (cell + 1) ≡ true) (sym (loaded ∙ learns))
        (or_left _ _ (and_from _ _ (eq-eqb (key_at slot) (key_at slot) refl) (eq-eqb key (cell + 1) is)))
