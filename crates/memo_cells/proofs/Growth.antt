-- Nothing that was known is lost.
use Rattle.std.proofs.Common.{◌≡◌, ℕ, ◌+◌, ◌-◌, ◌%◌, ◌≤◌, Bool, true, false, cond, List, [], ◌∷◌, ◌++◌, sym, refl, ◌∙◌, subst, arith, eqb, le_refl, le_trans}
use Rattle.std.proofs.lemmas.Bool.{and_parts, and_from, or_left, or_right}
use Rattle.std.proofs.lemmas.List.Folds.{list_any-append}
use Rattle.memo_cells.specs.declared.seat.SeatView.{SeatView}
use Rattle.memo_cells.specs.Knowledge.{Grew}
use Rattle.memo_cells.specs.Seats.{key_at, value_at, has_word, has_some, times, knows_in, names_in, zeros_in, known_by}
use Rattle.memo_cells.specs.Inside.Plays.{learned, claiming, after_claim, after_put, together}

-- what is known of words is known still
record Longer (v w : SeatView) : Type 0 where
  pub slots : v.slots ≡ w.slots
  pub word : (at word : ℕ) → has_word v.known at word ≡ true → has_word w.known at word ≡ true
  pub more : (at : ℕ) → has_some v.known at ≡ true → has_some w.known at ≡ true
  pub zeros : (at : ℕ) → times at v.zeros ≤ times at w.zeros

grew-longer : (v w : SeatView) → Longer v w → Grew (known_by v) (known_by w)
grew-longer v w longer =
    record {
      knows = λ cell has. subst (λ n. knows_in w (cell % n) cell ≡ true) longer.slots (knows (cell % v.slots) cell has);
      names = λ cell other has.
          subst (λ n. names_in w (cell % n) cell other ≡ true) longer.slots (names (cell % v.slots) cell other has);
      zeros = λ cell.
          subst (λ n. zeros_in v (cell % v.slots) ≤ zeros_in w (cell % n)) longer.slots (zeros (cell % v.slots));
    }
  where
    knows : (slot cell : ℕ) → knows_in v slot cell ≡ true → knows_in w slot cell ≡ true
    knows slot cell has =
        let parts = and_parts _ _ has in
        and_from _ _ (longer.word (key_at slot) (cell + 1) parts.0) (longer.more (value_at slot) parts.1)

    names : (slot cell other : ℕ) → names_in v slot cell other ≡ true → names_in w slot cell other ≡ true
    names slot cell other has =
        let parts = and_parts _ _ has in and_from _ _ (longer.word (key_at slot) (other + 1) parts.0) parts.1

    zeros : (slot : ℕ) → zeros_in v slot ≤ zeros_in w slot
    zeros slot = let a = longer.zeros (key_at slot) in let b = longer.zeros (value_at slot) in omega arith

longer-learned : (v : SeatView) (at word : ℕ) → Longer v (learned v at word)
longer-learned v at word =
    record {
      slots = refl;
      word = λ i w has. or_right _ _ has;
      more = λ i has. or_right _ _ has;
      zeros = λ i. le_refl _;
    }

longer-claiming : (v w : SeatView) (cell : ℕ) → Longer v w → Longer v (claiming w cell)
longer-claiming v w cell longer =
    record { slots = longer.slots; word = longer.word; more = longer.more; zeros = longer.zeros }

longer-then : (v w x : SeatView) → Longer v w → Longer w x → Longer v x
longer-then v w x one other =
    record {
      slots = one.slots ∙ other.slots;
      word = λ i word has. other.word i word (one.word i word has);
      more = λ i has. other.more i (one.more i has);
      zeros = λ i. le_trans (one.zeros i) (other.zeros i);
    }

longer-claim : (v : SeatView) (at key word : ℕ) → Longer v (after_claim v at key word)
longer-claim v at key word = by (eqb word 0)
  where
    by : (b : Bool) → Longer v (cond b (claiming (learned v at key) (key - 1)) (learned v at word))
    by true = longer-claiming v (learned v at key) (key - 1) (longer-learned v at key)
    by false = longer-learned v at word

longer-put : (v : SeatView) (at value word : ℕ) → Longer v (after_put v at value word)
longer-put v at value word = by (eqb word 0)
  where
    by : (b : Bool) → Longer v (cond b (learned v at value) (learned v at word))
    by true = longer-learned v at value
    by false = longer-learned v at word

-- through the one step of a reservation
pub grew-reserved : (v w : SeatView) (at key found : ℕ) → w ≡ after_claim v at key found → Grew (known_by v) (known_by w)
grew-reserved v w at key found claim =
    grew-longer v w (subst (Longer v) (sym claim) (longer-claim v at key found))

-- through the two steps of a keep
pub grew-kept : (v w x : SeatView) (at key found place value there : ℕ) → w ≡ after_claim v at key found
    → x ≡ after_put w place value there → Grew (known_by v) (known_by x)
grew-kept v w x at key found place value there claim put =
    grew-longer v x (longer-then v w x
    (subst (Longer v) (sym claim) (longer-claim v at key found))
    (subst (Longer w) (sym put) (longer-put w place value there)))

times-append : (x : ℕ) (xs ys : List ℕ) → times x (xs ++ ys) ≡ times x xs + times x ys
times-append x [] ys = omega arith
times-append x (y ∷ xs) ys = let later = times-append x xs ys in omega arith

pub grew-own : (v w x : SeatView) → x ≡ together v w → Grew (known_by v) (known_by x)
grew-own v w x is =
    subst (λ (x : SeatView). Grew (known_by v) (known_by x)) (sym is)
    (grew-longer v (together v w)
    record {
      slots = refl;
      word = λ i word has. list_any-append _ v.known w.known ∙ or_left _ _ has;
      more = λ i has. list_any-append _ v.known w.known ∙ or_left _ _ has;
      zeros = λ i. let e = times-append i v.zeros w.zeros in omega arith;
    })

pub grew-other : (v w x : SeatView) → w.slots ≡ v.slots → x ≡ together v w → Grew (known_by w) (known_by x)
grew-other v w x slots is =
    subst (λ (x : SeatView). Grew (known_by w) (known_by x)) (sym is)
    (grew-longer w (together v w)
    record {
      slots = slots;
      word = λ i word has. list_any-append _ v.known w.known ∙ or_right _ _ has;
      more = λ i has. list_any-append _ v.known w.known ∙ or_right _ _ has;
      zeros = λ i. let e = times-append i v.zeros w.zeros in omega arith;
    })
