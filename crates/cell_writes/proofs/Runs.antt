-- Writes in the order of their cells, of which those of a cell go into the first one: their last writes are left.
use Rattle.std.proofs.Common.{◌≡◌, ◌∙◌, refl, sym, subst, ap, ℕ, suc, ◌<◌, ◌≤◌, ℤ, Bool, true, false, cond, List, [], ◌∷◌, Ordering, Less, Equal, Greater, nat_cmp, eqb, arith}
use Rattle.std.specs.Bool.{MatchBool}
use Rattle.std.specs.Ordering.{match_ordering}
use Rattle.std.specs.List.Retain.{DedupsFrom, IsDeduped}
use Rattle.std.specs.List.Sorted.{IsNonDecreasingBy}
use Rattle.std.specs.BTreeMap.{insert_entry}
use Rattle.std.proofs.lemmas.Cmp.{ranked}
use Rattle.std.proofs.lemmas.Bool.Decides.{nat_tests}
use Rattle.cell_writes.specs.Writes.{last_writes}
use Rattle.cell_writes.proofs.InOrder.{put_all}

-- no write is of a cell below this one, nor below the cell of an earlier write
abbrev NotFalling : ℕ → List (ℕ × ℤ) → Type 0
NotFalling c [] = Unit {0}
NotFalling c (w ∷ ws) = (c ≤ w.0) × NotFalling w.0 ws

not_falling : (w : ℕ × ℤ) (ws : List (ℕ × ℤ)) → IsNonDecreasingBy (λ (w : ℕ × ℤ). w.0) (w ∷ ws) → NotFalling w.0 ws
not_falling w [] sorted = tt
not_falling w (v ∷ ws) sorted = (
  sorted 0 1 v (omega arith) (omega arith),
  not_falling v ws (λ i j d le within. sorted (suc i) (suc j) d (omega (arith, le)) (omega (arith, within))),
)

-- a first entry below all that is written stays in front
front : (e : ℕ × ℤ) (es ws : List (ℕ × ℤ)) (c : ℕ) → e.0 < c → NotFalling c ws → put_all (e ∷ es) ws ≡ e ∷ put_all es ws
front e es [] c less rising = refl
front e es (w ∷ ws) c less rising =
    let here : nat_cmp w.0 e.0 ≡ Greater = grind (arith, nat_tests, less, rising.0) in
    rw here (front e (insert_entry nat_cmp es w.0 w.1) ws w.0 (omega (arith, less, rising.0)) rising.1)

-- a test that says whether two writes are of one cell, and leaves the later one's number with the earlier one
abbrev pub TakesOver : {S : Type 0} → (S → ℕ × ℤ → ℕ × ℤ → Bool → S → ℕ × ℤ → ℕ × ℤ → Type 0) → Type 0
TakesOver {S} R = (s : S) (later earlier : ℕ × ℤ) (same : Bool) (t : S) (later' earlier' : ℕ × ℤ) → R s later earlier same t later' earlier'
    → (same ≡ eqb later.0 earlier.0) × (later' ≡ later) × (earlier' ≡ cond same (earlier.0, later.1) earlier)

module _ {S : Type 0} (R : S → ℕ × ℤ → ℕ × ℤ → Bool → S → ℕ × ℤ → ℕ × ℤ → Type 0) (takes : TakesOver R) where
  from : (s : S) (e : ℕ × ℤ) (ws left : List (ℕ × ℤ)) → NotFalling e.0 ws → DedupsFrom R s e ws left → left ≡ put_all (e ∷ []) ws
  from s e [] left rising done = done
  from s e (w ∷ ws) left rising done =
      by done.0 (nat_cmp w.0 e.0) refl (takes s w e done.0 done.1 done.2 done.3 done.4) done.5 (λ t f rest later more. from t f ws rest later more)
    where
      by : (same : Bool) (o : Ordering) → o ≡ nat_cmp w.0 e.0
          → (same ≡ eqb w.0 e.0) × (done.2 ≡ w) × (done.3 ≡ cond same (e.0, w.1) e)
          → MatchBool same (DedupsFrom R done.1 done.3 ws left) ((rest : List (ℕ × ℤ)) × DedupsFrom R done.1 done.2 ws rest × (left ≡ done.3 ∷ rest))
          → ((t : S) (f : ℕ × ℤ) (rest : List (ℕ × ℤ)) → NotFalling f.0 ws → DedupsFrom R t f ws rest → rest ≡ put_all (f ∷ []) ws)
          → left ≡ put_all (match_ordering o (w ∷ e ∷ []) ((e.0, w.1) ∷ []) (e ∷ w ∷ [])) ws
      by same Less is learnt goes next = absurd (let less : w.0 < e.0 = ranked w.0 e.0 Less is in omega (arith, less, rising.0))
      by true Equal is learnt goes next =
          let here : w.0 ≡ done.3.0 = ranked w.0 e.0 Equal is ∙ sym (ap (λ (f : ℕ × ℤ). f.0) learnt.2) in
          next done.1 done.3 left (subst (λ (c : ℕ). NotFalling c ws) here rising.1) goes
          ∙ ap (λ (f : ℕ × ℤ). put_all (f ∷ []) ws) learnt.2
      by false Equal is learnt goes next = absurd (let here : w.0 ≡ e.0 = ranked w.0 e.0 Equal is in let other = learnt.0 in grind (arith, nat_tests))
      by true Greater is learnt goes next = absurd (let less : e.0 < w.0 = ranked w.0 e.0 Greater is in let same = learnt.0 in grind (arith, nat_tests))
      by false Greater is learnt goes next =
          let less : e.0 < w.0 = ranked w.0 e.0 Greater is in
          let after = next done.1 done.2 goes.0 (subst (λ (f : ℕ × ℤ). NotFalling f.0 ws) (sym learnt.1) rising.1) goes.1 in
          goes.2
          ∙ ((λ i. learnt.2 i ∷ after i)
          ∙ (ap (λ (f : ℕ × ℤ). e ∷ put_all (f ∷ []) ws) learnt.1
          ∙ sym (front e (w ∷ []) ws w.0 less rising.1)))

  pub last_writes-left : (s : S) (ws left : List (ℕ × ℤ)) → IsNonDecreasingBy (λ (w : ℕ × ℤ). w.0) ws → IsDeduped R s ws left → left ≡ last_writes ws
  last_writes-left s [] left sorted done = done.told
  last_writes-left s (w ∷ ws) left sorted done = from s w ws left (not_falling w ws sorted) done.told
