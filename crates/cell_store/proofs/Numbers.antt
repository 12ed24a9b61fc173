-- The number of a cell, in the parts of a list of entries.
use Rattle.std.proofs.Common.{◌≡◌, ◌≢◌, ℕ, ◌≤◌, ℤ, pos, true, false, List, [], ◌∷◌, refl, ap, sym, ◌∙◌, eqb, leb, eq-eqb, None, Some, find, inl, inr, arith}
use Rattle.std.proofs.lemmas.Bool.{ne_eqb}
use Rattle.std.proofs.lemmas.Bool.Decides.{eqb_tells, leb_tells}
use Rattle.cell_store.specs.declared.entry.Entry.{Entry}
use Rattle.cell_store.specs.Entries.{cells_of, number_at}
use Rattle.cell_store.proofs.Rising.{AllAbove, Rises}

pub number_at-head : (e : Entry) (es : List Entry) → number_at (e ∷ es) e.cell ≡ e.number
number_at-head e es = let same : eqb e.cell e.cell ≡ true = eq-eqb e.cell e.cell refl in rw same refl

pub number_at-later : (e : Entry) (es : List Entry) (k : ℕ) → e.cell ≢ k → number_at (e ∷ es) k ≡ number_at es k
number_at-later e es k other = let differs : eqb e.cell k ≡ false = ne_eqb e.cell k other in rw differs refl

-- no entry above a cell is its own
pub number_at-above : (n k : ℕ) (es : List Entry) → k ≤ n → AllAbove n (cells_of es) → number_at es k ≡ pos 0
number_at-above n k [] le above = refl
number_at-above n k (e ∷ es) le above =
    let differs : eqb e.cell k ≡ false = ne_eqb e.cell k (λ same. omega arith) in
    rw differs (number_at-above n k es le above.1)

-- the first entry at or above a cell tells its number
pub number_at-found : (es : List Entry) (k : ℕ) (e : Entry) → find (λ x. leb k x.cell) es ≡ Some e → e.cell ≡ k → number_at es k ≡ e.number
number_at-found [] k e is at = absurd (cc)
number_at-found (x ∷ xs) k e is at =
    elim (leb_tells k x.cell) [
      | inl t ↦ (
          let same = rw t.0 at is in
          let first : x ≡ e = cc in
          let here : x.cell ≡ k = ap (λ (y : Entry). y.cell) first ∙ at in
          ap (λ (n : ℕ). number_at (x ∷ xs) n) (sym here) ∙ (number_at-head x xs ∙ ap (λ (y : Entry). y.number) first))
      | inr t ↦ (
          let rest = rw t.0 at is in
          number_at-later x xs k (λ same. omega arith) ∙ number_at-found xs k e rest at)
    ]

pub number_at-passed : (es : List Entry) (k : ℕ) (e : Entry) → Rises (cells_of es) → find (λ x. leb k x.cell) es ≡ Some e → e.cell ≢ k → number_at es k ≡ pos 0
number_at-passed [] k e rises is other = refl
number_at-passed (x ∷ xs) k e rises is other =
    elim (leb_tells k x.cell) [
      | inl t ↦ (
          let same = rw t.0 at is in
          let first : x ≡ e = cc in
          number_at-later x xs k (λ at. other (sym (ap (λ (y : Entry). y.cell) first) ∙ at)) ∙ number_at-above x.cell k xs t.1 rises.0)
      | inr t ↦ (
          let rest = rw t.0 at is in
          number_at-later x xs k (λ at. omega arith) ∙ number_at-passed xs k e rises.1 rest other)
    ]

pub number_at-ended : (es : List Entry) (k : ℕ) → find (λ x. leb k x.cell) es ≡ None → number_at es k ≡ pos 0
number_at-ended [] k is = refl
number_at-ended (x ∷ xs) k is =
    elim (leb_tells k x.cell) [
      | inl t ↦ absurd (let bad = rw t.0 at is in cc)
      | inr t ↦ (
          let rest = rw t.0 at is in
          number_at-later x xs k (λ at. omega arith) ∙ number_at-ended xs k rest)
    ]

pub number_at-next : (es : List Entry) (k : ℕ) (e : Entry) (n : ℤ) → Rises (cells_of es) → find (λ x. leb k x.cell) es ≡ Some e → (e.cell ≡ k → n ≡ e.number) → (e.cell ≢ k → n ≡ pos 0) → n ≡ number_at es k
number_at-next es k e n rises is same other =
    elim (eqb_tells e.cell k) [
      | inl t ↦ same t.1 ∙ sym (number_at-found es k e is t.1)
      | inr t ↦ other t.1 ∙ sym (number_at-passed es k e rises is t.1)
    ]
