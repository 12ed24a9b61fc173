-- The next stored or fed cell.
use Rattle.std.proofs.Common.{◌≡◌, ◌≢◌, ◌∙◌, refl, sym, ap, subst, arith, ℕ, ◌<◌, ◌≤◌, leb, eqb, inl, inr, Bool, true, false, List, [], ◌∷◌, map, Option, None, Some, find}
use Rattle.std.proofs.lemmas.Bool.{cases_lt, eqb-true, eq-eqb, ne_eqb}
use Rattle.std.proofs.lemmas.Bool.Decides.{leb_tells}
use Rattle.std.proofs.lemmas.List.{map-id}
use Rattle.cell_store.specs.declared.entry.Entry.{Entry}
use Rattle.cube_fixed.specs.declared.money.Money.{Money}
use Rattle.cell_store.specs.Entries.{cells_of}
use Rattle.cell_store.proofs.Rising.{AllAbove, Rises}
use Rattle.stored_laws.specs.Stored.{stored_in}
use Rattle.dim_order.specs.Members.{is_among}
use Rattle.sparse_sum.specs.Live.{is_live}
use Rattle.sparse_sum.specs.Inside.First.{IsNext}

above-other : (a n : ℕ) (cells : List ℕ) → n ≤ a → AllAbove a cells → is_among cells n ≡ false
above-other a n [] le above = refl
above-other a n (x ∷ cells) le above =
    let e : eqb n x ≡ false = ne_eqb n x (λ same. omega (arith, le, above.0, same)) in
    rw e (above-other a n cells le above.1)

module _ {X : Type 0} (key : X → ℕ) (k : ℕ) where
  pub next-none : (xs : List X) → find (λ x. leb k (key x)) xs ≡ None → (n : ℕ) → k ≤ n → is_among (map key xs) n ≡ false
  next-none [] is n low = refl
  next-none (x ∷ xs) is n low = elim (leb_tells k (key x)) [
    | inl t ↦ (let found : Some x ≡ None = rw t.0 at is in absurd (cc))
    | inr t ↦ (let other : eqb n (key x) ≡ false = ne_eqb n (key x) (λ same. omega (arith, low, t.1, same)) in
        let rest : find (λ x. leb k (key x)) xs ≡ None = rw t.0 at is in
        rw other (next-none xs rest n low))
  ]

  pub next-some : (xs : List X) (found : X) → Rises (map key xs) → find (λ x. leb k (key x)) xs ≡ Some found
      → (k ≤ key found) × (is_among (map key xs) (key found) ≡ true) × ((n : ℕ) → k ≤ n → n < key found → is_among (map key xs) n ≡ false)
  next-some [] found rises is = absurd (cc)
  next-some (x ∷ xs) found rises is = elim (leb_tells k (key x)) [
    | inl t ↦ (let own : Some x ≡ Some found = rw t.0 at is in let same : x ≡ found = cc in subst (λ (y : X). (k ≤ key y) × (is_among (map key (x ∷ xs)) (key y) ≡ true) × ((n : ℕ) → k ≤ n → n < key y → is_among (map key (x ∷ xs)) n ≡ false)) same (here t.1))
    | inr t ↦ (let rest : find (λ x. leb k (key x)) xs ≡ Some found = rw t.0 at is in
        let later = next-some xs found rises.1 rest in
        (later.0, among later.1, λ n low less. (let other : eqb n (key x) ≡ false = ne_eqb n (key x) (λ same. omega (arith, low, t.1, same)) in rw other (later.2 n low less))))
  ]
    where
      here : k ≤ key x → (k ≤ key x) × (is_among (map key (x ∷ xs)) (key x) ≡ true) × ((n : ℕ) → k ≤ n → n < key x → is_among (map key (x ∷ xs)) n ≡ false)
      here low =
          let own : eqb (key x) (key x) ≡ true = eq-eqb (key x) (key x) refl in
          (low, rw own refl, λ n from less. (let other : eqb n (key x) ≡ false = ne_eqb n (key x) (λ same. omega (arith, less, same)) in rw other (above-other (key x) n (map key xs) (omega (arith, less)) rises.0)))

      among : is_among (map key xs) (key found) ≡ true → is_among (map key (x ∷ xs)) (key found) ≡ true
      among is = by (eqb (key found) (key x)) refl
        where
          by : (b : Bool) → eqb (key found) (key x) ≡ b → is_among (map key (x ∷ xs)) (key found) ≡ true
          by true e = rw e refl
          by false e = rw (e, is) refl

-- what is stored in a cell
pub stored-none : (entries : List Entry) (n : ℕ) → is_among (cells_of entries) n ≡ false → stored_in entries n ≡ None
unfolding stored_in
stored-none [] n none = refl
stored-none (e ∷ entries) n none = by (eqb e.cell n) refl (λ rest. stored-none entries n rest)
  where
    by : (b : Bool) → eqb e.cell n ≡ b → (is_among (cells_of entries) n ≡ false → stored_in entries n ≡ None) → stored_in (e ∷ entries) n ≡ None
    by true is later =
        let turned : eqb n e.cell ≡ true = eq-eqb n e.cell (sym (eqb-true e.cell n is)) in
        let clash : true ≡ false = rw turned at none in
        absurd (cc)
    by false is later =
        let turned : eqb n e.cell ≡ false = ne_eqb n e.cell (λ same. (let own = eq-eqb e.cell n (sym same) in let clash : true ≡ false = sym own ∙ is in cc)) in
        let rest : is_among (cells_of entries) n ≡ false = rw turned at none in
        rw is (later rest)

pub stored-some : (entries : List Entry) (k : ℕ) (found : Entry) → Rises (cells_of entries) → find (λ e. leb k e.cell) entries ≡ Some found → stored_in entries found.cell ≡ Some found.number
unfolding stored_in
stored-some [] k found rises is = absurd (cc)
stored-some (e ∷ entries) k found rises is = elim (leb_tells k e.cell) [
  | inl t ↦ (let own : Some e ≡ Some found = rw t.0 at is in let same : e ≡ found = cc in
      let at : eqb e.cell found.cell ≡ true = eq-eqb e.cell found.cell (ap (λ (x : Entry). x.cell) same) in
      rw at (ap (λ (x : Entry). Some x.number) same))
  | inr t ↦ (let rest : find (λ e. leb k e.cell) entries ≡ Some found = rw t.0 at is in
      let later = next-some (λ (e : Entry). e.cell) k entries found rises.1 rest in
      let other : eqb e.cell found.cell ≡ false = ne_eqb e.cell found.cell (λ same. omega (arith, later.0, t.1, same)) in
      rw other (stored-some entries k found rises.1 rest))
]

-- neither is live where no one is
pub quiet-both : (stored fed : List ℕ) (n : ℕ) → is_among stored n ≡ false → is_among fed n ≡ false → is_live stored fed n ≢ true
quiet-both stored fed n one two is = let none : is_live stored fed n ≡ false = rw (one, two) refl in let clash : true ≡ false = sym is ∙ none in cc

module _ (fed : List ℕ) (k : ℕ) where
  fed-none : find (λ c. leb k c) fed ≡ None → (n : ℕ) → k ≤ n → is_among fed n ≡ false
  fed-none is n low = ap (λ (cells : List ℕ). is_among cells n) (sym (map-id fed)) ∙ next-none (λ (c : ℕ). c) k fed is n low

  fed-some : (f : ℕ) → Rises fed → find (λ c. leb k c) fed ≡ Some f → (k ≤ f) × (is_among fed f ≡ true) × ((n : ℕ) → k ≤ n → n < f → is_among fed n ≡ false)
  fed-some f rises is =
      let found = next-some (λ (c : ℕ). c) k fed f (subst Rises (sym (map-id fed)) rises) is in
      subst (λ (cells : List ℕ). (k ≤ f) × (is_among cells f ≡ true) × ((n : ℕ) → k ≤ n → n < f → is_among cells n ≡ false)) (map-id fed) found

module _ (entries : List Entry) (fed : List ℕ) (k : ℕ) where
  abbrev live : ℕ → Bool
  live = is_live (cells_of entries) fed

  pub live-none : find (λ e. leb k e.cell) entries ≡ None → find (λ c. leb k c) fed ≡ None → (n : ℕ) → k ≤ n → live n ≢ true
  live-none one two n low =
      quiet-both (cells_of entries) fed n (next-none (λ (e : Entry). e.cell) k entries one n low) (fed-none fed k two n low)

  -- the fed cell comes first: it isn't stored
  pub next-fed : (f : ℕ) → Rises fed → find (λ c. leb k c) fed ≡ Some f → ((n : ℕ) → k ≤ n → n ≤ f → is_among (cells_of entries) n ≡ false)
      → IsNext live k f × (stored_in entries f ≡ None)
  next-fed f rises is none =
      let found = fed-some fed k f rises is in
      let own : is_among (cells_of entries) f ≡ false = none f found.0 (omega arith) in (
        record {
          least = found.0;
          passes = rw (own, found.1) refl;
          clear = λ n low less. quiet-both (cells_of entries) fed n (none n low (omega (arith, less))) (found.2 n low less);
        },
        stored-none entries f own,
      )

  pub next-fed-only : (f : ℕ) → Rises fed → find (λ c. leb k c) fed ≡ Some f → find (λ e. leb k e.cell) entries ≡ None → IsNext live k f × (stored_in entries f ≡ None)
  next-fed-only f rises is none = next-fed f rises is (λ n low upto. next-none (λ (e : Entry). e.cell) k entries none n low)

  pub next-fed-first : (f : ℕ) (e : Entry) → Rises (cells_of entries) → Rises fed → find (λ c. leb k c) fed ≡ Some f → find (λ e. leb k e.cell) entries ≡ Some e → f < e.cell
      → IsNext live k f × (stored_in entries f ≡ None)
  next-fed-first f e up rises is other less =
      let found = next-some (λ (x : Entry). x.cell) k entries e up other in
      next-fed f rises is (λ n low upto. found.2 n low (omega (arith, upto, less)))

  -- the stored cell comes first
  next-stored : (e : Entry) → Rises (cells_of entries) → find (λ e. leb k e.cell) entries ≡ Some e → ((n : ℕ) → k ≤ n → n < e.cell → is_among fed n ≡ false)
      → IsNext live k e.cell × (stored_in entries e.cell ≡ Some e.number)
  next-stored e up is none =
      let found = next-some (λ (x : Entry). x.cell) k entries e up is in (
        record {
          least = found.0;
          passes = rw found.1 refl;
          clear = λ n low less. quiet-both (cells_of entries) fed n (found.2 n low less) (none n low less);
        },
        stored-some entries k e up is,
      )

  pub next-stored-only : (e : Entry) → Rises (cells_of entries) → find (λ e. leb k e.cell) entries ≡ Some e → find (λ c. leb k c) fed ≡ None
      → IsNext live k e.cell × (stored_in entries e.cell ≡ Some e.number)
  next-stored-only e up is none = next-stored e up is (λ n low less. fed-none fed k none n low)

  pub next-stored-first : (e : Entry) (f : ℕ) → Rises (cells_of entries) → Rises fed → find (λ e. leb k e.cell) entries ≡ Some e → find (λ c. leb k c) fed ≡ Some f → e.cell ≤ f
      → IsNext live k e.cell × (stored_in entries e.cell ≡ Some e.number)
  next-stored-first e f up rises is other le =
      let found = fed-some fed k f rises other in
      next-stored e up is (λ n low less. found.2 n low (omega (arith, less, le)))

  -- the one that comes first
  pub next-of-both : (e : Entry) (f : ℕ) (first : ℕ × Option Money) → Rises (cells_of entries) → Rises fed → find (λ e. leb k e.cell) entries ≡ Some e → find (λ c. leb k c) fed ≡ Some f
      → (f < e.cell → first ≡ (f, None)) → (e.cell ≤ f → first ≡ (e.cell, Some e.number)) → IsNext live k first.0 × (first.1 ≡ stored_in entries first.0)
  next-of-both e f first up rises is other fed_first stored_first = elim (cases_lt f e.cell) [
    | inl less ↦ (let found = next-fed-first f e up rises other is less in
        subst IsAnswer (sym (fed_first less)) (found.0, sym found.1))
    | inr le ↦ (let found = next-stored-first e f up rises is other le in
        subst IsAnswer (sym (stored_first le)) (found.0, sym found.1))
  ]
    where
      IsAnswer : ℕ × Option Money → Type 0
      IsAnswer one = IsNext live k one.0 × (one.1 ≡ stored_in entries one.0)
