-- The last writes of each cell, told by what is found at each cell: a stable sort by cell keeps them.
use Rattle.std.proofs.Common.{◌≡◌, ◌≢◌, ◌∙◌, refl, sym, ap, ℕ, ◌<◌, ◌≤◌, ℤ, Bool, true, false, cond, Option, None, Some, List, [], ◌∷◌, fold, Ordering, Less, Equal, Greater, nat_cmp, eqb, arith, inl, inr}
use Rattle.std.specs.List.Sorted.{IsStableByKey}
use Rattle.std.specs.BTreeMap.{insert_entry}
use Rattle.std.proofs.lemmas.Cmp.{ranked}
use Rattle.std.proofs.lemmas.Bool.{ne_eqb, cases_lt}
use Rattle.std.proofs.lemmas.Bool.Decides.{nat_tests, eqb_tells}
use Rattle.lists.proofs.Found.{none_some, some_same}
use Rattle.lists.proofs.Stable.{latest-sorted}
use Rattle.cell_writes.specs.Writes.{last_writes}
use Rattle.cell_writes.proofs.InOrder.{AllOver, InOrder, over-lower, put_in, in_order-inserted, put_all}

-- ---- what is found at a cell

abbrev pub found : List (ℕ × ℤ) → ℕ → Option ℤ
found [] k = None
found (w ∷ ws) k = cond (eqb w.0 k) (Some w.1) (found ws k)

found-head : (w : ℕ × ℤ) (ws : List (ℕ × ℤ)) (k : ℕ) → w.0 ≡ k → found (w ∷ ws) k ≡ Some w.1
found-head w ws k same = let here : eqb w.0 k ≡ true = grind (arith, nat_tests, same) in rw here refl

found-later : (w : ℕ × ℤ) (ws : List (ℕ × ℤ)) (k : ℕ) → w.0 ≢ k → found (w ∷ ws) k ≡ found ws k
found-later w ws k other = let here : eqb w.0 k ≡ false = ne_eqb w.0 k other in rw here refl

found-over : (c k : ℕ) (ws : List (ℕ × ℤ)) → k ≤ c → AllOver c ws → found ws k ≡ None
found-over c k [] le over = refl
found-over c k (w ∷ ws) le over =
    let more = over.0 in
    found-later w ws k (λ same. omega arith) ∙ found-over c k ws le over.1

found-inserted : (c : ℕ) (n : ℤ) (ws : List (ℕ × ℤ)) (k : ℕ) → found (insert_entry nat_cmp ws c n) k ≡ cond (eqb c k) (Some n) (found ws k)
found-inserted c n [] k = refl
found-inserted c n (w ∷ ws) k = by (nat_cmp c w.0) refl (found-inserted c n ws k)
  where
    apart : (a b : Bool) (before : Option ℤ) → (a ≡ true → b ≡ false) → cond a (Some w.1) (cond b (Some n) before) ≡ cond b (Some n) (cond a (Some w.1) before)
    apart false b before never = refl
    apart true b before never = rw (never refl) refl

    over : (a b : Bool) (before : Option ℤ) → a ≡ b → cond a (Some n) before ≡ cond b (Some n) (cond a (Some w.1) before)
    over true b before same = rw (sym same) refl
    over false b before same = rw (sym same) refl

    by : (o : Ordering) → o ≡ nat_cmp c w.0 → found (insert_entry nat_cmp ws c n) k ≡ cond (eqb c k) (Some n) (found ws k) → found (put_in o c n w ws) k ≡ cond (eqb c k) (Some n) (found (w ∷ ws) k)
    by Less is later = refl
    by Equal is later =
        let same : c ≡ w.0 = ranked c w.0 Equal is in
        over (eqb w.0 k) (eqb c k) (found ws k) (ap (λ (j : ℕ). eqb j k) (sym same))
    by Greater is later =
        let less : w.0 < c = ranked c w.0 Greater is in
        ap (λ (rest : Option ℤ). cond (eqb w.0 k) (Some w.1) rest) later
        ∙ apart (eqb w.0 k) (eqb c k) (found ws k) (λ here. grind (arith, nat_tests, less, here))

-- writes in order are told apart by what is found at each cell
same_found : (us vs : List (ℕ × ℤ)) → InOrder us → InOrder vs → ((k : ℕ) → found us k ≡ found vs k) → us ≡ vs
same_found [] [] order_u order_v same = refl
same_found [] (v ∷ vs) order_u order_v same = absurd (none_some (same v.0 ∙ found-head v vs v.0 refl))
same_found (u ∷ us) [] order_u order_v same = absurd (none_some (sym (same u.0) ∙ found-head u us u.0 refl))
same_found (u ∷ us) (v ∷ vs) order_u order_v same =
    elim (cases_lt u.0 v.0) [
      | inl less ↦ absurd (none_some (sym (found-over u.0 u.0 (v ∷ vs) (omega arith) (less, over-lower u.0 v.0 vs (omega (arith, less)) order_v.0)) ∙ (sym (same u.0) ∙ found-head u us u.0 refl)))
      | inr le ↦ elim (cases_lt v.0 u.0) [
        | inl less ↦ absurd (none_some (sym (found-over v.0 v.0 (u ∷ us) (omega arith) (less, over-lower v.0 u.0 us (omega (arith, less)) order_u.0)) ∙ (same v.0 ∙ found-head v vs v.0 refl)))
        | inr ge ↦ together (omega (arith, le, ge)) (λ rest. same_found us vs order_u.1 order_v.1 rest)
      ]
    ]
  where
    together : u.0 ≡ v.0 → (((k : ℕ) → found us k ≡ found vs k) → us ≡ vs) → u ∷ us ≡ v ∷ vs
    together here rest =
        let values : u.1 ≡ v.1 = some_same (sym (found-head u us u.0 refl) ∙ (same u.0 ∙ found-head v vs u.0 (sym here))) in
        let tails : us ≡ vs = rest (λ k. elim (eqb_tells u.0 k) [
          | inl t ↦ found-over u.0 k us (omega (arith, t.1)) order_u.0 ∙ sym (found-over v.0 k vs (omega (arith, t.1, here)) order_v.0)
          | inr t ↦ sym (found-later u us k t.1) ∙ (same k ∙ found-later v vs k (λ e. t.1 (here ∙ e)))
        ]) in
        λ i. (here i, values i) ∷ tails i

-- ---- what is found after writes

in_order-put : (last writes : List (ℕ × ℤ)) → InOrder last → InOrder (put_all last writes)
in_order-put last [] order = order
in_order-put last (w ∷ writes) order = in_order-put (insert_entry nat_cmp last w.0 w.1) writes (in_order-inserted w.0 w.1 last order)

-- the last number that is written at a cell, where `before` stood there before
abbrev pub latest : Option ℤ → List (ℕ × ℤ) → ℕ → Option ℤ
latest before writes k = fold (λ now write. cond (eqb write.0 k) (Some write.1) now) before writes

pub found-put : (last writes : List (ℕ × ℤ)) (k : ℕ) → found (put_all last writes) k ≡ latest (found last k) writes k
found-put last [] k = refl
found-put last (w ∷ writes) k =
    found-put (insert_entry nat_cmp last w.0 w.1) writes k
    ∙ ap (λ (now : Option ℤ). latest now writes k) (found-inserted w.0 w.1 last k)

-- a stable sort by cell keeps the last writes
pub last_writes-sorted : (writes sorted : List (ℕ × ℤ)) → IsStableByKey (λ (write : ℕ × ℤ). write.0) nat_cmp writes sorted → last_writes sorted ≡ last_writes writes
last_writes-sorted writes sorted stable =
    same_found (last_writes sorted) (last_writes writes) (in_order-put [] sorted tt) (in_order-put [] writes tt) (λ k.
    found-put [] sorted k ∙ (latest-sorted (λ write. write.0) (λ write. write.1) None writes sorted stable k ∙ sym (found-put [] writes k)))
