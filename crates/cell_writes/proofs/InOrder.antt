-- Writes in the order of their cells, and one that is put in among them.
use Rattle.std.proofs.Common.{◌≡◌, refl, ℕ, ◌<◌, ◌≤◌, ℤ, List, [], ◌∷◌, fold, Ordering, Less, Equal, Greater, nat_cmp, arith}
use Rattle.std.specs.Ordering.{match_ordering}
use Rattle.std.specs.BTreeMap.{insert_entry}
use Rattle.std.proofs.lemmas.Cmp.{ranked}

-- each write is of a cell above this one
abbrev pub AllOver : ℕ → List (ℕ × ℤ) → Type 0
AllOver c [] = Unit {0}
AllOver c (w ∷ ws) = (c < w.0) × AllOver c ws

-- each cell is above those before it
abbrev pub InOrder : List (ℕ × ℤ) → Type 0
InOrder [] = Unit {0}
InOrder (w ∷ ws) = AllOver w.0 ws × InOrder ws

pub over-lower : (c d : ℕ) (ws : List (ℕ × ℤ)) → c ≤ d → AllOver d ws → AllOver c ws
over-lower c d [] le all = tt
over-lower c d (w ∷ ws) le all = (omega (arith, le, all.0), over-lower c d ws le all.1)

abbrev pub put_in : Ordering → ℕ → ℤ → ℕ × ℤ → List (ℕ × ℤ) → List (ℕ × ℤ)
put_in o c n w ws = match_ordering o ((c, n) ∷ w ∷ ws) ((w.0, n) ∷ ws) (w ∷ insert_entry nat_cmp ws c n)

over-inserted : (a c : ℕ) (n : ℤ) (ws : List (ℕ × ℤ)) → a < c → AllOver a ws → AllOver a (insert_entry nat_cmp ws c n)
over-inserted a c n [] less all = (less, tt)
over-inserted a c n (w ∷ ws) less all = by (nat_cmp c w.0) (over-inserted a c n ws less all.1)
  where
    by : (o : Ordering) → AllOver a (insert_entry nat_cmp ws c n) → AllOver a (put_in o c n w ws)
    by Less later = (less, all)
    by Equal later = all
    by Greater later = (all.0, later)

pub in_order-inserted : (c : ℕ) (n : ℤ) (ws : List (ℕ × ℤ)) → InOrder ws → InOrder (insert_entry nat_cmp ws c n)
in_order-inserted c n [] order = (tt, tt)
in_order-inserted c n (w ∷ ws) order = by (nat_cmp c w.0) refl (in_order-inserted c n ws order.1)
  where
    by : (o : Ordering) → o ≡ nat_cmp c w.0 → InOrder (insert_entry nat_cmp ws c n) → InOrder (put_in o c n w ws)
    by Less is later =
        let less : c < w.0 = ranked c w.0 Less is in
        ((less, over-lower c w.0 ws (omega (arith, less)) order.0), order)
    by Equal is later = order
    by Greater is later =
        let less : w.0 < c = ranked c w.0 Greater is in
        (over-inserted w.0 c n ws less order.0, later)

-- each of these writes is put in among others
abbrev pub put_all : List (ℕ × ℤ) → List (ℕ × ℤ) → List (ℕ × ℤ)
put_all last writes = fold (λ before write. insert_entry nat_cmp before write.0 write.1) last writes
