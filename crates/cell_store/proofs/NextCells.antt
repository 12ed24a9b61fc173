-- The first cell, and the first entry, at or above a cell.
use Rattle.std.proofs.Common.{◌≡◌, ℕ, zero, suc, ◌<◌, ◌↔◌, true, false, IsTrue, None, Some, List, [], ◌∷◌, length, map, find, Contains, get_or, refl, ap, subst, eqb, leb, eq-eqb, inl, inr, arith}
use Rattle.std.specs.Option.{option_map}
use Rattle.std.proofs.lemmas.Bool.Decides.{nat_tests, leb_tells, Decides-eqb}
use Rattle.cell_store.specs.Cells.{next_from}
use Rattle.cell_store.proofs.Rising.{AllAbove, Rises}

-- the cell of the first item is the first cell
pub next_of_items : {X : Type 0} (cell : X → ℕ) (xs : List X) (k : ℕ) → next_from (map cell xs) k ≡ option_map cell (find (λ x. leb k (cell x)) xs)
next_of_items cell [] k = refl
next_of_items cell (x ∷ xs) k =
    elim (leb_tells k (cell x)) [
      | inl t ↦ rw t.0 refl
      | inr t ↦ rw t.0 (next_of_items cell xs k)
    ]

contains_next : (cells : List ℕ) (k n : ℕ) → next_from cells k ≡ Some n → Contains cells n
contains_next [] k n is = absurd (cc)
contains_next (x ∷ xs) k n is =
    elim (leb_tells k x) [
      | inl t ↦ (let same = rw t.0 at is in let at : x ≡ n = cc in (0, omega arith, at))
      | inr t ↦ (let rest = rw t.0 at is in let later = contains_next xs k n rest in (suc later.0, omega arith, later.2))
    ]

le_here : (k x : ℕ) → x ≡ k → leb k x ≡ true
le_here k x is = grind (arith, nat_tests)

gt_here : (k x : ℕ) → x < k → leb k x ≡ false
gt_here k x less = grind (arith, nat_tests)

above_member : (n k : ℕ) (cells : List ℕ) (i d : ℕ) → AllAbove n cells → i < length cells → get_or cells i d ≡ k → n < k
above_member n k [] i d all low is = absurd (omega arith)
above_member n k (x ∷ xs) zero d all low is = let here = all.0 in omega (arith, is)
above_member n k (x ∷ xs) (suc i) d all low is = above_member n k xs i d all.1 (omega arith) is

next_at : (cells : List ℕ) (k i : ℕ) → Rises cells → i < length cells → get_or cells i k ≡ k → next_from cells k ≡ Some k
next_at [] k i rises low is = absurd (omega arith)
next_at (x ∷ xs) k zero rises low is =
    let here : leb k x ≡ true = le_here k x is in
    rw here (ap (λ (n : ℕ). Some n) is)
next_at (x ∷ xs) k (suc i) rises low is =
    let less = above_member x k xs i k rises.0 (omega arith) is in
    let here : leb k x ≡ false = gt_here k x less in
    rw here (next_at xs k i rises.1 (omega arith) is)

-- the next cell from a cell is the cell itself where it is in the set
pub has-next : (cells : List ℕ) (k n : ℕ) → Rises cells → next_from cells k ≡ Some n → IsTrue (eqb n k) ↔ Contains cells k
has-next cells k n rises is = (
  λ same. let at : n ≡ k = (Decides-eqb n k).0 same in subst (λ (m : ℕ). Contains cells m) at (contains_next cells k n is),
  λ member. let found = next_at cells k member.0 rises member.1 member.2 in let at : n ≡ k = cc in eq-eqb n k at,
)

pub has-none : (cells : List ℕ) (k : ℕ) → Rises cells → next_from cells k ≡ None → IsTrue false ↔ Contains cells k
has-none cells k rises is = (
  λ same. absurd (cc),
  λ member. let found = next_at cells k member.0 rises member.1 member.2 in absurd (cc),
)
