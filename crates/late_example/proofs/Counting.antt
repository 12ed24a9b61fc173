-- The references of a statement for cells of a kind, by their numbers.
use Rattle.std.proofs.Common.{◌≡◌, refl, sym, ap, ◌∙◌, arith, ℕ, zero, suc, ◌-◌, Bool, true, false, Option, Some, None, List, [], ◌∷◌, ◌++◌, length, map, if◌then◌else◌, inl, inr}
use Rattle.std.specs.Prelude.{slice_get, option_and_then}
use Rattle.std.proofs.lemmas.Bool.{cases_lt, lt-ltb, le-ltb}
use Rattle.std.proofs.lemmas.List.{length-map}
use Rattle.rule_laws.specs.Meaning.{Precedent}
use Rattle.rule_model.specs.declared.rules.Form.{Form}
use Rattle.rule_model.specs.declared.rules.Form.TheVariants.{Both, LeafFirst, ConsFirst}
use Rattle.rule_model.specs.declared.rules.Statement.{Statement}
use Rattle.ref_order.specs.Counted.{Counted, for_leaf, for_cons, for_both, counted_by, counted_of, reads}
use Rattle.ref_order.specs.declared.reads.Read.{Read}
use Rattle.ref_order.specs.Reads.{precedent_of}
use Rattle.late_example.specs.Example.{at_number, read_for}
use Rattle.late_example.specs.Inside.Counting.{comes_second, picked}

picked-none : (xs : List Precedent) (n : ℕ) → picked xs 0 n ≡ slice_get xs n
picked-none xs n = ap (λ t. if t then None else slice_get xs (n - 0)) (le-ltb n 0 (omega arith)) ∙ ap (slice_get xs) (let e : n - 0 ≡ n = omega arith in e)

picked-first : (xs : List Precedent) (k : ℕ) → None ≡ picked xs (suc k) 0
picked-first xs k = sym (ap (λ t. if t then None else slice_get xs (0 - suc k)) (lt-ltb 0 (suc k) (omega arith)))

picked-next : (xs : List Precedent) (k n : ℕ) → picked xs k n ≡ picked xs (suc k) (suc n)
picked-next xs k n = elim (cases_lt n k) [
  | inl low ↦ ap (λ t. if t then None else slice_get xs (n - k)) (lt-ltb n k low) ∙ sym (ap (λ t. if t then None else slice_get xs (suc n - suc k)) (lt-ltb (suc n) (suc k) (omega (arith, low))))
  | inr high ↦ ap (λ t. if t then None else slice_get xs (n - k)) (le-ltb n k high) ∙ ap (slice_get xs) (let e : n - k ≡ suc n - suc k = omega arith in e)
      ∙ sym (ap (λ t. if t then None else slice_get xs (suc n - suc k)) (le-ltb (suc n) (suc k) (omega (arith, high))))
]

-- references of one kind before those of the other
module _ (sel : Counted → Option Precedent) (own other : Precedent → Counted) (gives : (p : Precedent) → sel (own p) ≡ Some p) (lacks : (p : Precedent) → sel (other p) ≡ None) where
  at-own : (xs : List Precedent) (n : ℕ) → option_and_then sel (slice_get (map own xs) n) ≡ slice_get xs n
  at-own [] n = refl
  at-own (x ∷ xs) zero = gives x
  at-own (x ∷ xs) (suc n) = at-own xs n

  at-other : (xs : List Precedent) (n : ℕ) → option_and_then sel (slice_get (map other xs) n) ≡ None
  at-other [] n = refl
  at-other (x ∷ xs) zero = lacks x
  at-other (x ∷ xs) (suc n) = at-other xs n

  first : (xs ys : List Precedent) (n : ℕ) → option_and_then sel (slice_get (map own xs ++ map other ys) n) ≡ slice_get xs n
  first [] ys n = at-other ys n
  first (x ∷ xs) ys zero = gives x
  first (x ∷ xs) ys (suc n) = first xs ys n

  second : (xs ys : List Precedent) (n : ℕ) → option_and_then sel (slice_get (map other xs ++ map own ys) n) ≡ picked ys (length xs) n
  second [] ys n = at-own ys n ∙ sym (picked-none ys n)
  second (x ∷ xs) ys zero = lacks x ∙ picked-first ys (length xs)
  second (x ∷ xs) ys (suc n) = second xs ys n ∙ picked-next ys (length xs) n

both-leaf : (leaf cons : List Precedent) (n : ℕ) → option_and_then (λ it. read_for it true) (slice_get (for_both leaf cons) n) ≡ slice_get leaf n
both-leaf [] cons n = at-other (λ it. read_for it true) for_leaf for_cons (λ p. refl) (λ p. refl) cons n
both-leaf (p ∷ leaf) [] n = at-own (λ it. read_for it true) for_leaf for_cons (λ p. refl) (λ p. refl) (p ∷ leaf) n
both-leaf (p ∷ leaf) (q ∷ cons) zero = refl
both-leaf (p ∷ leaf) (q ∷ cons) (suc n) = both-leaf leaf cons n

both-cons : (leaf cons : List Precedent) (n : ℕ) → option_and_then (λ it. read_for it false) (slice_get (for_both leaf cons) n) ≡ slice_get cons n
both-cons [] cons n = at-own (λ it. read_for it false) for_cons for_leaf (λ p. refl) (λ p. refl) cons n
both-cons (p ∷ leaf) [] n = at-other (λ it. read_for it false) for_cons for_leaf (λ p. refl) (λ p. refl) (p ∷ leaf) n
both-cons (p ∷ leaf) (q ∷ cons) zero = refl
both-cons (p ∷ leaf) (q ∷ cons) (suc n) = both-cons leaf cons n

abbrev before : Form → Bool → List Precedent → ℕ
before form kind others = if comes_second form kind then length others else 0

leaf-at : (form : Form) (leaf cons : List Precedent) (n : ℕ) → picked leaf (before form true cons) n ≡ option_and_then (λ it. read_for it true) (slice_get (counted_by form leaf cons) n)
leaf-at Both leaf cons n = picked-none leaf n ∙ sym (both-leaf leaf cons n)
leaf-at LeafFirst leaf cons n = picked-none leaf n ∙ sym (first (λ it. read_for it true) for_leaf for_cons (λ p. refl) (λ p. refl) leaf cons n)
leaf-at ConsFirst leaf cons n = sym (second (λ it. read_for it true) for_leaf for_cons (λ p. refl) (λ p. refl) cons leaf n)

cons-at : (form : Form) (leaf cons : List Precedent) (n : ℕ) → picked cons (before form false leaf) n ≡ option_and_then (λ it. read_for it false) (slice_get (counted_by form leaf cons) n)
cons-at Both leaf cons n = picked-none cons n ∙ sym (both-cons leaf cons n)
cons-at LeafFirst leaf cons n = sym (second (λ it. read_for it false) for_cons for_leaf (λ p. refl) (λ p. refl) leaf cons n)
cons-at ConsFirst leaf cons n = picked-none cons n ∙ sym (first (λ it. read_for it false) for_cons for_leaf (λ p. refl) (λ p. refl) cons leaf n)

pub leaf-counted : (s : Statement) (n : ℕ) → picked (reads s.leaf) (if comes_second s.form true then length (reads s.cons) else 0) n ≡ option_and_then (λ it. read_for it true) (slice_get (counted_of s) n)
unfolding counted_of
leaf-counted s n = leaf-at s.form (reads s.leaf) (reads s.cons) n

pub cons-counted : (s : Statement) (n : ℕ) → picked (reads s.cons) (if comes_second s.form false then length (reads s.leaf) else 0) n ≡ option_and_then (λ it. read_for it false) (slice_get (counted_of s) n)
unfolding counted_of
cons-counted s n = cons-at s.form (reads s.leaf) (reads s.cons) n

-- ---- the same by what the code has read

numbered : (s : Statement) (sel : Counted → Option Precedent) (n place : ℕ) → (n ≡ 0 → ⊥) → place ≡ n - 1 → option_and_then sel (slice_get (counted_of s) place) ≡ option_and_then sel (at_number (counted_of s) n)
numbered s sel zero place some at = absurd (some refl)
numbered s sel (suc n) place some at = ap (λ k. option_and_then sel (slice_get (counted_of s) k)) (let e : place ≡ n = omega (arith, at) in e)

as-many : (second : Bool) (rs : List Read) (ps : List Precedent) → map precedent_of rs ≡ ps → (if second then length rs else 0) ≡ (if second then length ps else 0)
as-many true rs ps same = sym (length-map rs precedent_of) ∙ ap length same
as-many false rs ps same = refl

pub leaf_read : (s : Statement) (n place before : ℕ) (own others : List Read) (second : Bool) → (n ≡ 0 → ⊥) → place ≡ n - 1 → map precedent_of own ≡ reads s.leaf → map precedent_of others ≡ reads s.cons
    → second ≡ comes_second s.form true → before ≡ (if second then length others else 0) → picked (map precedent_of own) before place ≡ option_and_then (λ it. read_for it true) (at_number (counted_of s) n)
leaf_read s n place before own others second some at mine theirs comes is =
    ap (λ ps. picked ps before place) mine
    ∙ ap (λ k. picked (reads s.leaf) k place) (is ∙ as-many second others (reads s.cons) theirs ∙ ap (λ (b : Bool). if b then length (reads s.cons) else 0) comes)
    ∙ leaf-counted s place ∙ numbered s (λ it. read_for it true) n place some at

pub cons_read : (s : Statement) (n place before : ℕ) (own others : List Read) (second : Bool) → (n ≡ 0 → ⊥) → place ≡ n - 1 → map precedent_of own ≡ reads s.cons → map precedent_of others ≡ reads s.leaf
    → second ≡ comes_second s.form false → before ≡ (if second then length others else 0) → picked (map precedent_of own) before place ≡ option_and_then (λ it. read_for it false) (at_number (counted_of s) n)
cons_read s n place before own others second some at mine theirs comes is =
    ap (λ ps. picked ps before place) mine
    ∙ ap (λ k. picked (reads s.cons) k place) (is ∙ as-many second others (reads s.leaf) theirs ∙ ap (λ (b : Bool). if b then length (reads s.leaf) else 0) comes)
    ∙ cons-counted s place ∙ numbered s (λ it. read_for it false) n place some at
