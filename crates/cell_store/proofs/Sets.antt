-- The cells of a set with others, and without others.
use Rattle.std.proofs.Common.{◌≡◌, ◌↔◌, ℕ, zero, suc, ◌<◌, ◌⊎◌, Bool, true, false, cond, List, [], ◌∷◌, ◌++◌, length, filter, Contains, get_or, ap, ◌∙◌, ltb, inl, inr, arith, refl}
use Rattle.std.proofs.lemmas.Bool.{cases_lt}
use Rattle.std.proofs.lemmas.Bool.Decides.{nat_tests}
use Rattle.std.specs.List.Sorted.{IsStrictlyIncreasing}
use Rattle.cell_store.specs.Cells.{IsUnion, IsDifference}
use Rattle.cell_store.specs.declared.member.Member.{Member}
use Rattle.cell_store.specs.Inside.Order.{cells_by, below_by, above_by, kept_by, with_entry, after_entries, last_at}
use Rattle.cell_store.specs.Inside.Sets.{member_cell, is_removed, members_of}
use Rattle.cell_store.proofs.Rising.{Rises-from_increasing, increasing_from_Rises}
use Rattle.cell_store.proofs.InOrder.{InOrder}
use Rattle.cell_store.proofs.Edits.{in_order-after}
use Rattle.cell_store.proofs.LastWrites.{after-last}

abbrev member : Bool → ℕ → Member
member gone cell = record { cell = cell; gone = gone }

abbrev cells : List Member → List ℕ
cells xs = cells_by member_cell xs

-- a cell is one of these members', by recursion
abbrev In : ℕ → List Member → Type 0
In k [] = ⊥
In k (x ∷ xs) = (x.cell ≡ k) ⊎ In k xs

in_from_at : (k : ℕ) (xs : List Member) (i : ℕ) → i < length (cells xs) → get_or (cells xs) i k ≡ k → In k xs
in_from_at k [] i low is = absurd (omega arith)
in_from_at k (x ∷ xs) zero low is = inl is
in_from_at k (x ∷ xs) (suc i) low is = inr (in_from_at k xs i (omega arith) is)

in_from_contains : (k : ℕ) (xs : List Member) → Contains (cells xs) k → In k xs
in_from_contains k xs has = in_from_at k xs has.0 has.1 has.2

contains_from_in : (k : ℕ) (xs : List Member) → In k xs → Contains (cells xs) k
contains_from_in k [] has = absurd has
contains_from_in k (x ∷ xs) (inl is) = (0, omega arith, is)
contains_from_in k (x ∷ xs) (inr has) = let later = contains_from_in k xs has in (suc later.0, omega arith, later.2)

in-first : (k : ℕ) (xs ys : List Member) → In k xs → In k (xs ++ ys)
in-first k [] ys has = absurd has
in-first k (x ∷ xs) ys (inl is) = inl is
in-first k (x ∷ xs) ys (inr has) = inr (in-first k xs ys has)

in-second : (k : ℕ) (xs ys : List Member) → In k ys → In k (xs ++ ys)
in-second k [] ys has = has
in-second k (x ∷ xs) ys has = inr (in-second k xs ys has)

in-cases : {P : Type 0} (k : ℕ) (xs ys : List Member) → (In k xs → P) → (In k ys → P) → In k (xs ++ ys) → P
in-cases k [] ys first second has = second has
in-cases k (x ∷ xs) ys first second (inl is) = first (inl is)
in-cases k (x ∷ xs) ys first second (inr has) = in-cases k xs ys (λ m. first (inr m)) second has

-- what a filter keeps is there, and passes

in_part : (k : ℕ) (b : Bool) (q : ℕ → Bool) (x : Member) (xs ys : List Member) → q x.cell ≡ b
    → (In k xs → In k ys × (q k ≡ true)) → In k (cond b (x ∷ xs) xs) → In k (x ∷ ys) × (q k ≡ true)
in_part k true q x xs ys is later (inl same) = (inl same, rw same at is)
in_part k true q x xs ys is later (inr has) = let one = later has in (inr one.0, one.1)
in_part k false q x xs ys is later has = let one = later has in (inr one.0, one.1)

in_from_filter : (k : ℕ) (q : ℕ → Bool) (xs : List Member) → In k (filter (λ x. q x.cell) xs) → In k xs × (q k ≡ true)
in_from_filter k q [] has = absurd has
in_from_filter k q (x ∷ xs) has = in_part k (q x.cell) q x (filter (λ x. q x.cell) xs) xs refl (in_from_filter k q xs) has

in_kept : (k : ℕ) (b : Bool) (x : Member) (xs : List Member) → (x.cell ≡ k → b ≡ true) → (x.cell ≡ k) ⊎ In k xs → In k (cond b (x ∷ xs) xs)
in_kept k true x xs keeps has = has
in_kept k false x xs keeps (inl is) = absurd (let bad = keeps is in cc)
in_kept k false x xs keeps (inr has) = has

in_filter_rest : (k : ℕ) (x : Member) (xs ys : List Member) → (In k xs → In k ys) → In k (x ∷ xs) → (x.cell ≡ k) ⊎ In k ys
in_filter_rest k x xs ys later (inl is) = inl is
in_filter_rest k x xs ys later (inr has) = inr (later has)

in-filter : (k : ℕ) (q : ℕ → Bool) → q k ≡ true → (xs : List Member) → In k xs → In k (filter (λ x. q x.cell) xs)
in-filter k q passes [] has = absurd has
in-filter k q passes (x ∷ xs) has =
    in_kept k (q x.cell) x (filter (λ x. q x.cell) xs) (λ is. ap q is ∙ passes) (in_filter_rest k x xs (filter (λ x. q x.cell) xs) (in-filter k q passes xs) has)

-- one write

abbrev with : Bool → List Member → ℕ → List Member
with gone xs w = with_entry member_cell is_removed xs (member gone w)

abbrev end : Bool → List Member → ℕ → List Member
end gone xs w = kept_by is_removed (member gone w) ++ above_by member_cell xs w

-- another cell stays, if it is there
in-with : (k : ℕ) (gone : Bool) (xs : List Member) (w : ℕ) → (w ≡ k → ⊥) → In k xs → In k (with gone xs w)
in-with k gone xs w other has =
    elim (cases_lt k w) [
      | inl less ↦ (let here : ltb k w ≡ true = grind (arith, nat_tests) in in-first k (below_by member_cell xs w) (end gone xs w) (in-filter k (λ n. ltb n w) here xs has))
      | inr le ↦ elim (cases_lt w k) [
        | inl more ↦ (let here : ltb w k ≡ true = grind (arith, nat_tests) in in-second k (below_by member_cell xs w) (end gone xs w) (in-second k (kept_by is_removed (member gone w)) (above_by member_cell xs w) (in-filter k (λ n. ltb w n) here xs has)))
        | inr ge ↦ absurd (other (omega arith))
      ]
    ]

in-added : (k : ℕ) (xs : List Member) (w : ℕ) → w ≡ k → In k (with false xs w)
in-added k xs w is = in-second k (below_by member_cell xs w) (end false xs w) (inl is)

less_other : (k w : ℕ) → ltb k w ≡ true → w ≡ k → ⊥
less_other k w less is = grind (arith, nat_tests)

more_other : (k w : ℕ) → ltb w k ≡ true → w ≡ k → ⊥
more_other k w more is = grind (arith, nat_tests)

-- what is there after it was there before and is another cell, or is put in
in_from_end : (k : ℕ) (gone : Bool) (xs : List Member) (w : ℕ) → In k (end gone xs w) → (In k xs × (w ≡ k → ⊥)) ⊎ ((gone ≡ false) × (w ≡ k))
in_from_end k true xs w has = let one = in_from_filter k (λ n. ltb w n) xs has in inl (one.0, more_other k w one.1)
in_from_end k false xs w (inl is) = inr (refl, is)
in_from_end k false xs w (inr has) = let one = in_from_filter k (λ n. ltb w n) xs has in inl (one.0, more_other k w one.1)

in_from_with : (k : ℕ) (gone : Bool) (xs : List Member) (w : ℕ) → In k (with gone xs w) → (In k xs × (w ≡ k → ⊥)) ⊎ ((gone ≡ false) × (w ≡ k))
in_from_with k gone xs w has =
    in-cases k (below_by member_cell xs w) (end gone xs w) (λ m. let one = in_from_filter k (λ n. ltb n w) xs m in inl (one.0, less_other k w one.1)) (in_from_end k gone xs w) has

-- all of them

abbrev after : Bool → List Member → List ℕ → List Member
after gone xs ws = after_entries member_cell is_removed xs (members_of gone ws)

-- one of these cells, by recursion
abbrev Is : ℕ → List ℕ → Type 0
Is k [] = ⊥
Is k (w ∷ ws) = (w ≡ k) ⊎ Is k ws

is_from_at : (k : ℕ) (ws : List ℕ) (i : ℕ) → i < length ws → get_or ws i k ≡ k → Is k ws
is_from_at k [] i low is = absurd (omega arith)
is_from_at k (w ∷ ws) zero low is = inl is
is_from_at k (w ∷ ws) (suc i) low is = inr (is_from_at k ws i (omega arith) is)

is_from_contains : (k : ℕ) (ws : List ℕ) → Contains ws k → Is k ws
is_from_contains k ws has = is_from_at k ws has.0 has.1 has.2

contains_from_is : (k : ℕ) (ws : List ℕ) → Is k ws → Contains ws k
contains_from_is k [] is = absurd is
contains_from_is k (w ∷ ws) (inl is) = (0, omega arith, is)
contains_from_is k (w ∷ ws) (inr is) = let later = contains_from_is k ws is in (suc later.0, omega arith, later.2)

in_with_of : (k : ℕ) (xs : List Member) (w : ℕ) → In k xs → In k (with false xs w)
in_with_of k xs w has =
    elim (cases_lt k w) [
      | inl less ↦ in-with k false xs w (λ is. omega arith) has
      | inr le ↦ elim (cases_lt w k) [
        | inl more ↦ in-with k false xs w (λ is. omega arith) has
        | inr ge ↦ in-added k xs w (omega arith)
      ]
    ]

in-stays : (k : ℕ) (xs : List Member) (ws : List ℕ) → In k xs → In k (after false xs ws)
in-stays k xs [] has = has
in-stays k xs (w ∷ ws) has = in-stays k (with false xs w) ws (in_with_of k xs w has)

in-put : (k : ℕ) (xs : List Member) (ws : List ℕ) → Is k ws → In k (after false xs ws)
in-put k xs [] is = absurd is
in-put k xs (w ∷ ws) (inl is) = in-stays k (with false xs w) ws (in-added k xs w is)
in-put k xs (w ∷ ws) (inr is) = in-put k (with false xs w) ws is

in-left : (k : ℕ) (gone : Bool) (xs : List Member) (ws : List ℕ) → In k xs → (Is k ws → ⊥) → In k (after gone xs ws)
in-left k gone xs [] has others = has
in-left k gone xs (w ∷ ws) has others = in-left k gone (with gone xs w) ws (in-with k gone xs w (λ is. others (inl is)) has) (λ is. others (inr is))

in_from_union : (k : ℕ) (xs : List Member) (ws : List ℕ) → In k (after false xs ws) → In k xs ⊎ Is k ws
in_from_union k xs [] has = inl has
in_from_union k xs (w ∷ ws) has =
    elim (in_from_union k (with false xs w) ws has) [
      | inl one ↦ elim (in_from_with k false xs w one) [ inl was ↦ inl was.0 | inr put ↦ inr (inl put.1) ]
      | inr is ↦ inr (inr is)
    ]

neither : (k w : ℕ) (ws : List ℕ) → (w ≡ k → ⊥) → (Is k ws → ⊥) → Is k (w ∷ ws) → ⊥
neither k w ws other others (inl is) = other is
neither k w ws other others (inr is) = others is

in_from_left : (k : ℕ) (xs : List Member) (ws : List ℕ) → In k (after true xs ws) → In k xs × (Is k ws → ⊥)
in_from_left k xs [] has = (has, λ is. is)
in_from_left k xs (w ∷ ws) has =
    let later = in_from_left k (with true xs w) ws has in
    elim (in_from_with k true xs w later.0) [
      | inl was ↦ (was.0, neither k w ws was.1 later.1)
      | inr put ↦ absurd (let bad = put.0 in cc)
    ]

module _ (gone : Bool) (xs last all : List Member) (ws : List ℕ) (rising : IsStrictlyIncreasing (cells xs))
    (same : (k : ℕ) → last_at member_cell last k ≡ last_at member_cell (members_of gone ws) k)
    (is : all ≡ after_entries member_cell is_removed xs last) where
  order : InOrder member_cell xs
  order = Rises-from_increasing (cells xs) rising

  whole : all ≡ after gone xs ws
  whole = is ∙ after-last member_cell is_removed xs last (members_of gone ws) order same

  -- a set is one after its last writes
  pub still-rising : IsStrictlyIncreasing (cells all)
  still-rising = rw whole (increasing_from_Rises (cells (after gone xs ws)) (in_order-after member_cell is_removed xs (members_of gone ws) order))

union-cells : (xs all : List Member) (ws : List ℕ) → all ≡ after false xs ws → (k : ℕ) → Contains (cells all) k ↔ (Contains (cells xs) k ⊎ Contains ws k)
union-cells xs all ws whole k = rw whole (
  λ has. elim (in_from_union k xs ws (in_from_contains k (after false xs ws) has)) [ inl one ↦ inl (contains_from_in k xs one) | inr one ↦ inr (contains_from_is k ws one) ],
  λ has. contains_from_in k (after false xs ws) (elim has [ inl one ↦ in-stays k xs ws (in_from_contains k xs one) | inr one ↦ in-put k xs ws (is_from_contains k ws one) ]),
)

left-cells : (xs all : List Member) (ws : List ℕ) → all ≡ after true xs ws → (k : ℕ) → Contains (cells all) k ↔ (Contains (cells xs) k × (Contains ws k → ⊥))
left-cells xs all ws whole k = rw whole (
  λ has. let one = in_from_left k xs ws (in_from_contains k (after true xs ws) has) in (contains_from_in k xs one.0, λ other. one.1 (is_from_contains k ws other)),
  λ has. contains_from_in k (after true xs ws) (in-left k true xs ws (in_from_contains k xs has.0) (λ one. has.1 (contains_from_is k ws one))),
)

module _ (gone : Bool) (xs last all : List Member) (ws : List ℕ) (rising : IsStrictlyIncreasing (cells xs))
    (same : (k : ℕ) → last_at member_cell last k ≡ last_at member_cell (members_of gone ws) k)
    (is : all ≡ after_entries member_cell is_removed xs last) where
  -- a set with the last writes of the cells is the union
  pub union_of : gone ≡ false → IsUnion (cells xs) ws (cells all)
  union_of put = record {
    rising = still-rising gone xs last all ws rising same is;
    cells = union-cells xs all ws (whole gone xs last all ws rising same is ∙ ap (λ (b : Bool). after b xs ws) put);
  }

  -- and without them the difference
  pub difference_of : gone ≡ true → IsDifference (cells xs) ws (cells all)
  difference_of taken = record {
    rising = still-rising gone xs last all ws rising same is;
    cells = left-cells xs all ws (whole gone xs last all ws rising same is ∙ ap (λ (b : Bool). after b xs ws) taken);
  }
