-- Of the writes of one cell only the last matters.
use Rattle.std.proofs.Common.{◌≡◌, ◌≢◌, ℕ, ◌+◌, ◌<◌, ◌≤◌, Bool, true, false, cond, Option, None, Some, List, [], ◌∷◌, ◌++◌, length, map, filter, fold, eqb, ltb, eq-eqb, arith, refl, ap, sym, ◌∙◌, inl, inr, append-nil, take, get_or}
use Rattle.std.specs.Ordering.{nat_cmp}
use Rattle.std.specs.List.Sorted.{IsNonDecreasingBy, IsStableByKey}
use Rattle.std.proofs.lemmas.List.{take_more, take_all, get_or_read, get_or-map, length-map}
use Rattle.std.proofs.lemmas.Bool.{ne_eqb, cases_lt}
use Rattle.std.proofs.lemmas.Bool.Decides.{nat_tests, eqb_tells}
use Rattle.std.proofs.lemmas.List.Elements.{filter-append}
use Rattle.lists.proofs.Stable.{latest-sorted}
use Rattle.cell_store.specs.Inside.Order.{IsRising, below_by, above_by, kept_by, with_entry, after_entries, last_at}
use Rattle.cell_store.proofs.Rising.{Rises-from_increasing, increasing_from_Rises}
use Rattle.cell_store.proofs.InOrder.{InOrder, AllOver, AllUpTo}
use Rattle.cell_store.proofs.Edits.{in_order-after, below_then, up_to-append, up_to-below}

module _ {X : Type 0} (cell : X → ℕ) where
  -- the items of one cell
  abbrev pub at : List X → ℕ → List X
  at xs k = filter (λ x. eqb (cell x) k) xs

  at-head : (x : X) (xs : List X) (k : ℕ) → cell x ≡ k → at (x ∷ xs) k ≡ x ∷ at xs k
  at-head x xs k same = let here : eqb (cell x) k ≡ true = eq-eqb (cell x) k same in rw here refl

  at-later : (x : X) (xs : List X) (k : ℕ) → cell x ≢ k → at (x ∷ xs) k ≡ at xs k
  at-later x xs k other = let here : eqb (cell x) k ≡ false = ne_eqb (cell x) k other in rw here refl

  at-over : (n k : ℕ) (xs : List X) → k ≤ n → AllOver cell n xs → at xs k ≡ []
  at-over n k [] le over = refl
  at-over n k (x ∷ xs) le over =
      let more = over.0 in
      let here : eqb (cell x) k ≡ false = ne_eqb (cell x) k (λ same. omega arith) in
      rw here (at-over n k xs le over.1)

  skipped : (b : Bool) (x : X) (xs : List X) (k : ℕ) → cell x ≢ k → at (cond b (x ∷ xs) xs) k ≡ at xs k
  skipped true x xs k other = at-later x xs k other
  skipped false x xs k other = refl

  -- a filter keeps the items of a cell, or drops them
  at-kept : (q : X → Bool) (k : ℕ) → ((x : X) → cell x ≡ k → q x ≡ true) → (xs : List X) → at (filter q xs) k ≡ at xs k
  at-kept q k keeps [] = refl
  at-kept q k keeps (x ∷ xs) =
      elim (eqb_tells (cell x) k) [
        | inl t ↦ rw (keeps x t.1, t.0) (ap (λ ys. x ∷ ys) (at-kept q k keeps xs))
        | inr t ↦ skipped (q x) x (filter q xs) k t.1 ∙ (at-kept q k keeps xs ∙ sym (at-later x xs k t.1))
      ]

  at-dropped : (q : X → Bool) (k : ℕ) → ((x : X) → cell x ≡ k → q x ≡ false) → (xs : List X) → at (filter q xs) k ≡ []
  at-dropped q k drops [] = refl
  at-dropped q k drops (x ∷ xs) =
      elim (eqb_tells (cell x) k) [
        | inl t ↦ rw (drops x t.1) (at-dropped q k drops xs)
        | inr t ↦ skipped (q x) x (filter q xs) k t.1 ∙ at-dropped q k drops xs
      ]

  first_of : (x y : X) (xs ys : List X) → x ∷ xs ≡ y ∷ ys → x ≡ y
  first_of x y xs ys same = cc

  -- items in order are told apart by those of each cell
  same_at : (x y : X) (xs ys : List X) → cell x ≡ cell y → InOrder cell (x ∷ xs) → InOrder cell (y ∷ ys) → ((k : ℕ) → at (x ∷ xs) k ≡ at (y ∷ ys) k) → (((k : ℕ) → at xs k ≡ at ys k) → xs ≡ ys) → x ∷ xs ≡ y ∷ ys
  same_at x y xs ys here rx ry same rest =
      let heads : x ≡ y = first_of x y (at xs (cell x)) (at ys (cell x)) (sym (at-head x xs (cell x) refl) ∙ (same (cell x) ∙ at-head y ys (cell x) (sym here))) in
      let tails : (k : ℕ) → at xs k ≡ at ys k = λ k. elim (eqb_tells (cell x) k) [
        | inl t ↦ at-over (cell x) k xs (omega arith) rx.0 ∙ sym (at-over (cell y) k ys (omega arith) ry.0)
        | inr t ↦ sym (at-later x xs k t.1) ∙ (same k ∙ at-later y ys k (λ e. t.1 (here ∙ e)))
      ] in
      ap (λ (z : X). z ∷ xs) heads ∙ ap (λ (zs : List X). y ∷ zs) (rest tails)

  nil_cons : (x : X) (xs : List X) → [] ≡ x ∷ xs → ⊥
  nil_cons x xs same = absurd (cc)

  same_items : (xs ys : List X) → InOrder cell xs → InOrder cell ys → ((k : ℕ) → at xs k ≡ at ys k) → xs ≡ ys
  same_items [] [] rx ry same = refl
  same_items [] (y ∷ ys) rx ry same = absurd (nil_cons y (at ys (cell y)) (same (cell y) ∙ at-head y ys (cell y) refl))
  same_items (x ∷ xs) [] rx ry same = absurd (nil_cons x (at xs (cell x)) (sym (same (cell x)) ∙ at-head x xs (cell x) refl))
  same_items (x ∷ xs) (y ∷ ys) rx ry same =
      elim (cases_lt (cell x) (cell y)) [
        | inl less ↦ absurd (nil_cons x (at xs (cell x)) (sym (at-later y ys (cell x) (λ e. omega arith) ∙ at-over (cell y) (cell x) ys (omega arith) ry.0) ∙ (sym (same (cell x)) ∙ at-head x xs (cell x) refl)))
        | inr le ↦ elim (cases_lt (cell y) (cell x)) [
          | inl less ↦ absurd (nil_cons y (at ys (cell y)) (sym (at-later x xs (cell y) (λ e. omega arith) ∙ at-over (cell x) (cell y) xs (omega arith) rx.0) ∙ (same (cell y) ∙ at-head y ys (cell y) refl)))
          | inr ge ↦ same_at x y xs ys (omega arith) rx ry same (λ tails. same_items xs ys rx.1 ry.1 tails)
        ]
      ]

  -- the last write of a cell, where `old` was the last before
  abbrev latest : Option X → List X → ℕ → Option X
  latest old xs k = fold (λ before x. cond (eqb (cell x) k) (Some x) before) old xs

  -- a stable sort by cell keeps the last write of each cell
  pub last_at-sorted : (ws sorted : List X) (k : ℕ) → IsStableByKey cell nat_cmp ws sorted → last_at cell sorted k ≡ last_at cell ws k
  last_at-sorted ws sorted k stable = latest-sorted cell (λ x. x) None ws sorted stable k

  latest-push : (old : Option X) (xs : List X) (x : X) (k : ℕ) → latest old (xs ++ x ∷ []) k ≡ cond (eqb (cell x) k) (Some x) (latest old xs k)
  latest-push old [] x k = refl
  latest-push old (y ∷ xs) x k = latest-push (cond (eqb (cell y) k) (Some y) old) xs x k

  latest-below : (old : Option X) (xs : List X) (c k : ℕ) → AllUpTo cell c xs → c ≢ k → latest old (below_by cell xs c) k ≡ latest old xs k
  latest-below old [] c k up_to other = refl
  latest-below old (x ∷ xs) c k up_to other =
      elim (cases_lt (cell x) c) [
        | inl less ↦ (
            let here : ltb (cell x) c ≡ true = grind (arith, nat_tests) in
            rw here (latest-below (cond (eqb (cell x) k) (Some x) old) xs c k up_to.1 other))
        | inr le ↦ (
            let low = up_to.0 in
            let here : ltb (cell x) c ≡ false = grind (arith, nat_tests) in
            let differs : eqb (cell x) k ≡ false = ne_eqb (cell x) k (λ same. other (omega arith)) in
            rw (here, differs) (latest-below old xs c k up_to.1 other))
      ]

  -- one write more, where the writes so far lie at its cell or below: an earlier one of its cell goes
  pub last_at-next : (xs before : List X) (x : X) → AllUpTo cell (cell x) xs → ((k : ℕ) → last_at cell xs k ≡ last_at cell before k)
      → (k : ℕ) → last_at cell (below_by cell xs (cell x) ++ x ∷ []) k ≡ last_at cell (before ++ x ∷ []) k
  last_at-next xs before x up_to same k =
      elim (eqb_tells (cell x) k) [
        | inl t ↦ (
            let left : last_at cell (below_by cell xs (cell x) ++ x ∷ []) k ≡ Some x = latest-push None (below_by cell xs (cell x)) x k ∙ ap (λ (b : Bool). cond b (Some x) (latest None (below_by cell xs (cell x)) k)) t.0 in
            let right : last_at cell (before ++ x ∷ []) k ≡ Some x = latest-push None before x k ∙ ap (λ (b : Bool). cond b (Some x) (latest None before k)) t.0 in
            left ∙ sym right)
        | inr t ↦ (
            let left : last_at cell (below_by cell xs (cell x) ++ x ∷ []) k ≡ latest None (below_by cell xs (cell x)) k = latest-push None (below_by cell xs (cell x)) x k ∙ ap (λ (b : Bool). cond b (Some x) (latest None (below_by cell xs (cell x)) k)) t.0 in
            let right : last_at cell (before ++ x ∷ []) k ≡ last_at cell before k = latest-push None before x k ∙ ap (λ (b : Bool). cond b (Some x) (latest None before k)) t.0 in
            left ∙ (latest-below None xs (cell x) k up_to t.1 ∙ (same k ∙ sym right)))
      ]

-- the last write of each cell, of the first `i` writes
pub record LastSoFar {X : Type 0} (cell : X → ℕ) (writes : List X) (i : ℕ) (last : List X) : Type 0 where
  pub rising : IsRising cell last
  pub reached : (k : ℕ) (d : X) → i ≤ k → k < length writes → AllUpTo cell (cell (get_or writes k d)) last
  pub same : (k : ℕ) → last_at cell last k ≡ last_at cell (take i writes) k

module _ {X : Type 0} (cell : X → ℕ) (writes : List X) where
  pub last-none : LastSoFar cell writes 0 []
  last-none = record {
    rising = λ k low. absurd (omega arith);
    reached = λ k d le low. tt;
    same = λ k. refl;
  }

  up_to-weaker : (m n : ℕ) (xs : List X) → m ≤ n → AllUpTo cell m xs → AllUpTo cell n xs
  up_to-weaker m n [] le all = tt
  up_to-weaker m n (x ∷ xs) le all = let low = all.0 in (omega arith, up_to-weaker m n xs le all.1)

  -- one write more: those of its cell so far go
  pub last-next : (i : ℕ) (last next : List X) (w : X) → IsNonDecreasingBy cell writes → i < length writes → w ≡ get_or writes i w → next ≡ below_by cell last (cell w) ++ w ∷ []
      → LastSoFar cell writes i last → LastSoFar cell writes (i + 1) next
  last-next i last next w sorted low is next_is so_far =
      let rises : InOrder cell last = Rises-from_increasing (map cell last) so_far.rising in
      let here : AllUpTo cell (cell w) last = rw (sym is) at (so_far.reached i w (omega arith) low) in
      let more : take (i + 1) writes ≡ take i writes ++ w ∷ [] = take_more writes i w low ∙ ap (λ (x : X). take i writes ++ x ∷ []) (sym is) in
      rw next_is (record {
        rising = increasing_from_Rises (map cell (below_by cell last (cell w) ++ w ∷ [])) (below_then cell (cell w) last (w ∷ []) rises (tt, tt) (λ n less. (less, tt)));
        reached = λ k d le within.
            let up : cell (get_or writes i d) ≤ cell (get_or writes k d) = sorted i k d (omega arith) within in
            let at_i : cell w ≡ cell (get_or writes i d) = ap cell (get_or_read writes i w low is d) in
            let le_w : cell w ≤ cell (get_or writes k d) = omega arith in
            up_to-append cell (cell (get_or writes k d)) (below_by cell last (cell w)) (w ∷ []) (up_to-weaker (cell w) (cell (get_or writes k d)) (below_by cell last (cell w)) le_w (up_to-below cell (cell w) last)) (le_w, tt);
        same = λ k. last_at-next cell last (take i writes) w here so_far.same k ∙ ap (λ (xs : List X). last_at cell xs k) (sym more);
      })

  pub last-all : (i : ℕ) (last : List X) (k : ℕ) → length writes ≤ i → LastSoFar cell writes i last → last_at cell last k ≡ last_at cell writes k
  last-all i last k le so_far = so_far.same k ∙ ap (λ (xs : List X). last_at cell xs k) (take_all i writes le)

-- the cells of the first `i` writes rise
pub record RisesUpTo {X : Type 0} (cell : X → ℕ) (writes : List X) (i : ℕ) : Type 0 where
  pub some : 1 ≤ i
  pub rises : (k : ℕ) (d : X) → k + 1 < i → cell (get_or writes k d) < cell (get_or writes (k + 1) d)

module _ {X : Type 0} (cell : X → ℕ) (writes : List X) where
  pub rises-first : RisesUpTo cell writes 1
  rises-first = record {
    some = omega arith;
    rises = λ k d low. absurd (omega (arith, low));
  }

pub rising-all : {X : Type 0} (cell : X → ℕ) (writes : List X) (i : ℕ) → length writes ≤ i → RisesUpTo cell writes i → IsRising cell writes
rising-all cell [] i le so_far k low = absurd (omega (arith, low))
rising-all cell (w ∷ ws) i le so_far k low =
    let long : length (map cell (w ∷ ws)) ≡ length (w ∷ ws) = length-map (w ∷ ws) cell in
    let up = so_far.rises k w (omega (arith, le, low, long)) in
    let one : get_or (map cell (w ∷ ws)) k 0 ≡ cell (get_or (w ∷ ws) k w) = get_or-map cell (w ∷ ws) k w 0 (omega (arith, low, long)) in
    let two : get_or (map cell (w ∷ ws)) (k + 1) 0 ≡ cell (get_or (w ∷ ws) (k + 1) w) = get_or-map cell (w ∷ ws) (k + 1) w 0 (omega (arith, low, long)) in
    omega (arith, up, one, two)

module _ {X : Type 0} (cell : X → ℕ) (is_gone : X → Bool) where
  at-kept_by : (b : Bool) (w : X) (k : ℕ) → cell w ≡ k → at cell (cond b [] (w ∷ [])) k ≡ cond b [] (w ∷ [])
  at-kept_by true w k same = refl
  at-kept_by false w k same = at-head cell w [] k same

  at-other_by : (b : Bool) (w : X) (k : ℕ) → cell w ≢ k → at cell (cond b [] (w ∷ [])) k ≡ []
  at-other_by true w k other = refl
  at-other_by false w k other = at-later cell w [] k other

  at-parts : (xs : List X) (w : X) (k : ℕ) → at cell (with_entry cell is_gone xs w) k ≡ at cell (below_by cell xs (cell w)) k ++ (at cell (kept_by is_gone w) k ++ at cell (above_by cell xs (cell w)) k)
  at-parts xs w k =
      filter-append (λ x. eqb (cell x) k) (below_by cell xs (cell w)) (kept_by is_gone w ++ above_by cell xs (cell w))
      ∙ ap (λ (ys : List X). at cell (below_by cell xs (cell w)) k ++ ys) (filter-append (λ x. eqb (cell x) k) (kept_by is_gone w) (above_by cell xs (cell w)))

  at-with_same : (xs : List X) (w : X) (k : ℕ) → cell w ≡ k → at cell (with_entry cell is_gone xs w) k ≡ kept_by is_gone w
  at-with_same xs w k same =
      let low : at cell (below_by cell xs (cell w)) k ≡ [] = at-dropped cell (λ x. ltb (cell x) (cell w)) k (λ x e. grind (arith, nat_tests)) xs in
      let high : at cell (above_by cell xs (cell w)) k ≡ [] = at-dropped cell (λ x. ltb (cell w) (cell x)) k (λ x e. grind (arith, nat_tests)) xs in
      let mid : at cell (kept_by is_gone w) k ≡ kept_by is_gone w = at-kept_by (is_gone w) w k same in
      at-parts xs w k ∙ (rw (low, high, mid) (append-nil (kept_by is_gone w)))

  at-with_other : (xs : List X) (w : X) (k : ℕ) → cell w ≢ k → at cell (with_entry cell is_gone xs w) k ≡ at cell xs k
  at-with_other xs w k other =
      let mid : at cell (kept_by is_gone w) k ≡ [] = at-other_by (is_gone w) w k other in
      elim (cases_lt k (cell w)) [
        | inl less ↦ (
            let low : at cell (below_by cell xs (cell w)) k ≡ at cell xs k = at-kept cell (λ x. ltb (cell x) (cell w)) k (λ x e. grind (arith, nat_tests)) xs in
            let high : at cell (above_by cell xs (cell w)) k ≡ [] = at-dropped cell (λ x. ltb (cell w) (cell x)) k (λ x e. grind (arith, nat_tests)) xs in
            at-parts xs w k ∙ (rw (low, mid, high) (append-nil (at cell xs k))))
        | inr le ↦ (
            let more : cell w < k = omega arith in
            let low : at cell (below_by cell xs (cell w)) k ≡ [] = at-dropped cell (λ x. ltb (cell x) (cell w)) k (λ x e. grind (arith, nat_tests)) xs in
            let high : at cell (above_by cell xs (cell w)) k ≡ at cell xs k = at-kept cell (λ x. ltb (cell w) (cell x)) k (λ x e. grind (arith, nat_tests)) xs in
            at-parts xs w k ∙ (rw (low, mid, high) refl))
      ]

  -- what stands at a cell after its last write
  abbrev written : List X → Option X → List X
  written old None = old
  written old (Some w) = kept_by is_gone w

  at-after : (xs ws : List X) (k : ℕ) (old : List X) (before : Option X) → at cell xs k ≡ written old before → at cell (after_entries cell is_gone xs ws) k ≡ written old (latest cell before ws k)
  at-after xs [] k old before same = same
  at-after xs (w ∷ ws) k old before same =
      elim (eqb_tells (cell w) k) [
        | inl t ↦ rw t.0 (at-after (with_entry cell is_gone xs w) ws k old (Some w) (at-with_same xs w k t.1))
        | inr t ↦ rw t.0 (at-after (with_entry cell is_gone xs w) ws k old before (at-with_other xs w k t.1 ∙ same))
      ]

  -- writes with the same last ones give the same items
  pub after-last : (xs us ws : List X) → InOrder cell xs → ((k : ℕ) → last_at cell us k ≡ last_at cell ws k) → after_entries cell is_gone xs us ≡ after_entries cell is_gone xs ws
  after-last xs us ws rises same =
      same_items cell (after_entries cell is_gone xs us) (after_entries cell is_gone xs ws) (in_order-after cell is_gone xs us rises) (in_order-after cell is_gone xs ws rises)
      (λ k. at-after xs us k (at cell xs k) None refl ∙ (ap (λ (last : Option X). written (at cell xs k) last) (same k) ∙ sym (at-after xs ws k (at cell xs k) None refl)))
