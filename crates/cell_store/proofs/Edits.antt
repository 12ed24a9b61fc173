-- Items with writes: in parts, and in order.
use Rattle.std.proofs.Common.{◌≡◌, ℕ, ◌+◌, ◌<◌, ◌≤◌, Bool, true, false, cond, List, [], ◌∷◌, ◌++◌, length, map, filter, ltb, leb, arith, refl, ap, sym, ◌∙◌, append_assoc, append-nil, take, drop, get_or, take-append-drop, ltb-true}
use Rattle.std.proofs.lemmas.Bool.Decides.{nat_tests}
use Rattle.std.proofs.lemmas.List.Elements.{filter-append}
use Rattle.std.proofs.lemmas.List.{drop_more, drop_all}
use Rattle.cell_store.specs.Inside.Order.{IsRising, below_by, above_by, up_to_by, kept_by, with_entry, after_entries}
use Rattle.cell_store.proofs.Rising.{AllAbove-lower, Rises-from_increasing, increasing_from_Rises}
use Rattle.cell_store.proofs.InOrder.{InOrder, AllOver, AllUpTo, over-append, in_order-back}

module _ {X : Type 0} (cell : X → ℕ) where
  -- what a filter keeps of items that all lie on one side

  pub below-none : (c n : ℕ) (xs : List X) → AllOver cell n xs → c ≤ n → below_by cell xs c ≡ []
  below-none c n [] over le = refl
  below-none c n (x ∷ xs) over le =
      let more = over.0 in
      let here : ltb (cell x) c ≡ false = grind (arith, nat_tests) in
      rw here (below-none c n xs over.1 le)

  pub above-all : (c n : ℕ) (xs : List X) → AllOver cell n xs → c ≤ n → above_by cell xs c ≡ xs
  above-all c n [] over le = refl
  above-all c n (x ∷ xs) over le =
      let more = over.0 in
      let here : ltb c (cell x) ≡ true = grind (arith, nat_tests) in
      rw here (ap (λ ys. x ∷ ys) (above-all c n xs over.1 le))

  pub below-all : (c n : ℕ) (xs : List X) → AllUpTo cell n xs → n < c → below_by cell xs c ≡ xs
  below-all c n [] up_to less = refl
  below-all c n (x ∷ xs) up_to less =
      let low = up_to.0 in
      let here : ltb (cell x) c ≡ true = grind (arith, nat_tests) in
      rw here (ap (λ ys. x ∷ ys) (below-all c n xs up_to.1 less))

  pub above-none : (c n : ℕ) (xs : List X) → AllUpTo cell n xs → n ≤ c → above_by cell xs c ≡ []
  above-none c n [] up_to le = refl
  above-none c n (x ∷ xs) up_to le =
      let low = up_to.0 in
      let here : ltb c (cell x) ≡ false = grind (arith, nat_tests) in
      rw here (above-none c n xs up_to.1 le)

  -- bounds of parts

  pub up_to-append : (n : ℕ) (xs ys : List X) → AllUpTo cell n xs → AllUpTo cell n ys → AllUpTo cell n (xs ++ ys)
  up_to-append n [] ys first second = second
  up_to-append n (x ∷ xs) ys first second = (first.0, up_to-append n xs ys first.1 second)

  up_to-part : (n : ℕ) (b : Bool) (x : X) (xs : List X) → (b ≡ true → cell x ≤ n) → AllUpTo cell n xs → AllUpTo cell n (cond b (x ∷ xs) xs)
  up_to-part n true x xs here later = (here refl, later)
  up_to-part n false x xs here later = later

  pub up_to-filter : (n : ℕ) (q : X → Bool) (xs : List X) → AllUpTo cell n xs → AllUpTo cell n (filter q xs)
  up_to-filter n q [] all = tt
  up_to-filter n q (x ∷ xs) all = up_to-part n (q x) x (filter q xs) (λ _. all.0) (up_to-filter n q xs all.1)

  le_of : (a b : ℕ) → leb a b ≡ true → a ≤ b
  le_of a b holds = grind (arith, nat_tests)

  pub up_to-up_to : (n : ℕ) (xs : List X) → AllUpTo cell n (up_to_by cell xs n)
  up_to-up_to n [] = tt
  up_to-up_to n (x ∷ xs) = up_to-part n (leb (cell x) n) x (up_to_by cell xs n) (λ holds. le_of (cell x) n holds) (up_to-up_to n xs)

  pub up_to-below : (n : ℕ) (xs : List X) → AllUpTo cell n (below_by cell xs n)
  up_to-below n [] = tt
  up_to-below n (x ∷ xs) = up_to-part n (ltb (cell x) n) x (below_by cell xs n) (λ holds. let less = ltb-true (cell x) n holds in omega arith) (up_to-below n xs)

  over-part : (n : ℕ) (b : Bool) (x : X) (xs : List X) → (b ≡ true → n < cell x) → AllOver cell n xs → AllOver cell n (cond b (x ∷ xs) xs)
  over-part n true x xs here later = (here refl, later)
  over-part n false x xs here later = later

  pub over-filter : (n : ℕ) (q : X → Bool) (xs : List X) → AllOver cell n xs → AllOver cell n (filter q xs)
  over-filter n q [] all = tt
  over-filter n q (x ∷ xs) all = over-part n (q x) x (filter q xs) (λ _. all.0) (over-filter n q xs all.1)

  pub over-above : (n : ℕ) (xs : List X) → AllOver cell n (above_by cell xs n)
  over-above n [] = tt
  over-above n (x ∷ xs) = over-part n (ltb n (cell x)) x (above_by cell xs n) (λ holds. ltb-true n (cell x) holds) (over-above n xs)

  in_order-part : (b : Bool) (x : X) (xs : List X) → AllOver cell (cell x) xs → InOrder cell xs → InOrder cell (cond b (x ∷ xs) xs)
  in_order-part true x xs over rises = (over, rises)
  in_order-part false x xs over rises = rises

  pub in_order-filter : (q : X → Bool) (xs : List X) → InOrder cell xs → InOrder cell (filter q xs)
  in_order-filter q [] rises = tt
  in_order-filter q (x ∷ xs) rises = in_order-part (q x) x (filter q xs) (over-filter (cell x) q xs rises.0) (in_order-filter q xs rises.1)

  -- items below a cell, with others at it or above after them

  below_then_by : (c : ℕ) (b : Bool) (x : X) (xs ys : List X) → (b ≡ true → cell x < c) → AllOver cell (cell x) xs → InOrder cell (xs ++ ys) → ((n : ℕ) → n < c → AllOver cell n ys) → InOrder cell (cond b (x ∷ xs) xs ++ ys)
  below_then_by c true x xs ys less over rises far = (over-append cell (cell x) xs ys over (far (cell x) (less refl)), rises)
  below_then_by c false x xs ys less over rises far = rises

  pub below_then : (c : ℕ) (xs ys : List X) → InOrder cell xs → InOrder cell ys → ((n : ℕ) → n < c → AllOver cell n ys) → InOrder cell (below_by cell xs c ++ ys)
  below_then c [] ys rises rest far = rest
  below_then c (x ∷ xs) ys rises rest far =
      below_then_by c (ltb (cell x) c) x (below_by cell xs c) ys (λ holds. ltb-true (cell x) c holds) (over-filter (cell x) (λ y. ltb (cell y) c) xs rises.0) (below_then c xs ys rises.1 rest far) far

module _ {X : Type 0} (cell : X → ℕ) (is_gone : X → Bool) where
  -- what is kept of a write

  over-kept_by : (n : ℕ) (b : Bool) (w : X) (ys : List X) → n < cell w → AllOver cell n ys → AllOver cell n (cond b [] (w ∷ []) ++ ys)
  over-kept_by n true w ys less over = over
  over-kept_by n false w ys less over = (less, over)

  in_order-kept_by : (b : Bool) (w : X) (ys : List X) → AllOver cell (cell w) ys → InOrder cell ys → InOrder cell (cond b [] (w ∷ []) ++ ys)
  in_order-kept_by true w ys over rises = rises
  in_order-kept_by false w ys over rises = (over, rises)

  up_to-kept_by : (n : ℕ) (b : Bool) (w : X) → cell w ≤ n → AllUpTo cell n (cond b [] (w ∷ []))
  up_to-kept_by n true w le = tt
  up_to-kept_by n false w le = (le, tt)

  pub up_to-kept : (n : ℕ) (w : X) → cell w ≤ n → AllUpTo cell n (kept_by is_gone w)
  up_to-kept n w le = up_to-kept_by n (is_gone w) w le

  pub in_order-with : (xs : List X) (w : X) → InOrder cell xs → InOrder cell (with_entry cell is_gone xs w)
  in_order-with xs w rises =
      below_then cell (cell w) xs (kept_by is_gone w ++ above_by cell xs (cell w)) rises
      (in_order-kept_by (is_gone w) w (above_by cell xs (cell w)) (over-above cell (cell w) xs) (in_order-filter cell (λ x. ltb (cell w) (cell x)) xs rises))
      (λ n less. over-kept_by n (is_gone w) w (above_by cell xs (cell w)) less (AllAbove-lower n (cell w) (map cell (above_by cell xs (cell w))) (omega arith) (over-above cell (cell w) xs)))

  pub in_order-after : (xs ws : List X) → InOrder cell xs → InOrder cell (after_entries cell is_gone xs ws)
  in_order-after xs [] rises = rises
  in_order-after xs (w ∷ ws) rises = in_order-after (with_entry cell is_gone xs w) ws (in_order-with xs w rises)

  pub rising-after : (xs ws : List X) → IsRising cell xs → IsRising cell (after_entries cell is_gone xs ws)
  rising-after xs ws rising = increasing_from_Rises (map cell (after_entries cell is_gone xs ws)) (in_order-after xs ws (Rises-from_increasing (map cell xs) rising))

  up_to-with : (n : ℕ) (xs : List X) (w : X) → AllUpTo cell n xs → cell w ≤ n → AllUpTo cell n (with_entry cell is_gone xs w)
  up_to-with n xs w up_to le =
      up_to-append cell n (below_by cell xs (cell w)) (kept_by is_gone w ++ above_by cell xs (cell w)) (up_to-filter cell n (λ x. ltb (cell x) (cell w)) xs up_to)
      (up_to-append cell n (kept_by is_gone w) (above_by cell xs (cell w)) (up_to-kept n w le) (up_to-filter cell n (λ x. ltb (cell w) (cell x)) xs up_to))

  up_to-after : (n : ℕ) (xs ws : List X) → AllUpTo cell n xs → AllUpTo cell n ws → AllUpTo cell n (after_entries cell is_gone xs ws)
  up_to-after n xs [] up_to writes = up_to
  up_to-after n xs (w ∷ ws) up_to writes = up_to-after n (with_entry cell is_gone xs w) ws (up_to-with n xs w up_to writes.0) writes.1

  -- writes in the first part, and in the second

  with-front : (n : ℕ) (xs ys : List X) (w : X) → AllOver cell n ys → cell w ≤ n → with_entry cell is_gone (xs ++ ys) w ≡ with_entry cell is_gone xs w ++ ys
  with-front n xs ys w over le =
      let c = cell w in
      let lower : below_by cell (xs ++ ys) c ≡ below_by cell xs c = filter-append (λ x. ltb (cell x) c) xs ys ∙ (ap (λ zs. below_by cell xs c ++ zs) (below-none cell c n ys over le) ∙ append-nil (below_by cell xs c)) in
      let upper : above_by cell (xs ++ ys) c ≡ above_by cell xs c ++ ys = filter-append (λ x. ltb c (cell x)) xs ys ∙ ap (λ zs. above_by cell xs c ++ zs) (above-all cell c n ys over le) in
      rw (lower, upper) (sym (append_assoc (below_by cell xs c) (kept_by is_gone w ++ above_by cell xs c) ys ∙ ap (λ zs. below_by cell xs c ++ zs) (append_assoc (kept_by is_gone w) (above_by cell xs c) ys)))

  with-back : (n : ℕ) (xs ys : List X) (w : X) → AllUpTo cell n xs → n < cell w → with_entry cell is_gone (xs ++ ys) w ≡ xs ++ with_entry cell is_gone ys w
  with-back n xs ys w up_to less =
      let c = cell w in
      let lower : below_by cell (xs ++ ys) c ≡ xs ++ below_by cell ys c = filter-append (λ x. ltb (cell x) c) xs ys ∙ ap (λ zs. zs ++ below_by cell ys c) (below-all cell c n xs up_to less) in
      let upper : above_by cell (xs ++ ys) c ≡ above_by cell ys c = filter-append (λ x. ltb c (cell x)) xs ys ∙ ap (λ zs. zs ++ above_by cell ys c) (above-none cell c n xs up_to (omega arith)) in
      rw (lower, upper) (append_assoc xs (below_by cell ys c) (kept_by is_gone w ++ above_by cell ys c))

  after-front : (n : ℕ) (xs ys ws : List X) → AllOver cell n ys → AllUpTo cell n ws → after_entries cell is_gone (xs ++ ys) ws ≡ after_entries cell is_gone xs ws ++ ys
  after-front n xs ys [] over writes = refl
  after-front n xs ys (w ∷ ws) over writes =
      ap (λ zs. after_entries cell is_gone zs ws) (with-front n xs ys w over writes.0) ∙ after-front n (with_entry cell is_gone xs w) ys ws over writes.1

  pub after-back : (n : ℕ) (xs ys ws : List X) → AllUpTo cell n xs → AllOver cell n ws → after_entries cell is_gone (xs ++ ys) ws ≡ xs ++ after_entries cell is_gone ys ws
  after-back n xs ys [] up_to writes = refl
  after-back n xs ys (w ∷ ws) up_to writes =
      ap (λ zs. after_entries cell is_gone zs ws) (with-back n xs ys w up_to writes.0) ∙ after-back n xs (with_entry cell is_gone ys w) ws up_to writes.1

  after-append : (xs us ws : List X) → after_entries cell is_gone xs (us ++ ws) ≡ after_entries cell is_gone (after_entries cell is_gone xs us) ws
  after-append xs [] ws = refl
  after-append xs (u ∷ us) ws = after-append (with_entry cell is_gone xs u) us ws

  -- the first writes, and then the others
  pub after-back_of : (xs after ws front back : List X) → front ++ back ≡ ws → after ≡ after_entries cell is_gone xs front → after_entries cell is_gone after back ≡ after_entries cell is_gone xs ws
  after-back_of xs after ws front back parts is =
      ap (λ ys. after_entries cell is_gone ys back) is ∙ (sym (after-append xs front back) ∙ ap (λ us. after_entries cell is_gone xs us) parts)

  -- the writes up to a cell change the first part alone, the others the second
  pub after-parts : (n : ℕ) (xs ys us ws : List X) → AllUpTo cell n xs → AllOver cell n ys → AllUpTo cell n us → AllOver cell n ws
      → after_entries cell is_gone (xs ++ ys) (us ++ ws) ≡ after_entries cell is_gone xs us ++ after_entries cell is_gone ys ws
  after-parts n xs ys us ws low high early late =
      after-append (xs ++ ys) us ws ∙ (ap (λ zs. after_entries cell is_gone zs ws) (after-front n xs ys us high early) ∙ after-back n (after_entries cell is_gone xs us) ys ws (up_to-after n xs us low early) late)

  -- one write of those in order: what is below it is done, and it is kept
  pub after-next : (xs ws : List X) (w : X) → AllOver cell (cell w) ws
      → after_entries cell is_gone xs (w ∷ ws) ≡ (below_by cell xs (cell w) ++ kept_by is_gone w) ++ after_entries cell is_gone (above_by cell xs (cell w)) ws
  after-next xs ws w late =
      let c = cell w in
      ap (λ zs. after_entries cell is_gone zs ws) (sym (append_assoc (below_by cell xs c) (kept_by is_gone w) (above_by cell xs c)))
      ∙ after-back c (below_by cell xs c ++ kept_by is_gone w) (above_by cell xs c) ws (up_to-append cell c (below_by cell xs c) (kept_by is_gone w) (up_to-below cell c xs) (up_to-kept c w (omega arith))) late

  -- a write more of those in order, where `done` is done so far

  pub merge-next : (done done' rest front rest' ws : List X) (i : ℕ) (w : X) → i < length ws → w ≡ get_or ws i w → IsRising cell ws
      → front ≡ below_by cell rest (cell w) → done' ≡ done ++ (front ++ kept_by is_gone w) → rest' ≡ above_by cell rest (cell w)
      → done' ++ after_entries cell is_gone rest' (drop (i + 1) ws) ≡ done ++ after_entries cell is_gone rest (drop i ws)
  merge-next done done' rest front rest' ws i w low is rising front_is done_is rest_is =
      let c = cell w in
      let tail = drop (i + 1) ws in
      let first : drop i ws ≡ w ∷ tail = drop_more ws i w low ∙ ap (λ x. x ∷ tail) (sym is) in
      let whole : InOrder cell (take i ws ++ drop i ws) = Rises-from_increasing (map cell (take i ws ++ drop i ws)) (rw (take-append-drop i ws) rising) in
      let order : InOrder cell (w ∷ tail) = rw first at (in_order-back cell (take i ws) (drop i ws) whole) in
      let step : after_entries cell is_gone rest (drop i ws) ≡ (below_by cell rest c ++ kept_by is_gone w) ++ after_entries cell is_gone (above_by cell rest c) tail = ap (λ us. after_entries cell is_gone rest us) first ∙ after-next rest tail w order.0 in
      let now : done' ≡ done ++ (below_by cell rest c ++ kept_by is_gone w) = done_is ∙ ap (λ xs. done ++ (xs ++ kept_by is_gone w)) front_is in
      ap (λ xs. xs ++ after_entries cell is_gone rest' tail) now
      ∙ (ap (λ xs. (done ++ (below_by cell rest c ++ kept_by is_gone w)) ++ after_entries cell is_gone xs tail) rest_is
      ∙ (append_assoc done (below_by cell rest c ++ kept_by is_gone w) (after_entries cell is_gone (above_by cell rest c) tail)
      ∙ ap (λ xs. done ++ xs) (sym step)))

  pub rising-above : (c : ℕ) (xs rest : List X) → rest ≡ above_by cell xs c → IsRising cell xs → IsRising cell rest
  rising-above c xs rest is rising =
      rw is (increasing_from_Rises (map cell (above_by cell xs c)) (in_order-filter cell (λ x. ltb c (cell x)) xs (Rises-from_increasing (map cell xs) rising)))

  pub merge-end : (done rest ws total : List X) (i : ℕ) → length ws ≤ i → done ++ after_entries cell is_gone rest (drop i ws) ≡ total → done ++ rest ≡ total
  merge-end done rest ws total i le so_far = ap (λ us. done ++ after_entries cell is_gone rest us) (sym (drop_all i ws le)) ∙ so_far
