-- For each cell its last write alone: what is stored after these is what is stored after all.
use Rattle.std.proofs.Common.{◌≡◌, ◌∙◌, refl, sym, ap, ℕ, ◌<◌, ◌≤◌, ℤ, pos, Bool, true, false, cond, ◌&&◌, List, [], ◌∷◌, ◌++◌, filter, All, Ordering, Less, Equal, Greater, nat_cmp, arith, ltb, append_assoc, append-nil}
use Rattle.std.specs.Ordering.{int_eq}
use Rattle.std.specs.BTreeMap.{insert_entry}
use Rattle.std.proofs.lemmas.Cmp.{ranked}
use Rattle.std.proofs.lemmas.Bool.Decides.{nat_tests}
use Rattle.std.proofs.lemmas.List.Sums.{fold-append}
use Rattle.std.proofs.lemmas.List.Elements.{All-nil, All-cons, All-head, All-tail, filter-append, filter_agree}
use Rattle.cell_store.specs.declared.entry.Entry.{Entry}
use Rattle.cell_store.specs.Entries.{above, after_writes, below, kept_of, with_write}
use Rattle.cell_writes.specs.Writes.{last_writes}
use Rattle.cell_writes.proofs.InOrder.{AllOver, InOrder, over-lower, put_in, in_order-inserted, put_all}

-- ---- two writes, one after the other

filter-filter : {X : Type 0} (p q : X → Bool) (xs : List X) → filter p (filter q xs) ≡ filter (λ x. q x && p x) xs
filter-filter p q [] = refl
filter-filter p q (x ∷ xs) = by (q x) (p x) refl (filter-filter p q xs)
  where
    by : (a b : Bool) → p x ≡ b → filter p (filter q xs) ≡ filter (λ y. q y && p y) xs → filter p (cond a (x ∷ filter q xs) (filter q xs)) ≡ cond (a && b) (x ∷ filter (λ y. q y && p y) xs) (filter (λ y. q y && p y) xs)
    by false b is rest = rest
    by true true is rest = rw is (ap (λ ys. x ∷ ys) rest)
    by true false is rest = rw is rest

none : (p : Entry → Bool) → ((e : Entry) → p e ≡ false) → (es : List Entry) → filter p es ≡ []
none p fails [] = refl
none p fails (e ∷ es) = rw (fails e) (none p fails es)

module _ (es : List Entry) (c d : ℕ) where
  below-below : c ≤ d → below (below es c) d ≡ below es c
  below-below le = filter-filter (λ e. ltb e.cell d) (λ e. ltb e.cell c) es ∙ filter_agree (λ e. ltb e.cell c && ltb e.cell d) (λ e. ltb e.cell c) (λ e. grind (arith, nat_tests, le)) es

  below-lower : c ≤ d → below (below es d) c ≡ below es c
  below-lower le = filter-filter (λ e. ltb e.cell c) (λ e. ltb e.cell d) es ∙ filter_agree (λ e. ltb e.cell d && ltb e.cell c) (λ e. ltb e.cell c) (λ e. grind (arith, nat_tests, le)) es

  above-above : c ≤ d → above (above es d) c ≡ above es d
  above-above le = filter-filter (λ e. ltb c e.cell) (λ e. ltb d e.cell) es ∙ filter_agree (λ e. ltb d e.cell && ltb c e.cell) (λ e. ltb d e.cell) (λ e. grind (arith, nat_tests, le)) es

  above-higher : c ≤ d → above (above es c) d ≡ above es d
  above-higher le = filter-filter (λ e. ltb d e.cell) (λ e. ltb c e.cell) es ∙ filter_agree (λ e. ltb c e.cell && ltb d e.cell) (λ e. ltb d e.cell) (λ e. grind (arith, nat_tests, le)) es

  below-above : c ≤ d → below (above es d) c ≡ []
  below-above le = filter-filter (λ e. ltb e.cell c) (λ e. ltb d e.cell) es ∙ none (λ e. ltb d e.cell && ltb e.cell c) (λ e. grind (arith, nat_tests, le)) es

  above-below : c ≤ d → above (below es c) d ≡ []
  above-below le = filter-filter (λ e. ltb d e.cell) (λ e. ltb e.cell c) es ∙ none (λ e. ltb e.cell c && ltb d e.cell) (λ e. grind (arith, nat_tests, le)) es

  between : below (above es c) d ≡ above (below es d) c
  between =
      filter-filter (λ e. ltb e.cell d) (λ e. ltb c e.cell) es
      ∙ (filter_agree (λ e. ltb c e.cell && ltb e.cell d) (λ e. ltb e.cell d && ltb c e.cell) (λ e. grind (arith, nat_tests)) es
      ∙ sym (filter-filter (λ e. ltb c e.cell) (λ e. ltb e.cell d) es))

-- what is kept of a write lies at its cell: a test of its cell keeps it or drops it
module _ (p : ℕ → Bool) (c : ℕ) (n : ℤ) where
  kept-passes : p c ≡ true → filter (λ (e : Entry). p e.cell) (kept_of c n) ≡ kept_of c n
  kept-passes passes = by (int_eq n (pos 0))
    where
      by : (b : Bool) → filter (λ (e : Entry). p e.cell) (cond b [] (record { cell = c; number = n } ∷ [])) ≡ cond b [] (record { cell = c; number = n } ∷ [])
      by true = refl
      by false = rw passes refl

  kept-fails : p c ≡ false → filter (λ (e : Entry). p e.cell) (kept_of c n) ≡ []
  kept-fails fails = by (int_eq n (pos 0))
    where
      by : (b : Bool) → filter (λ (e : Entry). p e.cell) (cond b [] (record { cell = c; number = n } ∷ [])) ≡ []
      by true = refl
      by false = rw fails refl

kept-below : (c d : ℕ) (n : ℤ) → c < d → below (kept_of c n) d ≡ kept_of c n
kept-below c d n less = kept-passes (λ cell. ltb cell d) c n (grind (arith, nat_tests, less))

kept-not_below : (c d : ℕ) (n : ℤ) → d ≤ c → below (kept_of c n) d ≡ []
kept-not_below c d n le = kept-fails (λ cell. ltb cell d) c n (grind (arith, nat_tests, le))

kept-above : (c d : ℕ) (n : ℤ) → d < c → above (kept_of c n) d ≡ kept_of c n
kept-above c d n less = kept-passes (λ cell. ltb d cell) c n (grind (arith, nat_tests, less))

kept-not_above : (c d : ℕ) (n : ℤ) → c ≤ d → above (kept_of c n) d ≡ []
kept-not_above c d n le = kept-fails (λ cell. ltb d cell) c n (grind (arith, nat_tests, le))

below-with : (es : List Entry) (c d : ℕ) (n : ℤ) → below (with_write es c n) d ≡ below (below es c) d ++ (below (kept_of c n) d ++ below (above es c) d)
below-with es c d n =
    filter-append (λ e. ltb e.cell d) (below es c) (kept_of c n ++ above es c)
    ∙ ap (λ later. below (below es c) d ++ later) (filter-append (λ e. ltb e.cell d) (kept_of c n) (above es c))

above-with : (es : List Entry) (c d : ℕ) (n : ℤ) → above (with_write es c n) d ≡ above (below es c) d ++ (above (kept_of c n) d ++ above (above es c) d)
above-with es c d n =
    filter-append (λ e. ltb d e.cell) (below es c) (kept_of c n ++ above es c)
    ∙ ap (λ later. above (below es c) d ++ later) (filter-append (λ e. ltb d e.cell) (kept_of c n) (above es c))

-- of two writes of a cell the second alone is left
over : (es : List Entry) (c : ℕ) (m n : ℤ) → with_write (with_write es c m) c n ≡ with_write es c n
over es c m n =
    let lower : below (with_write es c m) c ≡ below es c =
    below-with es c c m ∙ rw (below-below es c c (omega arith), kept-not_below c c m (omega arith), below-above es c c (omega arith)) (append-nil (below es c)) in
    let upper : above (with_write es c m) c ≡ above es c =
    above-with es c c m ∙ rw (above-below es c c (omega arith), kept-not_above c c m (omega arith), above-above es c c (omega arith)) refl in
    rw (lower, upper) refl

-- writes of two cells may change places
swapped : (es : List Entry) (c d : ℕ) (m n : ℤ) → c < d → with_write (with_write es c m) d n ≡ with_write (with_write es d n) c m
swapped es c d m n less =
    let first_below : below (with_write es c m) d ≡ below es c ++ (kept_of c m ++ above (below es d) c) =
    below-with es c d m ∙ rw (below-below es c d (omega (arith, less)), kept-below c d m less, between es c d) refl in
    let first_above : above (with_write es c m) d ≡ above es d =
    above-with es c d m ∙ rw (above-below es c d (omega (arith, less)), kept-not_above c d m (omega (arith, less)), above-higher es c d (omega (arith, less))) refl in
    let second_below : below (with_write es d n) c ≡ below es c =
    below-with es d c n ∙ rw (below-lower es c d (omega (arith, less)), kept-not_below d c n (omega (arith, less)), below-above es c d (omega (arith, less))) (append-nil (below es c)) in
    let second_above : above (with_write es d n) c ≡ above (below es d) c ++ (kept_of d n ++ above es d) =
    above-with es d c n ∙ rw (kept-above d c n less, above-above es c d (omega (arith, less))) refl in
    rw (first_below, first_above, second_below, second_above) (simp append_assoc refl)

-- ---- writes in the order of their cells

-- a write before others of higher cells may come after them
passed : (es : List Entry) (c : ℕ) (n : ℤ) (ws : List (ℕ × ℤ)) → AllOver c ws → after_writes (with_write es c n) ws ≡ with_write (after_writes es ws) c n
passed es c n [] all = refl
passed es c n (w ∷ ws) all =
    ap (λ stored. after_writes stored ws) (swapped es c w.0 n w.1 all.0) ∙ passed (with_write es w.0 w.1) c n ws all.1

-- a write that is put in among others counts as if it came last
inserted : (es : List Entry) (c : ℕ) (n : ℤ) (ws : List (ℕ × ℤ)) → InOrder ws → after_writes es (insert_entry nat_cmp ws c n) ≡ with_write (after_writes es ws) c n
inserted es c n [] order = refl
inserted es c n (w ∷ ws) order = by (nat_cmp c w.0) refl (inserted (with_write es w.0 w.1) c n ws order.1)
  where
    by : (o : Ordering) → o ≡ nat_cmp c w.0
        → after_writes (with_write es w.0 w.1) (insert_entry nat_cmp ws c n) ≡ with_write (after_writes (with_write es w.0 w.1) ws) c n
        → after_writes es (put_in o c n w ws) ≡ with_write (after_writes (with_write es w.0 w.1) ws) c n
    by Less is later =
        let less : c < w.0 = ranked c w.0 Less is in
        passed es c n (w ∷ ws) (less, over-lower c w.0 ws (omega (arith, less)) order.0)
    by Equal is later =
        let same : c ≡ w.0 = ranked c w.0 Equal is in
        passed es w.0 n ws order.0
        ∙ (sym (over (after_writes es ws) w.0 w.1 n)
        ∙ (ap (λ stored. with_write stored w.0 n) (sym (passed es w.0 w.1 ws order.0))
        ∙ ap (λ k. with_write (after_writes (with_write es w.0 w.1) ws) k n) (sym same)))
    by Greater is later = later

-- ---- all the writes

all_put : (stored : List Entry) (last writes : List (ℕ × ℤ)) → InOrder last → after_writes stored (put_all last writes) ≡ after_writes (after_writes stored last) writes
all_put stored last [] order = refl
all_put stored last (w ∷ writes) order =
    all_put stored (insert_entry nat_cmp last w.0 w.1) writes (in_order-inserted w.0 w.1 last order)
    ∙ ap (λ now. after_writes now writes) (inserted stored w.0 w.1 last order)

pub leave_the_same : (stored : List Entry) (writes : List (ℕ × ℤ)) → after_writes stored (last_writes writes) ≡ after_writes stored writes
leave_the_same stored writes = all_put stored [] writes tt

-- ---- writes after these count the same behind the last of these

-- behind a write of a lower cell
behind : (w : ℕ × ℤ) (last writes : List (ℕ × ℤ)) → AllOver w.0 writes → put_all (w ∷ last) writes ≡ w ∷ put_all last writes
behind w last [] all = refl
behind w last (v ∷ writes) all =
    let here : nat_cmp v.0 w.0 ≡ Greater = grind (arith, nat_tests, all.0) in
    rw here (behind w (insert_entry nat_cmp last v.0 v.1) writes all.1)

-- writes in the order of their cells are their last writes
again : (writes : List (ℕ × ℤ)) → InOrder writes → put_all [] writes ≡ writes
again [] order = refl
again (w ∷ writes) order = behind w [] writes order.0 ∙ ap (λ ws. w ∷ ws) (again writes order.1)

in_order_all : (last writes : List (ℕ × ℤ)) → InOrder last → InOrder (put_all last writes)
in_order_all last [] order = order
in_order_all last (w ∷ writes) order = in_order_all (insert_entry nat_cmp last w.0 w.1) writes (in_order-inserted w.0 w.1 last order)

pub last_twice : (writes : List (ℕ × ℤ)) → last_writes (last_writes writes) ≡ last_writes writes
last_twice writes = again (last_writes writes) (in_order_all [] writes tt)

pub last_of_more : (kept writes : List (ℕ × ℤ)) → last_writes (kept ++ writes) ≡ last_writes (last_writes kept ++ writes)
last_of_more kept writes =
    let put : List (ℕ × ℤ) → ℕ × ℤ → List (ℕ × ℤ) = λ before write. insert_entry nat_cmp before write.0 write.1 in
    fold-append put [] kept writes
    ∙ ap (λ last. put_all last writes) (sym (last_twice kept))
    ∙ sym (fold-append put [] (last_writes kept) writes)

-- ---- what holds of the cell of each write holds of the cells of the last writes

module _ (P : ℕ → Type 0) where
  abbrev Each : List (ℕ × ℤ) → Type 0
  Each writes = All (λ write. P write.0) writes

  each-inserted : (c : ℕ) (n : ℤ) (ws : List (ℕ × ℤ)) → P c → Each ws → Each (insert_entry nat_cmp ws c n)
  each-inserted c n [] here all = All-cons (λ write. P write.0) (c, n) [] here all
  each-inserted c n (w ∷ ws) here all = by (nat_cmp c w.0) (each-inserted c n ws here (All-tail (λ write. P write.0) w ws all))
    where
      by : (o : Ordering) → Each (insert_entry nat_cmp ws c n) → Each (put_in o c n w ws)
      by Less later = All-cons (λ write. P write.0) (c, n) (w ∷ ws) here all
      by Equal later = All-cons (λ write. P write.0) (w.0, n) ws (All-head (λ write. P write.0) w ws all) (All-tail (λ write. P write.0) w ws all)
      by Greater later = All-cons (λ write. P write.0) w (insert_entry nat_cmp ws c n) (All-head (λ write. P write.0) w ws all) later

  each_put : (last writes : List (ℕ × ℤ)) → Each last → Each writes → Each (put_all last writes)
  each_put last [] before all = before
  each_put last (w ∷ writes) before all =
      each_put (insert_entry nat_cmp last w.0 w.1) writes (each-inserted w.0 w.1 last (All-head (λ write. P write.0) w writes all) before) (All-tail (λ write. P write.0) w writes all)

  pub each_last : (writes : List (ℕ × ℤ)) → All (λ write. P write.0) writes → All (λ write. P write.0) (last_writes writes)
  each_last writes all = each_put [] writes (All-nil (λ write. P write.0)) all
