-- Following cells one after another.
use Rattle.std.proofs.Common.{◌≡◌, refl, sym, ap, ◌∙◌, subst, ℕ, zero, suc, ◌+◌, ◌<◌, ◌≤◌, ◌⊎◌, inl, inr, List, [], ◌∷◌, ◌++◌, length, take, get_or, Some, None, length-append, arith}
use Rattle.std.specs.Prelude.{slice_get}
use Rattle.std.specs.List.{Contains}
use Rattle.std.specs.List.Sorted.{IsStrictlyIncreasing}
use Rattle.std.proofs.lemmas.Bool.{cases_lt}
use Rattle.std.proofs.lemmas.Bool.Decides.{leb_tells}
use Rattle.std.proofs.lemmas.List.{take_more}
use Rattle.std.proofs.lemmas.List.Elements.{Contains-append_left, Contains-append_cases, Contains-push, Contains-push_cases}
use Rattle.std.proofs.lemmas.Option.{slice_get_within, get_or_from_slice_get, slice_get-get_or}
use Rattle.cell_store.specs.declared.entry.Entry.{Entry}
use Rattle.cell_store.specs.Entries.{cells_of, entry_from}
use Rattle.cell_store.proofs.Rising.{Rises, Rises-from_increasing}
use Rattle.rule_laws.specs.Feeding.{Feeds, Leads}
use Rattle.rule_model.specs.BoundModel.{BoundModel}
use Rattle.rule_model.specs.System.{system_of}
use Rattle.feed_map.specs.declared.fault.FedFault.{FedFault}
use Rattle.feed_map.specs.declared.growth.Growth.{Growth}
use Rattle.feed_map.specs.FedCells.{most_fed}
use Rattle.feed_map.specs.Inside.Gains.{HasCell, Grows, GainsOnly, Gains, NoCell, StopsBy}
use Rattle.feed_map.specs.Inside.Follows.{FeedsFrom, FeedsBelow, EndsChain, AreFollowed, AreOpen}
use Rattle.feed_sources.proofs.Members.{none-there, at-front, behind, front-or-behind}
use Rattle.feed_map.proofs.Counts.{above-has}
use Rattle.feed_map.proofs.FedFacts.{all-followed}
use Rattle.feed_map.proofs.GainFacts.{gains-none, gains-as, gains-then, stops-then, grows-then}

-- ---- the stored cells in turn

record IsFirstFrom (entries : List Entry) (from : ℕ) (e : Entry) : Type 0 where
  pub among : Contains (cells_of entries) e.cell
  pub above : from ≤ e.cell
  pub least : (x : ℕ) → Contains (cells_of entries) x → from ≤ x → e.cell ≤ x

first-from : (entries : List Entry) (from : ℕ) (e : Entry) → Rises (cells_of entries) → entry_from entries from ≡ Some e → IsFirstFrom entries from e
first-from [] from e rises found = absurd (cc)
first-from (o ∷ entries) from e rises found =
    elim (leb_tells from o.cell) [
      | inl t ↦ (let some : Some o ≡ Some e = rw t.0 at found in
          let same : o ≡ e = cc in
          subst (IsFirstFrom (o ∷ entries) from) same (record {
            among = at-front o.cell (cells_of entries);
            above = t.1;
            least = λ x has low. elim (front-or-behind o.cell (cells_of entries) x has) [
              | inl is ↦ omega (arith, is)
              | inr more ↦ (let over = above-has o.cell (cells_of entries) x rises.0 more in omega (arith, over))
            ];
          }))
      | inr t ↦ (let later = first-from entries from e rises.1 (rw t.0 at found) in record {
        among = behind o.cell (cells_of entries) e.cell later.among;
        above = later.above;
        least = λ x has low. elim (front-or-behind o.cell (cells_of entries) x has) [
          | inl is ↦ absurd (omega (arith, is, low, t.1))
          | inr more ↦ later.least x more low
        ];
      })
    ]

none-from : (entries : List Entry) (from x : ℕ) → entry_from entries from ≡ None → Contains (cells_of entries) x → x < from
none-from [] from x none has = absurd (none-there x has)
none-from (o ∷ entries) from x none has =
    elim (leb_tells from o.cell) [
      | inl t ↦ absurd (let some : Some o ≡ None = rw t.0 at none in cc)
      | inr t ↦ elim (front-or-behind o.cell (cells_of entries) x has) [
        | inl is ↦ omega (arith, is, t.1)
        | inr more ↦ none-from entries from x (rw t.0 at none) more
      ]
    ]

module _ (m : BoundModel) (entries : List Entry) (rising : IsStrictlyIncreasing (cells_of entries)) where
  abbrev Below : ℕ → ℕ → Type 0
  Below = FeedsBelow m (cells_of entries)

  pub stored-start : (g : Growth) → Gains (Below 0) g g
  stored-start g = gains-none (Below 0) (λ c feeds. omega (arith, feeds.2)) g

  module _ (from : ℕ) (e : Entry) (found : entry_from entries from ≡ Some e) where
    is-first : IsFirstFrom entries from e
    is-first = first-from entries from e (Rises-from_increasing (cells_of entries) rising) found

    pub from-first : from ≤ e.cell
    from-first = is-first.above

    pub stored-more : (a b c : Growth) → Gains (Below from) a b → Gains (Feeds (system_of m) e.cell) b c → Gains (Below (e.cell + 1)) a c
    stored-more = gains-then (Below from) (Feeds (system_of m) e.cell) (Below (e.cell + 1))
        (λ c feeds. (feeds.0, feeds.1, omega (arith, feeds.2, is-first.above), feeds.3))
        (λ c feed. (e.cell, is-first.among, omega arith, feed)) parts
      where
        parts : (c : ℕ) → Below (e.cell + 1) c → Below from c ⊎ Feeds (system_of m) e.cell c
        parts c (x, has, low, feed) =
            elim (cases_lt x from) [
              | inl before ↦ inl (x, has, before, feed)
              | inr past ↦ (let least = is-first.least x has past in
                  let same : x ≡ e.cell = omega (arith, least, low) in
                  inr (subst (λ (y : ℕ). Feeds (system_of m) y c) same feed))
            ]

    pub stored-stops : (a b c : Growth) (fault : FedFault) → Gains (Below from) a b → StopsBy (Feeds (system_of m) e.cell) b c fault → StopsBy (FeedsFrom m (cells_of entries)) a c fault
    stored-stops a b c fault gains stops =
        stops-then (Below from) (Feeds (system_of m) e.cell) (FeedsFrom m (cells_of entries)) (λ x feeds. (feeds.0, feeds.1, feeds.3)) (λ x feed. (e.cell, is-first.among, feed)) a b c fault gains.only stops

    -- no cell is left where the next one is past all cells
    pub stored-past : ((x c : ℕ) → e.cell ≤ x → Feeds (system_of m) x c → ⊥) → (a b : Growth) → Gains (Below from) a b → Gains (FeedsFrom m (cells_of entries)) a b
    stored-past none = gains-as (Below from) (FeedsFrom m (cells_of entries)) (λ c feeds. (feeds.0, feeds.1, feeds.3)) parts
      where
        parts : (c : ℕ) → FeedsFrom m (cells_of entries) c → Below from c
        parts c (x, has, feed) =
            elim (cases_lt x from) [
              | inl before ↦ (x, has, before, feed)
              | inr past ↦ absurd (none x c (is-first.least x has past) feed)
            ]

  pub stored-done : (from : ℕ) → entry_from entries from ≡ None → (a b : Growth) → Gains (Below from) a b → Gains (FeedsFrom m (cells_of entries)) a b
  stored-done from none = gains-as (Below from) (FeedsFrom m (cells_of entries)) (λ c feeds. (feeds.0, feeds.1, feeds.3)) (λ c feeds. (feeds.0, feeds.1, none-from entries from feeds.0 none feeds.1, feeds.2))

-- ---- cells of a list in turn

module _ (m : BoundModel) where
  pub cells-start : (g : Growth) → Gains (FeedsFrom m []) g g
  cells-start g = gains-none (FeedsFrom m []) (λ c feeds. none-there feeds.0 feeds.1) g

  module _ (cells : List ℕ) (place x : ℕ) (low : place < length cells) (is : x ≡ get_or cells place 0) where
    taken : take (place + 1) cells ≡ take place cells ++ x ∷ []
    taken = take_more cells place 0 low ∙ ap (λ (y : ℕ). take place cells ++ y ∷ []) (sym is)

    before-from : (c : ℕ) → FeedsFrom m (take place cells) c → FeedsFrom m (take (place + 1) cells) c
    before-from c (y, has, feed) = (y, subst (λ (xs : List ℕ). Contains xs y) (sym taken) (Contains-append_left (take place cells) (x ∷ []) y has), feed)

    here-from : (c : ℕ) → Feeds (system_of m) x c → FeedsFrom m (take (place + 1) cells) c
    here-from c feed = (x, subst (λ (xs : List ℕ). Contains xs x) (sym taken) (Contains-push (take place cells) x), feed)

    pub cells-more : (a b c : Growth) → Gains (FeedsFrom m (take place cells)) a b → Gains (Feeds (system_of m) x) b c → Gains (FeedsFrom m (take (place + 1) cells)) a c
    cells-more = gains-then (FeedsFrom m (take place cells)) (Feeds (system_of m) x) (FeedsFrom m (take (place + 1) cells)) before-from here-from parts
      where
        parts : (c : ℕ) → FeedsFrom m (take (place + 1) cells) c → FeedsFrom m (take place cells) c ⊎ Feeds (system_of m) x c
        parts c (y, has, feed) =
            elim (Contains-push_cases (take place cells) x y (subst (λ (xs : List ℕ). Contains xs y) taken has)) [
              | inl before ↦ inl (y, before, feed)
              | inr same ↦ inr (subst (λ (z : ℕ). Feeds (system_of m) z c) (sym same) feed)
            ]

    pub cells-stop : (a b c : Growth) (fault : FedFault) → Gains (FeedsFrom m (take place cells)) a b → StopsBy (Feeds (system_of m) x) b c fault → StopsBy (FeedsFrom m cells) a c fault
    cells-stop a b c fault gains stops =
        stops-then (FeedsFrom m (take place cells)) (Feeds (system_of m) x) (FeedsFrom m cells) (λ y from. all (place) y from) (λ y feed. all (place + 1) y (here-from y feed)) a b c fault gains.only stops
      where
        taken-has : (n : ℕ) (xs : List ℕ) (y : ℕ) → Contains (take n xs) y → Contains xs y
        taken-has zero xs y has = absurd (none-there y has)
        taken-has (suc n) [] y has = absurd (none-there y has)
        taken-has (suc n) (z ∷ xs) y has =
            elim (front-or-behind z (take n xs) y has) [
              | inl same ↦ subst (Contains (z ∷ xs)) same (at-front z xs)
              | inr more ↦ behind z xs y (taken-has n xs y more)
            ]

        all : (n c : ℕ) → FeedsFrom m (take n cells) c → FeedsFrom m cells c
        all n c (y, has, feed) = (y, taken-has n cells y has, feed)

-- ---- what was opened in turn

pub get-front : (xs ys : List ℕ) (k : ℕ) → k < length xs → slice_get (xs ++ ys) k ≡ slice_get xs k
get-front [] ys k low = absurd (omega (arith, low))
get-front (x ∷ xs) ys zero low = refl
get-front (x ∷ xs) ys (suc k) low = get-front xs ys k (omega (arith, low))

pub get-has : (xs : List ℕ) (k x : ℕ) → slice_get xs k ≡ Some x → Contains xs x
get-has xs k x found = (k, slice_get_within xs k x found, get_or_from_slice_get xs k x x found)

module _ (m : BoundModel) where
  pub followed-none : (g : Growth) → AreFollowed m g 0
  followed-none g place x low found = absurd (omega (arith, low))

  -- a growth before and after what follows one cell more
  module _ (f g h k : Growth) (place x : ℕ) (opening : AreOpen m f) (grows : Grows f g) (only : GainsOnly (EndsChain m f) f g) (followed : AreFollowed m g place)
      (within : place ≤ length g.opened.items) (settled : Gains NoCell g h) (found : slice_get h.opened.items place ≡ Some x) where
    longer : Grows f h
    longer = grows-then f g h grows settled.grows

    -- it is known
    is-known : HasCell h x
    is-known =
        elim (Contains-append_cases f.opened.items longer.opened.0 x (subst (λ (xs : List ℕ). Contains xs x) longer.opened.1 (get-has h.opened.items place x found))) [
          | inl was ↦ inl (longer.opened.2.kept x (opening.known x was))
          | inr more ↦ inl (longer.opened.2.there x more)
        ]

    settled-only : GainsOnly (EndsChain m f) f h
    settled-only c has =
        elim (settled.only c has) [
          | inl before ↦ only c before
          | inr none ↦ absurd none
        ]

    ends-next : (y c : ℕ) → HasCell h y → Feeds (system_of m) y c → EndsChain m f c
    ends-next y c has feed =
        elim (settled-only y has) [
          | inl before ↦ (1, y, before, (y, refl, feed))
          | inr ends ↦ (suc ends.0, ends.1, ends.2, (y, ends.3, feed))
        ]

    pub opened-stops : (fault : FedFault) → StopsBy (Feeds (system_of m) x) h k fault → StopsBy (EndsChain m f) f k fault
    opened-stops fault stops =
        stops-then (EndsChain m f) (Feeds (system_of m) x) (EndsChain m f) (λ c ends. ends) (λ c feed. ends-next x c is-known feed) f h k fault settled-only stops

    -- the measure falls
    pub opened-room : length f.known ≤ most_fed → place < length f.opened.items + most_fed
    opened-room few =
        let low = slice_get_within h.opened.items place x found in
        let count = longer.opened.2.counted in
        let most = longer.few few in
        let long = ap length longer.opened.1 in
        omega (arith, low, count, most, long, length-append f.opened.items longer.opened.0)

    module _ (fed : Gains (Feeds (system_of m) x) h k) where
      pub opened-grows : Grows f k
      opened-grows = grows-then f h k longer fed.grows

      pub opened-only : GainsOnly (EndsChain m f) f k
      opened-only c has =
          elim (fed.only c has) [
            | inl before ↦ settled-only c before
            | inr feed ↦ inr (ends-next x c is-known feed)
          ]

      pub opened-within : place + 1 ≤ length k.opened.items
      opened-within =
          let low = slice_get_within h.opened.items place x found in
          let long = ap length fed.grows.opened.1 in
          omega (arith, low, long, length-append h.opened.items fed.grows.opened.0)

      pub opened-followed : AreFollowed m k (place + 1)
      opened-followed n y low at c feed = by (cases_lt n place)
        where
          far : (n : ℕ) → n ≤ place → slice_get k.opened.items n ≡ slice_get h.opened.items n
          far n few =
              let less = slice_get_within h.opened.items place x found in
              ap (λ (xs : List ℕ). slice_get xs n) fed.grows.opened.1 ∙ get-front h.opened.items fed.grows.opened.0 n (omega (arith, few, less))

          by : (n < place) ⊎ (place ≤ n) → HasCell k c
          by (inl before) =
              let same : slice_get h.opened.items n ≡ slice_get g.opened.items n = ap (λ (xs : List ℕ). slice_get xs n) settled.grows.opened.1 ∙ get-front g.opened.items settled.grows.opened.0 n (omega (arith, before, within)) in
              let own : slice_get g.opened.items n ≡ Some y = sym same ∙ sym (far n (omega (arith, before))) ∙ at in
              fed.grows.kept c (settled.grows.kept c (followed n y before own c feed))
          by (inr past) =
              let same : n ≡ place = omega (arith, past, low) in
              let some : Some x ≡ Some y = sym found ∙ sym (far place (omega arith)) ∙ ap (slice_get k.opened.items) (sym same) ∙ at in
              let own : x ≡ y = cc in
              fed.each c (subst (λ (z : ℕ). Feeds (system_of m) z c) (sym own) feed)

  -- what stands behind the last one that was followed
  pub settled-followed : (g h : Growth) (place : ℕ) → place ≤ length g.opened.items → AreFollowed m g place → Gains NoCell g h → AreFollowed m h place
  settled-followed g h place within followed settled n y low at c feed =
      let same : slice_get h.opened.items n ≡ slice_get g.opened.items n = ap (λ (xs : List ℕ). slice_get xs n) settled.grows.opened.1 ∙ get-front g.opened.items settled.grows.opened.0 n (omega (arith, low, within)) in
      settled.grows.kept c (followed n y low (sym same ∙ at) c feed)

  -- where nothing feeds, the end of a chain is where it begins
  pub alone : ((x c : ℕ) → Feeds (system_of m) x c → ⊥) → (g h : Growth) → Gains NoCell g h → Gains (EndsChain m g) g h
  alone none g h settled = record {
    grows = settled.grows;
    only = λ c has. elim (settled.only c has) [
      | inl before ↦ inl before
      | inr never ↦ absurd never
    ];
    each = λ c ends. ended c ends.0 ends.1 ends.2 ends.3;
  }
    where
      ended : (c n x : ℕ) → HasCell g x → Leads (system_of m) n x c → HasCell h c
      ended c zero x has same = subst (HasCell h) same (settled.grows.kept x has)
      ended c (suc n) x has (y, chain, last) = absurd (none y c last)

  -- where none is left to follow, all ends of chains were found
  pub settled-end : (f g h : Growth) (place : ℕ) → AreOpen m f → Grows f g → GainsOnly (EndsChain m f) f g → AreFollowed m g place → place ≤ length g.opened.items → Gains NoCell g h
      → slice_get h.opened.items place ≡ None → h.found.items ≡ [] → Gains (EndsChain m f) f h
  settled-end f g h place opening grows only followed within settled none empty = record {
    grows = longer;
    only = λ c has. elim (settled.only c has) [
      | inl before ↦ only c before
      | inr never ↦ absurd never
    ];
    each = all-followed m f h opening longer place past (settled-followed g h place within followed settled) empty;
  }
    where
      longer : Grows f h
      longer = grows-then f g h grows settled.grows

      past : length h.opened.items ≤ place
      past =
          elim (cases_lt place (length h.opened.items)) [
            | inl low ↦ absurd (let some = slice_get-get_or h.opened.items place 0 low in let clash : None ≡ Some (get_or h.opened.items place 0) = sym none ∙ some in cc)
            | inr high ↦ high
          ]
