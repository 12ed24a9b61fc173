-- What was found is what is fed.
use Rattle.std.proofs.Common.{◌≡◌, refl, sym, ap, ◌∙◌, subst, ℕ, zero, suc, ◌≤◌, ◌⊎◌, inl, inr, Bool, true, false, not, List, [], ◌∷◌, ◌++◌, length, eqb, Some, Ok, Err, arith}
use Rattle.std.specs.Prelude.{IsSome, IsErrAnd, IsOkUnless, Result, ◌==◌}
use Rattle.std.specs.List.{All, Contains, list_any}
use Rattle.std.specs.List.Sorted.{IsStrictlyIncreasing}
use Rattle.std.proofs.lemmas.Bool.{eqb-true, eq-eqb, or_left, or_right}
use Rattle.std.proofs.lemmas.List.Elements.{All-contains, All-contains_itself, All-weaker, Contains-append_left, Contains-append_right, Contains-append_cases}
use Rattle.std.proofs.lemmas.Option.{slice_get-get_or}
use Rattle.std.proofs.lemmas.Result.{err_from_is_err_and}
use Rattle.cell_store.specs.declared.entry.Entry.{Entry}
use Rattle.cell_store.specs.Entries.{cells_of}
use Rattle.cell_store.specs.Cells.{IsUnion}
use Rattle.rule_laws.specs.Feeding.{IsDenseCell, Feeds, IsFed}
use Rattle.rule_model.specs.BoundModel.{BoundModel}
use Rattle.rule_model.specs.System.{system_of}
use Rattle.stored_laws.specs.Stored.{stored_in}
use Rattle.feed_map.specs.declared.fault.FedFault.{FedFault}
use Rattle.feed_map.specs.declared.fault.FedFault.TheVariants.{FedLimit, Memory}
use Rattle.feed_map.specs.declared.growth.Growth.{Growth}
use Rattle.feed_map.specs.FedCells.{AreFedCells, HasFewFed, HasManyFed, most_fed, without}
use Rattle.feed_map.specs.Inside.Gains.{HasCell, Grows, Gains, StopsBy}
use Rattle.feed_map.specs.Inside.Follows.{FeedsFrom, EndsChain, AreFollowed, AreOpen, IsVerdict}
use Rattle.feed_sources.proofs.Members.{none-there, at-front, behind, front-or-behind}
use Rattle.feed_map.proofs.Counts.{within-counts}
use Rattle.feed_map.proofs.ChainFacts.{fed-next, fed-on, fed-from-stored, fed-ends}

-- ---- what is stored

-- a cell is stored where an entry has it
pub entry-stored : (entries : List Entry) (c : ℕ) → Contains (cells_of entries) c → IsSome (stored_in entries c)
unfolding stored_in
entry-stored [] c has = absurd (none-there c has)
entry-stored (e ∷ entries) c has = by (eqb e.cell c) refl (λ more. entry-stored entries c more) (front-or-behind e.cell (cells_of entries) c has)
  where
    by : (b : Bool) → eqb e.cell c ≡ b → (Contains (cells_of entries) c → IsSome (stored_in entries c)) → (e.cell ≡ c) ⊎ Contains (cells_of entries) c → IsSome (stored_in (e ∷ entries) c)
    by true on later either = rw on refl
    by false off later (inl is) = absurd (let same : eqb c c ≡ false = ap (λ (k : ℕ). eqb k c) (sym is) ∙ off in grind (arith, same))
    by false off later (inr more) = rw off (later more)

pub stored-entry : (entries : List Entry) (c : ℕ) → IsSome (stored_in entries c) → Contains (cells_of entries) c
unfolding stored_in
stored-entry [] c some = absurd (cc)
stored-entry (e ∷ entries) c some = by (eqb e.cell c) refl (λ more. stored-entry entries c more)
  where
    by : (b : Bool) → eqb e.cell c ≡ b → (IsSome (stored_in entries c) → Contains (cells_of entries) c) → Contains (e.cell ∷ cells_of entries) c
    by true on later = subst (Contains (e.cell ∷ cells_of entries)) (eqb-true e.cell c on) (at-front e.cell (cells_of entries))
    by false off later = behind e.cell (cells_of entries) c (later (rw off at some))

-- a cell that isn't taken out stays
without-has : (entries : List Entry) (added : List ℕ) (c : ℕ) → Contains (cells_of (without entries added)) c → Contains (cells_of entries) c
without-has [] added c has = has
without-has (e ∷ entries) added c has = by (λ more. without-has entries added c more) (not (list_any (λ cell. cell == e.cell) added)) refl
  where
    by : (Contains (cells_of (without entries added)) c → Contains (cells_of entries) c) → (b : Bool) → not (list_any (λ cell. cell == e.cell) added) ≡ b → Contains (e.cell ∷ cells_of entries) c
    by again true on =
        elim (front-or-behind e.cell (cells_of (without entries added)) c (rw on at has)) [
          | inl is ↦ subst (Contains (e.cell ∷ cells_of entries)) is (at-front e.cell (cells_of entries))
          | inr more ↦ behind e.cell (cells_of entries) c (again more)
        ]
    by again false off = behind e.cell (cells_of entries) c (again (rw off at has))

has-without : (entries : List Entry) (added : List ℕ) (c : ℕ) → Contains (cells_of entries) c → list_any (λ cell. cell == c) added ≡ false → Contains (cells_of (without entries added)) c
has-without [] added c has out = has
has-without (e ∷ entries) added c has out = by (not (list_any (λ cell. cell == e.cell) added)) refl (λ more. has-without entries added c more out) (front-or-behind e.cell (cells_of entries) c has)
  where
    by : (b : Bool) → not (list_any (λ cell. cell == e.cell) added) ≡ b → (Contains (cells_of entries) c → Contains (cells_of (without entries added)) c)
        → (e.cell ≡ c) ⊎ Contains (cells_of entries) c → Contains (cells_of (without (e ∷ entries) added)) c
    by true on later (inl is) = rw on (subst (Contains (e.cell ∷ cells_of (without entries added))) is (at-front e.cell (cells_of (without entries added))))
    by true on later (inr more) = rw on (behind e.cell (cells_of (without entries added)) c (later more))
    by false off later (inl is) = absurd (let clash : not (list_any (λ cell. cell == e.cell) added) ≡ true = ap (λ (k : ℕ). not (list_any (λ cell. cell == k) added)) is ∙ ap not out in cc)
    by false off later (inr more) = rw off (later more)

-- what is among these, by the test
pub listed-has : (added : List ℕ) (c : ℕ) → list_any (λ cell. cell == c) added ≡ true → Contains added c
listed-has [] c on = absurd (cc)
listed-has (x ∷ added) c on = by (eqb x c) refl (λ more. listed-has added c more)
  where
    by : (b : Bool) → eqb x c ≡ b → (list_any (λ cell. cell == c) added ≡ true → Contains added c) → Contains (x ∷ added) c
    by true same later = subst (Contains (x ∷ added)) (eqb-true x c same) (at-front x added)
    by false other later = behind x added c (later (rw other at on))

pub listed-is : (added : List ℕ) (c : ℕ) → Contains added c → list_any (λ cell. cell == c) added ≡ true
listed-is [] c has = absurd (none-there c has)
listed-is (x ∷ added) c has =
    elim (front-or-behind x added c has) [
      | inl is ↦ or_left (eqb x c) (list_any (λ cell. cell == c) added) (eq-eqb x c is)
      | inr more ↦ or_right (eqb x c) (list_any (λ cell. cell == c) added) (listed-is added c more)
    ]

-- where all cells are taken out nothing is left
all-out : (entries : List Entry) (cells : List ℕ) → ((c : ℕ) → Contains (cells_of entries) c → list_any (λ cell. cell == c) cells ≡ true) → without entries cells ≡ []
all-out [] cells all = refl
all-out (e ∷ entries) cells all = rw (all e.cell (at-front e.cell (cells_of entries))) (all-out entries cells (λ c has. all c (behind e.cell (cells_of entries) c has)))

pub nothing-left : (entries : List Entry) → without entries (cells_of entries) ≡ []
nothing-left entries = all-out entries (cells_of entries) (listed-is (cells_of entries))

-- what is fed over nothing, and all that is stored
pub fed-of-none : (m : BoundModel) (entries : List Entry) (fed : List ℕ) → AreFedCells m [] fed → AreFedCells m (without entries (cells_of entries)) fed
fed-of-none m entries fed are = subst (λ (left : List Entry). AreFedCells m left fed) (sym (nothing-left entries)) are

pub all-stored : (entries : List Entry) → All (Contains (cells_of entries)) (cells_of entries)
all-stored entries = All-contains_itself (cells_of entries)

-- ---- few or many

pub few-or-many : (m : BoundModel) (entries : List Entry) → HasFewFed m entries → HasManyFed m entries → ⊥
few-or-many m entries (cells, are, low) (more, up, past, all) =
    let counts = within-counts cells more are.rising up (λ c has. (are.fed c).1 (All-contains (IsFed (system_of m) (stored_in entries)) more c all has)) in
    omega (arith, counts, low, past)

module _ (m : BoundModel) (entries : List Entry) where
  -- the fault that a stop tells
  pub stopped : (P : ℕ → Type 0) → ((x : ℕ) → P x → IsFed (system_of m) (stored_in entries) x) → (g h : Growth)
      → ((x : ℕ) → HasCell g x → IsFed (system_of m) (stored_in entries) x) → (fault : FedFault) → StopsBy P g h fault → IsVerdict m entries (Err fault)
  stopped P sound g h before Memory stops = tt
  stopped P sound g h before (FedLimit count) (is, up, past, from) = (
    is,
    (
      h.known,
      up,
      past,
      All-weaker (Contains h.known) (IsFed (system_of m) (stored_in entries)) (λ x has. elim (from x has) [
        | inl was ↦ before x was
        | inr holds ↦ sound x holds
      ]) h.known (All-contains_itself h.known),
    ),
  )

  pub dense-fed : (x : ℕ) → IsDenseCell (system_of m) x → IsFed (system_of m) (stored_in entries) x
  dense-fed x is = inl is

  pub ends-fed : (g : Growth) → ((x : ℕ) → HasCell g x → IsFed (system_of m) (stored_in entries) x) → (c : ℕ) → EndsChain m g c → IsFed (system_of m) (stored_in entries) c
  ends-fed g sound c (n, x, has, chain) = fed-on (system_of m) (stored_in entries) n x c (sound x has) chain

  pub from-fed : (sources : List ℕ) → ((x : ℕ) → Contains sources x → IsSome (stored_in entries x)) → (c : ℕ) → FeedsFrom m sources c → IsFed (system_of m) (stored_in entries) c
  from-fed sources stored c (x, has, feed) = fed-from-stored (system_of m) (stored_in entries) x c (stored x has) feed

  pub from-stored : (c : ℕ) → FeedsFrom m (cells_of entries) c → IsFed (system_of m) (stored_in entries) c
  from-stored = from-fed (cells_of entries) (entry-stored entries)

  -- what a `?` hands on
  pub within-of : {T : Type 0} (r : Result T FedFault) (fault : FedFault) → IsErrAnd r (λ e. e ≡ fault) → IsVerdict m entries (Err fault) → HasFewFed m entries → IsOkUnless r Memory
  within-of r fault gives holds few =
      let p = err_from_is_err_and r gives in
      rw (p.1, p.2) (by fault holds)
    where
      by : (fault : FedFault) → IsVerdict m entries (Err fault) → fault ≡ Memory
      by Memory holds = refl
      by (FedLimit count) holds = absurd (few-or-many m entries few holds.1)

  pub past-of : {T : Type 0} (cells : List ℕ) → IsVerdict m entries (Ok cells) → HasManyFed m entries → T
  past-of cells holds many = absurd (few-or-many m entries (cells, holds.0, holds.1) many)

  -- where all chains from the start were followed, these are the fed cells
  pub all-found : (g h : Growth) → ((x : ℕ) → HasCell g x → IsFed (system_of m) (stored_in entries) x) → ((x : ℕ) → IsDenseCell (system_of m) x → HasCell g x)
      → ((a x : ℕ) → IsSome (stored_in entries a) → Feeds (system_of m) a x → HasCell g x) → IsStrictlyIncreasing h.known → length h.known ≤ most_fed
      → Gains (EndsChain m g) g h → h.found.items ≡ [] → IsVerdict m entries (Ok h.known)
  all-found g h sound dense fed up low gains none = (
    record {
      rising = up;
      fed = λ c. (
        λ has. elim (gains.only c (inl has)) [
          | inl before ↦ sound c before
          | inr ends ↦ ends-fed g sound c ends
        ],
        λ is. elim (gains.each c (fed-ends (system_of m) (stored_in entries) (HasCell g) dense fed c is)) [
          | inl known ↦ known
          | inr found ↦ absurd (none-there c (subst (λ (cells : List ℕ). Contains cells c) none found))
        ],
      );
    },
    low,
  )

-- ---- from nothing

module _ (m : BoundModel) (entries : List Entry) (z : Growth) where
  pub none-known : z.known ≡ [] → z.found.items ≡ [] → (x : ℕ) → HasCell z x → IsFed (system_of m) (stored_in entries) x
  none-known known found x (inl has) = absurd (none-there x (subst (λ (cells : List ℕ). Contains cells x) known has))
  none-known known found x (inr has) = absurd (none-there x (subst (λ (cells : List ℕ). Contains cells x) found has))

  pub dense-known : (a : Growth) → z.known ≡ [] → z.found.items ≡ [] → Gains (IsDenseCell (system_of m)) z a → (x : ℕ) → HasCell a x → IsFed (system_of m) (stored_in entries) x
  dense-known a known found dense x has =
      elim (dense.only x has) [
        | inl before ↦ none-known known found x before
        | inr is ↦ inl is
      ]

  module _ (a b : Growth) (known : z.known ≡ []) (opened : z.opened.items ≡ []) (found : z.found.items ≡ []) (dense : Gains (IsDenseCell (system_of m)) z a)
      (stored : Gains (FeedsFrom m (cells_of entries)) a b) where
    pub starts-known : (x : ℕ) → HasCell b x → IsFed (system_of m) (stored_in entries) x
    starts-known x has =
        elim (stored.only x has) [
          | inl before ↦ dense-known a known found dense x before
          | inr from ↦ from-fed m entries (cells_of entries) (entry-stored entries) x from
        ]

    -- all that is known was opened
    opened-is : b.opened.items ≡ dense.grows.opened.0 ++ stored.grows.opened.0
    opened-is =
        stored.grows.opened.1 ∙ ap (λ (xs : List ℕ). xs ++ stored.grows.opened.0) (dense.grows.opened.1 ∙ ap (λ (xs : List ℕ). xs ++ dense.grows.opened.0) opened)

    pub starts-open : AreOpen m b
    starts-open = record {
      known = λ x has. elim (Contains-append_cases dense.grows.opened.0 stored.grows.opened.0 x (subst (λ (cells : List ℕ). Contains cells x) opened-is has)) [
        | inl first ↦ stored.grows.opened.2.kept x (dense.grows.opened.2.there x first)
        | inr second ↦ stored.grows.opened.2.there x second
      ];
      others = λ x has. inl (subst (λ (cells : List ℕ). Contains cells x) (sym opened-is) (elim (stored.grows.opened.2.only x has) [
        | inl before ↦ elim (dense.grows.opened.2.only x before) [
          | inl none ↦ absurd (none-there x (subst (λ (cells : List ℕ). Contains cells x) known none))
          | inr more ↦ Contains-append_left dense.grows.opened.0 stored.grows.opened.0 x more
        ]
        | inr more ↦ Contains-append_right dense.grows.opened.0 stored.grows.opened.0 x more
      ]));
    }

    start-rises : IsStrictlyIncreasing b.known
    start-rises = stored.grows.rising (dense.grows.rising (subst IsStrictlyIncreasing (sym known) (λ k low. absurd (omega (arith, low)))))

    pub start-few : length b.known ≤ most_fed
    start-few = stored.grows.few (dense.grows.few (omega (arith, ap length known)))

    pub all-from-nothing : (h : Growth) → Gains (EndsChain m b) b h → h.found.items ≡ [] → IsVerdict m entries (Ok h.known)
    all-from-nothing h gains none =
        all-found m entries b h starts-known (λ x is. stored.grows.kept x (dense.each x is))
        (λ s x some feed. stored.each x (s, stored-entry entries s some, feed)) (gains.grows.rising start-rises) (gains.grows.few start-few) gains none

-- ---- from what was fed

pub union-known : (fed cells : List ℕ) (z : Growth) → IsUnion fed [] cells → z.known ≡ cells → IsUnion fed [] z.known
union-known fed cells z union known = subst (IsUnion fed []) (sym known) union

module _ (m : BoundModel) (entries : List Entry) (added fed : List ℕ) (z a : Growth) (before : AreFedCells m (without entries added) fed) (few : length fed ≤ most_fed)
    (stored : All (Contains (cells_of entries)) added) (union : IsUnion fed [] z.known) (opened : z.opened.items ≡ []) (found : z.found.items ≡ []) where
  was-fed : (x : ℕ) → IsFed (system_of m) (stored_in (without entries added)) x → IsFed (system_of m) (stored_in entries) x
  was-fed x (inl dense) = inl dense
  was-fed x (inr (n, s, inl (cell, some), chain)) =
      inr (n, s, inl (cell, entry-stored entries s (without-has entries added s (stored-entry (without entries added) s some))), chain)
  was-fed x (inr (n, s, inr dense, chain)) = inr (n, s, inr dense, chain)

  known-fed : (x : ℕ) → Contains z.known x → Contains fed x
  known-fed x has =
      elim ((union.cells x).0 has) [
        | inl is ↦ is
        | inr none ↦ absurd (none-there x none)
      ]

  pub before-known : (x : ℕ) → HasCell z x → IsFed (system_of m) (stored_in entries) x
  before-known x (inl has) = was-fed x ((before.fed x).0 (known-fed x has))
  before-known x (inr has) = absurd (none-there x (subst (λ (cells : List ℕ). Contains cells x) found has))

  pub added-fed : (c : ℕ) → FeedsFrom m added c → IsFed (system_of m) (stored_in entries) c
  added-fed c from = from-fed m entries added (λ x has. entry-stored entries x (All-contains (Contains (cells_of entries)) added x stored has)) c from

  pub before-few : length z.known ≤ most_fed
  before-few = let counts = within-counts fed z.known before.rising union.rising known-fed in omega (arith, counts, few)

  module _ (gains : Gains (FeedsFrom m added) z a) where
    pub grown-known : (x : ℕ) → HasCell a x → IsFed (system_of m) (stored_in entries) x
    grown-known x has =
        elim (gains.only x has) [
          | inl was ↦ before-known x was
          | inr from ↦ added-fed x from
        ]

    -- what was fed was followed
    opened-are : a.opened.items ≡ gains.grows.opened.0
    opened-are = gains.grows.opened.1 ∙ ap (λ (xs : List ℕ). xs ++ gains.grows.opened.0) opened

    pub grown-open : AreOpen m a
    grown-open = record {
      known = λ x has. gains.grows.opened.2.there x (subst (λ (cells : List ℕ). Contains cells x) opened-are has);
      others = λ x has. elim (gains.grows.opened.2.only x has) [
        | inl was ↦ inr (λ c feed. gains.grows.kept c (inl ((union.cells c).1 (inl ((before.fed c).1 (fed-next (system_of m) (stored_in (without entries added)) x c ((before.fed x).0 (known-fed x was)) feed))))))
        | inr more ↦ inl (subst (λ (cells : List ℕ). Contains cells x) (sym opened-are) more)
      ];
    }

    pub grown-few : length a.known ≤ most_fed
    grown-few = gains.grows.few before-few

    fed-before : (x : ℕ) → IsFed (system_of m) (stored_in (without entries added)) x → HasCell a x
    fed-before x is = gains.grows.kept x (inl ((union.cells x).1 (inl ((before.fed x).1 is))))

    pub all-from-before : (h : Growth) → Gains (EndsChain m a) a h → h.found.items ≡ [] → IsVerdict m entries (Ok h.known)
    all-from-before h ends none =
        all-found m entries a h grown-known (λ x is. fed-before x (inl is)) first
        (ends.grows.rising (gains.grows.rising union.rising)) (ends.grows.few grown-few) ends none
      where
        first : (s x : ℕ) → IsSome (stored_in entries s) → Feeds (system_of m) s x → HasCell a x
        first s x some feed = by (list_any (λ cell. cell == s) added) refl
          where
            by : (b : Bool) → list_any (λ cell. cell == s) added ≡ b → HasCell a x
            by true new = gains.each x (s, listed-has added s new, feed)
            by false old =
                let kept = entry-stored (without entries added) s (has-without entries added s (stored-entry entries s some) old) in
                fed-before x (fed-from-stored (system_of m) (stored_in (without entries added)) s x kept feed)

-- ---- following what was opened

module _ (m : BoundModel) (g h : Growth) (opening : AreOpen m g) (grows : Grows g h) where
  -- where each opened cell was followed and nothing waits, all ends of chains were found
  pub all-followed : (places : ℕ) → length h.opened.items ≤ places → AreFollowed m h places → h.found.items ≡ []
      → (c : ℕ) → EndsChain m g c → HasCell h c
  all-followed places many followed none c (zero, x, has, same) = subst (HasCell h) same (grows.kept x has)
  all-followed places many followed none c (suc n, x, has, (y, chain, last)) = next y c (all-followed places many followed none y (n, x, has, chain)) last
    where
      opened : (x c : ℕ) → Contains h.opened.items x → Feeds (system_of m) x c → HasCell h c
      opened x c (k, low, is) feed = followed k x (omega (arith, low, many)) (slice_get-get_or h.opened.items k x low ∙ ap Some is) c feed

      next : (x c : ℕ) → HasCell h x → Feeds (system_of m) x c → HasCell h c
      next x c (inr found) feed = absurd (none-there x (subst (λ (cells : List ℕ). Contains cells x) none found))
      next x c (inl known) feed =
          elim (grows.opened.2.only x known) [
            | inl before ↦ elim (opening.others x before) [
              | inl was ↦ opened x c (subst (λ (cells : List ℕ). Contains cells x) (sym grows.opened.1) (Contains-append_left g.opened.items grows.opened.0 x was)) feed
              | inr done ↦ grows.kept c (done c feed)
            ]
            | inr more ↦ opened x c (subst (λ (cells : List ℕ). Contains cells x) (sym grows.opened.1) (Contains-append_right g.opened.items grows.opened.0 x more)) feed
          ]
