-- The decision by dimension is the cover of the rule laws.
use Rattle.std.proofs.Common.{◌≡◌, refl, sym, ◌∙◌, arith, subst, ℕ, zero, suc, ◌+◌, ◌<◌, ◌≤◌, ◌⊎◌, true, List, [], ◌∷◌, ◌++◌, length, get_or, map, Any, inl, inr}
use Rattle.std.specs.List.{list_any, flat_map, range_with_len}
use Rattle.std.proofs.lemmas.Bool.{and_parts, and_from, cases_lt}
use Rattle.std.proofs.lemmas.List.Folds.{Any-from_list_any, list_any_at}
use Rattle.cube_space.specs.Layout.{axes}
use Rattle.cube_space.specs.Cells.{IsSpace}
use Rattle.rule_laws.specs.declared.reference.Reference.{Reference}
use Rattle.rule_laws.specs.Cover.{CoversBy, IsCoveredReference}
use Rattle.rule_model.specs.declared.rules.Statement.{Statement}
use Rattle.rule_model.specs.declared.rules.Feeder.{Feeder}
use Rattle.rule_model.specs.BoundModel.{BoundModel, rules_of}
use Rattle.rule_model.specs.System.{system_of, rule_of, feed_of, cube_feeds, cubes_of}
use Rattle.rule_model.specs.Conditions.{IsArea, IsReference, IsFeeder, AreRules}
use Rattle.cover_laws.specs.Covered.{covers, has_cover, is_covered}
use Rattle.cover_laws.proofs.Fed.{covers-by, by-covers}
use Rattle.cover_laws.proofs.Totals.{governed-totals, totals-governed}

-- ---- lists

module _ {X : Type 0} (P : X → Type 0) where
  any-first : (xs ys : List X) → Any P xs → Any P (xs ++ ys)
  any-first [] ys (k, x, low, at, p) = absurd (omega (arith, low))
  any-first (y ∷ xs) ys (zero, x, low, at, p) = (0, x, omega arith, at, p)
  any-first (y ∷ xs) ys (suc k, x, low, at, p) = let (j, z, l, a, q) = any-first xs ys (k, x, omega (arith, low), at, p) in (suc j, z, omega (arith, l), a, q)

  any-second : (xs ys : List X) → Any P ys → Any P (xs ++ ys)
  any-second [] ys h = h
  any-second (y ∷ xs) ys h = let (j, z, l, a, q) = any-second xs ys h in (suc j, z, omega (arith, l), a, q)

  any-either : (xs ys : List X) → Any P (xs ++ ys) → Any P xs ⊎ Any P ys
  any-either [] ys h = inr h
  any-either (y ∷ xs) ys (zero, x, low, at, p) = inl (0, x, omega arith, at, p)
  any-either (y ∷ xs) ys (suc k, x, low, at, p) = elim (any-either xs ys (k, x, omega (arith, low), at, p)) [
    | inl (j, z, l, a, q) ↦ inl (suc j, z, omega (arith, l), a, q)
    | inr rest ↦ inr rest
  ]

  any-flat : (f : ℕ → List X) (a n k : ℕ) → a ≤ k → k < a + n → Any P (f k) → Any P (flat_map f (range_with_len a n))
  any-flat f a zero k from low h = absurd (omega (arith, from, low))
  any-flat f a (suc n) k from low h = elim (cases_lt a k) [
    | inl after ↦ any-second (f a) (flat_map f (range_with_len (a + 1) n)) (any-flat f (a + 1) n k (omega (arith, after)) (omega (arith, low)) h)
    | inr before ↦ let same : k ≡ a = omega (arith, before, from) in any-first (f a) (flat_map f (range_with_len (a + 1) n)) (subst (λ j. Any P (f j)) same h)
  ]

  flat-any : (f : ℕ → List X) (a n : ℕ) → Any P (flat_map f (range_with_len a n)) → (k : ℕ) × (a ≤ k) × (k < a + n) × Any P (f k)
  flat-any f a zero (k, x, low, at, p) = absurd (omega (arith, low))
  flat-any f a (suc n) h = elim (any-either (f a) (flat_map f (range_with_len (a + 1) n)) h) [
    | inl here ↦ (a, omega arith, omega arith, here)
    | inr later ↦ let (k, from, low, found) = flat-any f (a + 1) n later in (k, omega (arith, from), omega (arith, low), found)
  ]

  map-any : {Y : Type 0} (f : Y → X) (ys : List Y) → Any P (map f ys) → (k : ℕ) × (k < length ys) × ((d : Y) → P (f (get_or ys k d)))
  map-any f [] (k, x, low, at, p) = absurd (omega (arith, low))
  map-any f (y ∷ ys) (zero, x, low, at, p) = (0, omega arith, λ d. subst P (sym at) p)
  map-any f (y ∷ ys) (suc k, x, low, at, p) = let (j, l, q) = map-any f ys (k, x, omega (arith, low), at, p) in (suc j, omega (arith, l), q)

  any-map : {Y : Type 0} (f : Y → X) (ys : List Y) (k : ℕ) (d : Y) → k < length ys → P (f (get_or ys k d)) → Any P (map f ys)
  any-map f [] k d low p = absurd (omega (arith, low))
  any-map f (y ∷ ys) zero d low p = (0, f y, omega arith, refl, p)
  any-map f (y ∷ ys) (suc k) d low p = let (j, z, l, a, q) = any-map f ys k d (omega (arith, low)) p in (suc j, z, omega (arith, l), a, q)

pub range-at : (n k d : ℕ) → k < n → get_or (range_with_len 0 n) k d ≡ k
range-at n k d low = Rattle.std.proofs.lemmas.List.FromFn.get_or-range_with_len 0 n k d low ∙ (let own : 0 + k ≡ k = omega arith in own)

range-long : (n : ℕ) → length (range_with_len 0 n) ≡ n
range-long n = Rattle.std.proofs.lemmas.List.FromFn.length-range_with_len 0 n

module _ (m : BoundModel) (valid : IsSpace m.space) (ruled : AreRules m.space m.rules) (cube : ℕ) (there : cube < length m.space.cubes)
    (statement : Statement) (is_area : IsArea m.space cube statement.area) (r : Reference) (is : IsReference m.space cube r) where
  -- a cube has two dimensions or more
  wide : 0 < length (axes m.space cube)
  wide = Rattle.cover_laws.proofs.Wide.some-dimension m.space cube valid there

  feeder-at : (own k : ℕ) (d : Feeder) → own < length m.space.cubes → k < length (rules_of m own).feeders → IsFeeder m.space own (get_or (rules_of m own).feeders k d)
  feeder-at own k d low inside = (ruled.cube own low).feeders k d inside

  some-cover : has_cover m cube statement.area r ≡ true → Any (CoversBy (system_of m) (rule_of m.space cube statement) r) (system_of m).feeds
  unfolding has_cover system_of
  some-cover h =
      let (k, own, low, at, any) = Any-from_list_any (λ own. list_any (covers m cube statement.area r own) (rules_of m own).feeders) (cubes_of m) h in
      let (j, f, inside, is_f, holds) = Any-from_list_any (covers m cube statement.area r own) (rules_of m own).feeders any in
      let short : k < length m.space.cubes = omega (arith, low, range-long (length m.space.cubes)) in
      let same : k ≡ own = sym (range-at (length m.space.cubes) k own short) ∙ at in
      let own_there : own < length m.space.cubes = omega (arith, short, same) in
      any-flat (CoversBy (system_of m) (rule_of m.space cube statement) r) (cube_feeds m) 0 (length m.space.cubes) own (omega arith) (omega (arith, own_there))
      (any-map (CoversBy (system_of m) (rule_of m.space cube statement) r) (feed_of m.space own) (rules_of m own).feeders j f inside
      (subst (λ (g : Feeder). CoversBy (system_of m) (rule_of m.space cube statement) r (feed_of m.space own g)) (sym is_f)
      (covers-by m valid ruled cube there statement is_area r is own own_there f (subst (IsFeeder m.space own) is_f (feeder-at own j f own_there inside)) wide holds)))

  cover-some : Any (CoversBy (system_of m) (rule_of m.space cube statement) r) (system_of m).feeds → has_cover m cube statement.area r ≡ true
  unfolding has_cover system_of
  cover-some h =
      let (own, from, low, any) = flat-any (CoversBy (system_of m) (rule_of m.space cube statement) r) (cube_feeds m) 0 (length m.space.cubes) h in
      let own_there : own < length m.space.cubes = omega (arith, low) in
      let (j, inside, holds) = map-any (CoversBy (system_of m) (rule_of m.space cube statement) r) (feed_of m.space own) (rules_of m own).feeders any in
      list_any_at (λ own. list_any (covers m cube statement.area r own) (rules_of m own).feeders) (cubes_of m) own 0 (omega (arith, own_there, range-long (length m.space.cubes)))
      (subst (λ n. list_any (covers m cube statement.area r n) (rules_of m n).feeders ≡ true) (sym (range-at (length m.space.cubes) own 0 own_there)) (at own own_there j inside holds))
    where
      at : (own : ℕ) → own < length m.space.cubes → (j : ℕ) → j < length (rules_of m own).feeders
          → ((d : Feeder) → CoversBy (system_of m) (rule_of m.space cube statement) r (feed_of m.space own (get_or (rules_of m own).feeders j d))) → list_any (covers m cube statement.area r own) (rules_of m own).feeders ≡ true
      at own low j inside holds = list_any_at (covers m cube statement.area r own) (rules_of m own).feeders j none inside
          (by-covers m valid ruled cube there statement is_area r is own low (get_or (rules_of m own).feeders j none) (feeder-at own j none low inside) wide (holds none))
        where
          none : Feeder
          none = record { area = record { sets = [] }; target = r; statement = 0 }

  pub decided-covered : is_covered m cube statement.area r ≡ true → IsCoveredReference (system_of m) (rule_of m.space cube statement) r
  unfolding is_covered
  decided-covered h = let parts = and_parts _ _ h in (governed-totals m valid ruled cube there statement is_area r is wide parts.0, some-cover parts.1)

  pub covered-decided : IsCoveredReference (system_of m) (rule_of m.space cube statement) r → is_covered m cube statement.area r ≡ true
  unfolding is_covered
  covered-decided h = and_from _ _ (totals-governed m valid ruled cube there statement is_area r is wide h.0) (cover-some h.1)
