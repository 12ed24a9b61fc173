-- The rules of the cubes with the feeders that are found.
use Rattle.std.proofs.Common.{◌≡◌, ◌≢◌, ◌⊎◌, inl, inr, refl, ap, ◌∙◌, sym, subst, arith, eq-eqb, ℕ, set, zero, suc, ◌+◌, ◌<◌, ◌≤◌, ◌==◌, Bool, true, false, Option, Some, None, List, [], ◌∷◌, ◌++◌, length, map, get_or, filter_map, All, if◌then◌else◌, Vec}
use Rattle.std.specs.Prelude.{slice_index_or}
use Rattle.std.specs.List.{range_with_len, cons_option}
use Rattle.std.proofs.lemmas.List.{append-nil, length-set, length-map, map-set, map-append, get_or-set_same, get_or-set_other}
use Rattle.std.proofs.lemmas.Bool.{cases_eq}
use Rattle.std.proofs.lemmas.List.Elements.{All-append, All-cons, All-nil, All-head, All-tail}
use Rattle.std.proofs.lemmas.List.FromFn.{fill_by_all, map-range_with_len_more, get_or-map-range_with_len, length-map-range_with_len}
use Rattle.std.proofs.lemmas.Bool.Decides.{Decides-eqb}
use Rattle.std.specs.declared.alloc.Global.{Global}
use Rattle.cube_space.specs.Layout.{Layout}
use Rattle.rule_model.specs.declared.rules.CubeRules.{CubeRules}
use Rattle.rule_model.specs.declared.rules.Feeder.{Feeder}
use Rattle.rule_model.specs.BoundModel.{BoundModel, rules_of, no_rules}
use Rattle.rule_model.specs.Conditions.{IsFeeder, AreCubeRules, AreRules}
use Rattle.rule_model.specs.System.{cubes_of}
use Rattle.model_counts.specs.Counts.{feeder_statements}
use Rattle.feed_find.specs.declared.chosen.FoundFeeder.{FoundFeeder}
use Rattle.feed_find.specs.Added.{IsFound, numbered, with_feeders, feeders_in, with_found}
use Rattle.feed_find.specs.Views.{HaveFewFeeders, AreWithGroups, IsOwnAdded, groups_of, lists_in}

-- ---- numbers

pub numbered-more : (n : ℕ) (fs : List Feeder) (f : Feeder) → numbered n (fs ++ f ∷ []) ≡ numbered n fs ++ numbered (n + length fs) (f ∷ [])
numbered-more n [] f = ap (λ k. numbered k (f ∷ [])) (omega arith)
numbered-more n (x ∷ fs) f =
    ap (λ (rest : List Feeder). record { area = x.area; target = x.target; statement = n } ∷ rest)
    (numbered-more (suc n) fs f ∙ ap (λ k. numbered (suc n) fs ++ numbered k (f ∷ [])) (omega arith))

pub length-numbered : (n : ℕ) (fs : List Feeder) → length (numbered n fs) ≡ length fs
length-numbered n [] = refl
length-numbered n (x ∷ fs) = ap suc (length-numbered (suc n) fs)

-- a feeder of a cube is one whatever its number
numbered-valid : (space : Layout) (cube n : ℕ) (fs : List Feeder) → All (IsFeeder space cube) fs → All (IsFeeder space cube) (numbered n fs)
numbered-valid space cube n [] all = All-nil (IsFeeder space cube)
numbered-valid space cube n (x ∷ fs) all =
    let own = All-head (IsFeeder space cube) x fs all in
    let here : IsFeeder space cube (record { area = x.area; target = x.target; statement = n }) = record { area = own.area; target = own.target } in
    All-cons (IsFeeder space cube) (record { area = x.area; target = x.target; statement = n }) (numbered (suc n) fs) here
    (numbered-valid space cube (suc n) fs (All-tail (IsFeeder space cube) x fs all))

-- ---- the feeders of a cube

pub in-more : (cube : ℕ) (seen : List FoundFeeder) (x : FoundFeeder) → feeders_in cube (seen ++ x ∷ []) ≡ feeders_in cube seen ++ (if x.cube == cube then x.feeder ∷ [] else [])
in-more cube [] x = by (x.cube == cube)
  where
    by : (b : Bool) → cons_option (if b then Some x.feeder else None) [] ≡ (if b then x.feeder ∷ [] else [])
    by true = refl
    by false = refl
in-more cube (y ∷ seen) x = by (y.cube == cube) (in-more cube seen x)
  where
    by : (b : Bool) → feeders_in cube (seen ++ x ∷ []) ≡ feeders_in cube seen ++ (if x.cube == cube then x.feeder ∷ [] else [])
        → cons_option (if b then Some y.feeder else None) (feeders_in cube (seen ++ x ∷ [])) ≡ cons_option (if b then Some y.feeder else None) (feeders_in cube seen) ++ (if x.cube == cube then x.feeder ∷ [] else [])
    by true rest = ap (λ (fs : List Feeder). y.feeder ∷ fs) rest
    by false rest = rest

in-valid : (space : Layout) (cube : ℕ) (found : List FoundFeeder) → All (IsFound space) found → All (IsFeeder space cube) (feeders_in cube found)
in-valid space cube [] all = All-nil (IsFeeder space cube)
in-valid space cube (x ∷ found) all = by (x.cube == cube) refl (All-head (IsFound space) x found all) (in-valid space cube found (All-tail (IsFound space) x found all))
  where
    by : (b : Bool) → (x.cube == cube) ≡ b → IsFound space x → All (IsFeeder space cube) (feeders_in cube found) → All (IsFeeder space cube) (cons_option (if b then Some x.feeder else None) (feeders_in cube found))
    by false off own rest = rest
    by true on own rest =
        All-cons (IsFeeder space cube) x.feeder (feeders_in cube found)
        (subst (λ c. IsFeeder space c x.feeder) ((Decides-eqb x.cube cube).0 on) own.1) rest

-- ---- the rules of a cube

none-more : (r : CubeRules) → with_feeders r [] ≡ r
none-more r = ap (λ (fs : List Feeder). let rules : CubeRules = record { skipcheck = r.skipcheck; statements = r.statements; feeders = fs; order = r.order } in rules) (append-nil r.feeders)

more-valid : (space : Layout) (cube : ℕ) (r : CubeRules) (fs : List Feeder) → AreCubeRules space cube r → All (IsFeeder space cube) fs → length (with_feeders r fs).feeders < 4294967296 → AreCubeRules space cube (with_feeders r fs)
more-valid space cube r fs are all few = record {
  few_statements = are.few_statements;
  few_feeders = few;
  statements = are.statements;
  feeders = All-append (IsFeeder space cube) r.feeders (numbered (feeder_statements r.feeders) fs) are.feeders (numbered-valid space cube (feeder_statements r.feeders) fs all);
  order = are.order;
}

-- ---- the model

-- where nothing is found, the model stays
pub with-none : (m : BoundModel) → length m.rules ≡ length m.space.cubes → m ≡ with_found m []
unfolding with_found
with-none m long =
    ap (λ (rules : List CubeRules). let model : BoundModel = record { space = m.space; rules = rules } in model)
    (fill_by_all (λ cube. with_feeders (rules_of m cube) []) m.rules (length m.space.cubes) no_rules long (λ k low. sym (none-more (rules_of m k))))

module _ (space : Layout) (rules all : List CubeRules) (found : List FoundFeeder) where
  -- the rules of each cube, with the feeders that are its own
  each-with : (groups : List (List Feeder)) → groups ≡ groups_of (length space.cubes) found → AreWithGroups rules groups all → length rules ≡ length space.cubes
      → (cube : ℕ) → cube < length space.cubes → get_or all cube no_rules ≡ with_feeders (get_or rules cube no_rules) (feeders_in cube found)
  each-with groups are with long cube low =
      with.each cube (omega (arith, low, long))
      ∙ ap (λ (gs : List (List Feeder)). with_feeders (get_or rules cube no_rules) (get_or gs cube [])) are
      ∙ ap (with_feeders (get_or rules cube no_rules)) (get_or-map-range_with_len (λ cube. feeders_in cube found) 0 (length space.cubes) cube cube [] low (omega arith))

  pub model-with : (m : BoundModel) (groups : List (List Feeder)) → m ≡ record { space = space; rules = rules }
      → groups ≡ groups_of (length space.cubes) found → AreWithGroups rules groups all → length rules ≡ length space.cubes
      → (let model : BoundModel = record { space = space; rules = all } in model) ≡ with_found m found
  unfolding with_found
  model-with m groups is are with long =
      ap (λ (rs : List CubeRules). let model : BoundModel = record { space = space; rules = rs } in model)
      (fill_by_all (λ cube. with_feeders (get_or rules cube no_rules) (feeders_in cube found)) all (length space.cubes) no_rules (with.long ∙ long) (each-with groups are with long))
      ∙ ap (λ (model : BoundModel). with_found model found) (sym is)

  pub rules-with : (groups : List (List Feeder)) → groups ≡ groups_of (length space.cubes) found → AreWithGroups rules groups all
      → AreRules space rules → All (IsFound space) found → HaveFewFeeders all → AreRules space all
  rules-with groups are with own valid few = record {
    each_cube = with.long ∙ own.each_cube;
    cube = λ cube low.
        let same = each-with groups are with own.each_cube cube low in
        let size = few cube (omega (arith, low, with.long, own.each_cube)) in
        subst (AreCubeRules space cube) (sym same)
        (more-valid space cube (get_or rules cube no_rules) (feeders_in cube found) (own.cube cube low) (in-valid space cube found valid) (subst (λ (r : CubeRules). length r.feeders < 4294967296) same size));
  }

-- ---- cube after cube

-- the cubes before this one have their own of these feeders, and the others what they had
pub record AreUpTo (cube : ℕ) (rules : List CubeRules) (groups : List (List Feeder)) (now : List CubeRules) (left : List (List Feeder)) : Type 0 where
  pub long : length now ≡ length rules
  pub wide : length left ≡ length groups
  pub done : (k : ℕ) → k < cube → get_or now k no_rules ≡ with_feeders (get_or rules k no_rules) (get_or groups k [])
  pub others : (k : ℕ) → cube ≤ k → get_or now k no_rules ≡ get_or rules k no_rules
  pub rest : (k : ℕ) → cube ≤ k → get_or left k [] ≡ get_or groups k []
  pub few : HaveFewFeeders now

pub up-to-none : (rules : List CubeRules) (groups : List (List Feeder)) → HaveFewFeeders rules → AreUpTo 0 rules groups rules groups
up-to-none rules groups few = record {
  long = refl;
  wide = refl;
  done = λ k low. absurd (omega (arith, low));
  others = λ k high. refl;
  rest = λ k high. refl;
  few = few;
}

pub up-to-more : (cube : ℕ) (rules now new : List CubeRules) (groups left next : List (List Feeder)) → cube < length rules → AreUpTo cube rules groups now left
    → IsOwnAdded cube left now new → next ≡ set left cube [] → AreUpTo (cube + 1) rules groups new next
up-to-more cube rules now new groups left next low so added is = record {
  long = added.long ∙ so.long;
  wide = ap length is ∙ length-set left cube [] ∙ so.wide;
  done = λ k less. by k less (cases_eq k cube);
  others = λ k high. let other : k ≡ cube → ⊥ = λ e. omega (arith, e, high) in added.others k other ∙ so.others k (omega (arith, high));
  rest = λ k high. let other : k ≢ cube = omega (arith, high) in ap (λ (gs : List (List Feeder)). get_or gs k []) is ∙ get_or-set_other left cube k [] [] other ∙ so.rest k (omega (arith, high));
  few = λ k less. few-at k less (cases_eq k cube);
}
  where
    by : (k : ℕ) → k < cube + 1 → (k ≡ cube) ⊎ (k ≢ cube) → get_or new k no_rules ≡ with_feeders (get_or rules k no_rules) (get_or groups k [])
    by k less (inl same) =
        subst (λ k. get_or new k no_rules ≡ with_feeders (get_or rules k no_rules) (get_or groups k [])) (sym same)
        (added.own ∙ ap (λ (r : CubeRules). with_feeders r (get_or left cube [])) (so.others cube (omega arith)) ∙ ap (with_feeders (get_or rules cube no_rules)) (so.rest cube (omega arith)))
    by k less (inr other) = added.others k other ∙ so.done k (omega (arith, less, other))

    few-at : (k : ℕ) → k < length new → (k ≡ cube) ⊎ (k ≢ cube) → length (get_or new k no_rules).feeders < 4294967296
    few-at k less (inl same) = subst (λ k. length (get_or new k no_rules).feeders < 4294967296) (sym same) added.few
    few-at k less (inr other) = subst (λ (r : CubeRules). length r.feeders < 4294967296) (sym (added.others k other)) (so.few k (omega (arith, less, added.long)))

pub up-to-all : (cube : ℕ) (rules now : List CubeRules) (groups left : List (List Feeder)) → length rules ≤ cube → AreUpTo cube rules groups now left → AreWithGroups rules groups now
up-to-all cube rules now groups left end so = record { long = so.long; each = λ k low. so.done k (omega (arith, low, end)) }

differs : (a b : ℕ) → (a ≡ b → ⊥) → (a == b) ≡ false
differs a b other = off (a == b) refl
  where
    off : (t : Bool) → (a == b) ≡ t → (a == b) ≡ false
    off true on = absurd (other ((Decides-eqb a b).0 on))
    off false is = is

-- one feeder more in the group of its cube
pub grouped-more : (cubes : ℕ) (seen : List FoundFeeder) (x : FoundFeeder) (old new : List (List Feeder)) → old ≡ groups_of cubes seen → x.cube < cubes
    → new ≡ set old x.cube (get_or old x.cube [] ++ x.feeder ∷ []) → new ≡ groups_of cubes (seen ++ x ∷ [])
grouped-more cubes seen x old new are low is =
    fill_by_all (λ cube. feeders_in cube (seen ++ x ∷ [])) new cubes [] (ap length is ∙ length-set old x.cube (get_or old x.cube [] ++ x.feeder ∷ []) ∙ wide) (λ k less. by k less (cases_eq k x.cube))
  where
    wide : length old ≡ cubes
    wide = ap length are ∙ length-map-range_with_len (λ cube. feeders_in cube seen) 0 cubes

    had : (k : ℕ) → k < cubes → get_or old k [] ≡ feeders_in k seen
    had k less = ap (λ (gs : List (List Feeder)). get_or gs k []) are ∙ get_or-map-range_with_len (λ cube. feeders_in cube seen) 0 cubes k k [] less (omega arith)

    by : (k : ℕ) → k < cubes → (k ≡ x.cube) ⊎ (k ≢ x.cube) → get_or new k [] ≡ feeders_in k (seen ++ x ∷ [])
    by k less (inl same) =
        subst (λ k. get_or new k [] ≡ feeders_in k (seen ++ x ∷ [])) (sym same)
        (ap (λ (gs : List (List Feeder)). get_or gs x.cube []) is
        ∙ get_or-set_same old x.cube (get_or old x.cube [] ++ x.feeder ∷ []) [] (omega (arith, low, wide))
        ∙ ap (λ (fs : List Feeder). fs ++ x.feeder ∷ []) (had x.cube low)
        ∙ sym (in-more x.cube seen x ∙ ap (λ b. feeders_in x.cube seen ++ (if b then x.feeder ∷ [] else [])) (eq-eqb x.cube x.cube refl)))
    by k less (inr other) =
        ap (λ (gs : List (List Feeder)). get_or gs k []) is ∙ get_or-set_other old x.cube k (get_or old x.cube [] ++ x.feeder ∷ []) [] other ∙ had k less
        ∙ sym (in-more k seen x ∙ ap (λ b. feeders_in k seen ++ (if b then x.feeder ∷ [] else [])) (differs x.cube k (λ e. other (sym e))) ∙ append-nil (feeders_in k seen))

-- ---- groups as vectors

pub items-set : (groups : List (Vec Feeder Global)) (i : ℕ) (g : Vec Feeder Global) → lists_in (set groups i g) ≡ set (lists_in groups) i g.items
items-set groups i g = map-set (λ (g : Vec Feeder Global). g.items) groups i g

pub items-more : (groups : List (Vec Feeder Global)) (g : Vec Feeder Global) → lists_in (groups ++ g ∷ []) ≡ lists_in groups ++ g.items ∷ []
items-more groups g = map-append (λ (g : Vec Feeder Global). g.items) groups (g ∷ [])

pub items-at : (groups : List (Vec Feeder Global)) (i : ℕ) (g : Vec Feeder Global) → i < length groups → g ≡ get_or groups i g → g.items ≡ get_or (lists_in groups) i []
items-at [] i g low is = absurd (omega (arith, low))
items-at (x ∷ groups) zero g low is = ap (λ (g : Vec Feeder Global). g.items) is
items-at (x ∷ groups) (suc i) g low is = items-at groups i g (omega (arith, low)) is

pub groups-long : (cubes : ℕ) (seen : List FoundFeeder) (groups : List (Vec Feeder Global)) → lists_in groups ≡ groups_of cubes seen → length groups ≡ cubes
groups-long cubes seen groups are =
    sym (length-map groups (λ (g : Vec Feeder Global). g.items)) ∙ ap length are ∙ length-map-range_with_len (λ cube. feeders_in cube seen) 0 cubes

pub groups-next : (n : ℕ) (fs : List Feeder) → fs ≡ [] → groups_of n [] ++ fs ∷ [] ≡ groups_of (n + 1) []
groups-next n fs none =
    ap (λ (fs : List Feeder). groups_of n [] ++ fs ∷ []) none ∙ sym (map-range_with_len_more (λ cube. feeders_in cube []) 0 n n (omega arith))
