-- The statements of a cell's cube among all statements.
use Rattle.std.proofs.Common.{◌≡◌, refl, sym, ◌∙◌, ap, arith, ℕ, zero, suc, ◌+◌, ◌-◌, ◌<◌, ◌≤◌, ◌⊎◌, inl, inr, Bool, true, false, length-append, List, [], ◌∷◌, ◌++◌, length, drop, Option, None, Some, eqb}
use Rattle.std.specs.Prelude.{is_some, option_and_then, slice_get, nat_lt}
use Rattle.std.specs.List.{All, flat_map, range_with_len, position, position_or_len}
use Rattle.std.specs.Option.{option_map}
use Rattle.std.proofs.Math.Seq.{drop-append-add}
use Rattle.std.proofs.lemmas.Bool.{ne_eqb, cases_lt}
use Rattle.std.proofs.lemmas.Bool.Decides.{nat_tests}
use Rattle.std.proofs.lemmas.List.{append-nil}
use Rattle.std.proofs.lemmas.List.Elements.{All-head, All-tail, All-nil, All-append, All-drop, All-map}
use Rattle.std.proofs.lemmas.Grind.{flat_map-append}
use Rattle.cube_fixed.specs.declared.value.Value.{Value}
use Rattle.cube_space.specs.Cells.{cube_of}
use Rattle.cube_space.proofs.Places.{cell-place}
use Rattle.rule_laws.specs.declared.formula.Formula.{Formula}
use Rattle.rule_laws.specs.RuleSystem.{RuleSystem, Rule, Stored, IsCell, part_at, base, value_at, value_by, value_from, governing, governing_from, formula_at}
use Rattle.rule_laws.proofs.StatementFacts.{from-none, from-some}
use Rattle.rule_model.specs.BoundModel.{BoundModel, rules_of}
use Rattle.rule_model.specs.System.{rule_of, cube_rules, system_of}
use Rattle.rule_model.specs.Governing as model
use Rattle.rule_model.specs.Governing.{rules_for, has_part}
use Rattle.rule_model.proofs.Statements.{own_system}
use Rattle.model_laws.specs.Statements.{statements_before, value_by_cube}

-- ---- lists

drop-both : {X : Type 0} (n : ℕ) (xs ys : List X) → drop n (xs ++ ys) ≡ drop n xs ++ drop (n - length xs) ys
drop-both zero xs ys = let e : 0 - length xs ≡ 0 = omega arith in rw e refl
drop-both (suc n) [] ys = let e : suc n - 0 ≡ suc n = omega arith in rw e refl
drop-both (suc n) (x ∷ xs) ys = let e : suc n - suc (length xs) ≡ n - length xs = omega arith in rw e (drop-both n xs ys)

slice_get-after : {X : Type 0} (xs ys : List X) (n : ℕ) → slice_get (xs ++ ys) (length xs + n) ≡ slice_get ys n
slice_get-after [] ys n = let e : 0 + n ≡ n = omega arith in rw e refl
slice_get-after (x ∷ xs) ys n = let e : suc (length xs) + n ≡ suc (length xs + n) = omega arith in rw e (slice_get-after xs ys n)

pub range-split : (a k n : ℕ) → range_with_len a (k + n) ≡ range_with_len a k ++ range_with_len (a + k) n
range-split a zero n = let e : 0 + n ≡ n = omega arith in let d : a + 0 ≡ a = omega arith in rw (e, d) refl
range-split a (suc k) n =
    let e : suc k + n ≡ suc (k + n) = omega arith in
    let d : a + suc k ≡ a + 1 + k = omega arith in
    rw (e, d) (ap (λ xs. a ∷ xs) (range-split (a + 1) k n))

-- ---- places

module _ {X : Type 0} (p : X → Bool) where
  abbrev IsOff : X → Type 0
  IsOff x = p x ≡ false

  first-after : (front xs : List X) → All IsOff front → position_or_len p (front ++ xs) ≡ length front + position_or_len p xs
  first-after [] xs off = omega arith
  first-after (x ∷ front) xs off =
      let here : p x ≡ false = All-head IsOff x front off in
      let rest = first-after front xs (All-tail IsOff x front off) in
      rw here (omega (arith, rest))

  first-none : (xs : List X) → All IsOff xs → position_or_len p xs ≡ length xs
  first-none xs off =
      let none = first-after xs [] off in
      ap (position_or_len p) (sym (append-nil xs)) ∙ omega (arith, none)

  -- what comes behind changes nothing where nothing passes there
  first-before : (own back : List X) → All IsOff back
      → ((position_or_len p own < length own) × (position_or_len p (own ++ back) ≡ position_or_len p own))
      ⊎ ((length own ≤ position_or_len p own) × (length (own ++ back) ≤ position_or_len p (own ++ back)))
  first-before [] back off = inr (omega arith, omega (arith, first-none back off))
  first-before (x ∷ own) back off = by (p x) refl (first-before own back off)
    where
      by : (b : Bool) → p x ≡ b
          → ((position_or_len p own < length own) × (position_or_len p (own ++ back) ≡ position_or_len p own))
          ⊎ ((length own ≤ position_or_len p own) × (length (own ++ back) ≤ position_or_len p (own ++ back)))
          → ((position_or_len p (x ∷ own) < length (x ∷ own)) × (position_or_len p (x ∷ (own ++ back)) ≡ position_or_len p (x ∷ own)))
          ⊎ ((length (x ∷ own) ≤ position_or_len p (x ∷ own)) × (length (x ∷ (own ++ back)) ≤ position_or_len p (x ∷ (own ++ back))))
      by true on rest = rw on (inl (omega arith, refl))
      by false off (inl found) = rw off (inl (omega (arith, found.0), omega (arith, found.1)))
      by false off (inr none) = rw off (inr (omega (arith, none.0), omega (arith, none.1)))

  position-by : (xs ys : List X) (k : ℕ) → ((position_or_len p xs < length xs) × (position_or_len p ys ≡ k + position_or_len p xs) × (position_or_len p ys < length ys))
      ⊎ ((length xs ≤ position_or_len p xs) × (length ys ≤ position_or_len p ys)) → position p ys ≡ option_map (λ n. k + n) (position p xs)
  position-by xs ys k (inl found) =
      let a : nat_lt (position_or_len p xs) (length xs) ≡ true = grind (arith, nat_tests, found.0) in
      let b : nat_lt (position_or_len p ys) (length ys) ≡ true = grind (arith, nat_tests, found.2) in
      rw (a, b) (ap Some found.1)
  position-by xs ys k (inr none) =
      let a : nat_lt (position_or_len p xs) (length xs) ≡ false = grind (arith, nat_tests, none.0) in
      let b : nat_lt (position_or_len p ys) (length ys) ≡ false = grind (arith, nat_tests, none.1) in
      rw (a, b) refl

  pub position-before : (own back : List X) → All IsOff back → position p (own ++ back) ≡ position p own
  position-before own back off = same (position p own) (position-by own (own ++ back) 0 (either (first-before own back off)))
    where
      same : (o : Option ℕ) → position p (own ++ back) ≡ option_map (λ n. 0 + n) o → position p (own ++ back) ≡ o
      same None e = e
      same (Some n) e = e ∙ ap Some (let z : 0 + n ≡ n = omega arith in z)

      either : ((position_or_len p own < length own) × (position_or_len p (own ++ back) ≡ position_or_len p own))
          ⊎ ((length own ≤ position_or_len p own) × (length (own ++ back) ≤ position_or_len p (own ++ back)))
          → ((position_or_len p own < length own) × (position_or_len p (own ++ back) ≡ 0 + position_or_len p own) × (position_or_len p (own ++ back) < length (own ++ back)))
          ⊎ ((length own ≤ position_or_len p own) × (length (own ++ back) ≤ position_or_len p (own ++ back)))
      either (inl found) = inl (found.0, omega (arith, found.1), omega (arith, found.0, found.1, length-append own back))
      either (inr none) = inr none

  -- and those before move it
  pub position-after : (front xs : List X) → All IsOff front → position p (front ++ xs) ≡ option_map (λ n. length front + n) (position p xs)
  position-after front xs off = position-by xs (front ++ xs) (length front) (either (first-after front xs off) (cases_lt (position_or_len p xs) (length xs)))
    where
      either : position_or_len p (front ++ xs) ≡ length front + position_or_len p xs → (position_or_len p xs < length xs) ⊎ (length xs ≤ position_or_len p xs)
          → ((position_or_len p xs < length xs) × (position_or_len p (front ++ xs) ≡ length front + position_or_len p xs) × (position_or_len p (front ++ xs) < length (front ++ xs)))
          ⊎ ((length xs ≤ position_or_len p xs) × (length (front ++ xs) ≤ position_or_len p (front ++ xs)))
      either is (inl found) = inl (found, is, omega (arith, found, is, length-append front xs))
      either is (inr none) = inr (none, omega (arith, none, is, length-append front xs))

-- ---- statements of other cubes

module _ (w : RuleSystem) (c : ℕ) where
  abbrev HasNone : Rule → Type 0
  HasNone rule = part_at w c rule ≡ None

  unmarked : (rules : List Rule) → All HasNone rules → All (IsOff (λ rule. is_some (part_at w c rule))) rules
  unmarked rules none k d less = ap is_some (none k d less)

  value-before : (stored : Stored) (table : ℕ → Value) (own back : List Rule) → All HasNone back → value_by w stored table c (own ++ back) ≡ value_by w stored table c own
  value-before stored table [] [] none = refl
  value-before stored table [] (rule ∷ back) none =
      let here : part_at w c rule ≡ None = All-head HasNone rule back none in
      rw here (value-before stored table [] back (All-tail HasNone rule back none))
  value-before stored table (rule ∷ own) back none = by (value-before stored table own back none) (part_at w c rule) refl
    where
      by : value_by w stored table c (own ++ back) ≡ value_by w stored table c own → (o : Option Formula) → part_at w c rule ≡ o
          → value_by w stored table c (rule ∷ (own ++ back)) ≡ value_by w stored table c (rule ∷ own)
      by later None is = rw is later
      by later (Some f) is = rw is (ap (λ rest. value_at w stored table c rest f) later)

  formula-none : (rules : List Rule) (n : ℕ) → All HasNone rules → option_and_then (part_at w c) (slice_get rules n) ≡ None
  formula-none [] n none = refl
  formula-none (rule ∷ rules) zero none = All-head HasNone rule rules none
  formula-none (rule ∷ rules) (suc n) none = formula-none rules n (All-tail HasNone rule rules none)

  formula-before : (own back : List Rule) (n : ℕ) → All HasNone back → option_and_then (part_at w c) (slice_get (own ++ back) n) ≡ option_and_then (part_at w c) (slice_get own n)
  formula-before [] back n none = formula-none back n none
  formula-before (rule ∷ own) back zero none = refl
  formula-before (rule ∷ own) back (suc n) none = formula-before own back n none

-- the statements of other cubes have no part for the cell
module _ (m : BoundModel) (c : ℕ) where
  other-cube : (cube : ℕ) → (cube ≡ cube_of m.space c → ⊥) → All (HasNone (system_of m) c) (cube_rules m cube)
  unfolding system_of
  other-cube cube other =
      All-map (HasNone (system_of m) c) (rule_of m.space cube) (rules_of m cube).statements
      (λ k d less. let off : eqb cube (cube_of m.space c) ≡ false = ne_eqb cube (cube_of m.space c) other in rw off refl)

  other-cubes : (a n : ℕ) → ((cube : ℕ) → a ≤ cube → cube < a + n → cube ≡ cube_of m.space c → ⊥) → All (HasNone (system_of m) c) (flat_map (cube_rules m) (range_with_len a n))
  other-cubes a zero other = All-nil (HasNone (system_of m) c)
  other-cubes a (suc n) other =
      All-append (HasNone (system_of m) c) (cube_rules m a) (flat_map (cube_rules m) (range_with_len (a + 1) n))
      (other-cube a (other a (omega arith) (omega arith)))
      (other-cubes (a + 1) n (λ cube low high. other cube (omega (arith, low)) (omega (arith, high))))

  abbrev front : List Rule
  front = flat_map (cube_rules m) (range_with_len 0 (cube_of m.space c))

  abbrev behind : ℕ → List Rule
  behind n = flat_map (cube_rules m) (range_with_len (cube_of m.space c + 1) n)

  -- the statements of the cubes before, those of the cell's cube, and those of the cubes after
  pub record IsSplit : Type 0 where
    pub back : List Rule
    pub all : (system_of m).rules ≡ front ++ (rules_for m c ++ back)
    pub none_before : All (HasNone (system_of m) c) front
    pub none_after : All (HasNone (system_of m) c) back

  pub split : IsCell (system_of m) c → IsSplit
  unfolding system_of
  split cell =
      let there = (cell-place m.space c cell).place.there in
      let own = cube_of m.space c in
      let count = length m.space.cubes in
      let rest = count - own - 1 in
      let one : own + (suc rest) ≡ count = omega (arith, there) in
      let start : 0 + own ≡ own = omega arith in
      let cubes : range_with_len 0 count ≡ range_with_len 0 own ++ (own ∷ range_with_len (own + 1) rest) =
      ap (range_with_len 0) (sym one) ∙ range-split 0 own (suc rest) ∙ ap (λ n. range_with_len 0 own ++ range_with_len n (suc rest)) start in
      record {
        back = behind rest;
        all = ap (flat_map (cube_rules m)) cubes ∙ flat_map-append (cube_rules m) (range_with_len 0 own) (own ∷ range_with_len (own + 1) rest);
        none_before = other-cubes 0 own (λ cube low high same. omega (arith, high, same));
        none_after = other-cubes (own + 1) rest (λ cube low high same. omega (arith, low, same));
      }

  module _ (s : IsSplit) where
    -- those from a place of the cell's cube on
    left-from : (n : ℕ) → drop (length front + n) (system_of m).rules ≡ drop n (rules_for m c) ++ drop (n - length (rules_for m c)) s.back
    left-from n = ap (drop (length front + n)) s.all ∙ drop-append-add front (rules_for m c ++ s.back) n ∙ drop-both n (rules_for m c) s.back

    none-left : (n : ℕ) → All (HasNone (system_of m) c) (drop n s.back)
    none-left n = All-drop (HasNone (system_of m) c) n s.back s.none_after

    pub value-from_cube : (stored : Stored) (table : ℕ → Value) (n : ℕ) → value_from (system_of m) stored table c (statements_before m c + n) ≡ value_by_cube m stored table c n
    unfolding statements_before
    value-from_cube stored table n =
        ap (value_by (system_of m) stored table c) (left-from n)
        ∙ value-before (system_of m) c stored table (drop n (rules_for m c)) (drop (n - length (rules_for m c)) s.back) (none-left (n - length (rules_for m c)))

    pub governing-from_cube : (n : ℕ) → governing_from (system_of m) c (statements_before m c + n) ≡ option_map (λ k. statements_before m c + k) (model.governing_from m c n)
    unfolding statements_before model.governing_from
    governing-from_cube n =
        ap (λ rules. option_map (λ k. (length front + n) + k) (position (has_part m c) rules)) (left-from n)
        ∙ ap (option_map (λ k. (length front + n) + k)) (position-before (has_part m c) (drop n (rules_for m c)) (drop (n - length (rules_for m c)) s.back) (unmarked (system_of m) c (drop (n - length (rules_for m c)) s.back) (none-left (n - length (rules_for m c)))))
        ∙ moved (position (has_part m c) (drop n (rules_for m c)))
      where
        moved : (o : Option ℕ) → option_map (λ k. (length front + n) + k) o ≡ option_map (λ k. length front + k) (option_map (λ k. n + k) o)
        moved None = refl
        moved (Some k) = ap Some (let e : (length front + n) + k ≡ length front + (n + k) = omega arith in e)

    pub formula-at_cube : (n : ℕ) → formula_at (system_of m) c (statements_before m c + n) ≡ model.formula_at m c n
    unfolding statements_before
    formula-at_cube n =
        ap (λ rules. option_and_then (part_at (system_of m) c) (slice_get rules (length front + n))) s.all
        ∙ ap (option_and_then (part_at (system_of m) c)) (slice_get-after front (rules_for m c ++ s.back) n)
        ∙ formula-before (system_of m) c (rules_for m c) s.back n s.none_after

    -- before them none has a part
    pub value-all : (stored : Stored) (table : ℕ → Value) → value_by (system_of m) stored table c (system_of m).rules ≡ value_by (system_of m) stored table c (rules_for m c)
    value-all stored table =
        ap (value_by (system_of m) stored table c) s.all
        ∙ skip front s.none_before
        ∙ value-before (system_of m) c stored table (rules_for m c) s.back s.none_after
      where
        skip : (rules : List Rule) → All (HasNone (system_of m) c) rules
            → value_by (system_of m) stored table c (rules ++ (rules_for m c ++ s.back)) ≡ value_by (system_of m) stored table c (rules_for m c ++ s.back)
        skip [] none = refl
        skip (rule ∷ rules) none =
            let here : part_at (system_of m) c rule ≡ None = All-head (HasNone (system_of m) c) rule rules none in
            rw here (skip rules (All-tail (HasNone (system_of m) c) rule rules none))

    pub governing-all : governing (system_of m) c ≡ option_map (λ k. statements_before m c + k) (model.governing_from m c 0)
    unfolding statements_before model.governing_from
    governing-all =
        ap (λ rules. option_map (λ k. 0 + k) (position (has_part m c) rules)) s.all
        ∙ ap (option_map (λ k. 0 + k)) (position-after (has_part m c) front (rules_for m c ++ s.back) (unmarked (system_of m) c front s.none_before))
        ∙ ap (λ o. option_map (λ k. 0 + k) (option_map (λ k. length front + k) o)) (position-before (has_part m c) (rules_for m c) s.back (unmarked (system_of m) c s.back s.none_after))
        ∙ moved (position (has_part m c) (rules_for m c))
      where
        moved : (o : Option ℕ) → option_map (λ k. 0 + k) (option_map (λ k. length front + k) o) ≡ option_map (λ k. length front + k) (option_map (λ k. 0 + k) o)
        moved None = refl
        moved (Some k) = ap Some (let e : 0 + (length front + k) ≡ length front + (0 + k) = omega arith in e)

-- ---- in turn

pub turn-none : (m : BoundModel) (stored : Stored) (table : ℕ → Value) (c n : ℕ) → model.governing_from m c n ≡ None → value_by_cube m stored table c n ≡ base (system_of m) stored table c
unfolding model.governing_from
turn-none m stored table c n none = from-none (own_system m c) c stored table n none

abbrev Governed : BoundModel → Stored → (ℕ → Value) → ℕ → ℕ → ℕ → Type 0
Governed m stored table c n k =
    (f : Formula) × (model.formula_at m c k ≡ Some f)
    × (value_by_cube m stored table c n ≡ value_at (system_of m) stored table c (value_by_cube m stored table c (suc k)) f)

pub turn-some : (m : BoundModel) (stored : Stored) (table : ℕ → Value) (c n k : ℕ) → model.governing_from m c n ≡ Some k
    → (f : Formula) × (model.formula_at m c k ≡ Some f)
    × (value_by_cube m stored table c n ≡ value_at (system_of m) stored table c (value_by_cube m stored table c (suc k)) f)
unfolding model.governing_from
turn-some m stored table c n k some = from-some (own_system m c) c stored table n k some
