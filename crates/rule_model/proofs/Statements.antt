-- Elements in rising lists and in sets, and the first statement that has a part.
use Rattle.std.proofs.Common.{◌≡◌, ◌⊎◌, inl, inr, ℕ, zero, suc, ◌+◌, ◌-◌, ◌<◌, ◌≤◌, Bool, true, false, ◌&&◌, List, ◌∷◌, length, drop, drop-cons, get_or, Option, Some, None, Result, Ok, Err, refl, sym, ap, ◌∙◌, subst, arith, All}
use Rattle.std.specs.Prelude.{is_some, nat_lt, option_map, MatchResult, ◌==◌, is_ok}
use Rattle.std.specs.List.{list_any, list_all, zip, position, position_or_len}
use Rattle.std.specs.List.Sorted.{IsStrictlyIncreasing, IsBinarySearchResult}
use Rattle.std.specs.Ordering.{nat_cmp}
use Rattle.std.proofs.lemmas.Bool.{cases_lt, ne_eqb, eq-eqb, lt-ltb}
use Rattle.std.proofs.lemmas.Bool.Decides.{nat_tests}
use Rattle.std.proofs.lemmas.List.Folds.{list_any_none, list_any_at}
use Rattle.std.proofs.lemmas.List.Sorted.{searched}
use Rattle.std.proofs.lemmas.List.{get_or_default, drop_all}
use Rattle.rule_laws.specs.RuleSystem.{RuleSystem}
use Rattle.rule_model.specs.declared.rules.Statement.{Statement}
use Rattle.rule_model.specs.BoundModel.{BoundModel}
use Rattle.rule_model.specs.System.{system_of}
use Rattle.rule_model.specs.Governing.{rules_for}
use Rattle.rule_model.specs.Areas.{in_set, in_sets}
use Rattle.rule_model.specs.Inside.Parts.{part_for, first_part}

rises : (xs : List ℕ) → IsStrictlyIncreasing xs → (i more : ℕ) → i + more < length xs → get_or xs i 0 ≤ get_or xs (i + more) 0
rises xs up i zero within = let e : i + 0 ≡ i = omega arith in rw e (omega arith)
rises xs up i (suc more) within =
    let e : i + suc more ≡ i + more + 1 = omega arith in
    rw e (omega (arith, rises xs up i more (omega arith), up (i + more) (omega arith)))

in_order : (xs : List ℕ) → IsStrictlyIncreasing xs → (i j : ℕ) → i ≤ j → j < length xs → get_or xs i 0 ≤ get_or xs j 0
in_order xs up i j low within =
    let e : i + (j - i) ≡ j = omega arith in
    subst (λ k. get_or xs i 0 ≤ get_or xs k 0) e (rises xs up i (j - i) (omega (arith, e)))

-- what a binary search in a rising list tells
pub listed_by : (xs : List ℕ) (x : ℕ) (r : Result ℕ ℕ) → IsStrictlyIncreasing xs → IsBinarySearchResult (λ y. nat_cmp y x) xs r → is_ok r ≡ list_any (λ e. e == x) xs
listed_by xs x r up is = by r (searched xs x r is (in_order xs up))
  where
    none : (i : ℕ) → ((k : ℕ) → k < i → get_or xs k 0 < x) → ((k : ℕ) → i ≤ k → k < length xs → x < get_or xs k 0) → All (λ e. (e == x) ≡ false) xs
    none i before after k d within =
        let e = get_or_default xs k d 0 within in
        ne_eqb (get_or xs k d) x (elim (cases_lt k i) [
          | inl low ↦ λ same. omega (arith, e, same, before k low)
          | inr high ↦ λ same. omega (arith, e, same, after k high within)
        ])

    by : (r : Result ℕ ℕ) → MatchResult r (λ i. (i < length xs) × (get_or xs i 0 ≡ x)) (λ i. (i ≤ length xs) × ((k : ℕ) → k < i → get_or xs k 0 < x) × ((k : ℕ) → i ≤ k → k < length xs → x < get_or xs k 0))
        → is_ok r ≡ list_any (λ e. e == x) xs
    by (Ok i) found = sym (list_any_at (λ e. e == x) xs i 0 found.0 (eq-eqb (get_or xs i 0) x found.1))
    by (Err i) found = sym (list_any_none (λ e. e == x) xs (none i found.1 found.2))

-- one set more
set_here : (sets : List (Option (List ℕ))) (elements : List ℕ) (place : ℕ) (set : Option (List ℕ)) → place < length sets → place < length elements → set ≡ get_or sets place set
    → in_sets (drop place sets) (drop place elements) ≡ (in_set set (get_or elements place 0) && in_sets (drop (place + 1) sets) (drop (place + 1) elements))
unfolding in_sets
set_here sets elements place set low within is =
    let e : suc place ≡ place + 1 = omega arith in
    let one = drop-cons sets place set low ∙ ap (λ s. s ∷ drop (suc place) sets) (sym is) ∙ ap (λ n. set ∷ drop n sets) e in
    let two = drop-cons elements place 0 within ∙ ap (λ n. get_or elements place 0 ∷ drop n elements) e in
    ap (λ ss. list_all (λ p. in_set p.0 p.1) (zip ss (drop place elements))) one
    ∙ ap (λ es. list_all (λ p. in_set p.0 p.1) (zip (set ∷ drop (place + 1) sets) es)) two

pub set_without : (sets : List (Option (List ℕ))) (elements : List ℕ) (place : ℕ) (set : Option (List ℕ)) → place < length sets → place < length elements → set ≡ get_or sets place set
    → in_set set (get_or elements place 0) ≡ false → in_sets (drop place sets) (drop place elements) ≡ false
set_without sets elements place set low within is off =
    set_here sets elements place set low within is ∙ ap (λ b. b && in_sets (drop (place + 1) sets) (drop (place + 1) elements)) off

pub set_with : (sets : List (Option (List ℕ))) (elements : List ℕ) (place : ℕ) (set : Option (List ℕ)) → place < length sets → place < length elements → set ≡ get_or sets place set
    → in_set set (get_or elements place 0) ≡ true → in_sets (drop place sets) (drop place elements) ≡ in_sets (drop (place + 1) sets) (drop (place + 1) elements)
set_with sets elements place set low within is on =
    set_here sets elements place set low within is ∙ ap (λ b. b && in_sets (drop (place + 1) sets) (drop (place + 1) elements)) on

pub sets_done : (sets : List (Option (List ℕ))) (elements : List ℕ) (place : ℕ) → length sets ≤ place → in_sets (drop place sets) (drop place elements) ≡ true
unfolding in_sets
sets_done sets elements place past = ap (λ ss. list_all (λ p. in_set p.0 p.1) (zip ss (drop place elements))) (drop_all place sets past)

-- the first item that passes, where the first item does and where it doesn't
passes_first : {X : Type 0} (p : X → Bool) (x : X) (xs : List X) → p x ≡ true → position p (x ∷ xs) ≡ Some 0
passes_first p x xs on =
    let e : position_or_len p (x ∷ xs) ≡ 0 = rw on refl in
    let low : nat_lt (position_or_len p (x ∷ xs)) (length (x ∷ xs)) ≡ true = rw e (lt-ltb 0 (suc (length xs)) (omega arith)) in
    rw low (ap Some e)

passes_later : {X : Type 0} (p : X → Bool) (x : X) (xs : List X) → p x ≡ false → position p (x ∷ xs) ≡ option_map (λ n. n + 1) (position p xs)
passes_later p x xs off = by (cases_lt (position_or_len p xs) (length xs))
  where
    e : position_or_len p (x ∷ xs) ≡ position_or_len p xs + 1
    e = let one : position_or_len p (x ∷ xs) ≡ 1 + position_or_len p xs = rw off refl in omega (arith, one)

    by : (position_or_len p xs < length xs) ⊎ (length xs ≤ position_or_len p xs) → position p (x ∷ xs) ≡ option_map (λ n. n + 1) (position p xs)
    by (inl low) =
        let a : nat_lt (position_or_len p xs) (length xs) ≡ true = grind (arith, nat_tests, low) in
        let b : nat_lt (position_or_len p (x ∷ xs)) (length (x ∷ xs)) ≡ true = rw e (lt-ltb (position_or_len p xs + 1) (suc (length xs)) (omega (arith, low))) in
        rw (a, b) (ap Some e)
    by (inr past) =
        let a : nat_lt (position_or_len p xs) (length xs) ≡ false = grind (arith, nat_tests, past) in
        let b : nat_lt (position_or_len p (x ∷ xs)) (length (x ∷ xs)) ≡ false = rw e (grind (arith, nat_tests, past)) in
        rw (a, b) refl

moved : (place : ℕ) (o : Option ℕ) → option_map (λ k. place + k) (option_map (λ n. n + 1) o) ≡ option_map (λ k. place + 1 + k) o
moved place None = refl
moved place (Some n) = ap Some (let e : place + (n + 1) ≡ place + 1 + n = omega arith in e)

-- the first statement that has a part, from a place on
module _ (statements : List Statement) (elements : List ℕ) (leaf : Bool) where
  abbrev has : Statement → Bool
  has statement = is_some (part_for statement elements leaf)

  at_place : (place : ℕ) (s : Statement) → place < length statements → s ≡ get_or statements place s → drop place statements ≡ s ∷ drop (place + 1) statements
  at_place place s low is =
      let e : suc place ≡ place + 1 = omega arith in
      drop-cons statements place s low ∙ ap (λ x. x ∷ drop (suc place) statements) (sym is) ∙ ap (λ n. s ∷ drop n statements) e

  pub part_here : (place : ℕ) (s : Statement) → place < length statements → s ≡ get_or statements place s → has s ≡ true → first_part statements elements leaf place ≡ Some place
  unfolding first_part
  part_here place s low is on =
      let none : place + 0 ≡ place = omega arith in
      ap (λ ss. option_map (λ k. place + k) (position has ss)) (at_place place s low is)
      ∙ ap (option_map (λ k. place + k)) (passes_first has s (drop (place + 1) statements) on)
      ∙ ap Some none

  pub part_later : (place : ℕ) (s : Statement) → place < length statements → s ≡ get_or statements place s → has s ≡ false → first_part statements elements leaf place ≡ first_part statements elements leaf (place + 1)
  unfolding first_part
  part_later place s low is off =
      ap (λ ss. option_map (λ k. place + k) (position has ss)) (at_place place s low is)
      ∙ ap (option_map (λ k. place + k)) (passes_later has s (drop (place + 1) statements) off)
      ∙ moved place (position has (drop (place + 1) statements))

  pub part_nowhere : (place : ℕ) → length statements ≤ place → first_part statements elements leaf place ≡ None
  unfolding first_part
  part_nowhere place past = ap (λ ss. option_map (λ k. place + k) (position has ss)) (drop_all place statements past)

-- the system of a model with the statements of a cell's cube alone
abbrev pub own_system : BoundModel → ℕ → RuleSystem
own_system model cell =
    record {
      size = (system_of model).size;
      cube_of = (system_of model).cube_of;
      skips_check = (system_of model).skips_check;
      is_leaf = (system_of model).is_leaf;
      below = (system_of model).below;
      components = (system_of model).components;
      rules = rules_for model cell;
      feeds = (system_of model).feeds;
      target = (system_of model).target;
      own = (system_of model).own;
      rank = (system_of model).rank;
      level = (system_of model).level;
      levels = (system_of model).levels;
    }
