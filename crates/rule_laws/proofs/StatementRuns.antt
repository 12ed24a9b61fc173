-- What is made of statements in turn: the first that has a part for a cell, before those after it.
use Rattle.std.proofs.Common.{◌≡◌, refl, sym, ◌∙◌, ap, arith, ℕ, suc, ◌+◌, subst, Bool, true, false, List, [], ◌∷◌, length, drop, Option, None, Some}
use Rattle.std.specs.Prelude.{is_some, option_and_then, slice_get, nat_lt, if◌then◌else◌}
use Rattle.std.specs.List.{position, position_or_len}
use Rattle.std.specs.Option.{option_map, option_map_or}
use Rattle.std.proofs.lemmas.Bool.Decides.{nat_tests}
use Rattle.std.proofs.lemmas.Option.{same_Some as some-same}
use Rattle.rule_laws.specs.declared.formula.Formula.{Formula}
use Rattle.rule_laws.specs.RuleSystem.{RuleSystem, Rule, part_at}

pub some-none : (k : ℕ) → Some k ≡ None → ⊥
some-none k e = cc

-- the place of the first that passes, by the first element
position-cons : {X : Type 0} (p : X → Bool) (x : X) (xs : List X)
    → position p (x ∷ xs) ≡ (if p x then Some 0 else option_map (λ k. suc k) (position p xs))
position-cons p x xs = by (p x) refl (nat_lt (position_or_len p xs) (length xs)) refl
  where
    by : (on : Bool) → p x ≡ on → (b : Bool) → nat_lt (position_or_len p xs) (length xs) ≡ b
        → position p (x ∷ xs) ≡ (if p x then Some 0 else option_map (λ k. suc k) (position p xs))
    by true on b is = let less : nat_lt 0 (suc (length xs)) ≡ true = grind (arith, nat_tests) in rw (on, less) refl
    by false off true is =
        let more : nat_lt (1 + position_or_len p xs) (suc (length xs)) ≡ true = grind (arith, nat_tests) in
        let add : 1 + position_or_len p xs ≡ suc (position_or_len p xs) = omega arith in
        rw (off, is, more) (ap Some add)
    by false off false is =
        let more : nat_lt (1 + position_or_len p xs) (suc (length xs)) ≡ false = grind (arith, nat_tests) in
        rw (off, is, more) refl

module _ (w : RuleSystem) (c : ℕ) where
  abbrev pub governs : Rule → Bool
  governs rule = is_some (part_at w c rule)

  module _ {X : Type 0} (none : X) (step : List Rule → X → Formula → X) where
    abbrev pub run : List Rule → X
    run [] = none
    run (rule ∷ rules) = option_map_or (step rules (run rules)) (part_at w c rule) (run rules)

    pub run-none : (rules : List Rule) → position governs rules ≡ None → run rules ≡ none
    run-none [] at = refl
    run-none (rule ∷ rules) at = by (run-none rules) (sym (position-cons governs rule rules) ∙ at) (part_at w c rule) refl (position governs rules) refl
      where
        by : (position governs rules ≡ None → run rules ≡ none)
            → (if governs rule then Some 0 else option_map (λ k. suc k) (position governs rules)) ≡ None → (o : Option Formula) → part_at w c rule ≡ o → (p : Option ℕ) → position governs rules ≡ p
            → run (rule ∷ rules) ≡ none
        by later split (Some f) is p place = absurd (some-none 0 (rw is at split))
        by later split None is (Some k) place = absurd (some-none (suc k) (rw (is, place) at split))
        by later split None is None place = rw is (later place)

    -- the first that has a part
    abbrev pub Runs : List Rule → ℕ → Type 0
    Runs rules k = (f : Formula) × (option_and_then (part_at w c) (slice_get rules k) ≡ Some f) × (run rules ≡ step (drop (suc k) rules) (run (drop (suc k) rules)) f)

    pub run-some : (rules : List Rule) (k : ℕ) → position governs rules ≡ Some k → Runs rules k
    run-some [] k at = cc
    run-some (rule ∷ rules) k at = by (run-some rules) (sym (position-cons governs rule rules) ∙ at) (part_at w c rule) refl (position governs rules) refl
      where
        by : ((n : ℕ) → position governs rules ≡ Some n → Runs rules n)
            → (if governs rule then Some 0 else option_map (λ k. suc k) (position governs rules)) ≡ Some k → (o : Option Formula) → part_at w c rule ≡ o
            → (p : Option ℕ) → position governs rules ≡ p → Runs (rule ∷ rules) k
        by later split (Some f) is p place =
            let first : 0 ≡ k = some-same 0 k (rw is at split) in
            subst (Runs (rule ∷ rules)) first (f, is, rw is refl)
        by later split None is None place = absurd (some-none k (sym (rw (is, place) at split)))
        by later split None is (Some n) place =
            let next : suc n ≡ k = some-same (suc n) k (rw (is, place) at split) in
            let there = later n place in
            subst (Runs (rule ∷ rules)) next (there.0, there.1, rw is there.2)
