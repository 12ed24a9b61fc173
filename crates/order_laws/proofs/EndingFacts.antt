-- The greatest sum whose kinds end in the wanted ones bounds just what each such sum is at most.
use Rattle.std.proofs.Common.{◌≡◌, refl, sym, ap, ◌∙◌, arith, subst, ℕ, zero, suc, ◌<◌, Bool, true, false, ◌&&◌, ℤ, pos, Option, Some, List, [], ◌∷◌, length, ◌==◌, if◌then◌else◌}
use Rattle.std.proofs.Math.Bool.{and_assoc, and-true}
use Rattle.std.proofs.lemmas.Bool.{eq-eqb, and_from}
use Rattle.order_laws.specs.Greatest.{plus, larger, IsAtMost, sum_from, only}
use Rattle.order_laws.specs.Earlier.{Kinds, is_same, are_same, both, greatest_ending}
use Rattle.order_laws.proofs.GreatestFacts.{IsTop, larger-parts, larger-from, plus-over, plus-least}
use Rattle.order_laws.proofs.SumFacts.{all_from, plus-same, sum-later, all-later, later-dim}

four-parts : (a b c d : Option ℤ) (z : ℤ) → IsAtMost (larger (larger a b) (larger c d)) z → (IsAtMost a z × IsAtMost b z) × (IsAtMost c z × IsAtMost d z)
four-parts a b c d z h = let parts = larger-parts (larger a b) (larger c d) z h in (larger-parts a b z parts.0, larger-parts c d z parts.1)

-- flags say of each element of a dimension whether what is read by it is a leaf; other ones in one dimension
abbrev pub put : ℕ → Bool → (ℕ → ℕ → Bool) → ℕ → ℕ → Bool
put i flag flags j e = if j == i then flag else flags j e

pub put-here : (i : ℕ) (flag : Bool) (flags : ℕ → ℕ → Bool) (e : ℕ) → put i flag flags i e ≡ flag
put-here i flag flags e = ap (λ t. if t then flag else flags i e) (eq-eqb i i refl)

pub put-later : (i : ℕ) (flag : Bool) (flags : ℕ → ℕ → Bool) (j e : ℕ) → i < j → put i flag flags j e ≡ flags j e
put-later i flag flags j e low = ap (λ t. if t then flag else flags j e) (later-dim j i low)

-- the sum of the numbers of elements by flags
abbrev pub sum_by : (ℕ → ℕ → Bool → Option ℤ) → (ℕ → ℕ → Bool) → ℕ → List ℕ → Option ℤ
sum_by number flags = sum_from (λ i e. number i e (flags i e))

pub sum-put : (number : ℕ → ℕ → Bool → Option ℤ) (i : ℕ) (flag : Bool) (flags : ℕ → ℕ → Bool) (e : ℕ) (es : List ℕ)
    → sum_by number (put i flag flags) i (e ∷ es) ≡ plus (number i e flag) (sum_by number flags (suc i) es)
sum-put number i flag flags e es =
    plus-same (number i e (put i flag flags i e)) (sum_by number (put i flag flags) (suc i) es) (number i e flag) (sum_by number flags (suc i) es)
    (ap (number i e) (put-here i flag flags e))
    (sum-later (λ j x. number j x (put i flag flags j x)) (λ j x. number j x (flags j x)) i (suc i) es (omega arith) (λ j x low. ap (number j x) (put-later i flag flags j x low)))

-- equal kinds
pub from-same : (a b : Bool) → is_same a b ≡ true → b ≡ a
from-same true true h = refl
from-same true false h = absurd (cc)
from-same false true h = absurd (cc)
from-same false false h = refl

pub to-same : (a b : Bool) → b ≡ a → is_same a b ≡ true
to-same true true h = refl
to-same true false h = absurd (cc)
to-same false true h = absurd (cc)
to-same false false h = refl

module _ (own : ℕ → ℕ → Bool) (number : ℕ → ℕ → Bool → Option ℤ) (wanted : Kinds) (most : ℕ → Kinds → Option ℤ)
    (top : (i : ℕ) (k : Kinds) → IsTop (λ e. own i e ≡ k.own) (λ e. number i e k.its) (most i k)) where
  -- so many elements, from this dimension on, and flags, that end in the wanted kinds
  pub record Ends (before : Kinds) (n i : ℕ) (x : List ℕ × (ℕ → ℕ → Bool)) : Type 0 where
    pub long : length x.0 ≡ n
    pub own_is : before.own && all_from own i x.0 ≡ wanted.own
    pub its_is : before.its && all_from x.1 i x.0 ≡ wanted.its

  abbrev sum_of : ℕ → List ℕ × (ℕ → ℕ → Bool) → Option ℤ
  sum_of i x = sum_by number x.1 i x.0

  abbrev rest_of : Kinds → ℕ → ℕ → Kinds → Option ℤ
  rest_of before n i k = greatest_ending most wanted (both before k) (suc i) n

  abbrev IsEnding : Kinds → ℕ → ℕ → Type 0
  IsEnding before n i = IsTop (Ends before n i) (sum_of i) (greatest_ending most wanted before i n)

  module _ (n i : ℕ) (before : Kinds) (rest : (k : Kinds) → IsEnding (both before k) n (suc i)) where
    part-over : (z : ℤ) → IsAtMost (greatest_ending most wanted before i (suc n)) z → (a b : Bool)
        → IsAtMost (plus (most i (record { own = a; its = b })) (rest_of before n i (record { own = a; its = b }))) z
    part-over z h a b = by a b
      where
        part : Bool → Bool → Option ℤ
        part a b = plus (most i (record { own = a; its = b })) (rest_of before n i (record { own = a; its = b }))

        four : (IsAtMost (part true true) z × IsAtMost (part true false) z) × (IsAtMost (part false true) z × IsAtMost (part false false) z)
        four = four-parts (part true true) (part true false) (part false true) (part false false) z h

        by : (a b : Bool) → IsAtMost (part a b) z
        by true true = four.0.0
        by true false = four.0.1
        by false true = four.1.0
        by false false = four.1.1

    over : (z : ℤ) → IsAtMost (greatest_ending most wanted before i (suc n)) z → (x : List ℕ × (ℕ → ℕ → Bool)) → Ends before (suc n) i x → IsAtMost (sum_of i x) z
    over z h ([], flags) ends = absurd (omega (arith, ends.long))
    over z h (e ∷ es, flags) ends =
        let k : Kinds = record { own = own i e; its = flags i e } in
        plus-over (λ e. own i e ≡ k.own) (Ends (both before k) n (suc i)) (λ e. number i e k.its) (sum_of (suc i)) (most i k) (rest_of before n i k) (top i k) (rest k)
        z (part-over z h (own i e) (flags i e)) e (es, flags) refl
        (record { long = omega (arith, ends.long); own_is = and_assoc before.own (own i e) (all_from own (suc i) es) ∙ ends.own_is; its_is = and_assoc before.its (flags i e) (all_from flags (suc i) es) ∙ ends.its_is })

    part-least : (z : ℤ) → ((x : List ℕ × (ℕ → ℕ → Bool)) → Ends before (suc n) i x → IsAtMost (sum_of i x) z) → (a b : Bool)
        → IsAtMost (plus (most i (record { own = a; its = b })) (rest_of before n i (record { own = a; its = b }))) z
    part-least z h a b =
        let k : Kinds = record { own = a; its = b } in
        plus-least (λ e. own i e ≡ k.own) (Ends (both before k) n (suc i)) (λ e. number i e k.its) (sum_of (suc i)) (most i k) (rest_of before n i k) (top i k) (rest k) z each
      where
        each : (e : ℕ) (x : List ℕ × (ℕ → ℕ → Bool)) → own i e ≡ a → Ends (both before (record { own = a; its = b })) n (suc i) x → IsAtMost (plus (number i e b) (sum_of (suc i) x)) z
        each e (es, flags) is ends = subst (λ s. IsAtMost s z) (sum-put number i b flags e es) (h (e ∷ es, put i b flags) (record {
          long = omega (arith, ends.long);
          own_is = ap (λ t. before.own && (t && all_from own (suc i) es)) is ∙ sym (and_assoc before.own a (all_from own (suc i) es)) ∙ ends.own_is;
          its_is = ap (λ t. before.its && (t && all_from (put i b flags) (suc i) es)) (put-here i b flags e)
              ∙ ap (λ t. before.its && (b && t)) (all-later (put i b flags) flags i (suc i) es (omega arith) (put-later i b flags))
              ∙ sym (and_assoc before.its b (all_from flags (suc i) es)) ∙ ends.its_is;
        }))

    ending-step : IsEnding before (suc n) i
    ending-step = record {
      over = over;
      least = λ z h. larger-from _ _ z (larger-from _ _ z (part-least z h true true) (part-least z h true false)) (larger-from _ _ z (part-least z h false true) (part-least z h false false));
    }

  pub ending-top : (n i : ℕ) (before : Kinds) → IsEnding before n i
  ending-top zero i before = record { over = over_none; least = least_none }
    where
      over_none : (z : ℤ) → IsAtMost (only (are_same wanted before) (Some (pos 0))) z → (x : List ℕ × (ℕ → ℕ → Bool)) → Ends before 0 i x → IsAtMost (sum_of i x) z
      over_none z h (e ∷ es, flags) ends = absurd (omega (arith, ends.long))
      over_none z h ([], flags) ends =
          let same : are_same wanted before ≡ true = and_from (is_same wanted.own before.own) (is_same wanted.its before.its)
          (to-same wanted.own before.own (sym (and-true before.own) ∙ ends.own_is)) (to-same wanted.its before.its (sym (and-true before.its) ∙ ends.its_is)) in
          subst (λ t. IsAtMost (only t (Some (pos 0))) z) same h

      least_none : (z : ℤ) → ((x : List ℕ × (ℕ → ℕ → Bool)) → Ends before 0 i x → IsAtMost (sum_of i x) z) → IsAtMost (only (are_same wanted before) (Some (pos 0))) z
      least_none z h = by (is_same wanted.own before.own) (is_same wanted.its before.its) refl refl
        where
          by : (t u : Bool) → is_same wanted.own before.own ≡ t → is_same wanted.its before.its ≡ u → IsAtMost (only (t && u) (Some (pos 0))) z
          by false u e f = tt
          by true false e f = tt
          by true true e f = h ([], λ i e. true) (record { long = refl; own_is = and-true before.own ∙ from-same wanted.own before.own e; its_is = and-true before.its ∙ from-same wanted.its before.its f })
  ending-top (suc n) i before = ending-step n i before (λ k. ending-top n (suc i) (both before k))
