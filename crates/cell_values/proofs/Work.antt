-- How much work a question is, and how much each state of the work has left.
use Rattle.std.proofs.Common.{◌≡◌, refl, sym, ◌∙◌, ap, arith, ℕ, suc, ◌+◌, ◌<◌, ◌≤◌, ltb, ◌⊎◌, inl, inr, Bool, true, false, List, [], ◌∷◌, ◌++◌, filter, eqb, Some, None}
use Rattle.std.specs.Prelude.{is_some}
use Rattle.std.specs.List.{Contains}
use Rattle.std.proofs.lemmas.Bool.{lt-ltb, ltb-true, eq-eqb}
use Rattle.equations.specs.Equations.{IsGrounded, Outlasts}
use Rattle.equations.proofs.RoundsFacts.{table_by_rounds-solves}
use Rattle.cell_versions.specs.Versions.{NumberedVersion}
use Rattle.cube_fixed.specs.declared.value.Value.{Value}
use Rattle.rule_evaluate.specs.declared.ask.Ask.{Ask}
use Rattle.rule_evaluate.specs.declared.ask.Ask.TheVariants.{Value as of_value, Base as of_base, Children as of_children}
use Rattle.rule_evaluate.specs.Known.{Known, listed, is_same}
use Rattle.cell_values.specs.Inside.Questions.{leads_to, level_on, asks_on, cost_by, work_by, work_on, cost_on}
use Rattle.cell_values.specs.Inside.Frames.{is_open, open_asks}
use Rattle.cell_values.proofs.Members.{filter-contains, filter-all}
use Rattle.feed_sources.proofs.Members.{none-there, front-or-behind}

-- ---- costs of filtered lists

module _ (f : Ask → ℕ) where
  -- what passes less costs less
  cost-fewer : (p q : Ask → Bool) → ((x : Ask) → q x ≡ true → p x ≡ true) → (xs : List Ask) → cost_by f (filter q xs) ≤ cost_by f (filter p xs)
  cost-fewer p q less [] = omega arith
  cost-fewer p q less (x ∷ xs) = by (q x) refl (p x) refl (cost-fewer p q less xs)
    where
      by : (b : Bool) → q x ≡ b → (a : Bool) → p x ≡ a → cost_by f (filter q xs) ≤ cost_by f (filter p xs) → cost_by f (filter q (x ∷ xs)) ≤ cost_by f (filter p (x ∷ xs))
      by true on true is rest = rw (on, is) (omega (arith, rest))
      by true on false is rest = let clash : true ≡ false = sym (less x on) ∙ is in absurd (cc)
      by false off true is rest = rw (off, is) (omega (arith, rest))
      by false off false is rest = rw (off, is) rest

  -- one that passes no more is left out
  cost-without : (p q : Ask → Bool) → ((x : Ask) → q x ≡ true → p x ≡ true) → (xs : List Ask) (x : Ask) → Contains xs x → p x ≡ true → q x ≡ false
      → suc (cost_by f (filter q xs) + f x) ≤ cost_by f (filter p xs)
  cost-without p q less [] x has on off = absurd (none-there x has)
  cost-without p q less (y ∷ xs) x has on off = at (front-or-behind y xs x has) (λ later. cost-without p q less xs x later on off)
    where
      by : (b : Bool) → q y ≡ b → (a : Bool) → p y ≡ a → suc (cost_by f (filter q xs) + f x) ≤ cost_by f (filter p xs)
          → suc (cost_by f (filter q (y ∷ xs)) + f x) ≤ cost_by f (filter p (y ∷ xs))
      by true is true also rest = rw (is, also) (omega (arith, rest))
      by true is false also rest = let clash : true ≡ false = sym (less y is) ∙ also in absurd (cc)
      by false is true also rest = rw (is, also) (omega (arith, rest))
      by false is false also rest = rw (is, also) rest

      at : (y ≡ x) ⊎ Contains xs x → (Contains xs x → suc (cost_by f (filter q xs) + f x) ≤ cost_by f (filter p xs))
          → suc (cost_by f (filter q (y ∷ xs)) + f x) ≤ cost_by f (filter p (y ∷ xs))
      at (inl same) rest =
          let here : p y ≡ true = ap p same ∙ on in
          let gone : q y ≡ false = ap q same ∙ off in
          let cost : f y ≡ f x = ap f same in
          let others = cost-fewer p q less xs in
          rw (here, gone) (omega (arith, cost, others))
      at (inr later) rest = by (q y) refl (p y) refl (rest later)

  -- one that is there
  cost-least : (xs : List Ask) (x : Ask) → Contains xs x → suc (f x) ≤ cost_by f xs
  cost-least [] x has = absurd (none-there x has)
  cost-least (y ∷ xs) x has = at (front-or-behind y xs x has) (λ later. cost-least xs x later)
    where
      at : (y ≡ x) ⊎ Contains xs x → (Contains xs x → suc (f x) ≤ cost_by f xs) → suc (f x) ≤ cost_by f (y ∷ xs)
      at (inl same) rest = let cost : f y ≡ f x = ap f same in omega (arith, cost)
      at (inr later) rest = let one = rest later in omega (arith, one)

module _ (v : NumberedVersion) where
  abbrev Every : Ask → Type 0
  Every question = Unit {0}

  -- what is asked for is less deep
  cost-agree : (S T : Ask → ℕ) (n : ℕ) → ((x : Ask) → level_on v x < n → S x ≡ T x) → (xs : List Ask)
      → cost_by S (filter (λ x. ltb (level_on v x) n) xs) ≡ cost_by T (filter (λ x. ltb (level_on v x) n) xs)
  cost-agree S T n same [] = refl
  cost-agree S T n same (x ∷ xs) = by (ltb (level_on v x) n) refl (cost-agree S T n same xs)
    where
      by : (b : Bool) → ltb (level_on v x) n ≡ b
          → cost_by S (filter (λ x. ltb (level_on v x) n) xs) ≡ cost_by T (filter (λ x. ltb (level_on v x) n) xs)
          → cost_by S (filter (λ x. ltb (level_on v x) n) (x ∷ xs)) ≡ cost_by T (filter (λ x. ltb (level_on v x) n) (x ∷ xs))
      by true on rest = let here : S x ≡ T x = same x (ltb-true (level_on v x) n on) in rw on (omega (arith, here, rest))
      by false off rest = rw off rest

  grounded : IsGrounded Every (level_on v) (work_by v)
  unfolding asks_on
  grounded S T q inside same = ap suc (cost-agree S T (level_on v q) (λ x less. same x tt less) (leads_to v q))

  outlast : Outlasts Every (λ q. suc (level_on v q)) (level_on v)
  outlast q inside = omega arith

  pub work-is : (q : Ask) → work_on v q ≡ suc (cost_on v (asks_on v q))
  unfolding work_on cost_on
  work-is q = table_by_rounds-solves Every (level_on v) (work_by v) grounded 0 (λ q. suc (level_on v q)) outlast q tt

  pub cost-more : (q : Ask) (qs : List Ask) → cost_on v (q ∷ qs) ≡ suc (work_on v q + cost_on v qs)
  unfolding cost_on
  cost-more q qs = refl

  -- a question that one may lead to is less work
  pub asks-has : (q e : Ask) → Contains (leads_to v q) e → level_on v e < level_on v q → Contains (asks_on v q) e
  unfolding asks_on
  asks-has q e has less = filter-contains (λ x. ltb (level_on v x) (level_on v q)) (leads_to v q) e has (lt-ltb (level_on v e) (level_on v q) less)

  costs-least : (xs : List Ask) (e : Ask) → Contains xs e → suc (work_on v e) ≤ cost_on v xs
  unfolding cost_on
  costs-least xs e there = cost-least (work_on v) xs e there

  pub work-less : (q e : Ask) → Contains (leads_to v q) e → level_on v e < level_on v q → suc (work_on v e) < work_on v q
  work-less q e has less =
      let is = work-is q in
      let one = costs-least (asks_on v q) e (asks-has q e has less) in
      omega (arith, is, one)

  asks-all : (q : Ask) → ((e : Ask) → Contains (leads_to v q) e → level_on v e < level_on v q) → asks_on v q ≡ leads_to v q
  unfolding asks_on
  asks-all q all = filter-all (λ x. ltb (level_on v x) (level_on v q)) (leads_to v q) (λ e has. lt-ltb (level_on v e) (level_on v q) (all e has))

  -- where all that a question leads to is less deep
  pub work-all : (q : Ask) → ((e : Ask) → Contains (leads_to v q) e → level_on v e < level_on v q) → cost_on v (leads_to v q) < work_on v q
  work-all q all =
      let is = work-is q in
      let cost : cost_on v (asks_on v q) ≡ cost_on v (leads_to v q) = ap (cost_on v) (asks-all q all) in
      omega (arith, is, cost)

  -- ---- evaluations

  pub same-self : (q : Ask) → is_same q q ≡ true
  same-self (of_value c) = eq-eqb c c refl
  same-self (of_base c) = eq-eqb c c refl
  same-self (of_children c d) = let one : eqb c c ≡ true = eq-eqb c c refl in let two : eqb d d ≡ true = eq-eqb d d refl in rw (one, two) refl

  all-open : (c : ℕ) → open_asks v [] None c ≡ asks_on v (of_value c)
  unfolding open_asks
  all-open c = filter-all (is_open [] None) (asks_on v (of_value c)) (λ e has. refl)

  -- nothing is listed at first
  pub evaluation-begins : (c : ℕ) → cost_on v (open_asks v [] None c) < work_on v (of_value c)
  evaluation-begins c =
      let is = work-is (of_value c) in
      let cost : cost_on v (open_asks v [] None c) ≡ cost_on v (asks_on v (of_value c)) = ap (cost_on v) (all-open c) in
      omega (arith, is, cost)

  open-less : (known : Known) (q e : Ask) → is_open known (Some q) e ≡ true → is_open known None e ≡ true
  open-less known q e = by (is_some (listed known e)) refl
    where
      by : (b : Bool) → is_some (listed known e) ≡ b → is_open known (Some q) e ≡ true → is_open known None e ≡ true
      by true is still = let no : false ≡ true = rw is at still in absurd (cc)
      by false is still = rw is refl

  -- a question that is asked takes its work from what is left
  pub evaluation-asks : (known : Known) (c : ℕ) (q : Ask) → Contains (asks_on v (of_value c)) q → listed known q ≡ None
      → cost_on v (open_asks v known (Some q) c) + work_on v q < cost_on v (open_asks v known None c)
  unfolding open_asks cost_on
  evaluation-asks known c q has none =
      let on : is_open known None q ≡ true = rw none refl in
      let self = same-self q in
      let off : is_open known (Some q) q ≡ false = rw (none, self) refl in
      let less = cost-without (work_on v) (is_open known None) (is_open known (Some q)) (open-less known q) (asks_on v (of_value c)) q has on off in
      omega (arith, less)

  listed-push : (known : Known) (q e : Ask) (a : Value) → (is_some (listed (known ++ (q, a) ∷ []) e) ≡ true) ⊎ ((is_some (listed known e) ≡ false) × (is_same q e ≡ false))
  listed-push [] q e a = by (is_same q e) refl
    where
      by : (b : Bool) → is_same q e ≡ b → (is_some (listed ((q, a) ∷ []) e) ≡ true) ⊎ ((is_some (listed [] e) ≡ false) × (is_same q e ≡ false))
      by true is = inl (rw is refl)
      by false is = inr (refl, is)
  listed-push (one ∷ known) q e a = by (is_same one.0 e) refl (listed-push known q e a)
    where
      by : (b : Bool) → is_same one.0 e ≡ b → (is_some (listed (known ++ (q, a) ∷ []) e) ≡ true) ⊎ ((is_some (listed known e) ≡ false) × (is_same q e ≡ false))
          → (is_some (listed ((one ∷ known) ++ (q, a) ∷ []) e) ≡ true) ⊎ ((is_some (listed (one ∷ known) e) ≡ false) × (is_same q e ≡ false))
      by true is rest = inl (rw is refl)
      by false is (inl there) = inl (rw is there)
      by false is (inr (none, other)) = inr (rw is none, other)

  still-open : (known : Known) (q e : Ask) (a : Value) → is_open (known ++ (q, a) ∷ []) None e ≡ true → is_open known (Some q) e ≡ true
  still-open known q e a is = at (listed-push known q e a)
    where
      at : (is_some (listed (known ++ (q, a) ∷ []) e) ≡ true) ⊎ ((is_some (listed known e) ≡ false) × (is_same q e ≡ false)) → is_open known (Some q) e ≡ true
      at (inl there) = let no : false ≡ true = rw there at is in absurd (cc)
      at (inr (none, other)) = rw (none, other) refl

  -- once it is answered it stays so
  pub evaluation-goes_on : (known : Known) (c : ℕ) (q : Ask) (a : Value) → cost_on v (open_asks v (known ++ (q, a) ∷ []) None c) ≤ cost_on v (open_asks v known (Some q) c)
  unfolding open_asks cost_on
  evaluation-goes_on known c q a =
      cost-fewer (work_on v) (is_open known (Some q)) (is_open (known ++ (q, a) ∷ []) None) (λ e is. still-open known q e a is) (asks_on v (of_value c))
