-- Members of lists, and of what is kept of a list.
use Rattle.std.proofs.Common.{◌≡◌, refl, sym, ◌∙◌, ap, subst, ℕ, zero, suc, eqb, ◌⊎◌, inl, inr, Bool, true, false, not, List, [], ◌∷◌, ◌++◌, get_or, arith}
use Rattle.std.specs.Prelude.{◌==◌}
use Rattle.std.specs.List.{Contains, filter, list_any}
use Rattle.std.proofs.lemmas.Bool.{eq-eqb, eqb-true}
use Rattle.std.proofs.lemmas.List.Elements.{Contains-push_cases, Contains-append_cases, Contains-append_right}
use Rattle.std.proofs.lemmas.List.Folds.{Any-from_list_any, list_any_at}
use Rattle.rule_laws.proofs.SparseFacts.{Contains-here}
use Rattle.change_laws.specs.Regrowth.{kept_of}

none-there : (x : ℕ) → Contains [] x → ⊥
none-there x has = omega (arith, has.1)

behind : (x : ℕ) (xs : List ℕ) (y : ℕ) → Contains xs y → Contains (x ∷ xs) y
behind x xs y has = Contains-append_right (x ∷ []) xs y has

front-or-behind : (x : ℕ) (xs : List ℕ) (y : ℕ) → Contains (x ∷ xs) y → (x ≡ y) ⊎ Contains xs y
front-or-behind x xs y has =
    elim (Contains-append_cases (x ∷ []) xs y has) [
      | inl one ↦ elim (Contains-push_cases [] x y one) [
        | inl none ↦ absurd (none-there y none)
        | inr is ↦ inl is
      ]
      | inr more ↦ inr more
    ]

filter-contains : (p : ℕ → Bool) (xs : List ℕ) (x : ℕ) → Contains xs x → p x ≡ true → Contains (filter p xs) x
filter-contains p [] x has passes = absurd (none-there x has)
filter-contains p (y ∷ xs) x has passes = by (p y) refl (front-or-behind y xs x has) (λ later. filter-contains p xs x later passes)
  where
    by : (b : Bool) → p y ≡ b → (y ≡ x) ⊎ Contains xs x → (Contains xs x → Contains (filter p xs) x) → Contains (filter p (y ∷ xs)) x
    by true on (inl same) rest = rw on (subst (λ (z : ℕ). Contains (z ∷ filter p xs) x) (sym same) (Contains-here x (filter p xs)))
    by true on (inr later) rest = rw on (behind y (filter p xs) x (rest later))
    by false off (inl same) rest = let clash : true ≡ false = sym passes ∙ ap p (sym same) ∙ off in absurd (cc)
    by false off (inr later) rest = rw off (rest later)

filter-member : (p : ℕ → Bool) (xs : List ℕ) (x : ℕ) → Contains (filter p xs) x → Contains xs x × (p x ≡ true)
filter-member p [] x has = absurd (none-there x has)
filter-member p (y ∷ xs) x has = by (p y) refl (λ later. filter-member p xs x later)
  where
    by : (b : Bool) → p y ≡ b → (Contains (filter p xs) x → Contains xs x × (p x ≡ true)) → Contains (y ∷ xs) x × (p x ≡ true)
    by true on rest =
        let here : Contains (y ∷ filter p xs) x = rw on at has in
        elim (front-or-behind y (filter p xs) x here) [
          | inl same ↦ (subst (Contains (y ∷ xs)) same (Contains-here y xs), ap p (sym same) ∙ on)
          | inr later ↦ (let one = rest later in (behind y xs x one.0, one.1))
        ]
    by false off rest =
        let here : Contains (filter p xs) x = rw off at has in
        let one = rest here in (behind y xs x one.0, one.1)

listed-contains : (listed : List ℕ) (x : ℕ) → list_any (λ e. e == x) listed ≡ true → Contains listed x
listed-contains listed x on =
    let one = Any-from_list_any (λ e. e == x) listed on in
    let same : one.1 ≡ x = eqb-true one.1 x one.4 in
    subst (Contains listed) same (one.0, one.2, one.3)

contains-listed : (listed : List ℕ) (x : ℕ) → Contains listed x → list_any (λ e. e == x) listed ≡ true
contains-listed listed x has = list_any_at (λ e. e == x) listed has.0 x has.1 (eq-eqb (get_or listed has.0 x) x has.2)

module _ (fed risk : List ℕ) (c : ℕ) where
  -- what is kept was fed, and is not at risk
  pub kept-fed : Contains (kept_of fed risk) c → Contains fed c
  kept-fed has = (filter-member (λ x. not (list_any (λ r. r == x) risk)) fed c has).0

  pub kept-safe : Contains (kept_of fed risk) c → Contains risk c → ⊥
  kept-safe has at_risk =
      let safe = (filter-member (λ x. not (list_any (λ r. r == x) risk)) fed c has).1 in
      let clash : false ≡ true = sym (ap not (contains-listed risk c at_risk)) ∙ safe in cc

  -- what was fed is kept or at risk
  pub kept-or-risk : Contains fed c → Contains (kept_of fed risk) c ⊎ Contains risk c
  kept-or-risk has = by (list_any (λ r. r == c) risk) refl
    where
      by : (b : Bool) → list_any (λ r. r == c) risk ≡ b → Contains (kept_of fed risk) c ⊎ Contains risk c
      by true on = inr (listed-contains risk c on)
      by false off = inl (filter-contains (λ x. not (list_any (λ r. r == x) risk)) fed c has (ap not off))
