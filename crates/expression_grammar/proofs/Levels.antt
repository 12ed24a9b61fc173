-- One level of expressions above another: operations, or a sign before. Which sort an expression has is told with its tree.
use Rattle.std.proofs.Common.{◌≡◌, ℕ, List, [], ◌++◌, Bool, true, false, refl, sym, ◌∙◌, ap, subst, inl, inr, append-nil}
use Rattle.cube_lex.specs.Lexeme.{Lexeme}
use Rattle.grammar.specs.Grammar.{Grammar, done, one, both, either, many}
use Rattle.grammar.specs.Reading.{both_of, gives, take_one, choose}
use Rattle.grammar.specs.Tokens.{sign, is_sign}
use Rattle.grammar.specs.Watch.{Watch, each_token}
use Rattle.grammar.proofs.Exact.{Exact, Not, exact_gives, exact_then, exact_both, exact_made, exact_by, exact_before}
use Rattle.grammar.proofs.Begins.{Begins, begins_both, exact_or, made_is, starts_many}
use Rattle.grammar.proofs.Many.{exact_all}
use Rattle.grammar.proofs.Tokens.{exact_sign, sign_begins, bytes_eq_self}
use Rattle.expression_grammar.specs.Language.{Table, is_operator}
use Rattle.expression_grammar.specs.Expression.{from_left, operation, chain, prefixed}
use Rattle.expression_grammar.specs.Readers.Reading.{Scanner, Reads, read_operation, read_behind, behind_value, behind_truth, read_behind_sort, only}
use Rattle.expression_grammar.specs.declared.sort.Sort.{Sort}
use Rattle.expression_grammar.specs.declared.sort.Sort.TheVariants as sorts
use Rattle.expression_grammar.specs.declared.sort.Want.{Want}
use Rattle.expression_grammar.specs.declared.sort.Want.TheVariants as wants
use Rattle.expression_grammar.proofs.Languages.{is_sign_of, is_filled, is_apart}
use Rattle.expression_grammar.proofs.Operators.{more_signs, not_signs, not_operator, operation_begins, operation_apart, exact_operator}

-- whether an expression of this sort may stand here
abbrev pub fits : Want → Sort → Type 0
fits wants.Value sorts.Value = Unit {0}
fits wants.Value sorts.Truth = ⊥
fits wants.Truth sorts.Value = ⊥
fits wants.Truth sorts.Truth = Unit {0}
fits wants.Any sort = Unit {0}

-- a grammar for each sort
abbrev pub Sorts : Type 0 → Type 1
Sorts A = Sort → Grammar Lexeme A

abbrev pub by_sort : {A : Type 0} → Grammar Lexeme A → Grammar Lexeme A → Sorts A
by_sort V T sorts.Value = V
by_sort V T sorts.Truth = T

-- an expression as it is wanted, and its sort
abbrev pub sorted : {A : Type 0} → Sorts A → Want → Grammar Lexeme (A × Sort)
sorted F want ts x = fits want x.1 × F x.1 ts x.0

-- the grammar of one sort is changed
abbrev pub changed : {A : Type 0} → Sort → (Grammar Lexeme A → Grammar Lexeme A) → Sorts A → Sorts A
changed sorts.Value change F sorts.Value = change (F sorts.Value)
changed sorts.Value change F sorts.Truth = F sorts.Truth
changed sorts.Truth change F sorts.Value = F sorts.Value
changed sorts.Truth change F sorts.Truth = change (F sorts.Truth)

-- Where one sort alone is wanted.

into_made : {A B : Type 0} (F : Sorts A) (make : A → B) (s : Sort) (u : List Lexeme) (b : B) → both (sorted F (only s)) (λ x. done (make x.0)) u b → both (F s) (λ e. done (make e)) u b
into_made F make sorts.Value u b (v, w, (e, sorts.Value), parts, (fit, h), made) = (v, w, e, parts, h, made)
into_made F make sorts.Value u b (v, w, (e, sorts.Truth), parts, (fit, h), made) = absurd fit
into_made F make sorts.Truth u b (v, w, (e, sorts.Value), parts, (fit, h), made) = absurd fit
into_made F make sorts.Truth u b (v, w, (e, sorts.Truth), parts, (fit, h), made) = (v, w, e, parts, h, made)

back_made : {A B : Type 0} (F : Sorts A) (make : A → B) (s : Sort) (u : List Lexeme) (b : B) → both (F s) (λ e. done (make e)) u b → both (sorted F (only s)) (λ x. done (make x.0)) u b
back_made F make sorts.Value u b (v, w, e, parts, h, made) = (v, w, (e, sorts.Value), parts, (tt, h), made)
back_made F make sorts.Truth u b (v, w, e, parts, h, made) = (v, w, (e, sorts.Truth), parts, (tt, h), made)

-- a tree is made of an expression of one sort
pub exact_of_sort : {A B R C : Type 0} {W : Watch Lexeme R C} (F H : Sorts A) {P : Reads R C (A × Sort)} {S : List Lexeme → Type 0} (make : A → B) (s : Sort) → Exact W (sorted F (only s)) (sorted H (only s)) P S → Exact W (both (F s) (λ e. done (make e))) (both (H s) (λ e. done (make e))) (both_of P (λ x. gives (make x.0))) S
exact_of_sort F H make s e = exact_by (into_made F make s) (back_made H make s) (exact_made (λ x. make x.0) e)

-- Operations behind an operand.

module _ {A O R C : Type 0} (scan : Scanner R C) (joined : O → A → A → A) (table : Table O) where
  abbrev operations : Grammar Lexeme A → A × Sort → Grammar Lexeme (A × Sort)
  operations G x = both (many (operation table G)) (λ rest. done (from_left joined x.0 rest, x.1))

  -- behind an operand of this sort
  abbrev behind : Sort → Grammar Lexeme A → A × Sort → Grammar Lexeme (A × Sort)
  behind sorts.Value G (e, sorts.Value) = operations G (e, sorts.Value)
  behind sorts.Value G (e, sorts.Truth) = done (e, sorts.Truth)
  behind sorts.Truth G (e, sorts.Value) = done (e, sorts.Value)
  behind sorts.Truth G (e, sorts.Truth) = operations G (e, sorts.Truth)

  into_chain : (F : Sorts A) (s : Sort) (want : Want) (u : List Lexeme) (x : A × Sort) → both (sorted F want) (behind s (F s)) u x → sorted (changed s (chain joined table) F) want u x
  into_chain F sorts.Value want u x (v, w, (e, sorts.Value), parts, (fit, h), (a, b, rest, more, ops, (nothing, is))) = subst (sorted (changed sorts.Value (chain joined table) F) want u) (sym is) (fit, (v, w, e, parts, h, (a, b, rest, more, ops, (nothing, refl))))
  into_chain F sorts.Value want u x (v, w, (e, sorts.Truth), parts, (fit, h), (nothing, is)) = subst (sorted (changed sorts.Value (chain joined table) F) want u) (sym is) (fit, subst (λ z. F sorts.Truth z e) (sym (parts ∙ ap (λ z. v ++ z) nothing ∙ append-nil v)) h)
  into_chain F sorts.Truth want u x (v, w, (e, sorts.Value), parts, (fit, h), (nothing, is)) = subst (sorted (changed sorts.Truth (chain joined table) F) want u) (sym is) (fit, subst (λ z. F sorts.Value z e) (sym (parts ∙ ap (λ z. v ++ z) nothing ∙ append-nil v)) h)
  into_chain F sorts.Truth want u x (v, w, (e, sorts.Truth), parts, (fit, h), (a, b, rest, more, ops, (nothing, is))) = subst (sorted (changed sorts.Truth (chain joined table) F) want u) (sym is) (fit, (v, w, e, parts, h, (a, b, rest, more, ops, (nothing, refl))))

  back_chain : (F : Sorts A) (s : Sort) (want : Want) (u : List Lexeme) (x : A × Sort) → sorted (changed s (chain joined table) F) want u x → both (sorted F want) (behind s (F s)) u x
  back_chain F sorts.Value want u (e, sorts.Value) (fit, (v, w, head, parts, h, (a, b, rest, more, ops, (nothing, is)))) = (v, w, (head, sorts.Value), parts, (fit, h), (a, b, rest, more, ops, (nothing, ap (λ z. (z, sorts.Value)) is)))
  back_chain F sorts.Value want u (e, sorts.Truth) (fit, h) = (u, [], (e, sorts.Truth), sym (append-nil u), (fit, h), (refl, refl))
  back_chain F sorts.Truth want u (e, sorts.Value) (fit, h) = (u, [], (e, sorts.Value), sym (append-nil u), (fit, h), (refl, refl))
  back_chain F sorts.Truth want u (e, sorts.Truth) (fit, (v, w, head, parts, h, (a, b, rest, more, ops, (nothing, is)))) = (v, w, (head, sorts.Truth), parts, (fit, h), (a, b, rest, more, ops, (nothing, ap (λ z. (z, sorts.Truth)) is)))

  module _ (signs : List ℕ → Bool) (filled : is_filled table ≡ true) (apart : is_apart signs table ≡ true) where
    operations_exact : (F H : Sorts A) (s : Sort) (x : A × Sort) {Q : Reads R C (A × Sort)} → Exact (each_token scan) (sorted F (only s)) (sorted H (only s)) Q (Not (is_sign_of signs)) → Exact (each_token scan) (operations (F s) x) (operations (H s) x) (read_behind scan joined table Q x) (Not (is_sign_of (more_signs signs table)))
    unfolding read_behind read_operation
    operations_exact F H s x e = exact_made (λ rest. (from_left joined x.0 rest, x.1))
        (exact_all (is_operator table) true (operation_begins table (F s)) (operation_begins table (H s)) (not_operator signs table)
        (λ list v rest h stops. starts_many (operation_apart signs table (H s) apart) list v rest h (not_signs signs table rest stops))
        (exact_then (exact_operator scan table filled) (λ o. exact_of_sort F H (λ right. (o, right)) s e)))

    behind_exact : (F H : Sorts A) (s : Sort) (x : A × Sort) {Q : Reads R C (A × Sort)} → Exact (each_token scan) (sorted F (only s)) (sorted H (only s)) Q (Not (is_sign_of signs)) → Exact (each_token scan) (behind s (F s) x) (behind s (H s) x) (read_behind_sort scan joined table s Q x) (Not (is_sign_of (more_signs signs table)))
    unfolding behind_value behind_truth
    behind_exact F H sorts.Value (e, sorts.Value) exact = operations_exact F H sorts.Value (e, sorts.Value) exact
    behind_exact F H sorts.Value (e, sorts.Truth) exact = exact_before (λ _ _. tt) (exact_gives (each_token scan) (e, sorts.Truth))
    behind_exact F H sorts.Truth (e, sorts.Value) exact = exact_before (λ _ _. tt) (exact_gives (each_token scan) (e, sorts.Value))
    behind_exact F H sorts.Truth (e, sorts.Truth) exact = operations_exact F H sorts.Truth (e, sorts.Truth) exact

    follow_operations : (G : Grammar Lexeme A) (x : A × Sort) (v : List Lexeme) (y : A × Sort) (rest : List Lexeme) → operations G x v y → Not (is_sign_of (more_signs signs table)) rest → Not (is_sign_of signs) (v ++ rest)
    follow_operations G x v y rest h stops =
        let (list, more) = made_is (many (operation table G)) (λ rest. (from_left joined x.0 rest, x.1)) v y h in
        starts_many (operation_apart signs table G apart) list v rest more (not_signs signs table rest stops)

    follow_behind : (G : Grammar Lexeme A) (s : Sort) (x : A × Sort) (v : List Lexeme) (y : A × Sort) (rest : List Lexeme) → behind s G x v y → Not (is_sign_of (more_signs signs table)) rest → Not (is_sign_of signs) (v ++ rest)
    follow_behind G sorts.Value (e, sorts.Value) v y rest h stops = follow_operations G (e, sorts.Value) v y rest h stops
    follow_behind G sorts.Value (e, sorts.Truth) v y rest h stops = subst (λ z. Not (is_sign_of signs) (z ++ rest)) (sym h.0) (not_signs signs table rest stops)
    follow_behind G sorts.Truth (e, sorts.Value) v y rest h stops = subst (λ z. Not (is_sign_of signs) (z ++ rest)) (sym h.0) (not_signs signs table rest stops)
    follow_behind G sorts.Truth (e, sorts.Truth) v y rest h stops = follow_operations G (e, sorts.Truth) v y rest h stops

    -- an operand as it is wanted, and operations behind it if it is of this sort
    pub exact_chain : (F H : Sorts A) (s : Sort) (want : Want) {P Q : Reads R C (A × Sort)} → Exact (each_token scan) (sorted F want) (sorted H want) P (Not (is_sign_of signs)) → Exact (each_token scan) (sorted F (only s)) (sorted H (only s)) Q (Not (is_sign_of signs))
        → Exact (each_token scan) (sorted (changed s (chain joined table) F) want) (sorted (changed s (chain joined table) H) want) (both_of P (read_behind_sort scan joined table s Q)) (Not (is_sign_of (more_signs signs table)))
    exact_chain F H s want head right = exact_by (into_chain F s want) (back_chain H s want) (exact_both head (λ x. behind_exact F H s x right) (follow_behind (H s) s))

-- A sign before an operand.

module _ {A R C : Type 0} (scan : Scanner R C) (before : List ℕ) (make : A → A) where
  abbrev signed : Sorts A → Sort → Grammar Lexeme (A × Sort)
  signed F s = both (one (sign before)) (λ _. both (F s) (λ e. done (make e, s)))

  into_prefixed : (F : Sorts A) (s : Sort) (want : Want) → fits want s → (u : List Lexeme) (x : A × Sort) → either (signed F s) (sorted F want) u x → sorted (changed s (prefixed before make) F) want u x
  into_prefixed F sorts.Value want fit u x (inl (v, w, z, parts, h, (a, b, e, more, k, (nothing, is)))) = subst (sorted (changed sorts.Value (prefixed before make) F) want u) (sym is) (fit, inl (v, w, z, parts, h, (a, b, e, more, k, (nothing, refl))))
  into_prefixed F sorts.Truth want fit u x (inl (v, w, z, parts, h, (a, b, e, more, k, (nothing, is)))) = subst (sorted (changed sorts.Truth (prefixed before make) F) want u) (sym is) (fit, inl (v, w, z, parts, h, (a, b, e, more, k, (nothing, refl))))
  into_prefixed F sorts.Value want fit u (e, sorts.Value) (inr (it, h)) = (it, inr h)
  into_prefixed F sorts.Value want fit u (e, sorts.Truth) (inr (it, h)) = (it, h)
  into_prefixed F sorts.Truth want fit u (e, sorts.Value) (inr (it, h)) = (it, h)
  into_prefixed F sorts.Truth want fit u (e, sorts.Truth) (inr (it, h)) = (it, inr h)

  back_prefixed : (F : Sorts A) (s : Sort) (want : Want) (u : List Lexeme) (x : A × Sort) → sorted (changed s (prefixed before make) F) want u x → either (signed F s) (sorted F want) u x
  back_prefixed F sorts.Value want u (e, sorts.Value) (fit, inl (v, w, z, parts, h, (a, b, f, more, k, (nothing, is)))) = inl (v, w, z, parts, h, (a, b, f, more, k, (nothing, ap (λ y. (y, sorts.Value)) is)))
  back_prefixed F sorts.Value want u (e, sorts.Value) (fit, inr h) = inr (fit, h)
  back_prefixed F sorts.Value want u (e, sorts.Truth) (fit, h) = inr (fit, h)
  back_prefixed F sorts.Truth want u (e, sorts.Value) (fit, h) = inr (fit, h)
  back_prefixed F sorts.Truth want u (e, sorts.Truth) (fit, inl (v, w, z, parts, h, (a, b, f, more, k, (nothing, is)))) = inl (v, w, z, parts, h, (a, b, f, more, k, (nothing, ap (λ y. (y, sorts.Truth)) is)))
  back_prefixed F sorts.Truth want u (e, sorts.Truth) (fit, inr h) = inr (fit, h)

  -- the sign and an operand of this sort, or an operand as it is wanted, which doesn't begin with the sign
  pub exact_prefixed : (F H : Sorts A) (s : Sort) (want : Want) {P Q : Reads R C (A × Sort)} {S : List Lexeme → Type 0} → fits want s → ((sort : Sort) → Begins (H sort) (is_sign before) false) → Exact (each_token scan) (sorted F (only s)) (sorted H (only s)) Q S → Exact (each_token scan) (sorted F want) (sorted H want) P S
      → Exact (each_token scan) (sorted (changed s (prefixed before make) F) want) (sorted (changed s (prefixed before make) H) want) (choose (is_sign before) (both_of (take_one scan (sign before)) (λ _. both_of Q (λ x. gives (make x.0, s)))) P) S
  exact_prefixed F H s want fit begins e e' = exact_by (into_prefixed F s want fit) (back_prefixed H s want)
      (exact_or (is_sign before) with_sign (record { at = λ u x h. (begins x.1).at u x.0 h.1 }) (exact_then (exact_sign scan before) (λ _. exact_of_sort F H (λ e. (make e, s)) s e)) e') where
        with_sign : Begins (signed H s) (is_sign before) true
        with_sign = subst (Begins (signed H s) (is_sign before)) (bytes_eq_self before) (begins_both (sign_begins before before))
