-- Each statement as it is written is read as that statement again, at its new place.
use Rattle.std.proofs.Common.{◌≡◌, ◌≤◌, ◌<◌, ◌^◌, ℕ, suc, ℤ, pos, negsuc, neg_ℤ, ◌==◌, List, [], ◌∷◌, true, false, Bool, Some, ◌&&◌, cond, refl, sym, ap, ◌∙◌, nat_lt, codes, decimal, IsTrue, arith}
use Rattle.std.proofs.lemmas.Bool.{lt-ltb, eqb-true, and_from as and_both, cond-true}
use Rattle.std.proofs.lemmas.Fmt.{decimal_is_IsNumeral}
use Rattle.std.specs.Char.{is_ascii_digit}
use Rattle.std.proofs.lemmas.List.Elements.{All-head, All-tail}
use Rattle.std.specs.List.{All, AllZip, list_all, flat_map}
use Rattle.std.specs.Str.{bytes_eq, str_eq_ignore_ascii_case, str_to_ascii_lowercase}
use Rattle.std.specs.Str.Parse.{digits_value}
use Rattle.cube_lex.specs.Quoted.{unquoted}
use Rattle.cube_lex.proofs.Quotes.{unquoted-quoted}
use Rattle.cube_lex.proofs.Wholes.{decimal-is_digits}
use Rattle.dim_name.specs.Name.{is_name}
use Rattle.grammar.specs.Grammar.{done, one, both, many}
use Rattle.grammar.specs.Tokens.{is_text_kind, is_number_kind, is_sign_kind, is_word_kind, sign, word, name, text, whole}
use Rattle.grammar.proofs.Tokens.{bytes_eq_self}
use Rattle.dim_core.specs.Outline.{IsWeight}
use Rattle.cube_lex.specs.Written.{word_token, sign_token, text_token}
use Rattle.dim_text.specs.Spelled.{whole_token, weight_spelled, part_spelled, next_part_spelled, parts_spelled, spelled, defining}
use Rattle.dim_text.specs.Statement.{Statement, Head, Leaf, Consolidated, Attribute, End, Close, signed, head, weight, part, parts, leaf, consolidated, attribute, element, ending, closing}
use Rattle.grammar.proofs.Spells.{Spells, Picks, spells_done, spells_next, spells_both, spells_left, spells_right, spells_made, spells_many}
use Rattle.cube_lex.proofs.Numbers.{digits-pass as digits_pass}
use Rattle.cube_lex.specs.Positions.{position_of, nowhere}
use Rattle.cube_lex.specs.declared.position.Position.{Position}

-- One token.

pub picks_word : (w : List ℕ) → Picks (word w) (word_token w) (λ _. Unit {0})
picks_word w = record {
  at = λ t e. (
      let kind : is_word_kind t.kind ≡ true = ap (λ s. is_word_kind s.kind) e in
      let piece : str_eq_ignore_ascii_case t.piece w ≡ true = ap (λ s. str_eq_ignore_ascii_case s.piece w) e ∙ bytes_eq_self (str_to_ascii_lowercase w) in
      (position_of t, cond-true _ (Some (position_of t)) _ (and_both _ _ kind piece), tt));
}

pub picks_sign : (s : List ℕ) → Picks (sign s) (sign_token s) (λ _. Unit {0})
picks_sign s = record {
  at = λ t e. (
      let kind : is_sign_kind t.kind ≡ true = ap (λ x. is_sign_kind x.kind) e in
      let piece : bytes_eq t.piece s ≡ true = ap (λ x. bytes_eq x.piece s) e ∙ bytes_eq_self s in
      (tt, cond-true _ (Some tt) _ (and_both _ _ kind piece), tt));
}

pub picks_text : (bytes : List ℕ) → Picks text (text_token bytes) (λ value. value ≡ bytes)
picks_text bytes = record {
  at = λ t e. (
      let kind : is_text_kind t.kind ≡ true = ap (λ x. is_text_kind x.kind) e in
      (unquoted t.piece, cond-true _ (Some (unquoted t.piece)) _ kind, ap (λ x. unquoted x.piece) e ∙ unquoted-quoted bytes));
}

pub picks_name : (bytes : List ℕ) → IsTrue (is_name bytes) → Picks name (text_token bytes) (λ value. value ≡ bytes)
picks_name bytes is = record {
  at = λ t e. (
      let kind : is_text_kind t.kind ≡ true = ap (λ x. is_text_kind x.kind) e in
      let same : unquoted t.piece ≡ bytes = ap (λ x. unquoted x.piece) e ∙ unquoted-quoted bytes in
      let named : is_name (unquoted t.piece) ≡ true = ap is_name same ∙ is in
      (unquoted t.piece, cond-true _ (Some (unquoted t.piece)) _ (and_both _ _ kind named), same));
}

pub picks_whole : (n : ℕ) → n < 2 ^ 31 → Picks whole (whole_token n) (λ value. value ≡ n)
picks_whole n small = record {
  at = λ t e. (
      let wide : n < 2 ^ 64 = omega arith in
      let kind : is_number_kind t.kind ≡ true = ap (λ x. is_number_kind x.kind) e in
      let value : digits_value 10 t.piece ≡ n = ap (λ x. digits_value 10 x.piece) e ∙ (decimal_is_IsNumeral n wide).1 in
      let digits : list_all is_ascii_digit t.piece ≡ true = ap (λ x. list_all is_ascii_digit x.piece) e ∙ digits_pass (decimal n) (decimal-is_digits n wide) in
      let below : nat_lt (digits_value 10 t.piece) (2 ^ 31) ≡ true = ap (λ m. nat_lt m (2 ^ 31)) value ∙ lt-ltb n (2 ^ 31) small in
      (digits_value 10 t.piece, cond-true _ (Some (digits_value 10 t.piece)) _ (and_both _ _ kind (and_both _ _ digits below)), value));
}

-- Parts.

small_weight : (n : ℕ) → n ≤ 1000000 → n < 2 ^ 31
small_weight n h = omega arith

one_or_more : (n : ℕ) → n ≤ 1000000 → (b : Bool) → (n == 1) ≡ b → Spells weight (cond b [] (sign_token (codes "*") ∷ whole_token n ∷ [])) (λ w. w ≡ pos n)
one_or_more n small true e = spells_right (spells_done (pos 1) (ap pos (sym (eqb-true n 1 e))))
one_or_more n small false e = spells_left (spells_next (picks_sign (codes "*")) (λ _ _. spells_both {xs = []} {P = λ b. b ≡ false} (spells_right (spells_done false refl))
    (λ negative plus. spells_next (picks_whole n (small_weight n small)) (λ m same. spells_done (signed negative m) (ap (λ b. signed b m) plus ∙ ap pos same)))))

pub weight_spells : (w : ℤ) → IsWeight w → Spells weight (weight_spelled w) (λ v. v ≡ w)
weight_spells (pos n) small = one_or_more n small (n == 1) refl
weight_spells (negsuc n) small = spells_left (spells_next (picks_sign (codes "*")) (λ _ _. spells_both {xs = sign_token (codes "-") ∷ []} {P = λ b. b ≡ true} (spells_left (spells_next (picks_sign (codes "-")) (λ _ _. spells_done true refl)))
    (λ negative is. spells_next (picks_whole (suc n) (small_weight (suc n) small)) (λ m same. spells_done (signed negative m) (ap (λ b. signed b m) is ∙ ap (λ k. neg_ℤ (pos k)) same)))))

-- a component whose name is one, with a weight in range
abbrev pub IsPart : List ℕ × ℤ → Type 0
IsPart p = IsTrue (is_name p.0) × IsWeight p.1

pub part_spells : (p : List ℕ × ℤ) → IsPart p → Spells part (part_spelled p) (λ q. q ≡ p)
part_spells p is = spells_next (picks_name p.0 is.0) (λ shown same. spells_made (λ w. (shown, w)) (weight_spells p.1 is.1) (λ w v. ap (λ x. (x, w)) same ∙ ap (λ x. (p.0, x)) v))

next_part_spells : (p : List ℕ × ℤ) → IsPart p → Spells (both (one (sign (codes ","))) (λ _. part)) (next_part_spelled p) (λ q. q ≡ p)
next_part_spells p is = spells_next (picks_sign (codes ",")) (λ _ _. part_spells p is)

same_parts : (xs ys : List (List ℕ × ℤ)) → AllZip (λ x y. y ≡ x) xs ys → ys ≡ xs
same_parts [] [] same = refl
same_parts [] (y ∷ ys) same = absurd same
same_parts (x ∷ xs) [] same = absurd same
same_parts (x ∷ xs) (y ∷ ys) same = ap (λ z. z ∷ ys) same.0 ∙ ap (λ zs. x ∷ zs) (same_parts xs ys same.1)

further_spells : (first : List ℕ × ℤ) (rest : List (List ℕ × ℤ)) → All IsPart rest → (head : List ℕ × ℤ) → head ≡ first
    → Spells (both (many (both (one (sign (codes ","))) (λ _. part))) (λ more. done (head ∷ more))) (flat_map next_part_spelled rest) (λ q. q ≡ first ∷ rest)
further_spells first rest all head same = spells_made (λ more. head ∷ more) (spells_many next_part_spelled IsPart (λ p q. q ≡ p) next_part_spells rest all)
    (λ more zip. ap (λ x. x ∷ more) same ∙ ap (λ xs. first ∷ xs) (same_parts rest more zip))

pub parts_spells : (components : List (List ℕ × ℤ)) → All IsPart components → Spells parts (parts_spelled components) (λ list. list ≡ components)
parts_spells [] all = spells_right (spells_done [] refl)
parts_spells (first ∷ rest) all =
    spells_left (spells_next (picks_sign (codes ":")) (λ _ _. spells_both {xs = part_spelled first} {ys = flat_map next_part_spelled rest} (part_spells first (All-head IsPart first rest all))
    (λ head same. further_spells first rest (All-tail IsPart first rest all) head same)))

-- Statements.

-- the same statement, where its first word stands at this place
abbrev pub standing_at : Position → Statement → Statement
standing_at at (Head _ shown) = Head at shown
standing_at at (Leaf _ shown) = Leaf at shown
standing_at at (Consolidated _ shown components) = Consolidated at shown components
standing_at at (Attribute _ shown called value) = Attribute at shown called value
standing_at at (End _) = End at
standing_at at Close = Close

-- it is that statement, but for its place
abbrev pub IsSame : Statement → Statement → Type 0
IsSame x y = (at : Position) × (y ≡ standing_at at x)

pub head_spells : (at : Position) (shown : List ℕ) → IsTrue (is_name shown) → Spells head (spelled (Head at shown)) (IsSame (Head at shown))
head_spells at shown is = spells_next (picks_word (codes "DIM")) (λ n _. spells_next (picks_name shown is) (λ x same. spells_next (picks_sign (codes ";"))
    (λ _ _. spells_done (Head n x) (n, ap (λ y. Head n y) same))))

leaf_spells : (at : Position) (shown : List ℕ) → IsTrue (is_name shown) → Spells leaf (spelled (Leaf at shown)) (IsSame (Leaf at shown))
leaf_spells at shown is = spells_next (picks_word (codes "N")) (λ n _. spells_next (picks_name shown is) (λ x same. spells_next (picks_sign (codes ";"))
    (λ _ _. spells_done (Leaf n x) (n, ap (λ y. Leaf n y) same))))

consolidated_spells : (at : Position) (shown : List ℕ) (components : List (List ℕ × ℤ)) → IsTrue (is_name shown) → All IsPart components
    → Spells consolidated (spelled (Consolidated at shown components)) (IsSame (Consolidated at shown components))
consolidated_spells at shown components is all = spells_next (picks_word (codes "C")) (λ n _. spells_next (picks_name shown is)
    (λ x same. spells_both {xs = parts_spelled components} {ys = sign_token (codes ";") ∷ []} (parts_spells components all)
    (λ list e. spells_next (picks_sign (codes ";")) (λ _ _. spells_done (Consolidated n x list) (n, ap (λ y. Consolidated n y list) same ∙ ap (λ l. Consolidated n shown l) e)))))

attribute_spells : (at : Position) (shown called value : List ℕ) → IsTrue (is_name shown) → IsTrue (is_name called)
    → Spells attribute (spelled (Attribute at shown called value)) (IsSame (Attribute at shown called value))
attribute_spells at shown called value is-shown is-called = spells_next (picks_word (codes "A")) (λ n _. spells_next (picks_name shown is-shown)
    (λ x same-x. spells_next (picks_name called is-called) (λ y same-y. spells_next (picks_sign (codes "=")) (λ _ _. spells_next (picks_text value)
    (λ z same-z. spells_next (picks_sign (codes ";"))
    (λ _ _. spells_done (Attribute n x y z) (n, ap (λ t. Attribute n t y z) same-x ∙ ap (λ t. Attribute n shown t z) same-y ∙ ap (λ t. Attribute n shown called t) same-z)))))))

pub ending_spells : (at : Position) → Spells ending (spelled (End at)) (IsSame (End at))
ending_spells at = spells_next (picks_word (codes "END")) (λ n _. spells_done (End n) (n, refl))

pub closing_spells : Spells closing (spelled Close) (IsSame Close)
closing_spells = spells_next (picks_sign (codes ";")) (λ _ _. spells_done Close (nowhere, refl))

pub defining_spells : (shown : List ℕ) (components : List (List ℕ × ℤ)) → IsTrue (is_name shown) → All IsPart components
    → Spells element (spelled (defining shown components)) (IsSame (defining shown components))
defining_spells shown [] is all = spells_left (leaf_spells nowhere shown is)
defining_spells shown (first ∷ rest) is all = spells_right (spells_left (consolidated_spells nowhere shown (first ∷ rest) is all))

pub attribute_element_spells : (shown called value : List ℕ) → IsTrue (is_name shown) → IsTrue (is_name called)
    → Spells element (spelled (Attribute nowhere shown called value)) (IsSame (Attribute nowhere shown called value))
attribute_element_spells shown called value is-shown is-called = spells_right (spells_right (attribute_spells nowhere shown called value is-shown is-called))
