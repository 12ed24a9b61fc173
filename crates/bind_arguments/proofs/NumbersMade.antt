-- Tables that are made, and that were made already.
use Rattle.std.proofs.Common.{◌≡◌, ◌∙◌, ◌<◌, ◌+◌, ◌==◌, ◌&&◌, nat_eq, find, unwrap_or, pos, Bool, if◌then◌else◌, ℕ, ℤ, List, [], ◌∷◌, ◌++◌, length, get_or, map, ap, refl, suc, false, sym, subst, arith}
use Rattle.std.proofs.lemmas.List.Elements.{All-push}
use Rattle.std.proofs.lemmas.List.FromFn.{map-range_with_len_more}
use Rattle.std.specs.List.{range_with_len}
use Rattle.cube_space.specs.Layout.{Layout}
use Rattle.std.specs.Cmp.Lexicographic.{pointwise}
use Rattle.std.specs.Option.{option_map}
use Rattle.cube_fixed.specs.Range.{unit}
use Rattle.cube_fixed.specs.Text.{number_of, reading_of}
use Rattle.dim_core.specs.Outline.{Outline}
use Rattle.dim_core.specs.declared.attribute.Attribute.{Attribute}
use Rattle.dim_name.specs.Name.{key_of, is_same_name}
use Rattle.rule_laws.specs.Tables.{mark_number, mark_numbers}
use Rattle.bind_arguments.specs.Numbers.{number_for, numbers_over, text_for, read_or_zero, IsTableIn, AreTablesIn}
use Rattle.bind_arguments.specs.declared.element_function.ElementFunction.{ElementFunction}
use Rattle.bind_arguments.specs.declared.element_function.ElementFunction.TheVariants as functions
use Rattle.bind_arguments.specs.declared.element_text.ElementText.{ElementText}
use Rattle.bind_arguments.specs.declared.element_text.ElementText.TheVariants as texts
use Rattle.bind_arguments.proofs.Tables.{map_same}
use Rattle.bind_arguments.specs.declared.bound_tables.BoundTable.{BoundTable}

-- one element more has its number
pub one_more : {X : Type 0} (f : ℕ → X) (n : ℕ) (before after : List X) (number : X) → before ≡ map f (range_with_len 0 n) → number ≡ f n → after ≡ before ++ number ∷ [] → after ≡ map f (range_with_len 0 (n + 1))
one_more f n before after number so is pushed =
    pushed ∙ ap (λ l. l ++ number ∷ []) so ∙ ap (λ x. map f (range_with_len 0 n) ++ x ∷ []) is ∙ sym (map-range_with_len_more f 0 n n (omega arith))

-- all elements have theirs
pub whole : (d : Outline) (function : ElementFunction) (n : ℕ) (numbers : List ℤ) → n ≡ length d.elements → numbers ≡ map (number_for d function) (range_with_len 0 n) → numbers ≡ numbers_over d function
unfolding numbers_over
whole d function n numbers all so = so ∙ ap (λ k. map (number_for d function) (range_with_len 0 k)) all

-- the text of an attribute by the key of its name
abbrev text_by : Outline → ℕ → List ℕ → List ℕ
text_by d element key = unwrap_or (option_map (λ (a : Attribute). a.text) (find (λ (a : Attribute). (element == a.element) && pointwise nat_eq key (key_of a.name)) d.attributes)) []

pub same_attributes : (d : Outline) (name other : List ℕ) → key_of name ≡ key_of other → numbers_over d (functions.Attribute name) ≡ numbers_over d (functions.Attribute other)
unfolding numbers_over
same_attributes d name other same =
    ap (λ (key : List ℕ). map (λ element. read_or_zero (reading_of (number_of (text_by d element key)))) (range_with_len 0 (length d.elements))) same

pub same_attribute_texts : (d : Outline) (element : ℕ) (name other : List ℕ) → key_of name ≡ key_of other → text_for d (texts.Attribute name) element ≡ text_for d (texts.Attribute other) element
same_attribute_texts d element name other same = ap (text_by d element) same

-- the comparisons of texts that are the same
pub same_comparisons : (d : Outline) (one two other_one other_two : ElementText) → ((e : ℕ) → text_for d one e ≡ text_for d other_one e) → ((e : ℕ) → text_for d two e ≡ text_for d other_two e)
    → numbers_over d (functions.Same one two) ≡ numbers_over d (functions.Same other_one other_two)
unfolding numbers_over
same_comparisons d one two other_one other_two first second =
    map_same (number_for d (functions.Same one two)) (number_for d (functions.Same other_one other_two)) 0 (length d.elements)
    (λ e low. ap (λ text. if is_same_name text (text_for d two e) then pos unit else pos 0) (first e)
    ∙ ap (λ text. if is_same_name (text_for d other_one e) text then pos unit else pos 0) (second e))

-- the numbers of marks, from an element on
numbers_from : (f : ℕ → ℤ) (p : ℕ → Bool) (marks : List Bool) (a : ℕ) → ((e : ℕ) → e < length marks → get_or marks e false ≡ p (a + e)) → ((e : ℕ) → f e ≡ mark_number (p e))
    → mark_numbers marks ≡ map f (range_with_len a (length marks))
numbers_from f p [] a are is = refl
numbers_from f p (mark ∷ marks) a are is =
    let first : mark ≡ p a = are 0 (omega arith) ∙ ap p (omega arith) in
    let later = numbers_from f p marks (a + 1) (λ e low. are (suc e) (omega (arith, low)) ∙ ap p (omega arith)) is in
    ap (λ l. mark_number mark ∷ l) later ∙ ap (λ x. x ∷ map f (range_with_len (a + 1) (length marks))) (ap mark_number first ∙ sym (is a))

-- the numbers of marks are those of a function that gives a mark's number
pub of_marks : (d : Outline) (function : ElementFunction) (p : ℕ → Bool) (marks : List Bool) → length marks ≡ length d.elements → ((e : ℕ) → e < length marks → get_or marks e false ≡ p e)
    → ((e : ℕ) → number_for d function e ≡ mark_number (p e)) → mark_numbers marks ≡ numbers_over d function
unfolding numbers_over
of_marks d function p marks len are is =
    numbers_from (number_for d function) p marks 0 (λ e low. are e low ∙ ap p (omega arith)) is
    ∙ ap (λ n. map (number_for d function) (range_with_len 0 n)) len

-- whether two texts of an element are the same
abbrev pub same_texts : Outline → ElementText → ElementText → ℕ → Bool
same_texts d one other element = is_same_name (text_for d one element) (text_for d other element)

mapped_marks : (p : ℕ → Bool) (elements : List ℕ) → mark_numbers (map p elements) ≡ map (λ e. mark_number (p e)) elements
mapped_marks p [] = refl
mapped_marks p (element ∷ elements) = ap (λ l. mark_number (p element) ∷ l) (mapped_marks p elements)

-- all elements are compared
pub compared : (d : Outline) (one other : ElementText) (n : ℕ) (marks : List Bool) → n ≡ length d.elements → marks ≡ map (same_texts d one other) (range_with_len 0 n)
    → mark_numbers marks ≡ numbers_over d (functions.Same one other)
unfolding numbers_over
compared d one other n marks all so =
    ap mark_numbers so ∙ mapped_marks (same_texts d one other) (range_with_len 0 n)
    ∙ ap (λ k. map (number_for d (functions.Same one other)) (range_with_len 0 k)) all

module _ (space : Layout) where
  pub no_tables : AreTablesIn space []
  unfolding AreTablesIn
  no_tables k d low = absurd (omega (arith, low))

  pub table_more : (tables : List BoundTable) (made : BoundTable) → AreTablesIn space tables → IsTableIn space made → AreTablesIn space (tables ++ made ∷ [])
  unfolding AreTablesIn
  table_more tables made are is = All-push (IsTableIn space) tables made are is

  pub table_in : (tables : List BoundTable) (place : ℕ) (made : BoundTable) → AreTablesIn space tables → place < length tables → made ≡ get_or tables place made → IsTableIn space made
  unfolding AreTablesIn
  table_in tables place made are low is = subst (IsTableIn space) (sym is) (are place made low)
