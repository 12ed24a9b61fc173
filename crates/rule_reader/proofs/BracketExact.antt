-- The readers of elements in a bracket are exact.
use Rattle.std.proofs.Common.{◌≡◌, ℕ, List, [], ◌++◌, Option, Some, None, false, codes, refl, sym, ◌∙◌, ap, subst, inl, inr, append-nil, append_assoc}
use Rattle.cube_lex.specs.Lexeme.{Lexeme}
use Rattle.grammar.specs.Grammar.{Grammar, one, both, done, either}
use Rattle.grammar.specs.Tokens.{sign, name, is_sign}
use Rattle.grammar.proofs.Exact.{Exact, Always, Not, exact_gives, exact_then, exact_both, exact_by}
use Rattle.grammar.proofs.Begins.{Begins, begins_both, begins_optional, exact_option}
use Rattle.grammar.proofs.Tokens.{exact_sign, exact_name, sign_begins, value_no_sign, name_is_value}
use Rattle.rule_tree.specs.Counting.{count, counting}
use Rattle.grammar.specs.Lists.{perhaps_listed, read_listed}
use Rattle.rule_tree.specs.Formula.{dimension, simple, in_brackets, bracket}
use Rattle.rule_reader.specs.Readers.Reading.{Plan, read_behind_first, read_simple, read_up_to_bracket, read_in_brackets, read_bracket}
use Rattle.rule_tree.specs.declared.tree.SimpleText.{SimpleText}
use Rattle.grammar.proofs.Lists.{Closes, perhaps_listed_exact, closed_list}

-- An optional dimension. A name comes first in both cases.

-- `:`
abbrev pub colon : Grammar Lexeme (Unit {0})
colon = one (sign (codes ":"))

-- `name :` before a text of K
pub with_dimension : {B : Type 0} (K : Option (List ℕ) → Grammar Lexeme B) (v w : List Lexeme) (first : List ℕ) (y z : List Lexeme) (x : Unit {0}) (b : B) → one name v first → w ≡ y ++ z → colon y x → K (Some first) z b → both dimension K (v ++ w) b
with_dimension K v w first y z x b h parts c k = (v ++ y, z, Some first, ap (λ l. v ++ l) parts ∙ sym (append_assoc v y z), inl (v, y, first, refl, h, (y, [], x, sym (append-nil y), c, (refl, refl))), k)

-- a text of K alone
pub no_dimension : {B : Type 0} (K : Option (List ℕ) → Grammar Lexeme B) (u : List Lexeme) (b : B) → K None u b → both dimension K u b
no_dimension K u b k = ([], u, None, refl, inr (refl, refl), k)

pub dimension_no_sign : {B : Type 0} (K : Option (List ℕ) → Grammar Lexeme B) (b : List ℕ) → ((dim : Option (List ℕ)) → Begins (K dim) (is_sign b) false) → Begins (both dimension K) (is_sign b) false
dimension_no_sign K b k = begins_optional (begins_both (value_no_sign name_is_value b)) k

abbrev element_of : Option (List ℕ) → Grammar Lexeme SimpleText
element_of dim = both (one name) (λ element. done (record { dim = dim; element = element }))

abbrev behind_first : List ℕ → Grammar Lexeme SimpleText
behind_first first = either (both colon (λ _. element_of (Some first))) (done (record { dim = None; element = first }))

-- name [ ":" name ]
abbrev name_first : Grammar Lexeme SimpleText
name_first = both (one name) behind_first

into_simple : (u : List Lexeme) (x : SimpleText) → name_first u x → simple u x
into_simple u x (v, w, first, parts, h, inl (y, z, c, more, sign, k)) = subst (λ l. simple l x) (sym parts) (with_dimension element_of v w first y z c x h more sign k)
into_simple u x (v, w, first, parts, h, inr (nothing, made)) = no_dimension element_of u x (v, w, first, parts, h, (nothing, made))

back_simple : (u : List Lexeme) (x : SimpleText) → simple u x → name_first u x
back_simple u x (v, w, dim, parts, inl (y, z, first, more, h, (a, b, c, last, sign, (nothing, is))), k) =
    (y, a ++ w, first, parts ∙ ap (λ l. l ++ w) (more ∙ ap (λ l. y ++ l) (last ∙ ap (λ l. a ++ l) nothing ∙ append-nil a)) ∙ append_assoc y a w, h, inl (a, w, c, refl, sign, subst (λ d. element_of d w x) is k))
back_simple u x (v, w, dim, parts, inr (nothing, is), (y, z, element, more, h, (none, made))) =
    (y, z, element, parts ∙ ap (λ l. l ++ w) nothing ∙ more, h, inr (none, made ∙ ap (λ d. record { dim = d; element = element }) is))

pub simple_exact : Exact counting simple simple read_simple (Not (is_sign (codes ":")))
unfolding read_simple read_behind_first
simple_exact = exact_by into_simple back_simple (exact_then (exact_name count) (λ first. exact_option (is_sign (codes ":")) (record { dim = None; element = first }) (begins_both (sign_begins (codes ":") (codes ":")))
    (exact_then (exact_sign count (codes ":")) (λ _. exact_then (exact_name count) (λ element. exact_gives counting (record { dim = Some first; element = element }))))))

pub simple_no_sign : (b : List ℕ) → Begins simple (is_sign b) false
simple_no_sign b = dimension_no_sign element_of b (λ dim. begins_both (value_no_sign name_is_value b))

up_to_bracket_exact : {A : Type 0} {item : Grammar Lexeme A} {read_item : Plan A} → Begins item (is_sign (codes "]")) false → Exact counting item item read_item (Not (is_sign (codes ":")))
    → Exact counting (perhaps_listed item item) (perhaps_listed item item) (read_up_to_bracket read_item) (Closes (codes "]") (is_sign (codes ":")))
unfolding read_up_to_bracket read_listed
up_to_bracket_exact begins item_exact = perhaps_listed_exact (codes "]") (is_sign (codes ":")) (sign_begins (codes ",") (codes ":")) begins item_exact item_exact

pub in_brackets_exact : {A : Type 0} {item : Grammar Lexeme A} {read_item : Plan A} → Begins item (is_sign (codes "]")) false → Exact counting item item read_item (Not (is_sign (codes ":")))
    → Exact counting (in_brackets item) (in_brackets item) (read_in_brackets read_item) Always
unfolding read_in_brackets
in_brackets_exact begins item_exact = exact_then (exact_sign count (codes "[")) (λ _. exact_both (up_to_bracket_exact begins item_exact) (λ items. exact_then (exact_sign count (codes "]")) (λ _. exact_gives counting items))
    (λ items v b rest l _. closed_list (codes "]") (done items) (is_sign (codes ":")) (sign_begins (codes "]") (codes ":")) refl refl v b rest l))

pub bracket_exact : Exact counting bracket bracket read_bracket Always
bracket_exact = in_brackets_exact (simple_no_sign (codes "]")) simple_exact
