-- The readers of areas are exact.
use Rattle.std.proofs.Common.{ℕ, List, [], ◌∷◌, ◌++◌, Option, Some, None, true, false, codes, refl, sym, ◌∙◌, ap, subst, inl, inr, append-nil, append_assoc}
use Rattle.cube_lex.specs.Lexeme.{Lexeme}
use Rattle.grammar.specs.Grammar.{Grammar, one, both, done, either}
use Rattle.grammar.specs.Tokens.{sign, name, is_sign}
use Rattle.grammar.proofs.Exact.{Exact, Always, Not, exact_gives, exact_then, exact_made, exact_before, exact_by}
use Rattle.grammar.proofs.Begins.{Begins, begins_both, begins_either, exact_or, exact_option, exact_before_next}
use Rattle.grammar.proofs.Tokens.{exact_sign, exact_name, sign_begins, value_no_sign, name_is_value}
use Rattle.rule_tree.specs.Counting.{count, counting}
use Rattle.grammar.specs.Lists.{listed}
use Rattle.rule_tree.specs.RuleText.{elements, entry, area}
use Rattle.rule_reader.specs.Readers.TextReading.{read_braced, read_alone, read_elements, read_behind_first, read_entry, read_area}
use Rattle.rule_tree.specs.declared.rule.EntryText.{EntryText}
use Rattle.grammar.proofs.Lists.{names_exact, swapped}
use Rattle.rule_reader.proofs.BracketExact.{colon, with_dimension, no_dimension, dimension_no_sign, in_brackets_exact}

-- "{" name { "," name } "}"
abbrev braced : Grammar Lexeme (List (List ℕ))
braced = both (one (sign (codes "{"))) (λ _. both (listed (one name) (one name)) (λ all. both (one (sign (codes "}"))) (λ _. done all)))

abbrev alone : Grammar Lexeme (List (List ℕ))
alone = both (one name) (λ element. done (element ∷ []))

braced_exact : Exact counting braced braced read_braced Always
unfolding read_braced
braced_exact = exact_then (exact_sign count (codes "{")) (λ _. exact_before_next (names_exact count)
    (λ all. exact_then (exact_sign count (codes "}")) (λ _. exact_gives counting all))
    (λ all. begins_both (sign_begins (codes "}") (codes ","))))

elements_exact : Exact counting elements elements read_elements Always
unfolding read_elements read_alone
elements_exact = exact_by (swapped braced alone) (swapped alone braced) (exact_or (is_sign (codes "{")) (begins_both (sign_begins (codes "{") (codes "{"))) (begins_both (value_no_sign name_is_value (codes "{")))
    braced_exact (exact_made (λ element. element ∷ []) (exact_name count)))

abbrev elements_of : Option (List ℕ) → Grammar Lexeme EntryText
elements_of dim = both elements (λ all. done (record { dim = dim; elements = all }))

-- what stands behind a name
abbrev behind_first : List ℕ → Grammar Lexeme EntryText
behind_first first = either (both colon (λ _. elements_of (Some first))) (done (record { dim = None; elements = first ∷ [] }))

-- by the next token
abbrev by_token : Grammar Lexeme EntryText
by_token = either (both braced (λ all. done (record { dim = None; elements = all }))) (both (one name) behind_first)

into_entry : (u : List Lexeme) (x : EntryText) → by_token u x → entry u x
into_entry u x (inl (v, w, all, parts, h, made)) = no_dimension elements_of u x (v, w, all, parts, inr h, made)
into_entry u x (inr (v, w, first, parts, h, inl (y, z, c, more, sign, k))) = subst (λ l. entry l x) (sym parts) (with_dimension elements_of v w first y z c x h more sign k)
into_entry u x (inr (v, w, first, parts, h, inr made)) = no_dimension elements_of u x (v, w, first ∷ [], parts, inl (v, [], first, sym (append-nil v), h, (refl, refl)), made)

back_entry : (u : List Lexeme) (x : EntryText) → entry u x → by_token u x
back_entry u x (v, w, dim, parts, inl (y, z, first, more, h, (a, b, c, last, sign, (nothing, is))), k) =
    inr (y, a ++ w, first, parts ∙ ap (λ l. l ++ w) (more ∙ ap (λ l. y ++ l) (last ∙ ap (λ l. a ++ l) nothing ∙ append-nil a)) ∙ append_assoc y a w, h, inl (a, w, c, refl, sign, subst (λ d. elements_of d w x) is k))
back_entry u x (v, w, dim, parts, inr (nothing, is), (y, z, all, more, inl (g, i, element, most, h, (end, single)), (none, made))) =
    inr (g, i ++ z, element, parts ∙ ap (λ l. l ++ w) nothing ∙ more ∙ ap (λ l. l ++ z) most ∙ append_assoc g i z, h, inr (ap (λ l. l ++ z) end ∙ none, made ∙ ap (λ d. record { dim = d; elements = all }) is ∙ ap (λ l. record { dim = None; elements = l }) single))
back_entry u x (v, w, dim, parts, inr (nothing, is), (y, z, all, more, inr h, (none, made))) =
    inl (y, z, all, parts ∙ ap (λ l. l ++ w) nothing ∙ more, h, (none, made ∙ ap (λ d. record { dim = d; elements = all }) is))

entry_exact : Exact counting entry entry read_entry (Not (is_sign (codes ":")))
unfolding read_entry read_behind_first
entry_exact = exact_by into_entry back_entry (exact_or (is_sign (codes "{")) (begins_both (begins_both (sign_begins (codes "{") (codes "{")))) (begins_both (value_no_sign name_is_value (codes "{")))
    (exact_before {S' = Not (is_sign (codes ":"))} (λ _ _. tt) (exact_made (λ all. record { dim = None; elements = all }) braced_exact))
    (exact_then (exact_name count) (λ first. exact_option (is_sign (codes ":")) (record { dim = None; elements = first ∷ [] }) (begins_both (sign_begins (codes ":") (codes ":")))
    (exact_then (exact_sign count (codes ":")) (λ _. exact_made (λ all. record { dim = Some first; elements = all }) elements_exact)))))

entry_no_sign : (b : List ℕ) → Begins (one (sign (codes "{"))) (is_sign b) false → Begins entry (is_sign b) false
entry_no_sign b brace = dimension_no_sign elements_of b (λ dim. begins_both (begins_either (begins_both (value_no_sign name_is_value b)) (begins_both brace)))

pub area_exact : Exact counting area area read_area Always
area_exact = in_brackets_exact (entry_no_sign (codes "]") (sign_begins (codes "{") (codes "]"))) entry_exact

pub area_begins : Begins area (is_sign (codes "[")) true
area_begins = begins_both (sign_begins (codes "[") (codes "["))
