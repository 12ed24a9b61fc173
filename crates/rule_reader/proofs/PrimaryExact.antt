-- The readers of primaries are exact, if those of the values and truths inside them are.
use Rattle.std.proofs.Common.{◌≡◌, ℕ, List, [], ◌∷◌, ◌++◌, Bool, true, false, ◌&&◌, if◌then◌else◌, codes, refl, sym, ◌∙◌, ap, subst, inl, inr}
use Rattle.std.specs.Str.{bytes_eq}
use Rattle.cube_lex.specs.Lexeme.{Lexeme}
use Rattle.cube_lex.specs.declared.token.Kind.TheVariants as kinds
use Rattle.grammar.specs.Grammar.{Grammar, one, both, done, either}
use Rattle.grammar.specs.Reading.{Reader, take_one, choose}
use Rattle.grammar.specs.Tokens.{is_text, is_number, is_any_word, sign, capital_word, name, is_sign, is_sign_kind, is_word_kind, is_text_kind, is_number_kind}
use Rattle.grammar.specs.Watch.{Watch}
use Rattle.grammar.proofs.Exact.{Exact, Always, Not, exact_one, exact_gives, exact_then, exact_both, exact_made, exact_before, exact_by}
use Rattle.grammar.proofs.Begins.{Begins, begins_both, begins_either, exact_or, exact_option}
use Rattle.grammar.proofs.Tokens.{when_picks, and_is, exact_sign, exact_name, exact_text, exact_money, exact_capital_word, sign_begins, value_no_sign, text_is_value, money_is_value}
use Rattle.expression_grammar.proofs.Languages.{goes_on}
use Rattle.expression_grammar.proofs.ExpressionExact.{sign_goes_on}
use Rattle.rule_tree.specs.Counting.{count, counting}
use Rattle.grammar.specs.Lists.{perhaps_listed}
use Rattle.dim_name.specs.Name.{is_name}
use Rattle.rule_tree.specs.Formula.{rules_language, number, quoted, word_name, current, reference, stet, continue, first_argument, is_if, call, primary}
use Rattle.rule_reader.specs.Readers.Reading.{Plan, read_number, read_quoted, read_dimension, read_current, read_reference, read_first_argument, read_arguments, read_call, read_alone, read_behind_word, read_worded, read_primary}
use Rattle.rule_tree.specs.declared.tree.Tree.{Tree}
use Rattle.rule_tree.specs.declared.tree.Tree.TheVariants as trees
use Rattle.expression_grammar.proofs.TokenKinds.{HasKind, kind_begins, word_is, one_kind, sign_kind, word_kind, text_kind, name_kind, money_kind}
use Rattle.grammar.proofs.Lists.{Closes, perhaps_listed_exact, closed_list}
use Rattle.rule_reader.proofs.BracketExact.{bracket_exact}
use Rattle.expression_grammar.proofs.WordsExact.{one_word, one_capital_word}

pub word_name_kind : HasKind (one word_name) kinds.Word
word_name_kind = one_kind word_name kinds.Word (λ t a e. word_is t.kind (and_is (is_word_kind t.kind) (is_name t.piece) (when_picks (λ t. is_word_kind t.kind && is_name t.piece) (λ t. t.piece) t a e).0).0)

-- Numbers, texts, the element of the cell at hand, and references.

number_exact : Exact counting number number read_number Always
unfolding read_number
number_exact = exact_made (λ value. trees.Number value) (exact_money count)

quoted_exact : Exact counting quoted quoted read_quoted Always
unfolding read_quoted
quoted_exact = exact_made (λ bytes. trees.Text bytes) (exact_text count)

-- `A`
exact_word_name : Exact counting (one word_name) (one word_name) (take_one count word_name) Always
exact_word_name = exact_one count word_name (record { kind = kinds.Word; piece = 65 ∷ []; start = 0; line = 0 }) (65 ∷ []) refl

dimension_exact : Exact counting (either (one word_name) (one name)) (either (one word_name) (one name)) read_dimension Always
unfolding read_dimension
dimension_exact = exact_or is_any_word (kind_begins is_word_kind word_name_kind) (kind_begins is_word_kind name_kind) exact_word_name (exact_name count)

current_exact : Exact counting current current read_current Always
unfolding read_current
current_exact = exact_then (exact_sign count (codes "!")) (λ _. exact_made (λ dim. trees.Current dim) dimension_exact)

reference_exact : Exact counting reference reference read_reference Always
unfolding read_reference
reference_exact = exact_made (λ simples. trees.Bracket simples) bracket_exact

-- Words. A word comes first, and then it's seen what it is.

-- one grammar or the other
abbrev choice : {A : Type 0} → Bool → Grammar Lexeme A → Grammar Lexeme A → Grammar Lexeme A
choice true G H = G
choice false G H = H

exact_if : {R C A : Type 0} {W : Watch Lexeme R C} {G H G' H' : Grammar Lexeme A} {P Q : Reader Lexeme R C A} {S : List Lexeme → Type 0} (b : Bool) → Exact W G H P S → Exact W G' H' Q S → Exact W (choice b G G') (choice b H H') (if b then P else Q) S
exact_if true e f = e
exact_if false e f = f

module _ (V T : Grammar Lexeme Tree) where
  -- what stands behind a function's word
  abbrev call_behind : List ℕ → Grammar Lexeme Tree
  call_behind function = both (one (sign (codes "("))) (λ _. both (perhaps_listed (first_argument (is_if function) V T) V) (λ arguments. both (one (sign (codes ")"))) (λ _. done (trees.Call function arguments))))

  abbrev alone : List ℕ → Tree → Grammar Lexeme Tree
  alone function tree = either (call_behind function) (done tree)

  abbrev behind_word : List ℕ → Grammar Lexeme Tree
  behind_word function = choice (bytes_eq function (codes "STET")) (alone function trees.Stet) (choice (bytes_eq function (codes "CONTINUE")) (alone function trees.Continue) (call_behind function))

  abbrev word_first : Grammar Lexeme Tree
  word_first = both (one capital_word) behind_word

  abbrev worded : Grammar Lexeme Tree
  worded = either stet (either continue (call V T))

  into_behind : (v w : List Lexeme) (function : List ℕ) (x : Tree) (b c : Bool) → bytes_eq function (codes "STET") ≡ b → bytes_eq function (codes "CONTINUE") ≡ c → one capital_word v function → choice b (alone function trees.Stet) (choice c (alone function trees.Continue) (call_behind function)) w x → worded (v ++ w) x
  into_behind v w function x true c stets continues h (inl k) = inr (inr (v, w, function, refl, h, k))
  into_behind v w function x true c stets continues h (inr k) = let (line, is) = one_word (codes "STET") v function stets h in inl (v, w, line, refl, is, k)
  into_behind v w function x false true stets continues h (inl k) = inr (inr (v, w, function, refl, h, k))
  into_behind v w function x false true stets continues h (inr k) = let (line, is) = one_word (codes "CONTINUE") v function continues h in inr (inl (v, w, line, refl, is, k))
  into_behind v w function x false false stets continues h k = inr (inr (v, w, function, refl, h, k))

  into_worded : (u : List Lexeme) (x : Tree) → word_first u x → worded u x
  into_worded u x (v, w, function, parts, h, k) = subst (λ l. worded l x) (sym parts) (into_behind v w function x (bytes_eq function (codes "STET")) (bytes_eq function (codes "CONTINUE")) refl refl h k)

  called : (w : List Lexeme) (function : List ℕ) (x : Tree) (b c : Bool) → call_behind function w x → choice b (alone function trees.Stet) (choice c (alone function trees.Continue) (call_behind function)) w x
  called w function x true c k = inl k
  called w function x false true k = inl k
  called w function x false false k = k

  back_worded : (u : List Lexeme) (x : Tree) → worded u x → word_first u x
  back_worded u x (inl (v, w, line, parts, h, k)) = (v, w, codes "STET", parts, one_capital_word (codes "STET") refl v line h, inr k)
  back_worded u x (inr (inl (v, w, line, parts, h, k))) = (v, w, codes "CONTINUE", parts, one_capital_word (codes "CONTINUE") refl v line h, inr k)
  back_worded u x (inr (inr (v, w, function, parts, h, k))) = (v, w, function, parts, h, called w function x (bytes_eq function (codes "STET")) (bytes_eq function (codes "CONTINUE")) k)

  worded_has_kind : (u : List Lexeme) (x : Tree) → worded u x → (t : Lexeme) × (v : List Lexeme) × (u ≡ t ∷ v) × (t.kind ≡ kinds.Word)
  worded_has_kind u x h =
      let (v, w, function, parts, g, k) = back_worded u x h in
      let (t, r, is, kind) = word_kind.at v function g in
      (t, r ++ w, parts ∙ ap (λ l. l ++ w) is, kind)

  worded_kind : HasKind worded kinds.Word
  worded_kind = record { at = worded_has_kind }

  worded_no_sign : (b : List ℕ) → Begins worded (is_sign b) false
  worded_no_sign b = record { at = λ u x h. (let (t, v, is, kind) = worded_has_kind u x h in (t, v, is, ap (λ k. is_sign_kind k && bytes_eq t.piece b) kind)) }

  -- what a primary begins with, by what each of its forms begins with
  primary_tells : (p : Lexeme → Bool) (b : Bool) → Begins number p b → Begins quoted p b → Begins current p b → Begins reference p b → Begins worded p b → Begins (primary V T) p b
  primary_tells p b n q c r w = begins_either n (begins_either q (begins_either c (begins_either r w)))

  -- a primary begins with no sign but `!` and `[`
  pub primary_no_sign : (b : List ℕ) → Begins (one (sign (codes "!"))) (is_sign b) false → Begins (one (sign (codes "["))) (is_sign b) false → Begins (primary V T) (is_sign b) false
  primary_no_sign b exclamation square = primary_tells (is_sign b) false (begins_both (value_no_sign money_is_value b)) (begins_both (value_no_sign text_is_value b)) (begins_both exclamation) (begins_both (begins_both square)) (worded_no_sign b)

pub comma : Begins (one (sign (codes ","))) (goes_on rules_language) false
comma = sign_goes_on rules_language (codes ",")

pub closing : Begins (one (sign (codes ")"))) (goes_on rules_language) false
closing = sign_goes_on rules_language (codes ")")

-- with exact readers of what is inside
module _ {V V' T T' : Grammar Lexeme Tree} {P Q : Plan Tree} (no_value : Begins V' (is_sign (codes ")")) false) (no_truth : Begins T' (is_sign (codes ")")) false) (value : Exact counting V V' P (Not (goes_on rules_language))) (truth : Exact counting T T' Q (Not (goes_on rules_language))) where
  first_exact : (b : Bool) → Exact counting (first_argument b V T) (first_argument b V' T') (if b then Q else P) (Not (goes_on rules_language))
  first_exact true = truth
  first_exact false = value

  first_begins : (b : Bool) → Begins (first_argument b V' T') (is_sign (codes ")")) false
  first_begins true = no_truth
  first_begins false = no_value

  arguments_exact : (function : List ℕ) → Exact counting (perhaps_listed (first_argument (is_if function) V T) V) (perhaps_listed (first_argument (is_if function) V' T') V') (read_arguments P Q function) (Closes (codes ")") (goes_on rules_language))
  unfolding read_arguments read_first_argument
  arguments_exact function = perhaps_listed_exact (codes ")") (goes_on rules_language) comma (first_begins (is_if function)) (first_exact (is_if function)) value

  call_exact : (function : List ℕ) → Exact counting (call_behind V T function) (call_behind V' T' function) (read_call P Q function) Always
  unfolding read_call
  call_exact function = exact_then (exact_sign count (codes "(")) (λ _. exact_both (arguments_exact function) (λ arguments. exact_then (exact_sign count (codes ")")) (λ _. exact_gives counting (trees.Call function arguments)))
      (λ arguments v b rest l _. closed_list (codes ")") (done (trees.Call function arguments)) (goes_on rules_language) closing refl refl v b rest l))

  alone_exact : (function : List ℕ) (tree : Tree) → Exact counting (alone V T function tree) (alone V' T' function tree) (read_alone P Q function tree) (Not (is_sign (codes "(")))
  unfolding read_alone
  alone_exact function tree = exact_option (is_sign (codes "(")) tree (begins_both (sign_begins (codes "(") (codes "("))) (call_exact function)

  word_first_exact : Exact counting (word_first V T) (word_first V' T') (read_worded P Q) (Not (is_sign (codes "(")))
  unfolding read_worded read_behind_word
  word_first_exact = exact_then (exact_capital_word count) (λ function. exact_if (bytes_eq function (codes "STET")) (alone_exact function trees.Stet)
      (exact_if (bytes_eq function (codes "CONTINUE")) (alone_exact function trees.Continue) (exact_before {S' = Not (is_sign (codes "("))} (λ _ _. tt) (call_exact function))))

  worded_exact : Exact counting (worded V T) (worded V' T') (read_worded P Q) (Not (is_sign (codes "(")))
  worded_exact = exact_by (into_worded V T) (back_worded V' T') word_first_exact

  reference_or_worded : Exact counting (either reference (worded V T)) (either reference (worded V' T')) (choose (is_sign (codes "[")) read_reference (read_worded P Q)) (Not (is_sign (codes "(")))
  reference_or_worded = exact_or (is_sign (codes "[")) (begins_both (begins_both (sign_begins (codes "[") (codes "[")))) (worded_no_sign V' T' (codes "[")) (exact_before {S' = Not (is_sign (codes "("))} (λ _ _. tt) reference_exact) worded_exact

  pub primary_exact : Exact counting (primary V T) (primary V' T') (read_primary P Q) (Not (is_sign (codes "(")))
  unfolding read_primary
  primary_exact =
      exact_or is_number (begins_both (kind_begins is_number_kind money_kind)) (begins_either (begins_both (kind_begins is_number_kind text_kind)) (begins_either (begins_both (kind_begins is_number_kind (sign_kind (codes "!")))) (begins_either (begins_both (begins_both (kind_begins is_number_kind (sign_kind (codes "["))))) (kind_begins is_number_kind (worded_kind V' T'))))) (exact_before {S' = Not (is_sign (codes "("))} (λ _ _. tt) number_exact)
      (exact_or is_text (begins_both (kind_begins is_text_kind text_kind)) (begins_either (begins_both (kind_begins is_text_kind (sign_kind (codes "!")))) (begins_either (begins_both (begins_both (kind_begins is_text_kind (sign_kind (codes "["))))) (kind_begins is_text_kind (worded_kind V' T')))) (exact_before {S' = Not (is_sign (codes "("))} (λ _ _. tt) quoted_exact)
      (exact_or (is_sign (codes "!")) (begins_both (sign_begins (codes "!") (codes "!"))) (begins_either (begins_both (begins_both (sign_begins (codes "[") (codes "!")))) (worded_no_sign V' T' (codes "!"))) (exact_before {S' = Not (is_sign (codes "("))} (λ _ _. tt) current_exact)
      reference_or_worded))

-- `1`
pub number_sample : (V T : Grammar Lexeme Tree) → (u : List Lexeme) × (a : Tree) × primary V T u a
number_sample V T = let (u, a, h) = number_exact.word in (u, a, inl h)
