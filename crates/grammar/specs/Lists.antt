-- Lists with commas, and an optional sign.
use Rattle.std.specs.Prelude.{ℕ, Bool, true, false, List, [], ◌∷◌, ◌++◌, Result, codes}
use Rattle.cube_lex.specs.Lexeme.{Lexeme}
use Rattle.grammar.specs.Grammar.{Grammar, one, done, either, many, ◌>>=◌, ◌>>◌}
use Rattle.grammar.specs.Reading.{Reader, gives, take_one, choose, all_of, both_of}
use Rattle.grammar.specs.Tokens.{sign, is_sign, name}

-- `, item`
abbrev pub next : {A : Type 0} → Grammar Lexeme A → Grammar Lexeme A
next item = do
  one (sign (codes ","))
  item

-- `first { , item }`
abbrev pub listed : {A : Type 0} → Grammar Lexeme A → Grammar Lexeme A → Grammar Lexeme (List A)
listed first item = do
  head ← first
  rest ← many (next item)
  done (head ∷ rest)

-- `[ first { , item } ]`
abbrev pub perhaps_listed : {A : Type 0} → Grammar Lexeme A → Grammar Lexeme A → Grammar Lexeme (List A)
perhaps_listed first item = either (listed first item) (done [])

-- `name { , name }`
abbrev pub names : Grammar Lexeme (List (List ℕ))
names = listed (one name) (one name)

-- `[ - ]`
abbrev pub minus : Grammar Lexeme Bool
minus = either (do one (sign (codes "-")); done true) (done false)

-- the readers of these

unfoldable pub read_minus : {R C : Type 0} → (R → Lexeme → Result R C) → Reader Lexeme R C Bool
read_minus scan =
    choose (is_sign (codes "-")) (both_of (take_one scan (sign (codes "-"))) (λ _. gives true)) (gives false)

unfoldable pub read_next : {R C A : Type 0} → (R → Lexeme → Result R C) → Reader Lexeme R C A → Reader Lexeme R C A
read_next scan item = both_of (take_one scan (sign (codes ","))) (λ _. item)

-- the items behind the first
unfoldable pub read_further : {R C A : Type 0} → (R → Lexeme → Result R C) → Reader Lexeme R C A → A
    → Reader Lexeme R C (List A)
read_further scan item first =
    both_of (all_of (is_sign (codes ",")) (read_next scan item)) (λ rest. gives (first ∷ rest))

unfoldable pub read_listed : {R C A : Type 0} → (R → Lexeme → Result R C) → Reader Lexeme R C A
    → Reader Lexeme R C (List A)
read_listed scan item = both_of item (read_further scan item)

-- what was read before, with what is read behind it
abbrev pub read_behind : {T R C A : Type 0} → List A → Reader T R C (List A) → Reader T R C (List A)
read_behind before P = both_of P (λ rest. gives (before ++ rest))

unfoldable pub read_names : {R C : Type 0} → (R → Lexeme → Result R C) → Reader Lexeme R C (List (List ℕ))
read_names scan = read_listed scan (take_one scan name)
