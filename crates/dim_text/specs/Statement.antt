-- The block of a dimension in a model file.
use Rattle.std.specs.Prelude.{ℕ, ℤ, pos, neg_ℤ, List, [], ◌∷◌, Bool, true, false, codes}
use Rattle.cube_lex.specs.Lexeme.{Lexeme}
use Rattle.cube_lex.specs.declared.position.Position.{Position}
use Rattle.grammar.specs.Grammar.{Grammar, done, one, either, many, ◌>>=◌, ◌>>◌}
use Rattle.grammar.specs.Lists.{minus, listed}
use Rattle.grammar.specs.Tokens.{sign, word, whole, name, text}

-- a statement, with the place of its first word
pub data Statement : Type 0 where
  -- the head, with the dimension's name
  Head : Position → List ℕ → Statement
  Leaf : Position → List ℕ → Statement
  -- with its components and their weights
  Consolidated : Position → List ℕ → List (List ℕ × ℤ) → Statement
  -- of an element, with the attribute's name and its text
  Attribute : Position → List ℕ → List ℕ → List ℕ → Statement
  End : Position → Statement
  -- the last `;`
  Close : Statement

abbrev pub signed : Bool → ℕ → ℤ
signed true n = neg_ℤ (pos n)
signed false n = pos n

-- "DIM" name ";"
abbrev pub head : Grammar Lexeme Statement
head = do
  at ← one (word (codes "DIM"))
  shown ← one name
  one (sign (codes ";"))
  done (Head at shown)

-- [ "*" [ "-" ] whole ]
abbrev pub weight : Grammar Lexeme ℤ
weight = either (do one (sign (codes "*")); negative ← minus; n ← one whole; done (signed negative n)) (done (pos 1))

-- name [ "*" [ "-" ] whole ]
abbrev pub part : Grammar Lexeme (List ℕ × ℤ)
part = do
  shown ← one name
  n ← weight
  done (shown, n)

-- [ ":" part { "," part } ]
abbrev pub parts : Grammar Lexeme (List (List ℕ × ℤ))
parts = either
    (do
      one (sign (codes ":"))
      listed part part)
    (done [])

-- "N" name ";"
abbrev pub leaf : Grammar Lexeme Statement
leaf = do
  at ← one (word (codes "N"))
  shown ← one name
  one (sign (codes ";"))
  done (Leaf at shown)

-- "C" name [ ":" part { "," part } ] ";"
abbrev pub consolidated : Grammar Lexeme Statement
consolidated = do
  at ← one (word (codes "C"))
  shown ← one name
  components ← parts
  one (sign (codes ";"))
  done (Consolidated at shown components)

-- "A" name name "=" Text ";"
abbrev pub attribute : Grammar Lexeme Statement
attribute = do
  at ← one (word (codes "A"))
  shown ← one name
  called ← one name
  one (sign (codes "="))
  value ← one text
  one (sign (codes ";"))
  done (Attribute at shown called value)

abbrev pub element : Grammar Lexeme Statement
element = either leaf (either consolidated attribute)

-- a text of G, whose tree isn't kept
abbrev pub unit : {A : Type 0} → Grammar Lexeme A → Grammar Lexeme (Unit {0})
unit G = do
  G
  done tt

abbrev pub ending : Grammar Lexeme Statement
ending = do
  at ← one (word (codes "END"))
  done (End at)

abbrev pub closing : Grammar Lexeme Statement
closing = do
  one (sign (codes ";"))
  done Close

-- { element } "END" ";"
abbrev pub body : Grammar Lexeme (Unit {0})
body = do
  unit (many element)
  unit ending
  unit closing

-- "DIM" name ";" { element } "END" ";"
abbrev pub dimension : Grammar Lexeme (Unit {0})
dimension = do
  unit head
  body

-- the pieces by which a block is built
abbrev pub statement : Grammar Lexeme Statement
statement = either head (either element (either ending closing))
