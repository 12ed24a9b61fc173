-- How a dimension is written, token by token.
use Rattle.std.specs.Prelude.{ℕ, suc, ℤ, pos, negsuc, ◌==◌, List, [], ◌∷◌, ◌++◌, codes, decimal, if◌then◌else◌}
use Rattle.std.specs.List.{flat_map}
use Rattle.cube_lex.specs.Positions.{nowhere}
use Rattle.cube_lex.specs.Written.{Spelling, word_token, sign_token, text_token, number_token}
use Rattle.dim_core.specs.Draft.{Draft}
use Rattle.dim_core.specs.Outline.{Element}
use Rattle.dim_core.specs.declared.attribute.NamedAttribute.{NamedAttribute}
use Rattle.dim_text.specs.Statement.{Statement, Head, Leaf, Consolidated, Attribute, End, Close}

abbrev pub whole_token : ℕ → Spelling
whole_token n = number_token (decimal n)

-- a weight of 1 isn't written
abbrev pub weight_spelled : ℤ → List Spelling
weight_spelled (pos n) = if n == 1 then [] else sign_token (codes "*") ∷ whole_token n ∷ []
weight_spelled (negsuc n) = sign_token (codes "*") ∷ sign_token (codes "-") ∷ whole_token (suc n) ∷ []

abbrev pub part_spelled : List ℕ × ℤ → List Spelling
part_spelled part = text_token part.0 ∷ weight_spelled part.1

abbrev pub next_part_spelled : List ℕ × ℤ → List Spelling
next_part_spelled part = sign_token (codes ",") ∷ part_spelled part

abbrev pub parts_spelled : List (List ℕ × ℤ) → List Spelling
parts_spelled [] = []
parts_spelled (first ∷ rest) = sign_token (codes ":") ∷ (part_spelled first ++ flat_map next_part_spelled rest)

abbrev pub spelled : Statement → List Spelling
spelled (Head at shown) = word_token (codes "DIM") ∷ text_token shown ∷ sign_token (codes ";") ∷ []
spelled (Leaf at shown) = word_token (codes "N") ∷ text_token shown ∷ sign_token (codes ";") ∷ []
spelled (Consolidated at shown components) =
    word_token (codes "C") ∷ text_token shown ∷ (parts_spelled components ++ sign_token (codes ";") ∷ [])
spelled (Attribute at shown called value) =
    word_token (codes "A") ∷ text_token shown ∷ text_token called ∷ sign_token (codes "=")
    ∷ text_token value ∷ sign_token (codes ";") ∷ []
spelled (End at) = word_token (codes "END") ∷ []
spelled Close = sign_token (codes ";") ∷ []

-- the statement that defines an element; its place isn't written
abbrev pub defining : List ℕ → List (List ℕ × ℤ) → Statement
defining shown [] = Leaf nowhere shown
defining shown (first ∷ rest) = Consolidated nowhere shown (first ∷ rest)

abbrev pub element_spelled : Element (List ℕ) → List Spelling
element_spelled e = spelled (defining e.name e.components)

abbrev pub attribute_spelled : NamedAttribute → List Spelling
attribute_spelled a = spelled (Attribute nowhere a.element a.name a.text)

-- the elements, the attributes and the end
abbrev pub body_spelled : Draft → List Spelling
body_spelled draft =
    flat_map element_spelled draft.elements
    ++ (flat_map attribute_spelled draft.attributes ++ (spelled (End nowhere) ++ spelled Close))

abbrev pub head_spelled : List ℕ → List Spelling
head_spelled shown = spelled (Head nowhere shown)

abbrev pub draft_spelled : Draft → List Spelling
draft_spelled draft = head_spelled draft.name ++ body_spelled draft
