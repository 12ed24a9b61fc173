-- What the statements of a block build, one after the other, and what is refused.
use Rattle.std.specs.Prelude.{ℕ, ◌-◌, List, [], ◌∷◌, ◌++◌, ℤ, Option, Some, None, Result, Ok, Err, slice_index_or}
use Rattle.dim_core.specs.declared.fault.DimFault.{DimFault}
use Rattle.dim_core.specs.declared.fault.DimFault.TheVariants as faults
use Rattle.dim_core.specs.Draft.{empty_draft, with_element, with_attribute}
use Rattle.dim_core.specs.Refusal.{refusal_of, finish_refusal_of}
use Rattle.cube_lex.specs.Lexeme.{Lexeme}
use Rattle.cube_lex.specs.Positions.{nowhere}
use Rattle.cube_lex.specs.declared.position.Position.{Position}
use Rattle.grammar.specs.Watch.{Watch, each_text}
use Rattle.dim_text.specs.declared.fault.Refusal.{Refusal}
use Rattle.dim_text.specs.Progress.{Progress}
use Rattle.dim_text.specs.Statement.{Statement, Head, Leaf, Consolidated, Attribute, End, Close, statement}

-- behind the head at this place
abbrev pub opened : Position → List ℕ → Progress
opened at shown = record { head = at; draft = empty_draft shown; positions = []; attribute_positions = [] }

-- before the head
abbrev pub nothing : Progress
nothing = opened nowhere []

-- the place of the statement that a fault of the whole dimension names, among the places of the elements and of the
-- attributes
abbrev pub place_of : List Position → List Position → DimFault → Position
place_of positions attribute_positions (faults.UnknownComponent element) = slice_index_or positions element nowhere
place_of positions attribute_positions (faults.BadAttribute at) = slice_index_or attribute_positions (at - 1) nowhere
place_of positions attribute_positions (faults.Loop element) = slice_index_or positions element nowhere
place_of positions attribute_positions _ = nowhere

abbrev pub element_added : Progress → Position → List ℕ → List (List ℕ × ℤ) → Option DimFault → Result Progress Refusal
element_added p at shown components None =
    Ok (record p { draft = with_element p.draft shown components; positions = p.positions ++ at ∷ [] })
element_added p at shown components (Some fault) = Err (record { at = at; fault = fault })

abbrev pub finished : Progress → Option DimFault → Result Progress Refusal
finished p None = Ok p
finished p (Some fault) = Err (record { at = place_of p.positions p.attribute_positions fault; fault = fault })

-- one more statement: what it adds, or why it's refused and at which place
abbrev pub add : Progress → Statement → Result Progress Refusal
add p (Head at shown) = Ok (opened at shown)
add p (Leaf at shown) = element_added p at shown [] (refusal_of p.draft shown [])
add p (Consolidated at shown components) =
    element_added p at shown components (refusal_of p.draft shown components)
add p (Attribute at shown called value) = Ok (record p {
  draft = with_attribute p.draft shown called value;
  attribute_positions = p.attribute_positions ++ at ∷ [];
})
add p (End at) = finished p (finish_refusal_of p.draft)
add p Close = Ok p

-- a block is watched statement by statement
abbrev pub building : Watch Lexeme Progress Refusal
building = each_text statement add
