-- A block is read in one way only.
use Rattle.std.proofs.Common.{◌≡◌, ℕ, List, [], ◌∷◌, ◌++◌, length, Result, Ok, Err, refl, sym, ap, ◌∙◌, subst, append_assoc, append-nil, arith}
use Rattle.cube_lex.specs.Lexeme.{Lexeme}
use Rattle.cube_lex.specs.declared.position.Position.{Position}
use Rattle.dim_core.specs.Draft.{IsFinished}
use Rattle.dim_core.specs.Outline.{Outline}
use Rattle.grammar.specs.Watch.{Passes}
use Rattle.grammar.proofs.Cuts.{passes_once, passes_not_refused}
use Rattle.dim_text.specs.Answers.{Answers, IsBlock, IsFault}
use Rattle.dim_text.specs.Building.{building, nothing}
use Rattle.dim_text.specs.Printed.{IsReadAs}
use Rattle.dim_text.specs.Progress.{Text}
use Rattle.dim_text.specs.Statement.{dimension}
use Rattle.dim_text.specs.declared.fault.DimTextCause.{DimTextCause}
use Rattle.dim_text.specs.declared.fault.DimTextCause.TheVariants as causes
use Rattle.dim_text.specs.declared.fault.DimTextFault.{DimTextFault}
use Rattle.dim_text.proofs.Builds.{Builds}
use Rattle.dim_text.proofs.OneReading.{building_cuts, dimension_ends_itself}

-- a block that stands at the beginning of a block is the whole of it
whole_block : (ts block rest : List Lexeme) → dimension ts tt → dimension block tt → ts ≡ block ++ rest → rest ≡ []
whole_block ts block rest text begun parts = let (none, _) = dimension_ends_itself.at block rest tt tt begun (subst (λ x. dimension x tt) parts text) in none

read_as : (d : Outline) (ts : List Lexeme) → Builds dimension nothing d ts → (text : Text) (next : ℕ) → IsBlock ts 0 text next → (text.dimension ≡ d) × (next ≡ length ts)
read_as d ts builds text next is =
    let none : is.rest ≡ [] = whole_block ts is.block is.rest builds.text.text is.text_of.text is.parts in
    let whole : ts ≡ is.block = is.parts ∙ ap (λ x. is.block ++ x) none ∙ append-nil is.block in
    let same : builds.built ≡ is.built = passes_once building building_cuts nothing builds.built is.built is.block (subst (λ x. Passes building nothing x builds.built) whole builds.text.passes) is.text_of.passes in
    (builds.only text.dimension (subst (λ p. IsFinished p.draft text.dimension) (sym same) is.is_built.dimension), omega (arith, is.next_is, ap length whole))

no_fault : (d : Outline) (ts : List Lexeme) → Builds dimension nothing d ts → (end at : Position) (cause : DimTextCause) → IsFault ts end at cause → cause ≡ causes.Memory
no_fault d ts builds end at causes.Syntax is = absurd (is.0 ts [] (sym (append-nil ts)) builds.text.text)
no_fault d ts builds end at (causes.Dim fault) is =
    absurd (passes_not_refused building building_cuts nothing builds.built _ ts (is.before ++ is.last ∷ []) is.rest builds.text.passes is.refused (is.parts ∙ sym (append_assoc is.before (is.last ∷ []) is.rest)))
no_fault d ts builds end at causes.Memory is = refl

-- whatever is answered of tokens that build a dimension, it is the dimension
pub answer_is : (d : Outline) (ts : List Lexeme) → Builds dimension nothing d ts → (end : Position) (answer : Result (Text × ℕ) DimTextFault) → Answers ts end 0 answer → IsReadAs d (length ts) answer
answer_is d ts builds end (Ok x) is = read_as d ts builds x.0 x.1 is
answer_is d ts builds end (Err fault) is = no_fault d ts builds end fault.at fault.cause is
