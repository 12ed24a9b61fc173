-- From what the reader of a block gives to what is answered.
use Rattle.std.proofs.Common.{◌≡◌, ◌≤◌, ℕ, ◌-◌, ◌+◌, List, ◌∷◌, ◌++◌, length, drop, Ok, Err, codes, true, sym, ◌∙◌, ap, subst, arith, length-append, length-drop}
use Rattle.cube_lex.specs.Lexeme.{Lexeme}
use Rattle.cube_lex.specs.Positions.{position_of}
use Rattle.cube_lex.specs.declared.position.Position.{Position}
use Rattle.grammar.specs.Fault.{place_at, IsSyntax, IsRefused}
use Rattle.grammar.specs.Reading.{Unexpected, Refused}
use Rattle.grammar.specs.Tokens.{is_word}
use Rattle.grammar.specs.declared.stop.Stop.{Stop}
use Rattle.grammar.specs.declared.stop.Stop.TheVariants as stops
use Rattle.grammar.proofs.Begins.{Begins, begins_both}
use Rattle.grammar.proofs.Tokens.{word_begins}
use Rattle.grammar.proofs.Top.{read_told, stuck_told, refused_told}
use Rattle.grammar.proofs.Exact.{Agrees}
use Rattle.dim_text.specs.Answers.{IsBlock, BeginsNoBlock, IsFault}
use Rattle.dim_text.specs.Building.{building, nothing}
use Rattle.dim_text.specs.Progress.{Progress, Text, IsBuilt}
use Rattle.dim_text.specs.Readers.Reading.{read_block}
use Rattle.dim_text.specs.Statement.{dimension}
use Rattle.dim_text.specs.Readers.Views.{GivesText, Explains}
use Rattle.dim_text.specs.declared.fault.DimTextFault.{DimTextFault}
use Rattle.dim_text.specs.declared.fault.Refusal.{Refusal}
use Rattle.dim_text.proofs.BlockExact.{block_exact}

dimension_begins : Begins dimension (is_word (codes "DIM")) true
dimension_begins = begins_both (begins_both (begins_both (word_begins (codes "DIM") (codes "DIM"))))

-- how many tokens the block has
places : (all block left : List Lexeme) (from : ℕ) (t : Lexeme) (v : List Lexeme) → drop from all ≡ block ++ left → block ≡ t ∷ v → (length left ≤ length all) × (length all - length left ≡ from + length block)
places all block left from t v parts some =
    let whole : length (drop from all) ≡ length block + length left = ap length parts ∙ length-append block left in
    let size : length (drop from all) ≡ length all - from = length-drop from all in
    let one : length block ≡ length (t ∷ v) = ap length some in
    (omega (arith, whole, size, one), omega (arith, whole, size, one))

pub block_told : (all : List Lexeme) (from : ℕ) (text : Text) (left : List Lexeme) (p : Progress) → read_block nothing (drop from all) ≡ Ok (tt, p, left) → IsBuilt text p → (length left ≤ length all) × IsBlock (drop from all) from text (length all - length left)
block_told all from text left p read built =
    let (block, parts, is) = read_told block_exact nothing (drop from all) tt p left read in
    let (t, v, some, _) = dimension_begins.at block tt is.text in
    let (fewer, place) = places all block left from t v parts some in
    (fewer, record { block = block; rest = left; parts = parts; next_is = place; built = p; text_of = is; is_built = built })

-- the same for a reader that was given these tokens
pub block_at_told : (all : List Lexeme) (from : ℕ) (given left : List Lexeme) (text : Text) → given ≡ drop from all → GivesText (Ok text) left (read_block nothing given) → (length left ≤ length all) × IsBlock (drop from all) from text (length all - length left)
block_at_told all from given left text same (p, read, built) = block_told all from text left p (subst (λ ts. read_block nothing ts ≡ Ok (tt, p, left)) same read) built

-- tokens that begin with a block aren't stuck
no_block : (ts : List Lexeme) (n : ℕ) → read_block nothing ts ≡ Err (Unexpected n) → BeginsNoBlock ts
unfolding Agrees
no_block ts n stuck block rest parts is =
    let agreed : Agrees {R = Progress} {C = Refusal} tt rest (read_block nothing (block ++ rest)) = block_exact.complete nothing block tt rest is tt in
    subst (Agrees {R = Progress} {C = Refusal} tt rest) (ap (read_block nothing) (sym parts) ∙ stuck) agreed

pub fault_told : (ts : List Lexeme) (given left : List Lexeme) (end : Position) (stop : Stop Refusal) (fault : DimTextFault) → given ≡ ts → GivesText (Err stop) left (read_block nothing given) → Explains given end stop fault → IsFault ts end fault.at fault.cause
fault_told ts given left end stops.Memory fault same read told = subst (IsFault ts end fault.at) (sym told.1) told.0
fault_told ts given left end (stops.Unexpected n) fault same read told =
    let stuck : read_block nothing ts ≡ Err (Unexpected n) = subst (λ x. read_block nothing x ≡ Err (Unexpected n)) same read in
    let is : IsSyntax position_of dimension building nothing ts end (place_at position_of end (drop (length ts - n) ts)) = stuck_told block_exact tt position_of end nothing ts n stuck in
    let place : fault.at ≡ place_at position_of end (drop (length ts - n) ts) = told.0 ∙ ap (λ x. place_at position_of end (drop (length x - n) x)) same in
    subst (IsFault ts end fault.at) (sym told.1) (no_block ts n stuck, subst (IsSyntax position_of dimension building nothing ts end) (sym place) is)
fault_told ts given left end (stops.Refused refusal) fault same read told =
    let is : IsRefused dimension building nothing ts refusal = refused_told block_exact nothing ts refusal (subst (λ x. read_block nothing x ≡ Err (Refused refusal)) same read) in
    let place : refusal ≡ record { at = fault.at; fault = refusal.fault } = ap (λ n. record { at = n; fault = refusal.fault }) (sym told.0) in
    subst (IsFault ts end fault.at) (sym told.1) (subst (IsRefused dimension building nothing ts) place is)
