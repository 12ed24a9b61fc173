-- A block that is read part by part.
use Rattle.std.proofs.Common.{◌≡◌, ℕ, List, Ok, Err, Result, refl, sym, ap, ◌∙◌, subst}
use Rattle.cube_lex.specs.Lexeme.{Lexeme}
use Rattle.cube_lex.specs.declared.position.Position.{Position}
use Rattle.grammar.specs.Reading.{bound, both_of, gives, Read}
use Rattle.grammar.specs.declared.cursor.Unwatched.{Unwatched}
use Rattle.grammar.specs.declared.stop.Stop.{Stop}
use Rattle.grammar.specs.declared.stop.Stop.TheVariants as stops
use Rattle.dim_text.specs.Building.{add, opened, nothing}
use Rattle.dim_text.specs.Progress.{Progress, Text}
use Rattle.dim_text.specs.Readers.Reading.{read_head, read_opening, read_elements, read_ending, read_closing, read_body, read_block}
use Rattle.dim_text.specs.Statement.{Head}
use Rattle.dim_text.specs.Readers.Views.{GivesEnd, GivesText}
use Rattle.dim_text.specs.declared.fault.Refusal.{Refusal}
use Rattle.grammar.proofs.Checked.{checked_ok}

gives_text : (result : Result Text (Stop Refusal)) (p : Progress) (left : List Lexeme) (read : Read Lexeme Progress Refusal (Unit {0})) → GivesEnd result p left read → GivesText result left read
gives_text (Ok text) p left read h = (p, h.0, h.1)
gives_text (Err stops.Memory) p left read h = tt
gives_text (Err (stops.Unexpected n)) p left read h = h
gives_text (Err (stops.Refused cause)) p left read h = h

-- the elements, `END` and the last `;`
pub body_parts : (result : Result Text (Stop Refusal)) (start partial : Progress) (ts mid last left : List Lexeme) → read_elements start ts ≡ Ok (tt, partial, mid) → read_ending partial mid ≡ Ok (tt, partial, last)
    → GivesEnd result partial left (read_closing partial last) → GivesText result left (read_body start ts)
unfolding read_body
body_parts result start partial ts mid last left elements ending closing =
    let chain : read_body start ts ≡ read_closing partial last = ap (λ r. bound r (λ _. both_of read_ending (λ _. read_closing))) elements ∙ ap (λ r. bound r (λ _. read_closing)) ending in
    subst (GivesText result left) (sym chain) (gives_text result partial left (read_closing partial last) closing)

-- the head, and what stands behind it
pub block_parts : (result : Result Text (Stop Refusal)) (at : Position) (shown : List ℕ) (state : Unwatched) (ts mid left : List Lexeme) → read_head (record {}) ts ≡ Ok (Head at shown, state, mid)
    → GivesText result left (read_body (opened at shown) mid) → GivesText result left (read_block nothing ts)
unfolding read_block read_opening
block_parts result at shown state ts mid left head body =
    let opening : read_opening nothing ts ≡ Ok (tt, opened at shown, mid) = ap (λ r. bound r (λ _. gives tt)) (checked_ok {U = Unwatched} (record {}) add read_head nothing head refl) in
    let chain : read_block nothing ts ≡ read_body (opened at shown) mid = ap (λ r. bound r (λ _. read_body)) opening in
    subst (GivesText result left) (sym chain) body
