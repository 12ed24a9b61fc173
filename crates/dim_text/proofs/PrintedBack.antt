-- What is printed of a dimension is read as the dimension.
use Rattle.std.proofs.Common.{◌≡◌, ℕ, List, [], ◌∷◌, ◌++◌, Result, Ok, Err, is_ok, OnOk, if◌then◌else◌, sym, ap, ◌∙◌, subst, inl}
use Rattle.std.proofs.lemmas.List.{append_cancel_left}
use Rattle.cube_lex.proofs.WrittenTexts.{written-reading}
use Rattle.cube_lex.specs.Positions.{nowhere}
use Rattle.cube_lex.specs.Written.{IsWritten, Writes}
use Rattle.dim_core.proofs.OwnDefinitions.{written_is}
use Rattle.dim_core.specs.Draft.{IsFinished}
use Rattle.dim_core.specs.Outline.{Outline, IsDimension}
use Rattle.dim_core.specs.Written.{written}
use Rattle.grammar.specs.Watch.{Passes}
use Rattle.grammar.proofs.Exact.{passes-append, passes_one}
use Rattle.dim_text.specs.Building.{add, building, nothing, opened}
use Rattle.dim_text.specs.Printed.{IsTextOf, IsPrinted}
use Rattle.dim_text.proofs.Builds.{Builds, IsBlockOf, IsBodyOf}
use Rattle.dim_text.specs.Spelled.{head_spelled, body_spelled, draft_spelled}
use Rattle.dim_text.specs.Statement.{body}
use Rattle.dim_text.proofs.OneBlock.{answer_is}
use Rattle.dim_text.proofs.Rebuilt.{body_again, unit_of, dimension_again}
use Rattle.dim_text.proofs.SpelledStatements.{head_spells}
use Rattle.grammar.proofs.Spells.{split_at}

-- tokens that build the definitions of a dimension build the dimension
pub body_of : (d : Outline) → IsDimension d → IsBodyOf d (body_spelled (written d))
body_of d is at ts e =
    let again = body_again d is at ts e in
    record {
      built = again.built;
      text = record { text = again.text; passes = again.passes };
      finished = subst (λ draft. IsFinished draft d) (sym again.draft) (dimension_again d is);
      only = λ other h. written_is d other is (subst (λ draft. IsFinished draft other) again.draft h);
    }

pub block_of : (d : Outline) → IsDimension d → IsBlockOf d (draft_spelled (written d))
block_of d is ts e =
    let (u, v, parts, front, back) = split_at ts (head_spelled d.name) (body_spelled (written d)) e in
    let (x, h, (at, same)) = (head_spells nowhere d.name is.is_named).at u front in
    let rest : Builds body (opened at d.name) d v = body_of d is at v back in
    let added : add nothing x ≡ Ok (opened at d.name) = ap (add nothing) same in
    record {
      built = rest.built;
      text = record {
        text = (u, v, tt, parts, unit_of u x h, rest.text.text);
        passes = subst (λ w. Passes building nothing w rest.built) (sym parts)
            (passes-append building nothing (opened at d.name) rest.built u v (passes_one building nothing (opened at d.name) u (x, inl h, added)) rest.text.passes);
      };
      finished = rest.finished;
      only = rest.only;
    }

text_of : (d : Outline) → IsDimension d → (bytes : List ℕ) → IsWritten (draft_spelled (written d)) bytes → IsTextOf d bytes
text_of d is bytes written_so small =
    let (lexed, reading, same) = written-reading (draft_spelled (written d)) bytes written_so small in
    (lexed, reading, λ answer answers. answer_is d lexed.lexemes (block_of d is lexed.lexemes same) lexed.end answer answers)

-- what a call that appends the written tokens has printed
pub printed_told : {T E : Type 0} (r : Result T E) (d : Outline) → IsDimension d → (old new block : List ℕ) → Writes [] block (draft_spelled (written d))
    → new ≡ (if is_ok r then old ++ block else old) → OnOk r (IsPrinted d old new)
printed_told (Ok x) d is old new block (bytes, block_is, written_so, short) e =
    let behind : new ≡ old ++ bytes = e ∙ ap (λ b. old ++ b) block_is in
    record {
      tokens = (bytes, behind, written_so, short);
      reads = λ more also. subst (IsTextOf d) (append_cancel_left old bytes more (sym behind ∙ also)) (text_of d is bytes written_so);
    }
printed_told (Err fault) d is old new block adds e = tt
