-- Lines, written field by field.
use Rattle.std.proofs.Common.{◌≡◌, ◌∙◌, ◌++◌, ◌∷◌, ℕ, List, Result, Ok, Err, OnOk, is_ok, if◌then◌else◌, sym, ap}
use Rattle.std.proofs.lemmas.List.{append_assoc}
use Rattle.std.proofs.lemmas.Result.{on_ok_weaker}
use Rattle.cube_space.specs.Layout.{Layout}
use Rattle.cell_trace.specs.declared.line.Line.{Line}
use Rattle.trace_text.specs.TraceText.{fields_of, joined}

-- what a call leaves that succeeds
pub where_ok : {X T E : Type 0} (r : Result T E) (new a b : X) → new ≡ (if is_ok r then a else b) → OnOk r (new ≡ a)
where_ok (Ok x) new a b is = is
where_ok (Err e) new a b is = tt

-- what was written in four pieces
pub four_pieces : (old one two three new a b d e : List ℕ) → one ≡ old ++ a → two ≡ one ++ b → three ≡ two ++ d → new ≡ three ++ e → new ≡ old ++ (a ++ (b ++ (d ++ e)))
four_pieces old one two three new a b d e first second third fourth =
    fourth ∙ ap (λ l. l ++ e) (third ∙ ap (λ l. l ++ d) (second ∙ ap (λ l. l ++ b) first)) ∙ simp append_assoc

-- a line of this form was written, in whatever trace it stands
pub own_line : {T E : Type 0} (r : Result T E) (space : Layout) (files : List (List ℕ)) (cell : ℕ) (line form : Line) (old new : List ℕ) → line ≡ form
    → OnOk r ((files : List (List ℕ)) (cell : ℕ) → new ≡ old ++ 10 ∷ joined (fields_of space files cell form)) → OnOk r (new ≡ old ++ 10 ∷ joined (fields_of space files cell line))
own_line r space files cell line form old new is = on_ok_weaker r (λ h. h files cell ∙ ap (λ l. old ++ 10 ∷ joined (fields_of space files cell l)) (sym is))
