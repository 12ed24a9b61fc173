-- The parts of a model text, as they are written one by one.
use Rattle.std.proofs.Common.{◌+◌, ◌<◌, ℕ, List, ◌++◌, length, take, get_or, Result, Ok, Err, OnOk, sym, subst}
use Rattle.std.proofs.lemmas.List.{take_more}
use Rattle.std.proofs.lemmas.List.Elements.{All-push}
use Rattle.std.specs.List.{All, flat_map}
use Rattle.cube_lex.proofs.Spaced.{writes-both}
use Rattle.cube_lex.specs.Written.{Spelling, Writes}
use Rattle.dim_text.specs.Progress.{Text}
use Rattle.model_text.specs.Contents.{Contents, dimension_names}
use Rattle.model_text.specs.Readers.Views.{IsValid}
use Rattle.model_text.specs.Spelled.{dim_spelled, opening_spelled, cube_spelled, script_spelled, contents_spelled}

-- one more dimension
pub valid_more : (dims : List Text) (i : ℕ) (d : Text) → i < length dims → All IsValid (take i dims) → IsValid (get_or dims i d) → All IsValid (take (i + 1) dims)
valid_more dims i d within all is = subst (All IsValid) (sym (take_more dims i d within)) (All-push IsValid (take i dims) (get_or dims i d) all is)

-- the whole text, part by part
pub model_written : {T E : Type 0} (r : Result T E) (contents : Contents) (old opened built cubed new : List ℕ) → Writes old opened (opening_spelled contents.version)
    → All IsValid contents.dims × Writes opened built (flat_map dim_spelled contents.dims)
    → Writes built cubed (flat_map (cube_spelled (dimension_names contents.dims)) contents.cubes) → OnOk r (Writes cubed new (flat_map script_spelled contents.scripts))
    → OnOk r (All IsValid contents.dims × Writes old new (contents_spelled contents))
model_written (Ok x) contents old opened built cubed new opening (valid, dims) cubes scripts =
    let dims_tokens : List Spelling = flat_map dim_spelled contents.dims in
    let cubes_tokens : List Spelling = flat_map (cube_spelled (dimension_names contents.dims)) contents.cubes in
    let scripts_tokens : List Spelling = flat_map script_spelled contents.scripts in (
      valid,
      writes-both old opened new (opening_spelled contents.version) (dims_tokens ++ (cubes_tokens ++ scripts_tokens)) opening
          (writes-both opened built new dims_tokens (cubes_tokens ++ scripts_tokens) dims (writes-both built cubed new cubes_tokens scripts_tokens cubes scripts)),
    )
model_written (Err e) contents old opened built cubed new opening dims cubes scripts = tt
