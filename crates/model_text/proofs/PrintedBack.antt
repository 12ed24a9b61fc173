-- What is written of a model text is read as a text with equal contents, but for places.
use Rattle.std.proofs.Common.{◌≡◌, ◌<◌, ◌^◌, ℕ, Bool, true, false, List, [], ◌∷◌, ◌++◌, length, map, codes, Result, Ok, Err, is_ok, OnOk, if◌then◌else◌, refl, sym, ap, ◌∙◌, subst, inl, append-nil, arith, IsTrue}
use Rattle.std.proofs.lemmas.List.{length-map}
use Rattle.std.proofs.lemmas.List.Elements.{All-map, All-weaker}
use Rattle.std.specs.List.{All, AllZip, flat_map}
use Rattle.std.proofs.lemmas.List.{append_cancel_left}
use Rattle.cube_lex.proofs.WrittenTexts.{written-reading}
use Rattle.cube_lex.specs.Lexeme.{Lexeme}
use Rattle.cube_lex.specs.Written.{Spelling, spelling_of, IsWritten, Writes}
use Rattle.dim_name.specs.Name.{is_name}
use Rattle.grammar.specs.Grammar.{many}
use Rattle.grammar.specs.Watch.{Passes}
use Rattle.grammar.specs.Whole.{IsWholeText}
use Rattle.grammar.proofs.Exact.{passes-append, passes_one}
use Rattle.grammar.proofs.Spells.{split_at}
use Rattle.dim_text.specs.Statement.{unit}
use Rattle.dim_text.specs.Progress.{IsBuilt}
use Rattle.cube_lex.specs.Written.{word_token, sign_token}
use Rattle.cube_lex.specs.declared.position.Position.{Position}
use Rattle.dim_text.specs.Spelled.{whole_token}
use Rattle.model_text.specs.Answers.{IsModelText}
use Rattle.model_text.specs.Contents.{Contents, IsContents, is_version, AreDimensions, dimension_names}
use Rattle.model_text.specs.Gathering.{Nothing, Given, at, refused, gathered}
use Rattle.model_text.specs.Printed.{IsSameCube, IsSameScript, AreSameContents, IsTextOf, IsPrinted}
use Rattle.model_text.specs.Spelled.{dim_spelled, opening_spelled, cube_spelled, script_spelled, contents_spelled}
use Rattle.model_text.specs.Readers.Views.{IsValid}
use Rattle.model_text.specs.Statement.{Piece, Version, Closing, number_of, version_number, closing, opening, dimension, model}
use Rattle.model_text.specs.Statement as statement
use Rattle.model_text.specs.Watching.{Seen, no_parts, nothing_seen, added, watching}
use Rattle.model_text.specs.declared.fault.ModelTextFault.{ModelTextFault}
use Rattle.model_text.specs.declared.fault.ModelTextCause.TheVariants as causes
use Rattle.model_text.specs.declared.parts.CubeText.{CubeText}
use Rattle.model_text.specs.declared.parts.ScriptText.{ScriptText}
use Rattle.model_text.proofs.Going.{Goes, goes_behind, goes_both, goes_unit, goes_as}
use Rattle.model_text.proofs.Again.{outside_of, into_closing, Dims, dims_seen, block_name, AreDims, dims_go, cubes_seen, cubes_go, scripts_seen, scripts_go}
use Rattle.model_text.proofs.SpelledPieces.{IsPlaced, version_spells, closing_spells}

-- the versions are small numbers
small_version : (n : ℕ) → IsTrue (is_version n) → n < 2 ^ 31
small_version n known = grind (arith, known)

abbrev no_dims : Dims
no_dims = record { blocks = []; names = []; texts = [] }

abbrev in_version : ℕ → Seen
in_version version = dims_seen version no_dims

version_passes : (version : ℕ) → IsTrue (is_version version) → (u : List Lexeme) (x : Piece) → statement.version u x → IsPlaced (λ place. Version place version) x → Passes watching nothing_seen u (in_version version)
version_passes version known u x h (place, same) = passes_one watching nothing_seen (in_version version) u (inl (x, inl h, ap (added nothing_seen) (ap (gathered (at no_parts Nothing)) same ∙ taken (is_version version) version place known))) where
  taken : (known : Bool) (n : ℕ) (place : Position) → known ≡ true → ◌≡◌ {A = Result Given ModelTextFault} (if known then Ok (at (record no_parts { version = n }) Nothing) else refused place causes.WrongVersion) (Ok (at (record { version = n; names = []; cubes = []; scripts = [] }) Nothing))
  taken true n place e = refl
  taken false n place e = cc

closing_passes : (version : ℕ) (v : List Lexeme) (y : Piece) → closing v y → y ≡ Closing → Passes watching (in_version version) v (in_version version)
closing_passes version v y h same = passes_one watching (in_version version) (in_version version) v (inl (y, into_closing v y h, ap (added (in_version version)) (ap (gathered (in_version version).given) same)))

-- the first statement, whose number is the version
opening_goes : (version : ℕ) → IsTrue (is_version version) → (ts : List Lexeme) → map spelling_of ts ≡ opening_spelled version → opening ts version × Passes watching nothing_seen ts (in_version version)
opening_goes version known ts is =
    let (u, v, parts, front, back) = split_at ts (word_token (codes "MODEL") ∷ whole_token version ∷ []) (sign_token (codes ";") ∷ []) is in
    let (x, h, first) = (version_spells version (small_version version known)).at u front in
    let (y, k, second) = closing_spells.at v back in
    let numbered : version_number u version = (u, [], x, sym (append-nil u), h, (refl, sym (ap number_of first.1))) in
    let closed : unit closing v tt = (v, [], y, sym (append-nil v), k, (refl, refl)) in (
      (u, v, version, parts, numbered, (v, [], tt, sym (append-nil v), closed, (refl, refl))),
      subst (λ w. Passes watching nothing_seen w (in_version version)) (sym parts) (passes-append watching nothing_seen (in_version version) (in_version version) u v (version_passes version known u x h first) (closing_passes version v y k second)),
    )

-- the whole text: the blocks as they were built, the dimensions that they are, the cubes and the scripts
record Whole : Type 0 where
  dims : Dims
  cubes : List CubeText
  scripts : List ScriptText

abbrev whole_seen : ℕ → List (List ℕ) → Whole → Seen
whole_seen version names w = scripts_seen w.dims.blocks version names w.cubes w.scripts

record IsWhole (contents : Contents) (w : Whole) : Type 0 where
  built : AllZip IsBuilt w.dims.texts w.dims.blocks
  dims : map (λ text. text.dimension) w.dims.texts ≡ map (λ text. text.dimension) contents.dims
  cubes : AllZip IsSameCube contents.cubes w.cubes
  scripts : AllZip IsSameScript contents.scripts w.scripts

-- the dimensions
named_dims_go : (contents : Contents) → IsContents contents → All IsValid contents.dims
    → Goes {E = Dims} (many dimension) (flat_map dim_spelled contents.dims) (dims_seen contents.version no_dims) (λ dims. cubes_seen dims.blocks contents.version (dimension_names contents.dims) []) (AreDims contents.dims)
named_dims_go contents is each =
    goes_as (λ dims are. (dims, ap (λ ns. outside_of dims.blocks (record { version = contents.version; names = ns; cubes = []; scripts = [] }) Nothing) are.names, are))
    (dims_go contents.version contents.dims each is.few_dims is.dims)

model_goes : (contents : Contents) → IsContents contents → All IsValid contents.dims
    → Goes {E = Whole} model (contents_spelled contents) nothing_seen (whole_seen contents.version (dimension_names contents.dims)) (IsWhole contents)
model_goes contents is each =
    let n : ℕ = contents.version in
    let names : List (List ℕ) = dimension_names contents.dims in
    let dims_tokens : List Spelling = flat_map dim_spelled contents.dims in
    let cubes_tokens : List Spelling = flat_map (cube_spelled names) contents.cubes in
    let scripts_tokens : List Spelling = flat_map script_spelled contents.scripts in
    let named : All (λ name. IsTrue (is_name name)) names = All-map (λ name. IsTrue (is_name name)) block_name contents.dims (All-weaker IsValid (λ text. IsTrue (is_name (block_name text))) (λ text valid. valid.is_named) contents.dims each) in
    let counted : length contents.dims ≡ length names = sym (length-map contents.dims block_name) in
    let in_cubes : All (λ (c : CubeText). AreDimensions (length names) c.dims) contents.cubes = subst (λ k. All (λ (c : CubeText). AreDimensions k c.dims) contents.cubes) counted is.cube_dims in
    goes_behind {xs = opening_spelled n} {ys = dims_tokens ++ (cubes_tokens ++ scripts_tokens)} n (opening_goes n is.known_version)
    (goes_both {xs = dims_tokens} {ys = cubes_tokens ++ scripts_tokens} (goes_unit (named_dims_go contents is each))
    (λ dims are. goes_both {xs = cubes_tokens} {ys = scripts_tokens} (goes_unit (cubes_go dims.blocks n names contents.cubes named is.dims in_cubes is.cube_orders is.writable_cubes is.few_cubes is.cubes))
    (λ cubes same. goes_as (λ scripts equal. (
      record { dims = dims; cubes = cubes; scripts = scripts },
      refl,
      record { built = are.built; dims = are.same; cubes = same; scripts = equal },
    ))
    (goes_unit (scripts_go dims.blocks n names cubes contents.scripts is.writable_scripts is.few_scripts is.scripts)))))

-- a text whose tokens are these is read again
again_of : (contents : Contents) (w : Whole) → IsWhole contents w → (bytes : List ℕ) → IsWholeText model watching nothing_seen bytes tt (whole_seen contents.version (dimension_names contents.dims) w)
    → (again : Contents) × IsModelText bytes again × AreSameContents contents again
again_of contents w is bytes text = (
  record { version = contents.version; dims = w.dims.texts; cubes = w.cubes; scripts = w.scripts },
  record { seen = whole_seen contents.version (dimension_names contents.dims) w; text = text; gathered = record { version = refl; dims = is.built; cubes = refl; scripts = refl } },
  record { version = refl; dims = is.dims; cubes = is.cubes; scripts = is.scripts },
)

text_of : (contents : Contents) → IsContents contents → All IsValid contents.dims → (bytes : List ℕ) → IsWritten (contents_spelled contents) bytes → IsTextOf contents bytes
text_of contents is each bytes written small =
    let (lexed, reading, same) = written-reading (contents_spelled contents) bytes written small in
    let (tree, w, h, passes, is_whole) = (model_goes contents is each).at lexed.lexemes same in
    again_of contents w is_whole bytes (record { lexed = lexed; reading = reading; text = record { text = h; passes = passes } })

-- what a call that appends the written tokens has printed
pub printed_told : {T E : Type 0} (r : Result T E) (contents : Contents) → IsContents contents → (old new text : List ℕ) → All IsValid contents.dims × Writes [] text (contents_spelled contents)
    → new ≡ (if is_ok r then old ++ text else old) → OnOk r (IsPrinted contents old new)
printed_told (Ok x) contents is old new text (each, (bytes, text_is, written, short)) e =
    let behind : new ≡ old ++ bytes = e ∙ ap (λ b. old ++ b) text_is in
    record {
      tokens = (bytes, behind, written, short);
      reads = λ more also. subst (IsTextOf contents) (append_cancel_left old bytes more (sym behind ∙ also)) (text_of contents is each bytes written);
    }
printed_told (Err fault) contents is old new text adds e = tt
