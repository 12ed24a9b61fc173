-- The reader of a model text is exact.
use Rattle.std.proofs.Common.{◌≡◌, ℕ, ◌&&◌, Bool, option_map, length, if◌then◌else◌, append_assoc, append-nil, List, [], ◌∷◌, ◌++◌, Option, Some, None, Ok, Err, true, false, codes, refl, ◌∙◌, ap, subst, inl, inr, ◌⊎◌}
use Rattle.std.specs.Str.{str_eq_ignore_ascii_case}
use Rattle.cube_lex.specs.Lexeme.{Lexeme}
use Rattle.cube_lex.specs.Positions.{position_of}
use Rattle.grammar.specs.Grammar.{Grammar, both, many}
use Rattle.grammar.specs.Watch.{Watch, AllPass, Passes, Within, each_text}
use Rattle.grammar.specs.Reading.{Unexpected, Refused, OutOfTurns, Read, Reader, starts, inside_result}
use Rattle.grammar.specs.Tokens.{text, name, file, located, is_sign, is_word, is_text_kind, is_file}
use Rattle.cube_lex.specs.Quoted.{unquoted}
use Rattle.cube_lex.specs.declared.position.Position.{Position}
use Rattle.dim_name.specs.Name.{is_name}
use Rattle.grammar.proofs.Exact.{Exact, Always, Not, Outcome, Agrees, IsStuck, passes_one, passes_nothing, refuses_one, exact_gives, exact_then, exact_both, exact_made, exact_before}
use Rattle.grammar.proofs.Begins.{Begins, HasToken, begins_both, exact_before_next, has_token, starts_many, made_is}
use Rattle.grammar.proofs.Many.{Shortens, shortens, exact_rest}
use Rattle.grammar.proofs.Checked.{exact_checked}
use Rattle.grammar.proofs.Inside.{IsInside, exact_inside}
use Rattle.grammar.proofs.Tokens.{sign_begins, word_begins, value_no_word, name_is_value, file_is_value, when_picks, and_is}
use Rattle.dim_text.specs.Progress.{Progress}
use Rattle.dim_text.specs.Statement.{unit, body}
use Rattle.dim_text.specs.Building.{building}
use Rattle.dim_text.specs.Readers.Reading.{read_body}
use Rattle.dim_text.specs.declared.fault.Refusal.{Refusal}
use Rattle.dim_text.proofs.BlockExact.{body_exact}
use Rattle.model_text.specs.declared.fault.ModelTextFault.{ModelTextFault}
use Rattle.model_text.specs.Statement.{Piece, has_totals, number_of, version_number, closing, dimension_word, cube_word, script_word, naming, script_file, first_dimension, next_dimension, cube_end, shown_text, piece, dimension_head, dimension, cube_head, cube_dimensions, cube, script, opening, model}
use Rattle.model_text.specs.Gathering.{Given, gathered}
use Rattle.model_text.specs.Watching.{Seen, with_given, added, head_of, with_block, of_block, watching}
use Rattle.model_text.specs.Readers.Reading.{Plain, gather, outside, body_from, read_dimension_behind, gather_version, gather_closing, gather_dimension_word, gather_cube_word, gather_script_word, gather_naming, gather_script_file, gather_first_dimension, gather_further_dimensions, gather_cube_end, read_opening, read_dimension_head, read_cube_head, read_cube_dimensions, read_cube, read_script, read_cubes, read_scripts, read_dimension_body, read_dimension, read_dimensions, read_model}
use Rattle.model_text.proofs.PieceExact.{free, mapped, located_is_value, version_exact, closing_exact, dimension_word_exact, cube_word_exact, script_word_exact, naming_exact, script_file_exact, dimension_behind_exact, cube_end_exact}
use Rattle.model_text.proofs.Versions.{cube_end_into}

-- Pieces.

abbrev pub pieces : Watch Lexeme Given ModelTextFault
pieces = each_text piece gathered

piece_exact : {G : Grammar Lexeme Piece} {P : Plain Piece} → ((u : List Lexeme) (x : Piece) → G u x → piece u x) → HasToken G → Exact free G G P Always → Exact pieces G G (gather P) Always
piece_exact into some e = exact_checked (record {}) gathered into some e

gathers_version : Exact pieces version_number version_number gather_version Always
unfolding gather_version
gathers_version = exact_made number_of (piece_exact (λ u x h. inl h) (has_token (begins_both (word_begins (codes "MODEL") (codes "MODEL")))) version_exact)

gathers_closing : Exact pieces (unit closing) (unit closing) gather_closing Always
gathers_closing = exact_made (λ _. tt) (piece_exact (λ u x h. inr (inl h)) (has_token (begins_both (sign_begins (codes ";") (codes ";")))) closing_exact)

pub gathers_dimension_word : Exact pieces (unit dimension_word) (unit dimension_word) gather_dimension_word Always
unfolding gather_dimension_word
gathers_dimension_word = exact_made (λ _. tt) (piece_exact (λ u x h. inr (inr (inl h))) (has_token (begins_both (word_begins (codes "DIM") (codes "DIM")))) dimension_word_exact)

pub gathers_cube_word : Exact pieces (unit cube_word) (unit cube_word) gather_cube_word Always
unfolding gather_cube_word
gathers_cube_word = exact_made (λ _. tt) (piece_exact (λ u x h. inr (inr (inr (inl h)))) (has_token (begins_both (word_begins (codes "CUBE") (codes "CUBE")))) cube_word_exact)

pub gathers_script_word : Exact pieces (unit script_word) (unit script_word) gather_script_word Always
unfolding gather_script_word
gathers_script_word = exact_made (λ _. tt) (piece_exact (λ u x h. inr (inr (inr (inr (inl h))))) (has_token (begins_both (word_begins (codes "SCRIPT") (codes "SCRIPT")))) script_word_exact)

-- names and files are quoted texts
name_is_text : (t : Lexeme) (shown : List ℕ) → name t ≡ Some shown → text t ≡ Some shown
name_is_text t shown e =
    let (is, same) = when_picks (λ t. is_text_kind t.kind && is_name (unquoted t.piece)) (λ t. unquoted t.piece) t shown e in
    let (kind, _) = and_is (is_text_kind t.kind) (is_name (unquoted t.piece)) is in
    ap (λ b. if b then Some (unquoted t.piece) else None) kind ∙ ap (λ x. Some x) same

pub file_is_text : (t : Lexeme) (shown : List ℕ) → file t ≡ Some shown → text t ≡ Some shown
file_is_text t shown e =
    let (is, same) = when_picks (λ t. is_text_kind t.kind && is_file (unquoted t.piece)) (λ t. unquoted t.piece) t shown e in
    let (kind, _) = and_is (is_text_kind t.kind) (is_file (unquoted t.piece)) is in
    ap (λ b. if b then Some (unquoted t.piece) else None) kind ∙ ap (λ x. Some x) same

located_into : {A : Type 0} (pick pick' : Lexeme → Option A) → ((t : Lexeme) (a : A) → pick t ≡ Some a → pick' t ≡ Some a) → (t : Lexeme) (x : Position × A) → located pick t ≡ Some x → located pick' t ≡ Some x
located_into pick pick' into t x e =
    let (a, picks, same) = mapped (λ a. (position_of t, a)) (pick t) x e in
    ap (option_map (λ a. (position_of t, a))) (into t a picks) ∙ ap (λ y. Some y) same

pub naming_into : (u : List Lexeme) (x : Piece) → naming u x → shown_text u x
naming_into u x (v, w, n, parts, (t, is, picks), made) = (v, w, n, parts, (t, is, located_into name text name_is_text t n picks), made)

pub file_into : (u : List Lexeme) (x : Piece) → script_file u x → shown_text u x
file_into u x (v, w, n, parts, (t, is, picks), made) = (v, w, n, parts, (t, is, located_into file text file_is_text t n picks), made)

pub gathers_naming : Exact pieces (unit naming) (unit naming) gather_naming Always
unfolding gather_naming
gathers_naming = exact_made (λ _. tt) (piece_exact (λ u x h. inr (inr (inr (inr (inr (inl (naming_into u x h))))))) (has_token (begins_both (value_no_word (located_is_value name_is_value) (codes "DIM")))) naming_exact)

gathers_script_file : Exact pieces (unit script_file) (unit script_file) gather_script_file Always
gathers_script_file = exact_made (λ _. tt) (piece_exact (λ u x h. inr (inr (inr (inr (inr (inl (file_into u x h))))))) (has_token (begins_both (value_no_word (located_is_value file_is_value) (codes "DIM")))) script_file_exact)

gathers_first_dimension : Exact pieces (unit first_dimension) (unit first_dimension) gather_first_dimension Always
gathers_first_dimension = exact_made (λ _. tt) (piece_exact (λ u x h. inr (inr (inr (inr (inr (inr (inl h))))))) (has_token (begins_both (sign_begins (codes "(") (codes "(")))) (dimension_behind_exact (codes "(")))

next_dimension_begins : Begins next_dimension (is_sign (codes ",")) true
next_dimension_begins = begins_both (sign_begins (codes ",") (codes ","))

pub next_dimension_exact : Exact pieces next_dimension next_dimension (gather (read_dimension_behind (codes ","))) Always
next_dimension_exact = piece_exact (λ u x h. inr (inr (inr (inr (inr (inr (inr (inl h)))))))) (has_token next_dimension_begins) (dimension_behind_exact (codes ","))

gathers_further_dimensions : Exact pieces (unit (many next_dimension)) (unit (many next_dimension)) gather_further_dimensions (Not (is_sign (codes ",")))
unfolding gather_further_dimensions
gathers_further_dimensions = exact_made (λ _. tt) (exact_rest (is_sign (codes ",")) next_dimension_begins next_dimension_begins next_dimension_exact)

-- the end of a cube in a text of some version
pub into_end : (totals : Bool) (u : List Lexeme) (x : Piece) → cube_end totals u x → piece u x
into_end totals u x h = inr (inr (inr (inr (inr (inr (inr (inr ((cube_end_into totals).at u x h))))))))

gathers_cube_end : (totals : Bool) → Exact pieces (unit (cube_end totals)) (unit (cube_end totals)) (gather_cube_end totals) Always
unfolding gather_cube_end
gathers_cube_end totals = exact_made (λ _. tt) (piece_exact (into_end totals) (has_token (begins_both (sign_begins (codes ")") (codes ")")))) (cube_end_exact totals))

-- Statements.

pub opening_exact : Exact pieces opening opening read_opening Always
unfolding read_opening
opening_exact = exact_then gathers_version (λ number. exact_then gathers_closing (λ _. exact_gives pieces number))

pub dimension_head_exact : Exact pieces dimension_head dimension_head read_dimension_head Always
unfolding read_dimension_head
dimension_head_exact = exact_then gathers_dimension_word (λ _. exact_then gathers_naming (λ _. gathers_closing))

pub cube_head_exact : Exact pieces cube_head cube_head read_cube_head Always
unfolding read_cube_head
cube_head_exact = exact_then gathers_cube_word (λ _. gathers_naming)

pub cube_dimensions_exact : Exact pieces cube_dimensions cube_dimensions read_cube_dimensions (Not (is_sign (codes ",")))
unfolding read_cube_dimensions
cube_dimensions_exact = exact_then gathers_first_dimension (λ _. gathers_further_dimensions)

pub cube_exact : (totals : Bool) → Exact pieces (cube totals) (cube totals) (read_cube totals) Always
unfolding read_cube
cube_exact totals = exact_then cube_head_exact (λ _. exact_before_next cube_dimensions_exact (λ _. gathers_cube_end totals) (λ _. begins_both (begins_both (sign_begins (codes ")") (codes ",")))))

pub script_exact : Exact pieces script script read_script Always
unfolding read_script
script_exact = exact_then gathers_script_word (λ _. exact_then gathers_naming (λ _. exact_then gathers_script_file (λ _. gathers_closing)))

pub dimension_begins : (w : List ℕ) → Begins dimension (is_word w) (str_eq_ignore_ascii_case (codes "DIM") w)
dimension_begins w = begins_both (begins_both (begins_both (begins_both (word_begins (codes "DIM") w))))

pub cube_begins : (totals : Bool) (w : List ℕ) → Begins (cube totals) (is_word w) (str_eq_ignore_ascii_case (codes "CUBE") w)
cube_begins totals w = begins_both (begins_both (begins_both (begins_both (word_begins (codes "CUBE") w))))

pub script_begins : (w : List ℕ) → Begins script (is_word w) (str_eq_ignore_ascii_case (codes "SCRIPT") w)
script_begins w = begins_both (begins_both (begins_both (word_begins (codes "SCRIPT") w)))

pub cubes_exact : (totals : Bool) → Exact pieces (unit (many (cube totals))) (unit (many (cube totals))) (read_cubes totals) (Not (is_word (codes "CUBE")))
unfolding read_cubes
cubes_exact totals = exact_made (λ _. tt) (exact_rest (is_word (codes "CUBE")) (cube_begins totals (codes "CUBE")) (cube_begins totals (codes "CUBE")) (cube_exact totals))

scripts_exact : Exact pieces (unit (many script)) (unit (many script)) read_scripts (Not (is_word (codes "SCRIPT")))
unfolding read_scripts
scripts_exact = exact_made (λ _. tt) (exact_rest (is_word (codes "SCRIPT")) (script_begins (codes "SCRIPT")) (script_begins (codes "SCRIPT")) script_exact)

-- Outside of bodies.

outside_pass : (s : Seen) (us : List (List Lexeme)) (r : Given) → AllPass pieces s.given us r → AllPass watching s us (with_given s r)
outside_pass s [] r h = ap (with_given s) h
outside_pass s (u ∷ us) r (m, (x, is, e), h) = (with_given s m, inl (x, is, ap (added s) e), outside_pass (with_given s m) us r h)

outside_passes : (s : Seen) (ts : List Lexeme) (r : Given) → Passes pieces s.given ts r → Passes watching s ts (with_given s r)
outside_passes s ts r h = record { pieces = h.pieces; parts = h.parts; pass = outside_pass s h.pieces r h.pass }

outside_begins : (s : Seen) (g : Given) (u : List Lexeme) → (u ≡ []) ⊎ pieces.begins g u → (u ≡ []) ⊎ watching.begins s u
outside_begins s g u (inl nothing) = inl nothing
outside_begins s g u (inr begun) = inr (inl begun)

outside_refused : (s : Seen) (g : Given) (u : List Lexeme) (fault : ModelTextFault) → pieces.refuses g u fault → watching.refuses (with_given s g) u fault
outside_refused s g u fault (x, is, e) = inl (x, is, ap (added (with_given s g)) e)

is_outside : IsInside pieces watching (λ s. s.given) with_given (λ s fault. fault)
is_outside = record {
  passes = outside_passes;
  within = λ s ts h. record {
    whole = h.whole;
    begun = h.begun;
    state = with_given s h.state;
    parts = h.parts;
    pass = outside_passes s h.whole h.state h.pass;
    begins = outside_begins (with_given s h.state) h.state h.begun h.begins;
  };
  refuses = λ s ts fault h. record {
    whole = h.whole;
    piece = h.piece;
    state = with_given s h.state;
    parts = h.parts;
    pass = outside_passes s h.whole h.state h.pass;
    refused = outside_refused s h.state h.piece fault h.refused;
  };
}

outside_exact : {A : Type 0} {G H : Grammar Lexeme A} {P : Reader Lexeme Given ModelTextFault A} {S : List Lexeme → Type 0} → Exact pieces G H P S → Exact watching G H (outside P) S
outside_exact e = exact_inside (λ s. s.given) with_given (λ s fault. fault) is_outside e

-- Bodies.

body_alone : (s : Seen) (start : Progress) (ts : List Lexeme) (r : Read Lexeme Progress Refusal (Unit {0})) → head_of s.given.current ≡ Some start → read_body start ts ≡ r → read_dimension_body s ts ≡ inside_result (with_block s) of_block r
unfolding read_dimension_body
body_alone s start ts r head read = ap (λ o. body_from o s ts) head ∙ ap (inside_result (with_block s) of_block) read

-- where a body is stuck, it isn't whole
body_begun : (s : Seen) (start : Progress) (ts : List Lexeme) (left : ℕ) → head_of s.given.current ≡ Some start → (f : IsStuck body building read_body start ts left) → (more : List Lexeme) (a : Unit {0}) → body (f.text ++ more) a → Within watching s f.text
unfolding Agrees
body_begun s start ts left head f [] a h =
    let whole : body f.text a = subst (λ y. body y a) (append-nil f.text) h in
    absurd (subst (Agrees {R = Progress} {C = Refusal} a f.rest) (f.alone f.rest refl) (body_exact.complete start f.text a f.rest whole tt))
body_begun s start ts left head f (t ∷ more) a h = record {
  whole = [];
  begun = f.text;
  state = s;
  parts = refl;
  pass = passes_nothing watching s;
  begins = inr (inr (record { start = start; next = t; more = more; head = head; text = h; within = f.within }));
}

body_told : (s : Seen) (start : Progress) (ts : List Lexeme) → head_of s.given.current ≡ Some start → (r : Read Lexeme Progress Refusal (Unit {0})) → Outcome body building read_body start ts r → Outcome body watching read_dimension_body s ts (inside_result (with_block s) of_block r)
unfolding Outcome
body_told s start ts head (Ok x) f = record {
  text = f.text;
  parts = f.parts;
  reads = f.reads;
  passes = passes_one watching s (with_block s x.1) f.text (inr (record { start = start; block = x.1; head = head; text = f.reads; built = f.passes; next = refl }));
  alone = λ other same. body_alone s start (f.text ++ other) (Ok (x.0, x.1, other)) head (f.alone other same);
}
body_told s start ts head (Err (Unexpected left)) f = record {
  text = f.text;
  rest = f.rest;
  parts = f.parts;
  left_is = f.left_is;
  alive = f.alive;
  within = (let (more, a, h) = f.alive in body_begun s start ts left head f more a h);
  alone = λ other same. body_alone s start (f.text ++ other) (Err (Unexpected (length other))) head (f.alone other same);
}
body_told s start ts head (Err (Refused c)) f = record {
  before = f.before;
  last = f.last;
  rest = f.rest;
  parts = f.parts;
  alive = f.alive;
  refused = refuses_one watching s (f.before ++ f.last ∷ []) (of_block c) (inr (record { start = start; refusal = c; head = head; alive = f.alive; refused = f.refused; is = refl }));
}
body_told s start ts head (Err OutOfTurns) f = tt

body_sound : (s : Seen) (ts : List Lexeme) (o : Option Progress) → head_of s.given.current ≡ o → Outcome body watching read_dimension_body s ts (body_from o s ts)
unfolding Outcome
body_sound s ts None head = tt
body_sound s ts (Some start) head = body_told s start ts head (read_body start ts) (body_exact.sound start ts)

body_agrees : (s : Seen) (a : Unit {0}) (rest : List Lexeme) (r : Read Lexeme Progress Refusal (Unit {0})) → Agrees {R = Progress} {C = Refusal} a rest r → Agrees {R = Seen} {C = ModelTextFault} a rest (inside_result (with_block s) of_block r)
unfolding Agrees
body_agrees s a rest (Ok x) h = h
body_agrees s a rest (Err (Unexpected left)) h = absurd h
body_agrees s a rest (Err (Refused c)) h = tt
body_agrees s a rest (Err OutOfTurns) h = tt

body_complete : (s : Seen) (u : List Lexeme) (a : Unit {0}) (rest : List Lexeme) → body u a → (o : Option Progress) → Agrees {R = Seen} {C = ModelTextFault} a rest (body_from o s (u ++ rest))
unfolding Agrees
body_complete s u a rest h None = tt
body_complete s u a rest h (Some start) = body_agrees s a rest (read_body start (u ++ rest)) (body_exact.complete start u a rest h tt)

dimension_body_exact : Exact watching body body read_dimension_body Always
unfolding read_dimension_body
dimension_body_exact = record {
  word = body_exact.word;
  sound = λ s ts. body_sound s ts (head_of s.given.current) refl;
  complete = λ s u a rest h stops. body_complete s u a rest h (head_of s.given.current);
}

-- The whole text.

pub dimension_exact : Exact watching dimension dimension read_dimension Always
unfolding read_dimension
dimension_exact = exact_then (outside_exact dimension_head_exact) (λ _. dimension_body_exact)

pub dimensions_exact : Exact watching (unit (many dimension)) (unit (many dimension)) read_dimensions (Not (is_word (codes "DIM")))
unfolding read_dimensions
dimensions_exact = exact_made (λ _. tt) (exact_rest (is_word (codes "DIM")) (dimension_begins (codes "DIM")) (dimension_begins (codes "DIM")) dimension_exact)

-- what may stand behind the text
pub record Ends (rest : List Lexeme) : Type 0 where
  pub dimension : Not (is_word (codes "DIM")) rest
  pub cube : Not (is_word (codes "CUBE")) rest
  pub script : Not (is_word (codes "SCRIPT")) rest

begins_as : {G : Grammar Lexeme (Unit {0})} {p : Lexeme → Bool} {b c : Bool} → Begins G p b → b ≡ c → Begins G p c
begins_as e same = record { at = λ u a h. (let (t, v, is, tells) = e.at u a h in (t, v, is, tells ∙ same)) }

scripts_follow : (v rest : List Lexeme) (a : Unit {0}) → unit (many script) v a → (w : List ℕ) → str_eq_ignore_ascii_case (codes "SCRIPT") w ≡ false → Not (is_word w) rest → Not (is_word w) (v ++ rest)
scripts_follow v rest a h w other stops =
    let (list, each) = made_is (many script) (λ _. tt) v a h in
    starts_many (begins_as (script_begins w) other) list v rest each stops

cubes_follow : (totals : Bool) (v rest : List Lexeme) (a : Unit {0}) → unit (many (cube totals)) v a → (w : List ℕ) → str_eq_ignore_ascii_case (codes "CUBE") w ≡ false → Not (is_word w) rest → Not (is_word w) (v ++ rest)
cubes_follow totals v rest a h w other stops =
    let (list, each) = made_is (many (cube totals)) (λ _. tt) v a h in
    starts_many (begins_as (cube_begins totals w) other) list v rest each stops

cubes_and_scripts_follow : (totals : Bool) (v rest : List Lexeme) (b : Unit {0}) → both (unit (many (cube totals))) (λ _. unit (many script)) v b → Ends rest → Not (is_word (codes "DIM")) (v ++ rest)
cubes_and_scripts_follow totals v rest b (x, y, a, parts, h, k) ends =
    let behind : Not (is_word (codes "DIM")) (y ++ rest) = scripts_follow y rest b k (codes "DIM") refl ends.dimension in
    ap (λ z. starts (is_word (codes "DIM")) (z ++ rest)) parts ∙ ap (starts (is_word (codes "DIM"))) (append_assoc x y rest) ∙ cubes_follow totals x (y ++ rest) a h (codes "DIM") refl behind

pub model_exact : Exact watching model model read_model Ends
unfolding read_model
model_exact = exact_then (outside_exact opening_exact) (λ number. exact_both dimensions_exact
    (λ _. exact_both (outside_exact (cubes_exact (has_totals number)))
    (λ _. exact_before (λ rest ends. ends.script) (outside_exact scripts_exact))
    (λ _ v b rest l ends. scripts_follow v rest b l (codes "CUBE") refl ends.cube))
    (λ _ v b rest l ends. cubes_and_scripts_follow (has_totals number) v rest b l ends))

-- each has a token

pub dimension_shortens : Shortens read_dimension
dimension_shortens = shortens (is_word (codes "DIM")) true (dimension_begins (codes "DIM")) dimension_exact

pub dimension_head_shortens : Shortens read_dimension_head
dimension_head_shortens = shortens (is_word (codes "DIM")) true (begins_both (begins_both (begins_both (word_begins (codes "DIM") (codes "DIM"))))) dimension_head_exact

pub cube_shortens : (totals : Bool) → Shortens (read_cube totals)
cube_shortens totals = shortens (is_word (codes "CUBE")) true (cube_begins totals (codes "CUBE")) (cube_exact totals)

pub script_shortens : Shortens read_script
script_shortens = shortens (is_word (codes "SCRIPT")) true (script_begins (codes "SCRIPT")) script_exact

pub next_dimension_shortens : Shortens (gather (read_dimension_behind (codes ",")))
next_dimension_shortens = shortens (is_sign (codes ",")) true next_dimension_begins next_dimension_exact
