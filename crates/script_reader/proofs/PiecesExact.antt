-- The readers of a script's pieces are exact: the words that begin its sections, and statements.
use Rattle.std.proofs.Common.{◌≡◌, ℕ, List, [], ◌∷◌, ◌++◌, Option, Some, None, true, false, ◌&&◌, if◌then◌else◌, codes, refl, sym, ◌∙◌, ap, inl, inr, append-nil}
use Rattle.cube_lex.specs.Lexeme.{Lexeme}
use Rattle.cube_lex.specs.Positions.{position_of}
use Rattle.grammar.specs.After.{many_after}
use Rattle.grammar.specs.Grammar.{Grammar, both, done, either}
use Rattle.grammar.specs.Tokens.{is_sign, is_word, is_any_word, capitals}
use Rattle.grammar.specs.Variables.{is_variable}
use Rattle.grammar.proofs.Exact.{Exact, Always, Not, exact_then, exact_made}
use Rattle.grammar.proofs.After.{exact_rest_after}
use Rattle.grammar.proofs.Begins.{Begins, begins_both, begins_either, has_token, made_is, exact_or}
use Rattle.grammar.proofs.Tokens.{sign_of, when_picks, sign_tells, exact_sign, exact_word, word_begins}
use Rattle.expression_grammar.proofs.LookaheadExact.{exact_choose_pair}
use Rattle.script_tree.specs.Counting.{count, counting}
use Rattle.script_tree.specs.ScriptText.{heading}
use Rattle.script_tree.specs.Statement.{statement}
use Rattle.script_reader.specs.Readers.Reading.{Plan}
use Rattle.script_reader.specs.Readers.TextReading.{section_after, read_mark, read_heading, read_line, starts_heading, choose_heading, read_first, read_in_prolog, read_in_body, read_piece, read_pieces}
use Rattle.script_reader.specs.declared.section.Piece.{Piece}
use Rattle.script_reader.specs.declared.section.Piece.TheVariants as pieces
use Rattle.script_tree.specs.declared.script.Section.{Section}
use Rattle.script_tree.specs.declared.script.Section.TheVariants as sections
use Rattle.script_reader.proofs.FirstWords.{word_any}
use Rattle.script_reader.proofs.WithinExact.{statement_begins, whole_statement_exact}
use Rattle.script_reader.proofs.NoHeading.{IsFree, other_word, statement_no_heading, statement_of_word}

-- the beginning of a section, and a statement of one, as pieces
abbrev pub heading_piece : List ℕ → Section → Grammar Lexeme Piece
heading_piece mark section = both (heading mark) (λ _. done (pieces.Heading section))

abbrev pub line_piece : Section → Grammar Lexeme Piece
line_piece section = both (statement section) (λ line. done (pieces.Statement line))

-- a piece, as they may come in a section
abbrev pub piece : Option Section → Grammar Lexeme Piece
piece None = either (heading_piece (codes "PROLOG") sections.Prolog) (either (heading_piece (codes "DATA") sections.Body) (heading_piece (codes "EPILOG") sections.Epilog))
piece (Some sections.Prolog) = either (heading_piece (codes "DATA") sections.Body) (either (heading_piece (codes "EPILOG") sections.Epilog) (line_piece sections.Prolog))
piece (Some sections.Body) = either (heading_piece (codes "EPILOG") sections.Epilog) (line_piece sections.Body)
piece (Some sections.Epilog) = line_piece sections.Epilog

heading_exact : (mark : List ℕ) (section : Section) → Exact counting (heading_piece mark section) (heading_piece mark section) (read_heading mark section) Always
unfolding read_heading read_mark
heading_exact mark section = exact_made (λ _. pieces.Heading section) (exact_then (exact_word count mark) (λ _. exact_sign count (codes ":")))

line_exact : (section : Section) → Exact counting (line_piece section) (line_piece section) (read_line section) Always
unfolding read_line
line_exact section = exact_made (λ line. pieces.Statement line) (whole_statement_exact section)

-- Each piece begins with a word.

heading_any : (mark : List ℕ) (section : Section) → Begins (heading_piece mark section) is_any_word true
heading_any mark section = begins_both (begins_both (word_any mark))

line_any : (section : Section) → Begins (line_piece section) is_any_word true
line_any section = begins_both (statement_begins section)

piece_begins : (s : Option Section) → Begins (piece s) is_any_word true
piece_begins None = begins_either (heading_any (codes "PROLOG") sections.Prolog) (begins_either (heading_any (codes "DATA") sections.Body) (heading_any (codes "EPILOG") sections.Epilog))
piece_begins (Some sections.Prolog) = begins_either (heading_any (codes "DATA") sections.Body) (begins_either (heading_any (codes "EPILOG") sections.Epilog) (line_any sections.Prolog))
piece_begins (Some sections.Body) = begins_either (heading_any (codes "EPILOG") sections.Epilog) (line_any sections.Body)
piece_begins (Some sections.Epilog) = line_any sections.Epilog

-- A section begins where `:` follows its word.

heading_starts : (mark : List ℕ) (section : Section) (u : List Lexeme) (a : Piece) (rest : List Lexeme) → heading_piece mark section u a → starts_heading mark (u ++ rest) ≡ true
heading_starts mark section u a rest h =
    let (unit, (x, y, at, parts, (t, is, picks), (s, single, colon))) = made_is (heading mark) (λ _. pieces.Heading section) u a h in
    let (marked, _) = when_picks (is_word mark) position_of t at picks in
    ap (λ l. starts_heading mark (l ++ rest)) (parts ∙ ap (λ l. l ++ y) is ∙ ap (λ l. t ∷ l) single)
    ∙ ap (λ m. m && is_sign (codes ":") s) marked ∙ sign_tells (codes ":") (codes ":") s unit colon

line_starts : (mark : List ℕ) → IsFree mark → (section : Section) (u : List Lexeme) (a : Piece) (rest : List Lexeme) → line_piece section u a → starts_heading mark (u ++ rest) ≡ false
line_starts mark free section u a rest h = let (l, k) = made_is (statement section) (λ line. pieces.Statement line) u a h in statement_no_heading mark free section u l rest k

data_is_free : IsFree (codes "DATA")
data_is_free = record { branches = refl; loops = refl; puts = refl; increments = refl; skips = refl; breaks = refl; fails = refl; zeros = refl }

epilog_is_free : IsFree (codes "EPILOG")
epilog_is_free = record { branches = refl; loops = refl; puts = refl; increments = refl; skips = refl; breaks = refl; fails = refl; zeros = refl }

heading_of_word : (mark : List ℕ) (section : Section) (t : Lexeme) → is_word mark t ≡ true → (v : List Lexeme) × (a : Piece) × heading_piece mark section (t ∷ v) a
heading_of_word mark section t is =
    let colon : Lexeme = sign_of (codes ":") in
    (colon ∷ [], pieces.Heading section, (t ∷ colon ∷ [], [], tt, refl, (t ∷ [], colon ∷ [], position_of t, refl, (t, refl, ap (λ b. if b then Some (position_of t) else None) is), (colon, refl, refl)), (refl, refl)))

line_of_word : (mark : List ℕ) → capitals mark ≡ mark → is_variable mark ≡ true → (section : Section) (t : Lexeme) → is_word mark t ≡ true → (v : List Lexeme) × (a : Piece) × line_piece section (t ∷ v) a
line_of_word mark capital names section t is = let (v, l, h) = statement_of_word mark capital names section t is in (v, pieces.Statement l, (t ∷ v, [], l, sym (append-nil (t ∷ v)), h, (refl, refl)))

-- the beginning of a section, and what else may come there
module _ (mark : List ℕ) (next : Section) {G : Grammar Lexeme Piece} {P : Plan Piece} (other : Exact counting G G P Always) (begins : Begins G is_any_word true) (begun : (t : Lexeme) → is_word mark t ≡ true → (v : List Lexeme) × (a : Piece) × G (t ∷ v) a) (tells : (u : List Lexeme) (a : Piece) (rest : List Lexeme) → G u a → starts_heading mark (u ++ rest) ≡ false) where
  heading_or : Exact counting (either (heading_piece mark next) G) (either (heading_piece mark next) G) (choose_heading mark next P) Always
  heading_or = exact_choose_pair count (is_word mark) (is_sign (codes ":"))
      (record { exact = heading_exact mark next; ends = tt; has = has_token (heading_any mark next); begun = heading_of_word mark next })
      (record { exact = other; ends = tt; has = has_token begins; begun = begun })
      (λ u a rest h stops. (heading_starts mark next u a rest h, tt))
      (λ u a rest h stops. (tells u a rest h, tt))

epilog_or_line : (section : Section) → Exact counting (either (heading_piece (codes "EPILOG") sections.Epilog) (line_piece section)) (either (heading_piece (codes "EPILOG") sections.Epilog) (line_piece section)) (choose_heading (codes "EPILOG") sections.Epilog (read_line section)) Always
epilog_or_line section = heading_or (codes "EPILOG") sections.Epilog (line_exact section) (line_any section) (line_of_word (codes "EPILOG") refl refl section) (line_starts (codes "EPILOG") epilog_is_free section)

-- of what may come in the Prolog but for `DATA :`
prolog_of_data : (t : Lexeme) → is_word (codes "DATA") t ≡ true → (v : List Lexeme) × (a : Piece) × either (heading_piece (codes "EPILOG") sections.Epilog) (line_piece sections.Prolog) (t ∷ v) a
prolog_of_data t is = let (v, a, h) = line_of_word (codes "DATA") refl refl sections.Prolog t is in (v, a, inr h)

prolog_no_data : (u : List Lexeme) (a : Piece) (rest : List Lexeme) → either (heading_piece (codes "EPILOG") sections.Epilog) (line_piece sections.Prolog) u a → starts_heading (codes "DATA") (u ++ rest) ≡ false
prolog_no_data u a rest (inl h) = other_word (codes "DATA") epilog_heading_tells u a rest h where
  epilog_heading_tells : Begins (heading_piece (codes "EPILOG") sections.Epilog) (is_word (codes "DATA")) false
  epilog_heading_tells = begins_both (begins_both (word_begins (codes "EPILOG") (codes "DATA")))
prolog_no_data u a rest (inr h) = line_starts (codes "DATA") data_is_free sections.Prolog u a rest h

piece_exact : (s : Option Section) → Exact counting (piece s) (piece s) (read_piece s) Always
unfolding read_first read_in_prolog read_in_body
piece_exact None =
    exact_or (is_word (codes "PROLOG")) (begins_both (begins_both (word_begins (codes "PROLOG") (codes "PROLOG"))))
    (begins_either (begins_both (begins_both (word_begins (codes "DATA") (codes "PROLOG")))) (begins_both (begins_both (word_begins (codes "EPILOG") (codes "PROLOG")))))
    (heading_exact (codes "PROLOG") sections.Prolog)
    (exact_or (is_word (codes "DATA")) (begins_both (begins_both (word_begins (codes "DATA") (codes "DATA")))) (begins_both (begins_both (word_begins (codes "EPILOG") (codes "DATA"))))
    (heading_exact (codes "DATA") sections.Body) (heading_exact (codes "EPILOG") sections.Epilog))
piece_exact (Some sections.Prolog) = heading_or (codes "DATA") sections.Body (epilog_or_line sections.Prolog)
    (begins_either (heading_any (codes "EPILOG") sections.Epilog) (line_any sections.Prolog)) prolog_of_data prolog_no_data
piece_exact (Some sections.Body) = epilog_or_line sections.Body
piece_exact (Some sections.Epilog) = line_exact sections.Epilog

-- a piece behind others
abbrev pub piece_behind : List Piece → Grammar Lexeme Piece
piece_behind before = piece (section_after None before)

pub pieces_exact : Exact counting (many_after piece_behind []) (many_after piece_behind []) read_pieces (Not is_any_word)
unfolding read_pieces
pieces_exact = exact_rest_after is_any_word (λ before. piece_begins (section_after None before)) (λ before. piece_exact (section_after None before)) []
