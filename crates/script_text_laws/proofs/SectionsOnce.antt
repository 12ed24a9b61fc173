-- The sections of a script have one tree: each begins with its word and `:`, and ends where the next one begins.
use Rattle.std.proofs.Common.{◌≡◌, ℕ, ◌+◌, ◌≤◌, zero, suc, List, [], ◌∷◌, ◌++◌, length, Bool, true, false, not, ◌&&◌, ◌||◌, codes, refl, sym, ◌∙◌, ap, inl, inr, append-nil, append_assoc, arith}
use Rattle.std.specs.Str.{str_eq_ignore_ascii_case}
use Rattle.cube_lex.specs.Lexeme.{Lexeme}
use Rattle.grammar.specs.Grammar.{Grammar, done, both, either, many}
use Rattle.grammar.specs.Reading.{starts}
use Rattle.grammar.specs.Tokens.{sign, word, is_sign, is_any_word}
use Rattle.grammar.specs.Watch.{Passes, each_token}
use Rattle.grammar.proofs.Begins.{starts_text}
use Rattle.grammar.proofs.Exact.{Always}
use Rattle.grammar.proofs.Tokens.{sign_tells, word_tells}
use Rattle.grammar.proofs.Top.{AtEnd}
use Rattle.rule_text_laws.proofs.OneTree.{OneTree, once_one, once_done, once_both, once_then, once_either}
use Rattle.script_tree.specs.Counting.{count}
use Rattle.script_tree.specs.ScriptText.{heading, block, script_of, script}
use Rattle.script_tree.specs.Statement.{statement}
use Rattle.script_tree.specs.declared.counted.Counted.{Counted}
use Rattle.script_tree.specs.declared.line.Line.{Line}
use Rattle.script_tree.specs.declared.script.Script.{Script}
use Rattle.script_tree.specs.declared.script.Section.{Section}
use Rattle.script_tree.specs.declared.script.Section.TheVariants as sections
use Rattle.script_reader.specs.Readers.TextReading.{starts_heading}
use Rattle.script_reader.proofs.NoHeading.{IsFree, statement_no_heading}
use Rattle.script_reader.proofs.WithinExact.{statement_begins}
use Rattle.script_text_laws.proofs.ValuesOnce.{once_made}
use Rattle.script_text_laws.proofs.WithinOnce.{statement_once}

-- What begins with a section's word and `:`.

with_true : (a : Bool) → (a && true) ≡ a
with_true true = refl
with_true false = refl

heading_starts : (mark other : List ℕ) (u : List Lexeme) (a : Unit {0}) (rest : List Lexeme) → heading mark u a → starts_heading other (u ++ rest) ≡ str_eq_ignore_ascii_case mark other
heading_starts mark other u a rest (x, y, at, parts, (t, is, picks), (s, single, colon)) =
    ap (λ l. starts_heading other (l ++ rest)) (parts ∙ ap (λ l. l ++ y) is ∙ ap (λ l. t ∷ l) single)
    ∙ ap (λ m. m && is_sign (codes ":") s) (word_tells mark other t at picks)
    ∙ ap (λ m. str_eq_ignore_ascii_case mark other && m) (sign_tells (codes ":") (codes ":") s a colon)
    ∙ with_true (str_eq_ignore_ascii_case mark other)

heading_once : (mark : List ℕ) → OneTree count (heading mark) Always
heading_once mark = once_then (once_one (word mark)) (λ _. once_one (sign (codes ":")))

-- The statements of a section.

-- whether a statement of a section comes: a word that doesn't begin a later section
abbrev starts_statement : List Lexeme → Bool
starts_statement ts = starts is_any_word ts && not (starts_heading (codes "DATA") ts || starts_heading (codes "EPILOG") ts)

data_is_free : IsFree (codes "DATA")
data_is_free = record { branches = refl; loops = refl; puts = refl; increments = refl; skips = refl; breaks = refl; fails = refl; zeros = refl }

epilog_is_free : IsFree (codes "EPILOG")
epilog_is_free = record { branches = refl; loops = refl; puts = refl; increments = refl; skips = refl; breaks = refl; fails = refl; zeros = refl }

free_word : (a b c : Bool) → a ≡ true → b ≡ false → c ≡ false → (a && not (b || c)) ≡ true
free_word a b c p q r = ap (λ x. x && not (b || c)) p ∙ ap (λ x. not (x || c)) q ∙ ap (λ x. not x) r

begun_section : (a b c : Bool) → (b || c) ≡ true → (a && not (b || c)) ≡ false
begun_section true b c e = ap (λ x. not x) e
begun_section false b c e = refl

either_begun : (b c : Bool) → c ≡ true → (b || c) ≡ true
either_begun true c e = refl
either_begun false c e = e

statement_starts : (section : Section) (u : List Lexeme) (l : Line) (rest : List Lexeme) → statement section u l → starts_statement (u ++ rest) ≡ true
statement_starts section u l rest h =
    free_word (starts is_any_word (u ++ rest)) (starts_heading (codes "DATA") (u ++ rest)) (starts_heading (codes "EPILOG") (u ++ rest))
    (starts_text (statement_begins section) u l rest h) (statement_no_heading (codes "DATA") data_is_free section u l rest h) (statement_no_heading (codes "EPILOG") epilog_is_free section u l rest h)

-- what may stand behind the statements of a section
abbrev NoStatement : List Lexeme → Type 0
NoStatement rest = starts_statement rest ≡ false

module _ (section : Section) where
  -- at most so many statements
  abbrev at_most : ℕ → Grammar Lexeme (List Line)
  at_most zero = done []
  at_most (suc k) = either (both (statement section) (λ l. both (at_most k) (λ more. done (l ∷ more)))) (done [])

  begun : (k : ℕ) (u : List Lexeme) (list : List Line) (rest : List Lexeme) → both (statement section) (λ l. both (at_most k) (λ more. done (l ∷ more))) u list → starts_statement (u ++ rest) ≡ true
  begun k u list rest (v, w, l, parts, h, _) = ap (λ z. starts_statement (z ++ rest)) parts ∙ ap starts_statement (append_assoc v w rest) ∙ statement_starts section v l (w ++ rest) h

  at_most_once : (k : ℕ) → OneTree count (at_most k) NoStatement
  at_most_once zero = once_done []
  at_most_once (suc k) = once_either {S = NoStatement} {S' = Always} {S'' = NoStatement} starts_statement
      (once_then (statement_once section) (λ l. once_made (λ more. l ∷ more) (at_most_once k)))
      (once_done [])
      (λ u list rest h stops. (begun k u list rest h, stops))
      (λ u list rest nothing stops. (ap (λ z. starts_statement (z ++ rest)) nothing.0 ∙ stops, tt))

  counted : (list : List Line) (k : ℕ) → length list ≤ k → (u : List Lexeme) → many (statement section) u list → at_most k u list
  counted [] zero most u h = (h, refl)
  counted [] (suc k) most u h = inr (h, refl)
  counted (l ∷ list) zero most u h = absurd (omega (arith, most))
  counted (l ∷ list) (suc k) most u (v, w, parts, h, more) = inl (v, w, l, parts, h, (w, [], list, sym (append-nil w), counted list k (omega (arith, most)) w more, (refl, refl)))

  lines_at : (n m : Counted) (u r v s : List Lexeme) (x y : List Line) → Passes (each_token count) n (u ++ r) m → u ++ r ≡ v ++ s → many (statement section) u x → many (statement section) v y → NoStatement r → NoStatement s → (x ≡ y) × (r ≡ s)
  lines_at n m u r v s x y passes e h g stops ends =
      let k : ℕ = length x + length y in
      (at_most_once k).at n m u r v s x y passes e (counted x k (omega arith) u h) (counted y k (omega arith) v g) stops ends

  lines_once : OneTree count (many (statement section)) NoStatement
  lines_once = record { at = lines_at }

-- One section.

-- what may stand behind a section, or where it isn't
record BehindSection (mark : List ℕ) (rest : List Lexeme) : Type 0 where
  heading : starts_heading mark rest ≡ false
  statement : NoStatement rest

abbrev lined : List ℕ → Section → Grammar Lexeme (List Line)
lined mark section = both (heading mark) (λ _. many (statement section))

lined_starts : (mark : List ℕ) (section : Section) → str_eq_ignore_ascii_case mark mark ≡ true → (u : List Lexeme) (list : List Line) (rest : List Lexeme) → lined mark section u list → starts_heading mark (u ++ rest) ≡ true
lined_starts mark section same u list rest (v, w, a, parts, h, _) = ap (λ z. starts_heading mark (z ++ rest)) parts ∙ ap (starts_heading mark) (append_assoc v w rest) ∙ heading_starts mark mark v a (w ++ rest) h ∙ same

block_once : (mark : List ℕ) (section : Section) → str_eq_ignore_ascii_case mark mark ≡ true → OneTree count (block mark section) (BehindSection mark)
block_once mark section same = once_either {S = NoStatement} {S' = Always} {S'' = BehindSection mark} (starts_heading mark)
    (once_then (heading_once mark) (λ _. lines_once section))
    (once_done [])
    (λ u list rest h stops. (lined_starts mark section same u list rest h, stops.statement))
    (λ u list rest nothing stops. (ap (λ z. starts_heading mark (z ++ rest)) nothing.0 ∙ stops.heading, tt))

-- Behind a section only a later one begins, or the text ends.

-- what the test finds nowhere where a section begins
abbrev Misses : (List Lexeme → Bool) → List ℕ → Type 0
Misses test mark = (u : List Lexeme) (a : Unit {0}) (rest : List Lexeme) → heading mark u a → test (u ++ rest) ≡ false

other_heading : (mark other : List ℕ) → str_eq_ignore_ascii_case mark other ≡ false → Misses (starts_heading other) mark
other_heading mark other apart u a rest h = heading_starts mark other u a rest h ∙ apart

data_no_statement : Misses starts_statement (codes "DATA")
data_no_statement u a rest h = begun_section (starts is_any_word (u ++ rest)) (starts_heading (codes "DATA") (u ++ rest)) (starts_heading (codes "EPILOG") (u ++ rest)) (ap (λ b. b || starts_heading (codes "EPILOG") (u ++ rest)) (heading_starts (codes "DATA") (codes "DATA") u a rest h))

epilog_no_statement : Misses starts_statement (codes "EPILOG")
epilog_no_statement u a rest h = begun_section (starts is_any_word (u ++ rest)) (starts_heading (codes "DATA") (u ++ rest)) (starts_heading (codes "EPILOG") (u ++ rest)) (either_begun (starts_heading (codes "DATA") (u ++ rest)) (starts_heading (codes "EPILOG") (u ++ rest)) (heading_starts (codes "EPILOG") (codes "EPILOG") u a rest h))

module _ (test : List Lexeme → Bool) (none : test [] ≡ false) where
  end_misses : (v rest : List Lexeme) → v ≡ [] → rest ≡ [] → test (v ++ rest) ≡ false
  end_misses v rest nothing end = ap (λ z. test (z ++ rest)) nothing ∙ ap test end ∙ none

  block_misses : (mark : List ℕ) (section : Section) → Misses test mark → (u : List Lexeme) (list : List Line) (rest : List Lexeme) → block mark section u list → test rest ≡ false → test (u ++ rest) ≡ false
  block_misses mark section misses u list rest (inl (v, w, a, parts, h, _)) stops = ap (λ z. test (z ++ rest)) parts ∙ ap test (append_assoc v w rest) ∙ misses v a (w ++ rest) h
  block_misses mark section misses u list rest (inr nothing) stops = ap (λ z. test (z ++ rest)) nothing.0 ∙ stops

  -- an Epilog, or none
  epilog_misses : (prolog body : List Line) → Misses test (codes "EPILOG") → (v : List Lexeme) (a : Script) (rest : List Lexeme) → both (block (codes "EPILOG") sections.Epilog) (λ epilog. done (script_of prolog body epilog)) v a → AtEnd rest → test (v ++ rest) ≡ false
  epilog_misses prolog body misses v a rest (x, y, epilog, parts, h, nothing) end =
      ap (λ z. test (z ++ rest)) parts ∙ ap test (append_assoc x y rest) ∙ block_misses (codes "EPILOG") sections.Epilog misses x epilog (y ++ rest) h (end_misses y rest nothing.0 end)

  -- Data, or none, and then an Epilog, or none
  body_misses : (prolog : List Line) → Misses test (codes "DATA") → Misses test (codes "EPILOG") → (v : List Lexeme) (a : Script) (rest : List Lexeme) → both (block (codes "DATA") sections.Body) (λ body. both (block (codes "EPILOG") sections.Epilog) (λ epilog. done (script_of prolog body epilog))) v a → AtEnd rest → test (v ++ rest) ≡ false
  body_misses prolog misses later v a rest (x, y, body, parts, h, l) end =
      ap (λ z. test (z ++ rest)) parts ∙ ap test (append_assoc x y rest) ∙ block_misses (codes "DATA") sections.Body misses x body (y ++ rest) h (epilog_misses prolog body later y a rest l end)

pub script_once : OneTree count script AtEnd
script_once = once_both {S = BehindSection (codes "PROLOG")} {S' = AtEnd} (block_once (codes "PROLOG") sections.Prolog refl)
    (λ prolog. once_both {S = BehindSection (codes "DATA")} {S' = AtEnd} (block_once (codes "DATA") sections.Body refl)
    (λ body. once_both {S = BehindSection (codes "EPILOG")} {S' = AtEnd} (block_once (codes "EPILOG") sections.Epilog refl)
    (λ epilog. once_done (script_of prolog body epilog))
    (λ epilog v a rest h end. record {
      heading = end_misses (starts_heading (codes "EPILOG")) refl v rest h.0 end;
      statement = end_misses starts_statement refl v rest h.0 end;
    }))
    (λ body v a rest h end. record {
      heading = epilog_misses (starts_heading (codes "DATA")) refl prolog body (other_heading (codes "EPILOG") (codes "DATA") refl) v a rest h end;
      statement = epilog_misses starts_statement refl prolog body epilog_no_statement v a rest h end;
    }))
    (λ prolog v a rest h end. record {
      heading = body_misses (starts_heading (codes "PROLOG")) refl prolog (other_heading (codes "DATA") (codes "PROLOG") refl) (other_heading (codes "EPILOG") (codes "PROLOG") refl) v a rest h end;
      statement = body_misses starts_statement refl prolog data_no_statement epilog_no_statement v a rest h end;
    })
