-- From an exact reader to what is answered of the bytes of a whole text.
use Rattle.std.proofs.Common.{◌≡◌, ℕ, ◌-◌, List, [], ◌∷◌, ◌++◌, length, drop, Option, Some, None, Result, Ok, Err, refl, sym, ◌∙◌, ap, subst}
use Rattle.cube_lex.specs.Lexed.{Lexed}
use Rattle.cube_lex.specs.Lexeme.{Lexeme}
use Rattle.cube_lex.specs.Positions.{position_of}
use Rattle.cube_lex.specs.Reading.{IsReading}
use Rattle.cube_lex.specs.declared.fault.LexFault.{LexFault}
use Rattle.grammar.specs.Grammar.{Grammar}
use Rattle.grammar.specs.Watch.{Watch}
use Rattle.grammar.specs.Cursor.{Gives, Reads}
use Rattle.grammar.specs.Fault.{IsText, Fails, IsSyntax}
use Rattle.grammar.specs.Reading.{Unexpected, Refused, Reader, first}
use Rattle.grammar.specs.Whole.{IsWholeText, FailsBefore, place_of, IsWholeSyntax, IsWholeRefused, AnswersWhole, answer_of_text}
use Rattle.grammar.specs.declared.answer.TextFault.{TextFault}
use Rattle.grammar.specs.declared.cursor.Cursor.{Cursor}
use Rattle.grammar.specs.declared.stop.Stop.{Stop}
use Rattle.grammar.specs.declared.stop.Stop.TheVariants as stops
use Rattle.grammar.proofs.Exact.{Exact, Outcome, IsRead, within_passes}
use Rattle.grammar.proofs.Top.{read_told, stuck_told, refused_told, short_fails}

fails_before : {A : Type 0} (G : Grammar Lexeme A) (fault : Option LexFault) (before rest : List Lexeme) → Fails G before rest → FailsBefore G fault before rest
fails_before G None before rest h = h
fails_before G (Some fault) before [] h = tt
fails_before G (Some fault) before (t ∷ rest) h = h

-- all tokens are read, and there is no lexical fault
pub whole_read_told : {R C A : Type 0} {W : Watch Lexeme R C} {G : Grammar Lexeme A} {P : Reader Lexeme R C A} {S : List Lexeme → Type 0} → Exact W G G P S → (n : R) (bytes : List ℕ) (lexed : Lexed) (a : A) (m : R) → IsReading bytes lexed None → P n lexed.lexemes ≡ Ok (a, m, []) → IsWholeText G W n bytes a m
whole_read_told {W = W} {G = G} e n bytes lexed a m reading read =
    let (text, parts, is) = read_told e n lexed.lexemes a m [] read in
    record { lexed = lexed; reading = reading; text = subst (λ ts. IsText G W n ts a m) (sym (parts ∙ append_nil text)) is } where
      append_nil : (ts : List Lexeme) → ts ++ [] ≡ ts
      append_nil [] = refl
      append_nil (t ∷ ts) = ap (λ x. t ∷ x) (append_nil ts)

-- a text is read, and a token or a lexical fault comes behind it
pub whole_left_told : {R C A : Type 0} {W : Watch Lexeme R C} {G : Grammar Lexeme A} {P : Reader Lexeme R C A} {S : List Lexeme → Type 0} → Exact W G G P S → S [] → (n : R) (bytes : List ℕ) (lexed : Lexed) (fault : Option LexFault) (a : A) (m : R) (rest : List Lexeme) → IsReading bytes lexed fault → P n lexed.lexemes ≡ Ok (a, m, rest) → ((rest ≡ []) → (f : LexFault) × (fault ≡ Some f)) → IsWholeSyntax G W n bytes (place_of lexed rest)
unfolding Outcome
whole_left_told {W = W} {G = G} {P = P} e nothing n bytes lexed fault a m rest reading read more =
    let f : IsRead G W P n lexed.lexemes a m rest = subst (Outcome G W P n lexed.lexemes) read (e.sound n lexed.lexemes) in
    record {
      lexed = lexed;
      fault = fault;
      reading = reading;
      before = f.text;
      rest = rest;
      parts = f.parts;
      place = refl;
      alive = ([], a, subst (λ x. G x a) (sym (append_nil f.text)) f.reads);
      within = within_passes W n m f.text f.passes;
      fails = behind f.text rest more f.alone;
    } where
      append_nil : (ts : List Lexeme) → ts ++ [] ≡ ts
      append_nil [] = refl
      append_nil (t ∷ ts) = ap (λ x. t ∷ x) (append_nil ts)

      at_fault : (o : Option LexFault) (text : List Lexeme) → (g : LexFault) × (o ≡ Some g) → FailsBefore G o text []
      at_fault None text (g, is) = cc
      at_fault (Some g) text is = tt

      behind : (text rest : List Lexeme) → ((rest ≡ []) → (g : LexFault) × (fault ≡ Some g)) → ((other : List Lexeme) → first other ≡ first rest → P n (text ++ other) ≡ Ok (a, m, other)) → FailsBefore G fault text rest
      behind text [] more alone = at_fault fault text (more refl)
      behind text (t ∷ rest) more alone = fails_before G fault text (t ∷ rest) (short_fails e nothing n m a text t rest alone)

-- no text is read
pub whole_stuck_told : {R C A : Type 0} {W : Watch Lexeme R C} {G : Grammar Lexeme A} {P : Reader Lexeme R C A} {S : List Lexeme → Type 0} → Exact W G G P S → S [] → (n : R) (bytes : List ℕ) (lexed : Lexed) (fault : Option LexFault) (left : ℕ) → IsReading bytes lexed fault → P n lexed.lexemes ≡ Err (Unexpected left) → IsWholeSyntax G W n bytes (place_of lexed (drop (length lexed.lexemes - left) lexed.lexemes))
whole_stuck_told {W = W} {G = G} e nothing n bytes lexed fault left reading stuck =
    let f : IsSyntax position_of G W n lexed.lexemes lexed.end (place_of lexed (drop (length lexed.lexemes - left) lexed.lexemes)) = stuck_told e nothing position_of lexed.end n lexed.lexemes left stuck in
    record {
      lexed = lexed;
      fault = fault;
      reading = reading;
      before = f.before;
      rest = f.rest;
      parts = f.parts;
      place = f.place;
      alive = f.alive;
      within = f.within;
      fails = fails_before G fault f.before f.rest f.fails;
    }

-- something is refused
pub whole_refused_told : {R C A : Type 0} {W : Watch Lexeme R C} {G : Grammar Lexeme A} {P : Reader Lexeme R C A} {S : List Lexeme → Type 0} → Exact W G G P S → (n : R) (bytes : List ℕ) (lexed : Lexed) (fault : Option LexFault) (cause : C) → IsReading bytes lexed fault → P n lexed.lexemes ≡ Err (Refused cause) → IsWholeRefused G W n bytes cause
whole_refused_told e n bytes lexed fault cause reading stopped = record { lexed = lexed; fault = fault; reading = reading; refused = refused_told e n lexed.lexemes cause stopped }

-- what an exact reader returned and left comes to what is answered of the text
pub whole_told : {X R C A : Type 0} {W : Watch Lexeme R C} {G : Grammar Lexeme A} {P : Reader Lexeme R C A} {S : List Lexeme → Type 0} → Exact W G G P S → S [] → (view : X → A) (n : R) (bytes : List ℕ) (lexed : Lexed) (fault : Option LexFault) (read : Result X (Stop C)) (m : R) (rest : List Lexeme) → IsReading bytes lexed fault → Gives view read m rest (P n lexed.lexemes) → AnswersWhole view G W n bytes (answer_of_text lexed fault read rest)
whole_told {W = W} {G = G} e nothing view n bytes lexed None (Ok x) m [] reading given = (m, whole_read_told e n bytes lexed (view x) m reading given)
whole_told e nothing view n bytes lexed (Some f) (Ok x) m [] reading given = whole_left_told e nothing n bytes lexed (Some f) (view x) m [] reading given (λ _. (f, refl))
whole_told e nothing view n bytes lexed None (Ok x) m (t ∷ rest) reading given = whole_left_told e nothing n bytes lexed None (view x) m (t ∷ rest) reading given (λ is. cc is)
whole_told e nothing view n bytes lexed (Some f) (Ok x) m (t ∷ rest) reading given = whole_left_told e nothing n bytes lexed (Some f) (view x) m (t ∷ rest) reading given (λ is. cc is)
whole_told e nothing view n bytes lexed fault (Err stops.Memory) m rest reading given = tt
whole_told e nothing view n bytes lexed fault (Err (stops.Unexpected left)) m rest reading given = whole_stuck_told e nothing n bytes lexed fault left reading given
whole_told e nothing view n bytes lexed fault (Err (stops.Refused cause)) m rest reading given = whole_refused_told e n bytes lexed fault cause reading given

-- the same of a function that was given a cursor over all tokens
pub whole_answered : {X R C A : Type 0} {W : Watch Lexeme R C} {G : Grammar Lexeme A} {P : Reader Lexeme R C A} {S : List Lexeme → Type 0} → Exact W G G P S → S [] → (view : X → A) (bytes : List ℕ) (start : R) (lexed : Lexed) (fault : Option LexFault) (read : Result X (Stop C)) (old new : Cursor R) (answer : Result X (TextFault C))
    → IsReading bytes lexed fault → old.tokens ≡ lexed.lexemes → old.state ≡ start → Reads view P old read new → answer ≡ answer_of_text lexed fault read new.tokens
    → AnswersWhole view G W start bytes answer
whole_answered {W = W} {G = G} {P = P} e nothing view bytes start lexed fault read old new answer reading tokens state reads is =
    let given_start : Gives view read new.state new.tokens (P start old.tokens) = subst (λ s. Gives view read new.state new.tokens (P s old.tokens)) state reads in
    let given_all : Gives view read new.state new.tokens (P start lexed.lexemes) = subst (λ ts. Gives view read new.state new.tokens (P start ts)) tokens given_start in
    subst (AnswersWhole view G W start bytes) (sym is) (whole_told e nothing view start bytes lexed fault read new.state new.tokens reading given_all)
