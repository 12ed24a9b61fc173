-- A statement is not taken for the beginning of a section, and a word that begins one may begin a statement too.
use Rattle.std.proofs.Common.{◌≡◌, ℕ, zero, suc, List, ◌∷◌, ◌++◌, true, false, codes, refl, ◌∙◌, inl, inr}
use Rattle.std.specs.Str.{str_eq_ignore_ascii_case}
use Rattle.cube_lex.specs.Lexeme.{Lexeme}
use Rattle.grammar.specs.Grammar.{Grammar, one, many}
use Rattle.grammar.specs.Tokens.{word, is_sign, is_word, capitals}
use Rattle.grammar.specs.Variables.{is_variable}
use Rattle.grammar.proofs.Begins.{Begins, begins_both, starts_text}
use Rattle.grammar.proofs.Tokens.{word_begins}
use Rattle.expression_grammar.proofs.LookaheadExact.{no_pair}
use Rattle.script_tree.specs.Statement.{branching, looping, put, increment, leaping, zeroing, statement_within, statement}
use Rattle.script_reader.specs.Readers.TextReading.{starts_heading}
use Rattle.script_tree.specs.declared.line.Line.{Line}
use Rattle.script_tree.specs.declared.script.Section.{Section}
use Rattle.script_reader.proofs.Assignments.{assignment_no, assignment_of_word}
use Rattle.script_reader.proofs.FirstWords.{leap_no_word}

-- what begins with another word
pub other_word : {A : Type 0} {G : Grammar Lexeme A} (mark : List ℕ) → Begins G (is_word mark) false → (u : List Lexeme) (a : A) (rest : List Lexeme) → G u a → starts_heading mark (u ++ rest) ≡ false
other_word mark e u a rest h = no_pair (is_word mark) (is_sign (codes ":")) (u ++ rest) (starts_text e u a rest h)

-- a word that no statement but an assignment begins with
pub record IsFree (mark : List ℕ) : Type 0 where
  pub branches : str_eq_ignore_ascii_case (codes "IF") mark ≡ false
  pub loops : str_eq_ignore_ascii_case (codes "WHILE") mark ≡ false
  pub puts : str_eq_ignore_ascii_case (codes "CELLPUTN") mark ≡ false
  pub increments : str_eq_ignore_ascii_case (codes "CELLINCREMENTN") mark ≡ false
  pub skips : str_eq_ignore_ascii_case (codes "ITEMSKIP") mark ≡ false
  pub breaks : str_eq_ignore_ascii_case (codes "PROCESSBREAK") mark ≡ false
  pub fails : str_eq_ignore_ascii_case (codes "PROCESSERROR") mark ≡ false
  pub zeros : str_eq_ignore_ascii_case (codes "ZEROOUT") mark ≡ false

not_word : (w mark : List ℕ) → str_eq_ignore_ascii_case w mark ≡ false → Begins (one (word w)) (is_word mark) false
not_word w mark e = record { at = λ u a h. (let (t, v, is, tells) = (word_begins w mark).at u a h in (t, v, is, tells ∙ e)) }

module _ (mark : List ℕ) (free : IsFree mark) (section : Section) where
  branching_other : (block : Grammar Lexeme (List Line)) → Begins (branching block) (is_word mark) false
  branching_other block = begins_both (begins_both (begins_both (not_word (codes "IF") mark free.branches)))

  looping_other : (block : Grammar Lexeme (List Line)) → Begins (looping block) (is_word mark) false
  looping_other block = begins_both (not_word (codes "WHILE") mark free.loops)

  put_other : Begins put (is_word mark) false
  put_other = begins_both (begins_both (not_word (codes "CELLPUTN") mark free.puts))

  increment_other : Begins increment (is_word mark) false
  increment_other = begins_both (begins_both (not_word (codes "CELLINCREMENTN") mark free.increments))

  leaping_other : Begins (leaping section) (is_word mark) false
  leaping_other = begins_both (leap_no_word section mark free.skips free.breaks free.fails)

  zeroing_other : Begins zeroing (is_word mark) false
  zeroing_other = begins_both (not_word (codes "ZEROOUT") mark free.zeros)

  within_no : (h : ℕ) (u : List Lexeme) (l : Line) (rest : List Lexeme) → statement_within section h u l → starts_heading mark (u ++ rest) ≡ false
  within_no zero u l rest h = absurd h
  within_no (suc k) u l rest (inl h) = other_word mark (branching_other (many (statement_within section k))) u l rest h
  within_no (suc k) u l rest (inr (inl h)) = other_word mark (looping_other (many (statement_within section k))) u l rest h
  within_no (suc k) u l rest (inr (inr (inl h))) = other_word mark put_other u l rest h
  within_no (suc k) u l rest (inr (inr (inr (inl h)))) = other_word mark increment_other u l rest h
  within_no (suc k) u l rest (inr (inr (inr (inr (inl h))))) = other_word mark leaping_other u l rest h
  within_no (suc k) u l rest (inr (inr (inr (inr (inr (inl h)))))) = other_word mark zeroing_other u l rest h
  within_no (suc k) u l rest (inr (inr (inr (inr (inr (inr h)))))) = assignment_no mark (codes ":") refl u l rest h

  pub statement_no_heading : (u : List Lexeme) (l : Line) (rest : List Lexeme) → statement section u l → starts_heading mark (u ++ rest) ≡ false
  statement_no_heading u l rest (h, g) = within_no h u l rest g

-- `mark = 1 ;`
pub statement_of_word : (mark : List ℕ) → capitals mark ≡ mark → is_variable mark ≡ true → (section : Section) (t : Lexeme) → is_word mark t ≡ true → (v : List Lexeme) × (l : Line) × statement section (t ∷ v) l
statement_of_word mark capital names section t is =
    let (v, l, h) = assignment_of_word mark capital names t is in
    (v, l, (1, inr (inr (inr (inr (inr (inr h)))))))
