-- The lines of notes, text by text.
use Rattle.std.proofs.Common.{◌≡◌, ◌∙◌, ap, refl, sym, subst, arith, ℕ, zero, suc, ◌+◌, ◌<◌, ◌≤◌, List, [], ◌∷◌, ◌++◌, length, take, get_or, append-nil, append_assoc, All, Option, Some, None}
use Rattle.std.specs.Prelude.{slice_index_or}
use Rattle.std.proofs.lemmas.List.{take_more, take_all}
use Rattle.cube_lex.specs.Lexed.{Lexed}
use Rattle.cube_lex.specs.Lexeme.{Lexeme}
use Rattle.cube_lex.specs.Reading.{IsReading}
use Rattle.cube_lex.specs.declared.fault.LexFault.{LexFault}
use Rattle.file_passes.specs.Pass.{Readings, bytes_of}
use Rattle.rule_notes.specs.declared.note.Note.{Note}
use Rattle.note_lines.specs.Inside.Lines.{lines_by, AreTextLines, AreFileLines}
use Rattle.note_lines.specs.Inside.RuleTexts.{IsKnown, IsTextOf}
use Rattle.note_lines.specs.declared.rule_text.RuleText.{RuleText}
use Rattle.note_lines.specs.Notes.{cube_of, note_line, noted_tokens, IsLineIn, IsLineOf, AreLinesOf}

-- one note more of a text
pub one-more : (file text : List ℕ) (tokens : List Lexeme) (notes : List Note) (note : Note)
    → lines_by file text tokens (notes ++ note ∷ []) ≡ lines_by file text tokens notes ++ note_line file text note (noted_tokens note tokens)
one-more file text tokens [] note = append-nil (note_line file text note (noted_tokens note tokens))
one-more file text tokens (first ∷ notes) note =
    ap (λ l. note_line file text first (noted_tokens first tokens) ++ l) (one-more file text tokens notes note)
    ∙ sym (append_assoc (note_line file text first (noted_tokens first tokens)) (lines_by file text tokens notes) (note_line file text note (noted_tokens note tokens)))

module _ (readings : Readings) (files : List (List ℕ)) where
  -- the notes of one cube
  module _ (cube : ℕ) where
    abbrev file : List ℕ
    file = slice_index_or files cube []

    its-line : (note : Note) (line : List ℕ) → cube_of note ≡ cube → IsLineIn file note (bytes_of readings file) line → IsLineOf readings files note line
    its-line note line same is =
        subst (λ c. IsLineIn (slice_index_or files c []) note (bytes_of readings (slice_index_or files c [])) line) (sym same) is

    unread : bytes_of readings file ≡ None → (notes : List Note) → All (λ note. cube_of note ≡ cube) notes → AreLinesOf readings files notes []
    unread none [] are = refl
    unread none (note ∷ notes) are = (
      [],
      [],
      its-line note [] (are 0 note (omega arith)) (subst (λ found. IsLineIn file note found []) (sym none) refl),
      unread none notes (λ k other inside. are (suc k) other (omega (arith, inside))),
      refl,
    )

    module _ (text : List ℕ) (lexed : Lexed) (fault : Option LexFault) (reading : IsReading text lexed fault) where
      of-text : bytes_of readings file ≡ Some text → (notes : List Note) → All (λ note. cube_of note ≡ cube) notes → AreLinesOf readings files notes (lines_by file text lexed.lexemes notes)
      of-text some [] are = refl
      of-text some (note ∷ notes) are =
          let line = note_line file text note (noted_tokens note lexed.lexemes) in (
            line,
            lines_by file text lexed.lexemes notes,
            its-line note line (are 0 note (omega arith))
                (subst (λ found. IsLineIn file note found line) (sym some) (record { lexed = lexed; fault = fault; reading = reading; is = refl })),
            of-text some notes (λ k other inside. are (suc k) other (omega (arith, inside))),
            refl,
          )

    pub of-cube : (notes : List Note) (lines : List ℕ) → All (λ note. cube_of note ≡ cube) notes → AreFileLines file (bytes_of readings file) notes lines → AreLinesOf readings files notes lines
    of-cube notes lines are is = by (bytes_of readings file) refl is where
      by : (found : Option (List ℕ)) → bytes_of readings file ≡ found → AreFileLines file found notes lines → AreLinesOf readings files notes lines
      by None none empty = subst (AreLinesOf readings files notes) (sym empty) (unread none notes are)
      by (Some text) some it = subst (AreLinesOf readings files notes) (sym it.are) (of-text text it.lexed it.fault it.reading some notes are)

  -- the notes of one cube, and those behind them
  pub joined : (notes more : List Note) (lines others : List ℕ) → AreLinesOf readings files notes lines → AreLinesOf readings files more others → AreLinesOf readings files (notes ++ more) (lines ++ others)
  joined [] more lines others none are = subst (AreLinesOf readings files more) (sym (ap (λ l. l ++ others) none)) are
  joined (note ∷ notes) more lines others (own, rest, own-is, rest-are, lines-are) are = (
    own,
    rest ++ others,
    own-is,
    joined notes more rest others rest-are are,
    ap (λ l. l ++ others) lines-are ∙ append_assoc own rest others,
  )

  -- the notes up to some place, and the next ones of one cube
  pub onward : (found done left own others : List Note) (lines more : List ℕ) → done ++ left ≡ found → own ++ others ≡ left → AreLinesOf readings files done lines → AreLinesOf readings files own more
      → (all : List Note) × (all ++ others ≡ found) × AreLinesOf readings files all (lines ++ more)
  onward found done left own others lines more whole parts are are_more =
      (done ++ own, append_assoc done own others ∙ ap (λ l. done ++ l) parts ∙ whole, joined done own lines more are are_more)

-- the lines of the notes up to some place, while their places are found
module _ (file text : List ℕ) (found : List Note) where
  pub record AreLinesUpTo (rules : RuleText) (at : ℕ) (lines : List ℕ) : Type 0 where
    pub known : IsTextOf text rules
    pub are : lines ≡ lines_by file text rules.tokens (take at found)

  module _ (rules more : RuleText) (at : ℕ) (lines longer : List ℕ) (note : Note) (is : AreLinesUpTo rules at lines) where
    pub further : at < length found → note ≡ get_or found at note → longer ≡ lines ++ note_line file rules.text.now note (noted_tokens note rules.tokens) → IsKnown more → (more.tokens ≡ rules.tokens) × (more.text.now ≡ rules.text.now) → AreLinesUpTo more (at + 1) longer
    further inside here added known same =
        let notes = take at found in
        let one = note_line file text note (noted_tokens note rules.tokens) in
        let all : take (at + 1) found ≡ notes ++ note ∷ [] = take_more found at note inside ∙ ap (λ n. notes ++ n ∷ []) (sym here) in record {
          known = record {
            known = known;
            is = same.1 ∙ is.known.is;
            lexed = is.known.lexed;
            fault = is.known.fault;
            reading = is.known.reading;
            tokens = same.0 ∙ is.known.tokens;
          };
          are =
              added
              ∙ ap (λ t. lines ++ note_line file t note (noted_tokens note rules.tokens)) is.known.is
              ∙ ap (λ l. l ++ one) is.are
              ∙ sym (ap (lines_by file text more.tokens) all ∙ ap (λ t. lines_by file text t (notes ++ note ∷ [])) same.0 ∙ one-more file text rules.tokens notes note);
        }

    pub all-found : length found ≤ at → AreTextLines file text found lines
    all-found past = record {
      lexed = is.known.lexed;
      fault = is.known.fault;
      reading = is.known.reading;
      are = is.are ∙ ap (λ t. lines_by file text t (take at found)) is.known.tokens ∙ ap (lines_by file text is.known.lexed.lexemes) (take_all at found past);
    }

-- a first note of a cube and those behind it
pub with-first : (cube : ℕ) (first : Note) (notes : List Note) → cube_of first ≡ cube → All (λ note. cube_of note ≡ cube) notes → All (λ note. cube_of note ≡ cube) (first ∷ notes)
with-first cube first notes is are zero other inside = is
with-first cube first notes is are (suc k) other inside = are k other (omega (arith, inside))
