-- The readers of whole statements are exact, with whatever blocks inside them.
use Rattle.std.proofs.Common.{ℕ, zero, suc, List, true, inl, inr}
use Rattle.cube_lex.specs.Lexeme.{Lexeme}
use Rattle.grammar.specs.Grammar.{many}
use Rattle.grammar.specs.Tokens.{is_any_word}
use Rattle.grammar.proofs.Exact.{Exact, Outcome, Agrees, Always, exact_by}
use Rattle.grammar.proofs.Begins.{Begins}
use Rattle.grammar.proofs.Many.{exact_rest}
use Rattle.expression_grammar.specs.Limits.{most_inside}
use Rattle.script_tree.specs.Counting.{counting}
use Rattle.script_tree.specs.Statement.{statement_within, statement}
use Rattle.script_reader.specs.Readers.StatementReading.{begins_statement, read_within}
use Rattle.script_tree.specs.declared.line.Line.{Line}
use Rattle.script_tree.specs.declared.script.Section.{Section}
use Rattle.script_reader.proofs.StatementExact.{statement_exact, statement_opens, statement_any, leaping_sample}

module _ (section : Section) where
  within_opens : (h : ℕ) → Begins (statement_within section h) begins_statement true
  within_opens zero = record { at = λ u l h. absurd h }
  within_opens (suc h) = statement_opens section (many (statement_within section h))

  within_any : (h : ℕ) → Begins (statement_within section h) is_any_word true
  within_any zero = record { at = λ u l h. absurd h }
  within_any (suc h) = statement_any section (many (statement_within section h))

  pub statement_begins : Begins (statement section) is_any_word true
  statement_begins = record { at = λ u l (h, g). (within_any h).at u l g }

  a_statement : (u : List Lexeme) × (l : Line) × statement_within section 1 u l
  a_statement = let (u, l, h) = leaping_sample section in (u, l, inr (inr (inr (inr (inl h)))))

  -- the reader answers what is nested less deep than it may go, and takes each statement for what it is
  abbrev IsExactWithin : ℕ → ℕ → Type 0
  IsExactWithin k h = Exact counting (statement_within section (suc k)) (statement_within section h) (read_within section k) Always

  one_deeper : (k h : ℕ) → IsExactWithin k h → IsExactWithin (suc k) (suc h)
  unfolding read_within
  one_deeper k h inner = statement_exact (exact_rest begins_statement (within_opens (suc k)) (within_opens h) inner) section

  exact_within : (k h : ℕ) → IsExactWithin k h
  unfolding read_within Outcome Agrees
  exact_within zero h = record {
    word = a_statement;
    sound = λ n ts. tt;
    complete = λ n u l rest g stops. tt;
  }
  exact_within (suc k) zero = exact_by (λ u l h. h) (λ u l h. absurd h) (one_deeper k zero (exact_within k zero))
  exact_within (suc k) (suc h) = one_deeper k h (exact_within k h)

  pub whole_statement_exact : Exact counting (statement section) (statement section) (read_within section most_inside) Always
  whole_statement_exact =
      let told : Exact counting (statement section) (statement_within section 0) (read_within section most_inside) Always = exact_by (λ u l h. (suc most_inside, h)) (λ u l h. h) (exact_within most_inside 0) in
      record {
        word = told.word;
        sound = told.sound;
        complete = λ n u l rest (h, g) stops. (exact_within most_inside h).complete n u l rest g stops;
      }
