-- No bytes are both a script and refused as one.
use Rattle.std.proofs.Common.{◌≢◌, ℕ, List, [], ◌∷◌, ◌++◌, Option, Some, None, Ok, Err, refl, subst}
use Rattle.cube_lex.specs.Lexeme.{Lexeme}
use Rattle.cube_lex.specs.declared.fault.LexFault.{LexFault}
use Rattle.cube_lex.proofs.Unique.{reading-only}
use Rattle.cube_lex.specs.declared.position.Position.{Position}
use Rattle.grammar.specs.Fault.{Fails}
use Rattle.grammar.specs.Grammar.{Grammar, Alive}
use Rattle.grammar.specs.Watch.{Watch}
use Rattle.grammar.specs.Whole.{IsWholeText, FailsBefore, IsWholeSyntax, IsWholeRefused, HasOneAnswer}
use Rattle.grammar.proofs.Cuts.{token_cuts}
use Rattle.grammar.proofs.OneAnswer.{one_answer}
use Rattle.script_reader.specs.Answers.{FromStart, Answers}
use Rattle.script_reader.specs.declared.fault.ScriptFault.{ScriptFault}
use Rattle.script_reader.specs.declared.fault.ScriptFault.TheVariants as faults
use Rattle.script_tree.specs.Counting.{count, counting, start}
use Rattle.script_tree.specs.ScriptText.{script}
use Rattle.script_tree.specs.declared.counted.Counted.{Counted}
use Rattle.script_tree.specs.declared.excess.Excess.{Excess}
use Rattle.script_tree.specs.declared.excess.Excess.TheVariants as excesses
use Rattle.script_tree.specs.declared.script.Script.{Script}

-- the texts of a grammar, whatever their trees are

abbrev texts : {A : Type 0} → Grammar Lexeme A → Grammar Lexeme (Unit {0})
texts {A} G ts u = (a : A) × G ts a

module _ {A R C : Type 0} (G : Grammar Lexeme A) (W : Watch Lexeme R C) (begin : R) where
  alive-texts : (ts : List Lexeme) → Alive G ts → Alive (texts G) ts
  alive-texts ts (more, a, is) = (more, tt, (a, is))

  fails-texts : (before rest : List Lexeme) → Fails G before rest → Fails (texts G) before rest
  fails-texts before [] fails = λ u is. fails is.0 is.1
  fails-texts before (t ∷ rest) fails = λ alive. fails (alive.0, alive.2.0, alive.2.1)

  before-texts : (fault : Option LexFault) (before rest : List Lexeme) → FailsBefore G fault before rest → FailsBefore (texts G) fault before rest
  before-texts None before rest fails = fails-texts before rest fails
  before-texts (Some fault) before [] fails = tt
  before-texts (Some fault) before (t ∷ rest) fails = fails-texts before (t ∷ rest) fails

  text-texts : (bytes : List ℕ) (a : A) (r : R) → IsWholeText G W begin bytes a r → IsWholeText (texts G) W begin bytes tt r
  text-texts bytes a r is = record { lexed = is.lexed; reading = is.reading; text = record { text = (a, is.text.text); passes = is.text.passes } }

  syntax-texts : (bytes : List ℕ) (place : Position) → IsWholeSyntax G W begin bytes place → IsWholeSyntax (texts G) W begin bytes place
  syntax-texts bytes place is = record {
    lexed = is.lexed;
    fault = is.fault;
    reading = is.reading;
    before = is.before;
    rest = is.rest;
    parts = is.parts;
    place = is.place;
    alive = alive-texts is.before is.alive;
    within = is.within;
    fails = before-texts is.fault is.before is.rest is.fails;
  }

  refused-texts : (bytes : List ℕ) (cause : C) → IsWholeRefused G W begin bytes cause → IsWholeRefused (texts G) W begin bytes cause
  refused-texts bytes cause is = record {
    lexed = is.lexed;
    fault = is.fault;
    reading = is.reading;
    refused = record {
      before = is.refused.before;
      last = is.refused.last;
      rest = is.refused.rest;
      parts = is.refused.parts;
      alive = alive-texts (is.refused.before ++ is.refused.last ∷ []) is.refused.alive;
      refused = is.refused.refused;
    };
  }

script_texts : (begin : Counted) → HasOneAnswer (texts script) counting begin
script_texts begin = one_answer (texts script) counting begin (token_cuts count) (λ ts x y r passes p q. refl)

-- what is said of the start of the watch twice is said of one start
both_starts : {P Q : Counted → Type 0} (bytes : List ℕ) → FromStart bytes P → FromStart bytes Q → ((s : Counted) → P s → Q s → ⊥) → ⊥
both_starts {P} {Q} bytes (lexed, fault, reading, p) (other, later, again, q) clash =
    let same = reading-only bytes lexed other fault later reading again in
    clash (start other.lexemes) (subst (λ l. P (start l.lexemes)) same.0 p) q

abbrev IsTree : List ℕ → Script → Counted → Type 0
IsTree bytes tree s = (c : Counted) × IsWholeText script counting s bytes tree c

no_syntax : (bytes : List ℕ) (tree : Script) (place : Position) → FromStart bytes (IsTree bytes tree) → FromStart bytes (λ s. IsWholeSyntax script counting s bytes place) → ⊥
no_syntax bytes tree place p q =
    both_starts {P = IsTree bytes tree} {Q = λ s. IsWholeSyntax script counting s bytes place} bytes p q
    (λ s is fails. (script_texts s).no_syntax bytes tt is.0 place (text-texts script counting s bytes tree is.0 is.1) (syntax-texts script counting s bytes place fails))

no_refusal : (bytes : List ℕ) (tree : Script) (excess : Excess) → FromStart bytes (IsTree bytes tree) → FromStart bytes (λ s. IsWholeRefused script counting s bytes excess) → ⊥
no_refusal bytes tree excess p q =
    both_starts {P = IsTree bytes tree} {Q = λ s. IsWholeRefused script counting s bytes excess} bytes p q
    (λ s is refused. (script_texts s).no_refusal bytes tt is.0 excess (text-texts script counting s bytes tree is.0 is.1) (refused-texts script counting s bytes excess refused))

pub no_fault_of_script : (bytes : List ℕ) (tree : Script) (fault : ScriptFault) → fault ≢ faults.Memory → Answers bytes (Ok tree) → Answers bytes (Err fault) → ⊥
no_fault_of_script bytes tree (faults.Syntax place) some p q = no_syntax bytes tree place p q
no_fault_of_script bytes tree (faults.UnknownFunction place) some p q = no_refusal bytes tree (excesses.UnknownFunction place) p q
no_fault_of_script bytes tree (faults.TooDeep place) some p q = no_refusal bytes tree (excesses.TooDeep place) p q
no_fault_of_script bytes tree faults.Memory some p q = some refl
