-- The bytes of a load script have one answer.
use Rattle.std.proofs.Common.{◌≡◌, ◌≢◌, ℕ, List, [], refl, sym, ap, subst, append-nil, Ok, Err}
use Rattle.cube_lex.specs.Lexeme.{Lexeme}
use Rattle.cube_lex.proofs.Unique.{reading-only}
use Rattle.cube_lex.specs.declared.position.Position.{Position}
use Rattle.grammar.specs.Watch.{Passes}
use Rattle.grammar.specs.Whole.{IsWholeText, IsWholeSyntax, IsWholeRefused, HasOneAnswer}
use Rattle.grammar.proofs.Cuts.{token_cuts}
use Rattle.grammar.proofs.OneAnswer.{one_answer}
use Rattle.script_tree.specs.Counting.{count, counting, start}
use Rattle.script_tree.specs.ScriptText.{script}
use Rattle.script_tree.specs.declared.counted.Counted.{Counted}
use Rattle.script_tree.specs.declared.excess.Excess.{Excess}
use Rattle.script_tree.specs.declared.excess.Excess.TheVariants as excesses
use Rattle.script_tree.specs.declared.script.Script.{Script}
use Rattle.script_reader.specs.Answers.{FromStart, Answers}
use Rattle.script_reader.specs.declared.fault.ScriptFault.{ScriptFault}
use Rattle.script_reader.specs.declared.fault.ScriptFault.TheVariants as faults
use Rattle.script_text_laws.specs.ScriptAnswers.{OneScriptAnswer}
use Rattle.script_text_laws.proofs.SectionsOnce.{script_once}

module _ (begin : Counted) where
  one_tree : (ts : List Lexeme) (x y : Script) (r : Counted) → Passes counting begin ts r → script ts x → script ts y → x ≡ y
  one_tree ts x y r passes h g = let (tree, _) = script_once.at begin r ts [] ts [] x y (subst (λ z. Passes counting begin z r) (sym (append-nil ts)) passes) refl h g refl refl in tree

  one_from : HasOneAnswer script counting begin
  one_from = one_answer script counting begin (token_cuts count) one_tree

module _ (bytes : List ℕ) where
  -- what is said of the start of the watch twice is said of one start
  one_start : {P Q : Counted → Type 0} {X : Type 0} → FromStart bytes P → FromStart bytes Q → ((s : Counted) → P s → Q s → X) → X
  one_start {P = P} (lexed, fault, reading, p) (other, later, again, q) follows =
      let (same, _) = reading-only bytes lexed other fault later reading again in
      follows (start other.lexemes) (subst (λ l. P (start l.lexemes)) same p) q

  abbrev IsTree : Script → Counted → Type 0
  IsTree tree s = (c : Counted) × IsWholeText script counting s bytes tree c

  abbrev IsPlace : Position → Counted → Type 0
  IsPlace at s = IsWholeSyntax script counting s bytes at

  abbrev IsExcess : Excess → Counted → Type 0
  IsExcess excess s = IsWholeRefused script counting s bytes excess

  one_script : (x y : Script) → Answers bytes (Ok x) → Answers bytes (Ok y) → x ≡ y
  one_script x y h g = one_start {P = IsTree x} {Q = IsTree y} h g (λ s (c, k) (d, l). (one_from s).one_tree bytes x y c d k l)

  one_place : (k l : Position) → FromStart bytes (IsPlace k) → FromStart bytes (IsPlace l) → k ≡ l
  one_place k l h g = one_start {P = IsPlace k} {Q = IsPlace l} h g (λ s i j. (one_from s).one_place bytes k l i j)

  one_excess : (c d : Excess) → FromStart bytes (IsExcess c) → FromStart bytes (IsExcess d) → c ≡ d
  one_excess c d h g = one_start {P = IsExcess c} {Q = IsExcess d} h g (λ s i j. (one_from s).one_cause bytes c d i j)

  place_or_excess : (k : Position) (c : Excess) → FromStart bytes (IsPlace k) → FromStart bytes (IsExcess c) → ⊥
  place_or_excess k c h g = one_start {P = IsPlace k} {Q = IsExcess c} h g (λ s i j. (one_from s).one_fault bytes k c i j)

  tree_or_place : (x : Script) (k : Position) → FromStart bytes (IsTree x) → FromStart bytes (IsPlace k) → ⊥
  tree_or_place x k h g = one_start {P = IsTree x} {Q = IsPlace k} h g (λ s (c, i) j. (one_from s).no_syntax bytes x c k i j)

  tree_or_excess : (x : Script) (d : Excess) → FromStart bytes (IsTree x) → FromStart bytes (IsExcess d) → ⊥
  tree_or_excess x d h g = one_start {P = IsTree x} {Q = IsExcess d} h g (λ s (c, i) j. (one_from s).no_refusal bytes x c d i j)

  fault_of : Excess → ScriptFault
  fault_of (excesses.UnknownFunction at) = faults.UnknownFunction at
  fault_of (excesses.TooDeep at) = faults.TooDeep at

  one_fault : (e f : ScriptFault) → e ≢ faults.Memory → f ≢ faults.Memory → Answers bytes (Err e) → Answers bytes (Err f) → e ≡ f
  unfolding fault_of
  one_fault (faults.Syntax k) (faults.Syntax l) some other h g = ap (λ at. faults.Syntax at) (one_place k l h g)
  one_fault (faults.Syntax k) (faults.UnknownFunction l) some other h g = absurd (place_or_excess k (excesses.UnknownFunction l) h g)
  one_fault (faults.Syntax k) (faults.TooDeep l) some other h g = absurd (place_or_excess k (excesses.TooDeep l) h g)
  one_fault (faults.Syntax k) faults.Memory some other h g = absurd (other refl)
  one_fault (faults.UnknownFunction k) (faults.Syntax l) some other h g = absurd (place_or_excess l (excesses.UnknownFunction k) g h)
  one_fault (faults.UnknownFunction k) (faults.UnknownFunction l) some other h g = ap fault_of (one_excess (excesses.UnknownFunction k) (excesses.UnknownFunction l) h g)
  one_fault (faults.UnknownFunction k) (faults.TooDeep l) some other h g = ap fault_of (one_excess (excesses.UnknownFunction k) (excesses.TooDeep l) h g)
  one_fault (faults.UnknownFunction k) faults.Memory some other h g = absurd (other refl)
  one_fault (faults.TooDeep k) (faults.Syntax l) some other h g = absurd (place_or_excess l (excesses.TooDeep k) g h)
  one_fault (faults.TooDeep k) (faults.UnknownFunction l) some other h g = ap fault_of (one_excess (excesses.TooDeep k) (excesses.UnknownFunction l) h g)
  one_fault (faults.TooDeep k) (faults.TooDeep l) some other h g = ap fault_of (one_excess (excesses.TooDeep k) (excesses.TooDeep l) h g)
  one_fault (faults.TooDeep k) faults.Memory some other h g = absurd (other refl)
  one_fault faults.Memory f some other h g = absurd (some refl)

  not_both : (x : Script) (e : ScriptFault) → e ≢ faults.Memory → Answers bytes (Ok x) → Answers bytes (Err e) → ⊥
  not_both x (faults.Syntax k) some h g = tree_or_place x k h g
  not_both x (faults.UnknownFunction k) some h g = tree_or_excess x (excesses.UnknownFunction k) h g
  not_both x (faults.TooDeep k) some h g = tree_or_excess x (excesses.TooDeep k) h g
  not_both x faults.Memory some h g = some refl

  pub script_texts : OneScriptAnswer bytes
  script_texts = record { one_script = one_script; one_fault = one_fault; not_both = not_both }
