-- What is printed of rules is read as the rules.
use Rattle.std.proofs.Common.{◌≡◌, ℕ, List, [], ◌∷◌, ◌++◌, map, true, Some, None, Result, Ok, Err, is_ok, OnOk, if◌then◌else◌, refl, sym, ap, ◌∙◌, subst, ◌≤◌, length, arith}
use Rattle.std.specs.Result.{result_ok}
use Rattle.cube_lex.proofs.WellFormed.{well_formed}
use Rattle.cube_lex.proofs.WrittenTexts.{written-reading}
use Rattle.cube_lex.specs.Lexeme.{Lexeme}
use Rattle.cube_lex.specs.Written.{spelling_of, IsWritten, Writes}
use Rattle.cube_lex.specs.Reading.{most_text_bytes}
use Rattle.grammar.specs.Fault.{IsText}
use Rattle.grammar.specs.Watch.{AllPass, joined, Passes}
use Rattle.grammar.proofs.Exact.{passes_nothing, passes-append, passes_one}
use Rattle.expression_grammar.proofs.PrintedLimits.{Goes}
use Rattle.rule_tree.specs.Counting.{count, counting, start}
use Rattle.rule_printer.specs.Printed.{IsRuleText, IsTextOf, IsPrinted}
use Rattle.rule_tree.specs.RuleText.{rules}
use Rattle.rule_printer.specs.Spelled.{rules_spelled}
use Rattle.rule_printer.specs.Writable.{are_writable}
use Rattle.rule_tree.specs.declared.counted.Counted.{Counted}
use Rattle.rule_tree.specs.declared.excess.Excess.{Excess}
use Rattle.rule_tree.specs.declared.rule.RuleText.{RuleText}
use Rattle.rule_printer.proofs.Kept.{keeps_rules}
use Rattle.rule_printer.proofs.PrintedCounting.{step}
use Rattle.rule_printer.proofs.PrintedRules.{rules_end}
use Rattle.rule_printer.proofs.PrintedStatements.{rules_again}

-- The watch of a text, token by token.

goes_of : (c e : Counted) (pieces : List (List Lexeme)) → AllPass counting c pieces e → Goes step c (joined pieces) e
goes_of c e [] is = is
goes_of c e (u ∷ pieces) (m, (t, is, passes), rest) = subst (λ l. Goes step c (l ++ joined pieces) e) (sym is) (m, ap result_ok passes, goes_of m e pieces rest)

goes_from : (c e : Counted) (ts : List Lexeme) → Passes counting c ts e → Goes step c ts e
goes_from c e ts passes = subst (λ l. Goes step c l e) (sym passes.parts) (goes_of c e passes.pieces passes.pass)

ok_from : (r : Result Counted Excess) (m : Counted) → result_ok r ≡ Some m → r ≡ Ok m
ok_from (Ok x) m e = let same : x ≡ m = cc in ap Ok same
ok_from (Err x) m e = cc

passes_from : (ts : List Lexeme) (c e : Counted) → Goes step c ts e → Passes counting c ts e
passes_from [] c e goes = subst (λ x. Passes counting c [] x) (sym goes) (passes_nothing counting c)
passes_from (t ∷ ts) c e (m, taken, goes) =
    passes-append counting c m e (t ∷ []) ts (passes_one counting c m (t ∷ []) (t, refl, ok_from (count c t) m taken)) (passes_from ts m e goes)

-- the written tokens of rules, wherever they stand, are a text of them within the limits
tokens_again : (text : RuleText) (u : List Lexeme) (c : Counted) → IsText rules counting start u text c → (ts : List Lexeme) → map spelling_of ts ≡ rules_spelled text → (e : Counted) × IsText rules counting start ts text e
tokens_again text u c is ts same =
    let (e, goes) = (rules_end u text is.text).at ts same start c refl (goes_from start c u is.passes) in
    (e, record { text = (rules_again u text is.text).at ts same; passes = passes_from ts start e goes })

-- what is read of some text can be written
pub writable_rules : (text : RuleText) → IsRuleText text → are_writable text ≡ true
writable_rules text (bytes, c, whole) = keeps_rules.at whole.lexed.lexemes text (well_formed bytes whole.lexed None whole.reading) whole.text.text

text_of : (text : RuleText) → IsRuleText text → (bytes : List ℕ) → IsWritten (rules_spelled text) bytes → length bytes ≤ most_text_bytes → IsTextOf text bytes
text_of text (source, c, whole) bytes written_so small =
    let (lexed, reading, same) = written-reading (rules_spelled text) bytes written_so small in
    let (e, again) = tokens_again text whole.lexed.lexemes c whole.text lexed.lexemes same in
    (e, record { lexed = lexed; reading = reading; text = again })

cancel : (old a b : List ℕ) → old ++ a ≡ old ++ b → a ≡ b
cancel [] a b e = e
cancel (x ∷ old) a b e = cancel old a b (cc e)

-- where the tokens of rules were written
is_printed : (text : RuleText) → IsRuleText text → (old new : List ℕ) → Writes old new (rules_spelled text) → IsPrinted text old new
is_printed text is old new (bytes, is_new, written_so, short) = record {
  writes = (bytes, is_new, written_so, short);
  reads = λ small more also. subst (IsTextOf text) (cancel old bytes more (sym is_new ∙ also)) (text_of text is bytes written_so (omega (arith, short, small)));
}

-- what a call that appends the written tokens has printed
pub printed_told : {T E : Type 0} (r : Result T E) (text : RuleText) → IsRuleText text → (old new written : List ℕ) → Writes [] written (rules_spelled text)
    → new ≡ (if is_ok r then old ++ written else old) → OnOk r (IsPrinted text old new)
printed_told (Ok x) text is old new written (bytes, written_is, written_so, short) e = is_printed text is old new (bytes, e ∙ ap (λ b. old ++ b) written_is, written_so, short)
printed_told (Err fault) text is old new written writes e = tt
