-- The reader of rule texts is exact.
use Rattle.std.proofs.Common.{List, [], ◌++◌, Bool, true, false, codes, ◌∙◌, ap, inl, inr, append_assoc}
use Rattle.cube_lex.specs.Lexeme.{Lexeme}
use Rattle.grammar.specs.Grammar.{Grammar, one, both, done, many}
use Rattle.grammar.specs.Reading.{starts}
use Rattle.grammar.specs.Tokens.{sign, word, is_sign, is_word}
use Rattle.grammar.proofs.Exact.{Exact, Always, Not, exact_gives, exact_then, exact_both, exact_made, exact_choose}
use Rattle.grammar.proofs.Begins.{Begins, begins_both, starts_text, starts_many, made_is, exact_option, exact_before_next}
use Rattle.grammar.proofs.Many.{exact_all, exact_rest}
use Rattle.grammar.proofs.Tokens.{exact_sign, exact_word, word_begins, word_no_sign, sign_no_word}
use Rattle.grammar.proofs.Top.{AtEnd}
use Rattle.rule_tree.specs.Counting.{count, counting}
use Rattle.rule_tree.specs.RuleText.{statement, feeder, skipcheck, automatic, given_feeders, feeders, rules}
use Rattle.rule_reader.specs.Readers.TextReading.{read_statements, read_automatic, read_given_feeders, read_feeders, read_skipcheck, read_rules}
use Rattle.rule_tree.specs.declared.rule.FeederText.{FeederText}
use Rattle.rule_tree.specs.declared.rule.RuleText.{RuleText}
use Rattle.rule_tree.specs.declared.rule.StatementText.{StatementText}
use Rattle.rule_reader.proofs.FeederExact.{feeder_exact, feeder_begins}
use Rattle.rule_reader.proofs.StatementExact.{BehindBody, statement_exact, statement_begins, statement_no_word}

skipcheck_exact : Exact counting skipcheck skipcheck read_skipcheck (Not (is_word (codes "SKIPCHECK")))
unfolding read_skipcheck
skipcheck_exact = exact_option (is_word (codes "SKIPCHECK")) false (begins_both (word_begins (codes "SKIPCHECK") (codes "SKIPCHECK")))
    (exact_then (exact_word count (codes "SKIPCHECK")) (λ _. exact_then (exact_sign count (codes ";")) (λ _. exact_gives counting true)))

-- what may stand behind the statements
pub record BehindStatements (rest : List Lexeme) : Type 0 where
  pub bracket : Not (is_sign (codes "[")) rest
  pub body : BehindBody rest

pub behind_statements : (list : List StatementText) (v rest : List Lexeme) → many statement v list → BehindStatements rest → BehindBody (v ++ rest)
behind_statements list v rest h stops = record {
  leaf = starts_many (statement_no_word (codes "N")) list v rest h stops.body.leaf;
  cons = starts_many (statement_no_word (codes "C")) list v rest h stops.body.cons;
}

statements_exact : Exact counting (many statement) (many statement) read_statements BehindStatements
statements_exact = exact_all (is_sign (codes "[")) true statement_begins statement_begins (λ rest stops. stops.bracket) behind_statements statement_exact

pub given_feeders_begin : Begins given_feeders (is_word (codes "FEEDERS")) true
given_feeders_begin = begins_both (word_begins (codes "FEEDERS") (codes "FEEDERS"))

pub ended_by : (p : Lexeme → Bool) (rest : List Lexeme) → AtEnd rest → Not p rest
ended_by p rest end = ap (starts p) end

automatic_exact : Exact counting automatic automatic read_automatic (Not (is_word (codes "AUTO")))
unfolding read_automatic
automatic_exact = exact_option (is_word (codes "AUTO")) false (begins_both (word_begins (codes "AUTO") (codes "AUTO")))
    (exact_then (exact_word count (codes "AUTO")) (λ _. exact_gives counting true))

given_exact : Exact counting given_feeders given_feeders read_given_feeders (Not (is_sign (codes "[")))
unfolding read_given_feeders
given_exact = exact_then (exact_word count (codes "FEEDERS")) (λ _. exact_before_next automatic_exact
    (λ finds. exact_then (exact_sign count (codes ";")) (λ _. exact_made (λ given. (finds, given)) (exact_rest (is_sign (codes "[")) feeder_begins feeder_begins feeder_exact)))
    (λ finds. begins_both (sign_no_word (codes ";") (codes "AUTO"))))

feeders_exact : Exact counting feeders feeders read_feeders AtEnd
unfolding read_feeders
feeders_exact = exact_choose {S = Not (is_sign (codes "["))} {S' = Always} {S'' = AtEnd} (is_word (codes "FEEDERS"))
    given_exact
    (exact_gives counting (false, []))
    (λ u a rest h end. (starts_text given_feeders_begin u a rest h, ended_by (is_sign (codes "[")) rest end))
    (λ u a rest nothing end. (ap (λ x. starts (is_word (codes "FEEDERS")) (x ++ rest)) nothing.0 ∙ ended_by (is_word (codes "FEEDERS")) rest end, tt))

-- what the feeders of a text don't begin with, nor what follows the statements
feeders_tell : (p : Lexeme → Bool) → Begins given_feeders p false → (v : List Lexeme) (feeding : Bool × List FeederText) (rest : List Lexeme) → feeders v feeding → AtEnd rest → Not p (v ++ rest)
feeders_tell p begins v feeding rest (inl h) end = starts_text begins v feeding rest h
feeders_tell p begins v feeding rest (inr nothing) end = ap (λ x. starts p (x ++ rest)) nothing.0 ∙ ended_by p rest end

pub given_no_bracket : Begins given_feeders (is_sign (codes "[")) false
given_no_bracket = begins_both (word_no_sign (codes "FEEDERS") (codes "["))

pub given_no_leaf : Begins given_feeders (is_word (codes "N")) false
given_no_leaf = begins_both (word_begins (codes "FEEDERS") (codes "N"))

pub given_no_cons : Begins given_feeders (is_word (codes "C")) false
given_no_cons = begins_both (word_begins (codes "FEEDERS") (codes "C"))

given_no_skipcheck : Begins given_feeders (is_word (codes "SKIPCHECK")) false
given_no_skipcheck = begins_both (word_begins (codes "FEEDERS") (codes "SKIPCHECK"))

abbrev pub whole : Bool → List StatementText → Bool × List FeederText → RuleText
whole skips statements feeding = record { skipcheck = skips; statements = statements; finds_feeders = feeding.0; feeders = feeding.1 }

-- what stands behind the statements
abbrev pub behind : Bool → List StatementText → Grammar Lexeme RuleText
behind skips statements = both feeders (λ feeding. done (whole skips statements feeding))

pub behind_tells : (p : Lexeme → Bool) → Begins given_feeders p false → (skips : Bool) (statements : List StatementText) (v : List Lexeme) (a : RuleText) (rest : List Lexeme) → behind skips statements v a → AtEnd rest → Not p (v ++ rest)
behind_tells p begins skips statements v a rest h end = let (feeding, k) = made_is feeders (λ feeding. whole skips statements feeding) v a h in feeders_tell p begins v feeding rest k end

-- what stands behind `SKIPCHECK ;`
abbrev pub behind_skipcheck : Bool → Grammar Lexeme RuleText
behind_skipcheck skips = both (many statement) (λ statements. behind skips statements)

pub skipcheck_tells : (skips : Bool) (v : List Lexeme) (a : RuleText) (rest : List Lexeme) → behind_skipcheck skips v a → AtEnd rest → Not (is_word (codes "SKIPCHECK")) (v ++ rest)
skipcheck_tells skips v a rest (y, z, list, parts, h, k) end =
    ap (λ x. starts (is_word (codes "SKIPCHECK")) (x ++ rest)) parts ∙ ap (starts (is_word (codes "SKIPCHECK"))) (append_assoc y z rest)
    ∙ starts_many (statement_no_word (codes "SKIPCHECK")) list y (z ++ rest) h (behind_tells (is_word (codes "SKIPCHECK")) given_no_skipcheck skips list z a rest k end)

pub rules_exact : Exact counting rules rules read_rules AtEnd
unfolding read_rules
rules_exact = exact_both skipcheck_exact (λ skips. exact_both statements_exact (λ statements. exact_made (λ feeding. whole skips statements feeding) feeders_exact)
    (λ statements v a rest h end. record {
      bracket = behind_tells (is_sign (codes "[")) given_no_bracket skips statements v a rest h end;
      body = record {
        leaf = behind_tells (is_word (codes "N")) given_no_leaf skips statements v a rest h end;
        cons = behind_tells (is_word (codes "C")) given_no_cons skips statements v a rest h end;
      };
    }))
    (λ skips v a rest h end. skipcheck_tells skips v a rest h end)
