-- The bytes of a rule text have one answer.
use Rattle.std.proofs.Common.{◌≡◌, ℕ, List, [], ◌∷◌, ◌++◌, Bool, true, false, codes, refl, sym, ◌∙◌, ap, subst, append-nil}
use Rattle.cube_lex.specs.Lexeme.{Lexeme}
use Rattle.grammar.specs.Grammar.{Grammar, done, one, both, either, many}
use Rattle.grammar.specs.Lists.{listed, next}
use Rattle.grammar.specs.Reading.{starts}
use Rattle.grammar.specs.Tokens.{sign, word, is_sign, is_word}
use Rattle.grammar.specs.Watch.{Passes}
use Rattle.grammar.specs.Whole.{HasOneAnswer}
use Rattle.grammar.proofs.Begins.{Begins, begins_both, made_is, starts_text, starts_many}
use Rattle.grammar.proofs.Cuts.{token_cuts}
use Rattle.grammar.proofs.Exact.{Always, Not}
use Rattle.grammar.proofs.Lists.{BehindList, next_begins, next_tells, behind_list}
use Rattle.grammar.proofs.OneAnswer.{one_answer}
use Rattle.grammar.proofs.Tokens.{sign_begins, word_begins, word_no_sign, sign_no_word}
use Rattle.grammar.proofs.Top.{AtEnd}
use Rattle.expression_grammar.specs.Readers.Reading.{read_expression, tree_of}
use Rattle.expression_grammar.specs.declared.sort.Want.TheVariants as wants
use Rattle.expression_grammar.proofs.ExpressionExact.{value_exact}
use Rattle.expression_grammar.proofs.Languages.{goes_on}
use Rattle.rule_tree.specs.Counting.{count, counting, start}
use Rattle.rule_tree.specs.Formula.{rules_language, bracket, formula}
use Rattle.rule_tree.specs.RuleText.{area, ended, part, leaf_first, cons_first, body, statement, database, target, feeder, skipcheck, automatic, given_feeders, feeders, rules}
use Rattle.rule_tree.specs.declared.counted.Counted.{Counted}
use Rattle.rule_tree.specs.declared.rule.BodyText.TheVariants as bodies
use Rattle.rule_tree.specs.declared.rule.RuleText.{RuleText}
use Rattle.rule_tree.specs.declared.rule.TargetText.TheVariants as targets
use Rattle.rule_reader.specs.Readers.Reading.{read_bracket, read_primary}
use Rattle.rule_reader.specs.Readers.TextReading.{starts_part, read_area}
use Rattle.rule_reader.proofs.AreaExact.{area_exact}
use Rattle.rule_reader.proofs.BracketExact.{bracket_exact}
use Rattle.rule_reader.proofs.FeederExact.{feeder_begins}
use Rattle.rule_reader.proofs.FormulaExact.{rules_are_language}
use Rattle.rule_reader.proofs.PrimaryExact.{comma, closing}
use Rattle.rule_reader.proofs.RulesExact.{BehindStatements, behind_statements, given_feeders_begin, ended_by, whole, behind_tells, skipcheck_tells, given_no_bracket, given_no_leaf, given_no_cons}
use Rattle.rule_reader.proofs.StatementExact.{BehindBody, statement_begins, semicolon, behind_leaf, behind_cons, plain, part_first, plain_no_part, no_leaf}
use Rattle.rule_text_laws.proofs.OneTree.{OneTree, once_read, once_one, once_done, once_both, once_then, once_before_next, once_either, once_or, once_option, once_many}
use Rattle.rule_text_laws.proofs.RuleSettles.{below_bracket, below_area, below_formula}

-- What has a reader that settles.

formula_once : OneTree count formula (Not (goes_on rules_language))
formula_once = once_read (λ k. tree_of (read_expression count rules_language read_primary k wants.Value)) (λ k. value_exact rules_are_language k) below_formula

area_once : OneTree count area Always
area_once = once_read (λ _. read_area) (λ _. area_exact) below_area

bracket_once : OneTree count bracket Always
bracket_once = once_read (λ _. read_bracket) (λ _. bracket_exact) below_bracket

-- Lists.

next_once : {A : Type 0} {item : Grammar Lexeme A} {S : List Lexeme → Type 0} → OneTree count item S → OneTree count (next item) S
next_once e = once_then (once_one (sign (codes ","))) (λ _. e)

-- { "," item }
further_once : {A : Type 0} {item : Grammar Lexeme A} (p : Lexeme → Bool) → Begins (one (sign (codes ","))) p false → OneTree count item (Not p) → (first : A) → OneTree count (both (many (next item)) (λ rest. done (first ∷ rest))) (BehindList p)
further_once {item = item} p comma e first = once_both {S = BehindList p} (once_many {S = Not p} {S' = BehindList p} (is_sign (codes ",")) (next_begins item) (λ rest stops. stops.comma) (λ list v rest h stops. starts_many (next_tells item p false comma) list v rest h stops.item) (next_once e))
    (λ rest. once_done (first ∷ rest)) (λ list v b rest h stops. subst (λ z. BehindList p (z ++ rest)) (sym h.0) stops)

-- item { "," item }, where an item may go on with one of these
listed_once : {A : Type 0} {item : Grammar Lexeme A} (p : Lexeme → Bool) → Begins (one (sign (codes ","))) p false → OneTree count item (Not p) → OneTree count (listed item item) (BehindList p)
listed_once {item = item} p comma e = once_both {S' = BehindList p} e (λ first. further_once p comma e first)
    (λ first v list rest h stops. (let (others, more) = made_is (many (next item)) (λ others. first ∷ others) v list h in starts_many (next_tells item p false comma) others v rest more stops.item))

-- item { "," item }, where each item ends by itself
listed_whole_once : {A : Type 0} {item : Grammar Lexeme A} → OneTree count item Always → OneTree count (listed item item) (Not (is_sign (codes ",")))
listed_whole_once {item = item} e = once_then e (λ first. once_both {S = Not (is_sign (codes ","))} (once_many {S = Always} {S' = Not (is_sign (codes ","))} (is_sign (codes ",")) (next_begins item) (λ rest stops. stops) (λ list v rest h stops. tt) (next_once e))
    (λ rest. once_done (first ∷ rest)) (λ list v b rest h stops. ap (λ z. starts (is_sign (codes ",")) (z ++ rest)) h.0 ∙ stops))

-- Statements.

ended_once : OneTree count ended Always
ended_once = once_before_next formula_once (λ tree. once_then (once_one (sign (codes ";"))) (λ _. once_done tree)) (λ tree. begins_both semicolon)

part_once : (mark : List ℕ) → OneTree count (part mark) Always
part_once mark = once_then (once_one (word mark)) (λ _. once_then (once_one (sign (codes ":"))) (λ _. ended_once))

leaf_first_once : OneTree count leaf_first (Not (is_word (codes "C")))
leaf_first_once = once_then (part_once (codes "N")) (λ leaf. once_option (is_word (codes "C")) (bodies.Leaf leaf) (begins_both (begins_both (word_begins (codes "C") (codes "C")))) (once_then (part_once (codes "C")) (λ cons. once_done (bodies.LeafCons leaf cons))))

cons_first_once : OneTree count cons_first (Not (is_word (codes "N")))
cons_first_once = once_then (part_once (codes "C")) (λ cons. once_option (is_word (codes "N")) (bodies.Cons cons) (begins_both (begins_both (word_begins (codes "N") (codes "N")))) (once_then (part_once (codes "N")) (λ leaf. once_done (bodies.ConsLeaf cons leaf))))

plain_once : OneTree count plain Always
plain_once = once_then ended_once (λ tree. once_done (bodies.Both tree))

cons_or_plain_once : OneTree count (either cons_first plain) (Not (is_word (codes "N")))
cons_or_plain_once = once_either {S' = Always} (starts_part (codes "C")) cons_first_once plain_once (λ u a rest h stops. (part_first (codes "C") behind_cons u a rest h, stops)) (λ u a rest h stops. (plain_no_part (codes "C") u a rest h, tt))

body_once : OneTree count body BehindBody
body_once = once_either {S'' = BehindBody} (starts_part (codes "N")) leaf_first_once cons_or_plain_once (λ u a rest h stops. (part_first (codes "N") behind_leaf u a rest h, stops.cons)) (λ u a rest h stops. (no_leaf u a rest h, stops.leaf))

same_behind : (S : List Lexeme → Type 0) (v rest : List Lexeme) → v ≡ [] → S rest → S (v ++ rest)
same_behind S v rest none h = subst (λ z. S (z ++ rest)) (sym none) h

statement_once : OneTree count statement BehindBody
statement_once = once_then area_once (λ cells. once_then (once_one (sign (codes "="))) (λ _. once_both body_once (λ given. once_done (record { area = cells; body = given })) (λ given v b rest h stops. same_behind BehindBody v rest h.0 stops)))

-- Feeders.

database_once : OneTree count database Always
database_once = once_then (once_one (word (codes "DB"))) (λ _. once_then (once_one (sign (codes "("))) (λ _. once_both (listed_once (goes_on rules_language) comma formula_once)
    (λ arguments. once_then (once_one (sign (codes ")"))) (λ _. once_done (targets.Db arguments)))
    (λ arguments v b rest l _. behind_list (codes ")") (done (targets.Db arguments)) (goes_on rules_language) closing refl v b rest l)))

target_once : OneTree count target Always
target_once = once_or (is_sign (codes "[")) (begins_both (begins_both (sign_begins (codes "[") (codes "[")))) (begins_both (word_no_sign (codes "DB") (codes "[")))
    (once_then bracket_once (λ simples. once_done (targets.Bracket simples))) database_once

feeder_once : OneTree count feeder Always
feeder_once = once_then area_once (λ cells. once_then (once_one (sign (codes "=>"))) (λ _. once_before_next (listed_whole_once target_once)
    (λ fed. once_then (once_one (sign (codes ";"))) (λ _. once_done (record { area = cells; targets = fed })))
    (λ fed. begins_both (sign_begins (codes ";") (codes ",")))))

-- The whole text.

skipcheck_once : OneTree count skipcheck (Not (is_word (codes "SKIPCHECK")))
skipcheck_once = once_option (is_word (codes "SKIPCHECK")) false (begins_both (word_begins (codes "SKIPCHECK") (codes "SKIPCHECK")))
    (once_then (once_one (word (codes "SKIPCHECK"))) (λ _. once_then (once_one (sign (codes ";"))) (λ _. once_done true)))

statements_once : OneTree count (many statement) BehindStatements
statements_once = once_many {S' = BehindStatements} (is_sign (codes "[")) statement_begins (λ rest stops. stops.bracket) behind_statements statement_once

automatic_once : OneTree count automatic (Not (is_word (codes "AUTO")))
automatic_once = once_option (is_word (codes "AUTO")) false (begins_both (word_begins (codes "AUTO") (codes "AUTO"))) (once_then (once_one (word (codes "AUTO"))) (λ _. once_done true))

each_feeder_once : OneTree count (many feeder) (Not (is_sign (codes "[")))
each_feeder_once = once_many {S = Always} {S' = Not (is_sign (codes "["))} (is_sign (codes "[")) feeder_begins (λ rest stops. stops) (λ list v rest h stops. tt) feeder_once

given_once : OneTree count given_feeders (Not (is_sign (codes "[")))
given_once = once_then (once_one (word (codes "FEEDERS"))) (λ _. once_before_next automatic_once
    (λ finds. once_then (once_one (sign (codes ";"))) (λ _. once_both {S' = Not (is_sign (codes "["))} each_feeder_once (λ given. once_done (finds, given)) (λ given v b rest h stops. same_behind (Not (is_sign (codes "["))) v rest h.0 stops)))
    (λ finds. begins_both (sign_no_word (codes ";") (codes "AUTO"))))

feeders_once : OneTree count feeders AtEnd
feeders_once = once_either {S = Not (is_sign (codes "["))} {S' = Always} {S'' = AtEnd} (starts (is_word (codes "FEEDERS"))) given_once (once_done (false, []))
    (λ u a rest h end. (starts_text given_feeders_begin u a rest h, ended_by (is_sign (codes "[")) rest end))
    (λ u a rest nothing end. (ap (λ x. starts (is_word (codes "FEEDERS")) (x ++ rest)) nothing.0 ∙ ended_by (is_word (codes "FEEDERS")) rest end, tt))

rules_once : OneTree count rules AtEnd
rules_once = once_both {S' = AtEnd} skipcheck_once (λ skips. once_both {S' = AtEnd} statements_once (λ statements. once_both {S' = AtEnd} feeders_once (λ feeding. once_done (whole skips statements feeding)) (λ feeding v b rest h end. same_behind AtEnd v rest h.0 end))
    (λ statements v a rest h end. record {
      bracket = behind_tells (is_sign (codes "[")) given_no_bracket skips statements v a rest h end;
      body = record {
        leaf = behind_tells (is_word (codes "N")) given_no_leaf skips statements v a rest h end;
        cons = behind_tells (is_word (codes "C")) given_no_cons skips statements v a rest h end;
      };
    }))
    (λ skips v a rest h end. skipcheck_tells skips v a rest h end)

one_tree : (ts : List Lexeme) (x y : RuleText) (r : Counted) → Passes counting start ts r → rules ts x → rules ts y → x ≡ y
one_tree ts x y r passes h g = let (tree, _) = rules_once.at start r ts [] ts [] x y (subst (λ z. Passes counting start z r) (sym (append-nil ts)) passes) refl h g refl refl in tree

pub rule_texts : HasOneAnswer rules counting start
rule_texts = one_answer rules counting start (token_cuts count) one_tree
