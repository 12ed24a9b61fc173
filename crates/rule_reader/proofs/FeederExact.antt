-- The readers of feeders are exact.
use Rattle.std.proofs.Common.{true, codes, refl}
use Rattle.grammar.specs.Grammar.{done}
use Rattle.grammar.specs.Tokens.{is_sign}
use Rattle.grammar.proofs.Exact.{Exact, Always, exact_gives, exact_then, exact_both, exact_made}
use Rattle.grammar.proofs.Begins.{Begins, begins_both, exact_or, exact_before_next}
use Rattle.grammar.proofs.Tokens.{exact_sign, exact_word, sign_begins, word_no_sign}
use Rattle.expression_grammar.proofs.Languages.{goes_on}
use Rattle.rule_tree.specs.Counting.{count, counting}
use Rattle.rule_tree.specs.Formula.{rules_language}
use Rattle.rule_tree.specs.RuleText.{database, target, feeder}
use Rattle.rule_reader.specs.Readers.TextReading.{read_database, read_target, read_feeder}
use Rattle.rule_tree.specs.declared.rule.TargetText.TheVariants as targets
use Rattle.grammar.proofs.Lists.{listed_exact, listed_whole_exact, behind_list}
use Rattle.rule_reader.proofs.BracketExact.{bracket_exact}
use Rattle.rule_reader.proofs.PrimaryExact.{comma, closing}
use Rattle.rule_reader.proofs.FormulaExact.{formula_exact}
use Rattle.rule_reader.proofs.AreaExact.{area_exact, area_begins}

database_exact : Exact counting database database read_database Always
unfolding read_database
database_exact = exact_then (exact_word count (codes "DB")) (λ _. exact_then (exact_sign count (codes "(")) (λ _. exact_both (listed_exact (goes_on rules_language) comma formula_exact)
    (λ arguments. exact_then (exact_sign count (codes ")")) (λ _. exact_gives counting (targets.Db arguments)))
    (λ arguments v b rest l _. behind_list (codes ")") (done (targets.Db arguments)) (goes_on rules_language) closing refl v b rest l)))

target_exact : Exact counting target target read_target Always
unfolding read_target
target_exact = exact_or (is_sign (codes "[")) (begins_both (begins_both (sign_begins (codes "[") (codes "[")))) (begins_both (word_no_sign (codes "DB") (codes "[")))
    (exact_made (λ simples. targets.Bracket simples) bracket_exact) database_exact

pub feeder_exact : Exact counting feeder feeder read_feeder Always
unfolding read_feeder
feeder_exact = exact_then area_exact (λ cells. exact_then (exact_sign count (codes "=>")) (λ _. exact_before_next (listed_whole_exact target_exact)
    (λ fed. exact_then (exact_sign count (codes ";")) (λ _. exact_gives counting (record { area = cells; targets = fed })))
    (λ fed. begins_both (sign_begins (codes ";") (codes ",")))))

pub feeder_begins : Begins feeder (is_sign (codes "[")) true
feeder_begins = begins_both area_begins
