-- The readers of a rule text but for its formulas, in the shape of the code.
use Rattle.std.specs.Prelude.{ℕ, Bool, true, false, List, [], ◌∷◌, Some, None, codes}
use Rattle.cube_lex.specs.Lexeme.{Lexeme}
use Rattle.grammar.specs.Reading.{gives, choose, all_of, ◌>>=◌, ◌>>◌}
use Rattle.grammar.specs.Lists.{read_listed, read_names}
use Rattle.grammar.specs.Tokens.{is_sign, is_word}
use Rattle.expression_grammar.specs.Readers.Lookahead.{starts_pair, choose_pair}
use Rattle.rule_tree.specs.Counting.{count}
use Rattle.rule_reader.specs.Readers.Reading.{Plan, take_sign, take_word, take_name}
use Rattle.rule_reader.specs.Readers.Reading.{read_in_brackets, read_bracket, read_formula}
use Rattle.rule_tree.specs.declared.rule.BodyText.{BodyText}
use Rattle.rule_tree.specs.declared.rule.BodyText.TheVariants as bodies
use Rattle.rule_tree.specs.declared.rule.EntryText.{EntryText}
use Rattle.rule_tree.specs.declared.rule.FeederText.{FeederText}
use Rattle.rule_tree.specs.declared.rule.RuleText.{RuleText}
use Rattle.rule_tree.specs.declared.rule.StatementText.{StatementText}
use Rattle.rule_tree.specs.declared.rule.TargetText.{TargetText}
use Rattle.rule_tree.specs.declared.rule.TargetText.TheVariants as targets
use Rattle.rule_tree.specs.declared.tree.Tree.{Tree}

-- Areas.

unfoldable pub read_braced : Plan (List (List ℕ))
read_braced = do
  take_sign (codes "{")
  all ← read_names count
  take_sign (codes "}")
  gives all

unfoldable pub read_alone : Plan (List (List ℕ))
read_alone = do element ← take_name; gives (element ∷ [])

unfoldable pub read_elements : Plan (List (List ℕ))
read_elements = choose (is_sign (codes "{")) read_braced read_alone

-- what stands behind a name, which is the element, or the dimension where `:` follows
unfoldable pub read_behind_first : List ℕ → Plan EntryText
read_behind_first first = choose (is_sign (codes ":"))
    (do take_sign (codes ":"); all ← read_elements; gives (record { dim = Some first; elements = all }))
    (gives (record { dim = None; elements = first ∷ [] }))

unfoldable pub read_entry : Plan EntryText
read_entry = choose (is_sign (codes "{")) (do all ← read_braced; gives (record { dim = None; elements = all }))
    (do first ← take_name; read_behind_first first)

abbrev pub read_area : Plan (List EntryText)
read_area = read_in_brackets read_entry

-- Statements.

unfoldable pub read_ended : Plan Tree
read_ended = do
  tree ← read_formula
  take_sign (codes ";")
  gives tree

unfoldable pub read_part : List ℕ → Plan Tree
read_part mark = do
  take_word mark
  take_sign (codes ":")
  read_ended

unfoldable pub read_behind_leaf : Tree → Plan BodyText
read_behind_leaf leaf =
    choose (is_word (codes "C")) (do cons ← read_part (codes "C"); gives (bodies.LeafCons leaf cons))
    (gives (bodies.Leaf leaf))

unfoldable pub read_leaf_first : Plan BodyText
read_leaf_first = do leaf ← read_part (codes "N"); read_behind_leaf leaf

unfoldable pub read_behind_cons : Tree → Plan BodyText
read_behind_cons cons =
    choose (is_word (codes "N")) (do leaf ← read_part (codes "N"); gives (bodies.ConsLeaf cons leaf))
    (gives (bodies.Cons cons))

unfoldable pub read_cons_first : Plan BodyText
read_cons_first = do cons ← read_part (codes "C"); read_behind_cons cons

unfoldable pub read_both : Plan BodyText
read_both = do tree ← read_ended; gives (bodies.Both tree)

-- whether a part comes: its mark, and then `:`
abbrev pub starts_part : List ℕ → List Lexeme → Bool
starts_part mark = starts_pair (is_word mark) (is_sign (codes ":"))

abbrev pub choose_part : {A : Type 0} → List ℕ → Plan A → Plan A → Plan A
choose_part mark P Q = choose_pair (is_word mark) (is_sign (codes ":")) P Q

unfoldable pub read_body : Plan BodyText
read_body = choose_part (codes "N") read_leaf_first (choose_part (codes "C") read_cons_first read_both)

unfoldable pub read_statement : Plan StatementText
read_statement = do
  cells ← read_area
  take_sign (codes "=")
  given ← read_body
  gives (record { area = cells; body = given })

abbrev pub read_statements : Plan (List StatementText)
read_statements = all_of (is_sign (codes "[")) read_statement

-- Feeders.

unfoldable pub read_database : Plan TargetText
read_database = do
  take_word (codes "DB")
  take_sign (codes "(")
  arguments ← read_listed count read_formula
  take_sign (codes ")")
  gives (targets.Db arguments)

unfoldable pub read_target : Plan TargetText
read_target = choose (is_sign (codes "[")) (do simples ← read_bracket; gives (targets.Bracket simples)) read_database

unfoldable pub read_feeder : Plan FeederText
read_feeder = do
  cells ← read_area
  take_sign (codes "=>")
  fed ← read_listed count read_target
  take_sign (codes ";")
  gives (record { area = cells; targets = fed })

abbrev pub read_all_feeders : Plan (List FeederText)
read_all_feeders = all_of (is_sign (codes "[")) read_feeder

unfoldable pub read_automatic : Plan Bool
read_automatic = choose (is_word (codes "AUTO")) (do take_word (codes "AUTO"); gives true) (gives false)

unfoldable pub read_given_feeders : Plan (Bool × List FeederText)
read_given_feeders = do
  take_word (codes "FEEDERS")
  finds ← read_automatic
  take_sign (codes ";")
  given ← read_all_feeders
  gives (finds, given)

unfoldable pub read_feeders : Plan (Bool × List FeederText)
read_feeders = choose (is_word (codes "FEEDERS")) read_given_feeders (gives (false, []))

unfoldable pub read_skipcheck : Plan Bool
read_skipcheck =
    choose (is_word (codes "SKIPCHECK")) (do take_word (codes "SKIPCHECK"); take_sign (codes ";"); gives true)
    (gives false)

unfoldable pub read_rules : Plan RuleText
read_rules = do
  skips ← read_skipcheck
  statements ← read_statements
  (finds, given) ← read_feeders
  gives (record { skipcheck = skips; statements = statements; finds_feeders = finds; feeders = given })
