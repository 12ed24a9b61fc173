-- The grammar of a rule text.
use Rattle.std.specs.Prelude.{ℕ, Bool, true, false, List, [], ◌∷◌, codes}
use Rattle.cube_lex.specs.Lexeme.{Lexeme}
use Rattle.grammar.specs.Grammar.{Grammar, done, one, either, many, ◌>>=◌, ◌>>◌}
use Rattle.grammar.specs.Tokens.{sign, word, name}
use Rattle.grammar.specs.Lists.{listed}
use Rattle.rule_tree.specs.Formula.{dimension, in_brackets, bracket, formula}
use Rattle.rule_tree.specs.declared.rule.BodyText.{BodyText}
use Rattle.rule_tree.specs.declared.rule.BodyText.TheVariants as bodies
use Rattle.rule_tree.specs.declared.rule.EntryText.{EntryText}
use Rattle.rule_tree.specs.declared.rule.FeederText.{FeederText}
use Rattle.rule_tree.specs.declared.rule.RuleText.{RuleText}
use Rattle.rule_tree.specs.declared.rule.StatementText.{StatementText}
use Rattle.rule_tree.specs.declared.rule.TargetText.{TargetText}
use Rattle.rule_tree.specs.declared.rule.TargetText.TheVariants as targets
use Rattle.rule_tree.specs.declared.tree.Tree.{Tree}

-- name | "{" name { "," name } "}"
abbrev pub elements : Grammar Lexeme (List (List ℕ))
elements = either (do element ← one name; done (element ∷ []))
    (do one (sign (codes "{")); all ← listed (one name) (one name); one (sign (codes "}")); done all)

-- [ name ":" ] ( name | "{" name { "," name } "}" )
abbrev pub entry : Grammar Lexeme EntryText
entry = do
  dim ← dimension
  all ← elements
  done (record { dim = dim; elements = all })

abbrev pub area : Grammar Lexeme (List EntryText)
area = in_brackets entry

-- formula ";"
abbrev pub ended : Grammar Lexeme Tree
ended = do
  tree ← formula
  one (sign (codes ";"))
  done tree

-- mark ":" formula ";"
abbrev pub part : List ℕ → Grammar Lexeme Tree
part mark = do
  one (word mark)
  one (sign (codes ":"))
  ended

-- part [ part ], the first of them for leaf cells
abbrev pub leaf_first : Grammar Lexeme BodyText
leaf_first = do
  leaf ← part (codes "N")
  either (do cons ← part (codes "C"); done (bodies.LeafCons leaf cons)) (done (bodies.Leaf leaf))

-- part [ part ], the first of them for consolidated cells
abbrev pub cons_first : Grammar Lexeme BodyText
cons_first = do
  cons ← part (codes "C")
  either (do leaf ← part (codes "N"); done (bodies.ConsLeaf cons leaf)) (done (bodies.Cons cons))

-- formula ";" | part [ part ]
abbrev pub body : Grammar Lexeme BodyText
body = either leaf_first (either cons_first (do tree ← ended; done (bodies.Both tree)))

-- area "=" ( formula ";" | part [ part ] )
abbrev pub statement : Grammar Lexeme StatementText
statement = do
  cells ← area
  one (sign (codes "="))
  given ← body
  done (record { area = cells; body = given })

-- "DB" "(" formula { "," formula } ")"
abbrev pub database : Grammar Lexeme TargetText
database = do
  one (word (codes "DB"))
  one (sign (codes "("))
  arguments ← listed formula formula
  one (sign (codes ")"))
  done (targets.Db arguments)

-- bracket | "DB" "(" formula { "," formula } ")"
abbrev pub target : Grammar Lexeme TargetText
target = either (do simples ← bracket; done (targets.Bracket simples)) database

-- area "=>" target { "," target } ";"
abbrev pub feeder : Grammar Lexeme FeederText
feeder = do
  cells ← area
  one (sign (codes "=>"))
  fed ← listed target target
  one (sign (codes ";"))
  done (record { area = cells; targets = fed })

-- [ "SKIPCHECK" ";" ]
abbrev pub skipcheck : Grammar Lexeme Bool
skipcheck = either (do one (word (codes "SKIPCHECK")); one (sign (codes ";")); done true) (done false)

-- [ "AUTO" ]
abbrev pub automatic : Grammar Lexeme Bool
automatic = either (do one (word (codes "AUTO")); done true) (done false)

-- "FEEDERS" [ "AUTO" ] ";" { feeder }
abbrev pub given_feeders : Grammar Lexeme (Bool × List FeederText)
given_feeders = do
  one (word (codes "FEEDERS"))
  finds ← automatic
  one (sign (codes ";"))
  given ← many feeder
  done (finds, given)

-- [ "FEEDERS" [ "AUTO" ] ";" { feeder } ]
abbrev pub feeders : Grammar Lexeme (Bool × List FeederText)
feeders = either given_feeders (done (false, []))

-- [ "SKIPCHECK" ";" ] { statement } [ "FEEDERS" [ "AUTO" ] ";" { feeder } ]
abbrev pub rules : Grammar Lexeme RuleText
rules = do
  skips ← skipcheck
  statements ← many statement
  (finds, given) ← feeders
  done (record { skipcheck = skips; statements = statements; finds_feeders = finds; feeders = given })
