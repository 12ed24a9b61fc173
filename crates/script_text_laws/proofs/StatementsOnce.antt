-- Statements have one tree, if the blocks inside them have.
use Rattle.std.proofs.Common.{ℕ, List, [], ◌∷◌, ◌++◌, true, false, codes, refl, ◌∙◌, ap}
use Rattle.std.specs.Str.{str_eq_ignore_ascii_case}
use Rattle.cube_lex.specs.Lexeme.{Lexeme}
use Rattle.grammar.specs.Grammar.{Grammar, one, both, done, either, many}
use Rattle.grammar.specs.Reading.{starts}
use Rattle.grammar.specs.Tokens.{sign, word, is_sign, is_word}
use Rattle.grammar.proofs.Begins.{Begins, begins_both, begins_either, begins_optional, starts_text, starts_many, made_is}
use Rattle.grammar.proofs.Exact.{Always, Not}
use Rattle.grammar.proofs.Lists.{behind_list}
use Rattle.grammar.proofs.Tokens.{word_begins}
use Rattle.expression_grammar.proofs.Languages.{goes_on}
use Rattle.expression_grammar.specs.Readers.Lookahead.{starts_pair}
use Rattle.rule_text_laws.proofs.OneTree.{OneTree, once_one, once_done, once_both, once_then, once_before_next, once_either, once_or, once_many}
use Rattle.script_tree.specs.Counting.{count}
use Rattle.script_tree.specs.Expression.{scripts_language}
use Rattle.script_tree.specs.Statement.{variable, assignment, written, zeroing, put, increment, leap, leaping, condition, arm, conditional, otherwise, branching, looping, plain, statement_of}
use Rattle.script_tree.specs.declared.line.Arm.{Arm}
use Rattle.script_tree.specs.declared.line.Arm.TheVariants as arms
use Rattle.script_tree.specs.declared.line.Line.{Line}
use Rattle.script_tree.specs.declared.line.Line.TheVariants as lines
use Rattle.script_tree.specs.declared.script.Section.{Section}
use Rattle.script_reader.specs.Readers.StatementReading.{is_leap, begins_statement}
use Rattle.script_reader.proofs.FirstWords.{word_statement, word_leap, variable_no_word, variable_no_leap, leap_no_word, leap_leaps}
use Rattle.script_reader.proofs.Assignments.{assignment_no}
use Rattle.script_reader.proofs.PrimaryExact.{closing}
use Rattle.script_reader.proofs.StatementExact.{semicolon, zeroing_starts}
use Rattle.script_text_laws.proofs.ValuesOnce.{value_once, truth_once, two_once, three_once, once_made}

-- Statements that are no block.

assignment_once : OneTree count assignment Always
assignment_once = once_then (once_one variable) (λ name. once_then (once_one (sign (codes "="))) (λ _. once_before_next value_once
    (λ given. once_then (once_one (sign (codes ";"))) (λ _. once_done (lines.Assign name given)))
    (λ given. begins_both semicolon)))

written_once : (function : List ℕ) → OneTree count (written function) Always
written_once function = once_then (once_one (word function)) (λ _. once_then (once_one (sign (codes "("))) (λ _. once_both three_once
    (λ given. once_then (once_one (sign (codes ")"))) (λ _. once_then (once_one (sign (codes ";"))) (λ _. once_done given)))
    (λ given v b rest l _. behind_list (codes ")") (both (one (sign (codes ";"))) (λ _. done given)) (goes_on scripts_language) closing refl v b rest l)))

zeroing_once : OneTree count zeroing Always
zeroing_once = once_then (once_one (word (codes "ZEROOUT"))) (λ _. once_then (once_one (sign (codes "("))) (λ _. once_both two_once
    (λ given. once_then (once_one (sign (codes ")"))) (λ _. once_then (once_one (sign (codes ";"))) (λ _. once_done (lines.ZeroOut given))))
    (λ given v b rest l _. behind_list (codes ")") (both (one (sign (codes ";"))) (λ _. done (lines.ZeroOut given))) (goes_on scripts_language) closing refl v b rest l)))

-- the sign behind the word tells which of the two it is
zeroing_or_once : OneTree count (either zeroing assignment) Always
zeroing_or_once = once_either {S = Always} {S' = Always} {S'' = Always} (starts_pair (is_word (codes "ZEROOUT")) (is_sign (codes "("))) zeroing_once assignment_once
    (λ u a rest h stops. (zeroing_starts u a rest h, tt))
    (λ u a rest h stops. (assignment_no (codes "ZEROOUT") (codes "(") refl u a rest h, tt))

leaping_once : (section : Section) → OneTree count (leaping section) Always
leaping_once section = once_then (once_one (leap section)) (λ line. once_then (once_one (sign (codes ";"))) (λ _. once_done line))

condition_once : OneTree count condition Always
condition_once = once_then (once_one (sign (codes "("))) (λ _. once_before_next truth_once
    (λ test. once_then (once_one (sign (codes ")"))) (λ _. once_then (once_one (sign (codes ";"))) (λ _. once_done test)))
    (λ test. begins_both closing))

-- What begins with the word of no other.

put_begins : (mark : List ℕ) → Begins put (is_word mark) (str_eq_ignore_ascii_case (codes "CELLPUTN") mark)
put_begins mark = begins_both (begins_both (word_begins (codes "CELLPUTN") mark))

increment_begins : (mark : List ℕ) → Begins increment (is_word mark) (str_eq_ignore_ascii_case (codes "CELLINCREMENTN") mark)
increment_begins mark = begins_both (begins_both (word_begins (codes "CELLINCREMENTN") mark))

zeroing_begins : (mark : List ℕ) → Begins zeroing (is_word mark) (str_eq_ignore_ascii_case (codes "ZEROOUT") mark)
zeroing_begins mark = begins_both (word_begins (codes "ZEROOUT") mark)

plain_once : (section : Section) → OneTree count (plain section) Always
plain_once section =
    once_or (is_word (codes "CELLPUTN")) (put_begins (codes "CELLPUTN"))
    (begins_either (increment_begins (codes "CELLPUTN")) (begins_either (begins_both (leap_no_word section (codes "CELLPUTN") refl refl refl)) (begins_either (zeroing_begins (codes "CELLPUTN")) (begins_both (variable_no_word (codes "CELLPUTN") refl refl)))))
    (once_made (λ given. lines.Put given) (written_once (codes "CELLPUTN")))
    (once_or (is_word (codes "CELLINCREMENTN")) (increment_begins (codes "CELLINCREMENTN"))
    (begins_either (begins_both (leap_no_word section (codes "CELLINCREMENTN") refl refl refl)) (begins_either (zeroing_begins (codes "CELLINCREMENTN")) (begins_both (variable_no_word (codes "CELLINCREMENTN") refl refl))))
    (once_made (λ given. lines.Increment given) (written_once (codes "CELLINCREMENTN")))
    (once_or is_leap (begins_both (leap_leaps section)) (begins_either (begins_both (word_leap (codes "ZEROOUT"))) (begins_both variable_no_leap)) (leaping_once section) zeroing_or_once))

plain_no_if : (section : Section) → Begins (plain section) (is_word (codes "IF")) false
plain_no_if section = begins_either (put_begins (codes "IF")) (begins_either (increment_begins (codes "IF")) (begins_either (begins_both (leap_no_word section (codes "IF") refl refl refl)) (begins_either (zeroing_begins (codes "IF")) (begins_both (variable_no_word (codes "IF") refl refl)))))

plain_no_while : (section : Section) → Begins (plain section) (is_word (codes "WHILE")) false
plain_no_while section = begins_either (put_begins (codes "WHILE")) (begins_either (increment_begins (codes "WHILE")) (begins_either (begins_both (leap_no_word section (codes "WHILE") refl refl refl)) (begins_either (zeroing_begins (codes "WHILE")) (begins_both (variable_no_word (codes "WHILE") refl refl)))))

-- Blocks.

-- what may stand behind the arms of `IF` and `ELSEIF`
record BehindArms (rest : List Lexeme) : Type 0 where
  statement : Not begins_statement rest
  arm : Not (is_word (codes "ELSEIF")) rest

-- what may stand behind the arm of an `ELSE`
record BehindElse (rest : List Lexeme) : Type 0 where
  statement : Not begins_statement rest
  other : Not (is_word (codes "ELSE")) rest

-- where what is inside has one tree
module _ {G : Grammar Lexeme (List Line)} (block : OneTree count G (Not begins_statement)) where
  arm_once : (mark : List ℕ) → OneTree count (arm mark G) (Not begins_statement)
  arm_once mark = once_then (once_one (word mark)) (λ _. once_then condition_once (λ test. once_made (λ inside. arms.When test inside) block))

  behind_arms : (list : List Arm) (v rest : List Lexeme) → many (arm (codes "ELSEIF") G) v list → BehindArms rest → Not begins_statement (v ++ rest)
  behind_arms list v rest h stops = starts_many further list v rest h stops.statement where
    further : Begins (arm (codes "ELSEIF") G) begins_statement false
    further = begins_both (word_statement (codes "ELSEIF"))

  conditional_once : OneTree count (conditional G) BehindArms
  conditional_once = once_both {S' = BehindArms} (arm_once (codes "IF"))
      (λ first. once_made (λ others. first ∷ others) (once_many {S' = BehindArms} (is_word (codes "ELSEIF")) (begins_both (word_begins (codes "ELSEIF") (codes "ELSEIF"))) (λ rest stops. stops.arm) behind_arms (arm_once (codes "ELSEIF"))))
      (λ first v all rest h stops. (let (others, more) = made_is (many (arm (codes "ELSEIF") G)) (λ others. first ∷ others) v all h in behind_arms others v rest more stops))

  -- the arm of an `ELSE`, behind these
  abbrev last_arm : List Arm → Grammar Lexeme (List Arm)
  last_arm before = both (one (word (codes "ELSE"))) (λ _. both (one (sign (codes ";"))) (λ _. both G (λ inside. done (before ++ arms.Otherwise inside ∷ []))))

  last_begins : (before : List Arm) → Begins (last_arm before) (is_word (codes "ELSE")) true
  last_begins before = begins_both (word_begins (codes "ELSE") (codes "ELSE"))

  otherwise_once : (before : List Arm) → OneTree count (otherwise G before) BehindElse
  otherwise_once before = once_either {S = Not begins_statement} {S' = Always} {S'' = BehindElse} (starts (is_word (codes "ELSE")))
      (once_then (once_one (word (codes "ELSE"))) (λ _. once_then (once_one (sign (codes ";"))) (λ _. once_made (λ inside. before ++ arms.Otherwise inside ∷ []) block)))
      (once_done before)
      (λ u a rest h stops. (starts_text (last_begins before) u a rest h, stops.statement))
      (λ u a rest nothing stops. (ap (λ x. starts (is_word (codes "ELSE")) (x ++ rest)) nothing.0 ∙ stops.other, tt))

  -- what ends an `IF`
  abbrev ended : List Arm → Grammar Lexeme Line
  ended all = both (one (word (codes "ENDIF"))) (λ _. both (one (sign (codes ";"))) (λ _. done (lines.If all)))

  ended_statement : (all : List Arm) → Begins (ended all) begins_statement false
  ended_statement all = begins_both (word_statement (codes "ENDIF"))

  ended_word : (mark : List ℕ) (all : List Arm) → Begins (ended all) (is_word mark) (str_eq_ignore_ascii_case (codes "ENDIF") mark)
  ended_word mark all = begins_both (word_begins (codes "ENDIF") mark)

  -- what stands behind the arms
  abbrev behind : List Arm → Grammar Lexeme Line
  behind before = both (otherwise G before) ended

  behind_statement : (before : List Arm) → Begins (behind before) begins_statement false
  behind_statement before = begins_optional (begins_both (word_statement (codes "ELSE"))) ended_statement

  behind_arm : (before : List Arm) → Begins (behind before) (is_word (codes "ELSEIF")) false
  behind_arm before = begins_optional (begins_both (word_begins (codes "ELSE") (codes "ELSEIF"))) (ended_word (codes "ELSEIF"))

  branching_once : OneTree count (branching G) Always
  branching_once = once_both {S' = Always} conditional_once
      (λ before. once_both {S' = Always} (otherwise_once before)
      (λ all. once_then (once_one (word (codes "ENDIF"))) (λ _. once_then (once_one (sign (codes ";"))) (λ _. once_done (lines.If all))))
      (λ all v b rest l _. record { statement = starts_text (ended_statement all) v b rest l; other = starts_text (ended_word (codes "ELSE") all) v b rest l }))
      (λ before v b rest l _. record { statement = starts_text (behind_statement before) v b rest l; arm = starts_text (behind_arm before) v b rest l })

  looping_once : OneTree count (looping G) Always
  looping_once = once_then (once_one (word (codes "WHILE"))) (λ _. once_then condition_once (λ test. once_before_next block
      (λ inside. once_then (once_one (word (codes "END"))) (λ _. once_then (once_one (sign (codes ";"))) (λ _. once_done (lines.While test inside))))
      (λ inside. begins_both (word_statement (codes "END")))))

  pub statement_of_once : (section : Section) → OneTree count (statement_of section G) Always
  statement_of_once section =
      once_or (is_word (codes "IF")) (begins_both (begins_both (begins_both (word_begins (codes "IF") (codes "IF"))))) (begins_either (begins_both (word_begins (codes "WHILE") (codes "IF"))) (plain_no_if section)) branching_once
      (once_or (is_word (codes "WHILE")) (begins_both (word_begins (codes "WHILE") (codes "WHILE"))) (plain_no_while section) looping_once (plain_once section))
