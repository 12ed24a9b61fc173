-- The readers of statements are exact, if that of the blocks inside them is.
use Rattle.std.proofs.Common.{◌≡◌, ℕ, List, [], ◌∷◌, ◌++◌, Some, None, true, false, ◌&&◌, if◌then◌else◌, codes, refl, ◌∙◌, ap}
use Rattle.std.specs.Str.{str_eq_ignore_ascii_case}
use Rattle.cube_lex.specs.Lexeme.{Lexeme}
use Rattle.cube_lex.specs.Positions.{position_of}
use Rattle.grammar.specs.Grammar.{Grammar, one, both, done, either, many}
use Rattle.grammar.specs.Reading.{starts}
use Rattle.grammar.specs.Tokens.{sign, word, is_sign, is_word, is_any_word}
use Rattle.grammar.proofs.Exact.{Exact, Always, Not, exact_gives, exact_then, exact_both, exact_made, exact_choose}
use Rattle.grammar.proofs.Begins.{Begins, begins_both, begins_either, begins_optional, has_token, starts_text, starts_many, made_is, exact_or, exact_before_next}
use Rattle.grammar.proofs.Lists.{behind_list}
use Rattle.grammar.proofs.Many.{exact_all}
use Rattle.grammar.proofs.Tokens.{exact_sign, exact_word, sign_tells, when_picks, word_begins}
use Rattle.expression_grammar.proofs.Languages.{goes_on}
use Rattle.expression_grammar.proofs.ExpressionExact.{sign_goes_on}
use Rattle.expression_grammar.proofs.LookaheadExact.{exact_choose_pair}
use Rattle.expression_grammar.specs.Readers.Lookahead.{starts_pair, choose_pair}
use Rattle.script_tree.specs.Counting.{count, counting}
use Rattle.script_tree.specs.Expression.{scripts_language}
use Rattle.script_tree.specs.Statement.{assignment, written, zeroing, put, increment, leaping, condition, arm, conditional, otherwise, branching, looping, plain, statement_of}
use Rattle.script_reader.specs.Readers.Reading.{Plan}
use Rattle.script_reader.specs.Readers.StatementReading.{read_assignment, read_written, read_zeroing, read_leaping, read_condition, read_arm, read_arms, read_otherwise, read_branching, read_looping, read_plain, read_statement, is_leap, begins_statement}
use Rattle.script_tree.specs.declared.line.Arm.{Arm}
use Rattle.script_tree.specs.declared.line.Arm.TheVariants as arms
use Rattle.script_tree.specs.declared.line.Line.{Line}
use Rattle.script_tree.specs.declared.line.Line.TheVariants as lines
use Rattle.script_tree.specs.declared.script.Section.{Section}
use Rattle.script_reader.proofs.PrimaryExact.{closing, two_or_more_exact, three_or_more_exact}
use Rattle.script_reader.proofs.ValueExact.{value_exact, truth_exact}
use Rattle.script_reader.proofs.Assignments.{assignment_no, assignment_of_word}
use Rattle.script_reader.proofs.FirstWords.{word_statement, word_any, word_leap, variable_no_word, variable_any, variable_opens, variable_no_leap, exact_variable, leap_no_word, leap_leaps, leap_opens, leap_any, exact_leap}

pub semicolon : Begins (one (sign (codes ";"))) (goes_on scripts_language) false
semicolon = sign_goes_on scripts_language (codes ";")

assignment_exact : Exact counting assignment assignment read_assignment Always
unfolding read_assignment
assignment_exact = exact_then exact_variable (λ name. exact_then (exact_sign count (codes "=")) (λ _. exact_before_next value_exact (λ given. exact_then (exact_sign count (codes ";")) (λ _. exact_gives counting (lines.Assign name given))) (λ given. begins_both semicolon)))

written_exact : (function : List ℕ) → Exact counting (written function) (written function) (read_written function) Always
unfolding read_written
written_exact function = exact_then (exact_word count function) (λ _. exact_then (exact_sign count (codes "(")) (λ _. exact_both (three_or_more_exact value_exact)
    (λ given. exact_then (exact_sign count (codes ")")) (λ _. exact_then (exact_sign count (codes ";")) (λ _. exact_gives counting given)))
    (λ given v b rest l _. behind_list (codes ")") (both (one (sign (codes ";"))) (λ _. done given)) (goes_on scripts_language) closing refl v b rest l)))

zeroing_exact : Exact counting zeroing zeroing read_zeroing Always
unfolding read_zeroing
zeroing_exact = exact_then (exact_word count (codes "ZEROOUT")) (λ _. exact_then (exact_sign count (codes "(")) (λ _. exact_both (two_or_more_exact value_exact)
    (λ given. exact_then (exact_sign count (codes ")")) (λ _. exact_then (exact_sign count (codes ";")) (λ _. exact_gives counting (lines.ZeroOut given))))
    (λ given v b rest l _. behind_list (codes ")") (both (one (sign (codes ";"))) (λ _. done (lines.ZeroOut given))) (goes_on scripts_language) closing refl v b rest l)))

leaping_exact : (section : Section) → Exact counting (leaping section) (leaping section) (read_leaping section) Always
unfolding read_leaping
leaping_exact section = exact_then (exact_leap section) (λ line. exact_then (exact_sign count (codes ";")) (λ _. exact_gives counting line))

-- `PROCESSERROR ;`
pub leaping_sample : (section : Section) → (u : List Lexeme) × (l : Line) × leaping section u l
leaping_sample section = (leaping_exact section).word

condition_exact : Exact counting condition condition read_condition Always
unfolding read_condition
condition_exact = exact_then (exact_sign count (codes "(")) (λ _. exact_before_next truth_exact (λ test. exact_then (exact_sign count (codes ")")) (λ _. exact_then (exact_sign count (codes ";")) (λ _. exact_gives counting test))) (λ test. begins_both closing))

-- What statements begin with.

-- the word of a ZEROOUT begins one, and a `(` follows it
zeroing_of_word : (t : Lexeme) → is_word (codes "ZEROOUT") t ≡ true → (v : List Lexeme) × (l : Line) × zeroing (t ∷ v) l
zeroing_of_word t is =
    let (u, l, (a, b, x, parts, first, rest)) = zeroing_exact.word in
    (b, l, (t ∷ [], b, position_of t, refl, (t, refl, ap (λ c. if c then Some (position_of t) else None) is), rest))

pub zeroing_starts : (u : List Lexeme) (l : Line) (rest : List Lexeme) → zeroing u l → starts_pair (is_word (codes "ZEROOUT")) (is_sign (codes "(")) (u ++ rest) ≡ true
zeroing_starts u l rest (a, b, at, parts, (t, is, picks), (c, d, x, more, (s, single, opens), h)) =
    let (marked, _) = when_picks (is_word (codes "ZEROOUT")) position_of t at picks in
    ap (λ y. starts_pair (is_word (codes "ZEROOUT")) (is_sign (codes "(")) (y ++ rest)) (parts ∙ ap (λ y. y ++ b) is ∙ ap (λ y. t ∷ y) (more ∙ ap (λ y. y ++ d) single))
    ∙ ap (λ m. m && is_sign (codes "(") s) marked ∙ sign_tells (codes "(") (codes "(") s x opens

zeroing_begins : (mark : List ℕ) → Begins zeroing (is_word mark) (str_eq_ignore_ascii_case (codes "ZEROOUT") mark)
zeroing_begins mark = begins_both (word_begins (codes "ZEROOUT") mark)

zeroing_or : Exact counting (either zeroing assignment) (either zeroing assignment) (choose_pair (is_word (codes "ZEROOUT")) (is_sign (codes "(")) read_zeroing read_assignment) Always
zeroing_or = exact_choose_pair count (is_word (codes "ZEROOUT")) (is_sign (codes "("))
    (record { exact = zeroing_exact; ends = tt; has = has_token {p = is_any_word} (begins_both (word_any (codes "ZEROOUT"))); begun = zeroing_of_word })
    (record { exact = assignment_exact; ends = tt; has = has_token {p = is_any_word} (begins_both variable_any); begun = assignment_of_word (codes "ZEROOUT") refl refl })
    (λ u a rest h stops. (zeroing_starts u a rest h, tt))
    (λ u a rest h stops. (assignment_no (codes "ZEROOUT") (codes "(") refl u a rest h, tt))

plain_exact : (section : Section) → Exact counting (plain section) (plain section) (read_plain section) Always
unfolding read_plain
plain_exact section =
    exact_or (is_word (codes "CELLPUTN")) (begins_both (begins_both (word_begins (codes "CELLPUTN") (codes "CELLPUTN"))))
    (begins_either (begins_both (begins_both (word_begins (codes "CELLINCREMENTN") (codes "CELLPUTN")))) (begins_either (begins_both (leap_no_word section (codes "CELLPUTN") refl refl refl)) (begins_either (zeroing_begins (codes "CELLPUTN")) (begins_both (variable_no_word (codes "CELLPUTN") refl refl)))))
    (exact_made (λ given. lines.Put given) (written_exact (codes "CELLPUTN")))
    (exact_or (is_word (codes "CELLINCREMENTN")) (begins_both (begins_both (word_begins (codes "CELLINCREMENTN") (codes "CELLINCREMENTN"))))
    (begins_either (begins_both (leap_no_word section (codes "CELLINCREMENTN") refl refl refl)) (begins_either (zeroing_begins (codes "CELLINCREMENTN")) (begins_both (variable_no_word (codes "CELLINCREMENTN") refl refl))))
    (exact_made (λ given. lines.Increment given) (written_exact (codes "CELLINCREMENTN")))
    (exact_or is_leap (begins_both (leap_leaps section)) (begins_either (begins_both (word_leap (codes "ZEROOUT"))) (begins_both variable_no_leap)) (leaping_exact section) zeroing_or))

plain_no : (section : Section) (w : List ℕ) → Begins (leaping section) (is_word w) false → Begins zeroing (is_word w) false → Begins assignment (is_word w) false → Begins put (is_word w) false → Begins increment (is_word w) false → Begins (plain section) (is_word w) false
plain_no section w l z a p i = begins_either p (begins_either i (begins_either l (begins_either z a)))

plain_no_if : (section : Section) → Begins (plain section) (is_word (codes "IF")) false
plain_no_if section = plain_no section (codes "IF") (begins_both (leap_no_word section (codes "IF") refl refl refl)) (zeroing_begins (codes "IF")) (begins_both (variable_no_word (codes "IF") refl refl))
    (begins_both (begins_both (word_begins (codes "CELLPUTN") (codes "IF")))) (begins_both (begins_both (word_begins (codes "CELLINCREMENTN") (codes "IF"))))

plain_no_while : (section : Section) → Begins (plain section) (is_word (codes "WHILE")) false
plain_no_while section = plain_no section (codes "WHILE") (begins_both (leap_no_word section (codes "WHILE") refl refl refl)) (zeroing_begins (codes "WHILE")) (begins_both (variable_no_word (codes "WHILE") refl refl))
    (begins_both (begins_both (word_begins (codes "CELLPUTN") (codes "WHILE")))) (begins_both (begins_both (word_begins (codes "CELLINCREMENTN") (codes "WHILE"))))

-- any word but those that go on behind a block begins a statement, and each does
module _ (section : Section) (block : Grammar Lexeme (List Line)) where
  pub statement_opens : Begins (statement_of section block) begins_statement true
  statement_opens = begins_either (begins_both (begins_both (begins_both (word_statement (codes "IF"))))) (begins_either (begins_both (word_statement (codes "WHILE")))
      (begins_either (begins_both (begins_both (word_statement (codes "CELLPUTN")))) (begins_either (begins_both (begins_both (word_statement (codes "CELLINCREMENTN")))) (begins_either (begins_both (leap_opens section)) (begins_either (begins_both (word_statement (codes "ZEROOUT"))) (begins_both variable_opens))))))

  pub statement_any : Begins (statement_of section block) is_any_word true
  statement_any = begins_either (begins_both (begins_both (begins_both (word_any (codes "IF"))))) (begins_either (begins_both (word_any (codes "WHILE")))
      (begins_either (begins_both (begins_both (word_any (codes "CELLPUTN")))) (begins_either (begins_both (begins_both (word_any (codes "CELLINCREMENTN")))) (begins_either (begins_both (leap_any section)) (begins_either (begins_both (word_any (codes "ZEROOUT"))) (begins_both variable_any))))))

-- what may stand behind the arms of `IF` and `ELSEIF`
record BehindArms (rest : List Lexeme) : Type 0 where
  statement : Not begins_statement rest
  arm : Not (is_word (codes "ELSEIF")) rest

-- what may stand behind the arm of an `ELSE`
record BehindElse (rest : List Lexeme) : Type 0 where
  statement : Not begins_statement rest
  other : Not (is_word (codes "ELSE")) rest

-- with an exact reader of what is inside
module _ {G H : Grammar Lexeme (List Line)} {P : Plan (List Line)} (block : Exact counting G H P (Not begins_statement)) where
  arm_exact : (mark : List ℕ) → Exact counting (arm mark G) (arm mark H) (read_arm mark P) (Not begins_statement)
  unfolding read_arm
  arm_exact mark = exact_then (exact_word count mark) (λ _. exact_then condition_exact (λ test. exact_made (λ inside. arms.When test inside) block))

  further_begins : Begins (arm (codes "ELSEIF") H) begins_statement false
  further_begins = begins_both (word_statement (codes "ELSEIF"))

  behind_arms : (list : List Arm) (v rest : List Lexeme) → many (arm (codes "ELSEIF") H) v list → BehindArms rest → Not begins_statement (v ++ rest)
  behind_arms list v rest h stops = starts_many further_begins list v rest h stops.statement

  behind_first : (first : Arm) (v : List Lexeme) (all : List Arm) (rest : List Lexeme) → both (many (arm (codes "ELSEIF") H)) (λ others. done (first ∷ others)) v all → BehindArms rest → Not begins_statement (v ++ rest)
  behind_first first v all rest h stops = let (others, more) = made_is (many (arm (codes "ELSEIF") H)) (λ others. first ∷ others) v all h in behind_arms others v rest more stops

  conditional_exact : Exact counting (conditional G) (conditional H) (read_arms P) BehindArms
  unfolding read_arms
  conditional_exact = exact_both (arm_exact (codes "IF"))
      (λ first. exact_made (λ others. first ∷ others) (exact_all (is_word (codes "ELSEIF")) true (begins_both (word_begins (codes "ELSEIF") (codes "ELSEIF"))) (begins_both (word_begins (codes "ELSEIF") (codes "ELSEIF"))) (λ rest stops. stops.arm) behind_arms (arm_exact (codes "ELSEIF"))))
      (λ first v all rest h stops. behind_first first v all rest h stops)

  -- the arm of an `ELSE`, behind these
  abbrev last_arm : List Arm → Grammar Lexeme (List Arm)
  last_arm before = both (one (word (codes "ELSE"))) (λ _. both (one (sign (codes ";"))) (λ _. both H (λ inside. done (before ++ arms.Otherwise inside ∷ []))))

  last_begins : (before : List Arm) → Begins (last_arm before) (is_word (codes "ELSE")) true
  last_begins before = begins_both (word_begins (codes "ELSE") (codes "ELSE"))

  otherwise_exact : (before : List Arm) → Exact counting (otherwise G before) (otherwise H before) (read_otherwise P before) BehindElse
  unfolding read_otherwise
  otherwise_exact before = exact_choose {S = Not begins_statement} {S' = Always} {S'' = BehindElse} (is_word (codes "ELSE"))
      (exact_then (exact_word count (codes "ELSE")) (λ _. exact_then (exact_sign count (codes ";")) (λ _. exact_made (λ inside. before ++ arms.Otherwise inside ∷ []) block)))
      (exact_gives counting before)
      (λ u a rest h stops. (starts_text (last_begins before) u a rest h, stops.statement))
      (λ u a rest nothing stops. (ap (λ x. starts (is_word (codes "ELSE")) (x ++ rest)) nothing.0 ∙ stops.other, tt))

  -- what ends an `IF`
  abbrev ended : List Arm → Grammar Lexeme Line
  ended all = both (one (word (codes "ENDIF"))) (λ _. both (one (sign (codes ";"))) (λ _. done (lines.If all)))

  ended_statement : (all : List Arm) → Begins (ended all) begins_statement false
  ended_statement all = begins_both (word_statement (codes "ENDIF"))

  ended_word : (w : List ℕ) (all : List Arm) → Begins (ended all) (is_word w) (str_eq_ignore_ascii_case (codes "ENDIF") w)
  ended_word w all = begins_both (word_begins (codes "ENDIF") w)

  -- what stands behind the arms
  abbrev behind : List Arm → Grammar Lexeme Line
  behind before = both (otherwise H before) ended

  behind_statement : (before : List Arm) → Begins (behind before) begins_statement false
  behind_statement before = begins_optional (begins_both (word_statement (codes "ELSE"))) ended_statement

  behind_arm : (before : List Arm) → Begins (behind before) (is_word (codes "ELSEIF")) false
  behind_arm before = begins_optional (begins_both (word_begins (codes "ELSE") (codes "ELSEIF"))) (ended_word (codes "ELSEIF"))

  branching_exact : Exact counting (branching G) (branching H) (read_branching P) Always
  unfolding read_branching
  branching_exact = exact_both conditional_exact
      (λ before. exact_both (otherwise_exact before)
      (λ all. exact_then (exact_word count (codes "ENDIF")) (λ _. exact_then (exact_sign count (codes ";")) (λ _. exact_gives counting (lines.If all))))
      (λ all v b rest l _. record { statement = starts_text (ended_statement all) v b rest l; other = starts_text (ended_word (codes "ELSE") all) v b rest l }))
      (λ before v b rest l _. record { statement = starts_text (behind_statement before) v b rest l; arm = starts_text (behind_arm before) v b rest l })

  looping_exact : Exact counting (looping G) (looping H) (read_looping P) Always
  unfolding read_looping
  looping_exact = exact_then (exact_word count (codes "WHILE")) (λ _. exact_then condition_exact (λ test. exact_before_next block
      (λ inside. exact_then (exact_word count (codes "END")) (λ _. exact_then (exact_sign count (codes ";")) (λ _. exact_gives counting (lines.While test inside))))
      (λ inside. begins_both (word_statement (codes "END")))))

  pub statement_exact : (section : Section) → Exact counting (statement_of section G) (statement_of section H) (read_statement section P) Always
  unfolding read_statement
  statement_exact section =
      exact_or (is_word (codes "IF")) (begins_both (begins_both (begins_both (word_begins (codes "IF") (codes "IF"))))) (begins_either (begins_both (word_begins (codes "WHILE") (codes "IF"))) (plain_no_if section)) branching_exact
      (exact_or (is_word (codes "WHILE")) (begins_both (word_begins (codes "WHILE") (codes "WHILE"))) (plain_no_while section) looping_exact (plain_exact section))
