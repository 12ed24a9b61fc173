-- Statements and feeders, written again, are read as the same.
use Rattle.std.proofs.Common.{◌≡◌, List, [], ◌∷◌, Bool, true, false, ap, sym, subst, inl, inr, codes, ℕ, append-nil}
use Rattle.cube_lex.specs.Lexeme.{Lexeme}
use Rattle.expression_grammar.proofs.PrintedTokens.{Spells, spells_both, spells_next, spells_made, spells_left, spells_right, spells_done, picks_sign}
use Rattle.rule_tree.specs.Counting.{start}
use Rattle.rule_tree.specs.Formula.{formula}
use Rattle.rule_tree.specs.RuleText.{ended, part, leaf_first, cons_first, body, statement, target, feeder, skipcheck, automatic, given_feeders, feeders, rules}
use Rattle.rule_printer.specs.Spelled.{tree_spelled, ended_spelled, part_spelled, body_spelled, statement_spelled, target_spelled, feeder_spelled, skipcheck_spelled, automatic_spelled, given_feeders_spelled, feeders_spelled, rules_spelled}
use Rattle.rule_tree.specs.declared.counted.RuleTextPlace.TheVariants as places
use Rattle.rule_tree.specs.declared.rule.BodyText.{BodyText}
use Rattle.rule_tree.specs.declared.rule.BodyText.TheVariants as bodies
use Rattle.rule_tree.specs.declared.rule.FeederText.{FeederText}
use Rattle.rule_tree.specs.declared.rule.RuleText.{RuleText}
use Rattle.rule_tree.specs.declared.rule.StatementText.{StatementText}
use Rattle.rule_tree.specs.declared.rule.TargetText.{TargetText}
use Rattle.rule_tree.specs.declared.rule.TargetText.TheVariants as targets
use Rattle.rule_tree.specs.declared.tree.Tree.{Tree}
use Rattle.rule_printer.proofs.PrintedBrackets.{bracket_again, area_again}
use Rattle.rule_printer.proofs.PrintedCalls.{formula_again}
use Rattle.rule_printer.proofs.PrintedCounting.{formula_place}
use Rattle.rule_printer.proofs.PrintedWords.{spells_word, many_again, listed_again}

pub formula_spells : (u : List Lexeme) (e : Tree) → formula u e → Spells formula (tree_spelled e) e
formula_spells u e h = (formula_again places.Formula 0 formula_place start).text u e h

pub ended_again : (u : List Lexeme) (e : Tree) → ended u e → Spells ended (ended_spelled e) e
ended_again u e (v, w, tree, parts, h, (x, y, _, further, semicolon, (nothing, is))) =
    subst (λ e. Spells ended (ended_spelled e) e) (sym is) (spells_both (formula_spells v tree h) (spells_next (picks_sign (codes ";")) (spells_done tree)))

pub part_again : (mark : List ℕ) (u : List Lexeme) (e : Tree) → part mark u e → Spells (part mark) (part_spelled mark e) e
part_again mark u e (v, w, _, parts, marked, (x, y, _, further, colon, h)) = spells_word mark (λ _. spells_next (picks_sign (codes ":")) (ended_again y e h))

leaf_first_again : (u : List Lexeme) (b : BodyText) → leaf_first u b → Spells leaf_first (body_spelled b) b
leaf_first_again u b (v, w, leaf, parts, h, inl (x, y, cons, further, g, (nothing, is))) =
    subst (λ b. Spells leaf_first (body_spelled b) b) (sym is) (spells_both (part_again (codes "N") v leaf h) (spells_left (spells_made (λ cons. bodies.LeafCons leaf cons) (part_again (codes "C") x cons g))))
leaf_first_again u b (v, w, leaf, parts, h, inr (nothing, is)) =
    subst (λ b. Spells leaf_first (body_spelled b) b) (sym is) (subst (λ l. Spells leaf_first l (bodies.Leaf leaf)) (append-nil (part_spelled (codes "N") leaf))
    (spells_both (part_again (codes "N") v leaf h) (spells_right (spells_done (bodies.Leaf leaf)))))

cons_first_again : (u : List Lexeme) (b : BodyText) → cons_first u b → Spells cons_first (body_spelled b) b
cons_first_again u b (v, w, cons, parts, h, inl (x, y, leaf, further, g, (nothing, is))) =
    subst (λ b. Spells cons_first (body_spelled b) b) (sym is) (spells_both (part_again (codes "C") v cons h) (spells_left (spells_made (λ leaf. bodies.ConsLeaf cons leaf) (part_again (codes "N") x leaf g))))
cons_first_again u b (v, w, cons, parts, h, inr (nothing, is)) =
    subst (λ b. Spells cons_first (body_spelled b) b) (sym is) (subst (λ l. Spells cons_first l (bodies.Cons cons)) (append-nil (part_spelled (codes "C") cons))
    (spells_both (part_again (codes "C") v cons h) (spells_right (spells_done (bodies.Cons cons)))))

pub body_again : (u : List Lexeme) (b : BodyText) → body u b → Spells body (body_spelled b) b
body_again u b (inl h) = spells_left (leaf_first_again u b h)
body_again u b (inr (inl h)) = spells_right (spells_left (cons_first_again u b h))
body_again u b (inr (inr (v, w, tree, parts, h, (nothing, is)))) =
    subst (λ b. Spells body (body_spelled b) b) (sym is) (spells_right (spells_right (spells_made (λ tree. bodies.Both tree) (ended_again v tree h))))

pub statement_again : (u : List Lexeme) (s : StatementText) → statement u s → Spells statement (statement_spelled s) s
statement_again u s (v, w, cells, parts, h, (x, y, _, further, equal, (a, b, given, more, g, (nothing, is)))) =
    subst (λ s. Spells statement (statement_spelled s) s) (sym is)
    (spells_both (area_again v cells h) (spells_next (picks_sign (codes "=")) (spells_made (λ given. record { area = cells; body = given }) (body_again a given g))))

pub target_again : (u : List Lexeme) (t : TargetText) → target u t → Spells target (target_spelled t) t
target_again u t (inl (v, w, simples, parts, h, (nothing, is))) =
    subst (λ t. Spells target (target_spelled t) t) (sym is) (spells_left (spells_made (λ l. targets.Bracket l) (bracket_again v simples h)))
target_again u t (inr (v, w, _, parts, named, (x, y, _, further, opens, (a, b, arguments, more, h, (c, d, _, ends, closes, (nothing, is)))))) =
    subst (λ t. Spells target (target_spelled t) t) (sym is)
    (spells_right (spells_word (codes "DB") (λ _. spells_next (picks_sign (codes "(")) (spells_both (listed_again formula formula tree_spelled formula_spells formula_spells a arguments h)
    (spells_next (picks_sign (codes ")")) (spells_done (targets.Db arguments)))))))

pub feeder_again : (u : List Lexeme) (f : FeederText) → feeder u f → Spells feeder (feeder_spelled f) f
feeder_again u f (v, w, cells, parts, h, (x, y, _, further, arrow, (a, b, fed, more, g, (c, d, _, ends, semicolon, (nothing, is))))) =
    subst (λ f. Spells feeder (feeder_spelled f) f) (sym is)
    (spells_both (area_again v cells h) (spells_next (picks_sign (codes "=>")) (spells_both (listed_again target target target_spelled target_again target_again a fed g)
    (spells_next (picks_sign (codes ";")) (spells_done (record { area = cells; targets = fed }))))))

skipcheck_again : (b : Bool) → Spells skipcheck (skipcheck_spelled b) b
skipcheck_again true = spells_left (spells_word (codes "SKIPCHECK") (λ _. spells_next (picks_sign (codes ";")) (spells_done true)))
skipcheck_again false = spells_right (spells_done false)

automatic_again : (b : Bool) → Spells automatic (automatic_spelled b) b
automatic_again true = spells_left (spells_word (codes "AUTO") (λ _. spells_done true))
automatic_again false = spells_right (spells_done false)

given_again : (feeding : Bool × List FeederText) (u : List Lexeme) → given_feeders u feeding → Spells given_feeders (given_feeders_spelled feeding.0 feeding.1) feeding
given_again feeding u (v, w, _, parts, named, (x, y, finds, further, h, (a, b, _, more, semicolon, (c, d, given, last, g, (nothing, is))))) =
    subst (λ feeding. Spells given_feeders (given_feeders_spelled feeding.0 feeding.1) feeding) (sym is)
    (spells_word (codes "FEEDERS") (λ _. spells_both (automatic_again finds) (spells_next (picks_sign (codes ";"))
    (spells_made (λ given. (finds, given)) (many_again feeder feeder_spelled feeder_again given c g)))))

feeders_again : (feeding : Bool × List FeederText) (u : List Lexeme) → feeders u feeding → Spells feeders (feeders_spelled feeding.0 feeding.1) feeding
feeders_again (false, []) u h = spells_right (spells_done (false, []))
feeders_again (false, first ∷ rest) u (inl h) = spells_left (given_again (false, first ∷ rest) u h)
feeders_again (false, first ∷ rest) u (inr (nothing, is)) = let none : first ∷ rest ≡ [] = ap (λ feeding. feeding.1) is in cc
feeders_again (true, given) u (inl h) = spells_left (given_again (true, given) u h)
feeders_again (true, given) u (inr (nothing, is)) = let plain : true ≡ false = ap (λ feeding. feeding.0) is in cc

pub rules_again : (u : List Lexeme) (text : RuleText) → rules u text → Spells rules (rules_spelled text) text
rules_again u text (v, w, skips, parts, h, (x, y, statements, further, g, (a, b, feeding, more, k, (nothing, is)))) =
    subst (λ text. Spells rules (rules_spelled text) text) (sym is)
    (spells_both (skipcheck_again skips) (spells_both (many_again statement statement_spelled statement_again statements x g)
    (spells_made (λ feeding. record { skipcheck = skips; statements = statements; finds_feeders = feeding.0; feeders = feeding.1 }) (feeders_again feeding a k))))
