-- The rules of a text that are bound meet the conditions.
use Rattle.std.proofs.Common.{◌≡◌, ◌<◌, ◌≤◌, ◌+◌, ℕ, Bool, true, false, List, [], ◌∷◌, ◌++◌, length, Some, None, Ok, IfSome, All, subst, arith}
use Rattle.std.proofs.lemmas.List.Elements.{All-nil, All-cons, All-append, All-weaker}
use Rattle.cube_space.specs.Layout.{Layout, axes}
use Rattle.cube_space.specs.Cells.{IsSpace}
use Rattle.rule_laws.specs.Meaning.{precedents}
use Rattle.rule_laws.specs.declared.formula.Formula.{Formula}
use Rattle.rule_laws.specs.declared.reference.Reference.{Reference}
use Rattle.rule_model.specs.declared.area.Area.{Area}
use Rattle.rule_model.specs.declared.order.Order.{Order}
use Rattle.rule_model.specs.declared.rules.CubeRules.{CubeRules}
use Rattle.rule_model.specs.declared.rules.Statement.{Statement}
use Rattle.rule_model.specs.declared.rules.Feeder.{Feeder}
use Rattle.rule_model.specs.Conditions.{IsArea, IsReference, IsPrecedent, IsNamed, IsLeafPart, IsConsolidatedPart, IsStatement, IsFeeder, IsPosition, IsOrderOf, AreCubeRules}
use Rattle.rule_model.specs.Order.{most_positions, positions_for}
use Rattle.rule_model.proofs.LeafCells.{HoldsLeavesAt, leaf_cells-held}
use Rattle.rule_tree.specs.declared.rule.BodyText.{BodyText}
use Rattle.rule_tree.specs.declared.rule.BodyText.TheVariants as bodies
use Rattle.rule_tree.specs.declared.rule.FeederText.{FeederText}
use Rattle.rule_tree.specs.declared.rule.RuleText.{RuleText}
use Rattle.rule_tree.specs.declared.rule.StatementText.{StatementText}
use Rattle.rule_tree.specs.declared.rule.TargetText.{TargetText}
use Rattle.rule_tree.specs.declared.rule.TargetText.TheVariants as targets
use Rattle.rule_tree.specs.declared.tree.Tree.{Tree}
use Rattle.bind_areas.specs.Meaning.{◌>>=◌}
use Rattle.bind_areas.specs.Areas.{area_of}
use Rattle.rule_bind.specs.declared.fault.BindAt.TheVariants as places
use Rattle.rule_bind.specs.declared.standing.Standing.TheVariants as standings
use Rattle.rule_bind.specs.Rules.{part_of, consolidated_of, Parts, parts_of, form_of, statement_of, target_of, feeders_to, feeders_of, standing_at, statements_of, all_feeders_of, rules_of}
use Rattle.rule_tree.specs.Sizes.{IsWithinLimits}
use Rattle.cube_lex.specs.Reading.{most_text_bytes}
use Rattle.rule_bind.specs.Sureness.{Sets}
use Rattle.rule_bind.proofs.Got.{got, answer, unplaced}
use Rattle.bind_laws.proofs.AreaFacts.{area_valid, bracket_valid}
use Rattle.bind_laws.proofs.ReferenceFacts.{db_valid}
use Rattle.bind_laws.proofs.FormulaFacts.{IsRead, sound}
use Rattle.bind_laws.proofs.RuleSizes.{IsCounted, statements_counted, feeders_counted}

module _ (space : Layout) (cube : ℕ) (valid : IsSpace space) (low : cube < length space.cubes) where
  -- a part for leaf cells, which may be one for consolidated cells too
  leaf_part : (sets : Sets) (tree : Tree) (f : Formula) → part_of space cube sets tree ≡ Ok f → IsLeafPart space cube f
  leaf_part sets tree f is =
      let all = (sound space cube valid low sets tree).value standings.Part f is in (
        All-weaker (IsRead space cube standings.Part) (IsPrecedent space cube) (λ p read. read.0) (precedents f) all,
        All-weaker (IsRead space cube standings.Part) IsNamed (λ p read. read.1) (precedents f) all,
      )

  consolidated_part : (tree : Tree) (f : Formula) → consolidated_of space cube tree ≡ Ok f → IsConsolidatedPart space cube f
  consolidated_part tree f is = (sound space cube valid low [] tree).value standings.ConsolidatedPart f is

  abbrev AreParts : Parts → Type 0
  AreParts parts = IfSome parts.0 (IsLeafPart space cube) × IfSome parts.1 (IsConsolidatedPart space cube)

  same_parts : (made parts : Parts) → answer made ≡ Ok parts → AreParts made → AreParts parts
  same_parts made parts is are = let same : made ≡ parts = cc is in subst AreParts same are

  parts_valid : (sets : Sets) (body : BodyText) (parts : Parts) → parts_of space cube sets body ≡ Ok parts → AreParts parts
  parts_valid sets (bodies.Both tree) parts is =
      let (f, found, more) = got (part_of space cube sets tree) (λ f. part_of space cube [] tree >>= (λ g. Ok (Some f, Some g))) parts is in
      let (g, other, rest) = got (part_of space cube [] tree) (λ g. Ok (Some f, Some g)) parts more in
      same_parts (Some f, Some g) parts rest (leaf_part sets tree f found, (leaf_part [] tree g other).0)
  parts_valid sets (bodies.Leaf tree) parts is =
      let (f, found, rest) = got (part_of space cube sets tree) (λ f. Ok (Some f, None)) parts is in
      same_parts (Some f, None) parts rest (leaf_part sets tree f found, tt)
  parts_valid sets (bodies.Cons tree) parts is =
      let (g, found, rest) = got (consolidated_of space cube tree) (λ g. Ok (None, Some g)) parts is in
      same_parts (None, Some g) parts rest (tt, consolidated_part tree g found)
  parts_valid sets (bodies.LeafCons leaf cons) parts is =
      let (f, found, more) = got (part_of space cube sets leaf) (λ f. consolidated_of space cube cons >>= (λ g. Ok (Some f, Some g))) parts is in
      let (g, other, rest) = got (consolidated_of space cube cons) (λ g. Ok (Some f, Some g)) parts more in
      same_parts (Some f, Some g) parts rest (leaf_part sets leaf f found, consolidated_part cons g other)
  parts_valid sets (bodies.ConsLeaf cons leaf) parts is =
      let (g, other, more) = got (consolidated_of space cube cons) (λ g. part_of space cube sets leaf >>= (λ f. Ok (Some f, Some g))) parts is in
      let (f, found, rest) = got (part_of space cube sets leaf) (λ f. Ok (Some f, Some g)) parts more in
      same_parts (Some f, Some g) parts rest (leaf_part sets leaf f found, consolidated_part cons g other)

  -- what holds of a statement, whatever is counted of it
  abbrev IsFormed : Statement → Type 0
  IsFormed statement = IsArea space cube statement.area × AreParts (statement.leaf, statement.cons)

  statement_valid : (text : StatementText) (statement : Statement) → statement_of space cube text ≡ Ok statement → IsFormed statement
  unfolding statement_of
  statement_valid text statement is =
      let (cells, first, more) = got (area_of space cube text.area) (λ cells. parts_of space cube cells.sets text.body >>= (λ parts. Ok (record { area = cells; leaf = parts.0; cons = parts.1; form = form_of text.body }))) statement is in
      let (parts, second, rest) = got (parts_of space cube cells.sets text.body) (λ parts. Ok (record { area = cells; leaf = parts.0; cons = parts.1; form = form_of text.body })) statement more in
      let made : Statement = record { area = cells; leaf = parts.0; cons = parts.1; form = form_of text.body } in
      let same : made ≡ statement = cc rest in
      subst IsFormed same (area_valid space cube text.area cells first, parts_valid cells.sets text.body parts second)

  statements_valid : (before : ℕ) (texts : List StatementText) (statements : List Statement) → statements_of space cube before texts ≡ Ok statements → All IsFormed statements
  statements_valid before [] statements is = let same : [] ≡ statements = cc is in subst (All IsFormed) same (All-nil IsFormed)
  statements_valid before (text ∷ texts) statements is =
      let (one, first, more) = got (standing_at (places.Statement (before + 1)) (statement_of space cube text)) (λ one. statements_of space cube (before + 1) texts >>= (λ others. Ok (one ∷ others))) statements is in
      let (others, second, rest) = got (statements_of space cube (before + 1) texts) (λ others. Ok (one ∷ others)) statements more in
      let same : one ∷ others ≡ statements = cc rest in
      let formed = statement_valid text one (unplaced (places.Statement (before + 1)) (statement_of space cube text) one first) in
      subst (All IsFormed) same (All-cons IsFormed one others formed (statements_valid (before + 1) texts others second))

  counted : (statements : List Statement) → All IsFormed statements → All (IsCounted space cube) statements → All (IsStatement space cube) statements
  counted statements formed few k d below =
      let form = formed k d below in
      let count = few k d below in
      record { area = form.0; leaf = form.1.0; consolidated = form.1.1; few_read = count.read; few_operands = count.operands }

  target_valid : (text : TargetText) (r : Reference) → target_of space cube text ≡ Ok r → IsReference space cube r
  target_valid (targets.Bracket simples) r is = bracket_valid space cube simples r low is
  target_valid (targets.Db trees) r is = db_valid space cube valid low trees r is

  abbrev AreFeeders : List Feeder → Type 0
  AreFeeders feeders = All (IsFeeder space cube) feeders

  targets_valid : (number : ℕ) (cells : Area) (texts : List TargetText) (feeders : List Feeder) → IsArea space cube cells → feeders_to space cube number cells texts ≡ Ok feeders → AreFeeders feeders
  targets_valid number cells [] feeders area is = let same : [] ≡ feeders = cc is in subst AreFeeders same (All-nil (IsFeeder space cube))
  targets_valid number cells (text ∷ texts) feeders area is =
      let (fed, first, more) = got (target_of space cube text) (λ fed. feeders_to space cube number cells texts >>= (λ others. Ok (record { area = cells; target = fed; statement = number } ∷ others))) feeders is in
      let (others, second, rest) = got (feeders_to space cube number cells texts) (λ others. Ok (record { area = cells; target = fed; statement = number } ∷ others)) feeders more in
      let one : Feeder = record { area = cells; target = fed; statement = number } in
      let same : one ∷ others ≡ feeders = cc rest in
      let good : IsFeeder space cube one = record { area = area; target = target_valid text fed first } in
      subst AreFeeders same (All-cons (IsFeeder space cube) one others good (targets_valid number cells texts others area second))

  feeder_valid : (number : ℕ) (text : FeederText) (feeders : List Feeder) → feeders_of space cube number text ≡ Ok feeders → AreFeeders feeders
  unfolding feeders_of
  feeder_valid number text feeders is =
      let (cells, first, rest) = got (area_of space cube text.area) (λ cells. feeders_to space cube number cells text.targets) feeders is in
      targets_valid number cells text.targets feeders (area_valid space cube text.area cells first) rest

  feeders_valid : (before : ℕ) (texts : List FeederText) (feeders : List Feeder) → all_feeders_of space cube before texts ≡ Ok feeders → AreFeeders feeders
  feeders_valid before [] feeders is = let same : [] ≡ feeders = cc is in subst AreFeeders same (All-nil (IsFeeder space cube))
  feeders_valid before (text ∷ texts) feeders is =
      let (some, first, more) = got (standing_at (places.Feeder (before + 1)) (feeders_of space cube before text)) (λ some. all_feeders_of space cube (before + 1) texts >>= (λ others. Ok (some ++ others))) feeders is in
      let (others, second, rest) = got (all_feeders_of space cube (before + 1) texts) (λ others. Ok (some ++ others)) feeders more in
      let same : some ++ others ≡ feeders = cc rest in
      let fed = feeder_valid before text some (unplaced (places.Feeder (before + 1)) (feeders_of space cube before text) some first) in
      subst AreFeeders same (All-append (IsFeeder space cube) some others fed (feeders_valid (before + 1) texts others second))

  abbrev no_order : Order
  no_order = record { positions = []; totals = None }

  few_for : (kind : Bool) → length (positions_for kind no_order) ≤ most_positions
  few_for true = omega arith
  few_for false = omega arith

  each_for : (kind : Bool) → All (IsPosition (axes space cube)) (positions_for kind no_order)
  each_for true = All-nil (IsPosition (axes space cube))
  each_for false = All-nil (IsPosition (axes space cube))

  unordered : IsOrderOf space cube no_order
  unordered = record {
    few = few_for;
    each = each_for;
    holds_leaf_cells = leaf_cells-held (axes space cube) [] (All-nil (IsPosition (axes space cube))) (All-nil (HoldsLeavesAt (axes space cube)));
  }

  pub rules_valid : (text : RuleText) (rules : CubeRules) → IsWithinLimits text → rules_of space cube text ≡ Ok rules → AreCubeRules space cube rules
  unfolding rules_of most_text_bytes
  rules_valid text rules within is =
      let (statements, first, more) = got (statements_of space cube 0 text.statements) (λ statements. all_feeders_of space cube 0 text.feeders >>= (λ feeders. Ok (record { skipcheck = text.skipcheck; statements = statements; feeders = feeders; order = no_order }))) rules is in
      let (feeders, second, rest) = got (all_feeders_of space cube 0 text.feeders) (λ feeders. Ok (record { skipcheck = text.skipcheck; statements = statements; feeders = feeders; order = no_order })) rules more in
      let made : CubeRules = record { skipcheck = text.skipcheck; statements = statements; feeders = feeders; order = no_order } in
      let same : made ≡ rules = cc rest in
      let counts = statements_counted space cube 0 text.statements statements within.nodes first in
      subst (AreCubeRules space cube) same (record {
        few_statements = omega (arith, counts.as_many, within.statements);
        few_feeders = omega (arith, feeders_counted space cube 0 text.feeders feeders second, within.targets);
        statements = counted statements (statements_valid 0 text.statements statements first) counts.each;
        feeders = feeders_valid 0 text.feeders feeders second;
        order = unordered;
      })
