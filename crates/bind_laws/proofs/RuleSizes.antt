-- The rules that a text within the limits means can be counted in 32 bits.
use Rattle.std.proofs.Common.{◌≡◌, ◌≤◌, ◌<◌, ◌+◌, ◌^◌, ℕ, List, [], ◌∷◌, ◌++◌, length, Some, None, Ok, All, subst, length-append, arith}
use Rattle.std.specs.Option.{option_map_or}
use Rattle.std.proofs.lemmas.List.Elements.{All-nil, All-cons}
use Rattle.std.proofs.lemmas.List.Sums.{sum_by-cons}
use Rattle.cube_space.specs.Layout.{Layout}
use Rattle.cube_lex.specs.Reading.{most_text_bytes}
use Rattle.rule_laws.specs.declared.formula.Formula.{Formula}
use Rattle.rule_laws.specs.declared.formula.Truth.{Truth}
use Rattle.rule_laws.specs.Meaning.{precedents, truth_precedents}
use Rattle.rule_laws.specs.ZeroTest.{operands, operands_of_truth}
use Rattle.rule_model.specs.declared.area.Area.{Area}
use Rattle.rule_model.specs.declared.rules.Statement.{Statement}
use Rattle.rule_model.specs.declared.rules.Feeder.{Feeder}
use Rattle.rule_model.specs.Conditions.{read_count, operand_count}
use Rattle.rule_tree.specs.Sizes.{nodes, body_nodes, all_nodes, all_targets}
use Rattle.rule_tree.specs.declared.rule.BodyText.{BodyText}
use Rattle.rule_tree.specs.declared.rule.BodyText.TheVariants as bodies
use Rattle.rule_tree.specs.declared.rule.FeederText.{FeederText}
use Rattle.rule_tree.specs.declared.rule.StatementText.{StatementText}
use Rattle.rule_tree.specs.declared.rule.TargetText.{TargetText}
use Rattle.rule_tree.specs.declared.tree.Tree.{Tree}
use Rattle.bind_areas.specs.Meaning.{◌>>=◌}
use Rattle.bind_areas.specs.Areas.{area_of}
use Rattle.rule_bind.specs.declared.fault.BindAt.TheVariants as places
use Rattle.rule_bind.specs.declared.standing.Standing.TheVariants as standings
use Rattle.rule_bind.specs.Rules.{part_of, consolidated_of, Parts, parts_of, form_of, statement_of, target_of, feeders_to, feeders_of, standing_at, statements_of, all_feeders_of}
use Rattle.rule_bind.specs.Sureness.{Sets}
use Rattle.rule_bind.proofs.Got.{got, answer, unplaced}
use Rattle.bind_laws.proofs.FormulaSizes.{IsCount, light}
use Rattle.bind_laws.proofs.CountFacts.{reads_count, operands_count}

module _ (space : Layout) (cube : ℕ) where
  -- both parts of a statement, where so much is counted of a formula
  module _ (of : Formula → ℕ) (of_truth : Truth → ℕ) (counts : IsCount of of_truth) where
    abbrev of_parts : Parts → ℕ
    of_parts parts = option_map_or of parts.0 0 + option_map_or of parts.1 0

    part_light : (sets : Sets) (tree : Tree) (f : Formula) → part_of space cube sets tree ≡ Ok f → of f ≤ nodes tree
    part_light sets tree f is = (light of of_truth counts space cube sets tree).value standings.Part f is

    consolidated_light : (tree : Tree) (f : Formula) → consolidated_of space cube tree ≡ Ok f → of f ≤ nodes tree
    consolidated_light tree f is = (light of of_truth counts space cube [] tree).value standings.ConsolidatedPart f is

    same_parts : (n : ℕ) (made parts : Parts) → answer made ≡ Ok parts → of_parts made ≤ n → of_parts parts ≤ n
    same_parts n made parts is few = let same : made ≡ parts = cc is in subst (λ p. of_parts p ≤ n) same few

    parts_light : (sets : Sets) (body : BodyText) (parts : Parts) → parts_of space cube sets body ≡ Ok parts → of_parts parts ≤ body_nodes body + body_nodes body
    parts_light sets (bodies.Both tree) parts is =
        let (f, found, more) = got (part_of space cube sets tree) (λ f. part_of space cube [] tree >>= (λ g. Ok (Some f, Some g))) parts is in
        let (g, other, rest) = got (part_of space cube [] tree) (λ g. Ok (Some f, Some g)) parts more in
        same_parts (nodes tree + nodes tree) (Some f, Some g) parts rest (omega (arith, part_light sets tree f found, part_light [] tree g other))
    parts_light sets (bodies.Leaf tree) parts is =
        let (f, found, rest) = got (part_of space cube sets tree) (λ f. Ok (Some f, None)) parts is in
        same_parts (nodes tree + nodes tree) (Some f, None) parts rest (omega (arith, part_light sets tree f found))
    parts_light sets (bodies.Cons tree) parts is =
        let (g, found, rest) = got (consolidated_of space cube tree) (λ g. Ok (None, Some g)) parts is in
        same_parts (nodes tree + nodes tree) (None, Some g) parts rest (omega (arith, consolidated_light tree g found))
    parts_light sets (bodies.LeafCons leaf cons) parts is =
        let (f, found, more) = got (part_of space cube sets leaf) (λ f. consolidated_of space cube cons >>= (λ g. Ok (Some f, Some g))) parts is in
        let (g, other, rest) = got (consolidated_of space cube cons) (λ g. Ok (Some f, Some g)) parts more in
        same_parts (body_nodes (bodies.LeafCons leaf cons) + body_nodes (bodies.LeafCons leaf cons)) (Some f, Some g) parts rest (omega (arith, part_light sets leaf f found, consolidated_light cons g other))
    parts_light sets (bodies.ConsLeaf cons leaf) parts is =
        let (g, other, more) = got (consolidated_of space cube cons) (λ g. part_of space cube sets leaf >>= (λ f. Ok (Some f, Some g))) parts is in
        let (f, found, rest) = got (part_of space cube sets leaf) (λ f. Ok (Some f, Some g)) parts more in
        same_parts (body_nodes (bodies.ConsLeaf cons leaf) + body_nodes (bodies.ConsLeaf cons leaf)) (Some f, Some g) parts rest (omega (arith, part_light sets leaf f found, consolidated_light cons g other))

  -- what a statement reads in both parts, and its operands
  pub record IsCounted (statement : Statement) : Type 0 where
    pub read : read_count statement.leaf + read_count statement.cons < 2 ^ 32
    pub operands : operand_count statement.leaf + operand_count statement.cons < 2 ^ 32

  statement_counted : (text : StatementText) (statement : Statement) → body_nodes text.body ≤ most_text_bytes → statement_of space cube text ≡ Ok statement → IsCounted statement
  unfolding statement_of most_text_bytes
  statement_counted text statement small is =
      let (cells, first, more) = got (area_of space cube text.area) (λ cells. parts_of space cube cells.sets text.body >>= (λ parts. Ok (record { area = cells; leaf = parts.0; cons = parts.1; form = form_of text.body }))) statement is in
      let (parts, second, rest) = got (parts_of space cube cells.sets text.body) (λ parts. Ok (record { area = cells; leaf = parts.0; cons = parts.1; form = form_of text.body })) statement more in
      let made : Statement = record { area = cells; leaf = parts.0; cons = parts.1; form = form_of text.body } in
      let same : made ≡ statement = cc rest in
      let read = parts_light (λ f. length (precedents f)) (λ q. length (truth_precedents q)) reads_count cells.sets text.body parts second in
      let had = parts_light operands operands_of_truth operands_count cells.sets text.body parts second in
      subst IsCounted same (record { read = omega (arith, read, small); operands = omega (arith, had, small) })

  -- as many as the texts have, and each can be counted
  pub record AreCounted (texts : List StatementText) (statements : List Statement) : Type 0 where
    pub as_many : length statements ≡ length texts
    pub each : All IsCounted statements

  pub statements_counted : (before : ℕ) (texts : List StatementText) (statements : List Statement) → all_nodes texts ≤ most_text_bytes → statements_of space cube before texts ≡ Ok statements → AreCounted texts statements
  statements_counted before [] statements small is = let same : [] ≡ statements = cc is in subst (AreCounted []) same (record { as_many = omega arith; each = All-nil IsCounted })
  statements_counted before (text ∷ texts) statements small is =
      let (one, first, more) = got (standing_at (places.Statement (before + 1)) (statement_of space cube text)) (λ one. statements_of space cube (before + 1) texts >>= (λ others. Ok (one ∷ others))) statements is in
      let (others, second, rest) = got (statements_of space cube (before + 1) texts) (λ others. Ok (one ∷ others)) statements more in
      let same : one ∷ others ≡ statements = cc rest in
      let sums = sum_by-cons (λ (statement : StatementText). body_nodes statement.body) text texts in
      let here = statement_counted text one (omega (arith, small, sums)) (unplaced (places.Statement (before + 1)) (statement_of space cube text) one first) in
      let behind = statements_counted (before + 1) texts others (omega (arith, small, sums)) second in
      subst (AreCounted (text ∷ texts)) same (record { as_many = omega (arith, behind.as_many); each = All-cons IsCounted one others here behind.each })

  targets_counted : (number : ℕ) (cells : Area) (texts : List TargetText) (feeders : List Feeder) → feeders_to space cube number cells texts ≡ Ok feeders → length feeders ≡ length texts
  targets_counted number cells [] feeders is = let same : [] ≡ feeders = cc is in subst (λ (l : List Feeder). length l ≡ 0) same (omega arith)
  targets_counted number cells (text ∷ texts) feeders is =
      let (fed, first, more) = got (target_of space cube text) (λ fed. feeders_to space cube number cells texts >>= (λ others. Ok (record { area = cells; target = fed; statement = number } ∷ others))) feeders is in
      let (others, second, rest) = got (feeders_to space cube number cells texts) (λ others. Ok (record { area = cells; target = fed; statement = number } ∷ others)) feeders more in
      let one : Feeder = record { area = cells; target = fed; statement = number } in
      let same : one ∷ others ≡ feeders = cc rest in
      subst (λ l. length l ≡ length (text ∷ texts)) same (omega (arith, targets_counted number cells texts others second))

  feeder_counted : (number : ℕ) (text : FeederText) (feeders : List Feeder) → feeders_of space cube number text ≡ Ok feeders → length feeders ≡ length text.targets
  unfolding feeders_of
  feeder_counted number text feeders is =
      let (cells, first, rest) = got (area_of space cube text.area) (λ cells. feeders_to space cube number cells text.targets) feeders is in
      targets_counted number cells text.targets feeders rest

  pub feeders_counted : (before : ℕ) (texts : List FeederText) (feeders : List Feeder) → all_feeders_of space cube before texts ≡ Ok feeders → length feeders ≡ all_targets texts
  feeders_counted before [] feeders is = let same : [] ≡ feeders = cc is in subst (λ (l : List Feeder). length l ≡ 0) same (omega arith)
  feeders_counted before (text ∷ texts) feeders is =
      let (some, first, more) = got (standing_at (places.Feeder (before + 1)) (feeders_of space cube before text)) (λ some. all_feeders_of space cube (before + 1) texts >>= (λ others. Ok (some ++ others))) feeders is in
      let (others, second, rest) = got (all_feeders_of space cube (before + 1) texts) (λ others. Ok (some ++ others)) feeders more in
      let same : some ++ others ≡ feeders = cc rest in
      let fed = feeder_counted before text some (unplaced (places.Feeder (before + 1)) (feeders_of space cube before text) some first) in
      let sums = sum_by-cons (λ (feeder : FeederText). length feeder.targets) text texts in
      subst (λ l. length l ≡ all_targets (text ∷ texts)) same (omega (arith, length-append some others, fed, feeders_counted (before + 1) texts others second, sums))
