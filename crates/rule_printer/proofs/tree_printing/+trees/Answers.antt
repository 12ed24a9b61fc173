use Rattle.std.proofs.Common.{rules, ◌≡◌, ◌≤◌, ◌<◌, ◌+◌, ℕ, List, [], ◌∷◌, ◌++◌, true, codes, OnOk, if◌then◌else◌, sym, ap, ◌∙◌, subst, arith}
use Rattle.std.proofs.lemmas.Bool.{lt-ltb}
use Rattle.std.proofs.lemmas.List.{take_all}
use Rattle.cube_lex.proofs.Spaced.{spaces-both}
use Rattle.cube_lex.specs.Written.{Spelling, Spaces, sign_token, text_token, word_token}
use Rattle.expression_grammar.specs.Spelled.{in_parentheses}
use Rattle.rule_printer.proofs.PrintedTrees.{written_number, written_text, written_current, written_bracket, written_stet, written_continue, written_call, written_minus, written_not, written_binary}
use Rattle.rule_printer.proofs.PrintedFormulas.{arguments_written}
use Rattle.rule_printer.proofs.TreeWeights.{weight, weights, weight_call, weight_minus, weight_not, weight_binary, weight_one}
use Rattle.rule_printer.proofs.Spines.{none_left, spine_less, spine_weight, spine_writable, left_small, operation_at}
use Rattle.rule_printer.proofs.WritableTrees.{number_is, text_is, current_is, bracket_is, call_is, minus_is, not_is, binary_is}
use Rattle.rule_printer.proofs.WrittenParts.{then_adds, adds_same, adds_item, one_passes}
use Rattle.rule_printer.specs.Spelled.{Written, written, written_at, money_token, current_token, bracket_spelled, listed_spelled, tree_spelled, left_level, right_level, sign_of}
use Rattle.rule_printer.specs.Inside.Spine.{Spine}
use Rattle.rule_printer.specs.Writable.{is_writable, is_quotable, is_marked, is_short_word, is_writable_simple}
use Rattle.std.specs.List.{list_all}
use Rattle.rule_tree.specs.declared.tree.Tree.{Tree}
use Rattle.rule_printer.proofs.tree_printing.+trees.Goals as goal

pub write_call-returns : goal.write_call-returns
write_call-returns t c =
    let arguments : List Spelling = listed_spelled tree_spelled c.args.arguments.now in
    let end : List Spelling = sign_token (codes ")") ∷ [] in
    then_adds c.write_sign-2.result c.args.out.now.items c.write_short_word.new.out.items c.write_sign-2.new.out.items (word_token c.args.function.now ∷ []) (sign_token (codes "(") ∷ (arguments ++ end)) c.in_ok-write_short_word.ensures
    (then_adds c.write_sign-2.result c.write_short_word.new.out.items c.write_sign.new.out.items c.write_sign-2.new.out.items (sign_token (codes "(") ∷ []) (arguments ++ end) c.in_ok-write_sign.ensures.spaced
    (then_adds c.write_sign-2.result c.write_sign.new.out.items c.write_trees.new.out.items c.write_sign-2.new.out.items arguments end c.in_ok-write_trees.ensures c.write_sign-2.ensures.spaced))

pub write_placed-returns-in_ok-write_tree : goal.write_placed-returns-in_ok-write_tree
write_placed-returns-in_ok-write_tree t c =
    let w : Written = written c.args.tree.now in
    let looser : w.rank < c.args.level = subst (λ n. n < c.args.level) c.rank.ensures c.if-rank-level.true in
    let same : in_parentheses w.tokens ≡ written_at c.args.level w = sym (ap (λ b. if b then in_parentheses w.tokens else w.tokens) (lt-ltb w.rank c.args.level looser)) in
    adds_same c.write_sign-then-rank-level.result c.args.out.now.items c.write_sign-then-rank-level.new.out.items (in_parentheses w.tokens) (written_at c.args.level w) same
    (then_adds c.write_sign-then-rank-level.result c.args.out.now.items c.write_sign.new.out.items c.write_sign-then-rank-level.new.out.items (sign_token (codes "(") ∷ []) (w.tokens ++ sign_token (codes ")") ∷ []) c.in_ok-write_sign.ensures.spaced
    (then_adds c.write_sign-then-rank-level.result c.write_sign.new.out.items c.write_tree.new.out.items c.write_sign-then-rank-level.new.out.items w.tokens (sign_token (codes ")") ∷ []) c.in_ok-write_tree.ensures c.write_sign-then-rank-level.ensures.spaced))

pub write_tree-write_money-requires : goal.write_tree-write_money-requires
write_tree-write_money-requires t c = number_is c.args.tree.now c.in-Number.money c.requires c.in-Number.is

pub write_tree-write_text-requires : goal.write_tree-write_text-requires
write_tree-write_text-requires t c = subst (λ b. is_quotable b ≡ true) (sym c.as_slice.ensures) (text_is c.args.tree.now c.in-Text.bytes c.requires c.in-Text.is)

pub write_tree-write_current-requires : goal.write_tree-write_current-requires
write_tree-write_current-requires t c = subst (λ b. is_marked b ≡ true) (sym c.shown.ensures.value) (current_is c.args.tree.now c.in-Current.dim c.requires c.in-Current.is)

pub write_tree-write_bracket-requires : goal.write_tree-write_bracket-requires
write_tree-write_bracket-requires t c = subst (λ l. list_all is_writable_simple l ≡ true) (sym c.as_slice-in-Bracket.ensures) (bracket_is c.args.tree.now c.in-Bracket.simples c.requires c.in-Bracket.is)

pub write_tree-write_call-requires : goal.write_tree-write_call-requires
write_tree-write_call-requires t c =
    let (word, all) = call_is c.args.tree.now c.in-Call.function c.in-Call.arguments c.requires c.in-Call.is in
    let parts : weight c.args.tree.now ≡ 1 + weights c.as_slice-in-Call-2.result.now = weight_call c.args.tree.now c.in-Call.function c.in-Call.arguments c.in-Call.is ∙ ap (λ l. 1 + weights l) (sym c.as_slice-in-Call-2.ensures) in
    (search rules, (subst (λ b. is_short_word b ≡ true) (sym c.as_slice-in-Call.ensures) word, subst (λ l. list_all is_writable l ≡ true) (sym c.as_slice-in-Call-2.ensures) all))

pub write_tree-write_placed-requires : goal.write_tree-write_placed-requires
write_tree-write_placed-requires t c =
    let parts : weight c.args.tree.now ≡ 1 + weight c.get.result.now = weight_minus c.args.tree.now c.in-Minus.inner c.in-Minus.is ∙ ap (λ e. 1 + weight e) (sym c.get.ensures) in
    (search rules, subst (λ e. is_writable e ≡ true) (sym c.get.ensures) (minus_is c.args.tree.now c.in-Minus.inner c.requires c.in-Minus.is))

pub write_tree-write_placed-requires-in-Not : goal.write_tree-write_placed-requires-in-Not
write_tree-write_placed-requires-in-Not t c =
    let parts : weight c.args.tree.now ≡ 1 + weight c.get-in-Not.result.now = weight_not c.args.tree.now c.in-Not.inner c.in-Not.is ∙ ap (λ e. 1 + weight e) (sym c.get-in-Not.ensures) in
    (search rules, subst (λ e. is_writable e ≡ true) (sym c.get-in-Not.ensures) (not_is c.args.tree.now c.in-Not.inner c.requires c.in-Not.is))

pub write_tree-write_placed-requires-in-Binary : goal.write_tree-write_placed-requires-in-Binary
write_tree-write_placed-requires-in-Binary t c =
    let parts : weight c.args.tree.now ≡ 1 + (weight c.in-Binary.left + weight c.get-in-Binary-2.result.now) = weight_binary c.args.tree.now c.in-Binary.op c.in-Binary.left c.in-Binary.right c.in-Binary.is ∙ ap (λ e. 1 + (weight c.in-Binary.left + weight e)) (sym c.get-in-Binary-2.ensures) in
    (search rules, subst (λ e. is_writable e ≡ true) (sym c.get-in-Binary-2.ensures) (binary_is c.args.tree.now c.in-Binary.op c.in-Binary.left c.in-Binary.right c.requires c.in-Binary.is).1)

pub write_tree-returns-in-Number : goal.write_tree-returns-in-Number
write_tree-returns-in-Number t c =
    let same : money_token c.in-Number.money ∷ [] ≡ tree_spelled c.args.tree.now = sym (ap tree_spelled c.in-Number.is ∙ ap (λ w. w.tokens) (written_number c.in-Number.money)) in
    adds_same c.write_money.result c.args.out.now.items c.write_money.new.out.items (money_token c.in-Number.money ∷ []) (tree_spelled c.args.tree.now) same
    (c.write_money.ensures)

pub write_tree-returns-in-Text : goal.write_tree-returns-in-Text
write_tree-returns-in-Text t c =
    let same : text_token c.in-Text.bytes ∷ [] ≡ tree_spelled c.args.tree.now = sym (ap tree_spelled c.in-Text.is ∙ ap (λ w. w.tokens) (written_text c.in-Text.bytes)) in
    adds_same c.write_text.result c.args.out.now.items c.write_text.new.out.items (text_token c.in-Text.bytes ∷ []) (tree_spelled c.args.tree.now) same
    (subst (λ b. OnOk c.write_text.result (Spaces c.args.out.now.items c.write_text.new.out.items (text_token b ∷ []))) c.as_slice.ensures c.write_text.ensures)

pub write_tree-returns-in_ok-write_sign-in-Current : goal.write_tree-returns-in_ok-write_sign-in-Current
write_tree-returns-in_ok-write_sign-in-Current t c =
    let same : sign_token (codes "!") ∷ current_token c.in-Current.dim ∷ [] ≡ tree_spelled c.args.tree.now = sym (ap tree_spelled c.in-Current.is ∙ ap (λ w. w.tokens) (written_current c.in-Current.dim)) in
    adds_same c.write_current.result c.args.out.now.items c.write_current.new.out.items (sign_token (codes "!") ∷ current_token c.in-Current.dim ∷ []) (tree_spelled c.args.tree.now) same
    (then_adds c.write_current.result c.args.out.now.items c.write_sign.new.out.items c.write_current.new.out.items (sign_token (codes "!") ∷ []) (current_token c.in-Current.dim ∷ []) c.in_ok-write_sign-in-Current.ensures.spaced
    (subst (λ b. OnOk c.write_current.result (Spaces c.write_sign.new.out.items c.write_current.new.out.items (current_token b ∷ []))) c.shown.ensures.value c.write_current.ensures))

pub write_tree-returns-in-Bracket : goal.write_tree-returns-in-Bracket
write_tree-returns-in-Bracket t c =
    let same : bracket_spelled c.in-Bracket.simples ≡ tree_spelled c.args.tree.now = sym (ap tree_spelled c.in-Bracket.is ∙ ap (λ w. w.tokens) (written_bracket c.in-Bracket.simples)) in
    adds_same c.write_bracket.result c.args.out.now.items c.write_bracket.new.out.items (bracket_spelled c.in-Bracket.simples) (tree_spelled c.args.tree.now) same
    (subst (λ l. OnOk c.write_bracket.result (Spaces c.args.out.now.items c.write_bracket.new.out.items (bracket_spelled l))) c.as_slice-in-Bracket.ensures c.write_bracket.ensures)

pub write_tree-returns-in-Stet : goal.write_tree-returns-in-Stet
write_tree-returns-in-Stet t c =
    let same : word_token (codes "STET") ∷ [] ≡ tree_spelled c.args.tree.now = sym (ap tree_spelled c.in-Stet.is ∙ ap (λ w. w.tokens) written_stet) in
    adds_same c.write_word.result c.args.out.now.items c.write_word.new.out.items (word_token (codes "STET") ∷ []) (tree_spelled c.args.tree.now) same
    (c.write_word.ensures.spaced)

pub write_tree-returns-in-Continue : goal.write_tree-returns-in-Continue
write_tree-returns-in-Continue t c =
    let same : word_token (codes "CONTINUE") ∷ [] ≡ tree_spelled c.args.tree.now = sym (ap tree_spelled c.in-Continue.is ∙ ap (λ w. w.tokens) written_continue) in
    adds_same c.write_word-in-Continue.result c.args.out.now.items c.write_word-in-Continue.new.out.items (word_token (codes "CONTINUE") ∷ []) (tree_spelled c.args.tree.now) same
    (c.write_word-in-Continue.ensures.spaced)

pub write_tree-returns-in-Call : goal.write_tree-returns-in-Call
write_tree-returns-in-Call t c =
    let tokens : List ℕ → List Tree → List Spelling = λ f l. word_token f ∷ sign_token (codes "(") ∷ (listed_spelled tree_spelled l ++ sign_token (codes ")") ∷ []) in
    let same : tokens c.in-Call.function c.in-Call.arguments ≡ tree_spelled c.args.tree.now =
    sym (ap tree_spelled c.in-Call.is ∙ ap (λ w. w.tokens) (written_call c.in-Call.function c.in-Call.arguments) ∙ ap (λ l. word_token c.in-Call.function ∷ sign_token (codes "(") ∷ (l ++ sign_token (codes ")") ∷ [])) (arguments_written c.in-Call.arguments)) in
    adds_same c.write_call.result c.args.out.now.items c.write_call.new.out.items (tokens c.in-Call.function c.in-Call.arguments) (tree_spelled c.args.tree.now) same
    (subst (λ l. OnOk c.write_call.result (Spaces c.args.out.now.items c.write_call.new.out.items (tokens c.in-Call.function l))) c.as_slice-in-Call-2.ensures
    (subst (λ f. OnOk c.write_call.result (Spaces c.args.out.now.items c.write_call.new.out.items (tokens f c.as_slice-in-Call-2.result.now))) c.as_slice-in-Call.ensures c.write_call.ensures))

pub write_tree-returns-in_ok-write_sign-in-Minus : goal.write_tree-returns-in_ok-write_sign-in-Minus
write_tree-returns-in_ok-write_sign-in-Minus t c =
    let same : sign_token (codes "-") ∷ written_at 3 (written c.in-Minus.inner) ≡ tree_spelled c.args.tree.now = sym (ap tree_spelled c.in-Minus.is ∙ ap (λ w. w.tokens) (written_minus c.in-Minus.inner)) in
    adds_same c.write_placed.result c.args.out.now.items c.write_placed.new.out.items (sign_token (codes "-") ∷ written_at 3 (written c.in-Minus.inner)) (tree_spelled c.args.tree.now) same
    (then_adds c.write_placed.result c.args.out.now.items c.write_sign-in-Minus.new.out.items c.write_placed.new.out.items (sign_token (codes "-") ∷ []) (written_at 3 (written c.in-Minus.inner)) c.in_ok-write_sign-in-Minus.ensures.spaced
    (subst (λ e. OnOk c.write_placed.result (Spaces c.write_sign-in-Minus.new.out.items c.write_placed.new.out.items (written_at 3 (written e)))) c.get.ensures c.write_placed.ensures))

pub write_tree-returns-in_ok-write_sign-in-Not : goal.write_tree-returns-in_ok-write_sign-in-Not
write_tree-returns-in_ok-write_sign-in-Not t c =
    let same : sign_token (codes "~") ∷ written_at 3 (written c.in-Not.inner) ≡ tree_spelled c.args.tree.now = sym (ap tree_spelled c.in-Not.is ∙ ap (λ w. w.tokens) (written_not c.in-Not.inner)) in
    adds_same c.write_placed-in-Not.result c.args.out.now.items c.write_placed-in-Not.new.out.items (sign_token (codes "~") ∷ written_at 3 (written c.in-Not.inner)) (tree_spelled c.args.tree.now) same
    (then_adds c.write_placed-in-Not.result c.args.out.now.items c.write_sign-in-Not.new.out.items c.write_placed-in-Not.new.out.items (sign_token (codes "~") ∷ []) (written_at 3 (written c.in-Not.inner)) c.in_ok-write_sign-in-Not.ensures.spaced
    (subst (λ e. OnOk c.write_placed-in-Not.result (Spaces c.write_sign-in-Not.new.out.items c.write_placed-in-Not.new.out.items (written_at 3 (written e)))) c.get-in-Not.ensures c.write_placed-in-Not.ensures))

pub write_tree-returns-in_ok-write_operator-in-Binary : goal.write_tree-returns-in_ok-write_operator-in-Binary
write_tree-returns-in_ok-write_operator-in-Binary t c =
    let left : List Spelling = written_at (left_level c.in-Binary.op) (written c.in-Binary.left) in
    let right : List Spelling = written_at (right_level c.in-Binary.op) (written c.in-Binary.right) in
    let operator : Spelling = sign_token (sign_of c.in-Binary.op) in
    let same : left ++ operator ∷ right ≡ tree_spelled c.args.tree.now = sym (ap tree_spelled c.in-Binary.is ∙ ap (λ w. w.tokens) (written_binary c.in-Binary.op c.in-Binary.left c.in-Binary.right)) in
    let first : Spaces c.args.out.now.items c.write_left.new.out.items left =
    subst (λ n. Spaces c.args.out.now.items c.write_left.new.out.items (written_at n (written c.in-Binary.left))) c.left_level.ensures
    (subst (λ e. Spaces c.args.out.now.items c.write_left.new.out.items (written_at c.left_level.result (written e))) c.get-in-Binary.ensures c.in_ok-write_left-in-Binary.ensures) in
    let last : OnOk c.write_placed-in-Binary.result (Spaces c.write_operator.new.out.items c.write_placed-in-Binary.new.out.items right) =
    subst (λ n. OnOk c.write_placed-in-Binary.result (Spaces c.write_operator.new.out.items c.write_placed-in-Binary.new.out.items (written_at n (written c.in-Binary.right)))) c.right_level.ensures
    (subst (λ e. OnOk c.write_placed-in-Binary.result (Spaces c.write_operator.new.out.items c.write_placed-in-Binary.new.out.items (written_at c.right_level.result (written e)))) c.get-in-Binary-2.ensures c.write_placed-in-Binary.ensures) in
    adds_same c.write_placed-in-Binary.result c.args.out.now.items c.write_placed-in-Binary.new.out.items (left ++ operator ∷ right) (tree_spelled c.args.tree.now) same
    (then_adds c.write_placed-in-Binary.result c.args.out.now.items c.write_left.new.out.items c.write_placed-in-Binary.new.out.items left (operator ∷ right) first
    (then_adds c.write_placed-in-Binary.result c.write_left.new.out.items c.write_operator.new.out.items c.write_placed-in-Binary.new.out.items (operator ∷ []) right c.in_ok-write_operator-in-Binary.ensures last))

pub write_trees-loop-index-preserved : goal.write_trees-loop-index-preserved
write_trees-loop-index-preserved t c = adds_item tree_spelled c.args.out.now.items c.loop-index.out.items c.write_separator.new.out.items c.write_tree.new.out.items c.args.trees.now c.loop-index.index c.index-trees-index.result c.loop-index-test.true c.index-trees-index.is
    c.loop-index.invariant c.in_ok-write_separator.ensures c.in_ok-write_tree.ensures

pub write_trees-write_tree-requires : goal.write_trees-write_tree-requires
write_trees-write_tree-requires t c =
    let within : weight c.index-trees-index.result ≤ weights c.args.trees.now = weight_one c.args.trees.now c.loop-index.index c.index-trees-index.result c.loop-index-test.true c.index-trees-index.is in
    (search rules, one_passes is_writable c.args.trees.now c.loop-index.index c.index-trees-index.result c.loop-index-test.true c.index-trees-index.is c.requires)

pub write_trees-returns : goal.write_trees-returns
write_trees-returns t c = subst (Spaces c.args.out.now.items c.loop-index.out.items) (ap (listed_spelled tree_spelled) (take_all c.loop-index.index c.args.trees.now c.loop-index-test.false)) c.loop-index.invariant

pub write_tree-write_left-requires : goal.write_tree-write_left-requires
write_tree-write_left-requires t c =
    let parts : weight c.args.tree.now ≡ 1 + (weight c.get-in-Binary.result.now + weight c.in-Binary.right) = weight_binary c.args.tree.now c.in-Binary.op c.in-Binary.left c.in-Binary.right c.in-Binary.is ∙ ap (λ e. 1 + (weight e + weight c.in-Binary.right)) (sym c.get-in-Binary.ensures) in
    (search rules, (subst (λ e. is_writable e ≡ true) (sym c.get-in-Binary.ensures) (binary_is c.args.tree.now c.in-Binary.op c.in-Binary.left c.in-Binary.right c.requires c.in-Binary.is).0, subst (λ n. n < 2) (sym c.left_level.ensures) (left_small c.in-Binary.op)))

pub write_left-write_placed-requires : goal.write_left-write_placed-requires
write_left-write_placed-requires t c =
    let lighter : weight c.in_ok-head.head.now ≤ weight c.args.tree.now = spine_weight c.args.level c.in_ok-head.operations.items c.args.tree.now c.in_ok-head.head.now c.in_ok-head.ensures in
    (search rules, spine_writable c.args.level c.in_ok-head.operations.items c.args.tree.now c.in_ok-head.head.now c.in_ok-head.ensures c.requires.writable)

pub write_left-up-init : goal.write_left-up-init
write_left-up-init t c = (c.in_ok-head.head.now, c.in_ok-head.ensures, c.in_ok-write_placed.ensures)

pub write_left-write_placed-requires-in-Some : goal.write_left-write_placed-requires-in-Some
write_left-write_placed-requires-in-Some t c =
    let (head, spine, before) = c.up.invariant in
    let whole : Spine c.args.level c.args.tree.now (c.pop.new.self.items ++ (c.in-Some.op, c.in-Some.right) ∷ []) head = subst (λ l. Spine c.args.level c.args.tree.now l head) c.in-Some.ensures.items spine in
    let (above, rest, is, rank) = spine_less c.args.level c.pop.new.self.items c.args.tree.now head c.in-Some.op c.in-Some.right whole in
    let lighter : weight above ≤ weight c.args.tree.now = spine_weight c.args.level c.pop.new.self.items c.args.tree.now above rest in
    let parts : weight above ≡ 1 + (weight head + weight c.in-Some.right.now) = weight_binary above c.in-Some.op head c.in-Some.right.now is in
    let writable : is_writable above ≡ true = spine_writable c.args.level c.pop.new.self.items c.args.tree.now above rest c.requires.writable in
    (search rules, (binary_is above c.in-Some.op head c.in-Some.right.now writable is).1)

pub write_left-up-preserved : goal.write_left-up-preserved
write_left-up-preserved t c =
    let (head, spine, before) = c.up.invariant in
    let whole : Spine c.args.level c.args.tree.now (c.pop.new.self.items ++ (c.in-Some.op, c.in-Some.right) ∷ []) head = subst (λ l. Spine c.args.level c.args.tree.now l head) c.in-Some.ensures.items spine in
    let (above, rest, is, rank) = spine_less c.args.level c.pop.new.self.items c.args.tree.now head c.in-Some.op c.in-Some.right whole in
    let right : List Spelling = written_at (right_level c.in-Some.op) (written c.in-Some.right.now) in
    let last : Spaces c.write_operator.new.out.items c.write_placed-in-Some.new.out.items right =
    subst (λ n. Spaces c.write_operator.new.out.items c.write_placed-in-Some.new.out.items (written_at n (written c.in-Some.right.now))) c.right_level.ensures c.in_ok-write_placed-2.ensures in
    let all : Spaces c.args.out.now.items c.write_placed-in-Some.new.out.items (written_at c.args.level (written head) ++ sign_token (sign_of c.in-Some.op) ∷ right) =
    spaces-both c.args.out.now.items c.up.out.items c.write_placed-in-Some.new.out.items (written_at c.args.level (written head)) (sign_token (sign_of c.in-Some.op) ∷ right) before
    (spaces-both c.up.out.items c.write_operator.new.out.items c.write_placed-in-Some.new.out.items (sign_token (sign_of c.in-Some.op) ∷ []) right c.in_ok-write_operator.ensures last) in
    (above, rest, subst (Spaces c.args.out.now.items c.write_placed-in-Some.new.out.items) (operation_at c.args.level above head c.in-Some.right.now c.in-Some.op c.requires.level is rank) all)

pub write_left-returns : goal.write_left-returns
write_left-returns t c =
    let (head, spine, before) = c.up.invariant in
    let none : c.up.operations.items ≡ [] = none_left c.up.operations.items (omega (arith, c.up.operations.ok.0, c.in_default.ensures.cases.0)) in
    let same : head ≡ c.args.tree.now = subst (λ l. Spine c.args.level c.args.tree.now l head) none spine in
    subst (λ e. Spaces c.args.out.now.items c.up.out.items (written_at c.args.level (written e))) same before
