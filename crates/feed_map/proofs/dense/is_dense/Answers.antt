use Rattle.std.proofs.Common.{rules, ◌≡◌, true, false}
use Rattle.feed_map.proofs.DenseFacts.{dense-open, dense-shut}
use Rattle.feed_map.proofs.dense.is_dense.Goals as goal

pub returns-then-not-rules : goal.returns-then-not-rules
returns-then-not-rules c =
    let off : c.rules-rules.result.now.skipcheck ≡ false = search rules in
    dense-open c.args.model.now c.args.cube c.requires c.rules-rules.result.now c.rules-rules.ensures off c.as_slice.result.now c.as_slice.ensures c.is_empty.result c.is_empty.ensures

pub returns-else-not-rules : goal.returns-else-not-rules
returns-else-not-rules c =
    let on : c.rules-rules.result.now.skipcheck ≡ true = search rules in
    dense-shut c.args.model.now c.args.cube c.requires c.rules-rules.result.now c.rules-rules.ensures on
