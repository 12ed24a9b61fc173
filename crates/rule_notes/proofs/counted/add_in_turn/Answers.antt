use Rattle.std.proofs.Common.{◌∙◌, ◌++◌, ap, map, not}
use Rattle.std.proofs.lemmas.List.{append_assoc}
use Rattle.ref_order.specs.Reads.{precedent_of}
use Rattle.rule_notes.specs.Inside.Named.{counted_view, for_kind}
use Rattle.rule_notes.proofs.counted.add_in_turn.Goals as goal

pub returns : goal.returns
returns c =
    let one = map (for_kind c.args.kind) (map precedent_of c.args.reads.now) in
    let two = map (for_kind (not c.args.kind)) (map precedent_of c.args.others.now) in
    c.in_ok-add_kind-2.ensures ∙ ap (λ l. l ++ two) c.in_ok-add_kind.ensures ∙ append_assoc (map counted_view c.args.counted.now.items) one two
