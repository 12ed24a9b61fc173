use Rattle.std.proofs.Common.{rules, ◌≡◌, ◌∙◌, ap, take}
use Rattle.std.specs.List.{prefix_len}
use Rattle.explanation.specs.Places.{is_shown}
use Rattle.explanation.proofs.Takes.{take-as-long}
use Rattle.explanation.proofs.places.up_to_end.Goals as goal

pub returns : goal.returns
returns c =
    c.split_at.ensures.front ∙ ap (λ n. take n c.args.bytes.now) c.shown_len.ensures.len
    ∙ take-as-long (prefix_len is_shown c.args.bytes.now) c.args.bytes.now
