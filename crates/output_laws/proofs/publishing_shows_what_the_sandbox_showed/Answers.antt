use Rattle.output_laws.proofs.Published.{shown}
use Rattle.output_laws.proofs.publishing_shows_what_the_sandbox_showed.Goals as goal

pub returns : goal.returns
returns c =
    let sandboxing = c.layers_are_writes_in_turn.ensures in
    shown sandboxing (c.publishing_is_the_kept_writes_at_once.ensures.publish sandboxing)
