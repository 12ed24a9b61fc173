use Rattle.std.proofs.Common.{ap, sym, ◌∙◌}
use Rattle.history.specs.Version.{content_after}
use Rattle.history.proofs.Runs.{content_after-append}
use Rattle.version_book.proofs.ledger.Ledger.grown.Goals as goal

pub invariant_of-result : goal.invariant_of-result
invariant_of-result g c =
    let w = g.W.World in
    let first = w.content c.args.self.opening.value in
    record {
      kept = c.requires.state ∙ (ap (λ x. w.after x c.args.entry.writes) c.args.self.kept
          ∙ (sym (content_after-append w.after first c.args.self.history.items c.args.entry) ∙ ap (content_after w.after first) (sym c.push_reserved.ensures.items)));
    }
