use Rattle.std.proofs.Common.{rules, ◌≡◌, ◌<◌, ◌∙◌, None, true, length, get_or, set, sym, ap}
use Rattle.std.proofs.Math.ListN.{length-set}
use Rattle.std.proofs.lemmas.List.{get_or_default}
use Rattle.script_run.specs.Inside.Running.{Running, before_changes}
use Rattle.script_run.proofs.Changes.{before-kept, flagged-kept}
use Rattle.script_run.proofs.progress.Run.keep.Goals as goal

pub invariant_of-self : goal.invariant_of-self
invariant_of-self c =
    let flags = c.self.inside.is_changed.items in
    let there : c.args.place < length c.self.inside.is_changed.items = search rules in
    rw (c.in_ok-list_change.ensures.flags, c.in_ok-list_change.ensures.changes) (
      length-set flags c.args.place true ∙ c.self.invariant.0 ∙ sym (length-set c.self.inside.variables.items c.args.place c.replace-before.new.self),
      flagged-kept c.self.inside.changes.items flags c.args.place _ there c.self.invariant.1,
    )

pub returns-in_ok-list_change-clause-held : goal.returns-in_ok-list_change-clause-held
returns-in_ok-list_change-clause-held c =
    let variables = c.self.inside.variables.items in
    let within : c.args.place < length c.self.inside.variables.items = search rules in
    let was : c.replace-before.result ≡ get_or c.self.inside.variables.items c.args.place None =
    c.replace-before.ensures.value ∙ (c.index_mut.ensures.value ∙ get_or_default variables c.args.place _ None within) in
    ap (λ cs. before_changes cs (set variables c.args.place c.replace-before.new.self)) c.in_ok-list_change.ensures.changes
    ∙ before-kept c.self.inside.changes.items c.self.inside.is_changed.items variables c.args.place c.replace-before.new.self c.replace-before.result c.self.invariant.1 was
    ∙ ap (λ (r : Running). r.held) c.self.view_is
