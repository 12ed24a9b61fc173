use Rattle.std.proofs.Common.{◌≡◌, ◌∙◌, [], ◌∷◌, ◌++◌, All, append-nil, ap, subst, sym}
use Rattle.std.specs.Vec.Iter.{into_iter_items}
use Rattle.dim_core.proofs.BadAttributes.{taken_front, nothing_left}
use Rattle.judged_files.specs.Loads.{IsReady}
use Rattle.judged_files.proofs.ReadyFacts.{all-here}
use Rattle.judged_files.proofs.loads.user_commands.Goals as goal

pub command_of-requires : goal.command_of-requires
command_of-requires c =
    let before = c.loop-text.yielded in
    let here = c.in-Some.text in
    let rest = into_iter_items c.next.new.self in
    let parts : c.args.texts ≡ before ++ here ∷ rest =
    sym c.into_vec-text-items.ensures ∙ sym c.into_iter-text-iterator.ensures.into_iter_gives.0 ∙ taken_front c.into_iter-text-iterator.result before c.loop-text.text-iterator c.loop-text.yielded_by ∙ ap (λ l. before ++ l) c.in-Some.ensures.steps.0 in
    subst (λ files. IsReady c.args.files.now files here.body) (sym c.loop-text.invariant.0)
    (all-here (λ command. IsReady c.args.files.now c.args.sources.now command.body) before here rest (subst (All (λ command. IsReady c.args.files.now c.args.sources.now command.body)) parts c.requires))

pub returns-clause-commands : goal.returns-clause-commands
returns-clause-commands c =
    let none : into_iter_items c.loop-text.text-iterator ≡ [] =
    nothing_left (into_iter_items c.loop-text.text-iterator) (sym c.loop-text.text-iterator.rest.ok.0 ∙ c.in-None.ensures.steps.0) in
    let all = c.loop-text.invariant.1 [] (rw none tt) in
    rw (c.new.ensures, ← append-nil c.loop-text.commands.items) all
