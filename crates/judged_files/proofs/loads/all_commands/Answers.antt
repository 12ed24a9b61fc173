use Rattle.std.proofs.Common.{◌≡◌, ◌∙◌, [], ◌∷◌, ◌++◌, All, append-nil, ap, subst, sym}
use Rattle.std.specs.Vec.Iter.{into_iter_items}
use Rattle.dim_core.proofs.BadAttributes.{taken_front, nothing_left}
use Rattle.judged_files.specs.Loads.{AreReady}
use Rattle.judged_files.proofs.ReadyFacts.{all-here}
use Rattle.judged_files.proofs.loads.all_commands.Goals as goal

pub user_commands-requires : goal.user_commands-requires
user_commands-requires c =
    let before = c.loop-texts.yielded in
    let here = c.in-Some.texts in
    let rest = into_iter_items c.next.new.self in
    let parts : c.args.users ≡ before ++ here ∷ rest =
    sym c.into_vec-texts-items.ensures ∙ sym c.into_iter-texts-iterator.ensures.into_iter_gives.0 ∙ taken_front c.into_iter-texts-iterator.result before c.loop-texts.texts-iterator c.loop-texts.yielded_by ∙ ap (λ l. before ++ l) c.in-Some.ensures.steps.0 in
    subst (λ files. AreReady c.args.files.now files here) (sym c.loop-texts.invariant.0)
    (all-here (AreReady c.args.files.now c.args.sources.now) before here rest (subst (All (AreReady c.args.files.now c.args.sources.now)) parts c.requires))

pub returns-clause-commands : goal.returns-clause-commands
returns-clause-commands c =
    let none : into_iter_items c.loop-texts.texts-iterator ≡ [] =
    nothing_left (into_iter_items c.loop-texts.texts-iterator) (sym c.loop-texts.texts-iterator.rest.ok.0 ∙ c.in-None.ensures.steps.0) in
    let all = c.loop-texts.invariant.1 [] (rw none tt) in
    rw (c.new.ensures, ← append-nil c.loop-texts.all.items) all
