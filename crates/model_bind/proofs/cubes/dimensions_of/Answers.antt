use Rattle.std.proofs.Common.{◌≡◌, ◌++◌, ◌∙◌, map, sym, ap}
use Rattle.std.specs.Vec.Iter.{into_iter_items}
use Rattle.std.proofs.lemmas.List.{append-nil}
use Rattle.dim_core.proofs.BadAttributes.{taken_front, nothing_left}
use Rattle.dim_text.specs.Progress.{Text}
use Rattle.model_bind.proofs.cubes.dimensions_of.Goals as goal

pub returns : goal.returns
returns c =
    let seen = c.loop-text.yielded in
    let parts : c.args.texts.items ≡ seen ++ into_iter_items c.loop-text.text-iterator =
    sym c.into_iter-text-iterator.ensures.into_iter_gives.0 ∙ taken_front c.into_iter-text-iterator.result seen c.loop-text.text-iterator c.loop-text.yielded_by in
    let all : c.args.texts.items ≡ seen = parts ∙ ap (λ rest. seen ++ rest) (nothing_left (into_iter_items c.loop-text.text-iterator) (sym c.loop-text.text-iterator.rest.ok.0 ∙ c.in-None.ensures.steps.0)) ∙ append-nil seen in
    c.loop-text.invariant.2 ∙ ap (map (λ (text : Text). text.dimension)) (sym all)
