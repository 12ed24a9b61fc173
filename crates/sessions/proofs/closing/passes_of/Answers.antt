use Rattle.std.proofs.Common.{◌∙◌, ◌++◌, ◌∷◌, [], ap, sym, map, take}
use Rattle.std.proofs.lemmas.List.{map_push}
use Rattle.sessions.proofs.Looked.{mapped_more}
use Rattle.sessions.proofs.closing.passes_of.Goals as goal

pub each-preserved : goal.each-preserved
each-preserved g c =
    ap (map (λ pass. pass.value)) c.in_ok-push.ensures.items
    ∙ map_push (λ pass. pass.value) c.each.passes.items c.of.result
    ∙ ap (λ before. before ++ c.of.result.value ∷ []) c.each.invariant
    ∙ ap (λ one. map (λ session. session.pass) (take c.each.place c.args.sessions.now) ++ one ∷ []) (c.of.ensures ∙ ap (λ s. s.pass) (sym c.index-sessions-place.is))
    ∙ mapped_more (λ session. session.pass) c.args.sessions.now c.each.place c.index-sessions-place.result c.each-test.true c.index-sessions-place.is
