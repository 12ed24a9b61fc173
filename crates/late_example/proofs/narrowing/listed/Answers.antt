use Rattle.std.proofs.Common.{ℕ, List, ◌++◌, ◌∷◌, [], sym, ap, ◌∙◌}
use Rattle.late_example.specs.Inside.Narrowing.{places_of}
use Rattle.late_example.proofs.Lists.{places_next}
use Rattle.late_example.proofs.narrowing.listed.Goals as goal

pub each-preserved : goal.each-preserved
each-preserved c =
    c.in_ok-push.ensures.items ∙ ap (λ (xs : List ℕ). xs ++ c.element_at.result ∷ []) c.each.invariant
    ∙ ap (λ (e : ℕ). places_of c.args.set.now c.args.from c.each.place ++ e ∷ []) c.element_at.ensures
    ∙ sym (places_next c.args.set.now c.args.from c.each.place c.each.auto.place)
