use Rattle.std.proofs.Common.{◌≡◌, ◌<◌, ◌-◌, take, ◌++◌, ◌∷◌, [], ℕ, List, sym, ◌∙◌, ap, subst, append_assoc}
use Rattle.std.proofs.lemmas.List.Elements.{All-cons}
use Rattle.least_ranks.specs.Inside.Trails.{EndsWith}
use Rattle.least_ranks.proofs.Rises.{front-is}
use Rattle.least_ranks.proofs.walk.cut.Goals as goal

pub parts-preserved : goal.parts-preserved
parts-preserved c =
    let ends = subst (λ (xs : List ℕ). EndsWith xs c.in-Some.last) c.deref.ensures.value c.in-Some.ensures.some in
    let front : c.pop.new.self.items ≡ ends.front =
    c.pop.ensures.rest ∙ ap (λ n. take (n - 1) c.parts.parts.items) c.parts.parts.ok.0
    ∙ front-is c.parts.parts.items ends.front c.in-Some.last ends.is in
    record {
      rest = c.in-Some.last ∷ c.parts.invariant.rest;
      is = c.parts.invariant.is ∙ ap (λ xs. xs ++ c.parts.invariant.rest) ends.is
          ∙ append_assoc ends.front (c.in-Some.last ∷ []) c.parts.invariant.rest
          ∙ ap (λ xs. xs ++ (c.in-Some.last ∷ c.parts.invariant.rest)) (sym front);
      above =
          All-cons
          (λ n. c.args.place < n) c.in-Some.last c.parts.invariant.rest c.if-last-place.false c.parts.invariant.above;
    }
