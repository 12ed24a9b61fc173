use Rattle.std.proofs.Common.{◌≡◌, ◌≤◌, ℕ, List, ◌∙◌, ap, subst, arith}
use Rattle.std.proofs.lemmas.List.Elements.{All-weaker}
use Rattle.least_ranks.specs.Inside.Trails.{Trail, EndsWith}
use Rattle.least_ranks.proofs.Rises.{at_most-last, ends-same}
use Rattle.least_ranks.proofs.walk.Walk.top.Goals as goal

pub returns-in-Some-Some-clause-some : goal.returns-in-Some-Some-clause-some
returns-in-Some-Some-clause-some c =
    let busy : c.deref.result.now ≡ c.args.self.now.busy =
    c.deref.ensures.value ∙ ap (λ (t : Trail). t.busy) c.self.view_is in
    let parts : c.deref-2.result.now ≡ c.args.self.now.parts =
    c.deref-2.ensures.value ∙ ap (λ (t : Trail). t.parts) c.self.view_is in
    let last = subst (λ (xs : List ℕ). EndsWith xs c.in-Some-Some.place) busy c.in-Some-Some.ensures.some in
    let ends = subst (λ (xs : List ℕ). EndsWith xs c.in-Some-Some.start) parts c.in-Some-Some.ensures'.some in
    record {
      last = last;
      above =
          All-weaker (λ s. s ≤ c.in-Some-Some.start) (λ s. s ≤ c.in-Some-Some.place)
          (λ s less. omega (arith, less, c.if-start-place.true)) c.args.self.now.parts
          (at_most-last c.args.self.now.parts c.in-Some-Some.start ends c.requires.parts);
    }

pub returns-in_default-clause-none : goal.returns-in_default-clause-none
returns-in_default-clause-none c start here k d within =
    let busy : c.deref.result.now ≡ c.args.self.now.busy =
    c.deref.ensures.value ∙ ap (λ (t : Trail). t.busy) c.self.view_is in
    let parts : c.deref-2.result.now ≡ c.args.self.now.parts =
    c.deref-2.ensures.value ∙ ap (λ (t : Trail). t.parts) c.self.view_is in
    let last = subst (λ (xs : List ℕ). EndsWith xs c.in-Some-Some.place) busy c.in-Some-Some.ensures.some in
    let ends = subst (λ (xs : List ℕ). EndsWith xs c.in-Some-Some.start) parts c.in-Some-Some.ensures'.some in
    let same = ends-same c.args.self.now.parts c.in-Some-Some.start start ends here in
    let most = at_most-last c.args.self.now.busy c.in-Some-Some.place last c.requires.busy k d within in
    omega (arith, most, same, c.if-start-place.false)
