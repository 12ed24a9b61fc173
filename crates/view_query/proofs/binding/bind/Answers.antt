use Rattle.std.proofs.Common.{◌≡◌, ◌∙◌, Some, ap, sym, subst}
use Rattle.dim_name.specs.Name.{place_of}
use Rattle.cube_space.specs.Layout.{axes, cube_names}
use Rattle.view_query.specs.Meaning.{Answers, known}
use Rattle.view_query.specs.Binding.{bound, bound_in}
use Rattle.view_query.proofs.Meanings.{goes_on}
use Rattle.view_query.proofs.BoundFacts.{answers_view}
use Rattle.view_query.proofs.binding.bind.Goals.{After-bind_in}
use Rattle.view_query.proofs.binding.bind.Goals as goal

answered : (c : After-bind_in) → Answers (bound c.args.model.now.space c.args.text.now) c.bind_in.result
unfolding bound
answered c =
    let space = c.args.model.now.space in
    let found : place_of (cube_names space) c.args.text.now.cube ≡ Some c.in-Some.cube = ap (λ s. place_of (cube_names s) c.args.text.now.cube) (sym c.space-space.ensures.space) ∙ sym c.in-Some.ensures in
    goes_on (known (place_of (cube_names space) c.args.text.now.cube)) c.in-Some.cube (λ cube. bound_in (axes space cube) cube c.args.text.now) c.bind_in.result
    (ap known found) (subst (λ s. Answers (bound_in (axes s c.in-Some.cube) c.in-Some.cube c.args.text.now) c.bind_in.result) c.space-space.ensures.space c.bind_in.ensures)

pub returns-in-Some-clause-answered : goal.returns-in-Some-clause-answered
returns-in-Some-clause-answered c = answered (goal.at.returns-in-Some-clause-answered c).After-bind_in

pub returns-in-Some-clause-view : goal.returns-in-Some-clause-view
returns-in-Some-clause-view c = answers_view c.args.model.now.space c.args.text.now c.bind_in.result (answered (goal.at.returns-in-Some-clause-view c).After-bind_in)
