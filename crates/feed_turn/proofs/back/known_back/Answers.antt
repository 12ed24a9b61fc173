use Rattle.std.proofs.Common.{◌≡◌, ◌<◌, ◌∙◌, refl, ap, sym, subst, arith, ℕ, Option, Some, List, IfOk, length}
use Rattle.std.specs.Prelude.{slice_get}
use Rattle.std.proofs.lemmas.Option.{slice_get-get_or}
use Rattle.feed_turn.specs.declared.turns.Known.{Known}
use Rattle.feed_turn.specs.Views.{turn_of}
use Rattle.feed_turn.specs.Known.{Move, move_of, IsTurnOf, IsBack}
use Rattle.feed_turn.proofs.Known.{is-back, recalled-back, kept-all}
use Rattle.feed_turn.proofs.back.known_back.Goals as goal

pub returns-in-Some-clause-back : goal.returns-in-Some-clause-back
returns-in-Some-clause-back c =
    let view = c.args.view in
    let known = c.args.turns.now.backs.items in
    let one = c.index.result.now in
    let move : Move = record { cube = view.reference.now.cube; dim = c.args.dim; place = c.args.place; to = c.args.to.now } in
    let of : IsTurnOf view.model.now view.cube move (turn_of view) = record { space = refl; own = refl; its = refl; all = c.has_all.ensures c.if-not-has_all.false } in
    let low : c.in-Some.known < length known = omega (arith, c.in-Some.ensures.within, ap length c.deref.ensures.value) in
    let at : slice_get c.deref.result.now c.in-Some.known ≡ Some one = subst (λ (xs : List (Known (Option (List (Option ℕ))))). slice_get xs c.in-Some.known ≡ Some one) (sym c.deref.ensures.value) (slice_get-get_or known c.in-Some.known one low ∙ ap Some (sym c.index.ensures)) in
    subst (λ (found : Option (List (Option ℕ))). IfOk c.shared.result (λ same. same ≡ found))
    (recalled-back view.model.now view.cube known c.in-Some.known one move (turn_of view) c.requires.turns.backs low c.index.ensures (c.in-Some.ensures.alike one at) of) c.shared.ensures

pub returns-clause-turns : goal.returns-clause-turns
returns-clause-turns c =
    let view = c.args.view in
    let move : Move = record { cube = view.reference.now.cube; dim = c.args.dim; place = c.args.place; to = c.args.to.now } in
    let of : IsTurnOf view.model.now view.cube move (turn_of view) = record { space = refl; own = refl; its = refl; all = c.has_all.ensures c.if-not-has_all.false } in
    let more = kept-all (λ (one : Known (Option (List (Option ℕ)))). IsBack view.model.now view.cube (move_of one.moving) one.found) c.args.turns.now.backs.items c.remember.new.known.items (record { moving = record { cube = view.reference.now.cube; dim = c.args.dim; place = c.args.place; to = c.args.to }; found = c.in_ok-found.found })
    c.requires.turns.backs c.remember.ensures (is-back view.model.now view.cube move (turn_of view) c.in_ok-found.found of (c.in_ok-found.ensures ∙ c.in_ok-back.ensures)) in
    record { overs = c.requires.turns.overs; sets = c.requires.turns.sets; backs = more }
