use Rattle.std.proofs.Common.{◌≡◌, refl, ◌<◌, ◌∙◌, sym, ap, arith, false, not, Option, Some, None, length}
use Rattle.std.specs.Prelude.{is_some}
use Rattle.feed_turn.proofs.Places.{sets-long, set-found}
use Rattle.feed_turn.proofs.area.has_all.Goals as goal

no-some : {A : Type 0} (o : Option A) → is_some o ≡ false → o ≡ None
no-some None off = refl
no-some (Some a) off = absurd (cc)

pub bounds-as_slice-place : goal.bounds-as_slice-place
bounds-as_slice-place c =
    omega (arith, sets-long c.args.model.now.space c.args.cube c.args.area.now c.requires.area, c.requires.place, ap length c.as_slice.ensures)

pub returns : goal.returns
returns c = λ on.
    let area = c.args.area.now in
    let low : c.args.place < length area.sets = omega (arith, sets-long c.args.model.now.space c.args.cube area c.requires.area, c.requires.place) in
    let none = no-some c.index-as_slice-place.result (c.is_none.ensures ∙ ap not on) in
    sym (set-found c.as_slice.result.now area.sets c.args.place c.index-as_slice-place.result c.as_slice.ensures low c.index-as_slice-place.is) ∙ none
