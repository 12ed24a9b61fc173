use Rattle.std.proofs.Common.{◌≡◌, sym, ◌∙◌, subst, true, false, List, ℕ, ℤ, []}
use Rattle.dim_order.specs.Members.{Joined, is_among}
use Rattle.dim_order.specs.Inside.Growth.{IsGrown, is_ready}
use Rattle.dim_order.specs.Loops.{parts_of}
use Rattle.dim_order.proofs.GrowthLemmas.{push_grown}
use Rattle.lists.proofs.Places.{get_or_within}
use Rattle.dim_order.proofs.growth.visit.Goals as goal

pub returns-clause-grown : goal.returns-clause-grown
returns-clause-grown c =
    let list = c.args.members.now.list in
    let absent : is_among list c.args.element ≡ false = sym c.has.ensures ∙ c.if-has.false in
    let parts : c.as_slice.result.now ≡ parts_of c.args.lists.now c.args.element = c.as_slice.ensures ∙ c.index-lists-element.is ∙ get_or_within c.args.lists.now c.args.element _ [] c.requires.within in
    let ready : is_ready c.args.joining (is_among list) c.as_slice.result.now ≡ true = sym c.is_ready.ensures ∙ c.if-not-is_ready.false in
    let R : List (ℕ × ℤ) → Type 0 = λ ps. is_ready c.args.joining (is_among list) ps ≡ true in
    let grown = push_grown c.args.joining c.args.lists.now list c.requires.grown c.args.element c.requires.within absent (subst R parts ready) in
    let P : Joined → Type 0 = λ m. IsGrown c.args.joining c.args.lists.now m.list in
    subst P (sym c.in_ok-add.ensures.added) grown
