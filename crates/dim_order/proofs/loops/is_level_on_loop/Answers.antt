use Rattle.std.proofs.Common.{◌≡◌, sym, ◌∙◌, subst, true, ℕ, ℤ, List, [], slice_index}
use Rattle.dim_order.specs.Loops.{parts_of}
use Rattle.dim_order.specs.Inside.Ranks.{are_below}
use Rattle.dim_order.proofs.RankLemmas.{no_loop_below}
use Rattle.lists.proofs.Places.{get_or_within}
use Rattle.dim_order.proofs.loops.is_level_on_loop.Goals as goal

pub returns-then-are_below : goal.returns-then-are_below
returns-then-are_below c =
    let parts : c.as_slice-parts.result.now ≡ parts_of c.args.lists.now c.args.element =
    c.as_slice-parts.ensures ∙ c.index-lists-element.is ∙ get_or_within c.args.lists.now c.args.element _ [] c.requires.there in
    let below : are_below c.args.ranks.now c.rank_at.result c.as_slice-parts.result.now ≡ true = sym c.are_below.ensures ∙ c.if-are_below.true in
    let R : List (ℕ × ℤ) → Type 0 = λ ps. are_below c.args.ranks.now (slice_index c.args.ranks.now c.args.element) ps ≡ true in
    sym (no_loop_below c.args.lists.now c.args.ranks.now c.requires.ranks c.args.element (subst R parts (rw c.rank_at.ensures.rank at below)))
