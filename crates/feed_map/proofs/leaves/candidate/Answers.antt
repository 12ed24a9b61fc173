use Rattle.std.proofs.Common.{◌∙◌, ◌<◌, sym, ap, subst, ℕ, List, Option, length, arith}
use Rattle.std.specs.Prelude.{slice_get}
use Rattle.std.proofs.lemmas.Option.{slice_get-get_or}
use Rattle.feed_map.specs.Inside.Leaves.{own_leaves, candidates, IsRoot}
use Rattle.feed_map.proofs.LeafFacts.{leaf-there}
use Rattle.feed_map.proofs.leaves.candidate.Goals as goal

pub returns-in-None-clause-within : goal.returns-in-None-clause-within
returns-in-None-clause-within c =
    let d = c.args.dimension.now in
    let are = subst (λ (root : Option ℕ). IsRoot d root c.args.leaves.now) c.in-None.is c.requires.root in
    let many : c.args.place < length (own_leaves d) = subst (λ (root : Option ℕ). c.args.place < candidates d root) c.in-None.is c.requires.place in
    let low : c.args.place < length c.args.leaves.now = omega (arith, many, ap length are) in
    leaf-there d c.args.place _ (ap (λ (ls : List ℕ). slice_get ls c.args.place) (sym are) ∙ slice_get-get_or c.args.leaves.now c.args.place 0 low)
