use Rattle.std.proofs.Common.{◌≡◌, [], ◌∷◌, ◌∙◌, rules}
use Rattle.small_tests.proofs.Cubes.{without_dimensions}
use Rattle.small_tests.proofs.parts.cube_has_dimensions.Goals as goal

pub new-space-requires : goal.new-space-requires
new-space-requires c =
    let one : c.push.new.self.items ≡ record { name = c.args.name; dims = c.new-2.result } ∷ [] = search (rules, c.in_ok-push.ensures.items, c.new-cubes.ensures.items) in
    without_dimensions c.new-3.result.items c.push.new.self.items c.args.name c.new-2.result c.new-3.ensures.items one (c.new-2.ensures ∙ c.new.ensures.items)
