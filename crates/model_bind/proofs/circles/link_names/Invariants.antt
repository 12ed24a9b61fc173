use Rattle.std.proofs.Common.{◌≡◌, map, take}
use Rattle.model_bind.specs.Binding.{link_name}
use Rattle.model_bind.proofs.circles.link_names.Given as goal

abbrev pub invariant-loop-link : goal.invariant-loop-link
invariant-loop-link l = l.names.items ≡ map (link_name l.space) (take l.link-index l.links)
