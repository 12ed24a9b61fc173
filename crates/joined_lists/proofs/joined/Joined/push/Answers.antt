use Rattle.std.proofs.Common.{rules, ◌≡◌, ◌∷◌, ◌++◌, [], ◌∙◌, ap, length}
use Rattle.joined_lists.proofs.Ends.{ends_pushed, parts_pushed}
use Rattle.joined_lists.proofs.joined.Joined.push.Goals.{After-push_reserved}
use Rattle.joined_lists.proofs.joined.Joined.push.Given.{Over}
use Rattle.joined_lists.proofs.joined.Joined.push.Goals as goal

module _ (g : Over) (c : After-push_reserved g) where
  ends : c.push_reserved.new.self.items ≡ c.self.inside.ends.items ++ c.len.result ∷ []
  ends = c.push_reserved.ensures.items ∙ ap (λ ends. ends ++ c.len.result ∷ []) c.in_ok-reserve.ensures.items

  last : c.len.result ≡ length (c.self.inside.items.items ++ c.args.list.now)
  last =
      let count : c.len.result ≡ length c.extend_from_slice.new.self.items = search rules in
      count ∙ ap length c.in_ok-extend_from_slice.ensures.items

pub invariant_of-self-2 : goal.invariant_of-self-2
invariant_of-self-2 g c =
    rw (ends g c, c.in_ok-extend_from_slice.ensures.items)
    (ends_pushed c.self.inside.items.items c.args.list.now 0 c.self.inside.ends.items c.len.result c.self.invariant (last g c))

pub returns-clause-ok : goal.returns-clause-ok
returns-clause-ok g c =
    rw (ends g c, c.in_ok-extend_from_slice.ensures.items, ← c.self.view_is)
    (parts_pushed c.self.inside.items.items c.args.list.now c.self.inside.ends.items c.len.result c.self.invariant (last g c))
