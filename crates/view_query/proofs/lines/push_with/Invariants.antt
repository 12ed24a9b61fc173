use Rattle.std.proofs.Common.{◌≡◌, ◌∷◌, ◌++◌, map, drop}
use Rattle.view_query.proofs.lines.push_with.Given as goal

abbrev pub invariant-loop-line : goal.invariant-loop-line
invariant-loop-line l =
    l.all.items ++ map (λ line. l.element ∷ line) (drop l.line-index l.later)
    ≡ l.fn.all.items ++ map (λ line. l.element ∷ line) l.later
