use Rattle.std.proofs.Common.{◌≡◌, ◌∙◌, ap, arith, ℕ, ◌+◌, ◌<◌, List, [], ◌∷◌, ◌++◌, length, take, set}
use Rattle.std.proofs.lemmas.List.{take_more_set}
use Rattle.feed_chains.proofs.LedFacts.{adds-one}
use Rattle.feed_chains.proofs.led.Led.add.Goals as goal

pub returns : goal.returns
returns c =
    let cells = c.self.inside.cells in
    let count = c.self.inside.count in
    let low : count < length cells = omega arith in
    let own : take count cells ≡ c.args.self.now = cc (c.self.view_is) in
    adds-one c.args.self.now (take (count + 1) (set cells count c.args.cell)) c.args.cell
    (take_more_set cells count c.args.cell low ∙ ap (λ (xs : List ℕ). xs ++ c.args.cell ∷ []) own)
