use Rattle.std.proofs.Common.{rules, ◌≡◌, ◌++◌, ap, ◌∙◌, [], ◌∷◌, ◌&&◌, ◌||◌, if◌then◌else◌}
use Rattle.cell_trace.specs.Trace.{reaches_own, reaches_rest}
use Rattle.cell_trace.proofs.chain.with_entered.Goals as goal
use Rattle.cell_trace.proofs.chain.with_entered.Goals.{then-reaches_own, else-reaches_own+then-continued, else-reaches_own+else-continued, then-not-continued, else-not-continued}

pub returns-clause-own : goal.returns-clause-own
returns-clause-own c =
    let own : c.if-reaches_own.takes_own ≡ (c.reaches_own.result || (c.reaches_rest-continued.result && c.args.later.takes_own)) =
    elim c.if-reaches_own.branch [ then-reaches_own w ↦ search rules | else-reaches_own+then-continued w ↦ search rules | else-reaches_own+else-continued w ↦ search rules ] in
    let rests : c.reaches_rest-continued.result ≡ reaches_rest c.args.found.visited = c.reaches_rest-continued.ensures ∙ ap reaches_rest c.as_slice.ensures in
    let owns : c.reaches_own.result ≡ reaches_own c.args.found.visited = c.reaches_own.ensures ∙ ap reaches_own c.as_slice-2.ensures in
    own ∙ ap (λ b. b || (c.reaches_rest-continued.result && c.args.later.takes_own)) owns
    ∙ ap (λ b. reaches_own c.args.found.visited || (b && c.args.later.takes_own)) rests

pub returns-clause-entered : goal.returns-clause-entered
returns-clause-entered c =
    let kept : c.if-not-continued.entered.items ≡ (if c.reaches_rest-continued.result then c.args.later.entered.items else []) =
    elim c.if-not-continued.branch [ then-not-continued w ↦ search rules | else-not-continued w ↦ search rules ] in
    let rests : c.reaches_rest-continued.result ≡ reaches_rest c.args.found.visited = c.reaches_rest-continued.ensures ∙ ap reaches_rest c.as_slice.ensures in
    c.in_ok-push.ensures.items
    ∙ ap (λ es. es ++ record { place = c.args.next.now.place; first = c.args.next.now.first; visited = c.args.found.visited } ∷ [])
    (kept ∙ ap (λ b. if b then c.args.later.entered.items else []) rests)
