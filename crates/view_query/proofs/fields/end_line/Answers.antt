use Rattle.std.proofs.Common.{◌<◌, ◌≤◌, ◌-◌, ◌≡◌, ◌∙◌, length, take, ap, arith}
use Rattle.view_query.proofs.WritingFacts.{line_ended, line_empty}
use Rattle.view_query.proofs.fields.end_line.Goals as goal

pub returns-then-len-start : goal.returns-then-len-start
returns-then-len-start c = λ before fields long is.
    let some : c.args.start < length c.args.out.now.items = omega (arith, c.len.ensures, c.if-len-start.true, c.args.out.now.ok) in
    let size : c.args.out.now.len ≡ length c.args.out.now.items = omega (arith, c.args.out.now.ok) in
    line_ended c.args.out.now.items c.pop-tab.new.self.items before fields c.args.start long is some
    (c.pop-tab.ensures.rest ∙ ap (λ n. take (n - 1) c.args.out.now.items) size)

pub returns-else-len-start : goal.returns-else-len-start
returns-else-len-start c = λ before fields long is.
    let none : length c.args.out.now.items ≤ c.args.start = omega (arith, c.len.ensures, c.if-len-start.false, c.args.out.now.ok) in
    line_empty c.args.out.now.items before fields c.args.start long is none
