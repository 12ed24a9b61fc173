use Rattle.std.proofs.Common.{◌<◌, ◌≤◌, ◌∙◌, None, length, refl, ap, arith}
use Rattle.version_book.specs.Passes.{opening_of, seen}
use Rattle.sandbox.specs.Sandboxes.{answer}
use Rattle.layers.proofs.Runs.{layered_few}
use Rattle.sessions.proofs.Answered.{more_none, more_next, next_left, gone_nowhere, gone_on_then}
use Rattle.sessions.proofs.session.Session+W.run.Goals as goal

pub loop-alloc-init : goal.loop-alloc-init
loop-alloc-init g c =
    let w = g.W.World in
    let a = answer w.effect w.after g.W.Layered.sandbox in
    record {
      running = c.requires.running;
      user = refl;
      commands = refl;
      more = more_none a w.after (w.content (opening_of c.args.book.now)) g.W.Layered.kept_writes c.args.self.now;
      gone_on = gone_nowhere c.args.self.now;
    }

pub loop-alloc-preserved : goal.loop-alloc-preserved
loop-alloc-preserved g c =
    let w = g.W.World in
    let a = answer w.effect w.after g.W.Layered.sandbox in
    let s = c.loop-alloc.self in
    let left : length s.told.items < length s.commands = omega (arith, c.loop-alloc-test.true, c.len.ensures, s.told.ok.0, ap length c.as_slice.ensures) in
    record {
      running = c.step.ensures.running;
      user = c.step.ensures.user ∙ c.loop-alloc.invariant.user;
      commands = c.step.ensures.commands ∙ c.loop-alloc.invariant.commands;
      more =
          more_next a w.after (w.content (opening_of c.args.book.now)) g.W.Layered.kept_writes c.args.self.now s c.step.new.self c.loop-alloc.invariant.more
          (next_left a w.after (w.content (opening_of c.args.book.now)) g.W.Layered.kept_writes s c.step.new.self c.in_ok-step.field-0 left c.in_ok-step.ensures.told) c.loop-alloc.invariant.user c.loop-alloc.invariant.commands;
      gone_on = gone_on_then c.args.self.now s c.step.new.self c.loop-alloc.invariant.gone_on c.step.ensures.gone_on;
    }

pub returns-clause-all : goal.returns-clause-all
returns-clause-all g c =
    let w = g.W.World in
    let a = answer w.effect w.after g.W.Layered.sandbox in
    let s = c.loop-alloc.self in
    let few = layered_few a w.after (w.content (opening_of c.args.book.now)) (seen s.pass) s.user None s.told.items s.commands c.loop-alloc.invariant.running.run in
    let past : length s.commands ≤ length s.told.items = omega (arith, c.loop-alloc-test.false, c.len.ensures, s.told.ok.0, ap length c.as_slice.ensures) in
    omega (arith, few, past)
