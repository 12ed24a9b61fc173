use Rattle.std.proofs.Common.{refl}
use Rattle.feed_map.specs.declared.growth.Growth.{Growth}
use Rattle.feed_map.proofs.GainFacts.{gains-push, pushed-gains, pushed-stops}
use Rattle.feed_map.proofs.growth.Growth.add.Goals as goal

pub returns-clause-gains : goal.returns-clause-gains
returns-clause-gains c =
    let pushed : Growth = record { alloc = c.args.self.now.alloc; known = c.args.self.now.known; opened = c.args.self.now.opened; found = c.push.new.self; finds = c.saturating_add-self.result } in
    pushed-gains c.settle.result c.args.cell c.args.self.now pushed c.settle.new.self (gains-push c.args.self.now pushed c.args.cell refl refl c.in_ok-push.ensures.items) c.settle.ensures.gains

pub returns-clause-stops : goal.returns-clause-stops
returns-clause-stops c =
    let pushed : Growth = record { alloc = c.args.self.now.alloc; known = c.args.self.now.known; opened = c.args.self.now.opened; found = c.push.new.self; finds = c.saturating_add-self.result } in
    pushed-stops c.settle.result c.args.cell c.args.self.now pushed c.settle.new.self (gains-push c.args.self.now pushed c.args.cell refl refl c.in_ok-push.ensures.items) c.settle.ensures.stops
