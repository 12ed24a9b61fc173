use Rattle.std.proofs.Common.{rules, arith, subst}
use Rattle.version_book.specs.Lists.{GoesOn}
use Rattle.version_book.specs.Passes.{numbers_of, opening_of, seen}
use Rattle.version_book.proofs.Lists.{goes-on}
use Rattle.sessions.proofs.Answered.{settles_since}
use Rattle.sessions.proofs.answer.decide.Goals as goal

pub returns-in_err-settled-in-Commit-clause-err : goal.returns-in_err-settled-in-Commit-clause-err
returns-in_err-settled-in-Commit-clause-err g c =
    let goes : GoesOn (seen c.args.pass.now) (seen c.commit.new.pass) (numbers_of c.args.pass.now) =
    goes-on _ _ _ _ c.pin.ensures.seen (subst (λ ns. GoesOn (seen c.pin.new.pass) (seen c.commit.new.pass) ns) c.pin.ensures.same.all c.in_err-settled-in-Commit.ensures.err) in
    search rules

pub returns-in_ok-settled-in-Commit-clause-decided : goal.returns-in_ok-settled-in-Commit-clause-decided
returns-in_ok-settled-in-Commit-clause-decided g c =
    let w = g.W.World in
    let settled = c.in_ok-settled-in-Commit.ensures.settled in
    record {
      settles = settles_since w.effect w.after (w.content (opening_of c.args.book.now)) (seen c.args.pass.now) (seen c.pin.new.pass) (seen c.commit.new.pass) c.args.by.0 _ (numbers_of c.args.pass.now) _ c.args.by.1 c.args.command.now c.in_ok-settled-in-Commit.settled
          c.pin.ensures.seen c.requires.user c.pin.ensures.same.all settled;
      looked = (let up = c.pin.ensures.looks in let more = c.commit.ensures.looks in omega arith);
    }
