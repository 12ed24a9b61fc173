use Rattle.std.proofs.Common.{rules, ◌≡◌, ◌+◌, ◌++◌, ◌∷◌, [], ap, length, arith}
use Rattle.cube_server.specs.Output.{user_text, users_text}
use Rattle.cube_server.proofs.Pieces.{numbered-piece}
use Rattle.cube_server.proofs.answer.print_users.Goals as goal

pub loop-of_user-preserved : goal.loop-of_user-preserved
loop-of_user-preserved c =
    let one = c.in-Some.of_user in
    let left = c.loop-of_user.of_user-iterator.rest.items in
    let rest = c.next.new.self.rest.items in
    let next : left ≡ one ∷ rest = c.in-Some.ensures.steps.0 in
    let piece = c.in_ok-print_user.field-0 in
    let pushed : c.push.new.self.items ≡ c.loop-of_user.pieces.items ++ piece ∷ [] = search rules in
    let text : piece.items ≡ user_text (c.loop-of_user.user + 1) one = search rules in
    record {
      texts = numbered-piece (users_text c.args.told.items) c.loop-of_user.user one left rest c.loop-of_user.pieces.items c.push.new.self.items piece
          next pushed text c.loop-of_user.invariant.texts;
      left = omega (arith, c.loop-of_user.invariant.left, ap length next);
    }
