use Rattle.std.proofs.Common.{sym, eqb-true, length, refl}
use Rattle.cube_lex.proofs.Readings.{going-blank, going-token, reading-done, reading-stopped}
use Rattle.cube_lex.proofs.Listing.{going-listed}
use Rattle.cube_lex.proofs.reading.read.Goals as goal
use Rattle.cube_lex.proofs.reading.read.Goals.{in-Some+in_ok-push, in_default}

pub returns-in-Err : goal.returns-in-Err
returns-in-Err c = rw (c.new.ensures, c.offset.ensures c.args.text.now)
    (reading-stopped c.args.text.now c.parts.tokens.items c.parts.at c.parts.line c.parts.rest.now c.in-Err.fault c.parts.invariant c.in-Err.ensures c.requires)

pub parts-preserved : goal.parts-preserved
parts-preserved c = rw c.line_ends.ensures (elim c.match-front.branch [
  | in-Some+in_ok-push w ↦
      let is = rw w.in-Some.is at (c.in-Ok.ensures.1) in
      rw (w.tokens-is, w.in_ok-push.ensures.items)
      (going-token c.args.text.now c.parts.tokens.items c.parts.at c.parts.line c.parts.rest.now c.in-Ok.front.bytes.now c.in-Ok.front.after.now c.parts.invariant c.in-Ok.ensures.0
      (record { kind = w.in-Some.kind; piece = c.in-Ok.front.bytes; start = c.parts.at; line = c.parts.line }) is refl refl refl)
  | in_default w ↦
      let is = rw w.in_default.is at (c.in-Ok.ensures.1) in
      rw w.tokens-is
      (going-blank c.args.text.now c.parts.tokens.items c.parts.at c.parts.line c.parts.rest.now c.in-Ok.front.bytes.now c.in-Ok.front.after.now c.parts.invariant c.in-Ok.ensures.0 is)
])

pub returns : goal.returns
returns c = rw c.new-2.ensures
    (reading-done c.args.text.now c.parts.tokens.items c.parts.at c.parts.line c.parts.rest.now c.parts.invariant (eqb-true (length c.parts.rest.now) 0 (sym c.parts-test.ensures)) c.requires)

pub new-requires : goal.new-requires
new-requires c = going-listed c.args.text.now c.parts.tokens.items c.parts.at c.parts.line c.parts.rest.now c.parts.invariant c.requires

pub new-requires-2 : goal.new-requires-2
new-requires-2 c = going-listed c.args.text.now c.parts.tokens.items c.parts.at c.parts.line c.parts.rest.now c.parts.invariant c.requires
