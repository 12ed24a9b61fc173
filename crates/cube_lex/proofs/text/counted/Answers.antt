use Rattle.std.proofs.Common.{sym, eqb-true, length, refl}
use Rattle.cube_lex.proofs.Counting.{counting-blank, counting-token, counted-done, counted-stopped}
use Rattle.cube_lex.proofs.text.counted.Goals as goal
use Rattle.cube_lex.proofs.text.counted.Goals.{in-Some, in_default}

pub returns-in-Err : goal.returns-in-Err
returns-in-Err c = rw (c.offset.ensures c.args.text.now)
    (counted-stopped c.args.text.now c.parts.tokens c.parts.at c.parts.line c.parts.rest.now c.in-Err.fault c.parts.invariant c.in-Err.ensures c.requires)

pub parts-preserved : goal.parts-preserved
parts-preserved c = rw c.line_ends.ensures (elim c.match-front.branch [
  | in-Some w ↦
      let is = rw w.in-Some.is at (c.in-Ok.ensures.1) in
      rw w.tokens-is
      (counting-token c.args.text.now c.parts.tokens c.parts.at c.parts.line c.parts.rest.now c.in-Ok.front.bytes.now c.in-Ok.front.after.now c.parts.invariant c.in-Ok.ensures.0
      (record { kind = w.in-Some.field-0; piece = c.in-Ok.front.bytes; start = c.parts.at; line = c.parts.line }) is refl refl refl c.in-Ok.ensures.2)
  | in_default w ↦
      let is = rw w.in_default.is at (c.in-Ok.ensures.1) in
      rw w.tokens-is
      (counting-blank c.args.text.now c.parts.tokens c.parts.at c.parts.line c.parts.rest.now c.in-Ok.front.bytes.now c.in-Ok.front.after.now c.parts.invariant c.in-Ok.ensures.0 is)
])

pub returns : goal.returns
returns c =
    counted-done c.args.text.now c.parts.tokens c.parts.at c.parts.line c.parts.rest.now c.parts.invariant (eqb-true (length c.parts.rest.now) 0 (sym c.parts-test.ensures)) c.requires
