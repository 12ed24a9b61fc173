use Rattle.std.proofs.Common.{refl, sym, ◌∙◌, arith, true, false}
use Rattle.read_sources.specs.declared.fault.ReadFault.TheVariants.{Memory}
use Rattle.read_sources.specs.Gathering.{IsStatementFault}
use Rattle.read_sources.proofs.Gathered.{few-read, all-stay, read-long, before-parts}
use Rattle.read_sources.proofs.Greater.{handed-on, kind-done, first-of-both, none-first, taken-both}
use Rattle.read_sources.proofs.sources.take_statement.Goals as goal

pub returns-in_err-leaf-clause-refused : goal.returns-in_err-leaf-clause-refused
returns-in_err-leaf-clause-refused c =
    handed-on c.from_residual.result Memory (IsStatementFault c.args.model.now c.args.cube c.args.number c.args.statement.now) c.from_residual.ensures.1 tt

pub returns-in_err-cons-clause-refused : goal.returns-in_err-cons-clause-refused
returns-in_err-cons-clause-refused c =
    handed-on c.from_residual-in_err-cons.result Memory (IsStatementFault c.args.model.now c.args.cube c.args.number c.args.statement.now) c.from_residual-in_err-cons.ensures.1 tt

pub overflow_cast-len : goal.overflow_cast-len
overflow_cast-len c =
    let leaf = read-long c.in_ok-leaf.leaf.items c.args.statement.now.leaf c.in_ok-leaf.ensures in
    omega (arith, c.len.ensures, leaf, few-read c.args.model.now c.args.cube c.args.number c.args.statement.now c.requires.statement)

pub overflow_cast-len-2 : goal.overflow_cast-len-2
overflow_cast-len-2 c =
    let cons = read-long c.in_ok-cons.cons.items c.args.statement.now.cons c.in_ok-cons.ensures in
    omega (arith, c.len-2.ensures, cons, few-read c.args.model.now c.args.cube c.args.number c.args.statement.now c.requires.statement)

pub take_part-requires-clause-known : goal.take_part-requires-clause-known
take_part-requires-clause-known c = c.begin.ensures c.args.model.now c.args.cube c.args.statement.now.area c.requires.known

pub returns-in-Some-clause-refused : goal.returns-in-Some-clause-refused
returns-in-Some-clause-refused c =
    let st = c.args.statement.now in
    let before = before-parts st c.len.result c.len-2.result c.before-before_leaf.result c.before-before_leaf.ensures
    (omega (arith, c.len.ensures, read-long c.in_ok-leaf.leaf.items st.leaf c.in_ok-leaf.ensures)) (omega (arith, c.len-2.ensures, read-long c.in_ok-cons.cons.items st.cons c.in_ok-cons.ensures)) in (
      refl,
      refl,
      first-of-both c.args.model.now c.args.cube c.args.number st c.requires.statement c.take_part.new.sources.items c.take_part-2.new.sources.items c.in_ok-first.first c.in_ok-second.second c.in-Some.reference
          (kind-done _ c.take_part.new.sources.items c.in_ok-first.first before.0 c.in_ok-first.ensures.done) (kind-done _ c.take_part-2.new.sources.items c.in_ok-second.second before.1 c.in_ok-second.ensures.done)
          (sym c.earliest.ensures ∙ c.in-Some.is),
    )

pub returns-clause-taken : goal.returns-clause-taken
returns-clause-taken c =
    let st = c.args.statement.now in
    let before = before-parts st c.len.result c.len-2.result c.before-before_leaf.result c.before-before_leaf.ensures
    (omega (arith, c.len.ensures, read-long c.in_ok-leaf.leaf.items st.leaf c.in_ok-leaf.ensures)) (omega (arith, c.len-2.ensures, read-long c.in_ok-cons.cons.items st.cons c.in_ok-cons.ensures)) in
    let one = kind-done _ c.take_part.new.sources.items c.in_ok-first.first before.0 c.in_ok-first.ensures.done in
    let two = kind-done _ c.take_part-2.new.sources.items c.in_ok-second.second before.1 c.in_ok-second.ensures.done in
    let none = none-first c.in_ok-first.first c.in_ok-second.second (sym c.earliest.ensures ∙ c.in-None.is) in (
      all-stay c.args.model.now c.args.cube st c.take_part.new.sources.items c.take_part-2.new.sources.items true c.in_ok-second.ensures.stay (taken-both c.args.model.now c.args.cube st true c.take_part.new.sources.items c.in_ok-first.first one none.0),
      taken-both c.args.model.now c.args.cube st false c.take_part-2.new.sources.items c.in_ok-second.second two none.1,
    )
