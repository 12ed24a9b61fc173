use Rattle.std.proofs.Common.{◌≡◌, refl, sym, ap, ◌∙◌, arith, subst, ◌+◌, inl, inr, Some, List, length}
use Rattle.std.specs.Prelude.{slice_get}
use Rattle.std.proofs.lemmas.Bool.{cases_lt}
use Rattle.std.proofs.lemmas.Option.{slice_get_within, slice_get_read}
use Rattle.rule_model.specs.declared.rules.CubeRules.{CubeRules}
use Rattle.rule_model.specs.declared.rules.Statement.{Statement}
use Rattle.rule_model.specs.BoundModel.{rules_of}
use Rattle.read_sources.specs.Gathering.{IsStatementTaken, IsCubeFault}
use Rattle.read_sources.proofs.Gathered.{stay-then, statement-stays}
use Rattle.read_sources.proofs.Greater.{handed-on, cube-fault}
use Rattle.read_sources.proofs.sources.take_cube.Goals as goal

pub each-init : goal.each-init
each-init c = record {
  gathered = c.requires.gathered;
  stay = λ k s is. is;
  taken = λ place st low at. absurd (omega (arith, low));
  known = c.none-known.ensures c.args.model.now c.args.cube;
}

pub take_statement-requires-clause-statement : goal.take_statement-requires-clause-statement
take_statement-requires-clause-statement c =
    let all : c.as_slice-statements.result.now ≡ (rules_of c.args.model.now c.args.cube).statements = c.as_slice-statements.ensures ∙ ap (λ (r : CubeRules). r.statements) c.rules.ensures in
    record {
      valid = c.space-space.ensures.valid;
      ruled = c.space-space.ensures.rules;
      within = c.requires.cube;
      place = c.each.n;
      number_is = omega arith;
      here = ap (λ (l : List Statement). slice_get l c.each.n) (sym all) ∙ slice_get_read c.as_slice-statements.result.now _ c.each.n c.index-statements-n.result refl c.each-test.true c.index-statements-n.is;
    }

pub returns-in_err-take_statement-clause-refused : goal.returns-in_err-take_statement-clause-refused
returns-in_err-take_statement-clause-refused c =
    let all : c.as_slice-statements.result.now ≡ (rules_of c.args.model.now c.args.cube).statements = c.as_slice-statements.ensures ∙ ap (λ (r : CubeRules). r.statements) c.rules.ensures in
    let here = ap (λ (l : List Statement). slice_get l c.each.n) (sym all) ∙ slice_get_read c.as_slice-statements.result.now _ c.each.n c.index-statements-n.result refl c.each-test.true c.index-statements-n.is in
    handed-on c.from_residual.result c.in_err-take_statement.field-0.0 (IsCubeFault c.args.model.now c.args.cube) c.from_residual.ensures.1
    (cube-fault c.args.model.now c.space-space.ensures.valid c.space-space.ensures.rules c.args.cube c.requires.cube c.each.sources.items c.each.n (c.each.n + 1) c.index-statements-n.result c.in_err-take_statement.field-0.0
    (omega arith) here c.each.invariant.taken c.in_err-take_statement.ensures.refused)

pub each-preserved : goal.each-preserved
each-preserved c =
    let m = c.args.model.now in
    let statements = (rules_of m c.args.cube).statements in
    let all : c.as_slice-statements.result.now ≡ statements = c.as_slice-statements.ensures ∙ ap (λ (r : CubeRules). r.statements) c.rules.ensures in
    let here : slice_get statements c.each.n ≡ Some c.index-statements-n.result =
    ap (λ (l : List Statement). slice_get l c.each.n) (sym all) ∙ slice_get_read c.as_slice-statements.result.now _ c.each.n c.index-statements-n.result refl c.each-test.true c.index-statements-n.is in
    record {
      gathered = c.in_ok-take_statement.ensures.gathered;
      stay = stay-then c.args.sources.now.items c.each.sources.items c.take_statement.new.sources.items c.each.invariant.stay c.in_ok-take_statement.ensures.stay;
      taken = λ place st low at. elim (cases_lt place c.each.n) [
        | inl less ↦ statement-stays m c.args.cube st c.each.sources.items c.take_statement.new.sources.items c.in_ok-take_statement.ensures.stay (c.each.invariant.taken place st less at)
        | inr more ↦
            let same : c.each.n ≡ place = omega (arith, low, more) in
            let both : Some c.index-statements-n.result ≡ Some st = sym here ∙ ap (slice_get statements) same ∙ at in
            let one : c.index-statements-n.result ≡ st = cc in
            subst (IsStatementTaken m c.take_statement.new.sources.items c.args.cube) one c.in_ok-take_statement.ensures.taken
      ];
      known = c.in_ok-take_statement.ensures.known;
    }

pub returns-clause-taken : goal.returns-clause-taken
returns-clause-taken c place st at =
    let all : c.as_slice-statements.result.now ≡ (rules_of c.args.model.now c.args.cube).statements = c.as_slice-statements.ensures ∙ ap (λ (r : CubeRules). r.statements) c.rules.ensures in
    let low = slice_get_within (rules_of c.args.model.now c.args.cube).statements place st at in
    c.each.invariant.taken place st (omega (arith, low, ap (λ (l : List Statement). length l) all, c.each-test.false)) at
