use Rattle.std.proofs.Common.{◌≡◌, sym, ◌∙◌, arith, subst, inl, inr, ℕ, ◌<◌, true, false, length}
use Rattle.std.specs.Prelude.{IsTrue}
use Rattle.std.proofs.lemmas.Bool.{cases_lt}
use Rattle.cube_space.specs.Layout.{axes}
use Rattle.read_sources.specs.Ways.{reads_from}
use Rattle.read_sources.proofs.Giving.{one-is, is-one}
use Rattle.read_sources.proofs.given.has_each.Goals as goal

pub returns-then-not-has_one-clause-each : goal.returns-then-not-has_one-clause-each
returns-then-not-has_one-clause-each c = (
  λ wrong. absurd (cc),
  λ has.
      (let low : c.each.dim < length (axes c.args.model.now.space c.args.source.cube) = omega (arith, c.each-test.true, c.axis_count-dim-end.ensures.count) in
      let (e, from) = has c.each.dim low in
      absurd (let clash : true ≡ false = sym (is-one c.args.model.now c.args.source c.requires.source.asks c.each.dim c.kinds_in-kinds.result c.kinds_in-kinds.ensures.kinds e from) ∙ sym c.has_one.ensures ∙ c.if-not-has_one.true in cc)),
)

pub each-preserved : goal.each-preserved
each-preserved c = record {
  so = λ i low. elim (cases_lt i c.each.dim) [
    | inl before ↦ c.each.invariant.so i before
    | inr now ↦
        let same : c.each.dim ≡ i = omega (arith, low, now) in
        subst (λ d. (e : ℕ) × IsTrue (reads_from c.args.model.now c.args.source d e)) same
        (one-is c.args.model.now c.args.source c.requires.source.asks c.each.dim c.kinds_in-kinds.result c.kinds_in-kinds.ensures.kinds (sym c.has_one.ensures ∙ c.if-not-has_one.false))
  ];
  known = c.kinds_in-kinds.ensures.known;
}
