-- Each cube's fault and run, by the counts of the dimensions' elements.
use Rattle.std.proofs.Common.{◌≡◌, ℕ, suc, ◌+◌, ◌<◌, inl, inr, ◌∙◌, Option, None, Err, length, arith, sym, ap, subst, lit≤, map, slice_index}
use Rattle.std.proofs.lemmas.Bool.{cases_lt}
use Rattle.std.proofs.lemmas.List.{length_push}
use Rattle.cube_space.specs.declared.run.Run.{Run}
use Rattle.cube_space.specs.declared.fault.SpaceFault.{SpaceFault}
use Rattle.cube_space.specs.Radix.{product}
use Rattle.cube_space.specs.Layout.{Layout}
use Rattle.cube_space.specs.Cells.{first_cell}
use Rattle.cube_space.specs.Refusal.{cube_fault, IsAnsweredBy}
use Rattle.cube_space.proofs.Places.{first_cell-none, first_cell-next}
use Rattle.cube_space.proofs.Refusals.{fault-by_counts, refused-as, unrefused, no-fault, space-from, answered-ok}
use Rattle.cube_space.proofs.Runs.{runs-more}
use Rattle.cube_space.proofs.run.runs.Goals as goal

pub run_from-requires-clause-in_range : goal.run_from-requires-clause-in_range
run_from-requires-clause-in_range c =
    (fault-by_counts (record { dimensions = c.args.dimensions.now; cubes = c.args.cubes.now }) c.loop-cube.cube c.loop-cube.first c.index-cubes-cube.result c.deref.result.now c.as_slice.result.now c.requires c.loop-cube-test.true c.index-cubes-cube.is c.as_slice.ensures (c.deref.ensures.value ∙ c.in_ok-counts.ensures.counts) c.loop-cube.invariant.first).2

pub loop-cube-init : goal.loop-cube-init
loop-cube-init c = record {
  before = λ k h. absurd (omega (arith, h));
  first = sym (first_cell-none _);
  within = lit≤ tt;
  paired = ap length c.in_ok-runs.ensures.items;
  run = λ k d h. absurd (omega (arith, h));
}

pub returns-in_err-run-clause-answered : goal.returns-in_err-run-clause-answered
returns-in_err-run-clause-answered c =
    let facts = fault-by_counts (record { dimensions = c.args.dimensions.now; cubes = c.args.cubes.now }) c.loop-cube.cube c.loop-cube.first c.index-cubes-cube.result c.deref.result.now c.as_slice.result.now c.requires c.loop-cube-test.true c.index-cubes-cube.is c.as_slice.ensures (c.deref.ensures.value ∙ c.in_ok-counts.ensures.counts) c.loop-cube.invariant.first in
    let Answered : Option SpaceFault → Type 0 = λ cause. IsAnsweredBy {T = Run} cause (Err c.in_err-run.field-0.0) in
    refused-as Run _ (record { dimensions = c.args.dimensions.now; cubes = c.args.cubes.now }) c.loop-cube.cube c.in_err-run.field-0.0 c.from_residual-in_err-run.result c.from_residual-in_err-run.ensures.1 c.loop-cube-test.true c.loop-cube.invariant.before
    (subst Answered facts.0 c.in_err-run.ensures.answered)

-- what holds of each number below the last, and of the last
last-or-before : (P : ℕ → Type 0) (n k : ℕ) → k < n + 1 → ((m : ℕ) → m < n → P m) → P n → P k
last-or-before P n k h before last =
    elim (cases_lt k n) [ inl below ↦ before k below | inr above ↦ let e : n ≡ k = omega arith in subst P e last ]

pub loop-cube-preserved : goal.loop-cube-preserved
loop-cube-preserved c =
    let facts = fault-by_counts (record { dimensions = c.args.dimensions.now; cubes = c.args.cubes.now }) c.loop-cube.cube c.loop-cube.first c.index-cubes-cube.result c.deref.result.now c.as_slice.result.now c.requires c.loop-cube-test.true c.index-cubes-cube.is c.as_slice.ensures (c.deref.ensures.value ∙ c.in_ok-counts.ensures.counts) c.loop-cube.invariant.first in
    let own = c.in_ok-run.ensures.run in
    let none = unrefused _ _ c.in_ok-run.ensures.answered in
    let layout : Layout = record { dimensions = c.args.dimensions.now; cubes = c.args.cubes.now } in
    let cube = c.loop-cube.cube in
    let next : cube + 1 ≡ suc cube = omega arith in
    let cells = product (map (slice_index c.deref.result.now) c.as_slice.result.now) in
    let end : c.in_ok-run.run'.end ≡ first_cell layout (cube + 1) =
    own.ends ∙ omega (arith, c.loop-cube.invariant.first, ap product facts.1, first_cell-next layout cube) ∙ ap (first_cell layout) (sym next) in
    let whole = no-fault cube (length c.as_slice.result.now) cells c.loop-cube.first none in
    record {
      before = λ k h. last-or-before (λ n. cube_fault layout n ≡ None) cube k h c.loop-cube.invariant.before (sym facts.0 ∙ none);
      first = end;
      within = omega (arith, own.ends, whole.3);
      paired = ap length c.in_ok-push.ensures.items ∙ length_push c.loop-cube.runs.items c.in_ok-run.run' ∙ ap (λ n. n + 1) c.loop-cube.invariant.paired;
      run = runs-more layout c.loop-cube.runs.items c.push.new.self.items cube c.in_ok-run.run' c.loop-cube.invariant.paired c.in_ok-push.ensures.items c.loop-cube.invariant.run
          (record { first = own.begins ∙ c.loop-cube.invariant.first; end = end ∙ ap (first_cell layout) next; sizes = own.sized ∙ facts.1 });
    }

pub returns-clause-numbered : goal.returns-clause-numbered
returns-clause-numbered c =
    let layout : Layout = record { dimensions = c.args.dimensions.now; cubes = c.args.cubes.now } in
    let all : c.loop-cube.cube ≡ length c.args.cubes.now = omega (arith, c.loop-cube-test.false, c.loop-cube.auto.cube-end) in
    let none : (k : ℕ) → k < length c.args.cubes.now → cube_fault layout k ≡ None = λ k h. c.loop-cube.invariant.before k (omega (arith, h, all)) in
    record {
      valid = space-from layout c.requires c.in_ok-counts.ensures.valid none (omega (arith, ap (first_cell layout) all, c.loop-cube.invariant.first, c.loop-cube.invariant.within));
      paired = c.loop-cube.invariant.paired ∙ all;
      run = λ k d h. c.loop-cube.invariant.run k d (omega (arith, h, c.loop-cube.invariant.paired));
    }

pub returns-clause-answered : goal.returns-clause-answered
returns-clause-answered c =
    answered-ok (record { dimensions = c.args.dimensions.now; cubes = c.args.cubes.now }) _ (λ k h. c.loop-cube.invariant.before k (omega (arith, h, c.loop-cube-test.false)))
