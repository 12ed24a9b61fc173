use Rattle.std.proofs.Common.{◌≡◌, sym, ◌∙◌, ap, subst, arith, ℕ, ℤ, not, List, [], length, filter}
use Rattle.std.specs.Prelude.{fold}
use Rattle.std.proofs.lemmas.Result.{IfOk-weaker}
use Rattle.std.proofs.lemmas.List.{length-map}
use Rattle.cell_reader.specs.Snapshots.{version_of}
use Rattle.cell_store.specs.Entries.{cells_of}
use Rattle.cell_trace.specs.Inside.Listed.{none_listed, lines_of}
use Rattle.cell_trace.specs.Trace.{most_parts, part_lines}
use Rattle.cell_trace.proofs.LiveCells.{live, live_left, live-sum, live-parts}
use Rattle.cell_trace.proofs.MoreParts.{others}
use Rattle.cell_trace.proofs.PartLines.{with_cell, all-lines}
use Rattle.cell_values.specs.Reading.{value_on}
use Rattle.cell_values.proofs.BeginFacts.{left-all, left-same}
use Rattle.cell_versions.specs.Versions.{NumberedVersion}
use Rattle.cube_fixed.specs.Arithmetic.{is_zero}
use Rattle.cube_fixed.specs.Total.{Total, no_terms, value_of}
use Rattle.cube_space.specs.Cells.{IsSpace}
use Rattle.rule_laws.specs.RuleSystem.{weighted_sum}
use Rattle.rule_laws.proofs.SystemFacts.{add_pair}
use Rattle.rule_model.specs.BoundModel.{BoundModel}
use Rattle.rule_model.specs.Conditions.{AreRules}
use Rattle.rule_model.specs.Weights.{leaves_below}
use Rattle.sparse_sum.specs.Walking.{Progress}
use Rattle.cell_trace.proofs.sums.sum_of_leaves.Goals as goal
use Rattle.cell_trace.proofs.sums.sum_of_leaves.Goals.{After-summed}

pub leaves-init : goal.leaves-init
leaves-init c =
    let v = version_of c.args.version.now in
    let whole : live_left v c.at-walk.result ≡ live v c.args.cell = ap (live_left v) c.at-walk.ensures ∙ left-all v.model.space (cells_of v.stored) v.fed c.args.cell in
    let start : c.at-walk.result.total ≡ no_terms = ap (λ (walk : Progress). walk.total) c.at-walk.ensures in
    let none : c.at-walk.result.total.terms ≡ 0 = ap (λ (t : Total). t.terms) start in
    let long : length (live_left v c.at-walk.result) ≡ length (live v c.args.cell) = ap length whole in
    let few = c.live_cells_are_few.ensures v.model.space (cells_of v.stored) v.fed c.args.cell in
    let cells : length (cells_of v.stored) ≡ length v.stored = length-map v.stored (λ e. e.cell) in
    let stored : c.len.result ≡ length v.stored = c.len.ensures.len ∙ ap length c.store-store.ensures.stored in
    let fed : c.count.result ≡ length v.fed = c.count.ensures.count ∙ ap length c.fed-fed.ensures.fed in
    let most_stored = c.len.ensures.within in
    let most_fed = c.count.ensures.within in
    record {
      same = c.requires.same;
      cell = ap (λ (walk : Progress). walk.cell) c.at-walk.ensures;
      room = omega (arith, none, long, few, cells, stored, fed, most_stored, most_fed);
      sum = ap (λ (t : Total). fold (add_pair (value_on v)) t (live_left v c.at-walk.result)) start ∙ ap (fold (add_pair (value_on v)) no_terms) whole;
      parts = ap (λ listed. fold (with_cell (value_on v) most_parts) listed (others (value_on v) (live_left v c.at-walk.result))) c.new-parts.ensures
          ∙ ap (λ (pairs : List (ℕ × ℤ)). fold (with_cell (value_on v) most_parts) none_listed (others (value_on v) pairs)) whole;
    }

-- the parts of the version are read, and no leaf cell is left
module _ (c : After-summed) where
  abbrev v : NumberedVersion
  v = version_of c.args.version.now

  valid : IsSpace v.model.space
  valid = subst (λ (m : BoundModel). IsSpace m.space) c.model-model.ensures.model c.space-space.ensures.valid

  rules : AreRules v.model.space v.model.rules
  rules = subst (λ (m : BoundModel). AreRules m.space m.rules) c.model-model.ensures.model c.space-space.ensures.rules

  none_left : live_left v c.leaves.walk ≡ []
  none_left =
      sym (left-same v c.space-space.result.now c.store-store.result.now c.fed-fed.result.now c.leaves.walk
      (c.space-space.ensures.space ∙ ap (λ (m : BoundModel). m.space) c.model-model.ensures.model) c.store-store.ensures.stored c.fed-fed.ensures.fed)
      ∙ c.in_default.ensures.left

  all_added : c.step.new.self.total ≡ fold (add_pair (value_on v)) no_terms (live v c.args.cell)
  all_added = c.step.ensures.total ∙ sym (ap (fold (add_pair (value_on v)) c.leaves.walk.total) none_left) ∙ c.leaves.invariant.sum

  all_listed : c.leaves.parts ≡ fold (with_cell (value_on v) most_parts) none_listed (others (value_on v) (live v c.args.cell))
  all_listed = sym (ap (λ (pairs : List (ℕ × ℤ)). fold (with_cell (value_on v) most_parts) c.leaves.parts (others (value_on v) pairs)) none_left) ∙ c.leaves.invariant.parts

pub returns-clause-value : goal.returns-clause-value
returns-clause-value c =
    let v = version_of c.args.version.now in
    IfOk-weaker c.summed.result (λ sum. sum.value ≡ c.value.result) (λ sum. sum.value ≡ weighted_sum (value_on v) (leaves_below v.model.space c.args.cell))
    (λ sum is. is ∙ c.value.ensures ∙ ap value_of (all_added c)
    ∙ live-sum v (valid c) (rules c) c.model-model.ensures.accepted c.store-store.ensures.valid.fed c.args.cell c.requires.cell c.requires.consolidated)
    c.summed.ensures.value

pub returns-clause-lines : goal.returns-clause-lines
returns-clause-lines c =
    let v = version_of c.args.version.now in
    IfOk-weaker c.summed.result (λ sum. sum.lines.items ≡ lines_of c.leaves.parts)
    (λ sum. sum.lines.items ≡ part_lines (value_on v) (filter (λ pair. not (is_zero (value_on v pair.0))) (leaves_below v.model.space c.args.cell)))
    (λ sum is. is ∙ ap lines_of (all_listed c)
    ∙ ap (λ (pairs : List (ℕ × ℤ)). lines_of (fold (with_cell (value_on v) most_parts) none_listed pairs))
    (live-parts v (valid c) (rules c) c.model-model.ensures.accepted c.store-store.ensures.valid.fed c.args.cell c.requires.cell)
    ∙ all-lines (value_on v) (filter (λ pair. not (is_zero (value_on v pair.0))) (leaves_below v.model.space c.args.cell)))
    c.summed.ensures.lines
