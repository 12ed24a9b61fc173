use Rattle.std.proofs.Common.{◌≡◌, ◌∙◌, sym, ap, subst, ℤ, Some, None}
use Rattle.std.specs.List.{All}
use Rattle.cell_versions.specs.Versions.{NumberedVersion}
use Rattle.cube_fixed.specs.Total.{with_term}
use Rattle.cube_space.specs.Cells.{IsCell}
use Rattle.rule_evaluate.specs.declared.ask.Ask.TheVariants.{Value as of_value}
use Rattle.cell_values.specs.declared.frames.LeafSum.{LeafSum}
use Rattle.cell_values.specs.declared.frames.Frame.TheVariants as frame
use Rattle.cell_values.specs.Reading.{AreValuesOn, IsUngoverned, value_on}
use Rattle.cell_values.specs.Inside.Frames.{IsWork, leaves_left}
use Rattle.cell_values.specs.Inside.Growth.{grew-later}
use Rattle.cell_values.proofs.BeginFacts.{total-sum, all-leaves}
use Rattle.sparse_sum.proofs.Placed.{word-is}
use Rattle.cell_values.proofs.FrameFacts.{leaves-first, leaves-given}
use Rattle.cell_values.proofs.read.total.Goals as goal

pub returns-in_err-value-in-Some-clause-plain : goal.returns-in_err-value-in-Some-clause-plain
returns-in_err-value-in-Some-clause-plain g c =
    λ plain.
    let v = c.args.version.now in
    let all = subst (All (λ pair. IsUngoverned v pair.0)) (all-leaves v c.args.cell ∙ sym c.new-sum.ensures.all) plain.leaves in
    let none = c.go_on.ensures.plain all in
    let clash : Some c.in-Some.leaf ≡ None = sym c.in-Some.is ∙ none in
    absurd (cc)

pub answer-requires : goal.answer-requires
answer-requires g c =
    let v = c.args.version.now in
    let same = c.worked_out.ensures.version ∙ c.new-reader.ensures in
    let values = c.worked_out.ensures.values ∙ c.go_on.ensures.values ∙ c.requires.values in
    let q = of_value c.args.cell in
    let begun : IsWork v (frame.Leaves c.new-sum.result) q = (
      subst (IsCell v.model.space) (sym c.new-sum.ensures.cell) c.requires.cell,
      total-sum v c.args.cell c.new-sum.result.walk.total (leaves_left v c.new-sum.result) c.is_sound.ensures c.requires.cell c.requires.ungoverned c.new-sum.ensures.sum,
    ) in
    let waits = leaves-first v c.new-sum.result c.go_on.new.self q c.in-Some.leaf begun c.go_on.ensures.cell c.in-Some.ensures.stops in
    let value = c.in_ok-value-in-Some.ensures.value ∙ ap (λ (u : NumberedVersion). value_on u c.in-Some.leaf) c.new-reader.ensures in
    let after : LeafSum = record { walk = c.add.new.self; weight = c.go_on.new.self.weight } in
    let word = word-is c.go_on.new.self.weight c.in-Some.ensures.stops.size in
    let term = c.add.ensures.total ∙ ap (λ (z : ℤ). with_term c.go_on.new.self.walk.total z c.in_ok-value-in-Some.value) word in
    let (work, less) = leaves-given v c.go_on.new.self after q (of_value c.in-Some.leaf) c.in_ok-value-in-Some.value waits value term c.add.ensures.cell c.add.ensures.from in
    subst (λ (u : NumberedVersion). AreValuesOn u (g.M.Memory.values c.worked_out.new.memory) × IsWork u (frame.Leaves after) q) (sym {b = v} same) (values, work)

pub returns-in_ok-value-in-Some-clause-grew : goal.returns-in_ok-value-in-Some-clause-grew
returns-in_ok-value-in-Some-clause-grew g c =
    let first = g.M.Memory.known c.args.memory.now in
    let second = g.M.Memory.known c.go_on.new.memory in
    let third = g.M.Memory.known c.worked_out.new.memory in
    let last = g.M.Memory.known c.answer.new.memory in
    grew-later first third last (grew-later first second third c.go_on.ensures.grew c.worked_out.ensures.grew) c.answer.ensures.later

pub returns-in_ok-value-in-Some-clause-plain : goal.returns-in_ok-value-in-Some-clause-plain
returns-in_ok-value-in-Some-clause-plain g c =
    λ plain.
    let v = c.args.version.now in
    let all = subst (All (λ pair. IsUngoverned v pair.0)) (all-leaves v c.args.cell ∙ sym c.new-sum.ensures.all) plain.leaves in
    let none = c.go_on.ensures.plain all in
    let clash : Some c.in-Some.leaf ≡ None = sym c.in-Some.is ∙ none in
    absurd (cc)

pub returns-in-None-clause-value : goal.returns-in-None-clause-value
returns-in-None-clause-value g c =
    let v = c.args.version.now in
    let total = total-sum v c.args.cell c.new-sum.result.walk.total (leaves_left v c.new-sum.result) c.is_sound.ensures c.requires.cell c.requires.ungoverned c.new-sum.ensures.sum in
    c.value.ensures ∙ c.in-None.ensures.stops ∙ total.sum

pub returns-in_err-value-in-Some-clause-grew : goal.returns-in_err-value-in-Some-clause-grew
returns-in_err-value-in-Some-clause-grew g c =
    grew-later (g.M.Memory.known c.args.memory.now) (g.M.Memory.known c.go_on.new.memory) (g.M.Memory.known c.worked_out.new.memory) c.go_on.ensures.grew c.worked_out.ensures.grew
