use Rattle.std.proofs.Common.{◌≡◌, ◌∙◌, sym, ap, subst, ℕ, ℤ, List, ◌∷◌}
use Rattle.std.specs.List.{All}
use Rattle.std.proofs.lemmas.List.Elements.{All-head}
use Rattle.cell_store.specs.Entries.{cells_of}
use Rattle.cube_fixed.specs.Total.{Total, with_term, value_of}
use Rattle.cube_space.specs.Cells.{IsCell}
use Rattle.rule_model.specs.BoundModel.{BoundModel}
use Rattle.sparse_sum.specs.Live.{live_from}
use Rattle.sparse_sum.specs.Walking.{left}
use Rattle.sparse_sum.proofs.Placed.{word-is}
use Rattle.cell_values.specs.Reading.{IsUngoverned}
use Rattle.cell_values.specs.Inside.Frames.{leaves_left}
use Rattle.cell_values.proofs.BeginFacts.{left-same}
use Rattle.cell_values.proofs.SumFacts.{advances-term, advances-end, leaves-are, leaf-next}
use Rattle.cell_values.specs.Inside.Growth.{grew-later}
use Rattle.cell_values.proofs.frames.LeafSum.go_on.Goals as goal

pub leaf_value-requires-clause-leaf : goal.leaf_value-requires-clause-leaf
leaf_value-requires-clause-leaf g c =
    let v = c.args.version.now in
    let sound = c.is_sound.ensures in
    let same = left-same v c.space-space.result.now c.store-store.result.now c.fed-fed.result.now c.leaves.self.walk (c.space-space.ensures.space ∙ ap (λ (m : BoundModel). m.space) c.model-model.ensures.model) c.store-store.ensures.stored c.fed-fed.ensures.fed in
    let is_cell = subst (IsCell v.model.space) (sym c.leaves.invariant.cell) c.requires.cell in
    leaf-next v (leaves_left v c.leaves.self) (left c.space-space.result.now (cells_of c.store-store.result.now) c.fed-fed.result.now c.step.new.self) c.in-Some.leaf.cell c.in-Some.leaf.weight
    (leaves-are v sound.space sound.rules sound.accepted c.leaves.self.walk is_cell) (sym same ∙ c.in-Some.ensures.left)

pub leaves-preserved : goal.leaves-preserved
leaves-preserved g c =
    let v = c.args.version.now in
    let space = c.space-space.ensures.space ∙ ap (λ (m : BoundModel). m.space) c.model-model.ensures.model in
    let same = left-same v c.space-space.result.now c.store-store.result.now c.fed-fed.result.now c.leaves.self.walk space c.store-store.ensures.stored c.fed-fed.ensures.fed in
    let rest = left-same v c.space-space.result.now c.store-store.result.now c.fed-fed.result.now c.step.new.self space c.store-store.ensures.stored c.fed-fed.ensures.fed in
    let walked : left v.model.space (cells_of v.stored) v.fed c.add.new.self ≡ left v.model.space (cells_of v.stored) v.fed c.step.new.self =
    ap (λ (cell : ℕ). live_from v.model.space (cells_of v.stored) v.fed cell c.add.new.self.from) c.add.ensures.cell ∙ ap (live_from v.model.space (cells_of v.stored) v.fed c.step.new.self.cell) c.add.ensures.from in
    let next : leaves_left v c.leaves.self ≡ (c.in-Some.leaf.cell, c.in-Some.leaf.weight) ∷ left v.model.space (cells_of v.stored) v.fed c.add.new.self =
    sym same ∙ c.in-Some.ensures.left ∙ ap (λ (pairs : List (ℕ × ℤ)). (c.in-Some.leaf.cell, c.in-Some.leaf.weight) ∷ pairs) (rest ∙ sym walked) in
    let word = word-is c.in-Some.leaf.weight c.in-Some.ensures.size in
    let term = c.add.ensures.total ∙ ap (λ (z : ℤ). with_term c.step.new.self.total z c.in-Some-leaf_value.value) word
    ∙ ap (λ (t : Total). with_term t c.in-Some.leaf.weight c.in-Some-leaf_value.value) c.step.ensures.total ∙ ap (with_term c.leaves.self.walk.total c.in-Some.leaf.weight) c.in-Some-leaf_value.ensures.value in
    record {
      advances = advances-term v c.args.self.now.walk.total (leaves_left v c.args.self.now) c.leaves.self.walk.total c.add.new.self.total (leaves_left v c.leaves.self) (left v.model.space (cells_of v.stored) v.fed c.add.new.self)
          c.in-Some.leaf.cell c.in-Some.leaf.weight c.leaves.invariant.advances next term;
      cell = c.add.ensures.cell ∙ c.step.ensures.cell ∙ c.leaves.invariant.cell;
      values = c.leaf_value.ensures.values ∙ c.leaves.invariant.values;
      grew = grew-later (g.M.Memory.known c.args.memory.now) (g.M.Memory.known c.leaves.memory) (g.M.Memory.known c.leaf_value.new.memory) c.leaves.invariant.grew c.leaf_value.ensures.grew;
    }

pub returns-in-None-clause-plain : goal.returns-in-None-clause-plain
returns-in-None-clause-plain g c =
    λ plain.
    let v = c.args.version.now in
    let space = c.space-space.ensures.space ∙ ap (λ (m : BoundModel). m.space) c.model-model.ensures.model in
    let same = left-same v c.space-space.result.now c.store-store.result.now c.fed-fed.result.now c.leaves.self.walk space c.store-store.ensures.stored c.fed-fed.ensures.fed in
    let next = sym same ∙ c.in-Some.ensures.left in
    let all = subst (All (λ pair. IsUngoverned v pair.0)) next (c.leaves.invariant.advances.plain plain) in
    let here = All-head (λ pair. IsUngoverned v pair.0) (c.in-Some.leaf.cell, c.in-Some.leaf.weight) (left c.space-space.result.now (cells_of c.store-store.result.now) c.fed-fed.result.now c.step.new.self) all in
    let some = c.leaf_value.ensures.plain here in
    absurd (let clash = rw c.in-None.is at some in cc)

pub returns-clause-stops : goal.returns-clause-stops
returns-clause-stops g c =
    let v = c.args.version.now in
    let space = c.space-space.ensures.space ∙ ap (λ (m : BoundModel). m.space) c.model-model.ensures.model in
    let same = left-same v c.space-space.result.now c.store-store.result.now c.fed-fed.result.now c.leaves.self.walk space c.store-store.ensures.stored c.fed-fed.ensures.fed in
    ap (λ (t : Total). value_of t) c.step.ensures.total
    ∙ advances-end v c.args.self.now.walk.total (leaves_left v c.args.self.now) c.leaves.self.walk.total (leaves_left v c.leaves.self) c.leaves.invariant.advances (sym same ∙ c.in_default.ensures.left)
