use Rattle.std.proofs.Common.{◌≡◌, ◌<◌, length, All, subst, sym, ◌∙◌, ℕ, ℤ, List, [], unsigned_abs, ◌≤◌}
use Rattle.lists.proofs.Places.{get_or_within}
use Rattle.dim_weights.specs.Table.{leaves_in, greatest_of, IsRising}
use Rattle.dim_weights.proofs.Tables.{pair-size}
use Rattle.dim_weights.proofs.weights.Weights.leaves.Goals as goal

row : (c : goal.After-as_slice) → c.as_slice.result.now ≡ leaves_in c.args.self.now c.args.element
row c =
    let view : c.self.inside.rows.items ≡ c.args.self.now = c.self.view_is in
    let within : c.args.element < length c.self.inside.rows.items = rw view c.requires in
    let at = c.as_slice.ensures ∙ (c.index.ensures ∙ get_or_within c.self.inside.rows.items c.args.element c.index.result.now [] within) in
    rw view at at

pub returns-clause-rising : goal.returns-clause-rising
returns-clause-rising c =
    let view : c.self.inside.rows.items ≡ c.args.self.now = c.self.view_is in
    let P : List (ℕ × ℤ) → Type 0 = IsRising in
    let kept = c.self.invariant.rising c.args.element in
    subst P (sym (row c)) (rw view at kept)

pub returns-clause-within : goal.returns-clause-within
returns-clause-within c =
    let view : c.self.inside.rows.items ≡ c.args.self.now = c.self.view_is in
    let P : List (ℕ × ℤ) → Type 0 = All (λ pair. pair.0 < length c.args.self.now) in
    let kept = c.self.invariant.leaves c.args.element in
    subst P (sym (row c)) (rw view at kept)

pub returns-clause-size : goal.returns-clause-size
returns-clause-size c =
    let P : List (ℕ × ℤ) → Type 0 = All (λ pair. unsigned_abs pair.1 ≤ greatest_of c.args.self.now) in
    subst P (sym (row c)) (pair-size c.args.self.now c.args.element)
