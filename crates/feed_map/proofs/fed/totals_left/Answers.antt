use Rattle.std.proofs.Common.{rules, ◌≡◌, ℕ, [], List, inl, inr}
use Rattle.std.specs.Prelude.{Result, Ok, Err, IfOk}
use Rattle.std.specs.List.{Contains}
use Rattle.std.proofs.lemmas.List.{nil_from_length}
use Rattle.cell_store.specs.Cells.{IsUnion}
use Rattle.feed_sources.proofs.Members.{none-there}
use Rattle.feed_map.proofs.fed.totals_left.Goals as goal

same-left : {E : Type 0} (r : Result (List ℕ) E) (totals risk : List ℕ) → risk ≡ [] → IfOk r (λ left. IsUnion totals [] left) → IfOk r (λ left. (t : ℕ) → Contains left t → Contains totals t × (risk ≡ []))
same-left (Ok left) totals risk none union = λ t has. (elim ((union.cells t).0 has) [ inl is ↦ is | inr never ↦ absurd (none-there t never) ], none)
same-left (Err e) totals risk none union = tt

pub returns-then-is_empty : goal.returns-then-is_empty
returns-then-is_empty c =
    let none : c.args.risk.now ≡ [] = nil_from_length c.args.risk.now (search rules) in
    same-left c.with.result c.args.totals.now c.args.risk.now none c.with.ensures
