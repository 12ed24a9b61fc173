use Rattle.std.proofs.Common.{◌≡◌, ◌≤◌, ◌<◌, ap, subst, ℕ, length, arith}
use Rattle.dim_weights.specs.Inside.Rows.{Rows, pairs_over}
use Rattle.dim_weights.specs.Inside.Sums.{IsRow}
use Rattle.dim_weights.specs.Table.{greatest_in}
use Rattle.dim_weights.proofs.MadeRows.{IsRow-made, IsBuilding-add}
use Rattle.dim_weights.proofs.table.TableBuilder.add.Goals as goal

pub invariant_of-self : goal.invariant_of-self
invariant_of-self c =
    let rows : c.self.inside.rows.items ≡ c.args.self.now.rows = ap (λ (r : Rows). r.rows) c.self.view_is in
    let many : length c.self.inside.rows.items ≡ length c.args.self.now.rows = ap length rows in
    let found : c.in-Some.pairs.items ≡ pairs_over (length c.args.sums.now) c.deref.result.now c.args.element c.components-parts.result.now = rw c.in-Some.is at c.in_ok-found.ensures.pairs in
    let small : greatest_in c.in-Some.pairs.items ≤ 1000000000 = rw c.in-Some.is at c.in_ok-found.ensures.small in
    let few : length c.in-Some.pairs.items ≤ 4000000 = omega (arith, c.len.ensures, c.in-Some.pairs.ok, c.if-count-gt-MAX_PAIRS.false) in
    let long : length c.args.sums.now ≡ length c.self.inside.rows.items = omega (arith, many, c.requires.sums, c.requires.whole) in
    let within : c.args.element < length c.self.inside.rows.items = omega (arith, many, c.requires.within, c.requires.whole) in
    let row = IsRow-made (length c.args.sums.now) c.deref.result.now c.args.element c.components-parts.result.now c.in-Some.pairs.items found small few in
    let P : ℕ → Type 0 = λ n. IsRow n c.in-Some.pairs.items in
    rw c.new.ensures (IsBuilding-add c.self.inside.rows.items c.args.element _ c.in-Some.pairs.items within c.self.invariant.made (subst P long row) (omega (arith, c.if-count-gt-MAX_PAIRS.false)))
