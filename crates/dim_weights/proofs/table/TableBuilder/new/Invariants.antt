use Rattle.std.proofs.Common.{◌≡◌, ℕ, [], length}
use Rattle.dim_weights.specs.Table.{leaves_in}
use Rattle.dim_weights.proofs.table.TableBuilder.new.Given as goal

abbrev pub invariant-rows : goal.invariant-rows
invariant-rows l = record {
  counted : length l.rows.items ≡ l.counter;
  none : (k : ℕ) → leaves_in l.rows.items k ≡ [];
}
