use Rattle.std.proofs.Common.{◌≡◌, ◌<◌, ℕ, take, slice_index, true, length, All}
use Rattle.dim_order.specs.Levels.{level_of}
use Rattle.dim_order.specs.Members.{is_among}
use Rattle.dim_order.proofs.levels.levels_of.Given as goal

abbrev pub invariant-loop-element : goal.invariant-loop-element
invariant-loop-element l = record {
  whole : length l.levels.items ≡ length l.lists;
  small : All (λ level. level < length l.lists) l.levels.items;
  made : (k : ℕ) → is_among (take l.element-index l.order) k ≡ true → slice_index l.levels.items k ≡ level_of l.lists k;
}
