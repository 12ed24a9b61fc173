-- What clauses say of a memo with the seat of one reader.
use Rattle.std.specs.Prelude.{ℕ, Bool, is_some, nat_lt}
use Rattle.std.specs.Arc.{arc_value}
use Rattle.std.specs.BTreeMap.{btree_map_len, get}
use Rattle.std.specs.Ordering.{nat_cmp}
use Rattle.memo_cells.specs.declared.version.Version.{Version}
use Rattle.memo_cells.specs.declared.memo.Memo.{Memo}
use Rattle.memo_cells.specs.declared.shared.SharedMemo.{SharedMemo}
use Rattle.memo_cells.specs.HeldValues.{most_held}
use Rattle.memo_cells.specs.Knowledge.{Knowledge}
use Rattle.memo_cells.specs.Seats.{knowledge, version_of}

-- the memo that is shared, and the version that it is of
abbrev pub memo_of : SharedMemo → Memo
memo_of shared = arc_value shared.memo

abbrev pub version_kept : SharedMemo → Version
version_kept shared = version_of (memo_of shared)

-- what its reader knows
abbrev pub known_to : SharedMemo → Knowledge
known_to shared = knowledge shared.seat

-- of a cell, whether its reader holds the value for itself
abbrev pub holds : SharedMemo → ℕ → Bool
holds shared cell = is_some (get nat_cmp shared.held cell)

-- whether it holds fewer values than may be held
abbrev pub has_room : SharedMemo → Bool
has_room shared = nat_lt (btree_map_len shared.held) most_held
