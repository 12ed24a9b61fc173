use Rattle.std.proofs.Common.{◌≡◌, true}
use Rattle.script_laws.proofs.Kept.{load_keeps}
use Rattle.script_laws.proofs.laws.what_each_write_keeps_a_load_keeps.Goals as goal

pub returns : goal.returns
returns c store keeps kept zeroed script params decimal most rows writes = load_keeps store (λ w. keeps w ≡ true) kept zeroed script params decimal most rows writes
