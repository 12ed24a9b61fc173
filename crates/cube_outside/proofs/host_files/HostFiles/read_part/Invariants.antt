use Rattle.std.proofs.Common.{◌*◌, ◌≤◌, vec_len}
use Rattle.cube_outside.specs.declared.host_files.TheConstants.{CHUNK}
use Rattle.cube_outside.proofs.host_files.HostFiles.read_part.Given as goal

-- each turn took at least one byte and at most a chunk, and no byte that is one too many
abbrev pub invariant-loop-turns : goal.invariant-loop-turns
invariant-loop-turns g l =
    (l.turns ≤ vec_len l.bytes) × (vec_len l.bytes ≤ l.turns * CHUNK) × (vec_len l.bytes ≤ l.most)
