use Rattle.std.proofs.Common.{rules, ◌≡◌, ◌∷◌, ◌++◌, [], cond, not, ◌&&◌, true, false, take, map, ◌⊎◌, inl, inr}
use Rattle.cell_versions.specs.Inside.Changes.{FeedsNone}
use Rattle.cell_versions.proofs.Added.{one_more, map_more}
use Rattle.cell_versions.proofs.changes.added_by.Goals.{then-is+then-not-was+in_ok-push, else-is, else-is-via-then-is+else-not-was, else-is-via-else-is, else-was-via-then-was+then-not-is+else-is_any_source, else-was-via-then-was+else-not-is, else-was-via-else-was}
use Rattle.cell_versions.proofs.changes.added_by.Goals as goal

pub loop-write-preserved : goal.loop-write-preserved
loop-write-preserved c =
    let item = c.write-item.result in
    let more = map_more c.args.writes.now c.loop-write.write-index item c.loop-write-test.true c.write-item.is in
    let stays : c.has-was.result ≡ true → (c.has-is.result ≡ true) ⊎ FeedsNone c.args.model.now item.0 =
    λ was. elim c.else-was.branch [
      | else-was-via-then-was+then-not-is+else-is_any_source w ↦ inr (w.is_any_source.ensures.other w.if-is_any_source.false)
      | else-was-via-then-was+else-not-is w ↦ inl cc
      | else-was-via-else-was w ↦ inl cc
    ] in
    let later : c.if-is.added.items ≡ cond (c.has-is.result && not c.has-was.result) (c.loop-write.added.items ++ item.0 ∷ []) c.loop-write.added.items =
    elim c.if-is.branch [
      | then-is+then-not-was+in_ok-push w ↦ (let a : c.has-is.result ≡ true = search rules in let b : not c.has-was.result ≡ true = search rules in rw (a, b) (search rules))
      | else-is w ↦ (elim w.else-is.branch [
        | else-is-via-then-is+else-not-was v ↦ (let a : c.has-is.result ≡ true = search rules in let b : not c.has-was.result ≡ false = search rules in rw (a, b) (search rules))
        | else-is-via-else-is v ↦ (let a : c.has-is.result ≡ false = search rules in rw a (search rules))
      ])
    ] in
    rw more (one_more c.args.model.now c.args.before.now c.args.after.now (map (λ w. w.0) (take c.loop-write.write-index c.args.writes.now)) c.loop-write.added.items c.if-is.added.items item.0
    c.has-was.result c.has-is.result c.has-was.ensures c.has-is.ensures stays later c.loop-write.invariant)
