use Rattle.std.proofs.Common.{rules, ◌≡◌, ◌∙◌, ap, sym, subst, ℕ, ◌+◌, List, true, false, take}
use Rattle.feed_map.specs.Inside.Gains.{AreFresh}
use Rattle.feed_map.proofs.Fresh.{fresh-known, fresh-again, fresh-push}
use Rattle.feed_map.proofs.growth.unknown_cells.Goals.{then-is_new+then-not-is_known+in_ok-push, else-is_new, else-is_new-via-then-is_new+else-not-is_known, else-is_new-via-else-is_new}
use Rattle.feed_map.proofs.growth.unknown_cells.Goals as goal

pub each-preserved : goal.each-preserved
each-preserved c =
    let known = c.args.known.now in
    let found = c.args.found.now in
    let fresh = c.each.fresh.items in
    let place = c.each.place in
    let P : List ℕ → Type 0 = λ xs. AreFresh known (take (place + 1) found) xs in
    elim c.if-is_new.branch [
      | then-is_new+then-not-is_known+in_ok-push w ↦ (
          let off : w.is_known.result ≡ false = search rules in
          let differs = c.is_new.ensures.new w.if-is_new.true in
          subst P (sym (ap (λ v. v.items) w.fresh-is ∙ w.in_ok-push.ensures.items))
          (fresh-push known found fresh place c.each-test.true c.each.invariant c.requires differs (λ has. (let on = w.is_known.ensures.1 has in cc))))
      | else-is_new w ↦ subst P (sym (ap (λ v. v.items) w.fresh-is)) (elim w.else-is_new.branch [
        | else-is_new-via-then-is_new+else-not-is_known v ↦ (
            let on : v.is_known.result ≡ true = search rules in
            fresh-known known found fresh place c.each-test.true c.each.invariant (v.is_known.ensures.0 on))
        | else-is_new-via-else-is_new v ↦ fresh-again known found fresh place c.each-test.true c.each.invariant (c.is_new.ensures.again v.if-is_new.false)
      ])
    ]

pub is_known-requires : goal.is_known-requires
is_known-requires c = λ beyond. c.are_beyond-beyond.ensures beyond c.each.place 0 c.each-test.true
