use Rattle.std.proofs.Common.{◌∙◌, ◌<◌, ℕ, ℤ, pos, w64, get_or, length, rules, FitsSigned}
use Rattle.std.proofs.lemmas.List.Sorted.{answers_always}
use Rattle.std.proofs.lemmas.Int.{to_z-of_z}
use Rattle.dim_weights.proofs.Searches.{found, missed}
use Rattle.dim_weights.proofs.weights.share.Goals as goal

pub returns-in-Ok : goal.returns-in-Ok
returns-in-Ok c =
    let at = c.in-Ok.ensures.position (λ (p : ℕ × ℤ). p.0) (answers_always _ _ _ (λ f a r q called. search rules)) in
    let within : c.in-Ok.place < length c.args.pairs.now = c.in-Ok.ensures.bound in
    let fits : FitsSigned w64 (get_or c.args.pairs.now c.in-Ok.place (0, pos 0)).1 = search rules in
    to_z-of_z w64 (get_or c.args.pairs.now c.in-Ok.place (0, pos 0)).1 fits ∙ found c.args.pairs.now c.args.leaf c.in-Ok.place (0, pos 0) c.requires within at

pub returns-in-Err : goal.returns-in-Err
returns-in-Err c =
    let at = c.in-Err.ensures.position (λ (p : ℕ × ℤ). p.0) (answers_always _ _ _ (λ f a r q called. search rules)) in
    missed c.args.pairs.now c.args.leaf _ c.requires at
