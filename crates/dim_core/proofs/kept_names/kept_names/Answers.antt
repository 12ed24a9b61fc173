use Rattle.std.proofs.Common.{◌≡◌, [], ◌∷◌, ◌++◌, false, sym, ap, ◌∙◌, if◌then◌else◌}
use Rattle.std.proofs.lemmas.List.{append-nil, append_assoc}
use Rattle.dim_name.specs.Name.{has_name}
use Rattle.dim_core.proofs.Naming.{not_before}
use Rattle.dim_core.proofs.kept_names.kept_names.Goals as goal

pub loop-name-preserved : goal.loop-name-preserved
loop-name-preserved c =
    let before = c.loop-name.kept in
    let name = c.in-Some.name in
    let rest = c.next.new.self in
    let parts : c.args.names.keys ≡ before ++ name ∷ rest = c.loop-name.invariant ∙ ap (λ names. before ++ names) c.in-Some.ensures.steps in
    let absent : has_name before name ≡ false = not_before c.args.names.keys before name rest parts c.into_iter-name-iterator.ensures.into_iter_gives.3 in
    let more : c.insert.new.self ≡ before ++ name ∷ [] = c.in_ok-insert.ensures.keys ∙ ap (λ b. if b then before else before ++ name ∷ []) absent in
    parts ∙ sym (append_assoc before (name ∷ []) rest) ∙ ap (λ names. names ++ rest) (sym more)

pub returns : goal.returns
returns c =
    let kept = c.loop-name.kept in
    sym (c.loop-name.invariant ∙ ap (λ names. kept ++ names) c.in-None.ensures.steps.0 ∙ append-nil kept)
