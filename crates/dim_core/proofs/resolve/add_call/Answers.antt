use Rattle.std.proofs.Common.{◌≡◌, List, [], ◌∷◌, ◌++◌, sym, ap, ◌∙◌, subst, true, not, if◌then◌else◌}
use Rattle.std.specs.List.{AllZip, list_any}
use Rattle.std.proofs.lemmas.Result.{IfOk-weaker}
use Rattle.std.proofs.lemmas.Slice.Zip.{all_zipped_more}
use Rattle.dim_core.specs.declared.attribute.Attribute.{Attribute}
use Rattle.dim_core.specs.declared.attribute.NamedAttribute.{NamedAttribute}
use Rattle.dim_core.specs.Draft.{is_bad_attribute, IsResolvedAttribute}
use Rattle.dim_core.specs.Outline.{is_same_attribute}
use Rattle.dim_core.proofs.BadAttributes.{bad-resolved, of_call, once-push, two_ways}
use Rattle.dim_core.proofs.resolve.add_call.Goals as goal

pub returns-in-Some-clause-bad : goal.returns-in-Some-clause-bad
returns-in-Some-clause-bad c =
    let names = c.args.names.now.keys in
    let call = c.args.call in
    let a = c.of_element.result in
    let at : IsResolvedAttribute names call a = of_call names call a c.in-Some.index (sym c.in-Some.ensures.index) c.of_element.ensures in
    let old = c.args.resolved.now in
    IfOk-weaker c.add.result (λ added. added ≡ not (list_any (is_same_attribute a) old))
    (λ added. (before : List NamedAttribute) → AllZip (IsResolvedAttribute names) before old → added ≡ not (is_bad_attribute names before call))
    (λ added h before z. h ∙ ap not (sym (bad-resolved names before old z call a at)))
    c.add.ensures.added

pub returns-in-Some-clause-added : goal.returns-in-Some-clause-added
returns-in-Some-clause-added c =
    let names = c.args.names.now.keys in
    let call = c.args.call in
    let a = c.of_element.result in
    let at : IsResolvedAttribute names call a = of_call names call a c.in-Some.index (sym c.in-Some.ensures.index) c.of_element.ensures in
    let old = c.args.resolved.now in
    let new = c.add.new.self in
    IfOk-weaker c.add.result (λ added. new ≡ (if added then old ++ a ∷ [] else old))
    (λ added. added ≡ true → (before : List NamedAttribute) → AllZip (IsResolvedAttribute names) before old → AllZip (IsResolvedAttribute names) (before ++ call ∷ []) new)
    (λ added h yes before z.
    let last : new ≡ old ++ a ∷ [] = h ∙ ap (λ b. if b then old ++ a ∷ [] else old) yes in
    let P : List Attribute → Type 0 = AllZip (IsResolvedAttribute names) (before ++ call ∷ []) in
    subst P (sym last) (all_zipped_more (IsResolvedAttribute names) before old call a z at))
    c.add.ensures.list

pub returns-in-Some-clause-once : goal.returns-in-Some-clause-once
returns-in-Some-clause-once c =
    let a = c.of_element.result in
    let old = c.args.resolved.now in
    let new = c.add.new.self in
    two_ways c.add.result (λ added. added ≡ not (list_any (is_same_attribute a) old)) (λ added. new ≡ (if added then old ++ a ∷ [] else old)) _
    (λ added h l yes once. once-push old new a added h yes (l ∙ ap (λ b. if b then old ++ a ∷ [] else old) yes) once)
    c.add.ensures.added c.add.ensures.list
