use Rattle.std.proofs.Common.{◌≡◌, [], ◌∷◌, ◌++◌, refl, sym, ap, ◌∙◌, not, if◌then◌else◌}
use Rattle.std.proofs.lemmas.Slice.Zip.{all_zipped_more}
use Rattle.dim_core.specs.Inside.Kept.{IsKeyOf}
use Rattle.dim_core.proofs.BadAttributes.{is_bad, is_good}
use Rattle.dim_core.proofs.Keys.{keys_kept, key_found}
use Rattle.dim_core.proofs.attribute_draft.AttributeDraft.add.Goals as goal

pub invariant_of-self-in_err-number : goal.invariant_of-self-in_err-number
invariant_of-self-in_err-number c =
    rw (c.reserve.ensures.items) (keys_kept c.self.inside.names.keys c.number_of.new.names.keys c.number_of.ensures.kept c.self.inside.list.items c.self.inside.keys c.self.invariant)

pub invariant_of-self-in_err-insert : goal.invariant_of-self-in_err-insert
invariant_of-self-in_err-insert c =
    rw (c.reserve.ensures.items, c.in_err-insert.ensures.err)
    (keys_kept c.self.inside.names.keys c.number_of.new.names.keys c.number_of.ensures.kept c.self.inside.list.items c.self.inside.keys c.self.invariant)

pub invariant_of-self-then-not-branch : goal.invariant_of-self-then-not-branch
invariant_of-self-then-not-branch c =
    let keys = c.self.inside.keys in
    let there = is_bad _ c.in_ok-insert.field-0 c.in_ok-insert.ensures.added c.if-not-branch.true in
    let same : c.insert.new.self ≡ keys = c.in_ok-insert.ensures.keys ∙ ap (λ b. if b then keys else keys ++ (c.args.attribute.element, c.in_ok-number.number) ∷ []) there in
    rw (c.reserve.ensures.items, same)
    (keys_kept c.self.inside.names.keys c.number_of.new.names.keys c.number_of.ensures.kept c.self.inside.list.items keys c.self.invariant)

pub returns-then-not-branch-clause-added : goal.returns-then-not-branch-clause-added
returns-then-not-branch-clause-added c =
    let kept = keys_kept c.self.inside.names.keys c.number_of.new.names.keys c.number_of.ensures.kept c.self.inside.list.items c.self.inside.keys c.self.invariant in
    let there = is_bad _ c.in_ok-insert.field-0 c.in_ok-insert.ensures.added c.if-not-branch.true in
    let found = key_found c.number_of.new.names.keys c.self.inside.list.items c.self.inside.keys kept c.args.attribute (c.args.attribute.element, c.in_ok-number.number) (refl, c.in_ok-number.ensures.number) in
    rw (← c.self.view_is) (ap not (sym there ∙ found))

pub invariant_of-self-2 : goal.invariant_of-self-2
invariant_of-self-2 c =
    let list = c.self.inside.list.items in
    let keys = c.self.inside.keys in
    let kept = keys_kept c.self.inside.names.keys c.number_of.new.names.keys c.number_of.ensures.kept list keys c.self.invariant in
    let there = is_good _ c.in_ok-insert.field-0 c.in_ok-insert.ensures.added c.if-not-branch.false in
    let last : c.insert.new.self ≡ keys ++ (c.args.attribute.element, c.in_ok-number.number) ∷ [] =
    c.in_ok-insert.ensures.keys ∙ ap (λ b. if b then keys else keys ++ (c.args.attribute.element, c.in_ok-number.number) ∷ []) there in
    let longer : c.push_reserved.new.self.items ≡ list ++ c.args.attribute ∷ [] = c.push_reserved.ensures.items ∙ ap (λ l. l ++ c.args.attribute ∷ []) c.reserve.ensures.items in
    rw (longer, last)
    (all_zipped_more (IsKeyOf c.number_of.new.names.keys) list keys c.args.attribute (c.args.attribute.element, c.in_ok-number.number) kept (refl, c.in_ok-number.ensures.number))

pub returns-clause-added : goal.returns-clause-added
returns-clause-added c =
    let kept = keys_kept c.self.inside.names.keys c.number_of.new.names.keys c.number_of.ensures.kept c.self.inside.list.items c.self.inside.keys c.self.invariant in
    let there = is_good _ c.in_ok-insert.field-0 c.in_ok-insert.ensures.added c.if-not-branch.false in
    let found = key_found c.number_of.new.names.keys c.self.inside.list.items c.self.inside.keys kept c.args.attribute (c.args.attribute.element, c.in_ok-number.number) (refl, c.in_ok-number.ensures.number) in
    rw (← c.self.view_is) (ap not (sym there ∙ found))
