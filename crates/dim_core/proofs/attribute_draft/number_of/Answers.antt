use Rattle.std.proofs.Common.{◌≡◌, [], ◌∷◌, ◌++◌, sym, ap, ◌∙◌, Some, None, if◌then◌else◌}
use Rattle.dim_name.specs.Name.{place_of, has_name}
use Rattle.dim_core.proofs.Keys.{new_place, not_among}
use Rattle.dim_core.proofs.attribute_draft.number_of.Goals as goal

pub returns-clause-number : goal.returns-clause-number
returns-clause-number c =
    let names = c.args.names.now.keys in
    let name = c.args.name.now in
    let none : place_of names name ≡ None = cc in
    let keys : c.insert.new.self.keys ≡ (if has_name names name then names else names ++ name ∷ []) = rw (c.in_ok-copy_of.ensures) at c.in_ok-insert.ensures.keys in
    let last : c.insert.new.self.keys ≡ names ++ name ∷ [] = keys ∙ ap (λ b. if b then names else names ++ name ∷ []) (not_among names name none) in
    ap (λ ns. place_of ns name) last ∙ new_place names name none ∙ ap Some (sym c.len-number.ensures.len)
