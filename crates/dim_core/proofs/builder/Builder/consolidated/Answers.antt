use Rattle.std.proofs.Common.{◌≡◌, length, ◌++◌, ◌∷◌, [], ◌∙◌, sym, ap, subst, List, ℕ, None, IsTrue}
use Rattle.std.specs.List.{IsDistinct}
use Rattle.indexmap.specs.IndexSet.{insert_key}
use Rattle.std.proofs.lemmas.List.Elements.{All-push}
use Rattle.dim_name.specs.Name.{is_name, is_same_name}
use Rattle.dim_core.specs.Draft.{Draft}
use Rattle.dim_core.specs.Refusal.{refusal_of}
use Rattle.dim_core.proofs.Definitions.{new_key, kept_after, one_more}
use Rattle.dim_core.proofs.builder.Builder.consolidated.Goals as goal

pub invariant_of-self-2 : goal.invariant_of-self-2
invariant_of-self-2 c =
    let b = c.self.inside in
    let P : Draft → Type 0 = λ d. refusal_of d c.args.name c.args.components.items ≡ None in
    let tested : refusal_of c.args.self.now c.args.name c.args.components.items ≡ None = cc in
    let free = subst P (sym c.self.view_is) tested in
    let inserted : c.insert.new.self.keys ≡ insert_key is_same_name b.names.keys c.args.name = c.in_ok-insert.ensures.keys in
    let names : c.insert.new.self.keys ≡ b.names.keys ++ c.args.name ∷ [] = inserted ∙ new_key b.name b.names.keys b.components.items b.component_count b.attributes.items c.args.name c.args.components.items c.self.invariant.0 free in
    let lists : c.push_reserved.new.self.items ≡ b.components.items ++ c.args.components.items ∷ [] = cc (c.in_ok-reserve.ensures.items) in
    let D : List (List ℕ) → Type 0 = IsDistinct is_same_name in
    let kept = kept_after b.name b.names.keys b.components.items b.component_count b.attributes.items c.args.name c.args.components.items c.self.invariant.0 free (subst D names c.insert.ensures.unique) in
    let counted : c.len.result ≡ length c.args.components.items = c.len.ensures ∙ sym c.deref.ensures.len ∙ ap length c.deref.ensures.value in (
      rw (names, lists, counted) kept,
      record {
        own = c.self.invariant.1.own;
        elements = rw names (All-push (λ n. IsTrue (is_name n)) b.names.keys c.args.name c.self.invariant.1.elements c.shown-is_name.ensures.is_name);
        attributes = c.self.invariant.1.attributes;
      },
    )

pub returns-clause-defined : goal.returns-clause-defined
returns-clause-defined c =
    let b = c.self.inside in
    let P : Draft → Type 0 = λ d. refusal_of d c.args.name c.args.components.items ≡ None in
    let tested : refusal_of c.args.self.now c.args.name c.args.components.items ≡ None = cc in
    let free = subst P (sym c.self.view_is) tested in
    let inserted : c.insert.new.self.keys ≡ insert_key is_same_name b.names.keys c.args.name = c.in_ok-insert.ensures.keys in
    let names : c.insert.new.self.keys ≡ b.names.keys ++ c.args.name ∷ [] = inserted ∙ new_key b.name b.names.keys b.components.items b.component_count b.attributes.items c.args.name c.args.components.items c.self.invariant.0 free in
    let lists : c.push_reserved.new.self.items ≡ b.components.items ++ c.args.components.items ∷ [] = cc (c.in_ok-reserve.ensures.items) in
    rw (← c.self.view_is) (one_more b.name b.names.keys _ b.components.items _ b.attributes.items c.args.name c.args.components.items c.self.invariant.0.paired names lists)
