use Rattle.std.proofs.Common.{rules, ◌≡◌, ◌∙◌, sym, ◌+◌, ◌<◌, ◌∷◌, take, drop, length, slice_get, slice_index_or, slice_set, Some, refl}
use Rattle.std.proofs.lemmas.Grind.{take-set_at}
use Rattle.cube_space.specs.Layout.{axes_of}
use Rattle.rule_model.proofs.Named.{with_front}
use Rattle.rule_model.proofs.Shapes.{axes_length}
use Rattle.load_cells.specs.Names.{element_by_text, elements_by_texts}
use Rattle.load_cells.proofs.Texts.{item, one_found, still_found, texts_other_count}
use Rattle.load_cells.proofs.names.find_elements.Goals as goal

pub returns-then-dims-texts-clause-missing : goal.returns-then-dims-texts-clause-missing
returns-then-dims-texts-clause-missing c = λ _.
    let long = axes_length c.args.space.now.dimensions c.args.dims.now c.requires.dims in
    texts_other_count (axes_of c.args.space.now.dimensions c.args.dims.now) c.args.texts.now (λ same. c.if-dims-texts.true (sym long ∙ same))

pub each-preserved : goal.each-preserved
each-preserved c =
    let D = c.args.space.now.dimensions in
    let dims = c.args.dims.now in
    let texts = c.args.texts.now in
    let i = c.each.place in
    let dim = slice_index_or dims i 0 in
    let d = c.dimension.result.now in
    let text = c.index-texts-place.result in
    let low : i < length dims = search rules in
    let text_low : i < length texts = search rules in
    let own : slice_get D dim ≡ Some d = search rules in
    let dims_next : drop i dims ≡ dim ∷ drop (i + 1) dims = item dims i dim low (search rules) in
    let texts_next : drop i texts ≡ text ∷ drop (i + 1) texts = item texts i text text_low c.index-texts-place.is in
    let is : element_by_text d text ≡ Some c.in-Some.element = search rules in
    let room : i < length c.each.at = search rules in
    let so_far : elements_by_texts (axes_of D dims) texts ≡ with_front (take i c.each.at) (elements_by_texts (axes_of D (dim ∷ drop (i + 1) dims)) (text ∷ drop (i + 1) texts)) =
    rw (dims_next, texts_next) at c.each.invariant.elements in
    record {
      elements = one_found D dim (drop (i + 1) dims) text (drop (i + 1) texts) d (take i c.each.at) own c.in-Some.element (elements_by_texts (axes_of D dims) texts) (take (i + 1) (slice_set c.each.at i c.in-Some.element)) is (take-set_at c.each.at i (i + 1) c.in-Some.element refl room) so_far;
      found = still_found D c.each.found.items dim d c.element_by_text.new.found c.each.invariant.found own (search rules);
    }
