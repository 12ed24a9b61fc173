use Rattle.std.proofs.Common.{rules, ◌≡◌, ◌∙◌, ◌<◌, sym, ap, subst, true, None}
use Rattle.std.specs.Prelude.{slice_index_or}
use Rattle.order_laws.specs.Scales.{set_element}
use Rattle.cover_laws.specs.Looking.{is_narrow}
use Rattle.feed_cover.specs.Views.{look_of}
use Rattle.feed_cover.proofs.Steps.{some-found}
use Rattle.feed_cover.proofs.each.some_narrow.Goals as goal

pub returns-then-is_narrow : goal.returns-then-is_narrow
returns-then-is_narrow c =
    let on : c.is_narrow.result ≡ true = search rules in
    let set = slice_index_or c.args.view.area.now.sets c.args.dim None in
    some-found (λ k. is_narrow (look_of c.args.model.now c.args.view) c.args.dim (set_element set k)) c.each.k _ (subst (λ n. c.each.k < n) c.count_in-k-end.ensures c.each-test.true)
    (ap (is_narrow (look_of c.args.model.now c.args.view) c.args.dim) (sym c.element_in.ensures.element) ∙ sym c.is_narrow.ensures ∙ on)
