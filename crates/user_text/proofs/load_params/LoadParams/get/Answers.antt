use Rattle.std.proofs.Common.{◌≡◌, ◌∙◌, length, Some, None, option_map, position, bytes_eq, refl, sym, ap}
use Rattle.std.proofs.lemmas.Option.{slice_get_read}
use Rattle.word_table.proofs.Pairs.{place_among, place_low, pair_there, pair_nowhere}
use Rattle.user_text.specs.UserText.{set_to}
use Rattle.user_text.proofs.load_params.LoadParams.get.Goals as goal

pub returns-in-Some : goal.returns-in-Some
returns-in-Some c =
    let pairs = c.self.inside.pairs.items in
    let word = c.args.word.now in
    let place = c.in-Some.place in
    let at : place_among pairs word ≡ Some place = ap (position (λ other. bytes_eq other word)) (sym c.self.invariant) ∙ sym c.in-Some.ensures in
    let read = slice_get_read pairs (length pairs) place c.index.result.now refl (place_low word pairs place at) c.index.ensures in
    sym (ap (option_map (λ pair. pair.1)) (pair_there word pairs place at ∙ read)) ∙ ap (λ params. set_to params word) c.self.view_is

pub returns-in-None : goal.returns-in-None
returns-in-None c =
    let pairs = c.self.inside.pairs.items in
    let word = c.args.word.now in
    let none : place_among pairs word ≡ None = ap (position (λ other. bytes_eq other word)) (sym c.self.invariant) ∙ sym c.in-None.ensures in
    sym (ap (option_map (λ pair. pair.1)) (pair_nowhere word pairs none)) ∙ ap (λ params. set_to params word) c.self.view_is
