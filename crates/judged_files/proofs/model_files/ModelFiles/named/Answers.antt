use Rattle.std.proofs.Common.{rules, ◌≡◌, ◌<◌, ◌∙◌, [], Some, IsSome, IsTrue, length, option_map, ap, refl, sym, subst, arith}
use Rattle.std.specs.Arc.{arc_value}
use Rattle.std.proofs.lemmas.List.{length-map}
use Rattle.std.proofs.lemmas.List.Quantifiers.{position-Some}
use Rattle.std.proofs.lemmas.Option.{slice_get-map, slice_get_read}
use Rattle.dim_name.specs.Name.{has_name, is_same_name, place_of}
use Rattle.judged_files.proofs.ReadyFacts.{place-there}
use Rattle.judged_files.proofs.model_files.ModelFiles.named.Goals as goal

pub unwrap-place-requires : goal.unwrap-place-requires
unwrap-place-requires c =
    let names = c.self.inside.script_names in
    let is : c.place_of.result ≡ place_of names c.args.name.now = search rules in
    let known : IsTrue (has_name names c.args.name.now) = rw (← c.self.view_is) at c.requires in
    subst IsSome (sym is) (place-there names c.args.name.now known)

pub returns-clause-script : goal.returns-clause-script
returns-clause-script c =
    let names = c.self.inside.script_names in
    let bound = c.self.inside.bound.items in
    let place = c.unwrap-place.result in
    let is : c.place_of.result ≡ place_of names c.args.name.now = search rules in
    let at : place_of names c.args.name.now ≡ Some place = sym is ∙ c.unwrap-place.ensures in
    let low = (position-Some (is_same_name c.args.name.now) names place [] at).0 in
    let below : place < length bound = omega (arith, low, c.self.invariant.each, length-map bound arc_value) in
    let read = slice_get_read bound (length bound) place c.index.result.now refl below c.index.ensures in
    rw (sym c.self.view_is) (slice_get-map arc_value bound place ∙ ap (option_map arc_value) read)
