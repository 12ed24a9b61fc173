-- Areas and brackets name elements of their dimensions.
use Rattle.std.proofs.Common.{◌≡◌, ◌<◌, ℕ, List, [], length, map, Ok, subst}
use Rattle.cube_space.specs.Layout.{Layout, axes, sizes}
use Rattle.rule_laws.specs.declared.reference.Reference.{Reference}
use Rattle.rule_model.specs.declared.area.Area.{Area}
use Rattle.rule_model.specs.Conditions.{IsArea, IsReference}
use Rattle.rule_tree.specs.declared.rule.EntryText.{EntryText}
use Rattle.rule_tree.specs.declared.tree.SimpleText.{SimpleText}
use Rattle.bind_areas.specs.Areas.{placed, sets_at, args_at, alone, area_of, bracket_of}
use Rattle.bind_areas.proofs.ValidFacts.{sets_valid, args_valid, own_sizes}
use Rattle.rule_bind.proofs.Got.{got}

pub area_valid : (space : Layout) (cube : ℕ) (entries : List EntryText) (area : Area) → area_of space cube entries ≡ Ok area → IsArea space cube area
unfolding area_of
area_valid space cube entries area is =
    let (places, first, rest) = got (placed (axes space cube) [] entries) (λ places. Ok (record { sets = sets_at entries places (axes space cube) })) area is in
    let made : Area = record { sets = sets_at entries places (axes space cube) } in
    let same : made ≡ area = cc rest in
    subst (IsArea space cube) same (sets_valid entries places 0 (axes space cube))

pub bracket_valid : (space : Layout) (cube : ℕ) (simples : List SimpleText) (r : Reference) → cube < length space.cubes → bracket_of space cube simples ≡ Ok r → IsReference space cube r
unfolding bracket_of
bracket_valid space cube simples r low is =
    let (places, first, rest) = got (placed (axes space cube) [] (map alone simples)) (λ places. Ok (record { cube = cube; args = args_at simples places (axes space cube) })) r is in
    let made : Reference = record { cube = cube; args = args_at simples places (axes space cube) } in
    let same : made ≡ r = cc rest in
    subst (IsReference space cube) same (low, args_valid (sizes space cube) simples places 0 (axes space cube) (own_sizes (axes space cube)))
