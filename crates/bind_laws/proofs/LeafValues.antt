-- The elements of a leaf cell of an area are leaves that the area has in each dimension.
use Rattle.std.proofs.Common.{◌≡◌, refl, sym, subst, ℕ, zero, suc, true, List, [], ◌∷◌, length, Option, Some, Ok, Err, nat_lt}
use Rattle.std.specs.Prelude.{slice_get, slice_index_or}
use Rattle.std.specs.List.{list_all, zip}
use Rattle.std.proofs.lemmas.Bool.{and_parts, and_from}
use Rattle.cube_fixed.specs.declared.value.Value.{Value}
use Rattle.dim_core.specs.Outline.{Outline}
use Rattle.cube_space.specs.Layout.{Layout, axes, sizes_of}
use Rattle.cube_space.specs.Radix.{are_digits}
use Rattle.cube_space.specs.Cells.{IsCell, is_leaf, are_leaves, is_leaf_cell, cube_of, elements_of}
use Rattle.cube_space.proofs.Places.{cell-place}
use Rattle.rule_laws.specs.Meaning.{Others, formula_value}
use Rattle.rule_laws.specs.declared.reference.Reference.{Reference}
use Rattle.rule_laws.specs.declared.formula.Formula.{Formula}
use Rattle.rule_model.specs.declared.area.Area.{Area}
use Rattle.rule_model.specs.Areas.{in_set, in_sets, in_area}
use Rattle.rule_model.specs.Targets.{element_at}
use Rattle.rule_tree.specs.declared.tree.Tree.{Tree}
use Rattle.bind_areas.specs.Meaning.{Meaning}
use Rattle.rule_bind.specs.declared.standing.Standing.TheVariants as standings
use Rattle.rule_bind.specs.Sureness.{Sets, is_leaf_of}
use Rattle.rule_bind.specs.Rules.{part_of}
use Rattle.bind_laws.proofs.SureFacts.{AreLeavesOf}
use Rattle.bind_laws.proofs.SameValues.{Related, same}

place_is : (ds : List Outline) (sets : Sets) (es : List ℕ) (place : ℕ) (d : Outline) (set : Option (List ℕ)) → are_digits (sizes_of ds) es ≡ true → are_leaves ds es ≡ true → list_all (λ p. in_set p.0 p.1) (zip sets es) ≡ true
    → slice_get ds place ≡ Some d → slice_get sets place ≡ Some set → (is_leaf_of d (slice_index_or es place 0) ≡ true) × (in_set set (slice_index_or es place 0) ≡ true)
place_is [] sets es place d set digits leaves inside own has = absurd (cc)
place_is (x ∷ ds) [] es place d set digits leaves inside own has = absurd (cc)
place_is (x ∷ ds) (y ∷ sets) [] place d set digits leaves inside own has = absurd (cc)
place_is (x ∷ ds) (y ∷ sets) (e ∷ es) zero d set digits leaves inside own has =
    let same_d : x ≡ d = cc in
    let same_set : y ≡ set = cc in
    let low = and_parts (nat_lt e (length x.elements)) (are_digits (sizes_of ds) es) digits in
    let leaf = and_parts (is_leaf x e) (are_leaves ds es) leaves in
    let inner = and_parts (in_set y e) (list_all (λ p. in_set p.0 p.1) (zip sets es)) inside in
    (subst (λ o. is_leaf_of o e ≡ true) same_d (and_from (nat_lt e (length x.elements)) (is_leaf x e) low.0 leaf.0), subst (λ o. in_set o e ≡ true) same_set inner.0)
place_is (x ∷ ds) (y ∷ sets) (e ∷ es) (suc place) d set digits leaves inside own has =
    let low = and_parts (nat_lt e (length x.elements)) (are_digits (sizes_of ds) es) digits in
    let leaf = and_parts (is_leaf x e) (are_leaves ds es) leaves in
    let inner = and_parts (in_set y e) (list_all (λ p. in_set p.0 p.1) (zip sets es)) inside in
    place_is ds sets es place d set low.1 leaf.1 inner.1 own has

leaves-of : (space : Layout) (cube : ℕ) (area : Area) (cell : ℕ) (own : ℕ → ℕ) → IsCell space cell → cube_of space cell ≡ cube → is_leaf_cell space cell ≡ true → in_area space area cell ≡ true
    → ((place : ℕ) → own place ≡ element_at space cell place) → AreLeavesOf space cube area.sets own
unfolding is_leaf_cell in_sets
leaves-of space cube area cell own there same leaf inside elements place d set axis has =
    let digits = (cell-place space cell there).place.digits in
    let ds = axes space (cube_of space cell) in
    let here : slice_get ds place ≡ Some d = subst (λ c. slice_get (axes space c) place ≡ Some d) (sym same) axis in
    let found = place_is ds area.sets (elements_of space cell) place d set digits leaf inside here has in
    subst (λ e. (is_leaf_of d e ≡ true) × (in_set set e ≡ true)) (sym (elements place)) found

nowhere : (space : Layout) (cube : ℕ) (own : ℕ → ℕ) → AreLeavesOf space cube [] own
nowhere space cube own place d set axis has = absurd (cc)

-- what is related to something is there
found : (R : Formula → Formula → Type 0) (m n : Meaning Formula) (f : Formula) → Related R m n → m ≡ Ok f → (g : Formula) × (n ≡ Ok g) × R f g
found R (Ok a) (Ok b) f related is = let one : a ≡ f = cc is in (b, refl, subst (λ x. R x b) one related)
found R (Ok a) (Err e) f related is = absurd related
found R (Err e) n f related is = absurd (cc is)

pub part-same : (space : Layout) (cube : ℕ) (area : Area) (tree : Tree) (f : Formula) (cell : ℕ) (named : Reference → Value) (others : Others) → IsCell space cell → cube_of space cell ≡ cube → is_leaf_cell space cell ≡ true → in_area space area cell ≡ true
    → ((place : ℕ) → others.own place ≡ element_at space cell place) → part_of space cube area.sets tree ≡ Ok f
    → (g : Formula) × (part_of space cube [] tree ≡ Ok g) × (formula_value named others f ≡ formula_value named others g)
part-same space cube area tree f cell named others there own leaf inside elements is =
    let leaves = leaves-of space cube area cell others.own there own leaf inside elements in
    let all = same space cube area.sets named others leaves (nowhere space cube others.own) tree in
    found (λ a b. formula_value named others a ≡ formula_value named others b) (part_of space cube area.sets tree) (part_of space cube [] tree) f (all.value standings.Part) is
