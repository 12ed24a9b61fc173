-- The marks of the elements that a map names.
use Rattle.std.proofs.Common.{◌≡◌, ap, ◌∙◌, sym, arith, refl, ℕ, ◌<◌, Bool, true, false, not, ◌||◌, ◌==◌, Option, Some, None, List, [], ◌∷◌, ◌++◌, length, get_or, set, map, filter, filter_map, if◌then◌else◌, eq-eqb}
use Rattle.std.specs.List.{list_any, range_with_len, cons_option}
use Rattle.std.proofs.Math.ListN.{length-set}
use Rattle.std.proofs.lemmas.Bool.Decides.{Decides-eqb}
use Rattle.std.proofs.lemmas.List.{get_or-set_same, get_or-set_other}
use Rattle.std.proofs.lemmas.List.Elements.{filter_map-append}
use Rattle.std.proofs.lemmas.List.Folds.{list_any-append}
use Rattle.std.proofs.lemmas.List.FromFn.{get_or-map-range_with_len}
use Rattle.dim_core.specs.Outline.{Outline}
use Rattle.cube_space.specs.Cells.{is_leaf}
use Rattle.cover_laws.specs.Looking.{sent}
use Rattle.feed_turn.specs.Leaves.{all_elements}
use Rattle.feed_turn.specs.Named.{is_named, names_each_leaf, named_set}
use Rattle.feed_turn.specs.Inside.Slots.{marked_at, marked_set}
use Rattle.feed_turn.proofs.Ranges.{same-all, same-filter}

-- of so many elements those are marked that a map names from these leaves
pub record AreMarked (n : ℕ) (to : List (Option ℕ)) (leaves : List ℕ) (marks : List Bool) : Type 0 where
  pub long : length marks ≡ n
  pub each : (x : ℕ) → x < n → get_or marks x false ≡ is_named to leaves x

pub marked-more : (n : ℕ) (to : List (Option ℕ)) (leaves : List ℕ) (leaf : ℕ) (marks : List Bool) → AreMarked n to leaves marks → ((element : ℕ) → sent to leaf ≡ Some element → element < n)
    → AreMarked n to (leaves ++ leaf ∷ []) (marked_at marks (sent to leaf))
marked-more n to leaves leaf marks are inside = record {
  long = long (sent to leaf);
  each = λ x low. step x low (sent to leaf) inside ∙ sym (more x);
}
  where
    long : (o : Option ℕ) → length (marked_at marks o) ≡ n
    long None = are.long
    long (Some element) = length-set marks element true ∙ are.long

    more : (x : ℕ) → is_named to (leaves ++ leaf ∷ []) x ≡ (is_named to leaves x || list_any (λ found. found == x) (cons_option (sent to leaf) []))
    more x = ap (list_any (λ found. found == x)) (filter_map-append (sent to) leaves (leaf ∷ [])) ∙ list_any-append (λ found. found == x) (filter_map (sent to) leaves) (cons_option (sent to leaf) [])

    or-false : (b : Bool) → b ≡ (b || false)
    or-false true = refl
    or-false false = refl

    or-true : (b : Bool) → true ≡ (b || true)
    or-true true = refl
    or-true false = refl

    put : (x element : ℕ) → x < n → element < n → (b : Bool) → (element == x) ≡ b → get_or (set marks element true) x false ≡ (is_named to leaves x || (b || false))
    put x element low less true same =
        let is : element ≡ x = (Decides-eqb element x).0 same in
        ap (λ y. get_or (set marks element true) y false) (sym is) ∙ get_or-set_same marks element true false (omega (arith, less, are.long)) ∙ or-true (is_named to leaves x)
    put x element low less false other =
        let differ : x ≡ element → ⊥ = (λ same. let yes : true ≡ false = sym (eq-eqb element x (sym same)) ∙ other in absurd (cc)) in
        get_or-set_other marks element x true false differ ∙ are.each x low ∙ or-false (is_named to leaves x)

    step : (x : ℕ) → x < n → (o : Option ℕ) → ((element : ℕ) → o ≡ Some element → element < n) → get_or (marked_at marks o) x false ≡ (is_named to leaves x || list_any (λ found. found == x) (cons_option o []))
    step x low None inside = are.each x low ∙ or-false (is_named to leaves x)
    step x low (Some element) inside = put x element low (inside element refl) (element == x) refl

-- a list of marks, and the set that they make
pub marks-set : (d : Outline) (to : List (Option ℕ)) (leaves : List ℕ) (marks : List Bool) → marks ≡ map (is_named to leaves) (range_with_len 0 (length d.elements))
    → marked_set d marks ≡ named_set d to leaves
unfolding named_set
marks-set d to leaves marks are =
    let n = length d.elements in
    let at : (x : ℕ) → x < n → get_or marks x false ≡ is_named to leaves x = (λ x low. ap (λ (ms : List Bool). get_or ms x false) are ∙ get_or-map-range_with_len (is_named to leaves) 0 n x x false low (omega arith)) in
    let all = same-all (λ e. not (is_leaf d e) || get_or marks e false) (λ e. not (is_leaf d e) || is_named to leaves e) n (λ x low. ap (λ b. not (is_leaf d x) || b) (at x low)) in
    let kept = same-filter (λ e. get_or marks e false) (is_named to leaves) n at in
    ap (λ b. if b then None else Some (filter (λ e. get_or marks e false) (all_elements d))) all
    ∙ ap (λ es. if names_each_leaf d to leaves then None else Some es) kept
