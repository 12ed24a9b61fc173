-- How many lines there are along axes.
use Rattle.std.proofs.Common.{◌≡◌, ℕ, suc, ◌*◌, ◌+◌, List, [], ◌∷◌, ◌++◌, length, map, refl, sym, ap, ◌∙◌, arith, length-append}
use Rattle.std.specs.List.{flat_map, range_with_len}
use Rattle.std.proofs.lemmas.List.{length-map}
use Rattle.cube_space.specs.Radix.{product}
use Rattle.view_query.specs.declared.shape.Axis.{Axis}
use Rattle.view_query.specs.Views.{lines}
pub use Rattle.cube_space.proofs.Places.{range-more as range_more}

-- how many elements each axis has
abbrev pub counts : List Axis → List ℕ
counts axes = map (λ axis. length axis.elements) axes

length-spread : (elements : List ℕ) (later : List (List ℕ)) → length (flat_map (λ element. map (λ line. element ∷ line) later) elements) ≡ length elements * length later
length-spread [] later = omega arith
length-spread (e ∷ es) later =
    length-append (map (λ line. e ∷ line) later) (flat_map (λ element. map (λ line. element ∷ line) later) es)
    ∙ (let a = length-map later (λ line. e ∷ line) in let b = length-spread es later in omega (arith, a, b))

pub length-lines : (axes : List Axis) → length (lines axes) ≡ product (counts axes)
length-lines [] = refl
length-lines (axis ∷ axes) = length-spread axis.elements (lines axes) ∙ ap (λ n. length axis.elements * n) (length-lines axes)

pub range_next : (n : ℕ) → range_with_len 0 n ++ n ∷ [] ≡ range_with_len 0 (n + 1)
range_next n =
    let e : n + 1 ≡ suc n = omega arith in
    let z : 0 + n ≡ n = omega arith in
    ap (λ m. range_with_len 0 n ++ m ∷ []) (sym z) ∙ sym (range_more 0 n) ∙ ap (range_with_len 0) (sym e)
