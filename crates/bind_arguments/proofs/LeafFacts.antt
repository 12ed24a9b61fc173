-- The next leaf of each element, from the last one on.
use Rattle.std.proofs.Common.{◌≡◌, ◌<◌, ◌≤◌, ◌+◌, ◌-◌, ◌==◌, ℕ, suc, ℤ, Bool, true, false, Option, Some, None, List, [], ◌∷◌, length, get_or, set, eqb, IsTrue, if◌then◌else◌, refl, sym, ap, ◌∙◌, arith}
use Rattle.std.specs.Prelude.{◌↔◌}
use Rattle.std.specs.List.{find, range_with_len}
use Rattle.std.proofs.lemmas.Bool.{eqb-true, eqb-false, ne_eqb}
use Rattle.std.proofs.lemmas.List.{length-set, get_or-set_same, get_or-set_other}
use Rattle.dim_core.specs.Outline.{Outline, components_of}
use Rattle.cube_space.specs.Cells.{is_leaf}
use Rattle.bind_arguments.specs.Family.{next_leaf}

module _ (d : Outline) where
  -- an element is a leaf where it has no components
  pub leaf_is : (e : ℕ) (b : Bool) → (IsTrue b ↔ (components_of d e ≡ [])) → b ≡ is_leaf d e
  leaf_is e b says = by (components_of d e) refl b says
    where
      by : (parts : List (ℕ × ℤ)) → components_of d e ≡ parts → (b : Bool) → (IsTrue b ↔ (components_of d e ≡ [])) → b ≡ is_leaf d e
      by [] is b says = says.1 is ∙ sym (ap (λ (l : List (ℕ × ℤ)). length l == 0) is)
      by (part ∷ parts) is true says = absurd (cc (sym is ∙ says.0 refl))
      by (part ∷ parts) is false says = sym (ap (λ (l : List (ℕ × ℤ)). length l == 0) is ∙ ne_eqb (suc (length parts)) 0 (λ e. omega (arith, e)))

  -- the first leaf among the last so many elements
  abbrev pub leaf_among : ℕ → Option ℕ
  leaf_among done = find (is_leaf d) (range_with_len (length d.elements - done) done)

  -- the next leaf of each of the last so many elements is known
  pub record AreLeaves (done : ℕ) (next : Option ℕ) (leaves : List (Option ℕ)) : Type 0 where
    pub len : length leaves ≡ length d.elements
    pub first : next ≡ leaf_among done
    pub each : (e : ℕ) → length d.elements ≤ e + done → e < length d.elements → get_or leaves e None ≡ next_leaf d e

  pub no_leaves : (leaves : List (Option ℕ)) → length leaves ≡ length d.elements → AreLeaves 0 None leaves
  no_leaves leaves len = record { len = len; first = refl; each = λ e late low. absurd (omega (arith, late, low)) }

  module _ (done e : ℕ) (next : Option ℕ) (leaves : List (Option ℕ)) (is : AreLeaves done next leaves) (at : e + suc done ≡ length d.elements) where
    own : next ≡ next_leaf d e
    own =
        is.first ∙ ap (λ k. find (is_leaf d) (range_with_len k done)) (let e : length d.elements - done ≡ suc e = omega (arith, at) in e)
        ∙ ap (λ k. find (is_leaf d) (range_with_len (suc e) k)) (let e : done ≡ length d.elements - suc e = omega (arith, at) in e)

    each_more : (k : ℕ) → length d.elements ≤ k + (done + 1) → k < length d.elements → get_or (set leaves e next) k None ≡ next_leaf d k
    each_more k late low = by (eqb k e) refl
      where
        by : (b : Bool) → eqb k e ≡ b → get_or (set leaves e next) k None ≡ next_leaf d k
        by true same =
            let here : k ≡ e = eqb-true k e same in
            ap (λ j. get_or (set leaves e next) j None) here ∙ get_or-set_same leaves e next None (omega (arith, at, is.len)) ∙ own ∙ ap (next_leaf d) (sym here)
        by false other =
            let apart = eqb-false k e other in
            get_or-set_other leaves e k next None apart ∙ is.each k (omega (arith, late, at, apart)) low

    among_more : (b : Bool) → is_leaf d e ≡ b → leaf_among (done + 1) ≡ (if b then Some e else leaf_among done)
    among_more b leaf =
        ap leaf_among (let k : done + 1 ≡ suc done = omega arith in k)
        ∙ ap (λ k. find (is_leaf d) (range_with_len k (suc done))) (let k : length d.elements - suc done ≡ e = omega (arith, at) in k)
        ∙ by b leaf
      where
        behind : find (is_leaf d) (range_with_len (e + 1) done) ≡ leaf_among done
        behind = ap (λ k. find (is_leaf d) (range_with_len k done)) (let k : e + 1 ≡ length d.elements - done = omega (arith, at) in k)

        by : (b : Bool) → is_leaf d e ≡ b → find (is_leaf d) (e ∷ range_with_len (e + 1) done) ≡ (if b then Some e else leaf_among done)
        by true leaf = rw leaf refl
        by false leaf = rw leaf behind

    pub leaf_turn : is_leaf d e ≡ true → AreLeaves (done + 1) (Some e) (set leaves e next)
    leaf_turn leaf = record { len = length-set leaves e next ∙ is.len; first = sym (among_more true leaf); each = each_more }

    pub branch_turn : is_leaf d e ≡ false → AreLeaves (done + 1) next (set leaves e next)
    branch_turn branch = record { len = length-set leaves e next ∙ is.len; first = is.first ∙ sym (among_more false branch); each = each_more }
