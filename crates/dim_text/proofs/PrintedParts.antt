-- The tokens of a dimension's parts, as they are written one by one.
use Rattle.std.proofs.Common.{◌≡◌, ◌<◌, ◌<ℤ◌, ◌≤ℤ◌, ◌≤◌, ℕ, ℤ, pos, negsuc, unsigned_abs, List, [], ◌∷◌, ◌++◌, length, get_or, drop, codes, refl, sym, ap, ◌∙◌, subst, arith, ne_eqb}
use Rattle.std.proofs.lemmas.Int.{ints}
use Rattle.std.proofs.lemmas.List.{get_or-map}
use Rattle.std.specs.List.{flat_map}
use Rattle.cube_lex.specs.Written.{Spelling}
use Rattle.dim_core.specs.Outline.{Element, Outline, names_of, name_of, components_of}
use Rattle.dim_core.specs.Written.{by_name, written, written_element, written_attribute}
use Rattle.dim_core.specs.declared.attribute.Attribute.{Attribute}
use Rattle.cube_lex.specs.Written.{word_token, sign_token, text_token}
use Rattle.dim_text.specs.Spelled.{whole_token, weight_spelled, part_spelled, next_part_spelled, parts_spelled, spelled, defining, element_spelled, attribute_spelled}
use Rattle.cube_lex.specs.Written.{IsQuotable}
use Rattle.dim_text.specs.Writable.{IsWritable}

-- a component with a weight below 0
pub part_negative : (sign name : List ℕ) (w : ℤ) (n : ℕ) → n ≡ unsigned_abs w → w <ℤ pos 0
    → sign_token sign ∷ text_token name ∷ sign_token (codes "*") ∷ sign_token (codes "-") ∷ whole_token n ∷ [] ≡ sign_token sign ∷ part_spelled (name, w)
part_negative sign name (pos m) n size below = absurd (omega (arith, ints, below))
part_negative sign name (negsuc m) n size below = ap (λ k. sign_token sign ∷ text_token name ∷ sign_token (codes "*") ∷ sign_token (codes "-") ∷ whole_token k ∷ []) size

weight_more : (m : ℕ) → (m ≡ 1 → ⊥) → sign_token (codes "*") ∷ whole_token m ∷ [] ≡ weight_spelled (pos m)
weight_more m other = rw (ne_eqb m 1 other) refl

-- with a weight from 0 on, but 1
pub part_more : (sign name : List ℕ) (w : ℤ) (n : ℕ) → n ≡ unsigned_abs w → pos 0 ≤ℤ w → (n ≡ 1 → ⊥)
    → sign_token sign ∷ text_token name ∷ sign_token (codes "*") ∷ whole_token n ∷ [] ≡ sign_token sign ∷ part_spelled (name, w)
part_more sign name (pos m) n size above other =
    let same : n ≡ m = size in
    ap (λ k. sign_token sign ∷ text_token name ∷ sign_token (codes "*") ∷ whole_token k ∷ []) same
    ∙ ap (λ l. sign_token sign ∷ text_token name ∷ l) (weight_more m (λ one. other (same ∙ one)))
part_more sign name (negsuc m) n size above other = absurd (omega (arith, ints, above))

-- with the weight 1
pub part_one : (sign name : List ℕ) (w : ℤ) (n : ℕ) → n ≡ unsigned_abs w → pos 0 ≤ℤ w → n ≡ 1 → sign_token sign ∷ text_token name ∷ [] ≡ sign_token sign ∷ part_spelled (name, w)
part_one sign name (pos m) n size above one = let same : 1 ≡ m = sym one ∙ size in ap (λ k. sign_token sign ∷ text_token name ∷ weight_spelled (pos k)) same
part_one sign name (negsuc m) n size above one = absurd (omega (arith, ints, above))

-- the name of an element can be written
pub name_quotable_at : (d : Outline) → IsWritable d → (k : ℕ) → k < length d.elements → IsQuotable (name_of d k)
name_quotable_at d w k within =
    let none : Element ℕ = record { name = []; components = [] } in
    subst IsQuotable (sym (get_or-map (λ (e : Element ℕ). e.name) d.elements k none [] within)) (w.elements k none within)

-- a component behind the first
abbrev pub further_of : List (List ℕ) → ℕ × ℤ → List Spelling
further_of names part = next_part_spelled (get_or names part.0 [], part.1)

-- an element without components
pub leaf_spelled : (names : List (List ℕ)) (shown : List ℕ) (components : List (ℕ × ℤ)) → components ≡ []
    → word_token (codes "N") ∷ text_token shown ∷ sign_token (codes ";") ∷ [] ≡ spelled (defining shown (by_name names components))
leaf_spelled names shown components none = ap (λ cs. spelled (defining shown (by_name names cs))) (sym none)

-- an element with components
pub consolidated_spelled : (names : List (List ℕ)) (shown : List ℕ) (components : List (ℕ × ℤ)) → (components ≡ [] → ⊥)
    → word_token (codes "C") ∷ text_token shown ∷ (parts_spelled (by_name names components) ++ sign_token (codes ";") ∷ []) ≡ spelled (defining shown (by_name names components))
consolidated_spelled names shown [] some = absurd (some refl)
consolidated_spelled names shown (c ∷ cs) some = refl

-- an element by its index
pub element_at : (d : Outline) (k : ℕ) (none : Element (List ℕ)) → k < length d.elements
    → spelled (defining (name_of d k) (by_name (names_of d.elements) (components_of d k))) ≡ element_spelled (get_or (written d).elements k none)
element_at d k none within =
    let e : Element ℕ = record { name = []; components = [] } in
    let shown : name_of d k ≡ (get_or d.elements k e).name = get_or-map (λ (x : Element ℕ). x.name) d.elements k e [] within in
    let components : components_of d k ≡ (get_or d.elements k e).components = get_or-map (λ (x : Element ℕ). x.components) d.elements k e [] within in
    let here : get_or (written d).elements k none ≡ written_element (names_of d.elements) (get_or d.elements k e) = get_or-map (written_element (names_of d.elements)) d.elements k e none within in
    ap (λ n. spelled (defining n (by_name (names_of d.elements) (components_of d k)))) shown
    ∙ ap (λ cs. spelled (defining (get_or d.elements k e).name (by_name (names_of d.elements) cs))) components
    ∙ ap element_spelled (sym here)

-- an attribute
abbrev pub attribute_of : List (List ℕ) → Attribute → List Spelling
attribute_of names a = attribute_spelled (written_attribute names a)

-- one component or more
pub parts_split : (names : List (List ℕ)) (parts : List (ℕ × ℤ)) (d : ℕ × ℤ) → 1 ≤ length parts
    → (sign_token (codes ":") ∷ part_spelled (get_or names (get_or parts 0 d).0 [], (get_or parts 0 d).1)) ++ flat_map next_part_spelled (by_name names (drop 1 parts)) ≡ parts_spelled (by_name names parts)
parts_split names [] d some = absurd (omega (arith, some))
parts_split names (part ∷ parts) d some = refl
