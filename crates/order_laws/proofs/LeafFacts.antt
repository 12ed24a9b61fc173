-- Whether a cell that a reference names is a leaf cell, by what the source's elements name.
use Rattle.std.proofs.Common.{◌≡◌, refl, sym, ap, ◌∙◌, ℕ, suc, Bool, true, false, ◌&&◌, Option, Some, List, [], ◌∷◌, length, get_or, ◌<◌, ◌==◌, if◌then◌else◌, arith}
use Rattle.std.specs.Prelude.{slice_get, unwrap_or, None}
use Rattle.std.specs.Option.{option_map_or}
use Rattle.std.proofs.Math.Bool.{and_assoc}
use Rattle.std.proofs.lemmas.Bool.{and_parts}
use Rattle.dim_core.specs.Outline.{Outline}
use Rattle.rule_laws.specs.declared.reference.Arg.{Arg}
use Rattle.rule_laws.specs.declared.reference.Arg.TheVariants.{Fixed, Moved}
use Rattle.rule_model.specs.Targets.{elements_by, element_by}
use Rattle.order_laws.specs.Scales.{is_leaf_element}
use Rattle.order_laws.specs.Earlier.{is_same, fixed_leaves, moved_leaves}
use Rattle.order_laws.proofs.SumFacts.{all_from, all-same, all-and, all-dim, all-true}
use Rattle.order_laws.proofs.ReferenceFacts.{AllFollow, moved-element}
use Rattle.order_laws.proofs.SetFacts.{with-parts}
use Rattle.order_laws.proofs.EndingFacts.{from-same, to-same}

-- flags that are the same for each element
pub all-self : (f : ℕ → ℕ → Bool) (i : ℕ) (es : List ℕ) → all_from (λ i e. is_same (f i e) (f i e)) i es ≡ true
all-self f i es = all-same (λ i e. is_same (f i e) (f i e)) (λ i e. true) (λ i e. to-same (f i e) (f i e) refl) i es ∙ all-true i es

pub all-agree : (f g : ℕ → ℕ → Bool) (i : ℕ) (es : List ℕ) → all_from (λ i e. is_same (f i e) (g i e)) i es ≡ true → all_from f i es ≡ all_from g i es
all-agree f g i [] h = refl
all-agree f g i (e ∷ es) h =
    let parts = and_parts (is_same (f i e) (g i e)) (all_from (λ i e. is_same (f i e) (g i e)) (suc i) es) h in
    ap (λ t. t && all_from f (suc i) es) (sym (from-same (f i e) (g i e) parts.0)) ∙ ap (λ t. g i e && t) (all-agree f g (suc i) es parts.1)

-- what a dimension of the source names by an argument is a leaf
abbrev leaf_sent : List Outline → ℕ → List (Option ℕ) → ℕ → Bool
leaf_sent ds j to e = option_map_or (is_leaf_element ds j) (unwrap_or (slice_get to e) None) true

moved-all : (ds : List Outline) (j from : ℕ) (to : List (Option ℕ)) (args : List Arg) (es : List ℕ) → from < length es
    → all_from (moved_leaves ds j (Moved from to ∷ args)) 0 es ≡ leaf_sent ds j to (get_or es from 0) && all_from (moved_leaves ds (suc j) args) 0 es
moved-all ds j from to args es low =
    all-same (moved_leaves ds j (Moved from to ∷ args)) (λ i e. (if i == from then leaf_sent ds j to e else true) && moved_leaves ds (suc j) args i e)
    (λ i e. by (leaf_sent ds j to e) (moved_leaves ds (suc j) args i e) (i == from)) 0 es
    ∙ all-and (λ i e. if i == from then leaf_sent ds j to e else true) (moved_leaves ds (suc j) args) 0 es
    ∙ ap (λ t. t && all_from (moved_leaves ds (suc j) args) 0 es) (all-dim from (leaf_sent ds j to) 0 from es (omega arith) low)
  where
    by : (a b t : Bool) → (if t then a && b else b) ≡ (if t then a else true) && b
    by a b true = refl
    by a b false = refl

and-third : (a b c : Bool) → a && (b && c) ≡ b && (a && c)
and-third true b c = refl
and-third false true c = refl
and-third false false c = refl

-- the named elements are leaves just where what fixed arguments name is, and all that the source's elements name
pub named-leaves : (ds : List Outline) (j : ℕ) (args : List Arg) (es ts : List ℕ) → AllFollow (length es) args → elements_by es args ≡ Some ts
    → fixed_leaves ds j args && all_from (moved_leaves ds j args) 0 es ≡ all_from (is_leaf_element ds) j ts
named-leaves ds j [] es ts h is = let same : [] ≡ ts = cc in all-true 0 es ∙ ap (all_from (is_leaf_element ds) j) same
named-leaves ds j (Fixed t ∷ args) es ts h is =
    let (x, us, first, rest, same) = with-parts (Some t) (elements_by es args) ts is in
    let named : t ≡ x = cc in
    and_assoc (is_leaf_element ds j t) (fixed_leaves ds (suc j) args) (all_from (moved_leaves ds (suc j) args) 0 es)
    ∙ ap (λ b. is_leaf_element ds j t && b) (named-leaves ds (suc j) args es us h.1 rest)
    ∙ ap (λ y. is_leaf_element ds j y && all_from (is_leaf_element ds) (suc j) us) named
    ∙ ap (all_from (is_leaf_element ds) j) same
named-leaves ds j (Moved from to ∷ args) es ts h is =
    let (x, us, first, rest, same) = with-parts (element_by es (Moved from to)) (elements_by es args) ts is in
    let sent : unwrap_or (slice_get to (get_or es from 0)) None ≡ Some x = sym (moved-element es from to h.0) ∙ first in
    ap (λ b. fixed_leaves ds (suc j) args && b) (moved-all ds j from to args es h.0)
    ∙ and-third (fixed_leaves ds (suc j) args) (leaf_sent ds j to (get_or es from 0)) (all_from (moved_leaves ds (suc j) args) 0 es)
    ∙ ap (λ b. leaf_sent ds j to (get_or es from 0) && b) (named-leaves ds (suc j) args es us h.1 rest)
    ∙ ap (λ o. option_map_or (is_leaf_element ds j) o true && all_from (is_leaf_element ds) (suc j) us) sent
    ∙ ap (all_from (is_leaf_element ds) j) same
