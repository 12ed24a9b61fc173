-- What a cell that a reference names has on a scale, by what the source's elements add.
use Rattle.std.proofs.Common.{◌≡◌, refl, sym, ap, ◌∙◌, arith, ℕ, zero, suc, ◌+◌, ◌<◌, Bool, true, false, ℤ, pos, ◌+ℤ◌, neg_ℤ, Option, Some, None, List, [], ◌∷◌, length, get_or, ◌==◌, if◌then◌else◌}
use Rattle.std.specs.Prelude.{slice_get, slice_index_or, slice_set, unwrap_or, option_map, option_and_then, set}
use Rattle.std.specs.List.{zip, AllZip}
use Rattle.std.specs.Prelude.{sum_by}
use Rattle.std.proofs.lemmas.Int.{ints}
use Rattle.std.proofs.lemmas.List.Sums.{sum_by-cons}
use Rattle.dim_core.specs.Outline.{Outline, level}
use Rattle.rule_laws.specs.declared.reference.Arg.{Arg}
use Rattle.rule_laws.specs.declared.reference.Arg.TheVariants.{Fixed, Moved}
use Rattle.rule_model.specs.declared.order.Position.{Position}
use Rattle.rule_model.specs.declared.order.Position.TheVariants.{Constant, Ranks}
use Rattle.rule_model.specs.Order.{number_by}
use Rattle.rule_model.specs.Named.{with_element}
use Rattle.rule_model.specs.Targets.{element_by, elements_by}
use Rattle.order_laws.specs.Greatest.{plus, sum_from}
use Rattle.order_laws.specs.Scales.{Scale, position_scale, level_in, rank_at, fixed_sum, moved_sum}
use Rattle.order_laws.proofs.SumFacts.{zero-plus, sum-plus, sum-zero, sum-same, at_dim, sum-dim}

-- what elements add by a scale
abbrev pub added : (ℕ → ℕ → ℕ) → ℕ → List ℕ → ℕ
added worth i [] = 0
added worth i (e ∷ es) = worth i e + added worth (suc i) es

abbrev pub reading : Scale → List ℕ → ℕ
reading s es = s.base + added s.worth 0 es

pub added-sum : (worth : ℕ → ℕ → ℕ) (i : ℕ) (es : List ℕ) → sum_from (λ i e. Some (pos (worth i e))) i es ≡ Some (pos (added worth i es))
added-sum worth i [] = refl
added-sum worth i (e ∷ es) = ap (plus (Some (pos (worth i e)))) (added-sum worth (suc i) es)

pub taken-sum : (worth : ℕ → ℕ → ℕ) (i : ℕ) (es : List ℕ) → sum_from (λ i e. Some (neg_ℤ (pos (worth i e)))) i es ≡ Some (neg_ℤ (pos (added worth i es)))
taken-sum worth i [] = refl
taken-sum worth i (e ∷ es) =
    let same : neg_ℤ (pos (worth i e)) +ℤ neg_ℤ (pos (added worth (suc i) es)) ≡ neg_ℤ (pos (worth i e + added worth (suc i) es)) = omega (arith, ints) in
    ap (plus (Some (neg_ℤ (pos (worth i e))))) (taken-sum worth (suc i) es) ∙ ap Some same

-- each argument that moves follows a dimension that is there
abbrev pub follows : ℕ → Arg → Type 0
follows count (Fixed element) = Rattle.std.specs.Prelude.⊤
follows count (Moved from to) = from < count

abbrev pub AllFollow : ℕ → List Arg → Type 0
AllFollow count [] = Rattle.std.specs.Prelude.⊤
AllFollow count (arg ∷ args) = follows count arg × AllFollow count args

-- what an argument adds by the dimension that it follows
abbrev pub moved_worth : (ℕ → ℕ → ℕ) → ℕ → List (Option ℕ) → ℕ → Option ℤ
moved_worth worth j to element = option_map (λ target. pos (worth j target)) (unwrap_or (slice_get to element) None)

moved-split : (worth : ℕ → ℕ → ℕ) (j from : ℕ) (to : List (Option ℕ)) (args : List Arg) (i e : ℕ)
    → moved_sum worth j (Moved from to ∷ args) i e ≡ plus (at_dim from (moved_worth worth j to) i e) (moved_sum worth (suc j) args i e)
moved-split worth j from to args i e = by (i == from)
  where
    by : (t : Bool) → (if t then plus (moved_worth worth j to e) (moved_sum worth (suc j) args i e) else moved_sum worth (suc j) args i e)
        ≡ plus (if t then moved_worth worth j to e else Some (pos 0)) (moved_sum worth (suc j) args i e)
    by true = refl
    by false = sym (zero-plus (moved_sum worth (suc j) args i e))

element-found : (es : List ℕ) (from : ℕ) → from < length es → slice_get es from ≡ Some (get_or es from 0)
element-found [] from h = absurd (omega arith)
element-found (e ∷ es) zero h = refl
element-found (e ∷ es) (suc from) h = element-found es from (omega arith)

pub moved-element : (es : List ℕ) (from : ℕ) (to : List (Option ℕ)) → from < length es → element_by es (Moved from to) ≡ unwrap_or (slice_get to (get_or es from 0)) None
moved-element es from to h = ap (λ found. option_and_then (λ element. unwrap_or (slice_get to element) None) found) (element-found es from h)

with-more : (worth : ℕ → ℕ → ℕ) (j fixed : ℕ) (first : Option ℕ) (rest : Option (List ℕ)) (sum : Option ℤ)
    → plus (Some (pos fixed)) sum ≡ option_map (λ ts. pos (added worth (suc j) ts)) rest
    → plus (Some (pos fixed)) (plus (option_map (λ t. pos (worth j t)) first) sum) ≡ option_map (λ ts. pos (added worth j ts)) (with_element first rest)
with-more worth j fixed None rest sum h = refl
with-more worth j fixed (Some t) None None h = refl
with-more worth j fixed (Some t) None (Some s) h = absurd (cc)
with-more worth j fixed (Some t) (Some ts) None h = absurd (cc)
with-more worth j fixed (Some t) (Some ts) (Some s) h =
    let same : pos fixed +ℤ s ≡ pos (added worth (suc j) ts) = cc in
    let all : pos fixed +ℤ (pos (worth j t) +ℤ s) ≡ pos (worth j t + added worth (suc j) ts) = omega (arith, ints, same) in
    ap Some all

fixed-more : (worth : ℕ → ℕ → ℕ) (j fixed t : ℕ) (rest : Option (List ℕ)) (sum : Option ℤ)
    → plus (Some (pos fixed)) sum ≡ option_map (λ ts. pos (added worth (suc j) ts)) rest
    → plus (Some (pos (worth j t + fixed))) sum ≡ option_map (λ ts. pos (added worth j ts)) (with_element (Some t) rest)
fixed-more worth j fixed t None None h = refl
fixed-more worth j fixed t None (Some s) h = absurd (cc)
fixed-more worth j fixed t (Some ts) None h = absurd (cc)
fixed-more worth j fixed t (Some ts) (Some s) h =
    let same : pos fixed +ℤ s ≡ pos (added worth (suc j) ts) = cc in
    let all : pos (worth j t + fixed) +ℤ s ≡ pos (worth j t + added worth (suc j) ts) = omega (arith, ints, same) in
    ap Some all

-- what the named elements add is what fixed arguments add and, dimension by dimension, what the source's elements add
pub named-sum : (worth : ℕ → ℕ → ℕ) (j : ℕ) (args : List Arg) (es : List ℕ) → AllFollow (length es) args
    → plus (Some (pos (fixed_sum worth j args))) (sum_from (moved_sum worth j args) 0 es) ≡ option_map (λ ts. pos (added worth j ts)) (elements_by es args)
named-sum worth j [] es h = ap (plus (Some (pos 0))) (sum-zero 0 es)
named-sum worth j (Fixed t ∷ args) es h = fixed-more worth j (fixed_sum worth (suc j) args) t (elements_by es args) (sum_from (moved_sum worth (suc j) args) 0 es) (named-sum worth (suc j) args es h.1)
named-sum worth j (Moved from to ∷ args) es h =
    let split = sum-same (moved_sum worth j (Moved from to ∷ args)) (λ i e. plus (at_dim from (moved_worth worth j to) i e) (moved_sum worth (suc j) args i e)) (moved-split worth j from to args) 0 es in
    let parted = sum-plus (at_dim from (moved_worth worth j to)) (moved_sum worth (suc j) args) 0 es in
    let here : sum_from (at_dim from (moved_worth worth j to)) 0 es ≡ moved_worth worth j to (get_or es from 0) = sum-dim from (moved_worth worth j to) 0 from es (omega arith) h.0 in
    let named : moved_worth worth j to (get_or es from 0) ≡ option_map (λ t. pos (worth j t)) (element_by es (Moved from to)) = ap (option_map (λ t. pos (worth j t))) (sym (moved-element es from to h.0)) in
    let fixed = fixed_sum worth (suc j) args in
    ap (plus (Some (pos fixed))) (split ∙ parted ∙ ap (λ a. plus a (sum_from (moved_sum worth (suc j) args) 0 es)) (here ∙ named))
    ∙ with-more worth j fixed (element_by es (Moved from to)) (elements_by es args) (sum_from (moved_sum worth (suc j) args) 0 es) (named-sum worth (suc j) args es h.1)

-- a number at a position, and a level, are what the scale reads
pub position-reading : (p : Position) (es : List ℕ) → ((dim : ℕ) (ranks : List ℕ) → p ≡ Ranks dim ranks → dim < length es) → number_by p es ≡ reading (position_scale p) es
position-reading (Constant k) es h = by 0 es
  where
    nothing : (i : ℕ) (es : List ℕ) → added (λ i e. 0) i es ≡ 0
    nothing i [] = refl
    nothing i (e ∷ es) = omega (arith, nothing (suc i) es)

    by : (i : ℕ) (es : List ℕ) → k ≡ k + added (λ i e. 0) i es
    by i es = omega (arith, nothing i es)
position-reading (Ranks dim ranks) es h =
    let here = sum-dim dim (λ e. Some (pos (slice_index_or ranks e 0))) 0 dim es (omega arith) (h dim ranks refl) in
    let same = sum-same (λ i e. Some (pos (rank_at ranks dim i e))) (at_dim dim (λ e. Some (pos (slice_index_or ranks e 0)))) pointwise 0 es in
    pos-same (slice_index_or ranks (slice_index_or es dim 0) 0) (added (rank_at ranks dim) 0 es) (sym here ∙ sym same ∙ added-sum (rank_at ranks dim) 0 es)
  where
    pos-same : (a b : ℕ) → Some (pos a) ≡ Some (pos b) → a ≡ 0 + b
    pos-same a b e = let same : a ≡ b = cc in omega (arith, same)

    pointwise : (i e : ℕ) → Some (pos (rank_at ranks dim i e)) ≡ at_dim dim (λ e. Some (pos (slice_index_or ranks e 0))) i e
    pointwise i e = by (i == dim)
      where
        by : (t : Bool) → Some (pos (if t then slice_index_or ranks e 0 else 0)) ≡ (if t then Some (pos (slice_index_or ranks e 0)) else Some (pos 0))
        by true = refl
        by false = refl

pub added-shift : (worth : ℕ → ℕ → ℕ) (i : ℕ) (es : List ℕ) → added worth (suc i) es ≡ added (λ i e. worth (suc i) e) i es
added-shift worth i [] = refl
added-shift worth i (e ∷ es) = ap (λ n. worth (suc i) e + n) (added-shift worth (suc i) es)

pub levels-reading : (dims : List Outline) (es : List ℕ) → length es ≡ length dims → sum_by (λ p. level p.0 p.1) (zip dims es) ≡ added (level_in dims) 0 es
levels-reading [] [] h = refl
levels-reading [] (e ∷ es) h = absurd (omega arith)
levels-reading (d ∷ dims) [] h = absurd (omega arith)
levels-reading (d ∷ dims) (e ∷ es) h =
    let rest = levels-reading dims es (omega arith) in
    let later = added-shift (level_in (d ∷ dims)) 0 es in
    sum_by-cons (λ (p : Outline × ℕ). level p.0 p.1) (d, e) (zip dims es) ∙ ap (λ n. level d e + n) (rest ∙ sym later)
