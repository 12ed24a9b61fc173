-- One turn more of the loops over lines and their elements.
use Rattle.std.proofs.Common.{◌≡◌, ◌<◌, ◌≤◌, ◌+◌, ◌==◌, ℕ, zero, suc, true, false, List, [], ◌∷◌, ◌++◌, map, length, drop, take, get_or, set, Option, None, inl, inr, ◌⊎◌, refl, sym, ap, ◌∙◌, arith, slice_get, fold}
use Rattle.std.specs.List.{flat_map, range_with_len}
use Rattle.std.proofs.lemmas.Bool.{cases_lt}
use Rattle.std.proofs.lemmas.List.{drop_more, drop_all, append-nil, append_assoc}
use Rattle.std.proofs.lemmas.List.FromFn.{map-range_with_len_more}
use Rattle.std.proofs.lemmas.Option.{slice_get-get_or, slice_get_past}
use Rattle.std.proofs.Math.Seq.{take-suc-set}
use Rattle.dim_core.specs.Outline.{Outline}
use Rattle.view_query.specs.declared.shape.Axis.{Axis}
use Rattle.view_query.specs.Views.{element_in}
use Rattle.view_query.specs.Inside.Lines.{IsElementOf, IsLine}

-- a piece more is written
pub one_piece : {A : Type 0} (out next piece rest whole : List A) → next ≡ out ++ piece → out ++ (piece ++ rest) ≡ whole → next ++ rest ≡ whole
one_piece out next piece rest whole is before = ap (λ l. l ++ rest) is ∙ append_assoc out piece rest ∙ before

-- nothing is left to write
pub no_piece : {A : Type 0} (out rest whole : List A) → rest ≡ [] → out ++ rest ≡ whole → out ≡ whole
no_piece out rest whole none before = sym (append-nil out) ∙ ap (λ l. out ++ l) (sym none) ∙ before

-- one item more is mapped
pub one_mapped : {A B : Type 0} (f : A → B) (front next whole : List B) (xs : List A) (i : ℕ) (x : A) (y : B) → i < length xs → x ≡ get_or xs i x → next ≡ front ++ y ∷ [] → y ≡ f x
    → front ++ map f (drop i xs) ≡ whole → next ++ map f (drop (i + 1) xs) ≡ whole
one_mapped f front next whole xs i x y low is pushed own before =
    one_piece front next (y ∷ []) (map f (drop (i + 1) xs)) whole pushed
    (ap (λ z. front ++ (z ∷ map f (drop (i + 1) xs))) (own ∙ ap f is) ∙ ap (λ l. front ++ map f l) (sym (drop_more xs i x low)) ∙ before)

pub all_mapped : {A B : Type 0} (f : A → B) (front whole : List B) (xs : List A) (i : ℕ) → length xs ≤ i → front ++ map f (drop i xs) ≡ whole → front ≡ whole
all_mapped f front whole xs i past before = no_piece front (map f (drop i xs)) whole (ap (map f) (drop_all i xs past)) before

fold_append : {C A : Type 0} (after : C → A → C) (a : C) (xs ys : List A) → fold after a (xs ++ ys) ≡ fold after (fold after a xs) ys
fold_append after a [] ys = refl
fold_append after a (x ∷ xs) ys = fold_append after (after a x) xs ys

-- one question more
pub one_asked : {C A : Type 0} (after : C → A → C) {B : Type 0} (cells : B → List A) (asked next whole : C) (xs : List B) (i : ℕ) (x : B) → i < length xs → x ≡ get_or xs i x
    → next ≡ fold after asked (cells x) → fold after asked (flat_map cells (drop i xs)) ≡ whole → fold after next (flat_map cells (drop (i + 1) xs)) ≡ whole
one_asked after cells asked next whole xs i x low is own before =
    ap (λ a. fold after a (flat_map cells (drop (i + 1) xs))) own
    ∙ sym (fold_append after asked (cells x) (flat_map cells (drop (i + 1) xs)))
    ∙ ap (λ z. fold after asked (cells z ++ flat_map cells (drop (i + 1) xs))) is
    ∙ ap (λ l. fold after asked (flat_map cells l)) (sym (drop_more xs i x low)) ∙ before

pub one_cell_asked : {C B A : Type 0} (after : C → A → C) (cell : B → A) (asked next whole : C) (xs : List B) (i : ℕ) (x : B) → i < length xs → x ≡ get_or xs i x
    → next ≡ after asked (cell x) → fold after asked (map cell (drop i xs)) ≡ whole → fold after next (map cell (drop (i + 1) xs)) ≡ whole
one_cell_asked after cell asked next whole xs i x low is own before =
    ap (λ a. fold after a (map cell (drop (i + 1) xs))) (own ∙ ap (λ z. after asked (cell z)) is)
    ∙ ap (λ l. fold after asked (map cell l)) (sym (drop_more xs i x low)) ∙ before

-- ---- the element of a line at a place

abbrev pub sought : List Axis → List ℕ → ℕ → ℕ → Option ℕ
sought along line place i = element_in (drop i along) (drop i line) place

pub sought_here : (along : List Axis) (line : List ℕ) (place i : ℕ) (axis : Axis) → i < length along → axis ≡ get_or along i axis → (axis.place == place) ≡ true → slice_get line i ≡ sought along line place i
sought_here along line place i axis low is here =
    by (cases_lt i (length line)) ∙ ap (λ l. element_in l (drop i line) place) (sym (drop_more along i axis low))
  where
    own : (get_or along i axis).place == place ≡ true
    own = ap (λ a. a.place == place) (sym is) ∙ here

    by : (i < length line) ⊎ (length line ≤ i) → slice_get line i ≡ element_in (get_or along i axis ∷ drop (i + 1) along) (drop i line) place
    by (inl more) = slice_get-get_or line i 0 more ∙ sym (rw (drop_more line i 0 more, own) refl)
    by (inr past) = slice_get_past line i past ∙ sym (rw (drop_all i line past) refl)

pub sought_later : (along : List Axis) (line : List ℕ) (place i : ℕ) (axis : Axis) → i < length along → axis ≡ get_or along i axis → (axis.place == place) ≡ false
    → sought along line place i ≡ sought along line place (i + 1)
sought_later along line place i axis low is other =
    ap (λ l. element_in l (drop i line) place) (drop_more along i axis low) ∙ by (cases_lt i (length line))
  where
    own : (get_or along i axis).place == place ≡ false
    own = ap (λ a. a.place == place) (sym is) ∙ other

    none_in : (rest : List Axis) → element_in rest [] place ≡ None
    none_in [] = refl
    none_in (a ∷ rest) = refl

    by : (i < length line) ⊎ (length line ≤ i) → element_in (get_or along i axis ∷ drop (i + 1) along) (drop i line) place ≡ sought along line place (i + 1)
    by (inl more) = rw (drop_more line i 0 more, own) refl
    by (inr past) = rw (drop_all i line past, drop_all (i + 1) line (omega (arith, past))) (sym (none_in (drop (i + 1) along)))

pub sought_none : (along : List Axis) (line : List ℕ) (place i : ℕ) → length along ≤ i → None ≡ sought along line place i
sought_none along line place i past = rw (drop_all i along past) refl

-- ---- elements put at their places

pub put_more : (f : ℕ → ℕ) (at : List ℕ) (i : ℕ) (e : ℕ) → i < length at → e ≡ f i → take i at ≡ map f (range_with_len 0 i) → take (i + 1) (set at i e) ≡ map f (range_with_len 0 (i + 1))
put_more f at i e low is before =
    let next : i + 1 ≡ suc i = omega arith in
    ap (λ n. take n (set at i e)) next ∙ take-suc-set at i e low ∙ ap (λ l. l ++ e ∷ []) before ∙ ap (λ v. map f (range_with_len 0 i) ++ v ∷ []) is
    ∙ sym (map-range_with_len_more f 0 i i (omega arith))

-- ---- a line's element at an index

pub line_at : (dimensions : List Outline) (along : List Axis) (line : List ℕ) (i : ℕ) (a : Axis) (e : ℕ) → IsLine dimensions along line → i < length along
    → (i < length line) × IsElementOf dimensions (get_or along i a) (get_or line i e)
line_at dimensions [] line i a e is low = absurd (omega arith)
line_at dimensions (x ∷ along) [] i a e is low = absurd is
line_at dimensions (x ∷ along) (y ∷ line) zero a e is low = (omega arith, is.0)
line_at dimensions (x ∷ along) (y ∷ line) (suc i) a e is low =
    let later = line_at dimensions along line i a e is.1 (omega arith) in
    (omega (arith, later.0), later.1)
