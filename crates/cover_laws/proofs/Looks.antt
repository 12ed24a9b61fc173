-- What arguments name from a cell of an area, and the narrow elements.
use Rattle.std.proofs.Common.{◌≡◌, refl, sym, ap, ◌∙◌, arith, subst, ℕ, zero, suc, ◌+◌, ◌<◌, Bool, true, false, not, ◌||◌, Option, Some, None, List, [], ◌∷◌, ◌==◌}
use Rattle.std.specs.Prelude.{slice_get, slice_index_or}
use Rattle.std.specs.Option.{option_map_or}
use Rattle.std.proofs.lemmas.Bool.{and_parts, and_from, eq-eqb}
use Rattle.std.proofs.lemmas.Bool.Decides.{Decides-eqb, Decides-below_and, Decides-below_or}
use Rattle.cube_space.specs.Layout.{sizes}
use Rattle.rule_laws.specs.declared.reference.Arg.{Arg}
use Rattle.rule_laws.specs.declared.reference.Arg.TheVariants.{Fixed, Moved}
use Rattle.rule_model.specs.Conditions.{IsArea}
use Rattle.order_laws.specs.Scales.{set_element}
use Rattle.order_laws.proofs.SetFacts.{place-of, place-in, set-at}
use Rattle.order_laws.proofs.CellFacts.{is_in_area}
use Rattle.cover_laws.specs.Looking.{Look, each_below, some_below, sent, each_in, some_in, names_one, name_each, is_narrow, each_narrow, fixed_count, each_named, all_named}

pub not-or : (t u : Bool) → not t || u ≡ true → t ≡ true → u ≡ true
not-or true u h e = h
not-or false u h e = absurd (cc)

pub or-not : (t u : Bool) → (t ≡ true → u ≡ true) → not t || u ≡ true
or-not true u h = h refl
or-not false u h = refl

-- ---- numbers below

pub each-elim : (test : ℕ → Bool) (n : ℕ) → each_below test n ≡ true → (k : ℕ) → k < n → test k ≡ true
each-elim test n h k low = (Decides-below_and test (λ k. test k ≡ true) (each_below test) (λ k. (λ e. e, λ e. e)) refl (λ n. refl) n).0 h k low

pub each-intro : (test : ℕ → Bool) (n : ℕ) → ((k : ℕ) → k < n → test k ≡ true) → each_below test n ≡ true
each-intro test n h = (Decides-below_and test (λ k. test k ≡ true) (each_below test) (λ k. (λ e. e, λ e. e)) refl (λ n. refl) n).1 h

pub some-elim : (test : ℕ → Bool) (n : ℕ) → some_below test n ≡ true → (k : ℕ) × (k < n) × (test k ≡ true)
some-elim test n h = (Decides-below_or test (λ k. test k ≡ true) (some_below test) (λ k. (λ e. e, λ e. e)) refl (λ n. refl) n).0 h

pub some-intro : (test : ℕ → Bool) (n k : ℕ) → k < n → test k ≡ true → some_below test n ≡ true
some-intro test n k low h = (Decides-below_or test (λ k. test k ≡ true) (some_below test) (λ k. (λ e. e, λ e. e)) refl (λ n. refl) n).1 (k, low, h)

-- ---- arguments

-- each argument that follows a dimension names an element that counts
abbrev NamesFrom : (ℕ → ℕ → Bool) → ℕ → List Arg → ℕ → ℕ → Type 0
NamesFrom counts base args i e =
    (j from : ℕ) (to : List (Option ℕ)) → slice_get args j ≡ Some (Moved from to) → from ≡ i → (t : ℕ) × (sent to e ≡ Some t) × (counts (base + j) t ≡ true)

pub counted : (counts : ℕ → Bool) (o : Option ℕ) → option_map_or counts o false ≡ true → (t : ℕ) × (o ≡ Some t) × (counts t ≡ true)
counted counts None h = absurd (cc)
counted counts (Some t) h = (t, refl, h)

pub counted-from : (counts : ℕ → Bool) (o : Option ℕ) (t : ℕ) → o ≡ Some t → counts t ≡ true → option_map_or counts o false ≡ true
counted-from counts o t e h = ap (λ o. option_map_or counts o false) e ∙ h

pub shift : (base j : ℕ) → (suc base + j) ≡ (base + suc j)
shift base j = omega arith

name_from-elim : (counts : ℕ → ℕ → Bool) (base : ℕ) (args : List Arg) (i e : ℕ) → name_each counts base args i e ≡ true → NamesFrom counts base args i e
name_from-elim counts base [] i e h j from to is same = absurd (cc)
name_from-elim counts base (arg ∷ args) i e h zero from to is same =
    let here : names_one (counts base) (Moved from to) i e ≡ true = (let own : arg ≡ Moved from to = cc in subst (λ a. names_one (counts base) a i e ≡ true) own (and_parts _ _ h).0) in
    let (t, sends, count) = counted (counts base) (sent to e) (not-or (i == from) _ here (eq-eqb i from (sym same))) in
    (t, sends, subst (λ n. counts n t ≡ true) (let same : base ≡ base + 0 = omega arith in same) count)
name_from-elim counts base (arg ∷ args) i e h (suc j) from to is same =
    let (t, sends, count) = name_from-elim counts (suc base) args i e (and_parts _ _ h).1 j from to is same in
    (t, sends, subst (λ n. counts n t ≡ true) (shift base j) count)

name_from-intro : (counts : ℕ → ℕ → Bool) (base : ℕ) (args : List Arg) (i e : ℕ) → NamesFrom counts base args i e → name_each counts base args i e ≡ true
name_from-intro counts base [] i e h = refl
name_from-intro counts base (arg ∷ args) i e h = and_from _ _ (here arg refl) (name_from-intro counts (suc base) args i e rest)
  where
    here : (a : Arg) → arg ≡ a → names_one (counts base) a i e ≡ true
    here (Fixed t) is = refl
    here (Moved from to) is = or-not (i == from) _ (λ same. let (t, sends, count) = h 0 from to (ap Some is) (sym ((Decides-eqb i from).0 same)) in
        counted-from (counts base) (sent to e) t sends (subst (λ n. counts n t ≡ true) (let own : base + 0 ≡ base = omega arith in own) count))

    rest : NamesFrom counts (suc base) args i e
    rest j from to is same = let (t, sends, count) = h (suc j) from to is same in (t, sends, subst (λ n. counts n t ≡ true) (sym (shift base j)) count)

fixed_from-elim : (counts : ℕ → ℕ → Bool) (base : ℕ) (args : List Arg) → fixed_count counts base args ≡ true → (j t : ℕ) → slice_get args j ≡ Some (Fixed t) → counts (base + j) t ≡ true
fixed_from-elim counts base [] h j t is = absurd (cc)
fixed_from-elim counts base (Fixed u ∷ args) h zero t is =
    let same : u ≡ t = cc in subst (λ n. counts n t ≡ true) (let own : base ≡ base + 0 = omega arith in own) (subst (λ x. counts base x ≡ true) same (and_parts _ _ h).0)
fixed_from-elim counts base (Moved from to ∷ args) h zero t is = absurd (cc)
fixed_from-elim counts base (Fixed u ∷ args) h (suc j) t is = subst (λ n. counts n t ≡ true) (shift base j) (fixed_from-elim counts (suc base) args (and_parts _ _ h).1 j t is)
fixed_from-elim counts base (Moved from to ∷ args) h (suc j) t is = subst (λ n. counts n t ≡ true) (shift base j) (fixed_from-elim counts (suc base) args h j t is)

fixed_from-intro : (counts : ℕ → ℕ → Bool) (base : ℕ) (args : List Arg) → ((j t : ℕ) → slice_get args j ≡ Some (Fixed t) → counts (base + j) t ≡ true) → fixed_count counts base args ≡ true
fixed_from-intro counts base [] h = refl
fixed_from-intro counts base (Fixed u ∷ args) h = and_from _ _ (subst (λ n. counts n u ≡ true) (let own : base + 0 ≡ base = omega arith in own) (h 0 u refl)) (fixed_from-intro counts (suc base) args (λ j t is. subst (λ n. counts n t ≡ true) (sym (shift base j)) (h (suc j) t is)))
fixed_from-intro counts base (Moved from to ∷ args) h = fixed_from-intro counts (suc base) args (λ j t is. subst (λ n. counts n t ≡ true) (sym (shift base j)) (h (suc j) t is))

all_named_from-elim : (look : Look) (test : ℕ → ℕ → Bool) (base : ℕ) (args : List Arg) → all_named look test base args ≡ true → (j : ℕ) (arg : Arg) → slice_get args j ≡ Some arg → each_named look (test (base + j)) arg ≡ true
all_named_from-elim look test base [] h j arg is = absurd (cc)
all_named_from-elim look test base (a ∷ args) h zero arg is =
    let same : a ≡ arg = cc in subst (λ n. each_named look (test n) arg ≡ true) (let own : base ≡ base + 0 = omega arith in own) (subst (λ a. each_named look (test base) a ≡ true) same (and_parts _ _ h).0)
all_named_from-elim look test base (a ∷ args) h (suc j) arg is = subst (λ n. each_named look (test n) arg ≡ true) (shift base j) (all_named_from-elim look test (suc base) args (and_parts _ _ h).1 j arg is)

all_named_from-intro : (look : Look) (test : ℕ → ℕ → Bool) (base : ℕ) (args : List Arg) → ((j : ℕ) (arg : Arg) → slice_get args j ≡ Some arg → each_named look (test (base + j)) arg ≡ true) → all_named look test base args ≡ true
all_named_from-intro look test base [] h = refl
all_named_from-intro look test base (a ∷ args) h =
    and_from _ _ (subst (λ n. each_named look (test n) a ≡ true) (let own : base + 0 ≡ base = omega arith in own) (h 0 a refl))
    (all_named_from-intro look test (suc base) args (λ j arg is. subst (λ n. each_named look (test n) arg ≡ true) (sym (shift base j)) (h (suc j) arg is)))

-- ---- all arguments, from the first

zero-first : (j : ℕ) → 0 + j ≡ j
zero-first j = omega arith

-- each argument that follows a dimension names an element that counts
abbrev pub NamesCounted : (ℕ → ℕ → Bool) → List Arg → ℕ → ℕ → Type 0
NamesCounted counts args i e =
    (j from : ℕ) (to : List (Option ℕ)) → slice_get args j ≡ Some (Moved from to) → from ≡ i → (t : ℕ) × (sent to e ≡ Some t) × (counts j t ≡ true)

pub name_each-elim : (counts : ℕ → ℕ → Bool) (args : List Arg) (i e : ℕ) → name_each counts 0 args i e ≡ true → NamesCounted counts args i e
name_each-elim counts args i e h j from to is same =
    let (t, sends, count) = name_from-elim counts 0 args i e h j from to is same in (t, sends, subst (λ n. counts n t ≡ true) (zero-first j) count)

pub name_each-intro : (counts : ℕ → ℕ → Bool) (args : List Arg) (i e : ℕ) → NamesCounted counts args i e → name_each counts 0 args i e ≡ true
name_each-intro counts args i e h = name_from-intro counts 0 args i e (λ j from to is same.
    let (t, sends, count) = h j from to is same in (t, sends, subst (λ n. counts n t ≡ true) (sym (zero-first j)) count))

pub fixed-elim : (counts : ℕ → ℕ → Bool) (args : List Arg) → fixed_count counts 0 args ≡ true → (j t : ℕ) → slice_get args j ≡ Some (Fixed t) → counts j t ≡ true
fixed-elim counts args h j t is = subst (λ n. counts n t ≡ true) (zero-first j) (fixed_from-elim counts 0 args h j t is)

pub fixed-intro : (counts : ℕ → ℕ → Bool) (args : List Arg) → ((j t : ℕ) → slice_get args j ≡ Some (Fixed t) → counts j t ≡ true) → fixed_count counts 0 args ≡ true
fixed-intro counts args h = fixed_from-intro counts 0 args (λ j t is. subst (λ n. counts n t ≡ true) (sym (zero-first j)) (h j t is))

pub all_named-elim : (look : Look) (test : ℕ → ℕ → Bool) (args : List Arg) → all_named look test 0 args ≡ true → (j : ℕ) (arg : Arg) → slice_get args j ≡ Some arg → each_named look (test j) arg ≡ true
all_named-elim look test args h j arg is = subst (λ n. each_named look (test n) arg ≡ true) (zero-first j) (all_named_from-elim look test 0 args h j arg is)

pub all_named-intro : (look : Look) (test : ℕ → ℕ → Bool) (args : List Arg) → ((j : ℕ) (arg : Arg) → slice_get args j ≡ Some arg → each_named look (test j) arg ≡ true) → all_named look test 0 args ≡ true
all_named-intro look test args h = all_named_from-intro look test 0 args (λ j arg is. subst (λ n. each_named look (test n) arg ≡ true) (sym (zero-first j)) (h j arg is))

-- ---- the elements of an area

module _ (look : Look) (is_area : IsArea look.space look.cube look.area) where
  -- an element that the area has in a dimension
  abbrev pub IsIn : ℕ → ℕ → Type 0
  IsIn i e = is_in_area look.space look.cube look.area i e ≡ true

  pub each_in-elim : (i : ℕ) (test : ℕ → Bool) → each_in look i test ≡ true → (e : ℕ) → IsIn i e → test e ≡ true
  each_in-elim i test h e is =
      let place = place-of (slice_index_or (sizes look.space look.cube) i 0) (slice_index_or look.area.sets i None) e is in
      subst (λ x. test x ≡ true) place.2 (each-elim _ _ h place.0 place.1)

  pub each_in-intro : (i : ℕ) (test : ℕ → Bool) → ((e : ℕ) → IsIn i e → test e ≡ true) → each_in look i test ≡ true
  each_in-intro i test h = each-intro _ _ (λ k low. h _ (place-in (slice_index_or (sizes look.space look.cube) i 0) (slice_index_or look.area.sets i None) k (set-at (sizes look.space look.cube) look.area.sets i is_area) low))

  pub some_in-elim : (i : ℕ) (test : ℕ → Bool) → some_in look i test ≡ true → (e : ℕ) × IsIn i e × (test e ≡ true)
  some_in-elim i test h =
      let found = some-elim _ _ h in
      (set_element (slice_index_or look.area.sets i None) found.0, place-in (slice_index_or (sizes look.space look.cube) i 0) (slice_index_or look.area.sets i None) found.0 (set-at (sizes look.space look.cube) look.area.sets i is_area) found.1, found.2)

  pub some_in-intro : (i : ℕ) (test : ℕ → Bool) (e : ℕ) → IsIn i e → test e ≡ true → some_in look i test ≡ true
  some_in-intro i test e is h =
      let place = place-of (slice_index_or (sizes look.space look.cube) i 0) (slice_index_or look.area.sets i None) e is in
      some-intro _ _ place.0 place.1 (subst (λ x. test x ≡ true) (sym place.2) h)

  -- a narrow element of the area
  pub record IsNarrow (i e : ℕ) : Type 0 where
    pub inside : IsIn i e
    pub narrow : is_narrow look i e ≡ true

  pub each_narrow-elim : (i : ℕ) (test : ℕ → Bool) → each_narrow look i test ≡ true → (e : ℕ) → IsNarrow i e → test e ≡ true
  each_narrow-elim i test h e is = not-or (is_narrow look i e) (test e) (each_in-elim i (λ x. not (is_narrow look i x) || test x) h e is.inside) is.narrow

  pub each_narrow-intro : (i : ℕ) (test : ℕ → Bool) → ((e : ℕ) → IsNarrow i e → test e ≡ true) → each_narrow look i test ≡ true
  each_narrow-intro i test h = each_in-intro i (λ x. not (is_narrow look i x) || test x) (λ e is. or-not (is_narrow look i e) (test e) (λ n. h e (record { inside = is; narrow = n })))
