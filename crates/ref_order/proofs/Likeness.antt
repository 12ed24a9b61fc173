-- References that name the same from the elements of a dimension, and what is remembered of them.
use Rattle.std.proofs.Common.{◌≡◌, refl, sym, ap, ◌∙◌, arith, subst, ℕ, zero, suc, ◌+◌, ◌<◌, ◌≤◌, ◌⊎◌, inl, inr, Bool, true, false, Option, Some, None, ℤ, pos, List, [], ◌∷◌, ◌++◌, length, map, drop, All}
use Rattle.std.proofs.lemmas.List.Elements.{All-push}
use Rattle.std.specs.Prelude.{slice_get, slice_index_or, ◌==◌, ◌&&◌, if◌then◌else◌, option_map, unwrap_or, neg_ℤ}
use Rattle.std.specs.Option.{option_map_or}
use Rattle.dim_core.specs.Outline.{Outline}
use Rattle.cube_space.specs.Layout.{Layout, axes, sizes}
use Rattle.rule_laws.specs.declared.reference.Arg.{Arg}
use Rattle.rule_laws.specs.declared.reference.Arg.TheVariants.{Fixed, Moved}
use Rattle.rule_laws.specs.declared.reference.Reference.{Reference}
use Rattle.rule_laws.specs.Meaning.{Named}
use Rattle.rule_model.specs.declared.area.Area.{Area}
use Rattle.rule_model.specs.BoundModel.{BoundModel}
use Rattle.rule_model.specs.Conditions.{IsReference}
use Rattle.order_laws.specs.Greatest.{plus, only}
use Rattle.order_laws.specs.Scales.{scale_of, moved_sum, set_count, set_element, is_leaf_element}
use Rattle.order_laws.specs.Earlier.{Kinds, is_same, moved_leaves, number_by_kinds, greatest_of_kinds}
use Rattle.ref_order.specs.declared.question.Question.{Question}
use Rattle.ref_order.specs.declared.question.Answer.{Answer}
use Rattle.ref_order.specs.declared.kinds.ByKinds.{ByKinds}
use Rattle.ref_order.specs.Kinds.{AreByKinds}
use Rattle.ref_order.specs.Reads.{precedent_of}
use Rattle.ref_order.specs.Known.{followed_by, kinds_asked, answer_of}
use Rattle.ref_order.proofs.Args.{args-long}
use Rattle.ref_order.proofs.Scaled.{greatest-alike}
use Rattle.ref_order.proofs.KindFacts.{kinds-same}

-- ---- arguments

-- two references to one cube have as many arguments
pub as-long : (space : Layout) (cube : ℕ) (one other : Reference) → IsReference space cube one → IsReference space cube other → one.cube ≡ other.cube → length one.args ≡ length other.args
as-long space cube one other is it same = args-long space cube one is ∙ ap (λ k. length (axes space k)) same ∙ sym (args-long space cube other it)

module _ (dim : ℕ) where
  abbrev follow : List Arg → List (Option (List (Option ℕ)))
  follow args = map (followed_by dim) args

  pub alike-end : (xs ys : List Arg) (k : ℕ) → length xs ≤ k → length ys ≤ k → follow (drop k xs) ≡ follow (drop k ys)
  alike-end xs ys k long wide = ap follow (past xs k long ∙ sym (past ys k wide))
    where
      past : (zs : List Arg) (k : ℕ) → length zs ≤ k → drop k zs ≡ []
      past [] zero h = refl
      past [] (suc k) h = refl
      past (z ∷ zs) zero h = absurd (omega arith)
      past (z ∷ zs) (suc k) h = past zs k (omega arith)

  more : (xs ys : List Arg) (k : ℕ) (x y : Arg) → k < length xs → k < length ys → followed_by dim (slice_index_or xs k x) ≡ followed_by dim (slice_index_or ys k y) → follow (drop (suc k) xs) ≡ follow (drop (suc k) ys)
      → follow (drop k xs) ≡ follow (drop k ys)
  more [] ys k x y low less here rest = absurd (omega arith)
  more (a ∷ xs) [] k x y low less here rest = absurd (omega arith)
  more (a ∷ xs) (b ∷ ys) zero x y low less here rest = ap (λ (f : Option (List (Option ℕ))). f ∷ follow xs) here ∙ ap (λ (fs : List (Option (List (Option ℕ)))). followed_by dim b ∷ fs) rest
  more (a ∷ xs) (b ∷ ys) (suc k) x y low less here rest = more xs ys k x y (omega arith) (omega arith) here rest

  pub alike-more : (xs ys own its : List Arg) (k : ℕ) (x y : Arg) → own ≡ xs → its ≡ ys → k < length xs → k < length ys → x ≡ slice_index_or own k x → y ≡ slice_index_or its k y → followed_by dim x ≡ followed_by dim y
      → follow (drop (k + 1) xs) ≡ follow (drop (k + 1) ys) → follow (drop k xs) ≡ follow (drop k ys)
  alike-more xs ys own its k x y same alike low less at here is rest =
      let next : k + 1 ≡ suc k = omega arith in
      more xs ys k x y low less
      (ap (followed_by dim) (ap (λ zs. slice_index_or zs k x) (sym same) ∙ sym at) ∙ is ∙ sym (ap (followed_by dim) (ap (λ zs. slice_index_or zs k y) (sym alike) ∙ sym here)))
      (subst (λ n. follow (drop n xs) ≡ follow (drop n ys)) next rest)

  -- ---- what follows is all that counts

  abbrev step : (ℕ → ℕ → ℕ) → ℕ → ℕ → Option (List (Option ℕ)) → Option ℤ → Option ℤ
  step worth j e None rest = rest
  step worth j e (Some to) rest = plus (option_map (λ target. pos (worth j target)) (unwrap_or (slice_get to e) None)) rest

  stepped : (worth : ℕ → ℕ → ℕ) (j e : ℕ) (arg : Arg) (args : List Arg) → moved_sum worth j (arg ∷ args) dim e ≡ step worth j e (followed_by dim arg) (moved_sum worth (suc j) args dim e)
  stepped worth j e (Fixed fixed) args = refl
  stepped worth j e (Moved from to) args = by (dim == from)
    where
      by : (b : Bool) → (if b then plus (option_map (λ target. pos (worth j target)) (unwrap_or (slice_get to e) None)) (moved_sum worth (suc j) args dim e) else moved_sum worth (suc j) args dim e)
          ≡ step worth j e (if b then Some to else None) (moved_sum worth (suc j) args dim e)
      by true = refl
      by false = refl

  sum-alike : (worth : ℕ → ℕ → ℕ) (j e : ℕ) (xs ys : List Arg) → follow xs ≡ follow ys → moved_sum worth j xs dim e ≡ moved_sum worth j ys dim e
  sum-alike worth j e [] [] h = refl
  sum-alike worth j e [] (y ∷ ys) h = absurd (cc)
  sum-alike worth j e (x ∷ xs) [] h = absurd (cc)
  sum-alike worth j e (x ∷ xs) (y ∷ ys) h =
      let here : followed_by dim x ≡ followed_by dim y = cc in
      let rest : follow xs ≡ follow ys = cc in
      stepped worth j e x xs ∙ ap (λ f. step worth j e f (moved_sum worth (suc j) xs dim e)) here
      ∙ ap (step worth j e (followed_by dim y)) (sum-alike worth (suc j) e xs ys rest) ∙ sym (stepped worth j e y ys)

  abbrev leaf_step : List Outline → ℕ → ℕ → Option (List (Option ℕ)) → Bool → Bool
  leaf_step dimensions j e None rest = rest
  leaf_step dimensions j e (Some to) rest = option_map_or (is_leaf_element dimensions j) (unwrap_or (slice_get to e) None) true && rest

  leaf-stepped : (dimensions : List Outline) (j e : ℕ) (arg : Arg) (args : List Arg) → moved_leaves dimensions j (arg ∷ args) dim e ≡ leaf_step dimensions j e (followed_by dim arg) (moved_leaves dimensions (suc j) args dim e)
  leaf-stepped dimensions j e (Fixed fixed) args = refl
  leaf-stepped dimensions j e (Moved from to) args = by (dim == from)
    where
      by : (b : Bool) → (if b then option_map_or (is_leaf_element dimensions j) (unwrap_or (slice_get to e) None) true && moved_leaves dimensions (suc j) args dim e else moved_leaves dimensions (suc j) args dim e)
          ≡ leaf_step dimensions j e (if b then Some to else None) (moved_leaves dimensions (suc j) args dim e)
      by true = refl
      by false = refl

  leaves-alike : (dimensions : List Outline) (j e : ℕ) (xs ys : List Arg) → follow xs ≡ follow ys → moved_leaves dimensions j xs dim e ≡ moved_leaves dimensions j ys dim e
  leaves-alike dimensions j e [] [] h = refl
  leaves-alike dimensions j e [] (y ∷ ys) h = absurd (cc)
  leaves-alike dimensions j e (x ∷ xs) [] h = absurd (cc)
  leaves-alike dimensions j e (x ∷ xs) (y ∷ ys) h =
      let here : followed_by dim x ≡ followed_by dim y = cc in
      let rest : follow xs ≡ follow ys = cc in
      leaf-stepped dimensions j e x xs ∙ ap (λ f. leaf_step dimensions j e f (moved_leaves dimensions (suc j) xs dim e)) here
      ∙ ap (leaf_step dimensions j e (followed_by dim y)) (leaves-alike dimensions (suc j) e xs ys rest) ∙ sym (leaf-stepped dimensions j e y ys)

  pub numbers-alike : (model : BoundModel) (cube : ℕ) (kinds : Kinds) (place e : ℕ) (leaf : Bool) (one other : Reference) → one.cube ≡ other.cube → follow one.args ≡ follow other.args
      → number_by_kinds model cube kinds place (Named one) dim e leaf ≡ number_by_kinds model cube kinds place (Named other) dim e leaf
  numbers-alike model cube kinds place e leaf one other same alike =
      let number = λ (leaves : Bool) (sum : Option ℤ). only (is_same leaf leaves) (plus sum (Some (neg_ℤ (pos ((scale_of model cube kinds.own place).worth dim e))))) in
      let leaves = leaves-alike (axes model.space one.cube) 0 e one.args other.args alike ∙ ap (λ k. moved_leaves (axes model.space k) 0 other.args dim e) same in
      let sum = sum-alike (scale_of model one.cube kinds.its place).worth 0 e one.args other.args alike ∙ ap (λ k. moved_sum (scale_of model k kinds.its place).worth 0 other.args dim e) same in
      ap (λ b. number b (moved_sum (scale_of model one.cube kinds.its place).worth 0 one.args dim e)) leaves ∙ ap (number (moved_leaves (axes model.space other.cube) 0 other.args dim e)) sum

answers-alike : (model : BoundModel) (cube : ℕ) (area : Area) (here : Kinds) (one other : Question) → one.place ≡ other.place → one.dim ≡ other.dim → one.own ≡ other.own → one.its ≡ other.its
    → ((kinds : Kinds) (place e : ℕ) (leaf : Bool) → number_by_kinds model cube kinds place (precedent_of one.read) one.dim e leaf ≡ number_by_kinds model cube kinds place (precedent_of other.read) one.dim e leaf)
    → answer_of model cube area one here ≡ answer_of model cube area other here
answers-alike model cube area here one other place dim own its same =
    let set : Option (List ℕ) = slice_index_or area.sets one.dim None in
    let size = slice_index_or (sizes model.space cube) one.dim 0 in
    let test = λ (k : ℕ). is_same here.own (is_leaf_element (axes model.space cube) one.dim (set_element set k)) in
    let answer = λ (kinds : Kinds) (place i : ℕ). greatest_of_kinds model cube area kinds place (precedent_of other.read) i here in
    greatest-alike (λ k. only (test k) (number_by_kinds model cube (kinds_asked one) one.place (precedent_of one.read) one.dim (set_element set k) here.its))
    (λ k. only (test k) (number_by_kinds model cube (kinds_asked one) one.place (precedent_of other.read) one.dim (set_element set k) here.its)) (set_count size set)
    (λ k. ap (only (test k)) (same (kinds_asked one) one.place (set_element set k) here.its))
    ∙ ap (λ o. answer (record { own = o; its = one.its }) one.place one.dim) own ∙ ap (λ t. answer (record { own = other.own; its = t }) one.place one.dim) its
    ∙ ap (λ p. answer (kinds_asked other) p one.dim) place ∙ ap (answer (kinds_asked other) other.place) dim

pub asked_alike : (model : BoundModel) (cube : ℕ) (area : Area) (numbers : ByKinds) (one other : Question) → one.place ≡ other.place → one.dim ≡ other.dim → one.own ≡ other.own → one.its ≡ other.its
    → ((kinds : Kinds) (place e : ℕ) (leaf : Bool) → number_by_kinds model cube kinds place (precedent_of one.read) one.dim e leaf ≡ number_by_kinds model cube kinds place (precedent_of other.read) one.dim e leaf)
    → AreByKinds numbers (answer_of model cube area one) → AreByKinds numbers (answer_of model cube area other)
asked_alike model cube area numbers one other place dim own its same are =
    kinds-same numbers (answer_of model cube area one) (answer_of model cube area other) are (λ here. answers-alike model cube area here one other place dim own its same)

-- one answer more is remembered, or none
pub more-kept : (P : Answer → Type 0) (old new : List Answer) (one : Answer) → (new ≡ old) ⊎ (new ≡ old ++ one ∷ []) → All P old → P one → All P new
more-kept P old new one grown all here = elim grown [
  | inl same ↦ subst (All P) (sym same) all
  | inr more ↦ subst (All P) (sym more) (All-push P old one all here)
]
