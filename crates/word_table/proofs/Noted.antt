-- The table of places, before and after one more word.
use Rattle.std.proofs.Common.{◌≡◌, ℕ, List, [], ◌∷◌, ◌++◌, length, Vec, Bool, true, false, cond, Option, Some, None, position, is_some, refl, ap, sym, ◌∙◌}
use Rattle.std.specs.BTreeMap.{BTreeMap, get_by, UpdatesBy}
use Rattle.std.specs.Cmp.Lexicographic.{slice_cmp}
use Rattle.std.specs.Ordering.{nat_cmp, is_eq}
use Rattle.std.specs.Str.{bytes_eq}
use Rattle.std.specs.declared.alloc.Global.{Global}
use Rattle.std.specs.Map.{KeepsOthers}
use Rattle.std.proofs.lemmas.Cmp.{eq_by_cmp_equiv, nat_list_cmp_total, nat_list_eq_equiv}
use Rattle.std.proofs.lemmas.Map.Text.{is_eq-slice_cmp}
use Rattle.std.proofs.lemmas.Slice.Eq.{bytes_eq-Decides}
use Rattle.word_table.specs.Inside.Places.{ArePlaces}
use Rattle.word_table.proofs.Pushed.{or_else, or_none, position-push}

abbrev Places : Type 0
Places = BTreeMap (Vec ℕ Global) ℕ

abbrev place_in : Places → List ℕ → Option ℕ
place_in places word = get_by (λ key. slice_cmp nat_cmp word key.items) places

abbrev first_place : List (List ℕ) → List ℕ → Option ℕ
first_place words word = position (λ other. bytes_eq other word) words

-- with one more word
pushed : (words : List (List ℕ)) (word q : List ℕ) → first_place (words ++ word ∷ []) q ≡ or_else (first_place words q) (cond (bytes_eq word q) (Some (length words)) None)
pushed words word q = position-push (λ other. bytes_eq other q) words word

same_word : (word q : List ℕ) → bytes_eq word q ≡ true → word ≡ q
same_word word q is = (bytes_eq-Decides word q).0 is

-- a word that is found already changes no place
stays : (word q : List ℕ) (b : Bool) → bytes_eq word q ≡ b → (o : Option ℕ) (n : ℕ) → (word ≡ q → is_some o ≡ true) → o ≡ or_else o (cond b (Some n) None)
stays word q false is o n found = sym (or_none o)
stays word q true is (Some i) n found = refl
stays word q true is None n found = absurd (cc (found (same_word word q is)))

pub noted_before : (places : Places) (word : List ℕ) → is_some (place_in places word) ≡ true → (words : List (List ℕ)) → ArePlaces words places → ArePlaces (words ++ word ∷ []) places
noted_before places word there words are = record {
  found = λ q. stays word q (bytes_eq word q) refl (place_in places q) (length words) (λ same. ap (λ w. is_some (place_in places w)) (sym same) ∙ there)
      ∙ ap (λ o. or_else o (cond (bytes_eq word q) (Some (length words)) None)) (are.found q) ∙ sym (pushed words word q);
}

-- a word that isn't found gets the place of the last
anew : (word q : List ℕ) (b : Bool) → bytes_eq word q ≡ b → (o : Option ℕ) (n : ℕ) → (word ≡ q → o ≡ None) → cond b (Some n) o ≡ or_else o (cond b (Some n) None)
anew word q false is o n none = sym (or_none o)
anew word q true is o n none = ap (λ x. or_else x (Some n)) (sym (none (same_word word q is)))

none_of : (o : Option ℕ) → is_some o ≡ false → o ≡ None
none_of (Some i) is = absurd (cc is)
none_of None is = refl

-- a table that has this place at this word, and else what it had
module _ (places new : Places) (key : Vec ℕ Global) (place : ℕ) (updates : UpdatesBy (λ x y. slice_cmp nat_cmp x.items y.items) (λ y. slice_cmp nat_cmp key.items y.items) places new (Some place)) where
  apart : (q ks : List ℕ) → bytes_eq key.items q ≡ false → is_eq (slice_cmp nat_cmp key.items ks) ≡ true → is_eq (slice_cmp nat_cmp q ks) ≡ false
  apart q ks other is =
      is_eq-slice_cmp q ks ∙ nat_list_eq_equiv.symm q ks
      ∙ sym (nat_list_eq_equiv.congr key.items ks q (sym (is_eq-slice_cmp key.items ks) ∙ is)) ∙ other

  other_place : (q : List ℕ) → bytes_eq key.items q ≡ false → place_in new q ≡ place_in places q
  unfolding KeepsOthers
  other_place q other = updates.3 (λ k. is_eq (slice_cmp nat_cmp q k.items))
      (λ x y. (eq_by_cmp_equiv nat_list_cmp_total).congr q x.items y.items) (λ k is. apart q k.items other is)

  place_by : (q : List ℕ) (b : Bool) → bytes_eq key.items q ≡ b → place_in new q ≡ cond b (Some place) (place_in places q)
  place_by q true is = ap (place_in new) (sym (same_word key.items q is)) ∙ updates.1
  place_by q false is = other_place q is

  pub noted_anew : (word : List ℕ) → key.items ≡ word → is_some (place_in places word) ≡ false
      → (words : List (List ℕ)) → ArePlaces words places → length words ≡ place → ArePlaces (words ++ word ∷ []) new
  noted_anew word is absent words are long = record {
    found = λ q.
        place_by q (bytes_eq word q) (ap (λ w. bytes_eq w q) is)
        ∙ ap (λ n. cond (bytes_eq word q) (Some n) (place_in places q)) (sym long)
        ∙ anew word q (bytes_eq word q) refl (place_in places q) (length words) (λ same. none_of (place_in places q) (ap (λ w. is_some (place_in places w)) (sym same) ∙ absent))
        ∙ ap (λ o. or_else o (cond (bytes_eq word q) (Some (length words)) None)) (are.found q) ∙ sym (pushed words word q);
  }
