-- Elements by texts, found one after the other.
use Rattle.std.proofs.Common.{◌≡◌, arith, ℕ, zero, suc, ◌+◌, ◌<◌, ◌⊎◌, inl, inr, Bool, true, false, List, [], ◌∷◌, ◌++◌, length, get_or, drop, drop-cons, add-one, All, Option, Some, None, refl, ◌∙◌, ap, sym, subst, if◌then◌else◌, slice_get, slice_set, ◌&&◌}
use Rattle.std.proofs.lemmas.List.{length-set}
use Rattle.std.proofs.lemmas.List.Elements.{All-push}
use Rattle.lists.proofs.Found.{found_holds, none_some, some_same}
use Rattle.std.specs.Prelude.{option_and_then}
use Rattle.std.specs.List.{list_all}
use Rattle.cube_space.specs.Cells.{cell_number}
use Rattle.cube_space.specs.Layout.{Layout, axes, axes_of, cube_names}
use Rattle.dim_core.specs.Outline.{Outline, index_of}
use Rattle.dim_name.specs.Name.{is_name, place_of}
use Rattle.rule_model.specs.Named.{cell_named, elements_named}
use Rattle.rule_model.proofs.Named.{found_none, found_one, other_count, with_front}
use Rattle.load_cells.specs.declared.found.FoundName.{FoundName}
use Rattle.load_cells.specs.declared.found.FoundElements.{FoundElements}
use Rattle.load_cells.specs.Found.{AreElements, AreNames, IsFound}
use Rattle.load_cells.specs.Names.{element_by_text, elements_by_texts}
use Rattle.load_cells.specs.Loads.{cell_by_texts}

-- a text that names an element is a name
named : (b : Bool) (o : Option ℕ) (e : ℕ) → (if b then o else None) ≡ Some e → (b ≡ true) × (o ≡ Some e)
named true o e is = (refl, is)
named false o e is = absurd (cc is)

unnamed : (b : Bool) (o : Option ℕ) → (if b then o else None) ≡ None → (b ≡ true → o ≡ None)
unnamed true o is = λ _. is
unnamed false o is = λ no. absurd (cc no)

module _ (D : List Outline) (k : ℕ) (ks : List ℕ) (text : List ℕ) (texts : List (List ℕ)) (d : Outline) (front : List ℕ) (own : slice_get D k ≡ Some d) where
  by_names : (all : Bool) (e : ℕ) → index_of d text ≡ Some e
      → with_front front (if all then elements_named (axes_of D (k ∷ ks)) (text ∷ texts) else None) ≡ with_front (front ++ e ∷ []) (if all then elements_named (axes_of D ks) texts else None)
  by_names true e is = found_one D k ks text texts d e front own is
  by_names false e is = refl

  pub text_found : (e : ℕ) → element_by_text d text ≡ Some e
      → with_front front (elements_by_texts (axes_of D (k ∷ ks)) (text ∷ texts)) ≡ with_front (front ++ e ∷ []) (elements_by_texts (axes_of D ks) texts)
  text_found e is =
      let (name, found) = named (is_name text) (index_of d text) e is in
      ap (λ b. with_front front (if b && list_all is_name texts then elements_named (axes_of D (k ∷ ks)) (text ∷ texts) else None)) name
      ∙ by_names (list_all is_name texts) e found

  none_by : (b all : Bool) → (b ≡ true → index_of d text ≡ None)
      → with_front front (if b && all then elements_named (axes_of D (k ∷ ks)) (text ∷ texts) else None) ≡ None
  none_by true true none = found_none D k ks text texts d front own (none refl)
  none_by true false none = refl
  none_by false all none = refl

  pub text_missing : element_by_text d text ≡ None → with_front front (elements_by_texts (axes_of D (k ∷ ks)) (text ∷ texts)) ≡ None
  text_missing is = none_by (is_name text) (list_all is_name texts) (unnamed (is_name text) (index_of d text) is)

  -- one text more is found
  pub one_found : (e : ℕ) (before : Option (List ℕ)) (after : List ℕ) → element_by_text d text ≡ Some e → after ≡ front ++ e ∷ []
      → before ≡ with_front front (elements_by_texts (axes_of D (k ∷ ks)) (text ∷ texts)) → before ≡ with_front after (elements_by_texts (axes_of D ks) texts)
  one_found e before after is more so_far =
      so_far ∙ text_found e is ∙ ap (λ f. with_front f (elements_by_texts (axes_of D ks) texts)) (sym more)

pub item : {A : Type 0} (xs : List A) (i : ℕ) (x : A) → i < length xs → x ≡ get_or xs i x → drop i xs ≡ x ∷ drop (i + 1) xs
item xs i x below is = rw (add-one, drop-cons xs i x below, ← is) refl

-- ---- what was found

after_write : (found : List FoundElements) (dim : ℕ) (name : FoundElements) (k : ℕ) (other : FoundElements) → slice_get (slice_set found dim name) k ≡ Some other
    → ((k ≡ dim) × (other ≡ name)) ⊎ (slice_get found k ≡ Some other)
after_write [] dim name k other is = absurd (none_some is)
after_write (f ∷ found) zero name zero other is = inl (refl, sym (some_same is))
after_write (f ∷ found) zero name (suc k) other is = inr is
after_write (f ∷ found) (suc dim) name zero other is = inr is
after_write (f ∷ found) (suc dim) name (suc k) other is =
    elim (after_write found dim name k other is) [ inl here ↦ inl (ap suc here.0, here.1) | inr there ↦ inr there ]

pub still_found : (D : List Outline) (found : List FoundElements) (dim : ℕ) (d : Outline) (name : FoundElements) → AreElements D found → slice_get D dim ≡ Some d
    → AreNames (element_by_text d) name → AreElements D (slice_set found dim name)
still_found D found dim d name are own is = record {
  each_dimension = length-set found dim name ∙ are.each_dimension;
  found_there = λ k e other there at.
      elim (after_write found dim name k other at) [
        | inl here ↦ (
            let same : d ≡ e = some_same (sym own ∙ subst (λ j. slice_get D j ≡ Some e) here.0 there) in
            subst (AreNames (element_by_text e)) (sym here.1) (subst (λ o. AreNames (element_by_text o) name) same is))
        | inr before ↦ are.found_there k e other there before
      ];
}

none_of : (P : FoundName → Type 0) → All P []
none_of P = λ k d below. absurd (omega (arith, below))

pub none_yet : (D : List Outline) (found : List FoundElements) → length found ≡ length D → All (λ (names : FoundElements). names.names.items ≡ []) found → AreElements D found
none_yet D found many none = record {
  each_dimension = many;
  found_there = λ k d names there at.
      subst (All (IsFound (element_by_text d))) (sym (found_holds (λ (names : FoundElements). names.names.items ≡ []) found k names none at)) (none_of (IsFound (element_by_text d)));
}

-- a name more, where there was room
pub one_more : (P : FoundName → Type 0) (before after : List FoundName) (name : FoundName) (b : Bool)
    → after ≡ (if b then before ++ name ∷ [] else before) → All P before → P name → All P after
one_more P before after name true is own more = subst (All P) (sym is) (All-push P before name own more)
one_more P before after name false is own more = subst (All P) (sym is) own

-- a place without a name
pub no_name : (named : List ℕ → Option ℕ) (name : FoundName) → name.text.items ≡ [] → IsFound named name
no_name named name none = λ some. absurd (some none)

none_if : (b : Bool) (o : Option (List ℕ)) → o ≡ None → (if b then o else None) ≡ None
none_if true o is = is
none_if false o is = refl

pub texts_other_count : (ds : List Outline) (texts : List (List ℕ)) → (length ds ≡ length texts → ⊥) → elements_by_texts ds texts ≡ None
texts_other_count ds texts differ = none_if (list_all is_name texts) (elements_named ds texts) (other_count ds texts differ)

-- the cell by the number of its cube and its elements
pub by_parts : (space : Layout) (cube : List ℕ) (texts : List (List ℕ))
    → cell_by_texts space cube texts
    ≡ option_and_then (λ c. option_and_then (cell_number space c) (elements_by_texts (axes space c) texts)) (if is_name cube then place_of (cube_names space) cube else None)
unfolding cell_named
by_parts space cube texts = parts (is_name cube) (list_all is_name texts) (place_of (cube_names space) cube) where
  parts : (one all : Bool) (place : Option ℕ)
      → (if one && all then option_and_then (λ c. option_and_then (cell_number space c) (elements_named (axes space c) texts)) place else None)
      ≡ option_and_then (λ c. option_and_then (cell_number space c) (if all then elements_named (axes space c) texts else None)) (if one then place else None)
  parts true true place = refl
  parts true false None = refl
  parts true false (Some c) = refl
  parts false true place = refl
  parts false false place = refl
