-- Arguments that give the same names.
use Rattle.std.proofs.Common.{◌≡◌, ◌∙◌, ℕ, ℤ, ◌+ℤ◌, List, [], Option, find, ◌&&◌, ◌==◌, unwrap_or, nat_eq, sym, ap}
use Rattle.std.specs.Cmp.Lexicographic.{pointwise}
use Rattle.std.specs.Option.{option_map, option_and_then}
use Rattle.dim_core.specs.Outline.{Outline, index_of}
use Rattle.dim_core.specs.declared.attribute.Attribute.{Attribute}
use Rattle.dim_name.specs.Name.{key_of}
use Rattle.cube_space.specs.Layout.{Layout}
use Rattle.bind_arguments.specs.Argument.{table_over}
use Rattle.bind_arguments.specs.Bound.{dimension_at, name_at, index_in, attribute_in, relative_in, name_in, given_step, name_given, element_given, AreAlike}
use Rattle.bind_arguments.specs.declared.bound_argument.BoundArgument.{BoundArgument}
use Rattle.bind_arguments.specs.declared.relative.Relative.{Relative}
use Rattle.bind_arguments.specs.declared.bound_argument.BoundArgument.TheVariants as bound
use Rattle.bind_arguments.proofs.ArgumentFolds.{of-current, of-place, of-attribute, of-relative}
use Rattle.bind_arguments.proofs.Tables.{map_same}

-- the text of an attribute by the key of its name
abbrev text_by : Outline → ℕ → List ℕ → List ℕ
text_by d element key = unwrap_or (option_map (λ (a : Attribute). a.text) (find (λ (a : Attribute). (element == a.element) && pointwise nat_eq key (key_of a.name)) d.attributes)) []

same_texts : (d : Outline) (name other : List ℕ) (given : Option (List ℕ)) → key_of name ≡ key_of other → attribute_in d name given ≡ attribute_in d other given
same_texts d name other given same = ap (λ (key : List ℕ). option_and_then (λ e. name_in (text_by d e key)) (option_and_then (index_of d) given)) same

module _ (a b : BoundArgument) where
  pub alike_current : (p q dim : ℕ) → a ≡ bound.Current p dim → b ≡ bound.Current q dim → AreAlike a b
  alike_current p q dim is also space element =
      ap (name_given space element) is ∙ of-current (Option (List ℕ)) (given_step space element) p dim
      ∙ sym (ap (name_given space element) also ∙ of-current (Option (List ℕ)) (given_step space element) q dim)

  pub alike_place : (dim source : ℕ) (of own inner : BoundArgument) (n : ℤ) → a ≡ bound.AtPlace dim source of n → b ≡ bound.AtPlace dim source own n
      → inner ≡ of → AreAlike inner own → AreAlike a b
  alike_place dim source of own inner n is also got alike space element =
      let names : name_given space element of ≡ name_given space element own = ap (name_given space element) (sym got) ∙ alike space element in
      ap (name_given space element) is ∙ of-place (Option (List ℕ)) (given_step space element) dim source of n
      ∙ ap (λ given. name_at (dimension_at space dim) (index_in (dimension_at space source) given +ℤ n)) names
      ∙ sym (ap (name_given space element) also ∙ of-place (Option (List ℕ)) (given_step space element) dim source own n)

  pub alike_attribute : (dim : ℕ) (of own inner : BoundArgument) (name other : List ℕ) → a ≡ bound.AttributeOf dim of name → b ≡ bound.AttributeOf dim own other
      → key_of name ≡ key_of other → inner ≡ of → AreAlike inner own → AreAlike a b
  alike_attribute dim of own inner name other is also same got alike space element =
      let names : name_given space element of ≡ name_given space element own = ap (name_given space element) (sym got) ∙ alike space element in
      ap (name_given space element) is ∙ of-attribute (Option (List ℕ)) (given_step space element) dim of name
      ∙ ap (attribute_in (dimension_at space dim) name) names
      ∙ same_texts (dimension_at space dim) name other (name_given space element own) same
      ∙ sym (ap (name_given space element) also ∙ of-attribute (Option (List ℕ)) (given_step space element) dim own other)

  pub alike_relative : (dim : ℕ) (of own inner : BoundArgument) (relative : Relative) → a ≡ bound.RelativeOf dim of relative → b ≡ bound.RelativeOf dim own relative
      → inner ≡ of → AreAlike inner own → AreAlike a b
  alike_relative dim of own inner relative is also got alike space element =
      let names : name_given space element of ≡ name_given space element own = ap (name_given space element) (sym got) ∙ alike space element in
      ap (name_given space element) is ∙ of-relative (Option (List ℕ)) (given_step space element) dim of relative
      ∙ ap (relative_in (dimension_at space dim) relative) names
      ∙ sym (ap (name_given space element) also ∙ of-relative (Option (List ℕ)) (given_step space element) dim own relative)

  -- and so the same table
  pub alike_tables : (space : Layout) (dim size : ℕ) → AreAlike a b → table_over space dim a size ≡ table_over space dim b size
  alike_tables space dim size alike = map_same (element_given space dim a) (element_given space dim b) 0 size (λ k low. ap (option_and_then (index_of (dimension_at space dim))) (alike space k))
