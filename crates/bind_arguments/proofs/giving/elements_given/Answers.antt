use Rattle.std.proofs.Common.{◌≡◌, ◌∙◌, ℕ, ap, sym, ◌++◌, ◌∷◌, ◌+◌, [], List, Option, map, arith}
use Rattle.std.proofs.lemmas.List.FromFn.{map-range_with_len_more}
use Rattle.std.specs.List.{range_with_len}
use Rattle.std.specs.Option.{option_and_then}
use Rattle.dim_core.specs.Outline.{index_of}
use Rattle.bind_arguments.specs.Bound.{name_given, element_given}
use Rattle.bind_arguments.proofs.Around.{found_dimension}
use Rattle.bind_arguments.proofs.giving.elements_given.Goals as goal

one_more : (f : ℕ → Option ℕ) (n : ℕ) (before after : List (Option ℕ)) (o : Option ℕ) → before ≡ map f (range_with_len 0 n) → o ≡ f n → after ≡ before ++ o ∷ [] → after ≡ map f (range_with_len 0 (n + 1))
one_more f n before after o so is pushed =
    pushed ∙ ap (λ l. l ++ o ∷ []) so ∙ ap (λ x. map f (range_with_len 0 n) ++ x ∷ []) is ∙ sym (map-range_with_len_more f 0 n n (omega arith))

pub loop-element-preserved : goal.loop-element-preserved
loop-element-preserved c =
    record {
      given = one_more (element_given c.args.space.now c.args.dim c.args.argument.now) c.loop-element.element c.loop-element.to.items c.push.new.self.items c.in_ok-given.given
          c.loop-element.invariant.given
          (c.in_ok-given.ensures.given ∙ ap (λ d. option_and_then (index_of d) (name_given c.args.space.now c.loop-element.element c.args.argument.now)) (sym (found_dimension c.args.space.now c.args.dim c.dimension-dimension.result.now c.dimension-dimension.ensures)))
          c.in_ok-push.ensures.items;
      families = c.element_given.ensures.families;
    }
