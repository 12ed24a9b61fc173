use Rattle.std.proofs.Common.{◌≡◌, List, [], ◌∷◌, ◌++◌, codes, refl, sym, ◌∙◌, ap, subst}
use Rattle.std.proofs.lemmas.List.{map-append}
use Rattle.std.proofs.lemmas.Result.{err_from_is_err_and}
use Rattle.std.specs.List.{AllZip}
use Rattle.model_text.specs.Gathering.{Parts}
use Rattle.model_text.specs.Readers.Views.{seen}
use Rattle.grammar.specs.Reading.{gives, bound}
use Rattle.grammar.specs.Tokens.{is_word}
use Rattle.grammar.proofs.Loops.{begun_all, goes_further, is_done}
use Rattle.dim_text.specs.Progress.{Progress, Text, IsBuilt}
use Rattle.model_text.specs.Contents.{dimension_names}
use Rattle.model_text.specs.Readers.Reading.{read_dimension, read_dimensions}
use Rattle.model_text.proofs.ModelExact.{dimension_shortens}
use Rattle.model_text.proofs.Stopping.{loop_stops}
use Rattle.model_text.proofs.dimensions.dimensions_at.Goals as goal

built_last : (dims : List Text) (blocks : List Progress) (text : Text) (block : Progress) → AllZip IsBuilt dims blocks → IsBuilt text block → AllZip IsBuilt (dims ++ text ∷ []) (blocks ++ block ∷ [])
built_last [] [] text block h is = (is, tt)
built_last [] (b ∷ blocks) text block h is = absurd h
built_last (d ∷ dims) [] text block h is = absurd h
built_last (d ∷ dims) (b ∷ blocks) text block h is = (h.0, built_last dims blocks text block h.1 is)

nothing_built : (dims : List Text) → dims ≡ [] → AllZip IsBuilt dims []
nothing_built dims e = subst (λ ds. AllZip IsBuilt ds []) (sym e) tt

no_names : (w : Parts) (dims : List Text) → w.names ≡ [] → dims ≡ [] → w ≡ record w { names = dimension_names dims }
no_names w dims none e = ap (λ ns. record w { names = ns }) (none ∙ ap dimension_names (sym e))

names_step : (start w new : Parts) (dims next : List Text) (text : Text) → w ≡ record start { names = dimension_names dims } → new ≡ record w { names = w.names ++ text.dimension.name ∷ [] } → next ≡ dims ++ text ∷ [] → new ≡ record start { names = dimension_names next }
names_step start w new dims next text same added pushed =
    let later : record w { names = w.names ++ text.dimension.name ∷ [] } ≡ record start { names = dimension_names dims ++ text.dimension.name ∷ [] } = ap {A = Parts} {B = Parts} (λ v. record v { names = v.names ++ text.dimension.name ∷ [] }) same in
    let all : dimension_names dims ++ text.dimension.name ∷ [] ≡ dimension_names next = sym (map-append (λ d. d.dimension.name) dims (text ∷ [])) ∙ ap dimension_names (sym pushed) in
    added ∙ later ∙ ap (λ ns. record start { names = ns }) all

pub dimension-init : goal.dimension-init
dimension-init c = ([], [], begun_all (is_word (codes "DIM")) read_dimension _ _, nothing_built _ c.new-dims.ensures.items, no_names c.args.partial.now _ c.requires.none c.new-dims.ensures.items, c.requires.tokens)

pub dimension-preserved : goal.dimension-preserved
dimension-preserved c =
    let (front, blocks, going, built, same, tokens) = c.dimension.invariant in
    let (block, read, is) = c.in_ok-text.ensures.read blocks in
    let pushed = c.in_ok-push.ensures.items in (
      front ++ tt ∷ [],
      blocks ++ block ∷ [],
      goes_further going c.dimension-test.ensures read (dimension_shortens _ _ _ _ _ read) refl,
      subst (λ ds. AllZip IsBuilt ds (blocks ++ block ∷ [])) (sym pushed) (built_last _ blocks c.in_ok-text.text block built is),
      names_step c.args.partial.now _ _ _ _ c.in_ok-text.text same c.in_ok-text.ensures.added pushed,
      c.in_ok-text.ensures.rest,
    )

pub returns-in_err-text-clause-read : goal.returns-in_err-text-clause-read
unfolding read_dimensions
returns-in_err-text-clause-read c =
    let (front, blocks, going, built, same, tokens) = c.dimension.invariant in
    let p = err_from_is_err_and c.from_residual.result c.from_residual.ensures.1 in
    rw (p.1, p.2) (loop_stops (is_word (codes "DIM")) read_dimension front _ (seen [] c.args.partial.now) _ c.args.cursor.now.tokens c.in_err-text.field-0.0 going c.dimension-test.ensures (c.in_err-text.ensures.read blocks))

pub returns-clause-read : goal.returns-clause-read
unfolding read_dimensions
returns-clause-read c =
    let (front, blocks, going, built, same, tokens) = c.dimension.invariant in
    (blocks, ap (λ r. bound r (λ _. gives tt)) (is_done going (sym c.dimension-test.ensures)), built)

pub returns-clause-names : goal.returns-clause-names
returns-clause-names c =
    let (front, blocks, going, built, same, tokens) = c.dimension.invariant in
    same
