-- The bytes of a model text have one answer.
use Rattle.std.proofs.Common.{◌≡◌, ◌≢◌, ℕ, List, None, ◌⊎◌, inl, inr, refl, sym, ◌∙◌, ap, subst}
use Rattle.cube_lex.proofs.Unique.{reading-only}
use Rattle.cube_lex.specs.declared.position.Position.{Position}
use Rattle.grammar.specs.Watch.{Passes}
use Rattle.grammar.specs.Whole.{IsWholeSyntax, IsWholeRefused, HasOneAnswer}
use Rattle.grammar.proofs.Cuts.{passes_once}
use Rattle.grammar.proofs.OneAnswer.{has_one_answer}
use Rattle.dim_text.specs.Progress.{IsBuilt}
use Rattle.model_text.specs.Answers.{IsGathered, IsModelText, IsFault}
use Rattle.model_text.specs.Contents.{Contents}
use Rattle.model_text.specs.Statement.{model}
use Rattle.model_text.specs.Watching.{Seen, nothing_seen, watching}
use Rattle.model_text.specs.declared.fault.ModelTextFault.{ModelTextFault}
use Rattle.model_text.specs.declared.fault.ModelTextCause.{ModelTextCause}
use Rattle.model_text.specs.declared.fault.ModelTextCause.TheVariants as causes
use Rattle.model_text.proofs.ModelExact.{model_exact}
use Rattle.text_laws.specs.ModelAnswers.{OneModelAnswer}
use Rattle.text_laws.proofs.Finished.{one_left, one_text}
use Rattle.text_laws.proofs.ModelCuts.{watching_cuts}
use Rattle.text_laws.proofs.ModelReads.{model_settles}

pub model_has_one_answer : HasOneAnswer model watching nothing_seen
model_has_one_answer = has_one_answer model watching nothing_seen watching_cuts model_exact (record { dimension = refl; cube = refl; script = refl }) model_settles

-- The contents.

contents_are : (x y : Contents) → x.version ≡ y.version → x.dims ≡ y.dims → x.cubes ≡ y.cubes → x.scripts ≡ y.scripts → x ≡ y
contents_are x y e f g h = ap (λ z. record { version = z; dims = x.dims; cubes = x.cubes; scripts = x.scripts }) e ∙ ap (λ z. record { version = y.version; dims = z; cubes = x.cubes; scripts = x.scripts }) f
    ∙ ap (λ z. record { version = y.version; dims = y.dims; cubes = z; scripts = x.scripts }) g ∙ ap (λ z. record { version = y.version; dims = y.dims; cubes = y.cubes; scripts = z }) h

one_gathered : (x y : Contents) (s : Seen) → IsGathered x s → IsGathered y s → x ≡ y
one_gathered x y s h k = contents_are x y (h.version ∙ sym k.version) (one_left IsBuilt one_text x.dims y.dims s.blocks h.dims k.dims) (h.cubes ∙ sym k.cubes) (h.scripts ∙ sym k.scripts)

pub one_contents : (bytes : List ℕ) (x y : Contents) → IsModelText bytes x → IsModelText bytes y → x ≡ y
one_contents bytes x y h k =
    let (lexed, _) = reading-only bytes h.text.lexed k.text.lexed None None h.text.reading k.text.reading in
    let other : Passes watching nothing_seen h.text.lexed.lexemes k.seen = subst (λ z. Passes watching nothing_seen z.lexemes k.seen) (sym lexed) k.text.text.passes in
    let same : h.seen ≡ k.seen = passes_once watching watching_cuts nothing_seen h.seen k.seen h.text.lexed.lexemes h.text.text.passes other in
    one_gathered x y k.seen (subst (IsGathered x) same h.gathered) k.gathered

-- Faults.

-- a fault is one of the grammar, or one that the watch refuses
abbrev Told : List ℕ → Position → ModelTextCause → Type 0
Told bytes place cause = ((cause ≡ causes.Syntax) × IsWholeSyntax model watching nothing_seen bytes place) ⊎ IsWholeRefused model watching nothing_seen bytes (record { at = place; cause = cause })

told : (bytes : List ℕ) (place : Position) (cause : ModelTextCause) → cause ≢ causes.Memory → IsFault bytes place cause → Told bytes place cause
told bytes place causes.Syntax some h = inl (refl, h)
told bytes place causes.WrongVersion some h = inr h
told bytes place causes.Duplicate some h = inr h
told bytes place causes.UnknownName some h = inr h
told bytes place causes.TooMany some h = inr h
told bytes place (causes.Dim fault) some h = inr h
told bytes place causes.Memory some h = absurd (some refl)

fault_is : (e f : ModelTextFault) → e.at ≡ f.at → e.cause ≡ f.cause → e ≡ f
fault_is e f h k = ap (λ z. record { at = z; cause = e.cause }) h ∙ ap (λ z. record { at = f.at; cause = z }) k

one_of_told : (bytes : List ℕ) (e f : ModelTextFault) → Told bytes e.at e.cause → Told bytes f.at f.cause → e ≡ f
one_of_told bytes e f (inl (h, at)) (inl (g, here)) = fault_is e f (model_has_one_answer.one_place bytes e.at f.at at here) (h ∙ sym g)
one_of_told bytes e f (inl (h, at)) (inr g) = absurd (model_has_one_answer.one_fault bytes e.at f at g)
one_of_told bytes e f (inr h) (inl (g, here)) = absurd (model_has_one_answer.one_fault bytes f.at e here h)
one_of_told bytes e f (inr h) (inr g) = model_has_one_answer.one_cause bytes e f h g

none_told : (bytes : List ℕ) (x : Contents) (e : ModelTextFault) → IsModelText bytes x → Told bytes e.at e.cause → ⊥
none_told bytes x e h (inl (_, at)) = model_has_one_answer.no_syntax bytes tt h.seen e.at h.text at
none_told bytes x e h (inr g) = model_has_one_answer.no_refusal bytes tt h.seen e h.text g

pub one_model_fault : (bytes : List ℕ) (e f : ModelTextFault) → e.cause ≢ causes.Memory → f.cause ≢ causes.Memory → IsFault bytes e.at e.cause → IsFault bytes f.at f.cause → e ≡ f
one_model_fault bytes e f some other h g = one_of_told bytes e f (told bytes e.at e.cause some h) (told bytes f.at f.cause other g)

pub no_model_fault : (bytes : List ℕ) (x : Contents) (e : ModelTextFault) → e.cause ≢ causes.Memory → IsModelText bytes x → IsFault bytes e.at e.cause → ⊥
no_model_fault bytes x e some h g = none_told bytes x e h (told bytes e.at e.cause some g)

pub model_texts : (bytes : List ℕ) → OneModelAnswer bytes
model_texts bytes = record { one_contents = one_contents bytes; one_fault = one_model_fault bytes; not_both = no_model_fault bytes }
