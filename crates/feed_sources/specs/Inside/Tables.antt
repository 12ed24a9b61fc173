-- What a model keeps so that sources of feeders are found fast.
use Rattle.std.specs.Prelude.{◌≡◌, ℕ, ◌<◌, List, length, slice_index}
use Rattle.std.specs.List.{AllZip}
use Rattle.rule_model.specs.declared.rules.CubeRules.{CubeRules}
use Rattle.rule_model.specs.declared.rules.Feeder.{Feeder}
use Rattle.rule_model.specs.BoundModel.{BoundModel}
use Rattle.feed_sources.specs.Inside.Above.{IsAboveOf}
use Rattle.feed_sources.specs.Spans.{IsSpan}

-- of each feeder an end up to which feeders have its area
pub record AreSpans (feeders : List Feeder) (ends : List ℕ) : Type 0 where
  pub whole : length ends ≡ length feeders
  pub each : (place : ℕ) → place < length feeders → IsSpan feeders place (slice_index ends place)

-- the same of the feeders of a cube
abbrev pub AreSpansOf : CubeRules → List ℕ → Type 0
AreSpansOf rules ends = AreSpans rules.feeders ends

-- of each dimension the elements that its leaves count in, and of each cube the spans of its feeders
pub record AreTables (model : BoundModel) (above : List (List (List ℕ))) (ends : List (List ℕ)) : Type 0 where
  pub leaves : AllZip IsAboveOf model.space.dimensions above
  pub spans : AllZip AreSpansOf model.rules ends
