-- The reply on a version, from what its parts say.
use Rattle.std.proofs.Common.{◌≡◌, ◌∙◌, ℕ, List, All, sym, ap, subst}
use Rattle.cell_values.specs.Reading.{value_on}
use Rattle.cell_versions.specs.Versions.{NumberedVersion}
use Rattle.cube_fixed.specs.declared.value.Value.{Value}
use Rattle.rule_model.specs.BoundModel.{BoundModel}
use Rattle.cell_trace.specs.declared.line.Line.{Line}
use Rattle.cell_trace.specs.Lines.{IsLineOf}
use Rattle.cell_trace.specs.Trace.{scene_of, trace_lines}
use Rattle.trace_text.specs.TraceText.{reply_text, trace_text}

module _ (v : NumberedVersion) (m : BoundModel) (own : m ≡ v.model) (cell : ℕ) (lines all : List Line) (listed : lines ≡ all) where
  pub own_lines_are : All (IsLineOf v.model.space cell) all → All (IsLineOf m.space cell) lines
  own_lines_are names =
      subst (λ (x : BoundModel). All (IsLineOf x.space cell) lines) (sym own) (subst (All (IsLineOf v.model.space cell)) (sym listed) names)

  pub own_reply : (value : Value) (files : List (List ℕ)) → value ≡ value_on v cell → all ≡ trace_lines (scene_of v.model v.stored cell)
      → trace_text m.space files cell value lines ≡ reply_text v.model v.stored files cell
  unfolding reply_text value_on
  own_reply value files is these =
      ap (λ (x : BoundModel). trace_text x.space files cell value lines) own
      ∙ ap (λ x. trace_text v.model.space files cell x lines) is
      ∙ ap (trace_text v.model.space files cell (value_on v cell)) (listed ∙ these)
