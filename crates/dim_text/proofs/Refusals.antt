-- The finished dimension has the elements of its draft.
use Rattle.std.proofs.Common.{◌≡◌, length, sym}
use Rattle.std.proofs.lemmas.Slice.Zip.{AllZip-long}
use Rattle.dim_core.specs.Draft.{Draft, IsFinished}
use Rattle.dim_core.specs.Outline.{Outline}

pub finished_length : (draft : Draft) (d : Outline) → IsFinished draft d → length draft.elements ≡ length d.elements
finished_length draft d h = sym (AllZip-long _ draft.elements d.elements h.elements)
