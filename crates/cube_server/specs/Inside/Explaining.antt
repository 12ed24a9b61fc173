-- Which plan asks to explain a model, and the text of a refusal with its explanation or without.
use Rattle.std.specs.Prelude.{◌≡◌, ℕ, List, ◌++◌, Option, Some, None}
use Rattle.cube_words.specs.Words.{Plan, Run, Check, Explain, Feeders, Sample}
use Rattle.file_passes.specs.Pass.{Readings}
use Rattle.file_passes.specs.declared.refusal.Refusal.{Refusal}
use Rattle.cube_server.specs.Answer.{IsExplained}
use Rattle.cube_server.specs.Output.{refused_text}

-- the name of the model file
abbrev pub explained : Plan → Option (List ℕ)
explained (Run model users) = None
explained (Check model) = None
explained (Explain model users) = Some model
explained (Feeders model) = None
explained (Sample size) = None

abbrev pub IsTextFor : Readings → Refusal → Option (List ℕ) → List ℕ → Type 0
IsTextFor readings refusal None text = text ≡ refused_text refusal
IsTextFor readings refusal (Some model) text =
    (lines : List ℕ) × IsExplained readings model refusal lines × (text ≡ refused_text refusal ++ lines)
