-- Writes that are laid over a version.
use Rattle.std.specs.Prelude.{◌≡◌, ℕ, ℤ, List, Some, None}
use Rattle.user_session.specs.Content.{after, content_of}
use Rattle.user_session.specs.Planning.{misfit}
use Rattle.user_session.specs.declared.content.Content.{Content}
use Rattle.user_session.specs.declared.fixed_writes.Laid.{Laid}
use Rattle.user_session.specs.declared.fixed_writes.Laid.TheVariants.{Over, Misfit}

-- the version with these writes, or the first reason against them
abbrev pub IsLaid : Content → List (ℕ × ℤ) → Laid → Type 0
IsLaid content writes (Over version) = (misfit content writes ≡ None) × (content_of version ≡ after content writes)
IsLaid content writes (Misfit reason) = misfit content writes ≡ Some reason
