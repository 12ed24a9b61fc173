-- The bytes of a text, wherever they are.
use Rattle.std.specs.Prelude.{ℕ, List}
use Rattle.script_values.specs.declared.text.Bytes.{Bytes}
use Rattle.script_values.specs.declared.text.Bytes.TheVariants.{Borrowed, Owned}

abbrev pub letters : Bytes → List ℕ
letters (Borrowed bytes) = bytes.now
letters (Owned bytes) = bytes
