-- A name is printed in one line.
use Rattle.std.proofs.Common.{◌≡◌, ℕ, Bool, true, false, not, ◌==◌, List, [], ◌∷◌, refl, subst}
use Rattle.std.specs.Char.{is_ascii_control}
use Rattle.std.specs.List.{list_all, list_any}
use Rattle.std.proofs.lemmas.Bool.{and_parts, eqb-true}
use Rattle.dim_name.specs.Bytes.{newline}
use Rattle.dim_name.specs.Name.{is_name, is_not_space}
use Rattle.output_laws.proofs.Lines.{lacks}

-- a name has no line end
pub name_plain : (name : List ℕ) → is_name name ≡ true → lacks newline name ≡ true
name_plain name is = controls_out name (and_parts (list_all (λ byte. not (is_ascii_control byte)) name) (list_any is_not_space name) is).0
  where
    one : (byte : ℕ) → not (is_ascii_control byte) ≡ true → not (byte == newline) ≡ true
    one byte free = by (byte == newline) refl
      where
        by : (b : Bool) → (byte == newline) ≡ b → not b ≡ true
        by true e = absurd (false_not (subst (λ c. not (is_ascii_control c) ≡ true) (eqb-true byte newline e) free))
          where
            false_not : false ≡ true → ⊥
            false_not same = cc
        by false e = refl

    controls_out : (text : List ℕ) → list_all (λ byte. not (is_ascii_control byte)) text ≡ true → lacks newline text ≡ true
    controls_out [] all = refl
    controls_out (byte ∷ text) all =
        let parts = and_parts (not (is_ascii_control byte)) (list_all (λ byte. not (is_ascii_control byte)) text) all in
        let free = one byte parts.0 in
        rw (free) (controls_out text parts.1)
