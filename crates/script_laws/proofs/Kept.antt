-- What each write keeps, a load keeps.
use Rattle.std.proofs.Common.{◌≡◌, ℕ, List, Ok}
use Rattle.cube_fixed.specs.declared.value.Value.{Value}
use Rattle.script_bound.specs.declared.script.BoundScript.{BoundScript}
use Rattle.user_text.specs.declared.command.ParamText.{ParamText}
use Rattle.script_values.specs.Cells.{Store, Write, writing, zeroing}
use Rattle.script_run.specs.Setting.{Progress}
use Rattle.script_run.specs.Meaning.{Outcome, Ended}
use Rattle.script_run.specs.Load.{load, start, writes_of}
use Rattle.script_run.proofs.Chains.{IsChain, Reaches, sections_steady}

module _ (store : Store) (P : List Write → Type 0)
    (kept : (before after : List Write) (cube : List ℕ) (elements : List (List ℕ)) (value : Value) → P before → writing store before cube elements value ≡ Ok after → P after)
    (kept_zeros : (before after : List Write) (cube : List ℕ) (elements : List (List ℕ)) → P before → zeroing store before cube elements ≡ Ok after → P after) where
  abbrev Along : Progress → List Write → Progress → List Write → Type 0
  Along p w q v = P w → P v

  chain : IsChain store Along
  chain = record {
    same = λ p w h. h;
    on = λ p q r w v u first second h. second (first h);
    begins = λ p w place left is h. h;
    sets = λ p w place value h. h;
    writes = λ p w u cube elements value is h. kept w u cube elements value h is;
    zeros = λ p w u cube elements is h. kept_zeros w u cube elements h is;
  }

  ends : (p : Progress) (w : List Write) (o : Outcome) → Reaches store Along chain p w o → P w → P (writes_of o)
  ends p w (Ended ending q v) along h = along h

  pub load_keeps : (script : BoundScript) (params : List (List ℕ × ParamText)) (decimal most : ℕ) (rows : List (List (List ℕ))) (writes : List Write) → P writes → P (writes_of (load script params decimal most rows store writes))
  load_keeps script params decimal most rows writes h =
      ends (start script params) writes (load script params decimal most rows store writes)
      (sections_steady store Along chain most (λ p q w u reason few along h. h) script decimal rows (start script params) writes) h
