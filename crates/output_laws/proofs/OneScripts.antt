-- Files are one list of scripts.
use Rattle.std.proofs.Common.{◌≡◌, ℕ, List, [], ◌∷◌, refl, sym, ◌∙◌, ap}
use Rattle.file_passes.specs.Pass.{Source}
use Rattle.judged_files.specs.Scripts.{IsScript, AreScripts}
use Rattle.script_bind.specs.Binding.{bound_of}
use Rattle.script_bound.specs.declared.script.BoundScript.{BoundScript}
use Rattle.script_text_laws.specs.ScriptAnswers.{OneScriptAnswer}

module _ (answers : (bytes : List ℕ) → OneScriptAnswer bytes) where
  one_script : (source : Source) (x y : BoundScript) → IsScript source x → IsScript source y → x ≡ y
  one_script source x y p q =
      let tree = (answers source.1).one_script p.tree q.tree p.text q.text in
      p.bound ∙ ap bound_of tree ∙ sym q.bound

  pub one_list : (sources : List Source) (x y : List BoundScript)
      → AreScripts sources x → AreScripts sources y → x ≡ y
  one_list [] [] [] p q = refl
  one_list [] [] (y ∷ ys) p q = absurd q
  one_list [] (x ∷ xs) y p q = absurd p
  one_list (source ∷ more) [] y p q = absurd p
  one_list (source ∷ more) (x ∷ xs) [] p q = absurd q
  one_list (source ∷ more) (x ∷ xs) (y ∷ ys) p q =
      let first = one_script source x y p.0 q.0 in
      let rest = one_list more xs ys p.1 q.1 in
      cc
