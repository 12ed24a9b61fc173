-- Records that are passed over.
use Rattle.std.proofs.Common.{◌≡◌, ◌<◌, ◌≤◌, ◌+◌, ℕ, Bool, true, ◌&&◌, cond, ltb, List, [], ◌∷◌, length, ap, ◌∙◌, arith}
use Rattle.std.proofs.lemmas.Bool.{ltb-true, lt-ltb}
use Rattle.std.proofs.lemmas.List.{length-append}
use Rattle.user_text.specs.declared.command.ParamText.{ParamText}
use Rattle.script_tree.specs.declared.script.Section.TheVariants.{Body}
use Rattle.script_bound.specs.declared.script.BoundScript.{BoundScript}
use Rattle.script_bound.specs.declared.statement.Statement.{Statement}
use Rattle.script_values.specs.declared.load_reason.LoadReason.{LoadReason}
use Rattle.script_values.specs.Cells.{Store, Write}
use Rattle.script_run.specs.declared.ending.Ending.TheVariants.{Next, Stopped}
use Rattle.script_run.specs.Setting.{Progress}
use Rattle.script_run.specs.Meaning.{Outcome, Ended, block_of}
use Rattle.script_run.specs.Load.{is_of_record, load, next_record, passed_over, records, setting, start, tried}
use Rattle.script_run.proofs.Chains.{IsChain, Reaches, sections_steady}
use Rattle.script_laws.specs.Laws.{rejects_of}

pub leaves_nothing : (decimal most row : ℕ) (body : List Statement) (store : Store) (columns : List (List ℕ)) (rows : List (List (List ℕ)))
    (p q : Progress) (w u : List Write) (reason : LoadReason)
    → block_of body store (setting decimal Body row columns) p w ≡ Ended (Stopped reason) q u
    → is_of_record reason ≡ true → length p.rejects < most
    → records decimal most (block_of body) store row (columns ∷ rows) p w ≡ records decimal most (block_of body) store (row + 1) rows (passed_over reason p q) w
leaves_nothing decimal most row body store columns rows p q w u reason stops lies few =
    ap (λ (o : Outcome). next_record (tried most p w o) (records decimal most (block_of body) store (row + 1) rows)) stops
    ∙ ap (λ (b : Bool). next_record (cond b (Ended Next (passed_over reason p q) w) (Ended (Stopped reason) q u)) (records decimal most (block_of body) store (row + 1) rows))
    (ap (λ (b : Bool). b && ltb (length p.rejects) most) lies ∙ lt-ltb (length p.rejects) most few)

module _ (most : ℕ) where
  abbrev Along : Progress → List Write → Progress → List Write → Type 0
  Along p w q v = length p.rejects ≤ most → length q.rejects ≤ most

  chain : (store : Store) → IsChain store Along
  chain store = record {
    same = λ p w h. h;
    on = λ p q r w v u first second h. second (first h);
    begins = λ p w place left is h. h;
    sets = λ p w place value h. h;
    writes = λ p w u cube elements value is h. h;
    zeros = λ p w u cube elements is h. h;
  }

  passes : (p q : Progress) (w u : List Write) (reason : LoadReason) → ltb (length p.rejects) most ≡ true → Along p w q u → Along p w (passed_over reason p q) w
  passes p q w u reason few along h =
      omega (arith, ltb-true (length p.rejects) most few, length-append p.rejects (record { row = q.last.row; statement = q.last.statement; reason = reason } ∷ []))

  ends : (store : Store) (p : Progress) (w : List Write) (o : Outcome) → Reaches store Along (chain store) p w o → length p.rejects ≤ most → length (rejects_of o) ≤ most
  ends store p w (Ended ending q v) along h = along h

  pub no_more : (script : BoundScript) (params : List (List ℕ × ParamText)) (decimal : ℕ) (rows : List (List (List ℕ))) (store : Store) (writes : List Write)
      → length (rejects_of (load script params decimal most rows store writes)) ≤ most
  no_more script params decimal rows store writes =
      ends store (start script params) writes (load script params decimal most rows store writes)
      (sections_steady store Along (chain store) most passes script decimal rows (start script params) writes) (omega arith)
