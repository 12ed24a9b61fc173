-- A rule file has one text, or one first fault.
use Rattle.std.proofs.Common.{◌≡◌, inl, ℕ, Option, Some, None, Ok, Err, List, sym, ◌∙◌, ap}
use Rattle.rule_tree.specs.declared.rule.RuleText.{RuleText}
use Rattle.rule_tree.specs.declared.excess.Excess.TheVariants as excesses
use Rattle.rule_reader.specs.Answers.{Answers}
use Rattle.rule_reader.specs.declared.fault.RuleFault.{RuleFault}
use Rattle.rule_reader.specs.declared.fault.RuleFault.TheVariants as faults
use Rattle.rule_text_laws.proofs.RuleTexts.{rule_texts}
use Rattle.model_bind.specs.Files.{RuleFile}
use Rattle.model_bind.specs.declared.fault.DeployFault.{DeployFault}
use Rattle.model_bind.specs.Rules.{no_text, text_refusal, text_stage}
use Rattle.deploy_laws.specs.OneAnswer.{HasOneAnswer}
use Rattle.deploy_laws.proofs.Single.{single-found}

module _ (name bytes : List ℕ) where
  abbrev IsFor : RuleFault → DeployFault → Type 0
  IsFor fault told = Answers bytes (Err fault) × (text_refusal name fault ≡ Some told)

  one-fault : (a b : RuleFault) (e f : DeployFault) → IsFor a e → IsFor b f → a ≡ b
  one-fault (faults.Syntax k) (faults.Syntax l) e f h g = ap (λ n. faults.Syntax n) (rule_texts.one_place bytes k l h.0 g.0)
  one-fault (faults.Syntax k) (faults.TooDeep l) e f h g = absurd (rule_texts.one_fault bytes k (excesses.TooDeep l) h.0 g.0)
  one-fault (faults.Syntax k) (faults.TooMany l) e f h g = absurd (rule_texts.one_fault bytes k (excesses.TooMany l) h.0 g.0)
  one-fault (faults.TooDeep k) (faults.Syntax l) e f h g = absurd (rule_texts.one_fault bytes l (excesses.TooDeep k) g.0 h.0)
  one-fault (faults.TooMany k) (faults.Syntax l) e f h g = absurd (rule_texts.one_fault bytes l (excesses.TooMany k) g.0 h.0)
  one-fault (faults.TooDeep k) (faults.TooDeep l) e f h g =
      let same : excesses.TooDeep k ≡ excesses.TooDeep l = rule_texts.one_cause bytes (excesses.TooDeep k) (excesses.TooDeep l) h.0 g.0 in
      let place : k ≡ l = cc in
      ap (λ n. faults.TooDeep n) place
  one-fault (faults.TooDeep k) (faults.TooMany l) e f h g =
      let clash : excesses.TooDeep k ≡ excesses.TooMany l = rule_texts.one_cause bytes (excesses.TooDeep k) (excesses.TooMany l) h.0 g.0 in
      absurd (cc)
  one-fault (faults.TooMany k) (faults.TooDeep l) e f h g =
      let clash : excesses.TooMany k ≡ excesses.TooDeep l = rule_texts.one_cause bytes (excesses.TooMany k) (excesses.TooDeep l) h.0 g.0 in
      absurd (cc)
  one-fault (faults.TooMany k) (faults.TooMany l) e f h g =
      let same : excesses.TooMany k ≡ excesses.TooMany l = rule_texts.one_cause bytes (excesses.TooMany k) (excesses.TooMany l) h.0 g.0 in
      let place : k ≡ l = cc in
      ap (λ n. faults.TooMany n) place
  one-fault faults.Memory b e f h g = let clash : None ≡ Some e = h.1 in absurd (cc)
  one-fault (faults.Syntax k) faults.Memory e f h g = let clash : None ≡ Some f = g.1 in absurd (cc)
  one-fault (faults.TooDeep k) faults.Memory e f h g = let clash : None ≡ Some f = g.1 in absurd (cc)
  one-fault (faults.TooMany k) faults.Memory e f h g = let clash : None ≡ Some f = g.1 in absurd (cc)

  one-told : (a b : RuleFault) (e f : DeployFault) → IsFor a e → IsFor b f → e ≡ f
  one-told a b e f h g =
      let same : text_refusal name a ≡ text_refusal name b = ap (text_refusal name) (one-fault a b e f h g) in
      let told : Some e ≡ Some f = sym h.1 ∙ same ∙ g.1 in
      cc

  no-fault : (text : RuleText) (a : RuleFault) (e : DeployFault) → Answers bytes (Ok text) → IsFor a e → ⊥
  no-fault text (faults.Syntax k) e h g = rule_texts.no_syntax bytes text h.0 k h.1 g.0
  no-fault text (faults.TooDeep k) e h g = rule_texts.no_refusal bytes text h.0 (excesses.TooDeep k) h.1 g.0
  no-fault text (faults.TooMany k) e h g = rule_texts.no_refusal bytes text h.0 (excesses.TooMany k) h.1 g.0
  no-fault text faults.Memory e h g = let clash : None ≡ Some e = g.1 in cc

pub single-text : (file : Option RuleFile) → HasOneAnswer (text_stage file)
single-text None = single-found no_text
single-text (Some file) = record {
  one_found = λ a b h k. rule_texts.one_tree file.bytes a b h.0 k.0 h.1 k.1;
  one_refusal = λ e f h k. inl (one-told file.name file.bytes h.0 k.0 e f (h.1, h.2) (k.1, k.2));
  not_both = λ text e h k. no-fault file.name file.bytes text k.0 e h (k.1, k.2);
}
