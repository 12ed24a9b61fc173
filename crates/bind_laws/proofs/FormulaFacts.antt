-- What a formula that is bound reads meets the conditions.
use Rattle.std.proofs.Common.{◌≡◌, ◌<◌, ℕ, ℤ, List, [], ◌∷◌, ◌++◌, length, map, Ok, All, refl, sym, subst, ◌∙◌, Bool, true, false, if◌then◌else◌, codes, bytes_eq}
use Rattle.std.proofs.lemmas.List.Elements.{All-nil, All-cons, All-append, All-weaker}
use Rattle.cube_space.specs.Layout.{Layout}
use Rattle.cube_space.specs.Cells.{IsSpace}
use Rattle.rule_laws.specs.declared.reference.Reference.{Reference}
use Rattle.rule_laws.specs.declared.operation.Op.{Op}
use Rattle.rule_laws.specs.declared.operation.Fun.{Fun}
use Rattle.rule_laws.specs.declared.operation.Fun.TheVariants as funs
use Rattle.rule_laws.specs.declared.formula.Formula.{Formula}
use Rattle.rule_laws.specs.declared.formula.Formula.TheVariants as formulas
use Rattle.rule_laws.specs.declared.formula.Truth.{Truth}
use Rattle.rule_laws.specs.declared.formula.Truth.TheVariants as truths
use Rattle.rule_laws.specs.Meaning.{Precedent, Named, Components, precedents, truth_precedents}
use Rattle.rule_model.specs.Conditions.{IsPrecedent, IsNamed, IsReference}
use Rattle.rule_laws.specs.declared.operation.Op.TheVariants as ops
use Rattle.rule_laws.specs.declared.operation.Rel.{Rel}
use Rattle.rule_laws.specs.declared.operation.Rel.TheVariants as rels
use Rattle.rule_tree.specs.declared.tree.TreeOp.{TreeOp}
use Rattle.rule_tree.specs.declared.tree.TreeOp.TheVariants as signs
use Rattle.rule_tree.specs.declared.tree.Tree.{Tree, roll-Tree}
use Rattle.rule_tree.specs.declared.tree.Tree.TheFolds.{map-Tree, ind-Tree}
use Rattle.rule_tree.specs.declared.tree.Tree.TheOpen.{Tree-F}
use Rattle.bind_areas.specs.Meaning.{Meaning, ◌>>=◌}
use Rattle.bind_areas.specs.Areas.{bracket_of}
use Rattle.rule_bind.specs.declared.standing.Standing.{Standing}
use Rattle.rule_bind.specs.declared.standing.Standing.TheVariants.{Part, ConsolidatedPart, Within}
use Rattle.rule_bind.specs.Functions.{function_of, operator_of}
use Rattle.rule_bind.specs.References.{db_of, children_of}
use Rattle.rule_bind.specs.Formulas.{Meanings, Meant, alone, children, unary, binary, choice, choice_call, unary_call, binary_call, children_call, call_value, operator_value, operator_truth, meanings_step, meanings, meant}
use Rattle.rule_bind.specs.Sureness.{Sets, test_with, side, comparison}
use Rattle.rule_bind.proofs.FormulaFacts.{by_layer}
use Rattle.rule_bind.proofs.OwnFacts.{IsTable, IsTableTruth, IsCounted, call_table, texts_table, call_counted}
use Rattle.rule_bind.proofs.Got.{got, answer}
use Rattle.bind_laws.proofs.Sides.{side_has}
use Rattle.bind_laws.proofs.AreaFacts.{bracket_valid}
use Rattle.bind_laws.proofs.ReferenceFacts.{db_valid, children_low}
use Rattle.rule_laws.proofs.PrecedentFacts.{number_reads, stet_reads, continue_reads, children_reads, reference_reads, table_reads, binary_reads, unary_reads, if_reads, compare_reads, and_reads, or_reads, not_reads}

pub either_way : {X : Type 0} (P : X → Type 0) (b : Bool) (x y : X) → P x → P y → P (if b then x else y)
either_way P true x y first second = first
either_way P false x y first second = second

module _ (space : Layout) (cube : ℕ) where
  -- what may be read by a formula that stands so
  abbrev pub IsRead : Standing → Precedent → Type 0
  IsRead Part p = IsPrecedent space cube p × IsNamed p
  IsRead ConsolidatedPart p = IsPrecedent space cube p
  IsRead Within p = IsPrecedent space cube p × IsNamed p

  abbrev pub AreRead : Standing → List Precedent → Type 0
  AreRead at ps = All (IsRead at) ps

  -- each formula, and each truth, that may be meant reads only that
  abbrev pub IsGood : Standing → Meaning Formula → Type 0
  IsGood at m = (f : Formula) → m ≡ Ok f → AreRead at (precedents f)

  abbrev pub IsGoodTruth : Standing → Meaning Truth → Type 0
  IsGoodTruth at m = (q : Truth) → m ≡ Ok q → AreRead at (truth_precedents q)

  pub record IsSound (m : Meanings) : Type 0 where
    pub value : (at : Standing) → IsGood at (m.value at)
    pub truth : IsGoodTruth Within m.truth

  wider : (at : Standing) (p : Precedent) → IsRead Within p → IsRead at p
  wider Part p is = is
  wider ConsolidatedPart p is = is.0
  wider Within p is = is

  all_wider : (at : Standing) (ps : List Precedent) → AreRead Within ps → AreRead at ps
  all_wider at ps all = All-weaker (IsRead Within) (IsRead at) (wider at) ps all

  none_read : (at : Standing) (ps : List Precedent) → ps ≡ [] → AreRead at ps
  none_read at ps is = subst (AreRead at) (sym is) (All-nil (IsRead at))

  one_read : (at : Standing) (p : Precedent) (ps : List Precedent) → ps ≡ p ∷ [] → IsRead at p → AreRead at ps
  one_read at p ps is good = subst (AreRead at) (sym is) (All-cons (IsRead at) p [] good (All-nil (IsRead at)))

  both_read : (at : Standing) (ps qs rs : List Precedent) → rs ≡ ps ++ qs → AreRead at ps → AreRead at qs → AreRead at rs
  both_read at ps qs rs is first second = subst (AreRead at) (sym is) (All-append (IsRead at) ps qs first second)

  given : (at : Standing) (x f : Formula) → answer x ≡ Ok f → AreRead at (precedents x) → AreRead at (precedents f)
  given at x f is good = let same : x ≡ f = cc is in subst (λ g. AreRead at (precedents g)) same good

  given_truth : (at : Standing) (x q : Truth) → answer x ≡ Ok q → AreRead at (truth_precedents x) → AreRead at (truth_precedents q)
  given_truth at x q is good = let same : x ≡ q = cc is in subst (λ g. AreRead at (truth_precedents g)) same good

  unary_good : (at : Standing) (function : Fun) (m : Meant) → IsSound m.1 → IsGood at (unary function m)
  unary_good at function m sound f is =
      let (a, first, rest) = got (m.1.value Within) (λ a. Ok (formulas.Unary function a)) f is in
      given at (formulas.Unary function a) f rest (subst (AreRead at) (sym (unary_reads function a)) (all_wider at (precedents a) (sound.value Within a first)))

  binary_good : (at : Standing) (op : Op) (left right : Meant) → IsSound left.1 → IsSound right.1 → IsGood at (binary op left right)
  binary_good at op left right l r f is =
      let (a, first, more) = got (left.1.value Within) (λ a. right.1.value Within >>= (λ b. Ok (formulas.Binary op a b))) f is in
      let (b, second, rest) = got (right.1.value Within) (λ b. Ok (formulas.Binary op a b)) f more in
      given at (formulas.Binary op a b) f rest
      (both_read at (precedents a) (precedents b) _ (binary_reads op a b) (all_wider at (precedents a) (l.value Within a first)) (all_wider at (precedents b) (r.value Within b second)))

  choice_good : (at : Standing) (condition left right : Meant) → IsSound condition.1 → IsSound left.1 → IsSound right.1 → IsGood at (choice at condition left right)
  choice_good at condition left right c l r f is =
      let (q, zeroth, many) = got condition.1.truth (λ q. left.1.value at >>= (λ a. right.1.value at >>= (λ b. Ok (formulas.If q a b)))) f is in
      let (a, first, more) = got (left.1.value at) (λ a. right.1.value at >>= (λ b. Ok (formulas.If q a b))) f many in
      let (b, second, rest) = got (right.1.value at) (λ b. Ok (formulas.If q a b)) f more in
      let front = both_read at (truth_precedents q) (precedents a) (truth_precedents q ++ precedents a) refl (all_wider at (truth_precedents q) (c.truth q zeroth)) (l.value at a first) in
      given at (formulas.If q a b) f rest (both_read at (truth_precedents q ++ precedents a) (precedents b) _ (if_reads q a b) front (r.value at b second))

  alone_good : (at : Standing) (x : Formula) → precedents x ≡ [] → IsGood at (alone x at)
  alone_good Part x none f is = given Part x f is (none_read Part (precedents x) none)
  alone_good ConsolidatedPart x none f is = given ConsolidatedPart x f is (none_read ConsolidatedPart (precedents x) none)
  alone_good Within x none f is = absurd (cc is)

  table_good : (at : Standing) (f : Formula) → IsTable f → AreRead at (precedents f)
  table_good at f (place, table, same) =
      subst (λ g. AreRead at (precedents g)) (sym same) (none_read at (precedents (formulas.Table place table)) (table_reads place table))

  -- a comparison as it is bound, which may have a number in place of a table
  comparison_good : (sets : Sets) (rel : Rel) (a b : Formula) → AreRead Within (precedents a) → AreRead Within (precedents b) → AreRead Within (truth_precedents (comparison space cube sets rel a b))
  unfolding comparison
  comparison_good sets rel a b first second =
      let P : Formula → Type 0 = λ f. AreRead Within (precedents f) in
      let number : (k : ℤ) → P (formulas.Number k) = λ k. none_read Within (precedents (formulas.Number k)) (number_reads k) in
      let left = side space cube sets (test_with rel true b) a in
      let right = side space cube sets (test_with rel false a) b in
      both_read Within (precedents left) (precedents right) _ (compare_reads rel left right)
      (side_has space cube sets P number (test_with rel true b) a first) (side_has space cube sets P number (test_with rel false a) b second)

  table_truth_good : (sets : Sets) (q : Truth) → IsTableTruth space cube sets q → AreRead Within (truth_precedents q)
  table_truth_good sets q (rel, place, table, k, same) =
      subst (λ z. AreRead Within (truth_precedents z)) (sym same)
      (comparison_good sets rel (formulas.Table place table) (formulas.Number k) (none_read Within _ (table_reads place table)) (none_read Within _ (number_reads k)))

  counted_good : (at : Standing) (f : Formula) → IsCounted f → AreRead at (precedents f)
  counted_good at f (k, same) =
      subst (λ g. AreRead at (precedents g)) (sym same) (none_read at _ (unary_reads funs.Trunc (formulas.Number k) ∙ number_reads k))

  children_good : (at : Standing) (tree : Tree) → IsGood at (children space cube at tree)
  children_good Part tree f is = absurd (cc is)
  children_good ConsolidatedPart tree f is =
      let (dim, found, rest) = got (children_of space cube tree) (λ dim. Ok (formulas.Children dim)) f is in
      given ConsolidatedPart (formulas.Children dim) f rest (one_read ConsolidatedPart (Components dim) _ (children_reads dim) (children_low space cube tree dim found))
  children_good Within tree f is = absurd (cc is)

  -- all of the parts are sound
  abbrev pub AreSound : List Meant → Type 0
  AreSound [] = Unit {0}
  AreSound (m ∷ ms) = IsSound m.1 × AreSound ms

  choice_call_good : (at : Standing) (ms : List Meant) → AreSound ms → IsGood at (choice_call at ms)
  choice_call_good at (c ∷ l ∷ r ∷ []) sound = choice_good at c l r sound.0 sound.1.0 sound.1.1.0
  choice_call_good at _ sound = λ f is. absurd (cc is)

  unary_call_good : (at : Standing) (function : Fun) (ms : List Meant) → AreSound ms → IsGood at (unary_call function ms)
  unary_call_good at function (m ∷ []) sound = unary_good at function m sound.0
  unary_call_good at function _ sound = λ f is. absurd (cc is)

  binary_call_good : (at : Standing) (op : Op) (ms : List Meant) → AreSound ms → IsGood at (binary_call op ms)
  binary_call_good at op (l ∷ r ∷ []) sound = binary_good at op l r sound.0 sound.1.0
  binary_call_good at op _ sound = λ f is. absurd (cc is)

  children_call_good : (at : Standing) (ms : List Meant) → IsGood at (children_call space cube at ms)
  children_call_good at (dim ∷ []) = children_good at dim.0
  children_call_good at _ = λ f is. absurd (cc is)

  compare_good : (sets : Sets) (rel : Rel) (left right : Meant) → IsSound left.1 → IsSound right.1 → IsGoodTruth Within (left.1.value Within >>= (λ a. right.1.value Within >>= (λ b. Ok (comparison space cube sets rel a b))))
  compare_good sets rel left right l r q is =
      let (a, first, more) = got (left.1.value Within) (λ a. right.1.value Within >>= (λ b. Ok (comparison space cube sets rel a b))) q is in
      let (b, second, rest) = got (right.1.value Within) (λ b. Ok (comparison space cube sets rel a b)) q more in
      given_truth Within (comparison space cube sets rel a b) q rest (comparison_good sets rel a b (l.value Within a first) (r.value Within b second))

  operator_truth_good : (sets : Sets) (op : TreeOp) (left right : Meant) → IsSound left.1 → IsSound right.1 → IsGoodTruth Within (operator_truth space cube sets (operator_of op) left right)
  operator_truth_good sets signs.And left right l r = λ q is.
      let (a, first, more) = got left.1.truth (λ a. right.1.truth >>= (λ b. Ok (truths.And a b))) q is in
      let (b, second, rest) = got right.1.truth (λ b. Ok (truths.And a b)) q more in
      given_truth Within (truths.And a b) q rest (both_read Within (truth_precedents a) (truth_precedents b) _ (and_reads a b) (l.truth a first) (r.truth b second))
  operator_truth_good sets signs.Or left right l r = λ q is.
      let (a, first, more) = got left.1.truth (λ a. right.1.truth >>= (λ b. Ok (truths.Or a b))) q is in
      let (b, second, rest) = got right.1.truth (λ b. Ok (truths.Or a b)) q more in
      given_truth Within (truths.Or a b) q rest (both_read Within (truth_precedents a) (truth_precedents b) _ (or_reads a b) (l.truth a first) (r.truth b second))
  operator_truth_good sets signs.Equal left right l r = compare_good sets rels.Equal left right l r
  operator_truth_good sets signs.Unequal left right l r = compare_good sets rels.Unequal left right l r
  operator_truth_good sets signs.Less left right l r = compare_good sets rels.Less left right l r
  operator_truth_good sets signs.Greater left right l r = compare_good sets rels.Greater left right l r
  operator_truth_good sets signs.AtMost left right l r = compare_good sets rels.AtMost left right l r
  operator_truth_good sets signs.AtLeast left right l r = compare_good sets rels.AtLeast left right l r
  operator_truth_good sets signs.Same left right l r = λ q is. table_truth_good sets q (texts_table space cube sets rels.Equal left.0 right.0 q is)
  operator_truth_good sets signs.Other left right l r = λ q is. table_truth_good sets q (texts_table space cube sets rels.Unequal left.0 right.0 q is)
  operator_truth_good sets _ left right l r = λ q is. absurd (cc is)

  not_good : (m : Meant) → IsSound m.1 → IsGoodTruth Within (m.1.truth >>= (λ q. Ok (truths.Not q)))
  not_good m sound q is =
      let (a, first, rest) = got m.1.truth (λ a. Ok (truths.Not a)) q is in
      given_truth Within (truths.Not a) q rest (subst (AreRead Within) (sym (not_reads a)) (sound.truth a first))

  operator_good : (at : Standing) (op : TreeOp) (left right : Meant) → IsSound left.1 → IsSound right.1 → IsGood at (operator_value (operator_of op) left right)
  operator_good at signs.Add left right l r = binary_good at ops.Add left right l r
  operator_good at signs.Sub left right l r = binary_good at ops.Sub left right l r
  operator_good at signs.Mul left right l r = binary_good at ops.Mul left right l r
  operator_good at signs.Div left right l r = binary_good at ops.Div left right l r
  operator_good at signs.DivSafe left right l r = binary_good at ops.DivSafe left right l r
  operator_good at _ left right l r = λ f is. absurd (cc is)

  module _ (valid : IsSpace space) (low : cube < length space.cubes) where
    named : (at : Standing) (r : Reference) → IsReference space cube r → IsRead at (Named r)
    named Part r is = (is, tt)
    named ConsolidatedPart r is = is
    named Within r is = (is, tt)

    -- a reference that is meant
    reference_good : (at : Standing) (m : Meaning Reference) → ((r : Reference) → m ≡ Ok r → IsReference space cube r) → IsGood at (m >>= (λ r. Ok (formulas.Ref r)))
    reference_good at m each f is =
        let (r, found, rest) = got m (λ r. Ok (formulas.Ref r)) f is in
        given at (formulas.Ref r) f rest (one_read at (Named r) _ (reference_reads r) (named at r (each r found)))

    call_good : (at : Standing) (word : List ℕ) (ms : List Meant) → AreSound ms → IsGood at (call_value space cube at (function_of word) ms)
    call_good at word ms all =
        either_way (λ function. IsGood at (call_value space cube at function ms)) (bytes_eq word (codes "IF")) _ _ (choice_call_good at ms all)
        (either_way (λ function. IsGood at (call_value space cube at function ms)) (bytes_eq word (codes "DB")) _ _ (reference_good at (db_of space cube (map (λ m. m.0) ms)) (db_valid space cube valid low (map (λ m. m.0) ms)))
        (either_way (λ function. IsGood at (call_value space cube at function ms)) (bytes_eq word (codes "CONSOLIDATECHILDREN")) _ _ (children_call_good at ms)
        (either_way (λ function. IsGood at (call_value space cube at function ms)) (bytes_eq word (codes "DIMSIZ")) _ _ (λ f is. counted_good at f (call_counted space (map (λ m. m.0) ms) f is))
        (either_way (λ function. IsGood at (call_value space cube at function ms)) (bytes_eq word (codes "ABS")) _ _ (unary_call_good at funs.Abs ms all)
        (either_way (λ function. IsGood at (call_value space cube at function ms)) (bytes_eq word (codes "SIGN")) _ _ (unary_call_good at funs.Sign ms all)
        (either_way (λ function. IsGood at (call_value space cube at function ms)) (bytes_eq word (codes "INT")) _ _ (unary_call_good at funs.Int ms all)
        (either_way (λ function. IsGood at (call_value space cube at function ms)) (bytes_eq word (codes "ROUND")) _ _ (unary_call_good at funs.Round ms all)
        (either_way (λ function. IsGood at (call_value space cube at function ms)) (bytes_eq word (codes "TRUNC")) _ _ (unary_call_good at funs.Trunc ms all)
        (either_way (λ function. IsGood at (call_value space cube at function ms)) (bytes_eq word (codes "MAX")) _ _ (binary_call_good at ops.Max ms all)
        (either_way (λ function. IsGood at (call_value space cube at function ms)) (bytes_eq word (codes "MIN")) _ _ (binary_call_good at ops.Min ms all)
        (either_way (λ function. IsGood at (call_value space cube at function ms)) (bytes_eq word (codes "MOD")) _ _ (binary_call_good at ops.Mod ms all)
        (either_way (λ function. IsGood at (call_value space cube at function ms)) (bytes_eq word (codes "ROUNDP")) _ _ (binary_call_good at ops.RoundTo ms all)
        (either_way (λ function. IsGood at (call_value space cube at function ms)) (bytes_eq word (codes "DIMIX")) _ _ (λ f is. table_good at f (call_table space cube _ (map (λ m. m.0) ms) f is))
        (either_way (λ function. IsGood at (call_value space cube at function ms)) (bytes_eq word (codes "ELLEV")) _ _ (λ f is. table_good at f (call_table space cube _ (map (λ m. m.0) ms) f is))
        (either_way (λ function. IsGood at (call_value space cube at function ms)) (bytes_eq word (codes "ELISPAR")) _ _ (λ f is. table_good at f (call_table space cube _ (map (λ m. m.0) ms) f is))
        (either_way (λ function. IsGood at (call_value space cube at function ms)) (bytes_eq word (codes "ELISANC")) _ _ (λ f is. table_good at f (call_table space cube _ (map (λ m. m.0) ms) f is))
        (either_way (λ function. IsGood at (call_value space cube at function ms)) (bytes_eq word (codes "ELISCOMP")) _ _ (λ f is. table_good at f (call_table space cube _ (map (λ m. m.0) ms) f is))
        (either_way (λ function. IsGood at (call_value space cube at function ms)) (bytes_eq word (codes "ATTRN")) _ _ (λ f is. table_good at f (call_table space cube _ (map (λ m. m.0) ms) f is))
        (either_way (λ function. IsGood at (call_value space cube at function ms)) (bytes_eq word (codes "ELCOMPN")) _ _ (λ f is. table_good at f (call_table space cube _ (map (λ m. m.0) ms) f is))
        (either_way (λ function. IsGood at (call_value space cube at function ms)) (bytes_eq word (codes "ELPARN")) _ _ (λ f is. table_good at f (call_table space cube _ (map (λ m. m.0) ms) f is))
        (λ f is. absurd (cc is))))))))))))))))))))))

    module _ (sets : Sets) where
      abbrev Held : Type 0
      Held = (tree : Tree) × IsSound (meanings space cube sets tree)

      abbrev out : Tree-F Held → Tree-F Tree
      out l = map-Tree Held Tree (λ h. h.0) l

      all_sound : (hs : List Held) → AreSound (map (meant space cube sets) (map (λ h. h.0) hs))
      all_sound [] = tt
      all_sound (h ∷ hs) = (h.1, all_sound hs)

      step : (l : Tree-F Held) → IsSound (meanings_step space cube sets (map-Tree Tree Meant (meant space cube sets) (out l)))
      step (Tree-F.Number k) = record { value = λ at f is. given at (formulas.Number k) f is (none_read at _ (number_reads k)); truth = λ q is. absurd (cc is) }
      step (Tree-F.Text bytes) = record { value = λ at f is. absurd (cc is); truth = λ q is. absurd (cc is) }
      step (Tree-F.Current dim) = record { value = λ at f is. absurd (cc is); truth = λ q is. absurd (cc is) }
      step (Tree-F.Bracket simples) = record { value = λ at. reference_good at (bracket_of space cube simples) (λ r. bracket_valid space cube simples r low); truth = λ q is. absurd (cc is) }
      step Tree-F.Stet = record { value = λ at. alone_good at formulas.Stet stet_reads; truth = λ q is. absurd (cc is) }
      step Tree-F.Continue = record { value = λ at. alone_good at formulas.Continue continue_reads; truth = λ q is. absurd (cc is) }
      step (Tree-F.Call word hs) = record { value = λ at. call_good at word (map (meant space cube sets) (map (λ h. h.0) hs)) (all_sound hs); truth = λ q is. absurd (cc is) }
      step (Tree-F.Minus h) = record { value = λ at. unary_good at funs.Minus (meant space cube sets h.0) h.1; truth = λ q is. absurd (cc is) }
      step (Tree-F.Not h) = record { value = λ at f is. absurd (cc is); truth = not_good (meant space cube sets h.0) h.1 }
      step (Tree-F.Binary op left right) = record {
        value = λ at. operator_good at op (meant space cube sets left.0) (meant space cube sets right.0) left.1 right.1;
        truth = operator_truth_good sets op (meant space cube sets left.0) (meant space cube sets right.0) left.1 right.1;
      }

      layer : (l : Tree-F Held) → IsSound (meanings space cube sets (roll-Tree (out l)))
      layer l = subst IsSound (sym (by_layer space cube sets (out l))) (step l)

      pub sound : (tree : Tree) → IsSound (meanings space cube sets tree)
      sound = ind-Tree (λ tree. IsSound (meanings space cube sets tree)) (λ x l is. subst (λ z. IsSound (meanings space cube sets (roll-Tree z))) is (layer l))
