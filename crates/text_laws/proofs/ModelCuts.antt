-- A model text can be cut into its pieces in one way only.
use Rattle.std.proofs.Common.{◌≡◌, List, [], ◌∷◌, ◌++◌, Option, Some, refl, sym, ◌∙◌, ap, subst, inl, inr, append-nil, append_assoc}
use Rattle.cube_lex.specs.Lexeme.{Lexeme}
use Rattle.grammar.specs.Watch.{Passes, Refuses}
use Rattle.grammar.proofs.Cuts.{Cuts, nothing_in_front, no_token, passes_once, passes_not_refused, within_not_refused, refuses_once}
use Rattle.dim_text.specs.Progress.{Progress}
use Rattle.dim_text.specs.Statement.{body}
use Rattle.dim_text.specs.Building.{building}
use Rattle.model_text.specs.Statement.{Piece, piece}
use Rattle.model_text.specs.Watching.{Seen, with_block, of_block, BodyPasses, BodyBegins, BodyRefused, watching}
use Rattle.model_text.specs.declared.fault.ModelTextFault.{ModelTextFault}
use Rattle.dim_text.proofs.OneReading.{building_cuts, body_ends_itself}
use Rattle.text_laws.proofs.Blocks.{refused_at_once}
use Rattle.text_laws.proofs.ModelPieces.{piece_cuts, piece_has_token, piece_or_body, body_begins}

-- A body.

same_start : (o : Option Progress) (a b : Progress) → o ≡ Some a → o ≡ Some b → a ≡ b
same_start o a b e f = cc

body_pass_pass : (s m n : Seen) (u v : List Lexeme) → BodyPasses s u m → BodyPasses s (u ++ v) n → (v ≡ []) × (m ≡ n)
body_pass_pass s m n u v b d =
    let (none, _) = body_ends_itself.at u v tt tt b.text d.text in
    let start : b.start ≡ d.start = same_start _ b.start d.start b.head d.head in
    let whole : u ++ v ≡ u = ap (λ z. u ++ z) none ∙ append-nil u in
    let built : Passes building b.start u d.block = subst (λ z. Passes building z u d.block) (sym start) (subst (λ z. Passes building d.start z d.block) whole d.built) in
    (none, b.next ∙ ap (with_block s) (passes_once building building_cuts b.start b.block d.block u b.built built) ∙ sym d.next)

body_pass_refuse : (s m : Seen) (c : ModelTextFault) (u v : List Lexeme) → BodyPasses s u m → BodyRefused s (u ++ v) c → ⊥
body_pass_refuse s m c u v b d =
    let (more, a, text) = d.alive in
    let (none, _) = body_ends_itself.at u (v ++ more) tt a b.text (subst (λ z. body z a) (append_assoc u v more) text) in
    let (empty, _) = nothing_in_front v more (sym none) in
    let start : b.start ≡ d.start = same_start _ b.start d.start b.head d.head in
    let refused : Refuses building b.start (u ++ v) d.refusal = subst (λ z. Refuses building z (u ++ v) d.refusal) (sym start) d.refused in
    passes_not_refused building building_cuts b.start b.block d.refusal u (u ++ v) [] b.built refused (sym (append-nil u) ∙ ap (λ z. u ++ z) (sym empty) ∙ sym (append-nil (u ++ v)))

body_refuse_pass : (s m : Seen) (c : ModelTextFault) (u v : List Lexeme) → BodyRefused s u c → BodyPasses s (u ++ v) m → ⊥
body_refuse_pass s m c u v b d =
    let start : b.start ≡ d.start = same_start _ b.start d.start b.head d.head in
    let refused : Refuses building d.start u b.refusal = subst (λ z. Refuses building z u b.refusal) start b.refused in
    passes_not_refused building building_cuts d.start d.block b.refusal (u ++ v) u v d.built refused refl

body_refuse_refuse : (s : Seen) (c e : ModelTextFault) (u v : List Lexeme) → BodyRefused s u c → BodyRefused s (u ++ v) e → (v ≡ []) × (c ≡ e)
body_refuse_refuse s c e u v b d =
    let start : b.start ≡ d.start = same_start _ b.start d.start b.head d.head in
    let refused : Refuses building b.start (u ++ v) d.refusal = subst (λ z. Refuses building z (u ++ v) d.refusal) (sym start) d.refused in
    let same : b.refusal ≡ d.refusal = refuses_once building building_cuts b.start b.refusal d.refusal u v (u ++ v) [] b.refused refused (sym (append-nil (u ++ v))) in
    (refused_at_once b.start b.refusal d.refusal u v b.refused refused, b.is ∙ ap of_block same ∙ sym d.is)

body_pass_begin : (s m : Seen) (u v : List Lexeme) → BodyPasses s u m → BodyBegins s (u ++ v) → ⊥
body_pass_begin s m u v b d =
    let (none, _) = body_ends_itself.at u (v ++ d.next ∷ d.more) tt tt b.text (subst (λ z. body z tt) (append_assoc u v (d.next ∷ d.more)) d.text) in
    let (_, gone) = nothing_in_front v (d.next ∷ d.more) (sym none) in
    no_token d.next d.more (sym gone)

body_refuse_begin : (s : Seen) (c : ModelTextFault) (u v : List Lexeme) → BodyRefused s u c → BodyBegins s (u ++ v) → ⊥
body_refuse_begin s c u v b d =
    let start : b.start ≡ d.start = same_start _ b.start d.start b.head d.head in
    let refused : Refuses building d.start u b.refusal = subst (λ z. Refuses building z u b.refusal) start b.refused in
    within_not_refused building building_cuts d.start b.refusal (u ++ v) u v d.within refused refl

-- Each piece has a token.

abbrev Some_in : List Lexeme → Type 0
Some_in u = (t : Lexeme) × (v : List Lexeme) × (u ≡ t ∷ v)

behind_some : (whole u : List Lexeme) → Some_in u → Some_in (whole ++ u)
behind_some [] u some = some
behind_some (t ∷ whole) u some = (t, whole ++ u, refl)

passes_some : (s t : Seen) (u : List Lexeme) → watching.passes s u t → Some_in u
passes_some s t u (inl (x, h, _)) = piece_has_token.at u x h
passes_some s t u (inr b) = let (x, v, is, _) = body_begins.at u tt b.text in (x, v, is)

body_refused_some : (s : Seen) (u : List Lexeme) (c : ModelTextFault) → BodyRefused s u c → Some_in u
body_refused_some s u c b = subst Some_in (sym b.refused.parts) (behind_some b.refused.whole b.refused.piece (building_cuts.some_refuse b.refused.state b.refused.piece b.refusal b.refused.refused))

refuses_some : (s : Seen) (u : List Lexeme) (c : ModelTextFault) → watching.refuses s u c → Some_in u
refuses_some s u c (inl (x, h, _)) = piece_has_token.at u x h
refuses_some s u c (inr b) = body_refused_some s u c b

-- Where a piece begins, no body does.

clash : (u v w a b : List Lexeme) (x : Piece) (y : Unit {0}) → Some_in u → a ≡ u ++ v → b ≡ u ++ w → piece a x → body b y → ⊥
clash u v w a b x y (t, z, is) first second h k =
    piece_or_body t (z ++ v) (z ++ w) x y (subst (λ l. piece l x) (first ∙ ap (λ l. l ++ v) is) h) (subst (λ l. body l y) (second ∙ ap (λ l. l ++ w) is) k)

pass_pass_at : (s m n : Seen) (u v : List Lexeme) → Some_in u → watching.passes s u m → watching.passes s (u ++ v) n → (v ≡ []) × (m ≡ n)
pass_pass_at s m n u v some (inl h) (inl k) = piece_cuts.pass_pass s m n u v h k
pass_pass_at s m n u v some (inl (x, h, _)) (inr d) = absurd (clash u [] v u (u ++ v) x tt some (sym (append-nil u)) refl h d.text)
pass_pass_at s m n u v some (inr b) (inl (y, k, _)) = absurd (clash u v [] (u ++ v) u y tt some refl (sym (append-nil u)) k b.text)
pass_pass_at s m n u v some (inr b) (inr d) = body_pass_pass s m n u v b d

pass_refuse_at : (s m : Seen) (c : ModelTextFault) (u v : List Lexeme) → Some_in u → watching.passes s u m → watching.refuses s (u ++ v) c → ⊥
pass_refuse_at s m c u v some (inl h) (inl k) = piece_cuts.pass_refuse s m c u v h k
pass_refuse_at s m c u v some (inl (x, h, _)) (inr d) = let (more, a, text) = d.alive in clash u [] (v ++ more) u ((u ++ v) ++ more) x a some (sym (append-nil u)) (append_assoc u v more) h text
pass_refuse_at s m c u v some (inr b) (inl (y, k, _)) = clash u v [] (u ++ v) u y tt some refl (sym (append-nil u)) k b.text
pass_refuse_at s m c u v some (inr b) (inr d) = body_pass_refuse s m c u v b d

refuse_pass_at : (s m : Seen) (c : ModelTextFault) (u v : List Lexeme) → Some_in u → watching.refuses s u c → watching.passes s (u ++ v) m → ⊥
refuse_pass_at s m c u v some (inl h) (inl k) = piece_cuts.refuse_pass s m c u v h k
refuse_pass_at s m c u v some (inl (x, h, _)) (inr d) = clash u [] v u (u ++ v) x tt some (sym (append-nil u)) refl h d.text
refuse_pass_at s m c u v some (inr b) (inl (y, k, _)) = let (more, a, text) = b.alive in clash u v more (u ++ v) (u ++ more) y a some refl refl k text
refuse_pass_at s m c u v some (inr b) (inr d) = body_refuse_pass s m c u v b d

refuse_refuse_at : (s : Seen) (c e : ModelTextFault) (u v : List Lexeme) → Some_in u → watching.refuses s u c → watching.refuses s (u ++ v) e → (v ≡ []) × (c ≡ e)
refuse_refuse_at s c e u v some (inl h) (inl k) = piece_cuts.refuse_refuse s c e u v h k
refuse_refuse_at s c e u v some (inl (x, h, _)) (inr d) = let (more, a, text) = d.alive in absurd (clash u [] (v ++ more) u ((u ++ v) ++ more) x a some (sym (append-nil u)) (append_assoc u v more) h text)
refuse_refuse_at s c e u v some (inr b) (inl (y, k, _)) = let (more, a, text) = b.alive in absurd (clash u v more (u ++ v) (u ++ more) y a some refl refl k text)
refuse_refuse_at s c e u v some (inr b) (inr d) = body_refuse_refuse s c e u v b d

pass_begin_at : (s m : Seen) (u v : List Lexeme) → Some_in u → watching.passes s u m → watching.begins s (u ++ v) → ⊥
pass_begin_at s m u v some (inl h) (inl k) = piece_cuts.pass_begin s m u v h k
pass_begin_at s m u v some (inl (x, h, _)) (inr d) = clash u [] (v ++ d.next ∷ d.more) u ((u ++ v) ++ d.next ∷ d.more) x tt some (sym (append-nil u)) (append_assoc u v (d.next ∷ d.more)) h d.text
pass_begin_at s m u v some (inr b) (inl (t, more, y, k)) = clash u (v ++ t ∷ more) [] ((u ++ v) ++ t ∷ more) u y tt some (append_assoc u v (t ∷ more)) (sym (append-nil u)) k b.text
pass_begin_at s m u v some (inr b) (inr d) = body_pass_begin s m u v b d

refuse_begin_at : (s : Seen) (c : ModelTextFault) (u v : List Lexeme) → Some_in u → watching.refuses s u c → watching.begins s (u ++ v) → ⊥
refuse_begin_at s c u v some (inl h) (inl k) = piece_cuts.refuse_begin s c u v h k
refuse_begin_at s c u v some (inl (x, h, _)) (inr d) = clash u [] (v ++ d.next ∷ d.more) u ((u ++ v) ++ d.next ∷ d.more) x tt some (sym (append-nil u)) (append_assoc u v (d.next ∷ d.more)) h d.text
refuse_begin_at s c u v some (inr b) (inl (t, more, y, k)) = let (rest, a, text) = b.alive in clash u (v ++ t ∷ more) rest ((u ++ v) ++ t ∷ more) (u ++ rest) y a some (append_assoc u v (t ∷ more)) refl k text
refuse_begin_at s c u v some (inr b) (inr d) = body_refuse_begin s c u v b d

pub watching_cuts : Cuts watching
watching_cuts = record {
  some_pass = λ s t u h. passes_some s t u h;
  some_refuse = λ s u c h. refuses_some s u c h;
  pass_pass = λ s m n u v h k. pass_pass_at s m n u v (passes_some s m u h) h k;
  pass_refuse = λ s m c u v h k. pass_refuse_at s m c u v (passes_some s m u h) h k;
  refuse_pass = λ s m c u v h k. refuse_pass_at s m c u v (refuses_some s u c h) h k;
  refuse_refuse = λ s c e u v h k. refuse_refuse_at s c e u v (refuses_some s u c h) h k;
  pass_begin = λ s m u v h k. pass_begin_at s m u v (passes_some s m u h) h k;
  refuse_begin = λ s c u v h k. refuse_begin_at s c u v (refuses_some s u c h) h k;
}
