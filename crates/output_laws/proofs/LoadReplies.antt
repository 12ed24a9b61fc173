-- The replies to a load that may pass over records end alike: the first line says how many lines follow.
use Rattle.std.proofs.Common.{◌≡◌, ℕ, ◌<◌, ◌≤◌, ◌^◌, ℤ, true, List, [], ◌∷◌, ◌++◌, length, map, codes, decimal, get_or, Option, Some, None, unwrap_or, ◌⊎◌, inl, inr, refl, sym, ap, ◌∙◌, subst, arith, append_assoc}
use Rattle.std.specs.Arc.{arc_value}
use Rattle.std.specs.List.{list_all, flat_map}
use Rattle.std.specs.Option.{option_map}
use Rattle.std.specs.declared.alloc.Global.{Global}
use Rattle.std.specs.declared.sync.Arc.{Arc}
use Rattle.std.proofs.lemmas.Fmt.{decimal_injective}
use Rattle.std.proofs.lemmas.List.{append_cancel_left, length-map}
use Rattle.cell_writes.specs.Writes.{last_writes}
use Rattle.dim_name.specs.Bytes.{newline, space}
use Rattle.history.specs.UserRun.{reply_of}
use Rattle.load_cells.specs.Loads.{store_of}
use Rattle.sandbox.specs.Sandboxes.{kept_in, where_fit}
use Rattle.sandbox.specs.declared.act.Act.TheVariants.{Do}
use Rattle.script_bound.specs.declared.script.BoundScript.{BoundScript}
use Rattle.script_run.specs.Load.{load, most_steps, ran_of, writes_of}
use Rattle.script_run.specs.declared.ran.Ran.{Ran}
use Rattle.script_run.specs.declared.ran.Ran.TheVariants.{Done, Rejected as Stopped}
use Rattle.script_run.specs.declared.reject.Reject.{Reject}
use Rattle.script_tree.specs.declared.script.Section.{Section}
use Rattle.script_tree.specs.declared.script.Section.TheVariants as sections
use Rattle.script_values.specs.declared.load_reason.LoadReason.{LoadReason}
use Rattle.script_values.specs.declared.load_reason.LoadReason.TheVariants as stops
use Rattle.user_session.specs.Content.{after}
use Rattle.user_session.specs.Layers.{answer, sandbox}
use Rattle.user_session.specs.Planning.{ended_effect, load_effect, misfit, PlanEffect}
use Rattle.user_session.specs.RejectedLoad.{cause_text, place_text, reject_line, rejects_text, section_text, stopped_text}
use Rattle.user_session.specs.Replies.{reason_text, reply_text}
use Rattle.user_session.specs.declared.command.PlanCommand.TheVariants.{Load}
use Rattle.user_session.specs.declared.content.Content.{Content}
use Rattle.user_session.specs.declared.reply.CommandReason.{CommandReason}
use Rattle.user_session.specs.declared.reply.CommandReason.TheVariants as reasons
use Rattle.user_session.specs.declared.reply.Reply.TheVariants as replies
use Rattle.user_text.specs.Jobs.{rows_in}
use Rattle.user_text.specs.declared.load_job.LoadJob.{LoadJob}
use Rattle.output_laws.proofs.Lines.{lacks, EndAlike, first_line, led, many_lines, plain_ends, split_at}
use Rattle.output_laws.proofs.RejectCount.{few_rejects}
use Rattle.cell_names.proofs.Plain.{lacks-append}
use Rattle.trace_text.proofs.Plain.{decimal_lacks}

-- ---- where a record was, and why it was stopped, stands in one line

section_plain : (section : Section) → lacks newline (section_text section) ≡ true
section_plain sections.Prolog = refl
section_plain sections.Body = refl
section_plain sections.Epilog = refl

cause_plain : (reason : LoadReason) → lacks newline (cause_text reason) ≡ true
cause_plain stops.UnknownName = refl
cause_plain stops.NotALeaf = refl
cause_plain stops.RuleDerived = refl
cause_plain stops.NotANumber = refl
cause_plain stops.OverWrite = refl
cause_plain stops.ProcessError = refl
cause_plain stops.StepLimit = refl
cause_plain (stops.StoreLimit count) = refl
cause_plain (stops.FedLimit count) = refl
cause_plain stops.UnsetVariable = refl
cause_plain stops.TypeMismatch = refl
cause_plain stops.TextLimit = refl

place_plain : (section : Section) (row statement : ℕ) (reason : LoadReason) → lacks newline (place_text section row statement reason) ≡ true
place_plain section row statement reason =
    lacks-append newline (section_text section ++ codes " record " ++ decimal row ++ codes " statement " ++ decimal statement ++ codes " ") (cause_text reason)
    (lacks-append newline (section_text section ++ codes " record " ++ decimal row ++ codes " statement " ++ decimal statement) (codes " ")
    (lacks-append newline (section_text section ++ codes " record " ++ decimal row ++ codes " statement ") (decimal statement)
    (lacks-append newline (section_text section ++ codes " record " ++ decimal row) (codes " statement ")
    (lacks-append newline (section_text section ++ codes " record ") (decimal row)
    (lacks-append newline (section_text section) (codes " record ") (section_plain section) refl)
    (decimal_lacks newline row (omega arith))) refl)
    (decimal_lacks newline statement (omega arith))) refl)
    (cause_plain reason)

pub stopped_plain : (section : Section) (row statement : ℕ) (reason : LoadReason) → lacks newline (stopped_text section row statement reason) ≡ true
stopped_plain section row statement reason = lacks-append newline (codes "rejected ") (place_text section row statement reason) refl (place_plain section row statement reason)

-- ---- replies that list records

-- `WORD N rejects M`
abbrev head : List ℕ → ℕ → ℕ → List ℕ
head word count many = word ++ space ∷ (decimal count ++ space ∷ (codes "rejects " ++ decimal many))

-- `WORD N rejects M` and M lines, where no refusal begins as the word does
record IsListed (reply : List ℕ) : Type 0 where
  word : List ℕ
  count : ℕ
  lines : List (List ℕ)
  is : reply ≡ head word count (length lines) ++ led lines
  in_line : lacks newline word ≡ true
  one_word : lacks space word ≡ true
  begins : get_or word 0 0 < 114
  few : length lines < 2 ^ 64
  plain : list_all (lacks newline) lines ≡ true

head_plain : (word : List ℕ) (count many : ℕ) → lacks newline word ≡ true → lacks newline (head word count many) ≡ true
head_plain word count many plain =
    lacks-append newline word (space ∷ (decimal count ++ space ∷ (codes "rejects " ++ decimal many))) plain
    (lacks-append newline (decimal count) (space ∷ (codes "rejects " ++ decimal many)) (decimal_lacks newline count (omega arith)) (decimal_lacks newline many (omega arith)))

-- the same head tells of as many lines
heads_tell : (word again : List ℕ) (count counted many more : ℕ) → lacks space word ≡ true → lacks space again ≡ true → many < 2 ^ 64 → more < 2 ^ 64
    → head word count many ≡ head again counted more → many ≡ more
heads_tell word again count counted many more one one_too few few_too e =
    let behind : ℕ → ℕ → List ℕ = λ n m. decimal n ++ space ∷ (codes "rejects " ++ decimal m) in
    let words = split_at space word again (behind count many) (behind counted more) one one_too e in
    let counts = split_at space (decimal count) (decimal counted) (codes "rejects " ++ decimal many) (codes "rejects " ++ decimal more)
    (decimal_lacks space count (omega arith)) (decimal_lacks space counted (omega arith)) words.1 in
    decimal_injective many more few few_too (append_cancel_left (codes "rejects ") (decimal many) (decimal more) counts.1)

listed_end : (a b : List ℕ) → IsListed a → IsListed b → EndAlike a b
listed_end a b p q x y e =
    let one = head p.word p.count (length p.lines) in
    let two = head q.word q.count (length q.lines) in
    let whole = sym (parts a one p.lines x p.is) ∙ e ∙ parts b two q.lines y q.is in
    let first = first_line one two p.lines q.lines x y (head_plain p.word p.count (length p.lines) p.in_line) (head_plain q.word q.count (length q.lines) q.in_line) whole in
    let long = heads_tell p.word q.word p.count q.count (length p.lines) (length q.lines) p.one_word q.one_word p.few q.few first.0 in
    let rest = many_lines p.lines q.lines x y long p.plain q.plain first.1 in
    (p.is ∙ ap (λ l. l ++ led p.lines) first.0 ∙ ap (λ l. two ++ l) rest.0 ∙ sym q.is, rest.1)
  where
    parts : (reply first : List ℕ) (lines : List (List ℕ)) (x : List ℕ) → reply ≡ first ++ led lines → reply ++ newline ∷ x ≡ first ++ (led lines ++ newline ∷ x)
    parts reply first lines x is = ap (λ l. l ++ newline ∷ x) is ∙ append_assoc first (led lines) (newline ∷ x)

-- ---- the replies to one load

-- a refusal, in one line
abbrev IsRefusal : List ℕ → Type 0
IsRefusal reply = (lacks newline reply ≡ true) × (get_or reply 0 0 ≡ 114)

abbrev IsLoadReply : List ℕ → Type 0
IsLoadReply reply = IsListed reply ⊎ IsRefusal reply

-- no refusal begins as a list does
apart : (a b x y : List ℕ) → IsListed a → IsRefusal b → a ++ newline ∷ x ≡ b ++ newline ∷ y → ⊥
apart a b x y p r e =
    let tail : List ℕ = decimal p.count ++ space ∷ (codes "rejects " ++ decimal (length p.lines)) in
    first (head p.word p.count (length p.lines) ++ led p.lines) b (low p.word tail (led p.lines) p.begins) r.1 (ap (λ l. l ++ newline ∷ x) (sym p.is) ∙ e)
  where
    low : (word more rest : List ℕ) → get_or word 0 0 < 114 → get_or ((word ++ space ∷ more) ++ rest) 0 0 < 114
    low [] more rest less = omega arith
    low (c ∷ word) more rest less = less

    first : (a b : List ℕ) → get_or a 0 0 < 114 → get_or b 0 0 ≡ 114 → a ++ newline ∷ x ≡ b ++ newline ∷ y → ⊥
    first a [] less is e = absurd (omega (arith, is))
    first [] (d ∷ b) less is e =
        let begun : newline ≡ d = cc in
        absurd (omega (arith, begun, is))
    first (c ∷ a) (d ∷ b) less is e =
        let begun : c ≡ d = cc in
        absurd (omega (arith, begun, less, is))

load_replies_end : (a b : List ℕ) → IsLoadReply a → IsLoadReply b → EndAlike a b
load_replies_end a b (inl p) (inl q) x y e = listed_end a b p q x y e
load_replies_end a b (inl p) (inr r) x y e = absurd (apart a b x y p r e)
load_replies_end a b (inr r) (inl q) x y e = absurd (apart b a y x q r (sym e))
load_replies_end a b (inr r) (inr s) x y e = plain_ends a b r.0 s.0 x y e

-- the lines of the records that were passed over
abbrev places : List Reject → List (List ℕ)
places rejects = map (λ reject. place_text sections.Body reject.row reject.statement reject.reason) rejects

places_led : (rejects : List Reject) → flat_map reject_line rejects ≡ led (places rejects)
places_led [] = refl
places_led (reject ∷ rejects) = ap (λ l. reject_line reject ++ l) (places_led rejects)

places_plain : (rejects : List Reject) → list_all (lacks newline) (places rejects) ≡ true
places_plain [] = refl
places_plain (reject ∷ rejects) =
    let here = place_plain sections.Body reject.row reject.statement reject.reason in
    rw (here) (places_plain rejects)

listed : (word : List ℕ) (count : ℕ) (rejects : List Reject) → lacks newline word ≡ true → lacks space word ≡ true → get_or word 0 0 < 114 → length rejects < 2 ^ 64
    → IsListed (word ++ space ∷ (decimal count ++ rejects_text rejects))
listed word count rejects plain one begins few = record {
  word = word;
  count = count;
  lines = places rejects;
  is = is;
  in_line = plain;
  one_word = one;
  begins = begins;
  few = omega (arith, few, many);
  plain = places_plain rejects;
}
  where
    many : length (places rejects) ≡ length rejects
    many = length-map rejects (λ reject. place_text sections.Body reject.row reject.statement reject.reason)

    parts : (first number many lines : List ℕ) → first ++ space ∷ (number ++ (codes " rejects " ++ many ++ lines)) ≡ (first ++ space ∷ (number ++ space ∷ (codes "rejects " ++ many))) ++ lines
    parts first number many lines =
        ap (λ l. first ++ space ∷ l) (sym (append_assoc number (space ∷ (codes "rejects " ++ many)) lines))
        ∙ sym (append_assoc first (space ∷ (number ++ space ∷ (codes "rejects " ++ many))) lines)

    is : word ++ space ∷ (decimal count ++ rejects_text rejects) ≡ head word count (length (places rejects)) ++ led (places rejects)
    is =
        ap (λ l. word ++ space ∷ (decimal count ++ (codes " rejects " ++ decimal (length rejects) ++ l))) (places_led rejects)
        ∙ ap (λ n. word ++ space ∷ (decimal count ++ (codes " rejects " ++ decimal n ++ led (places rejects)))) (sym many)
        ∙ parts word (decimal count) (decimal (length (places rejects))) (led (places rejects))

refusal : (reason : CommandReason) → IsRefusal (codes "refused " ++ reason_text reason)
refusal reasons.UnknownName = (refl, refl)
refusal reasons.NotALeaf = (refl, refl)
refusal reasons.RuleDerived = (refl, refl)
refusal reasons.StoreLimit = (refl, refl)
refusal reasons.FedLimit = (refl, refl)
refusal reasons.NoSandbox = (refl, refl)
refusal reasons.SandboxOpen = (refl, refl)

-- no more records were passed over than 64 bits count
abbrev AreFewIn : Ran → Type 0
AreFewIn ran = (rejects : List Reject) → ran ≡ Done rejects → length rejects ≤ most_steps

ended_reply : (most : ℕ) (ran : Ran) (writes : List (ℕ × ℤ)) → AreFewIn ran → IsLoadReply (reply_of (ended_effect (Some most) ran writes))
ended_reply most (Done rejects) writes few =
    inl (listed (codes "committed") (length (last_writes writes)) rejects refl refl (omega arith) (omega (arith, few rejects refl)))
ended_reply most (Stopped section row statement reason) writes few = inr (stopped_plain section row statement reason, refl)

kept_reply : (layer : List (ℕ × ℤ)) (most : ℕ) (ran : Ran) (writes : List (ℕ × ℤ)) → AreFewIn ran
    → IsLoadReply (reply_of (kept_in sandbox layer (ended_effect (Some most) ran writes)).0)
kept_reply layer most (Done rejects) writes few =
    inl (listed (codes "kept") (length (last_writes writes)) rejects refl refl (omega arith) (omega (arith, few rejects refl)))
kept_reply layer most (Stopped section row statement reason) writes few = inr (stopped_plain section row statement reason, refl)

fit_reply : (layer : List (ℕ × ℤ)) (reason : Option CommandReason) (found : PlanEffect) → IsLoadReply (reply_of (kept_in sandbox layer found).0)
    → IsLoadReply (reply_of (where_fit sandbox layer (option_map (λ reason. reply_text (replies.Refused reason)) reason) found).0)
fit_reply layer None found kept = kept
fit_reply layer (Some reason) found kept = inr (refusal reason)

load_said : (content : Content) (job : LoadJob) (script : BoundScript) (most : ℕ) → job.rejects ≡ Some most → IsLoadReply (reply_of (load_effect content job script))
load_said content job script most says =
    let outcome = load script job.params job.decimal (unwrap_or job.rejects 0) (rows_in job) (store_of content.model content.stored) [] in
    subst (λ o. IsLoadReply (reply_of (ended_effect o (ran_of outcome) (writes_of outcome)))) (sym says)
    (ended_reply most (ran_of outcome) (writes_of outcome) (few_rejects script job.params job.decimal (unwrap_or job.rejects 0) (rows_in job) (store_of content.model content.stored) []))

load_kept : (layer : List (ℕ × ℤ)) (content : Content) (job : LoadJob) (script : BoundScript) (most : ℕ) → job.rejects ≡ Some most
    → IsLoadReply (reply_of (kept_in sandbox layer (load_effect content job script)).0)
load_kept layer content job script most says =
    let outcome = load script job.params job.decimal (unwrap_or job.rejects 0) (rows_in job) (store_of content.model content.stored) [] in
    subst (λ o. IsLoadReply (reply_of (kept_in sandbox layer (ended_effect o (ran_of outcome) (writes_of outcome))).0)) (sym says)
    (kept_reply layer most (ran_of outcome) (writes_of outcome) (few_rejects script job.params job.decimal (unwrap_or job.rejects 0) (rows_in job) (store_of content.model content.stored) []))

load_reply : (job : LoadJob) (script : Arc BoundScript Global) (most : ℕ) → job.rejects ≡ Some most → (content : Content) (layer : Option (List (ℕ × ℤ)))
    → IsLoadReply (reply_of (answer content layer (Do (Load job script))).0)
load_reply job script most says content None = load_said content job (arc_value script) most says
load_reply job script most says content (Some layer) =
    fit_reply layer (misfit content layer) (load_effect (after content layer) job (arc_value script)) (load_kept layer (after content layer) job (arc_value script) most says)

-- the replies to a load that may pass over so many records end alike on any two contents, with a sandbox or without
pub loads_end : (job : LoadJob) (script : Arc BoundScript Global) (most : ℕ) → job.rejects ≡ Some most → (one two : Content) (layer more : Option (List (ℕ × ℤ)))
    → EndAlike (reply_of (answer one layer (Do (Load job script))).0) (reply_of (answer two more (Do (Load job script))).0)
loads_end job script most says one two layer more =
    load_replies_end (reply_of (answer one layer (Do (Load job script))).0) (reply_of (answer two more (Do (Load job script))).0)
    (load_reply job script most says one layer) (load_reply job script most says two more)
