-- Users' texts, judged one after another.
use Rattle.std.proofs.Common.{◌≡◌, ℕ, ◌+◌, List, [], ◌∷◌, ◌++◌, append_assoc, append-nil, length, Err, inl, inr}
use Rattle.user_text.specs.Answers.{Answers}
use Rattle.user_text.specs.declared.command.UserCommand.{UserCommand}
use Rattle.user_text.specs.declared.fault.UserFault.{UserFault}
use Rattle.user_text.specs.declared.fault.UserFault.TheVariants as faults
use Rattle.file_passes.specs.declared.halt.Halt.{Halt}
use Rattle.file_passes.specs.declared.halt.Halt.TheVariants as halts
use Rattle.file_passes.specs.declared.refusal.Refusal.{Refusal}
use Rattle.file_passes.specs.Pass.{Source}
use Rattle.judged_files.specs.Refusals.{user_refusal}
use Rattle.judged_files.specs.Users.{IsUserText, AreUserTexts, IsFirstFault, users_judgement}
use Rattle.file_passes.specs.Halting.{Judges}
use Rattle.judged_files.specs.Inside.Judging.{IsHaltFor, texts_judgement}
use Rattle.judged_files.proofs.JudgeFacts.{judges-halt}

-- a fault says the same of each view of what is read
pub any_view : {X : Type 0} (view : X → List UserCommand) (bytes : List ℕ) (before : ℕ) (fault : UserFault)
    → Answers view bytes before (Err fault) → Answers {X = List UserCommand} (λ x. x) bytes before (Err fault)
any_view view bytes before (faults.Syntax place) first = first
any_view view bytes before (faults.TooMany place) first = first
any_view view bytes before faults.Memory first = first

-- the first texts were read: whatever the rest comes to behind these commands, all come to
pub record AreRead (sources rest : List Source) (before : ℕ) (commands : List (List UserCommand)) : Type 0 where
  pub texts : (more : List (List UserCommand)) → AreUserTexts before rest more → AreUserTexts 0 sources (commands ++ more)
  pub fault : (refusal : Refusal) → IsFirstFault before rest refusal → IsFirstFault 0 sources refusal

pub read-none : (sources : List Source) → AreRead sources sources 0 []
read-none sources = record { texts = λ more are. are; fault = λ refusal is. is }

pub read-next : (sources rest : List Source) (source : Source) (before after : ℕ) (commands : List (List UserCommand)) (one : List UserCommand)
    → AreRead sources (source ∷ rest) before commands → IsUserText before source.1 one → after ≡ before + length one
    → AreRead sources rest after (commands ++ one ∷ [])
read-next sources rest source before after commands one read is count = rw count (record {
  texts = λ more are. (let all = read.texts (one ∷ more) (is, are) in rw (append_assoc commands (one ∷ []) more) all);
  fault = λ refusal found. read.fault refusal (inr (one, is, found));
})

pub read-all : (sources : List Source) (before : ℕ) (commands : List (List UserCommand)) → AreRead sources [] before commands → AreUserTexts 0 sources commands
read-all sources before commands read = rw (append-nil commands) at (read.texts [] tt)

pub read-fault : (sources rest : List Source) (source : Source) (before : ℕ) (commands : List (List UserCommand)) (fault : UserFault) (h : Halt)
    → AreRead sources (source ∷ rest) before commands → Answers {X = List UserCommand} (λ x. x) source.1 before (Err fault)
    → IsHaltFor (user_refusal source.0 fault) h → Judges (texts_judgement sources) (Err h)
read-fault sources rest source before commands fault h read first halted =
    judges-halt (texts_judgement sources) (user_refusal source.0 fault) h halted
    (λ refusal some. read.fault refusal (inl (record { fault = fault; first = first; is = some })))

-- the texts' fault is one of all users
pub judges-texts : (scripts : List (List ℕ)) (sources : List Source) (h : Halt) → Judges (texts_judgement sources) (Err h) → Judges (users_judgement scripts sources) (Err h)
judges-texts scripts sources halts.NotWords judges = absurd judges
judges-texts scripts sources halts.Unread judges = absurd judges
judges-texts scripts sources (halts.Refused refusal) judges = inl judges
judges-texts scripts sources halts.Memory judges = tt
