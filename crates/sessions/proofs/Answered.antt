-- What a session was told by one answer, and by one more.
use Rattle.std.proofs.Common.{◌≡◌, ℕ, ◌+◌, ◌≤◌, ◌<◌, zero, suc, Bool, true, false, MatchBool, Option, None, ap, length-append, append-nil, append_assoc, drop, List, [], ◌∷◌, ◌++◌, length, Some, slice_get, refl, sym, ◌∙◌, subst, arith}
use Rattle.history.specs.declared.entry.Entry.{Entry}
use Rattle.history.specs.declared.told.Told.{Told}
use Rattle.history.specs.declared.effect.Effect.{Effect}
use Rattle.history.specs.declared.effect.Effect.TheVariants.{Commit, Rejected, Read}
use Rattle.history.specs.Version.{content_after, NoneFrom}
use Rattle.history.specs.UserRun.{least_after, Stands}
use Rattle.history.proofs.Lists.{get_end}
use Rattle.history.proofs.Runs.{none_at_end, none_past_end}
use Rattle.layers.specs.Layered.{layer_after, LayeredSoFar}
use Rattle.layers.proofs.Runs.{layered_more, layered_one}
use Rattle.version_book.specs.declared.book.Settled.{Settled}
use Rattle.version_book.specs.Numbers.{has}
use Rattle.version_book.specs.Commits.{Decides, Settles}
use Rattle.version_book.specs.Lists.{GoesOn}
use Rattle.version_book.specs.Passes.{looks, seen}
use Rattle.version_book.proofs.Lists.{has-first, goes-on, same-goes}
use Rattle.sessions.specs.declared.session.SessionOf.{SessionOf}
use Rattle.sessions.specs.Answers.{Sight, sight, IsAnswered, AreAnswered, HasAnsweredNext, HasAnsweredMore, HasGoneOn, HasLooked, layer_of}

get_dropped : {A : Type 0} (n : ℕ) (xs : List A) (k : ℕ) (y : A) → slice_get xs (n + k) ≡ Some y → slice_get (drop n xs) k ≡ Some y
get_dropped zero xs k y is = let same : zero + k ≡ k = omega arith in rw same at is
get_dropped (suc n) [] k y is = is
get_dropped (suc n) (x ∷ xs) k y is = let same : suc n + k ≡ suc (n + k) = omega arith in get_dropped n xs k y (rw same at is)

first_same : (n user : ℕ) (joined : List ℕ) → n ∷ joined ≡ user ∷ [] → n ≡ user
first_same n user joined is = cc

module _ {C K T R : Type 0} (effect : C → K → Effect T R) (after : C → T → C) (first : C) where
  -- what is settled after the pass went on is settled since before that
  pub settles_since : (before between later : List (Entry T)) (user n : ℕ) (ns joined : List ℕ) (number : ℕ) (command : K) (settled : Settled R)
      → GoesOn before between ns → ns ≡ user ∷ [] → n ∷ joined ≡ ns → Settles effect after first between later (n ∷ joined) n number command settled
      → Settles effect after first before later (user ∷ []) user number command settled
  settles_since before between later user n ns joined number command settled goes own same settles =
      let all : n ∷ joined ≡ user ∷ [] = same ∙ own in
      let number_is : n ≡ user = first_same n user joined all in
      let here : Settles effect after first between later (user ∷ []) user number command settled =
      subst (λ (m : ℕ). Settles effect after first between later (user ∷ []) m number command settled) number_is
      (subst (λ (ms : List ℕ). Settles effect after first between later ms n number command settled) all settles) in
      record {
        log = here.log;
        others = goes-on before between here.log (user ∷ []) (subst (λ (ms : List ℕ). GoesOn before between ms) own goes) here.others;
        settles = here.settles;
      }

-- What is decided on a list makes the later list of it: by the command's own entry, or not at all.
record DecidesOn {T R : Type 0} (found : Effect T R) (log later : List (Entry T)) (user number : ℕ) : Type 0 where
  pub extra : List (Entry T)
  pub is : later ≡ log ++ extra
  pub stands : Stands found (log ++ extra) (length log) user number
  pub none : NoneFrom (log ++ extra) (least_after found (length log)) user

decides_none : {T : Type 0} (log later : List (Entry T)) (user : ℕ) → later ≡ log → (later ≡ log ++ []) × (length log ≤ length (log ++ [])) × NoneFrom (log ++ []) (length log) user
decides_none log later user same =
    let nothing : log ++ [] ≡ log = append-nil log in
    rw nothing (same, omega arith, none_at_end log user)

module _ {T R : Type 0} where
  decides_on : (found : Effect T R) (accepted : Bool) (log later : List (Entry T)) (user number : ℕ) → Decides found accepted log later user number
      → DecidesOn found log later user number
  decides_on (Commit writes reply) accepted log later user number decides =
      let entry : Entry T = record { user = user; command = number; writes = writes } in
      record { extra = entry ∷ []; is = decides.1; stands = get_end log entry; none = none_past_end log entry user }
  decides_on (Rejected reply) accepted log later user number decides =
      let none = decides_none log later user decides.1 in
      record { extra = []; is = none.0; stands = none.1; none = none.2 }
  decides_on (Read reply) accepted log later user number decides =
      let none = decides_none log later user decides.1 in
      record { extra = []; is = none.0; stands = none.1; none = none.2 }

module _ {C K T R : Type 0} (effect : C → K → Effect T R) (after : C → T → C) (first : C) where
  -- a settled command adds to what was seen
  pub settles_adds : (before later : List (Entry T)) (users : List ℕ) (user number : ℕ) (command : K) (settled : Settled R)
      → Settles effect after first before later users user number command settled → (more : List (Entry T)) × (later ≡ before ++ more)
  settles_adds before later users user number command settled settles =
      let more = decides_on (effect (content_after after first settles.log) command) settled.accepted settles.log later user number settles.settles.decides in
      (settles.others.added ++ more.extra, more.is ∙ ap (λ log. log ++ more.extra) settles.others.is ∙ append_assoc before settles.others.added more.extra)

module _ {C L K T R : Type 0} (answer : C → L → K → Effect T R × L) (after : C → T → C) (first : C) where
  -- what was told stays the user's run of what the pass then has seen, and the layer stays
  pub run_seen : (before later : List (Entry T)) (user : ℕ) (ns : List ℕ) (none : L) (told : List (Told R)) (commands : List K)
      → LayeredSoFar answer after first before user none told commands → GoesOn before later ns → ns ≡ user ∷ []
      → LayeredSoFar answer after first later user none told commands × (layer_after answer after first later none told commands ≡ layer_after answer after first before none told commands)
  run_seen before later user ns none told commands run goes own =
      let others : NoneFrom goes.added 0 user = goes.none user (subst (λ (ms : List ℕ). has ms user ≡ true) (sym own) (has-first user [])) in
      subst (λ (log : List (Entry T)). LayeredSoFar answer after first log user none told commands × (layer_after answer after first log none told commands ≡ layer_after answer after first before none told commands))
      (sym goes.is) (layered_more answer after first before goes.added user none told commands run others)

  -- an answered command is one command more of the user's run, and the user's layer is then the one that the answer gave
  pub run_answered : (before later : Sight T) (user : ℕ) (none : L) (told : List (Told R)) (commands : List K) (layer : L) (command : K) (one : Told R) (next : L)
      → LayeredSoFar answer after first before.seen user none told commands → layer ≡ layer_after answer after first before.seen none told commands
      → slice_get commands (length told) ≡ Some command → IsAnswered answer after first before later user (length told + 1) layer command one next
      → LayeredSoFar answer after first later.seen user none (told ++ one ∷ []) commands × (next ≡ layer_after answer after first later.seen none (told ++ one ∷ []) commands)
  run_answered before later user none told commands layer command one next run layer_is is answered =
      let log = answered.settles.log in
      let content = content_after after first log in
      let found = (answer content layer command).0 in
      let now = run_seen before.seen log user (user ∷ []) none told commands run answered.settles.others refl in
      let same : layer_after answer after first log none told commands ≡ layer = now.1 ∙ sym layer_is in
      let found_is : answer content (layer_after answer after first log none told commands) command ≡ (found, next) =
      ap (λ (l : L). answer content l command) same ∙ ap (λ (l : L). (found, l)) (sym answered.is_next) in
      let on : DecidesOn found log later.seen user (length told + 1) = decides_on found answered.accepted log later.seen user (length told + 1) answered.settles.settles.decides in
      let more = layered_one answer after first log on.extra user none told commands command one found next now.0 is answered.settles.settles.place found_is answered.settles.settles.reply on.stands on.none in
      subst (λ (xs : List (Entry T)). LayeredSoFar answer after first xs user none (told ++ one ∷ []) commands × (next ≡ layer_after answer after first xs none (told ++ one ∷ []) commands))
      (sym on.is) (more.0, sym more.1)

  pub answered_as : (before later : Sight T) (user number other : ℕ) (layer : L) (command : K) (told : Told R) (next : L) → number ≡ other
      → IsAnswered answer after first before later user number layer command told next → IsAnswered answer after first before later user other layer command told next
  answered_as before later user number other layer command told next same answered =
      subst (λ (n : ℕ). IsAnswered answer after first before later user n layer command told next) same answered

  -- one more was answered
  pub answered_more : (before between later : Sight T) (user number : ℕ) (layer : L) (told : List (Told R)) (commands : List K) (left : L) (command : K) (one : Told R) (next : L)
      → AreAnswered answer after first before between user number layer told commands left → slice_get commands (length told) ≡ Some command
      → IsAnswered answer after first between later user (length told + number) left command one next
      → AreAnswered answer after first before later user number layer (told ++ one ∷ []) commands next
  answered_more before between later user number layer [] [] left command one next are is answered = cc
  answered_more before between later user number layer [] (k ∷ commands) left command one next are is answered =
      let same : command ≡ k = cc in
      let zeroth : 0 + number ≡ number = omega arith in
      let here = answered_as between later user (0 + number) number left command one next zeroth answered in (
        later,
        next,
        subst (λ (x : K). IsAnswered answer after first before later user number layer x one next) same
            (subst (λ (v : Sight T). IsAnswered answer after first v later user number layer command one next) are.0
            (subst (λ (l : L). IsAnswered answer after first between later user number l command one next) are.1 here)),
        (refl, refl),
      )
  answered_more before between later user number layer (earlier ∷ told) [] left command one next are is answered = absurd are
  answered_more before between later user number layer (earlier ∷ told) (k ∷ commands) left command one next are is answered =
      let shift : length (earlier ∷ told) + number ≡ length told + (number + 1) = omega arith in
      (are.0, are.1, are.2, answered_more are.0 between later user (number + 1) are.1 told commands left command one next are.3 is (answered_as between later user _ _ left command one next shift answered))

  -- what a later sight answers was answered since an earlier one, where only others went on between them
  answered_since : (before between later : Sight T) (user number : ℕ) (layer : L) (command : K) (one : Told R) (next : L) → GoesOn before.seen between.seen (user ∷ []) → before.looks ≤ between.looks
      → IsAnswered answer after first between later user number layer command one next → IsAnswered answer after first before later user number layer command one next
  answered_since before between later user number layer command one next goes fewer answered = record {
    accepted = answered.accepted;
    settles = record {
      log = answered.settles.log;
      others = goes-on before.seen between.seen answered.settles.log (user ∷ []) goes answered.settles.others;
      settles = answered.settles.settles;
    };
    is_next = answered.is_next;
    looked = omega (arith, fewer, answered.looked);
  }

module _ {C K T R : Type 0} (answer : C → Option T → K → Effect T R × Option T) (after : C → T → C) (first : C) where
  -- no command is answered yet
  pub looked_first : (user : ℕ) (told : List (Told R)) (commands : List K) (now : Sight T) (layer : Option T) → told ≡ [] → now.seen ≡ [] → layer ≡ None
      → HasLooked answer after first user told commands now layer
  looked_first user told commands now layer none blind no_layer =
      subst (λ (ts : List (Told R)). HasLooked answer after first user ts commands now layer) (sym none) (record {
        last = record { seen = []; looks = 0 };
        answered = (refl, no_layer);
        others = subst (λ (log : List (Entry T)). GoesOn [] log (user ∷ [])) (sym blind) (same-goes [] (user ∷ []));
        looks = omega arith;
      })

  -- the pass went on
  pub looked_on : (user : ℕ) (told : List (Told R)) (commands : List K) (now later : Sight T) (layer : Option T) (ns : List ℕ) → HasLooked answer after first user told commands now layer
      → GoesOn now.seen later.seen ns → ns ≡ user ∷ [] → now.looks ≤ later.looks → HasLooked answer after first user told commands later layer
  looked_on user told commands now later layer ns has goes own fewer = record {
    last = has.last;
    answered = has.answered;
    others = goes-on has.last.seen now.seen later.seen (user ∷ []) has.others (subst (λ (ms : List ℕ). GoesOn now.seen later.seen ms) own goes);
    looks = omega (arith, has.looks, fewer);
  }

  -- and one command more is answered
  pub looked_more : (user : ℕ) (told : List (Told R)) (commands : List K) (layer : Option T) (command : K) (one : Told R) (next : Option T) (now later : Sight T)
      → HasLooked answer after first user told commands now layer
      → slice_get commands (length told) ≡ Some command → IsAnswered answer after first now later user (length told + 1) layer command one next
      → HasLooked answer after first user (told ++ one ∷ []) commands later next
  looked_more user told commands layer command one next now later has is answered = record {
    last = later;
    answered =
        answered_more answer after first (record { seen = []; looks = 0 }) has.last later user 1 None told commands layer command one next has.answered is
        (answered_since answer after first has.last now later user (length told + 1) layer command one next has.others has.looks answered);
    others = same-goes later.seen (user ∷ []);
    looks = omega arith;
  }

  module _ {H S Y : Type 0} (kept : Y → T) where
    -- none yet
    pub more_none : (session : SessionOf H S T K R Y) → HasAnsweredMore answer after kept first session session
    more_none session = record { told = []; is_told = sym (append-nil session.told.items); are_answered = (refl, refl) }

    -- and the next one
    pub more_next : (before between later : SessionOf H S T K R Y) → HasAnsweredMore answer after kept first before between → HasAnsweredNext answer after kept first between later
        → between.user ≡ before.user → between.commands ≡ before.commands → HasAnsweredMore answer after kept first before later
    more_next before between later more next user commands =
        let place : length between.told.items ≡ length before.told.items + length more.told = ap length more.is_told ∙ length-append before.told.items more.told in
        let is : slice_get before.commands (length before.told.items + length more.told) ≡ Some next.command = rw (← place, ← commands) next.is_next in
        let number : length between.told.items + 1 ≡ length more.told + (length before.told.items + 1) = omega arith in
        let answered : IsAnswered answer after first (sight between.pass) (sight later.pass) before.user (length more.told + (length before.told.items + 1)) (layer_of kept between) next.command next.told (layer_of kept later) =
        subst (λ (u : ℕ). IsAnswered answer after first (sight between.pass) (sight later.pass) u (length more.told + (length before.told.items + 1)) (layer_of kept between) next.command next.told (layer_of kept later)) user
        (answered_as answer after first (sight between.pass) (sight later.pass) between.user _ _ (layer_of kept between) next.command next.told (layer_of kept later) number next.is_answered) in
        record {
          told = more.told ++ next.told ∷ [];
          is_told = next.is_told ∙ ap (λ ts. ts ++ next.told ∷ []) more.is_told ∙ append_assoc before.told.items more.told (next.told ∷ []);
          are_answered =
              answered_more answer after first (sight before.pass) (sight between.pass) (sight later.pass) before.user (length before.told.items + 1) (layer_of kept before) more.told (drop (length before.told.items) before.commands)
              (layer_of kept between) next.command next.told (layer_of kept later)
              more.are_answered (get_dropped (length before.told.items) before.commands (length more.told) next.command is) answered;
        }

    -- where it was told whether there was a next one, and there was
    pub next_left : (before later : SessionOf H S T K R Y) (more : Bool) → length before.told.items < length before.commands
        → MatchBool more (HasAnsweredNext answer after kept first before later)
        ((length before.told.items ≡ length before.commands) × (later.told.items ≡ before.told.items) × ((layer_of kept later) ≡ (layer_of kept before)))
        → HasAnsweredNext answer after kept first before later
    next_left before later true left told = told
    next_left before later false left told = absurd (omega (arith, left, told.0))

module _ {L S T K R Y : Type 0} where
  -- the session as it was
  pub gone_nowhere : (session : SessionOf L S T K R Y) → HasGoneOn session session
  gone_nowhere session = record {
    told = ([], sym (append-nil session.told.items));
    seen = ([], sym (append-nil (seen session.pass)));
    looks = omega arith;
  }

  -- no reply came, and the pass went on
  pub gone_on_by : (before later : SessionOf L S T K R Y) (ns : List ℕ) → later.told.items ≡ before.told.items → GoesOn (seen before.pass) (seen later.pass) ns
      → looks before.pass ≤ looks later.pass → HasGoneOn before later
  gone_on_by before later ns same goes fewer = record {
    told = ([], same ∙ sym (append-nil before.told.items));
    seen = (goes.added, goes.is);
    looks = fewer;
  }

  -- further and further
  pub gone_on_then : (before between later : SessionOf L S T K R Y) → HasGoneOn before between → HasGoneOn between later → HasGoneOn before later
  gone_on_then before between later one two = record {
    told = (one.told.0 ++ two.told.0, two.told.1 ∙ ap (λ ts. ts ++ two.told.0) one.told.1 ∙ append_assoc before.told.items one.told.0 two.told.0);
    seen = (one.seen.0 ++ two.seen.0, two.seen.1 ∙ ap (λ log. log ++ two.seen.0) one.seen.1 ∙ append_assoc (seen before.pass) one.seen.0 two.seen.0);
    looks = omega (arith, one.looks, two.looks);
  }
