use Rattle.std.proofs.Common.{◌≡◌, ◌<◌, ◌∙◌, ◌++◌, ◌∷◌, [], length, map, get_or, refl, ap, sym, subst, arith}
use Rattle.std.proofs.lemmas.Iterator.Adapters.{YieldsList-from_vec}
use Rattle.std.proofs.lemmas.Iterator.Consumers.{YieldsList-end, YieldsList-turn}
use Rattle.std.proofs.lemmas.List.{length-map, map-id, map_push}
use Rattle.version_book.specs.Passes.{next_of, numbers_of, opening_of, seen}
use Rattle.sandbox.specs.Sandboxes.{answer}
use Rattle.sessions.specs.Inside.AllSessions.{commands_of}
use Rattle.sessions.specs.Inside.Gathered.{IsGathered}
use Rattle.sessions.proofs.Opened.{of_same, turn_of}
use Rattle.sessions.proofs.Gathered.{gathered_none, gives_on, met_more}
use Rattle.sessions.proofs.closing.meet_all.Goals as goal

pub meet-all-requires-clause-other : goal.meet-all-requires-clause-other
meet-all-requires-clause-other g c =
    let w = g.W.World in
    let a = answer w.effect w.after g.W.Layered.sandbox in
    let all = YieldsList-from_vec c.args.sessions.items c.into_iter-session-iterator.ensures.into_iter_gives.0 (c.into_iter-session-iterator.ensures.into_iter_gives.1 ∙ c.args.sessions.ok.0) in
    let turn : (length c.loop-session.yielded < length c.args.sessions.items) × (c.in-Some.session ≡ get_or c.args.sessions.items (length c.loop-session.yielded) c.in-Some.session) =
    YieldsList-turn all c.loop-session.yielded c.loop-session.session-iterator c.loop-session.yielded_by c.next.result c.next.new.self c.in-Some.session c.in-Some.is c.next.ensures.steps in
    let has = turn_of a w.after w.content g.W.Layered.sandbox.unfit g.W.Layered.kept_writes c.args.book.now c.args.sessions.items (length c.loop-session.yielded) c.in-Some.session turn c.requires.running c.requires.answered in
    of_same a w.after w.content g.W.Layered.sandbox.unfit g.W.Layered.kept_writes c.args.book.now c.finish-pass.result.0 c.in-Some.session.pass c.finish-pass.ensures.pass has.0.of

pub push_reserved-requires : goal.push_reserved-requires
push_reserved-requires g c =
    let all = YieldsList-from_vec c.args.sessions.items c.into_iter-session-iterator.ensures.into_iter_gives.0 (c.into_iter-session-iterator.ensures.into_iter_gives.1 ∙ c.args.sessions.ok.0) in
    let turn : (length c.loop-session.yielded < length c.args.sessions.items) × (c.in-Some.session ≡ get_or c.args.sessions.items (length c.loop-session.yielded) c.in-Some.session) =
    YieldsList-turn all c.loop-session.yielded c.loop-session.session-iterator c.loop-session.yielded_by c.next.result c.next.new.self c.in-Some.session c.in-Some.is c.next.ensures.steps in
    let users : length (commands_of c.loop-session.yielded) ≡ length c.loop-session.yielded = length-map c.loop-session.yielded (λ s. s.commands) in
    omega (arith, c.loop-session.invariant.room, c.loop-session.told.ok.0, c.loop-session.invariant.gathered.all, users, turn.0, c.args.sessions.ok.0)

pub loop-session-preserved : goal.loop-session-preserved
loop-session-preserved g c =
    let w = g.W.World in
    let a = answer w.effect w.after g.W.Layered.sandbox in
    let first = w.content (opening_of c.args.book.now) in
    let session = c.in-Some.session in
    let sessions = c.loop-session.yielded in
    let before = c.loop-session.all in
    let later = c.meet-all.result in
    let all = YieldsList-from_vec c.args.sessions.items c.into_iter-session-iterator.ensures.into_iter_gives.0 (c.into_iter-session-iterator.ensures.into_iter_gives.1 ∙ c.args.sessions.ok.0) in
    let turn : (length c.loop-session.yielded < length c.args.sessions.items) × (c.in-Some.session ≡ get_or c.args.sessions.items (length c.loop-session.yielded) c.in-Some.session) =
    YieldsList-turn all c.loop-session.yielded c.loop-session.session-iterator c.loop-session.yielded_by c.next.result c.next.new.self c.in-Some.session c.in-Some.is c.next.ensures.steps in
    let has = turn_of a w.after w.content g.W.Layered.sandbox.unfit g.W.Layered.kept_writes c.args.book.now c.args.sessions.items (length sessions) session turn c.requires.running c.requires.answered in
    record {
      can_next = tt;
      is_finite = tt;
      of = c.meet-all.ensures.of;
      next = gives_on (next_of later) (next_of before) _ (next_of c.args.first) _ c.meet-all.ensures.next c.loop-session.invariant.next c.requires.giver.gives;
      room = omega (arith, c.loop-session.invariant.room, c.push_reserved.ensures.capacity);
      gathered =
          subst (λ ts. IsGathered a w.after first (commands_of (sessions ++ session ∷ [])) ts (numbers_of later) (seen later)) (sym c.push_reserved.ensures.items)
          (met_more a w.after first sessions session c.loop-session.told.items c.finish-pass.result.1 before c.finish-pass.result.0 later c.loop-session.invariant.gathered
          c.finish-pass.ensures.pass c.finish-pass.ensures.told has.1 has.0.number has.2 has.0.run c.meet-all.ensures.numbers c.meet-all.ensures.one c.meet-all.ensures.other);
      told =
          c.push_reserved.ensures.items
          ∙ ap (λ ts. ts ++ c.finish-pass.result.1 ∷ []) c.loop-session.invariant.told
          ∙ ap (λ one. map (λ s. s.told.items) sessions ++ one ∷ []) c.finish-pass.ensures.told
          ∙ sym (map_push (λ s. s.told.items) sessions session);
    }

pub loop-session-init : goal.loop-session-init
loop-session-init g c =
    let w = g.W.World in
    let a = answer w.effect w.after g.W.Layered.sandbox in
    let first = c.args.first in
    record {
      can_next = tt;
      is_finite = tt;
      of = c.requires.of;
      next = refl;
      room = c.requires.room;
      gathered =
          subst (λ ts. IsGathered a w.after (w.content (opening_of c.args.book.now)) [] ts (numbers_of first) (seen first)) (sym c.requires.empty)
          (gathered_none a w.after (w.content (opening_of c.args.book.now)) first _ c.requires.giver);
      told = c.requires.empty;
    }

pub returns-clause-gathered : goal.returns-clause-gathered
returns-clause-gathered g c =
    let w = g.W.World in
    let a = answer w.effect w.after g.W.Layered.sandbox in
    let all = YieldsList-from_vec c.args.sessions.items c.into_iter-session-iterator.ensures.into_iter_gives.0 (c.into_iter-session-iterator.ensures.into_iter_gives.1 ∙ c.args.sessions.ok.0) in
    let last = YieldsList-end all c.loop-session.yielded c.loop-session.session-iterator c.loop-session.yielded_by c.next.result c.next.new.self c.in-None.is c.next.ensures.steps in
    let whole : c.loop-session.yielded ≡ c.args.sessions.items = sym (map-id c.loop-session.yielded) ∙ last.0 in
    subst (λ ys. IsGathered a w.after (w.content (opening_of c.args.book.now)) (commands_of ys) c.loop-session.told.items (numbers_of c.loop-session.all) (seen c.loop-session.all)) whole c.loop-session.invariant.gathered
