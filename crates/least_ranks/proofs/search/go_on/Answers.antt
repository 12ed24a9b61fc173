use Rattle.std.proofs.Common.{◌≡◌, ◌+◌, ◌≤◌, sym, ◌∙◌, subst, arith, slice_index}
use Rattle.least_ranks.specs.Inside.Trails.{Trail, IsTop, work_left}
use Rattle.least_ranks.specs.Inside.Sound.{IsSound, IsLater}
use Rattle.least_ranks.proofs.PassFacts.{IsSound-passed_on, IsSound-left, Goes-passed_on}
use Rattle.least_ranks.proofs.search.go_on.Goals as goal

pub returns-then-has_come-clause-sound : goal.returns-then-has_come-clause-sound
returns-then-has_come-clause-sound g c =
    let graph = g.G.Graph.arrows c.args.graph.now in
    let met = c.in_ok-has_come.ensures in
    let sound = IsSound-passed_on graph c.meet_slot.new.walk met.sound c.args.place c.loop-slot.slot met.stays.within
    (met.stays.slots ∙ c.loop-slot.invariant.slots) met.met in
    subst (λ t. IsSound graph t) (sym c.pass.ensures) sound

pub loop-slot-preserved : goal.loop-slot-preserved
loop-slot-preserved g c =
    let graph = g.G.Graph.arrows c.args.graph.now in
    let met = c.in_ok-has_come.ensures in
    let went = rw c.if-has_come.false at met.went in
    let slots = met.stays.slots ∙ c.loop-slot.invariant.slots in
    let sound =
    IsSound-passed_on graph c.meet_slot.new.walk met.sound c.args.place c.loop-slot.slot met.stays.within slots
    met.met in
    let goes =
    Goes-passed_on graph c.meet_slot.new.walk met.sound c.args.place c.loop-slot.slot met.stays.within slots
    met.met went.0 in
    let less : work_left c.meet_slot.new.walk ≤ work_left c.args.walk.now =
    omega (arith, went.1, c.loop-slot.invariant.less) in
    let later : IsLater c.args.walk.now c.meet_slot.new.walk =
    λ node was. met.later node (c.loop-slot.invariant.later node was) in
    let node : c.node_at-node.result ≡ slice_index c.meet_slot.new.walk.path c.args.place =
    c.loop-slot.invariant.node ∙ sym met.stays.node in
    record {
      sound = subst (λ t. IsSound graph t) (sym c.pass.ensures) sound;
      top = subst (λ t. IsTop t c.args.place) (sym c.pass.ensures) goes.0;
      node = subst (λ (t : Trail). c.node_at-node.result ≡ slice_index t.path c.args.place) (sym c.pass.ensures) node;
      slots =
          subst (λ (t : Trail). slice_index t.passed c.args.place ≡ c.loop-slot.slot + 1) (sym c.pass.ensures) goes.1;
      less = subst (λ t. work_left t ≤ work_left c.args.walk.now) (sym c.pass.ensures) less;
      later = subst (λ t. IsLater c.args.walk.now t) (sym c.pass.ensures) later;
    }

pub returns-clause-sound : goal.returns-clause-sound
returns-clause-sound g c =
    let graph = g.G.Graph.arrows c.args.graph.now in
    let walk = c.loop-slot.walk in
    let none : graph.slots (slice_index walk.path c.args.place) ≤ slice_index walk.passed c.args.place =
    rw (← c.loop-slot.invariant.node, c.loop-slot.invariant.slots)
    (omega (arith, c.loop-slot-test.false, c.slot_count-slot-end.ensures)) in
    subst (λ t. IsSound graph t) (sym c.leave.ensures)
    (IsSound-left graph walk c.loop-slot.invariant.sound c.args.place c.loop-slot.invariant.top.last none)
