use Rattle.std.proofs.Common.{◌≡◌, refl, sym, ap, ◌∙◌, subst, ℕ, None}
use Rattle.std.specs.Prelude.{IfSome}
use Rattle.std.proofs.lemmas.List.Elements.{All-pop}
use Rattle.rule_evaluate.specs.Known.{Known, listed}
use Rattle.cell_values.specs.Inside.Questions.{LeadsTo}
use Rattle.cell_values.specs.Inside.Growth.{grew-later}
use Rattle.cell_values.proofs.frames.Evaluation.next_pending.Goals as goal

pub is_open-requires : goal.is_open-requires
is_open-requires g c =
    let v = c.args.version.now in
    let e = c.pending.self in
    let popped = All-pop (LeadsTo v e.cell) e.pending.items c.pop.new.self.items c.pop.result c.pop.ensures.items c.pending.invariant.own.pending in
    (subst (λ o. IfSome o (LeadsTo v e.cell)) c.in-Some.is popped.1).is_asked

pub pending-preserved : goal.pending-preserved
pending-preserved g c =
    let v = c.args.version.now in
    let e = c.pending.self in
    let was = c.pending.invariant in
    let popped = All-pop (LeadsTo v e.cell) e.pending.items c.pop.new.self.items c.pop.result c.pop.ensures.items was.own.pending in
    record {
      own = record { asked = refl; is_cell = was.own.is_cell; governs = was.own.governs; right = was.own.right; pending = popped.0 };
      known = was.known;
      cell = was.cell;
      statement = was.statement;
      asked = was.asked;
      values = c.is_open.ensures.values ∙ was.values;
      grew = grew-later (g.M.Memory.known c.args.memory.now) (g.M.Memory.known c.pending.memory) (g.M.Memory.known c.is_open.new.memory) was.grew c.is_open.ensures.grew;
    }

pub returns-then-is_open : goal.returns-then-is_open
returns-then-is_open g c =
    let v = c.args.version.now in
    let e = c.pending.self in
    let was = c.pending.invariant in
    let q = c.in-Some.question in
    let popped = All-pop (LeadsTo v e.cell) e.pending.items c.pop.new.self.items c.pop.result c.pop.ensures.items was.own.pending in
    let leads = subst (λ o. IfSome o (LeadsTo v e.cell)) c.in-Some.is popped.1 in
    let unlisted = ap (λ (k : Known). listed k q) (sym c.deref.ensures.value) ∙ c.is_open.ensures.open c.if-is_open.true in
    record {
      missing = record {
        leads = subst (λ (x : ℕ). LeadsTo v x q) was.cell leads;
        unlisted = subst (λ k. listed k.items q ≡ None) was.known unlisted;
      };
      own = record { asked = refl; is_cell = was.own.is_cell; governs = was.own.governs; right = was.own.right; pending = popped.0 };
      known = was.known;
      cell = was.cell;
      statement = was.statement;
      asked = was.asked;
      values = c.is_open.ensures.values ∙ was.values;
      grew = grew-later (g.M.Memory.known c.args.memory.now) (g.M.Memory.known c.pending.memory) (g.M.Memory.known c.is_open.new.memory) was.grew c.is_open.ensures.grew;
    }
