use Rattle.std.proofs.Common.{◌≡◌, ◌<◌, ◌≤◌, ◌-◌, ◌==◌, ◌∙◌, Some, ap, arith, cond, get_or, length, refl, rules, subst, sym, true}
use Rattle.std.specs.Prelude.{slice_get}
use Rattle.std.proofs.lemmas.Option.{slice_get-get_or}
use Rattle.journaled.specs.Claims.{IsHeld, Past, is_settled}
use Rattle.earlier_runs.proofs.CompareLaws.{held_compared}
use Rattle.earlier_runs.proofs.compared.ComparingLooker.see.Goals as goal

pub returns-in-Held-clause-saw : goal.returns-in-Held-clause-saw
returns-in-Held-clause-saw c =
    let look = c.in-Some.ensures.lookup in
    let same : c.from.result ≡ c.args.notice.now.lane.0 = c.from.ensures in
    let within : c.args.notice.now.lane.0 < length c.args.self.now.states.now = omega (arith, look.3.0, same) in
    let at : slice_get c.args.self.now.states.now c.args.notice.now.lane.0 ≡ Some c.in-Some.state.now =
    slice_get-get_or c.args.self.now.states.now c.args.notice.now.lane.0 c.in-Some.state.now within
    ∙ ap Some (sym (look.1 ∙ ap (λ n. get_or c.args.self.now.states.now n c.in-Some.state.now) same)) in
    let from : c.in-Some.state.now.from ≤ c.args.notice.now.event = search rules in
    held_compared c.args.self.now.states.now c.args.self.now.left.items c.take_one.new.left.items c.args.self.now.differs c.args.notice.now c.in-Some.state.now at from
    (subst (λ (p : Past). is_settled p c.args.notice.now ≡ true) c.deref.ensures (c.find.ensures.settled c.in-Held.is))
    (subst (λ (p : Past). IsHeld p c.args.notice.now) c.deref.ensures (c.find.ensures.held c.in-Held.is))
    (λ l. c.take_one.ensures.fewer l ∙ ap (λ n. get_or c.args.self.now.left.items l 0 - cond (l == n) 1 0) c.from-in-Held.ensures) c.take_one.ensures.count

pub returns-in-Differs-clause-stopped : goal.returns-in-Differs-clause-stopped
returns-in-Differs-clause-stopped c = λ _.
    let look = c.in-Some.ensures.lookup in
    let same : c.from.result ≡ c.args.notice.now.lane.0 = c.from.ensures in
    let within : c.args.notice.now.lane.0 < length c.args.self.now.states.now = omega (arith, look.3.0, same) in
    let at : slice_get c.args.self.now.states.now c.args.notice.now.lane.0 ≡ Some c.in-Some.state.now =
    slice_get-get_or c.args.self.now.states.now c.args.notice.now.lane.0 c.in-Some.state.now within
    ∙ ap Some (sym (look.1 ∙ ap (λ n. get_or c.args.self.now.states.now n c.in-Some.state.now) same)) in
    let from : c.in-Some.state.now.from ≤ c.args.notice.now.event = search rules in
    record {
      states_are = refl;
      differs_is = refl;
      differs = record {
        state = c.in-Some.state.now;
        at = at;
        from = from;
        settled = subst (λ (p : Past). is_settled p c.args.notice.now ≡ true) c.deref.ensures (c.find.ensures.differs c.in-Differs.is);
        other = subst (λ (p : Past). IsHeld p c.args.notice.now → ⊥) c.deref.ensures (c.find.ensures.other c.in-Differs.is);
      };
    }
