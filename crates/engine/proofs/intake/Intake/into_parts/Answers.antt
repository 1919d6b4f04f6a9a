use Rattle.std.proofs.Common.{rules, ◌≡◌, ◌∙◌, ◌-◌, Bool, None, Option, Some, IsSome, ap, false, length, subst, sym, take, true, true≢false}
use Rattle.std.proofs.lemmas.List.Elements.{All-take}
use Rattle.event_feed.specs.claims.Fault.{is_ahead}
use Rattle.event_feed.specs.declared.fault.RefusedLine.{RefusedLine}
use Rattle.engine.specs.claims.Feed.{NoneIsAhead}
use Rattle.engine.specs.Feed.{HasRead, Intake, IsOver, Kept}
use Rattle.engine.proofs.IntakeLaws.{has_read, taken_over}
use Rattle.engine.proofs.LeftLaws.{left_cut, left_on, left_over}
use Rattle.engine.proofs.intake.Intake.into_parts.Goals.{else-memory-via-else-memory, else-memory-via-then-memory+else-cut}
use Rattle.engine.proofs.intake.Intake.into_parts.Goals as goal

pub returns-in_default-clause-left : goal.returns-in_default-clause-left
returns-in_default-clause-left g c = λ can_fail config start said far taken some same_far.
    let now : Intake = record { feed = c.self.inside.feeder; events = c.self.inside.events.items; refused = c.self.inside.refused.items } in
    let same : now ≡ c.args.self.read = ap (λ (k : Kept). k.read) c.self.view_is in
    let over : c.self.inside.over ≡ c.args.self.over = ap (λ (k : Kept). k.over) c.self.view_is in
    let none : c.self.inside.over ≡ None = search rules in
    let read : HasRead config start said c.args.self.read = has_read can_fail config start c.args.self.read c.args.self.over said (sym over ∙ none) taken in
    left_on far can_fail config start said now c.args.memory (subst (λ (x : Intake). HasRead config start said x) (sym same) read)
    (λ m. absurd (true≢false (sym (subst (λ (o : Option Bool). IsSome o) (sym over ∙ none) (some m))))) same_far

pub returns-then-cut-clause-left : goal.returns-then-cut-clause-left
returns-then-cut-clause-left g c = λ can_fail config start said far taken some same_far.
    let now : Intake = record { feed = c.self.inside.feeder; events = c.self.inside.events.items; refused = c.self.inside.refused.items } in
    let same : now ≡ c.args.self.read = ap (λ (k : Kept). k.read) c.self.view_is in
    let over : c.self.inside.over ≡ c.args.self.over = ap (λ (k : Kept). k.over) c.self.view_is in
    let cut : c.self.inside.over ≡ Some true = search rules in
    let ended : IsOver can_fail config start said true c.args.self.read = taken_over can_fail config start c.args.self.read c.args.self.over said true (sym over ∙ cut) taken in
    let left : c.pop-line.new.self.items ≡ take (length now.refused - 1) now.refused = search rules in
    left_cut can_fail config start said now c.pop-line.new.self.items (subst (λ (x : Intake). IsOver can_fail config start said true x) (sym same) ended) left far c.args.memory (search rules) same_far

pub returns-clause-left : goal.returns-clause-left
returns-clause-left g c = λ can_fail config start said far taken some same_far.
    let now : Intake = record { feed = c.self.inside.feeder; events = c.self.inside.events.items; refused = c.self.inside.refused.items } in
    let same : now ≡ c.args.self.read = ap (λ (k : Kept). k.read) c.self.view_is in
    let over : c.self.inside.over ≡ c.args.self.over = ap (λ (k : Kept). k.over) c.self.view_is in
    let cut : c.self.inside.over ≡ Some c.in-Some.cut = search rules in
    let ended : IsOver can_fail config start said c.in-Some.cut c.args.self.read = taken_over can_fail config start c.args.self.read c.args.self.over said c.in-Some.cut (sym over ∙ cut) taken in
    left_over far can_fail config start said c.in-Some.cut now c.args.memory (subst (λ (x : Intake). IsOver can_fail config start said c.in-Some.cut x) (sym same) ended)
    (λ m. elim c.else-memory.branch [
      | else-memory-via-then-memory+else-cut w ↦ w.if-cut.false
      | else-memory-via-else-memory w ↦ absurd (true≢false (sym m ∙ w.if-memory.false))
    ]) same_far

pub returns-then-cut-clause-near : goal.returns-then-cut-clause-near
returns-then-cut-clause-near g c = λ none.
    let all : NoneIsAhead c.self.inside.refused.items = subst NoneIsAhead (sym (ap (λ (k : Kept). k.read.refused) c.self.view_is)) none in
    let left : c.pop-line.new.self.items ≡ take (length c.self.inside.refused.items - 1) c.self.inside.refused.items = search rules in
    subst NoneIsAhead (sym left) (All-take (λ (r : RefusedLine). is_ahead r.fault ≡ false) (length c.self.inside.refused.items - 1) c.self.inside.refused.items all)
