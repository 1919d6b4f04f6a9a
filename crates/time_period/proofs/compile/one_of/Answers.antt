use Rattle.std.proofs.Common.{◌≡◌, ◌<◌, ◌∙◌, ℕ, List, All, ap, length, subst, sym, true}
use Rattle.std.specs.Arc.{arc_value}
use Rattle.std.proofs.lemmas.Result.{IfOk-weaker}
use Rattle.time_period.specs.claims.Days.{IsCompiled}
use Rattle.time_period.specs.Days.{worked_by}
use Rattle.time_period.specs.Needs.{AreClosedNeeds}
use Rattle.time_period.specs.claims.Steps.{Own}
use Rattle.time_period.specs.Steps.{is_plain, own_at}
use Rattle.time_period.proofs.NeedsLemmas.{kept-at, needed-compiled, weekly-compiled}
use Rattle.time_period.proofs.compile.one_of.Goals as goal

pub returns-then-is_plain : goal.returns-then-is_plain
returns-then-is_plain c =
    let table = arc_value c.args.table.now in
    let number = c.args.number in
    let own = kept-at c.as_slice-kept.result.now table c.from.result number c.index-kept-from.result (c.as_slice-kept.ensures ∙ c.deref.ensures) c.from.ensures c.requires.number c.index-kept-from.is in
    let plain : is_plain (own_at table number) ≡ true = ap is_plain (sym own) ∙ sym c.is_plain.ensures ∙ c.if-is_plain.true in
    IfOk-weaker c.new-then-is_plain.result _ _ (λ worked is config are.
    subst (IsCompiled config (record { 0 = number })) (sym (is ∙ ap (worked_by number table) c.new.ensures.items))
    (weekly-compiled config table are number c.requires.number plain)) c.new-then-is_plain.ensures

pub returns : goal.returns
returns c =
    let table = arc_value c.args.table.now in
    let number = c.args.number in
    let needs = c.in_ok-needs.needs.items in
    let same = c.as_slice-kept.ensures ∙ c.deref.ensures in
    let within = subst (λ (owns : List Own). All (λ (n : ℕ). n < length owns) needs) same c.in_ok-needs.ensures.within in
    let closed = subst (λ (owns : List Own). AreClosedNeeds owns needs) same c.in_ok-needs.ensures.closed in
    IfOk-weaker c.new-2.result _ _ (λ worked is config are.
    subst (IsCompiled config (record { 0 = number })) (sym is) (needed-compiled config table are number needs within closed c.in_ok-needs.ensures.has)) c.new-2.ensures
