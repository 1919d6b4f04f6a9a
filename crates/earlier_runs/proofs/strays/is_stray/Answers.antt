use Rattle.std.proofs.Common.{◌≡◌, ◌<◌, ◌≤◌, ℕ, List, arith, length, min, rules, subst, sym, true}
use Rattle.notice_text.specs.claims.Texts.{lane_text}
use Rattle.earlier_runs.specs.Strays.{IsNameOf, is_journal_name}
use Rattle.earlier_runs.proofs.LeftLaws.{none_more}
use Rattle.earlier_runs.proofs.strays.is_stray.Goals as goal

pub returns-then-branch-clause-no : goal.returns-then-branch-clause-no
returns-then-branch-clause-no c = λ _ stray.
    let within : c.loop-number.number < min (length c.args.config.now.lanes) 256 = search rules in
    stray.of_none c.loop-number.number within (subst (λ (xs : List ℕ). IsNameOf xs c.args.name.now) c.lane_name.ensures (c.in_ok-is_name_of.ensures.yes c.if-branch.true))

pub loop-number-preserved : goal.loop-number-preserved
loop-number-preserved c =
    none_more (λ (l : ℕ). IsNameOf (lane_text c.args.config.now l) c.args.name.now) c.loop-number.number c.loop-number.invariant
    (λ is. c.in_ok-is_name_of.ensures.no c.if-branch.false (subst (λ (xs : List ℕ). IsNameOf xs c.args.name.now) (sym c.lane_name.ensures) is))

pub returns-clause-yes : goal.returns-clause-yes
returns-clause-yes c = λ _.
    let is : is_journal_name c.args.name.now ≡ true = search rules in
    let long : min (length c.args.config.now.lanes) 256 ≤ c.loop-number.number = search rules in
    record {
      is_name = is;
      of_none = λ l within. c.loop-number.invariant l (omega (arith, long, within));
    }
