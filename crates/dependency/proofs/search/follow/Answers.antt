use Rattle.std.proofs.Common.{◌≡◌, ◌∙◌, ◌&&◌, true, false, ap, sym, get_or}
use Rattle.std.specs.Prelude.{None}
use Rattle.std.proofs.lemmas.List.Elements.{All-get_or}
use Rattle.due_model.specs.declared.config.Dependency.{Dependency}
use Rattle.due_model.specs.claims.Accepted.{DependencyFits}
use Rattle.due_model.specs.claims.Dependencies.{fails_at}
use Rattle.due_model.specs.claims.Periods.{in_period}
use Rattle.dependency.specs.Entry.{fails_by, state_of}
use Rattle.dependency.proofs.WalkLemmas.{Gains-more, Gains-none, any_none-more, fits-own, masters_of-invalid, masters_of-valid}
use Rattle.dependency.proofs.search.follow.Goals as goal
use Rattle.dependency.proofs.search.follow.Goals.{else-is_in_period-via-then-is_in_period+else-look, else-is_in_period-via-else-is_in_period}

abbrev no_entry : Dependency
no_entry = record {
  dependent = record { 0 = 0 };
  master = record { 0 = 0 };
  inherits = false;
  states = record { pending = false; up = false; down = false; unreachable = false; fine = false; warning = false; unknown = false; critical = false };
  period = None;
}

pub look-requires-clause-within : goal.look-requires-clause-within
look-requires-clause-within c =
    let fits : DependencyFits c.args.config.now (get_or c.of-entry-items.result.now c.loop-entry.entry-index no_entry) =
    All-get_or (DependencyFits c.args.config.now) c.of-entry-items.result.now c.loop-entry.entry-index no_entry c.loop-entry-test.true
    (rw c.of-entry-items.ensures (fits-own c.args.config.now c.args.object.0 c.requires.accepted)) in
    rw (c.loop-entry.invariant.same, c.requires.objects) fits.master

pub loop-entry-preserved : goal.loop-entry-preserved
loop-entry-preserved c =
    let config = c.args.config.now in
    let zone = c.args.zone.now in
    let states = state_of c.args.states.now in
    let t = c.args.t in
    let entries = c.of-entry-items.result.now in
    let i = c.loop-entry.entry-index in
    let entry : Dependency = get_or entries i no_entry in
    let gained = Gains-more config zone t entries i no_entry c.args.reach.now.found c.loop-entry.reach.found c.else-is_in_period.reach.found c.loop-entry-test.true c.loop-entry.invariant.gains in
    let passed = any_none-more (fails_by config zone states t) entries i no_entry c.loop-entry-test.true c.loop-entry.invariant.none in
    elim c.else-is_in_period.branch [
      | else-is_in_period-via-then-is_in_period+else-look w ↦
          let valid : in_period config zone entry.period t ≡ true = sym (w.if-is_in_period.ensures config c.requires.compiled) in
          record {
            same = rw w.reach-is w.look.ensures.nodes ∙ c.loop-entry.invariant.same;
            gains = gained (rw (masters_of-valid config zone t entry valid, w.reach-is) w.look.ensures.gains);
            none = passed (ap (λ b. b && fails_at config.choices.dep_pending entry.states (states entry.master.0)) valid ∙ sym w.if-look.ensures.fails);
          }
      | else-is_in_period-via-else-is_in_period w ↦
          let invalid : in_period config zone entry.period t ≡ false = sym (w.if-is_in_period.ensures config c.requires.compiled) in
          record {
            same = rw w.reach-is c.loop-entry.invariant.same;
            gains = gained (rw (masters_of-invalid config zone t entry invalid, w.reach-is) (Gains-none c.loop-entry.reach.found));
            none = passed (ap (λ b. b && fails_at config.choices.dep_pending entry.states (states entry.master.0)) invalid);
          }
    ]
