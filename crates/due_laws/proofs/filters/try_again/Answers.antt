-- The definitions compute.
use Rattle.std.proofs.Common.{◌≡◌, ℕ, ◌+◌, true, Option, Some, refl}
use Rattle.due_model.specs.declared.config.Config.{Config}
use Rattle.due_model.specs.declared.config.Object.{Object}
use Rattle.due_model.specs.declared.notice.Filter.{Filter}
use Rattle.due_model.specs.declared.rules.Last.{Last}
use Rattle.due_model.specs.declared.zone.Zone.{Zone}
use Rattle.due_model.specs.declared.notice.Filter.TheVariants as filter
use Rattle.due_model.specs.claims.Histories.{hist, retry_after}
use Rattle.due_laws.specs.Retries.{waits_a_minute}
use Rattle.due_laws.proofs.filters.try_again.Goals as goal

pub returns-clause-a_minute_later : goal.returns-clause-a_minute_later
unfolding hist
returns-clause-a_minute_later x = record {
  program = refl;
  disabled = refl;
  in_downtime = refl;
  flapping = refl;
  options = refl;
  dependency = refl;
}

pub returns-clause-retries : goal.returns-clause-retries
returns-clause-retries x = record {
  minute = λ c zone object began last t why waits. minute c zone object began last t why waits;
  acknowledged = λ c zone object began last t. refl;
}
  where
    minute : (c : Config) (zone : Zone) (object : Object) (began : ℕ) (last : Option Last) (t : ℕ) (why : Filter) → waits_a_minute why ≡ true
        → retry_after c zone object began last t why ≡ Some (t + 60)
    minute c zone object began last t filter.Program h = refl
    minute c zone object began last t filter.Disabled h = refl
    minute c zone object began last t filter.Downtime h = refl
    minute c zone object began last t filter.Flapping h = refl
    minute c zone object began last t filter.Options h = refl
    minute c zone object began last t filter.NoProblem h = refl
    minute c zone object began last t filter.Period h = cc
    minute c zone object began last t filter.Dependency h = refl
    minute c zone object began last t filter.Acknowledged h = cc
    minute c zone object began last t filter.FirstDelay h = cc
    minute c zone object began last t filter.Interval h = cc
    minute c zone object began last t filter.ContactDisabled h = refl
    minute c zone object began last t filter.ContactOptions h = refl
    minute c zone object began last t filter.ContactPeriod h = refl
    minute c zone object began last t filter.HostDown h = refl
    minute c zone object began last t filter.ContactNotTold h = refl
