use Rattle.std.proofs.Common.{refl}
use Rattle.event_feed.specs.declared.line.Subject.TheVariants.{Host, Service}
use Rattle.event_feed.specs.declared.line.Words.TheVariants.{States, Downtimes, Flaps, Switches}
use Rattle.event_feed.proofs.WordLemmas.{said-by}
use Rattle.event_feed.proofs.line.find_said.Goals as goal

pub returns-in-Host : goal.returns-in-Host
returns-in-Host c = said-by c.args.words States c.args.subject Host c.args.object c.args.arguments.now c.find_host_state.result c.in-States.is c.in-Host.is refl c.find_host_state.ensures

pub returns-in-Service : goal.returns-in-Service
returns-in-Service c = said-by c.args.words States c.args.subject Service c.args.object c.args.arguments.now c.find_service_state.result c.in-States.is c.in-Service.is refl c.find_service_state.ensures

pub returns-in-Downtimes : goal.returns-in-Downtimes
returns-in-Downtimes c = said-by c.args.words Downtimes c.args.subject c.args.subject c.args.object c.args.arguments.now c.find_downtime.result c.in-Downtimes.is refl refl c.find_downtime.ensures

pub returns-in-Flaps : goal.returns-in-Flaps
returns-in-Flaps c = said-by c.args.words Flaps c.args.subject c.args.subject c.args.object c.args.arguments.now c.find_flapping.result c.in-Flaps.is refl refl c.find_flapping.ensures

pub returns-in-Switches : goal.returns-in-Switches
returns-in-Switches c = said-by c.args.words Switches c.args.subject c.args.subject c.args.object c.args.arguments.now c.find_own_switch.result c.in-Switches.is refl refl c.find_own_switch.ensures
