-- Which zone a command is given, as `jiff` reads it.
use Rattle.std.specs.Prelude.{◌≡◌, ℕ, List, Option, Some, None, Result, Ok, Err, MatchResult, IsSome}
use Rattle.jiff.specs.Placed.{IsPosixZone}
use Rattle.jiff.specs.ZoneView.{plain_zone}
use Rattle.jiff_core.specs.declared.error.Error.{Error}
use Rattle.jiff_core.specs.declared.error.Error.TheVariants.{OutOfMemory}
use Rattle.jiff_tz.specs.PosixReader.{read_whole}
use Rattle.jiff_tz.specs.Tzif.{IsParseFailure, RuleAgrees, tzif_view}
use Rattle.jiff_tz.specs.TzifReader.{read_tzif}
use Rattle.due_model.specs.declared.zone.Zone.{Zone}
use Rattle.due_model.specs.declared.zone.Zone.TheVariants.{Utc, Rules, File}
use Rattle.zone_times.specs.declared.given.ZoneFault.{ZoneFault}
use Rattle.zone_times.specs.declared.given.ZoneFault.TheVariants.{TwoZones, BadZone, NoMemory}

-- the zone is that of the rule text
abbrev pub IsOfRule : List ℕ → Zone → Type 0
IsOfRule rule Utc = ⊥
IsOfRule rule (Rules zone) = IsPosixZone rule (plain_zone zone)
IsOfRule rule (File table) = ⊥

-- a rule's only fault is that it can't be read
abbrev pub IsRuleFault : List ℕ → ZoneFault → Type 0
IsRuleFault rule fault = (fault ≡ BadZone) × (IsSome (read_whole rule) → ⊥)

-- the zone is that of the file
abbrev pub IsOfFile : List ℕ → Zone → Type 0
IsOfFile bytes Utc = ⊥
IsOfFile bytes (Rules zone) = ⊥
IsOfFile bytes (File table) = (read_tzif bytes ≡ Ok (tzif_view table)) × RuleAgrees table

-- a file's fault: memory was refused, or its bytes are no zone, whatever memory there is
abbrev pub IsFileFault : List ℕ → ZoneFault → Type 0
IsFileFault bytes TwoZones = ⊥
IsFileFault bytes BadZone = (e : Error) × (e ≡ OutOfMemory → ⊥) × IsParseFailure e bytes
IsFileFault bytes NoMemory = Unit {0}

-- what comes of a rule and a file, each given or not
abbrev pub MatchGiven : (rule file : Option (List ℕ)) → Result Zone ZoneFault → Type 0
MatchGiven None None result = result ≡ Ok Utc
MatchGiven (Some rule) None result = MatchResult result (IsOfRule rule) (IsRuleFault rule)
MatchGiven None (Some bytes) result = MatchResult result (IsOfFile bytes) (IsFileFault bytes)
MatchGiven (Some rule) (Some bytes) result = result ≡ Err TwoZones
