-- The zone of a zone file, and the zone that is asked for.
use Rattle.std.specs.Prelude.{◌≡◌, ℕ, ◌<◌, ◌⊎◌, Bool, true, List, length, IfSome, Option, None, Some, Result, Err, MatchResult, ⊤}
use Rattle.due_model.specs.declared.zone.Zone.{Zone}
use Rattle.due_model.specs.declared.zone.Zone.TheVariants.{Utc, Rules, File}
use Rattle.text_lines.specs.Text.{text_limit}
use Rattle.zone_times.specs.declared.given.ZoneFault.{ZoneFault}
use Rattle.zone_times.specs.declared.given.ZoneFault.TheVariants.{TwoZones, BadZone, NoMemory}
use Rattle.zone_times.specs.Given.{IsFileFault, IsOfFile, MatchGiven}

-- the zone is one of a zone file
abbrev pub IsFileZone : Zone → Type 0
IsFileZone Utc = ⊥
IsFileZone (Rules zone) = ⊥
IsFileZone (File table) = ⊤

-- where the bytes are known, the zone is theirs
abbrev pub IsZoneOf : Zone → Option (List ℕ) → Type 0
IsZoneOf zone known = IfSome known (λ bytes. IsOfFile bytes zone)

-- What a fault says, where the bytes are known: they are too many, or no zone. Only of a reader that can fail nothing is said.
abbrev pub ZoneFails : (can_fail : Bool) → ZoneFault → Option (List ℕ) → Type 0
ZoneFails can_fail TwoZones known = ⊥
ZoneFails can_fail BadZone known = (can_fail ≡ true)
    ⊎ IfSome known (λ bytes. (text_limit < length bytes) ⊎ IsFileFault bytes BadZone)
ZoneFails can_fail NoMemory known = ⊤

-- What comes of a rule and the path of a file, each given or not: of a rule its zone, and of neither UTC; with a file beside
-- a rule there are two zones. With a file alone there aren't, and the zone is one of a file; what that holds is known to nobody.
abbrev pub ZoneComesOf : (rule file : Option (List ℕ)) → Result Zone ZoneFault → Type 0
ZoneComesOf rule None result = MatchGiven rule None result
ZoneComesOf (Some rule) (Some path) result = result ≡ Err TwoZones
ZoneComesOf None (Some path) result =
    MatchResult result IsFileZone (λ fault. fault ≡ TwoZones → ⊥)
