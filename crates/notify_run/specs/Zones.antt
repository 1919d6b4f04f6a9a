-- How the program ends where there is no zone.
use Rattle.std.specs.Prelude.{◌≡◌, ℕ, Bool, false, not, ◌&&◌, ◌||◌, ◌==◌, nat_le, List, None, Some}
use Rattle.std.specs.List.{list_any}
use Rattle.std.specs.Option.{option_map}
use Rattle.command_line.specs.declared.words.ZoneWords.{ZoneWords}
use Rattle.due_model.specs.declared.zone.Zone.{Zone}
use Rattle.zone_times.specs.Given.{IsOfRule}
use Rattle.zone_times.specs.declared.given.ZoneFault.{ZoneFault}
use Rattle.zone_times.specs.declared.given.ZoneFault.TheVariants.{TwoZones, BadZone, NoMemory}

-- the exit status: the command line is wrong, or memory ran out
abbrev pub zone_fault_status : ZoneFault → ℕ
zone_fault_status TwoZones = 2
zone_fault_status BadZone = 2
zone_fault_status NoMemory = 4

-- no letter, no digit, and none of _ + - /
unfoldable pub is_odd_byte : ℕ → Bool
is_odd_byte byte = not ((nat_le 48 byte && nat_le byte 57) || (nat_le 65 byte && nat_le byte 90)
    || (nat_le 97 byte && nat_le byte 122)
    || (byte == 95) || (byte == 43) || (byte == 45) || (byte == 47))

-- whether a text may be the name of a zone file, as Europe/Berlin
abbrev pub is_zone_name : List ℕ → Bool
is_zone_name text = not (list_any is_odd_byte text)

-- It gives a rule alone, no zone is that of the rule, and it isn't the name of one.
abbrev pub IsBadRule : ZoneWords → Type 0
IsBadRule words = (words.file ≡ None)
    × ((rule : List ℕ) × (option_map (λ text. text.now) words.rule ≡ Some rule)
    × ((zone : Zone) → IsOfRule rule zone → ⊥) × (is_zone_name rule ≡ false))
