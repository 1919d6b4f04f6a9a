-- The filters that were tried of an attempt, as an object of JSON.
use Rattle.std.specs.Prelude.{ℕ, ◌==◌, List, [], ◌∷◌, ◌++◌, codes, decimal, flat_map, Option, None, Some, if◌then◌else◌}
use Rattle.std.specs.List.{range_with_len}
use Rattle.due_model.specs.declared.config.Config.{Config}
use Rattle.due_model.specs.declared.notice.Filter.{Filter}
use Rattle.line_forms.specs.Json.{string_json}
use Rattle.filter_values.specs.Values.{filter_at, filter_text}

-- the filter at a place, after a comma where it isn't the first
abbrev pub passed_json_at : Config → (o place : ℕ) → List ℕ
passed_json_at c o place =
    (if place == 0 then [] else codes ",")
    ++ string_json (filter_text c o (filter_at c.choices place))

-- the first filters of the object
abbrev pub first_json : Config → (o count : ℕ) → List ℕ
first_json c o count = flat_map (passed_json_at c o) (range_with_len 0 count)

-- those that passed, as a member
unfoldable pub passed_json : Config → (o count : ℕ) → List ℕ
passed_json c o count = codes ",\"passed\":[" ++ first_json c o count ++ codes "]"

-- one that stopped it as a member
unfoldable pub stop_json : Config → (o : ℕ) → Filter → List ℕ
stop_json c o filter = codes ",\"stopped\":" ++ string_json (filter_text c o filter)

-- the one that stopped it, null where none did
abbrev pub stopped_json : Config → (o : ℕ) → Option Filter → List ℕ
stopped_json c o None = codes ",\"stopped\":null"
stopped_json c o (Some filter) = stop_json c o filter

-- where the value stands that it goes by, as the last member, and the end of the object
unfoldable pub known_json : (at : List ℕ) → List ℕ
known_json at = codes ",\"at\":" ++ string_json at ++ codes "}\n"

-- the same, null where that isn't known
abbrev pub at_json : (at : List ℕ) → List ℕ
at_json [] = codes ",\"at\":null}\n"
at_json (byte ∷ bytes) = known_json (byte ∷ bytes)

-- the attempt of an event: the filters that passed, so many, and the one that stopped it, if one did, with the place of its value
unfoldable pub tried_json : Config → (event o count : ℕ) → Option Filter → (at : List ℕ) → List ℕ
tried_json c event o count filter at =
    codes "{\"letter\":\"A\",\"event\":" ++ decimal event ++ passed_json c o count
    ++ stopped_json c o filter ++ at_json at
