-- A feed that is made of what is supposed, as bytes.
use Rattle.std.specs.Prelude.{ℕ, ◌+◌, ◌*◌, List, [], ◌∷◌, ◌++◌, codes, decimal, flat_map, Option, None, Some}
use Rattle.std.specs.List.{range_with_len}

-- what a line of a feed begins with: [moment] and a blank
unfoldable pub stamp : ℕ → List ℕ
stamp moment = codes "[" ++ decimal moment ++ codes "] "

-- an argument of a line
abbrev pub field : List ℕ → List ℕ
field value = 59 ∷ value

-- the host is down
unfoldable pub down_line : (moment : ℕ) → (host : List ℕ) → List ℕ
down_line moment host = stamp moment ++ codes "HOST_STATE" ++ field host ++ codes ";DOWN" ++ 10 ∷ []

-- the host goes into the state
unfoldable pub host_line : (moment : ℕ) → (host state : List ℕ) → List ℕ
host_line moment host state =
    stamp moment ++ codes "HOST_STATE" ++ field host ++ field state ++ 10 ∷ []

-- the service does
unfoldable pub service_line : (moment : ℕ) → (host service state : List ℕ) → List ℕ
service_line moment host service state =
    stamp moment ++ codes "SERVICE_STATE" ++ field host ++ field service ++ field state ++ 10 ∷ []

abbrev pub state_line : (moment : ℕ) → (host : List ℕ) → Option (List ℕ) → (state : List ℕ)
    → List ℕ
state_line moment host None state = host_line moment host state
state_line moment host (Some service) state = service_line moment host service state

-- the clock has come to the moment
unfoldable pub clock_line : (moment : ℕ) → List ℕ
clock_line moment = stamp moment ++ codes "CLOCK" ++ 10 ∷ []

-- The hosts are down, the object goes into the state, and then the clock goes on for so many minutes.
abbrev pub made_feed : (down : List (List ℕ)) → (host : List ℕ) → Option (List ℕ)
    → (state : List ℕ) → (moment minutes : ℕ) → List ℕ
made_feed down host service state moment minutes =
    flat_map (down_line moment) down ++ state_line moment host service state
    ++ flat_map (λ minute. clock_line (moment + 60 * (minute + 1))) (range_with_len 0 minutes)
