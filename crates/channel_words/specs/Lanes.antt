-- Which lanes the channel words name.
use Rattle.std.specs.Prelude.{◌≡◌, ℕ, ◌<◌, ◌≤◌, ◌==◌, All, List, [], filter, length, map, position, slice_index_or, take, Option, None, Some, ⊤}
use Rattle.std.specs.Str.{bytes_eq}
use Rattle.due_model.specs.declared.config.Config.{Config}
use Rattle.due_model.specs.declared.config.LaneId.{LaneId}
use Rattle.channel_words.specs.declared.fault.ChannelFault.{ChannelFault}
use Rattle.channel_words.specs.declared.fault.ChannelFault.TheVariants as fault
use Rattle.channel_words.specs.declared.word.ChannelWord.{ChannelWord}
use Rattle.channel_words.specs.Words.{IsFirst}

-- the number of the lane of that name, if there is one
abbrev pub lane_named : Config → (name : List ℕ) → Option ℕ
lane_named c name = position (λ lane. bytes_eq lane.name name) c.lanes

-- the names of words
abbrev pub names_of : List ChannelWord → List (List ℕ)
names_of words = map (λ word. word.name.now) words

-- no lane has the name
abbrev pub IsUnknown : Config → (name : List ℕ) → Type 0
IsUnknown c name = lane_named c name ≡ None

-- how many of these names are this one
abbrev pub count_of : (name : List ℕ) → List (List ℕ) → ℕ
count_of name names = length (filter (λ other. bytes_eq other name) names)

-- how often the name at this place stands at earlier ones
abbrev pub earlier_of : List (List ℕ) → (place : ℕ) → ℕ
earlier_of names place = count_of (slice_index_or names place []) (take place names)

-- no name stands more than eight times
abbrev pub AreFew : List (List ℕ) → Type 0
AreFew names = (place : ℕ) → place < length names → earlier_of names place < 8

-- the name is the first that stands at eight earlier places too
pub record IsFirstNinth (name : List ℕ) (names : List (List ℕ)) : Type 0 where
  pub place : ℕ
  pub within : place < length names
  pub here : slice_index_or names place [] ≡ name
  pub ninth : 8 ≤ earlier_of names place
  pub earlier : (k : ℕ) → k < place → earlier_of names k < 8

-- how many of these lanes are lane l
abbrev pub channels_for : List LaneId → (l : ℕ) → ℕ
channels_for lanes l = length (filter (λ lane. lane.0 == l) lanes)

-- The lanes are those that the names name, one for each in order; no name, and so no lane, stands more than eight times.
pub record AreLanesOf (c : Config) (names : List (List ℕ)) (lanes : List LaneId) : Type 0 where
  pub each : map (lane_named c) names ≡ map (λ lane. Some lane.0) lanes
  pub few : AreFew names
  pub few_lanes : (l : ℕ) → channels_for lanes l ≤ 8

-- What a fault says of the names: the first that no lane has, or where there is none the first that stands a ninth time, or nothing.
abbrev pub NamesFail : Config → List (List ℕ) → ChannelFault → Type 0
NamesFail c names (fault.BadChannel word) = ⊥
NamesFail c names (fault.NoCommand name) = IsFirst (IsUnknown c) name.now names
NamesFail c names (fault.Doubled name) =
    All (λ other. ¬ IsUnknown c other) names × IsFirstNinth name.now names
NamesFail c names (fault.NotOpened name) = ⊥
NamesFail c names fault.NoMemory = ⊤
