-- What the contacts of a configuration were told, by their numbers.
use Rattle.std.specs.Prelude.{◌≡◌, ℕ, ◌+◌, ◌<◌, ◌&&◌, min, max, nat_le, nat_lt, List, length, map, slice_get, slice_index_or, slice_set, Some, if◌then◌else◌}
use Rattle.std.specs.List.{range_with_len}
use Rattle.due_model.specs.declared.notice.Notice.{Notice}
use Rattle.due_model.specs.declared.zone.Zone.{Zone}
use Rattle.contact_tallies.specs.declared.tallies.Tallies.{Tallies}
use Rattle.contact_tallies.specs.declared.tallies.Tally.{Tally}
use Rattle.due_model.specs.claims.Limits.{last_moment}
use Rattle.contact_tallies.specs.declared.heard.Told.{Told}
use Rattle.contact_tallies.specs.Heard.{heard, told_after, told_of}
use Rattle.contact_tallies.specs.Marks.{Mark, counted, is_night, is_night_page, is_of_problem, is_page, last_told, longest, since}

-- what contact k was told
abbrev pub tally_of : Zone → List Mark → (k : ℕ) → Tally
tally_of zone past k = record {
  pages = counted (is_page k) past;
  at_night = counted (is_night_page zone k) past;
  silence = longest past k;
}

-- what the contacts of these numbers were
abbrev pub tallies_of : Zone → List Mark → (count : ℕ) → List Tally
tallies_of zone past count = map (tally_of zone past) (range_with_len 0 count)

-- what nobody was told
abbrev pub no_tally : Tally
no_tally = record { pages = 0; at_night = 0; silence = 0 }

-- The tallies are those of so many contacts after what was given.
pub record AreTallies (zone : Zone) (count : ℕ) (past : List Mark) (tallies : Tallies) : Type 0 where
  pub contacts : length tallies.contacts.items ≡ count
  pub each : (k : ℕ) → k < count → slice_get tallies.contacts.items k ≡ Some (tally_of zone past k)
  pub places : length tallies.problems ≡ 65536
  pub told : (o k : ℕ) → o < 65536 → heard (told_of tallies.problems o) k ≡ last_told past o k

-- ---- one notice more

-- how long its contact had heard nothing of the problem, by what is kept of the problems
abbrev pub silence_in : List (List Told) → Notice → ℕ
silence_in problems n =
    if is_of_problem n.kind then since n.moment (heard (told_of problems n.object.0) n.contact.0)
    else 0

-- one more; a count stays at the most that it can be
abbrev pub one_more : ℕ → ℕ
one_more count = min (count + 1) 18446744073709551615

-- the tally of its contact
abbrev pub with_notice : Zone → Notice → (silence : ℕ) → Tally → Tally
with_notice zone n silence tally = record {
  pages = one_more tally.pages;
  at_night = if nat_le n.moment last_moment && is_night zone n.moment then one_more tally.at_night
      else tally.at_night;
  silence = max tally.silence silence;
}

abbrev pub counted_in : Zone → Notice → (silence : ℕ) → List Tally → List Tally
counted_in zone n silence tallies =
    if nat_lt n.contact.0 (length tallies)
    then slice_set tallies n.contact.0
    (with_notice zone n silence (slice_index_or tallies n.contact.0 no_tally))
    else tallies

-- and who was told of the problems
abbrev pub told_by : List (List Told) → Notice → List (List Told)
told_by problems n =
    if is_of_problem n.kind
    then slice_set problems n.object.0
    (told_after (told_of problems n.object.0) (record { contact = n.contact; moment = n.moment }))
    else problems
