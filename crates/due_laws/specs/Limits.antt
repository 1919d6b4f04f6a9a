-- The numbers of the limits.
use Rattle.std.specs.Prelude.{◌≡◌}
use Rattle.due_model.specs.claims.Limits.{max_objects, max_contacts, max_lanes, max_periods, max_escalations, max_dependencies, max_number, last_moment, day, text_limit, line_limit, max_events, max_deciders}

pub record LimitsAreThese : Type 0 where
  pub objects : max_objects ≡ 65_535
  pub contacts : max_contacts ≡ 4_096
  pub lanes : max_lanes ≡ 16
  pub periods : max_periods ≡ 4_096
  pub escalations : max_escalations ≡ 1_000_000
  pub dependencies : max_dependencies ≡ 1_000_000
  pub number : max_number ≡ 1_000_000
  -- the end of the year 2999 in UTC
  pub moment : last_moment ≡ 32_503_679_999
  -- the seconds of a day
  pub seconds : day ≡ 86_400
  -- the bytes of object text, and of a line
  pub text : text_limit ≡ 16_777_216
  pub line : line_limit ≡ 4_096
  -- 2 ^ 32
  pub events : max_events ≡ 4_294_967_296
  pub deciders : max_deciders ≡ 8
