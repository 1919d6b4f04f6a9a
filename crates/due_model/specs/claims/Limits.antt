-- The limits, each named once: those of the code are its constants.
use Rattle.std.specs.Prelude.{ℕ}
use Rattle.due_model.specs.declared.limits.TheConstants.{MAX_OBJECTS, MAX_CONTACTS, MAX_LANES, MAX_PERIODS, MAX_ESCALATIONS, MAX_DEPENDENCIES, MAX_NUMBER, LAST_MOMENT, DAY, TEXT_LIMIT, LINE_LIMIT, MAX_EVENTS, MAX_DECIDERS}

-- how many objects, contacts, lanes, periods, escalations and dependencies a configuration may have
abbrev pub max_objects : ℕ
max_objects = MAX_OBJECTS

abbrev pub max_contacts : ℕ
max_contacts = MAX_CONTACTS

abbrev pub max_lanes : ℕ
max_lanes = MAX_LANES

abbrev pub max_periods : ℕ
max_periods = MAX_PERIODS

abbrev pub max_escalations : ℕ
max_escalations = MAX_ESCALATIONS

abbrev pub max_dependencies : ℕ
max_dependencies = MAX_DEPENDENCIES

-- the greatest number of a directive
abbrev pub max_number : ℕ
max_number = MAX_NUMBER

-- the greatest stamp: the end of the year 2999 in UTC
abbrev pub last_moment : ℕ
last_moment = LAST_MOMENT

-- how many seconds a day has
abbrev pub day : ℕ
day = DAY

-- how many bytes object text may have, and how many a line of it or of a feed
abbrev pub text_limit : ℕ
text_limit = TEXT_LIMIT

abbrev pub line_limit : ℕ
line_limit = LINE_LIMIT

-- how many events a feed may have
abbrev pub max_events : ℕ
max_events = MAX_EVENTS

-- how many deciders may run
abbrev pub max_deciders : ℕ
max_deciders = MAX_DECIDERS
