-- Lists of notification options and of failure criteria (chapters "Object Definitions",
-- "Notification Escalations" and "Host and Service Dependencies").
use Rattle.std.specs.Prelude.{ℕ, Bool, true, false, ◌||◌, ◌&&◌, ◌==◌, not, List, [], ◌∷◌, length, codes, Option, Some, None, if◌then◌else◌}
use Rattle.std.specs.List.{list_all, list_any, slice_split}
use Rattle.std.specs.Str.{bytes_eq}
use Rattle.due_model.specs.claims.Options.{every_letter}
use Rattle.due_model.specs.declared.options.OptionLetters.{OptionLetters}
use Rattle.due_model.specs.declared.state.StateSet.{StateSet}
use Rattle.object_reader.specs.claims.Blanks.{is_blank}
use Rattle.object_values.specs.claims.Values.{is_comma}
use Rattle.object_values.specs.declared.options.OptionKind.{OptionKind}
use Rattle.object_values.specs.declared.options.OptionKind.TheVariants.{Host, Service, HostEscalation, ServiceEscalation}
use Rattle.object_values.specs.declared.options.CriteriaKind.{CriteriaKind}
use Rattle.object_values.specs.declared.options.CriteriaKind.TheVariants.{OfHosts, OfServices}

-- What stands between the commas and blanks of a list. A part that is empty says nothing.
abbrev pub parts : List ℕ → List (List ℕ)
parts text = slice_split (λ b. is_comma b || is_blank b) text

-- whether a list has a part that is the letter or the word
abbrev pub gives : (letter word : List ℕ) → List (List ℕ) → Bool
gives letter word parts = list_any (λ part. bytes_eq part letter || bytes_eq part word) parts

-- whether each part is one of the words, or empty
abbrev pub are_among : List (List ℕ) → List (List ℕ) → Bool
are_among words parts = list_all (λ part. length part == 0 || list_any (bytes_eq part) words) parts

-- ---- notification options

-- the letters and words of each kind of list
abbrev pub option_words : OptionKind → List (List ℕ)
option_words Host = codes "d" ∷ codes "down" ∷ codes "u" ∷ codes "unreachable"
    ∷ codes "r" ∷ codes "recovery" ∷ codes "f" ∷ codes "flapping" ∷ codes "s" ∷ codes "downtime"
    ∷ codes "n" ∷ codes "none" ∷ codes "a" ∷ codes "all" ∷ []
option_words Service = codes "w" ∷ codes "warning" ∷ codes "u" ∷ codes "unknown"
    ∷ codes "c" ∷ codes "critical"
    ∷ codes "r" ∷ codes "recovery" ∷ codes "f" ∷ codes "flapping" ∷ codes "s" ∷ codes "downtime"
    ∷ codes "n" ∷ codes "none" ∷ codes "a" ∷ codes "all" ∷ []
option_words HostEscalation = codes "d" ∷ codes "down" ∷ codes "u" ∷ codes "unreachable"
    ∷ codes "r" ∷ codes "recovery"
    ∷ codes "n" ∷ codes "none" ∷ codes "a" ∷ codes "all" ∷ []
option_words ServiceEscalation = codes "w" ∷ codes "warning" ∷ codes "u" ∷ codes "unknown"
    ∷ codes "c" ∷ codes "critical" ∷ codes "r" ∷ codes "recovery"
    ∷ codes "n" ∷ codes "none" ∷ codes "a" ∷ codes "all" ∷ []

-- whether `u` is of hosts: unreachable; else it is of services: unknown
abbrev pub is_of_hosts : OptionKind → Bool
is_of_hosts Host = true
is_of_hosts HostEscalation = true
is_of_hosts Service = false
is_of_hosts ServiceEscalation = false

abbrev pub no_letter : OptionLetters
no_letter = record {
  down = false;
  unreachable = false;
  warning = false;
  unknown = false;
  critical = false;
  recovery = false;
  flapping = false;
  downtime = false;
}

-- the letters that a list gives, which has neither `n` nor `a`
abbrev pub given_letters : (hosts : Bool) → List (List ℕ) → OptionLetters
given_letters hosts parts = record {
  down = gives (codes "d") (codes "down") parts;
  unreachable = hosts && gives (codes "u") (codes "unreachable") parts;
  warning = gives (codes "w") (codes "warning") parts;
  unknown = not hosts && gives (codes "u") (codes "unknown") parts;
  critical = gives (codes "c") (codes "critical") parts;
  recovery = gives (codes "r") (codes "recovery") parts;
  flapping = gives (codes "f") (codes "flapping") parts;
  downtime = gives (codes "s") (codes "downtime") parts;
}

-- The letters that a list allows: none where it gives `n`, else all where it gives `a`, else those
-- given.
abbrev pub letters_of : OptionKind → List (List ℕ) → OptionLetters
letters_of kind parts = if gives (codes "n") (codes "none") parts then no_letter
    else if gives (codes "a") (codes "all") parts then every_letter
    else given_letters (is_of_hosts kind) parts

-- the letters that an option list allows; none where it has a word that is no option of its kind
unfoldable pub options_in : OptionKind → List ℕ → Option OptionLetters
options_in kind text = if are_among (option_words kind) (parts text)
    then Some (letters_of kind (parts text)) else None

-- ---- failure criteria

-- the letters and words of each kind of list
abbrev pub criteria_words : CriteriaKind → List (List ℕ)
criteria_words OfHosts = codes "o" ∷ codes "up" ∷ codes "d" ∷ codes "down"
    ∷ codes "u" ∷ codes "unreachable" ∷ codes "p" ∷ codes "pending"
    ∷ codes "n" ∷ codes "none" ∷ codes "a" ∷ codes "all" ∷ []
criteria_words OfServices = codes "o" ∷ codes "ok" ∷ codes "w" ∷ codes "warning"
    ∷ codes "u" ∷ codes "unknown" ∷ codes "c" ∷ codes "critical" ∷ codes "p" ∷ codes "pending"
    ∷ codes "n" ∷ codes "none" ∷ codes "a" ∷ codes "all" ∷ []

abbrev pub no_state : StateSet
no_state = record {
  pending = false;
  up = false;
  down = false;
  unreachable = false;
  fine = false;
  warning = false;
  unknown = false;
  critical = false;
}

-- the states of hosts, and of services
abbrev pub every_host_state : StateSet
every_host_state = record {
  pending = true;
  up = true;
  down = true;
  unreachable = true;
  fine = false;
  warning = false;
  unknown = false;
  critical = false;
}

abbrev pub every_service_state : StateSet
every_service_state = record {
  pending = true;
  up = false;
  down = false;
  unreachable = false;
  fine = true;
  warning = true;
  unknown = true;
  critical = true;
}

-- the states that a list gives, which has neither `n` nor `a`
abbrev pub given_host_states : List (List ℕ) → StateSet
given_host_states parts = record {
  pending = gives (codes "p") (codes "pending") parts;
  up = gives (codes "o") (codes "up") parts;
  down = gives (codes "d") (codes "down") parts;
  unreachable = gives (codes "u") (codes "unreachable") parts;
  fine = false;
  warning = false;
  unknown = false;
  critical = false;
}

abbrev pub given_service_states : List (List ℕ) → StateSet
given_service_states parts = record {
  pending = gives (codes "p") (codes "pending") parts;
  up = false;
  down = false;
  unreachable = false;
  fine = gives (codes "o") (codes "ok") parts;
  warning = gives (codes "w") (codes "warning") parts;
  unknown = gives (codes "u") (codes "unknown") parts;
  critical = gives (codes "c") (codes "critical") parts;
}

-- The states that a list names: none where it gives `n`, else each state of the kind where it gives
-- `a`, else those given.
abbrev pub states_of : CriteriaKind → List (List ℕ) → StateSet
states_of OfHosts parts = if gives (codes "n") (codes "none") parts then no_state
    else if gives (codes "a") (codes "all") parts then every_host_state
    else given_host_states parts
states_of OfServices parts = if gives (codes "n") (codes "none") parts then no_state
    else if gives (codes "a") (codes "all") parts then every_service_state
    else given_service_states parts

-- the states of failure criteria; none where they have a word that is no state of the kind
unfoldable pub criteria_in : CriteriaKind → List ℕ → Option StateSet
criteria_in kind text = if are_among (criteria_words kind) (parts text)
    then Some (states_of kind (parts text)) else None
