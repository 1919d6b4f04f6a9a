-- What a command line says of what a run keeps for later runs of its feed.
use Rattle.std.specs.Prelude.{◌≡◌, ℕ, Bool, false, true, not, ◌&&◌, ◌||◌, List, codes, Option, None, Some, is_none, is_some, if◌then◌else◌}
use Rattle.std.specs.Str.{bytes_eq}
use Rattle.std.specs.Option.{option_copied, option_map_or}
use Rattle.clap.specs.Matches.{first_value}
use Rattle.clap.specs.declared.parser.matches.Found.{Found}
use Rattle.clap.specs.Words.{App, with_rule}
use Rattle.command_line.specs.Options.{flag_option, IsFlag, text_option}
use Rattle.command_line.specs.declared.state.FeedFault.{FeedFault}
use Rattle.command_line.specs.declared.state.FeedFault.TheVariants.{Ahead, BadDoubt, NoState}
use Rattle.command_line.specs.declared.state.StateWords.{StateWords}

-- what the options of `run` hold of what it keeps
pub record IsStateOf (options : Found) (state : StateWords) : Type 0 where
  pub folder : option_copied state.folder ≡ first_value options (codes "state")
  pub in_doubt : option_copied state.in_doubt ≡ first_value options (codes "in-doubt")
  pub from_now : IsFlag options (codes "from-now") state.from_now

-- letters in doubt are given up
abbrev pub drops_doubt : StateWords → Bool
drops_doubt state = option_map_or (λ word. bytes_eq word (codes "drop")) (option_copied state.in_doubt) false

-- it says what becomes of them, or is left out
abbrev pub is_doubt_word : Option (List ℕ) → Bool
is_doubt_word word = option_map_or (λ w. bytes_eq w (codes "again") || bytes_eq w (codes "drop")) word true

-- The first of these is wrong: it says how what is kept is used, and names no folder; what becomes of letters in doubt is no such word; it keeps
-- what it has done, and limits how far ahead a stamp may be.
abbrev pub state_fault : StateWords → (ahead : Option ℕ) → Option FeedFault
state_fault state ahead =
    if is_none state.folder && (is_some state.in_doubt || state.from_now) then Some NoState
    else if not (is_doubt_word (option_copied state.in_doubt)) then Some BadDoubt
    else if is_some state.folder && is_some ahead then Some Ahead
    else None

-- three say what is kept, and how it is used
abbrev pub with_state_options : App → App
with_state_options app =
    with_rule (with_rule (with_rule app (text_option (codes "state"))) (text_option (codes "in-doubt"))) (flag_option (codes "from-now"))
