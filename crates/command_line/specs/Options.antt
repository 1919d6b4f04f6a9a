-- Options that several commands have.
use Rattle.std.specs.Prelude.{◌≡◌, Bool, List, ℕ, None, Some, true, false, codes}
use Rattle.clap.specs.Matches.{one_text}
use Rattle.clap.specs.Words.{App, Rule, new_rule, with_rule}
use Rattle.clap.specs.declared.builder.action.ArgAction.TheVariants.{Append, SetTrue}
use Rattle.clap.specs.declared.parser.matches.Found.{Found}

-- A flag is on where it is given, and off where it isn't.
pub record IsFlag (options : Found) (name : List ℕ) (flag : Bool) : Type 0 where
  pub left_out : one_text options name ≡ None → flag ≡ false
  pub on : one_text options name ≡ Some (codes "true") → flag ≡ true
  pub off : one_text options name ≡ Some (codes "false") → flag ≡ false

-- `--NAME TEXT`, which may be left out
abbrev pub text_option : List ℕ → Rule
text_option name = record (new_rule name) {
  long = Some name;
  value_names = 1;
}

-- `--NAME`, which may be left out
abbrev pub flag_option : List ℕ → Rule
flag_option name = record (new_rule name) {
  long = Some name;
  action = Some SetTrue;
}

-- `--NAME TEXT`, any number of times
abbrev pub text_options : List ℕ → Rule
text_options name = record (text_option name) { action = Some Append }

-- two by which a zone is given
abbrev pub with_zone : App → App
with_zone app =
    with_rule (with_rule app (text_option (codes "zone"))) (text_option (codes "zone-file"))

-- and three that say whose rules decide, and how object text is read
abbrev pub with_choices : App → App
with_choices app =
    with_rule (with_rule (with_rule app (flag_option (codes "as-nagios"))) (flag_option (codes "nagios")))
    (text_options (codes "choose"))

-- beside its other options a command has these five
abbrev pub with_site : App → App
with_site app = with_choices (with_zone app)
