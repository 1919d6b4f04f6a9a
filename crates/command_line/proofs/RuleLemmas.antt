-- What the rules of options become as their settings are set one by one.
use Rattle.std.specs.Int.{int_max, int_min}
use Rattle.std.proofs.Common.{◌≡◌, ◌∙◌, ℕ, ℤ, Bool, List, [], ◌∷◌, Option, Some, ap, ap₂, pos}
use Rattle.clap.specs.Words.{new_rule, Rule, signed_between}
use Rattle.clap.specs.declared.builder.arg.Arg.{Arg}
use Rattle.clap.specs.declared.builder.value_parser.ValueParser.{ValueParser}
use Rattle.clap.specs.declared.builder.value_parser.ValueParser.TheVariants.{Signed}
use Rattle.clap.specs.declared.builder.action.ArgAction.TheVariants.{SetTrue}
use Rattle.command_line.specs.Words.{bare_number_option, flag_option, number_option, text_option}

abbrev pub is_global : Arg → Bool
is_global a = a.global

-- the parser of numbers from 0 to `top`, within narrower bounds
abbrev pub narrowed : ℕ → ℤ → ℤ → ValueParser
narrowed top least most = signed_between (int_max (pos 0) least) (int_min (pos top) most)

-- `made`, with its long name, and then with a name for its value
pub text-rule : (name : List ℕ) (made long named : Rule) → made ≡ new_rule name → long ≡ record made { long = Some name } → named ≡ record long { value_names = 1 }
    → named ≡ text_option name
text-rule name made long named is is_long is_named =
    is_named ∙ ap (λ (r : Rule). record r { value_names = 1 }) (is_long ∙ ap (λ (r : Rule). record r { long = Some name }) is)

-- the same, then with a parser, and then with a default
pub number-rule : (name default : List ℕ) (least most : ℕ) (named parsed defaulted : Rule) (parser : Option ValueParser) → named ≡ text_option name → parsed ≡ record named { parser = parser }
    → parser ≡ Some (Signed (pos least) (pos most)) → defaulted ≡ record parsed { defaults = default ∷ [] } → defaulted ≡ number_option name default least most
number-rule name default least most named parsed defaulted parser is is_parsed is_parser is_defaulted =
    is_defaulted ∙ ap (λ (r : Rule). record r { defaults = default ∷ [] }) (is_parsed ∙ ap₂ (λ (r : Rule) (p : Option ValueParser). record r { parser = p }) is is_parser)

-- with a parser alone
pub bare_number-rule : (name : List ℕ) (least most : ℕ) (named parsed : Rule) (parser : Option ValueParser) → named ≡ text_option name → parsed ≡ record named { parser = parser }
    → parser ≡ Some (Signed (pos least) (pos most)) → parsed ≡ bare_number_option name least most
bare_number-rule name least most named parsed parser is is_parsed is_parser =
    is_parsed ∙ ap₂ (λ (r : Rule) (p : Option ValueParser). record r { parser = p }) is is_parser

-- `made`, with its long name, and then with the action of a flag
pub flag-rule : (name : List ℕ) (made long acted : Rule) → made ≡ new_rule name → long ≡ record made { long = Some name } → acted ≡ record long { action = Some SetTrue }
    → acted ≡ flag_option name
flag-rule name made long acted is is_long is_acted =
    is_acted ∙ ap (λ (r : Rule). record r { action = Some SetTrue }) (is_long ∙ ap (λ (r : Rule). record r { long = Some name }) is)
