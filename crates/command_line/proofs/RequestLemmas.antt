-- The command that was met, by its name and its rows.
use Rattle.std.proofs.Common.{◌≡◌, ◌∙◌, List, [], Option, Some, None, ap, ap₂, sym, IfNone, IfSome}
use Rattle.std.specs.Prelude.{option_map, unwrap_or}
use Rattle.std.specs.Box.{box_value}
use Rattle.clap.specs.Matches.{found_of, subcommand_name_of}
use Rattle.clap.specs.Words.{Row, rows_of, subcommand_rows_of, Text}
use Rattle.clap.specs.declared.parser.matches.ArgMatches.{ArgMatches}
use Rattle.clap.specs.declared.parser.matches.ArgMatches.TheViews.{out-ArgMatches, out-SubCommand}
use Rattle.clap.specs.declared.parser.matches.Found.{Found}
use Rattle.command_line.specs.declared.words.Request.{Request}
use Rattle.command_line.specs.Words.{IsAskedBy, IsMetWith, IsRequestOf, request_name}

module _ {X : Type 0} (name_in : X → Text) (rows_in : X → List Row) where
  abbrev both : X → Text × List Row
  both b = (name_in b, rows_in b)

  -- what was found has this name and these rows
  met : (found : Option X) (name : Text) (rows : List Row) → Some name ≡ option_map name_in found
      → Some rows ≡ option_map (λ (p : Text × List Row). p.1) (option_map both found) → option_map both found ≡ Some (name, rows)
  met None name rows named rowed = let none : Some name ≡ None = named in let never : ⊥ = cc in absurd never
  met (Some b) name rows named rowed =
      ap₂ (λ (n : Text) (r : List Row). Some (n, r)) (sym (ap (λ (o : Option Text). unwrap_or o []) named)) (sym (ap (λ (o : Option (List Row)). unwrap_or o []) rowed))

-- a request that its options make, of the command that was met
pub is-asked : (matches : ArgMatches) (options : Found) (name : Text) (request : Request) → Some name ≡ subcommand_name_of matches
    → Some (rows_of options) ≡ option_map (λ (p : Text × List Row). p.1) (subcommand_rows_of matches) → request_name request ≡ name → IsRequestOf options request → IsAskedBy matches request
is-asked matches options name request named rowed same is = (
  options,
  met (λ b. (out-SubCommand (box_value b)).name.now) (λ b. rows_of (found_of (out-SubCommand (box_value b)).matches)) (out-ArgMatches matches).subcommand name (rows_of options) named rowed
      ∙ ap (λ (n : Text). Some (n, rows_of options)) (sym same),
  is,
)

-- the same, of one that there may be
pub some-asked : (matches : ArgMatches) (options : Found) (name : Text) (found : Option Request) → Some name ≡ subcommand_name_of matches
    → Some (rows_of options) ≡ option_map (λ (p : Text × List Row). p.1) (subcommand_rows_of matches) → IfSome found (λ request. request_name request ≡ name) → IfSome found (IsRequestOf options)
    → IfSome found (IsAskedBy matches)
some-asked matches options name None named rowed same is = is
some-asked matches options name (Some request) named rowed same is = is-asked matches options name request named rowed same is

-- options that make no request are those of the command that was met
pub none-asked : (matches : ArgMatches) (options : Found) (name : Text) (found : Option Request) (so : Found → Type 0) → Some name ≡ subcommand_name_of matches
    → Some (rows_of options) ≡ option_map (λ (p : Text × List Row). p.1) (subcommand_rows_of matches) → IfNone found (so options)
    → IfNone found (subcommand_name_of matches ≡ Some name → IsMetWith matches name so)
none-asked matches options name (Some request) so named rowed is = is
none-asked matches options name None so named rowed is = λ _. (
  options,
  met (λ b. (out-SubCommand (box_value b)).name.now) (λ b. rows_of (found_of (out-SubCommand (box_value b)).matches)) (out-ArgMatches matches).subcommand name (rows_of options) named rowed,
  is,
)
