-- What blocks must be, row by row (chapters "Object Definitions", "Time Periods", "Notification Escalations" and "Host and
-- Service Dependencies"): the tables of the faults and of the names, one after another, each type of block after another.
use Rattle.std.proofs.Common.{Bor}
use Rattle.std.specs.Prelude.{ℕ, List, [], ◌∷◌, ◌++◌, codes, flat_map, map}
use Rattle.object_faults.specs.declared.column.Check.TheVariants.{Given, Number, Ranges, Zero, Names}
use Rattle.object_faults.specs.declared.needs.Side.TheVariants.{Masters, Dependents}
use Rattle.object_faults.specs.claims.Tables.{name_lists, names, numbers, option_lists, range_lines, zeros}
use Rattle.object_names.specs.declared.references.Reference.{Reference}
use Rattle.object_names.specs.claims.References.{directive_of, named_of, reading_of, references}
use Rattle.object_reader.specs.declared.block.BlockKind.{BlockKind}
use Rattle.object_reader.specs.declared.block.BlockKind.TheVariants.{Host, HostGroup, Service, ServiceGroup, Contact, ContactGroup, TimePeriod, Command, HostEscalation, ServiceEscalation, HostDependency, ServiceDependency}
use Rattle.object_check.specs.declared.rows.Must.{Must}
use Rattle.object_check.specs.declared.rows.Must.TheVariants.{Be, Name, HaveWholeLines, HaveDayLines}
use Rattle.object_check.specs.declared.rows.Must.TheVariants as musts

-- the type of block, what it must be, and the name of the directive
pub record Asked : Type 0 where
  pub kind : BlockKind
  pub must : Must
  pub directive : List ℕ

-- the types of block that mean something
abbrev pub all_kinds : List BlockKind
all_kinds = Host ∷ HostGroup ∷ Service ∷ ServiceGroup ∷ Contact ∷ ContactGroup ∷ TimePeriod ∷ Command
    ∷ HostEscalation ∷ ServiceEscalation ∷ HostDependency ∷ ServiceDependency ∷ []

-- the rows of a table of directives, type after type
abbrev pub rows_of : Must → (BlockKind → List (List ℕ)) → List Asked
rows_of must table = flat_map (λ kind. map
    (λ directive. record { kind = kind; must = must; directive = directive }) (table kind)) all_kinds

-- those of the lists of options and states
abbrev pub option_rows : List Asked
option_rows = flat_map (λ kind. map
    (λ row. record { kind = kind; must = Be row.0; directive = row.1 }) (option_lists kind)) all_kinds

-- what lists hosts or services, on which side, and by which directive first
abbrev pub side_rows : List Asked
side_rows = record { kind = Service; must = musts.List Masters; directive = codes "host_name" }
    ∷ record { kind = HostEscalation; must = musts.List Masters; directive = codes "host_name" }
    ∷ record { kind = ServiceEscalation; must = musts.List Masters; directive = codes "host_name" }
    ∷ record { kind = HostDependency; must = musts.List Masters; directive = codes "host_name" }
    ∷ record { kind = ServiceDependency; must = musts.List Masters; directive = codes "host_name" }
    ∷ record { kind = HostDependency; must = musts.List Dependents; directive = codes "dependent_host_name" }
    ∷ record { kind = ServiceDependency; must = musts.List Dependents; directive = codes "dependent_host_name" }
    ∷ []

-- What each block must be by itself, in the order of the faults.
abbrev pub value_rows : List Asked
value_rows = rows_of (Be Given) names ++ side_rows ++ rows_of (Be Number) numbers ++ option_rows
    ++ rows_of (Be Ranges) range_lines
    ++ record { kind = TimePeriod; must = HaveWholeLines; directive = [] } ∷ []
    ++ rows_of (Be Zero) zeros ++ rows_of (Be Names) name_lists
    ++ record { kind = TimePeriod; must = HaveDayLines; directive = [] } ∷ []

-- what a block of the type must name by the reference
abbrev pub name_row : BlockKind → Reference → Asked
name_row kind reference = record {
  kind = kind;
  must = Name (named_of reference) (reading_of reference);
  directive = directive_of reference;
}

-- What each block must name, in the order of the directives.
abbrev pub name_rows : List Asked
name_rows = flat_map (λ kind. map (name_row kind) (references kind)) all_kinds

-- what a row of the program says
abbrev pub said_by : BlockKind × Must × Bor (List ℕ) → Asked
said_by row = record { kind = row.0; must = row.1; directive = row.2.now }
