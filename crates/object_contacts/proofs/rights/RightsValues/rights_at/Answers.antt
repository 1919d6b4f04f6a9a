use Rattle.std.proofs.Common.{◌∙◌, ap, rules, true}
use Rattle.object_contacts.proofs.rights.RightsValues.rights_at.Goals as goal
use Rattle.object_inheritance.specs.Columns.{Column}
use Rattle.object_listing.specs.claims.Readings.{is_on}

pub returns : goal.returns
returns c = record {
  enabled = c.is_on.ensures ∙ ap (λ (column : Column). is_on column.blocks column.directive true c.args.place) c.requires.values.enabled;
  options = search rules;
  period = search rules;
  lanes = search rules;
}
