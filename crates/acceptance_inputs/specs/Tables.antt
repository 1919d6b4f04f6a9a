-- What is built of the rows of a table.
use Rattle.std.specs.Prelude.{codes, unwrap_or}
use Rattle.std.specs.Option.{option_map}
use Rattle.due_model.specs.declared.config.Contact.{Contact}
use Rattle.due_model.specs.declared.config.Escalation.{Escalation}
use Rattle.due_model.specs.declared.config.Lane.{Lane}
use Rattle.due_model.specs.declared.config.Object.{Object}
use Rattle.due_model.specs.declared.config.Rights.{Rights}
use Rattle.acceptance_inputs.specs.declared.rows.ContactRow.{ContactRow}
use Rattle.acceptance_inputs.specs.declared.rows.EscalationRow.{EscalationRow}
use Rattle.acceptance_inputs.specs.declared.rows.ObjectRow.{ObjectRow}
use Rattle.acceptance_inputs.specs.declared.rows.RightsRow.{RightsRow}

-- what a row of rights gives
abbrev pub rights_of : RightsRow → Rights
rights_of row = record {
  enabled = row.enabled;
  options = row.options;
  period = row.period;
  lanes = row.lanes.now;
}

-- what holds of a contact for hosts
abbrev pub host_rights : ContactRow → Rights
host_rights row = record {
  enabled = row.enabled;
  options = row.options;
  period = row.period;
  lanes = row.lanes.now;
}

-- and for services: the same, if the row says nothing of them
abbrev pub contact_of : ContactRow → Contact
contact_of row = record {
  name = row.name.now;
  hosts = host_rights row;
  services = unwrap_or (option_map rights_of row.services) (host_rights row);
}

abbrev pub object_of : ObjectRow → Object
object_of row = record {
  name = row.name.now;
  host = row.host;
  enabled = row.enabled;
  options = row.options;
  period = row.period;
  interval = row.interval;
  delay = row.delay;
  volatile = row.volatile;
  contacts = row.contacts.now;
}

abbrev pub escalation_of : EscalationRow → Escalation
escalation_of row = record {
  object = row.object;
  first = row.first;
  last = row.last;
  interval = row.interval;
  period = row.period;
  options = row.options;
  contacts = row.contacts.now;
}

-- the command mail
abbrev pub mail : Lane
mail = record { name = codes "mail" }
