-- The contacts that blocks give (chapter "Object Definitions").
use Rattle.std.specs.Prelude.{◌≡◌, List}
use Rattle.object_contacts.specs.declared.rights.RightsKind.{RightsKind}
use Rattle.object_contacts.specs.declared.rights.RightsKind.TheVariants.{OfHosts, OfServices}
use Rattle.object_contacts.specs.declared.rights.RightsValues.{RightsValues}
use Rattle.object_contacts.specs.declared.contacts.ContactValues.{ContactValues}
use Rattle.object_reader.specs.declared.block.Block.{Block}
use Rattle.object_contacts.specs.claims.Contacts.{enabled_directive, options_directive, period_directive, commands_directive}

-- ---- how they are kept

-- what the blocks have for the directives of one kind
pub record AreRightsValues (blocks : List Block) (kind : RightsKind)
    (values : RightsValues) : Type 0 where
  pub enabled : values.enabled ≡ record { blocks = blocks; directive = enabled_directive kind }
  pub options : values.options ≡ record { blocks = blocks; directive = options_directive kind }
  pub period : values.period ≡ record { blocks = blocks; directive = period_directive kind }
  pub commands : values.commands ≡ record { blocks = blocks; directive = commands_directive kind }

-- the same of both kinds
pub record AreContactValues (blocks : List Block) (values : ContactValues) : Type 0 where
  pub hosts : AreRightsValues blocks OfHosts values.hosts
  pub services : AreRightsValues blocks OfServices values.services
