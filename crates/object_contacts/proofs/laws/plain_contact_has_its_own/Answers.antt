use Rattle.object_contacts.proofs.LawLemmas.{plain-contact}
use Rattle.object_contacts.proofs.laws.plain_contact_has_its_own.Goals as goal

pub returns : goal.returns
returns c = plain-contact c.plain_block_has_its_own.ensures.value c.plain_block_has_its_own.ensures.list
