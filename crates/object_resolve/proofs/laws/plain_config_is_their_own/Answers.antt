use Rattle.object_resolve.proofs.PlainLemmas.{plain-config}
use Rattle.object_resolve.proofs.laws.plain_config_is_their_own.Goals as goal

pub returns : goal.returns
returns c = plain-config c.plain_block_has_its_own.ensures.value c.plain_block_has_its_own.ensures.list c.plain_host_has_its_own.ensures
    c.plain_service_has_its_own.ensures c.plain_contact_has_its_own.ensures
