use Rattle.object_settings.proofs.LawLemmas.{plain-service}
use Rattle.object_settings.proofs.laws.plain_service_has_its_own.Goals as goal

pub returns : goal.returns
returns c = plain-service c.plain_block_has_its_own.ensures.value c.plain_block_has_its_own.ensures.list
