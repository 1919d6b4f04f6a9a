use Rattle.object_settings.proofs.LawLemmas.{plain-host}
use Rattle.object_settings.proofs.laws.plain_host_has_its_own.Goals as goal

pub returns : goal.returns
returns c = plain-host c.plain_block_has_its_own.ensures.value c.plain_block_has_its_own.ensures.list
