use Rattle.object_service_groups.proofs.LawLemmas.{blocks-are, included-are, listed-are}
use Rattle.object_service_groups.proofs.laws.what_is_listed_is_a_member.Goals as goal

pub returns-clause-listed : goal.returns-clause-listed
returns-clause-listed c = listed-are

pub returns-clause-blocks : goal.returns-clause-blocks
returns-clause-blocks c = blocks-are

pub returns-clause-included : goal.returns-clause-included
returns-clause-included c = included-are
