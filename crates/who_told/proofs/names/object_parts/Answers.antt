use Rattle.std.proofs.Common.{arith}
use Rattle.who_told.proofs.NameLaws.{first_parts, lacks_all}
use Rattle.who_told.proofs.names.object_parts.Goals as goal

pub returns-in-Some-clause-unbroken : goal.returns-in-Some-clause-unbroken
returns-in-Some-clause-unbroken c = (first_parts 47 c.args.name.now c.in-Some.host.now c.in-Some.service.now c.in-Some.ensures.cases (omega arith)).1

pub returns-in-Some-clause-service : goal.returns-in-Some-clause-service
returns-in-Some-clause-service c = (first_parts 47 c.args.name.now c.in-Some.host.now c.in-Some.service.now c.in-Some.ensures.cases (omega arith)).0

pub returns-in-None-clause-unbroken : goal.returns-in-None-clause-unbroken
returns-in-None-clause-unbroken c = lacks_all 47 c.args.name.now c.in-None.ensures.cases (omega arith)
