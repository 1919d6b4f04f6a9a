use Rattle.graph_order.proofs.walk.Walk.step.Goals as goal

pub returns-in-None : goal.returns-in-None
returns-in-None c = c.begin.ensures

pub returns-in_ok-go_on-in-Some : goal.returns-in_ok-go_on-in-Some
returns-in_ok-go_on-in-Some c = c.in_ok-go_on-in-Some.ensures
