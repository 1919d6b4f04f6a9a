use Rattle.run_resumed.proofs.ready.count_events.Goals as goal

pub returns-in-Ok : goal.returns-in-Ok
returns-in-Ok c =
    let given = c.in-Ok.ensures.count in
    (given.0, given.2)
