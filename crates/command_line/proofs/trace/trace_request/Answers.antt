use Rattle.std.proofs.Common.{codes, rules}
use Rattle.clap.specs.Matches.{found_of}
use Rattle.command_line.specs.Words.{HoldsNumber}
use Rattle.command_line.proofs.trace.trace_request.Goals as goal

pub returns-clause-options : goal.returns-clause-options
returns-clause-options c =
    let options = found_of c.args.options.now in
    let deciders : HoldsNumber options (codes "deciders") c.in_ok-settings_of.field-0.deciders = search rules in
    let standbys : HoldsNumber options (codes "standbys") c.in_ok-standbys.standbys = search rules in
    (deciders, standbys, c.in_ok-settings_of.ensures.held, c.zone_words.ensures)
