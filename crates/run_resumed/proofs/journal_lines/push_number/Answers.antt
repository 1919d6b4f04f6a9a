use Rattle.std.proofs.Common.{refl}
use Rattle.run_resumed.proofs.JournalLaws.{no_channels_line, no_state_line, number_line}
use Rattle.run_resumed.proofs.journal_lines.push_number.Goals as goal

pub returns-in_default : goal.returns-in_default
returns-in_default c = no_state_line c.args.config.now c.args.number c.from-place.result c.args.states.now _ c.args.text.now.items c.args.text.now.items c.from-place.ensures c.in_default.ensures.lookup.3 refl

pub returns-in_default-get : goal.returns-in_default-get
returns-in_default-get c =
    no_channels_line (λ cs. cs.items) c.args.config.now c.args.number c.from-place.result _ c.args.channels.now c.args.text.now.items c.args.text.now.items c.from-place.ensures c.in_default-get.ensures.lookup.3 refl

pub returns : goal.returns
returns c =
    let state = c.in-Some.ensures.lookup in
    let of_lane = c.in-Some-get.ensures.lookup in
    number_line (λ cs. cs.items) c.args.config.now c.args.number c.from-place.result c.args.states.now c.args.channels.now c.in-Some.state.now c.in-Some-get.of_lane.now _ c.args.text.now.items
    c.push_lane.new.text.items c.from-place.ensures state.3.0 state.1 of_lane.3.0 of_lane.1 c.deref.ensures.value c.in_ok-push_lane.ensures
