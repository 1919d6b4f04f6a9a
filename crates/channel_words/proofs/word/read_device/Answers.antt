use Rattle.std.proofs.Common.{arith}
use Rattle.std.proofs.lemmas.Option.{IfSome_then}
use Rattle.channel_words.proofs.Parts.{first_parts, lacks_all}
use Rattle.channel_words.proofs.Options.{IfNone_then}
use Rattle.channel_words.proofs.WordLaws.{device_said, device_unsaid, no_device}
use Rattle.channel_words.proofs.word.read_device.Goals as goal

pub returns-in-Some-clause-some : goal.returns-in-Some-clause-some
returns-in-Some-clause-some c =
    let parts = first_parts 58 c.args.text.now c.in-Some.kind.now c.in-Some.said.now c.in-Some.ensures.cases (omega arith) in
    IfSome_then c.device_of.result c.device_of.ensures.some (device_said c.args.text.now c.in-Some.kind.now c.in-Some.said.now parts)

pub returns-in-Some-clause-none : goal.returns-in-Some-clause-none
returns-in-Some-clause-none c =
    let parts = first_parts 58 c.args.text.now c.in-Some.kind.now c.in-Some.said.now c.in-Some.ensures.cases (omega arith) in
    IfNone_then c.device_of.result c.device_of.ensures.none (device_unsaid c.args.text.now c.in-Some.kind.now c.in-Some.said.now parts)

pub returns-in-None-clause-none : goal.returns-in-None-clause-none
returns-in-None-clause-none c = λ device is same. no_device c.args.text.now (lacks_all 58 c.args.text.now c.in-None.ensures.cases (omega arith)) device same
