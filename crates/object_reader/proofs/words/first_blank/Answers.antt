use Rattle.std.proofs.Common.{sym, ◌∙◌}
use Rattle.object_reader.proofs.Trimming.{blank_found, no_blank}
use Rattle.object_reader.proofs.words.first_blank.Goals as goal

pub returns-in-None : goal.returns-in-None
returns-in-None c = no_blank c.args.bytes.now _ c.first_low.ensures c.in-None.is

pub returns-in-Some : goal.returns-in-Some
returns-in-Some c = blank_found c.args.bytes.now c.in-Some.at _ c.first_low.ensures c.in-Some.is (sym c.is_blank.ensures ∙ c.if-is_blank.true)
