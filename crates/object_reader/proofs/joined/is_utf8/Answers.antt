use Rattle.object_reader.proofs.Utf8.{is_ok-from_utf8}
use Rattle.object_reader.proofs.joined.is_utf8.Goals as goal

pub returns : goal.returns
returns c = is_ok-from_utf8 _ _ c.args.bytes.now _ _ c.from_utf8.ensures.cases c.is_ok.ensures.value
