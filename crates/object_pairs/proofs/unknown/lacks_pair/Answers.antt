use Rattle.std.proofs.Common.{None, Some, List, ap, ◌∙◌}
use Rattle.std.specs.List.{list_all}
use Rattle.object_groups.specs.claims.Objects.{list_at}
use Rattle.object_pairs.specs.Pairs.{pairs_in}
use Rattle.object_pairs.specs.Wanted.{is_found}
use Rattle.object_pairs.proofs.PairLemmas.{list-read, odd-read, pairs-read, Text}
use Rattle.object_pairs.proofs.UnknownLemmas.{lacks-odd, lacks-pairs}
use Rattle.object_pairs.proofs.unknown.lacks_pair.Goals as goal
use Rattle.object_values.specs.Values.{texts}

pub returns-in-None : goal.returns-in-None
returns-in-None c =
    let entries = list_at c.args.values.now.blocks c.args.values.now.directive c.args.place in
    lacks-odd c.args.hosts.now c.args.found.now.keys entries
    (list-read c.as_slice.result.now c.in_ok-entries.entries.items entries None c.as_slice.ensures.value c.in_ok-entries.ensures
    (odd-read c.in_ok-by_two.field-0 (texts c.as_slice.result.now) c.in-None.is c.in_ok-by_two.ensures))

pub returns : goal.returns
returns c =
    let entries = list_at c.args.values.now.blocks c.args.values.now.directive c.args.place in
    lacks-pairs c.args.hosts.now c.args.found.now.keys entries (pairs_in c.in-Some.pairs.items) c.are_found.result
    (list-read c.as_slice.result.now c.in_ok-entries.entries.items entries (Some (pairs_in c.in-Some.pairs.items)) c.as_slice.ensures.value c.in_ok-entries.ensures
    (pairs-read c.in_ok-by_two.field-0 c.in-Some.pairs (texts c.as_slice.result.now) c.in-Some.is c.in_ok-by_two.ensures))
    (c.are_found.ensures ∙ ap (λ (ps : List (Text × Text)). list_all (is_found c.args.hosts.now c.args.found.now.keys) (pairs_in ps)) c.as_slice-in-Some.ensures.value)
