use Rattle.std.proofs.Common.{None, Some, subst, List}
use Rattle.std.specs.Prelude.{All}
use Rattle.std.proofs.lemmas.Result.{on_ok_weaker}
use Rattle.object_groups.specs.claims.Objects.{list_at}
use Rattle.object_pairs.specs.Pairs.{pairs_in}
use Rattle.object_pairs.specs.Wanted.{IsWanted}
use Rattle.object_pairs.proofs.PairLemmas.{list-read, odd-read, pairs-read, Text}
use Rattle.object_pairs.proofs.WantedLemmas.{list-wanted, list-without}
use Rattle.object_pairs.proofs.wanted.want_at.Goals as goal
use Rattle.object_values.specs.Values.{texts}

pub returns-in-None-clause-all : goal.returns-in-None-clause-all
returns-in-None-clause-all c =
    let entries = list_at c.args.values.now.blocks c.args.values.now.directive c.args.place in
    list-without c.args.hosts.now c.args.wanted.now.keys entries
    (list-read c.as_slice.result.now c.in_ok-entries.entries.items entries None c.as_slice.ensures.value c.in_ok-entries.ensures
    (odd-read c.in_ok-by_two.field-0 (texts c.as_slice.result.now) c.in-None.is c.in_ok-by_two.ensures))

pub returns-clause-all : goal.returns-clause-all
returns-clause-all c =
    let entries = list_at c.args.values.now.blocks c.args.values.now.directive c.args.place in
    on_ok_weaker c.want_pairs.result
    (λ all. list-wanted c.args.hosts.now c.want_pairs.new.wanted.keys entries (pairs_in c.in-Some.pairs.items)
    (list-read c.as_slice.result.now c.in_ok-entries.entries.items entries (Some (pairs_in c.in-Some.pairs.items)) c.as_slice.ensures.value c.in_ok-entries.ensures
    (pairs-read c.in_ok-by_two.field-0 c.in-Some.pairs (texts c.as_slice.result.now) c.in-Some.is c.in_ok-by_two.ensures))
    (subst (λ (ps : List (Text × Text)). All (IsWanted c.args.hosts.now c.want_pairs.new.wanted.keys) (pairs_in ps)) c.as_slice-in-Some.ensures.value all))
    c.want_pairs.ensures.all
