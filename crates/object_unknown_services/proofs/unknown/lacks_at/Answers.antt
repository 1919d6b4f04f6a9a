use Rattle.std.proofs.Common.{◌∙◌, ap, List, ℕ}
use Rattle.std.specs.Prelude.{not}
use Rattle.std.specs.List.{list_any}
use Rattle.object_unknown_services.specs.Stamps.{is_stamped}
use Rattle.object_unknown_services.proofs.StampLemmas.{unstamped}
use Rattle.object_unknown_services.proofs.unknown.lacks_at.Goals as goal

pub returns-clause-lacks : goal.returns-clause-lacks
returns-clause-lacks c =
    let stamps = c.args.stamps.now in
    let stamp = c.args.stamp in
    unstamped c.args.naming.now.blocks c.args.naming.now.role stamps stamp c.args.place c.in_ok-found.found.items c.lacks_any.result c.in_ok-found.ensures.hosts
    (c.lacks_any.ensures ∙ ap (λ (hs : List ℕ). list_any (λ host. not (is_stamped stamps stamp host)) hs) c.as_slice.ensures.value)
