use Rattle.std.proofs.Common.{◌≡◌, ◌∙◌, List, refl, subst, sym, take_all, false, ℕ}
use Rattle.std.specs.List.{list_any}
use Rattle.std.proofs.lemmas.List.Folds.{list_any_at}
use Rattle.object_services.specs.Alike.{is_among}
use Rattle.object_services.proofs.DoubledLemmas.{AreFound, found-again, found-none, found-one_more}
use Rattle.object_services.proofs.doubled.find_all.Goals as goal

pub loop-host-init : goal.loop-host-init
loop-host-init c = record { nodes = refl; found = found-none c.args.seen.now.found }

pub loop-host-preserved : goal.loop-host-preserved
loop-host-preserved c =
    let old = c.args.seen.now.found in
    let hosts = c.args.hosts.now in
    let i = c.loop-host.host-index in
    record {
      nodes = c.find_again.ensures.nodes ∙ c.loop-host.invariant.nodes;
      found = found-one_more old c.loop-host.seen.found hosts c.requires.rising i 0 c.loop-host-test.true c.loop-host.invariant.found c.find_again.new.seen.found
          (sym (found-again old c.loop-host.seen.found hosts c.requires.rising i 0 c.loop-host-test.true c.loop-host.invariant.found false (sym c.if-find_again.false ∙ c.find_again.ensures.again)))
          c.find_again.ensures.found;
    }

pub returns-then-find_again-clause-again : goal.returns-then-find_again-clause-again
returns-then-find_again-clause-again c =
    let old = c.args.seen.now.found in
    let hosts = c.args.hosts.now in
    let i = c.loop-host.host-index in
    sym (list_any_at (is_among old) hosts i 0 c.loop-host-test.true
    (sym (found-again old c.loop-host.seen.found hosts c.requires.rising i 0 c.loop-host-test.true c.loop-host.invariant.found _ (sym c.if-find_again.true ∙ c.find_again.ensures.again))))

pub returns-clause-again : goal.returns-clause-again
returns-clause-again c = sym (subst (λ (hosts : List ℕ). list_any (is_among c.args.seen.now.found) hosts ≡ false) (take_all c.loop-host.host-index c.args.hosts.now c.loop-host-test.false) c.loop-host.invariant.found.apart)

pub returns-clause-found : goal.returns-clause-found
returns-clause-found c = λ none host.
    (subst (λ (hosts : List ℕ). AreFound c.args.seen.now.found hosts c.loop-host.seen.found) (take_all c.loop-host.host-index c.args.hosts.now c.loop-host-test.false) c.loop-host.invariant.found).found host
