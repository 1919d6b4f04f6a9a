use Rattle.std.proofs.Common.{◌≡◌, ◌+◌, ◌<◌, ◌∙◌, List, ap, get_or, length, subst, sym, ℕ}
use Rattle.graph.specs.Reach.{Found, IsReached}
use Rattle.object_dependency_loops.specs.Apart.{AreMarked}
use Rattle.object_dependency_loops.proofs.ApartLemmas.{no-loop, of-not}
use Rattle.object_dependency_loops.proofs.apart.are_apart.Goals as goal

pub any_marked-requires : goal.any_marked-requires
any_marked-requires c =
    let count : c.reach-2.new.self.nodes ≡ c.args.rules.now.nodes + 2 = c.reach-2.ensures.nodes ∙ c.reach.ensures.nodes ∙ ap (λ (f : Found). f.nodes) c.in_ok-search.ensures in
    let long : length c.as_slice.result.now ≡ c.reach-2.new.self.nodes = ap (λ (ms : List _). length ms) c.as_slice.ensures.value ∙ c.in_ok-marks.ensures.long ∙ sym count in
    λ k d low. subst (λ (n : ℕ). get_or c.found-2.result.now k d < n) (sym long) (c.found-2.ensures.within k d low)

pub returns : goal.returns
returns c = λ apart.
    let graph = c.in_ok-graph.graph in
    let masters : IsReached graph (c.args.rules.now.nodes + 1) c.found.result.now = subst (λ (found : List ℕ). IsReached graph (c.args.rules.now.nodes + 1) found) (sym c.found.ensures.value) c.reach.ensures.found in
    let dependents : IsReached graph c.args.rules.now.nodes c.found-2.result.now = subst (λ (found : List ℕ). IsReached graph c.args.rules.now.nodes found) (sym c.found-2.ensures.value) c.reach-2.ensures.found in
    no-loop c.args.rules.now graph c.in_ok-graph.ensures c.as_slice.result.now c.found.result.now c.found-2.result.now masters dependents
    (subst (λ (marks : List _). AreMarked marks c.found.result.now) (sym c.as_slice.ensures.value) c.in_ok-marks.ensures.marked)
    (c.any_marked.ensures (of-not c.any_marked.result apart))
