use Rattle.std.proofs.Common.{◌≡◌, ◌-◌, ◌∙◌, ◌++◌, List, ℕ, ap, drop, length, refl, subst, take}
use Rattle.graph_order.specs.Walk.{IsMarkedDone}
use Rattle.graph_order.proofs.ListLemmas.{last_off, rest_from}
use Rattle.graph_order.proofs.walk.Walk.close.Goals as goal

pub returns : goal.returns
returns c =
    let old = c.args.self.now in
    let now = c.deref.result.now in
    let rest : take (length now - c.args.place) (drop c.args.place now) ≡ drop c.args.place old.live.items = rest_from old.live.items now c.args.place c.deref.ensures.value in
    record {
      marks = subst (λ (nodes : List ℕ). IsMarkedDone old.marks.items nodes c.mark_done.new.marks.items) rest c.mark_done.ensures;
      turns = refl;
      live = c.truncate.ensures.items;
      path = last_off old.path.items c.pop.new.self.items c.args.place old.path.len c.requires.path old.path.ok.0 c.pop.ensures.rest;
      roots = last_off old.roots.items c.pop-2.new.self.items c.args.place old.roots.len c.requires.root old.roots.ok.0 c.pop-2.ensures.rest;
      done = c.in_ok-extend_from_slice.ensures.items ∙ ap (λ (nodes : List ℕ). old.done.items ++ nodes) rest;
      next = refl;
      least = refl;
    }
