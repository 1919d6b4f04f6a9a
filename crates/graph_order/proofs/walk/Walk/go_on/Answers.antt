use Rattle.std.proofs.Common.{rules, ◌≡◌, ◌-◌, ◌<◌, ℕ, List, Option, Some, length, get_or, arith, ap, subst, sym, ◌∙◌, []}
use Rattle.std.specs.Prelude.{slice_get}
use Rattle.std.specs.Option.{unwrap_or}
use Rattle.std.proofs.lemmas.Option.{slice_get-get_or, slice_get_within, unwrap_or-slice_get}
use Rattle.std.proofs.lemmas.Result.{IfOk-weaker}
use Rattle.graph_order.specs.declared.walk.Mark.TheVariants.{Unseen, Live, Done}
use Rattle.graph_order.specs.Walk.{Closes, Goes, Passes}
use Rattle.graph_order.proofs.TopLemmas.{live-few, mark-is, place_low, node_low, turn_is, turn_low, end_low, root_last, top-leave, top-close, top-enter, top-merge, top-pass, top-pass_back}
use Rattle.graph_order.proofs.walk.Walk.go_on.Goals as goal

pub index-node-requires : goal.index-node-requires
index-node-requires c =
    let low = place_low c.args.graph.now c.args.self.now c.args.place c.requires.fits c.requires.last in omega (arith, low, c.args.self.now.live.ok.0)

pub ends-ends-requires : goal.ends-ends-requires
ends-ends-requires c =
    node_low c.args.graph.now c.args.self.now c.args.place c.index-node.result.now c.requires.fits c.requires.last c.index-node.ensures

pub index-turn-requires : goal.index-turn-requires
index-turn-requires c =
    omega (arith, c.args.self.now.turns.ok.0, c.requires.fits.turns.as_many, node_low c.args.graph.now c.args.self.now c.args.place c.index-node.result.now c.requires.fits c.requires.last c.index-node.ensures)

pub close-requires-clause-within : goal.close-requires-clause-within
close-requires-clause-within c =
    let low = place_low c.args.graph.now c.args.self.now c.args.place c.requires.fits c.requires.last in omega (arith, low)

pub close-requires-clause-nodes : goal.close-requires-clause-nodes
close-requires-clause-nodes c =
    let walk = c.args.self.now in
    λ k d low. slice_get_within walk.marks.items (get_or walk.live.items k d) (Live k) (c.requires.fits.nodes.placed (get_or walk.live.items k d) k (slice_get-get_or walk.live.items k d low))

pub close-requires-clause-root : goal.close-requires-clause-root
close-requires-clause-root c =
    let root : c.unwrap_or-root.result ≡ get_or c.args.self.now.roots.items (length c.args.self.now.roots.items - 1) 0 = c.unwrap_or-root.ensures ∙ ap (λ (o : Option ℕ). unwrap_or o 0) (c.copied.ensures ∙ c.last.ensures.value ∙ ap (λ (xs : List ℕ). slice_get xs (length xs - 1)) c.deref.ensures.value) ∙ unwrap_or-slice_get c.args.self.now.roots.items (length c.args.self.now.roots.items - 1) 0 in
    root_last c.args.graph.now c.args.self.now c.args.place c.requires.fits c.requires.last c.unwrap_or-root.result root ∙ ap (λ (r : ℕ). Some r) c.if-root-place.true

pub returns-then-root-place : goal.returns-then-root-place
returns-then-root-place c =
    let turn : c.index-turn.result.now ≡ get_or c.args.self.now.turns.items c.index-node.result.now 0 = turn_is c.args.graph.now c.args.self.now c.args.place c.index-node.result.now c.requires.fits c.requires.last c.index-node.ensures c.index-turn.result.now c.index-turn.ensures in
    let over : get_or c.args.self.now.turns.items c.index-node.result.now 0 ≡ length (get_or c.args.graph.now c.index-node.result.now []) = sym turn ∙ c.if-turn-ends.true ∙ ap (λ (ends : List ℕ). length ends) c.ends-ends.ensures.value in
    IfOk-weaker c.close.result (λ _. Closes c.args.place c.args.self.now c.close.new.self) (λ _. Goes c.args.graph.now c.args.self.now c.close.new.self)
    (λ _ closes. top-close c.args.graph.now c.args.self.now c.args.place c.index-node.result.now c.requires.fits c.requires.last c.index-node.ensures c.close.new.self closes over) c.close.ensures

pub returns-then-turn-ends : goal.returns-then-turn-ends
returns-then-turn-ends c =
    let turn : c.index-turn.result.now ≡ get_or c.args.self.now.turns.items c.index-node.result.now 0 = turn_is c.args.graph.now c.args.self.now c.args.place c.index-node.result.now c.requires.fits c.requires.last c.index-node.ensures c.index-turn.result.now c.index-turn.ensures in
    let over : get_or c.args.self.now.turns.items c.index-node.result.now 0 ≡ length (get_or c.args.graph.now c.index-node.result.now []) = sym turn ∙ c.if-turn-ends.true ∙ ap (λ (ends : List ℕ). length ends) c.ends-ends.ensures.value in
    let root : c.unwrap_or-root.result ≡ get_or c.args.self.now.roots.items (length c.args.self.now.roots.items - 1) 0 = c.unwrap_or-root.ensures ∙ ap (λ (o : Option ℕ). unwrap_or o 0) (c.copied.ensures ∙ c.last.ensures.value ∙ ap (λ (xs : List ℕ). slice_get xs (length xs - 1)) c.deref.ensures.value) ∙ unwrap_or-slice_get c.args.self.now.roots.items (length c.args.self.now.roots.items - 1) 0 in
    top-leave c.args.graph.now c.args.self.now c.args.place c.index-node.result.now c.requires.fits c.requires.last c.index-node.ensures c.leave.new.self c.unwrap_or-root.result root c.if-root-place.false c.leave.ensures over

pub offset_bounds-ends-turn : goal.offset_bounds-ends-turn
offset_bounds-ends-turn c =
    let low : c.index-turn.result.now < length c.ends-ends.result.now = turn_low c.args.graph.now c.args.self.now c.args.place c.index-node.result.now c.requires.fits c.requires.last c.index-node.ensures c.index-turn.result.now c.index-turn.ensures c.ends-ends.result.now c.ends-ends.ensures.value c.if-turn-ends.false in
    search rules

pub bounds-ends-turn : goal.bounds-ends-turn
bounds-ends-turn c =
    let low : c.index-turn.result.now < length c.ends-ends.result.now = turn_low c.args.graph.now c.args.self.now c.args.place c.index-node.result.now c.requires.fits c.requires.last c.index-node.ensures c.index-turn.result.now c.index-turn.ensures c.ends-ends.result.now c.ends-ends.ensures.value c.if-turn-ends.false in
    low

pub index-requires : goal.index-requires
index-requires c =
    let turn : c.index-turn.result.now ≡ get_or c.args.self.now.turns.items c.index-node.result.now 0 = turn_is c.args.graph.now c.args.self.now c.args.place c.index-node.result.now c.requires.fits c.requires.last c.index-node.ensures c.index-turn.result.now c.index-turn.ensures in
    let low : c.index-turn.result.now < length c.ends-ends.result.now = turn_low c.args.graph.now c.args.self.now c.args.place c.index-node.result.now c.requires.fits c.requires.last c.index-node.ensures c.index-turn.result.now c.index-turn.ensures c.ends-ends.result.now c.ends-ends.ensures.value c.if-turn-ends.false in
    let end = get_or c.ends-ends.result.now c.index-turn.result.now 0 in
    let more : c.index-turn.result.now < length (get_or c.args.graph.now c.index-node.result.now []) = subst (λ (ends : List ℕ). c.index-turn.result.now < length ends) c.ends-ends.ensures.value low in
    omega (arith, c.args.self.now.marks.ok.0, end_low c.args.graph.now c.args.self.now c.args.place c.index-node.result.now c.requires.fits c.requires.last c.index-node.ensures c.index-turn.result.now end turn more (ap (λ (ends : List ℕ). get_or ends c.index-turn.result.now 0) c.ends-ends.ensures.value))

pub enter-requires-clause-room : goal.enter-requires-clause-room
enter-requires-clause-room c = live-few c.args.graph.now c.args.self.now c.requires.fits

pub enter-requires-clause-within : goal.enter-requires-clause-within
enter-requires-clause-within c =
    let turn : c.index-turn.result.now ≡ get_or c.args.self.now.turns.items c.index-node.result.now 0 = turn_is c.args.graph.now c.args.self.now c.args.place c.index-node.result.now c.requires.fits c.requires.last c.index-node.ensures c.index-turn.result.now c.index-turn.ensures in
    let low : c.index-turn.result.now < length c.ends-ends.result.now = turn_low c.args.graph.now c.args.self.now c.args.place c.index-node.result.now c.requires.fits c.requires.last c.index-node.ensures c.index-turn.result.now c.index-turn.ensures c.ends-ends.result.now c.ends-ends.ensures.value c.if-turn-ends.false in
    let end = get_or c.ends-ends.result.now c.index-turn.result.now 0 in
    let more : c.index-turn.result.now < length (get_or c.args.graph.now c.index-node.result.now []) = subst (λ (ends : List ℕ). c.index-turn.result.now < length ends) c.ends-ends.ensures.value low in
    end_low c.args.graph.now c.args.self.now c.args.place c.index-node.result.now c.requires.fits c.requires.last c.index-node.ensures c.index-turn.result.now end turn more (ap (λ (ends : List ℕ). get_or ends c.index-turn.result.now 0) c.ends-ends.ensures.value)

pub pass-requires-clause-within : goal.pass-requires-clause-within
pass-requires-clause-within c =
    omega (arith, c.requires.fits.turns.as_many, node_low c.args.graph.now c.args.self.now c.args.place c.index-node.result.now c.requires.fits c.requires.last c.index-node.ensures)

pub pass-requires-in-Done-clause-within : goal.pass-requires-in-Done-clause-within
pass-requires-in-Done-clause-within c =
    omega (arith, c.requires.fits.turns.as_many, node_low c.args.graph.now c.args.self.now c.args.place c.index-node.result.now c.requires.fits c.requires.last c.index-node.ensures)

pub returns-in_ok-enter-in-Unseen : goal.returns-in_ok-enter-in-Unseen
returns-in_ok-enter-in-Unseen c =
    let turn : c.index-turn.result.now ≡ get_or c.args.self.now.turns.items c.index-node.result.now 0 = turn_is c.args.graph.now c.args.self.now c.args.place c.index-node.result.now c.requires.fits c.requires.last c.index-node.ensures c.index-turn.result.now c.index-turn.ensures in
    let low : c.index-turn.result.now < length c.ends-ends.result.now = turn_low c.args.graph.now c.args.self.now c.args.place c.index-node.result.now c.requires.fits c.requires.last c.index-node.ensures c.index-turn.result.now c.index-turn.ensures c.ends-ends.result.now c.ends-ends.ensures.value c.if-turn-ends.false in
    let end = get_or c.ends-ends.result.now c.index-turn.result.now 0 in
    let more : c.index-turn.result.now < length (get_or c.args.graph.now c.index-node.result.now []) = subst (λ (ends : List ℕ). c.index-turn.result.now < length ends) c.ends-ends.ensures.value low in
    let within : end < length c.args.self.now.marks.items = end_low c.args.graph.now c.args.self.now c.args.place c.index-node.result.now c.requires.fits c.requires.last c.index-node.ensures c.index-turn.result.now end turn more (ap (λ (ends : List ℕ). get_or ends c.index-turn.result.now 0) c.ends-ends.ensures.value) in
    top-enter c.args.graph.now c.args.self.now c.args.place c.index-node.result.now c.requires.fits c.requires.last c.index-node.ensures c.index-turn.result.now end turn more (ap (λ (ends : List ℕ). get_or ends c.index-turn.result.now 0) c.ends-ends.ensures.value) c.enter.new.self c.in_ok-enter-in-Unseen.ensures (mark-is c.args.self.now.marks.items end c.index.result.now Unseen within c.index.ensures c.in-Unseen.is)

pub returns-then-to-root : goal.returns-then-to-root
returns-then-to-root c =
    let turn : c.index-turn.result.now ≡ get_or c.args.self.now.turns.items c.index-node.result.now 0 = turn_is c.args.graph.now c.args.self.now c.args.place c.index-node.result.now c.requires.fits c.requires.last c.index-node.ensures c.index-turn.result.now c.index-turn.ensures in
    let low : c.index-turn.result.now < length c.ends-ends.result.now = turn_low c.args.graph.now c.args.self.now c.args.place c.index-node.result.now c.requires.fits c.requires.last c.index-node.ensures c.index-turn.result.now c.index-turn.ensures c.ends-ends.result.now c.ends-ends.ensures.value c.if-turn-ends.false in
    let end = get_or c.ends-ends.result.now c.index-turn.result.now 0 in
    let more : c.index-turn.result.now < length (get_or c.args.graph.now c.index-node.result.now []) = subst (λ (ends : List ℕ). c.index-turn.result.now < length ends) c.ends-ends.ensures.value low in
    let within : end < length c.args.self.now.marks.items = end_low c.args.graph.now c.args.self.now c.args.place c.index-node.result.now c.requires.fits c.requires.last c.index-node.ensures c.index-turn.result.now end turn more (ap (λ (ends : List ℕ). get_or ends c.index-turn.result.now 0) c.ends-ends.ensures.value) in
    top-merge c.args.graph.now c.args.self.now c.args.place c.index-node.result.now c.requires.fits c.requires.last c.index-node.ensures c.index-turn.result.now end turn more (ap (λ (ends : List ℕ). get_or ends c.index-turn.result.now 0) c.ends-ends.ensures.value) c.merge.new.self c.unwrap_or-root.result c.in-Live.to c.merge.ensures c.if-to-root.true (mark-is c.args.self.now.marks.items end c.index.result.now (Live c.in-Live.to) within c.index.ensures c.in-Live.is)

pub returns-else-to-root : goal.returns-else-to-root
returns-else-to-root c =
    let turn : c.index-turn.result.now ≡ get_or c.args.self.now.turns.items c.index-node.result.now 0 = turn_is c.args.graph.now c.args.self.now c.args.place c.index-node.result.now c.requires.fits c.requires.last c.index-node.ensures c.index-turn.result.now c.index-turn.ensures in
    let low : c.index-turn.result.now < length c.ends-ends.result.now = turn_low c.args.graph.now c.args.self.now c.args.place c.index-node.result.now c.requires.fits c.requires.last c.index-node.ensures c.index-turn.result.now c.index-turn.ensures c.ends-ends.result.now c.ends-ends.ensures.value c.if-turn-ends.false in
    let end = get_or c.ends-ends.result.now c.index-turn.result.now 0 in
    let more : c.index-turn.result.now < length (get_or c.args.graph.now c.index-node.result.now []) = subst (λ (ends : List ℕ). c.index-turn.result.now < length ends) c.ends-ends.ensures.value low in
    let within : end < length c.args.self.now.marks.items = end_low c.args.graph.now c.args.self.now c.args.place c.index-node.result.now c.requires.fits c.requires.last c.index-node.ensures c.index-turn.result.now end turn more (ap (λ (ends : List ℕ). get_or ends c.index-turn.result.now 0) c.ends-ends.ensures.value) in
    let root : c.unwrap_or-root.result ≡ get_or c.args.self.now.roots.items (length c.args.self.now.roots.items - 1) 0 = c.unwrap_or-root.ensures ∙ ap (λ (o : Option ℕ). unwrap_or o 0) (c.copied.ensures ∙ c.last.ensures.value ∙ ap (λ (xs : List ℕ). slice_get xs (length xs - 1)) c.deref.ensures.value) ∙ unwrap_or-slice_get c.args.self.now.roots.items (length c.args.self.now.roots.items - 1) 0 in
    top-pass_back c.args.graph.now c.args.self.now c.args.place c.index-node.result.now c.requires.fits c.requires.last c.index-node.ensures c.index-turn.result.now end turn more (ap (λ (ends : List ℕ). get_or ends c.index-turn.result.now 0) c.ends-ends.ensures.value) c.pass.new.self c.unwrap_or-root.result c.in-Live.to root (omega (arith, c.if-to-root.false)) (mark-is c.args.self.now.marks.items end c.index.result.now (Live c.in-Live.to) within c.index.ensures c.in-Live.is)
    (subst (λ (told : ℕ). Passes c.index-node.result.now (Some told) c.args.self.now c.pass.new.self) c.least_with.ensures c.pass.ensures)

pub returns-in-Done : goal.returns-in-Done
returns-in-Done c =
    let turn : c.index-turn.result.now ≡ get_or c.args.self.now.turns.items c.index-node.result.now 0 = turn_is c.args.graph.now c.args.self.now c.args.place c.index-node.result.now c.requires.fits c.requires.last c.index-node.ensures c.index-turn.result.now c.index-turn.ensures in
    let low : c.index-turn.result.now < length c.ends-ends.result.now = turn_low c.args.graph.now c.args.self.now c.args.place c.index-node.result.now c.requires.fits c.requires.last c.index-node.ensures c.index-turn.result.now c.index-turn.ensures c.ends-ends.result.now c.ends-ends.ensures.value c.if-turn-ends.false in
    let end = get_or c.ends-ends.result.now c.index-turn.result.now 0 in
    let more : c.index-turn.result.now < length (get_or c.args.graph.now c.index-node.result.now []) = subst (λ (ends : List ℕ). c.index-turn.result.now < length ends) c.ends-ends.ensures.value low in
    let within : end < length c.args.self.now.marks.items = end_low c.args.graph.now c.args.self.now c.args.place c.index-node.result.now c.requires.fits c.requires.last c.index-node.ensures c.index-turn.result.now end turn more (ap (λ (ends : List ℕ). get_or ends c.index-turn.result.now 0) c.ends-ends.ensures.value) in
    top-pass c.args.graph.now c.args.self.now c.args.place c.index-node.result.now c.requires.fits c.requires.last c.index-node.ensures c.index-turn.result.now end turn more (ap (λ (ends : List ℕ). get_or ends c.index-turn.result.now 0) c.ends-ends.ensures.value) c.pass-in-Done.new.self c.pass-in-Done.ensures (mark-is c.args.self.now.marks.items end c.index.result.now Done within c.index.ensures c.in-Done.is)
