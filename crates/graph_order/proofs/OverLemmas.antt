-- What is known at the path's last node, and what stands when the walk is over.
use Rattle.std.proofs.Common.{◌≡◌, ℕ, ◌+◌, ◌-◌, ◌^◌, ◌<◌, ◌≤◌, List, [], length, get_or, min, replicate, true, false, Option, None, Some, refl, sym, ap, subst, ◌∙◌, ⊎_elim, arith}
use Rattle.std.specs.Prelude.{Contains, IfNone, is_some, slice_get, reverse}
use Rattle.std.proofs.lemmas.Bool.{cases_lt}
use Rattle.std.proofs.lemmas.Option.{slice_get_within, slice_get_cases, slice_get-get_or, get_or_from_slice_get}
use Rattle.std.proofs.lemmas.List.{length-reverse, length-replicate, get_or_default, get_or_past, get_or-replicate, get_or-reverse}
use Rattle.std.proofs.lemmas.List.Elements.{All-from_get_or, Contains-get_or}
use Rattle.std.proofs.lemmas.List.Sorted.{Contains-permutation, IsPermutation-reverse}
use Rattle.graph_order.specs.declared.walk.Mark.{Mark}
use Rattle.graph_order.specs.declared.walk.Mark.TheVariants.{Unseen, Live, Done}
use Rattle.graph_order.specs.declared.walk.Walk.{Walk}
use Rattle.graph.specs.claims.Chains.{HasNoLoop, IsOnLoop, Reaches}
use Rattle.graph.specs.claims.Edges.{Leads}
use Rattle.graph_order.specs.Loops.{HasNoLoopBelow, IsFirstOnLoop}
use Rattle.graph_order.specs.Order.{HasLoop, IsOrder}
use Rattle.graph_order.specs.Walk.{AtMost, Fits, Goes, IsOver, end_at}
use Rattle.graph_order.proofs.WalkLemmas.{IsBegun-next}
use Rattle.graph_order.proofs.ListLemmas.{zeros}

-- an edge begins at a node
begins-within : (graph : List (List ℕ)) (p q : ℕ) → Leads graph p q → p < length graph
begins-within graph p q leads = ⊎_elim
    (λ (low : p < length graph). low)
    (λ (past : length graph ≤ p). let none : length (get_or graph p []) ≡ 0 = ap (λ (ends : List ℕ). length ends) (get_or_past graph p [] past) in absurd (omega (arith, none, leads.1)))
    (cases_lt p (length graph))

-- ---- the walk is over

-- where the path is empty no node is live
pub none_live : (graph : List (List ℕ)) (walk : Walk) → Fits graph walk → walk.path.items ≡ [] → (t k : ℕ) → slice_get walk.live.items t ≡ Some k → ⊥
none_live graph walk fits empty t k at =
    let some : 0 < length walk.live.items = omega (arith, slice_get_within walk.live.items t k at) in
    let on : Contains walk.path.items 0 = fits.nodes.roots_on_path 0 (fits.nodes.first_root some) in
    omega (arith, on.1, ap (λ (xs : List ℕ). length xs) empty)

all_done-of : (graph : List (List ℕ)) (walk : Walk) (p : ℕ) (mark : Mark) → Fits graph walk → walk.path.items ≡ [] → p < walk.next
    → slice_get walk.marks.items p ≡ Some mark → slice_get walk.marks.items p ≡ Some Done
all_done-of graph walk p Unseen fits empty begun at = absurd (fits.begun.seen p begun at)
all_done-of graph walk p Done fits empty begun at = at
all_done-of graph walk p (Live t) fits empty begun at = absurd (none_live graph walk fits empty t p (fits.nodes.place p t at))

all_done : (graph : List (List ℕ)) (walk : Walk) → Fits graph walk → walk.path.items ≡ [] → (p : ℕ) → p < walk.next → slice_get walk.marks.items p ≡ Some Done
all_done graph walk fits empty p begun = ⊎_elim
    (λ (found : (mark : Mark) × (p < length walk.marks.items) × (slice_get walk.marks.items p ≡ Some mark) × (get_or walk.marks.items p mark ≡ mark)). all_done-of graph walk p found.0 fits empty begun found.2)
    (λ (past : (length walk.marks.items ≤ p) × (slice_get walk.marks.items p ≡ None)). absurd (omega (arith, past.0, fits.begun.as_many, fits.begun.within, begun)))
    (slice_get_cases walk.marks.items p).1

-- a node on a loop that is done was told
on_loop-told : (graph : List (List ℕ)) (walk : Walk) → Fits graph walk → (p : ℕ) → slice_get walk.marks.items p ≡ Some Done
    → (q : ℕ) → Leads graph p q → Reaches (Leads graph) q p → AtMost walk.least p
on_loop-told graph walk fits p done q leads back =
    let over : get_or walk.turns.items p 0 ≡ length (get_or graph p []) = fits.turns.over p done in
    let end : end_at graph p leads.0 ≡ q = get_or_default (get_or graph p []) leads.0 0 q leads.1 ∙ leads.2 in
    ⊎_elim
    (λ (most : AtMost walk.least p). most)
    (λ (never : Reaches (Leads graph) (end_at graph p leads.0) p → ⊥). absurd (never (subst (λ (x : ℕ). Reaches (Leads graph) x p) (sym end) back)))
    (fits.told.told p leads.0 (omega (arith, over, leads.1)))

IsOrder-reverse : (graph : List (List ℕ)) (walk : Walk) → Fits graph walk → ((p : ℕ) → p < length graph → slice_get walk.marks.items p ≡ Some Done)
    → ((p q : ℕ) → Leads graph p q → Reaches (Leads graph) q p → ⊥) → IsOrder graph (reverse walk.done.items)
IsOrder-reverse graph walk fits all no_loop =
    let done = walk.done.items in
    let long : length (reverse done) ≡ length done = length-reverse done in
    let back : (i : ℕ) → i < length (reverse done) → get_or (reverse done) i 0 ≡ get_or done (length done - 1 - i) 0 = λ i low. get_or-reverse done i 0 (omega (arith, long)) in
    record {
      each = λ p within. Contains-permutation done (reverse done) p (IsPermutation-reverse done) (fits.done.each p (all p within));
      within = All-from_get_or (λ p. p < length graph) (reverse done) 0 (λ i low.
          let at : Contains done (get_or done (length done - 1 - i) 0) = Contains-get_or done (length done - 1 - i) 0 (omega (arith, long)) in
          rw (back i low) (omega (arith, slice_get_within walk.marks.items (get_or done (length done - 1 - i) 0) Done (fits.done.marked (get_or done (length done - 1 - i) 0) at), fits.begun.as_many)));
      once = λ i j d before low same. fits.done.once (length done - 1 - j) (length done - 1 - i) d (omega (arith, long)) (omega (arith, long))
          (sym (get_or-reverse done j d (omega (arith, long))) ∙ sym same ∙ get_or-reverse done i d (omega (arith, long)));
      forward = λ i j low high leads.
          let from = get_or done (length done - 1 - i) 0 in
          let to = get_or done (length done - 1 - j) 0 in
          let leads' : Leads graph from to = rw (back i low, back j high) at leads in
          ⊎_elim
          (λ (before : length done - 1 - j < length done - 1 - i). omega (arith, long, before))
          (λ (loop : Reaches (Leads graph) to from). absurd (no_loop from to leads' loop))
          (fits.done.backward (length done - 1 - i) (length done - 1 - j) from to
          (slice_get-get_or done (length done - 1 - i) 0 (omega (arith, long))) (slice_get-get_or done (length done - 1 - j) 0 (omega (arith, long))) leads');
    }

order_of : (graph : List (List ℕ)) (walk : Walk) (least : Option ℕ) → walk.least ≡ least → Fits graph walk → ((p : ℕ) → p < length graph → slice_get walk.marks.items p ≡ Some Done)
    → IfNone least (IsOrder graph (reverse walk.done.items))
order_of graph walk None is fits all =
    IsOrder-reverse graph walk fits all (λ p q leads back. subst (λ (least : Option ℕ). AtMost least p) is (on_loop-told graph walk fits p (all p (begins-within graph p q leads)) q leads back))
order_of graph walk (Some least) is fits all = tt

pub Fits-over : (graph : List (List ℕ)) (walk : Walk) (count : ℕ) → Fits graph walk → walk.path.items ≡ [] → min count (length graph) ≤ walk.next → IsOver graph count walk.done.items walk.least
Fits-over graph walk count fits empty next = record {
  on_loop = fits.told.on_loop;
  told = λ p low loop.
      let within = begins-within graph p loop.1.0 loop.1.1 in
      on_loop-told graph walk fits p (all_done graph walk fits empty p (omega (arith, next, low, within))) loop.1.0 loop.1.1 (loop.0, loop.1.2);
  order = λ all. order_of graph walk walk.least refl fits (λ p within. all_done graph walk fits empty p (omega (arith, next, all, within)));
}

-- ---- what is told of the walk

-- the least node on a loop, where it is below the number
pub first-of : (graph : List (List ℕ)) (count : ℕ) (done : List ℕ) (least : Option ℕ) (node : ℕ) → IsOver graph count done least → least ≡ Some node → node < count → IsFirstOnLoop graph node
first-of graph count done least node over is low = record {
  on_loop = over.on_loop node is;
  first = λ q before loop. let most : node ≤ q = rw is at over.told q (omega (arith, before, low)) loop in omega (arith, most, before);
}

-- where there is none, or one that isn't below the number, no node below the number lies on a loop
pub no_loop-none : (graph : List (List ℕ)) (count : ℕ) (done : List ℕ) (least : Option ℕ) → IsOver graph count done least → IfNone least (HasNoLoopBelow graph count)
no_loop-none graph count done None over = over.told
no_loop-none graph count done (Some node) over = tt

pub no_loop-past : (graph : List (List ℕ)) (count : ℕ) (done : List ℕ) (least : Option ℕ) (node : ℕ) → IsOver graph count done least → least ≡ Some node → count ≤ node → HasNoLoopBelow graph count
no_loop-past graph count done least node over is past p low loop = let most : node ≤ p = rw is at over.told p low loop in omega (arith, most, past, low)

pub no_loop-whole : (graph : List (List ℕ)) (count : ℕ) → count ≡ length graph → HasNoLoopBelow graph count → HasNoLoop (Leads graph)
no_loop-whole graph count is none steps p chain = none p (omega (arith, is, begins-within graph p chain.0 chain.1)) (steps, chain)

pub IfNone-weaker : {X : Type 0} (o : Option X) (P Q : Type 0) → (P → Q) → IfNone o P → IfNone o Q
IfNone-weaker None P Q f p = f p
IfNone-weaker (Some x) P Q f p = tt

-- the least node on a loop is a node
pub some-HasLoop : (graph : List (List ℕ)) (least : Option ℕ) → is_some least ≡ true → ((p : ℕ) → least ≡ Some p → IsOnLoop (Leads graph) p) → HasLoop graph
some-HasLoop graph None some is = cc
some-HasLoop graph (Some p) some is = let loop = is p refl in (p, begins-within graph p loop.1.0 loop.1.1, loop)

pub at_none : {X : Type 0} (o : Option X) (P : Type 0) → is_some o ≡ false → IfNone o P → P
at_none None P none fact = fact
at_none (Some x) P none fact = cc

-- ---- no node is entered yet

pub Fits-new : (graph : List (List ℕ)) (walk : Walk) (count : ℕ) → count < 2 ^ 32 → count ≡ length graph → ((p q : ℕ) → Leads graph p q → q < length graph)
    → walk.marks.items ≡ replicate count Unseen → walk.turns.items ≡ replicate count 0 → walk.live.items ≡ [] → walk.path.items ≡ [] → walk.roots.items ≡ [] → walk.done.items ≡ []
    → walk.next ≡ 0 → walk.least ≡ None → Fits graph walk
Fits-new graph walk count low is closed marks turns live path roots done next least =
    let unseen : (k : ℕ) (mark : Mark) → slice_get (replicate count Unseen) k ≡ Some mark → mark ≡ Unseen =
    λ k mark at. let within : k < length (replicate count Unseen) = slice_get_within (replicate count Unseen) k mark at in
    let low : k < count = omega (arith, within, length-replicate count Unseen) in
    sym (get_or_from_slice_get (replicate count Unseen) k mark Unseen at) ∙ get_or-replicate count k Unseen Unseen low in
    let none : (k : ℕ) → get_or (replicate {A = ℕ} count 0) k 0 ≡ 0 = λ k. zeros count k in
    let nothing : (k t : ℕ) → slice_get {X = ℕ} [] t ≡ Some k → ⊥ = λ k t at. cc in
    record {
      nodes = rw (marks, live, path, roots) (record {
        place = λ k t mark. absurd (let same : Live t ≡ Unseen = unseen k (Live t) mark in cc);
        placed = λ k t at. absurd (nothing k t at);
        path_within = λ t on. absurd (omega (arith, on.1));
        path_rises = λ i j d before low. absurd (omega (arith, low));
        roots_on_path = λ t on. on;
        roots_rise = λ i j d before low. absurd (omega (arith, low));
        first_root = λ some. absurd (omega (arith, some));
      });
      turns = rw (marks, turns, live, path) (record {
        as_many = length-replicate {A = ℕ} count 0 ∙ is;
        few = λ k. rw (none k) (omega arith);
        unseen = λ k mark. none k;
        left = λ k t at out. absurd (nothing k t at);
        over = λ k mark. absurd (let same : Done ≡ Unseen = unseen k Done mark in cc);
      });
      links = rw (marks, turns, live, roots) (record {
        closed = λ p q mark leads. absurd (let same : Done ≡ Unseen = unseen p Done mark in cc);
        joined = λ i j p q at other no_root. absurd (nothing p i at);
        passed = λ t k i at low. absurd (nothing k t at);
      });
      told = rw (turns, least) (record {
        told = λ k i low. absurd (omega (arith, low, none k));
        on_loop = λ p some. cc;
      });
      done = rw (marks, done) (record {
        marked = λ k on. absurd (omega (arith, on.1));
        each = λ k mark. absurd (let same : Done ≡ Unseen = unseen k Done mark in cc);
        once = λ i j d before low. absurd (omega (arith, low));
        backward = λ i j p q at other leads. absurd (nothing p i at);
      });
      begun = rw (marks, next) (record {
        few = omega (arith, low, is);
        as_many = length-replicate count Unseen ∙ is;
        within = omega arith;
        closed = closed;
        seen = λ k before mark. omega (arith, before);
      });
    }

-- ---- the next node was seen

pub Goes-next : (graph : List (List ℕ)) (before after : Walk) → Fits graph before → before.next < length graph → (slice_get before.marks.items before.next ≡ Some Unseen → ⊥)
    → after.marks.items ≡ before.marks.items → after.turns.items ≡ before.turns.items → after.live.items ≡ before.live.items → after.path.items ≡ before.path.items
    → after.roots.items ≡ before.roots.items → after.done.items ≡ before.done.items → after.next ≡ before.next + 1 → after.least ≡ before.least → Goes graph before after
Goes-next graph before after fits low seen marks turns live path roots done next least = (
  record {
    nodes = rw (marks, live, path, roots) fits.nodes;
    turns = rw (marks, turns, live, path) fits.turns;
    links = rw (marks, turns, live, roots) fits.links;
    told = rw (turns, least) fits.told;
    done = rw (marks, done) fits.done;
    begun = rw (marks, next) (IsBegun-next graph before.marks.items before.next fits.begun low seen);
  },
  rw (marks, turns, path, roots, next) (omega (arith, low)),
)
