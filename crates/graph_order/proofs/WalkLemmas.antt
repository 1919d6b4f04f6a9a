-- What each move of the walk keeps: entering a node, leaving one, taking a root away, passing an edge.
use Rattle.std.proofs.Common.{◌≡◌, ℕ, ◌+◌, ◌<◌, ◌≤◌, List, [], ◌∷◌, ◌++◌, length, get_or, set, Option, Some, refl, sym, ap, subst, ◌∙◌, ◌⊎◌, inl, inr, ⊎_elim, arith}
use Rattle.std.specs.Prelude.{Contains, slice_get}
use Rattle.std.proofs.lemmas.Bool.{cases_eq, cases_lt}
use Rattle.std.proofs.lemmas.Option.{slice_get_within}
use Rattle.std.proofs.lemmas.List.{length-set, length-append, get_or-set_same, get_or-set_other}
use Rattle.std.proofs.lemmas.List.Elements.{Contains-get_or, Contains-push, Contains-push_cases, Contains-append_left}
use Rattle.std.proofs.lemmas.List.Quantifiers.{all_pairs_push}
use Rattle.lemmas.proofs.Chains.{Reaches-join}
use Rattle.graph_order.specs.declared.walk.Mark.{Mark}
use Rattle.graph_order.specs.declared.walk.Mark.TheVariants.{Unseen, Live, Done}
use Rattle.graph.specs.claims.Chains.{IsOnLoop, Reaches}
use Rattle.graph.specs.claims.Edges.{Leads}
use Rattle.graph_order.specs.Walk.{AtMost, IsBegun, IsDone, IsLinked, IsOpen, IsTold, IsTurned, NoRoot, end_at}
use Rattle.graph_order.proofs.ListLemmas.{set_same, set_other, one_at, at_left, at_end, at_push_cases, pairs_front}

-- ---- chains

pub Reaches-step : (R : ℕ → ℕ → Type 0) (p q : ℕ) → R p q → Reaches R p q
Reaches-step R p q leads = (1, (q, leads, refl))

-- ---- marks

pub differ : (marks : List Mark) (k : ℕ) (a b : Mark) → slice_get marks k ≡ Some a → slice_get marks k ≡ Some b → (a ≡ b → ⊥) → ⊥
differ marks k a b first second other = other (one_at marks k a b first second)

pub same_place : (marks : List Mark) (k t u : ℕ) → slice_get marks k ≡ Some (Live t) → slice_get marks k ≡ Some (Live u) → t ≡ u
same_place marks k t u first second = let same : Live t ≡ Live u = one_at marks k (Live t) (Live u) first second in cc

pub no_root_front : (roots : List ℕ) (root j i : ℕ) → NoRoot (roots ++ root ∷ []) j i → NoRoot roots j i
no_root_front roots root j i none r on = none r (Contains-append_left roots (root ∷ []) r on)

-- ---- a node is entered

module _ (graph : List (List ℕ)) (marks : List Mark) (turns live path roots : List ℕ) (node : ℕ) (unseen : slice_get marks node ≡ Some Unseen) where
  there : (k : ℕ) → (k ≡ node → ⊥) → slice_get (set marks node (Live (length live))) k ≡ slice_get marks k
  there k other = set_other marks node k (Live (length live)) other

  here : (k : ℕ) → k ≡ node → slice_get (set marks node (Live (length live))) k ≡ Some (Live (length live))
  here k same = ap (λ (i : ℕ). slice_get (set marks node (Live (length live))) i) same ∙ set_same marks node (Live (length live)) (slice_get_within marks node Unseen unseen)

  apart : (k : ℕ) (mark : Mark) → slice_get marks k ≡ Some mark → (mark ≡ Unseen → ⊥) → k ≡ node → ⊥
  apart k mark at other same = differ marks k mark Unseen at (ap (λ (i : ℕ). slice_get marks i) same ∙ unseen) other

  keeps : (k : ℕ) (mark : Mark) → slice_get marks k ≡ Some mark → (mark ≡ Unseen → ⊥) → slice_get (set marks node (Live (length live))) k ≡ Some mark
  keeps k mark at other = there k (apart k mark at other) ∙ at

  kept : (k : ℕ) (mark : Mark) → slice_get (set marks node (Live (length live))) k ≡ Some mark → (mark ≡ Live (length live) → ⊥) → slice_get marks k ≡ Some mark
  kept k mark at other = sym (there k (λ same. other (sym (one_at (set marks node (Live (length live))) k (Live (length live)) mark (here k same) at)))) ∙ at

  pub IsOpen-enter : IsOpen marks live path roots → IsOpen (set marks node (Live (length live))) (live ++ node ∷ []) (path ++ length live ∷ []) (roots ++ length live ∷ [])
  IsOpen-enter is =
      let long : length (live ++ node ∷ []) ≡ length live + 1 = length-append live (node ∷ []) in
      record {
        place = λ k t at. ⊎_elim
            (λ (same : k ≡ node).
            let now : length live ≡ t = same_place (set marks node (Live (length live))) k (length live) t (here k same) at in
            ap (λ (i : ℕ). slice_get (live ++ node ∷ []) i) (sym now) ∙ at_end live node ∙ ap (λ (i : ℕ). Some i) (sym same))
            (λ (other : k ≡ node → ⊥). at_left live (node ∷ []) t k (is.place k t (sym (there k other) ∙ at)))
            (cases_eq k node);
        placed = λ k t at. ⊎_elim
            (λ (old : slice_get live t ≡ Some k). keeps k (Live t) (is.placed k t old) (λ e. cc))
            (λ (new : (t ≡ length live) × (node ≡ k)). here k (sym new.1) ∙ ap (λ (i : ℕ). Some (Live i)) (sym new.0))
            (at_push_cases live node t k at);
        path_within = λ t at. ⊎_elim
            (λ (old : Contains path t). omega (arith, long, is.path_within t old))
            (λ (new : length live ≡ t). omega (arith, long, new))
            (Contains-push_cases path (length live) t at);
        path_rises = all_pairs_push (λ t u. t < u) path (length live) is.path_rises (λ k d low. is.path_within (get_or path k d) (Contains-get_or path k d low));
        roots_on_path = λ t at. ⊎_elim
            (λ (old : Contains roots t). Contains-append_left path (length live ∷ []) t (is.roots_on_path t old))
            (λ (new : length live ≡ t). subst (λ (i : ℕ). Contains (path ++ length live ∷ []) i) new (Contains-push path (length live)))
            (Contains-push_cases roots (length live) t at);
        roots_rise = all_pairs_push (λ t u. t < u) roots (length live) is.roots_rise (λ k d low. is.path_within (get_or roots k d) (is.roots_on_path (get_or roots k d) (Contains-get_or roots k d low)));
        first_root = λ some. ⊎_elim
            (λ (yes : 0 < length live). Contains-append_left roots (length live ∷ []) 0 (is.first_root yes))
            (λ (no : length live ≤ 0). let none : length live ≡ 0 = omega arith in subst (λ (i : ℕ). Contains (roots ++ length live ∷ []) i) none (Contains-push roots (length live)))
            (cases_lt 0 (length live));
      }

  pub IsTurned-enter : IsTurned graph marks turns live path → IsTurned graph (set marks node (Live (length live))) turns (live ++ node ∷ []) (path ++ length live ∷ [])
  IsTurned-enter is = record {
    as_many = is.as_many;
    few = is.few;
    unseen = λ k mark. is.unseen k (kept k Unseen mark (λ e. cc));
    left = λ k t at out. ⊎_elim
        (λ (old : slice_get live t ≡ Some k). is.left k t old (λ on. out (Contains-append_left path (length live ∷ []) t on)))
        (λ (new : (t ≡ length live) × (node ≡ k)). absurd (out (subst (λ (i : ℕ). Contains (path ++ length live ∷ []) i) (sym new.0) (Contains-push path (length live)))))
        (at_push_cases live node t k at);
    over = λ k mark. is.over k (kept k Done mark (λ e. cc));
  }

  pub IsLinked-enter : IsLinked graph marks turns live roots → get_or turns node 0 ≡ 0 → ((i p : ℕ) → slice_get live i ≡ Some p → Reaches (Leads graph) p node)
      → IsLinked graph (set marks node (Live (length live))) turns (live ++ node ∷ []) (roots ++ length live ∷ [])
  IsLinked-enter is fresh reaching = record {
    closed = λ p q mark leads. keeps q Done (is.closed p q (kept p Done mark (λ e. cc)) leads) (λ e. cc);
    joined = λ i j p q first second none. ⊎_elim
        (λ (late : slice_get live j ≡ Some q). ⊎_elim
        (λ (early : slice_get live i ≡ Some p). is.joined i j p q early late (no_root_front roots (length live) j i none))
        (λ (new : (i ≡ length live) × (node ≡ p)). absurd (none (length live) (Contains-push roots (length live)) (slice_get_within live j q late) (omega (arith, new.0))))
        (at_push_cases live node i p first))
        (λ (new : (j ≡ length live) × (node ≡ q)). subst (λ (x : ℕ). Reaches (Leads graph) p x) new.1 (⊎_elim
        (λ (early : slice_get live i ≡ Some p). reaching i p early)
        (λ (same : (i ≡ length live) × (node ≡ p)). (0, sym same.1))
        (at_push_cases live node i p first)))
        (at_push_cases live node j q second);
    passed = λ t k i at low. ⊎_elim
        (λ (old : slice_get live t ≡ Some k).
        let within : t < length live = slice_get_within live t k old in
        ⊎_elim
        (λ (done : slice_get marks (end_at graph k i) ≡ Some Done). inl (keeps (end_at graph k i) Done done (λ e. cc)))
        (λ (alive : (j : ℕ) × (slice_get live j ≡ Some (end_at graph k i)) × NoRoot roots j t). inr (
          alive.0,
          at_left live (node ∷ []) alive.0 (end_at graph k i) alive.1,
          λ root on after upto. ⊎_elim
              (λ (before : Contains roots root). alive.2 root before after upto)
              (λ (new : length live ≡ root). omega (arith, new, upto, within))
              (Contains-push_cases roots (length live) root on),
        ))
        (is.passed t k i old low))
        (λ (new : (t ≡ length live) × (node ≡ k)). absurd (let none : get_or turns k 0 ≡ 0 = subst (λ (x : ℕ). get_or turns x 0 ≡ 0) new.1 fresh in omega (arith, low, none)))
        (at_push_cases live node t k at);
  }

  pub IsDone-enter : (done : List ℕ) → IsDone graph marks done → IsDone graph (set marks node (Live (length live))) done
  IsDone-enter done is = record {
    marked = λ k on. keeps k Done (is.marked k on) (λ e. cc);
    each = λ k mark. is.each k (kept k Done mark (λ e. cc));
    once = is.once;
    backward = is.backward;
  }

  pub IsBegun-enter : (next : ℕ) → IsBegun graph marks next → IsBegun graph (set marks node (Live (length live))) next
  IsBegun-enter next is = record {
    few = is.few;
    as_many = length-set marks node (Live (length live)) ∙ is.as_many;
    within = is.within;
    closed = is.closed;
    seen = λ k low mark. is.seen k low (kept k Unseen mark (λ e. cc));
  }

-- ---- the next node was seen

pub IsBegun-next : (graph : List (List ℕ)) (marks : List Mark) (next : ℕ) → IsBegun graph marks next → next < length graph → (slice_get marks next ≡ Some Unseen → ⊥) → IsBegun graph marks (next + 1)
IsBegun-next graph marks next is low seen = record {
  few = is.few;
  as_many = is.as_many;
  within = omega arith;
  closed = is.closed;
  seen = λ k before mark. ⊎_elim
      (λ (early : k < next). is.seen k early mark)
      (λ (late : next ≤ k). let now : k ≡ next = omega arith in seen (subst (λ (i : ℕ). slice_get marks i ≡ Some Unseen) now mark))
      (cases_lt k next);
}

-- ---- the path leaves a node that is no root

pub IsOpen-leave : (marks : List Mark) (live front roots : List ℕ) (place : ℕ) → IsOpen marks live (front ++ place ∷ []) roots → (Contains roots place → ⊥) → IsOpen marks live front roots
IsOpen-leave marks live front roots place is no_root = record {
  place = is.place;
  placed = is.placed;
  path_within = λ t at. is.path_within t (Contains-append_left front (place ∷ []) t at);
  path_rises = pairs_front (λ t u. t < u) front (place ∷ []) is.path_rises;
  roots_on_path = λ t at. ⊎_elim
      (λ (old : Contains front t). old)
      (λ (last : place ≡ t). absurd (no_root (subst (λ (i : ℕ). Contains roots i) (sym last) at)))
      (Contains-push_cases front place t (is.roots_on_path t at));
  roots_rise = is.roots_rise;
  first_root = is.first_root;
}

pub IsTurned-leave : (graph : List (List ℕ)) (marks : List Mark) (turns live front : List ℕ) (place node : ℕ) → IsTurned graph marks turns live (front ++ place ∷ [])
    → slice_get live place ≡ Some node → get_or turns node 0 ≡ length (get_or graph node []) → IsTurned graph marks turns live front
IsTurned-leave graph marks turns live front place node is here over = record {
  as_many = is.as_many;
  few = is.few;
  unseen = is.unseen;
  left = λ k t at out. ⊎_elim
      (λ (same : t ≡ place).
      let now : node ≡ k = one_at live t node k (ap (λ (i : ℕ). slice_get live i) same ∙ here) at in
      subst (λ (x : ℕ). get_or turns x 0 ≡ length (get_or graph x [])) now over)
      (λ (other : t ≡ place → ⊥). is.left k t at (λ on. ⊎_elim
      (λ (old : Contains front t). out old)
      (λ (last : place ≡ t). other (sym last))
      (Contains-push_cases front place t on)))
      (cases_eq t place);
  over = is.over;
}

-- ---- the last root is taken away

pub IsOpen-merge : (marks : List Mark) (live path front : List ℕ) (root : ℕ) → IsOpen marks live path (front ++ root ∷ []) → 0 < root → IsOpen marks live path front
IsOpen-merge marks live path front root is some = record {
  place = is.place;
  placed = is.placed;
  path_within = is.path_within;
  path_rises = is.path_rises;
  roots_on_path = λ t at. is.roots_on_path t (Contains-append_left front (root ∷ []) t at);
  roots_rise = pairs_front (λ t u. t < u) front (root ∷ []) is.roots_rise;
  first_root = λ any. ⊎_elim
      (λ (old : Contains front 0). old)
      (λ (last : root ≡ 0). absurd (omega (arith, last, some)))
      (Contains-push_cases front root 0 (is.first_root any));
}

pub IsLinked-merge : (graph : List (List ℕ)) (marks : List Mark) (turns live front : List ℕ) (root to node end : ℕ) → IsLinked graph marks turns live (front ++ root ∷ [])
    → slice_get live to ≡ Some end → to < root → ((i p : ℕ) → slice_get live i ≡ Some p → Reaches (Leads graph) p node) → Leads graph node end
    → IsLinked graph marks turns live front
IsLinked-merge graph marks turns live front root to node end is at_end before reaching leads =
    let none_of : (j i : ℕ) → NoRoot front j i → (j < root → root ≤ i → ⊥) → NoRoot (front ++ root ∷ []) j i =
    λ j i none other r on after upto. ⊎_elim
    (λ (old : Contains front r). none r old after upto)
    (λ (last : root ≡ r). other (omega (arith, last, after)) (omega (arith, last, upto)))
    (Contains-push_cases front root r on) in
    record {
      closed = is.closed;
      joined = λ i j p q first second none. ⊎_elim
          (λ (low : i < root). is.joined i j p q first second (none_of j i none (λ _ high. omega (arith, low, high))))
          (λ (high : root ≤ i). Reaches-join (Leads graph) p node q (reaching i p first) (Reaches-join (Leads graph) node end q (Reaches-step (Leads graph) node end leads)
          (is.joined to j end q at_end second (none_of j to (λ r on after upto. none r on after (omega (arith, upto, before, high))) (λ _ late. omega (arith, late, before))))))
          (cases_lt i root);
      passed = λ t k i at low. ⊎_elim
          (λ (done : slice_get marks (end_at graph k i) ≡ Some Done). inl done)
          (λ (alive : (j : ℕ) × (slice_get live j ≡ Some (end_at graph k i)) × NoRoot (front ++ root ∷ []) j t). inr (alive.0, alive.1, no_root_front front root alive.0 t alive.2))
          (is.passed t k i at low);
    }

-- ---- an edge is passed

module _ (graph : List (List ℕ)) (marks : List Mark) (turns live path roots : List ℕ) (node : ℕ) (within : node < length turns) where
  turns_here : (k : ℕ) → k ≡ node → get_or (set turns node (get_or turns node 0 + 1)) k 0 ≡ get_or turns node 0 + 1
  turns_here k same = ap (λ (i : ℕ). get_or (set turns node (get_or turns node 0 + 1)) i 0) same ∙ get_or-set_same turns node (get_or turns node 0 + 1) 0 within

  turns_there : (k : ℕ) → (k ≡ node → ⊥) → get_or (set turns node (get_or turns node 0 + 1)) k 0 ≡ get_or turns k 0
  turns_there k other = get_or-set_other turns node k (get_or turns node 0 + 1) 0 other

  -- an edge that is passed now was passed before, or is the node's
  turn_cases : (k i : ℕ) → i < get_or (set turns node (get_or turns node 0 + 1)) k 0 → (i < get_or turns k 0) ⊎ ((k ≡ node) × (i ≡ get_or turns node 0))
  turn_cases k i low = ⊎_elim
      (λ (same : k ≡ node).
      let low' : i < get_or turns node 0 + 1 = subst (λ (n : ℕ). i < n) (turns_here k same) low in
      ⊎_elim
      (λ (early : i < get_or turns node 0). inl (subst (λ (x : ℕ). i < get_or turns x 0) (sym same) early))
      (λ (late : get_or turns node 0 ≤ i). let now : i ≡ get_or turns node 0 = omega arith in inr (same, now))
      (cases_lt i (get_or turns node 0)))
      (λ (other : k ≡ node → ⊥). inl (subst (λ (n : ℕ). i < n) (turns_there k other) low))
      (cases_eq k node)

  pub IsTurned-pass : (place : ℕ) → IsOpen marks live path roots → IsTurned graph marks turns live path → slice_get live place ≡ Some node → Contains path place
      → get_or turns node 0 < length (get_or graph node []) → IsTurned graph marks (set turns node (get_or turns node 0 + 1)) live path
  IsTurned-pass place nodes is at on more =
      let mark : slice_get marks node ≡ Some (Live place) = nodes.placed node place at in
      let apart_from : (k : ℕ) (other : Mark) → slice_get marks k ≡ Some other → (Live place ≡ other → ⊥) → k ≡ node → ⊥ =
      λ k other is_other differs same. differ marks node (Live place) other mark (subst (λ (x : ℕ). slice_get marks x ≡ Some other) same is_other) differs in
      record {
        as_many = length-set turns node (get_or turns node 0 + 1) ∙ is.as_many;
        few = λ k. ⊎_elim
            (λ (same : k ≡ node). rw (turns_here k same) (rw same (omega arith)))
            (λ (other : k ≡ node → ⊥). rw (turns_there k other) (is.few k))
            (cases_eq k node);
        unseen = λ k is_unseen. turns_there k (apart_from k Unseen is_unseen (λ e. cc)) ∙ is.unseen k is_unseen;
        left = λ k t here out. ⊎_elim
            (λ (same : k ≡ node).
            let now : place ≡ t = same_place marks node place t mark (nodes.placed node t (here ∙ ap (λ (x : ℕ). Some x) same)) in
            absurd (out (subst (λ (i : ℕ). Contains path i) now on)))
            (λ (other : k ≡ node → ⊥). turns_there k other ∙ is.left k t here out)
            (cases_eq k node);
        over = λ k is_done. turns_there k (apart_from k Done is_done (λ e. cc)) ∙ is.over k is_done;
      }

  pub IsLinked-pass : IsLinked graph marks turns live roots
      → ((t : ℕ) → slice_get live t ≡ Some node → (slice_get marks (end_at graph node (get_or turns node 0)) ≡ Some Done)
      ⊎ ((j : ℕ) × (slice_get live j ≡ Some (end_at graph node (get_or turns node 0))) × NoRoot roots j t))
      → IsLinked graph marks (set turns node (get_or turns node 0 + 1)) live roots
  IsLinked-pass is new = record {
    closed = is.closed;
    joined = is.joined;
    passed = λ t k i at low. ⊎_elim
        (λ (old : i < get_or turns k 0). is.passed t k i at old)
        (λ (now : (k ≡ node) × (i ≡ get_or turns node 0)). rw (now.0, now.1) (new t (at ∙ ap (λ (x : ℕ). Some x) now.0)))
        (turn_cases k i low);
  }

  pub IsTold-pass : (least least' : Option ℕ) → IsTold graph turns least → ((k : ℕ) → AtMost least k → AtMost least' k) → ((p : ℕ) → least' ≡ Some p → IsOnLoop (Leads graph) p)
      → AtMost least' node ⊎ (Reaches (Leads graph) (end_at graph node (get_or turns node 0)) node → ⊥) → IsTold graph (set turns node (get_or turns node 0 + 1)) least'
  IsTold-pass least least' is weaker on_loop new = record {
    told = λ k i low. ⊎_elim
        (λ (old : i < get_or turns k 0). ⊎_elim
        (λ (most : AtMost least k). inl (weaker k most))
        (λ (never : Reaches (Leads graph) (end_at graph k i) k → ⊥). inr never)
        (is.told k i old))
        (λ (now : (k ≡ node) × (i ≡ get_or turns node 0)). rw (now.0, now.1) new)
        (turn_cases k i low);
    on_loop = on_loop;
  }
