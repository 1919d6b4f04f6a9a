-- What the walk keeps when the path leaves a root: the nodes from there on are done.
use Rattle.std.proofs.Common.{◌≡◌, ◌≢◌, ℕ, take, set, Option, ◌+◌, ◌<◌, ◌≤◌, List, [], ◌∷◌, ◌++◌, length, get_or, None, Some, refl, sym, ap, subst, ◌∙◌, ◌⊎◌, inl, inr, ⊎_elim, arith}
use Rattle.std.specs.Prelude.{All, AllPairs, Contains, slice_get}
use Rattle.std.proofs.lemmas.Bool.{cases_eq, cases_lt}
use Rattle.std.proofs.lemmas.Option.{slice_get_within, slice_get_cases, slice_get-get_or, get_or_from_slice_get}
use Rattle.std.proofs.lemmas.List.{length-append, length-set, get_or_default, take_more}
use Rattle.std.proofs.lemmas.List.Elements.{All-get_or, Contains-push, Contains-push_cases, Contains-append_left, Contains-append_right, Contains-append_cases}
use Rattle.lemmas.proofs.Elements.{at-Contains}
use Rattle.graph_order.specs.declared.walk.Mark.{Mark}
use Rattle.graph_order.specs.declared.walk.Mark.TheVariants.{Unseen, Live, Done}
use Rattle.graph_order.specs.Walk.{IsBegun, IsDone, IsLinked, IsMarkedDone, IsOpen, IsTurned, NoRoot, end_at, steps_of}
use Rattle.graph_order.proofs.ListLemmas.{set_same, set_other, one_at, at_left, at_right, at_cases, Contains-at, last_after, pairs_front}
use Rattle.graph_order.proofs.WalkLemmas.{differ, same_place, no_root_front}

-- two lists without an element in common, each with every element once
once_append : (xs ys : List ℕ) → AllPairs (λ p q. p ≢ q) xs → ((i j x : ℕ) → slice_get ys i ≡ Some x → slice_get ys j ≡ Some x → i ≡ j)
    → ((x : ℕ) → Contains xs x → Contains ys x → ⊥) → AllPairs (λ p q. p ≢ q) (xs ++ ys)
once_append xs ys once places apart i j d before low same =
    let first : slice_get (xs ++ ys) i ≡ Some (get_or (xs ++ ys) i d) = slice_get-get_or (xs ++ ys) i d (omega arith) in
    let second : slice_get (xs ++ ys) j ≡ Some (get_or (xs ++ ys) i d) = slice_get-get_or (xs ++ ys) j d low ∙ ap (λ (x : ℕ). Some x) (sym same) in
    let x = get_or (xs ++ ys) i d in
    ⊎_elim
    (λ (late : slice_get xs j ≡ Some x). ⊎_elim
    (λ (early : slice_get xs i ≡ Some x). once i j d before (slice_get_within xs j x late) (get_or_from_slice_get xs i x d early ∙ sym (get_or_from_slice_get xs j x d late)))
    (λ (right : (a : ℕ) × (i ≡ length xs + a) × (slice_get ys a ≡ Some x)). omega (arith, before, right.1, slice_get_within xs j x late))
    (at_cases xs ys i x first))
    (λ (right : (b : ℕ) × (j ≡ length xs + b) × (slice_get ys b ≡ Some x)). ⊎_elim
    (λ (early : slice_get xs i ≡ Some x). apart x (at-Contains xs i x early) (at-Contains ys right.0 x right.2))
    (λ (left : (a : ℕ) × (i ≡ length xs + a) × (slice_get ys a ≡ Some x)). omega (arith, before, left.1, right.1, places left.0 right.0 x left.2 right.2))
    (at_cases xs ys i x first))
    (at_cases xs ys j x second)

-- one more node is marked
pub IsMarkedDone-more : (before : List Mark) (nodes : List ℕ) (i : ℕ) (after : List Mark) → IsMarkedDone before (take i nodes) after → i < length nodes
    → All (λ node. node < length before) nodes → IsMarkedDone before (take (i + 1) nodes) (set after (get_or nodes i 0) Done)
IsMarkedDone-more before nodes i after is low all =
    let step : take (i + 1) nodes ≡ take i nodes ++ get_or nodes i 0 ∷ [] = take_more nodes i 0 low in
    let within : get_or nodes i 0 < length after = omega (arith, is.as_many, All-get_or (λ node. node < length before) nodes i 0 low all) in
    rw step (record {
      as_many = length-set after (get_or nodes i 0) Done ∙ is.as_many;
      these = λ k on. ⊎_elim
          (λ (same : k ≡ get_or nodes i 0). ap (λ (x : ℕ). slice_get (set after (get_or nodes i 0) Done) x) same ∙ set_same after (get_or nodes i 0) Done within)
          (λ (other : k ≡ get_or nodes i 0 → ⊥). set_other after (get_or nodes i 0) k Done other ∙ is.these k (⊎_elim
          (λ (old : Contains (take i nodes) k). old)
          (λ (last : get_or nodes i 0 ≡ k). absurd (other (sym last)))
          (Contains-push_cases (take i nodes) (get_or nodes i 0) k on)))
          (cases_eq k (get_or nodes i 0));
      others = λ k out.
          set_other after (get_or nodes i 0) k Done (λ same. out (subst (λ (x : ℕ). Contains (take i nodes ++ get_or nodes i 0 ∷ []) x) (sym same) (Contains-push (take i nodes) (get_or nodes i 0))))
          ∙ is.others k (λ on. out (Contains-append_left (take i nodes) (get_or nodes i 0 ∷ []) k on));
    })

module _ (graph : List (List ℕ)) (marks marks' : List Mark) (turns front segment path roots : List ℕ)
    (nodes : IsOpen marks (front ++ segment) (path ++ length front ∷ []) (roots ++ length front ∷ []))
    (written : IsMarkedDone marks segment marks') where
  -- a place of the segment is one from the root on
  high : (k t : ℕ) → slice_get (front ++ segment) t ≡ Some k → length front ≤ t → Contains segment k
  high k t at late = ⊎_elim
      (λ (left : slice_get front t ≡ Some k). absurd (omega (arith, late, slice_get_within front t k left)))
      (λ (right : (j : ℕ) × (t ≡ length front + j) × (slice_get segment j ≡ Some k)). at-Contains segment right.0 k right.2)
      (at_cases front segment t k at)

  low : (k t : ℕ) → slice_get (front ++ segment) t ≡ Some k → t < length front → slice_get front t ≡ Some k
  low k t at early = ⊎_elim
      (λ (left : slice_get front t ≡ Some k). left)
      (λ (right : (j : ℕ) × (t ≡ length front + j) × (slice_get segment j ≡ Some k)). absurd (omega (arith, early, right.1)))
      (at_cases front segment t k at)

  segment_at : (k : ℕ) → Contains segment k → (t : ℕ) × (length front ≤ t) × (slice_get (front ++ segment) t ≡ Some k)
  segment_at k on = let at = Contains-at segment k on in (length front + at.0, omega arith, at_right front segment at.0 k at.1)

  segment_live : (k : ℕ) → Contains segment k → (t : ℕ) × (length front ≤ t) × (slice_get marks k ≡ Some (Live t))
  segment_live k on = let at = segment_at k on in (at.0, at.1, nodes.placed k at.0 at.2)

  front_apart : (k t : ℕ) → slice_get front t ≡ Some k → Contains segment k → ⊥
  front_apart k t at on =
      let other = segment_live k on in
      omega (arith, other.1, slice_get_within front t k at, same_place marks k t other.0 (nodes.placed k t (at_left front segment t k at)) other.2)

  -- what isn't live keeps its mark
  still : (k : ℕ) (mark : Mark) → slice_get marks k ≡ Some mark → ((t : ℕ) → mark ≡ Live t → ⊥) → slice_get marks' k ≡ Some mark
  still k mark at other = written.others k (λ on. let alive = segment_live k on in differ marks k mark (Live alive.0) at alive.2 (other alive.0)) ∙ at

  -- what isn't done now had the same mark
  was : (k : ℕ) (mark : Mark) → slice_get marks' k ≡ Some mark → (Done ≡ mark → ⊥) → slice_get marks k ≡ Some mark
  was k mark at other = sym (written.others k (λ on. differ marks' k Done mark (written.these k on) at other)) ∙ at

  done_of : (k : ℕ) (mark : Mark) → slice_get marks k ≡ Some mark → slice_get marks' k ≡ Some Done → (slice_get marks k ≡ Some Done) ⊎ ((t : ℕ) × (length front ≤ t) × (slice_get (front ++ segment) t ≡ Some k))
  done_of k Unseen at now = absurd (differ marks' k Unseen Done (still k Unseen at (λ t e. cc)) now (λ e. cc))
  done_of k Done at now = inl at
  done_of k (Live t) at now = ⊎_elim
      (λ (early : t < length front).
      let place : slice_get front t ≡ Some k = low k t (nodes.place k t at) early in
      absurd (differ marks' k (Live t) Done (written.others k (front_apart k t place) ∙ at) now (λ e. cc)))
      (λ (late : length front ≤ t). inr (t, late, nodes.place k t at))
      (cases_lt t (length front))

  -- what is done now was so, or is of the segment
  done_cases : (k : ℕ) → slice_get marks' k ≡ Some Done → (slice_get marks k ≡ Some Done) ⊎ ((t : ℕ) × (length front ≤ t) × (slice_get (front ++ segment) t ≡ Some k))
  done_cases k now = ⊎_elim
      (λ (found : (mark : Mark) × (k < length marks) × (slice_get marks k ≡ Some mark) × (get_or marks k mark ≡ mark)). done_of k found.0 found.2 now)
      (λ (past : (length marks ≤ k) × (slice_get marks k ≡ None)). absurd (omega (arith, past.0, written.as_many, slice_get_within marks' k Done now)))
      (slice_get_cases marks k).1

  path_low : (t : ℕ) → Contains path t → t < length front
  path_low t on = last_after (λ t u. t < u) path (length front) t nodes.path_rises on

  roots_low : (t : ℕ) → Contains (roots ++ length front ∷ []) t → t ≤ length front
  roots_low t on = ⊎_elim
      (λ (old : Contains roots t). omega (arith, last_after (λ t u. t < u) roots (length front) t nodes.roots_rise old))
      (λ (last : length front ≡ t). omega (arith, last))
      (Contains-push_cases roots (length front) t on)

  -- a place before the root is on the path still
  on_path : (t : ℕ) → t < length front → Contains (path ++ length front ∷ []) t → Contains path t
  on_path t before on = ⊎_elim
      (λ (old : Contains path t). old)
      (λ (last : length front ≡ t). absurd (omega (arith, last, before)))
      (Contains-push_cases path (length front) t on)

  pub IsOpen-close : IsOpen marks' front path roots
  IsOpen-close =
      let long : length (front ++ segment) ≡ length front + length segment = length-append front segment in
      record {
        place = λ k t mark. ⊎_elim
            (λ (left : slice_get front t ≡ Some k). left)
            (λ (right : (j : ℕ) × (t ≡ length front + j) × (slice_get segment j ≡ Some k)).
            absurd (differ marks' k Done (Live t) (written.these k (at-Contains segment right.0 k right.2)) mark (λ e. cc)))
            (at_cases front segment t k (nodes.place k t (was k (Live t) mark (λ e. cc))));
        placed = λ k t at. written.others k (front_apart k t at) ∙ nodes.placed k t (at_left front segment t k at);
        path_within = path_low;
        path_rises = pairs_front (λ t u. t < u) path (length front ∷ []) nodes.path_rises;
        roots_on_path = λ t on. on_path t (last_after (λ t u. t < u) roots (length front) t nodes.roots_rise on) (nodes.roots_on_path t (Contains-append_left roots (length front ∷ []) t on));
        roots_rise = pairs_front (λ t u. t < u) roots (length front ∷ []) nodes.roots_rise;
        first_root = λ some. ⊎_elim
            (λ (old : Contains roots 0). old)
            (λ (last : length front ≡ 0). absurd (omega (arith, last, some)))
            (Contains-push_cases roots (length front) 0 (nodes.first_root (omega (arith, some, long))));
      }

  -- the nodes of the segment had all their turns
  segment_over : (node : ℕ) → IsTurned graph marks turns (front ++ segment) (path ++ length front ∷ []) → slice_get (front ++ segment) (length front) ≡ Some node
      → get_or turns node 0 ≡ length (get_or graph node []) → (k t : ℕ) → length front ≤ t → slice_get (front ++ segment) t ≡ Some k → get_or turns k 0 ≡ length (get_or graph k [])
  segment_over node is first over k t late at = ⊎_elim
      (λ (same : t ≡ length front).
      let now : node ≡ k = one_at (front ++ segment) t node k (ap (λ (i : ℕ). slice_get (front ++ segment) i) same ∙ first) at in
      subst (λ (x : ℕ). get_or turns x 0 ≡ length (get_or graph x [])) now over)
      (λ (other : t ≡ length front → ⊥). is.left k t at (λ on. ⊎_elim
      (λ (old : Contains path t). omega (arith, late, path_low t old))
      (λ (last : length front ≡ t). other (sym last))
      (Contains-push_cases path (length front) t on)))
      (cases_eq t (length front))

  pub IsTurned-close : (node : ℕ) → IsTurned graph marks turns (front ++ segment) (path ++ length front ∷ []) → slice_get (front ++ segment) (length front) ≡ Some node
      → get_or turns node 0 ≡ length (get_or graph node []) → IsTurned graph marks' turns front path
  IsTurned-close node is first over = record {
    as_many = is.as_many;
    few = is.few;
    unseen = λ k mark. is.unseen k (was k Unseen mark (λ e. cc));
    left = λ k t at out. is.left k t (at_left front segment t k at) (λ on. out (on_path t (slice_get_within front t k at) on));
    over = λ k mark. ⊎_elim
        (λ (old : slice_get marks k ≡ Some Done). is.over k old)
        (λ (new : (t : ℕ) × (length front ≤ t) × (slice_get (front ++ segment) t ≡ Some k)). segment_over node is first over k new.0 new.1 new.2)
        (done_cases k mark);
  }

  pub IsLinked-close : (node : ℕ) → IsTurned graph marks turns (front ++ segment) (path ++ length front ∷ []) → slice_get (front ++ segment) (length front) ≡ Some node
      → get_or turns node 0 ≡ length (get_or graph node []) → IsLinked graph marks turns (front ++ segment) (roots ++ length front ∷ []) → IsLinked graph marks' turns front roots
  IsLinked-close node turned first over is =
      let none_of : (j i : ℕ) → i < length front → NoRoot roots j i → NoRoot (roots ++ length front ∷ []) j i =
      λ j i before none r on after upto. ⊎_elim
      (λ (old : Contains roots r). none r old after upto)
      (λ (last : length front ≡ r). omega (arith, last, upto, before))
      (Contains-push_cases roots (length front) r on) in
      record {
        closed = λ p q mark leads. ⊎_elim
            (λ (old : slice_get marks p ≡ Some Done). still q Done (is.closed p q old leads) (λ t e. cc))
            (λ (new : (t : ℕ) × (length front ≤ t) × (slice_get (front ++ segment) t ≡ Some p)).
            let end : end_at graph p leads.0 ≡ q = get_or_default (get_or graph p []) leads.0 0 q leads.1 ∙ leads.2 in
            let turn : leads.0 < get_or turns p 0 = omega (arith, leads.1, segment_over node turned first over p new.0 new.1 new.2) in
            subst (λ (x : ℕ). slice_get marks' x ≡ Some Done) end (⊎_elim
            (λ (done : slice_get marks (end_at graph p leads.0) ≡ Some Done). still (end_at graph p leads.0) Done done (λ t e. cc))
            (λ (alive : (j : ℕ) × (slice_get (front ++ segment) j ≡ Some (end_at graph p leads.0)) × NoRoot (roots ++ length front ∷ []) j new.0). ⊎_elim
            (λ (early : alive.0 < length front). absurd (alive.2 (length front) (Contains-push roots (length front)) early new.1))
            (λ (late : length front ≤ alive.0). written.these (end_at graph p leads.0) (high (end_at graph p leads.0) alive.0 alive.1 late))
            (cases_lt alive.0 (length front)))
            (is.passed new.0 p leads.0 new.2 turn)))
            (done_cases p mark);
        joined = λ i j p q at_i at_j none. is.joined i j p q (at_left front segment i p at_i) (at_left front segment j q at_j) (none_of j i (slice_get_within front i p at_i) none);
        passed = λ t k i at turn. ⊎_elim
            (λ (done : slice_get marks (end_at graph k i) ≡ Some Done). inl (still (end_at graph k i) Done done (λ t e. cc)))
            (λ (alive : (j : ℕ) × (slice_get (front ++ segment) j ≡ Some (end_at graph k i)) × NoRoot (roots ++ length front ∷ []) j t). ⊎_elim
            (λ (early : alive.0 < length front). inr (alive.0, low (end_at graph k i) alive.0 alive.1 early, no_root_front roots (length front) alive.0 t alive.2))
            (λ (late : length front ≤ alive.0). inl (written.these (end_at graph k i) (high (end_at graph k i) alive.0 alive.1 late)))
            (cases_lt alive.0 (length front)))
            (is.passed t k i (at_left front segment t k at) turn);
      }

  pub IsDone-close : (done : List ℕ) → IsLinked graph marks turns (front ++ segment) (roots ++ length front ∷ []) → IsDone graph marks done → IsDone graph marks' (done ++ segment)
  IsDone-close done links is =
      let apart : (k : ℕ) → Contains segment k → slice_get marks k ≡ Some Done → ⊥ =
      λ k on mark. let alive = segment_live k on in differ marks k (Live alive.0) Done alive.2 mark (λ e. cc) in
      record {
        marked = λ k on. ⊎_elim
            (λ (old : Contains done k). still k Done (is.marked k old) (λ t e. cc))
            (λ (new : Contains segment k). written.these k new)
            (Contains-append_cases done segment k on);
        each = λ k mark. ⊎_elim
            (λ (old : slice_get marks k ≡ Some Done). Contains-append_left done segment k (is.each k old))
            (λ (new : (t : ℕ) × (length front ≤ t) × (slice_get (front ++ segment) t ≡ Some k)). Contains-append_right done segment k (high k new.0 new.2 new.1))
            (done_cases k mark);
        once = once_append done segment is.once
            (λ i j x first second. let same : length front + i ≡ length front + j = same_place marks x (length front + i) (length front + j)
            (nodes.placed x (length front + i) (at_right front segment i x first)) (nodes.placed x (length front + j) (at_right front segment j x second)) in omega arith)
            (λ x old new. apart x new (is.marked x old));
        backward = λ i j p q first second leads. ⊎_elim
            (λ (early : slice_get done i ≡ Some p). ⊎_elim
            (λ (late : slice_get done j ≡ Some q). is.backward i j p q early late leads)
            (λ (right : (b : ℕ) × (j ≡ length done + b) × (slice_get segment b ≡ Some q)).
            absurd (apart q (at-Contains segment right.0 q right.2) (links.closed p q (is.marked p (at-Contains done i p early)) leads)))
            (at_cases done segment j q second))
            (λ (left : (a : ℕ) × (i ≡ length done + a) × (slice_get segment a ≡ Some p)). ⊎_elim
            (λ (late : slice_get done j ≡ Some q). inl (omega (arith, left.1, slice_get_within done j q late)))
            (λ (right : (b : ℕ) × (j ≡ length done + b) × (slice_get segment b ≡ Some q)).
            inr (links.joined (length front + right.0) (length front + left.0) q p (at_right front segment right.0 q right.2) (at_right front segment left.0 p left.2)
            (λ r on after upto. omega (arith, after, roots_low r on))))
            (at_cases done segment j q second))
            (at_cases done segment i p first);
      }

  pub IsBegun-close : (next : ℕ) → IsBegun graph marks next → IsBegun graph marks' next
  IsBegun-close next is = record {
    few = is.few;
    as_many = written.as_many ∙ is.as_many;
    within = is.within;
    closed = is.closed;
    seen = λ k before mark. is.seen k before (was k Unseen mark (λ e. cc));
  }

  fewer_of : (k : ℕ) (mark : Option Mark) → slice_get marks' k ≡ mark → steps_of mark ≤ steps_of (slice_get marks k)
  fewer_of k None at = omega arith
  fewer_of k (Some Unseen) at = rw (was k Unseen at (λ e. cc)) (omega arith)
  fewer_of k (Some (Live t)) at = omega arith
  fewer_of k (Some Done) at = omega arith

  pub fewer : (k : ℕ) → steps_of (slice_get marks' k) ≤ steps_of (slice_get marks k)
  fewer k = fewer_of k (slice_get marks' k) refl
