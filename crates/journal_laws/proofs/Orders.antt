-- What is due stands in order, and goes on from run to run.
use Rattle.std.proofs.Common.{◌≡◌, ℕ, zero, suc, ◌<◌, ◌≤◌, ◌+◌, List, [], ◌∷◌, ◌++◌, Bool, true, false, ◌&&◌, ◌||◌, ◌==◌, nat_le, nat_lt, length, filter, reverse, cond, not, refl, sym, ap, ◌∙◌, subst, arith, ◌⊎◌, inl, inr, append_assoc}
use Rattle.std.specs.Prelude.{All, AllPairs}
use Rattle.std.specs.List.{AllByRecursion, list_any}
use Rattle.std.specs.List.Sorted.{IsPermutation}
use mathlib.Core.List.{IsPrefix}
use Rattle.std.proofs.lemmas.List.{append-nil}
use Rattle.std.proofs.lemmas.List.Elements.{filter-append, recursion_from_All}
use Rattle.std.proofs.lemmas.List.Sorted.{list_any-IsPermutation}
use Rattle.std.proofs.lemmas.Bool.{and_right, and_left, or_from, le-ltb, lt-leb, ne_eqb, cond-true, eq-eqb}
use Rattle.due_model.specs.claims.Due.{due}
use Rattle.due_model.specs.declared.config.Config.{Config}
use Rattle.due_model.specs.declared.event.Event.{Event}
use Rattle.due_model.specs.declared.notice.Notice.{Notice}
use Rattle.due_model.specs.declared.zone.Zone.{Zone}
use Rattle.due_laws.specs.Laws.{ComesBefore, DueOnlyGrows, NoticesStandInOrder, NoticesTellOfEvents, TellsOfEvent}
use Rattle.journaled.specs.Claims.{Past, is_new, is_settled, new_of, settles}
use Rattle.journaled.specs.Runs.{IsInOrder, IsOnceOfEach, of_object, since}
use Rattle.journal_laws.specs.Restarts.{AreRuns, IsRun, ItGoesOn, NoneIsLostOrDoubled, Run, due_since, feed_after, settled_after}

-- a notice that comes before another doesn't settle it
unsettled : (a b : Notice) → ComesBefore a b → settles b a ≡ false
unsettled a b (inl sooner) =
    and_right (a.object.0 == b.object.0) (nat_lt b.event a.event || (a.event == b.event && nat_le b.contact.0 a.contact.0))
    (or_from (nat_lt b.event a.event) (a.event == b.event && nat_le b.contact.0 a.contact.0)
    (le-ltb b.event a.event (omega arith))
    (and_left (a.event == b.event) (nat_le b.contact.0 a.contact.0) (ne_eqb a.event b.event (λ e. omega arith))))
unsettled a b (inr same) =
    let event : a.event ≡ b.event = same.0 in
    let less : a.contact.0 < b.contact.0 = same.1 in
    and_right (a.object.0 == b.object.0) (nat_lt b.event a.event || (a.event == b.event && nat_le b.contact.0 a.contact.0))
    (or_from (nat_lt b.event a.event) (a.event == b.event && nat_le b.contact.0 a.contact.0)
    (le-ltb b.event a.event (omega arith))
    (and_right (a.event == b.event) (nat_le b.contact.0 a.contact.0) (lt-leb b.contact.0 a.contact.0 less)))

pairs_tail : (n : Notice) (ns : List Notice) → AllPairs ComesBefore (n ∷ ns) → AllPairs ComesBefore ns
pairs_tail n ns h = λ i j d less within. h (suc i) (suc j) d (omega arith) (omega arith)

pairs_head : (n : Notice) (ns : List Notice) → AllPairs ComesBefore (n ∷ ns) → All (ComesBefore n) ns
pairs_head n ns h = λ k d within. h 0 (suc k) d (omega arith) (omega arith)

none_settled : (n : Notice) (ns : List Notice) → AllByRecursion (ComesBefore n) ns
    → AllByRecursion (λ later. settles later n ≡ false) ns
none_settled n [] h = tt
none_settled n (x ∷ ns) h = (unsettled n x h.0, none_settled n ns h.1)

in_order : (ns : List Notice) → AllPairs ComesBefore ns → IsInOrder ns
in_order [] h = tt
in_order (n ∷ ns) h =
    (none_settled n ns (recursion_from_All (ComesBefore n) ns (pairs_head n ns h)), in_order ns (pairs_tail n ns h))

-- all of it is of its object
all_of : (past : List Event) (o l : ℕ) (ns : List Notice) → AllByRecursion (TellsOfEvent past o l) ns → of_object o ns ≡ ns
all_of past o l [] h = refl
all_of past o l (n ∷ ns) h =
    cond-true (n.object.0 == o) (n ∷ of_object o ns) (of_object o ns) (eq-eqb n.object.0 o (h.0).object)
    ∙ ap (λ x. n ∷ x) (all_of past o l ns h.1)

longer : (xs ys zs : List Notice) → IsPrefix xs ys → IsPrefix ys zs → IsPrefix xs zs
longer xs ys zs f g = (f.0 ++ g.0, sym (append_assoc xs f.0 g.0) ∙ ap (λ x. x ++ g.0) f.1 ∙ g.1)

-- notices that are kept in another order settle the same
filter_same : (p q : Notice → Bool) → ((n : Notice) → p n ≡ q n) → (ns : List Notice) → filter p ns ≡ filter q ns
filter_same p q same [] = refl
filter_same p q same (n ∷ ns) =
    ap (λ (b : Bool). cond b (n ∷ filter p ns) (filter p ns)) (same n)
    ∙ ap (λ (xs : List Notice). cond (q n) (n ∷ xs) xs) (filter_same p q same ns)

same_new : (past other : Past) → other.from ≡ past.from → IsPermutation past.settled other.settled → (ns : List Notice)
    → new_of other ns ≡ new_of past ns
same_new past other from settled ns =
    filter_same (is_new other) (is_new past) (λ n.
    ap not (ap (λ (f : ℕ). nat_lt n.event f || list_any (settles n) other.settled) from
    ∙ ap (λ (b : Bool). nat_lt n.event past.from || b) (sym (list_any-IsPermutation (settles n) past.settled other.settled settled)))) ns

module _ (grows : DueOnlyGrows) (order : NoticesStandInOrder) (tell : NoticesTellOfEvents) (each : IsOnceOfEach) (c : Config) (zone : Zone)
    (from o l : ℕ) (there : o < length c.objects) where
  grown : (feed more : List Event) → IsPrefix (due_since c zone from o l feed) (due_since c zone from o l (feed ++ more))
  grown feed more =
      let h = grows c zone o l feed more in
      (since from h.0, sym (ap (since from) h.1 ∙ filter-append (λ n. not (nat_lt n.event from)) (due c zone o l (reverse feed)) h.0))

  -- one run more
  one_more : (feed : List Event) (settled : List Notice) (r : Run) → IsPrefix (of_object o settled) (due_since c zone from o l feed)
      → (run : IsRun c zone from l feed settled r)
      → of_object o settled ++ of_object o (r.told ++ r.doubt) ++ of_object o (new_of run.past r.left)
      ≡ due_since c zone from o l (feed ++ r.more)
  one_more feed settled r front run =
      let all = reverse (feed ++ r.more) in
      let ns = due c zone o l all in
      let past : Past = record { from = from; settled = settled; begun = [] } in
      let own : of_object o ns ≡ ns = all_of all o l ns (recursion_from_All (TellsOfEvent all o l) ns (tell c zone o l all)) in
      ap (λ x. of_object o settled ++ of_object o x ++ of_object o (new_of run.past r.left)) (sym run.handed)
      ∙ ap (λ x. of_object o settled ++ of_object o x ++ of_object o (new_of run.past r.left))
      (same_new past run.past run.from_is run.settled_are r.taken)
      ∙ ap (λ x. of_object o settled ++ of_object o (new_of past r.taken) ++ of_object o x)
      (same_new past run.past run.from_is run.settled_are r.left)
      ∙ each o past r.taken r.left ns
      (subst IsInOrder (sym own) (in_order ns (order c zone o l all)))
      (subst (λ (x : List Notice). IsPrefix (of_object o settled) (since from x)) (sym own)
      (longer (of_object o settled) (due_since c zone from o l feed) (since from ns) front (grown feed r.more)))
      (run.whole o there ∙ sym own)
      ∙ ap (since from) own

  next_front : (feed : List Event) (settled : List Notice) (r : Run) → IsPrefix (of_object o settled) (due_since c zone from o l feed)
      → IsRun c zone from l feed settled r → IsPrefix (of_object o (settled ++ r.told)) (due_since c zone from o l (feed ++ r.more))
  next_front feed settled r front run =
      let is = (λ (n : Notice). n.object.0 == o) in
      let a = of_object o settled in
      let t = of_object o r.told in
      let d = of_object o r.doubt in
      let u = of_object o (new_of run.past r.left) in (
        d ++ u,
        ap (λ x. x ++ (d ++ u)) (filter-append is settled r.told)
            ∙ append_assoc a t (d ++ u)
            ∙ ap (λ x. a ++ x) (sym (append_assoc t d u) ∙ ap (λ x. x ++ u) (sym (filter-append is r.told r.doubt)))
            ∙ sym (append_assoc a (of_object o (r.told ++ r.doubt)) u)
            ∙ one_more feed settled r front run,
      )

  all_runs : (runs : List Run) (feed : List Event) (settled : List Notice) → IsPrefix (of_object o settled) (due_since c zone from o l feed)
      → AreRuns c zone from l feed settled runs
      → IsPrefix (of_object o (settled_after settled runs)) (due_since c zone from o l (feed_after feed runs))
  all_runs [] feed settled front h = front
  all_runs (r ∷ runs) feed settled front h =
      all_runs runs (feed ++ r.more) (settled ++ r.told) (next_front feed settled r front h.0) h.1

pub goes_on : DueOnlyGrows → NoticesStandInOrder → NoticesTellOfEvents → IsOnceOfEach → ItGoesOn
goes_on grows order tell each c zone from o l runs there h =
    all_runs grows order tell each c zone from o l there runs [] [] (due_since c zone from o l [], refl) h

pub none_lost : DueOnlyGrows → NoticesStandInOrder → NoticesTellOfEvents → IsOnceOfEach → NoneIsLostOrDoubled
none_lost grows order tell each c zone from o l runs last there h run =
    one_more grows order tell each c zone from o l there (feed_after [] runs) (settled_after [] runs) last
    (goes_on grows order tell each c zone from o l runs there h) run
