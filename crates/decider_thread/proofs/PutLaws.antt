-- What a decider puts.
use Rattle.std.proofs.Common.{◌≡◌, ℕ, zero, suc, ◌<◌, ◌≤◌, ◌+◌, List, [], ◌∷◌, ◌++◌, set, get_or, slice_get, length, Some, refl, sym, ap, ◌∙◌, subst, append_assoc, drop, arith, ⊎_elim}
use Rattle.std.proofs.lemmas.List.{map-append, get_or-set_same, length-set}
use Rattle.std.proofs.lemmas.Bool.{cases_eq}
use Rattle.std.proofs.lemmas.Option.{none-some, same_Some, slice_get-get_or, slice_get_within}
use Rattle.crossbeam_queue.specs.Passes.{Pass}
use Rattle.due_model.specs.declared.item.Item.{Item}
use Rattle.due_model.specs.declared.item.Item.TheVariants as item
use Rattle.due_model.specs.declared.notice.Notice.{Notice}
use Rattle.channel_queue.specs.declared.LaneQueue.{LaneQueue}
use Rattle.channel_queue.specs.declared.Seen.{Seen}
use Rattle.channel_queue.specs.Passes.{IsDecider}
use Rattle.channel_queue.specs.Rule.{IsOpen, put_of, put_seen}
use Rattle.decider_thread.specs.declared.seats.Seat.{Seat}
use Rattle.decider_thread.specs.Puts.{ArePut, EndedAt, PutAt, Puts, as_items}

-- notices end nothing
pub open_items : (d : ℕ) (ns : List Notice) → IsOpen (as_items d ns)
open_items d [] = tt
open_items d (n ∷ ns) = (refl, open_items d ns)

-- what was put is what its pass says
pub put_is : (q : LaneQueue) (d : ℕ) (put : List Item) (p : Pass Item Seen) → IsDecider q d put p → put_of p ≡ put
put_is q d put p is = ap put_seen is.1

-- the first of those that wait was put
pub puts_front : (q : LaneQueue) (d : ℕ) (n : Notice) (waiting later whole : List Notice) (p p' : Pass Item Seen) → slice_get waiting 0 ≡ Some n → later ≡ drop 1 waiting
    → IsDecider q d (put_of p ++ item.Notice d n ∷ []) p' → Puts q d waiting whole p → Puts q d later whole p'
puts_front q d n [] later whole p p' front rest is puts = absurd (none-some n front)
puts_front q d n (x ∷ xs) later whole p p' front rest is puts = record {
  put = puts.put ++ x ∷ [];
  is = subst (λ items. IsDecider q d items p') (ap (λ items. items ++ item.Notice d n ∷ []) (put_is q d (as_items d puts.put) p puts.is) ∙ ap (λ m. as_items d puts.put ++ item.Notice d m ∷ []) (sym (same_Some x n front)) ∙ sym (map-append (item.Notice d) puts.put (x ∷ []))) is;
  rest = ap (λ ns. (puts.put ++ x ∷ []) ++ ns) rest ∙ append_assoc puts.put (x ∷ []) xs ∙ puts.rest;
}

-- ---- places

pub at_place : {X : Type 0} (xs : List X) (i : ℕ) (x : X) → i < length xs → x ≡ get_or xs i x → slice_get xs i ≡ Some x
at_place {X} xs i x within is = slice_get-get_or xs i x within ∙ ap (λ (y : X). Some y) (sym is)

pub set_same : {X : Type 0} (xs : List X) (i : ℕ) (x : X) → i < length xs → slice_get (set xs i x) i ≡ Some x
set_same {X} xs i x within = slice_get-get_or (set xs i x) i x (let l = length-set xs i x in omega (arith, l, within)) ∙ ap (λ (y : X). Some y) (get_or-set_same xs i x x within)

pub set_other : {X : Type 0} (xs : List X) (i j : ℕ) (x : X) → ¬ (j ≡ i) → slice_get (set xs i x) j ≡ slice_get xs j
set_other [] i j x apart = refl
set_other (y ∷ ys) zero zero x apart = absurd (apart refl)
set_other (y ∷ ys) zero (suc j) x apart = refl
set_other (y ∷ ys) (suc i) zero x apart = refl
set_other (y ∷ ys) (suc i) (suc j) x apart = set_other ys i j x (λ e. apart (ap suc e))

-- one lane is put, and the others are as they were
pub put_one : (d : ℕ) (queues : List LaneQueue) (seats : List Seat) (waiting later whole : ℕ → List Notice) (l : ℕ) (q : LaneQueue) (s s' : Seat)
    → slice_get queues l ≡ Some q → slice_get seats l ≡ Some s
    → (Puts q d (waiting l) (whole l) s.pass → Puts q d (later l) (whole l) s'.pass) → ((k : ℕ) → ¬ (k ≡ l) → later k ≡ waiting k)
    → ArePut d queues seats waiting whole → ArePut d queues (set seats l s') later whole
put_one d queues seats waiting later whole l q s s' at_queue at_seat one others puts k q' u queue seat = ⊎_elim
    (λ (is : k ≡ l).
    let here : slice_get queues l ≡ Some q' = subst (λ (m : ℕ). slice_get queues m ≡ Some q') is queue in
    let there : slice_get (set seats l s') l ≡ Some u = subst (λ (m : ℕ). slice_get (set seats l s') m ≡ Some u) is seat in
    let same_queue : q ≡ q' = same_Some q q' (sym at_queue ∙ here) in
    let same_seat : s' ≡ u = same_Some s' u (sym (set_same seats l s' (slice_get_within seats l s at_seat)) ∙ there) in
    subst (λ (m : ℕ). Puts q' d (later m) (whole m) u.pass) (sym is) (subst (λ (v : Seat). Puts q' d (later l) (whole l) v.pass) same_seat (subst (λ (p : LaneQueue). Puts p d (later l) (whole l) s'.pass) same_queue (one (puts l q s at_queue at_seat)))))
    (λ (apart : ¬ (k ≡ l)). subst (λ ns. Puts q' d ns (whole k) u.pass) (sym (others k apart)) (puts k q' u queue (sym (set_other seats l k s' apart) ∙ seat)))
    (cases_eq k l)

-- the same waits
pub same_waits : (d : ℕ) (queues : List LaneQueue) (seats : List Seat) (before after whole : ℕ → List Notice) → ((l : ℕ) → l < length queues → before l ≡ after l) → ArePut d queues seats before whole → ArePut d queues seats after whole
same_waits d queues seats before after whole same puts l q s queue seat = subst (λ ns. Puts q d ns (whole l) s.pass) (same l (slice_get_within queues l q queue)) (puts l q s queue seat)

-- more waits
pub more_waits : (d : ℕ) (queues : List LaneQueue) (seats : List Seat) (gains before after whole more : ℕ → List Notice) → ((l : ℕ) → l < length queues → after l ≡ before l ++ gains l) → ((l : ℕ) → more l ≡ whole l ++ gains l)
    → ArePut d queues seats before whole → ArePut d queues seats after more
more_waits d queues seats gains before after whole more waits grows puts l q s queue seat =
    let old = puts l q s queue seat in record {
      put = old.put;
      is = old.is;
      rest = ap (λ ns. old.put ++ ns) (waits l (slice_get_within queues l q queue)) ∙ sym (append_assoc old.put (before l) (gains l)) ∙ ap (λ ns. ns ++ gains l) old.rest ∙ sym (grows l);
    }

-- ---- ends

-- the lanes before this one have ended, and the others are put
abbrev pub EndedBelow : (d : ℕ) → List LaneQueue → List Seat → (whole : ℕ → List Notice) → (place : ℕ) → Type 0
EndedBelow d queues seats whole place =
    ((k : ℕ) → k < place → EndedAt d queues seats whole k) × ((k : ℕ) → place ≤ k → PutAt d queues seats (λ _. []) whole k)

pub end_one : (d : ℕ) (queues : List LaneQueue) (seats : List Seat) (whole : ℕ → List Notice) (l : ℕ) (q : LaneQueue) (s s' : Seat)
    → slice_get queues l ≡ Some q → slice_get seats l ≡ Some s
    → (Puts q d [] (whole l) s.pass → IsDecider q d (as_items d (whole l) ++ item.End d ∷ []) s'.pass)
    → EndedBelow d queues seats whole l → EndedBelow d queues (set seats l s') whole (l + 1)
end_one d queues seats whole l q s s' at_queue at_seat one below = (
  (λ k lt q' u queue seat. ⊎_elim
      (λ (is : k ≡ l).
      let here : slice_get queues l ≡ Some q' = subst (λ (m : ℕ). slice_get queues m ≡ Some q') is queue in
      let there : slice_get (set seats l s') l ≡ Some u = subst (λ (m : ℕ). slice_get (set seats l s') m ≡ Some u) is seat in
      let same_queue : q ≡ q' = same_Some q q' (sym at_queue ∙ here) in
      let same_seat : s' ≡ u = same_Some s' u (sym (set_same seats l s' (slice_get_within seats l s at_seat)) ∙ there) in
      subst (λ (m : ℕ). IsDecider q' d (as_items d (whole m) ++ item.End d ∷ []) u.pass) (sym is)
      (subst (λ (v : Seat). IsDecider q' d (as_items d (whole l) ++ item.End d ∷ []) v.pass) same_seat
      (subst (λ (p : LaneQueue). IsDecider p d (as_items d (whole l) ++ item.End d ∷ []) s'.pass) same_queue (one (below.1 l (omega arith) q s at_queue at_seat)))))
      (λ (apart : ¬ (k ≡ l)). below.0 k (omega (arith, lt, apart)) q' u queue (sym (set_other seats l k s' apart) ∙ seat))
      (cases_eq k l)),
  (λ k le q' u queue seat. below.1 k (omega (arith, le)) q' u queue (sym (set_other seats l k s' (λ is. absurd (omega (arith, le, is)))) ∙ seat)),
)
