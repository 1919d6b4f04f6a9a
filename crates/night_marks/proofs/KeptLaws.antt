-- What is kept, of all that there was.
use Rattle.std.proofs.Common.{◌≡◌, ℕ, ◌+◌, ◌<◌, ◌≤◌, ◌/◌, max, Bool, true, false, cond, not, ◌&&◌, All, List, [], ◌∷◌, ◌++◌, eqb, eqb-true, filter, get_or, length, map, nat_le, nat_lt, set, slice_get, Option, refl, sym, ap, subst, ◌∙◌, arith}
use Rattle.std.specs.Option.{option_map_or}
use Rattle.std.proofs.lemmas.Bool.{eq-eqb, false≢true, le-leb, leb-true, lt-leb, lt-ltb, ltb-false, ltb-true}
use Rattle.std.proofs.lemmas.List.{append-nil, get_or-set_other, get_or-set_same, length-append, length-replicate, length-set}
use Rattle.std.proofs.lemmas.List.Elements.{All-filter, All-nil, All-push, filter-append}
use Rattle.lemmas.proofs.Lists.{All-slice_get}
use Rattle.due_model.specs.declared.config.ObjectId.{ObjectId}
use Rattle.messages.specs.declared.entries.Entry.{Entry}
use Rattle.night_marks.specs.declared.conditions.Change.{Change}
use Rattle.night_marks.specs.declared.kept.Kept.{Kept}
use Rattle.night_marks.specs.Counts.{activity, change_objects, mark_objects}
use Rattle.night_marks.specs.Kept.{IsFitChange, IsFitMark, IsKept, KeepsThem, after_moment, begun_at, given_up, kept_change, kept_mark, least_changed, least_marked, left_out, middle_change, middle_mark, most, narrowed_changes, narrowed_changes_of, narrowed_marks, narrowed_marks_of, nothing_kept, only_changes, only_marks, passes, settled_changes, settled_marks}
use Rattle.night_marks.specs.Lists.{is_of, is_out, mark_moment, mark_object, no_flags}
use Rattle.night_marks.proofs.FilterLaws.{Stands, all_stand, filter_both, filter_fewer, filter_shorter, least_is, some_at, stands_first}

and_false : (b : Bool) → (b && false) ≡ false
and_false true = refl
and_false false = refl

and_true : (b : Bool) → (b && true) ≡ b
and_true true = refl
and_true false = refl

-- ---- what passes once an object is left out

out_by : (flags : List Bool) (o p : ℕ) → o < length flags → (b : Bool) → eqb p o ≡ b → not (is_out (set flags o true) p) ≡ (not (is_out flags p) && not b)
out_by flags o p h true e =
    ap (λ (k : ℕ). not (get_or (set flags o true) k false)) (eqb-true p o e) ∙ ap (λ (b : Bool). not b) (get_or-set_same flags o true false h)
    ∙ sym (and_false (not (is_out flags p)))
out_by flags o p h false e =
    ap (λ (b : Bool). not b) (get_or-set_other flags o p true false (λ same. false≢true (sym e ∙ eq-eqb p o same)))
    ∙ sym (and_true (not (is_out flags p)))

moved : (a b c : Bool) → ((a && b) && c) ≡ ((a && c) && b)
moved true true c = sym (and_true c)
moved true false c = sym (and_false c)
moved false b c = refl

pub out_passes : (k : Kept) (o : ℕ) → o < length k.out → (object : ObjectId) (moment : ℕ) → passes (left_out k o) object.0 moment ≡ (passes k object.0 moment && not (is_of o object))
out_passes k o h object moment =
    ap (λ (b : Bool). b && nat_le k.begin moment) (out_by k.out o object.0 h (eqb object.0 o) refl)
    ∙ moved (not (is_out k.out object.0)) (not (eqb object.0 o)) (nat_le k.begin moment)

-- ---- what passes once some is left out by its moment

both : (a b c : Bool) → (b ≡ true → c ≡ true) → (a && b) ≡ ((a && c) && b)
both true true c f = sym (and_true c ∙ f refl)
both true false c f = sym (and_false c)
both false b c f = refl

pub from_passes : (k : Kept) (from : ℕ) (object : ObjectId) (moment : ℕ) → passes (begun_at k from) object.0 moment ≡ (passes k object.0 moment && nat_le (max k.begin (after_moment from)) moment)
from_passes k from object moment =
    both (not (is_out k.out object.0)) (nat_le (max k.begin (after_moment from)) moment) (nat_le k.begin moment)
    (λ e. le-leb k.begin moment (omega (arith, leb-true (max k.begin (after_moment from)) moment e)))

-- ---- what is kept, however much

record Holds (k : Kept) (marks : List Entry) (changes : List Change) : Type 0 where
  marks_are : k.marks ≡ filter (λ mark. passes k (mark_object mark).0 (mark_moment mark)) marks
  changes_are : k.changes ≡ filter (λ change. passes k change.object.0 change.moment) changes
  all_marks : All IsFitMark k.marks
  all_changes : All IsFitChange k.changes
  places : length k.out ≡ 65536

holds_without : (k : Kept) (o : ℕ) (marks : List Entry) (changes : List Change) → o < 65536 → Holds k marks changes → Holds (left_out k o) marks changes
holds_without k o marks changes small h =
    let within : o < length k.out = omega (arith, small, h.places) in record {
      marks_are =
          ap (λ (xs : List Entry). filter (λ mark. not (is_of o (mark_object mark))) xs) h.marks_are
          ∙ filter_both (λ mark. passes k (mark_object mark).0 (mark_moment mark)) (λ mark. not (is_of o (mark_object mark))) (λ mark. passes (left_out k o) (mark_object mark).0 (mark_moment mark))
          (λ mark. out_passes k o within (mark_object mark) (mark_moment mark)) marks;
      changes_are =
          ap (λ (xs : List Change). filter (λ change. not (is_of o change.object)) xs) h.changes_are
          ∙ filter_both (λ change. passes k change.object.0 change.moment) (λ change. not (is_of o change.object)) (λ change. passes (left_out k o) change.object.0 change.moment)
          (λ change. out_passes k o within change.object change.moment) changes;
      all_marks = All-filter (λ mark. not (is_of o (mark_object mark))) IsFitMark k.marks h.all_marks;
      all_changes = All-filter (λ change. not (is_of o change.object)) IsFitChange k.changes h.all_changes;
      places = length-set k.out o true ∙ h.places;
    }

holds_from : (k : Kept) (from : ℕ) (marks : List Entry) (changes : List Change) → Holds k marks changes → Holds (begun_at k from) marks changes
holds_from k from marks changes h =
    let begin : ℕ = max k.begin (after_moment from) in record {
      marks_are =
          ap (λ (xs : List Entry). filter (λ mark. nat_le begin (mark_moment mark)) xs) h.marks_are
          ∙ filter_both (λ mark. passes k (mark_object mark).0 (mark_moment mark)) (λ mark. nat_le begin (mark_moment mark)) (λ mark. passes (begun_at k from) (mark_object mark).0 (mark_moment mark))
          (λ mark. from_passes k from (mark_object mark) (mark_moment mark)) marks;
      changes_are =
          ap (λ (xs : List Change). filter (λ change. nat_le begin change.moment) xs) h.changes_are
          ∙ filter_both (λ change. passes k change.object.0 change.moment) (λ change. nat_le begin change.moment) (λ change. passes (begun_at k from) change.object.0 change.moment)
          (λ change. from_passes k from change.object change.moment) changes;
      all_marks = All-filter (λ mark. nat_le begin (mark_moment mark)) IsFitMark k.marks h.all_marks;
      all_changes = All-filter (λ change. nat_le begin change.moment) IsFitChange k.changes h.all_changes;
      places = h.places;
    }

-- ---- how much

-- the moment of what stands in the middle is before what is kept then
later : (begin moment : ℕ) → moment < 18446744073709551615 → nat_le (max begin (after_moment moment)) moment ≡ false
later begin moment h =
    let next : after_moment moment ≡ moment + 1 = ap (λ (b : Bool). cond b (moment + 1) moment) (lt-ltb moment 18446744073709551615 h) in
    ap (λ (m : ℕ). nat_le (max begin m) moment) next ∙ lt-leb (max begin (moment + 1)) moment (omega arith)

-- the object of what stands somewhere has a number of 16 bits
small_mark : (marks : List Entry) (o : ObjectId) → All IsFitMark marks → Stands mark_object marks o → o.0 < 65536
small_mark marks o all s = subst (λ (object : ObjectId). object.0 < 65536) s.same (All-slice_get IsFitMark marks s.i s.x all s.at).0

small_change : (changes : List Change) (o : ObjectId) → All IsFitChange changes → Stands (λ change. change.object) changes o → o.0 < 65536
small_change changes o all s = subst (λ (object : ObjectId). object.0 < 65536) s.same (All-slice_get IsFitChange changes s.i s.x all s.at).0

fewer_marks_out : (k : Kept) (o : ObjectId) → Stands mark_object k.marks o → length (left_out k o.0).marks < length k.marks
fewer_marks_out k o s =
    filter_fewer (λ mark. not (is_of o.0 (mark_object mark))) k.marks s.i s.x s.at
    (ap (λ (b : Bool). not b) (eq-eqb (mark_object s.x).0 o.0 (ap (λ (object : ObjectId). object.0) s.same)))

fewer_changes_out : (k : Kept) (o : ObjectId) → Stands (λ change. change.object) k.changes o → length (left_out k o.0).changes < length k.changes
fewer_changes_out k o s =
    filter_fewer (λ change. not (is_of o.0 change.object)) k.changes s.i s.x s.at
    (ap (λ (b : Bool). not b) (eq-eqb s.x.object.0 o.0 (ap (λ (object : ObjectId). object.0) s.same)))

half : (n : ℕ) → 0 < n → n / 2 < n
half n h = omega (arith, h)

fewer_marks_from : (k : Kept) → All IsFitMark k.marks → 0 < length k.marks → length (begun_at k (middle_mark k.marks)).marks < length k.marks
fewer_marks_from k all some =
    let i : ℕ = length k.marks / 2 in
    let found = some_at k.marks i (half (length k.marks) some) in
    let middle : middle_mark k.marks ≡ mark_moment found.0 = ap (λ (x : Option Entry). option_map_or mark_moment x 0) found.1 in
    filter_fewer (λ mark. nat_le (max k.begin (after_moment (middle_mark k.marks))) (mark_moment mark)) k.marks i found.0 found.1
    (ap (λ (m : ℕ). nat_le (max k.begin (after_moment m)) (mark_moment found.0)) middle
    ∙ later k.begin (mark_moment found.0) (All-slice_get IsFitMark k.marks i found.0 all found.1).1)

fewer_changes_from : (k : Kept) → All IsFitChange k.changes → 0 < length k.changes → length (begun_at k (middle_change k.changes)).changes < length k.changes
fewer_changes_from k all some =
    let i : ℕ = length k.changes / 2 in
    let found = some_at k.changes i (half (length k.changes) some) in
    let middle : middle_change k.changes ≡ found.0.moment = ap (λ (x : Option Change). option_map_or (λ change. change.moment) x 0) found.1 in
    filter_fewer (λ change. nat_le (max k.begin (after_moment (middle_change k.changes))) change.moment) k.changes i found.0 found.1
    (ap (λ (m : ℕ). nat_le (max k.begin (after_moment m)) found.0.moment) middle
    ∙ later k.begin found.0.moment (All-slice_get IsFitChange k.changes i found.0 all found.1).1)

-- what is given up: whichever it is
either : (P : Kept → Type 0) (k : Kept) (o : ℕ) (b : Bool) (m : ℕ) → P (left_out k o) → P (begun_at k m) → P (given_up k o b m)
either P k o true m out from = from
either P k o false m out from = out

shorter_marks : (k : Kept) (o : ℕ) (b : Bool) (m : ℕ) → length (given_up k o b m).marks ≤ length k.marks
shorter_marks k o b m =
    either (λ j. length j.marks ≤ length k.marks) k o b m (filter_shorter (λ mark. not (is_of o (mark_object mark))) k.marks)
    (filter_shorter (λ mark. nat_le (max k.begin (after_moment m)) (mark_moment mark)) k.marks)

shorter_changes : (k : Kept) (o : ℕ) (b : Bool) (m : ℕ) → length (given_up k o b m).changes ≤ length k.changes
shorter_changes k o b m =
    either (λ j. length j.changes ≤ length k.changes) k o b m (filter_shorter (λ change. not (is_of o change.object)) k.changes)
    (filter_shorter (λ change. nat_le (max k.begin (after_moment m)) change.moment) k.changes)

kept_of : (k : Kept) (marks : List Entry) (changes : List Change) → Holds k marks changes → length k.marks ≤ most → length k.changes ≤ most → IsKept k marks changes
kept_of k marks changes h p q = record {
  marks_are = h.marks_are;
  changes_are = h.changes_are;
  marks_fit = p;
  changes_fit = q;
  all_marks = h.all_marks;
  all_changes = h.all_changes;
  places = h.places;
}

-- one mark too many
narrowed_by_mark : (k : Kept) (marks : List Entry) (changes : List Change) → Holds k marks changes → length k.marks ≤ most + 1 → length k.changes ≤ most → 0 < length k.marks → IsKept (narrowed_marks k) marks changes
narrowed_by_mark k marks changes h p q some =
    let found = some_at k.marks 0 some in
    let first = mark_object found.0 in
    let least = least_marked k first in
    let stands = least_is (Stands mark_object k.marks) (activity k.marks k.changes) first (mark_objects k.marks) (stands_first mark_object k.marks found.0 found.1) (all_stand mark_object k.marks) in
    let only : Bool = only_marks least.0 k.marks in
    let middle : ℕ = middle_mark k.marks in
    let is : narrowed_marks k ≡ given_up k least.0 only middle = ap (λ (x : Option Entry). option_map_or (λ mark. narrowed_marks_of k (mark_object mark)) x k) found.1 in
    let holds = either (λ j. Holds j marks changes) k least.0 only middle (holds_without k least.0 marks changes (small_mark k.marks least h.all_marks stands) h) (holds_from k middle marks changes h) in
    let fewer = either (λ j. length j.marks < length k.marks) k least.0 only middle (fewer_marks_out k least stands) (fewer_marks_from k h.all_marks some) in
    subst (λ (j : Kept). IsKept j marks changes) (sym is)
    (kept_of (given_up k least.0 only middle) marks changes holds (omega (arith, fewer, p)) (omega (arith, shorter_changes k least.0 only middle, q)))

-- one change too many
narrowed_by_change : (k : Kept) (marks : List Entry) (changes : List Change) → Holds k marks changes → length k.marks ≤ most → length k.changes ≤ most + 1 → 0 < length k.changes → IsKept (narrowed_changes k) marks changes
narrowed_by_change k marks changes h p q some =
    let found = some_at k.changes 0 some in
    let first = found.0.object in
    let least = least_changed k first in
    let stands = least_is (Stands (λ change. change.object) k.changes) (activity k.marks k.changes) first (change_objects k.changes) (stands_first (λ change. change.object) k.changes found.0 found.1) (all_stand (λ change. change.object) k.changes) in
    let only : Bool = only_changes least.0 k.changes in
    let middle : ℕ = middle_change k.changes in
    let is : narrowed_changes k ≡ given_up k least.0 only middle = ap (λ (x : Option Change). option_map_or (λ change. narrowed_changes_of k change.object) x k) found.1 in
    let holds = either (λ j. Holds j marks changes) k least.0 only middle (holds_without k least.0 marks changes (small_change k.changes least h.all_changes stands) h) (holds_from k middle marks changes h) in
    let fewer = either (λ j. length j.changes < length k.changes) k least.0 only middle (fewer_changes_out k least stands) (fewer_changes_from k h.all_changes some) in
    subst (λ (j : Kept). IsKept j marks changes) (sym is)
    (kept_of (given_up k least.0 only middle) marks changes holds (omega (arith, shorter_marks k least.0 only middle, p)) (omega (arith, fewer, q)))

settled_by_mark : (k : Kept) (marks : List Entry) (changes : List Change) (b : Bool) → nat_lt most (length k.marks) ≡ b → Holds k marks changes → length k.marks ≤ most + 1 → length k.changes ≤ most
    → IsKept (cond b (narrowed_marks k) k) marks changes
settled_by_mark k marks changes true e h p q = narrowed_by_mark k marks changes h p q (omega (arith, ltb-true most (length k.marks) e))
settled_by_mark k marks changes false e h p q = kept_of k marks changes h (ltb-false most (length k.marks) e) q

settled_by_change : (k : Kept) (marks : List Entry) (changes : List Change) (b : Bool) → nat_lt most (length k.changes) ≡ b → Holds k marks changes → length k.marks ≤ most → length k.changes ≤ most + 1
    → IsKept (cond b (narrowed_changes k) k) marks changes
settled_by_change k marks changes true e h p q = narrowed_by_change k marks changes h p q (omega (arith, ltb-true most (length k.changes) e))
settled_by_change k marks changes false e h p q = kept_of k marks changes h p (ltb-false most (length k.changes) e)

-- ---- one more

one_filtered : {A : Type 0} (p : A → Bool) (xs : List A) (x : A) (b : Bool) → p x ≡ b → filter p (xs ++ x ∷ []) ≡ filter p xs ++ cond b (x ∷ []) []
one_filtered p xs x b e = filter-append p xs (x ∷ []) ∙ ap (λ (t : Bool). filter p xs ++ cond t (x ∷ []) []) e

mark_kept : (k : Kept) (marks : List Entry) (changes : List Change) (new : Entry) (b : Bool) → passes k (mark_object new).0 (mark_moment new) ≡ b → IsFitMark new → IsKept k marks changes
    → IsKept (cond b (settled_marks (record k { marks = k.marks ++ new ∷ [] })) k) (marks ++ new ∷ []) changes
mark_kept k marks changes new true e fit h =
    let pushed : Kept = record k { marks = k.marks ++ new ∷ [] } in
    let holds : Holds pushed (marks ++ new ∷ []) changes = record {
      marks_are = ap (λ (xs : List Entry). xs ++ new ∷ []) h.marks_are ∙ sym (one_filtered (λ mark. passes k (mark_object mark).0 (mark_moment mark)) marks new true e);
      changes_are = h.changes_are;
      all_marks = All-push IsFitMark k.marks new h.all_marks fit;
      all_changes = h.all_changes;
      places = h.places;
    } in
    settled_by_mark pushed (marks ++ new ∷ []) changes (nat_lt most (length pushed.marks)) refl holds (omega (arith, h.marks_fit, length-append k.marks (new ∷ []))) h.changes_fit
mark_kept k marks changes new false e fit h = record {
  marks_are = h.marks_are ∙ sym (one_filtered (λ mark. passes k (mark_object mark).0 (mark_moment mark)) marks new false e ∙ append-nil (filter (λ mark. passes k (mark_object mark).0 (mark_moment mark)) marks));
  changes_are = h.changes_are;
  marks_fit = h.marks_fit;
  changes_fit = h.changes_fit;
  all_marks = h.all_marks;
  all_changes = h.all_changes;
  places = h.places;
}

change_kept : (k : Kept) (marks : List Entry) (changes : List Change) (new : Change) (b : Bool) → passes k new.object.0 new.moment ≡ b → IsFitChange new → IsKept k marks changes
    → IsKept (cond b (settled_changes (record k { changes = k.changes ++ new ∷ [] })) k) marks (changes ++ new ∷ [])
change_kept k marks changes new true e fit h =
    let pushed : Kept = record k { changes = k.changes ++ new ∷ [] } in
    let holds : Holds pushed marks (changes ++ new ∷ []) = record {
      marks_are = h.marks_are;
      changes_are = ap (λ (xs : List Change). xs ++ new ∷ []) h.changes_are ∙ sym (one_filtered (λ change. passes k change.object.0 change.moment) changes new true e);
      all_marks = h.all_marks;
      all_changes = All-push IsFitChange k.changes new h.all_changes fit;
      places = h.places;
    } in
    settled_by_change pushed marks (changes ++ new ∷ []) (nat_lt most (length pushed.changes)) refl holds h.marks_fit (omega (arith, h.changes_fit, length-append k.changes (new ∷ [])))
change_kept k marks changes new false e fit h = record {
  marks_are = h.marks_are;
  changes_are = h.changes_are ∙ sym (one_filtered (λ change. passes k change.object.0 change.moment) changes new false e ∙ append-nil (filter (λ change. passes k change.object.0 change.moment) changes));
  marks_fit = h.marks_fit;
  changes_fit = h.changes_fit;
  all_marks = h.all_marks;
  all_changes = h.all_changes;
  places = h.places;
}

flags_there : length no_flags ≡ 65536
unfolding no_flags
flags_there = length-replicate 65536 false

pub keeps_them : KeepsThem
keeps_them = record {
  first = record {
    marks_are = refl;
    changes_are = refl;
    marks_fit = omega arith;
    changes_fit = omega arith;
    all_marks = All-nil IsFitMark;
    all_changes = All-nil IsFitChange;
    places = flags_there;
  };
  mark = λ k marks changes new fit h. mark_kept k marks changes new (passes k (mark_object new).0 (mark_moment new)) refl fit h;
  change = λ k marks changes new fit h. change_kept k marks changes new (passes k new.object.0 new.moment) refl fit h;
}
