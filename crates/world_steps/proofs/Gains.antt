-- What a decider gains, restricted to one object: the object's gain where the decider owns it, and nothing where not.
use Rattle.std.proofs.Common.{◌≡◌, ◌≢◌, ℕ, zero, suc, ◌+◌, ◌%◌, ◌<◌, ◌≤◌, Bool, true, false, cond, ◌==◌, List, [], ◌∷◌, ◌++◌, length, filter, flat_map, drop, slice_get, All, Option, Some, None, refl, sym, ap, ◌∙◌, arith, eq-eqb, inl, inr}
use Rattle.std.specs.List.{range_with_len}
use Rattle.std.specs.Option.{option_map_or}
use Rattle.std.proofs.lemmas.Bool.{ne_eqb, eqb-true, cases_eq}
use Rattle.std.proofs.lemmas.List.{append-nil, drop_at}
use Rattle.std.proofs.lemmas.List.Elements.{All-nil, All-head, All-tail, All-append, All-drop, All-weaker, All-same, filter-append, filter_passes}
use Rattle.due_model.specs.declared.config.Config.{Config}
use Rattle.due_model.specs.declared.config.Object.{Object}
use Rattle.due_model.specs.declared.event.Event.{Event}
use Rattle.due_model.specs.declared.notice.Notice.{Notice}
use Rattle.due_model.specs.declared.zone.Zone.{Zone}
use Rattle.due_model.specs.claims.Due.{due_for, due_at}
use Rattle.due_laws.specs.Laws.{NoticesTellOfEvents, TellsOfEvent}
use Rattle.decider.specs.declared.share.Share.{Share}
use Rattle.decider.specs.claims.Decider.{gain, gained}
use Rattle.decider.specs.claims.Share.{is_owned, owned_numbers}
use Rattle.steps.specs.claims.Lanes.{about}

-- all of these are notices of object k
abbrev pub AreAbout : ℕ → List Notice → Type 0
AreAbout k notices = All (λ n. n.object.0 ≡ k) notices

-- those of object o among notices of object o
pub about_all : (o : ℕ) (ns : List Notice) → AreAbout o ns → about o ns ≡ ns
about_all o [] h = refl
about_all o (n ∷ ns) h =
    ap (λ b. cond b (n ∷ about o ns) (about o ns)) (eq-eqb n.object.0 o (All-head (λ (x : Notice). x.object.0 ≡ o) n ns h))
    ∙ ap (λ (rest : List Notice). n ∷ rest) (about_all o ns (All-tail (λ (x : Notice). x.object.0 ≡ o) n ns h))

-- there are none among notices of others
pub about_none : (o : ℕ) (ns : List Notice) → All (λ n. n.object.0 ≢ o) ns → about o ns ≡ []
about_none o [] h = refl
about_none o (n ∷ ns) h =
    ap (λ b. cond b (n ∷ about o ns) (about o ns)) (ne_eqb n.object.0 o (All-head (λ (x : Notice). x.object.0 ≢ o) n ns h))
    ∙ about_none o ns (All-tail (λ (x : Notice). x.object.0 ≢ o) n ns h)

about_other : (o k : ℕ) (ns : List Notice) → k ≢ o → AreAbout k ns → about o ns ≡ []
about_other o k ns ne h = about_none o ns (All-weaker (λ (x : Notice). x.object.0 ≡ k) (λ (x : Notice). x.object.0 ≢ o) (λ x e f. ne (sym e ∙ f)) ns h)

-- gains of many objects, one after another
module _ (g : ℕ → List Notice) (each : (k : ℕ) → AreAbout k (g k)) (p : ℕ → Bool) (o : ℕ) where
  abbrev found : List ℕ → List Notice
  found ks = about o (flat_map g (filter p ks))

  skip_other : (k : ℕ) (ks : List ℕ) → k ≢ o → found (k ∷ ks) ≡ found ks
  skip_other k ks ne = by_test (p k)
    where
      by_test : (b : Bool) → about o (flat_map g (cond b (k ∷ filter p ks) (filter p ks))) ≡ found ks
      by_test true = filter-append (λ (n : Notice). n.object.0 == o) (g k) (flat_map g (filter p ks)) ∙ ap (λ (front : List Notice). front ++ found ks) (about_other o k (g k) ne (each k))
      by_test false = refl

  none_below : (a n : ℕ) → o < a → found (range_with_len a n) ≡ []
  none_below a zero h = refl
  none_below a (suc n) h = skip_other a (range_with_len (a + 1) n) (λ e. absurd (omega arith)) ∙ none_below (a + 1) n (omega arith)

  none_owned : p o ≡ false → (ks : List ℕ) → found ks ≡ []
  none_owned foreign [] = refl
  none_owned foreign (k ∷ ks) = elim (cases_eq k o) [
    | inl e ↦ ap (λ b. about o (flat_map g (cond b (k ∷ filter p ks) (filter p ks)))) (ap p e ∙ foreign) ∙ none_owned foreign ks
    | inr ne ↦ skip_other k ks ne ∙ none_owned foreign ks
  ]

  one_owned : p o ≡ true → (a n : ℕ) → a ≤ o → o < a + n → found (range_with_len a n) ≡ g o
  one_owned mine a zero low high = absurd (omega arith)
  one_owned mine a (suc n) low high = elim (cases_eq a o) [
    | inl e ↦
        ap (λ b. about o (flat_map g (cond b (a ∷ filter p (range_with_len (a + 1) n)) (filter p (range_with_len (a + 1) n))))) (ap p e ∙ mine)
        ∙ filter-append (λ (m : Notice). m.object.0 == o) (g a) (flat_map g (filter p (range_with_len (a + 1) n)))
        ∙ ap (λ (rest : List Notice). about o (g a) ++ rest) (none_below (a + 1) n (omega arith))
        ∙ append-nil (about o (g a))
        ∙ ap (λ (k : ℕ). about o (g k)) e
        ∙ about_all o (g o) (each o)
    | inr ne ↦ skip_other a (range_with_len (a + 1) n) ne ∙ one_owned mine (a + 1) n (omega arith) (omega arith)
  ]

-- what an event adds for object k is about k
pub gain_is_about : NoticesTellOfEvents → (c : Config) (zone : Zone) (l : ℕ) (e : Event) (past : List Event) (k : ℕ) → AreAbout k (gain c zone l e past k)
gain_is_about law c zone l e past k = by_object (slice_get c.objects k) (law c zone k l (e ∷ past))
  where
    by_object : (found : Option Object) → All (TellsOfEvent (e ∷ past) k l) (elim found as (λ _. List Notice) [ None ↦ [] | Some object ↦ due_for c zone k object l (e ∷ past) ])
        → AreAbout k (option_map_or (λ object. due_at c zone k object l e past) found [])
    by_object None h = All-nil (λ (n : Notice). n.object.0 ≡ k)
    by_object (Some object) h =
        let before = due_for c zone k object l past in
        let new = due_at c zone k object l e past in
        All-weaker (TellsOfEvent (e ∷ past) k l) (λ (n : Notice). n.object.0 ≡ k) (λ n t. t.object) new
        (All-same (TellsOfEvent (e ∷ past) k l) new (drop (length before) (before ++ new)) (sym (drop_at before new (length before) refl))
        (All-drop (TellsOfEvent (e ∷ past) k l) (length before) (before ++ new) h))

-- what is gained of an share object
pub gained_owned : NoticesTellOfEvents → (c : Config) (zone : Zone) (share : Share) (l : ℕ) (e : Event) (past : List Event) (o : ℕ)
    → is_owned share o ≡ true → o < length c.objects → about o (gained c zone share l e past) ≡ gain c zone l e past o
gained_owned law c zone share l e past o mine h =
    one_owned (gain c zone l e past) (gain_is_about law c zone l e past) (is_owned share) o mine 0 (length c.objects) (omega arith) (omega (arith, h))

-- and of one that isn't
pub gained_other : NoticesTellOfEvents → (c : Config) (zone : Zone) (share : Share) (l : ℕ) (e : Event) (past : List Event) (o : ℕ)
    → is_owned share o ≡ false → about o (gained c zone share l e past) ≡ []
gained_other law c zone share l e past o foreign =
    none_owned (gain c zone l e past) (gain_is_about law c zone l e past) (is_owned share) o foreign (range_with_len 0 (length c.objects))

All-flat : {X A : Type 0} (Q : A → Type 0) (f : X → List A) (P : X → Type 0) → ((x : X) → P x → All Q (f x)) → (xs : List X) → All P xs → All Q (flat_map f xs)
All-flat Q f P give [] h = All-nil Q
All-flat Q f P give (x ∷ xs) h = All-append Q (f x) (flat_map f xs) (give x (All-head P x xs h)) (All-flat Q f P give xs (All-tail P x xs h))

-- each gained notice is of an object that is share
pub gained_is_owned : NoticesTellOfEvents → (c : Config) (zone : Zone) (share : Share) (l : ℕ) (e : Event) (past : List Event)
    → All (λ n. n.object.0 % share.deciders ≡ share.decider) (gained c zone share l e past)
gained_is_owned law c zone share l e past =
    All-flat (λ (n : Notice). n.object.0 % share.deciders ≡ share.decider) (gain c zone l e past) (λ k. is_owned share k ≡ true)
    (λ k mine. All-weaker (λ (n : Notice). n.object.0 ≡ k) (λ (n : Notice). n.object.0 % share.deciders ≡ share.decider)
    (λ n same. ap (λ (m : ℕ). m % share.deciders) same ∙ eqb-true (k % share.deciders) share.decider mine) (gain c zone l e past k) (gain_is_about law c zone l e past k))
    (owned_numbers share (length c.objects)) (filter_passes (is_owned share) (range_with_len 0 (length c.objects)))
