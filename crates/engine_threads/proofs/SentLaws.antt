-- What the intake has sent.
use Rattle.std.proofs.Common.{◌≡◌, ℕ, ◌<◌, ◌≤◌, ◌+◌, List, [], ◌∷◌, ◌++◌, length, set, slice_get, get_or, take, reverse, Some, refl, sym, ap, ◌∙◌, subst, ⊎_elim, arith}
use Rattle.std.specs.declared.alloc.Global.{Global}
use Rattle.std.proofs.lemmas.Bool.{cases_eq}
use Rattle.std.proofs.lemmas.Option.{same_Some, slice_get_within, slice_get-get_or}
use Rattle.std.proofs.lemmas.List.{reverse-append, take_more}
use Rattle.due_model.specs.declared.event.Event.{Event}
use Rattle.decider_thread.specs.Decided.{heard}
use Rattle.decider_thread.specs.declared.Signal.TheVariants.{Decides}
use Rattle.rtrb.specs.declared.AnyItems.{AnyItems}
use Rattle.rtrb.specs.declared.producer.Producer.{Producer}
use Rattle.rtrb.specs.declared.consumer.Consumer.{Consumer}
use Rattle.rtrb.specs.Ring.{IsPair, SameConsumer, SameProducer, sent}
use Rattle.decider_thread.specs.declared.Signal.{Signal}
use Rattle.engine_threads.specs.Sent.{AreSame, HaveSent}
use Rattle.engine_threads.specs.ListLaws.{set_other, set_same}

pub same_self : (p : Producer Signal Global AnyItems) → SameProducer p p
same_self p = ((refl, refl, refl, refl), refl)

pub same_then : (a b c : Producer Signal Global AnyItems) → SameProducer a b → SameProducer b c → SameProducer a c
same_then a b c one two = ((two.0.0 ∙ one.0.0, two.0.1 ∙ one.0.1, two.0.2 ∙ one.0.2, two.0.3 ∙ one.0.3), two.1 ∙ one.1)

-- of the rings before this place each has been sent a signal more
pub record SentAt (signal : Signal) (place d : ℕ) (o p : Producer Signal Global AnyItems) : Type 0 where
  pub ring : SameProducer o p
  pub done : d < place → sent p ≡ sent o ++ signal ∷ []
  pub left : place ≤ d → sent p ≡ sent o

abbrev pub SentBelow : Signal → (place : ℕ) → (old new : List (Producer Signal Global AnyItems)) → Type 0
SentBelow signal place old new =
    (d : ℕ) (o p : Producer Signal Global AnyItems) → slice_get old d ≡ Some o → slice_get new d ≡ Some p → SentAt signal place d o p

pub sent_none : (signal : Signal) (rings : List (Producer Signal Global AnyItems)) → SentBelow signal 0 rings rings
sent_none signal rings d o p at_old at_new =
    let same : o ≡ p = same_Some o p (sym at_old ∙ at_new) in record {
      ring = subst (λ (q : Producer Signal Global AnyItems). SameProducer o q) same (same_self o);
      done = λ lt. absurd (omega (arith, lt));
      left = λ _. ap (λ (q : Producer Signal Global AnyItems). sent q) (sym same);
    }

pub sent_one : (signal : Signal) (place : ℕ) (old rings : List (Producer Signal Global AnyItems)) (r r' : Producer Signal Global AnyItems) → slice_get rings place ≡ Some r
    → SameProducer r r' → sent r' ≡ sent r ++ signal ∷ [] → SentBelow signal place old rings → SentBelow signal (place + 1) old (set rings place r')
sent_one signal place old rings r r' at same more below d o p at_old at_new = ⊎_elim
    (λ (is : d ≡ place).
    let there : slice_get (set rings place r') place ≡ Some p = subst (λ (m : ℕ). slice_get (set rings place r') m ≡ Some p) is at_new in
    let it : r' ≡ p = same_Some r' p (sym (set_same rings place r' (slice_get_within rings place r at)) ∙ there) in
    let was = below d o r at_old (subst (λ (m : ℕ). slice_get rings m ≡ Some r) (sym is) at) in
    subst (λ (q : Producer Signal Global AnyItems). SentAt signal (place + 1) d o q) it (record {
      ring = same_then o r r' was.ring same;
      done = λ _. more ∙ ap (λ (ss : List Signal). ss ++ signal ∷ []) (was.left (omega (arith, is)));
      left = λ le. absurd (omega (arith, le, is));
    }))
    (λ (apart : ¬ (d ≡ place)).
    let was = below d o p at_old (sym (set_other rings place d r' apart) ∙ at_new) in record {
      ring = was.ring;
      done = λ lt. was.done (omega (arith, lt, apart));
      left = λ le. was.left (omega (arith, le));
    })
    (cases_eq d place)

-- what stands at a place that another list of the same length has
pub there : {X : Type 0} (old new : List X) (d : ℕ) (p : X) → length new ≡ length old → slice_get new d ≡ Some p → slice_get old d ≡ Some (get_or old d p)
there old new d p same at = slice_get-get_or old d p (subst (λ n. d < n) same (slice_get_within new d p at))

pub same_all : (a b c : List (Producer Signal Global AnyItems)) → length c ≡ length b → AreSame a b → AreSame b c → AreSame a c
same_all a b c long one two d o p at_a at_c =
    let m = get_or b d p in
    let at_b = there b c d p long at_c in
    same_then o m p (one d o m at_a at_b) (two d m p at_b at_c)

pub same_after : (signal : Signal) (place : ℕ) (old new : List (Producer Signal Global AnyItems)) → SentBelow signal place old new → AreSame old new
same_after signal place old new below d o p at_old at_new = (below d o p at_old at_new).ring

pub sent_after : (signal : Signal) (place : ℕ) (old new : List (Producer Signal Global AnyItems)) (signals : List Signal) → length new ≡ length old → length new ≤ place → SentBelow signal place old new → HaveSent signals old → HaveSent (signals ++ signal ∷ []) new
sent_after signal place old new signals long whole below have d p at =
    let o = get_or old d p in
    let at_old = there old new d p long at in
    let within = slice_get_within new d p at in
    (below d o p at_old at).done (omega (arith, within, whole)) ∙ ap (λ (ss : List Signal). ss ++ signal ∷ []) (have d o at_old)

-- one event more was heard
pub heard_more : (events : List Event) (i : ℕ) (e : Event) → i < length events → heard (reverse (take (i + 1) events)) ≡ heard (reverse (take i events)) ++ Decides (get_or events i e) ∷ []
heard_more events i e below = ap (λ (es : List Event). heard (reverse es)) (take_more events i e below) ∙ ap heard (reverse-append (take i events) (get_or events i e ∷ []))

-- two ends of one ring stay so
pub pair_still : (p q : Producer Signal Global AnyItems) (a b : Consumer Signal Global AnyItems) → IsPair p a → SameProducer p q → SameConsumer a b → IsPair q b
pair_still p q a b pair one two = (
  two.0.0 ∙ pair.0 ∙ sym one.0.0,
  two.0.1 ∙ pair.1 ∙ sym one.0.1,
  two.0.2 ∙ pair.2 ∙ sym one.0.2,
  two.0.3 ∙ pair.3 ∙ sym one.0.3,
)

-- one event more was given
pub heard_given : (events : List Event) (e : Event) → heard (reverse (events ++ e ∷ [])) ≡ heard (reverse events) ++ Decides e ∷ []
heard_given events e = ap heard (reverse-append events (e ∷ []))

pub same_list : (rings : List (Producer Signal Global AnyItems)) → AreSame rings rings
same_list rings d o p at_o at_p = subst (λ (q : Producer Signal Global AnyItems). SameProducer o q) (same_Some o p (sym at_o ∙ at_p)) (same_self o)
