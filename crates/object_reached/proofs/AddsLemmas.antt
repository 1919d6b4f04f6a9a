-- Numbers that come to numbers: those of one thing, and of one thing more.
use Rattle.std.proofs.Common.{◌≡◌, ℕ, zero, suc, ◌<◌, ◌≤◌, ◌+◌, Bool, true, false, cond, List, [], ◌∷◌, ◌++◌, length, filter, take, get_or, Option, None, Some, refl, sym, ap, subst, ◌∙◌, ◌⊎◌, inl, inr, ⊎_elim, arith}
use Rattle.std.specs.Prelude.{All, Contains, slice_get, ◌↔◌}
use Rattle.std.specs.List.{range_with_len}
use Rattle.std.specs.Option.{option_to_list}
use Rattle.std.proofs.lemmas.List.{append_assoc, append-nil, get_or-map, length-map, take_more}
use Rattle.std.proofs.lemmas.List.Elements.{All-contains, Contains-append_left, Contains-append_right, Contains-append_cases, filter-append}
use Rattle.std.proofs.lemmas.Option.{get_or_from_slice_get, slice_get_past, slice_get-get_or}
use Rattle.lemmas.proofs.Elements.{at-Contains, Contains-cases, Contains-filter, Contains-from_filter, Contains-here, Contains-none, Contains-range}
use Rattle.object_reached.specs.claims.Listed.{is_named}
use Rattle.object_reached.specs.Listed.{is_named_at, IsNthOn, IsOn, OfSome}
use Rattle.object_reached.specs.Services.{hosts_in, services_on}
use Rattle.object_reached.proofs.ServiceLemmas.{on-exactly}
use Rattle.object_listing.specs.Listing.{Adds}
use Rattle.object_services.specs.claims.Numbers.{Pair}

-- ---- of one thing more

pub adds-none : {X : Type 0} (member : X → ℕ → Type 0) (numbers : List ℕ) → Adds (OfSome member []) numbers numbers
adds-none {X} member numbers k = ((λ at. inl at), from)
  where
    from : Contains numbers k ⊎ OfSome member [] k → Contains numbers k
    from (inl before) = before
    from (inr some) = absurd (Contains-none some.0 some.1)

pub adds-next : {X : Type 0} (member : X → ℕ → Type 0) (xs ys : List X) (x : X) (first old new : List ℕ) → ys ≡ xs ++ x ∷ []
    → Adds (OfSome member xs) first old → Adds (member x) old new → Adds (OfSome member ys) first new
adds-next {X} member xs ys x first old new more before added k = (
  (λ at. ⊎_elim earlier (λ (here : member x k). inr (x, last, here)) ((added k).0 at)),
  from,
)
  where
    last : Contains ys x
    last = subst (λ zs. Contains zs x) (sym more) (Contains-append_right xs (x ∷ []) x (Contains-here x []))

    earlier : Contains old k → Contains first k ⊎ OfSome member ys k
    earlier at = ⊎_elim (λ (start : Contains first k). inl start)
        (λ (some : OfSome member xs k). inr (some.0, subst (λ zs. Contains zs some.0) (sym more) (Contains-append_left xs (x ∷ []) some.0 some.1), some.2))
        ((before k).0 at)

    of_last : (z : X) → member z k → Contains xs z ⊎ Contains (x ∷ []) z → Contains new k
    of_last z here (inl in_front) = (added k).1 (inl ((before k).1 (inr (z, in_front, here))))
    of_last z here (inr at_end) = ⊎_elim
        (λ (same : x ≡ z). (added k).1 (inr (subst (λ w. member w k) (sym same) here)))
        (λ (none : Contains [] z). absurd (Contains-none z none))
        (Contains-cases x z [] at_end)

    from : Contains first k ⊎ OfSome member ys k → Contains new k
    from (inl start) = (added k).1 (inl ((before k).1 (inl start)))
    from (inr some) = of_last some.0 some.2 (Contains-append_cases xs (x ∷ []) some.0 (subst (λ zs. Contains zs some.0) more some.1))

-- the same of a thing that is known by an equation
pub adds-of_one : {X : Type 0} (member : X → ℕ → Type 0) (x : X) (old new : List ℕ) → Adds (λ k. (z : X) × (z ≡ x) × member z k) old new → Adds (member x) old new
adds-of_one {X} member x old new added k = (
  (λ at. ⊎_elim (λ (before : Contains old k). inl before) (λ (some : (z : X) × (z ≡ x) × member z k). inr (subst (λ w. member w k) some.1 some.2)) ((added k).0 at)),
  (λ either. (added k).1 (⊎_elim (λ (before : Contains old k). inl before) (λ (here : member x k). inr (x, refl, here)) either)),
)

-- ---- of one that passes

pub passes : (p : ℕ → Bool) (old new : List ℕ) (x : ℕ) → p x ≡ true → new ≡ old ++ x ∷ [] → new ≡ old ++ filter p (x ∷ [])
passes p old new x is more = more ∙ ap (λ (b : Bool). old ++ cond b (x ∷ []) []) (sym is)

pub stays-out : (p : ℕ → Bool) (old : List ℕ) (x : ℕ) → p x ≡ false → old ≡ old ++ filter p (x ∷ [])
stays-out p old x is = sym (append-nil old) ∙ ap (λ (b : Bool). old ++ cond b (x ∷ []) []) (sym is)

pub passed-more : (p : ℕ → Bool) (first old new xs : List ℕ) (i d : ℕ) → i < length xs → old ≡ first ++ filter p (take i xs) → new ≡ old ++ filter p (get_or xs i d ∷ [])
    → new ≡ first ++ filter p (take (i + 1) xs)
passed-more p first old new xs i d low before more =
    let x = get_or xs i d in
    more ∙ ap (λ (ns : List ℕ). ns ++ filter p (x ∷ [])) before ∙ append_assoc first (filter p (take i xs)) (filter p (x ∷ []))
    ∙ ap (λ (ns : List ℕ). first ++ ns) (sym (ap (filter p) (take_more xs i d low) ∙ filter-append p (take i xs) (x ∷ [])))

pub passed-at : (p : ℕ → Bool) (old new xs on : List ℕ) (i d : ℕ) → i < length on → on ≡ xs → new ≡ old ++ filter p (get_or on i d ∷ [])
    → new ≡ old ++ filter p (option_to_list (slice_get xs i))
passed-at p old new xs on i d low same more =
    more ∙ ap (λ (found : Option ℕ). old ++ filter p (option_to_list found)) (sym (ap (λ (l : List ℕ). slice_get l i) (sym same) ∙ slice_get-get_or on i d low))

pub passed-none : (p : ℕ → Bool) (old xs on : List ℕ) (i : ℕ) → length on ≤ i → on ≡ xs → old ≡ old ++ filter p (option_to_list (slice_get xs i))
passed-none p old xs on i past same =
    sym (append-nil old) ∙ ap (λ (found : Option ℕ). old ++ filter p (option_to_list found)) (sym (ap (λ (l : List ℕ). slice_get l i) (sym same) ∙ slice_get_past on i past))

-- ---- of one list more

pub adds-list : {X : Type 0} (member : X → ℕ → Type 0) (x : X) (old members pushed new : List ℕ) → ((k : ℕ) → Contains members k ↔ member x k) → pushed ≡ old ++ members
    → ((k : ℕ) → Contains new k ↔ Contains pushed k) → Adds (λ k. (z : X) × (z ≡ x) × member z k) old new
adds-list {X} member x old members pushed new are is same k = (
  (λ at. ⊎_elim (λ (before : Contains old k). inl before) (λ (here : Contains members k). inr (x, refl, (are k).0 here))
      (Contains-append_cases old members k (subst (λ ns. Contains ns k) is ((same k).0 at)))),
  (λ either. (same k).1 (subst (λ ns. Contains ns k) (sym is) (from either))),
)
  where
    from : Contains old k ⊎ ((z : X) × (z ≡ x) × member z k) → Contains (old ++ members) k
    from (inl before) = Contains-append_left old members k before
    from (inr some) = Contains-append_right old members k ((are k).1 (subst (λ w. member w k) some.1 some.2))

-- ---- the services of a host

pub place-there : (xs : List Pair) (k : ℕ) (x : Pair) → slice_get xs k ≡ Some x → k < length xs
place-there [] k x is = cc
place-there (y ∷ ys) zero x is = omega arith
place-there (y ∷ ys) (suc k) x is = let rest = place-there ys k x is in omega (arith, rest)

host-read : (services : List Pair) (k : ℕ) → k < length services → get_or (hosts_in services) k 0 ≡ (get_or services k (0, [])).0
host-read services k low = get_or-map (λ service. service.0) services k (0, []) 0 low

pub adds-host : (services : List Pair) (entries : List (List ℕ)) (host : ℕ) (ends old new : List ℕ)
    → ((service : ℕ) → Contains ends service ↔ ((service < length (hosts_in services)) × (get_or (hosts_in services) service 0 ≡ host)))
    → new ≡ old ++ filter (is_named_at services entries) ends → Adds (IsOn services entries host) old new
adds-host services entries host ends old new are is k = (
  (λ at. ⊎_elim (λ (before : Contains old k). inl before) (λ (here : Contains (filter test ends) k). inr (to here))
      (Contains-append_cases old (filter test ends) k (subst (λ ns. Contains ns k) is at))),
  (λ either. subst (λ ns. Contains ns k) (sym is) (from either)),
)
  where
    test : ℕ → Bool
    test = is_named_at services entries

    long : length (hosts_in services) ≡ length services
    long = length-map services (λ service. service.0)

    to : Contains (filter test ends) k → IsOn services entries host k
    to here =
        let on = Contains-from_filter test ends k here in
        let both = (are k).0 on.0 in
        let first = both.0 in
        let low : k < length services = omega (arith, first, long) in
        let head : (get_or services k (0, [])).0 ≡ host = sym (host-read services k low) ∙ both.1 in
        ((get_or services k (0, [])).1, slice_get-get_or services k (0, []) low ∙ ap (λ (h : ℕ). Some (h, (get_or services k (0, [])).1)) head, on.1)

    from : Contains old k ⊎ IsOn services entries host k → Contains (old ++ filter test ends) k
    from (inl before) = Contains-append_left old (filter test ends) k before
    from (inr (description, there, named)) =
        let low = place-there services k (host, description) there in
        let read : get_or services k (0, []) ≡ (host, description) = get_or_from_slice_get services k (host, description) (0, []) there in
        Contains-append_right old (filter test ends) k (Contains-filter test ends k
        ((are k).1 (omega (arith, low, long), host-read services k low ∙ ap (λ (p : Pair). p.0) read))
        (ap (λ (p : Pair). is_named entries p.1) read ∙ named))

-- ---- the services of hosts, by turns

-- that at one place of a host
pub adds-nth : (services : List Pair) (entries : List (List ℕ)) (turn host : ℕ) (old new : List ℕ)
    → new ≡ old ++ filter (is_named_at services entries) (option_to_list (slice_get (services_on services host) turn))
    → Adds (IsNthOn services entries turn host) old new
adds-nth services entries turn host old new is k = (
  (λ at. ⊎_elim (λ (before : Contains old k). inl before) (λ (here : Contains (filter test (option_to_list nth)) k). inr (to here))
      (Contains-append_cases old (filter test (option_to_list nth)) k (subst (λ ns. Contains ns k) is at))),
  (λ either. subst (λ ns. Contains ns k) (sym is) (from either)),
)
  where
    nth : Option ℕ
    nth = slice_get (services_on services host) turn

    test : ℕ → Bool
    test = is_named_at services entries

    only : (found : Option ℕ) → Contains (option_to_list found) k → found ≡ Some k
    only None at = absurd (Contains-none k at)
    only (Some x) at = ⊎_elim (λ (same : x ≡ k). ap (λ (y : ℕ). Some y) same) (λ (none : Contains [] k). absurd (Contains-none k none)) (Contains-cases x k [] at)

    to : Contains (filter test (option_to_list nth)) k → IsNthOn services entries turn host k
    to here = let on = Contains-from_filter test (option_to_list nth) k here in (only nth on.0, on.1)

    from : Contains old k ⊎ IsNthOn services entries turn host k → Contains (old ++ filter test (option_to_list nth)) k
    from (inl before) = Contains-append_left old (filter test (option_to_list nth)) k before
    from (inr (is_nth, named)) = Contains-append_right old (filter test (option_to_list nth)) k
        (Contains-filter test (option_to_list nth) k (subst (λ (found : Option ℕ). Contains (option_to_list found) k) (sym is_nth) (Contains-here k [])) named)

-- those of as many turns as the longest list has
pub adds-by_turns : (services : List Pair) (entries : List (List ℕ)) (hosts : List ℕ) (turns : ℕ) (old new : List ℕ)
    → All (λ host. length (services_on services host) ≤ turns) hosts
    → Adds (OfSome (λ turn. OfSome (IsNthOn services entries turn) hosts) (range_with_len 0 turns)) old new → Adds (OfSome (IsOn services entries) hosts) old new
adds-by_turns services entries hosts turns old new long added k = (
  (λ at. ⊎_elim (λ (before : Contains old k). inl before) (λ (some : OfSome (λ turn. OfSome (IsNthOn services entries turn) hosts) (range_with_len 0 turns) k). inr (to some.0 some.2)) ((added k).0 at)),
  (λ either. (added k).1 (⊎_elim (λ (before : Contains old k). inl before) (λ (some : OfSome (IsOn services entries) hosts k). inr (from some.0 some.1 some.2)) either)),
)
  where
    to : (turn : ℕ) → OfSome (IsNthOn services entries turn) hosts k → OfSome (IsOn services entries) hosts k
    to turn (host, there, (nth, named)) =
        let both = (on-exactly services host k).0 (at-Contains (services_on services host) turn k nth) in
        let same = length-map services (λ service. service.0) in
        let first = both.0 in
        let low : k < length services = omega (arith, first, same) in
        let head : (get_or services k (0, [])).0 ≡ host = sym (host-read services k low) ∙ both.1 in
        (host, there, ((get_or services k (0, [])).1, slice_get-get_or services k (0, []) low ∙ ap (λ (h : ℕ). Some (h, (get_or services k (0, [])).1)) head, named))

    from : (host : ℕ) → Contains hosts host → IsOn services entries host k → OfSome (λ turn. OfSome (IsNthOn services entries turn) hosts) (range_with_len 0 turns) k
    from host there (description, here, named) =
        let low = place-there services k (host, description) here in
        let read : get_or services k (0, []) ≡ (host, description) = get_or_from_slice_get services k (host, description) (0, []) here in
        let same = length-map services (λ service. service.0) in
        let at = (on-exactly services host k).1 (omega (arith, low, same), host-read services k low ∙ ap (λ (p : Pair). p.0) read) in
        let few : length (services_on services host) ≤ turns = All-contains (λ h. length (services_on services h) ≤ turns) hosts host long there in
        let within = at.1 in (
          at.0,
          Contains-range turns at.0 (omega (arith, within, few)),
          (
            host,
            there,
            (slice_get-get_or (services_on services host) at.0 k within ∙ ap (λ (s : ℕ). Some s) at.2, ap (λ (p : Pair). is_named entries p.1) read ∙ named),
          ),
        )
