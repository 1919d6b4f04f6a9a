-- Service blocks of one description, and the first that shares a host with one before it.
use Rattle.std.proofs.Common.{◌≡◌, ℕ, zero, suc, ◌+◌, ◌<◌, ◌≤◌, Bool, true, false, ◌||◌, List, [], ◌∷◌, ◌++◌, length, length-append, take, get_or, Some, None, refl, sym, ap, subst, eqb, eqb-true, eq-eqb, ⊎_elim, ◌∙◌, ◌⊎◌, inl, inr, arith}
use Rattle.std.specs.Prelude.{◌≢◌, All, AllPairs, Contains}
use Rattle.std.specs.List.{list_any}
use Rattle.std.specs.List.Sorted.{IsStrictlyIncreasing}
use Rattle.std.proofs.Math.Seq.{get_or-append_seam}
use Rattle.std.proofs.lemmas.Bool.{cases_lt, false≢true, or_left, or_right}
use Rattle.std.proofs.lemmas.List.{append-nil, get_or_append_left, take_more}
use Rattle.std.proofs.lemmas.List.Elements.{All-from_get_or, Contains-append_left, Contains-append_right, Contains-append_cases, Contains-get_or}
use Rattle.std.proofs.lemmas.List.Folds.{list_any-append}
use Rattle.std.proofs.lemmas.List.Kept.{AllPairs-from_increasing}
use Rattle.graph.specs.Reach.{Gains}
use Rattle.object_listing.specs.Laws.{ListedAreObjects}
use Rattle.object_listing.specs.claims.Listing.{host_directives}
use Rattle.object_groups.specs.claims.Objects.{names_in}
use Rattle.object_reader.specs.declared.block.Block.{Block}
use Rattle.object_reader.specs.declared.block.BlockKind.TheVariants.{Host}
use Rattle.object_services.specs.Alike.{HasSeen, is_among, SharesAmong}
use Rattle.object_services.specs.claims.Doubled.{place_of}
use Rattle.object_services.specs.claims.Hosts.{AreHosts, HasHost}
use Rattle.lemmas.proofs.Elements.{Contains-cases, Contains-here, Contains-later, Contains-none}
use Rattle.object_groups.specs.claims.First.{IsFirst}

-- ---- what some of a list pass

pub any-found : (p : ℕ → Bool) (xs : List ℕ) → list_any p xs ≡ true → (x : ℕ) × Contains xs x × (p x ≡ true)
any-found p [] any = absurd (false≢true any)
any-found p (x ∷ xs) any = by_head (any-found p xs) (p x) refl any
  where
    by_head : (list_any p xs ≡ true → (y : ℕ) × Contains xs y × (p y ≡ true)) → (b : Bool) → p x ≡ b → (b || list_any p xs) ≡ true → (y : ℕ) × Contains (x ∷ xs) y × (p y ≡ true)
    by_head rest true is here = (x, Contains-here x xs, is)
    by_head rest false is later = let more = rest later in (more.0, Contains-later x more.0 xs more.1, more.2)

pub any-from : (p : ℕ → Bool) (xs : List ℕ) (x : ℕ) → Contains xs x → p x ≡ true → list_any p xs ≡ true
any-from p [] x at is = absurd (Contains-none x at)
any-from p (y ∷ ys) x at is = by_head (λ later. any-from p ys x later is) (p y) refl (Contains-cases y x ys at)
  where
    by_head : (Contains ys x → list_any p ys ≡ true) → (b : Bool) → p y ≡ b → (y ≡ x) ⊎ Contains ys x → (b || list_any p ys) ≡ true
    by_head rest true passes either = refl
    by_head rest false fails (inl here) = absurd (false≢true (sym fails ∙ ap p here ∙ is))
    by_head rest false fails (inr later) = rest later

or_none : (a b : Bool) → b ≡ false → (a || b) ≡ a
or_none true b fails = refl
or_none false b fails = fails

same_truth : (a b : Bool) → (a ≡ true → b ≡ true) → (b ≡ true → a ≡ true) → a ≡ b
same_truth true b to from = sym (to refl)
same_truth false true to from = absurd (false≢true (from refl))
same_truth false false to from = refl

among-Contains : (hosts : List ℕ) (host : ℕ) → is_among hosts host ≡ true → Contains hosts host
among-Contains hosts host is = let found = any-found (eqb host) hosts is in subst (λ h. Contains hosts h) (sym (eqb-true host found.0 found.2)) found.1

Contains-among : (hosts : List ℕ) (host : ℕ) → Contains hosts host → is_among hosts host ≡ true
Contains-among hosts host at = any-from (eqb host) hosts host at (eq-eqb host host refl)

-- ---- a host that is found

module _ (old new : List ℕ) (host : ℕ) (gains : Gains old (host ∷ []) new) where
  pub found-more : (other : ℕ) → is_among new other ≡ (is_among old other || eqb other host)
  found-more other = same_truth (is_among new other) (is_among old other || eqb other host)
      (λ is. to (gains.only other (among-Contains new other is)))
      (λ either. Contains-among new other (from (is_among old other) refl either))
    where
      front : (k : ℕ) → Contains old k → Contains new k
      front k at = subst (λ ks. Contains ks k) (sym gains.front.1) (Contains-append_left old gains.front.0 k at)

      to : Contains old other ⊎ Contains (host ∷ []) other → (is_among old other || eqb other host) ≡ true
      to (inl before) = or_left (is_among old other) (eqb other host) (Contains-among old other before)
      to (inr one) = ⊎_elim
          (λ (here : host ≡ other). or_right (is_among old other) (eqb other host) (eq-eqb other host (sym here)))
          (λ (none : Contains [] other). absurd (Contains-none other none))
          (Contains-cases host other [] one)

      from : (b : Bool) → is_among old other ≡ b → (is_among old other || eqb other host) ≡ true → Contains new other
      from true is either = front other (among-Contains old other is)
      from false is either = subst (λ k. Contains new k) (sym (eqb-true other host (sym (ap (λ (b : Bool). b || eqb other host) is) ∙ either))) (gains.each host (Contains-here host []))

  -- nothing came exactly where it was found before
  pub again-is : AllPairs (λ p q. p ≢ q) new → eqb (length new) (length old) ≡ is_among old host
  again-is once = by_late gains.front.0 gains.front.1
    where
      by_late : (late : List ℕ) → new ≡ old ++ late → eqb (length new) (length old) ≡ is_among old host
      by_late [] is =
          let same : new ≡ old = is ∙ append-nil old in
          eq-eqb (length new) (length old) (ap (λ (ks : List ℕ). length ks) same)
          ∙ sym (Contains-among old host (subst (λ ks. Contains ks host) same (gains.each host (Contains-here host []))))
      by_late (x ∷ xs) is = same_truth (eqb (length new) (length old)) (is_among old host)
          (λ alike. absurd (let equal = eqb-true (length new) (length old) alike in omega (arith, equal, long)))
          (λ before. absurd (twice (⊎_elim
          (λ (there : Contains old x). there)
          (λ (one : Contains (host ∷ []) x). ⊎_elim
          (λ (here : host ≡ x). subst (λ k. Contains old k) here (among-Contains old host before))
          (λ (none : Contains [] x). absurd (Contains-none x none))
          (Contains-cases host x [] one))
          (gains.only x (subst (λ ks. Contains ks x) (sym is) (Contains-append_right old (x ∷ xs) x (Contains-here x xs)))))))
        where
          long : length new ≡ length old + suc (length xs)
          long = ap (λ (ks : List ℕ). length ks) is ∙ length-append old (x ∷ xs)

          twice : Contains old x → ⊥
          twice at = once at.0 (length old) x at.1 (omega (arith, long))
              (ap (λ (ks : List ℕ). get_or ks at.0 x) is ∙ get_or_append_left old (x ∷ xs) x at.0 at.1 ∙ at.2
              ∙ sym (ap (λ (ks : List ℕ). get_or ks (length old) x) is ∙ get_or-append_seam old x xs x))

-- Some hosts are found, none of which was found before.
pub record AreFound (old hosts new : List ℕ) : Type 0 where
  pub apart : list_any (is_among old) hosts ≡ false
  pub found : (host : ℕ) → is_among new host ≡ (is_among old host || is_among hosts host)

pub found-none : (old : List ℕ) → AreFound old [] old
found-none old = record { apart = refl; found = λ host. sym (or_none (is_among old host) false refl) }

-- ---- one number more

front-more : (ms : List ℕ) (i d k : ℕ) → i < length ms → Contains (take (i + 1) ms) k → Contains (take i ms) k ⊎ (get_or ms i d ≡ k)
front-more ms i d k within at = ⊎_elim
    (λ (front : Contains (take i ms) k). inl front)
    (λ (last : Contains (get_or ms i d ∷ []) k). ⊎_elim
    (λ (here : get_or ms i d ≡ k). inr here)
    (λ (none : Contains [] k). absurd (Contains-none k none))
    (Contains-cases (get_or ms i d) k [] last))
    (Contains-append_cases (take i ms) (get_or ms i d ∷ []) k (subst (λ ks. Contains ks k) (take_more ms i d within) at))

front-keeps : (ms : List ℕ) (i d k : ℕ) → i < length ms → Contains (take i ms) k → Contains (take (i + 1) ms) k
front-keeps ms i d k within at = subst (λ ks. Contains ks k) (sym (take_more ms i d within)) (Contains-append_left (take i ms) (get_or ms i d ∷ []) k at)

front-last : (ms : List ℕ) (i d : ℕ) → i < length ms → Contains (take (i + 1) ms) (get_or ms i d)
front-last ms i d within =
    subst (λ ks. Contains ks (get_or ms i d)) (sym (take_more ms i d within)) (Contains-append_right (take i ms) (get_or ms i d ∷ []) (get_or ms i d) (Contains-here (get_or ms i d) []))

-- what stands in the front is in the list
pub front-within : (i : ℕ) (ms : List ℕ) (k : ℕ) → Contains (take i ms) k → Contains ms k
front-within zero ms k at = absurd (Contains-none k at)
front-within (suc i) [] k at = absurd (Contains-none k at)
front-within (suc i) (m ∷ ms) k at = ⊎_elim
    (λ (here : m ≡ k). subst (λ x. Contains (m ∷ ms) x) here (Contains-here m ms))
    (λ (later : Contains (take i ms) k). Contains-later m k ms (front-within i ms k later))
    (Contains-cases m k (take i ms) at)

-- Of numbers that rise those in front of a place are those that are lower.
module _ (ms : List ℕ) (rising : AllPairs (λ m n. m < n) ms) (i d : ℕ) (within : i < length ms) where
  pub front-lower : (k : ℕ) → Contains (take i ms) k → k < get_or ms i d
  front-lower k at = by_place (at_front i ms k at)
    where
      by_place : (j : ℕ) × (j < i) × (j < length ms) × (get_or ms j d ≡ k) → k < get_or ms i d
      by_place place = subst (λ x. x < get_or ms i d) place.3 (rising place.0 i d place.1 within)

      at_front : (n : ℕ) (xs : List ℕ) (x : ℕ) → Contains (take n xs) x → (j : ℕ) × (j < n) × (j < length xs) × (get_or xs j d ≡ x)
      at_front zero xs x here = absurd (Contains-none x here)
      at_front (suc n) [] x here = absurd (Contains-none x here)
      at_front (suc n) (y ∷ ys) x here = ⊎_elim
          (λ (same : y ≡ x). (0, omega arith, omega arith, same))
          (λ (later : Contains (take n ys) x). let more = at_front n ys x later in (suc more.0, (let low = more.1 in omega (arith, low)), (let low = more.2 in omega (arith, low)), more.3))
          (Contains-cases y x (take n ys) here)

  pub lower-front : (k : ℕ) → Contains ms k → k < get_or ms i d → Contains (take i ms) k
  lower-front k at low = ⊎_elim
      (λ (early : at.0 < i). in_front i ms at.0 k early at.1 at.2)
      (λ (late : i ≤ at.0). absurd (⊎_elim
      (λ (past : i < at.0). let above = rising i at.0 d past at.1 in let is = read ms at.0 k d at.1 at.2 in omega (arith, above, is, low))
      (λ (same_or : at.0 ≤ i). let same : at.0 ≡ i = omega (arith, late, same_or) in let is = read ms at.0 k d at.1 at.2 in let here = ap (λ (j : ℕ). get_or ms j d) same in omega (arith, is, here, low))
      (cases_lt i at.0)))
      (cases_lt at.0 i)
    where
      in_front : (n : ℕ) (xs : List ℕ) (j x : ℕ) → j < n → j < length xs → get_or xs j x ≡ x → Contains (take n xs) x
      in_front zero xs j x low long is = absurd (omega (arith, low))
      in_front (suc n) [] j x low long is = absurd (omega (arith, long))
      in_front (suc n) (y ∷ ys) zero x low long is = subst (λ z. Contains (y ∷ take n ys) z) is (Contains-here y (take n ys))
      in_front (suc n) (y ∷ ys) (suc j) x low long is = Contains-later y x (take n ys) (in_front n ys j x (omega (arith, low)) (omega (arith, long)) is)

      read : (xs : List ℕ) (j x e : ℕ) → j < length xs → get_or xs j x ≡ x → get_or xs j e ≡ x
      read [] j x e long is = absurd (omega (arith, long))
      read (y ∷ ys) zero x e long is = is
      read (y ∷ ys) (suc j) x e long is = read ys j x e (omega (arith, long)) is

-- ---- a host more of those of a block

module _ (old now hosts : List ℕ) (rising : IsStrictlyIncreasing hosts) (i d : ℕ) (within : i < length hosts) (are : AreFound old (take i hosts) now) where
  -- it isn't one of those before it
  pub found-again : (again : Bool) → again ≡ is_among now (get_or hosts i d) → again ≡ is_among old (get_or hosts i d)
  found-again again is = is ∙ are.found (get_or hosts i d) ∙ or_none (is_among old (get_or hosts i d)) (is_among (take i hosts) (get_or hosts i d)) (new_here (is_among (take i hosts) (get_or hosts i d)) refl)
    where
      new_here : (b : Bool) → is_among (take i hosts) (get_or hosts i d) ≡ b → is_among (take i hosts) (get_or hosts i d) ≡ false
      new_here false is = is
      new_here true is = absurd (
          let low = front-lower hosts (AllPairs-from_increasing hosts rising) i d within (get_or hosts i d) (among-Contains (take i hosts) (get_or hosts i d) is) in omega (arith, low)
          )

  pub found-one_more : (new : List ℕ) → is_among old (get_or hosts i d) ≡ false → ((other : ℕ) → is_among new other ≡ (is_among now other || eqb other (get_or hosts i d)))
      → AreFound old (take (i + 1) hosts) new
  found-one_more new first more = record {
    apart = ap (list_any (is_among old)) (take_more hosts i d within) ∙ list_any-append (is_among old) (take i hosts) (get_or hosts i d ∷ [])
        ∙ ap (λ (b : Bool). b || (is_among old (get_or hosts i d) || false)) are.apart ∙ ap (λ (b : Bool). b || false) first;
    found = λ host.
        more host ∙ ap (λ (b : Bool). b || eqb host (get_or hosts i d)) (are.found host)
        ∙ joined (is_among old host) (is_among (take i hosts) host) (eqb host (get_or hosts i d))
        ∙ ap (λ (b : Bool). is_among old host || b) (sym (ap (λ (hs : List ℕ). is_among hs host) (take_more hosts i d within) ∙ list_any-append (eqb host) (take i hosts) (get_or hosts i d ∷ [])));
  }
    where
      joined : (a b c : Bool) → ((a || b) || c) ≡ (a || (b || (c || false)))
      joined true b c = refl
      joined false true c = refl
      joined false false true = refl
      joined false false false = refl

-- what a block lists are hosts
pub hosts-within : ListedAreObjects → (blocks : List Block) (place : ℕ) (hosts : List ℕ) (count : ℕ) → AreHosts blocks place hosts → count ≡ length (names_in blocks Host)
    → All (λ host. host < count) hosts
hosts-within law blocks place hosts count are is = subst (λ (n : ℕ). All (λ host. host < n) hosts) (sym is)
    (All-from_get_or (λ host. host < length (names_in blocks Host)) hosts 0
    (λ k low. law blocks host_directives place (get_or hosts k 0) ((are.exactly (get_or hosts k 0)).0 (Contains-get_or hosts k 0 low))))

-- ---- the blocks of one description so far

-- no two of them share a host
abbrev pub NoneShares : List Block → List ℕ → Type 0
NoneShares blocks numbers = (n : ℕ) → SharesAmong blocks numbers n → ⊥

-- of the first blocks none shares a host with one before it, and these are their hosts
pub record IsScanned (blocks : List Block) (numbers : List ℕ) (seen : ℕ → Bool) : Type 0 where
  pub apart : NoneShares blocks numbers
  pub has : HasSeen blocks numbers seen

pub scanned-none : (blocks : List Block) (seen : ℕ → Bool) → ((host : ℕ) → seen host ≡ false) → IsScanned blocks [] seen
scanned-none blocks seen none = record {
  apart = λ n shares. Contains-none n shares.0;
  has = λ host. ((λ is. absurd (false≢true (sym (none host) ∙ is))), (λ some. absurd (Contains-none some.0 some.1)));
}

module _ (blocks : List Block) (ms : List ℕ) (rising : AllPairs (λ m n. m < n) ms) (i d : ℕ) (within : i < length ms)
    (seen : ℕ → Bool) (scanned : IsScanned blocks (take i ms) seen) (hosts : List ℕ) (are : AreHosts blocks (place_of blocks (get_or ms i d)) hosts) where
  abbrev pub last : ℕ
  last = get_or ms i d

  -- the block shares a host with one before it
  pub shares-here : list_any seen hosts ≡ true → IsFirst (SharesAmong blocks ms) (Some last)
  shares-here any = (
    (Contains-last, (one.0, front-lower ms rising i d within one.0 one.1, front-within i ms one.0 one.1, (host.0, one.2, (are.exactly host.0).0 host.1))),
    (λ k early shares. scanned.apart k (
      lower-front ms rising i d within k shares.0 early,
      (shares.1.0, shares.1.1, lower-front ms rising i d within shares.1.0 shares.1.2 (let low = shares.1.1 in omega (arith, low, early)), shares.1.3),
    )),
  )
    where
      host : (h : ℕ) × Contains hosts h × (seen h ≡ true)
      host = any-found seen hosts any

      one : (n : ℕ) × Contains (take i ms) n × HasHost blocks (place_of blocks n) host.0
      one = (scanned.has host.0).0 host.2

      Contains-last : Contains ms last
      Contains-last = front-within (i + 1) ms last (front-last ms i d within)

  -- it shares none, and its hosts are added
  pub scanned-more : (new : ℕ → Bool) → list_any seen hosts ≡ false → ((host : ℕ) → new host ≡ (seen host || list_any (eqb host) hosts)) → IsScanned blocks (take (i + 1) ms) new
  scanned-more new none added = record {
    apart = λ n shares. ⊎_elim
        (λ (front : Contains (take i ms) n). before n front shares)
        (λ (here : last ≡ n). at_last n here shares)
        (front-more ms i d n within shares.0);
    has = λ host. (
      (λ is. to host (seen host) refl (sym (added host) ∙ is)),
      (λ some. added host ∙ from host some),
    );
  }
    where
      before : (n : ℕ) → Contains (take i ms) n → SharesAmong blocks (take (i + 1) ms) n → ⊥
      before n front shares = ⊎_elim
          (λ (early : Contains (take i ms) shares.1.0). scanned.apart n (front, (shares.1.0, shares.1.1, early, shares.1.3)))
          (λ (same : last ≡ shares.1.0). let low = front-lower ms rising i d within n front in let less = shares.1.1 in omega (arith, low, less, same))
          (front-more ms i d shares.1.0 within shares.1.2)

      at_last : (n : ℕ) → last ≡ n → SharesAmong blocks (take (i + 1) ms) n → ⊥
      at_last n here shares = ⊎_elim
          (λ (early : Contains (take i ms) shares.1.0). false≢true (sym none ∙ any-from seen hosts shares.1.3.0
          ((are.exactly shares.1.3.0).1 (subst (λ m. HasHost blocks (place_of blocks m) shares.1.3.0) (sym here) shares.1.3.2))
          ((scanned.has shares.1.3.0).1 (shares.1.0, early, shares.1.3.1))))
          (λ (same : last ≡ shares.1.0). let less = shares.1.1 in omega (arith, less, same, here))
          (front-more ms i d shares.1.0 within shares.1.2)

      to : (host : ℕ) (b : Bool) → seen host ≡ b → (seen host || list_any (eqb host) hosts) ≡ true → (n : ℕ) × Contains (take (i + 1) ms) n × HasHost blocks (place_of blocks n) host
      to host true is any = let old = (scanned.has host).0 is in (old.0, front-keeps ms i d old.0 within old.1, old.2)
      to host false is any =
          let found = any-found (eqb host) hosts (ap (λ (b : Bool). b || list_any (eqb host) hosts) (sym is) ∙ any) in
          let same : host ≡ found.0 = eqb-true host found.0 found.2 in
          (last, front-last ms i d within, (are.exactly host).0 (subst (λ h. Contains hosts h) (sym same) found.1))

      from : (host : ℕ) → (n : ℕ) × Contains (take (i + 1) ms) n × HasHost blocks (place_of blocks n) host → (seen host || list_any (eqb host) hosts) ≡ true
      from host some = ⊎_elim
          (λ (front : Contains (take i ms) some.0). ap (λ (b : Bool). b || list_any (eqb host) hosts) ((scanned.has host).1 (some.0, front, some.2)))
          (λ (here : last ≡ some.0). or_right (seen host) _ (any-from (eqb host) hosts host
          ((are.exactly host).1 (subst (λ m. HasHost blocks (place_of blocks m) host) (sym here) some.2)) (eq-eqb host host refl)))
          (front-more ms i d some.0 within some.1)

-- all were scanned
pub none-sharing : (blocks : List Block) (ms : List ℕ) (seen : ℕ → Bool) → IsScanned blocks ms seen → IsFirst (SharesAmong blocks ms) None
none-sharing blocks ms seen scanned = scanned.apart

-- a block alone shares nothing with one before it
pub alone-shares-none : (blocks : List Block) (ms : List ℕ) → length ms < 2 → IsFirst (SharesAmong blocks ms) None
alone-shares-none blocks [] few = λ n shares. Contains-none n shares.0
alone-shares-none blocks (m ∷ []) few = λ n shares. ⊎_elim
    (λ (here : m ≡ n). ⊎_elim
    (λ (same : m ≡ shares.1.0). let less = shares.1.1 in omega (arith, less, here, same))
    (λ (none : Contains [] shares.1.0). Contains-none shares.1.0 none)
    (Contains-cases m shares.1.0 [] shares.1.2))
    (λ (none : Contains [] n). Contains-none n none)
    (Contains-cases m n [] shares.0)
alone-shares-none blocks (m ∷ k ∷ ms) few = absurd (omega (arith, few))
