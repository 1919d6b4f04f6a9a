-- The first block that names a service which no service block gives: description by description, and role by role.
use Rattle.std.proofs.Common.{◌≡◌, ℕ, zero, suc, ◌+◌, ◌<◌, ◌≤◌, Bool, true, false, List, [], length, take, get_or, replicate, Option, Some, None, refl, sym, ap, subst, eqb-true, eq-eqb, ⊎_elim, ◌∙◌, ◌⊎◌, inl, inr, arith, cond, lt-ltb, ltb-true, leb-true, leb-false}
use Rattle.std.specs.Prelude.{Contains, nat_le, nat_lt}
use Rattle.std.proofs.lemmas.Bool.{cases_lt, false≢true}
use Rattle.std.proofs.lemmas.List.{length-replicate}
use Rattle.lemmas.proofs.Elements.{Contains-none}
use Rattle.object_groups.specs.claims.First.{IsFirst}
use Rattle.object_groups.specs.First.{lower}
use Rattle.object_groups.specs.FirstLaws.{first-either, first-lower, first-same}
use Rattle.object_groups.specs.claims.Objects.{names_in}
use Rattle.object_listing.specs.Laws.{ListedAreObjects}
use Rattle.object_listing.specs.claims.Listing.{host_directives}
use Rattle.object_pairs.specs.claims.Members.{HasService}
use Rattle.object_reached.specs.declared.roles.Role.{Role}
use Rattle.object_reached.specs.declared.roles.Role.TheVariants.{Escalated, Master, Dependent}
use Rattle.object_reader.specs.declared.block.Block.{Block}
use Rattle.object_reader.specs.declared.block.BlockKind.TheVariants.{Host, Service}
use Rattle.object_services.specs.claims.Doubled.{description_of, place_of}
use Rattle.object_services.specs.claims.Hosts.{HasHost}
use Rattle.object_reached.specs.AlikeLaws.{listed-alike}
use Rattle.object_reached.specs.claims.Roles.{directives_of}
use Rattle.object_unknown_services.specs.declared.keys.Namers.{Namers}
use Rattle.object_unknown_services.specs.Distinct.{AreNamers, AreSame}
use Rattle.object_unknown_services.specs.Keys.{AreByKey, GivesKey, key_of, NamesKey}
use Rattle.object_unknown_services.specs.Stamps.{AreBelow, is_stamped, IsHostOf, Stamped}
use Rattle.object_unknown_services.specs.claims.Unknown.{HasUnknownService}
use Rattle.object_unknown_services.specs.Unknown.{HasUnknownBelow, HasUnknownIn, HasUnknownOf, is_before, LacksAmong, LacksIn}
use Rattle.object_unknown_services.proofs.KeyLemmas.{key-within, same-key}
use Rattle.object_unknown_services.proofs.NamedLemmas.{named-from, named-to}
use Rattle.object_unknown_services.proofs.StampLemmas.{more-cases, more-keeps, more-last}

-- the first of those of which one that doesn't come later is looked at
first-earlier : (P Q : ℕ → Type 0) (found : Option ℕ) → ((at : ℕ) → P at → Q at) → ((at : ℕ) → Q at → (early : ℕ) × (early ≤ at) × P early) → IsFirst P found → IsFirst Q found
first-earlier P Q None to from is = λ at q. let early = from at q in is early.0 early.2
first-earlier P Q (Some place) to from is = (
  to place is.0,
  (λ k before q. let early = from k q in let low = early.1 in is.1 early.0 (omega (arith, low, before)) early.2),
)

-- what is found before the first that was found
pub first-cut : (P Q : ℕ → Type 0) (first found : Option ℕ) → IsFirst P first → IsFirst (λ at. (is_before first at ≡ true) × Q at) found → IsFirst (λ at. P at ⊎ Q at) (lower first found)
first-cut P Q None found fp fq = first-lower P Q None found fp (first-same (λ at. (true ≡ true) × Q at) Q found (λ at both. both.1) (λ at q. (refl, q)) fq)
first-cut P Q (Some one) found fp fq = cut (lower (Some one) found) (first-lower P (λ at. (nat_lt at one ≡ true) × Q at) (Some one) found fp fq)
  where
    cut : (next : Option ℕ) → IsFirst (λ at. P at ⊎ ((nat_lt at one ≡ true) × Q at)) next → IsFirst (λ at. P at ⊎ Q at) next
    cut None none = absurd (none one (inl fp.0))
    cut (Some other) is = (
      ⊎_elim (λ (p : P other). inl p) (λ (q : (nat_lt other one ≡ true) × Q other). inr q.1) is.0,
      (λ k early either. ⊎_elim
          (λ (p : P k). is.1 k early (inl p))
          (λ (q : Q k). is.1 k early (inr (lt-ltb k one (low k early), q)))
          either),
    )
      where
        low : (k : ℕ) → k < other → k < one
        low k early = ⊎_elim
            (λ (past : one < other). absurd (is.1 one past (inl fp.0)))
            (λ (within : other ≤ one). omega (arith, within, early))
            (cases_lt one other)

-- ---- before what was found

before-lower : (first second : Option ℕ) (at : ℕ) → is_before (lower first second) at ≡ true → (is_before first at ≡ true) × (is_before second at ≡ true)
before-lower None second at is = (refl, is)
before-lower (Some one) None at is = (is, refl)
before-lower (Some one) (Some other) at is = by_order (nat_le one other) refl is
  where
    by_order : (c : Bool) → nat_le one other ≡ c → is_before (cond c (Some one) (Some other)) at ≡ true → (is_before (Some one) at ≡ true) × (is_before (Some other) at ≡ true)
    by_order true order before = let low : one ≤ other = leb-true one other order in let early : at < one = ltb-true at one before in (before, lt-ltb at other (omega (arith, low, early)))
    by_order false order before = let high : other < one = leb-false one other order in let early : at < other = ltb-true at other before in (lt-ltb at one (omega (arith, high, early)), before)

before-both : (first second : Option ℕ) (at : ℕ) → is_before first at ≡ true → is_before second at ≡ true → is_before (lower first second) at ≡ true
before-both None second at one two = two
before-both (Some first) None at one two = one
before-both (Some first) (Some second) at one two = by_order (nat_le first second)
  where
    by_order : (c : Bool) → is_before (cond c (Some first) (Some second)) at ≡ true
    by_order true = one
    by_order false = two

before-earlier : (first : Option ℕ) (early at : ℕ) → early ≤ at → is_before first at ≡ true → is_before first early ≡ true
before-earlier None early at low is = refl
before-earlier (Some first) early at low is = let before : at < first = ltb-true at first is in lt-ltb early first (omega (arith, low, before))

-- the first of more, where nothing is looked for that comes later
before-more : (P Q R : ℕ → Type 0) (first lowest found next : Option ℕ) → next ≡ lower lowest found → ((at : ℕ) → P at ⊎ Q at → R at) → ((at : ℕ) → R at → P at ⊎ Q at)
    → IsFirst (λ at. (is_before first at ≡ true) × P at) lowest → IsFirst (λ at. (is_before (lower first lowest) at ≡ true) × Q at) found
    → IsFirst (λ at. (is_before first at ≡ true) × R at) next
before-more P Q R first lowest found next is to from by_p by_q =
    subst (λ (f : Option ℕ). IsFirst (λ at. (is_before first at ≡ true) × R at) f) (sym is)
    (first-same (λ at. ((is_before first at ≡ true) × P at) ⊎ ((is_before first at ≡ true) × Q at)) (λ at. (is_before first at ≡ true) × R at) (lower lowest found)
    (λ at either. ⊎_elim (λ (p : (is_before first at ≡ true) × P at). (p.0, to at (inl p.1))) (λ (q : (is_before first at ≡ true) × Q at). (q.0, to at (inr q.1))) either)
    (λ at r. ⊎_elim (λ (p : P at). inl (r.0, p)) (λ (q : Q at). inr (r.0, q)) (from at r.1))
    (first-cut (λ at. (is_before first at ≡ true) × P at) (λ at. (is_before first at ≡ true) × Q at) lowest found by_p
    (first-same (λ at. (is_before (lower first lowest) at ≡ true) × Q at) (λ at. (is_before lowest at ≡ true) × ((is_before first at ≡ true) × Q at)) found
    (λ at both. let before = before-lower first lowest at both.0 in (before.1, (before.0, both.1)))
    (λ at both. (before-both first lowest at both.1.0 both.0, both.1.1))
    by_q)))

-- ---- one place, and one place more

pub at-place : (B P : ℕ → Type 0) (place : ℕ) → B place → P place → IsFirst (λ at. B at × ((at ≡ place) × P at)) (Some place)
at-place B P place b p = ((b, (refl, p)), (λ k early is. let same = is.1.0 in omega (arith, same, early)))

pub not-at : (B P : ℕ → Type 0) (place : ℕ) → (B place → P place → ⊥) → IsFirst (λ at. B at × ((at ≡ place) × P at)) None
not-at B P place lacks = λ at is. lacks (subst B is.1.0 is.0) (subst P is.1.0 is.1.1)

pub places-none : (B P : ℕ → Type 0) → IsFirst (λ at. B at × (Contains [] at × P at)) None
places-none B P = λ at is. Contains-none at is.1.0

pub places-more : (P : ℕ → Type 0) (places : List ℕ) (i : ℕ) (first lowest found next : Option ℕ) → i < length places → next ≡ lower lowest found
    → IsFirst (λ at. (is_before first at ≡ true) × (Contains (take i places) at × P at)) lowest
    → IsFirst (λ at. (is_before (lower first lowest) at ≡ true) × ((at ≡ get_or places i 0) × P at)) found
    → IsFirst (λ at. (is_before first at ≡ true) × (Contains (take (i + 1) places) at × P at)) next
places-more P places i first lowest found next within is before here =
    before-more (λ at. Contains (take i places) at × P at) (λ at. (at ≡ get_or places i 0) × P at) (λ at. Contains (take (i + 1) places) at × P at) first lowest found next is to from before here
  where
    to : (at : ℕ) → (Contains (take i places) at × P at) ⊎ ((at ≡ get_or places i 0) × P at) → Contains (take (i + 1) places) at × P at
    to at (inl p) = (more-keeps places i at within p.0, p.1)
    to at (inr q) = (subst (λ (k : ℕ). Contains (take (i + 1) places) k) (sym q.0) (more-last places i within), q.1)

    from : (at : ℕ) → Contains (take (i + 1) places) at × P at → (Contains (take i places) at × P at) ⊎ ((at ≡ get_or places i 0) × P at)
    from at r = ⊎_elim (λ (early : Contains (take i places) at). inl (early, r.1)) (λ (last : at ≡ get_or places i 0). inr (last, r.1)) (more-cases places i at within r.0)

-- ---- one list more

module _ (blocks : List Block) (role : Role) (stamps : List ℕ) (stamp : ℕ) (lists : List (List ℕ)) where
  abbrev In : List ℕ → ℕ → Type 0
  In numbers = LacksIn blocks role stamps stamp lists numbers

  pub lists-none : (first : Option ℕ) → IsFirst (λ at. (is_before first at ≡ true) × In [] at) None
  lists-none first = λ at is. Contains-none is.1.0 is.1.1

  pub lists-more : (numbers : List ℕ) (i : ℕ) (first lowest found next : Option ℕ) → i < length numbers → next ≡ lower lowest found
      → IsFirst (λ at. (is_before first at ≡ true) × In (take i numbers) at) lowest
      → IsFirst (λ at. (is_before (lower first lowest) at ≡ true) × LacksAmong blocks role stamps stamp (get_or lists (get_or numbers i 0) []) at) found
      → IsFirst (λ at. (is_before first at ≡ true) × In (take (i + 1) numbers) at) next
  lists-more numbers i first lowest found next within is before here =
      before-more (In (take i numbers)) (LacksAmong blocks role stamps stamp (get_or lists (get_or numbers i 0) [])) (In (take (i + 1) numbers)) first lowest found next is to from before here
    where
      to : (at : ℕ) → In (take i numbers) at ⊎ LacksAmong blocks role stamps stamp (get_or lists (get_or numbers i 0) []) at → In (take (i + 1) numbers) at
      to at (inl p) = (p.0, more-keeps numbers i p.0 within p.1, p.2)
      to at (inr q) = (get_or numbers i 0, more-last numbers i within, q)

      from : (at : ℕ) → In (take (i + 1) numbers) at → In (take i numbers) at ⊎ LacksAmong blocks role stamps stamp (get_or lists (get_or numbers i 0) []) at
      from at r = ⊎_elim
          (λ (early : Contains (take i numbers) r.0). inl (r.0, early, r.2))
          (λ (last : r.0 ≡ get_or numbers i 0). inr (subst (λ (n : ℕ). LacksAmong blocks role stamps stamp (get_or lists n []) at) last r.2))
          (more-cases numbers i r.0 within r.1)

-- ---- one key

-- a key that no block names
pub unnamed : (blocks : List Block) (role : Role) (key : ℕ) (namers : Namers) (first : Option ℕ) → AreNamers blocks role namers
    → length (get_or namers.described key []) ≡ 0 → IsFirst (λ at. (is_before first at ≡ true) × HasUnknownOf blocks role key at) None
unnamed blocks role key namers first are none = λ place both.
    let some = both.1 in
    let early = are.all key place (some.1, named-from blocks role place some.0 some.1 some.2, some.4) in
    let low = early.3.1 in
    omega (arith, low, none)

pub stamps-later : (count bound : ℕ) (stamps : List ℕ) → AreBelow count bound stamps → AreBelow count (bound + 1) stamps
stamps-later count bound stamps are = record { long = are.long; below = λ host. let low = are.below host in omega (arith, low) }

module _ (blocks : List Block) (role : Role) (key : ℕ) (old new : List ℕ) (given : List (List ℕ)) (below : AreBelow (length (names_in blocks Host)) (key + 1) old)
    (stamped : Stamped (IsHostOf blocks (get_or given key [])) (key + 1) old new) where
  pub stamps-more : AreBelow (length (names_in blocks Host)) (key + 1 + 1) new
  stamps-more = record {
    long = stamped.long ∙ below.long;
    below = λ host. ⊎_elim
        (λ (kept : get_or new host 0 ≡ get_or old host 0). let low = below.below host in omega (arith, kept, low))
        (λ (got : (get_or new host 0 ≡ key + 1) × IsHostOf blocks (get_or given key []) host). let is = got.0 in omega (arith, is))
        (stamped.rest host);
  }

  module _ (law : ListedAreObjects) (given_are : AreByKey (names_in blocks Service) (GivesKey blocks) given) (namers : Namers)
      (namers_are : AreNamers blocks role namers) where
    abbrev Lacks : ℕ → Type 0
    Lacks = LacksIn blocks role new (key + 1) namers.by_list (get_or namers.described key [])

    to : (place : ℕ) → Lacks place → HasUnknownOf blocks role key place
    to place some = (host, names.0, named-to blocks role place host names.0 some.2.1.1 names.1, unknown, names.2)
      where
        host : ℕ
        host = some.2.1.0

        names : NamesKey blocks role key place
        names = namers_are.each key some.0 place some.1 some.2.0

        unknown : HasService blocks host names.0 → ⊥
        unknown service =
            let long = stamped.long in
            let count = below.long in
            let low = law blocks host_directives (place_of blocks service.0) host service.3 in
            let at = (given_are.each key (place_of blocks service.0)).1 (service.0, service.1, refl, ap (λ (d : List ℕ). key_of (names_in blocks Service) d) service.2 ∙ names.2) in
            let got = stamped.got host (omega (arith, long, count, low)) (place_of blocks service.0, at, service.3) in
            false≢true (sym some.2.1.2 ∙ eq-eqb (get_or new host 0) (key + 1) got)

    from : (place : ℕ) → HasUnknownOf blocks role key place → (early : ℕ) × (early ≤ place) × Lacks early
    from place some = (
      early.0,
      early.2,
      (
        early.1,
        early.3,
        (early.4, (some.0, listed-alike blocks (directives_of role) place early.0 early.5.0 early.5.2 early.5.1 some.0 some.2.1, by_stamp (is_stamped new (key + 1) some.0) refl)),
      ),
    )
      where
        early : (first : ℕ) × (list : ℕ) × (first ≤ place) × Contains (get_or namers.described key []) list × Contains (get_or namers.by_list list []) first × AreSame blocks role first place
        early = namers_are.all key place (some.1, named-from blocks role place some.0 some.1 some.2, some.4)

        known : (number : ℕ) → number < length (names_in blocks Service) → key_of (names_in blocks Service) (description_of blocks number) ≡ key
            → HasHost blocks (place_of blocks number) some.0 → ⊥
        known number low is has = some.3 (number, low, same-key (names_in blocks Service) number some.1 low (is ∙ sym some.4), has)

        by_stamp : (b : Bool) → is_stamped new (key + 1) some.0 ≡ b → is_stamped new (key + 1) some.0 ≡ false
        by_stamp false is = is
        by_stamp true is = absurd (⊎_elim
            (λ (kept : get_or new some.0 0 ≡ get_or old some.0 0).
            let low = below.below some.0 in
            let got : get_or new some.0 0 ≡ key + 1 = eqb-true (get_or new some.0 0) (key + 1) is in
            omega (arith, kept, low, got))
            (λ (got : (get_or new some.0 0 ≡ key + 1) × IsHostOf blocks (get_or given key []) some.0).
            let gives = (given_are.each key got.1.0).0 got.1.1 in
            known gives.0 gives.1 gives.3 (subst (λ (p : ℕ). HasHost blocks p some.0) (sym gives.2) got.1.2))
            (stamped.rest some.0))

    pub of-key : (first found : Option ℕ) → IsFirst (λ at. (is_before first at ≡ true) × Lacks at) found
        → IsFirst (λ at. (is_before first at ≡ true) × HasUnknownOf blocks role key at) found
    of-key first found is =
        first-earlier (λ at. (is_before first at ≡ true) × Lacks at) (λ at. (is_before first at ≡ true) × HasUnknownOf blocks role key at) found
        (λ at both. (both.0, to at both.1))
        (λ at both. let there = from at both.1 in (there.0, there.1, (before-earlier first there.0 at there.1 both.0, there.2)))
        is

-- ---- one key more

nothing-stamped : (count host : ℕ) → ◌≡◌ {A = ℕ} (get_or (replicate count 0) host 0) 0
nothing-stamped zero host = refl
nothing-stamped (suc count) zero = refl
nothing-stamped (suc count) (suc host) = nothing-stamped count host

pub stamps-none : (count many : ℕ) (stamps : List ℕ) → many ≡ count → stamps ≡ replicate many 0 → AreBelow count 1 stamps
stamps-none count many stamps same are = record {
  long = ap (λ (ss : List ℕ). length ss) are ∙ length-replicate many 0 ∙ same;
  below = λ host. let is : get_or stamps host 0 ≡ 0 = ap (λ (ss : List ℕ). get_or ss host 0) are ∙ nothing-stamped many host in omega (arith, is);
}

pub keys-begin : (blocks : List Block) (role : Role) → IsFirst (HasUnknownBelow blocks role 0) None
keys-begin blocks role = λ place some. let low = some.4 in omega (arith, low)

pub keys-more : (blocks : List Block) (role : Role) (key : ℕ) (first found next : Option ℕ) → next ≡ lower first found → IsFirst (HasUnknownBelow blocks role key) first
    → IsFirst (λ at. (is_before first at ≡ true) × HasUnknownOf blocks role key at) found → IsFirst (HasUnknownBelow blocks role (key + 1)) next
keys-more blocks role key first found next is before here =
    subst (λ (f : Option ℕ). IsFirst (HasUnknownBelow blocks role (key + 1)) f) (sym is)
    (first-same (λ at. HasUnknownBelow blocks role key at ⊎ HasUnknownOf blocks role key at) (HasUnknownBelow blocks role (key + 1)) (lower first found) to from
    (first-cut (HasUnknownBelow blocks role key) (HasUnknownOf blocks role key) first found before here))
  where
    to : (place : ℕ) → HasUnknownBelow blocks role key place ⊎ HasUnknownOf blocks role key place → HasUnknownBelow blocks role (key + 1) place
    to place (inl p) = (p.0, p.1, p.2, p.3, (let low = p.4 in omega (arith, low)))
    to place (inr q) = (q.0, q.1, q.2, q.3, (let same = q.4 in omega (arith, same)))

    from : (place : ℕ) → HasUnknownBelow blocks role (key + 1) place → HasUnknownBelow blocks role key place ⊎ HasUnknownOf blocks role key place
    from place r = ⊎_elim
        (λ (early : key_of (names_in blocks Service) r.1 < key). inl (r.0, r.1, r.2, r.3, early))
        (λ (late : key ≤ key_of (names_in blocks Service) r.1). let low = r.4 in inr (r.0, r.1, r.2, r.3, omega (arith, low, late)))
        (cases_lt (key_of (names_in blocks Service) r.1) key)

pub keys-end : (blocks : List Block) (role : Role) (bound : ℕ) (first : Option ℕ) → length (names_in blocks Service) < bound → IsFirst (HasUnknownBelow blocks role bound) first
    → IsFirst (HasUnknownIn blocks role) first
keys-end blocks role bound first all is = first-same (HasUnknownBelow blocks role bound) (HasUnknownIn blocks role) first
    (λ place some. (some.0, some.1, some.2, some.3))
    (λ place some. (some.0, some.1, some.2, some.3, (let low = key-within (names_in blocks Service) some.1 in omega (arith, low, all))))
    is

-- ---- the roles

abbrev pub Others : List Block → (place : ℕ) → Type 0
Others blocks place = HasUnknownIn blocks Master place ⊎ HasUnknownIn blocks Dependent place

pub of-roles : (blocks : List Block) (escalated masters dependents others first : Option ℕ) → others ≡ lower masters dependents → first ≡ lower escalated others
    → IsFirst (HasUnknownIn blocks Escalated) escalated → IsFirst (HasUnknownIn blocks Master) masters → IsFirst (HasUnknownIn blocks Dependent) dependents
    → IsFirst (HasUnknownService blocks) first
of-roles blocks escalated masters dependents others first others_is first_is by_escalated by_masters by_dependents =
    first-either (HasUnknownIn blocks Escalated) (Others blocks) (HasUnknownService blocks) escalated others first first_is to from by_escalated
    (first-either (HasUnknownIn blocks Master) (HasUnknownIn blocks Dependent) (Others blocks) masters dependents others others_is (λ place some. some) (λ place some. some) by_masters by_dependents)
  where
    to : (place : ℕ) → HasUnknownIn blocks Escalated place ⊎ Others blocks place → HasUnknownService blocks place
    to place (inl some) = (Escalated, some.0, some.1, some.2, some.3)
    to place (inr (inl some)) = (Master, some.0, some.1, some.2, some.3)
    to place (inr (inr some)) = (Dependent, some.0, some.1, some.2, some.3)

    from : (place : ℕ) → HasUnknownService blocks place → HasUnknownIn blocks Escalated place ⊎ Others blocks place
    from place (Escalated, host, description, names, unknown) = inl (host, description, names, unknown)
    from place (Master, host, description, names, unknown) = inr (inl (host, description, names, unknown))
    from place (Dependent, host, description, names, unknown) = inr (inr (host, description, names, unknown))
