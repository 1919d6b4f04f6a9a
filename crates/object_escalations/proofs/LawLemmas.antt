-- How many escalations blocks give, that they are of objects, and where they pass the limit.
use Rattle.std.proofs.Common.{◌≡◌, ℕ, zero, suc, ◌+◌, ◌<◌, ◌≤◌, List, [], ◌∷◌, length, get_or, refl, sym, ap, subst, ◌∙◌, ⊎_elim, arith}
use Rattle.std.specs.Prelude.{All, slice_index_or}
use Rattle.std.specs.List.{AllZip, range_with_len, sum_by}
use Rattle.std.proofs.lemmas.Bool.{cases_lt}
use Rattle.std.proofs.lemmas.List.{length-map}
use Rattle.std.proofs.lemmas.List.Elements.{All-cons, All-from_get_or, All-nil, Contains-get_or}
use Rattle.std.proofs.lemmas.Slice.Zip.{AllZip-long}
use Rattle.lemmas.proofs.Numbers.{all-count, below_more, sum-more}
use Rattle.lemmas.proofs.Zips.{without-last}
use Rattle.object_escalations.specs.claims.Entries.{ComesFrom, Origin, origins_at, origins_below}
use Rattle.object_escalations.specs.claims.Escalated.{AreEscalated, GiveEscalations, PassesLimit, SpeaksOf}
use Rattle.object_escalations.specs.Laws.{CountIsTheSum, EscalatedAreObjects, OneForEach, OnePlacePasses, WithinPassesNowhere}
use Rattle.object_groups.specs.claims.Objects.{names_in, objects_in}
use Rattle.object_groups.specs.ObjectLaws.{names-long}
use Rattle.object_listing.specs.claims.Listing.{AreThose}
use Rattle.object_listing.specs.ListingLaws.{those-one}
use Rattle.object_reached.specs.declared.roles.Role.TheVariants.{Escalated}
use Rattle.object_reached.specs.Laws.{SpokenAreObjects}
use Rattle.object_reader.specs.declared.block.Block.{Block}
use Rattle.object_reader.specs.declared.block.BlockKind.TheVariants.{Host, Service}
use Rattle.object_services.specs.HostLaws.{pairs-count}

-- ---- how many there are

pub one-for_each : OneForEach
one-for_each blocks objects spoken escalations are =
    AllZip-long (ComesFrom blocks objects) (origins_below spoken (length spoken)) escalations are
    ∙ all-count (λ at. origins_at at (slice_index_or spoken at [])) spoken
    (λ n. length-map {B = Origin} (slice_index_or spoken n []) (λ number. record { place = n; number = number }))

-- ---- they are of objects

spoken-within : SpokenAreObjects → (blocks : List Block) (lists : List (List ℕ)) (place number : ℕ) → SpeaksOf blocks lists place number
    → number < length (objects_in blocks Host) + sum_by length lists
spoken-within spoken blocks lists place number speaks =
    let low = spoken blocks lists Escalated place number speaks in
    let long = names-long blocks Host in
    let count = pairs-count (names_in blocks Service) lists in
    omega (arith, low, long, count)

module _ (law : SpokenAreObjects) (blocks : List Block) (lists : List (List ℕ)) where
  abbrev IsWithin : ℕ → Type 0
  IsWithin number = number < length (objects_in blocks Host) + sum_by length lists

  all-within : (places : List ℕ) (spoken : List (List ℕ)) → AllZip (λ at found. AreThose (SpeaksOf blocks lists at) found) places spoken → All (All IsWithin) spoken
  all-within [] [] all = All-nil (All IsWithin)
  all-within [] (s ∷ ss) all = absurd all
  all-within (p ∷ ps) [] all = absurd all
  all-within (p ∷ ps) (s ∷ ss) all = All-cons (All IsWithin) s ss
      (All-from_get_or IsWithin s 0 (λ i low. spoken-within law blocks lists p (get_or s i 0) ((all.0.exactly (get_or s i 0)).0 (Contains-get_or s i 0 low))))
      (all-within ps ss all.1)

pub escalated-objects : SpokenAreObjects → EscalatedAreObjects
escalated-objects law blocks lists place spoken are = all-within law blocks lists (range_with_len 0 place) spoken are

-- ---- the count is one

module _ (blocks : List Block) (lists : List (List ℕ)) where
  spoken-one : (places : List ℕ) (one other : List (List ℕ)) → AllZip (λ at found. AreThose (SpeaksOf blocks lists at) found) places one
      → AllZip (λ at found. AreThose (SpeaksOf blocks lists at) found) places other → one ≡ other
  spoken-one [] [] [] a b = refl
  spoken-one [] [] (y ∷ ys) a b = absurd b
  spoken-one [] (x ∷ xs) ys a b = absurd a
  spoken-one (p ∷ ps) [] ys a b = absurd a
  spoken-one (p ∷ ps) (x ∷ xs) [] a b = absurd b
  spoken-one (p ∷ ps) (x ∷ xs) (y ∷ ys) a b =
      ap (λ (found : List ℕ). found ∷ xs) (those-one (SpeaksOf blocks lists p) x y a.0 b.0) ∙ ap (λ (all : List (List ℕ)). y ∷ all) (spoken-one ps xs ys a.1 b.1)

  count-sum : (place count : ℕ) (spoken : List (List ℕ)) → GiveEscalations blocks lists place count → AreEscalated blocks lists place spoken → count ≡ sum_by length spoken
  count-sum place count spoken given are = given.2 ∙ ap (sum_by length) (spoken-one (range_with_len 0 place) given.0 spoken given.1 are)

  count-one : (place one other : ℕ) → GiveEscalations blocks lists place one → GiveEscalations blocks lists place other → one ≡ other
  count-one place one other a b = count-sum place one b.0 a b.1 ∙ sym b.2

pub count-is_sum : CountIsTheSum
count-is_sum blocks lists place count spoken given are = count-sum blocks lists place count spoken given are

-- ---- one block less

module _ (blocks : List Block) (lists : List (List ℕ)) where
  one-less : (place count : ℕ) → GiveEscalations blocks lists (place + 1) count → (less : ℕ) × GiveEscalations blocks lists place less × (less ≤ count)
  one-less place count given =
      let rest = without-last (λ at found. AreThose (SpeaksOf blocks lists at) found) (range_with_len 0 place) place given.0
      (subst (λ (places : List ℕ). AllZip (λ at found. AreThose (SpeaksOf blocks lists at) found) places given.0) (below_more place) given.1) in
      let sum = ap (sum_by length) rest.are ∙ sum-more rest.first rest.last in
      let counted = given.2 in
      (sum_by length rest.first, (rest.first, rest.all, refl), omega (arith, sum, counted))

  -- so many blocks less
  some-less : (place more count : ℕ) → GiveEscalations blocks lists (place + more) count → (less : ℕ) × GiveEscalations blocks lists place less × (less ≤ count)
  some-less place zero count given =
      let same : place + 0 ≡ place = omega arith in
      (count, subst (λ (n : ℕ). GiveEscalations blocks lists n count) same given, omega arith)
  some-less place (suc more) count given =
      let same : place + suc more ≡ place + more + 1 = omega arith in
      let one = one-less (place + more) count (subst (λ (n : ℕ). GiveEscalations blocks lists n count) same given) in
      let rest = some-less place more one.0 one.1 in
      let low = one.2 in
      let lower = rest.2 in
      (rest.0, rest.1, omega (arith, low, lower))

  -- below a lower place there are no more
  fewer-below : (place further few many : ℕ) → place ≤ further → GiveEscalations blocks lists place few → GiveEscalations blocks lists further many → few ≤ many
  fewer-below place further few many low some all =
      let more = between place further low in
      let less = some-less place more.0 many (subst (λ (n : ℕ). GiveEscalations blocks lists n many) more.1 all) in
      let same = count-one blocks lists place few less.0 some less.1 in
      let lower = less.2 in
      omega (arith, same, lower)
    where
      between : (a b : ℕ) → a ≤ b → (n : ℕ) × (b ≡ a + n)
      between zero b h = (b, omega arith)
      between (suc a) zero h = absurd (omega (arith, h))
      between (suc a) (suc b) h = let rest = between a b (omega (arith, h)) in let is = rest.1 in (rest.0, omega (arith, is))

  not-before : (m n : ℕ) → m < n → PassesLimit blocks lists m → PassesLimit blocks lists n → ⊥
  not-before m n early p q =
      let low = fewer-below (m + 1) n p.over.0 q.before.0 (omega (arith, early)) p.over.1 q.before.1 in
      let past = p.over.2 in
      let keeps = q.before.2 in
      omega (arith, low, past, keeps)

-- ---- where they pass the limit

pub one-passes : OnePlacePasses
one-passes blocks lists one other a b = ⊎_elim
    (λ (early : one < other). absurd (not-before blocks lists one other early a b))
    (λ (late : other ≤ one). ⊎_elim
    (λ (later : other < one). absurd (not-before blocks lists other one later b a))
    (λ (low : one ≤ other). omega (arith, late, low))
    (cases_lt other one))
    (cases_lt one other)

pub within-nowhere : WithinPassesNowhere
within-nowhere blocks lists count place given few passes =
    let within = passes.within in
    let low = fewer-below blocks lists (place + 1) (length blocks) passes.over.0 count (omega (arith, within)) passes.over.1 given in
    let past = passes.over.2 in
    omega (arith, low, past, few)
