-- How many objects the blocks below a place give, and where they pass the limit.
use Rattle.std.proofs.Common.{◌≡◌, ℕ, zero, suc, ◌+◌, ◌<◌, ◌≤◌, Bool, true, false, cond, List, length, refl, sym, ap, subst, ◌∙◌, ⊎_elim, arith}
use Rattle.std.specs.List.{sum_by}
use Rattle.std.proofs.lemmas.Bool.{cases_lt}
use Rattle.std.proofs.lemmas.List.{append-nil}
use Rattle.lemmas.proofs.Zips.{without-last}
use Rattle.lemmas.proofs.Numbers.{sum-more}
use Rattle.object_groups.specs.claims.Objects.{is_object_at}
use Rattle.object_reader.specs.declared.block.Block.{Block}
use Rattle.object_reader.specs.declared.block.BlockKind.TheVariants.{Host, Service}
use Rattle.object_services.specs.claims.Hosts.{AreHosts}
use Rattle.object_services.specs.claims.Limits.{AreHostLists, AreWithinLimit, GiveObjects, objects_below, PassesLimit}
use Rattle.object_services.specs.Limits.{PassesNowhere}
use Rattle.object_services.proofs.LimitLemmas.{below-more, counted-more}
use Rattle.object_services.specs.HostLaws.{hosts-one}

-- ---- the hosts of the same blocks

-- the count is the sum, so there is one
pub count-is_sum : (blocks : List Block) (place count : ℕ) (lists : List (List ℕ)) → GiveObjects blocks place count → AreHostLists blocks (objects_below blocks Service place) lists
    → count ≡ length (objects_below blocks Host place) + sum_by length lists
count-is_sum blocks place count lists given are =
    given.2 ∙ ap (λ (ls : List (List ℕ)). length (objects_below blocks Host place) + sum_by length ls) (hosts-one blocks (objects_below blocks Service place) given.0 lists given.1 are)

count-one : (blocks : List Block) (place one other : ℕ) → GiveObjects blocks place one → GiveObjects blocks place other → one ≡ other
count-one blocks place one other a b = count-is_sum blocks place one b.0 a b.1 ∙ sym b.2

-- ---- one block less

pub one-less : (blocks : List Block) (place count : ℕ) → GiveObjects blocks (place + 1) count → (less : ℕ) × GiveObjects blocks place less × (less ≤ count)
one-less blocks place count given = by_kind (is_object_at blocks Service place) refl
  where
    hosts_more : length (objects_below blocks Host (place + 1)) ≡ length (objects_below blocks Host place) + cond (is_object_at blocks Host place) 1 0
    hosts_more = ap length (below-more blocks Host place (is_object_at blocks Host place) refl) ∙ counted-more (objects_below blocks Host place) place (is_object_at blocks Host place)

    by_kind : (s : Bool) → is_object_at blocks Service place ≡ s → (less : ℕ) × GiveObjects blocks place less × (less ≤ count)
    by_kind true is =
        let rest = without-last (AreHosts blocks) (objects_below blocks Service place) place given.0
        (subst (λ (places : List ℕ). AreHostLists blocks places given.0) (below-more blocks Service place true is) given.1) in
        let sum_is = ap (sum_by length) rest.are ∙ sum-more rest.first rest.last in
        let counted = given.2 in
        (length (objects_below blocks Host place) + sum_by length rest.first, (rest.first, rest.all, refl), omega (arith, hosts_more, sum_is, counted))
    by_kind false is =
        let counted = given.2 in (
          length (objects_below blocks Host place) + sum_by length given.0,
          (given.0, subst (λ (places : List ℕ). AreHostLists blocks places given.0) (below-more blocks Service place false is ∙ append-nil (objects_below blocks Service place)) given.1, refl),
          omega (arith, hosts_more, counted),
        )

-- so many blocks less
pub some-less : (blocks : List Block) (place more count : ℕ) → GiveObjects blocks (place + more) count → (less : ℕ) × GiveObjects blocks place less × (less ≤ count)
some-less blocks place zero count given =
    let same : place + 0 ≡ place = omega arith in
    (count, subst (λ (n : ℕ). GiveObjects blocks n count) same given, omega arith)
some-less blocks place (suc more) count given =
    let same : place + suc more ≡ place + more + 1 = omega arith in
    let one = one-less blocks (place + more) count (subst (λ (n : ℕ). GiveObjects blocks n count) same given) in
    let rest = some-less blocks place more one.0 one.1 in
    let low = one.2 in
    let lower = rest.2 in
    (rest.0, rest.1, omega (arith, low, lower))

-- below a lower place there are no more
pub fewer-below : (blocks : List Block) (place further few many : ℕ) → place ≤ further → GiveObjects blocks place few → GiveObjects blocks further many → few ≤ many
fewer-below blocks place further few many low some all =
    let more = between place further low in
    let less = some-less blocks place more.0 many (subst (λ (n : ℕ). GiveObjects blocks n many) more.1 all) in
    let same = count-one blocks place few less.0 some less.1 in
    let lower = less.2 in
    omega (arith, same, lower)
  where
    between : (a b : ℕ) → a ≤ b → (n : ℕ) × (b ≡ a + n)
    between zero b h = (b, omega arith)
    between (suc a) zero h = absurd (omega (arith, h))
    between (suc a) (suc b) h = let rest = between a b (omega (arith, h)) in let is = rest.1 in (rest.0, omega (arith, is))

-- ---- where they pass the limit

pub one-passes : (blocks : List Block) (one other : ℕ) → PassesLimit blocks one → PassesLimit blocks other → one ≡ other
one-passes blocks one other a b = ⊎_elim
    (λ (early : one < other). absurd (not_before one other early a b))
    (λ (late : other ≤ one). ⊎_elim
    (λ (later : other < one). absurd (not_before other one later b a))
    (λ (low : one ≤ other). omega (arith, late, low))
    (cases_lt other one))
    (cases_lt one other)
  where
    not_before : (m n : ℕ) → m < n → PassesLimit blocks m → PassesLimit blocks n → ⊥
    not_before m n early p q =
        let low = fewer-below blocks (m + 1) n p.over.0 q.before.0 (omega (arith, early)) p.over.1 q.before.1 in
        let past = p.over.2 in
        let keeps = q.before.2 in
        omega (arith, low, past, keeps)

pub within-nowhere : (blocks : List Block) → AreWithinLimit blocks → PassesNowhere blocks
within-nowhere blocks keeps place passes =
    let within = passes.within in
    let low = fewer-below blocks (place + 1) (length blocks) passes.over.0 keeps.0 (omega (arith, within)) passes.over.1 keeps.1 in
    let past = passes.over.2 in
    let few = keeps.2 in
    omega (arith, low, past, few)
