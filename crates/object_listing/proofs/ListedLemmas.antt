-- The objects that lists and groups reach.
use Rattle.std.proofs.Common.{◌≡◌, ℕ, ◌+◌, ◌<◌, ◌≤◌, true, false, List, [], ◌∷◌, ◌++◌, length, take, get_or, sym, ap, subst, ◌∙◌, ◌⊎◌, inl, inr, ⊎_elim, arith}
use Rattle.std.specs.Prelude.{All, Contains, ◌↔◌}
use Rattle.std.specs.List.{range_with_len}
use Rattle.std.specs.List.Sorted.{IsStrictlyIncreasing}
use Rattle.std.proofs.lemmas.Bool.{cases_lt, false≢true}
use Rattle.std.proofs.lemmas.List.{get_or_past, take_more}
use Rattle.std.proofs.lemmas.List.Elements.{All-from_get_or, Contains-append_left, Contains-append_right, Contains-append_cases, Contains-get_or}
use Rattle.object_reader.specs.declared.block.Block.{Block}
use Rattle.object_groups.specs.declared.groups.GroupKind.{GroupKind}
use Rattle.object_groups.specs.claims.Groups.{group_kind, grouping, object_kind, own_groups_directive}
use Rattle.object_groups.specs.Groups.{GroupsOf}
use Rattle.object_groups.specs.claims.Members.{Holds, IsMember}
use Rattle.object_groups.specs.claims.Names.{is_all, Lists, numbers_of}
use Rattle.object_groups.specs.claims.Objects.{list_at, lists_in, names_in}
use Rattle.object_groups.specs.Objects.{ObjectsOf}
use Rattle.object_groups.specs.ObjectLaws.{listed-within as lists-within, lists-long, numbers-within}
use Rattle.object_inheritance.specs.Columns.{Column}
use Rattle.object_listing.specs.claims.Listing.{AreThose, Directives, IsListed}
use Rattle.object_listing.specs.Listing.{Adds}
use Rattle.lemmas.proofs.Elements.{Contains-cases, Contains-from_range, Contains-here, Contains-none, Contains-range}

-- ---- lists

pub all-listed : (names entries : List (List ℕ)) (numbers : List ℕ) → is_all entries ≡ true → numbers ≡ range_with_len 0 (length names)
    → (k : ℕ) → Contains numbers k ↔ Lists names entries k
all-listed names entries numbers every are k = (
  (λ at. inl (every, Contains-from_range (length names) k (subst (λ ns. Contains ns k) are at))),
  (λ listed. subst (λ ns. Contains ns k) (sym are) (Contains-range (length names) k (low listed))),
)
  where
    low : Lists names entries k → k < length names
    low (inl both) = both.1
    low (inr named) = numbers-within names entries k named

pub some-listed : (names entries : List (List ℕ)) (numbers : List ℕ) → is_all entries ≡ false → numbers ≡ numbers_of names entries
    → (k : ℕ) → Contains numbers k ↔ Lists names entries k
some-listed names entries numbers some are k = (
  (λ at. inr (subst (λ ns. Contains ns k) are at)),
  (λ listed. subst (λ ns. Contains ns k) (sym are) (named listed)),
)
  where
    named : Lists names entries k → Contains (numbers_of names entries) k
    named (inl both) = absurd (false≢true (sym some ∙ both.0))
    named (inr here) = here

-- ---- members

pub adds-members : (P : ℕ → Type 0) (old members pushed new : List ℕ) → ((k : ℕ) → Contains members k ↔ P k) → pushed ≡ old ++ members
    → ((k : ℕ) → Contains new k ↔ Contains pushed k) → Adds P old new
adds-members P old members pushed new are is same k = (
  (λ at. ⊎_elim (λ (before : Contains old k). inl before) (λ (member : Contains members k). inr ((are k).0 member))
      (Contains-append_cases old members k (subst (λ ns. Contains ns k) is ((same k).0 at)))),
  (λ either. (same k).1 (subst (λ ns. Contains ns k) (sym is) (from either))),
)
  where
    from : Contains old k ⊎ P k → Contains (old ++ members) k
    from (inl before) = Contains-append_left old members k before
    from (inr member) = Contains-append_right old members k ((are k).1 member)

-- the members of some of the groups
abbrev pub OfSome : (member : ℕ → ℕ → Type 0) → List ℕ → ℕ → Type 0
OfSome member groups object = (group : ℕ) × Contains groups group × member group object

pub adds-none : (member : ℕ → ℕ → Type 0) (numbers : List ℕ) → Adds (OfSome member []) numbers numbers
adds-none member numbers k = ((λ at. inl at), from)
  where
    from : Contains numbers k ⊎ OfSome member [] k → Contains numbers k
    from (inl before) = before
    from (inr some) = absurd (Contains-none some.0 some.1)

pub adds-more : (member : ℕ → ℕ → Type 0) (groups : List ℕ) (i d : ℕ) (first old new : List ℕ) → i < length groups
    → Adds (OfSome member (take i groups)) first old → Adds (member (get_or groups i d)) old new → Adds (OfSome member (take (i + 1) groups)) first new
adds-more member groups i d first old new within before added k = (
  (λ at. ⊎_elim earlier (λ (here : member group k). inr (group, last, here)) ((added k).0 at)),
  from,
)
  where
    group : ℕ
    group = get_or groups i d

    more : take (i + 1) groups ≡ take i groups ++ group ∷ []
    more = take_more groups i d within

    last : Contains (take (i + 1) groups) group
    last = subst (λ gs. Contains gs group) (sym more) (Contains-append_right (take i groups) (group ∷ []) group (Contains-here group []))

    earlier : Contains old k → Contains first k ⊎ OfSome member (take (i + 1) groups) k
    earlier at = ⊎_elim (λ (start : Contains first k). inl start)
        (λ (some : OfSome member (take i groups) k). inr (some.0, subst (λ gs. Contains gs some.0) (sym more) (Contains-append_left (take i groups) (group ∷ []) some.0 some.1), some.2))
        ((before k).0 at)

    of_last : (g : ℕ) → member g k → Contains (take i groups) g ⊎ Contains (group ∷ []) g → Contains new k
    of_last g here (inl in_front) = (added k).1 (inl ((before k).1 (inr (g, in_front, here))))
    of_last g here (inr at_end) = ⊎_elim
        (λ (same : group ≡ g). (added k).1 (inr (subst (λ h. member h k) (sym same) here)))
        (λ (none : Contains [] g). absurd (Contains-none g none))
        (Contains-cases group g [] at_end)

    from : Contains first k ⊎ OfSome member (take (i + 1) groups) k → Contains new k
    from (inl start) = (added k).1 (inl ((before k).1 (inl start)))
    from (inr some) = of_last some.0 some.2 (Contains-append_cases (take i groups) (group ∷ []) some.0 (subst (λ gs. Contains gs some.0) more some.1))

-- ---- what a block lists

pub those-are : (blocks : List Block) (listing : Directives) (place : ℕ) (found reached all numbers : List ℕ)
    → ((k : ℕ) → Contains found k ↔ Lists (names_in blocks (object_kind listing.kind)) (list_at blocks listing.objects place) k)
    → ((k : ℕ) → Contains reached k ↔ Lists (names_in blocks (group_kind listing.kind)) (list_at blocks listing.groups place) k)
    → Adds (OfSome (IsMember (grouping blocks listing.kind)) reached) found all → IsStrictlyIncreasing numbers → ((k : ℕ) → Contains numbers k ↔ Contains all k)
    → AreThose (IsListed blocks listing place) numbers
those-are blocks listing place found reached all numbers named grouped added rising same = record {
  rising = rising;
  exactly = λ k. ((λ at. to k ((added k).0 ((same k).0 at))), (λ has. (same k).1 ((added k).1 (from k has))));
}
  where
    to : (k : ℕ) → Contains found k ⊎ OfSome (IsMember (grouping blocks listing.kind)) reached k → IsListed blocks listing place k
    to k (inl here) = inl ((named k).0 here)
    to k (inr some) = inr (some.0, (grouped some.0).0 some.1, some.2)

    from : (k : ℕ) → IsListed blocks listing place k → Contains found k ⊎ OfSome (IsMember (grouping blocks listing.kind)) reached k
    from k (inl here) = inl ((named k).1 here)
    from k (inr some) = inr (some.0, (grouped some.0).1 some.1, some.2)

-- ---- what is kept of the blocks

pub entries-are : (blocks inside : List Block) (directive same_directive : List ℕ) (place : ℕ) (column : Column) (entries : List (List ℕ))
    → column ≡ record { blocks = inside; directive = directive } → inside ≡ blocks → directive ≡ same_directive → entries ≡ list_at column.blocks column.directive place
    → entries ≡ list_at blocks same_directive place
entries-are blocks inside directive same_directive place column entries column_is same same_text are =
    are ∙ ap (λ (c : Column). list_at c.blocks c.directive place) column_is ∙ ap (λ (bs : List Block). list_at bs directive place) same
    ∙ ap (λ (d : List ℕ). list_at blocks d place) same_text

pub object_names-are : (blocks : List Block) (kind : GroupKind) (groups : GroupsOf) (objects : ObjectsOf) (names : List (List ℕ)) → groups ≡ record { blocks = blocks; kind = kind }
    → objects ≡ record { blocks = groups.blocks; kind = object_kind groups.kind } → names ≡ names_in objects.blocks objects.kind → names ≡ names_in blocks (object_kind kind)
object_names-are blocks kind groups objects names groups_are objects_are are =
    are ∙ ap (λ (o : ObjectsOf). names_in o.blocks o.kind) objects_are ∙ ap (λ (g : GroupsOf). names_in g.blocks (object_kind g.kind)) groups_are

pub group_names-are : (blocks : List Block) (kind : GroupKind) (groups : GroupsOf) (objects : ObjectsOf) (names : List (List ℕ)) → groups ≡ record { blocks = blocks; kind = kind }
    → objects ≡ record { blocks = groups.blocks; kind = group_kind groups.kind } → names ≡ names_in objects.blocks objects.kind → names ≡ names_in blocks (group_kind kind)
group_names-are blocks kind groups objects names groups_are objects_are are =
    are ∙ ap (λ (o : ObjectsOf). names_in o.blocks o.kind) objects_are ∙ ap (λ (g : GroupsOf). names_in g.blocks (group_kind g.kind)) groups_are

pub listed-are : (names same_names entries same_entries : List (List ℕ)) (numbers : List ℕ) → names ≡ same_names → entries ≡ same_entries
    → ((k : ℕ) → Contains numbers k ↔ Lists names entries k) → (k : ℕ) → Contains numbers k ↔ Lists same_names same_entries k
listed-are names same_names entries same_entries numbers names_are entries_are listed k =
    subst (λ ns. Contains numbers k ↔ Lists ns same_entries k) names_are (subst (λ es. Contains numbers k ↔ Lists names es k) entries_are (listed k))

-- ---- the laws

pub named-there : (blocks : List Block) (listing : Directives) (place object : ℕ) (found : List ℕ) → AreThose (IsListed blocks listing place) found
    → Lists (names_in blocks (object_kind listing.kind)) (list_at blocks listing.objects place) object → Contains found object
named-there blocks listing place object found are named = (are.exactly object).1 (inl named)

pub member-there : (blocks : List Block) (listing : Directives) (place group object : ℕ) (found : List ℕ) → AreThose (IsListed blocks listing place) found
    → Lists (names_in blocks (group_kind listing.kind)) (list_at blocks listing.groups place) group → IsMember (grouping blocks listing.kind) group object → Contains found object
member-there blocks listing place group object found are grouped member = (are.exactly object).1 (inr (group, grouped, member))

-- ---- the numbers are those of objects

pub lists-none : (names : List (List ℕ)) (k : ℕ) → Lists names [] k → ⊥
lists-none names k (inl both) = false≢true both.0
lists-none names k (inr named) = Contains-none k named

member-within : (blocks : List Block) (kind : GroupKind) (group k : ℕ) → IsMember (grouping blocks kind) group k → k < length (names_in blocks (object_kind kind))
member-within blocks kind group k member = by_hold member.2
  where
    own : List (List (List ℕ))
    own = lists_in blocks (object_kind kind) (own_groups_directive kind)

    by_hold : Holds (grouping blocks kind) member.0 k → k < length (names_in blocks (object_kind kind))
    by_hold (inl listed) = lists-within (names_in blocks (object_kind kind)) _ k listed
    by_hold (inr named) = ⊎_elim
        (λ (low : k < length own). let long = lists-long blocks (object_kind kind) (own_groups_directive kind) in omega (arith, low, long))
        (λ (past : length own ≤ k). absurd (lists-none (names_in blocks (group_kind kind)) member.0
        (subst (λ (entries : List (List ℕ)). Lists (names_in blocks (group_kind kind)) entries member.0) (get_or_past own k [] past) named)))
        (cases_lt k (length own))

pub listed-within : (blocks : List Block) (listing : Directives) (place k : ℕ) → IsListed blocks listing place k → k < length (names_in blocks (object_kind listing.kind))
listed-within blocks listing place k (inl named) = lists-within (names_in blocks (object_kind listing.kind)) (list_at blocks listing.objects place) k named
listed-within blocks listing place k (inr some) = member-within blocks listing.kind some.0 k some.2

pub all-within : (blocks : List Block) (listing : Directives) (place : ℕ) (numbers : List ℕ) → AreThose (IsListed blocks listing place) numbers
    → All (λ k. k < length (names_in blocks (object_kind listing.kind))) numbers
all-within blocks listing place numbers are =
    All-from_get_or (λ k. k < length (names_in blocks (object_kind listing.kind))) numbers 0
    (λ i low. listed-within blocks listing place (get_or numbers i 0) ((are.exactly (get_or numbers i 0)).0 (Contains-get_or numbers i 0 low)))
