-- The pairs that are wanted, one more.
use Rattle.std.proofs.Common.{◌≡◌, ℕ, ◌+◌, ◌<◌, Bool, true, false, cond, ◌&&◌, List, [], ◌∷◌, length, take, replicate, get_or, Option, Some, None, refl, sym, ap, subst, eqb, eq-eqb, ◌∙◌}
use Rattle.std.specs.Prelude.{All}
use Rattle.std.specs.Str.{bytes_eq}
use Rattle.std.proofs.lemmas.Bool.{false≢true}
use Rattle.std.proofs.lemmas.Cmp.{nat_list_eq_equiv}
use Rattle.std.proofs.lemmas.List.{take_more}
use Rattle.std.proofs.lemmas.List.Elements.{All-append, All-cons, All-nil, All-weaker}
use Rattle.std.proofs.lemmas.Option.{none-some, same_Some}
use Rattle.lemmas.proofs.Lists.{none-marked}
use Rattle.object_groups.specs.claims.Names.{number_of}
use Rattle.object_groups.specs.claims.Objects.{list_at}
use Rattle.object_inheritance.specs.Columns.{Column}
use Rattle.object_services.specs.claims.Numbers.{Pair}
use Rattle.object_services.specs.Numbers.{Key}
use Rattle.object_pairs.specs.claims.Pairs.{by_two, NamedPair}
use Rattle.object_pairs.specs.Pairs.{pairs_in}
use Rattle.object_pairs.specs.Wanted.{AreAllWanted, AreMarked, AreWanted, AreWantedAt, has, IsWanted, Keeps}
use Rattle.object_pairs.proofs.PairLemmas.{front-more, Text}

-- what a set has after one more
abbrev pub Inserts : (old new : List Key) → Key → Type 0
Inserts old new v = (k : Key) → has new (k.0, k.1.now) ≡ cond (eqb v.0 k.0 && bytes_eq v.1.now k.1.now) true (has old (k.0, k.1.now))

pub has-insert : (old new : List Key) (v : Key) → Inserts old new v → (pair : Pair) → has new pair ≡ cond (eqb v.0 pair.0 && bytes_eq v.1.now pair.1) true (has old pair)
has-insert old new v updates pair = updates (pair.0, record { ref_ptr = v.1.ref_ptr; now = pair.1 })

pub insert-keeps : (old new : List Key) (v : Key) → Inserts old new v → Keeps old new
insert-keeps old new v updates pair there =
    has-insert old new v updates pair ∙ ap (λ (b : Bool). cond (eqb v.0 pair.0 && bytes_eq v.1.now pair.1) true b) there ∙ both (eqb v.0 pair.0 && bytes_eq v.1.now pair.1)
  where
    both : (b : Bool) → cond b true true ≡ true
    both true = refl
    both false = refl

pub insert-has : (old new : List Key) (host : ℕ) (description : Text) (given : Option ℕ) → Inserts old new (host, description) → given ≡ Some host
    → (found : ℕ) → given ≡ Some found → has new (found, description.now) ≡ true
insert-has old new host description given updates is found at =
    let same : host ≡ found = same_Some host found (sym is ∙ at) in
    subst (λ (n : ℕ). has new (n, description.now) ≡ true) same
    (has-insert old new (host, description) updates (host, description.now)
    ∙ ap (λ (b : Bool). cond (b && bytes_eq description.now description.now) true (has old (host, description.now))) (eq-eqb host host refl)
    ∙ ap (λ (b : Bool). cond b true (has old (host, description.now))) (nat_list_eq_equiv.refl description.now))

pub keeps-same : (keys : List Key) → Keeps keys keys
keeps-same keys pair there = there

pub keeps-on : (first second third : List Key) → Keeps first second → Keeps second third → Keeps first third
keeps-on first second third one other pair there = other pair (one pair there)

-- ---- pairs and lists that are wanted

wanted-kept : (hosts : List (List ℕ)) (old new : List Key) → Keeps old new → (pair : NamedPair) → IsWanted hosts old pair → IsWanted hosts new pair
wanted-kept hosts old new keeps pair wanted host at = keeps (host, pair.1) (wanted host at)

list-kept : (hosts : List (List ℕ)) (old new : List Key) → Keeps old new → (entries : List (List ℕ)) → AreWanted hosts old entries → AreWanted hosts new entries
list-kept hosts old new keeps entries wanted pairs are = All-weaker (IsWanted hosts old) (IsWanted hosts new) (wanted-kept hosts old new keeps) pairs (wanted pairs are)

-- the first pairs
pub record AreWantedSoFar (hosts : List (List ℕ)) (first now : List Key) (pairs : List NamedPair) : Type 0 where
  pub keeps : Keeps first now
  pub all : All (IsWanted hosts now) pairs

pub so-far-none : (hosts : List (List ℕ)) (keys : List Key) → AreWantedSoFar hosts keys keys []
so-far-none hosts keys = record { keeps = keeps-same keys; all = All-nil (IsWanted hosts keys) }

pub so-far-more : (hosts : List (List ℕ)) (first old new : List Key) (pairs : List (Text × Text)) (i : ℕ) (d : Text × Text) (found : Option ℕ) → i < length pairs
    → AreWantedSoFar hosts first old (pairs_in (take i pairs)) → Keeps old new → found ≡ number_of hosts (get_or pairs i d).0.now
    → ((host : ℕ) → found ≡ Some host → has new (host, (get_or pairs i d).1.now) ≡ true)
    → AreWantedSoFar hosts first new (pairs_in (take (i + 1) pairs))
so-far-more hosts first old new pairs i d found within before keeps is added =
    let pair : NamedPair = ((get_or pairs i d).0.now, (get_or pairs i d).1.now) in
    record {
      keeps = keeps-on first old new before.keeps keeps;
      all = subst (λ (ps : List NamedPair). All (IsWanted hosts new) ps) (sym (front-more pairs i d within))
          (All-append (IsWanted hosts new) (pairs_in (take i pairs)) (pair ∷ [])
          (All-weaker (IsWanted hosts old) (IsWanted hosts new) (wanted-kept hosts old new keeps) (pairs_in (take i pairs)) before.all)
          (All-cons (IsWanted hosts new) pair [] (λ host at. added host (is ∙ at)) (All-nil (IsWanted hosts new))));
    }

-- the pairs of a list, or none where it has none
pub list-wanted : (hosts : List (List ℕ)) (keys : List Key) (entries : List (List ℕ)) (pairs : List NamedPair) → Some pairs ≡ by_two entries
    → All (IsWanted hosts keys) pairs → AreWanted hosts keys entries
list-wanted hosts keys entries pairs is all others at = subst (λ (ps : List NamedPair). All (IsWanted hosts keys) ps) (same_Some pairs others (is ∙ at)) all

pub list-without : (hosts : List (List ℕ)) (keys : List Key) (entries : List (List ℕ)) → None ≡ by_two entries → AreWanted hosts keys entries
list-without hosts keys entries is pairs at = absurd (none-some pairs (is ∙ at))

-- one list more
module _ (hosts : List (List ℕ)) (values : Column) where
  pub wanted-still : (old new : List Key) → Keeps old new → (place : ℕ) → AreWantedAt hosts old values place → AreWantedAt hosts new values place
  wanted-still old new keeps place = list-kept hosts old new keeps (list_at values.blocks values.directive place)

  pub lists-none : (keys : List Key) → AreAllWanted hosts keys values []
  lists-none keys = All-nil (AreWantedAt hosts keys values)

  pub lists-more : (old new : List Key) (places : List ℕ) (i : ℕ) → i < length places → AreAllWanted hosts old values (take i places) → Keeps old new
      → AreWantedAt hosts new values (get_or places i 0) → AreAllWanted hosts new values (take (i + 1) places)
  lists-more old new places i within before keeps here =
      subst (λ (ps : List ℕ). AreAllWanted hosts new values ps) (sym (take_more places i 0 within))
      (All-append (AreWantedAt hosts new values) (take i places) (get_or places i 0 ∷ [])
      (All-weaker (AreWantedAt hosts old values) (AreWantedAt hosts new values) (wanted-still old new keeps) (take i places) before)
      (All-cons (AreWantedAt hosts new values) (get_or places i 0) [] here (All-nil (AreWantedAt hosts new values))))

-- no block was read yet
pub nothing-read : (P : ℕ → Type 0) (marks : List Bool) (count : ℕ) → marks ≡ replicate count false → AreMarked P marks
nothing-read P marks count is = record {
  each = λ at mark. absurd (false≢true (sym (ap (λ (ms : List Bool). get_or ms at false) is ∙ none-marked count at) ∙ mark));
}
