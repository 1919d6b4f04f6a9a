-- The services among what is wanted, one host or one service block more.
use Rattle.std.proofs.Common.{◌≡◌, ℕ, ◌+◌, ◌<◌, ◌≤◌, Bool, true, false, cond, ◌&&◌, ◌||◌, List, [], ◌∷◌, length, take, get_or, refl, sym, ap, subst, eqb, eqb-true, eq-eqb, ⊎_elim, ◌∙◌, ◌⊎◌, inl, inr, arith}
use Rattle.std.specs.Prelude.{Contains}
use Rattle.std.specs.List.{list_any}
use Rattle.std.specs.Str.{bytes_eq}
use Rattle.std.proofs.lemmas.Bool.{and_from, and_parts, cases_lt, false≢true, or_cases}
use Rattle.std.proofs.lemmas.Cmp.{nat_eq_equiv, nat_list_eq_equiv}
use Rattle.std.proofs.lemmas.List.{nil_from_length, take_more}
use Rattle.std.proofs.lemmas.List.Folds.{list_any-append}
use Rattle.std.proofs.lemmas.Slice.Eq.{bytes_eq-Decides}
use Rattle.lemmas.proofs.Elements.{Contains-cases, Contains-here, Contains-later, Contains-none}
use Rattle.object_reader.specs.declared.block.Block.{Block}
use Rattle.object_services.specs.claims.Doubled.{description_of, place_of}
use Rattle.object_services.specs.claims.Hosts.{AreHosts, HasHost}
use Rattle.object_services.specs.claims.Numbers.{Pair}
use Rattle.object_services.specs.Numbers.{Key}
use Rattle.object_pairs.specs.Wanted.{adds, AddsFound, AreFound, AreFoundBelow, has, HasServiceBelow}
use Rattle.object_pairs.proofs.PairLemmas.{Text}
use Rattle.object_pairs.proofs.WantedLemmas.{has-insert, Inserts}

true-either : (a b : Bool) → (a ≡ true) ⊎ (b ≡ true) → (a || b) ≡ true
true-either true b either = refl
true-either false b (inl one) = absurd (false≢true one)
true-either false b (inr other) = other

-- ---- one host more

kept : (a b : Bool) → a ≡ (a || (b && false))
kept true b = refl
kept false true = refl
kept false false = refl

-- added where it is wanted
added : (e d w first : Bool) → ((e && d) ≡ true → w ≡ true) → cond (e && d) true first ≡ (first || (w && (d && (e || false))))
added true true true true is = refl
added true true true false is = refl
added true true false first is = absurd (false≢true (is refl))
added true false w first is = kept first w
added false true w first is = kept first w
added false false w first is = kept first w

-- and not where it isn't
not-added : (e d w first : Bool) → ((e && d) ≡ true → w ≡ false) → first ≡ (first || (w && (d && (e || false))))
not-added e d w true is = refl
not-added true true true false is = absurd (false≢true (sym (is refl)))
not-added true true false false is = refl
not-added true false true false is = refl
not-added true false false false is = refl
not-added false true true false is = refl
not-added false true false false is = refl
not-added false false true false is = refl
not-added false false false false is = refl

-- pairs that are the same are there alike
has-same : (keys : List Key) (host : ℕ) (description : List ℕ) (pair : Pair) (b : Bool) → (eqb pair.0 host && bytes_eq pair.1 description) ≡ true → has keys (host, description) ≡ b → has keys pair ≡ b
has-same keys host description pair b same is =
    let both = and_parts (eqb pair.0 host) (bytes_eq pair.1 description) same in
    ap (λ (n : ℕ). has keys (n, pair.1)) (eqb-true pair.0 host both.0)
    ∙ ap (λ (text : List ℕ). has keys (host, text)) ((bytes_eq-Decides pair.1 description).0 both.1) ∙ is

module _ (wanted : List Key) (description : Text) (host : ℕ) (old : List Key) where
  turned : (pair : Pair) → (eqb host pair.0 && bytes_eq description.now pair.1) ≡ (eqb pair.0 host && bytes_eq pair.1 description.now)
  turned pair = ap (λ (b : Bool). b && bytes_eq description.now pair.1) (nat_eq_equiv.symm host pair.0)
      ∙ ap (λ (b : Bool). eqb pair.0 host && b) (nat_list_eq_equiv.symm description.now pair.1)

  -- a host that is wanted
  pub host-added : (new : List Key) → has wanted (host, description.now) ≡ true → Inserts old new (host, description) → AddsFound wanted description.now (host ∷ []) old new
  host-added new is updates pair =
      has-insert old new (host, description) updates pair
      ∙ ap (λ (b : Bool). cond b true (has old pair)) (turned pair)
      ∙ added (eqb pair.0 host) (bytes_eq pair.1 description.now) (has wanted pair) (has old pair) (λ same. has-same wanted host description.now pair true same is)

  -- one that isn't
  pub host-left : has wanted (host, description.now) ≡ false → AddsFound wanted description.now (host ∷ []) old old
  host-left is pair =
      not-added (eqb pair.0 host) (bytes_eq pair.1 description.now) (has wanted pair) (has old pair) (λ same. has-same wanted host description.now pair false same is)

any-more : (pair : Pair) (hosts : List ℕ) (i d : ℕ) → i < length hosts
    → list_any (λ host. eqb pair.0 host) (take (i + 1) hosts) ≡ (list_any (λ host. eqb pair.0 host) (take i hosts) || (eqb pair.0 (get_or hosts i d) || false))
any-more pair hosts i d within = ap (list_any (λ host. eqb pair.0 host)) (take_more hosts i d within) ∙ list_any-append (λ host. eqb pair.0 host) (take i hosts) (get_or hosts i d ∷ [])

-- the hosts so far and one more
pub hosts-more : (wanted : List Key) (description : List ℕ) (hosts : List ℕ) (i d : ℕ) (first old new : List Key) → i < length hosts
    → AddsFound wanted description (take i hosts) first old → AddsFound wanted description (get_or hosts i d ∷ []) old new → AddsFound wanted description (take (i + 1) hosts) first new
hosts-more wanted description hosts i d first old new within before here pair =
    here pair
    ∙ ap (λ (b : Bool). b || (has wanted pair && (bytes_eq pair.1 description && (eqb pair.0 (get_or hosts i d) || false)))) (before pair)
    ∙ both (has first pair) (has wanted pair) (bytes_eq pair.1 description) (list_any (λ host. eqb pair.0 host) (take i hosts)) (eqb pair.0 (get_or hosts i d) || false)
    ∙ ap (λ (b : Bool). has first pair || (has wanted pair && (bytes_eq pair.1 description && b))) (sym (any-more pair hosts i d within))
  where
    both : (a w d x y : Bool) → ((a || (w && (d && x))) || (w && (d && y))) ≡ (a || (w && (d && (x || y))))
    both true w d x y = refl
    both false false d x y = refl
    both false true false x y = refl
    both false true true x y = refl

pub adds-none : (wanted : List Key) (description : List ℕ) (first : List Key) → AddsFound wanted description [] first first
adds-none wanted description first pair = none (has first pair) (has wanted pair) (bytes_eq pair.1 description)
  where
    none : (a w b : Bool) → a ≡ (a || (w && (b && false)))
    none true w b = refl
    none false true true = refl
    none false true false = refl
    none false false b = refl

-- ---- one service block more

any-contains : (k : ℕ) (xs : List ℕ) → list_any (λ x. eqb k x) xs ≡ true → Contains xs k
any-contains k [] any = absurd (false≢true any)
any-contains k (x ∷ xs) any = ⊎_elim
    (λ (same : eqb k x ≡ true). subst (λ (y : ℕ). Contains (x ∷ xs) y) (sym (eqb-true k x same)) (Contains-here x xs))
    (λ (later : list_any (λ y. eqb k y) xs ≡ true). Contains-later x k xs (any-contains k xs later))
    (or_cases (eqb k x) (list_any (λ y. eqb k y) xs) any)

contains-any : (k : ℕ) (xs : List ℕ) → Contains xs k → list_any (λ x. eqb k x) xs ≡ true
contains-any k [] at = absurd (Contains-none k at)
contains-any k (x ∷ xs) at = ⊎_elim
    (λ (same : x ≡ k). true-either (eqb k x) (list_any (λ y. eqb k y) xs) (inl (eq-eqb k x (sym same))))
    (λ (later : Contains xs k). true-either (eqb k x) (list_any (λ y. eqb k y) xs) (inr (contains-any k xs later)))
    (Contains-cases x k xs at)

pub found-none : (blocks : List Block) (wanted : List Key) → AreFoundBelow blocks 0 wanted []
found-none blocks wanted pair = ((λ is. absurd (false≢true is)), (λ some. let low = some.1.1 in absurd (omega (arith, low))))

pub found-more : (blocks : List Block) (wanted : List Key) (number place : ℕ) (description : List ℕ) (hosts : List ℕ) (old new : List Key)
    → place ≡ place_of blocks number → description ≡ description_of blocks number → AreHosts blocks place hosts
    → AreFoundBelow blocks number wanted old → AddsFound wanted description hosts old new → AreFoundBelow blocks (number + 1) wanted new
found-more blocks wanted number place description hosts old new placed described are before adds_found pair = (to, from)
  where
    to : has new pair ≡ true → (has wanted pair ≡ true) × HasServiceBelow blocks (number + 1) pair.0 pair.1
    to is = ⊎_elim
        (λ (there : has old pair ≡ true).
        let one = (before pair).0 there in
        (one.0, (one.1.0, (let low = one.1.1 in omega (arith, low)), one.1.2, one.1.3)))
        (λ (came : adds wanted description hosts pair ≡ true).
        let one = and_parts (has wanted pair) (bytes_eq pair.1 description && list_any (λ host. eqb pair.0 host) hosts) came in
        let two = and_parts (bytes_eq pair.1 description) (list_any (λ host. eqb pair.0 host) hosts) one.1 in (
          one.0,
          (
            number,
            omega arith,
            sym described ∙ sym ((bytes_eq-Decides pair.1 description).0 two.0),
            ((subst (λ (p : ℕ). AreHosts blocks p hosts) placed are).exactly pair.0).0 (any-contains pair.0 hosts two.1),
          ),
        ))
        (or_cases (has old pair) (adds wanted description hosts pair) (sym (adds_found pair) ∙ is))

    from : (has wanted pair ≡ true) × HasServiceBelow blocks (number + 1) pair.0 pair.1 → has new pair ≡ true
    from some = adds_found pair ∙ true-either (has old pair) (adds wanted description hosts pair) (⊎_elim
        (λ (early : some.1.0 < number). inl ((before pair).1 (some.0, (some.1.0, early, some.1.2, some.1.3))))
        (λ (late : number ≤ some.1.0).
        let low = some.1.1 in
        let same : some.1.0 ≡ number = omega (arith, late, low) in
        let text : pair.1 ≡ description = sym some.1.2 ∙ ap (description_of blocks) same ∙ sym described in
        inr (and_from (has wanted pair) (bytes_eq pair.1 description && list_any (λ host. eqb pair.0 host) hosts) some.0
        (and_from (bytes_eq pair.1 description) (list_any (λ host. eqb pair.0 host) hosts) ((bytes_eq-Decides pair.1 description).1 text)
        (contains-any pair.0 hosts (((subst (λ (p : ℕ). AreHosts blocks p hosts) placed are).exactly pair.0).1
        (subst (λ (n : ℕ). HasHost blocks (place_of blocks n) pair.0) same some.1.3))))))
        (cases_lt some.1.0 number))

-- nothing is wanted
pub found-nothing : (blocks : List Block) (wanted : List Key) → length wanted ≡ 0 → AreFound blocks wanted []
found-nothing blocks wanted none pair = (
  (λ is. absurd (false≢true is)),
  (λ some. absurd (false≢true (ap (λ (keys : List Key). has keys pair) (sym (nil_from_length wanted none)) ∙ some.0))),
)
