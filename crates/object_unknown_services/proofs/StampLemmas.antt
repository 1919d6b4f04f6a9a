-- Stamps of hosts.
use Rattle.std.proofs.Common.{◌≡◌, ℕ, ◌+◌, ◌<◌, ◌≤◌, Bool, true, false, List, [], ◌∷◌, length, take, set, get_or, length-set, get_or-set_same, get_or-set_other, refl, sym, ap, subst, ⊎_elim, ◌∙◌, ◌⊎◌, inl, inr, arith}
use Rattle.std.specs.Prelude.{Contains, not, ◌↔◌}
use Rattle.std.specs.List.{list_any}
use Rattle.std.proofs.lemmas.Bool.{cases_eq, false≢true}
use Rattle.std.proofs.lemmas.List.{take_more}
use Rattle.std.proofs.lemmas.List.Folds.{Any-from_list_any, list_any-from_Any}
use Rattle.std.proofs.lemmas.List.Elements.{Contains-append_cases, Contains-append_left, Contains-append_right}
use Rattle.lemmas.proofs.Elements.{Contains-cases, Contains-here, Contains-none}
use Rattle.object_listing.specs.claims.Listing.{AreThose, IsListed}
use Rattle.object_reached.specs.declared.roles.Role.{Role}
use Rattle.object_reached.specs.claims.Listed.{of_hosts}
use Rattle.object_reached.specs.claims.Roles.{directives_of}
use Rattle.object_reader.specs.declared.block.Block.{Block}
use Rattle.object_services.specs.claims.Hosts.{AreHosts, HasHost}
use Rattle.object_unknown_services.specs.Stamps.{is_stamped, IsHostOf, Stamped}
use Rattle.object_unknown_services.specs.Unknown.{ListsUnstamped}

-- ---- what a list of one more contains

pub more-keeps : (xs : List ℕ) (i x : ℕ) → i < length xs → Contains (take i xs) x → Contains (take (i + 1) xs) x
more-keeps xs i x within at = subst (λ (ys : List ℕ). Contains ys x) (sym (take_more xs i 0 within)) (Contains-append_left (take i xs) (get_or xs i 0 ∷ []) x at)

pub more-last : (xs : List ℕ) (i : ℕ) → i < length xs → Contains (take (i + 1) xs) (get_or xs i 0)
more-last xs i within = subst (λ (ys : List ℕ). Contains ys (get_or xs i 0)) (sym (take_more xs i 0 within)) (Contains-append_right (take i xs) (get_or xs i 0 ∷ []) (get_or xs i 0) (Contains-here (get_or xs i 0) []))

pub more-cases : (xs : List ℕ) (i x : ℕ) → i < length xs → Contains (take (i + 1) xs) x → Contains (take i xs) x ⊎ (x ≡ get_or xs i 0)
more-cases xs i x within at = ⊎_elim
    (λ (before : Contains (take i xs) x). inl before)
    (λ (last : Contains (get_or xs i 0 ∷ []) x). ⊎_elim (λ (here : get_or xs i 0 ≡ x). inr (sym here)) (λ (none : Contains [] x). absurd (Contains-none x none)) (Contains-cases (get_or xs i 0) x [] last))
    (Contains-append_cases (take i xs) (get_or xs i 0 ∷ []) x (subst (λ (ys : List ℕ). Contains ys x) (take_more xs i 0 within) at))

-- ---- stamps that are given

pub stamped-none : (P : ℕ → Type 0) (stamp : ℕ) (stamps : List ℕ) → ((host : ℕ) → P host → ⊥) → Stamped P stamp stamps stamps
stamped-none P stamp stamps none = record { long = refl; got = λ host low p. absurd (none host p); rest = λ host. inl refl }

pub stamped-past : (host stamp : ℕ) (stamps : List ℕ) → length stamps ≤ host → Stamped (λ other. other ≡ host) stamp stamps stamps
stamped-past host stamp stamps past = record { long = refl; got = λ other low is. absurd (omega (arith, low, is, past)); rest = λ other. inl refl }

pub stamped-one : (host stamp : ℕ) (old new : List ℕ) → host < length old → new ≡ set old host stamp → Stamped (λ other. other ≡ host) stamp old new
stamped-one host stamp old new within is = record {
  long = ap (λ (ss : List ℕ). length ss) is ∙ length-set old host stamp;
  got = λ other low same. subst (λ (h : ℕ). get_or new h 0 ≡ stamp) (sym same) here;
  rest = λ other. elim (cases_eq other host) [
    | inl same ↦ inr (subst (λ (h : ℕ). get_or new h 0 ≡ stamp) (sym same) here, same)
    | inr ne ↦ inl (ap (λ (ss : List ℕ). get_or ss other 0) is ∙ get_or-set_other old host other stamp 0 ne)
  ];
}
  where
    here : get_or new host 0 ≡ stamp
    here = ap (λ (ss : List ℕ). get_or ss host 0) is ∙ get_or-set_same old host stamp 0 within

pub stamped-both : (P Q R : ℕ → Type 0) (stamp : ℕ) (a b c : List ℕ) → ((host : ℕ) → P host ⊎ Q host → R host) → ((host : ℕ) → R host → P host ⊎ Q host)
    → Stamped P stamp a b → Stamped Q stamp b c → Stamped R stamp a c
stamped-both P Q R stamp a b c to from p q = record {
  long = q.long ∙ p.long;
  got = λ host low r. ⊎_elim
      (λ (by_p : P host).
      let long = q.long in
      let first = p.got host (omega (arith, low, long)) by_p in
      ⊎_elim (λ (kept : get_or c host 0 ≡ get_or b host 0). kept ∙ first) (λ (again : (get_or c host 0 ≡ stamp) × Q host). again.0) (q.rest host))
      (λ (by_q : Q host). q.got host low by_q)
      (from host r);
  rest = λ host. ⊎_elim
      (λ (kept : get_or c host 0 ≡ get_or b host 0). ⊎_elim
      (λ (before : get_or b host 0 ≡ get_or a host 0). inl (kept ∙ before))
      (λ (first : (get_or b host 0 ≡ stamp) × P host). inr (kept ∙ first.0, to host (inl first.1)))
      (p.rest host))
      (λ (again : (get_or c host 0 ≡ stamp) × Q host). inr (again.0, to host (inr again.1)))
      (q.rest host);
}

pub each-none : (stamp : ℕ) (stamps : List ℕ) → Stamped (Contains []) stamp stamps stamps
each-none stamp stamps = stamped-none (Contains []) stamp stamps (λ host at. Contains-none host at)

pub each-more : (stamp : ℕ) (hosts : List ℕ) (i : ℕ) (old now new : List ℕ) → i < length hosts → Stamped (Contains (take i hosts)) stamp old now
    → Stamped (λ other. other ≡ get_or hosts i 0) stamp now new → Stamped (Contains (take (i + 1) hosts)) stamp old new
each-more stamp hosts i old now new within before here =
    stamped-both (Contains (take i hosts)) (λ other. other ≡ get_or hosts i 0) (Contains (take (i + 1) hosts)) stamp old now new to (λ host at. more-cases hosts i host within at) before here
  where
    to : (host : ℕ) → Contains (take i hosts) host ⊎ (host ≡ get_or hosts i 0) → Contains (take (i + 1) hosts) host
    to host (inl at) = more-keeps hosts i host within at
    to host (inr is) = subst (λ (h : ℕ). Contains (take (i + 1) hosts) h) (sym is) (more-last hosts i within)

pub all-none : (blocks : List Block) (stamp : ℕ) (stamps : List ℕ) → Stamped (IsHostOf blocks []) stamp stamps stamps
all-none blocks stamp stamps = stamped-none (IsHostOf blocks []) stamp stamps (λ host of. Contains-none of.0 of.1)

pub all-more : (blocks : List Block) (stamp : ℕ) (places : List ℕ) (i : ℕ) (old now new hosts : List ℕ) → i < length places → AreHosts blocks (get_or places i 0) hosts
    → Stamped (IsHostOf blocks (take i places)) stamp old now → Stamped (Contains hosts) stamp now new → Stamped (IsHostOf blocks (take (i + 1) places)) stamp old new
all-more blocks stamp places i old now new hosts within are before here =
    stamped-both (IsHostOf blocks (take i places)) (Contains hosts) (IsHostOf blocks (take (i + 1) places)) stamp old now new to from before here
  where
    to : (host : ℕ) → IsHostOf blocks (take i places) host ⊎ Contains hosts host → IsHostOf blocks (take (i + 1) places) host
    to host (inl of) = (of.0, more-keeps places i of.0 within of.1, of.2)
    to host (inr at) = (get_or places i 0, more-last places i within, (are.exactly host).0 at)

    from : (host : ℕ) → IsHostOf blocks (take (i + 1) places) host → IsHostOf blocks (take i places) host ⊎ Contains hosts host
    from host of = ⊎_elim
        (λ (at : Contains (take i places) of.0). inl (of.0, at, of.2))
        (λ (last : of.0 ≡ get_or places i 0). inr ((are.exactly host).1 (subst (λ (p : ℕ). HasHost blocks p host) last of.2)))
        (more-cases places i of.0 within of.1)

-- ---- hosts without a stamp

not-true : (b : Bool) → not b ≡ true → b ≡ false
not-true true is = absurd (false≢true is)
not-true false is = refl

pub unstamped : (blocks : List Block) (role : Role) (stamps : List ℕ) (stamp place : ℕ) (hosts : List ℕ) (lacks : Bool)
    → AreThose (IsListed blocks (of_hosts (directives_of role)) place) hosts → lacks ≡ list_any (λ host. not (is_stamped stamps stamp host)) hosts
    → (lacks ≡ true) ↔ ListsUnstamped blocks role stamps stamp place
unstamped blocks role stamps stamp place hosts lacks are is =
    let test : ℕ → Bool = λ host. not (is_stamped stamps stamp host) in (
      (λ yes. let found = Any-from_list_any test hosts (sym is ∙ yes) in (found.1, (are.exactly found.1).0 (found.0, found.2, found.3), not-true (is_stamped stamps stamp found.1) found.4)),
      (λ some. let at = (are.exactly some.0).1 some.1 in is ∙ list_any-from_Any test hosts (at.0, some.0, at.1, at.2, ap (λ (b : Bool). not b) some.2)),
    )
