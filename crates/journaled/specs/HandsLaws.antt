-- How what a channel with a journal hands on follows one another.
use Rattle.std.proofs.Common.{◌≡◌, ℕ, ◌≤◌, ◌+◌, Bool, true, false, List, [], ◌∷◌, ◌++◌, Option, None, Some, flat_map, length, map, filter, not, refl, sym, ap, ◌∙◌, subst, arith, append-nil, append_assoc}
use Rattle.std.specs.Prelude.{All}
use Rattle.std.proofs.lemmas.Bool.{true≢false}
use Rattle.std.proofs.lemmas.List.{map-append}
use Rattle.std.proofs.lemmas.List.Elements.{All-append, All-nil}
use Rattle.due_model.specs.declared.notice.Notice.{Notice}
use Rattle.channel.specs.claims.Channels.{Account, Offer}
use Rattle.channel.specs.Channels.{WasOffered}
use Rattle.channel.specs.OfferLaws as offers
use Rattle.journal_text.specs.declared.entry.Entry.{Entry}
use Rattle.journal_text.specs.declared.entry.Entry.TheVariants.{Begun, GivenUp, Taken}
use Rattle.journaled.specs.Claims.{IsHeld, Past, is_settled, new_of, settled_of}
use Rattle.journaled.specs.Hands.{Hands, IsPart, Part, Tells, last_begun, taken_by, taken_of, told_by, told_of}
use Rattle.journaled.specs.Wrapped.{IsOffered, Wrapped, account_of}

pub flat_map-append : {X Y : Type 0} (f : X → List Y) (xs ys : List X) → flat_map f (xs ++ ys) ≡ flat_map f xs ++ flat_map f ys
flat_map-append f [] ys = refl
flat_map-append f (x ∷ xs) ys =
    ap (λ zs. f x ++ zs) (flat_map-append f xs ys) ∙ sym (append_assoc (f x) (flat_map f xs) (flat_map f ys))

-- ---- what entries tell

pub nothing_told : (b : Bool) → Tells b b [] []
nothing_told b = record {
  doubt = [];
  front = refl;
  one = omega arith;
  begun = All-nil (λ n. last_begun [] ≡ Some n);
  whole = λ _. refl;
  silent = λ is. (refl, refl, is);
}

-- the last of two lists is that of the second, where it says something
last_of_both : (one two : List Entry) (n : Notice) → last_begun two ≡ Some n → last_begun (one ++ two) ≡ Some n
last_of_both [] two n h = h
last_of_both (e ∷ one) two n h = after (one ++ two) (last_of_both one two n h)
  where
    none : last_begun [] ≡ Some n → ⊥
    none is = cc

    after : (rest : List Entry) → last_begun rest ≡ Some n → last_begun (e ∷ rest) ≡ Some n
    after [] is = absurd (none is)
    after (next ∷ rest) is = is

All-map : (P Q : Notice → Type 0) (ns : List Notice) → All P ns → ((n : Notice) → P n → Q n) → All Q ns
All-map P Q ns all f = λ k d within. f _ (all k d within)

pub more_told : (was mid is : Bool) (one two : List Entry) (xs ys : List Notice) → Tells was mid one xs → Tells mid is two ys
    → Tells was is (one ++ two) (xs ++ ys)
more_told was true is one two xs ys first next =
    let still = next.silent refl in
    record {
      doubt = first.doubt;
      front = ap (λ zs. xs ++ zs) still.1 ∙ append-nil xs ∙ first.front
          ∙ ap (λ es. told_of es ++ first.doubt) (sym (append-nil one) ∙ ap (λ es. one ++ es) (sym still.0));
      one = first.one;
      begun = subst (λ (es : List Entry). All (λ n. last_begun es ≡ Some n) first.doubt)
          (sym (append-nil one) ∙ ap (λ es. one ++ es) (sym still.0)) first.begun;
      whole = λ no. absurd (true≢false (sym still.2 ∙ no));
      silent = λ was-is. let before = first.silent was-is in (
        ap (λ es. es ++ two) before.0 ∙ still.0,
        ap (λ ns. ns ++ ys) before.1 ∙ still.1,
        still.2,
      );
    }
more_told was false is one two xs ys first next =
    let all : xs ≡ told_of one = first.front ∙ ap (λ ns. told_of one ++ ns) (first.whole refl) ∙ append-nil (told_of one) in
    record {
      doubt = next.doubt;
      front = ap (λ ns. ns ++ ys) all ∙ ap (λ ns. told_of one ++ ns) next.front
          ∙ sym (append_assoc (told_of one) (told_of two) next.doubt)
          ∙ ap (λ ns. ns ++ next.doubt) (sym (flat_map-append told_by one two));
      one = next.one;
      begun = All-map (λ n. last_begun two ≡ Some n) (λ n. last_begun (one ++ two) ≡ Some n) next.doubt next.begun
          (λ n. last_of_both one two n);
      whole = next.whole;
      silent = λ was-is. absurd (true≢false (sym (first.silent was-is).2));
    }

-- ---- what is handed on

pub nothing_handed : (past : Past) (limit : ℕ) (b : Bool) → Hands past limit b b [] [] []
nothing_handed past limit b = record {
  parts = [];
  each = All-nil (IsPart past limit);
  outer_are = refl;
  inner_are = refl;
  entries_are = refl;
  tells = nothing_told b;
}

pub more_handed : (past : Past) (limit : ℕ) (was mid is : Bool) (one two inner inner' : List Offer) (es es' : List Entry)
    → Hands past limit was mid one inner es → Hands past limit mid is two inner' es'
    → Hands past limit was is (one ++ two) (inner ++ inner') (es ++ es')
more_handed past limit was mid is one two inner inner' es es' first next = record {
  parts = first.parts ++ next.parts;
  each = All-append (IsPart past limit) first.parts next.parts first.each next.each;
  outer_are = ap (λ os. os ++ two) first.outer_are ∙ ap (λ os. map (λ p. p.outer) first.parts ++ os) next.outer_are
      ∙ sym (map-append (λ (p : Part). p.outer) first.parts next.parts);
  inner_are = ap (λ os. os ++ inner') first.inner_are ∙ ap (λ os. flat_map (λ p. p.inner) first.parts ++ os) next.inner_are
      ∙ sym (flat_map-append (λ (p : Part). p.inner) first.parts next.parts);
  entries_are = ap (λ os. os ++ es') first.entries_are ∙ ap (λ os. flat_map (λ p. p.entries) first.parts ++ os) next.entries_are
      ∙ sym (flat_map-append (λ (p : Part). p.entries) first.parts next.parts);
  tells = subst (λ (ns : List Notice). Tells was is (es ++ es') ns) (sym (flat_map-append taken_by inner inner'))
      (more_told was mid is es es' (taken_of inner) (taken_of inner') first.tells next.tells);
}

module _ {C J : Type 0} (account : C → Account) (offered : C → List Offer → C → Type 0) (is_broken : J → Bool)
    (wrote : J → List Entry → J → Type 0) where
  pub none_offered : ((c : C) → offered c [] c) → ((j : J) → wrote j [] j) → (s : Wrapped C J)
      → IsOffered account offered is_broken wrote s [] s
  none_offered stays still s = record {
    outer = offers.none_offered (account_of account s);
    past = refl;
    inner = [];
    entries = [];
    hands = nothing_handed s.past (account s.inner).limit (is_broken s.journal);
    handed = stays s.inner;
    written = still s.journal;
  }

  pub more_offered : ((a b c : C) (one two : List Offer) → offered a one b → offered b two c → offered a (one ++ two) c)
      → ((a b c : J) (one two : List Entry) → wrote a one b → wrote b two c → wrote a (one ++ two) c)
      → (a b c : Wrapped C J) (one two : List Offer) → IsOffered account offered is_broken wrote a one b
      → IsOffered account offered is_broken wrote b two c → IsOffered account offered is_broken wrote a (one ++ two) c
  more_offered follows goes a b c one two first next = record {
    outer = offers.more_offered (account_of account a) (account_of account b) (account_of account c) one two first.outer next.outer;
    past = next.past ∙ first.past;
    inner = first.inner ++ next.inner;
    entries = first.entries ++ next.entries;
    hands = more_handed a.past (account a.inner).limit (is_broken a.journal) (is_broken b.journal) (is_broken c.journal) one two
        first.inner next.inner first.entries next.entries first.hands
        (subst (λ (p : Past). Hands p (account a.inner).limit (is_broken b.journal) (is_broken c.journal) two next.inner next.entries)
        first.past
        (subst (λ (l : ℕ). Hands b.past l (is_broken b.journal) (is_broken c.journal) two next.inner next.entries)
        first.outer.limit next.hands));
    handed = follows a.inner b.inner c.inner first.inner next.inner first.handed next.handed;
    written = goes a.journal b.journal c.journal first.entries next.entries first.written next.written;
  }

-- ---- what comes of it

-- Of what was offered and taken, the new is what the inner channel took; the settled is held; and the inner channel was offered nothing
-- that is settled.
pub record IsSplit (past : Past) (offers inner : List Offer) : Type 0 where
  pub new : new_of past (taken_of offers) ≡ taken_of inner
  pub held : All (IsHeld past) (settled_of past (taken_of offers))
  pub unsettled : All (λ o. is_settled past o.notice ≡ false) inner

abbrev pub AreSplit : Type 0
AreSplit = (past : Past) (limit : ℕ) (was is : Bool) (offers inner : List Offer) (entries : List Entry)
    → Hands past limit was is offers inner entries → IsSplit past offers inner
