-- From what a run tells of its channels to what the channels below them have taken.
use Rattle.std.proofs.Common.{◌≡◌, Bool, true, false, cond, List, [], ◌∷◌, ◌++◌, map, refl, sym, ap, ◌∙◌, subst}
use Rattle.std.specs.Prelude.{All}
use Rattle.channel.specs.claims.Channels.{Account, Offer, receipt_of}
use Rattle.channel.specs.Channels.{WasOffered, receipts_of}
use Rattle.channel.specs.declared.Receipt.{Receipt}
use Rattle.due_model.specs.declared.notice.Notice.{Notice}
use Rattle.journal_text.specs.declared.entry.Entry.{Entry}
use Rattle.journaled.specs.Claims.{IsHeld, Past, new_of, settled_of}
use Rattle.journaled.specs.Hands.{taken_of}
use Rattle.journaled.specs.HandsLaws.{AreSplit}
use Rattle.journaled.specs.Wrapped.{IsOffered, Wrapped}
use Rattle.run_resumed.specs.Resumed.{HasHandedOn, notices_of}

-- the receipts of what was taken, by its notices
receipts_by : (o : Offer) (b : Bool) → o.is_taken ≡ b → (rs : List Receipt) (ns : List Notice) → rs ≡ map receipt_of ns
    → cond o.is_taken (receipt_of o.notice ∷ []) [] ++ rs ≡ map receipt_of (cond o.is_taken (o.notice ∷ []) [] ++ ns)
receipts_by o true e rs ns same =
    ap (λ (t : Bool). cond t (receipt_of o.notice ∷ []) [] ++ rs) e ∙ ap (λ (xs : List Receipt). receipt_of o.notice ∷ xs) same
    ∙ sym (ap (λ (t : Bool). map receipt_of (cond t (o.notice ∷ []) [] ++ ns)) e)
receipts_by o false e rs ns same =
    ap (λ (t : Bool). cond t (receipt_of o.notice ∷ []) [] ++ rs) e ∙ same
    ∙ sym (ap (λ (t : Bool). map receipt_of (cond t (o.notice ∷ []) [] ++ ns)) e)

receipts_are : (offers : List Offer) → receipts_of offers ≡ map receipt_of (taken_of offers)
receipts_are [] = refl
receipts_are (o ∷ offers) = receipts_by o o.is_taken refl (receipts_of offers) (taken_of offers) (receipts_are offers)

notices_again : (ns : List Notice) → notices_of (map receipt_of ns) ≡ ns
notices_again [] = refl
notices_again (n ∷ ns) = ap (λ (rest : List Notice). n ∷ rest) (notices_again ns)

-- A channel that had taken nothing, over one that had taken nothing, and was offered letters.
pub handed_on : {C J : Type 0} (account : C → Account) (offered : C → List Offer → C → Type 0) (is_broken : J → Bool)
    (wrote : J → List Entry → J → Type 0) (split : AreSplit)
    (tells : (x : C) (offers : List Offer) (y : C) → offered x offers y → WasOffered (account x) offers (account y))
    (a b : Wrapped C J) (offers : List Offer) → IsOffered account offered is_broken wrote a offers b
    → a.kept.taken ≡ [] → (account a.inner).taken ≡ [] → HasHandedOn account b
handed_on account offered is_broken wrote split tells a b offers h none none' =
    let parts = split a.past (account a.inner).limit (is_broken a.journal) (is_broken b.journal) offers h.inner h.entries h.hands in
    let took : notices_of b.kept.taken ≡ taken_of offers =
    ap notices_of (h.outer.taken ∙ ap (λ (rs : List Receipt). rs ++ receipts_of offers) none ∙ receipts_are offers) ∙ notices_again (taken_of offers) in
    let inner : (account b.inner).taken ≡ map receipt_of (taken_of h.inner) =
    (tells a.inner h.inner b.inner h.handed).taken ∙ ap (λ (rs : List Receipt). rs ++ receipts_of h.inner) none' ∙ receipts_are h.inner in
    record {
      new = inner ∙ ap (map receipt_of) (sym parts.new)
          ∙ ap (λ (past : Past). map receipt_of (new_of past (taken_of offers))) (sym h.past)
          ∙ ap (λ (ns : List Notice). map receipt_of (new_of b.past ns)) (sym took);
      held = subst (λ (ns : List Notice). All (IsHeld b.past) (settled_of b.past ns)) (sym took)
          (subst (λ (past : Past). All (IsHeld past) (settled_of past (taken_of offers))) (sym h.past) parts.held);
    }
