-- How offers to a channel follow one another.
use Rattle.std.proofs.Common.{◌≡◌, List, [], ◌∷◌, ◌++◌, if◌then◌else◌, refl, sym, ap, ◌∙◌, append-nil, append_assoc}
use Rattle.channel.specs.claims.Channels.{Account, Offer, receipt_of}
use Rattle.channel.specs.Channels.{WasOffered, receipts_of}
use Rattle.channel.specs.declared.Receipt.{Receipt}

receipts-append : (one two : List Offer) → receipts_of (one ++ two) ≡ receipts_of one ++ receipts_of two
receipts-append [] two = refl
receipts-append (o ∷ one) two =
    ap (λ (rs : List Receipt). (if o.is_taken then receipt_of o.notice ∷ [] else []) ++ rs) (receipts-append one two)
    ∙ sym (append_assoc (if o.is_taken then receipt_of o.notice ∷ [] else []) (receipts_of one) (receipts_of two))

-- nothing is offered
pub none_offered : (a : Account) → WasOffered a [] a
none_offered a = record { number = refl; limit = refl; taken = sym (append-nil a.taken) }

-- some are, and then others
pub more_offered : (a b c : Account) (one two : List Offer) → WasOffered a one b → WasOffered b two c → WasOffered a (one ++ two) c
more_offered a b c one two first next = record {
  number = next.number ∙ first.number;
  limit = next.limit ∙ first.limit;
  taken = next.taken ∙ ap (λ (rs : List Receipt). rs ++ receipts_of two) first.taken
      ∙ append_assoc a.taken (receipts_of one) (receipts_of two)
      ∙ ap (λ (rs : List Receipt). a.taken ++ rs) (sym (receipts-append one two));
}
