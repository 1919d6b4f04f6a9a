-- A journal in memory to its callers.
use Rattle.std.proofs.Common.{◌≡◌, Bool, List, [], ◌++◌, append-nil, append_assoc, ap, sym, ◌∙◌}
use Rattle.journal_text.specs.declared.entry.Entry.{Entry}

pub record Memory : Type 0 where
  pub entries : List Entry
  pub is_broken : Bool

-- nothing is added
pub stays_entries : (xs : List Entry) → xs ≡ xs ++ []
stays_entries xs = sym (append-nil xs)

-- some are, and then others
pub follows_entries : (xs ys zs one two : List Entry) → ys ≡ xs ++ one → zs ≡ ys ++ two → zs ≡ xs ++ (one ++ two)
follows_entries xs ys zs one two first next =
    next ∙ ap (λ (x : List Entry). x ++ two) first ∙ append_assoc xs one two
