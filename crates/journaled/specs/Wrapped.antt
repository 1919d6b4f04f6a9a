-- What a channel with a journal is to its callers.
use Rattle.std.specs.Prelude.{◌≡◌, ℕ, Bool, List}
use Rattle.channel.specs.claims.Channels.{Account, Offer}
use Rattle.channel.specs.Channels.{WasOffered}
use Rattle.channel.specs.Record.{Record}
use Rattle.journal_text.specs.declared.entry.Entry.{Entry}
use Rattle.journaled.specs.Claims.{Past}
use Rattle.journaled.specs.Hands.{Hands}

-- the channel that it hands letters to, the journal, what earlier runs left, what it keeps itself, for how much room was asked, and
-- whether it was closed
pub record Wrapped (C J : Type 0) : Type 0 where
  pub inner : C
  pub journal : J
  pub past : Past
  pub kept : Record
  pub granted : ℕ
  pub closed : Bool

-- what a run tells of it: it is the inner channel, but for what it has taken itself
abbrev pub account_of : {C J : Type 0} → (C → Account) → Wrapped C J → Account
account_of account s = record {
  number = (account s.inner).number;
  limit = (account s.inner).limit;
  taken = s.kept.taken;
  failures = s.kept.failures;
  closed = s.closed;
}

-- What it becomes by being offered letters: some of them were offered to its inner channel, and that was written down.
pub record IsOffered {C J : Type 0} (account : C → Account) (offered : C → List Offer → C → Type 0) (is_broken : J → Bool)
    (wrote : J → List Entry → J → Type 0) (a : Wrapped C J) (offers : List Offer) (b : Wrapped C J)
    : Type 0
  where
    pub outer : WasOffered (account_of account a) offers (account_of account b)
    pub past : b.past ≡ a.past
    pub inner : List Offer
    pub entries : List Entry
    pub hands : Hands a.past (account a.inner).limit (is_broken a.journal) (is_broken b.journal) offers inner entries
    pub handed : offered a.inner inner b.inner
    pub written : wrote a.journal entries b.journal
