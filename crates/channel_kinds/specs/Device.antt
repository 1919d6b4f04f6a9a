-- What a device of one of the three kinds is to its callers.
use Rattle.std.specs.Prelude.{◌≡◌, ℕ, Bool, List, Option}
use Rattle.channel.specs.declared.Kind.{Kind}
use Rattle.channel.specs.declared.Kind.TheVariants as kinds
use Rattle.channel_kinds.specs.declared.device.AnyDevice.{AnyDevice}
use Rattle.channel_kinds.specs.declared.device.AnyDevice.TheVariants.{Mailbox, Pager, Spawned}
use Rattle.channel_kinds.specs.Mailbox.{Mail, mailbox_limit, Posts}
use Rattle.channel_kinds.specs.Dialled.{Dialled, Redials}
use Rattle.channel_kinds.specs.Pager.{pager_limit}
use Rattle.channel_kinds.specs.Spawned.{program_limit}

-- how many bytes a text has at most
abbrev pub limit_of : {W S D R : Type 0} → AnyDevice W S D R → ℕ
limit_of (Mailbox mailbox) = mailbox_limit
limit_of (Pager pager) = pager_limit
limit_of (Spawned spawned) = program_limit

abbrev pub kind_of : {W S D R : Type 0} → AnyDevice W S D R → Kind
kind_of (Mailbox mailbox) = kinds.Mailbox
kind_of (Pager pager) = kinds.Pager
kind_of (Spawned spawned) = kinds.Spawned

-- what a text makes of it: it stays of its kind, and does what the one that it holds does
abbrev pub sends_of : {W S D R : Type 0} → (contents : W → Option (List ℕ)) → (is_flushed : W → Bool)
    → (asked remaining : S → Option (List ℕ)) → (is_asked : S → Bool) → (reads : S → ℕ)
    → (old : AnyDevice W S D R) → (text : List ℕ) → (is_taken : Bool) → (new : AnyDevice W S D R) → Type 0
sends_of {W} contents is_flushed asked remaining is_asked reads (Mailbox old) text is_taken new =
    (mailbox : Mail W) × (new ≡ Mailbox mailbox) × Posts contents is_flushed old text is_taken mailbox
sends_of {W} {S} contents is_flushed asked remaining is_asked reads (Pager old) text is_taken new =
    (pager : Dialled S) × (new ≡ Pager pager) × Redials asked remaining is_asked reads old text is_taken pager
sends_of contents is_flushed asked remaining is_asked reads (Spawned old) text is_taken new = new ≡ Spawned old
