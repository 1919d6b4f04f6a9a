-- What a channel over a device is to its callers.
use Rattle.std.specs.Prelude.{◌≡◌, ℕ, ◌≤◌, Bool, false, List, length, Option, Some, None, is_none, ⊤}
use Rattle.channel.specs.claims.Channels.{Account}
use Rattle.channel.specs.Record.{Record}
use Rattle.channel.specs.declared.Kind.{Kind}

-- the device, none once the channel was closed, what is kept, its number, and the device's limit and kind
pub record Held (D : Type 0) : Type 0 where
  pub device : Option D
  pub kept : Record
  pub number : ℕ
  pub limit : ℕ
  pub kind : Kind

-- what a run tells of it
abbrev pub account_of : {D : Type 0} → Held D → Account
account_of h = record {
  number = h.number;
  limit = h.limit;
  taken = h.kept.taken;
  failures = h.kept.failures;
  closed = is_none h.device;
}

-- the limit and the kind are those of the device
abbrev pub IsOfDevice : {D : Type 0} → (limit_of : D → ℕ) → (kind_of : D → Kind) → (limit : ℕ) → (kind : Kind) → Option D → Type 0
IsOfDevice limit_of kind_of limit kind None = ⊤
IsOfDevice limit_of kind_of limit kind (Some d) = (limit ≡ limit_of d) × (kind ≡ kind_of d)

-- what a text makes of the device, and whether it took the text; a closed channel has none, and takes nothing
abbrev pub SendsTo : {D : Type 0} → (sends : D → List ℕ → Bool → D → Type 0) → (old : Option D) → (text : List ℕ) → (is_taken : Bool)
    → (new : Option D) → Type 0
SendsTo sends None text is_taken new = (new ≡ None) × (is_taken ≡ false)
SendsTo {D} sends (Some old) text is_taken new = (device : D) × (new ≡ Some device) × sends old text is_taken device

-- a text is within the limit of the device, if there is one
abbrev pub IsWithin : {D : Type 0} → (limit_of : D → ℕ) → Option D → (text : List ℕ) → Type 0
IsWithin limit_of None text = ⊤
IsWithin limit_of (Some d) text = length text ≤ limit_of d

-- a device stays one of its limit and its kind, and where there is none, none comes
abbrev pub KeepsLimits : {D : Type 0} → (limit_of : D → ℕ) → (kind_of : D → Kind) → (old new : Option D) → Type 0
KeepsLimits limit_of kind_of None new = new ≡ None
KeepsLimits {D} limit_of kind_of (Some old) new = (device : D) × (new ≡ Some device) × (limit_of device ≡ limit_of old) × (kind_of device ≡ kind_of old)
