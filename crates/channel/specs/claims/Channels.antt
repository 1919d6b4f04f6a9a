-- What a channel keeps of the letters that it was given.
use Rattle.std.specs.Prelude.{ℕ, ◌-◌, Bool, List}
use Rattle.due_model.specs.declared.notice.Notice.{Notice}
use Rattle.channel.specs.declared.Receipt.{Receipt}

-- the receipt of a notice
abbrev pub receipt_of : Notice → Receipt
receipt_of n = record { notice = n }

-- What contracts see of a channel: which it is among those of its caller, how many bytes a text has at most, the receipts so far, in
-- order, how often its device failed, and whether it was closed.
pub record Account : Type 0 where
  pub number : ℕ
  pub limit : ℕ
  pub taken : List Receipt
  pub failures : ℕ
  pub closed : Bool

-- a letter that was offered to a channel, once, and whether it was taken
pub record Offer : Type 0 where
  pub notice : Notice
  pub text : List ℕ
  pub is_taken : Bool
