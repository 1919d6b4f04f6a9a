-- What a mailbox is to its callers.
use Rattle.std.specs.Prelude.{◌≡◌, ℕ, Bool, true, IsTrue, List, codes, Option}
use Rattle.std.specs.Io.KnownBytes.{Appends}
use Rattle.written.specs.claims.Written.{WritesFront}

-- its writer
pub record Mail (W : Type 0) : Type 0 where
  pub writer : W

-- how many bytes a text has at most
abbrev pub mailbox_limit : ℕ
mailbox_limit = 65536

-- what is written last
abbrev pub closing_line : List ℕ
closing_line = codes "-- closed\n"

-- a text that is taken was written whole and flushed, and else a front of it was written
pub record Posts {W : Type 0} (contents : W → Option (List ℕ)) (is_flushed : W → Bool)
    (old : Mail W) (text : List ℕ) (is_taken : Bool) (new : Mail W) : Type 0 where
  pub written : IsTrue is_taken → Appends (contents old.writer) (contents new.writer) text
  pub flushed : IsTrue is_taken → is_flushed new.writer ≡ true
  pub front : WritesFront (contents old.writer) (contents new.writer) text
