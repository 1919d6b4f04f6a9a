-- Which notices of two configurations are the same: objects, contacts and lanes are numbered in each by itself, so they are
-- compared by their names.
use Rattle.std.specs.Prelude.{ℕ, Bool, false, true, ◌&&◌, List, Option, None, Some, slice_get}
use Rattle.std.specs.Option.{option_map_or}
use Rattle.std.specs.Str.{bytes_eq}
use Rattle.due_model.specs.declared.config.Config.{Config}
use Rattle.due_model.specs.declared.config.ObjectId.{ObjectId}
use Rattle.due_model.specs.declared.notice.Notice.{Notice}
use Rattle.notice_text.specs.claims.Texts.{contact_text, lane_text, own_name}

-- the number of an object's host, if it is a service
abbrev pub host_of : Config → ℕ → Option ObjectId
host_of c o = option_map_or (λ object. object.host) (slice_get c.objects o) None

-- the name of the host of this number
abbrev pub name_of_host : Config → Option ObjectId → Option (List ℕ)
name_of_host c None = None
name_of_host c (Some host) = Some (own_name c host.0)

-- What tells a notice of an event from others of it: the names of the contact, of the command, of the object, and of its
-- host, if it is a service.
pub record Key : Type 0 where
  pub contact : List ℕ
  pub lane : List ℕ
  pub name : List ℕ
  pub host : Option (List ℕ)

abbrev pub key_of : Config → Notice → Key
key_of c n = record {
  contact = contact_text c n.contact.0;
  lane = lane_text c n.lane.0;
  name = own_name c n.object.0;
  host = name_of_host c (host_of c n.object.0);
}

-- two hosts, or services of hosts of one name
abbrev pub same_host : Option (List ℕ) → Option (List ℕ) → Bool
same_host None None = true
same_host None (Some k) = false
same_host (Some h) None = false
same_host (Some h) (Some k) = bytes_eq h k

abbrev pub same_key : Key → Key → Bool
same_key k l =
    bytes_eq k.contact l.contact && bytes_eq k.lane l.lane && bytes_eq k.name l.name
    && same_host k.host l.host

-- a notice of the first configuration and one of the second
abbrev pub is_same : Config → Config → Notice → Notice → Bool
is_same a b n m = same_key (key_of a n) (key_of b m)
