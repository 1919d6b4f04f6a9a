-- How a channel word is written: NAME=mailbox:PATH, NAME=pager:HOST:PORT or NAME=command:PROGRAM ARGUMENT ..
use Rattle.std.specs.Prelude.{◌≡◌, ◌≢◌, ℕ, ◌<◌, ◌≤◌, All, Bool, true, not, ◌==◌, List, ◌∷◌, ◌++◌, codes, filter, length, map, slice_get, slice_index, take, Some, ⊤}
use Rattle.std.specs.Char.{is_ascii_digit}
use Rattle.std.specs.List.{EachIndex, list_all, list_any, slice_split}
use Rattle.std.specs.Str.Parse.{digits_value}
use Rattle.channel_words.specs.declared.fault.ChannelFault.{ChannelFault}
use Rattle.channel_words.specs.declared.fault.ChannelFault.TheVariants as fault
use Rattle.channel_words.specs.declared.word.ChannelWord.{ChannelWord}
use Rattle.channel_words.specs.declared.word.Device.{Device}
use Rattle.channel_words.specs.declared.word.Device.TheVariants.{Mailbox, Pager, Command}

-- the byte stands nowhere in the text
abbrev pub Lacks : (byte : ℕ) → List ℕ → Type 0
Lacks byte text = EachIndex text (λ i. slice_index text i ≢ byte)

-- ---- an address

-- a port: decimal digits of 1 to 65,535; leading zeros are allowed
pub record IsPort (digits : List ℕ) : Type 0 where
  pub all : list_all is_ascii_digit digits ≡ true
  pub least : 1 ≤ digits_value 10 digits
  pub most : digits_value 10 digits < 65536

-- a host, which isn't empty, a colon and a port
pub record IsAddress (text : List ℕ) : Type 0 where
  pub host : List ℕ
  pub digits : List ℕ
  pub whole : text ≡ host ++ 58 ∷ digits
  pub some : 0 < length host
  pub port : IsPort digits

-- ---- a program and its arguments

-- whether it isn't spaces alone
abbrev pub has_word : List ℕ → Bool
has_word line = list_any (λ byte. not (byte == 32)) line

abbrev pub is_word : List ℕ → Bool
is_word word = not (length word == 0)

-- what stands between the spaces, and isn't empty
abbrev pub words_in : List ℕ → List (List ℕ)
words_in line = filter is_word (slice_split (λ byte. byte == 32) line)

-- ---- a word

-- the word for a kind of channel, before the colon
abbrev pub kind_word : Device → List ℕ
kind_word (Mailbox path) = codes "mailbox"
kind_word (Pager address) = codes "pager"
kind_word (Command line) = codes "command"

-- what is said of it, after the colon
abbrev pub said_of : Device → List ℕ
said_of (Mailbox path) = path.now
said_of (Pager address) = address.now
said_of (Command line) = line.now

-- a path that isn't empty, an address, or a line that has a word, the program
abbrev pub IsDevice : Device → Type 0
IsDevice (Mailbox path) = 0 < length path.now
IsDevice (Pager address) = IsAddress address.now
IsDevice (Command line) = has_word line.now ≡ true

abbrev pub device_text : Device → List ℕ
device_text device = kind_word device ++ 58 ∷ said_of device

-- how a word is written
abbrev pub word_text : ChannelWord → List ℕ
word_text word = word.name.now ++ 61 ∷ device_text word.device

-- a name, which isn't empty and has no `=`, and a channel
pub record IsWhole (word : ChannelWord) : Type 0 where
  pub some : 0 < length word.name.now
  pub unbroken : Lacks 61 word.name.now
  pub device : IsDevice word.device

-- a text that says a channel
abbrev pub IsWord : List ℕ → Type 0
IsWord text = (word : ChannelWord) × IsWhole word × (text ≡ word_text word)

-- ---- all words

-- these are the words of the texts, in order
pub record AreRead (texts : List (List ℕ)) (words : List ChannelWord) : Type 0 where
  pub texts_are : texts ≡ map word_text words
  pub whole : All IsWhole words

-- x is the first of a list of which p holds
pub record IsFirst {X : Type 0} (p : X → Type 0) (x : X) (xs : List X) : Type 0 where
  pub place : ℕ
  pub here : slice_get xs place ≡ Some x
  pub holds : p x
  pub earlier : All (λ y. ¬ p y) (take place xs)

-- what a fault says of the shape of the words: the first that says no channel, or nothing
abbrev pub ShapeFails : List (List ℕ) → ChannelFault → Type 0
ShapeFails texts (fault.BadChannel word) = IsFirst (λ text. ¬ IsWord text) word.now texts
ShapeFails texts (fault.NoCommand name) = ⊥
ShapeFails texts (fault.Doubled name) = ⊥
ShapeFails texts (fault.NotOpened name) = ⊥
ShapeFails texts fault.NoMemory = ⊤
