-- Channel words.
use Rattle.std.proofs.Common.{◌≡◌, ◌≢◌, ℕ, ◌<◌, true, List, ◌∷◌, ◌++◌, length, get_or, refl, sym, ap, ap₂, subst, ◌∙◌, arith, codes}
use Rattle.channel_words.specs.declared.word.ChannelWord.{ChannelWord}
use Rattle.channel_words.specs.declared.word.Device.{Device}
use Rattle.channel_words.specs.declared.word.Device.TheVariants.{Mailbox, Pager, Command}
use Rattle.channel_words.specs.Words.{IsAddress, IsDevice, IsWhole, Lacks, device_text, has_word, kind_word, said_of, word_text}
use Rattle.channel_words.proofs.Parts.{first_unique, has_seam, lacks_by}

-- the word for a kind has no colon
kind_lacks : (d : Device) → Lacks 58 (kind_word d)
kind_lacks (Mailbox path) = lacks_by 58 (codes "mailbox") refl
kind_lacks (Pager address) = lacks_by 58 (codes "pager") refl
kind_lacks (Command line) = lacks_by 58 (codes "command") refl

-- a text has the kind before its first colon, and what is said after it
pub device_is : (text kind said : List ℕ) → (text ≡ kind ++ 58 ∷ said) × Lacks 58 kind → (d : Device) → text ≡ device_text d → (kind ≡ kind_word d) × (said ≡ said_of d)
device_is text kind said (e, lacks) d is = first_unique 58 kind (kind_word d) said (said_of d) (sym e ∙ is) lacks (kind_lacks d)

pub no_device : (text : List ℕ) → Lacks 58 text → (d : Device) → text ≡ device_text d → ⊥
no_device text lacks d is = has_seam 58 text (kind_word d) (said_of d) is lacks

-- a word has the name before its first `=`
pub word_is : (text name said : List ℕ) → (text ≡ name ++ 61 ∷ said) × Lacks 61 name → (w : ChannelWord) → IsWhole w → text ≡ word_text w → (name ≡ w.name.now) × (said ≡ device_text w.device)
word_is text name said (e, lacks) w whole is = first_unique 61 name w.name.now said (device_text w.device) (sym e ∙ is) lacks whole.unbroken

pub no_word : (text : List ℕ) → Lacks 61 text → (w : ChannelWord) → text ≡ word_text w → ⊥
no_word text lacks w is = has_seam 61 text w.name.now (device_text w.device) is lacks

-- Why nothing of a kind and what is said of it is a channel.
pub record SaysNone (kind said : List ℕ) : Type 0 where
  pub mailbox : kind ≡ codes "mailbox" → 0 < length said → ⊥
  pub pager : kind ≡ codes "pager" → IsAddress said → ⊥
  pub command : kind ≡ codes "command" → has_word said ≡ true → ⊥

pub none_of : (kind said : List ℕ) → SaysNone kind said → (d : Device) → IsDevice d → kind ≡ kind_word d → said ≢ said_of d
none_of kind said h (Mailbox path) is same e = h.mailbox same (subst (λ (t : List ℕ). 0 < length t) (sym e) is)
none_of kind said h (Pager address) is same e = h.pager same (subst IsAddress (sym e) is)
none_of kind said h (Command line) is same e = h.command same (ap has_word e ∙ is)

-- the words for kinds begin with other bytes
apart : (kind xs ys : List ℕ) → kind ≡ xs → kind ≡ ys → get_or xs 0 0 ≢ get_or ys 0 0 → ⊥
apart kind xs ys e f h = h (ap (λ (t : List ℕ). get_or t 0 0) (sym e ∙ f))

pub no_mailbox : (kind said : List ℕ) → kind ≡ codes "mailbox" → (0 < length said → ⊥) → SaysNone kind said
no_mailbox kind said e h = record {
  mailbox = λ _ some. h some;
  pager = λ f _. apart kind (codes "mailbox") (codes "pager") e f (λ n. let m : 109 ≡ 112 = n in absurd (omega arith));
  command = λ f _. apart kind (codes "mailbox") (codes "command") e f (λ n. let m : 109 ≡ 99 = n in absurd (omega arith));
}

pub no_pager : (kind said : List ℕ) → kind ≡ codes "pager" → (IsAddress said → ⊥) → SaysNone kind said
no_pager kind said e h = record {
  mailbox = λ f _. apart kind (codes "pager") (codes "mailbox") e f (λ n. let m : 112 ≡ 109 = n in absurd (omega arith));
  pager = λ _ is. h is;
  command = λ f _. apart kind (codes "pager") (codes "command") e f (λ n. let m : 112 ≡ 99 = n in absurd (omega arith));
}

pub no_command : (kind said : List ℕ) → kind ≡ codes "command" → (has_word said ≡ true → ⊥) → SaysNone kind said
no_command kind said e h = record {
  mailbox = λ f _. apart kind (codes "command") (codes "mailbox") e f (λ n. let m : 99 ≡ 109 = n in absurd (omega arith));
  pager = λ f _. apart kind (codes "command") (codes "pager") e f (λ n. let m : 99 ≡ 112 = n in absurd (omega arith));
  command = λ _ is. h is;
}

-- what is said of the word of a name that isn't empty and of what follows it, is said of the word of the text
pub word_said : (text name said : List ℕ) → (text ≡ name ++ 61 ∷ said) × Lacks 61 name → (w : ChannelWord)
    → (w.name.now ≡ name) × (0 < length name) × IsDevice w.device × (said ≡ device_text w.device) → IsWhole w × (text ≡ word_text w)
word_said text name said (e, lacks) w (named, some, device, is) = (
  record {
    some = subst (λ (t : List ℕ). 0 < length t) (sym named) some;
    unbroken = subst (Lacks 61) (sym named) lacks;
    device = device;
  },
  e ∙ ap₂ (λ (n s : List ℕ). n ++ 61 ∷ s) (sym named) is,
)

pub word_unsaid : (text name said : List ℕ) → (text ≡ name ++ 61 ∷ said) × Lacks 61 name → ((d : Device) → 0 < length name → IsDevice d → said ≢ device_text d)
    → (w : ChannelWord) → IsWhole w → text ≢ word_text w
word_unsaid text name said e none w whole is =
    let parts = word_is text name said e w whole is in
    none w.device (subst (λ (t : List ℕ). 0 < length t) (sym parts.0) whole.some) whole.device parts.1

-- likewise of a channel
pub device_unsaid : (text kind said : List ℕ) → (text ≡ kind ++ 58 ∷ said) × Lacks 58 kind → ((d : Device) → IsDevice d → kind ≡ kind_word d → said ≢ said_of d)
    → (d : Device) → IsDevice d → text ≢ device_text d
device_unsaid text kind said e none d is same = let parts = device_is text kind said e d same in none d is parts.0 parts.1

pub device_said : (text kind said : List ℕ) → (text ≡ kind ++ 58 ∷ said) × Lacks 58 kind → (d : Device) → IsDevice d × (kind ≡ kind_word d) × (said ≡ said_of d)
    → IsDevice d × (text ≡ device_text d)
device_said text kind said e d (is, k, s) = (is, e.0 ∙ ap₂ (λ (xs ys : List ℕ). xs ++ 58 ∷ ys) k s)
