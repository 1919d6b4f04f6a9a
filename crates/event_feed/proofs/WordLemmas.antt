-- No word has a `;`. So of an object that is known, a wrong word and an argument too many are told by one look: neither
-- is one of the words that stand alone.
use Rattle.std.proofs.Common.{◌≡◌, ◌≢◌, ℕ, ◌<◌, ◌≤◌, Bool, true, false, true≢false, not, cond, eqb, List, [], ◌∷◌, length, Option, Some, None, Result, Err, refl, sym, ap, subst, ◌∙◌, ◌⊎◌, inl, inr, ⊎_elim, arith}
use Rattle.std.specs.Prelude.{codes, is_some}
use Rattle.std.specs.List.{position_or_len, before_first, after_first}
use Rattle.std.specs.Option.{ok_or}
use Rattle.std.specs.Str.{bytes_eq}
use Rattle.std.proofs.lemmas.Bool.{cases_lt, cond_both}
use Rattle.std.proofs.lemmas.List.Splits.{slice_split_first}
use Rattle.std.proofs.lemmas.List.Sums.{prefix_len-le-length}
use Rattle.std.proofs.lemmas.Slice.Eq.{bytes_eq-Decides}
use Rattle.lemmas.proofs.Lists.{slice_split-first}
use Rattle.due_model.specs.claims.Objects.{object_named}
use Rattle.due_model.specs.declared.config.Object.{Object}
use Rattle.due_model.specs.declared.config.ObjectId.{ObjectId}
use Rattle.due_model.specs.declared.event.DowntimeChange.TheVariants.{Start, End, Cancelled}
use Rattle.due_model.specs.declared.event.EventKind.{EventKind}
use Rattle.due_model.specs.declared.event.EventKind.TheVariants.{Clock, Hard, Downtime, Flapping, Ack, AckRemoved, OwnSwitch}
use Rattle.due_model.specs.declared.state.State.TheVariants.{Up, Down, Unreachable, Fine, Warning, Unknown, Critical}
use Rattle.event_feed.specs.declared.fault.FeedFault.{FeedFault}
use Rattle.event_feed.specs.declared.fault.FeedFault.TheVariants.{BadState, UnknownObject}
use Rattle.event_feed.specs.declared.line.Subject.{Subject}
use Rattle.event_feed.specs.declared.line.Subject.TheVariants.{Host, Service}
use Rattle.event_feed.specs.declared.line.Words.{Words}
use Rattle.event_feed.specs.declared.line.Words.TheVariants.{States, Downtimes, Flaps, Acks, Switches}
use Rattle.event_feed.specs.claims.Line.{ack_given, ack_said, all_said, fields, said, said_reading, takes_more, told_ack_said, last_reading}
use Rattle.event_feed.specs.Line.{fields_after, unknown_fault}
use Rattle.event_feed.proofs.Parts.{slice_split-whole}

-- bytes are one field, or a first one and others
one_or_more : (bytes : List ℕ) → (fields bytes ≡ bytes ∷ []) ⊎ ((first : List ℕ) × (more : List ℕ) × (fields bytes ≡ first ∷ fields more))
one_or_more bytes =
    ⊎_elim
    (λ (has : position_or_len (λ byte. eqb byte 59) bytes < length bytes). inr (before_first (λ byte. eqb byte 59) bytes, after_first (λ byte. eqb byte 59) bytes, slice_split_first (λ byte. eqb byte 59) bytes 0 has))
    (λ (none : length bytes ≤ position_or_len (λ byte. eqb byte 59) bytes). inl (slice_split-whole (λ byte. eqb byte 59) bytes (omega (arith, none, prefix_len-le-length (λ byte. not (eqb byte 59)) bytes))))
    (cases_lt (position_or_len (λ byte. eqb byte 59) bytes) (length bytes))

-- what is said, if anything, is said by one field
abbrev OneField : List ℕ → Option EventKind → Type 0
OneField word None = Unit {0}
OneField word (Some kind) = fields word ≡ word ∷ []

or_word : (word text : List ℕ) (kind : EventKind) (rest : Option EventKind) → fields text ≡ text ∷ [] → OneField word rest → OneField word (cond (bytes_eq word text) (Some kind) rest)
or_word word text kind rest whole others =
    cond_both (bytes_eq word text) (Some kind) rest (OneField word)
    (λ is. let same : word ≡ text = (bytes_eq-Decides word text).0 is in subst (λ (w : List ℕ). fields w ≡ w ∷ []) (sym same) whole)
    (λ _. others)

said-field : (words : Words) (subject : Subject) (id : ObjectId) (word : List ℕ) → OneField word (said words subject id word)
said-field States Host id word =
    or_word word (codes "UP") (Hard id Up) _ refl
    (or_word word (codes "DOWN") (Hard id Down) _ refl
    (or_word word (codes "UNREACHABLE") (Hard id Unreachable) None refl tt))
said-field States Service id word =
    or_word word (codes "OK") (Hard id Fine) _ refl
    (or_word word (codes "WARNING") (Hard id Warning) _ refl
    (or_word word (codes "UNKNOWN") (Hard id Unknown) _ refl
    (or_word word (codes "CRITICAL") (Hard id Critical) None refl tt)))
said-field Downtimes subject id word =
    or_word word (codes "START") (Downtime id Start) _ refl
    (or_word word (codes "END") (Downtime id End) _ refl
    (or_word word (codes "CANCELLED") (Downtime id Cancelled) None refl tt))
said-field Flaps subject id word =
    or_word word (codes "START") (Flapping id true) _ refl
    (or_word word (codes "STOP") (Flapping id false) None refl tt)
said-field Acks subject id word =
    or_word word (codes "NONE") (AckRemoved id) _ refl
    (or_word word (codes "STICKY") (Ack id (record { sticky = true; notify = false })) _ refl
    (or_word word (codes "NORMAL") (Ack id (record { sticky = false; notify = false })) None refl tt))
said-field Switches subject id word =
    or_word word (codes "ON") (OwnSwitch id true) _ refl
    (or_word word (codes "OFF") (OwnSwitch id false) None refl tt)

no_word : (word first more : List ℕ) (kind : Option EventKind) → OneField word kind → fields word ≡ first ∷ fields more → kind ≡ None
no_word word first more None one many = refl
no_word word first more (Some kind) one many =
    let split = slice_split-first (λ byte. eqb byte 59) more in
    let clash : length (word ∷ []) ≡ length (first ∷ split.first ∷ split.others) = ap (λ (parts : List (List ℕ)). length parts) (sym one ∙ many ∙ ap (λ (parts : List (List ℕ)). first ∷ parts) split.are) in
    absurd (omega (arith, clash))

-- words that stand alone
abbrev pub is_alone : Words → Bool
is_alone States = true
is_alone Downtimes = true
is_alone Flaps = true
is_alone Acks = false
is_alone Switches = true

no_more : (words : Words) (subject : Subject) (id : ObjectId) (first second : List ℕ) (others : List (List ℕ)) → is_alone words ≡ true
    → None ≡ all_said words subject id (first ∷ second ∷ others)
no_more States subject id first second [] alone = refl
no_more Downtimes subject id first second [] alone = refl
no_more Flaps subject id first second [] alone = refl
no_more Acks subject id first second [] alone = cc
no_more Switches subject id first second [] alone = refl
no_more words subject id first second (third ∷ others) alone = refl

pub said-alone : (words : Words) (subject : Subject) (id : ObjectId) (bytes : List ℕ) → is_alone words ≡ true → said words subject id bytes ≡ all_said words subject id (fields bytes)
said-alone words subject id bytes alone =
    ⊎_elim
    (λ (one : fields bytes ≡ bytes ∷ []). sym (ap (λ (parts : List (List ℕ)). all_said words subject id parts) one))
    (λ (many : (first : List ℕ) × (more : List ℕ) × (fields bytes ≡ first ∷ fields more)).
    let split = slice_split-first (λ byte. eqb byte 59) many.1 in
    no_word bytes many.0 many.1 (said words subject id bytes) (said-field words subject id bytes) many.2
    ∙ no_more words subject id many.0 split.first split.others alone
    ∙ sym (ap (λ (parts : List (List ℕ)). all_said words subject id parts) (many.2 ∙ ap (λ (parts : List (List ℕ)). many.0 ∷ parts) split.are)))
    (one_or_more bytes)

pub said-by : (words w : Words) (subject s : Subject) (id : ObjectId) (bytes : List ℕ) (kind : Option EventKind) → words ≡ w → subject ≡ s → is_alone w ≡ true → kind ≡ said w s id bytes → kind ≡ all_said words subject id (fields bytes)
said-by words w subject s id bytes kind same of alone is =
    is ∙ said-alone w s id bytes alone ∙ sym (ap (λ (v : Words). all_said v s id (fields bytes)) same) ∙ sym (ap (λ (v : Subject). all_said words v id (fields bytes)) of)

pub alone-unless : (words : Words) → words ≢ Acks → is_alone words ≡ true
alone-unless States other = refl
alone-unless Downtimes other = refl
alone-unless Flaps other = refl
alone-unless Acks other = absurd (other refl)
alone-unless Switches other = refl

-- of an acknowledgement
told-field : (id : ObjectId) (word more : List ℕ) (given : Option EventKind) → OneField more (cond (bytes_eq more (codes "NOTIFY")) given None)
told-field id word more None =
    cond_both (bytes_eq more (codes "NOTIFY")) None None (OneField more) (λ _. tt) (λ _. tt)
told-field id word more (Some kind) = or_word more (codes "NOTIFY") kind None refl tt

pub acks-alone : (subject : Subject) (id : ObjectId) (word : List ℕ) (parts : List (List ℕ)) → parts ≡ word ∷ [] → ack_said id word ≡ all_said Acks subject id parts
acks-alone subject id word parts is = sym (ap (λ (parts : List (List ℕ)). all_said Acks subject id parts) is)

acks-more : (subject : Subject) (id : ObjectId) (word more : List ℕ) → told_ack_said id word more ≡ all_said Acks subject id (word ∷ fields more)
acks-more subject id word more =
    ⊎_elim
    (λ (one : fields more ≡ more ∷ []). sym (ap (λ (parts : List (List ℕ)). all_said Acks subject id (word ∷ parts)) one))
    (λ (many : (first : List ℕ) × (rest : List ℕ) × (fields more ≡ first ∷ fields rest)).
    let split = slice_split-first (λ byte. eqb byte 59) many.1 in
    no_word more many.0 many.1 (told_ack_said id word more) (told-field id word more (ack_given id true word)) many.2
    ∙ sym (ap (λ (parts : List (List ℕ)). all_said Acks subject id (word ∷ parts)) (many.2 ∙ ap (λ (parts : List (List ℕ)). many.0 ∷ parts) split.are)))
    (one_or_more more)

pub acks-told : (subject : Subject) (id : ObjectId) (word more : List ℕ) (parts : List (List ℕ)) → parts ≡ word ∷ fields more → told_ack_said id word more ≡ all_said Acks subject id parts
acks-told subject id word more parts is = acks-more subject id word more ∙ sym (ap (λ (parts : List (List ℕ)). all_said Acks subject id parts) is)

-- of an object that is known
twice : (b : Bool) (given : Option EventKind) → ok_or (cond b given None) BadState ≡ cond b (ok_or (cond b given None) BadState) (Err BadState)
twice true given = refl
twice false given = refl

known : (objects : List Object) (words : Words) (subject : Subject) (host : List ℕ) (service : Option (List ℕ)) (id : ObjectId) (parts : List (List ℕ)) → object_named objects host service ≡ Some id
    → ok_or (all_said words subject id parts) BadState ≡ last_reading objects words subject host service parts
known objects words subject host service id [] named = refl
known objects words subject host service id (word ∷ []) named = sym (ap (λ (object : Option ObjectId). said_reading words subject object (word ∷ [])) named)
known objects States subject host service id (word ∷ more ∷ []) named = refl
known objects Downtimes subject host service id (word ∷ more ∷ []) named = refl
known objects Flaps subject host service id (word ∷ more ∷ []) named = refl
known objects Acks subject host service id (word ∷ more ∷ []) named =
    twice (bytes_eq more (codes "NOTIFY")) (ack_given id true word)
    ∙ sym (ap (λ (object : Option ObjectId). cond (bytes_eq more (codes "NOTIFY")) (said_reading Acks subject object (word ∷ more ∷ [])) (Err BadState)) named)
known objects Switches subject host service id (word ∷ more ∷ []) named = refl
known objects words subject host service id (word ∷ more ∷ another ∷ others) named = refl

pub last-known : (objects : List Object) (words : Words) (subject : Subject) (host : List ℕ) (service arguments : Option (List ℕ)) (id : ObjectId) (rest : List ℕ)
    → object_named objects host service ≡ Some id → arguments ≡ Some rest
    → ok_or (all_said words subject id (fields rest)) BadState ≡ last_reading objects words subject host service (fields_after arguments)
last-known objects words subject host service arguments id rest named is =
    known objects words subject host service id (fields rest) named ∙ sym (ap (λ (after : Option (List ℕ)). last_reading objects words subject host service (fields_after after)) is)

-- of one that isn't
err_by : (b : Bool) → (let fault : Result EventKind FeedFault = Err (cond b UnknownObject BadState) in fault) ≡ cond b (Err UnknownObject) (Err BadState)
err_by true = refl
err_by false = refl

unknown : (objects : List Object) (words : Words) (subject : Subject) (host : List ℕ) (service : Option (List ℕ)) (parts : List (List ℕ)) → object_named objects host service ≡ None
    → Err (unknown_fault words parts) ≡ last_reading objects words subject host service parts
unknown objects words subject host service [] named = refl
unknown objects words subject host service (word ∷ []) named = sym (ap (λ (object : Option ObjectId). said_reading words subject object (word ∷ [])) named)
unknown objects States subject host service (word ∷ more ∷ []) named = refl
unknown objects Downtimes subject host service (word ∷ more ∷ []) named = refl
unknown objects Flaps subject host service (word ∷ more ∷ []) named = refl
unknown objects Acks subject host service (word ∷ more ∷ []) named =
    err_by (bytes_eq more (codes "NOTIFY"))
    ∙ sym (ap (λ (object : Option ObjectId). cond (bytes_eq more (codes "NOTIFY")) (said_reading Acks subject object (word ∷ more ∷ [])) (Err BadState)) named)
unknown objects Switches subject host service (word ∷ more ∷ []) named = refl
unknown objects words subject host service (word ∷ more ∷ another ∷ others) named = refl

pub last-unknown : (objects : List Object) (words : Words) (subject : Subject) (host : List ℕ) (service arguments : Option (List ℕ)) (rest : List ℕ)
    → object_named objects host service ≡ None → arguments ≡ Some rest → Err (unknown_fault words (fields rest)) ≡ last_reading objects words subject host service (fields_after arguments)
last-unknown objects words subject host service arguments rest named is =
    unknown objects words subject host service (fields rest) named ∙ sym (ap (λ (after : Option (List ℕ)). last_reading objects words subject host service (fields_after after)) is)

-- why it is refused
many-words : (words : Words) (word more first rest : List ℕ) → fields more ≡ first ∷ fields rest → BadState ≡ unknown_fault words (word ∷ fields more)
many-words words word more first rest is =
    let split = slice_split-first (λ byte. eqb byte 59) rest in
    sym (ap (λ (parts : List (List ℕ)). unknown_fault words (word ∷ parts)) (is ∙ ap (λ (parts : List (List ℕ)). first ∷ parts) split.are))

one-word : (words : Words) (word more : List ℕ) → fields more ≡ more ∷ [] → cond (takes_more words more) UnknownObject BadState ≡ unknown_fault words (word ∷ fields more)
one-word words word more one = sym (ap (λ (parts : List (List ℕ)). unknown_fault words (word ∷ parts)) one)

-- where the words stand alone
pub alone-fault : (words : Words) (word more : List ℕ) → is_alone words ≡ true → BadState ≡ unknown_fault words (word ∷ fields more)
alone-fault words word more alone =
    ⊎_elim
    (λ (one : fields more ≡ more ∷ []). by_words words alone ∙ one-word words word more one)
    (λ (many : (first : List ℕ) × (rest : List ℕ) × (fields more ≡ first ∷ fields rest)). many-words words word more many.0 many.1 many.2)
    (one_or_more more)
  where
    by_words : (words : Words) → is_alone words ≡ true → BadState ≡ cond (takes_more words more) UnknownObject BadState
    by_words States alone = refl
    by_words Downtimes alone = refl
    by_words Flaps alone = refl
    by_words Acks alone = cc
    by_words Switches alone = refl

-- of an acknowledgement
pub ack-fault : (word more : List ℕ) → cond (bytes_eq more (codes "NOTIFY")) UnknownObject BadState ≡ unknown_fault Acks (word ∷ fields more)
ack-fault word more =
    ⊎_elim
    (λ (one : fields more ≡ more ∷ []). one-word Acks word more one)
    (λ (many : (first : List ℕ) × (rest : List ℕ) × (fields more ≡ first ∷ fields rest)).
    cond_both (bytes_eq more (codes "NOTIFY")) UnknownObject BadState (λ (fault : FeedFault). fault ≡ unknown_fault Acks (word ∷ fields more))
    (λ is. let same : more ≡ codes "NOTIFY" = (bytes_eq-Decides more (codes "NOTIFY")).0 is in
    let whole : fields more ≡ more ∷ [] = subst (λ (w : List ℕ). fields w ≡ w ∷ []) (sym same) refl in
    let clash : Some Clock ≡ None = no_word more many.0 many.1 (Some Clock) whole many.2 in absurd (true≢false (ap is_some clash)))
    (λ _. many-words Acks word more many.0 many.1 many.2))
    (one_or_more more)

pub ack-fault-by : (words : Words) (word more : List ℕ) (right : Bool) (fault : FeedFault) → words ≡ Acks → right ≡ bytes_eq more (codes "NOTIFY") → fault ≡ cond right UnknownObject BadState → fault ≡ unknown_fault words (word ∷ fields more)
ack-fault-by words word more right fault same is by =
    by ∙ ap (λ (b : Bool). cond b UnknownObject BadState) is ∙ ack-fault word more ∙ sym (ap (λ (v : Words). unknown_fault v (word ∷ fields more)) same)
