-- Laws of what a writer took of bytes and of what is left of them.
use Rattle.std.proofs.Common.{◌≡◌, ℕ, ◌-◌, List, [], ◌++◌, length, take, drop, Option, None, Some, refl, sym, ap, subst, ◌∙◌, append_assoc}
use Rattle.std.proofs.lemmas.List.{append-nil, take_rest, take-append-drop}
use Rattle.std.specs.Io.KnownBytes.{Appends, Keeps}
use Rattle.written.specs.claims.Written.{Leaves, WritesFront}

pub appends_none : (known : Option (List ℕ)) → Appends known known []
appends_none None = tt
appends_none (Some xs) = sym (append-nil xs)

pub appends_more : (old mid new : Option (List ℕ)) (bs cs : List ℕ) → Appends old mid bs
    → Appends mid new cs → Appends old new (bs ++ cs)
appends_more None mid new bs cs a b = tt
appends_more (Some xs) None new bs cs a b = absurd a
appends_more (Some xs) (Some ys) None bs cs a b = b
appends_more (Some xs) (Some ys) (Some zs) bs cs a b =
    b ∙ ap (λ us. us ++ cs) a ∙ append_assoc xs bs cs

-- without a write it keeps what it holds
pub keeps_same : (known : Option (List ℕ)) → Keeps known known
keeps_same None = tt
keeps_same (Some bytes) = refl

-- before a write all is left
pub leaves_all : (known : Option (List ℕ)) (all : List ℕ) → Leaves known known all all
leaves_all known all = ([], appends_none known, refl)

-- the writer takes more of what is left
pub leaves_less : (old mid new : Option (List ℕ)) (all left rest : List ℕ) → Leaves old mid all left
    → Leaves mid new left rest → Leaves old new all rest
leaves_less old mid new all left rest h k = (
  h.0 ++ k.0,
  appends_more old mid new h.0 k.0 h.1 k.1,
  append_assoc h.0 k.0 rest
      ∙ ap (λ xs. h.0 ++ xs) k.2 ∙ h.2,
)

-- more is to be written than was thought of
pub leaves_longer : (old new : Option (List ℕ)) (all left more : List ℕ) → Leaves old new all left
    → Leaves old new (all ++ more) (left ++ more)
leaves_longer old new all left more h =
    (h.0, h.1, sym (append_assoc h.0 left more) ∙ ap (λ xs. xs ++ more) h.2)

pub front_longer : (old new : Option (List ℕ)) (all more : List ℕ) → WritesFront old new all
    → WritesFront old new (all ++ more)
front_longer old new all more h = (h.0 ++ more, leaves_longer old new all h.0 more h.1)

-- of what is left a front is taken
pub front_less : (old mid new : Option (List ℕ)) (all left : List ℕ) → Leaves old mid all left
    → WritesFront mid new left → WritesFront old new all
front_less old mid new all left h k = (k.0, leaves_less old mid new all left k.0 h k.1)

-- the writer took so many of the bytes that were left
pub leaves_rest : (old mid new : Option (List ℕ)) (all left : List ℕ) (n : ℕ)
    → Leaves old mid all left → Appends mid new (take n left)
    → Leaves old new all (take (length left - n) (drop n left))
leaves_rest old mid new all left n h a =
    leaves_less old mid new all left (take (length left - n) (drop n left)) h
    (take n left, a, ap (λ xs. take n left ++ xs) (take_rest left n) ∙ take-append-drop n left)

-- after all of the bytes the writer takes of more
pub leaves_next : (old mid new : Option (List ℕ)) (all more left : List ℕ) → Leaves old mid all []
    → Leaves mid new more left → Leaves old new (all ++ more) left
leaves_next old mid new all more left h k =
    leaves_less old mid new (all ++ more) more left (leaves_longer old mid all [] more h) k

pub front_next : (old mid new : Option (List ℕ)) (all more : List ℕ) → Leaves old mid all []
    → WritesFront mid new more → WritesFront old new (all ++ more)
front_next old mid new all more h k = (k.0, leaves_next old mid new all more k.0 h k.1)

-- nothing was taken
pub front_none : (known : Option (List ℕ)) (all : List ℕ) → WritesFront known known all
front_none known all = (all, leaves_all known all)

-- of the same bytes the same front
pub front_same : (old new : Option (List ℕ)) (held held' text text' : List ℕ) → held ≡ held'
    → text ≡ text' → WritesFront old new (held ++ text) → WritesFront old new (held' ++ text')
front_same old new held held' text text' e f h =
    (h.0, (h.1.0, h.1.1, h.1.2 ∙ ap (λ xs. xs ++ text) e ∙ ap (λ xs. held' ++ xs) f))

-- nothing more is to be written
pub leaves_nothing : (known : Option (List ℕ)) (held : List ℕ)
    → Leaves known known (held ++ []) held
leaves_nothing known held =
    subst (λ all. Leaves known known all held) (sym (append-nil held)) (leaves_all known held)

-- the text that was written is another way to say what was to be written
pub leaves_same : (old new : Option (List ℕ)) (held text text' left : List ℕ) → text ≡ text'
    → Leaves old new (held ++ text) left → Leaves old new (held ++ text') left
leaves_same old new held text text' left e h = (h.0, h.1, h.2 ∙ ap (λ xs. held ++ xs) e)

-- more is to be written after the text
pub front_begun : (old new : Option (List ℕ)) (held text more : List ℕ)
    → WritesFront old new (held ++ text) → WritesFront old new (held ++ (text ++ more))
front_begun old new held text more h =
    subst (λ all. WritesFront old new all) (append_assoc held text more)
    (front_longer old new (held ++ text) more h)

-- a front of what is held, under another name, is one of that and more
pub front_of_held : (old new : Option (List ℕ)) (held held' text : List ℕ) → held ≡ held'
    → WritesFront old new held → WritesFront old new (held' ++ text)
front_of_held old new held held' text e h =
    front_longer old new held' text (subst (λ all. WritesFront old new all) e h)

-- more text is written after what is held
pub leaves_on : (old mid new : Option (List ℕ)) (all held text held' : List ℕ)
    → Leaves old mid all held → Leaves mid new (held ++ text) held'
    → Leaves old new (all ++ text) held'
leaves_on old mid new all held text held' h k =
    leaves_less old mid new (all ++ text) (held ++ text) held'
    (leaves_longer old mid all held text h) k

pub front_on : (old mid new : Option (List ℕ)) (all held text : List ℕ) → Leaves old mid all held
    → WritesFront mid new (held ++ text) → WritesFront old new (all ++ text)
front_on old mid new all held text h k =
    front_less old mid new (all ++ text) (held ++ text) (leaves_longer old mid all held text h) k
