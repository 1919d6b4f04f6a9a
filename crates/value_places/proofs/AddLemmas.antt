-- Answers that came to a list.
use Rattle.std.proofs.Common.{◌≡◌, ℕ, ◌+◌, ◌<◌, Bool, List, [], ◌∷◌, ◌++◌, append_assoc, length, map, take, get_or, flat_map, Option, Some, sym, ap, subst, ◌∙◌, arith}
use Rattle.std.specs.List.{range_with_len}
use Rattle.std.proofs.lemmas.List.{append-nil, take_more}
use Rattle.std.proofs.lemmas.Grind.{flat_map-append}
use Rattle.std.proofs.lemmas.List.FromFn.{map-range_with_len_more}
use Rattle.lemmas.proofs.Zips.{zip-append}
use Rattle.object_reader.specs.declared.block.Block.{Block}
use Rattle.value_places.specs.Places.{Adds, AreAnswers, File, IsAnswer}
use Rattle.value_places.specs.Questions.{Question, contact_questions, contacts_questions, object_questions, question_at}
use Rattle.value_places.specs.declared.origins.Origin.{Origin}

pub adds-none : (file : File) (blocks : List Block) (texts : List (List ℕ)) → Adds file blocks [] texts texts
adds-none file blocks texts = record { added = []; are = sym (append-nil texts); all = tt }

pub adds-one : (file : File) (blocks : List Block) (asked : Option Question) (text : List ℕ) (old new : List (List ℕ)) → IsAnswer file blocks asked text → new ≡ old ++ text ∷ []
    → Adds file blocks (asked ∷ []) old new
adds-one file blocks asked text old new is are = record { added = text ∷ []; are = are; all = (is, tt) }

pub adds-more : (file : File) (blocks : List Block) (first second : List (Option Question)) (old mid new : List (List ℕ)) → Adds file blocks first old mid → Adds file blocks second mid new
    → Adds file blocks (first ++ second) old new
adds-more file blocks first second old mid new a b = record {
  added = a.added ++ b.added;
  are = b.are ∙ ap (λ (texts : List (List ℕ)). texts ++ b.added) a.are ∙ append_assoc old a.added b.added;
  all = zip-append (IsAnswer file blocks) first second a.added b.added a.all b.all;
}

-- those of one filter more
pub filter-more : (file : File) (blocks : List Block) (origin : Origin) (filter : ℕ) (old mid new : List (List ℕ))
    → Adds file blocks (map (question_at blocks origin) (range_with_len 0 filter)) old mid → Adds file blocks (question_at blocks origin filter ∷ []) mid new
    → Adds file blocks (map (question_at blocks origin) (range_with_len 0 (filter + 1))) old new
filter-more file blocks origin filter old mid new a b =
    subst (λ (asked : List (Option Question)). Adds file blocks asked old new)
    (sym (map-range_with_len_more (question_at blocks origin) 0 filter filter (omega arith)))
    (adds-more file blocks (map (question_at blocks origin) (range_with_len 0 filter)) (question_at blocks origin filter ∷ []) old mid new a b)

-- those of one contact more
pub contact-more : (file : File) (blocks : List Block) (service right : Bool) (places : List ℕ) (i d : ℕ) (old mid new : List (List ℕ)) → i < length places → right ≡ service
    → Adds file blocks (contacts_questions service (take i places)) old mid → Adds file blocks (contact_questions right (get_or places i d)) mid new
    → Adds file blocks (contacts_questions service (take (i + 1) places)) old new
contact-more file blocks service right places i d old mid new within same a b =
    let ask : ℕ → List (Option Question) = contact_questions service in
    let place = get_or places i d in
    subst (λ (asked : List (Option Question)). Adds file blocks asked old new)
    (sym (ap (flat_map ask) (take_more places i d within) ∙ flat_map-append ask (take i places) (place ∷ []) ∙ ap (λ (qs : List (Option Question)). flat_map ask (take i places) ++ qs) (append-nil (ask place))))
    (adds-more file blocks (flat_map ask (take i places)) (ask place) old mid new a (subst (λ (s : Bool). Adds file blocks (contact_questions s place) mid new) same b))

-- the three of a contact
pub adds-three : (file : File) (blocks : List Block) (a b c : Option Question) (old one two new : List (List ℕ)) → Adds file blocks (a ∷ []) old one → Adds file blocks (b ∷ []) one two
    → Adds file blocks (c ∷ []) two new → Adds file blocks (a ∷ b ∷ c ∷ []) old new
adds-three file blocks a b c old one two new x y z =
    adds-more file blocks (a ∷ []) (b ∷ c ∷ []) old one new x (adds-more file blocks (b ∷ []) (c ∷ []) one two new y z)

-- of a directive that is the same as another
pub adds-same : (file : File) (blocks : List Block) (place : ℕ) (directive other : List ℕ) (old new : List (List ℕ)) → directive ≡ other
    → Adds file blocks (Some (record { directive = directive; place = place }) ∷ []) old new → Adds file blocks (Some (record { directive = other; place = place }) ∷ []) old new
adds-same file blocks place directive other old new same a =
    subst (λ (d : List ℕ). Adds file blocks (Some (record { directive = d; place = place }) ∷ []) old new) same a

-- to none, those of an object and then of contacts
pub adds-all : (file : File) (blocks : List Block) (first second : List (Option Question)) (none mid new : List (List ℕ)) → none ≡ [] → Adds file blocks first none mid
    → Adds file blocks second mid new → AreAnswers file blocks (first ++ second) new
adds-all file blocks first second none mid new empty a b =
    let both = adds-more file blocks first second none mid new a b in
    subst (λ (texts : List (List ℕ)). AreAnswers file blocks (first ++ second) texts)
    (sym (both.are ∙ ap (λ (texts : List (List ℕ)). texts ++ both.added) empty)) both.all

-- those of all contacts
pub contacts-added : (file : File) (templates blocks : List Block) (service right : Bool) (places objects : List ℕ) (old new : List (List ℕ)) → blocks ≡ templates → right ≡ service
    → places ≡ objects → Adds file blocks (contacts_questions right places) old new → Adds file templates (contacts_questions service objects) old new
contacts-added file templates blocks service right places objects old new b s p a =
    subst (λ (bs : List Block). Adds file bs (contacts_questions service objects) old new) b
    (subst (λ (r : Bool). Adds file blocks (contacts_questions r objects) old new) s (subst (λ (ps : List ℕ). Adds file blocks (contacts_questions right ps) old new) p a))

-- of all filters
pub filters-all : (file : File) (blocks : List Block) (origin : Origin) (filter : ℕ) (old new : List (List ℕ)) → filter ≡ 11
    → Adds file blocks (map (question_at blocks origin) (range_with_len 0 filter)) old new → Adds file blocks (object_questions blocks origin) old new
filters-all file blocks origin filter old new end a = subst (λ (n : ℕ). Adds file blocks (map (question_at blocks origin) (range_with_len 0 n)) old new) end a

-- of all contacts
pub contacts-all : (file : File) (blocks : List Block) (service : Bool) (taken places : List ℕ) (old new : List (List ℕ)) → taken ≡ places
    → Adds file blocks (contacts_questions service taken) old new → Adds file blocks (contacts_questions service places) old new
contacts-all file blocks service taken places old new end a = subst (λ (ps : List ℕ). Adds file blocks (contacts_questions service ps) old new) end a
