-- What is left of a text after its escapes.
use Rattle.std.proofs.Common.{◌≡◌, ℕ, Bool, true, false, cond, ◌||◌, ◌==◌, All, List, [], ◌∷◌, ◌++◌, codes, flat_map, nat_lt, refl, sym, ap, ◌∙◌}
use Rattle.std.proofs.lemmas.Bool.{false≢true}
use Rattle.std.proofs.lemmas.List.Elements.{All-cons, All-nil}
use Rattle.night_picture.specs.Shapes.{LeavesNoMarkup, escaped, escaped_text, is_markup}

-- whether some byte would begin or end a tag or a value
abbrev any_markup : List ℕ → Bool
any_markup [] = false
any_markup (byte ∷ bytes) = is_markup byte || any_markup bytes

neither : (a b : Bool) → (a || b) ≡ false → (a ≡ false) × (b ≡ false)
neither false b h = (refl, h)
neither true b h = (h, absurd (false≢true (sym h)))

any-append : (xs ys : List ℕ) → any_markup xs ≡ false → any_markup ys ≡ false → any_markup (xs ++ ys) ≡ false
any-append [] ys p q = q
any-append (x ∷ xs) ys p q =
    let both = neither (is_markup x) (any_markup xs) p in
    ap (λ (b : Bool). b || any_markup (xs ++ ys)) both.0 ∙ any-append xs ys both.1 q

all_clean : (xs : List ℕ) → any_markup xs ≡ false → All (λ byte. is_markup byte ≡ false) xs
all_clean [] h = All-nil (λ byte. is_markup byte ≡ false)
all_clean (x ∷ xs) h =
    let both = neither (is_markup x) (any_markup xs) h in
    All-cons (λ byte. is_markup byte ≡ false) x xs both.0 (all_clean xs both.1)

-- by the tests of a byte
clean : (byte : ℕ) (amp lt gt quote apostrophe control : Bool) → (byte == 60) ≡ lt → (byte == 62) ≡ gt → (byte == 34) ≡ quote → (byte == 39) ≡ apostrophe
    → any_markup (cond amp (codes "&amp;") (cond lt (codes "&lt;") (cond gt (codes "&gt;") (cond quote (codes "&quot;") (cond apostrophe (codes "&#39;") (cond control (63 ∷ []) (byte ∷ []))))))) ≡ false
clean byte true lt gt quote apostrophe control a b c d = refl
clean byte false true gt quote apostrophe control a b c d = refl
clean byte false false true quote apostrophe control a b c d = refl
clean byte false false false true apostrophe control a b c d = refl
clean byte false false false false true control a b c d = refl
clean byte false false false false false true a b c d = refl
clean byte false false false false false false a b c d =
    ap (λ (x : Bool). ((x || (byte == 62)) || ((byte == 34) || (byte == 39))) || false) a
    ∙ ap (λ (x : Bool). ((false || x) || ((byte == 34) || (byte == 39))) || false) b
    ∙ ap (λ (x : Bool). ((false || false) || (x || (byte == 39))) || false) c
    ∙ ap (λ (x : Bool). ((false || false) || (false || x)) || false) d

clean_byte : (byte : ℕ) → any_markup (escaped byte) ≡ false
unfolding escaped
clean_byte byte = clean byte (byte == 38) (byte == 60) (byte == 62) (byte == 34) (byte == 39) (nat_lt byte 32 || (byte == 127)) refl refl refl refl

clean_text : (bytes : List ℕ) → any_markup (flat_map escaped bytes) ≡ false
clean_text [] = refl
clean_text (byte ∷ bytes) = any-append (escaped byte) (flat_map escaped bytes) (clean_byte byte) (clean_text bytes)

pub leaves_no_markup : LeavesNoMarkup
unfolding escaped_text
leaves_no_markup bytes = all_clean (flat_map escaped bytes) (clean_text bytes)
