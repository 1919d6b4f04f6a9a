-- What is left of some notices, as multisets.
use Rattle.std.proofs.Common.{◌≡◌, ℕ, ◌+◌, ◌-◌, ◌<◌, ◌≤◌, Bool, true, false, not, cond, ltb, ◌&&◌, List, [], ◌∷◌, length, filter, Option, None, Some, refl, sym, ap, ap₂, subst, ◌∙◌, arith, one-add}
use Rattle.std.specs.Str.{bytes_eq}
use Rattle.std.specs.List.{position, position_or_len, remove}
use Rattle.std.proofs.lemmas.Bool.{and_from, and_parts, ltb-false, ltb-true, true≢false}
use Rattle.std.proofs.lemmas.Slice.Eq.{bytes_eq-Decides}
use Rattle.due_model.specs.declared.config.Config.{Config}
use Rattle.due_model.specs.declared.notice.Notice.{Notice}
use Rattle.changed_notices.specs.Names.{Key, is_same, key_of, same_host, same_key}
use Rattle.changed_notices.specs.Left.{LostIsTheDifference, count_of, left_of, without_first}

-- ---- keys

host-same : (h k : Option (List ℕ)) → same_host h k ≡ true → h ≡ k
host-same None None e = refl
host-same None (Some k) e = absurd (true≢false (sym e))
host-same (Some h) None e = absurd (true≢false (sym e))
host-same (Some h) (Some k) e = ap Some ((bytes_eq-Decides h k).0 e)

host-own : (h : Option (List ℕ)) → same_host h h ≡ true
host-own None = refl
host-own (Some h) = (bytes_eq-Decides h h).1 refl

key_by : (contact lane name : List ℕ) (host : Option (List ℕ)) (contact' lane' name' : List ℕ) (host' : Option (List ℕ)) → contact ≡ contact' → lane ≡ lane' → name ≡ name' → host ≡ host'
    → ◌≡◌ {A = Key} (record { contact = contact; lane = lane; name = name; host = host }) (record { contact = contact'; lane = lane'; name = name'; host = host' })
key_by contact lane name host contact' lane' name' host' e f g h =
    ap₂ (λ (x y : List ℕ). record { contact = x; lane = y; name = name; host = host }) e f
    ∙ ap₂ (λ (x : List ℕ) (y : Option (List ℕ)). record { contact = contact'; lane = lane'; name = x; host = y }) g h

key-same : (k l : Key) → same_key k l ≡ true → k ≡ l
key-same k l e =
    let r = and_parts (bytes_eq k.contact l.contact && bytes_eq k.lane l.lane && bytes_eq k.name l.name) (same_host k.host l.host) e in
    let q = and_parts (bytes_eq k.contact l.contact && bytes_eq k.lane l.lane) (bytes_eq k.name l.name) r.0 in
    let p = and_parts (bytes_eq k.contact l.contact) (bytes_eq k.lane l.lane) q.0 in
    key_by k.contact k.lane k.name k.host l.contact l.lane l.name l.host
    ((bytes_eq-Decides k.contact l.contact).0 p.0) ((bytes_eq-Decides k.lane l.lane).0 p.1) ((bytes_eq-Decides k.name l.name).0 q.1) (host-same k.host l.host r.1)

key-own : (k : Key) → same_key k k ≡ true
key-own k =
    and_from (bytes_eq k.contact k.contact && bytes_eq k.lane k.lane && bytes_eq k.name k.name) (same_host k.host k.host)
    (and_from (bytes_eq k.contact k.contact && bytes_eq k.lane k.lane) (bytes_eq k.name k.name)
    (and_from (bytes_eq k.contact k.contact) (bytes_eq k.lane k.lane) ((bytes_eq-Decides k.contact k.contact).1 refl) ((bytes_eq-Decides k.lane k.lane).1 refl))
    ((bytes_eq-Decides k.name k.name).1 refl)) (host-own k.host)

-- ---- counting

abbrev one : Bool → ℕ
one true = 1
one false = 0

length-cond : (b : Bool) (n : Notice) (ns : List Notice) → length (cond b (n ∷ ns) ns) ≡ one b + length ns
length-cond true n ns = omega arith
length-cond false n ns = omega arith

count-cons : (c : Config) (key : Key) (n : Notice) (ns : List Notice) → count_of c key (n ∷ ns) ≡ one (same_key key (key_of c n)) + count_of c key ns
count-cons c key n ns = length-cond (same_key key (key_of c n)) n (filter (λ m. same_key key (key_of c m)) ns)

-- of one key, or of different ones
one-same : (key k l : Key) → same_key k l ≡ true → one (same_key key k) ≡ one (same_key key l)
one-same key k l e = ap (λ (x : Key). one (same_key key x)) (key-same k l e)

apart : (key k l : Key) → same_key k l ≡ false → (same_key key k ≡ true) → (same_key key l ≡ true) → ⊥
apart key k l e f g =
    let a : k ≡ l = sym (key-same key k f) ∙ key-same key l g in
    true≢false (sym (subst (λ (x : Key). same_key k x ≡ true) a (key-own k)) ∙ e)

-- a notice of another key leaves as many of each
kept : (b c : Bool) (x y : ℕ) → (b ≡ true → c ≡ true → ⊥) → y ≡ x - one b → one c + y ≡ one c + x - one b
kept true true x y never e = absurd (never refl refl)
kept true false x y never e = omega (arith, e)
kept false true x y never e = omega (arith, e)
kept false false x y never e = omega (arith, e)

taken : (b : Bool) (x y z : ℕ) → x ≡ one b + y → z ≡ one b → y ≡ x - z
taken true x y z e f = omega (arith, e, f)
taken false x y z e f = omega (arith, e, f)

without-count : (a b : Config) (key : Key) (n : Notice) (ms : List Notice)
    → count_of b key (without_first (is_same a b n) ms) ≡ count_of b key ms - one (same_key key (key_of a n))
without-count a b key n [] = omega arith
without-count a b key n (m ∷ ms) = by (is_same a b n m) refl (without-count a b key n ms)
  where
    by : (s : Bool) → is_same a b n m ≡ s → count_of b key (without_first (is_same a b n) ms) ≡ count_of b key ms - one (same_key key (key_of a n))
        → count_of b key (cond s ms (m ∷ without_first (is_same a b n) ms)) ≡ count_of b key (m ∷ ms) - one (same_key key (key_of a n))
    by true e rest = taken (same_key key (key_of b m)) (count_of b key (m ∷ ms)) (count_of b key ms) (one (same_key key (key_of a n))) (count-cons b key m ms) (one-same key (key_of a n) (key_of b m) e)
    by false e rest =
        count-cons b key m (without_first (is_same a b n) ms)
        ∙ kept (same_key key (key_of a n)) (same_key key (key_of b m)) (count_of b key ms) _ (apart key (key_of a n) (key_of b m) e) rest
        ∙ ap (λ (x : ℕ). x - one (same_key key (key_of a n))) (sym (count-cons b key m ms))

minus : (x y z u w : ℕ) → w ≡ x - y → u ≡ y + z → w - z ≡ x - u
minus x y z u w e f = omega (arith, e, f)

left-count : (a b : Config) (key : Key) (ns ms : List Notice) → count_of b key (left_of a b ns ms) ≡ count_of b key ms - count_of a key ns
left-count a b key [] ms = omega arith
left-count a b key (n ∷ ns) ms =
    left-count a b key ns (without_first (is_same a b n) ms)
    ∙ minus (count_of b key ms) (one (same_key key (key_of a n))) (count_of a key ns) (count_of a key (n ∷ ns)) _ (without-count a b key n ms) (count-cons a key n ns)

pub lost_is_the_difference : LostIsTheDifference
lost_is_the_difference a b before after key = left-count b a key after before

-- ---- the first that is taken out

-- without the element at the place of the first
pub taken-first : (is : Notice → Bool) (ms : List Notice) → position_or_len is ms < length ms → remove ms (position_or_len is ms) ≡ without_first is ms
taken-first is [] h = absurd (omega (arith, h))
taken-first is (m ∷ ms) h = by (is m) refl (taken-first is ms) h
  where
    by : (b : Bool) → is m ≡ b → (position_or_len is ms < length ms → remove ms (position_or_len is ms) ≡ without_first is ms)
        → cond (not b) (1 + position_or_len is ms) 0 < length (m ∷ ms)
        → remove (m ∷ ms) (cond (not b) (1 + position_or_len is ms) 0) ≡ cond b ms (m ∷ without_first is ms)
    by true e rest h = refl
    by false e rest h = rw one-add (ap (λ (xs : List Notice). m ∷ xs) (rest (omega (arith, h))))

-- where there is none
pub none-first : (is : Notice → Bool) (ms : List Notice) → length ms ≤ position_or_len is ms → without_first is ms ≡ ms
none-first is [] h = refl
none-first is (m ∷ ms) h = by (is m) refl (none-first is ms) h
  where
    by : (b : Bool) → is m ≡ b → (length ms ≤ position_or_len is ms → without_first is ms ≡ ms)
        → length (m ∷ ms) ≤ cond (not b) (1 + position_or_len is ms) 0 → cond b ms (m ∷ without_first is ms) ≡ m ∷ ms
    by true e rest h = absurd (omega (arith, h))
    by false e rest h = ap (λ (xs : List Notice). m ∷ xs) (rest (omega (arith, h)))

-- by the place that is found
pub place_within : (is : Notice → Bool) (ms : List Notice) (i : ℕ) → position is ms ≡ Some i → i < length ms
place_within is ms i e = by (ltb (position_or_len is ms) (length ms)) refl e
  where
    by : (b : Bool) → ltb (position_or_len is ms) (length ms) ≡ b → cond b (Some (position_or_len is ms)) None ≡ Some i → i < length ms
    by true within f =
        let at : position_or_len is ms ≡ i = cc in
        subst (λ (k : ℕ). k < length ms) at (ltb-true _ _ within)
    by false past f = absurd (cc)

pub place_taken : (is : Notice → Bool) (ms : List Notice) (i : ℕ) → position is ms ≡ Some i → remove ms i ≡ without_first is ms
place_taken is ms i e = by (ltb (position_or_len is ms) (length ms)) refl e
  where
    by : (b : Bool) → ltb (position_or_len is ms) (length ms) ≡ b → cond b (Some (position_or_len is ms)) None ≡ Some i → remove ms i ≡ without_first is ms
    by true within f =
        let at : position_or_len is ms ≡ i = cc in
        subst (λ (k : ℕ). remove ms k ≡ without_first is ms) at (taken-first is ms (ltb-true _ _ within))
    by false past f = absurd (cc)

pub no_place : (is : Notice → Bool) (ms : List Notice) → position is ms ≡ None → ms ≡ without_first is ms
no_place is ms e = by (ltb (position_or_len is ms) (length ms)) refl e
  where
    by : (b : Bool) → ltb (position_or_len is ms) (length ms) ≡ b → cond b (Some (position_or_len is ms)) None ≡ None → ms ≡ without_first is ms
    by true within f = absurd (cc)
    by false past f = sym (none-first is ms (ltb-false _ _ past))

-- the same pair at the front of both lists goes
pub same_front : (a b : Config) (n m : Notice) (ns ms : List Notice) → is_same a b n m ≡ true → left_of a b (n ∷ ns) (m ∷ ms) ≡ left_of a b ns ms
same_front a b n m ns ms e = ap (λ (s : Bool). left_of a b ns (cond s ms (m ∷ without_first (is_same a b n) ms))) e
