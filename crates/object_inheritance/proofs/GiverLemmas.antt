-- What each block gives for a directive itself, one text and one block more.
use Rattle.std.proofs.Common.{◌≡◌, ℕ, zero, suc, ◌+◌, ◌<◌, Bool, true, false, cond, ◌&&◌, List, [], ◌∷◌, ◌++◌, length, take, get_or, Option, Some, None, refl, sym, ap, subst, eqb, eq-eqb, inl, inr, ⊎_elim, ◌≢◌, ◌≤◌, ◌∙◌, Bor, add-one, arith}
use Rattle.std.specs.Prelude.{All, find, is_some, reverse, slice_get}
use Rattle.std.specs.Global.{Vec}
use Rattle.std.specs.Map.{lookup}
use Rattle.std.specs.Option.{option_and_then, option_map, option_map_or, option_or}
use Rattle.std.specs.Str.{bytes_eq}
use Rattle.std.proofs.lemmas.Bool.{cases_eq, cases_lt, false≢true, ne_eqb}
use Rattle.std.proofs.Math.Seq.{take-suc}
use Rattle.std.proofs.lemmas.List.{reverse-append}
use Rattle.std.proofs.lemmas.List.Folds.{find-append}
use Rattle.std.proofs.lemmas.Slice.Eq.{bytes_eq-Decides}
use Rattle.indexmap.specs.IndexMap.{IndexMap}
use Rattle.lemmas.proofs.Lists.{slice_get_read}
use Rattle.lemmas.proofs.Searches.{or-none, or-some}
use Rattle.object_reader.specs.declared.block.Block.{Block}
use Rattle.object_reader.specs.declared.block.Directive.{Directive}
use Rattle.object_inheritance.specs.declared.givers.OwnText.{OwnText}
use Rattle.object_inheritance.specs.Givers.{last_at, own_in, text_at}
use Rattle.object_inheritance.specs.claims.Inherited.{own}
use Rattle.object_values.specs.claims.Values.{value_in}
use Rattle.object_inheritance.proofs.InheritedLemmas.{own-past}

picked : {X Y : Type 0} (f : X → Y) (b : Bool) (x : X) (other : Option X) → option_map f (cond b (Some x) other) ≡ cond b (Some (f x)) (option_map f other)
picked f true x other = refl
picked f false x other = refl

-- ---- one text more

pub take-next : {X : Type 0} (xs : List X) (i : ℕ) (d : X) → i < length xs → take (i + 1) xs ≡ take i xs ++ get_or xs i d ∷ []
take-next xs i d low = rw add-one (take-suc xs i d low)

pub last-more : (blocks : List Block) (given : List OwnText) (one : OwnText) (place : ℕ)
    → last_at blocks (given ++ one ∷ []) place ≡ cond (eqb one.place place) (Some (text_at blocks one.place one.number)) (last_at blocks given place)
last-more blocks given one place =
    ap (λ (all : List OwnText). option_map (λ (x : OwnText). text_at blocks x.place x.number) (find (λ (x : OwnText). eqb x.place place) all)) (reverse-append given (one ∷ []))
    ∙ picked (λ (x : OwnText). text_at blocks x.place x.number) (eqb one.place place) one (find (λ (x : OwnText). eqb x.place place) (reverse given))

-- the texts of a name, with one more
pub text-added : {S : Type 0} (blocks : List Block) (old mid new : IndexMap (Bor (List ℕ)) (Vec OwnText) S) (key : Bor (List ℕ)) (one : OwnText) (before : List OwnText) (whole : Vec OwnText)
    → mid ≡ old → ((place : ℕ) → last_at blocks before place ≡ own_in blocks old.entries key.now place) → whole.items ≡ before ++ one ∷ []
    → ((other : Bor (List ℕ)) → lookup (λ k. bytes_eq other.now k.now) new.entries ≡ cond (bytes_eq key.now other.now) (Some whole) (lookup (λ k. bytes_eq other.now k.now) mid.entries))
    → (name : List ℕ) (place : ℕ) → own_in blocks new.entries name place ≡ cond (bytes_eq key.now name && eqb one.place place) (Some (text_at blocks one.place one.number)) (own_in blocks old.entries name place)
text-added {S} blocks old mid new key one before whole stays was is updates name place =
    ap (option_and_then (λ (given : Vec OwnText). last_at blocks given.items place))
    (updates (record { ref_ptr = (0, 0); now = name })
    ∙ ap (λ (m : IndexMap (Bor (List ℕ)) (Vec OwnText) S). cond (bytes_eq key.now name) (Some whole) (lookup (λ k. bytes_eq name k.now) m.entries)) stays)
    ∙ by_name (bytes_eq key.now name) refl
  where
    by_name : (b : Bool) → bytes_eq key.now name ≡ b
        → option_and_then (λ (given : Vec OwnText). last_at blocks given.items place) (cond b (Some whole) (lookup (λ k. bytes_eq name k.now) old.entries))
        ≡ cond (b && eqb one.place place) (Some (text_at blocks one.place one.number)) (own_in blocks old.entries name place)
    by_name true same =
        ap (λ (given : List OwnText). last_at blocks given place) is ∙ last-more blocks before one place
        ∙ ap (λ (found : Option (List ℕ)). cond (eqb one.place place) (Some (text_at blocks one.place one.number)) found)
        (was place ∙ ap (λ (n : List ℕ). own_in blocks old.entries n place) ((bytes_eq-Decides key.now name).0 same))
    by_name false differs = refl

-- ---- one directive more

text-here : (blocks : List Block) (block : Block) (place i : ℕ) (one : Directive) → slice_get blocks place ≡ Some block → slice_get block.directives i ≡ Some one → text_at blocks place i ≡ one.value
text-here blocks block place i one here is =
    ap (λ (found : Option Block). option_map_or (λ (d : Directive). d.value) (option_and_then (λ (b : Block). slice_get b.directives i) found) []) here
    ∙ ap (λ (found : Option Directive). option_map_or (λ (d : Directive). d.value) found []) is

value-more : (directives : List Directive) (i : ℕ) (one : Directive) (name : List ℕ) → i < length directives → one ≡ get_or directives i one
    → value_in (take (i + 1) directives) name ≡ cond (bytes_eq one.name name) (Some one.value) (value_in (take i directives) name)
value-more directives i one name low is =
    ap (λ (all : List Directive). value_in all name) (take-next directives i one low ∙ ap (λ (d : Directive). take i directives ++ d ∷ []) (sym is))
    ∙ ap (λ (all : List Directive). option_map (λ (d : Directive). d.value) (find (λ (d : Directive). bytes_eq d.name name) all)) (reverse-append (take i directives) (one ∷ []))
    ∙ picked (λ (d : Directive). d.value) (bytes_eq one.name name) one (find (λ (d : Directive). bytes_eq d.name name) (reverse (take i directives)))

-- what the block at the place gives by its directives up to one, beside what was there
pub directive-more : (blocks : List Block) (block : Block) (directives : List Directive) (place i : ℕ) (one : Directive) (called name : List ℕ) (q : ℕ) (old new before : Option (List ℕ))
    → slice_get blocks place ≡ Some block → directives ≡ block.directives → i < length directives → one ≡ get_or directives i one → called ≡ one.name
    → old ≡ option_or (cond (eqb place q) (value_in (take i directives) name) None) before
    → new ≡ cond (bytes_eq called name && eqb place q) (Some (text_at blocks place i)) old
    → new ≡ option_or (cond (eqb place q) (value_in (take (i + 1) directives) name) None) before
directive-more blocks block directives place i one called name q old new before here all low is names was more =
    more ∙ ap (λ (n : List ℕ). cond (bytes_eq n name && eqb place q) (Some (text_at blocks place i)) old) names
    ∙ ap (λ (text : List ℕ). cond (bytes_eq one.name name && eqb place q) (Some text) old)
    (text-here blocks block place i one here (ap (λ (ds : List Directive). slice_get ds i) (sym all) ∙ slice_get_read directives i one low is))
    ∙ ap (λ (o : Option (List ℕ)). cond (bytes_eq one.name name && eqb place q) (Some one.value) o) was
    ∙ by_name (bytes_eq one.name name) (eqb place q)
    ∙ ap (λ (found : Option (List ℕ)). option_or (cond (eqb place q) found None) before) (sym (value-more directives i one name low is))
  where
    by_name : (named there : Bool) → cond (named && there) (Some one.value) (option_or (cond there (value_in (take i directives) name) None) before)
        ≡ option_or (cond there (cond named (Some one.value) (value_in (take i directives) name)) None) before
    by_name true true = refl
    by_name true false = refl
    by_name false true = refl
    by_name false false = refl

-- ---- one block more

own-here : (blocks : List Block) (i : ℕ) (d : Block) (name : List ℕ) → i < length blocks → own (take (suc i) blocks) name i ≡ value_in (get_or blocks i d).directives name
own-here [] i d name low = absurd (omega (arith, low))
own-here (block ∷ blocks) zero d name low = refl
own-here (block ∷ blocks) (suc i) d name low = own-here blocks i d name (omega (arith, low))

own-before : (blocks : List Block) (i : ℕ) (name : List ℕ) → own (take i blocks) name i ≡ None
own-before blocks zero name = refl
own-before [] (suc i) name = refl
own-before (block ∷ blocks) (suc i) name = own-before blocks i name

own-other : (blocks : List Block) (i place : ℕ) (name : List ℕ) → i ≢ place → own (take (suc i) blocks) name place ≡ own (take i blocks) name place
own-other [] zero place name other = refl
own-other [] (suc i) place name other = refl
own-other (block ∷ blocks) zero zero name other = absurd (other refl)
own-other (block ∷ blocks) zero (suc place) name other = refl
own-other (block ∷ blocks) (suc i) zero name other = refl
own-other (block ∷ blocks) (suc i) (suc place) name other = own-other blocks i place name (λ same. other (ap suc same))

pub own-more : (blocks : List Block) (i place : ℕ) (block : Block) (name : List ℕ) → i < length blocks → block ≡ get_or blocks i block
    → own (take (i + 1) blocks) name place ≡ option_or (cond (eqb i place) (value_in block.directives name) None) (own (take i blocks) name place)
own-more blocks i place block name low is =
    ap (λ (n : ℕ). own (take n blocks) name place) (let next : i + 1 ≡ suc i = omega arith in next)
    ∙ elim (cases_eq i place) [
      | inl same ↦ subst (λ (k : ℕ). own (take (suc i) blocks) name k ≡ option_or (cond (eqb i k) (value_in block.directives name) None) (own (take i blocks) name k)) same
          (own-here blocks i block name low ∙ ap (λ (x : Block). value_in x.directives name) (sym is) ∙ sym (or-none (value_in block.directives name))
          ∙ ap (λ (other : Option (List ℕ)). option_or (value_in block.directives name) other) (sym (own-before blocks i name))
          ∙ ap (λ (b : Bool). option_or (cond b (value_in block.directives name) None) (own (take i blocks) name i)) (sym (eq-eqb i i refl)))
      | inr other ↦ own-other blocks i place name other
          ∙ ap (λ (b : Bool). option_or (cond b (value_in block.directives name) None) (own (take i blocks) name place)) (sym (ne_eqb i place other))
    ]

-- ---- where the texts stand

some-last : {X : Type 0} (found : Option X) (x : X) (b : Bool) → b ≡ true → is_some (option_or found (cond b (Some x) None)) ≡ true
some-last None x b here = ap (λ (c : Bool). is_some (cond c (Some x) None)) here
some-last (Some y) x b here = refl

find-last : {X : Type 0} (p : X → Bool) (x : X) (xs : List X) → find p (reverse (x ∷ xs)) ≡ option_or (find p (reverse xs)) (cond (p x) (Some x) None)
find-last p x xs = ap (find p) (reverse-append (x ∷ []) xs) ∙ find-append p (reverse xs) (x ∷ [])

find-some : {X : Type 0} (p : X → Bool) (xs : List X) (k : ℕ) (d : X) → k < length xs → p (get_or xs k d) ≡ true → is_some (find p (reverse xs)) ≡ true
find-some p [] k d low is = absurd (omega (arith, low))
find-some p (x ∷ xs) zero d low is = ap is_some (find-last p x xs) ∙ some-last (find p (reverse xs)) x (p x) is
find-some p (x ∷ xs) (suc k) d low is =
    let there = find-some p xs k d (omega (arith, low)) is in
    ap is_some (find-last p x xs ∙ or-some (find p (reverse xs)) (cond (p x) (Some x) None) there) ∙ there

mapped-some : {X Y : Type 0} (f : X → Y) (found : Option X) → is_some (option_map f found) ≡ is_some found
mapped-some f None = refl
mapped-some f (Some x) = refl

pub texts-within : (blocks : List Block) (name : List ℕ) (given : List OwnText) → ((place : ℕ) → last_at blocks given place ≡ own blocks name place) → All (λ one. one.place < length blocks) given
texts-within blocks name given is k d low = ⊎_elim
    (λ (within : (get_or given k d).place < length blocks). within)
    (λ (past : length blocks ≤ (get_or given k d).place). absurd (false≢true (
    ap is_some (sym (is (get_or given k d).place ∙ own-past blocks name (get_or given k d).place past))
    ∙ mapped-some (λ (one : OwnText). text_at blocks one.place one.number) (find (λ (one : OwnText). eqb one.place (get_or given k d).place) (reverse given))
    ∙ find-some (λ (one : OwnText). eqb one.place (get_or given k d).place) given k d low (eq-eqb (get_or given k d).place (get_or given k d).place refl))))
    (cases_lt (get_or given k d).place (length blocks))
