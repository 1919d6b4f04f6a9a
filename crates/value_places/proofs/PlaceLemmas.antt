-- Where a value stands.
use Rattle.std.proofs.Common.{◌≡◌, Bor, ℕ, length, true, List, [], Option, None, Some, refl, sym, ap, subst, ◌∙◌}
use Rattle.std.specs.Prelude.{IfSome, is_some, slice_get}
use Rattle.std.specs.Option.{option_and_then, option_map}
use Rattle.std.specs.Slice.{IsItemAt}
use Rattle.std.proofs.lemmas.Option.{slice_get_read}
use Rattle.std.proofs.lemmas.Bool.{false≢true}
use Rattle.object_inheritance.specs.Columns.{Column}
use Rattle.object_inheritance.specs.claims.Inherited.{own, value}
use Rattle.object_reader.specs.declared.block.Block.{Block}
use Rattle.object_values.specs.claims.Values.{value_in}
use Rattle.value_places.specs.Lines.{IsLineOf}
use Rattle.value_places.specs.Origins.{AreOrigins}
use Rattle.value_places.specs.Places.{ArePlaces, ArePlacesFrom, File, IsAnswer, IsGiversLine, IsLineText, IsPlaceOf, line_text}
use Rattle.value_places.specs.Questions.{directive_at, other_place, place_from, question_at}
use Rattle.value_places.specs.declared.origins.Origin.{Origin}

-- where nothing is given
pub none-given : (file : File) (blocks : List Block) (directive : List ℕ) (place : ℕ) (text : List ℕ) → value blocks directive place ≡ None → text ≡ [] → IsPlaceOf file blocks directive place text
none-given file blocks directive place text none empty = record {
  given = λ some. absurd (false≢true (sym (ap is_some none) ∙ some));
  none = λ _. empty;
}

-- the block that gives it
pub giver-is : (file : File) (blocks : List Block) (directive : List ℕ) (place giver : ℕ) (text : List ℕ) → is_some (value blocks directive place) ≡ true
    → own blocks directive giver ≡ value blocks directive place → IfSome (slice_get blocks giver) (λ block. IsLineText file directive block.line text)
    → IsPlaceOf file blocks directive place text
giver-is file blocks directive place giver text some gives is = record {
  given = λ _. line (slice_get blocks giver) refl;
  none = λ none. absurd (false≢true (sym (ap is_some none) ∙ some));
}
  where
    line : (found : Option Block) → slice_get blocks giver ≡ found → IsGiversLine file blocks directive place text
    line None e = absurd (false≢true (sym (ap is_some (sym gives ∙ ap (option_and_then (λ (block : Block). value_in block.directives directive)) e)) ∙ some))
    line (Some block) e = record {
      giver = giver;
      block = block;
      here = e;
      gives = gives;
      told = subst (λ (found : Option Block). IfSome found (λ block. IsLineText file directive block.line text)) e is;
    }

-- the line of the directive in the block that is found
pub giver-told : (file : File) (directive : List ℕ) (found : Option Block) (block : Block) (line : ℕ) (text : List ℕ) → found ≡ Some block → IsLineOf file.lines block.line directive line
    → text ≡ line_text file line → IfSome found (λ block. IsLineText file directive block.line text)
giver-told file directive found block line text here told is =
    subst (λ (f : Option Block). IfSome f (λ block. IsLineText file directive block.line text)) (sym here) (record { line = line; line_is = told; is = is })

-- ---- what a filter goes by

pub answer-none : (file : File) (blocks : List Block) (origin : Origin) (filter : ℕ) (text : List ℕ) → directive_at filter ≡ None → text ≡ []
    → IsAnswer file blocks (question_at blocks origin filter) text
answer-none file blocks origin filter text none empty =
    subst (λ (d : Option (List ℕ)). IsAnswer file blocks (option_map (λ directive. record { directive = directive; place = place_from blocks directive origin.place (other_place origin filter) }) d) text)
    (sym none) empty

pub answer-some : (file : File) (blocks : List Block) (origin : Origin) (filter : ℕ) (directive : List ℕ) (other : ℕ) (text : List ℕ) → directive_at filter ≡ Some directive
    → other ≡ other_place origin filter → IsPlaceOf file blocks directive (place_from blocks directive origin.place other) text
    → IsAnswer file blocks (question_at blocks origin filter) text
answer-some file blocks origin filter directive other text some same is =
    subst (λ (d : Option (List ℕ)). IsAnswer file blocks (option_map (λ directive. record { directive = directive; place = place_from blocks directive origin.place (other_place origin filter) }) d) text)
    (sym some) (subst (λ (n : ℕ). IsPlaceOf file blocks directive (place_from blocks directive origin.place n) text) same is)

-- ---- of an object

pub places-are : (file : File) (blocks : List Block) (object : ℕ) (origins : List Origin) (found : Option Origin) (texts : List (List ℕ)) → AreOrigins blocks origins
    → slice_get origins object ≡ found → ArePlacesFrom file blocks found texts → ArePlaces file blocks object texts
places-are file blocks object origins found texts are here from = record {
  origins = origins;
  origins_are = are;
  are = subst (λ (f : Option Origin). ArePlacesFrom file blocks f texts) (sym here) from;
}

-- ---- what the blocks have for a directive

pub column-same : (values : Column) (blocks : List Block) (directive other : List ℕ) → values ≡ record { blocks = blocks; directive = other } → directive ≡ other
    → values ≡ record { blocks = blocks; directive = directive }
column-same values blocks directive other are same = are ∙ ap (λ (d : List ℕ). record { blocks = blocks; directive = d }) (sym same)

-- where the value stands that counts
pub place-told : (file : File) (templates blocks : List Block) (values : Column) (directive : List ℕ) (own other place : ℕ) (text : List ℕ)
    → values ≡ record { blocks = templates; directive = directive } → blocks ≡ templates → place ≡ place_from values.blocks values.directive own other
    → IsPlaceOf file blocks directive place text → IsPlaceOf file templates directive (place_from templates directive own other) text
place-told file templates blocks values directive own other place text are same from told =
    subst (λ (bs : List Block). IsPlaceOf file bs directive (place_from templates directive own other) text) same
    (subst (λ (n : ℕ). IsPlaceOf file blocks directive n text) (from ∙ ap (λ (v : Column). place_from v.blocks v.directive own other) are) told)

pub columns-same : (values : Column) (templates blocks : List Block) (directive : List ℕ) → values ≡ record { blocks = templates; directive = directive } → blocks ≡ templates
    → values ≡ record { blocks = blocks; directive = directive }
columns-same values templates blocks directive are same = are ∙ ap (λ (bs : List Block). record { blocks = bs; directive = directive }) (sym same)

-- of one that is there
pub places-found : (file : File) (blocks : List Block) (found : Option Origin) (origin : Origin) (texts : List (List ℕ)) → found ≡ Some origin
    → ArePlacesFrom file blocks (Some origin) texts → ArePlacesFrom file blocks found texts
places-found file blocks found origin texts here are = subst (λ (f : Option Origin). ArePlacesFrom file blocks f texts) (sym here) are

-- ---- elements

pub item-some : {X : Type 0} (xs : List X) (i : ℕ) (found : Option (Bor X)) (x : Bor X) → found ≡ Some x → IsItemAt xs i found → slice_get xs i ≡ Some x.now
item-some {X} xs i found x is at =
    let here = subst (λ (f : Option (Bor X)). IsItemAt xs i f) is at in
    slice_get_read xs (length xs) i x.now refl (here.3).0 here.1
