-- The table of templates, one block more.
use Rattle.std.proofs.Common.{◌≡◌, ℕ, Bool, true, false, cond, ◌&&◌, List, [], ◌∷◌, ◌++◌, length, Option, Some, None, refl, sym, ap, eqb, eqb-true, ◌∙◌}
use Rattle.std.specs.Prelude.{is_some}
use Rattle.std.specs.List.{position}
use Rattle.std.specs.Map.{lookup}
use Rattle.std.specs.Option.{option_map_or, option_or}
use Rattle.std.specs.Str.{bytes_eq}
use Rattle.std.proofs.lemmas.Bool.{and_parts}
use Rattle.std.proofs.lemmas.Cmp.{nat_list_eq_equiv}
use Rattle.std.specs.HashMap.Eq.{lookup_congr}
use Rattle.lemmas.proofs.Searches.{is_none-from, or-none, or-some, position-snoc}
use Rattle.object_reader.specs.declared.block.Block.{Block}
use Rattle.object_inheritance.specs.Names.{Key, key_eq, has_key, HasFirsts}
use Rattle.object_inheritance.specs.claims.Templates.{kind_number, template_name}

-- ---- keys

and-false : (a : Bool) → (a && false) ≡ false
and-false true = refl
and-false false = refl

key_alike : (x y z : Key) → key_eq x y ≡ true → key_eq x z ≡ key_eq y z
key_alike x y z is =
    let both = and_parts (eqb x.0 y.0) (bytes_eq x.1.now y.1.now) is in
    ap (λ (n : ℕ). eqb n z.0 && bytes_eq x.1.now z.1.now) (eqb-true x.0 y.0 both.0)
    ∙ ap (λ (b : Bool). eqb y.0 z.0 && b) (nat_list_eq_equiv.congr x.1.now y.1.now z.1.now both.1)

-- the key of a block that is a template
has-named : (block : Block) (key other : Key) → key.0 ≡ kind_number block.kind → template_name block ≡ Some key.1.now
    → has_key other block ≡ key_eq key other
has-named block key other kind named =
    ap (λ (found : Option (List ℕ)). eqb (kind_number block.kind) other.0 && option_map_or (λ own. bytes_eq own other.1.now) found false) named
    ∙ ap (λ (n : ℕ). eqb n other.0 && bytes_eq key.1.now other.1.now) (sym kind)

has-none : (block : Block) (other : Key) → template_name block ≡ None → has_key other block ≡ false
has-none block other unnamed =
    ap (λ (found : Option (List ℕ)). eqb (kind_number block.kind) other.0 && option_map_or (λ own. bytes_eq own other.1.now) found false) unnamed
    ∙ and-false (eqb (kind_number block.kind) other.0)

module _ (blocks : List Block) (block : Block) (old : List (Key × ℕ)) (has : HasFirsts blocks old) where
  -- a block that is no template
  pub firsts-none : template_name block ≡ None → HasFirsts (blocks ++ block ∷ []) old
  firsts-none unnamed other = has other ∙ sym (position-snoc (has_key other) blocks block
      ∙ ap (λ (b : Bool). option_or (position (has_key other) blocks) (cond b (Some (length blocks)) None)) (has-none block other unnamed)
      ∙ or-none (position (has_key other) blocks))

  module _ (key : Key) (kind : key.0 ≡ kind_number block.kind) (named : template_name block ≡ Some key.1.now) where
    alike : (other : Key) → key_eq key other ≡ true → lookup (key_eq key) old ≡ position (has_key other) blocks
    alike other same = lookup_congr key_eq key_alike old key other same ∙ has other

    one_more : (other : Key) → position (has_key other) (blocks ++ block ∷ [])
        ≡ option_or (position (has_key other) blocks) (cond (key_eq key other) (Some (length blocks)) None)
    one_more other = position-snoc (has_key other) blocks block
        ∙ ap (λ (b : Bool). option_or (position (has_key other) blocks) (cond b (Some (length blocks)) None)) (has-named block key other kind named)

    -- a template that comes after another of its type and name
    pub firsts-kept : is_some (lookup (key_eq key) old) ≡ true → HasFirsts (blocks ++ block ∷ []) old
    firsts-kept there other = has other ∙ sym (one_more other ∙ by_key (key_eq key other) refl)
      where
        by_key : (b : Bool) → key_eq key other ≡ b
            → option_or (position (has_key other) blocks) (cond b (Some (length blocks)) None) ≡ position (has_key other) blocks
        by_key true same = or-some (position (has_key other) blocks) (Some (length blocks)) (ap is_some (sym (alike other same)) ∙ there)
        by_key false differs = or-none (position (has_key other) blocks)

    -- the first template of its type and name
    pub firsts-new : (new : List (Key × ℕ)) (place : ℕ) → is_some (lookup (key_eq key) old) ≡ false → length blocks ≡ place
        → ((other : Key) → lookup (key_eq other) new ≡ cond (key_eq key other) (Some place) (lookup (key_eq other) old))
        → HasFirsts (blocks ++ block ∷ []) new
    firsts-new new place absent long updates other = updates other ∙ by_key (key_eq key other) refl ∙ sym (one_more other)
      where
        by_key : (b : Bool) → key_eq key other ≡ b → cond b (Some place) (lookup (key_eq other) old)
            ≡ option_or (position (has_key other) blocks) (cond b (Some (length blocks)) None)
        by_key true same = ap (λ (n : ℕ). Some n) (sym long)
            ∙ ap (λ (found : Option ℕ). option_or found (Some (length blocks))) (sym (is_none-from _ absent) ∙ alike other same)
        by_key false differs = has other ∙ sym (or-none (position (has_key other) blocks))
