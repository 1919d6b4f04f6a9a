-- The faults of templates: which block has the first.
use Rattle.std.specs.Prelude.{◌≡◌, ℕ, ◌<◌, ◌↔◌, Bool, false, nat_lt, IsTrue, List, Option, None, Some, is_none, slice_get, if◌then◌else◌}
use Rattle.std.specs.List.{list_any}
use Rattle.std.specs.Option.{option_map_or}
use Rattle.graph.specs.claims.Chains.{IsOnLoop}
use Rattle.graph.specs.claims.Edges.{Leads}
use Rattle.object_reader.specs.declared.block.Block.{Block}
use Rattle.object_inheritance.specs.declared.templates.TemplateFault.{TemplateFault}
use Rattle.object_inheritance.specs.declared.templates.TemplateFault.TheVariants.{UnknownTemplate, TemplateLoop, Doubled}
use Rattle.object_inheritance.specs.claims.Templates.{template_graph, template_name, template_place, used_names}

-- whether a block uses a name that no template of its type has
abbrev pub uses_unknown : List Block → Block → Bool
uses_unknown blocks block =
    list_any (λ name. is_none (template_place blocks block.kind name)) (used_names block)

-- The block at the place lies on a loop: templates that use one another lead from it back to it.
abbrev pub IsLooped : List Block → ℕ → Type 0
IsLooped blocks place = IsOnLoop (Leads (template_graph blocks)) place

-- whether an earlier block is the template of the block's type and name
abbrev pub is_doubled : List Block → ℕ → Block → Bool
is_doubled blocks place block = option_map_or
    (λ name. option_map_or (λ first. nat_lt first place)
    (template_place blocks block.kind name) false)
    (template_name block) false

-- of several faults of a block the first counts
abbrev pub fault_by : (unknown looped doubled : Bool) → Option TemplateFault
fault_by unknown looped doubled = if unknown then Some UnknownTemplate
    else if looped then Some TemplateLoop
    else if doubled then Some Doubled
    else None

-- the fault of the block at the place, if it has one
pub record IsFaultAt (blocks : List Block) (place : ℕ) (block : Block)
    (fault : Option TemplateFault) : Type 0 where
  pub looped : Bool
  pub lies : IsTrue looped ↔ IsLooped blocks place
  pub is : fault ≡ fault_by (uses_unknown blocks block) looped (is_doubled blocks place block)

-- no block before the place has a fault
abbrev pub AreFreeBefore : List Block → ℕ → Type 0
AreFreeBefore blocks place = (k : ℕ) (block : Block)
    → k < place → slice_get blocks k ≡ Some block → IsFaultAt blocks k block None

-- no block has a fault
abbrev pub AreFree : List Block → Type 0
AreFree blocks = (k : ℕ) (block : Block)
    → slice_get blocks k ≡ Some block → IsFaultAt blocks k block None

-- the line is that of the first block with a fault, and the fault is that block's
pub record IsFirstFault (blocks : List Block) (line : ℕ) (fault : TemplateFault) : Type 0 where
  pub place : ℕ
  pub block : Block
  pub here : slice_get blocks place ≡ Some block
  pub at : block.line ≡ line
  pub refused : IsFaultAt blocks place block (Some fault)
  pub before : AreFreeBefore blocks place
