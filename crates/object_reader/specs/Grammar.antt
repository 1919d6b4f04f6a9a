-- Object text, as it is written: blocks, one after the other (chapter "Object Configuration Overview").
use Rattle.std.specs.Prelude.{◌<◌, List, length}
use Rattle.std.specs.List.{All}
use Rattle.std.specs.Str.{IsUtf8}
use Rattle.object_reader.specs.declared.block.Directive.{Directive}
use Rattle.object_reader.specs.declared.block.Block.{Block}

-- A directive's name and value are UTF-8, and its name isn't empty.
pub record IsPlain (d : Directive) : Type 0 where
  pub name : IsUtf8 d.name
  pub value : IsUtf8 d.value
  pub some_name : 0 < length d.name

-- Each directive of the blocks is so.
abbrev pub ArePlain : List Block → Type 0
ArePlain bs = All (λ b. All IsPlain b.directives) bs
