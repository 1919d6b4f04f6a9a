-- The faults of object text, as a program prints them.
use Rattle.std.specs.Prelude.{ℕ, List, ◌++◌, codes}
use Rattle.std.specs.Fmt.{decimal}
use Rattle.object_reader.specs.declared.fault.LineFault.{LineFault}
use Rattle.object_reader.specs.declared.fault.LineFault.TheVariants.{NotUtf8, NotADefine, UnknownType, NoValue, Unclosed, LineTooLong}
use Rattle.object_reader.specs.declared.fault.ReadFault.{ReadFault}
use Rattle.object_reader.specs.declared.fault.ReadFault.TheVariants.{AtLine, NoMemory, TooLarge}

-- the name of a line's fault
abbrev pub fault_name : LineFault → List ℕ
fault_name NotUtf8 = codes "NotUtf8"
fault_name NotADefine = codes "NotADefine"
fault_name UnknownType = codes "UnknownType"
fault_name NoValue = codes "NoValue"
fault_name Unclosed = codes "Unclosed"
fault_name LineTooLong = codes "LineTooLong"

-- the fault with its line, where it has one
abbrev pub fault_text : ReadFault → List ℕ
fault_text (AtLine line fault) = codes "line " ++ decimal line ++ codes ": " ++ fault_name fault
fault_text NoMemory = codes "NoMemory"
fault_text TooLarge = codes "TooLarge"
