-- What is kept of a column: the fault of the block at each place.
use Rattle.std.proofs.Common.{◌≡◌, ℕ, ◌<◌, Bool, true, false, cond, List, length, get_or, set, Option, Some, None, refl, sym, ap, subst, ⊎_elim}
use Rattle.std.specs.Prelude.{IfSome, is_some}
use Rattle.std.specs.Option.{option_and_then}
use Rattle.std.proofs.lemmas.Bool.{cases_eq, false≢true}
use Rattle.std.proofs.lemmas.List.{get_or-set_other, get_or-set_same}
use Rattle.object_reader.specs.declared.block.Block.{Block}
use Rattle.object_faults.specs.Columns.{check_of, column_fault, registered_fault}
use Rattle.object_faults.specs.claims.Faults.{is_registered}
use Rattle.object_faults.specs.Known.{AreKnown}
use Rattle.object_faults.specs.declared.column.Column.{Column}
use Rattle.object_faults.specs.declared.first.Judged.{Judged}

-- ---- blocks of a type of which nothing is asked

none-by : {A B : Type 0} (f : A → Option B) (found : Option A) → is_some found ≡ false → None ≡ option_and_then f found
none-by f None is = refl
none-by f (Some one) is = absurd (false≢true (sym is))

none-either : {A : Type 0} (b : Bool) (x : Option A) → None ≡ x → None ≡ cond b x None
none-either b x is = elim b as (λ b. None ≡ cond b x None) [ true ↦ is | false ↦ refl ]

pub unasked : (blocks : List Block) (place : ℕ) (column : Column) (block : Block) → is_some (check_of column block.kind) ≡ false → None ≡ registered_fault blocks place column block
unasked blocks place column block is =
    none-either (is_registered block) (column_fault blocks place block.kind column) (none-by _ (check_of column block.kind) is)

-- ---- blocks that are registered, and others

pub unregistered : (blocks : List Block) (place : ℕ) (column : Column) (block : Block) → is_registered block ≡ false → None ≡ registered_fault blocks place column block
unregistered blocks place column block is = sym (ap (λ (b : Bool). cond b (column_fault blocks place block.kind column) None) is)

pub of-registered : (blocks : List Block) (place : ℕ) (column : Column) (block : Block) → is_registered block ≡ true
    → column_fault blocks place block.kind column ≡ registered_fault blocks place column block
of-registered blocks place column block is = sym (ap (λ (b : Bool). cond b (column_fault blocks place block.kind column) None) is)

-- ---- what is kept

pub known-set : (blocks : List Block) (column : Column) (known : List (Option Judged)) (i : ℕ) (one : Judged) → i < length known
    → AreKnown blocks column known → one.fault ≡ column_fault blocks i one.kind column → AreKnown blocks column (set known i (Some one))
known-set blocks column known i one low before is = record {
  each = λ k. ⊎_elim
      (λ (same : k ≡ i). subst (λ (n : ℕ). IfSome (get_or (set known i (Some one)) n None) (λ one. one.fault ≡ column_fault blocks n one.kind column)) (sym same)
      (subst (λ (found : Option Judged). IfSome found (λ one. one.fault ≡ column_fault blocks i one.kind column)) (sym (get_or-set_same known i (Some one) None low)) is))
      (λ other. subst (λ (found : Option Judged). IfSome found (λ one. one.fault ≡ column_fault blocks k one.kind column)) (sym (get_or-set_other known i k (Some one) None other)) (before.each k))
      (cases_eq k i);
}
