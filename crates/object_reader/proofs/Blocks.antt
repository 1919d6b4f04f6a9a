-- Blocks and their directives, one statement at a time.
use Rattle.std.proofs.Common.{◌≡◌, ℕ, ◌<◌, ◌≤◌, true, false, List, [], ◌∷◌, ◌++◌, Result, Ok, Err, length, nat_lt, refl, sym, ap, subst, ◌∙◌, append_assoc, arith, tests}
use Rattle.std.proofs.lemmas.List.{append-nil}
use Rattle.due_model.specs.claims.Limits.{text_limit}
use Rattle.object_reader.specs.declared.block.BlockKind.{BlockKind}
use Rattle.object_reader.specs.declared.block.Directive.{Directive}
use Rattle.object_reader.specs.declared.block.Block.{Block}
use Rattle.object_reader.specs.declared.fault.LineFault.{LineFault}
use Rattle.object_reader.specs.declared.fault.LineFault.TheVariants.{Unclosed}
use Rattle.object_reader.specs.declared.fault.ReadFault.{ReadFault}
use Rattle.object_reader.specs.declared.fault.ReadFault.TheVariants.{AtLine, NoMemory, TooLarge}
use Rattle.object_reader.specs.claims.Statements.{Statement, is_close, is_define}
use Rattle.object_reader.specs.Statements.{statements_of, opened}
use Rattle.object_reader.specs.Blocks.{◌>>=◌, at_line, directive_of, with_blocks, with_directives, before_blocks, blocks_of, block_of, read_text, Gives, FailsFirst}

-- the fault of a first part is that of the whole
pub fails_first : {A B : Type 0} (fault : ReadFault) (r : Result A ReadFault) (f : A → Result B ReadFault) → Gives {A = A} (Err fault) r → Gives {A = B} (Err fault) (r >>= f)
fails_first (AtLine n e) r f h = ap (λ x. x >>= f) h
fails_first NoMemory r f h = tt
fails_first TooLarge r f h = ap (λ x. x >>= f) h

pub fails_along : {A : Type 0} (fault : ReadFault) (a b : Result A ReadFault) → a ≡ b → Gives {A = A} (Err fault) b → Gives {A = A} (Err fault) a
fails_along {A} fault a b e h = subst (λ x. Gives {A = A} (Err fault) x) (sym e) h

-- in a block

pub block_of-fault : (fault : ReadFault) (kind : BlockKind) (define : ℕ) (ss : List Statement) → FailsFirst fault ss → Gives {A = List Directive × List Block} (Err fault) (block_of kind define ss)
unfolding block_of
block_of-fault (AtLine n e) kind define [] h = absurd h
block_of-fault (AtLine n e) kind define (s ∷ ss) h = rw (h.0, h.1) refl
block_of-fault NoMemory kind define ss h = tt
block_of-fault TooLarge kind define ss h = absurd h

pub block_of-close : (kind : BlockKind) (define n : ℕ) (text : List ℕ) (rest : List Statement) → is_close text ≡ true → block_of kind define ((record { line = n; text = Ok text }) ∷ rest) ≡ before_blocks [] (blocks_of rest)
unfolding block_of
block_of-close kind define n text rest e = rw e refl

pub block_of-define : (kind : BlockKind) (define n : ℕ) (text : List ℕ) (rest : List Statement) → is_close text ≡ false → is_define text ≡ true
    → block_of kind define ((record { line = n; text = Ok text }) ∷ rest) ≡ Err (AtLine define Unclosed)
unfolding block_of
block_of-define kind define n text rest e d = rw (e, d) refl

pub block_of-directive : (kind : BlockKind) (define n : ℕ) (text : List ℕ) (rest : List Statement) → is_close text ≡ false → is_define text ≡ false
    → block_of kind define ((record { line = n; text = Ok text }) ∷ rest) ≡ (at_line n (directive_of kind text) >>= λ directive. with_directives (directive ∷ []) (block_of kind define rest))
unfolding block_of
block_of-directive kind define n text rest e d = rw (e, d) refl

pub with_directives-close : (front : List Directive) (blocks : Result (List Block) ReadFault) → with_directives front (before_blocks [] blocks) ≡ before_blocks front blocks
with_directives-close front (Ok others) = ap (λ (ds : List Directive). Ok (ds, others)) (append-nil front)
with_directives-close front (Err fault) = refl

pub with_directives-push : (front more : List Directive) (read : Result (List Directive × List Block) ReadFault) → with_directives front (with_directives more read) ≡ with_directives (front ++ more) read
with_directives-push front more (Ok inside) = ap (λ (ds : List Directive). Ok (ds, inside.1)) (sym (append_assoc front more inside.0))
with_directives-push front more (Err fault) = refl

-- the loop over a block: whole is what the block gives, of which front has been read, and ss is left
module _ (kind : BlockKind) (define : ℕ) (front : List Directive) (ss : List Statement) (whole : Result (List Directive × List Block) ReadFault)
    (so_far : whole ≡ with_directives front (block_of kind define ss)) where
  fails_with : (fault : ReadFault) → Gives {A = List Directive × List Block} (Err fault) (block_of kind define ss) → Gives {A = List Directive × List Block} (Err fault) whole
  fails_with fault h = fails_along fault whole _ so_far (fails_first fault (block_of kind define ss) (λ inside. Ok (front ++ inside.0, inside.1)) h)

  pub fault_in_block : (fault : ReadFault) → FailsFirst fault ss → Gives {A = List Directive × List Block} (Err fault) whole
  fault_in_block fault h = fails_with fault (block_of-fault fault kind define ss h)

  pub end_in_block : ss ≡ [] → whole ≡ Err (AtLine define Unclosed)
  unfolding block_of
  end_in_block e = so_far ∙ ap (λ left. with_directives front (block_of kind define left)) e

  module _ (n : ℕ) (text : List ℕ) (rest : List Statement) (next : ss ≡ (record { line = n; text = Ok text }) ∷ rest) where
    now : whole ≡ with_directives front (block_of kind define ((record { line = n; text = Ok text }) ∷ rest))
    now = so_far ∙ ap (λ left. with_directives front (block_of kind define left)) next

    pub close_in_block : is_close text ≡ true → whole ≡ before_blocks front (blocks_of rest)
    close_in_block e = now ∙ ap (with_directives front) (block_of-close kind define n text rest e) ∙ with_directives-close front (blocks_of rest)

    pub define_in_block : is_close text ≡ false → is_define text ≡ true → whole ≡ Err (AtLine define Unclosed)
    define_in_block e d = now ∙ ap (with_directives front) (block_of-define kind define n text rest e d)

    pub no_value_in_block : is_close text ≡ false → is_define text ≡ false → (fault : ReadFault) → Gives {A = Directive} (Err fault) (at_line n (directive_of kind text))
        → Gives {A = List Directive × List Block} (Err fault) whole
    no_value_in_block e d fault h = fails_with fault (fails_along fault _ _ (ap (block_of kind define) next ∙ block_of-directive kind define n text rest e d) (fails_first fault (at_line n (directive_of kind text)) (λ directive. with_directives (directive ∷ []) (block_of kind define rest)) h))

    pub directive_in_block : is_close text ≡ false → is_define text ≡ false → (directive : Directive) → at_line n (directive_of kind text) ≡ Ok directive
        → whole ≡ with_directives (front ++ directive ∷ []) (block_of kind define rest)
    directive_in_block e d directive h = now ∙ ap (with_directives front) (block_of-directive kind define n text rest e d ∙ ap (λ r. r >>= λ x. with_directives (x ∷ []) (block_of kind define rest)) h) ∙ with_directives-push front (directive ∷ []) (block_of kind define rest)

-- outside a block

pub blocks_of-fault : (fault : ReadFault) (ss : List Statement) → FailsFirst fault ss → Gives {A = List Block} (Err fault) (blocks_of ss)
unfolding blocks_of
blocks_of-fault (AtLine n e) [] h = absurd h
blocks_of-fault (AtLine n e) (s ∷ ss) h = rw (h.0, h.1) refl
blocks_of-fault NoMemory ss h = tt
blocks_of-fault TooLarge ss h = absurd h

-- the block that begins with its first line
unfoldable pub block_and : BlockKind → ℕ → List Directive × List Block → Result (List Block) ReadFault
block_and kind n inside = Ok ((record { kind = kind; line = n; directives = inside.0 }) ∷ inside.1)

pub blocks_of-not_opened : (n : ℕ) (text : List ℕ) (rest : List Statement) (fault : LineFault) → opened text ≡ Err fault
    → blocks_of ((record { line = n; text = Ok text }) ∷ rest) ≡ Err (AtLine n fault)
unfolding blocks_of
blocks_of-not_opened n text rest fault e = rw e refl

pub blocks_of-opened : (n : ℕ) (text : List ℕ) (rest : List Statement) (kind : BlockKind) → opened text ≡ Ok kind
    → blocks_of ((record { line = n; text = Ok text }) ∷ rest) ≡ (block_of kind n rest >>= block_and kind n)
unfolding blocks_of block_and
blocks_of-opened n text rest kind e = rw e refl

pub blocks_of-block_fails : (fault : ReadFault) (n : ℕ) (text : List ℕ) (rest : List Statement) (kind : BlockKind) → opened text ≡ Ok kind
    → Gives {A = List Directive × List Block} (Err fault) (block_of kind n rest) → Gives {A = List Block} (Err fault) (blocks_of ((record { line = n; text = Ok text }) ∷ rest))
blocks_of-block_fails fault n text rest kind e h = fails_along fault _ _ (blocks_of-opened n text rest kind e) (fails_first fault (block_of kind n rest) (block_and kind n) h)

block_and-before : (n : ℕ) (kind : BlockKind) (directives : List Directive) (read : Result (List Block) ReadFault)
    → (before_blocks directives read >>= block_and kind n) ≡ with_blocks ((record { kind = kind; line = n; directives = directives }) ∷ []) read
unfolding block_and
block_and-before n kind directives (Ok others) = refl
block_and-before n kind directives (Err fault) = refl

pub blocks_of-block : (n : ℕ) (text : List ℕ) (rest after : List Statement) (kind : BlockKind) (directives : List Directive) → opened text ≡ Ok kind
    → block_of kind n rest ≡ before_blocks directives (blocks_of after)
    → blocks_of ((record { line = n; text = Ok text }) ∷ rest) ≡ with_blocks ((record { kind = kind; line = n; directives = directives }) ∷ []) (blocks_of after)
blocks_of-block n text rest after kind directives e h = blocks_of-opened n text rest kind e ∙ ap (λ r. r >>= block_and kind n) h ∙ block_and-before n kind directives (blocks_of after)

pub with_blocks-push : (front more : List Block) (read : Result (List Block) ReadFault) → with_blocks front (with_blocks more read) ≡ with_blocks (front ++ more) read
with_blocks-push front more (Ok others) = ap Ok (sym (append_assoc front more others))
with_blocks-push front more (Err fault) = refl

-- the loop over the blocks: whole is what the text gives, of which front has been read, and ss is left
module _ (front : List Block) (ss : List Statement) (whole : Result (List Block) ReadFault) (so_far : whole ≡ with_blocks front (blocks_of ss)) where
  fails_after : (fault : ReadFault) → Gives {A = List Block} (Err fault) (blocks_of ss) → Gives {A = List Block} (Err fault) whole
  fails_after fault h = fails_along fault whole _ so_far (fails_first fault (blocks_of ss) (λ others. Ok (front ++ others)) h)

  pub fault_outside : (fault : ReadFault) → FailsFirst fault ss → Gives {A = List Block} (Err fault) whole
  fault_outside fault h = fails_after fault (blocks_of-fault fault ss h)

  pub end_outside : ss ≡ [] → whole ≡ Ok front
  unfolding blocks_of
  end_outside e = so_far ∙ ap (λ left. with_blocks front (blocks_of left)) e ∙ ap Ok (append-nil front)

  module _ (n : ℕ) (text : List ℕ) (rest : List Statement) (next : ss ≡ (record { line = n; text = Ok text }) ∷ rest) where
    pub not_opened_outside : (fault : LineFault) → opened text ≡ Err fault → whole ≡ Err (AtLine n fault)
    not_opened_outside fault e = so_far ∙ ap (with_blocks front) (ap blocks_of next ∙ blocks_of-not_opened n text rest fault e)

    module _ (kind : BlockKind) (opens : opened text ≡ Ok kind) where
      pub block_fails_outside : (fault : ReadFault) → Gives {A = List Directive × List Block} (Err fault) (block_of kind n rest) → Gives {A = List Block} (Err fault) whole
      block_fails_outside fault h = fails_after fault (fails_along fault _ _ (ap blocks_of next) (blocks_of-block_fails fault n text rest kind opens h))

      pub block_outside : (directives : List Directive) (after : List Statement) → block_of kind n rest ≡ before_blocks directives (blocks_of after)
          → whole ≡ with_blocks (front ++ (record { kind = kind; line = n; directives = directives }) ∷ []) (blocks_of after)
      block_outside directives after h = so_far ∙ ap (with_blocks front) (ap blocks_of next ∙ blocks_of-block n text rest after kind directives opens h) ∙ with_blocks-push front ((record { kind = kind; line = n; directives = directives }) ∷ []) (blocks_of after)

-- a text within its limit
pub read_text-blocks : (text : List ℕ) → length text ≤ text_limit → read_text text ≡ blocks_of (statements_of text)
unfolding read_text
read_text-blocks text h = let e : nat_lt text_limit (length text) ≡ false = search (arith, tests) in rw e refl

pub read_text-large : (text : List ℕ) → text_limit < length text → read_text text ≡ Err TooLarge
unfolding read_text
read_text-large text h = let e : nat_lt text_limit (length text) ≡ true = search (arith, tests) in rw e refl
