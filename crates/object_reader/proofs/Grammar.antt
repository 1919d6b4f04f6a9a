-- What is written as blocks is read as these blocks, and what isn't has a first fault.
use Rattle.std.proofs.Common.{◌≡◌, ℕ, ◌<◌, ◌≤◌, ◌⊎◌, inl, inr, Bool, true, false, List, [], ◌∷◌, ◌++◌, Option, None, Some, Result, Ok, Err, length, refl, sym, ap, subst, ◌∙◌, MatchResult, IfOk, IfErr, append_assoc}
use Rattle.std.proofs.lemmas.Bool.{cases_lt}
use Rattle.std.proofs.lemmas.List.{append-nil}
use Rattle.due_model.specs.claims.Limits.{text_limit}
use Rattle.object_reader.specs.declared.block.BlockKind.{BlockKind}
use Rattle.object_reader.specs.declared.block.Directive.{Directive}
use Rattle.object_reader.specs.declared.block.Block.{Block}
use Rattle.object_reader.specs.declared.fault.LineFault.{LineFault}
use Rattle.object_reader.specs.declared.fault.LineFault.TheVariants.{NoValue, Unclosed}
use Rattle.object_reader.specs.declared.fault.ReadFault.{ReadFault}
use Rattle.object_reader.specs.declared.fault.ReadFault.TheVariants.{AtLine, NoMemory, TooLarge}
use Rattle.object_reader.specs.claims.Statements.{Statement, is_close, is_define}
use Rattle.object_reader.specs.Statements.{statements_of, opened}
use Rattle.object_reader.specs.Blocks.{◌>>=◌, at_line, directive_of, with_blocks, with_directives, before_blocks, blocks_of, block_of, read_text, Gives}
use Rattle.object_reader.specs.claims.Grammar.{Opens, IsDirective, Closes, AreDirectives, IsBlock, AreBlocks, IsObjectText, IsBeginning, IsFaulty, OpensNone, IsFirstFault, IsRefused}
use Rattle.object_reader.proofs.Statements.{text_statements, has_statements}
use Rattle.object_reader.proofs.Spelling.{opened_spelled, opened_taken, opened_refused, no_define, directive_spelled, directive_taken, directive_refused, no_directive}
use Rattle.object_reader.proofs.Blocks.{block_of-close, block_of-directive, block_of-define, with_directives-close, with_directives-push, blocks_of-block, blocks_of-not_opened, blocks_of-opened, block_and, with_blocks-push, read_text-blocks, read_text-large}

-- a statement that says a text
said_so : (s : Statement) (text : List ℕ) → s.text ≡ Ok text → s ≡ record { line = s.line; text = Ok text }
said_so s text e = ap (λ t. let made : Statement = record { line = s.line; text = t } in made) e

-- what a statement opens, from how it is spelled, and back
opens_is : (s : Statement) (b : Block) (h : Opens s b) → opened h.text ≡ Ok b.kind
opens_is s b h = opened_spelled h.text h.name h.define ∙ h.kind

opens_from : (s : Statement) (b : Block) (text : List ℕ) (ds : List Directive) → s ≡ record { line = b.line; text = Ok text } → opened text ≡ Ok b.kind → Opens s (record b { directives = ds })
opens_from s b text ds says opens =
    let h = opened_taken text b.kind opens in record { text = text; says = says; name = h.0; define = h.1; kind = h.2 }

opens_none : (text : List ℕ) (f : LineFault) → OpensNone text f → opened text ≡ Err f
opens_none text f (inl h) = opened_spelled text h.0 h.1 ∙ h.2
opens_none text f (inr h) = no_define text h.0 ∙ ap Err (sym h.1)

-- What is written is read.

with_directives-none : (read : Result (List Directive × List Block) ReadFault) → with_directives [] read ≡ read
with_directives-none (Ok inside) = refl
with_directives-none (Err fault) = refl

with_blocks-none : (read : Result (List Block) ReadFault) → with_blocks [] read ≡ read
with_blocks-none (Ok others) = refl
with_blocks-none (Err fault) = refl

directives_read : (kind : BlockKind) (define : ℕ) (body rest : List Statement) (ds : List Directive) → AreDirectives kind body ds
    → block_of kind define (body ++ rest) ≡ with_directives ds (block_of kind define rest)
directives_read kind define [] rest [] h = sym (with_directives-none (block_of kind define rest))
directives_read kind define [] rest (d ∷ ds) h = absurd h
directives_read kind define (s ∷ body) rest [] h = absurd h
directives_read kind define (s ∷ body) rest (d ∷ ds) h =
    ap (λ first. block_of kind define (first ∷ (body ++ rest))) (said_so s h.0.text h.0.says)
    ∙ block_of-directive kind define s.line h.0.text (body ++ rest) h.0.no_close h.0.no_define
    ∙ ap (λ r. at_line s.line r >>= λ x. with_directives (x ∷ []) (block_of kind define (body ++ rest))) (directive_spelled kind h.0.text d h.0.value)
    ∙ ap (with_directives (d ∷ [])) (directives_read kind define body rest ds h.1)
    ∙ with_directives-push (d ∷ []) ds (block_of kind define rest)

close_read : (kind : BlockKind) (define : ℕ) (close : Statement) (rest : List Statement) → Closes close → block_of kind define (close ∷ rest) ≡ before_blocks [] (blocks_of rest)
close_read kind define close rest h =
    ap (λ first. block_of kind define (first ∷ rest)) (said_so close h.text h.says) ∙ block_of-close kind define close.line h.text rest h.closes

block_read : (first rest : List Statement) (b : Block) → IsBlock first b → blocks_of (first ++ rest) ≡ with_blocks (b ∷ []) (blocks_of rest)
block_read first rest b h =
    let parts : first ++ rest ≡ h.head ∷ (h.body ++ h.close ∷ rest) = ap (λ ss. ss ++ rest) h.parts ∙ ap (λ ss. h.head ∷ ss) (append_assoc h.body (h.close ∷ []) rest) in
    let inside : block_of b.kind b.line (h.body ++ h.close ∷ rest) ≡ before_blocks b.directives (blocks_of rest) =
    directives_read b.kind b.line h.body (h.close ∷ rest) b.directives h.directives
    ∙ ap (with_directives b.directives) (close_read b.kind b.line h.close rest h.closes)
    ∙ with_directives-close b.directives (blocks_of rest) in
    ap blocks_of parts
    ∙ ap (λ head. blocks_of (head ∷ (h.body ++ h.close ∷ rest))) h.opens.says
    ∙ blocks_of-block b.line h.opens.text (h.body ++ h.close ∷ rest) rest b.kind b.directives (opens_is h.head b h.opens) inside

blocks_read : (ss rest : List Statement) (bs : List Block) → AreBlocks ss bs → blocks_of (ss ++ rest) ≡ with_blocks bs (blocks_of rest)
blocks_read ss rest [] h = ap (λ x. blocks_of (x ++ rest)) h ∙ sym (with_blocks-none (blocks_of rest))
blocks_read ss rest (b ∷ bs) h =
    ap blocks_of (ap (λ x. x ++ rest) h.2 ∙ append_assoc h.0 h.1 rest)
    ∙ block_read h.0 (h.1 ++ rest) b h.3
    ∙ ap (with_blocks (b ∷ [])) (blocks_read h.1 rest bs h.4)
    ∙ with_blocks-push (b ∷ []) bs (blocks_of rest)

-- a text of blocks is read as these blocks
pub object_text_read : (text : List ℕ) (bs : List Block) → IsObjectText text bs → read_text text ≡ Ok bs
unfolding blocks_of
object_text_read text bs h =
    read_text-blocks text h.fits ∙ ap blocks_of (text_statements text h.statements h.has ∙ sym (append-nil h.statements)) ∙ blocks_read h.statements [] bs h.parts ∙ ap Ok (append-nil bs)

-- What is read is written so, and a fault is the first.

-- in a block that a line opened: its directives, its close, and the blocks after it
record IsRest (kind : BlockKind) (ss : List Statement) (ds : List Directive) (bs : List Block) : Type 0 where
  body : List Statement
  close : Statement
  others : List Statement
  parts : ss ≡ body ++ close ∷ others
  directives : AreDirectives kind body ds
  closes : Closes close
  blocks : AreBlocks others bs

-- the first fault in a block, or after it
abbrev IsFaultIn : Block → List Statement → ReadFault → Type 0
IsFaultIn b ss fault =
    ((body : List Statement) × (ds : List Directive) × (s : Statement) × (after : List Statement) × (ss ≡ body ++ s ∷ after) × AreDirectives b.kind body ds
    × IsFaulty (Some (record b { directives = ds })) s fault)
    ⊎ (((ds : List Directive) × AreDirectives b.kind ss ds × (fault ≡ AtLine b.line Unclosed))
    ⊎ ((body : List Statement) × (ds : List Directive) × (close : Statement) × (others : List Statement) × (ss ≡ body ++ close ∷ others)
    × AreDirectives b.kind body ds × Closes close × IsFirstFault others fault))

abbrev IsRightIn : Block → List Statement → Result (List Directive × List Block) ReadFault → Type 0
IsRightIn b ss (Ok inside) = IsRest b.kind ss inside.0 inside.1
IsRightIn b ss (Err fault) = IsFaultIn b ss fault

abbrev IsRight : List Statement → Result (List Block) ReadFault → Type 0
IsRight ss (Ok bs) = AreBlocks ss bs
IsRight ss (Err fault) = IsFirstFault ss fault

-- one more directive before the rest of a block
directive_before : (b : Block) (s : Statement) (d : Directive) (ss : List Statement) (r : Result (List Directive × List Block) ReadFault) → IsDirective b.kind s d
    → IsRightIn b ss r → IsRightIn b (s ∷ ss) (with_directives (d ∷ []) r)
directive_before b s d ss (Ok inside) is h = record {
  body = s ∷ h.body;
  close = h.close;
  others = h.others;
  parts = ap (λ x. s ∷ x) h.parts;
  directives = (is, h.directives);
  closes = h.closes;
  blocks = h.blocks;
}
directive_before b s d ss (Err fault) is (inl h) = inl (s ∷ h.0, d ∷ h.1, h.2, h.3, ap (λ x. s ∷ x) h.4, (is, h.5), h.6)
directive_before b s d ss (Err fault) is (inr (inl h)) = inr (inl (d ∷ h.0, (is, h.1), h.2))
directive_before b s d ss (Err fault) is (inr (inr h)) = inr (inr (s ∷ h.0, d ∷ h.1, h.2, h.3, ap (λ x. s ∷ x) h.4, (is, h.5), h.6, h.7))

-- the close of a block, and what comes after it
close_before : (b : Block) (s : Statement) (ss : List Statement) (r : Result (List Block) ReadFault) → Closes s → IsRight ss r → IsRightIn b (s ∷ ss) (before_blocks [] r)
close_before b s ss (Ok others) is h = record { body = []; close = s; others = ss; parts = refl; directives = tt; closes = is; blocks = h }
close_before b s ss (Err fault) is h = inr (inr ([], [], s, ss, refl, tt, is, h))

-- the statements of a block, by its parts
block_of_parts : (b : Block) (s : Statement) (body : List Statement) (close : Statement) → Opens s b → AreDirectives b.kind body b.directives → Closes close → IsBlock (s ∷ (body ++ close ∷ [])) b
block_of_parts b s body close opens directives closes = record { head = s; body = body; close = close; parts = refl; opens = opens; directives = directives; closes = closes }

beginning_after : (first ss : List Statement) (b : Block) (within : Option Block) → IsBlock first b → IsBeginning ss within → IsBeginning (first ++ ss) within
beginning_after first ss b None is h = (b ∷ h.0, (first, ss, refl, is, h.1))
beginning_after first ss b (Some c) is h =
    (first ++ h.0, b ∷ h.1, h.2, h.3, ap (λ x. first ++ x) h.4 ∙ sym (append_assoc first h.0 (h.2 ∷ h.3)), (first, h.0, refl, is, h.5), h.6, h.7)

fault_after : (first ss : List Statement) (b : Block) (fault : ReadFault) → IsBlock first b → IsFirstFault ss fault → IsFirstFault (first ++ ss) fault
fault_after first ss b fault is (inl h) =
    inl (first ++ h.0, h.1, h.2, h.3, ap (λ x. first ++ x) h.4 ∙ sym (append_assoc first h.0 (h.1 ∷ h.2)), beginning_after first h.0 b h.3 is h.5, h.6)
fault_after first ss b fault is (inr h) = inr (h.0, beginning_after first ss b (Some h.0) is h.1, h.2)

-- the statements from the head of a block to the end
parts_from_head : (s : Statement) (ss body others : List Statement) (close : Statement) → ss ≡ body ++ close ∷ others → s ∷ ss ≡ (s ∷ (body ++ close ∷ [])) ++ others
parts_from_head s ss body others close e = ap (λ x. s ∷ x) (e ∙ sym (append_assoc body (close ∷ []) others))

-- a block that opens, and what is right in it
block_right : (b : Block) (s : Statement) (ss : List Statement) (text : List ℕ) → s ≡ record { line = b.line; text = Ok text } → opened text ≡ Ok b.kind
    → (r : Result (List Directive × List Block) ReadFault) → IsRightIn b ss r → IsRight (s ∷ ss) (r >>= block_and b.kind b.line)
unfolding block_and
block_right b s ss text says opens (Ok inside) h = (
  s ∷ (h.body ++ h.close ∷ []),
  h.others,
  parts_from_head s ss h.body h.others h.close h.parts,
  block_of_parts (record b { directives = inside.0 }) s h.body h.close (opens_from s b text inside.0 says opens) h.directives h.closes,
  h.blocks,
)
block_right b s ss text says opens (Err fault) (inl h) =
    inl (
      s ∷ h.0,
      h.2,
      h.3,
      Some (record b { directives = h.1 }),
      ap (λ x. s ∷ x) h.4,
      ([], [], s, h.0, refl, refl, opens_from s b text h.1 says opens, h.5),
      h.6,
    )
block_right b s ss text says opens (Err fault) (inr (inl h)) =
    inr (record b { directives = h.0 }, ([], [], s, ss, refl, refl, opens_from s b text h.0 says opens, h.1), h.2)
block_right b s ss text says opens (Err fault) (inr (inr h)) =
    subst (λ x. IsFirstFault x fault) (sym (parts_from_head s ss h.0 h.3 h.2 h.4))
    (fault_after (s ∷ (h.0 ++ h.2 ∷ [])) h.3 (record b { directives = h.1 }) fault
    (block_of_parts (record b { directives = h.1 }) s h.0 h.2 (opens_from s b text h.1 says opens) h.5 h.6) h.7)

-- a statement outside a block
module _ (s : Statement) (ss : List Statement) (inside : (b : Block) → IsRightIn b ss (block_of b.kind b.line ss)) where
  outside_opened : (text : List ℕ) → s.text ≡ Ok text → (r : Result BlockKind LineFault) → opened text ≡ r → IsRight (s ∷ ss) (blocks_of ((record { line = s.line; text = Ok text }) ∷ ss))
  outside_opened text says (Ok kind) e =
      let b : Block = record { kind = kind; line = s.line; directives = [] } in
      subst (λ r. IsRight (s ∷ ss) r) (sym (blocks_of-opened s.line text ss kind e)) (block_right b s ss text (said_so s text says) e (block_of kind s.line ss) (inside b))
  outside_opened text says (Err f) e =
      subst (λ r. IsRight (s ∷ ss) r) (sym (blocks_of-not_opened s.line text ss f e)) (inl ([], s, ss, None, refl, ([], refl), (f, refl, inr (text, says, opened_refused text f e))))

  outside_said : (r : Result (List ℕ) LineFault) → s.text ≡ r → IsRight (s ∷ ss) (blocks_of ((record { line = s.line; text = r }) ∷ ss))
  unfolding blocks_of
  outside_said (Ok text) e = outside_opened text e (opened text) refl
  outside_said (Err f) e = inl ([], s, ss, None, refl, ([], refl), (f, refl, inl e))

-- a statement in a block
module _ (b : Block) (s : Statement) (ss : List Statement) (outside : IsRight ss (blocks_of ss)) (inside : IsRightIn b ss (block_of b.kind b.line ss)) where
  inside_directive : (text : List ℕ) → s.text ≡ Ok text → is_close text ≡ false → is_define text ≡ false → (r : Result Directive LineFault) → directive_of b.kind text ≡ r
      → IsRightIn b (s ∷ ss) (at_line s.line r >>= λ directive. with_directives (directive ∷ []) (block_of b.kind b.line ss))
  inside_directive text says c d (Ok directive) e =
      directive_before b s directive ss (block_of b.kind b.line ss) (record { text = text; says = says; no_close = c; no_define = d; value = directive_taken b.kind text directive e }) inside
  inside_directive text says c d (Err f) e =
      let h = directive_refused b.kind text f e in inl ([], [], s, ss, refl, tt, inr (inr (text, says, c, d, h.1, ap (λ g. AtLine s.line g) h.0)))

  inside_define : (text : List ℕ) → s.text ≡ Ok text → is_close text ≡ false → (d : Bool) → is_define text ≡ d → IsRightIn b (s ∷ ss) (block_of b.kind b.line ((record { line = s.line; text = Ok text }) ∷ ss))
  inside_define text says c true e =
      subst (λ r. IsRightIn b (s ∷ ss) r) (sym (block_of-define b.kind b.line s.line text ss c e)) (inl ([], [], s, ss, refl, tt, inr (inl (text, says, c, e, refl))))
  inside_define text says c false e =
      subst (λ r. IsRightIn b (s ∷ ss) r) (sym (block_of-directive b.kind b.line s.line text ss c e)) (inside_directive text says c e (directive_of b.kind text) refl)

  inside_close : (text : List ℕ) → s.text ≡ Ok text → (c : Bool) → is_close text ≡ c → IsRightIn b (s ∷ ss) (block_of b.kind b.line ((record { line = s.line; text = Ok text }) ∷ ss))
  inside_close text says true e =
      subst (λ r. IsRightIn b (s ∷ ss) r) (sym (block_of-close b.kind b.line s.line text ss e)) (close_before b s ss (blocks_of ss) (record { text = text; says = says; closes = e }) outside)
  inside_close text says false e = inside_define text says e (is_define text) refl

  inside_said : (r : Result (List ℕ) LineFault) → s.text ≡ r → IsRightIn b (s ∷ ss) (block_of b.kind b.line ((record { line = s.line; text = r }) ∷ ss))
  unfolding block_of
  inside_said (Ok text) e = inside_close text e (is_close text) refl
  inside_said (Err f) e = inl ([], [], s, ss, refl, tt, inl (f, refl, e))

-- whatever the statements are, what is read of them is right
right : (ss : List Statement) → IsRight ss (blocks_of ss) × ((b : Block) → IsRightIn b ss (block_of b.kind b.line ss))
unfolding blocks_of block_of
right [] = (refl, λ b. inr (inl ([], tt, refl)))
right (s ∷ ss) = let h = right ss in (outside_said s ss h.1 s.text refl, λ b. inside_said b s ss h.0 (h.1 b) s.text refl)

-- A first fault is answered.

fault_line : (s : Statement) (f : LineFault) → s.text ≡ Err f → s ≡ record { line = s.line; text = Err f }
fault_line s f e = ap (λ t. let made : Statement = record { line = s.line; text = t } in made) e

faulty_outside : (s : Statement) (after : List Statement) (fault : ReadFault) → IsFaulty None s fault → blocks_of (s ∷ after) ≡ Err fault
unfolding blocks_of
faulty_outside s after fault (f, e, inl says) = ap (λ x. blocks_of (x ∷ after)) (fault_line s f says) ∙ ap Err (sym e)
faulty_outside s after fault (f, e, inr (text, says, opens)) =
    ap (λ x. blocks_of (x ∷ after)) (said_so s text says) ∙ blocks_of-not_opened s.line text after f (opens_none text f opens) ∙ ap Err (sym e)

faulty_inside : (b : Block) (s : Statement) (after : List Statement) (fault : ReadFault) → IsFaulty (Some b) s fault → block_of b.kind b.line (s ∷ after) ≡ Err fault
unfolding block_of
faulty_inside b s after fault (inl (f, e, says)) = ap (λ x. block_of b.kind b.line (x ∷ after)) (fault_line s f says) ∙ ap Err (sym e)
faulty_inside b s after fault (inr (inl (text, says, c, d, e))) =
    ap (λ x. block_of b.kind b.line (x ∷ after)) (said_so s text says) ∙ block_of-define b.kind b.line s.line text after c d ∙ ap Err (sym e)
faulty_inside b s after fault (inr (inr (text, says, c, d, none, e))) =
    ap (λ x. block_of b.kind b.line (x ∷ after)) (said_so s text says) ∙ block_of-directive b.kind b.line s.line text after c d
    ∙ ap (λ r. at_line s.line r >>= λ x. with_directives (x ∷ []) (block_of b.kind b.line after)) (no_directive b.kind text none) ∙ ap Err (sym e)

-- a fault in a block that has begun
begun_fails : (ss rest : List Statement) (b : Block) (fault : ReadFault) → IsBeginning ss (Some b) → block_of b.kind b.line rest ≡ Err fault → blocks_of (ss ++ rest) ≡ Err fault
begun_fails ss rest b fault h fails =
    let inside : block_of b.kind b.line (h.3 ++ rest) ≡ Err fault = directives_read b.kind b.line h.3 rest b.directives h.7 ∙ ap (with_directives b.directives) fails in
    ap (λ x. blocks_of (x ++ rest)) h.4
    ∙ ap blocks_of (append_assoc h.0 (h.2 ∷ h.3) rest)
    ∙ blocks_read h.0 (h.2 ∷ (h.3 ++ rest)) h.1 h.5
    ∙ ap (with_blocks h.1) (ap (λ x. blocks_of (x ∷ (h.3 ++ rest))) h.6.says ∙ blocks_of-opened b.line h.6.text (h.3 ++ rest) b.kind (opens_is h.2 b h.6) ∙ ap (λ r. r >>= block_and b.kind b.line) inside)

fault_read : (before : List Statement) (s : Statement) (after : List Statement) (within : Option Block) (fault : ReadFault)
    → IsBeginning before within → IsFaulty within s fault → blocks_of (before ++ s ∷ after) ≡ Err fault
fault_read before s after None fault h faulty = blocks_read before (s ∷ after) h.0 h.1 ∙ ap (with_blocks h.0) (faulty_outside s after fault faulty)
fault_read before s after (Some b) fault h faulty = begun_fails before (s ∷ after) b fault h (faulty_inside b s after fault faulty)

first_fault_read : (ss : List Statement) (fault : ReadFault) → IsFirstFault ss fault → blocks_of ss ≡ Err fault
unfolding block_of
first_fault_read ss fault (inl h) = ap blocks_of h.4 ∙ fault_read h.0 h.1 h.2 h.3 fault h.5 h.6
first_fault_read ss fault (inr h) = ap blocks_of (sym (append-nil ss)) ∙ begun_fails ss [] h.0 fault h.1 (ap Err (sym h.2))

-- a refusal is answered
pub refusal_read : (text : List ℕ) (fault : ReadFault) → IsRefused text fault → read_text text ≡ Err fault
refusal_read text TooLarge h = read_text-large text h
refusal_read text (AtLine n fault) h =
    read_text-blocks text h.1 ∙ ap blocks_of (text_statements text h.0 h.2) ∙ first_fault_read h.0 (AtLine n fault) h.3
refusal_read text NoMemory h = absurd h

-- each first fault has a line
record HasLine (fault : ReadFault) : Type 0 where
  line : ℕ
  kind : LineFault
  is : fault ≡ AtLine line kind

faulty_has_line : (within : Option Block) (s : Statement) (fault : ReadFault) → IsFaulty within s fault → HasLine fault
faulty_has_line None s fault h = record { line = s.line; kind = h.0; is = h.1 }
faulty_has_line (Some b) s fault (inl h) = record { line = s.line; kind = h.0; is = h.1 }
faulty_has_line (Some b) s fault (inr (inl h)) = record { line = b.line; kind = Unclosed; is = h.4 }
faulty_has_line (Some b) s fault (inr (inr h)) = record { line = s.line; kind = NoValue; is = h.5 }

fault_has_line : (ss : List Statement) (fault : ReadFault) → IsFirstFault ss fault → HasLine fault
fault_has_line ss fault (inl h) = faulty_has_line h.3 h.1 fault h.6
fault_has_line ss fault (inr h) = record { line = h.0.line; kind = Unclosed; is = h.2 }

-- what is read of a text is written so
read_written : (text : List ℕ) (r : Result (List Block) ReadFault) → (text_limit < length text) ⊎ (length text ≤ text_limit) → read_text text ≡ r
    → MatchResult r (IsObjectText text) (IsRefused text)
read_written text (Ok bs) (inl large) e = let n = read_text-large text large in cc
read_written text (Ok bs) (inr fits) e =
    record { statements = statements_of text; fits = fits; has = has_statements text; parts = subst (IsRight (statements_of text)) (sym (read_text-blocks text fits) ∙ e) ((right (statements_of text)).0) }
read_written text (Err TooLarge) (inl large) e = large
read_written text (Err TooLarge) (inr fits) e =
    let l = fault_has_line (statements_of text) TooLarge (subst (IsRight (statements_of text)) (sym (read_text-blocks text fits) ∙ e) ((right (statements_of text)).0)) in let e = l.is in cc
read_written text (Err (AtLine n fault)) (inl large) e = let m = read_text-large text large in cc
read_written text (Err (AtLine n fault)) (inr fits) e = (statements_of text, fits, has_statements text, subst (IsRight (statements_of text)) (sym (read_text-blocks text fits) ∙ e) ((right (statements_of text)).0))
read_written text (Err NoMemory) (inl large) e = let m = read_text-large text large in cc
read_written text (Err NoMemory) (inr fits) e =
    let l = fault_has_line (statements_of text) NoMemory (subst (IsRight (statements_of text)) (sym (read_text-blocks text fits) ∙ e) ((right (statements_of text)).0)) in let e = l.is in cc

-- what is answered is written so
pub answered_blocks : (text : List ℕ) (r : Result (List Block) ReadFault) → Gives {A = List Block} r (read_text text) → IfOk r (IsObjectText text)
answered_blocks text (Ok bs) h = read_written text (Ok bs) (cases_lt text_limit (length text)) h
answered_blocks text (Err fault) h = tt

pub answered_fault : (text : List ℕ) (r : Result (List Block) ReadFault) → Gives {A = List Block} r (read_text text)
    → IfErr r (λ fault. (fault ≡ NoMemory) ⊎ IsRefused text fault)
answered_fault text (Ok bs) h = tt
answered_fault text (Err TooLarge) h = inr (read_written text (Err TooLarge) (cases_lt text_limit (length text)) h)
answered_fault text (Err (AtLine n fault)) h = inr (read_written text (Err (AtLine n fault)) (cases_lt text_limit (length text)) h)
answered_fault text (Err NoMemory) h = inl refl

-- what is written so is answered, or memory runs out
pub written_answered : (text : List ℕ) (bs : List Block) (r : Result (List Block) ReadFault) → Gives {A = List Block} r (read_text text) → IsObjectText text bs → Gives {A = List Block} r (Ok bs)
written_answered text bs r h is = subst (λ x. Gives {A = List Block} r x) (object_text_read text bs is) h

pub refusal_answered : (text : List ℕ) (fault : ReadFault) (r : Result (List Block) ReadFault) → Gives {A = List Block} r (read_text text) → IsRefused text fault → Gives {A = List Block} r (Err fault)
refusal_answered text fault r h is = subst (λ x. Gives {A = List Block} r x) (refusal_read text fault is) h
