-- The configuration of a text, or its fault, from those of its blocks.
use Rattle.std.proofs.Common.{◌≡◌, ◌⊎◌, inl, inr, ℕ, Bool, List, Result, Ok, Err, is_ok, refl, sym, ap, subst}
use Rattle.std.proofs.lemmas.Bool.{true≢false}
use Rattle.due_model.specs.declared.config.Config.{Config}
use Rattle.object_reader.specs.declared.block.Block.{Block}
use Rattle.object_reader.specs.declared.fault.ReadFault.{ReadFault}
use Rattle.object_reader.specs.declared.fault.ReadFault.TheVariants as read
use Rattle.object_reader.specs.Blocks.{Gives}
use Rattle.object_reader.specs.claims.Grammar.{IsObjectText, IsRefused}
use Rattle.object_faults.specs.declared.load_fault.LoadFault.{LoadFault}
use Rattle.object_faults.specs.declared.load_fault.LoadFault.TheVariants as load
use Rattle.object_faults.specs.LoadFaults.{of_read}
use Rattle.object_resolve.specs.Fault.{IsAmong}
use Rattle.object_resolve.specs.Laws.{ResolvedIsUnrefused}
use Rattle.object_resolve.specs.claims.Resolve.{IsRefusal, IsResolved}
use Rattle.object_resolve.specs.claims.Text.{IsTextFault, blocks_read, text_read}

-- ---- what the reading of a text says of others

-- blocks that a text gives are those that were read
pub read-same : (r : Result (List Block) ReadFault) (blocks others : List Block) → r ≡ Ok blocks → Gives r (Ok others) → others ≡ blocks
read-same r blocks others is gives = ap blocks_in (subst (λ given. Gives given (Ok others)) is gives)
  where
    blocks_in : Result (List Block) ReadFault → List Block
    blocks_in (Ok bs) = bs
    blocks_in (Err fault) = others

-- a text that was read isn't refused
pub read-unrefused : (r : Result (List Block) ReadFault) (blocks : List Block) (fault : ReadFault) → r ≡ Ok blocks → Gives r (Err fault) → ⊥
read-unrefused r blocks fault is gives = true≢false (sym (ap is_ok (subst (λ given. Gives given (Err fault)) is gives)))

only-memory : (fault : ReadFault) (others : List Block) → Gives (Err fault) (Ok others) → of_read fault ≡ load.NoMemory
only-memory (read.AtLine n f) others gives = absurd (true≢false (ap is_ok gives))
only-memory read.TooLarge others gives = absurd (true≢false (ap is_ok gives))
only-memory read.NoMemory others gives = refl

-- a text of blocks is refused for want of memory alone
pub read-only : (r : Result (List Block) ReadFault) (fault : ReadFault) (others : List Block) → r ≡ Err fault → Gives r (Ok others)
    → of_read fault ≡ load.NoMemory
read-only r fault others is gives = only-memory fault others (subst (λ given. Gives given (Ok others)) is gives)

-- ---- faults

refused-text : (nagios : Bool) (text : List ℕ) (fault : ReadFault) → IsRefused (text_read nagios text) fault → IsTextFault nagios text (of_read fault)
refused-text nagios text (read.AtLine line fault) refused = refused
refused-text nagios text read.TooLarge refused = refused
refused-text nagios text read.NoMemory refused = refused

pub read-fault : (nagios : Bool) (text : List ℕ) (fault : ReadFault) → (fault ≡ read.NoMemory) ⊎ IsRefused (text_read nagios text) fault
    → (of_read fault ≡ load.NoMemory) ⊎ IsTextFault nagios text (of_read fault)
read-fault nagios text fault (inl is) = inl (ap of_read is)
read-fault nagios text fault (inr refused) = inr (refused-text nagios text fault refused)

pub blocks-fault : (nagios : Bool) (text : List ℕ) (blocks slice : List Block) (fault : LoadFault) → slice ≡ blocks_read nagios blocks → IsObjectText (text_read nagios text) blocks
    → IsAmong (IsRefusal slice) fault → (fault ≡ load.NoMemory) ⊎ IsTextFault nagios text fault
blocks-fault nagios text blocks slice (load.Block line fault) same whole refused = inr (blocks, whole, subst (λ bs. IsRefusal bs line fault) same refused)
blocks-fault nagios text blocks slice load.NoMemory same whole refused = inl refl
blocks-fault nagios text blocks slice (load.Line line fault) same whole refused = absurd refused
blocks-fault nagios text blocks slice load.TooLarge same whole refused = absurd refused

-- blocks that give a configuration are refused for want of memory alone
pub blocks-only : ResolvedIsUnrefused → (blocks : List Block) (config : Config) (fault : LoadFault) → IsResolved blocks config
    → IsAmong (IsRefusal blocks) fault → fault ≡ load.NoMemory
blocks-only law blocks config (load.Block line fault) of refused = absurd (law blocks config line fault of refused)
blocks-only law blocks config load.NoMemory of refused = refl
blocks-only law blocks config (load.Line line fault) of refused = absurd refused
blocks-only law blocks config load.TooLarge of refused = absurd refused

-- ---- configurations

-- a text whose blocks give a configuration has no fault
pub text-unrefused : ResolvedIsUnrefused → (nagios : Bool) (text : List ℕ) (blocks : List Block) (config : Config) → IsResolved (blocks_read nagios blocks) config
    → ((others : List Block) → IsObjectText (text_read nagios text) others → others ≡ blocks) → ((fault : ReadFault) → IsRefused (text_read nagios text) fault → ⊥)
    → (fault : LoadFault) → IsTextFault nagios text fault → ⊥
text-unrefused law nagios text blocks config of same unrefused (load.Line line fault) refused = unrefused (read.AtLine line fault) refused
text-unrefused law nagios text blocks config of same unrefused (load.Block line fault) (others, whole, refused) =
    law (blocks_read nagios blocks) config line fault of (subst (λ bs. IsRefusal (blocks_read nagios bs) line fault) (same others whole) refused)
text-unrefused law nagios text blocks config of same unrefused load.TooLarge refused = unrefused read.TooLarge refused
text-unrefused law nagios text blocks config of same unrefused load.NoMemory refused = refused
