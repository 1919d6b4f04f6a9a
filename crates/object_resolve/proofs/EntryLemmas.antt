-- What is needed to make the escalations: that those of which blocks speak are objects, and how many there are.
use Rattle.std.proofs.Common.{◌≡◌, ℕ, ◌+◌, ◌<◌, ◌≤◌, List, length, sum_by, sym, ap, subst, ◌∙◌, arith}
use Rattle.std.specs.Prelude.{All}
use Rattle.std.specs.List.{range_with_len}
use Rattle.std.proofs.lemmas.List.FromFn.{length-range_with_len}
use Rattle.std.proofs.lemmas.Slice.Zip.{AllZip-long}
use Rattle.due_model.specs.claims.Limits.{max_objects}
use Rattle.due_model.specs.declared.config.Object.{Object}
use Rattle.object_escalations.specs.claims.Escalated.{AreEscalated, SpeaksOf}
use Rattle.object_escalations.specs.Laws.{EscalatedAreObjects}
use Rattle.object_groups.specs.claims.Objects.{objects_in}
use Rattle.object_listing.specs.claims.Listing.{AreThose}
use Rattle.object_reader.specs.declared.block.Block.{Block}
use Rattle.object_reader.specs.declared.block.BlockKind.TheVariants.{Host}
use Rattle.object_settings.specs.claims.Settings.{AreObjectsOf}
use Rattle.object_settings.specs.ObjectLaws.{object-count}

pub spoken-within : EscalatedAreObjects → (blocks : List Block) (hosts spoken : List (List ℕ)) (objects given : List Object) → given ≡ objects → AreObjectsOf blocks hosts objects
    → AreEscalated blocks hosts (length blocks) spoken → All (All (λ number. number < length given)) spoken
spoken-within law blocks hosts spoken objects given same are speak =
    let long : length given ≡ length (objects_in blocks Host) + sum_by length hosts = ap length same ∙ object-count blocks hosts objects are in
    subst (λ (n : ℕ). All (All (λ number. number < n)) spoken) (sym long) (law blocks hosts (length blocks) spoken speak)

pub spoken-long : (blocks : List Block) (hosts spoken : List (List ℕ)) → AreEscalated blocks hosts (length blocks) spoken → length spoken ≡ length blocks
spoken-long blocks hosts spoken speak =
    AllZip-long (λ at found. AreThose (SpeaksOf blocks hosts at) found) (range_with_len 0 (length blocks)) spoken speak ∙ length-range_with_len 0 (length blocks)

pub objects-few : (blocks : List Block) (hosts : List (List ℕ)) (objects given : List Object) → given ≡ objects → AreObjectsOf blocks hosts objects
    → length (objects_in blocks Host) + sum_by length hosts ≤ max_objects → length given ≤ max_objects
objects-few blocks hosts objects given same are few =
    let long : length given ≡ length (objects_in blocks Host) + sum_by length hosts = ap length same ∙ object-count blocks hosts objects are in
    omega (arith, long, few)
