-- Laws of the objects: how many there are.
use Rattle.std.proofs.Common.{[], arith, length, List, None, Some, ℕ, ◌++◌, ◌+◌, ◌≡◌}
use Rattle.std.specs.Prelude.{slice_index_or}
use Rattle.std.specs.List.{sum_by}
use Rattle.std.proofs.lemmas.List.{length-append, length-map}
use Rattle.std.proofs.lemmas.Slice.Zip.{AllZip-long}
use Rattle.lemmas.proofs.Numbers.{all-count}
use Rattle.due_model.specs.declared.config.Object.{Object}
use Rattle.object_groups.specs.claims.Objects.{objects_in}
use Rattle.object_reader.specs.declared.block.Block.{Block}
use Rattle.object_reader.specs.declared.block.BlockKind.TheVariants.{Host, Service}
use Rattle.object_settings.specs.claims.Settings.{AreObjectsOf, block_origins, host_origins, IsObjectOf, Origin, service_origins}

pub object-count : (blocks : List Block) (hosts : List (List ℕ)) (objects : List Object) → AreObjectsOf blocks hosts objects
    → length objects ≡ length (objects_in blocks Host) + sum_by length hosts
object-count blocks hosts objects are =
    let long = AllZip-long (IsObjectOf blocks) (host_origins blocks ++ service_origins blocks hosts) objects are in
    let both = length-append (host_origins blocks) (service_origins blocks hosts) in
    let first = length-map {B = Origin} (objects_in blocks Host) (λ place. record { place = place; host = None }) in
    let second = all-count (block_origins blocks hosts) hosts
    (λ n. length-map {B = Origin} (slice_index_or hosts n []) (λ host. record { place = slice_index_or (objects_in blocks Service) n 0; host = Some host })) in
    omega (arith, long, both, first, second)
