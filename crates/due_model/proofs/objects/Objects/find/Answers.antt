use Rattle.std.proofs.Common.{◌∙◌, ◌%◌, ap}
use Rattle.std.specs.Option.{option_copied}
use Rattle.due_model.specs.claims.Objects.{object_named}
use Rattle.due_model.specs.Objects.{name_hash}
use Rattle.due_model.proofs.ObjectIndex.{find-bucket, find-hashed}
use Rattle.due_model.proofs.objects.Objects.find.Goals as goal

pub returns : goal.returns
returns c =
    let inside = c.self.inside in
    let service = option_copied c.args.service in
    c.first_named.ensures
    ∙ rw (c.as_slice.ensures.value, c.as_slice-2.ensures.value, c.get-ids.ensures)
    (find-hashed inside.items.items inside.hashes.items c.hash_name-hash.result c.args.host.now service _ c.self.invariant.0 c.hash_name-hash.ensures
    ∙ find-bucket inside.items.items _ c.args.host.now service _ c.self.invariant.1
    (ap (λ hash. hash % c.len.result) c.hash_name-hash.ensures ∙ ap (λ count. name_hash c.args.host.now service % count) c.len.ensures)
    ∙ ap (λ objects. object_named objects c.args.host.now service) c.self.view_is)
