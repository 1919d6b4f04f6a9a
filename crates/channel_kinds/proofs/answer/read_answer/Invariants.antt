use Rattle.std.proofs.Common.{◌≡◌, ◌≢◌, ◌+◌, ◌-◌, ◌≤◌, All, length}
use Rattle.std.specs.Io.KnownBytes.{Consumes}
use Rattle.channel_kinds.proofs.answer.read_answer.Given as goal

abbrev pub invariant-loop-stream : goal.invariant-loop-stream
invariant-loop-stream g l =
    Consumes (g.S.Read.remaining l.fn.stream) (g.S.Read.remaining l.stream) l.answer.items
    × (g.S.Outlet.reads l.stream ≤ g.S.Outlet.reads l.fn.stream + length l.answer.items)
    × (g.S.Outlet.is_flushed l.stream ≡ g.S.Outlet.is_flushed l.fn.stream)
    × (length l.answer.items ≤ 64) × All (λ byte. byte ≢ 10) l.answer.items

abbrev pub decreases-loop-stream : goal.decreases-loop-stream
decreases-loop-stream g l = 64 - length l.answer.items
