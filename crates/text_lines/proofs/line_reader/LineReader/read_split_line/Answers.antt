use Rattle.std.proofs.Common.{◌≡◌, ◌<◌, ℕ, List, take, length, arith, ap, refl, subst, ◌∙◌}
use Rattle.std.proofs.Math.Seq.{take-length}
use Rattle.text_lines.specs.Lines.{IsUnbroken}
use Rattle.text_lines.proofs.ReadLines.{OnTheWay-none, OnTheWay-room, OnTheWay-more, length-more, calls-more, least-more, Reads-line, Reads-too_many, Reads-cut, Reads-end, Reads-failed}
use Rattle.text_lines.proofs.line_reader.LineReader.read_split_line.Goals as goal

pub returns-then-skipped-held_len-gt-BYTE_LIMIT-clause-line : goal.returns-then-skipped-held_len-gt-BYTE_LIMIT-clause-line
returns-then-skipped-held_len-gt-BYTE_LIMIT-clause-line g c =
    Reads-too_many c.args.self.now c.loop-call.self c.loop-call.skipped _ c.loop-call.invariant.way c.loop-call.invariant.held (omega arith)

pub returns-in-Empty-clause-line : goal.returns-in-Empty-clause-line
returns-in-Empty-clause-line g c =
    let room = OnTheWay-room c.args.self.now c.loop-call.self c.make_room-skipped.new.self c.loop-call.skipped c.make_room-skipped.result
    c.loop-call.invariant.way c.loop-call.invariant.held c.make_room-skipped.ensures in
    Reads-end c.args.self.now c.make_room-skipped.new.self c.fill.new.self c.make_room-skipped.result room.way c.in-Empty.ensures.bytes
    (omega (arith, ap (λ (held : List ℕ). length held) c.in-Empty.ensures.bytes.0))

pub returns-in-Empty-2-clause-line : goal.returns-in-Empty-2-clause-line
returns-in-Empty-2-clause-line g c =
    let room = OnTheWay-room c.args.self.now c.loop-call.self c.make_room-skipped.new.self c.loop-call.skipped c.make_room-skipped.result
    c.loop-call.invariant.way c.loop-call.invariant.held c.make_room-skipped.ensures in
    rw c.end_cut_line.ensures.how (Reads-cut c.args.self.now c.make_room-skipped.new.self c.fill.new.self c.end_cut_line.new.self c.make_room-skipped.result room.way room.held
    (room.many c.loop-call.invariant.many) c.in-Empty-2.ensures.bytes c.end_cut_line.ensures.held c.end_cut_line.ensures.unread c.end_cut_line.ensures.line
    (omega (arith, ap (λ (held : List ℕ). length held) c.in-Empty-2.ensures.bytes.0)) (omega (arith, room.same)))

pub returns-in-Failed-clause-line : goal.returns-in-Failed-clause-line
returns-in-Failed-clause-line g c =
    let room = OnTheWay-room c.args.self.now c.loop-call.self c.make_room-skipped.new.self c.loop-call.skipped c.make_room-skipped.result
    c.loop-call.invariant.way c.loop-call.invariant.held c.make_room-skipped.ensures in
    Reads-failed c.args.self.now c.make_room-skipped.new.self c.fill.new.self c.make_room-skipped.result room.way c.in-Failed.ensures.bytes

pub returns-then-place-held_len-clause-line : goal.returns-then-place-held_len-clause-line
returns-then-place-held_len-clause-line g c =
    let room = OnTheWay-room c.args.self.now c.loop-call.self c.make_room-skipped.new.self c.loop-call.skipped c.make_room-skipped.result
    c.loop-call.invariant.way c.loop-call.invariant.held c.make_room-skipped.ensures in
    let found = c.find_newline-place in
    let within : found.result < length c.fill.new.self.held = omega arith in
    Reads-line c.args.self.now c.fill.new.self c.end_line.new.self c.make_room-skipped.result found.result
    (OnTheWay-more c.args.self.now c.make_room-skipped.new.self c.fill.new.self c.make_room-skipped.result room.way c.in-More.ensures.bytes)
    (room.many c.loop-call.invariant.many) found.ensures.before within (found.ensures.here within)
    c.end_line.ensures.line c.end_line.ensures.held c.end_line.ensures.unread c.end_line.result c.end_line.ensures.how

pub loop-call-init : goal.loop-call-init
loop-call-init g c = record { way = OnTheWay-none c.args.self.now; held = c.requires; few = omega arith; many = λ none. absurd (omega arith); each = omega arith; none = λ _. refl; calls = λ some. absurd (omega arith); least = omega arith }

pub loop-call-preserved : goal.loop-call-preserved
loop-call-preserved g c =
    let room = OnTheWay-room c.args.self.now c.loop-call.self c.make_room-skipped.new.self c.loop-call.skipped c.make_room-skipped.result
    c.loop-call.invariant.way c.loop-call.invariant.held c.make_room-skipped.ensures in
    let all : c.find_newline-place.result ≡ length c.fill.new.self.held = omega arith in
    record {
      way = OnTheWay-more c.args.self.now c.make_room-skipped.new.self c.fill.new.self c.make_room-skipped.result room.way c.in-More.ensures.bytes;
      held = subst IsUnbroken (ap (λ count. take count c.fill.new.self.held) all ∙ take-length c.fill.new.self.held) c.find_newline-place.ensures.before;
      few = omega (arith, room.same);
      many = room.many c.loop-call.invariant.many;
      each = omega (arith, room.same, length-more c.make_room-skipped.new.self c.fill.new.self c.in-More.ensures.bytes);
      none = λ zero. absurd (omega arith);
      calls = λ _. calls-more c.args.self.now.calls c.loop-call.self.calls c.make_room-skipped.new.self.calls c.fill.new.self.calls c.loop-call._call
          c.loop-call.invariant.none c.loop-call.invariant.calls c.make_room-skipped.ensures.calls c.in-More.ensures.calls;
      least = least-more c.args.self.now.calls c.loop-call.self.calls c.make_room-skipped.new.self.calls c.fill.new.self.calls
          c.loop-call.invariant.least c.make_room-skipped.ensures.calls c.in-More.ensures.calls;
    }

pub returns-clause-line : goal.returns-clause-line
returns-clause-line g c = Reads-too_many c.args.self.now c.loop-call.self c.loop-call.skipped _ c.loop-call.invariant.way c.loop-call.invariant.held (omega arith)
