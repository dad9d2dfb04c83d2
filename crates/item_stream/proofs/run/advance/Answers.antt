use Rattle.std.proofs.Common.{◌≡◌, ◌-◌, Ok, ◌∙◌, ℕ, ap, arith, length, length-append, take, ◌+◌, ◌≤◌}
use Rattle.std.proofs.lemmas.List.{length-take}
use Rattle.item_stream.specs.Running.{input_limit}
use Rattle.item_stream.proofs.Running.{standing_told, goes_on, ends_refused, ends_at, ends_at_limit, sink_fault, source_fault, memory_fault}
use Rattle.item_stream.proofs.run.advance.Goals as goal

pub returns-in-Err-clause-steps : goal.returns-in-Err-clause-steps
returns-in-Err-clause-steps g c first input old s = sink_fault g.T.Teller.has_told first g.T.Teller.finds input _ old _ _ _ _ _ c.tell_and_write.new.run.held.items _ c.in-Err.fault s c.in-Err.ensures.of_sink c.in-Err.ensures.writes

pub returns-in-Refused-clause-steps : goal.returns-in-Refused-clause-steps
returns-in-Refused-clause-steps g c first input old s =
    let writes = rw c.in-Refused.is at c.in-Ok.ensures.writes in
    let s' = standing_told g.T.Teller.has_told first _ input _ old _ _ _ _ _ _ _ _ _ s writes.1 writes.2 in
    ends_refused _ g.T.Teller.finds input _ old _ _ _ _ (c.tell_and_write.new.run.fed - c.len.result) s' writes.1.found (omega (arith, c.len.ensures, c.tell_and_write.ensures.fed))

pub returns-in-Ok-ending_at_limit-clause-steps : goal.returns-in-Ok-ending_at_limit-clause-steps
returns-in-Ok-ending_at_limit-clause-steps g c first input old s =
    let writes = c.in-Ok.ensures.writes in
    let s' = standing_told g.T.Teller.has_told first _ input _ old _ _ _ _ _ _ _ _ _ s writes.1 writes.2 in
    ends_at_limit _ g.T.Teller.finds input _ old _ _ _ _ c.in-Ok.front c.in-Ok-ending_at_limit.ending s' writes.1.found c.in_default.not-Refused (omega (arith, c.if-run-eq-INPUT_LIMIT.true, c.tell_and_write.ensures.fed)) c.in-Ok-ending_at_limit.ensures.ending

pub returns-in-Err-ending_at_limit-clause-steps : goal.returns-in-Err-ending_at_limit-clause-steps
returns-in-Err-ending_at_limit-clause-steps g c first input old s =
    let writes = c.in-Ok.ensures.writes in
    let s' = standing_told g.T.Teller.has_told first _ input _ old _ _ _ _ _ _ _ _ _ s writes.1 writes.2 in
    source_fault _ g.T.Teller.finds input _ _ old _ _ _ _ c.in-Ok.front c.in-Err-ending_at_limit.fault s' writes.1.found c.in_default.not-Refused c.in-Err-ending_at_limit.ensures.of_source c.in-Err-ending_at_limit.ensures.kept

pub returns-in-Err-read_piece-clause-steps : goal.returns-in-Err-read_piece-clause-steps
returns-in-Err-read_piece-clause-steps g c first input old s =
    let writes = c.in-Ok.ensures.writes in
    let s' = standing_told g.T.Teller.has_told first _ input _ old _ _ _ _ _ _ _ _ _ s writes.1 writes.2 in
    source_fault _ g.T.Teller.finds input _ _ old _ _ _ _ c.in-Ok.front c.in-Err-read_piece.fault s' writes.1.found c.in_default.not-Refused c.in-Err-read_piece.ensures.of_source c.in-Err-read_piece.ensures.kept

pub returns-then-n-eq0-clause-steps : goal.returns-then-n-eq0-clause-steps
returns-then-n-eq0-clause-steps g c first input old s =
    let writes = c.in-Ok.ensures.writes in
    let s' = standing_told g.T.Teller.has_told first _ input _ old _ _ _ _ _ _ _ _ _ s writes.1 writes.2 in
    let empty = c.in-Ok-read_piece.ensures.finish (ap Ok c.if-n-eq0.true) (omega (arith, length-take c.min-room.result c.args.piece.now, c.min-room.ensures, c.requires.room, c.requires.within, c.if-run-eq-INPUT_LIMIT.false, c.tell_and_write.ensures.fed)) in
    ends_at _ g.T.Teller.finds input _ old _ _ _ _ (c.tell_and_write.new.run.fed - c.len.result) c.in-Ok.front c.ending.result s' writes.1.found empty (omega (arith, c.len.ensures, c.tell_and_write.ensures.fed)) c.ending.ensures

pub returns-in_default-extend_from_slice-clause-steps : goal.returns-in_default-extend_from_slice-clause-steps
returns-in_default-extend_from_slice-clause-steps g c first input old s =
    memory_fault _ g.T.Teller.finds input _ (g.S.Source.content c.read_piece.new.source) old _ _ c.tell_and_write.new.teller _ _ (standing_told g.T.Teller.has_told first _ input _ old _ _ _ _ _ _ _ _ _ s c.in-Ok.ensures.writes.1 c.in-Ok.ensures.writes.2)

pub returns-clause-steps : goal.returns-clause-steps
returns-clause-steps g c =
    let took = c.in-Ok-read_piece.ensures.took in
    let size : length (take c.in-Ok-read_piece.n c.read_piece.new.piece) ≡ c.in-Ok-read_piece.n = omega (arith, length-take c.in-Ok-read_piece.n c.read_piece.new.piece, took.0, c.read_piece.auto.piece) in
    let within : c.tell_and_write.new.run.fed + c.in-Ok-read_piece.n ≤ input_limit = omega (arith, length-take c.min-room.result c.args.piece.now, took.0, c.min-room.ensures, c.requires.within, c.tell_and_write.ensures.fed) in
    let items = c.in-Ok-extend_from_slice.ensures.items in
    let long : length c.extend_from_slice.new.self.items ≡ length c.tell_and_write.new.run.held.items + c.in-Ok-read_piece.n = ap length items ∙ length-append c.tell_and_write.new.run.held.items (take c.in-Ok-read_piece.n c.read_piece.new.piece) ∙ ap (λ (k : ℕ). length c.tell_and_write.new.run.held.items + k) size in (
      omega (arith, c.if-n-eq0.false, c.tell_and_write.ensures.fed),
      within,
      omega (arith, long, c.in-Ok.ensures.held, c.requires.held, c.tell_and_write.ensures.fed),
      λ first input old s. goes_on g.T.Teller.has_told first g.T.Teller.finds input _ _ old _ _ _ _ _ _ _ _ c.in-Ok.front _ _ c.in-Ok-read_piece.n c.in-Ok.ensures.writes took.1 size c.tell_and_write.ensures.fed within items s,
    )
