use Rattle.std.proofs.Common.{◌∙◌}
use Rattle.sdp_elements.specs.Spelling.{sized_front}
use Rattle.std.proofs.Common.{length}
use Rattle.sdp_elements.proofs.WritingLaws.{written_behind}
use Rattle.sdp_elements.proofs.writing.put_sized.Goals as goal

pub returns-clause-written : goal.returns-clause-written
returns-clause-written c =
    c.put_behind.ensures.written
    ∙ written_behind (sized_front c.args.kind (length c.args.content.now)) c.args.content.now c.args.into.now c.put_length-start.new.into c.put_length-start.result c.put_behind.result
    c.put_length-start.ensures.written c.put_length-start.ensures.end c.put_behind.ensures.end
