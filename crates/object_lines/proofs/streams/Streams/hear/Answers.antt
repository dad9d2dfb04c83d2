use Rattle.std.proofs.Common.{ℕ, List, ◌++◌, map, fold, sym, ap, ◌∙◌, append-nil}
use Rattle.rfcomm_frames.specs.ObexPackets.{obex_packets}
use Rattle.link_talk.specs.ObjectsHeard.{put_within}
use Rattle.object_lines.specs.Tallies.{tally_after, told_from, plain_told, plain_tally}
use Rattle.object_lines.specs.Streams.{plain_streams}
use Rattle.object_lines.proofs.Packeting.{came_puts, went_puts}
use Rattle.object_lines.proofs.streams.Streams.hear.Goals as goal

pub returns-in_ok-end-in-Into-clause-tally : goal.returns-in_ok-end-in-Into-clause-tally
returns-in_ok-end-in-Into-clause-tally c =
    c.in_ok-end-in-Into.ensures.tally
    ∙ ap (λ (stream : List ℕ). fold tally_after (plain_tally c.args.tally.now) (map (put_within c.args.party.now.packet) (obex_packets stream))) (c.deref.ensures.value ∙ c.in_ok-join.ensures.into)
    ∙ ap (fold tally_after (plain_tally c.args.tally.now)) (came_puts c.args.party.now (plain_streams c.args.self.now) c.args.flow c.args.sdu.now c.in-Into.is)

pub returns-in_ok-end-in-Into-clause-told : goal.returns-in_ok-end-in-Into-clause-told
returns-in_ok-end-in-Into-clause-told c =
    c.in_ok-end-in-Into.ensures.told
    ∙ ap (λ (stream : List ℕ). map plain_told c.args.found.now.items ++ told_from (plain_tally c.args.tally.now) (map (put_within c.args.party.now.packet) (obex_packets stream))) (c.deref.ensures.value ∙ c.in_ok-join.ensures.into)
    ∙ ap (λ puts. map plain_told c.args.found.now.items ++ told_from (plain_tally c.args.tally.now) puts) (came_puts c.args.party.now (plain_streams c.args.self.now) c.args.flow c.args.sdu.now c.in-Into.is)

pub returns-in-Out-clause-tally : goal.returns-in-Out-clause-tally
returns-in-Out-clause-tally c = ap (fold tally_after (plain_tally c.args.tally.now)) (went_puts c.args.party.now (plain_streams c.args.self.now) c.args.flow c.args.sdu.now c.in-Out.is)

pub returns-in-Out-clause-told : goal.returns-in-Out-clause-told
returns-in-Out-clause-told c =
    sym (append-nil (map plain_told c.args.found.now.items))
    ∙ ap (λ puts. map plain_told c.args.found.now.items ++ told_from (plain_tally c.args.tally.now) puts) (went_puts c.args.party.now (plain_streams c.args.self.now) c.args.flow c.args.sdu.now c.in-Out.is)
