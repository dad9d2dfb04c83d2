use Rattle.std.proofs.Common.{true, ap, ◌∙◌}
use Rattle.capture.specs.Lent.{plain_move}
use Rattle.link_readers.specs.talk_laws.specs.CapturePass.{HeldLinks, links_by}
use Rattle.object_lines.specs.Passes.{Telling, no_telling, telling_after}
use Rattle.object_lines.specs.Held.{plain_links}
use Rattle.object_lines.proofs.links.HeldLinks.hear.Goals as goal

pub returns-in_ok-go_on-in-Asked-clause-said : goal.returns-in_ok-go_on-in-Asked-clause-said
returns-in_ok-go_on-in-Asked-clause-said c past =
    ap (λ (links : HeldLinks Telling). record links { asked = true }) (c.in_ok-go_on-in-Asked.ensures.said past)
    ∙ ap (links_by (telling_after c.args.party.now) no_telling (plain_move c.args.moved.now) (plain_links past c.args.self.now)) c.in-Asked.ensures

pub returns-in_ok-answer-in-Answered-clause-said : goal.returns-in_ok-answer-in-Answered-clause-said
returns-in_ok-answer-in-Answered-clause-said c past = c.in_ok-answer-in-Answered.ensures.said past ∙ ap (links_by (telling_after c.args.party.now) no_telling (plain_move c.args.moved.now) (plain_links past c.args.self.now)) c.in-Answered.ensures

pub returns-in_ok-go_on-in-Nothing-clause-said : goal.returns-in_ok-go_on-in-Nothing-clause-said
returns-in_ok-go_on-in-Nothing-clause-said c past = c.in_ok-go_on-in-Nothing.ensures.said past ∙ ap (links_by (telling_after c.args.party.now) no_telling (plain_move c.args.moved.now) (plain_links past c.args.self.now)) c.in-Nothing.ensures
