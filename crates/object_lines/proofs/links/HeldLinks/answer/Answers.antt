use Rattle.std.proofs.Common.{List, Option, false, sym, ap, ◌∙◌}
use Rattle.std.specs.Option.{option_map, option_or}
use Rattle.capture.specs.Lent.{plain_move}
use Rattle.link_readers.specs.talk_laws.specs.CapturePass.{HeldLink, HeldLinks, link_after}
use Rattle.object_lines.specs.Passes.{Telling, telling_after}
use Rattle.object_lines.specs.Held.{plain_link}
use Rattle.object_lines.proofs.Heard.{none_made}
use Rattle.object_lines.proofs.links.HeldLinks.answer.Goals as goal

pub returns-then-is_some-clause-said : goal.returns-then-is_some-clause-said
returns-then-is_some-clause-said c past =
    let links : Option (HeldLink Telling) → HeldLinks Telling = λ made. record { asked = false; past = past; up = option_or made (option_map (link_after (telling_after c.args.party.now) (plain_move c.args.moved.now)) (option_map plain_link c.args.self.now.up)) } in
    c.in_ok-go_on.ensures.said past ∙ ap links (sym (none_made c.args.status c.args.handle past c.args.self.now (sym c.is_some.ensures ∙ c.if-is_some.true)))
