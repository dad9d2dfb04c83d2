use Rattle.std.proofs.Common.{refl, arith}
use Rattle.capture.specs.Lent.{plain_entry}
use Rattle.h4_view.proofs.TaggedLines.{shows_entry}
use Rattle.h4_view.proofs.tagged.TaggedViewTeller.tell.Goals as goal

pub returns-in_ok-keep-in-Ok : goal.returns-in_ok-keep-in-Ok
returns-in_ok-keep-in-Ok c =
    let found = c.in-Ok.ensures in
    shows_entry c.args.self.now c.push_entry.new.view _ c.args.octets.now _ _ found.0 (plain_entry c.in-Ok.entry) c.in-Ok.used found.1 found.2 found.3 c.in_ok-push_entry-in-Ok.ensures refl refl c.in_ok-keep-in-Ok.ensures
    (λ within. omega (arith, within, c.saturating_add-self.ensures, c.in_ok-push_entry-in-Ok.ensures.0))
