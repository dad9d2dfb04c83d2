use Rattle.std.proofs.Common.{rules, refl}
use Rattle.bt_base.specs.Objects.{begun}
use Rattle.watched_ports.proofs.Keeping.{stays_after}
use Rattle.watched_ports.proofs.inbox.WatchedInboxInbox.begin.Goals as goal

pub invariant_of-self : goal.invariant_of-self
invariant_of-self g c = record { same = search rules; faults = search rules; shortages = search rules; keeps = stays_after c.begin.result g.P.Past.inbox.content (g.I.LentInbox.content c.args.self.now.inbox) (g.I.LentInbox.content c.begin.new.self) c.args.self.now.kept (begun c.args.name.now) (λ contents. refl) c.begin.ensures.content c.args.self.now.keeps }

pub invariant_of-self-in-Err-Failed : goal.invariant_of-self-in-Err-Failed
invariant_of-self-in-Err-Failed g c = record { same = search rules; faults = search rules; shortages = search rules; keeps = stays_after c.begin.result g.P.Past.inbox.content (g.I.LentInbox.content c.args.self.now.inbox) (g.I.LentInbox.content c.begin.new.self) c.args.self.now.kept (begun c.args.name.now) (λ contents. refl) c.begin.ensures.content c.args.self.now.keeps }

pub invariant_of-self-in-Err-NoMemory : goal.invariant_of-self-in-Err-NoMemory
invariant_of-self-in-Err-NoMemory g c = record { same = search rules; faults = search rules; shortages = search rules; keeps = stays_after c.begin.result g.P.Past.inbox.content (g.I.LentInbox.content c.args.self.now.inbox) (g.I.LentInbox.content c.begin.new.self) c.args.self.now.kept (begun c.args.name.now) (λ contents. refl) c.begin.ensures.content c.args.self.now.keeps }
