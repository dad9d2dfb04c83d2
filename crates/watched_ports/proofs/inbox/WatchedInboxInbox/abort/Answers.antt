use Rattle.std.proofs.Common.{rules, refl}
use Rattle.bt_base.specs.Objects.{aborted}
use Rattle.watched_ports.proofs.Keeping.{stays}
use Rattle.watched_ports.proofs.inbox.WatchedInboxInbox.abort.Goals as goal

pub invariant_of-self : goal.invariant_of-self
invariant_of-self g c = record { same = search rules; faults = search rules; shortages = search rules; keeps = stays g.P.Past.inbox.content (g.I.LentInbox.content c.args.self.now.inbox) (g.I.LentInbox.content c.abort.new.self) c.args.self.now.kept aborted (λ contents. refl) c.abort.ensures.content c.args.self.now.keeps }

pub invariant_of-self-in-Err-Failed : goal.invariant_of-self-in-Err-Failed
invariant_of-self-in-Err-Failed g c = record { same = search rules; faults = search rules; shortages = search rules; keeps = stays g.P.Past.inbox.content (g.I.LentInbox.content c.args.self.now.inbox) (g.I.LentInbox.content c.abort.new.self) c.args.self.now.kept aborted (λ contents. refl) c.abort.ensures.content c.args.self.now.keeps }

pub invariant_of-self-in-Err-NoMemory : goal.invariant_of-self-in-Err-NoMemory
invariant_of-self-in-Err-NoMemory g c = record { same = search rules; faults = search rules; shortages = search rules; keeps = stays g.P.Past.inbox.content (g.I.LentInbox.content c.args.self.now.inbox) (g.I.LentInbox.content c.abort.new.self) c.args.self.now.kept aborted (λ contents. refl) c.abort.ensures.content c.args.self.now.keeps }
