use Rattle.std.proofs.Common.{rules, refl}
use Rattle.bt_base.specs.Objects.{appended}
use Rattle.watched_ports.proofs.Keeping.{stays_after}
use Rattle.watched_ports.proofs.inbox.WatchedInboxInbox.append.Goals as goal

pub invariant_of-self : goal.invariant_of-self
invariant_of-self g c = record { same = search rules; faults = search rules; shortages = search rules; keeps = stays_after c.append.result g.P.Past.inbox.content (g.I.LentInbox.content c.args.self.now.inbox) (g.I.LentInbox.content c.append.new.self) c.args.self.now.kept (appended c.args.piece.now) (λ contents. refl) c.append.ensures.content c.args.self.now.keeps }

pub invariant_of-self-in-Err-Failed : goal.invariant_of-self-in-Err-Failed
invariant_of-self-in-Err-Failed g c = record { same = search rules; faults = search rules; shortages = search rules; keeps = stays_after c.append.result g.P.Past.inbox.content (g.I.LentInbox.content c.args.self.now.inbox) (g.I.LentInbox.content c.append.new.self) c.args.self.now.kept (appended c.args.piece.now) (λ contents. refl) c.append.ensures.content c.args.self.now.keeps }

pub invariant_of-self-in-Err-NoMemory : goal.invariant_of-self-in-Err-NoMemory
invariant_of-self-in-Err-NoMemory g c = record { same = search rules; faults = search rules; shortages = search rules; keeps = stays_after c.append.result g.P.Past.inbox.content (g.I.LentInbox.content c.args.self.now.inbox) (g.I.LentInbox.content c.append.new.self) c.args.self.now.kept (appended c.args.piece.now) (λ contents. refl) c.append.ensures.content c.args.self.now.keeps }
