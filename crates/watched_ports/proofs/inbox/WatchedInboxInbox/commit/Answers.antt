use Rattle.std.proofs.Common.{rules, refl}
use Rattle.bt_base.specs.Objects.{aborted}
use Rattle.watched_ports.proofs.Keeping.{stays, grows, pending_told}
use Rattle.watched_ports.proofs.inbox.WatchedInboxInbox.commit.Goals as goal

pub invariant_of-self : goal.invariant_of-self
invariant_of-self g c = record { same = search rules; faults = search rules; shortages = search rules; keeps = grows g.P.Past.inbox.content (g.I.LentInbox.content c.args.self.now.inbox) (g.I.LentInbox.content c.commit.new.self) c.args.self.now.kept c.saturating_add-self.result (pending_told (g.I.LentInbox.content c.args.self.now.inbox) (g.I.LentInbox.is_pending c.args.self.now.inbox) (g.met.I.LentInbox.told c.args.self.now.inbox) c.requires) (rw c.in-Ok.is at c.commit.ensures.content) c.saturating_add-self.ensures c.args.self.now.keeps }

pub invariant_of-self-in-Err-Failed : goal.invariant_of-self-in-Err-Failed
invariant_of-self-in-Err-Failed g c = record { same = search rules; faults = search rules; shortages = search rules; keeps = stays g.P.Past.inbox.content (g.I.LentInbox.content c.args.self.now.inbox) (g.I.LentInbox.content c.commit.new.self) c.args.self.now.kept aborted (λ contents. refl) (rw c.in-Err-Failed.is at c.commit.ensures.content) c.args.self.now.keeps }

pub invariant_of-self-in-Err-NoMemory : goal.invariant_of-self-in-Err-NoMemory
invariant_of-self-in-Err-NoMemory g c = record { same = search rules; faults = search rules; shortages = search rules; keeps = stays g.P.Past.inbox.content (g.I.LentInbox.content c.args.self.now.inbox) (g.I.LentInbox.content c.commit.new.self) c.args.self.now.kept aborted (λ contents. refl) (rw c.in-Err-NoMemory.is at c.commit.ensures.content) c.args.self.now.keeps }
