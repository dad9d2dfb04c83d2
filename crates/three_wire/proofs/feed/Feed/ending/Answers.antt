use Rattle.three_wire.proofs.Feeding.{end_whole, end_too_long, end_refused}
use Rattle.three_wire.proofs.feed.Feed.ending.Goals as goal

pub returns-in_default-clause-ends : goal.returns-in_default-clause-ends
returns-in_default-clause-ends c = λ input left packets f none empty. end_whole input left c.args.self.now packets c.in_default.field-0 f none empty c.in_default.ensures

pub returns-then-saturating_add-clause-ends : goal.returns-then-saturating_add-clause-ends
returns-then-saturating_add-clause-ends c = λ input left packets f none empty. end_too_long input left c.args.self.now packets c.in-Err.refusal c.in-Err.place f none empty c.in-Err.ensures

pub returns-clause-ends : goal.returns-clause-ends
returns-clause-ends c = λ input left packets f none empty. end_refused input left c.args.self.now packets c.in-Err.refusal c.in-Err.place c.requires.below f none empty c.in-Err.ensures
