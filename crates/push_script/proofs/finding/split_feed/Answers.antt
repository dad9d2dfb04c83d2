use Rattle.push_script.proofs.Feeds.{no_feed}
use Rattle.push_script.proofs.finding.split_feed.Goals as goal

pub returns-in_default-clause-none : goal.returns-in_default-clause-none
returns-in_default-clause-none c = no_feed c.args.text.now c.in_default.ensures
