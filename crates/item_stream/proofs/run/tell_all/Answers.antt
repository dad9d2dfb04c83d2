use Rattle.item_stream.proofs.Running.{nothing_told, opening_fault, standing_new}
use Rattle.item_stream.proofs.Blaming.{blames_first, answered_first, blames_second, answered_second}
use Rattle.item_stream.proofs.run.tell_all.Goals as goal

pub returns-in_default-clause-runs : goal.returns-in_default-clause-runs
returns-in_default-clause-runs g c = nothing_told (g.T.Teller.has_told c.args.teller.now) g.T.Teller.finds _ (g.S.Source.content c.args.source.now) _ _ _ c.requires

pub returns-in-Err-clause-runs : goal.returns-in-Err-clause-runs
returns-in-Err-clause-runs g c = opening_fault (g.T.Teller.has_told c.args.teller.now) g.T.Teller.finds _ (g.S.Source.content c.args.source.now) _ _ _ _ c.in-Err.fault c.requires c.in-Err.ensures.front c.in-Err.ensures.of_sink

pub returns-in-Err-clause-blame : goal.returns-in-Err-clause-blame
returns-in-Err-clause-blame g c = blames_first _ _ _ c.in-Err.fault c.in-Err.ensures.blame c.in-Err.ensures.of_sink

pub returns-in-Err-clause-sink_short : goal.returns-in-Err-clause-sink_short
returns-in-Err-clause-sink_short g c = answered_first _ _ c.in-Err.fault c.in-Err.ensures.sink_short

pub returns-clause-runs : goal.returns-clause-runs
returns-clause-runs g c = c.run_all.ensures.runs c.args.teller.now _ _ (standing_new _ _ _ _ _ _ _ c.new.ensures.items c.requires c.in_default-write_text.ensures.ok)

pub returns-clause-blame : goal.returns-clause-blame
returns-clause-blame g c = blames_second _ _ _ _ _ c.run_all.result c.in_default-write_text.field-0 c.in_default-write_text.ensures.blame c.run_all.ensures.blame

pub returns-clause-sink_short : goal.returns-clause-sink_short
returns-clause-sink_short g c = answered_second _ _ _ _ c.in_default-write_text.field-0 c.in_default-write_text.ensures.sink_short c.run_all.ensures.sink_short
