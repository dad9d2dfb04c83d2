use Rattle.obex_headers.proofs.ReaderLaws.{text_at_index}
use Rattle.obex_headers.proofs.runs.names.Goals as goal

pub units-requires : goal.units-requires
units-requires c = text_at_index c.args.headers.now c.loop-header.header-index _ c.in-Some.text.now c.loop-header-test.true c.requires c.in-Some.ensures
