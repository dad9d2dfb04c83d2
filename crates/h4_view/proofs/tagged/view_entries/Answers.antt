use Rattle.h4_view.specs.Tagged.{tagged_capture}
use Rattle.h4_view.proofs.Viewing.{whole_views, refused_views, nothing_views, told_then}
use Rattle.h4_view.proofs.TaggedEnds.{ends_shown, read_views, front_views, none_begins, new_shown, all_kept}
use Rattle.h4_view.proofs.tagged.view_entries.Goals as goal

pub tell_all-requires : goal.tell_all-requires
tell_all-requires g c = new_shown _ c.in-Ok.ensures

pub returns-in_default-clause-views : goal.returns-in_default-clause-views
returns-in_default-clause-views g c = nothing_views tagged_capture (g.S.Source.content c.args.source.now) (g.S.Source.content c.args.source.now) (g.K.Sink.content c.args.sink.now) none_begins

pub returns-in-None-clause-views : goal.returns-in-None-clause-views
returns-in-None-clause-views g c =
    told_then (g.S.Source.content c.args.source.now)
    (λ input runs. (
      whole_views tagged_capture input (g.S.Source.content c.tell_all.new.source) (g.K.Sink.content c.args.sink.now) (g.K.Sink.content c.tell_all.new.sink) c.verdict_of.result c.in-None.is
          (ends_shown _ c.tell_all.new.teller input (g.K.Sink.content c.args.sink.now) (g.K.Sink.content c.tell_all.new.sink) c.in-Ok-tell_all.ending c.verdict_of.result c.verdict_of.ensures runs),
      all_kept _ c.tell_all.new.teller input _ _ c.in-Ok-tell_all.ending c.verdict_of.result c.verdict_of.ensures c.in-None.is runs,
    ))
    c.in-Ok-tell_all.ensures.runs

pub returns-in-Ok-tell_all-clause-views : goal.returns-in-Ok-tell_all-clause-views
returns-in-Ok-tell_all-clause-views g c =
    told_then (g.S.Source.content c.args.source.now)
    (λ input runs. refused_views tagged_capture input (g.S.Source.content c.tell_all.new.source) (g.K.Sink.content c.args.sink.now) (g.K.Sink.content c.tell_all.new.sink) (g.K.Sink.content c.refuse.new.sink) c.verdict_of.result c.in-Some.refusal c.in-Some.place c.refuse.result c.in-Some.is c.refuse.ensures.wrote
    (ends_shown _ c.tell_all.new.teller input (g.K.Sink.content c.args.sink.now) (g.K.Sink.content c.tell_all.new.sink) c.in-Ok-tell_all.ending c.verdict_of.result c.verdict_of.ensures runs))
    c.in-Ok-tell_all.ensures.runs

pub returns-in-Err-ReadFault-clause-views : goal.returns-in-Err-ReadFault-clause-views
returns-in-Err-ReadFault-clause-views g c =
    told_then (g.S.Source.content c.args.source.now)
    (λ input runs. read_views _ c.tell_all.new.teller input (g.S.Source.content c.tell_all.new.source) (g.K.Sink.content c.args.sink.now) (g.K.Sink.content c.tell_all.new.sink) runs)
    (rw c.in-Err-ReadFault.field-0-is at c.in-Err-ReadFault.ensures.runs)

pub returns-in-Err-WriteFault-clause-views : goal.returns-in-Err-WriteFault-clause-views
returns-in-Err-WriteFault-clause-views g c =
    told_then (g.S.Source.content c.args.source.now)
    (λ input runs. front_views _ input (g.K.Sink.content c.args.sink.now) (g.K.Sink.content c.tell_all.new.sink) runs)
    (rw c.in-Err-WriteFault.field-0-is at c.in-Err-WriteFault.ensures.runs)

pub returns-clause-views : goal.returns-clause-views
returns-clause-views g c =
    told_then (g.S.Source.content c.args.source.now)
    (λ input runs. front_views _ input (g.K.Sink.content c.args.sink.now) (g.K.Sink.content c.tell_all.new.sink) runs)
    (rw c.in-Err-NoMemory.field-0-is at c.in-Err-NoMemory.ensures.runs)
