use Rattle.std.proofs.Common.{◌∙◌}
use Rattle.h4_view.proofs.Viewing.{told_then}
use Rattle.object_lines.proofs.Whole.{fault_views, short_views, kept_views}
use Rattle.object_lines.proofs.viewing.view_tagged.Goals as goal

pub returns-in-Err-clause-views : goal.returns-in-Err-clause-views
returns-in-Err-clause-views g c =
    told_then (g.S.Source.content c.args.source.now) (λ input views. fault_views input (g.S.Source.content c.view_entries.new.source) (g.K.Sink.content c.args.sink.now) (g.K.Sink.content c.view_entries.new.sink) c.in-Err.fault views) c.in-Err.ensures.views

pub returns-in_default-clause-views : goal.returns-in_default-clause-views
returns-in_default-clause-views g c =
    told_then (g.S.Source.content c.args.source.now) (λ input views. short_views input (g.S.Source.content c.view_entries.new.source) (g.K.Sink.content c.args.sink.now) (g.K.Sink.content c.view_entries.new.sink) views.0) c.in-Ok.ensures.views

pub returns-clause-views : goal.returns-clause-views
returns-clause-views g c =
    told_then (g.S.Source.content c.args.source.now)
    (λ input views. kept_views input c.deref.result.now (g.S.Source.content c.view_entries.new.source) (g.K.Sink.content c.args.sink.now) (g.K.Sink.content c.view_entries.new.sink) (g.K.Sink.content c.write_text.new.sink) c.deref-2.result.now c.write_text.result views.0 (λ entries capture. c.deref.ensures.value ∙ views.1 entries capture)
    (λ entries is. c.deref-2.ensures.value ∙ c.in-Ok-object_lines.ensures entries is) c.write_text.ensures.ok c.write_text.ensures.front c.write_text.ensures.of_sink)
    c.in-Ok.ensures.views
