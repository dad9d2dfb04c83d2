use Rattle.std.proofs.Common.{◌≡◌, ◌∙◌, Ok, Err, None, inl, refl, ap}
use Rattle.command_words.specs.declared.form.Form.TheVariants.{Decode, DecodeTagged, DecodeSnoop, Push, Receive, Make, Snoop, Wire}
use Rattle.btpush_forms.specs.Ports.{written}
use Rattle.btpush_forms.specs.declared.hosted.Hosted.TheVariants as hosted
use Rattle.btpush.proofs.Asked.{not_push, not_receive, not_make, push_traces, nothing_pushed, nothing_made, made_so, makes_no_bad_words, left_alone, unanswered, receives_nothing, asks_hosted, no_end}
use Rattle.receiving.specs.bt_host.specs.obex_session.specs.Counting.{counts_of}
use Rattle.stream_laws.proofs.StreamsByLinks.{receives_store_by_links}
use Rattle.btpush.proofs.run.run.Goals as goal

-- ---- the form is done

pub returns-in-Ok-clause-decode : goal.returns-in-Ok-clause-decode
returns-in-Ok-clause-decode g c = λ asks. c.in-Ok.ensures.does Decode asks

pub returns-in-Ok-clause-decode_tagged : goal.returns-in-Ok-clause-decode_tagged
returns-in-Ok-clause-decode_tagged g c = λ asks. c.in-Ok.ensures.does DecodeTagged asks

pub returns-in-Ok-clause-decode_snoop : goal.returns-in-Ok-clause-decode_snoop
returns-in-Ok-clause-decode_snoop g c = λ asks. c.in-Ok.ensures.does DecodeSnoop asks

pub returns-in-Ok-clause-push : goal.returns-in-Ok-clause-push
returns-in-Ok-clause-push g c = λ asks.
    let same = c.in-Ok.ensures.untouched hosted.Push asks in
    nothing_pushed (g.S.Source.content c.args.source.now) _ _ _ _ c.in-Ok.status (c.in-Ok.ensures.hosted hosted.Push asks) (ap (λ s. g.S.Source.content s) same.0) (ap (λ k. g.K.Sink.content k) same.1) (same.2, refl, refl)

pub returns-in-Ok-clause-receive : goal.returns-in-Ok-clause-receive
returns-in-Ok-clause-receive g c = λ asks.
    let same = c.in-Ok.ensures.untouched hosted.Receive asks in
    receives_nothing (g.S.Source.content c.args.source.now) (g.K.Sink.content c.args.sink.now) (g.T.Sink.content c.args.trace.now) (g.B.Inbox.content c.args.inbox.now) (counts_of g.B.Inbox.faults g.B.Inbox.shortages c.args.inbox.now) _ _ _ c.in-Ok.status (c.in-Ok.ensures.hosted hosted.Receive asks) (ap (λ s. g.S.Source.content s) same.0) (ap (λ k. g.K.Sink.content k) same.1) (ap (λ t. g.T.Sink.content t) same.2)

pub returns-in-Ok-clause-receive_memory : goal.returns-in-Ok-clause-receive_memory
returns-in-Ok-clause-receive_memory g c = λ asks is.
    let same = c.in-Ok.ensures.untouched hosted.Receive asks in
    inl (record { source_is = ap (λ s. g.S.Source.content s) same.0; sink_is = ap (λ k. g.K.Sink.content k) same.1; trace_is = ap (λ t. g.T.Sink.content t) same.2; inbox_is = refl })

pub returns-in-Ok-clause-snoop : goal.returns-in-Ok-clause-snoop
returns-in-Ok-clause-snoop g c = λ side asks. c.in-Ok.ensures.does (Snoop side) asks

pub returns-in-Ok-clause-wire : goal.returns-in-Ok-clause-wire
returns-in-Ok-clause-wire g c = λ number asks. c.in-Ok.ensures.does (Wire number) asks

pub returns-in-Ok-clause-wire_clean : goal.returns-in-Ok-clause-wire_clean
returns-in-Ok-clause-wire_clean g c = c.in-Ok.ensures.wire_clean

pub returns-in-Ok-clause-words : goal.returns-in-Ok-clause-words
returns-in-Ok-clause-words g c = c.in-Ok.ensures.words

pub returns-in-Ok-clause-bad_words : goal.returns-in-Ok-clause-bad_words
returns-in-Ok-clause-bad_words g c = λ is. c.in-Ok.ensures.bad_words (ap Ok is)

pub returns-in-Ok-clause-finish : goal.returns-in-Ok-clause-finish
returns-in-Ok-clause-finish g c = λ _ is. c.in-Ok.ensures.finish (ap Ok is)

pub returns-in-Ok-clause-finish_push : goal.returns-in-Ok-clause-finish_push
returns-in-Ok-clause-finish_push g c = λ asks ended. absurd (no_end _ (c.in-Ok.ensures.hosted hosted.Push asks) ended)

pub returns-in-Ok-clause-causes : goal.returns-in-Ok-clause-causes
returns-in-Ok-clause-causes g c = c.in-Ok.ensures.causes

pub returns-in-Ok-clause-source_short : goal.returns-in-Ok-clause-source_short
returns-in-Ok-clause-source_short g c = c.in-Ok.ensures.source_short

pub returns-in-Ok-clause-sink_short : goal.returns-in-Ok-clause-sink_short
returns-in-Ok-clause-sink_short g c = c.in-Ok.ensures.sink_short

pub returns-in-Ok-clause-trace_short : goal.returns-in-Ok-clause-trace_short
returns-in-Ok-clause-trace_short g c = c.in-Ok.ensures.trace_short

pub returns-in-Ok-clause-make : goal.returns-in-Ok-clause-make
returns-in-Ok-clause-make g c = λ number asks.
    let same = c.in-Ok.ensures.untouched (hosted.Make number) asks in
    nothing_made number _ _ _ _ c.in-Ok.status (c.in-Ok.ensures.hosted (hosted.Make number) asks) (ap (written g.K.Sink) same.1) (ap (written g.T.Sink) same.2)

pub returns-in-Ok-clause-source : goal.returns-in-Ok-clause-source
returns-in-Ok-clause-source g c = λ asked. (c.in-Ok.ensures.untouched (hosted.Make asked.0) asked.1).0

pub returns-in-Ok-clause-trace : goal.returns-in-Ok-clause-trace
returns-in-Ok-clause-trace g c = c.in-Ok.ensures.trace

-- ---- a push is asked for

pub returns-in-Err-Push-clause-decode : goal.returns-in-Err-Push-clause-decode
returns-in-Err-Push-clause-decode g c = λ asks. absurd (not_push _ Decode (asks_hosted c.run_alone.result hosted.Push _ c.run_alone.ensures.asked (c.in-Err-Push.is ∙ ap Err c.in-Err-Push.field-0-is)) (λ is. absurd cc) asks)

pub returns-in-Err-Push-clause-decode_tagged : goal.returns-in-Err-Push-clause-decode_tagged
returns-in-Err-Push-clause-decode_tagged g c = λ asks. absurd (not_push _ DecodeTagged (asks_hosted c.run_alone.result hosted.Push _ c.run_alone.ensures.asked (c.in-Err-Push.is ∙ ap Err c.in-Err-Push.field-0-is)) (λ is. absurd cc) asks)

pub returns-in-Err-Push-clause-decode_snoop : goal.returns-in-Err-Push-clause-decode_snoop
returns-in-Err-Push-clause-decode_snoop g c = λ asks. absurd (not_push _ DecodeSnoop (asks_hosted c.run_alone.result hosted.Push _ c.run_alone.ensures.asked (c.in-Err-Push.is ∙ ap Err c.in-Err-Push.field-0-is)) (λ is. absurd cc) asks)

pub returns-in-Err-Push-clause-push : goal.returns-in-Err-Push-clause-push
returns-in-Err-Push-clause-push g c = λ asks. let same = c.run_alone.ensures.untouched hosted.Push (asks_hosted c.run_alone.result hosted.Push _ c.run_alone.ensures.asked (c.in-Err-Push.is ∙ ap Err c.in-Err-Push.field-0-is)) in rw (same.0, same.1, same.2) at c.push.ensures.pushes

pub returns-in-Err-Push-clause-snoop : goal.returns-in-Err-Push-clause-snoop
returns-in-Err-Push-clause-snoop g c = λ side asks. absurd (not_push _ (Snoop side) (asks_hosted c.run_alone.result hosted.Push _ c.run_alone.ensures.asked (c.in-Err-Push.is ∙ ap Err c.in-Err-Push.field-0-is)) (λ is. absurd cc) asks)

pub returns-in-Err-Push-clause-wire : goal.returns-in-Err-Push-clause-wire
returns-in-Err-Push-clause-wire g c = λ number asks. absurd (not_push _ (Wire number) (asks_hosted c.run_alone.result hosted.Push _ c.run_alone.ensures.asked (c.in-Err-Push.is ∙ ap Err c.in-Err-Push.field-0-is)) (λ is. absurd cc) asks)

pub returns-in-Err-Push-clause-wire_clean : goal.returns-in-Err-Push-clause-wire_clean
returns-in-Err-Push-clause-wire_clean g c = λ asks. absurd (not_push _ (Wire None) (asks_hosted c.run_alone.result hosted.Push _ c.run_alone.ensures.asked (c.in-Err-Push.is ∙ ap Err c.in-Err-Push.field-0-is)) (λ is. absurd cc) asks)

pub returns-in-Err-Push-clause-make : goal.returns-in-Err-Push-clause-make
returns-in-Err-Push-clause-make g c = λ number asks. absurd (not_push _ (Make number) (asks_hosted c.run_alone.result hosted.Push _ c.run_alone.ensures.asked (c.in-Err-Push.is ∙ ap Err c.in-Err-Push.field-0-is)) (λ is. absurd cc) asks)

pub returns-in-Err-Push-clause-source : goal.returns-in-Err-Push-clause-source
returns-in-Err-Push-clause-source g c = λ asked. absurd (not_push _ (Make asked.0) (asks_hosted c.run_alone.result hosted.Push _ c.run_alone.ensures.asked (c.in-Err-Push.is ∙ ap Err c.in-Err-Push.field-0-is)) (λ is. absurd cc) asked.1)

pub returns-in-Err-Push-clause-words : goal.returns-in-Err-Push-clause-words
returns-in-Err-Push-clause-words g c = λ none. absurd (none Push (asks_hosted c.run_alone.result hosted.Push _ c.run_alone.ensures.asked (c.in-Err-Push.is ∙ ap Err c.in-Err-Push.field-0-is)))

pub returns-in-Err-Push-clause-bad_words : goal.returns-in-Err-Push-clause-bad_words
returns-in-Err-Push-clause-bad_words g c = λ is. absurd (c.push.ensures.known is)

pub returns-in-Err-Push-clause-finish : goal.returns-in-Err-Push-clause-finish
returns-in-Err-Push-clause-finish g c = λ _ is. c.push.ensures.finish (rw is tt)

pub returns-in-Err-Push-clause-finish_push : goal.returns-in-Err-Push-clause-finish_push
returns-in-Err-Push-clause-finish_push g c = λ asks ended. c.push.ensures.finish ended

pub returns-in-Err-Push-clause-causes : goal.returns-in-Err-Push-clause-causes
returns-in-Err-Push-clause-causes g c = let same = c.run_alone.ensures.untouched hosted.Push (asks_hosted c.run_alone.result hosted.Push _ c.run_alone.ensures.asked (c.in-Err-Push.is ∙ ap Err c.in-Err-Push.field-0-is)) in rw (same.0, same.1, same.2) at c.push.ensures.causes

pub returns-in-Err-Push-clause-source_short : goal.returns-in-Err-Push-clause-source_short
returns-in-Err-Push-clause-source_short g c = let same = c.run_alone.ensures.untouched hosted.Push (asks_hosted c.run_alone.result hosted.Push _ c.run_alone.ensures.asked (c.in-Err-Push.is ∙ ap Err c.in-Err-Push.field-0-is)) in rw same.0 at c.push.ensures.source_short

pub returns-in-Err-Push-clause-sink_short : goal.returns-in-Err-Push-clause-sink_short
returns-in-Err-Push-clause-sink_short g c = let same = c.run_alone.ensures.untouched hosted.Push (asks_hosted c.run_alone.result hosted.Push _ c.run_alone.ensures.asked (c.in-Err-Push.is ∙ ap Err c.in-Err-Push.field-0-is)) in rw same.1 at c.push.ensures.sink_short

pub returns-in-Err-Push-clause-trace_short : goal.returns-in-Err-Push-clause-trace_short
returns-in-Err-Push-clause-trace_short g c = let same = c.run_alone.ensures.untouched hosted.Push (asks_hosted c.run_alone.result hosted.Push _ c.run_alone.ensures.asked (c.in-Err-Push.is ∙ ap Err c.in-Err-Push.field-0-is)) in rw same.2 at c.push.ensures.trace_short

pub returns-in-Err-Push-clause-trace : goal.returns-in-Err-Push-clause-trace
returns-in-Err-Push-clause-trace g c = λ none. absurd (none (push_traces _ (asks_hosted c.run_alone.result hosted.Push _ c.run_alone.ensures.asked (c.in-Err-Push.is ∙ ap Err c.in-Err-Push.field-0-is))))

pub returns-in-Err-Push-clause-shelf : goal.returns-in-Err-Push-clause-shelf
returns-in-Err-Push-clause-shelf g c = λ other. absurd (other (asks_hosted c.run_alone.result hosted.Push _ c.run_alone.ensures.asked (c.in-Err-Push.is ∙ ap Err c.in-Err-Push.field-0-is)))

pub returns-in-Err-Push-clause-inbox : goal.returns-in-Err-Push-clause-inbox
returns-in-Err-Push-clause-inbox g c = λ other _. absurd (other (asks_hosted c.run_alone.result hosted.Push _ c.run_alone.ensures.asked (c.in-Err-Push.is ∙ ap Err c.in-Err-Push.field-0-is)))

pub returns-in-Err-Push-clause-receive : goal.returns-in-Err-Push-clause-receive
returns-in-Err-Push-clause-receive g c = λ asks. absurd (not_push _ Receive (asks_hosted c.run_alone.result hosted.Push _ c.run_alone.ensures.asked (c.in-Err-Push.is ∙ ap Err c.in-Err-Push.field-0-is)) (λ is. absurd cc) asks)

pub returns-in-Err-Push-clause-receive_memory : goal.returns-in-Err-Push-clause-receive_memory
returns-in-Err-Push-clause-receive_memory g c = λ asks is. absurd (not_push _ Receive (asks_hosted c.run_alone.result hosted.Push _ c.run_alone.ensures.asked (c.in-Err-Push.is ∙ ap Err c.in-Err-Push.field-0-is)) (λ is. absurd cc) asks)

pub returns-in-Err-Push-clause-shelf_short : goal.returns-in-Err-Push-clause-shelf_short
returns-in-Err-Push-clause-shelf_short g c = let same = c.run_alone.ensures.untouched hosted.Push (asks_hosted c.run_alone.result hosted.Push _ c.run_alone.ensures.asked (c.in-Err-Push.is ∙ ap Err c.in-Err-Push.field-0-is)) in rw same.2 at c.push.ensures.shelf_short

pub returns-in-Err-Push-clause-inbox_short : goal.returns-in-Err-Push-clause-inbox_short
returns-in-Err-Push-clause-inbox_short g c = λ other. let same = c.run_alone.ensures.untouched hosted.Push (asks_hosted c.run_alone.result hosted.Push _ c.run_alone.ensures.asked (c.in-Err-Push.is ∙ ap Err c.in-Err-Push.field-0-is)) in rw same.2 at c.push.ensures.inbox_short

-- ---- a host that receives is asked for

pub returns-in-Err-Receive-clause-decode : goal.returns-in-Err-Receive-clause-decode
returns-in-Err-Receive-clause-decode g c = λ asks. absurd (not_receive _ Decode (asks_hosted c.run_alone.result hosted.Receive _ c.run_alone.ensures.asked (c.in-Err-Receive.is ∙ ap Err c.in-Err-Receive.field-0-is)) (λ is. absurd cc) asks)

pub returns-in-Err-Receive-clause-decode_tagged : goal.returns-in-Err-Receive-clause-decode_tagged
returns-in-Err-Receive-clause-decode_tagged g c = λ asks. absurd (not_receive _ DecodeTagged (asks_hosted c.run_alone.result hosted.Receive _ c.run_alone.ensures.asked (c.in-Err-Receive.is ∙ ap Err c.in-Err-Receive.field-0-is)) (λ is. absurd cc) asks)

pub returns-in-Err-Receive-clause-decode_snoop : goal.returns-in-Err-Receive-clause-decode_snoop
returns-in-Err-Receive-clause-decode_snoop g c = λ asks. absurd (not_receive _ DecodeSnoop (asks_hosted c.run_alone.result hosted.Receive _ c.run_alone.ensures.asked (c.in-Err-Receive.is ∙ ap Err c.in-Err-Receive.field-0-is)) (λ is. absurd cc) asks)

pub returns-in-Err-Receive-clause-push : goal.returns-in-Err-Receive-clause-push
returns-in-Err-Receive-clause-push g c = λ asks. absurd (not_receive _ Push (asks_hosted c.run_alone.result hosted.Receive _ c.run_alone.ensures.asked (c.in-Err-Receive.is ∙ ap Err c.in-Err-Receive.field-0-is)) (λ is. absurd cc) asks)

pub returns-in-Err-Receive-clause-snoop : goal.returns-in-Err-Receive-clause-snoop
returns-in-Err-Receive-clause-snoop g c = λ side asks. absurd (not_receive _ (Snoop side) (asks_hosted c.run_alone.result hosted.Receive _ c.run_alone.ensures.asked (c.in-Err-Receive.is ∙ ap Err c.in-Err-Receive.field-0-is)) (λ is. absurd cc) asks)

pub returns-in-Err-Receive-clause-wire : goal.returns-in-Err-Receive-clause-wire
returns-in-Err-Receive-clause-wire g c = λ number asks. absurd (not_receive _ (Wire number) (asks_hosted c.run_alone.result hosted.Receive _ c.run_alone.ensures.asked (c.in-Err-Receive.is ∙ ap Err c.in-Err-Receive.field-0-is)) (λ is. absurd cc) asks)

pub returns-in-Err-Receive-clause-wire_clean : goal.returns-in-Err-Receive-clause-wire_clean
returns-in-Err-Receive-clause-wire_clean g c = λ asks. absurd (not_receive _ (Wire None) (asks_hosted c.run_alone.result hosted.Receive _ c.run_alone.ensures.asked (c.in-Err-Receive.is ∙ ap Err c.in-Err-Receive.field-0-is)) (λ is. absurd cc) asks)

pub returns-in-Err-Receive-clause-finish_push : goal.returns-in-Err-Receive-clause-finish_push
returns-in-Err-Receive-clause-finish_push g c = λ asks ended. absurd (not_receive _ Push (asks_hosted c.run_alone.result hosted.Receive _ c.run_alone.ensures.asked (c.in-Err-Receive.is ∙ ap Err c.in-Err-Receive.field-0-is)) (λ is. absurd cc) asks)

pub returns-in-Err-Receive-clause-receive : goal.returns-in-Err-Receive-clause-receive
returns-in-Err-Receive-clause-receive g c = λ asks. let same = c.run_alone.ensures.untouched hosted.Receive (asks_hosted c.run_alone.result hosted.Receive _ c.run_alone.ensures.asked (c.in-Err-Receive.is ∙ ap Err c.in-Err-Receive.field-0-is)) in let so = receives_store_by_links _ _ _ _ _ _ _ _ _ _ _ c.receive.ensures.receives in rw (same.0, same.1, same.2) at so

pub returns-in-Err-Receive-clause-receive_memory : goal.returns-in-Err-Receive-clause-receive_memory
returns-in-Err-Receive-clause-receive_memory g c = λ asks. let same = c.run_alone.ensures.untouched hosted.Receive (asks_hosted c.run_alone.result hosted.Receive _ c.run_alone.ensures.asked (c.in-Err-Receive.is ∙ ap Err c.in-Err-Receive.field-0-is)) in rw (same.0, same.1, same.2) at c.receive.ensures.no_memory

pub returns-in-Err-Receive-clause-make : goal.returns-in-Err-Receive-clause-make
returns-in-Err-Receive-clause-make g c = λ number asks. absurd (not_receive _ (Make number) (asks_hosted c.run_alone.result hosted.Receive _ c.run_alone.ensures.asked (c.in-Err-Receive.is ∙ ap Err c.in-Err-Receive.field-0-is)) (λ is. absurd cc) asks)

pub returns-in-Err-Receive-clause-source : goal.returns-in-Err-Receive-clause-source
returns-in-Err-Receive-clause-source g c = λ asked. absurd (not_receive _ (Make asked.0) (asks_hosted c.run_alone.result hosted.Receive _ c.run_alone.ensures.asked (c.in-Err-Receive.is ∙ ap Err c.in-Err-Receive.field-0-is)) (λ is. absurd cc) asked.1)

pub returns-in-Err-Receive-clause-words : goal.returns-in-Err-Receive-clause-words
returns-in-Err-Receive-clause-words g c = λ none. absurd (none Receive (asks_hosted c.run_alone.result hosted.Receive _ c.run_alone.ensures.asked (c.in-Err-Receive.is ∙ ap Err c.in-Err-Receive.field-0-is)))

pub returns-in-Err-Receive-clause-bad_words : goal.returns-in-Err-Receive-clause-bad_words
returns-in-Err-Receive-clause-bad_words g c = λ is. absurd (c.receive.ensures.known.0 is)

pub returns-in-Err-Receive-clause-finish : goal.returns-in-Err-Receive-clause-finish
returns-in-Err-Receive-clause-finish g c = λ _. c.receive.ensures.finish

pub returns-in-Err-Receive-clause-causes : goal.returns-in-Err-Receive-clause-causes
returns-in-Err-Receive-clause-causes g c = let same = c.run_alone.ensures.untouched hosted.Receive (asks_hosted c.run_alone.result hosted.Receive _ c.run_alone.ensures.asked (c.in-Err-Receive.is ∙ ap Err c.in-Err-Receive.field-0-is)) in rw (same.0, same.1, same.2) at c.receive.ensures.causes

pub returns-in-Err-Receive-clause-source_short : goal.returns-in-Err-Receive-clause-source_short
returns-in-Err-Receive-clause-source_short g c = let same = c.run_alone.ensures.untouched hosted.Receive (asks_hosted c.run_alone.result hosted.Receive _ c.run_alone.ensures.asked (c.in-Err-Receive.is ∙ ap Err c.in-Err-Receive.field-0-is)) in rw same.0 at c.receive.ensures.source_short

pub returns-in-Err-Receive-clause-sink_short : goal.returns-in-Err-Receive-clause-sink_short
returns-in-Err-Receive-clause-sink_short g c = let same = c.run_alone.ensures.untouched hosted.Receive (asks_hosted c.run_alone.result hosted.Receive _ c.run_alone.ensures.asked (c.in-Err-Receive.is ∙ ap Err c.in-Err-Receive.field-0-is)) in rw same.1 at c.receive.ensures.sink_short

pub returns-in-Err-Receive-clause-trace_short : goal.returns-in-Err-Receive-clause-trace_short
returns-in-Err-Receive-clause-trace_short g c = let same = c.run_alone.ensures.untouched hosted.Receive (asks_hosted c.run_alone.result hosted.Receive _ c.run_alone.ensures.asked (c.in-Err-Receive.is ∙ ap Err c.in-Err-Receive.field-0-is)) in rw same.2 at c.receive.ensures.trace_short

pub returns-in-Err-Receive-clause-inbox_short : goal.returns-in-Err-Receive-clause-inbox_short
returns-in-Err-Receive-clause-inbox_short g c = λ other. absurd (other (asks_hosted c.run_alone.result hosted.Receive _ c.run_alone.ensures.asked (c.in-Err-Receive.is ∙ ap Err c.in-Err-Receive.field-0-is)))

pub returns-in-Err-Receive-clause-inbox_faults : goal.returns-in-Err-Receive-clause-inbox_faults
returns-in-Err-Receive-clause-inbox_faults g c = λ other. absurd (other (asks_hosted c.run_alone.result hosted.Receive _ c.run_alone.ensures.asked (c.in-Err-Receive.is ∙ ap Err c.in-Err-Receive.field-0-is)))

pub returns-in-Err-Receive-clause-trace : goal.returns-in-Err-Receive-clause-trace
returns-in-Err-Receive-clause-trace g c = λ none. absurd (none (Receive, tt, (asks_hosted c.run_alone.result hosted.Receive _ c.run_alone.ensures.asked (c.in-Err-Receive.is ∙ ap Err c.in-Err-Receive.field-0-is))))

pub returns-in-Err-Receive-clause-inbox : goal.returns-in-Err-Receive-clause-inbox
returns-in-Err-Receive-clause-inbox g c = λ _ other. absurd (other (asks_hosted c.run_alone.result hosted.Receive _ c.run_alone.ensures.asked (c.in-Err-Receive.is ∙ ap Err c.in-Err-Receive.field-0-is)))

-- ---- the scenario of a number is asked for

pub returns-in-Err-Make-clause-decode : goal.returns-in-Err-Make-clause-decode
returns-in-Err-Make-clause-decode g c = λ asks. absurd (not_make _ _ Decode (asks_hosted c.run_alone.result (hosted.Make c.in-Err-Make.number) _ c.run_alone.ensures.asked (c.in-Err-Make.is ∙ ap Err c.in-Err-Make.field-0-is)) (λ is. absurd cc) asks)

pub returns-in-Err-Make-clause-decode_tagged : goal.returns-in-Err-Make-clause-decode_tagged
returns-in-Err-Make-clause-decode_tagged g c = λ asks. absurd (not_make _ _ DecodeTagged (asks_hosted c.run_alone.result (hosted.Make c.in-Err-Make.number) _ c.run_alone.ensures.asked (c.in-Err-Make.is ∙ ap Err c.in-Err-Make.field-0-is)) (λ is. absurd cc) asks)

pub returns-in-Err-Make-clause-decode_snoop : goal.returns-in-Err-Make-clause-decode_snoop
returns-in-Err-Make-clause-decode_snoop g c = λ asks. absurd (not_make _ _ DecodeSnoop (asks_hosted c.run_alone.result (hosted.Make c.in-Err-Make.number) _ c.run_alone.ensures.asked (c.in-Err-Make.is ∙ ap Err c.in-Err-Make.field-0-is)) (λ is. absurd cc) asks)

pub returns-in-Err-Make-clause-push : goal.returns-in-Err-Make-clause-push
returns-in-Err-Make-clause-push g c = λ asks. absurd (not_make _ _ Push (asks_hosted c.run_alone.result (hosted.Make c.in-Err-Make.number) _ c.run_alone.ensures.asked (c.in-Err-Make.is ∙ ap Err c.in-Err-Make.field-0-is)) (λ is. absurd cc) asks)

pub returns-in-Err-Make-clause-receive : goal.returns-in-Err-Make-clause-receive
returns-in-Err-Make-clause-receive g c = λ asks. absurd (not_make _ _ Receive (asks_hosted c.run_alone.result (hosted.Make c.in-Err-Make.number) _ c.run_alone.ensures.asked (c.in-Err-Make.is ∙ ap Err c.in-Err-Make.field-0-is)) (λ is. absurd cc) asks)

pub returns-in-Err-Make-clause-receive_memory : goal.returns-in-Err-Make-clause-receive_memory
returns-in-Err-Make-clause-receive_memory g c = λ asks _. absurd (not_make _ _ Receive (asks_hosted c.run_alone.result (hosted.Make c.in-Err-Make.number) _ c.run_alone.ensures.asked (c.in-Err-Make.is ∙ ap Err c.in-Err-Make.field-0-is)) (λ is. absurd cc) asks)

pub returns-in-Err-Make-clause-snoop : goal.returns-in-Err-Make-clause-snoop
returns-in-Err-Make-clause-snoop g c = λ side asks. absurd (not_make _ _ (Snoop side) (asks_hosted c.run_alone.result (hosted.Make c.in-Err-Make.number) _ c.run_alone.ensures.asked (c.in-Err-Make.is ∙ ap Err c.in-Err-Make.field-0-is)) (λ is. absurd cc) asks)

pub returns-in-Err-Make-clause-wire : goal.returns-in-Err-Make-clause-wire
returns-in-Err-Make-clause-wire g c = λ number asks. absurd (not_make _ _ (Wire number) (asks_hosted c.run_alone.result (hosted.Make c.in-Err-Make.number) _ c.run_alone.ensures.asked (c.in-Err-Make.is ∙ ap Err c.in-Err-Make.field-0-is)) (λ is. absurd cc) asks)

pub returns-in-Err-Make-clause-wire_clean : goal.returns-in-Err-Make-clause-wire_clean
returns-in-Err-Make-clause-wire_clean g c = λ asks. absurd (not_make _ _ (Wire None) (asks_hosted c.run_alone.result (hosted.Make c.in-Err-Make.number) _ c.run_alone.ensures.asked (c.in-Err-Make.is ∙ ap Err c.in-Err-Make.field-0-is)) (λ is. absurd cc) asks)

pub returns-in-Err-Make-clause-finish_push : goal.returns-in-Err-Make-clause-finish_push
returns-in-Err-Make-clause-finish_push g c = λ asks _. absurd (not_make _ _ Push (asks_hosted c.run_alone.result (hosted.Make c.in-Err-Make.number) _ c.run_alone.ensures.asked (c.in-Err-Make.is ∙ ap Err c.in-Err-Make.field-0-is)) (λ is. absurd cc) asks)

pub returns-in-Err-Make-clause-make : goal.returns-in-Err-Make-clause-make
returns-in-Err-Make-clause-make g c = λ number asks. let same = c.run_alone.ensures.untouched (hosted.Make c.in-Err-Make.number) (asks_hosted c.run_alone.result (hosted.Make c.in-Err-Make.number) _ c.run_alone.ensures.asked (c.in-Err-Make.is ∙ ap Err c.in-Err-Make.field-0-is)) in made_so _ _ number _ _ _ _ _ (asks_hosted c.run_alone.result (hosted.Make c.in-Err-Make.number) _ c.run_alone.ensures.asked (c.in-Err-Make.is ∙ ap Err c.in-Err-Make.field-0-is)) asks (rw (same.1, same.2) at c.make.ensures.makes)

pub returns-in-Err-Make-clause-source : goal.returns-in-Err-Make-clause-source
returns-in-Err-Make-clause-source g c = λ asked. (c.run_alone.ensures.untouched (hosted.Make c.in-Err-Make.number) (asks_hosted c.run_alone.result (hosted.Make c.in-Err-Make.number) _ c.run_alone.ensures.asked (c.in-Err-Make.is ∙ ap Err c.in-Err-Make.field-0-is))).0

pub returns-in-Err-Make-clause-words : goal.returns-in-Err-Make-clause-words
returns-in-Err-Make-clause-words g c = λ none. absurd (none _ (asks_hosted c.run_alone.result (hosted.Make c.in-Err-Make.number) _ c.run_alone.ensures.asked (c.in-Err-Make.is ∙ ap Err c.in-Err-Make.field-0-is)))

pub returns-in-Err-Make-clause-bad_words : goal.returns-in-Err-Make-clause-bad_words
returns-in-Err-Make-clause-bad_words g c = λ is. absurd (makes_no_bad_words _ c.make.ensures.known is)

pub returns-in-Err-Make-clause-finish : goal.returns-in-Err-Make-clause-finish
returns-in-Err-Make-clause-finish g c = λ none. absurd (none (_, (asks_hosted c.run_alone.result (hosted.Make c.in-Err-Make.number) _ c.run_alone.ensures.asked (c.in-Err-Make.is ∙ ap Err c.in-Err-Make.field-0-is))))

pub returns-in-Err-Make-clause-causes : goal.returns-in-Err-Make-clause-causes
returns-in-Err-Make-clause-causes g c = let same = c.run_alone.ensures.untouched (hosted.Make c.in-Err-Make.number) (asks_hosted c.run_alone.result (hosted.Make c.in-Err-Make.number) _ c.run_alone.ensures.asked (c.in-Err-Make.is ∙ ap Err c.in-Err-Make.field-0-is)) in left_alone _ _ _ _ _ _ _ (ap (λ s. g.S.Source.faults s) same.0) (rw (same.1, same.2) at c.make.ensures.causes)

pub returns-in-Err-Make-clause-source_short : goal.returns-in-Err-Make-clause-source_short
returns-in-Err-Make-clause-source_short g c = let same = c.run_alone.ensures.untouched (hosted.Make c.in-Err-Make.number) (asks_hosted c.run_alone.result (hosted.Make c.in-Err-Make.number) _ c.run_alone.ensures.asked (c.in-Err-Make.is ∙ ap Err c.in-Err-Make.field-0-is)) in unanswered _ _ _ (ap (λ s. g.S.Source.shortages s) same.0)

pub returns-in-Err-Make-clause-sink_short : goal.returns-in-Err-Make-clause-sink_short
returns-in-Err-Make-clause-sink_short g c = let same = c.run_alone.ensures.untouched (hosted.Make c.in-Err-Make.number) (asks_hosted c.run_alone.result (hosted.Make c.in-Err-Make.number) _ c.run_alone.ensures.asked (c.in-Err-Make.is ∙ ap Err c.in-Err-Make.field-0-is)) in rw same.1 at c.make.ensures.sink_short

pub returns-in-Err-Make-clause-trace_short : goal.returns-in-Err-Make-clause-trace_short
returns-in-Err-Make-clause-trace_short g c = let same = c.run_alone.ensures.untouched (hosted.Make c.in-Err-Make.number) (asks_hosted c.run_alone.result (hosted.Make c.in-Err-Make.number) _ c.run_alone.ensures.asked (c.in-Err-Make.is ∙ ap Err c.in-Err-Make.field-0-is)) in rw same.2 at c.make.ensures.trace_short

pub returns-in-Err-Make-clause-trace : goal.returns-in-Err-Make-clause-trace
returns-in-Err-Make-clause-trace g c = λ none. absurd (none (_, tt, (asks_hosted c.run_alone.result (hosted.Make c.in-Err-Make.number) _ c.run_alone.ensures.asked (c.in-Err-Make.is ∙ ap Err c.in-Err-Make.field-0-is))))
