use Rattle.std.proofs.Common.{◌∙◌, Ok, None, map, string_bytes, ap}
use Rattle.btpush_forms.specs.Ports.{written}
use Rattle.btpush_forms.specs.Words.{hosted_form}
use Rattle.command_words.proofs.Asking.{asks_once}
use Rattle.command_words.specs.declared.form.Form.TheVariants.{Wire}
use Rattle.btpush_forms.proofs.Asked.{found, found_none, not_written, nothing_done, hosted_short, asked_so}
use Rattle.btpush_forms.proofs.alone.run_alone.Goals as goal

-- ---- a form was found

pub returns-in-Ok-Some-clause-does : goal.returns-in-Ok-Some-clause-does
returns-in-Ok-Some-clause-does g c = λ form asks. rw (asks_once _ c.in-Ok-Some.form form (found _ _ c.form_of.result c.in-Ok-Some.form (ap (λ ws. map string_bytes ws) c.deref.ensures.value) c.form_of.ensures (c.in-Ok-Some.is ∙ ap Ok c.in-Ok-Some.field-0-is)) asks) at c.run_form.ensures.does

pub returns-in-Ok-Some-clause-wire_clean : goal.returns-in-Ok-Some-clause-wire_clean
returns-in-Ok-Some-clause-wire_clean g c = λ asks. c.run_form.ensures.wire_clean (asks_once _ c.in-Ok-Some.form (Wire None) (found _ _ c.form_of.result c.in-Ok-Some.form (ap (λ ws. map string_bytes ws) c.deref.ensures.value) c.form_of.ensures (c.in-Ok-Some.is ∙ ap Ok c.in-Ok-Some.field-0-is)) asks)

pub returns-in-Ok-Some-clause-words : goal.returns-in-Ok-Some-clause-words
returns-in-Ok-Some-clause-words g c = λ none. absurd (none c.in-Ok-Some.form (found _ _ c.form_of.result c.in-Ok-Some.form (ap (λ ws. map string_bytes ws) c.deref.ensures.value) c.form_of.ensures (c.in-Ok-Some.is ∙ ap Ok c.in-Ok-Some.field-0-is)))

pub returns-in-Ok-Some-clause-bad_words : goal.returns-in-Ok-Some-clause-bad_words
returns-in-Ok-Some-clause-bad_words g c = λ is. absurd (c.run_form.ensures.known is)

pub returns-in-Ok-Some-clause-trace : goal.returns-in-Ok-Some-clause-trace
returns-in-Ok-Some-clause-trace g c = λ none. c.run_form.ensures.trace (not_written _ c.in-Ok-Some.form (found _ _ c.form_of.result c.in-Ok-Some.form (ap (λ ws. map string_bytes ws) c.deref.ensures.value) c.form_of.ensures (c.in-Ok-Some.is ∙ ap Ok c.in-Ok-Some.field-0-is)) none)

pub returns-in-Ok-Some-clause-hosted : goal.returns-in-Ok-Some-clause-hosted
returns-in-Ok-Some-clause-hosted g c = λ hosted asks. hosted_short c.run_form.result hosted (c.run_form.ensures.hosted hosted (asks_once _ c.in-Ok-Some.form (hosted_form hosted) (found _ _ c.form_of.result c.in-Ok-Some.form (ap (λ ws. map string_bytes ws) c.deref.ensures.value) c.form_of.ensures (c.in-Ok-Some.is ∙ ap Ok c.in-Ok-Some.field-0-is)) asks))

pub returns-in-Ok-Some-clause-asked : goal.returns-in-Ok-Some-clause-asked
returns-in-Ok-Some-clause-asked g c = asked_so c.run_form.result _ c.in-Ok-Some.form (found _ _ c.form_of.result c.in-Ok-Some.form (ap (λ ws. map string_bytes ws) c.deref.ensures.value) c.form_of.ensures (c.in-Ok-Some.is ∙ ap Ok c.in-Ok-Some.field-0-is)) c.run_form.ensures.asked

pub returns-in-Ok-Some-clause-untouched : goal.returns-in-Ok-Some-clause-untouched
returns-in-Ok-Some-clause-untouched g c = λ hosted asks. c.run_form.ensures.untouched hosted (asks_once _ c.in-Ok-Some.form (hosted_form hosted) (found _ _ c.form_of.result c.in-Ok-Some.form (ap (λ ws. map string_bytes ws) c.deref.ensures.value) c.form_of.ensures (c.in-Ok-Some.is ∙ ap Ok c.in-Ok-Some.field-0-is)) asks)

-- ---- no form is found

pub returns-in-Ok-None-clause-does : goal.returns-in-Ok-None-clause-does
returns-in-Ok-None-clause-does g c = λ form asks. absurd ((found_none _ _ c.form_of.result (ap (λ ws. map string_bytes ws) c.deref.ensures.value) c.form_of.ensures (c.in-Ok-None.is ∙ ap Ok c.in-Ok-None.field-0-is)) form asks)

pub returns-in-Ok-None-clause-wire_clean : goal.returns-in-Ok-None-clause-wire_clean
returns-in-Ok-None-clause-wire_clean g c = λ asks. absurd ((found_none _ _ c.form_of.result (ap (λ ws. map string_bytes ws) c.deref.ensures.value) c.form_of.ensures (c.in-Ok-None.is ∙ ap Ok c.in-Ok-None.field-0-is)) (Wire None) asks)

pub returns-in-Ok-None-clause-hosted : goal.returns-in-Ok-None-clause-hosted
returns-in-Ok-None-clause-hosted g c = λ hosted asks. absurd ((found_none _ _ c.form_of.result (ap (λ ws. map string_bytes ws) c.deref.ensures.value) c.form_of.ensures (c.in-Ok-None.is ∙ ap Ok c.in-Ok-None.field-0-is)) (hosted_form hosted) asks)

pub returns-in-Ok-None-clause-bad_words : goal.returns-in-Ok-None-clause-bad_words
returns-in-Ok-None-clause-bad_words g c = λ is form. (found_none _ _ c.form_of.result (ap (λ ws. map string_bytes ws) c.deref.ensures.value) c.form_of.ensures (c.in-Ok-None.is ∙ ap Ok c.in-Ok-None.field-0-is)) form

pub returns-in-Ok-None-clause-untouched : goal.returns-in-Ok-None-clause-untouched
returns-in-Ok-None-clause-untouched g c = λ hosted asks. absurd ((found_none _ _ c.form_of.result (ap (λ ws. map string_bytes ws) c.deref.ensures.value) c.form_of.ensures (c.in-Ok-None.is ∙ ap Ok c.in-Ok-None.field-0-is)) (hosted_form hosted) asks)

-- ---- there was no memory to read the words

pub returns-in-Err-clause-does : goal.returns-in-Err-clause-does
returns-in-Err-clause-does g c = λ form asks. nothing_done form (g.S.Source.content c.args.source.now) (written g.K.Sink c.args.sink.now) (written g.T.Sink c.args.trace.now)
