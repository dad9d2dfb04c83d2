-- Behind the final PUT nothing is cancelled.
use Rattle.std.proofs.Common.{◌≡◌, ℕ, ◌⊎◌, inl, inr, ◌&&◌, not, Bool, true, false, List, [], ◌∷◌, Option, Some, None, is_none, refl, sym, ap, subst, ◌∙◌, if◌then◌else◌}
use Rattle.link_talk.specs.bt_base.specs.declared.settings.Transport.{Transport}
use Rattle.link_talk.specs.bt_base.specs.declared.settings.Transport.TheVariants.{L2cap, Rfcomm}
use Rattle.link_talk.specs.push_terms.specs.declared.outcome.Outcome.{Outcome}
use Rattle.link_talk.specs.push_terms.specs.declared.outcome.Outcome.TheVariants as outcomes
use Rattle.push_model.specs.rfcomm_model.specs.Saying.{Said, next}
use Rattle.push_model.specs.obex_session.specs.declared.client.Answered.{Answered}
use Rattle.push_model.specs.obex_session.specs.declared.client.Answered.TheVariants.{Go, Done, Refused, Bad, Srmp}
use Rattle.push_model.specs.obex_session.specs.NextPut.{put_request, is_waiting}
use Rattle.push_model.specs.obex_session.specs.Views.{is_final_put, answer_at, after_at}
use Rattle.push_model.specs.declared.course.Stage.{Stage}
use Rattle.push_model.specs.Causes.{cause_of_obex, unknown_parameters, unawaited_response}
use Rattle.push_model.specs.Client.{Client, ends, ends_by, is_rest, may_cancel}
use Rattle.push_model.specs.Laws.{Deed, Hears, Asks, Finishes, Cancels, done, all_done}
use Rattle.push_model.specs.Responding.{takes, hears_answer, is_success, is_early, is_object}
use Rattle.push_model.specs.Steps as steps
use Rattle.push_model.specs.Steps.{Part, Stepped, may_ask, next_ask, asks_direct, asks_muxed, goes_muxed, filled, rests, steps_object, steps_at}
use Rattle.push_model.proofs.CauseLaws.{first_causes_stay}
use Rattle.push_laws.specs.Sending.{NothingIsCancelledLate}
use Rattle.push_laws.proofs.Answered.{final_ends}
use Rattle.push_laws.proofs.Talks.{Talk, talk_of, is_reserved, object_of, Kept, news_keeps}
use Rattle.push_laws.proofs.Pushing.{NotCancelled, suits_any}
use Rattle.push_laws.proofs.Sending.{talk_either, filled_talk, at_talk, still_of}

-- its response is awaited, or the push has a cause that is no cancel
abbrev Late : Talk → Type 0
Late t = ((t.cause ≡ None) × (t.session.awaited ≡ Some (put_request false true false))) ⊎ ((o : Outcome) × (t.cause ≡ Some o) × NotCancelled (Some o))

free_late : (o : Outcome) (t : Talk) → is_reserved o ≡ false → NotCancelled (Some o)
free_late o t free e = (suits_any o (record t.session { awaited = Some (put_request false true false) }) free).late refl (inl e)

-- ---- a response

ends_late : (cause : Option Outcome) (o : Outcome) (client : Client) → cause ≡ client.cause → NotCancelled (Some o) → ((earlier : Outcome) → client.cause ≡ Some earlier → NotCancelled (Some earlier)) → Late (talk_of (ends_by cause o client))
ends_late None o client is other kept = inr (o, refl, other)
ends_late (Some earlier) o client is other kept = inr (earlier, sym is, kept earlier (sym is))

caused : (client : Client) → Late (talk_of client) → (earlier : Outcome) → client.cause ≡ Some earlier → NotCancelled (Some earlier)
caused client (inl late) earlier e = absurd (let f : None ≡ Some earlier = sym late.0 ∙ e in cc)
caused client (inr late) earlier e = λ f. late.2 (sym late.1 ∙ (e ∙ f))

not_done : NotCancelled (Some outcomes.Done)
not_done e = absurd (let f : outcomes.Done ≡ outcomes.Cancelled = inner outcomes.Done outcomes.Cancelled e in cc)
  where
    inner : (a b : Outcome) → Some a ≡ Some b → a ≡ b
    inner a b is = cc

takes_late : (answered : Answered) (packet : List ℕ) (client heard : Client) → Some answered ≡ answer_at client.session.awaited client.session packet → heard.cause ≡ client.cause → Late (talk_of client) → Late (talk_of (takes answered heard))
takes_late Go packet client heard is same (inl late) = absurd (final_ends client.session packet (sym (ap (λ a. answer_at a client.session packet) late.1) ∙ sym is))
takes_late Go packet client heard is same (inr late) = inr (late.0, same ∙ late.1, late.2)
takes_late Done packet client heard is same late = ends_late heard.cause outcomes.Done heard refl not_done (λ o e. caused client late o (sym same ∙ e))
takes_late (Refused code) packet client heard is same late = ends_late heard.cause (outcomes.Refused code) heard refl (free_late (outcomes.Refused code) (talk_of client) refl) (λ o e. caused client late o (sym same ∙ e))
takes_late (Bad refusal) packet client heard is same late = ends_late heard.cause (cause_of_obex refusal) heard refl (free_late (cause_of_obex refusal) (talk_of client) refl) (λ o e. caused client late o (sym same ∙ e))
takes_late Srmp packet client heard is same late = ends_late heard.cause unknown_parameters heard refl (free_late unknown_parameters (talk_of client) refl) (λ o e. caused client late o (sym same ∙ e))

answer_late : (answer : Option Answered) (packet : List ℕ) (client : Client) → answer ≡ answer_at client.session.awaited client.session packet → Late (talk_of client) → Late (talk_of (hears_answer answer packet client))
answer_late None packet client is late = ends_late client.cause unawaited_response client refl (free_late unawaited_response (talk_of client) refl) (caused client late)
answer_late (Some answered) packet client is late =
    let heard : Client = record client { session = after_at client.session.awaited client.session packet } in
    talk_either Late (is_success answered && is_early client) (ends unawaited_response heard) (takes answered heard)
    (ends_late client.cause unawaited_response heard refl (free_late unawaited_response (talk_of client) refl) (caused client late)) (takes_late answered packet client heard is refl late)

late_kept : Kept Late
late_kept = record {
  unheard = record { ends = λ outcome t free none late. inr (outcome, refl, free_late outcome t free); opens = λ limit t least most late. late };
  hears = λ packet client late. answer_late (answer_at client.session.awaited client.session packet) packet client refl late;
}

-- ---- no step is taken while a response is awaited

step_either : (P : Talk → Type 0) (test : Bool) (a b : Stepped) → P (talk_of a.client) → P (talk_of b.client) → P (talk_of (if test then a else b).client)
step_either P true a b x y = x
step_either P false a b x y = y

waits_by : (P : Talk → Type 0) (may : Bool) (client : Client) (asked : Stepped) (parts : List Part) → may ≡ may_ask client → is_waiting client.session.awaited ≡ true → P (talk_of client) → P (talk_of (if may then asked else rests client parts).client)
waits_by P true client asked parts is waits p = absurd (let f : false ≡ true = sym (still_of client.going (is_waiting client.session.awaited) (sym is)) ∙ waits in cc)
waits_by P false client asked parts is waits p = p

waits_muxed : (P : Talk → Type 0) (said : Option Said) (full : Client) (parts : List Part) → is_waiting full.session.awaited ≡ true → P (talk_of full) → P (talk_of (goes_muxed said full parts).client)
waits_muxed P None full parts waits p = let quiet : Client = record full { frame = None } in waits_by P (may_ask quiet) quiet (asks_muxed (next_ask quiet) quiet parts) parts refl waits p
waits_muxed P (Some said) full parts waits p = p

waits_object : (P : Talk → Type 0) (t : Transport) (client : Client) (parts : List Part) → is_waiting client.session.awaited ≡ true → P (talk_of client) → P (talk_of (steps_object t client parts).client)
waits_object P L2cap client parts waits p = waits_by P (may_ask client) client (asks_direct (next_ask client) (record client { rest = [] }) parts) parts refl waits p
waits_object P Rfcomm client parts waits p =
    let full = filled client in waits_muxed P (next full.mux) full parts (filled_talk (λ t. is_waiting t.session.awaited ≡ true) client waits) (filled_talk P client p)

waits_at : (P : Talk → Type 0) (object : Bool) (client : Client) (parts : List Part) → is_object client.stage ≡ object → is_waiting client.session.awaited ≡ true → P (talk_of client) → P (talk_of (steps_at client.stage client parts).client)
waits_at P false client parts is waits p = at_talk P client.stage client parts is p
waits_at P true client parts is waits p = subst (λ (s : Stage). P (talk_of (steps_at s client parts).client)) (sym (object_of client.stage is)) (waits_object P client.transport client parts waits p)

pub waits_talk : (P : Talk → Type 0) (client : Client) (parts : List Part) → is_waiting client.session.awaited ≡ true → P (talk_of client) → P (talk_of (steps.steps client parts).client)
waits_talk P client parts waits p =
    step_either P client.failed (record { client = client; step = steps.NoMemory; left = parts }) (if client.given then rests client parts else steps_at client.stage client parts) p
    (step_either P client.given (rests client parts) (steps_at client.stage client parts) p (waits_at P (is_object client.stage) client parts refl waits p))

-- ---- the law

and_none : (a b : Bool) → b ≡ false → (a && b) ≡ false
and_none true b e = e
and_none false b e = refl

may_not : (client : Client) → Late (talk_of client) → may_cancel client ≡ false
may_not client (inl late) = and_none (not (is_rest client.stage)) (is_none client.cause && not (is_final_put client.session.awaited)) (and_none (is_none client.cause) (not (is_final_put client.session.awaited)) (ap (λ a. not (is_final_put a)) late.1))
may_not client (inr late) = and_none (not (is_rest client.stage)) (is_none client.cause && not (is_final_put client.session.awaited)) (ap (λ (c : Option Outcome). is_none c && not (is_final_put client.session.awaited)) late.1)

cancel_late : (may : Bool) (client : Client) → may ≡ may_cancel client → Late (talk_of client) → Late (talk_of (if may then ends outcomes.Cancelled client else client))
cancel_late true client is late = absurd (let f : true ≡ false = is ∙ may_not client late in cc)
cancel_late false client is late = late

deed_late : (deed : Deed) (client : Client) → Late (talk_of client) → Late (talk_of (done deed client))
deed_late (Hears news) client late = news_keeps Late late_kept news client late
deed_late (Asks parts) client (inl late) = waits_talk Late client parts (ap is_waiting late.1) (inl late)
deed_late (Asks parts) client (inr late) = inr (late.0, first_causes_stay (Asks parts ∷ []) client late.0 late.1, late.2)
deed_late Finishes client late = late
deed_late Cancels client late = cancel_late (may_cancel client) client refl late

all_late : (deeds : List Deed) (client : Client) → Late (talk_of client) → Late (talk_of (all_done deeds client))
all_late [] client late = late
all_late (deed ∷ deeds) client late = all_late deeds (done deed client) (deed_late deed client late)

not_cancelled : (client : Client) → Late (talk_of client) → NotCancelled client.cause
not_cancelled client (inl late) e = let f : None ≡ Some outcomes.Cancelled = sym late.0 ∙ e in absurd cc
not_cancelled client (inr late) e = late.2 (sym late.1 ∙ e)

pub nothing-is_cancelled_late : NothingIsCancelledLate
nothing-is_cancelled_late deeds client awaits = let late = all_late deeds client (inl (awaits.0, awaits.1)) in (may_not (all_done deeds client) late, not_cancelled (all_done deeds client) late)
