-- What a packet would be answered, if no call of the inbox failed.
use Rattle.std.proofs.Common.{◌≡◌, ℕ, List, [], ◌∷◌, Option, Result, Ok, Err, refl, ap, sym, ◌∙◌, inl, inr, arith}
use Rattle.bt_base.specs.Counts.{HasRisen}
use Rattle.bt_base.specs.Objects.{Contents}
use Rattle.bt_base.specs.declared.ports.PortFault.{PortFault}
use Rattle.bt_base.specs.declared.ports.PortFault.TheVariants.{Failed, NoMemory}
use Rattle.obex_session.specs.declared.course.Verdict.{Verdict}
use Rattle.obex_session.specs.Hearing.{Heeds}
use Rattle.obex_session.specs.InboxCalls.{InboxCall, come_of, Answer}
use Rattle.obex_session.specs.Past.{Serving}
use Rattle.obex_session.specs.Serving.{kind_heard, ruling_on, verdict_or}
use Rattle.obex_session.specs.Turns.{said_after}
use Rattle.obex_session.specs.Views.{is_silence, is_silent}

none_fails : (calls : List InboxCall) → come_of calls [] ≡ Ok tt
none_fails [] = refl
none_fails (call ∷ calls) = refl

unrisen : HasRisen 0 0 → ⊥
unrisen (inl less) = omega (arith, less)
unrisen (inr most) = omega (arith, most)

said_alike : (session : Serving) (packet : List ℕ) (verdict : Verdict) → verdict ≡ (ruling_on session packet).verdict
    → is_silence (said_after session.offered session.course (kind_heard session packet) (Ok verdict)) ≡ is_silent session packet
said_alike session packet verdict e =
    ap (λ (v : Verdict). is_silence (said_after session.offered session.course (kind_heard session packet) (Ok v))) e
    ∙ ap (λ (come : Answer). is_silence (said_after session.offered session.course (kind_heard session packet) (verdict_or (ruling_on session packet).verdict come))) (sym (none_fails (ruling_on session packet).calls))

pub said_by_none : (session : Serving) (packet : List ℕ) (content content' : Option Contents) (outcome : Result Verdict PortFault) → Heeds (ruling_on session packet) content content' 0 0 0 0 outcome
    → is_silence (said_after session.offered session.course (kind_heard session packet) outcome) ≡ is_silent session packet
said_by_none session packet content content' (Ok verdict) heeds = said_alike session packet verdict heeds.verdict
said_by_none session packet content content' (Err Failed) heeds = absurd (unrisen (heeds.cause.failed refl))
said_by_none session packet content content' (Err NoMemory) heeds = absurd (unrisen (heeds.cause.short refl))
