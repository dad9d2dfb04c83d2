-- A Name first aborts what is under way over the other transport, whatever the inbox answers.
use Rattle.std.proofs.Common.{◌≡◌, true, false, List, [], ◌∷◌, drop, Option, Ok, Err, refl, ap, ◌∙◌}
use Rattle.std.specs.Option.{option_map}
use Rattle.std.proofs.lemmas.Bool.{cond-true, cond-false}
use Rattle.push_laws.specs.link_talk.specs.bt_base.specs.declared.ports.PortFault.TheVariants.{Failed, NoMemory}
use Rattle.push_laws.specs.link_talk.specs.bt_base.specs.Objects.{Contents, aborted}
use Rattle.push_laws.specs.push_model.specs.obex_session.specs.InboxCalls.{InboxCall, Answer, Abort, come_of}
use Rattle.push_laws.specs.push_model.specs.obex_session.specs.Past.{Serving}
use Rattle.push_laws.specs.push_model.specs.obex_session.specs.Rules.{aborts, progress_in}
use Rattle.push_laws.specs.push_model.specs.obex_session.specs.Serving.{ruling_on}
use Rattle.push_laws.specs.push_model.specs.obex_session.specs.Views.{rested}
use Rattle.push_laws.specs.push_model.specs.Sessions.{Gift, Parted, Heard, session_of, other_of, after_calls, is_short, is_naming, lets_go, answers_to, hears_after, hears}
use Rattle.push_laws.proofs.Sessions.{kept_session}
use Rattle.session_laws.specs.AbortedFirst.{after_abort, NamesAbortFirst}

-- whatever Abort is answered, nothing is pending behind it, and one answer is used
uses_one : (answers : List Answer) (content : Option Contents) → (let gift : Gift = record { content = content; answers = answers } in after_abort gift)
    ≡ record { content = option_map aborted content; answers = drop 1 answers }
uses_one [] content = refl
uses_one (Ok done ∷ answers) content = refl
uses_one (Err fault ∷ answers) content = refl

has_memory : (come : Answer) → (come ≡ Err NoMemory → ⊥) → is_short come ≡ false
has_memory (Ok done) enough = refl
has_memory (Err Failed) enough = refl
has_memory (Err NoMemory) enough = absurd (enough refl)

pub names_abort_first : NamesAbortFirst
names_abort_first t packet sessions gift named under_way = record {
  aborts = uses_one gift.answers gift.content;
  calls = λ enough.
      ap (λ (h : Heard). h.gift) (is ∙ cond-false parted.short _ (answers_to t packet parted.sessions parted.gift) (short_as ∙ has_memory (come_of (Abort ∷ []) gift.answers) enough))
      ∙ ap (λ (s : Serving). after_calls (ruling_on s packet).calls parted.gift) (kept_session t (rested (session_of (other_of t) sessions)) sessions)
      ∙ ap (λ (cs : List InboxCall). after_calls (ruling_on (session_of t sessions) packet).calls (after_calls cs gift)) is_abort;
  fails = λ lacks.
      is ∙ cond-true parted.short (let h : Heard = record { sessions = parted.sessions; response = []; short = true; gift = parted.gift } in h) _ (short_as ∙ ap is_short lacks)
      ∙ ap (λ (cs : List InboxCall). (let h : Heard = record { sessions = parted.sessions; response = []; short = true; gift = after_calls cs gift } in h)) is_abort;
}
  where
    parted : Parted
    parted = lets_go (other_of t) sessions gift

    is : hears t packet sessions gift ≡ hears_after t packet parted
    is = cond-true (is_naming t packet sessions) (hears_after t packet parted) (answers_to t packet sessions gift) named

    is_abort : aborts (progress_in (session_of (other_of t) sessions).course) ≡ Abort ∷ []
    is_abort = cond-true _ _ _ under_way

    short_as : parted.short ≡ is_short (come_of (Abort ∷ []) gift.answers)
    short_as = ap (λ (cs : List InboxCall). is_short (come_of cs gift.answers)) is_abort
