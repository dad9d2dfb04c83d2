-- What the answer of the peer to a request for options leaves of it.
use Rattle.std.proofs.Common.{◌≡◌, ℕ, Bool, true, false, cond, eqb, Some, None, refl, ap, ◌∙◌, ◌⊎◌, inl, inr, ◌||◌}
use Rattle.std.specs.Prelude.{find, is_some, nat_le}
use Rattle.talk_laws.specs.l2cap_config.specs.declared.options.Options.{Options}
use Rattle.talk_laws.specs.l2cap_config.specs.declared.agreement.Settled.{Settled}
use Rattle.talk_laws.specs.l2cap_config.specs.declared.agreement.Settled.TheVariants.{Accepted, Again, Wait, Never}
use Rattle.channel_model.specs.declared.errand.Errand.TheVariants as errands
use Rattle.channel_model.specs.declared.event.CloseReason.{CloseReason}
use Rattle.channel_model.specs.declared.event.CloseReason.TheVariants.{NoAgreement}
use Rattle.channel_model.specs.Value.{Asking, Setup, Stage, Requested, Connected, Leaving, Closing, Crossed, Held, Channels}
use Rattle.channel_model.specs.Changing.{has_own, has_fcs_by, held_at, setup_of, stage_with, with_setup, to_setup, forgets, is_leaving}
use Rattle.channel_model.specs.Asking.{new_request, asks_options}
use Rattle.channel_model.specs.Closing.{closes, closes_at}
use Rattle.channel_model.specs.Configuring.{opens_if, granted_setup, grants}
use Rattle.channel_model.specs.Responses.{renewed_setup, hears_settled}
use Rattle.channel_model.proofs.Lookups.{own_of, found-placed, find-placed, find-gone}
use Rattle.channel_model.proofs.Going.{staged}
use Rattle.channel_model.proofs.Walking.{with-found}
use Rattle.own_channel_laws.proofs.Asking.{newest-asks}
use Rattle.own_channel_laws.proofs.Demanding.{asked_at, asked_on, closes-rests}
use Rattle.own_channel_laws.proofs.Anew.{IsAnew, GoesAt, asks-anew, third-goes}

-- the channel is not there any more, or no request waits, or a new one does
abbrev pub IsDone : ℕ → Channels → Channels → Type 0
IsDone own v w = (asked_on (held_at own w) ≡ None) ⊎ ((asked_on (held_at own w) ≡ Some None) ⊎ IsAnew own v w)

pub record IsAnswered (held : Held) (v w : Channels) : Type 0 where
  pub others : (own : ℕ) → eqb held.own own ≡ false → GoesAt own v w
  pub done : IsDone held.own v w

-- ---- a channel that is closed is not there any more

closed_none : (v : Channels) (held : Held) (reason : CloseReason) (stage : Stage) → held.stage ≡ stage → find (has_own held.own) v.held ≡ Some held → asked_on (held_at held.own (closes_at stage reason held v)) ≡ None
closed_none v held reason (Requested request) is found = ap asked_on (find-gone own_of held.own v.held)
closed_none v held reason (Connected peer setup) is found = ap asked_on (found-placed (staged held (Closing peer (new_request v) (has_fcs_by setup))) held v.held found)
closed_none v held reason (Leaving peer setup request) is found = ap asked_on (found-placed (staged held (Closing peer request (has_fcs_by setup))) held v.held found)
closed_none v held reason (Closing peer request checked) is found = ap asked_on found ∙ ap asked_at is
closed_none v held reason (Crossed peer request) is found = ap asked_on found ∙ ap asked_at is

-- ---- it is accepted

granted_at : (setup : Setup) (stage : Stage) → (asked_at (stage_with (granted_setup setup) stage) ≡ None) ⊎ (asked_at (stage_with (granted_setup setup) stage) ≡ Some None)
granted_at setup (Requested request) = inl refl
granted_at setup (Connected peer before) = inr refl
granted_at setup (Leaving peer before request) = inr refl
granted_at setup (Closing peer request checked) = inl refl
granted_at setup (Crossed peer request) = inl refl

pub grants-answer : (v : Channels) (held : Held) (setup : Setup) → find (has_own held.own) v.held ≡ Some held → IsAnswered held v (grants held setup v)
grants-answer v held setup found = by (is_some setup.carrier)
  where
    stage : Stage
    stage = stage_with (granted_setup setup) held.stage

    w : Bool → Channels
    w b = opens_if b held (to_setup held (granted_setup setup) (forgets (errands.Configuration held.own) v))

    done : (b : Bool) → find (has_own held.own) (w b).held ≡ Some (staged held stage) → (asked_at stage ≡ None) ⊎ (asked_at stage ≡ Some None) → IsDone held.own v (w b)
    done b is (inl none) = inl (ap asked_on is ∙ none)
    done b is (inr some) = inr (inl (ap asked_on is ∙ some))

    by : (b : Bool) → IsAnswered held v (w b)
    by true = record {
      others = λ own away. inl (inr (ap asked_on (find-placed (staged held stage) v.held own away)));
      done = done true (found-placed (staged held stage) held v.held found) (granted_at setup held.stage);
    }
    by false = record {
      others = λ own away. inl (inr (ap asked_on (find-placed (staged held stage) v.held own away)));
      done = done false (found-placed (staged held stage) held v.held found) (granted_at setup held.stage);
    }

-- ---- other options are asked for

again_done : (v : Channels) (held : Held) (after : Setup) (options : Options) (stage : Stage) → held.stage ≡ stage → find (has_own held.own) v.held ≡ Some held → IsDone held.own v (asks_options held after options v)
again_done v held after options stage is found =
    let asked : Setup = record after { own = Asking (new_request v) options } in
    let w_is = found-placed (staged held (stage_with asked held.stage)) held v.held found in
    by stage (ap asked_on w_is ∙ ap (λ s. asked_at (stage_with asked s)) is)
  where
    w : Channels
    w = asks_options held after options v

    by : (s : Stage) → (let asked : Setup = record after { own = Asking (new_request v) options } in asked_on (held_at held.own w) ≡ asked_at (stage_with asked s)) → IsDone held.own v w
    by (Requested request) now = inl now
    by (Connected peer setup) now =
        let asked : Setup = record after { own = Asking (new_request v) options } in
        inr (inr (record { next = refl; newest_is = newest-asks (errands.Configuration held.own) (to_setup held asked v); asked = now }))
    by (Leaving peer setup request) now =
        let asked : Setup = record after { own = Asking (new_request v) options } in
        inr (inr (record { next = refl; newest_is = newest-asks (errands.Configuration held.own) (to_setup held asked v); asked = now }))
    by (Closing peer request checked) now = inl now
    by (Crossed peer request) now = inl now

renews_answer : (v : Channels) (held : Held) (setup after : Setup) (options : Options) (b : Bool) → after.own ≡ setup.own → find (has_own held.own) v.held ≡ Some held → setup_of held.stage ≡ Some setup
    → IsAnswered held v (cond b (closes NoAgreement (with_setup held after) (to_setup held after v)) (asks_options held after options v))
renews_answer v held setup after options true same found is =
    let u : Channels = to_setup held after v in
    record {
      others = λ own away. third-goes v held setup after same found is own;
      done = inl (closed_none u (with_setup held after) NoAgreement (stage_with after held.stage) refl (with-found v held after found));
    }
renews_answer v held setup after options false same found is = record {
  others = λ own away. asks-anew v held after options found own;
  done = again_done v held after options held.stage refl found;
}

-- ---- any answer but that another one follows

abbrev pub IsFinal : Settled → Type 0
IsFinal Accepted = Unit {0}
IsFinal (Again options) = Unit {0}
IsFinal Wait = ⊥
IsFinal Never = Unit {0}

pub settled-answers : (v : Channels) (now : Settled) (held : Held) (setup : Setup) → IsFinal now → find (has_own held.own) v.held ≡ Some held → setup_of held.stage ≡ Some setup → IsAnswered held v (hears_settled now held setup v)
settled-answers v Accepted held setup final found is = grants-answer v held setup found
settled-answers v (Again options) held setup final found is =
    let after : Setup = renewed_setup setup in renews_answer v held setup after options (is_leaving held.stage || nat_le 3 after.renewed) refl found is
settled-answers v Wait held setup final found is = elim final [ ]
settled-answers v Never held setup final found is = record {
  others = λ own away. inl (closes-rests v held NoAgreement found own);
  done = inl (closed_none v held NoAgreement held.stage refl found);
}
