-- Each channel that a host has which offers none was asked for by it, with its PSM.
use Rattle.std.proofs.Common.{◌≡◌, ℕ, List, [], ◌∷◌, ◌++◌, Bool, true, false, cond, eqb, Option, Some, None, refl, sym, ap, subst, ◌∙◌, inl, arith, append_assoc, append-nil}
use Rattle.std.proofs.lemmas.Bool.{eqb-true}
use Rattle.std.proofs.lemmas.List.Sums.{fold-append}
use Rattle.shelf_model.specs.l2cap_signal.specs.Commands.{Command, connection_request}
use Rattle.push_laws.specs.link_talk.specs.Sayings.{Saying}
use Rattle.channel_laws.specs.channel_model.specs.declared.errand.Errand.TheVariants as errands
use Rattle.channel_laws.specs.channel_model.specs.Value.{Requested, Held, Channels}
use Rattle.channel_laws.specs.channel_model.specs.Policies.{Policy}
use Rattle.channel_laws.specs.channel_model.specs.Changing.{held_at}
use Rattle.channel_laws.specs.channel_model.specs.Asking.{new_request, asks}
use Rattle.channel_laws.specs.channel_model.specs.Following.{with_channel}
use Rattle.channel_laws.specs.channel_model.specs.Giving.{on_held, connection_at}
use Rattle.channel_laws.specs.channel_model.specs.Calls.{can_connect}
use Rattle.channel_laws.specs.channel_model.proofs.Going.{new_held}
use Rattle.channel_laws.specs.Belonging.{HasAsked}
use Rattle.channel_laws.specs.OwnTalk.{spoken, command_with, asked_between}
use Rattle.channel_laws.specs.Runs.{Occurrence, Comes, Connects, AsksFeatures, Disconnects, Sends, Gives, Fires, Tells, said_in, Run, new_link, run_on, run_of}
use Rattle.channel_laws.specs.Signals.{StandsIn}
use Rattle.channel_laws.specs.Singly.{AsksForNoChannel}
use Rattle.channel_laws.proofs.Asking.{newest-asks, asked-one}
use Rattle.channel_laws.proofs.Bestowing.{Bestows, converses, first-bestows}
use Rattle.channel_laws.proofs.Conversing.{conversed-knowing}
use Rattle.channel_laws.proofs.Inviting.{held_here, held_others}
use Rattle.channel_laws.proofs.Running.{all-sound}
use Rattle.channel_laws.proofs.Saying.{stands-left, stands-right}
use Rattle.host_laws.proofs.Refusing.{OffersNone, value_of, value-more, stays-free}

-- it asked for a channel with that endpoint of its own
abbrev pub HasCalled : (own : ℕ) → List Saying → Type 0
HasCalled own said = (identifier : ℕ) × (psm : ℕ) × HasAsked identifier psm own said

-- so it is of each that it has
abbrev pub AllCalled : Policy → List Occurrence → Type 0
AllCalled policy front = (own : ℕ) (held : Held) → held_at own (value_of policy front) ≡ Some held → HasCalled own (run_of policy front).said

pub called_more : (own : ℕ) (said more : List Saying) → HasCalled own said → HasCalled own (said ++ more)
called_more own said more (identifier, psm, asked) = (identifier, psm, stands-left _ said more asked)

pub said_more : (policy : Policy) (front : List Occurrence) (more : Occurrence) → (run_of policy (front ++ more ∷ [])).said ≡ (run_of policy front).said ++ said_in policy more (value_of policy front)
said_more policy front more = ap (λ (run : Run). run.said) (fold-append (run_on policy) new_link front (more ∷ []))

module _ (policy : Policy) (none : OffersNone policy) (front : List Occurrence) (all : AllCalled policy front) where
  abbrev v : Channels
  v = value_of policy front

  -- it asks for none
  quiet_on : (more : Occurrence) → AsksForNoChannel more → AllCalled policy (front ++ more ∷ [])
  quiet_on more quiet own held at = by (held_at own v) refl
    where
      by : (before : Option Held) → held_at own v ≡ before → HasCalled own (run_of policy (front ++ more ∷ [])).said
      by None is = let never : None ≡ Some held = sym (stays-free policy none front more quiet own is) ∙ at in absurd cc
      by (Some before) is = subst (HasCalled own) (sym (said_more policy front more)) (called_more own (run_of policy front).said (said_in policy more v) (all own before is))

  -- or for one
  connects_on : (psm : ℕ) → AllCalled policy (front ++ Connects psm ∷ [])
  connects_on psm own held at = subst (HasCalled own) (sym (said_more policy front (Connects psm))) (by (can_connect v) (ap (held_at own) (sym (value-more policy front (Connects psm))) ∙ at))
    where
      new : Held
      new = new_held psm v.next (Requested (new_request v))

      w : Channels
      w = asks (errands.Connection v.next) (with_channel psm (Requested (new_request v)) v)

      command : Command
      command = command_with v.identifier (connection_request psm v.next)

      said : asked_between v w ≡ spoken command ∷ []
      said = asked-one v w (errands.Connection v.next) command refl (newest-asks (errands.Connection v.next) (with_channel psm (Requested (new_request v)) v))
          (ap (on_held (λ h. connection_at h.stage h)) (held_here v.held new ((all-sound policy front).core.held_below v.next (omega arith))))

      of : (here : Bool) → eqb v.next own ≡ here → held_at own w ≡ Some held → HasCalled own ((run_of policy front).said ++ asked_between v w)
      of true here found = (v.identifier, psm, subst (λ n. HasAsked v.identifier psm n ((run_of policy front).said ++ asked_between v w)) (eqb-true v.next own here) (stands-right (spoken command) (run_of policy front).said (asked_between v w) (subst (StandsIn (spoken command)) (sym said) (inl refl))))
      of false here found = called_more own (run_of policy front).said (asked_between v w) (all own held (sym (held_others v.held new own here) ∙ found))

      by : (can : Bool) → held_at own (cond can w v) ≡ Some held → HasCalled own ((run_of policy front).said ++ asked_between v (cond can w v))
      by true found = of (eqb v.next own) refl found
      by false found = called_more own (run_of policy front).said (asked_between v v) (all own held found)

  goes_on : (more : Occurrence) → AllCalled policy (front ++ more ∷ [])
  goes_on (Connects psm) = connects_on psm
  goes_on (Comes pdu) = quiet_on (Comes pdu) tt
  goes_on AsksFeatures = quiet_on AsksFeatures tt
  goes_on (Disconnects own) = quiet_on (Disconnects own) tt
  goes_on (Sends own sdu) = quiet_on (Sends own sdu) tt
  goes_on (Gives pdu) = quiet_on (Gives pdu) tt
  goes_on Fires = quiet_on Fires tt
  goes_on Tells = quiet_on Tells tt

pub all_called : (policy : Policy) → OffersNone policy → (front rest : List Occurrence) → AllCalled policy front → AllCalled policy (front ++ rest)
all_called policy none front [] all = subst (AllCalled policy) (sym (append-nil front)) all
all_called policy none front (more ∷ rest) all = subst (AllCalled policy) (append_assoc front (more ∷ []) rest) (all_called policy none (front ++ more ∷ []) rest (goes_on policy none front all more))

-- the request has its PSM
pub record Called (policy : Policy) (list : List Occurrence) (own : ℕ) (held : Held) : Type 0 where
  pub identifier : ℕ
  pub psm : ℕ
  pub asked : HasAsked identifier psm own (run_of policy list).said
  pub psm_is : held.psm ≡ psm

pub held_called : (policy : Policy) → OffersNone policy → (list : List Occurrence) (own : ℕ) (held : Held) → held_at own (run_of policy list).value ≡ Some held → Called policy list own held
held_called policy none list own held at =
    let (identifier, psm, asked) = all_called policy none [] list (λ own held is. cc) own held at in
    let bestows : Bestows (run_of policy list).said (run_of policy list).value = conversed-knowing policy (λ v. Unit {0}) Bestows (converses policy) first-bestows list in
    record { identifier = identifier; psm = psm; asked = asked; psm_is = bestows.asks.names identifier psm own held asked at }
