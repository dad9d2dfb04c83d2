-- What the peer responds.
use Rattle.std.proofs.Common.{◌≡◌, ℕ, List, Bool, true, false, cond, ◌&&◌, eqb, not, Some, refl, sym, ap, subst, ◌∙◌}
use Rattle.std.specs.Prelude.{find, is_some}
use Rattle.talk_laws.specs.capture.specs.declared.flow.Flow.TheVariants.{Into}
use Rattle.talk_laws.specs.l2cap_config.specs.declared.options.Options.{Options}
use Rattle.talk_laws.specs.l2cap_config.specs.declared.wish.Wish.{Wish}
use Rattle.talk_laws.specs.l2cap_config.specs.Reading.{options_read}
use Rattle.talk_laws.specs.link_talk.specs.Sayings.{Saying}
use Rattle.talk_laws.specs.link_talk.specs.Senses.{Opens, OnOptions, sense}
use Rattle.talk_laws.specs.link_talk.specs.Requests.{requests_after}
use Rattle.talk_laws.specs.link_talk.specs.Meanings.{Nothing, Settles, meant, is_read}
use Rattle.talk_laws.specs.link_talk.specs.Channels.{entries_after, Reading, read_on}
use Rattle.channel_model.specs.Value.{Own, Unasked, Asking, Granted, Setup, Held, Channels}
use Rattle.channel_model.specs.Policies.{Policy}
use Rattle.channel_model.specs.Changing.{has_own, stage_with, to_setup, with_setup}
use Rattle.channel_model.specs.Configuring.{grants, granted_setup, opens_if}
use Rattle.channel_model.specs.Responses.{is_asked}
use Rattle.own_channel_laws.specs.Views.{asked_mode}
use Rattle.channel_model.proofs.Lookups.{own_of, found-placed, find-placed, Distinct, placed-distinct}
use Rattle.own_channel_laws.proofs.Entries.{nothing-same, settles-same}
use Rattle.own_channel_laws.proofs.Sound.{Agrees, AgreesIf, standing-is, Core, IsAgain, RepeatsIn, Kept, Sound}
use Rattle.own_channel_laws.proofs.Silent.{Turns}
use Rattle.own_channel_laws.proofs.Consenting.{Talks}

-- ---- the options that the host asked for

pub settled-sound : (policy : Policy) (r : Reading) (v : Channels) (said : Saying) (identifier source flags answer : ℕ) (options : List ℕ) → sense said ≡ Opens Into identifier (OnOptions source flags answer options) → Sound policy r v → Sound policy (read_on r said) v
settled-sound policy r v said identifier source flags answer options is sound =
    subst (λ q. let past : Reading = record { requests = requests_after r.requests q; entries = entries_after r.entries (meant r.requests q) } in Sound policy past v) (sym is)
    (let same = by (is_read (options_read options) && not (eqb answer 4)) in record {
      core = subst (λ es. Core policy es v.held v.next) (sym same) sound.core;
      kept = subst (λ es. Kept r.requests es v.held v.memory) (sym same) sound.kept;
      uncalled = sound.uncalled;
    })
  where
    by : (t : Bool) → entries_after r.entries (cond t (Settles identifier source) Nothing) ≡ r.entries
    by true = settles-same identifier source r.entries
    by false = nothing-same r.entries

-- a change of a channel's options that nobody hears of
pub turns-to : (policy : Policy) (v w : Channels) (held : Held) (peer : ℕ) (setup after : Setup) → Talks v held peer setup → w.held ≡ (to_setup held after v).held → w.next ≡ v.next → w.memory ≡ v.memory → after.parts ≡ setup.parts
    → ((said : _) → Agrees (policy.wish held.psm) setup said → Agrees (policy.wish held.psm) after said) → Turns policy v w held (with_setup held after) peer
turns-to policy v w held peer setup after talks held_is next_is memory_is parts agrees = record {
  found = talks.found;
  found_after = ap (find (has_own held.own)) held_is ∙ found-placed (with_setup held after) held v.held talks.found;
  others = λ own apart. ap (find (has_own own)) held_is ∙ find-placed (with_setup held after) v.held own apart;
  lone = λ distinct. subst (Distinct own_of) (sym held_is) (placed-distinct (with_setup held after) v.held distinct);
  next_is = next_is;
  memory_is = memory_is;
  peer_is = talks.peer_is;
  peer_after = talks.peer_with after;
  life_after_is = talks.life_with after;
  psm_after = refl;
  own_after = refl;
  agrees = λ said so. subst (λ s. AgreesIf (policy.wish held.psm) s said) (sym (standing-is (stage_with after held.stage) after (talks.setup_with after)))
      (agrees said (subst (λ s. AgreesIf (policy.wish held.psm) s said) (standing-is held.stage setup talks.setup_is) so));
  repeats = λ said part so. subst (λ s. RepeatsIn s said part) (sym (standing-is (stage_with after held.stage) after (talks.setup_with after)))
      (let was = subst (λ s. RepeatsIn s said part) (standing-is held.stage setup talks.setup_is) so in λ unset. subst (λ (p : Options). IsAgain part.accepted part.more p.mode part.options) (sym parts) (was unset));
}

-- the own request was accepted
pub asked_is : (identifier : ℕ) (own : Own) (wish : Wish) → is_asked identifier own ≡ true → asked_mode wish own ≡ Some wish.mode
asked_is identifier Unasked wish is = cc
asked_is identifier (Asking request options) wish is = refl
asked_is identifier Granted wish is = cc

pub granted-agrees : (wish : Wish) (setup : Setup) (said : _) → asked_mode wish setup.own ≡ Some wish.mode → Agrees wish setup said → Agrees wish (granted_setup setup) said
granted-agrees wish setup said is agrees = record {
  set_up = record { asked_is = agrees.set_up.asked_is ∙ is; accepted_is = agrees.set_up.accepted_is };
  states = tt;
  carrier_is = agrees.carrier_is;
  parts_are = agrees.parts_are;
}

opened : (b : Bool) (held : Held) (v : Channels) → (opens_if b held v).held ≡ v.held
opened true held v = refl
opened false held v = refl

opened_next : (b : Bool) (held : Held) (v : Channels) → (opens_if b held v).next ≡ v.next
opened_next true held v = refl
opened_next false held v = refl

opened_memory : (b : Bool) (held : Held) (v : Channels) → (opens_if b held v).memory ≡ v.memory
opened_memory true held v = refl
opened_memory false held v = refl

opened_identifier : (b : Bool) (held : Held) (v : Channels) → (opens_if b held v).identifier ≡ v.identifier
opened_identifier true held v = refl
opened_identifier false held v = refl

pub grants-turns : (policy : Policy) (v : Channels) (held : Held) (peer : ℕ) (setup : Setup) → Talks v held peer setup → asked_mode (policy.wish held.psm) setup.own ≡ Some (policy.wish held.psm).mode
    → Turns policy v (grants held setup v) held (with_setup held (granted_setup setup)) peer
grants-turns policy v held peer setup talks is =
    turns-to policy v (grants held setup v) held peer setup (granted_setup setup) talks (opened (is_some setup.carrier) held _) (opened_next (is_some setup.carrier) held _) (opened_memory (is_some setup.carrier) held _) refl
    (λ said agrees. granted-agrees (policy.wish held.psm) setup said is agrees)

pub grants-identifier : (v : Channels) (held : Held) (setup : Setup) → (grants held setup v).identifier ≡ v.identifier
grants-identifier v held setup = opened_identifier (is_some setup.carrier) held _
