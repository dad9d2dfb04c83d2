-- What goes out on each channel of a host is what it took, whatever happens.
use Rattle.std.proofs.Common.{◌≡◌, ℕ, ◌≤◌, List, [], map, Bool, false, eqb, Option, Some, None, refl, sym, ap, subst, ◌∙◌, ◌⊎◌, inl, inr, arith}
use Rattle.std.specs.Prelude.{find}
use Rattle.own_channel_laws.specs.talk_laws.specs.l2cap_config.specs.declared.wish.Agreed.{Agreed}
use Rattle.own_channel_laws.specs.talk_laws.specs.l2cap_config.specs.declared.wish.Mode.TheVariants.{Basic}
use Rattle.own_channel_laws.specs.talk_laws.specs.l2cap_config.specs.declared.wish.Wish.{Wish}
use Rattle.own_channel_laws.specs.talk_laws.specs.l2cap_config.specs.Agreement.{agreed_on}
use Rattle.own_channel_laws.specs.channel_model.specs.Configuring.{bounded_agreement, carrier_by}
use Rattle.own_channel_laws.specs.talk_laws.specs.ertm_frames.specs.Frames.{PlainFrame}
use Rattle.own_channel_laws.specs.talk_laws.specs.ertm_frames.specs.Picking.{picked, outs}
use Rattle.own_channel_laws.specs.channel_model.specs.ertm_model.specs.Value.{Ertm}
use Rattle.own_channel_laws.specs.talk_laws.specs.link_talk.specs.declared.channel.Channel.{Channel}
use Rattle.own_channel_laws.specs.talk_laws.specs.link_talk.specs.declared.party.Party.{Party}
use Rattle.own_channel_laws.specs.talk_laws.specs.link_talk.specs.Sayings.{Saying}
use Rattle.own_channel_laws.specs.channel_model.specs.Value.{Carrier, Plain, Retransmitting, Setup, Stage, Held, Channels}
use Rattle.own_channel_laws.specs.channel_model.specs.Policies.{Policy}
use Rattle.own_channel_laws.specs.channel_model.specs.Changing.{has_own, setup_of, in_place_of}
use Rattle.own_channel_laws.specs.channel_model.specs.Carrying.{read_by, machine_heard}
use Rattle.own_channel_laws.specs.channel_model.proofs.Lookups.{found-placed, find-placed}
use Rattle.own_channel_laws.specs.channel_model.proofs.Going.{IsAccepted, CarrierGoes, staged, Walks}
use Rattle.own_channel_laws.proofs.Attending.{IsNew, new-carrier}
use Rattle.own_channel_laws.proofs.HandedUp.{heard-agreed}
use Rattle.own_channel_laws.proofs.Sound.{at_each}
use Rattle.own_channel_laws.proofs.Steps.{less-apart}
use Rattle.own_channel_laws.proofs.Keeping.{OfCarrier, StageKeeps, HeldKeeps, AllKeep, KeepsOn, walks-keep, under}
use Rattle.own_channel_laws.proofs.Holding.{frames_on}
use Rattle.channel_laws.proofs.Putting.{Puts, puts-new, puts-on, fresh-heard}

-- ---- a channel

abbrev pub CarrierPuts : (given : List (List ℕ)) (said : List PlainFrame) → Wish → (opened : Bool) → Option Carrier → Type 0
CarrierPuts given said wish opened None = (given ≡ []) × (picked 0 said ≡ [])
CarrierPuts given said wish opened (Some (Plain agreed waiting)) = wish.mode ≡ Basic
CarrierPuts given said wish opened (Some (Retransmitting machine)) = Puts given said opened machine

abbrev pub Putting : (given : List (List ℕ)) (said : List PlainFrame) → OfCarrier
Putting given said wish leaving opened carrier = CarrierPuts given said wish opened carrier

-- it stays, with what it has left to give
abbrev pub Leaves : Carrier → Carrier → Type 0
Leaves (Plain agreed waiting) (Plain agreed' waiting') = Unit {0}
Leaves (Plain agreed waiting) (Retransmitting machine) = ⊥
Leaves (Retransmitting machine) (Plain agreed waiting) = ⊥
Leaves (Retransmitting machine) (Retransmitting after) = (after.agreed ≡ machine.agreed) × (after.sender.fresh ≡ machine.sender.fresh)

leaves-same : (carrier : Carrier) → Leaves carrier carrier
leaves-same (Plain agreed waiting) = tt
leaves-same (Retransmitting machine) = (refl, refl)

new_puts : (wish : Wish) (given : List (List ℕ)) (said : List PlainFrame) (opened : Bool) (carrier : Carrier) → given ≡ [] → picked 0 said ≡ [] → IsAccepted wish carrier → CarrierPuts given said wish opened (Some carrier)
new_puts wish given said opened carrier none silent accepted = by (new-carrier wish carrier accepted)
  where
    by : ((a : Agreed) × (carrier ≡ Plain a None) × (wish.mode ≡ Basic)) ⊎ ((a : Agreed) × IsNew wish a carrier) → CarrierPuts given said wish opened (Some carrier)
    by (inl (agreed, is, basic)) = subst (λ c. CarrierPuts given said wish opened (Some c)) (sym is) basic
    by (inr (agreed, new)) = subst (λ c. CarrierPuts given said wish opened (Some c)) (sym new.is) (puts-new given said opened agreed none silent)

plain_puts : (wish : Wish) (given : List (List ℕ)) (said : List PlainFrame) (opened : Bool) (carrier : Carrier) → wish.mode ≡ Basic → IsAccepted wish carrier → CarrierPuts given said wish opened (Some carrier)
plain_puts wish given said opened carrier basic accepted =
    subst (λ c. CarrierPuts given said wish opened (Some c)) (sym (accepted.is ∙ ap (λ m. carrier_by m (bounded_agreement (agreed_on wish accepted.options))) basic)) basic

left_puts : (wish : Wish) (given : List (List ℕ)) (said : List PlainFrame) (opened opened' : Bool) (before after : Carrier) → Leaves before after → (opened' ≡ false → opened ≡ false) → CarrierPuts given said wish opened (Some before) → CarrierPuts given said wish opened' (Some after)
left_puts wish given said opened opened' (Plain agreed waiting) (Plain agreed' waiting') goes shut puts = puts
left_puts wish given said opened opened' (Plain agreed waiting) (Retransmitting machine) goes shut puts = elim goes [ ]
left_puts wish given said opened opened' (Retransmitting machine) (Plain agreed waiting) goes shut puts = elim goes [ ]
left_puts wish given said opened opened' (Retransmitting machine) (Retransmitting after) goes shut puts = puts-on given said opened opened' machine after goes.0 goes.1 shut puts

goes_puts : (wish : Wish) (given : List (List ℕ)) (said : List PlainFrame) (opened opened' : Bool) (before after : Option Carrier) → (opened' ≡ false → opened ≡ false) → CarrierGoes wish Leaves opened before after → CarrierPuts given said wish opened before → CarrierPuts given said wish opened' after
goes_puts wish given said opened opened' None None shut goes puts = puts
goes_puts wish given said opened opened' None (Some after) shut goes puts = new_puts wish given said opened' after puts.0 puts.1 goes
goes_puts wish given said opened opened' (Some before) None shut goes puts = elim goes [ ]
goes_puts wish given said opened opened' (Some before) (Some after) shut (inl goes) puts = left_puts wish given said opened opened' before after goes shut puts
goes_puts wish given said opened opened' (Some (Plain agreed waiting)) (Some after) shut (inr (closed, accepted)) puts = plain_puts wish given said opened' after puts accepted
goes_puts wish given said opened opened' (Some (Retransmitting machine)) (Some after) shut (inr (closed, accepted)) puts = new_puts wish given said opened' after (puts.quiet closed).0 (puts.quiet closed).1 accepted

-- ---- all channels

-- the SDUs that each endpoint's channel took
abbrev pub Taken : Type 0
Taken = ℕ → List (List ℕ)

abbrev pub says_on : Party → Channel → List Saying → ℕ → List PlainFrame
says_on party channel past own = outs (frames_on party channel past own)

abbrev pub Draw : Policy → Party → Channel → Taken → List Saying → Channels → Type 0
Draw policy party channel given past v = AllKeep policy (λ own. Putting (given own) (says_on party channel past own)) v

-- what is said and taken is the same, or the channel carries something
abbrev pub IsAlive : ℕ → Channels → Type 0
IsAlive own v = (held : Held) × (setup : Setup) × (carrier : Carrier) × (find (has_own own) v.held ≡ Some held) × (setup_of held.stage ≡ Some setup) × (setup.carrier ≡ Some carrier)

abbrev pub Moves : Party → Channel → (given given' : Taken) → (past past' : List Saying) → Channels → ℕ → Type 0
Moves party channel given given' past past' w own = ((given' own ≡ given own) × (says_on party channel past' own ≡ says_on party channel past own)) ⊎ IsAlive own w

pub record Draws (policy : Policy) (party : Party) (channel : Channel) (given given' : Taken) (past past' : List Saying) (w : Channels) : Type 0 where
  pub draw : Draw policy party channel given' past' w
  pub moves : (own : ℕ) → Moves party channel given given' past past' w own

pub walks-draw : (policy : Policy) (party : Party) (channel : Channel) (given : Taken) (past : List Saying) → Walks policy Leaves (KeepsOn policy (λ own. Putting (given own) (says_on party channel past own)))
walks-draw policy party channel given past = walks-keep policy Leaves (λ own. Putting (given own) (says_on party channel past own)) (record {
  same = leaves-same;
  goes = λ own psm leaving opened opened' before after shut goes puts. goes_puts (policy.wish psm) (given own) (says_on party channel past own) opened opened' before after shut goes puts;
  leaves = λ own psm opened carrier puts. puts;
})

pub leaves-hears : (pdu : List ℕ) (machine : Ertm) → Leaves (Retransmitting machine) (Retransmitting (machine_heard (read_by machine pdu) machine))
leaves-hears pdu machine = (heard-agreed (read_by machine pdu) machine, fresh-heard (read_by machine pdu) machine)

abbrev pub IsMoved : Party → Channel → (given given' : Taken) → (past past' : List Saying) → ℕ → Stage → Type 0
IsMoved party channel given given' past past' own stage =
    ((given' own ≡ given own) × (says_on party channel past' own ≡ says_on party channel past own)) ⊎ ((setup : Setup) × (carrier : Carrier) × (setup_of stage ≡ Some setup) × (setup.carrier ≡ Some carrier))

-- one channel goes on with what is said and taken on it
pub draw-placed : (policy : Policy) (party : Party) (channel : Channel) (given given' : Taken) (past past' : List Saying) (v w : Channels) (held : Held) (stage : Stage) → find (has_own held.own) v.held ≡ Some held → w.held ≡ map (in_place_of (staged held stage)) v.held → w.next ≡ v.next
    → ((own : ℕ) → eqb held.own own ≡ false → (given' own ≡ given own) × (says_on party channel past' own ≡ says_on party channel past own))
    → StageKeeps (Putting (given' held.own) (says_on party channel past' held.own)) (policy.wish held.psm) stage
    → IsMoved party channel given given' past past' held.own stage → Draw policy party channel given past v → Draws policy party channel given given' past past' w
draw-placed policy party channel given given' past past' v w held stage found held_is next_is others kept moved all = record {
  draw = record {
    at = at_each (λ n. HeldKeeps policy (Putting (given n) (says_on party channel past n)) (find (has_own n) v.held)) (λ n. HeldKeeps policy (Putting (given' n) (says_on party channel past' n)) (find (has_own n) w.held)) held.own
        (λ n away was. subst (HeldKeeps policy (Putting (given' n) (says_on party channel past' n))) (sym (ap (find (has_own n)) held_is ∙ find-placed (staged held stage) v.held n away))
        (subst (λ g. HeldKeeps policy (Putting g (says_on party channel past' n)) (find (has_own n) v.held)) (sym (others n away).0)
        (subst (λ fs. HeldKeeps policy (Putting (given n) fs) (find (has_own n) v.held)) (sym (others n away).1) was)))
        (subst (HeldKeeps policy (Putting (given' held.own) (says_on party channel past' held.own))) (sym here) kept)
        all.at;
    fresh = λ own psm above.
        let high : v.next ≤ own = omega (arith, next_is, above) in
        let same = others own (less-apart held.own own (under v held v.next own refl all.below found high)) in
        let was = all.fresh own psm high in (same.0 ∙ was.0, ap (picked 0) same.1 ∙ was.1);
    below = λ own above.
        let high : v.next ≤ own = omega (arith, next_is, above) in
        ap (find (has_own own)) held_is ∙ (find-placed (staged held stage) v.held own (less-apart held.own own (under v held v.next own refl all.below found high)) ∙ all.below own high);
  };
  moves = at_each (λ n. Unit {0}) (λ n. Moves party channel given given' past past' w n) held.own (λ n away was. inl (others n away)) (by moved) (λ n. tt);
}
  where
    here : find (has_own held.own) w.held ≡ Some (staged held stage)
    here = ap (find (has_own held.own)) held_is ∙ found-placed (staged held stage) held v.held found

    by : IsMoved party channel given given' past past' held.own stage → Moves party channel given given' past past' w held.own
    by (inl same) = inl same
    by (inr (setup, carrier, has, is)) = inr (staged held stage, setup, carrier, here, has, is)

pub draws-same : (policy : Policy) (party : Party) (channel : Channel) (given given' : Taken) (past past' : List Saying) (v w : Channels) → w.held ≡ v.held → w.next ≡ v.next → past' ≡ past → ((own : ℕ) → given' own ≡ given own)
    → Draw policy party channel given past v → Draws policy party channel given given' past past' w
draws-same policy party channel given given' past past' v w held_is next_is same alike all = record {
  draw = record {
    at = λ own. subst (HeldKeeps policy (Putting (given' own) (says_on party channel past' own))) (sym (ap (find (has_own own)) held_is))
        (subst (λ g. HeldKeeps policy (Putting g (says_on party channel past' own)) (find (has_own own) v.held)) (sym (alike own))
        (subst (λ said. HeldKeeps policy (Putting (given own) (says_on party channel said own)) (find (has_own own) v.held)) (sym same) (all.at own)));
    fresh = λ own psm above. let was = all.fresh own psm (omega (arith, next_is, above)) in (alike own ∙ was.0, ap (λ said. picked 0 (says_on party channel said own)) same ∙ was.1);
    below = λ own above. ap (find (has_own own)) held_is ∙ all.below own (omega (arith, next_is, above));
  };
  moves = λ own. inl (alike own, ap (λ said. says_on party channel said own) same);
}
