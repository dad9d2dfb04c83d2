-- A channel keeps its PSM, so an endpoint is asked for with one PSM alone.
use Rattle.std.proofs.Common.{◌≡◌, ℕ, ◌+◌, ◌<◌, ◌≤◌, List, [], ◌∷◌, ◌++◌, Bool, true, false, eqb, Option, Some, None, Ok, refl, sym, ap, ◌∙◌, ◌⊎◌, inl, inr, arith}
use Rattle.std.specs.Prelude.{find, nat_lt, option_map}
use Rattle.std.proofs.lemmas.Bool.{eqb-true, ltb-false, ltb-true}
use Rattle.own_channel_laws.specs.talk_laws.specs.l2cap_signal.specs.Commands.{Content}
use Rattle.own_channel_laws.specs.talk_laws.specs.link_talk.specs.Sayings.{Saying}
use Rattle.own_channel_laws.specs.channel_model.specs.declared.event.ChannelEvent.{ChannelEvent}
use Rattle.own_channel_laws.specs.channel_model.specs.Value.{Request, Carrier, Stage, Requested, Held, Channels}
use Rattle.own_channel_laws.specs.channel_model.specs.Policies.{Policy}
use Rattle.own_channel_laws.specs.channel_model.specs.Changing.{has_own, held_at}
use Rattle.own_channel_laws.specs.channel_model.specs.Following.{follows}
use Rattle.own_channel_laws.specs.channel_model.specs.Hearing.{hears_content}
use Rattle.own_channel_laws.specs.channel_model.specs.Carrying.{takes}
use Rattle.own_channel_laws.specs.channel_model.specs.Timing.{times_held, times_end, times_features}
use Rattle.own_channel_laws.specs.channel_model.proofs.Lookups.{own_of, Distinct}
use Rattle.own_channel_laws.specs.channel_model.proofs.Going.{staged, Moves, new_held, Walks}
use Rattle.own_channel_laws.specs.channel_model.proofs.Walking.{follows-goes, command-goes}
use Rattle.own_channel_laws.specs.channel_model.proofs.Calling.{connected-goes, asks-features-goes, disconnected-goes, sends-goes, takes-goes, timed-held, ended-held, features-timed, given-goes}
use Rattle.own_channel_laws.specs.OwnTalk.{command_with}
use Rattle.own_channel_laws.specs.Runs.{Occurrence, Comes, Connects, AsksFeatures, Disconnects, Sends, Gives, Fires, Tells, value_after}
use Rattle.channel_laws.specs.Belonging.{HasAsked}
use Rattle.own_channel_laws.proofs.Inviting.{held_others}
use Rattle.own_channel_laws.proofs.Saying.{stands-either}
use Rattle.own_channel_laws.proofs.Converses.{is_single, IsAlike}

-- ---- a channel keeps its PSM

-- of the endpoints that were given, what is held later was held, with the same PSM
pub record KeepsPsm (v w : Channels) : Type 0 where
  pub next_is : v.next ≤ w.next
  pub psm : (own : ℕ) (after : Held) → own < v.next → held_at own w ≡ Some after → (before : Held) × (held_at own v ≡ Some before) × (before.psm ≡ after.psm)

same_psm : (v w : Channels) → w.held ≡ v.held → w.next ≡ v.next → KeepsPsm v w
same_psm v w held_is next_is = record { next_is = omega (arith, next_is); psm = λ own after under found. (after, ap (find (has_own own)) (sym held_is) ∙ found, refl) }

both_psm : (v u w : Channels) → KeepsPsm v u → KeepsPsm u w → KeepsPsm v w
both_psm v u w first second = record {
  next_is = omega (arith, first.next_is, second.next_is);
  psm = λ own after under found.
      let (between, at, same) = second.psm own after (omega (arith, under, first.next_is)) found in
      let (before, was, alike) = first.psm own between under at in (before, was, alike ∙ same);
}

apart : (own next : ℕ) → own < next → eqb next own ≡ false
apart own next less = by (eqb next own) refl
  where
    by : (b : Bool) → eqb next own ≡ b → b ≡ false
    by false is = refl
    by true is = let same : next ≡ own = eqb-true next own is in absurd (omega (arith, same, less))

made_psm : (v w : Channels) (psm : ℕ) (stage : Stage) → w.held ≡ v.held ++ new_held psm v.next stage ∷ [] → w.next ≡ v.next + 1 → KeepsPsm v w
made_psm v w psm stage held_is next_is = record {
  next_is = omega (arith, next_is);
  psm = λ own after under found. (after, sym (held_others v.held (new_held psm v.next stage) own (apart own v.next under)) ∙ (ap (find (has_own own)) (sym held_is) ∙ found), refl);
}

abbrev Any : Carrier → Carrier → Type 0
Any before after = Unit {0}

moves_psm : (policy : Policy) (v w : Channels) (held : Held) (stage : Option Stage) (more : List ChannelEvent) → Moves policy Any v w held stage more → KeepsPsm v w
moves_psm policy v w held stage more moves = record { next_is = omega (arith, moves.next_is); psm = λ own after under found. by own after (eqb held.own own) refl found }
  where
    here : (s : Option Stage) (after : Held) → option_map (staged held) s ≡ Some after → held.psm ≡ after.psm
    here None after is = cc
    here (Some now) after is = let same : staged held now ≡ after = cc in ap (λ (h : Held). h.psm) same

    by : (own : ℕ) (after : Held) (same : Bool) → eqb held.own own ≡ same → held_at own w ≡ Some after → (before : Held) × (held_at own v ≡ Some before) × (before.psm ≡ after.psm)
    by own after true is found =
        let own_is : own ≡ held.own = sym (eqb-true held.own own is) in
        (held, ap (λ n. held_at n v) own_is ∙ moves.found, here stage after (sym moves.becomes ∙ (ap (λ n. held_at n w) (sym own_is) ∙ found)))
    by own after false is found = (after, sym (moves.others own is) ∙ found, refl)

walks : (policy : Policy) → Walks policy Any KeepsPsm
walks policy = record {
  same = λ carrier. tt;
  still = λ v w held_is next_is events_are. same_psm v w held_is next_is;
  tells = λ v w event held_is next_is events_are other. same_psm v w held_is next_is;
  both = both_psm;
  made = λ v w psm stage first held_is next_is events_are. made_psm v w psm stage held_is next_is;
  moves = λ v w held after more moves. moves_psm policy v w held after more moves;
}

-- ---- whatever happens

pub follows-psm : (policy : Policy) (v u : Channels) (content : Content) → IsAlike v u → KeepsPsm v (follows policy content u)
follows-psm policy v u content alike = both_psm v u (follows policy content u) (same_psm v u alike.held_is alike.next_is) (follows-goes policy Any KeepsPsm (walks policy) content u)

pub hears-psm : (policy : Policy) (identifier : ℕ) (content : Content) (v : Channels) → KeepsPsm v (hears_content policy identifier content v)
hears-psm policy identifier content v = command-goes policy Any KeepsPsm (walks policy) (Ok (command_with identifier content)) v

pub takes-psm : (policy : Policy) (own : ℕ) (pdu : List ℕ) (v : Channels) → KeepsPsm v (takes own pdu v)
takes-psm policy own pdu v = takes-goes policy Any KeepsPsm (walks policy) own pdu v (λ machine open'. tt)

pub times-psm : (policy : Policy) (tries own : ℕ) (v : Channels) → KeepsPsm v (times_held (held_at own v) tries v)
times-psm policy tries own v = timed-held policy Any KeepsPsm (walks policy) v tries own (held_at own v) (λ machine open'. tt) refl

pub ends-psm : (policy : Policy) (tries own : ℕ) (v : Channels) → KeepsPsm v (times_end (held_at own v) tries v)
ends-psm policy tries own v = ended-held policy Any KeepsPsm (walks policy) v tries own (held_at own v) refl

pub features-psm : (policy : Policy) (tries : ℕ) (v : Channels) → KeepsPsm v (times_features v.features tries v)
features-psm policy tries v = features-timed policy Any KeepsPsm (walks policy) tries v.features v

pub single-psm : (policy : Policy) (v : Channels) (more : Occurrence) → is_single more ≡ true → Distinct own_of v.held → KeepsPsm v (value_after policy more v)
single-psm policy v (Comes pdu) is lone = cc
single-psm policy v (Connects psm) is lone = connected-goes policy Any KeepsPsm (walks policy) psm v
single-psm policy v AsksFeatures is lone = asks-features-goes policy Any KeepsPsm (walks policy) v
single-psm policy v (Disconnects own) is lone = disconnected-goes policy Any KeepsPsm (walks policy) own v
single-psm policy v (Sends own sdu) is lone = sends-goes policy Any KeepsPsm (walks policy) own sdu v (λ machine. tt)
single-psm policy v (Gives pdu) is lone = given-goes policy Any KeepsPsm (walks policy) v (λ carrier. tt) lone
single-psm policy v Fires is lone = cc
single-psm policy v Tells is lone = same_psm v (value_after policy Tells v) refl refl

-- ---- what is asked for

-- it waits for the answer
pub record IsCalled (psm own : ℕ) (w : Channels) : Type 0 where
  pub held : Held
  pub request : Request
  pub found : held_at own w ≡ Some held
  pub waits : held.stage ≡ Requested request
  pub psm_is : held.psm ≡ psm

-- an endpoint that was asked for has one PSM, which is that of what is held there
pub record Asks (past : List Saying) (v : Channels) : Type 0 where
  pub one : (identifier psm own other again : ℕ) → HasAsked identifier psm own past → HasAsked other again own past → psm ≡ again
  pub under : (identifier psm own : ℕ) → HasAsked identifier psm own past → own < v.next
  pub names : (identifier psm own : ℕ) (held : Held) → HasAsked identifier psm own past → held_at own v ≡ Some held → held.psm ≡ psm

pub asks-first : (v : Channels) → Asks [] v
asks-first v = record { one = λ identifier psm own other again is. elim is [ ]; under = λ identifier psm own is. elim is [ ]; names = λ identifier psm own held is. elim is [ ] }

pub asks-step : (past said : List Saying) (v w : Channels) → ((identifier psm own : ℕ) → HasAsked identifier psm own said → IsCalled psm own w) → ((own : ℕ) → w.next ≤ own → held_at own w ≡ None) → KeepsPsm v w → Asks past v → Asks (past ++ said) w
asks-step past said v w calls below keeps asks = record { one = one; under = under; names = names }
  where
    within : (own : ℕ) (held : Held) → held_at own w ≡ Some held → own < w.next
    within own held found = by (nat_lt own w.next) refl
      where
        by : (b : Bool) → nat_lt own w.next ≡ b → own < w.next
        by true less = ltb-true own w.next less
        by false less = let none : held_at own w ≡ None = below own (ltb-false own w.next less) in let never : None ≡ Some held = sym none ∙ found in absurd cc

    under : (identifier psm own : ℕ) → HasAsked identifier psm own (past ++ said) → own < w.next
    under identifier psm own stands = by (stands-either _ past said stands)
      where
        by : HasAsked identifier psm own past ⊎ HasAsked identifier psm own said → own < w.next
        by (inl old) = let before : own < v.next = asks.under identifier psm own old in omega (arith, before, keeps.next_is)
        by (inr new) = let call : IsCalled psm own w = calls identifier psm own new in within own call.held call.found

    names : (identifier psm own : ℕ) (held : Held) → HasAsked identifier psm own (past ++ said) → held_at own w ≡ Some held → held.psm ≡ psm
    names identifier psm own held stands found = by (stands-either _ past said stands)
      where
        by : HasAsked identifier psm own past ⊎ HasAsked identifier psm own said → held.psm ≡ psm
        by (inl old) = let (before, at, same) = keeps.psm own held (asks.under identifier psm own old) found in sym same ∙ asks.names identifier psm own before old at
        by (inr new) =
            let call : IsCalled psm own w = calls identifier psm own new in
            let both : Some held ≡ Some call.held = sym found ∙ call.found in
            let same : held ≡ call.held = cc in ap (λ (h : Held). h.psm) same ∙ call.psm_is

    one : (identifier psm own other again : ℕ) → HasAsked identifier psm own (past ++ said) → HasAsked other again own (past ++ said) → psm ≡ again
    one identifier psm own other again first second = by (stands-either _ past said first) (stands-either _ past said second)
      where
        by : HasAsked identifier psm own past ⊎ HasAsked identifier psm own said → HasAsked other again own past ⊎ HasAsked other again own said → psm ≡ again
        by (inl old) (inl older) = asks.one identifier psm own other again old older
        by (inr new) later = let call : IsCalled psm own w = calls identifier psm own new in sym call.psm_is ∙ names other again own call.held second call.found
        by (inl old) (inr new) = let call : IsCalled again own w = calls other again own new in sym (names identifier psm own call.held first call.found) ∙ call.psm_is
