-- What a host gives, sends, and ends.
use Rattle.std.proofs.Common.{◌≡◌, ℕ, List, [], ◌∷◌, ◌++◌, fold, Bool, true, false, cond, Option, Some, None, refl, sym, ap, subst, ◌∙◌}
use Rattle.std.specs.Prelude.{find, option_map}
use Rattle.talk_laws.specs.l2cap_signal.specs.Commands.{Command, disconnection_request}
use Rattle.talk_laws.specs.l2cap_config.specs.declared.wish.Wish.{Wish}
use Rattle.talk_laws.specs.link_talk.specs.declared.word.Word.TheVariants.{AsksEnd}
use Rattle.talk_laws.specs.link_talk.specs.Meanings.{Part}
use Rattle.talk_laws.specs.link_talk.specs.Setups as read
use Rattle.talk_laws.specs.link_talk.specs.Channels.{life_after, Reading, read_on, Entry}
use Rattle.channel_model.specs.declared.errand.Errand.{Errand}
use Rattle.channel_model.specs.declared.errand.Errand.TheVariants.{Connection, Configuration, Disconnection, Features}
use Rattle.channel_model.specs.Value.{Own, Unasked, Asking, Granted, Carrier, Plain, Retransmitting, Setup, Stage, Requested, Connected, Leaving, Closing, Crossed, Held, Queued, Answer, Ask, Channels}
use Rattle.channel_model.specs.Policies.{Policy}
use Rattle.channel_model.specs.Changing.{has_own, held_at, setup_of, to_stage, to_setup, with_setup, is_open}
use Rattle.channel_model.specs.Asking.{new_request, asks}
use Rattle.channel_model.specs.Giving.{own_given, setup_given, connection_given, configuration_given, disconnection_given, stage_given, counted, gives, carrier_given, carrier_spent, held_given, queue_given, on_held, disconnection_at}
use Rattle.channel_model.specs.Calls.{disconnected_at, disconnected_held, carrier_with, sends_on, sends_held, sends}
use Rattle.own_channel_laws.specs.OwnTalk.{spoken, command_with, asked_between}
use Rattle.own_channel_laws.specs.Runs.{forgone_between}
use Rattle.own_channel_laws.specs.Views.{peer_of, life_of, Agreeing, standing, asked_mode, carrier_mode}
use Rattle.channel_model.proofs.Lookups.{own_of, placed-distinct, found-distinct, found-has, found-placed, find-placed}
use Rattle.own_channel_laws.proofs.Sound.{Agrees, AgreesIf, OwnStates, CarrierIs, RepeatsIn, WantsAt, Sound, ReadsBy, Repeats}
use Rattle.own_channel_laws.proofs.Moves.{PartsTo, SetupsTo}
use Rattle.own_channel_laws.proofs.Ending.{Leads, leads-said}
use Rattle.own_channel_laws.proofs.Silent.{turns-sound, becomes-sound}
use Rattle.own_channel_laws.proofs.Asking.{asked-one, newest-asks}
use Rattle.own_channel_laws.proofs.Questions.{asked-none}
use Rattle.own_channel_laws.proofs.Consenting.{Talks}
use Rattle.own_channel_laws.proofs.Responses.{turns-to}
use Rattle.own_channel_laws.proofs.Settling.{TalksOr, talks-at}
use Rattle.talk_laws.specs.link_talk.specs.Requests.{Requests}
use Rattle.own_channel_laws.proofs.Calling.{forgone-on}
use Rattle.channel_model.specs.declared.event.CloseReason.TheVariants.{OwnClosed}

-- ---- a request was given one time more

-- what a change of how a channel is held keeps
pub record Counts (f : Stage → Stage) : Type 0 where
  pub peer_is : (stage : Stage) → peer_of (f stage) ≡ peer_of stage
  pub life_is : (stage : Stage) → life_of (f stage) ≡ life_of stage
  pub agrees : (wish : Wish) (stage : Stage) (said : read.Setup) → AgreesIf wish (standing stage) said → AgreesIf wish (standing (f stage)) said
  pub repeats : (stage : Stage) (said : read.Setup) (part : Part) → RepeatsIn (standing stage) said part → RepeatsIn (standing (f stage)) said part
  pub waits : (asked : Requests) (held : Held) (stage : Stage) → WantsAt asked held stage → WantsAt asked held (f stage)

states_given : (wish : Wish) (own : Own) → OwnStates wish own → OwnStates wish (own_given own)
states_given wish Unasked states = tt
states_given wish (Asking request options) states = states
states_given wish Granted states = tt

mode_given : (wish : Wish) (own : Own) → asked_mode wish (own_given own) ≡ asked_mode wish own
mode_given wish Unasked = refl
mode_given wish (Asking request options) = refl
mode_given wish Granted = refl

given_agrees : (wish : Wish) (setup : Setup) (said : read.Setup) → Agrees wish setup said → Agrees wish (setup_given setup) said
given_agrees wish setup said agrees = record {
  set_up = record { asked_is = agrees.set_up.asked_is ∙ sym (mode_given wish setup.own); accepted_is = agrees.set_up.accepted_is };
  states = states_given wish setup.own agrees.states;
  carrier_is = agrees.carrier_is;
  parts_are = agrees.parts_are;
}

connection_counts : Counts connection_given
connection_counts = record { peer_is = peer; life_is = life; agrees = agree; repeats = repeat; waits = wait }
  where
    wait : (asked : Requests) (held : Held) (stage : Stage) → WantsAt asked held stage → WantsAt asked held (connection_given stage)
    wait asked held (Requested request) so = so
    wait asked held (Connected at setup) so = tt
    wait asked held (Leaving at setup request) so = tt
    wait asked held (Closing at request checked) so = tt
    wait asked held (Crossed at request) so = tt

    peer : (stage : Stage) → peer_of (connection_given stage) ≡ peer_of stage
    peer (Requested request) = refl
    peer (Connected at setup) = refl
    peer (Leaving at setup request) = refl
    peer (Closing at request checked) = refl
    peer (Crossed at request) = refl

    life : (stage : Stage) → life_of (connection_given stage) ≡ life_of stage
    life (Requested request) = refl
    life (Connected at setup) = refl
    life (Leaving at setup request) = refl
    life (Closing at request checked) = refl
    life (Crossed at request) = refl

    agree : (wish : Wish) (stage : Stage) (said : read.Setup) → AgreesIf wish (standing stage) said → AgreesIf wish (standing (connection_given stage)) said
    agree wish (Requested request) said so = tt
    agree wish (Connected at setup) said so = so
    agree wish (Leaving at setup request) said so = so
    agree wish (Closing at request checked) said so = so
    agree wish (Crossed at request) said so = tt

    repeat : (stage : Stage) (said : read.Setup) (part : Part) → RepeatsIn (standing stage) said part → RepeatsIn (standing (connection_given stage)) said part
    repeat (Requested request) said part so = tt
    repeat (Connected at setup) said part so = so
    repeat (Leaving at setup request) said part so = so
    repeat (Closing at request checked) said part so = so
    repeat (Crossed at request) said part so = tt

configuration_counts : Counts configuration_given
configuration_counts = record { peer_is = peer; life_is = life; agrees = agree; repeats = repeat; waits = wait }
  where
    wait : (asked : Requests) (held : Held) (stage : Stage) → WantsAt asked held stage → WantsAt asked held (configuration_given stage)
    wait asked held (Requested request) so = so
    wait asked held (Connected at setup) so = tt
    wait asked held (Leaving at setup request) so = tt
    wait asked held (Closing at request checked) so = tt
    wait asked held (Crossed at request) so = tt

    peer : (stage : Stage) → peer_of (configuration_given stage) ≡ peer_of stage
    peer (Requested request) = refl
    peer (Connected at setup) = refl
    peer (Leaving at setup request) = refl
    peer (Closing at request checked) = refl
    peer (Crossed at request) = refl

    life : (stage : Stage) → life_of (configuration_given stage) ≡ life_of stage
    life (Requested request) = refl
    life (Connected at setup) = refl
    life (Leaving at setup request) = refl
    life (Closing at request checked) = refl
    life (Crossed at request) = refl

    agree : (wish : Wish) (stage : Stage) (said : read.Setup) → AgreesIf wish (standing stage) said → AgreesIf wish (standing (configuration_given stage)) said
    agree wish (Requested request) said so = tt
    agree wish (Connected at setup) said so = given_agrees wish setup said so
    agree wish (Leaving at setup request) said so = given_agrees wish setup said so
    agree wish (Closing at request checked) said so = so
    agree wish (Crossed at request) said so = tt

    repeat : (stage : Stage) (said : read.Setup) (part : Part) → RepeatsIn (standing stage) said part → RepeatsIn (standing (configuration_given stage)) said part
    repeat (Requested request) said part so = tt
    repeat (Connected at setup) said part so = so
    repeat (Leaving at setup request) said part so = so
    repeat (Closing at request checked) said part so = so
    repeat (Crossed at request) said part so = tt

disconnection_counts : Counts disconnection_given
disconnection_counts = record { peer_is = peer; life_is = life; agrees = agree; repeats = repeat; waits = wait }
  where
    wait : (asked : Requests) (held : Held) (stage : Stage) → WantsAt asked held stage → WantsAt asked held (disconnection_given stage)
    wait asked held (Requested request) so = so
    wait asked held (Connected at setup) so = tt
    wait asked held (Leaving at setup request) so = tt
    wait asked held (Closing at request checked) so = tt
    wait asked held (Crossed at request) so = tt

    peer : (stage : Stage) → peer_of (disconnection_given stage) ≡ peer_of stage
    peer (Requested request) = refl
    peer (Connected at setup) = refl
    peer (Leaving at setup request) = refl
    peer (Closing at request checked) = refl
    peer (Crossed at request) = refl

    life : (stage : Stage) → life_of (disconnection_given stage) ≡ life_of stage
    life (Requested request) = refl
    life (Connected at setup) = refl
    life (Leaving at setup request) = refl
    life (Closing at request checked) = refl
    life (Crossed at request) = refl

    agree : (wish : Wish) (stage : Stage) (said : read.Setup) → AgreesIf wish (standing stage) said → AgreesIf wish (standing (disconnection_given stage)) said
    agree wish (Requested request) said so = tt
    agree wish (Connected at setup) said so = so
    agree wish (Leaving at setup request) said so = so
    agree wish (Closing at request checked) said so = so
    agree wish (Crossed at request) said so = tt

    repeat : (stage : Stage) (said : read.Setup) (part : Part) → RepeatsIn (standing stage) said part → RepeatsIn (standing (disconnection_given stage)) said part
    repeat (Requested request) said part so = tt
    repeat (Connected at setup) said part so = so
    repeat (Leaving at setup request) said part so = so
    repeat (Closing at request checked) said part so = so
    repeat (Crossed at request) said part so = tt

counted_reads : (policy : Policy) (f : Stage → Stage) (held : Held) (found : Option Entry) (peer : Option ℕ) → Counts f → ReadsBy policy held peer found → (let after : Held = record held { stage = f held.stage } in ReadsBy policy after peer found)
counted_reads policy f held None None counts reads = tt
counted_reads policy f held (Some entry) None counts reads = reads
counted_reads policy f held None (Some peer) counts reads = reads
counted_reads policy f held (Some entry) (Some peer) counts (there, agrees) =
    (record { channel_is = there.channel_is; life_is = there.life_is ∙ sym (counts.life_is held.stage) }, counts.agrees (policy.wish held.psm) held.stage entry.setup agrees)

counted_repeats : (f : Stage → Stage) (held : Held) (found : Option Entry) (part : Part) → Counts f → Repeats (Some held) found part → (let after : Held = record held { stage = f held.stage } in Repeats (Some after) found part)
counted_repeats f held None part counts repeats = repeats
counted_repeats f held (Some entry) part counts repeats = counts.repeats held.stage entry.setup part repeats

given-sound : (policy : Policy) (r : Reading) (v : Channels) (f : Stage → Stage) (own : ℕ) (found : Option Held) → Counts f → find (has_own own) v.held ≡ found → Sound policy r v → Sound policy r (stage_given f found v)
given-sound policy r v f own None counts is sound = sound
given-sound policy r v f own (Some held) counts is sound =
    let same : held.own ≡ own = found-has own_of own v.held held is in
    let at : find (has_own held.own) v.held ≡ Some held = ap (λ n. find (has_own n) v.held) same ∙ is in
    let after : Held = record held { stage = f held.stage } in
    becomes-sound policy r v (stage_given f (Some held) v) held after (record {
      found = at;
      found_after = found-placed after held v.held at;
      others = λ n apart. find-placed after v.held n apart;
      lone = placed-distinct after v.held;
      next_is = refl;
      memory_is = refl;
      reads = λ found is. subst (λ p. ReadsBy policy after p found) (sym (counts.peer_is held.stage)) (counted_reads policy f held found (peer_of held.stage) counts is);
      repeats = λ found part is. counted_repeats f held found part counts is;
      wants = λ asked is. counts.waits asked held held.stage is;
    }) sound

counted-sound : (policy : Policy) (r : Reading) (v : Channels) (errand : Errand) → Sound policy r v → Sound policy r (counted errand v)
counted-sound policy r v (Connection own) sound = given-sound policy r v connection_given own (held_at own v) connection_counts refl sound
counted-sound policy r v (Configuration own) sound = given-sound policy r v configuration_given own (held_at own v) configuration_counts refl sound
counted-sound policy r v (Disconnection own) sound = given-sound policy r v disconnection_given own (held_at own v) disconnection_counts refl sound
counted-sound policy r v Features sound = record { core = sound.core; kept = sound.kept; uncalled = sound.uncalled }

-- an SDU or a frame is given
spent_mode : (carrier : Option Carrier) → option_map carrier_mode (option_map carrier_given carrier) ≡ option_map carrier_mode carrier
spent_mode None = refl
spent_mode (Some (Plain agreed waiting)) = refl
spent_mode (Some (Retransmitting machine)) = refl

spent_carrier : (wish : Wish) (carrier : Option Carrier) → CarrierIs wish carrier → CarrierIs wish (option_map carrier_given carrier)
spent_carrier wish None is = tt
spent_carrier wish (Some (Plain agreed waiting)) is = is
spent_carrier wish (Some (Retransmitting machine)) is = is

carrier-spent : (policy : Policy) (r : Reading) (v : Channels) (held : Held) (setup : Option Setup) → TalksOr v held setup → Sound policy r v → Sound policy r (carrier_spent setup held v)
carrier-spent policy r v held None talks sound = sound
carrier-spent policy r v held (Some setup) (peer, talks) sound =
    let after : Setup = record setup { carrier = option_map carrier_given setup.carrier } in
    turns-sound policy r v (to_setup held after v) held (with_setup held after) peer (turns-to policy v (to_setup held after v) held peer setup after talks refl refl refl refl
    (λ said agrees. record {
      set_up = record { asked_is = agrees.set_up.asked_is; accepted_is = agrees.set_up.accepted_is ∙ sym (spent_mode setup.carrier) };
      states = agrees.states;
      carrier_is = spent_carrier (policy.wish held.psm) setup.carrier agrees.carrier_is;
      parts_are = agrees.parts_are;
    })) sound

carrier-given : (policy : Policy) (r : Reading) (v : Channels) (found : Option Held) → find gives v.held ≡ found → Sound policy r v → Sound policy r (held_given found v)
carrier-given policy r v None is sound = sound
carrier-given policy r v (Some held) is sound = carrier-spent policy r v held (setup_of held.stage) (talks-at v held held.stage refl (found-distinct own_of gives v.held held sound.core.lone is)) sound

pub queue-given : (policy : Policy) (r : Reading) (v : Channels) (queue : List Queued) → Sound policy r v → Sound policy r (queue_given queue v)
queue-given policy r v [] sound = carrier-given policy r v (find gives v.held) refl sound
queue-given policy r v (Answer command ∷ behind) sound = record { core = sound.core; kept = sound.kept; uncalled = sound.uncalled }
queue-given policy r v (Ask errand ∷ behind) sound = counted-sound policy r (record v { queue = behind }) errand (record { core = sound.core; kept = sound.kept; uncalled = sound.uncalled })

-- ---- an SDU is sent

with_mode : (carrier : Option Carrier) (sdu : List ℕ) → option_map carrier_mode (option_map (λ c. carrier_with c sdu) carrier) ≡ option_map carrier_mode carrier
with_mode None sdu = refl
with_mode (Some (Plain agreed waiting)) sdu = refl
with_mode (Some (Retransmitting machine)) sdu = refl

with_carrier : (wish : Wish) (carrier : Option Carrier) (sdu : List ℕ) → CarrierIs wish carrier → CarrierIs wish (option_map (λ c. carrier_with c sdu) carrier)
with_carrier wish None sdu is = tt
with_carrier wish (Some (Plain agreed waiting)) sdu is = is
with_carrier wish (Some (Retransmitting machine)) sdu is = is

sent-by : (policy : Policy) (r : Reading) (v : Channels) (held : Held) (peer : ℕ) (setup : Setup) (sdu : List ℕ) (open' : Bool) → Talks v held peer setup → Sound policy r v
    → (let after : Setup = cond open' (record setup { carrier = option_map (λ carrier. carrier_with carrier sdu) setup.carrier }) setup in Sound policy r (to_setup held after v))
sent-by policy r v held peer setup sdu true talks sound =
    let after : Setup = record setup { carrier = option_map (λ carrier. carrier_with carrier sdu) setup.carrier } in
    turns-sound policy r v (to_setup held after v) held (with_setup held after) peer (turns-to policy v (to_setup held after v) held peer setup after talks refl refl refl refl
    (λ said agrees. record {
      set_up = record { asked_is = agrees.set_up.asked_is; accepted_is = agrees.set_up.accepted_is ∙ sym (with_mode setup.carrier sdu) };
      states = agrees.states;
      carrier_is = with_carrier (policy.wish held.psm) setup.carrier sdu agrees.carrier_is;
      parts_are = agrees.parts_are;
    })) sound
sent-by policy r v held peer setup sdu false talks sound =
    turns-sound policy r v (to_setup held setup v) held (with_setup held setup) peer (turns-to policy v (to_setup held setup v) held peer setup setup talks refl refl refl refl (λ said agrees. agrees)) sound

sent-on : (policy : Policy) (r : Reading) (v : Channels) (held : Held) (sdu : List ℕ) (setup : Option Setup) → TalksOr v held setup → Sound policy r v → Sound policy r (sends_on setup sdu held v)
sent-on policy r v held sdu None talks sound = sound
sent-on policy r v held sdu (Some setup) (peer, talks) sound = sent-by policy r v held peer setup sdu (is_open setup) talks sound

sent-of : (policy : Policy) (r : Reading) (v : Channels) (own : ℕ) (sdu : List ℕ) (found : Option Held) → find (has_own own) v.held ≡ found → Sound policy r v → Sound policy r (sends_held found sdu v)
sent-of policy r v own sdu None is sound = sound
sent-of policy r v own sdu (Some held) is sound =
    let same : held.own ≡ own = found-has own_of own v.held held is in
    sent-on policy r v held sdu (setup_of held.stage) (talks-at v held held.stage refl (ap (λ n. find (has_own n) v.held) same ∙ is)) sound

pub sends-sound : (policy : Policy) (r : Reading) (v : Channels) (own : ℕ) (sdu : List ℕ) → Sound policy r v → Sound policy r (sends own sdu v)
sends-sound policy r v own sdu sound = sent-of policy r v own sdu (held_at own v) refl sound

-- ---- the end of a channel is asked for

pub forgone_none : (before : Option Held) (after : Held) → forgone_between before (Some after) ≡ []
forgone_none None after = refl
forgone_none (Some held) after = refl

pub still_held : (found : Option Held) → forgone_between found found ≡ []
still_held None = refl
still_held (Some held) = refl

nothing-ends : (policy : Policy) (r : Reading) (v : Channels) (own : ℕ) → Sound policy r v → Sound policy (fold read_on r (asked_between v v ++ forgone_between (held_at own v) (held_at own v))) v
nothing-ends policy r v own sound =
    subst (λ rest. Sound policy (fold read_on r (asked_between v v ++ rest)) v) (sym (still_held (held_at own v))) (subst (λ rest. Sound policy (fold read_on r (rest ++ [])) v) (sym (asked-none v v refl)) sound)

end-asked : (policy : Policy) (r : Reading) (v : Channels) (held : Held) (stage : Stage) → held.stage ≡ stage → find (has_own held.own) v.held ≡ Some held → Sound policy r v
    → (let w : Channels = disconnected_at stage held v in Sound policy (fold read_on r (asked_between v w ++ forgone_between (held_at held.own v) (held_at held.own w))) w)
end-asked policy r v held (Requested request) is at sound = forgone-on policy r v held request OwnClosed held.stage is is at sound
end-asked policy r v held (Connected peer setup) is at sound =
    let after : Held = record held { stage = Leaving peer setup (new_request v) } in
    let before : Channels = to_stage held (Leaving peer setup (new_request v)) v in
    let w : Channels = asks (Disconnection held.own) before in
    let here : find (has_own held.own) w.held ≡ Some after = found-placed after held v.held at in
    let command : Command = command_with v.identifier (disconnection_request peer held.own) in
    let leads : Leads v w held peer AsksEnd = record {
      others = λ own apart. find-placed after v.held own apart;
      lone = placed-distinct after v.held;
      to = subst (PartsTo held peer AsksEnd) (sym here) (refl, refl, refl, sym (ap (λ s. life_after (life_of s) (Some AsksEnd)) is), subst (λ s. SetupsTo (standing s) (Agreeing setup)) (sym is) refl);
      next_is = refl;
      memory_is = refl;
    } in
    subst (λ rest. Sound policy (fold read_on r (asked_between v w ++ rest)) w) (sym (ap (forgone_between (held_at held.own v)) here ∙ forgone_none (held_at held.own v) after))
    (subst (λ said. Sound policy (fold read_on r (said ++ [])) w)
    (sym (asked-one v w (Disconnection held.own) command refl (newest-asks (Disconnection held.own) before) (ap (on_held (λ h. disconnection_at h.stage h)) here)))
    (leads-said policy r v w held peer AsksEnd (spoken command) refl at (ap peer_of is) leads sound))
end-asked policy r v held (Leaving peer setup request) is at sound = nothing-ends policy r v held.own sound
end-asked policy r v held (Closing peer request checked) is at sound = nothing-ends policy r v held.own sound
end-asked policy r v held (Crossed peer request) is at sound = nothing-ends policy r v held.own sound

end-of : (policy : Policy) (r : Reading) (v : Channels) (own : ℕ) (found : Option Held) → find (has_own own) v.held ≡ found → Sound policy r v
    → (let w : Channels = disconnected_held found v in Sound policy (fold read_on r (asked_between v w ++ forgone_between (held_at own v) (held_at own w))) w)
end-of policy r v own None is sound = nothing-ends policy r v own sound
end-of policy r v own (Some held) is sound =
    let same : held.own ≡ own = found-has own_of own v.held held is in
    subst (λ n. let w : Channels = disconnected_held (Some held) v in Sound policy (fold read_on r (asked_between v w ++ forgone_between (held_at n v) (held_at n w))) w) same
    (end-asked policy r v held held.stage refl (ap (λ n. find (has_own n) v.held) same ∙ is) sound)

pub disconnects-sound : (policy : Policy) (r : Reading) (v : Channels) (own : ℕ) → Sound policy r v
    → (let w : Channels = disconnected_held (held_at own v) v in Sound policy (fold read_on r (asked_between v w ++ forgone_between (held_at own v) (held_at own w))) w)
disconnects-sound policy r v own sound = end-of policy r v own (held_at own v) refl sound
