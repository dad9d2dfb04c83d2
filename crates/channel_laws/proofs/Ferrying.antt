-- A basic channel that two hosts have in common, over all turns.
use Rattle.std.proofs.Common.{◌≡◌, ℕ, ◌<◌, ◌≤◌, List, [], ◌∷◌, ◌++◌, map, drop, Bool, true, false, cond, eqb, ◌&&◌, Option, Some, None, refl, sym, ap, subst, ◌∙◌, arith, append_assoc, append-nil}
use Rattle.std.specs.Prelude.{find, option_map, is_some, unwrap_or}
use Rattle.std.proofs.lemmas.Bool.{eqb-true}
use Rattle.std.proofs.lemmas.List.{map-append}
use Rattle.own_channel_laws.specs.talk_laws.specs.bt_base.proofs.OctetLemmas.{le16-number}
use Rattle.own_channel_laws.specs.talk_laws.specs.acl_fragments.specs.Pieces.{channel_of}
use Rattle.own_channel_laws.specs.talk_laws.specs.capture.specs.declared.flow.Flow.TheVariants.{Out}
use Rattle.own_channel_laws.specs.talk_laws.specs.l2cap_signal.specs.Commands.{Command, spelling}
use Rattle.own_channel_laws.specs.talk_laws.specs.l2cap_config.specs.declared.wish.Agreed.{Agreed}
use Rattle.own_channel_laws.specs.talk_laws.specs.l2cap_config.specs.declared.wish.Mode.TheVariants.{Basic, Enhanced}
use Rattle.own_channel_laws.specs.talk_laws.specs.ertm_frames.specs.Frames.{PlainFrame}
use Rattle.own_channel_laws.specs.channel_model.specs.ertm_model.specs.Giving.{next_frame}
use Rattle.own_channel_laws.specs.talk_laws.specs.link_talk.specs.declared.channel.Channel.{Channel}
use Rattle.own_channel_laws.specs.talk_laws.specs.link_talk.specs.Sayings.{Saying, Carried}
use Rattle.own_channel_laws.specs.talk_laws.specs.link_talk.specs.Channels.{is_there, reading}
use Rattle.own_channel_laws.specs.talk_laws.specs.link_talk.specs.Carriages.{pdus_of}
use Rattle.own_channel_laws.specs.channel_model.specs.Value.{Queued, Answer, Ask, Own, Carrier, Plain, Retransmitting, Setup, Stage, Requested, Connected, Leaving, Closing, Crossed, Held, Channels}
use Rattle.own_channel_laws.specs.channel_model.specs.Policies.{Policy}
use Rattle.own_channel_laws.specs.channel_model.specs.Changing.{has_own, held_at, is_granted, is_open, setup_of, to_setup}
use Rattle.own_channel_laws.specs.channel_model.specs.Giving.{Given, Signal, Whole, Framed, headed, some_carrier_gives, gives, carrier_given, carrier_spent, held_gives, held_given, queue_gives, queue_given, command_of, counted}
use Rattle.own_channel_laws.specs.channel_model.specs.Calls.{setup_on, open_carrier, carrier_if, carrier_at, carrier_with, sends_on, sends_held, sends}
use Rattle.own_channel_laws.specs.channel_model.proofs.Lookups.{own_of, eqb-same, found-has, found-distinct, find-placed}
use Rattle.own_channel_laws.specs.channel_model.proofs.Walking.{found-own, with-found}
use Rattle.own_channel_laws.specs.Runs.{peer_at, said_by_carrier, said_as, sdus_up}
use Rattle.own_channel_laws.specs.Views.{carrier_mode}
use Rattle.own_channel_laws.specs.Frames.{IsSpelled}
use Rattle.channel_laws.specs.Pairs.{Pair, Happening, Acts, Puts, Takes, Repeats, Loses, Damages}
use Rattle.channel_laws.specs.Pipes.{IsAddressed}
use Rattle.own_channel_laws.proofs.Both.{and-right}
use Rattle.own_channel_laws.proofs.Sound.{Sound}
use Rattle.own_channel_laws.proofs.Keeping.{StageKeeps, HeldKeeps, AllKeep, KeepsOn}
use Rattle.own_channel_laws.proofs.Passages.{GoesOut, carried-own, spelled-frame}
use Rattle.own_channel_laws.proofs.Holding.{IsRead, is-read, set-is}
use Rattle.own_channel_laws.proofs.Outgoing.{open-stated, gives-none, gives-by}
use Rattle.channel_laws.proofs.Joining.{held-also, IsBelow}
use Rattle.channel_laws.proofs.Partaking.{IsSole, leaving_of, kept-on, keeps-on}
use Rattle.channel_laws.proofs.Piped.{under_way, carried-elsewhere, peered}
use Rattle.channel_laws.proofs.Conveying.{counted-held, under-else, under-here, low-apart, flipped, peers-apart}
use Rattle.channel_laws.proofs.Delivering.{Waits, WaitsAt, sent_on, sent-more, sent-elsewhere}

-- ---- what is sent, what is under way, and what came

abbrev pub Flight : ℕ → List (List ℕ) → List (List ℕ)
Flight own coming = map (drop 4) (under_way own coming)

-- what is so of what is done and of what is under way
abbrev pub Reach : Type 1
Reach = (done flight : List (List ℕ)) → Type 0

-- what was sent is done, is under way, or waits
pub record Owes (policy : Policy) (own : ℕ) (sent flight : List (List ℕ)) (R : Reach) (v : Channels) : Type 0 where
  pub done : List (List ℕ)
  pub rest : List (List ℕ)
  pub sent_is : sent ≡ done ++ (flight ++ rest)
  pub reached : R done flight
  pub held : HeldKeeps policy (Waits rest) (held_at own v)
  pub before : v.next ≤ own → rest ≡ []

-- also when more is under way
abbrev pub Grows : Reach → Type 0
Grows R = (done flight more : List (List ℕ)) → R done flight → R done (flight ++ more)

-- a channel is basic
abbrev pub IsBasic : (own : ℕ) → Channels → Type 0
IsBasic own v = (held : Held) (setup : Setup) (carrier : Carrier) → held_at own v ≡ Some held → setup_of held.stage ≡ Some setup → setup.carrier ≡ Some carrier → carrier_mode carrier ≡ Basic

-- what came, with what is done and what is under way
abbrev pub Way : Type 1
Way = (came : List (List ℕ)) → Reach

abbrev pub Delivers : Way → Channel → Pair → Type 0
Delivers W channel pair = Owes pair.near.policy channel.own (sent_on channel pair.near.run.said) (Flight channel.peer pair.far.coming) (W (sdus_up channel.peer pair.far.run.up)) pair.near.run.value

-- the first that is under way comes, and is under way still
abbrev pub Comes_again : Way → Type 0
Comes_again W = (came done flight : List (List ℕ)) (x : List ℕ) → W came done (x ∷ flight) → W (came ++ x ∷ []) done (x ∷ flight)

-- more is under way; the first that is under way comes, or does not, and is done
pub record Reaches (W : Way) : Type 0 where
  pub first : W [] [] []
  pub grows : (came : List (List ℕ)) → Grows (W came)
  pub comes : (came done flight : List (List ℕ)) (x : List ℕ) → W came done (x ∷ flight) → W (came ++ x ∷ []) (done ++ x ∷ []) flight
  pub goes : (came done flight : List (List ℕ)) (x : List ℕ) → W came done (x ∷ flight) → W came (done ++ x ∷ []) flight

-- what a link that repeats asks of it
abbrev pub Allows : Way → Happening → Type 0
Allows W (Acts occurrence) = Unit {0}
Allows W (Puts pdu) = Unit {0}
Allows W Takes = Unit {0}
Allows W Repeats = Comes_again W
Allows W Loses = Unit {0}
Allows W (Damages pdu) = Unit {0}

-- ---- the host that sends

-- it does something that is for no channel
pub owes-walked : (policy : Policy) (own : ℕ) (sent flight : List (List ℕ)) (R : Reach) (v w : Channels) → IsBelow v → ((rest : List (List ℕ)) → KeepsOn policy (WaitsAt own rest) v w) → Owes policy own sent flight R v → Owes policy own sent flight R w
owes-walked policy own sent flight R v w below keeps owes = record {
  done = owes.done;
  rest = owes.rest;
  sent_is = owes.sent_is;
  reached = owes.reached;
  held = gather (held_at own w) (all.at own);
  before = λ above. all.fresh own 0 above refl;
}
  where
    spread : (other : ℕ) (held : Option Held) → (other ≡ own → HeldKeeps policy (Waits owes.rest) held) → HeldKeeps policy (WaitsAt own owes.rest other) held
    spread other None was = tt
    spread other (Some held) was = by held.stage was
      where
        by : (stage : Stage) → (other ≡ own → StageKeeps (Waits owes.rest) (policy.wish held.psm) stage) → StageKeeps (WaitsAt own owes.rest other) (policy.wish held.psm) stage
        by (Requested request) was = was
        by (Connected peer setup) was = was
        by (Leaving peer setup request) was = was
        by (Closing peer request checked) was = tt
        by (Crossed peer request) was = tt

    gather : (held : Option Held) → HeldKeeps policy (WaitsAt own owes.rest own) held → HeldKeeps policy (Waits owes.rest) held
    gather held was = held-also policy (WaitsAt own owes.rest own) (Waits owes.rest) (λ wish leaving opened carrier is. is refl) held was

    all : AllKeep policy (WaitsAt own owes.rest) w
    all = keeps owes.rest (record {
      at = λ other. spread other (held_at other v) (λ same. subst (λ k. HeldKeeps policy (Waits owes.rest) (held_at k v)) (sym same) owes.held);
      fresh = λ other psm above same. owes.before (subst (λ k. v.next ≤ k) same above);
      below = below;
    })

-- its channel stays as it is
pub owes-unmoved : (policy : Policy) (own : ℕ) (sent flight : List (List ℕ)) (R : Reach) (v w : Channels) → held_at own w ≡ held_at own v → w.next ≡ v.next → Owes policy own sent flight R v → Owes policy own sent flight R w
owes-unmoved policy own sent flight R v w held_is next_is owes = record {
  done = owes.done;
  rest = owes.rest;
  sent_is = owes.sent_is;
  reached = owes.reached;
  held = subst (HeldKeeps policy (Waits owes.rest)) (sym held_is) owes.held;
  before = λ above. owes.before (omega (arith, next_is, above));
}

-- nothing more is sent, and what comes is as before
pub owes-same : (policy : Policy) (own : ℕ) (sent sent' flight flight' : List (List ℕ)) (R : Reach) (v : Channels) → sent' ≡ sent → flight' ≡ flight → Owes policy own sent flight R v → Owes policy own sent' flight' R v
owes-same policy own sent sent' flight flight' R v is also owes = subst (λ s. Owes policy own s flight' R v) (sym is) (subst (λ f. Owes policy own sent f R v) (sym also) owes)

headed_behind : (endpoint : ℕ) (sdu : List ℕ) → drop 4 (headed endpoint sdu) ≡ sdu
headed_behind endpoint sdu = refl

-- its channel goes on with another setup, with the rest that waits now
placed : (policy : Policy) (own : ℕ) (sent flight : List (List ℕ)) (R : Reach) (v : Channels) (held : Held) (setup after : Setup) (done rest : List (List ℕ)) → IsBelow v → held.own ≡ own → find (has_own held.own) v.held ≡ Some held → setup_of held.stage ≡ Some setup
    → sent ≡ done ++ (flight ++ rest) → R done flight → Waits rest (policy.wish held.psm) (leaving_of held.stage) (is_open after) after.carrier → Owes policy own sent flight R (to_setup held after v)
placed policy own sent flight R v held setup after done rest below mine found has is reached waits = record {
  done = done;
  rest = rest;
  sent_is = is;
  reached = reached;
  held = subst (HeldKeeps policy (Waits rest)) (sym (ap (λ n. find (has_own n) (to_setup held after v).held) (sym mine) ∙ with-found v held after found)) (keeps-on (Waits rest) (policy.wish held.psm) held.stage setup after has waits);
  before = λ above. let none : held_at held.own v ≡ None = below held.own (subst (λ n. v.next ≤ n) (sym mine) above) in let never : None ≡ Some held = sym none ∙ found in absurd cc;
}

-- what it owes of a channel that is there
owed : (policy : Policy) (own : ℕ) (sent flight : List (List ℕ)) (R : Reach) (v : Channels) (held : Held) (setup : Setup) (owes : Owes policy own sent flight R v) → held.own ≡ own → find (has_own held.own) v.held ≡ Some held → setup_of held.stage ≡ Some setup
    → Waits owes.rest (policy.wish held.psm) (leaving_of held.stage) (is_open setup) setup.carrier
owed policy own sent flight R v held setup owes mine found has =
    kept-on (Waits owes.rest) (policy.wish held.psm) held.stage setup has (subst (HeldKeeps policy (Waits owes.rest)) (ap (λ n. find (has_own n) v.held) (sym mine) ∙ found) owes.held)

open_on : {X : Type 0} (own : Own) → is_granted own ≡ true → is_granted own ≡ false → X
open_on own now shut = let never : true ≡ false = sym now ∙ shut in absurd cc

granted_of : (setup : Setup) → is_open setup ≡ true → is_granted setup.own ≡ true
granted_of setup opened = and-right (is_some setup.carrier) (is_granted setup.own) opened

-- where an SDU goes that it says
goes_out : (policy : Policy) (past : List Saying) (v : Channels) (held : Held) (setup : Setup) (carrier : Carrier) → Sound policy (reading past) v → find (has_own held.own) v.held ≡ Some held → setup_of held.stage ≡ Some setup → setup.carrier ≡ Some carrier → is_open setup ≡ true → (r : IsRead policy past held.own held setup) → GoesOut past held.own r.peer
goes_out policy past v held setup carrier sound found has is opened r = record {
  entry = r.entry;
  found = r.found;
  peer_is = r.here;
  holds = ap (λ b. b && is_there r.entry.life) (set-is policy past held.own held setup r carrier is (open-stated setup opened)) ∙ r.there;
  only = λ other x found_x there to. sound.core.apart other held.own x r.entry found_x r.found there r.there (to ∙ sym r.here);
}

-- an SDU is taken
taken_setup : (policy : Policy) (channel : Channel) (past : List Saying) (flight : List (List ℕ)) (R : Reach) (v : Channels) (held : Held) (setup : Setup) (sdu : List ℕ) (carrier : Option Carrier) → Sound policy (reading past) v → IsBasic channel.own v
    → held.own ≡ channel.own → find (has_own held.own) v.held ≡ Some held → setup_of held.stage ≡ Some setup → is_open setup ≡ true → setup.carrier ≡ carrier → peer_at (Some held) < 65536 → Owes policy channel.own (sent_on channel past) flight R v
    → (let after : Setup = record setup { carrier = option_map (λ c. carrier_with c sdu) carrier } in Owes policy channel.own (sent_on channel (past ++ said_by_carrier carrier (peer_at (Some held)) sdu)) flight R (to_setup held after v))
taken_setup policy channel past flight R v held setup sdu None sound basic mine found has opened is fits owes =
    let never : false ≡ true = sym (ap (λ (c : Option Carrier). is_some c && is_granted setup.own) is) ∙ opened in absurd cc
taken_setup policy channel past flight R v held setup sdu (Some (Retransmitting machine)) sound basic mine found has opened is fits owes =
    let never : Enhanced ≡ Basic = basic held setup (Retransmitting machine) (ap (λ n. find (has_own n) v.held) (sym mine) ∙ found) has is in absurd cc
taken_setup policy channel past flight R v held setup sdu (Some (Plain agreed (Some waiting))) sound basic mine found has opened is fits owes =
    let waits = subst (Waits owes.rest (policy.wish held.psm) (leaving_of held.stage) (is_open setup)) is (owed policy channel.own (sent_on channel past) flight R v held setup owes mine found has) in
    let after : Setup = record setup { carrier = Some (Plain agreed (Some waiting)) } in
    subst (λ s. Owes policy channel.own s flight R (to_setup held after v)) (sym (ap (sent_on channel) (append-nil past)))
    (placed policy channel.own (sent_on channel past) flight R v held setup after owes.done owes.rest sound.core.held_below mine found has owes.sent_is owes.reached (waits.0, λ shut. open_on setup.own (granted_of setup opened) shut))
taken_setup policy channel past flight R v held setup sdu (Some (Plain agreed None)) sound basic mine found has opened is fits owes =
    let waits = subst (Waits owes.rest (policy.wish held.psm) (leaving_of held.stage) (is_open setup)) is (owed policy channel.own (sent_on channel past) flight R v held setup owes mine found has) in
    let r : IsRead policy past held.own held setup = is-read policy past v held.own held setup found has sound in
    let peer_is : peer_at (Some held) ≡ r.peer = ap (λ p. unwrap_or p 0) r.peer_is in
    let pdu : List ℕ = headed (peer_at (Some held)) sdu in
    let goes : GoesOut past channel.own r.peer = subst (λ n. GoesOut past n r.peer) mine (goes_out policy past v held setup (Plain agreed None) sound found has is opened r) in
    let more : sent_on channel (past ++ Carried Out pdu ∷ []) ≡ sent_on channel past ++ sdu ∷ [] =
    sent-more channel past (Carried Out pdu)
    ∙ ap (λ cs. sent_on channel past ++ map (drop 4) (pdus_of Out cs)) (carried-own channel past r.peer pdu goes (le16-number (peer_at (Some held)) sdu fits ∙ peer_is)) in
    placed policy channel.own (sent_on channel (past ++ Carried Out pdu ∷ [])) flight R v held setup (record setup { carrier = Some (Plain agreed (Some sdu)) }) owes.done (sdu ∷ []) sound.core.held_below mine found has
    (more ∙ (ap (λ s. s ++ sdu ∷ []) (owes.sent_is ∙ (ap (λ w. owes.done ++ (flight ++ w)) waits.0 ∙ ap (λ f. owes.done ++ f) (append-nil flight))) ∙ append_assoc owes.done flight (sdu ∷ [])))
    owes.reached (refl, λ shut. open_on setup.own (granted_of setup opened) shut)

pub sends-here : (policy : Policy) (channel : Channel) (past : List Saying) (flight : List (List ℕ)) (R : Reach) (v : Channels) (sdu : List ℕ) → Sound policy (reading past) v → IsBasic channel.own v → peer_at (held_at channel.own v) < 65536 → Owes policy channel.own (sent_on channel past) flight R v
    → Owes policy channel.own (sent_on channel (past ++ said_by_carrier (carrier_at channel.own v) (peer_at (held_at channel.own v)) sdu)) flight R (sends channel.own sdu v)
sends-here policy channel past flight R v sdu sound basic fits owes = of (held_at channel.own v) refl fits
  where
    silent : (w : Channels) → Owes policy channel.own (sent_on channel past) flight R w → Owes policy channel.own (sent_on channel (past ++ [])) flight R w
    silent w h = subst (λ s. Owes policy channel.own s flight R w) (sym (ap (sent_on channel) (append-nil past))) h

    opens : (held : Held) (setup : Setup) (opened : Bool) → is_open setup ≡ opened → held.own ≡ channel.own → find (has_own held.own) v.held ≡ Some held → setup_of held.stage ≡ Some setup → peer_at (Some held) < 65536
        → (let sent : Setup = record setup { carrier = option_map (λ c. carrier_with c sdu) setup.carrier } in Owes policy channel.own (sent_on channel (past ++ said_by_carrier (carrier_if opened setup) (peer_at (Some held)) sdu)) flight R (to_setup held (cond opened sent setup) v))
    opens held setup true opened mine found has fits = taken_setup policy channel past flight R v held setup sdu setup.carrier sound basic mine found has opened refl fits owes
    opens held setup false opened mine found has fits =
        silent (to_setup held setup v)
        (placed policy channel.own (sent_on channel past) flight R v held setup setup owes.done owes.rest sound.core.held_below mine found has owes.sent_is owes.reached (owed policy channel.own (sent_on channel past) flight R v held setup owes mine found has))

    on : (held : Held) (setup : Option Setup) → held.own ≡ channel.own → find (has_own held.own) v.held ≡ Some held → setup_of held.stage ≡ setup → peer_at (Some held) < 65536
        → Owes policy channel.own (sent_on channel (past ++ said_by_carrier (open_carrier setup) (peer_at (Some held)) sdu)) flight R (sends_on setup sdu held v)
    on held None mine found has fits = silent v owes
    on held (Some setup) mine found has fits = opens held setup (is_open setup) refl mine found has fits

    of : (held : Option Held) → held_at channel.own v ≡ held → peer_at held < 65536 → Owes policy channel.own (sent_on channel (past ++ said_by_carrier (open_carrier (setup_on held)) (peer_at held) sdu)) flight R (sends_held held sdu v)
    of None found fits = silent v owes
    of (Some held) found fits = on held (setup_of held.stage) (found-has own_of channel.own v.held held found) (found-own channel.own v held found) refl fits

-- on another channel it is for another endpoint
pub sends-there : (policy : Policy) (channel : Channel) (past : List Saying) (v : Channels) (own : ℕ) (sdu : List ℕ) → Sound policy (reading past) v → IsSole channel.own channel.peer v → eqb own channel.own ≡ false → peer_at (held_at own v) < 65536
    → sent_on channel (past ++ said_by_carrier (carrier_at own v) (peer_at (held_at own v)) sdu) ≡ sent_on channel past
sends-there policy channel past v own sdu sound sole away fits = of (held_at own v) refl fits
  where
    silent : sent_on channel (past ++ []) ≡ sent_on channel past
    silent = ap (sent_on channel) (append-nil past)

    carries : (held : Held) (setup : Setup) (carrier : Option Carrier) → held.own ≡ own → find (has_own held.own) v.held ≡ Some held → setup_of held.stage ≡ Some setup → setup.carrier ≡ carrier → peer_at (Some held) < 65536
        → sent_on channel (past ++ said_by_carrier carrier (peer_at (Some held)) sdu) ≡ sent_on channel past
    carries held setup None mine found has is fits = silent
    carries held setup (Some (Retransmitting machine)) mine found has is fits = silent
    carries held setup (Some (Plain agreed (Some waiting))) mine found has is fits = silent
    carries held setup (Some (Plain agreed None)) mine found has is fits =
        let apart : eqb (peer_at (Some held)) channel.peer ≡ false = peers-apart channel.own channel.peer v held setup (Plain agreed None) (peer_at (Some held)) sole found has is (peered held held.stage setup refl has) (ap (λ n. eqb n channel.own) mine ∙ away) in
        sent-elsewhere channel past _ (carried-elsewhere policy channel past v (headed (peer_at (Some held)) sdu) sound sole (ap (eqb channel.peer) (le16-number (peer_at (Some held)) sdu fits) ∙ flipped (peer_at (Some held)) channel.peer apart))

    opens : (held : Held) (setup : Setup) (opened : Bool) → held.own ≡ own → find (has_own held.own) v.held ≡ Some held → setup_of held.stage ≡ Some setup → peer_at (Some held) < 65536 → sent_on channel (past ++ said_by_carrier (carrier_if opened setup) (peer_at (Some held)) sdu) ≡ sent_on channel past
    opens held setup true mine found has fits = carries held setup setup.carrier mine found has refl fits
    opens held setup false mine found has fits = silent

    on : (held : Held) (setup : Option Setup) → held.own ≡ own → find (has_own held.own) v.held ≡ Some held → setup_of held.stage ≡ setup → peer_at (Some held) < 65536 → sent_on channel (past ++ said_by_carrier (open_carrier setup) (peer_at (Some held)) sdu) ≡ sent_on channel past
    on held None mine found has fits = silent
    on held (Some setup) mine found has fits = opens held setup (is_open setup) mine found has fits

    of : (held : Option Held) → held_at own v ≡ held → peer_at held < 65536 → sent_on channel (past ++ said_by_carrier (open_carrier (setup_on held)) (peer_at held) sdu) ≡ sent_on channel past
    of None found fits = silent
    of (Some held) found fits = on held (setup_of held.stage) (found-has own_of own v.held held found) (found-own own v held found) refl fits

-- ---- a PDU is given

flight_else : (own : ℕ) (coming : List (List ℕ)) (pdu : List ℕ) → eqb (channel_of pdu) own ≡ false → Flight own (coming ++ pdu ∷ []) ≡ Flight own coming
flight_else own coming pdu away = ap (map (drop 4)) (under-else own coming pdu away)

flight_here : (own : ℕ) (coming : List (List ℕ)) (pdu : List ℕ) → eqb (channel_of pdu) own ≡ true → Flight own (coming ++ pdu ∷ []) ≡ Flight own coming ++ drop 4 pdu ∷ []
flight_here own coming pdu here = ap (map (drop 4)) (under-here own coming pdu here) ∙ map-append (drop 4) (under_way own coming) (pdu ∷ [])

pub record Standing (policy : Policy) (channel : Channel) (past : List Saying) (coming : List (List ℕ)) (R : Reach) (v : Channels) (pdu : List ℕ) : Type 0 where
  pub high : 0x0040 ≤ channel.peer
  pub sound : Sound policy (reading past) v
  pub sole : IsSole channel.own channel.peer v
  pub basic : IsBasic channel.own v
  pub grows : Grows R
  pub owes : Owes policy channel.own (sent_on channel past) (Flight channel.peer coming) R v

abbrev Given_on : Policy → Channel → List Saying → (coming : List (List ℕ)) → (R : Reach) → List ℕ → Option Given → Channels → Type 0
Given_on policy channel past coming R pdu given w = Owes policy channel.own (sent_on channel (past ++ said_as given pdu)) (Flight channel.peer (coming ++ pdu ∷ [])) R w

-- something is given that is for another endpoint
given_else : (policy : Policy) (channel : Channel) (past : List Saying) (coming : List (List ℕ)) (R : Reach) (w : Channels) (pdu : List ℕ) (given : Option Given) → eqb (channel_of pdu) channel.peer ≡ false → sent_on channel (past ++ said_as given pdu) ≡ sent_on channel past
    → Owes policy channel.own (sent_on channel past) (Flight channel.peer coming) R w → Given_on policy channel past coming R pdu given w
given_else policy channel past coming R w pdu given away silent owes = owes-same policy channel.own (sent_on channel past) _ (Flight channel.peer coming) _ R w silent (flight_else channel.peer coming pdu away) owes

no_words : (channel : Channel) (past : List Saying) → sent_on channel (past ++ []) ≡ sent_on channel past
no_words channel past = ap (sent_on channel) (append-nil past)

spent_here : (policy : Policy) (channel : Channel) (past : List Saying) (coming : List (List ℕ)) (R : Reach) (v : Channels) (pdu : List ℕ) (held : Held) (setup : Setup) (agreed : Agreed) (sdu : List ℕ) (peer : ℕ) → Standing policy channel past coming R v pdu → held.own ≡ channel.own
    → find (has_own held.own) v.held ≡ Some held → setup_of held.stage ≡ Some setup → setup.carrier ≡ Some (Plain agreed (Some sdu)) → peer ≡ channel.peer → pdu ≡ headed peer sdu → channel_of pdu ≡ peer
    → (let after : Setup = record setup { carrier = Some (Plain agreed None) } in Given_on policy channel past coming R pdu (Some (Whole peer sdu)) (to_setup held after v))
spent_here policy channel past coming R v pdu held setup agreed sdu peer g mine found has is peer_is spelled to =
    let waits = subst (Waits g.owes.rest (policy.wish held.psm) (leaving_of held.stage) (is_open setup)) is (owed policy channel.own (sent_on channel past) (Flight channel.peer coming) R v held setup g.owes mine found has) in
    let flight : Flight channel.peer (coming ++ pdu ∷ []) ≡ Flight channel.peer coming ++ sdu ∷ [] =
    flight_here channel.peer coming pdu (ap (λ n. eqb n channel.peer) (to ∙ peer_is) ∙ eqb-same channel.peer) ∙ ap (λ p. Flight channel.peer coming ++ p ∷ []) (ap (drop 4) spelled ∙ headed_behind peer sdu) in
    owes-same policy channel.own (sent_on channel past) _ (Flight channel.peer coming ++ sdu ∷ []) _ R _ (no_words channel past) flight
    (placed policy channel.own (sent_on channel past) (Flight channel.peer coming ++ sdu ∷ []) R v held setup (record setup { carrier = Some (Plain agreed None) }) g.owes.done [] g.sound.core.held_below mine found has
    (g.owes.sent_is ∙ (ap (λ w. g.owes.done ++ (Flight channel.peer coming ++ w)) waits.0 ∙ ap (λ f. g.owes.done ++ f) (sym (append-nil (Flight channel.peer coming ++ sdu ∷ [])))))
    (g.grows g.owes.done (Flight channel.peer coming) (sdu ∷ []) g.owes.reached) (refl, λ shut. refl))

spent_else : (policy : Policy) (channel : Channel) (past : List Saying) (coming : List (List ℕ)) (R : Reach) (v : Channels) (pdu : List ℕ) (held : Held) (setup : Setup) (given : Given) → Standing policy channel past coming R v pdu → eqb held.own channel.own ≡ false → eqb (channel_of pdu) channel.peer ≡ false
    → sent_on channel (past ++ said_as (Some given) pdu) ≡ sent_on channel past → Given_on policy channel past coming R pdu (Some given) (carrier_spent (Some setup) held v)
spent_else policy channel past coming R v pdu held setup given g away apart silent =
    given_else policy channel past coming R (carrier_spent (Some setup) held v) pdu (Some given) apart silent (owes-unmoved policy channel.own (sent_on channel past) (Flight channel.peer coming) R v (carrier_spent (Some setup) held v) (find-placed _ v.held channel.own away) refl g.owes)

spent : (policy : Policy) (channel : Channel) (past : List Saying) (coming : List (List ℕ)) (R : Reach) (v : Channels) (pdu : List ℕ) (held : Held) (setup : Setup) (carrier : Option Carrier) → Standing policy channel past coming R v pdu → find (has_own held.own) v.held ≡ Some held → setup_of held.stage ≡ Some setup
    → setup.carrier ≡ carrier → (r : IsRead policy past held.own held setup) → (given : Given) → some_carrier_gives carrier r.peer ≡ Some given → IsSpelled (Some given) pdu → IsAddressed (Some given) pdu
    → (let after : Setup = record setup { carrier = option_map carrier_given carrier } in Given_on policy channel past coming R pdu (Some given) (to_setup held after v))
spent policy channel past coming R v pdu held setup None g found has is r given gives spelled addressed = cc
spent policy channel past coming R v pdu held setup (Some (Plain agreed None)) g found has is r given gives spelled addressed = cc
spent policy channel past coming R v pdu held setup (Some (Plain agreed (Some sdu))) g found has is r given gives spelled addressed =
    let whole : Whole r.peer sdu ≡ given = cc in
    subst (λ x. Given_on policy channel past coming R pdu (Some x) (to_setup held after v)) whole (by (eqb held.own channel.own) refl (subst (λ x. IsSpelled (Some x) pdu) (sym whole) spelled) (subst (λ x. IsAddressed (Some x) pdu) (sym whole) addressed))
  where
    after : Setup
    after = record setup { carrier = Some (Plain agreed None) }

    by : (here : Bool) → eqb held.own channel.own ≡ here → IsSpelled (Some (Whole r.peer sdu)) pdu → channel_of pdu ≡ r.peer → Given_on policy channel past coming R pdu (Some (Whole r.peer sdu)) (to_setup held after v)
    by true here spells to =
        let mine : held.own ≡ channel.own = eqb-true held.own channel.own here in
        spent_here policy channel past coming R v pdu held setup agreed sdu r.peer g mine found has is (g.sole.for held r.peer (ap (λ n. find (has_own n) v.held) (sym mine) ∙ found) r.peer_is) spells.0 to
    by false away spells to =
        given_else policy channel past coming R (to_setup held after v) pdu (Some (Whole r.peer sdu)) (ap (λ n. eqb n channel.peer) to ∙ peers-apart channel.own channel.peer v held setup (Plain agreed (Some sdu)) r.peer g.sole found has is r.peer_is away) (no_words channel past)
        (owes-unmoved policy channel.own (sent_on channel past) (Flight channel.peer coming) R v (to_setup held after v) (find-placed _ v.held channel.own away) refl g.owes)
spent policy channel past coming R v pdu held setup (Some (Retransmitting machine)) g found has is r given gives spelled addressed = by (next_frame machine) gives
  where
    after : Setup
    after = record setup { carrier = option_map carrier_given (Some (Retransmitting machine)) }

    away : (b : Bool) → eqb held.own channel.own ≡ b → eqb held.own channel.own ≡ false
    away false is_b = is_b
    away true is_b = let never : Enhanced ≡ Basic = g.basic held setup (Retransmitting machine) (ap (λ n. find (has_own n) v.held) (sym (eqb-true held.own channel.own is_b)) ∙ found) has is in absurd cc

    by : (frame : Option PlainFrame) → option_map (Framed r.peer) frame ≡ Some given → Given_on policy channel past coming R pdu (Some given) (to_setup held after v)
    by None gives = cc
    by (Some frame) gives =
        let framed : Framed r.peer frame ≡ given = cc in
        let (spells, octets) = subst (λ x. IsSpelled (Some x) pdu) (sym framed) spelled in
        let to : channel_of pdu ≡ r.peer = (spelled-frame r.peer frame pdu spells octets).1 in
        let apart : eqb (channel_of pdu) channel.peer ≡ false = ap (λ n. eqb n channel.peer) to ∙ peers-apart channel.own channel.peer v held setup (Retransmitting machine) r.peer g.sole found has is r.peer_is (away (eqb held.own channel.own) refl) in
        subst (λ x. Given_on policy channel past coming R pdu (Some x) (to_setup held after v)) framed
        (given_else policy channel past coming R (to_setup held after v) pdu (Some (Framed r.peer frame)) apart (sent-elsewhere channel past (Carried Out pdu) (carried-elsewhere policy channel past v pdu g.sound g.sole (flipped (channel_of pdu) channel.peer apart)))
        (owes-unmoved policy channel.own (sent_on channel past) (Flight channel.peer coming) R v (to_setup held after v) (find-placed _ v.held channel.own (away (eqb held.own channel.own) refl)) refl g.owes))

gives_held : (policy : Policy) (channel : Channel) (past : List Saying) (coming : List (List ℕ)) (R : Reach) (v : Channels) (pdu : List ℕ) (held : Option Held) → Standing policy channel past coming R v pdu → find gives v.held ≡ held → (given : Given) → held_gives held ≡ Some given → IsSpelled (Some given) pdu → IsAddressed (Some given) pdu
    → Given_on policy channel past coming R pdu (Some given) (held_given held v)
gives_held policy channel past coming R v pdu None g is given giving spelled addressed = cc
gives_held policy channel past coming R v pdu (Some held) g is given giving spelled addressed = by (setup_of held.stage) refl
  where
    found : find (has_own held.own) v.held ≡ Some held
    found = found-distinct own_of gives v.held held g.sound.core.lone is

    by : (setup : Option Setup) → setup_of held.stage ≡ setup → Given_on policy channel past coming R pdu (Some given) (carrier_spent setup held v)
    by None has = let never : None ≡ Some given = sym (gives-none held.stage has) ∙ giving in absurd cc
    by (Some setup) has =
        let r : IsRead policy past held.own held setup = is-read policy past v held.own held setup found has g.sound in
        spent policy channel past coming R v pdu held setup setup.carrier g found has refl r given (sym (gives-by held.stage setup r.peer has r.peer_is) ∙ giving) spelled addressed

pub gives-owed : (policy : Policy) (channel : Channel) (past : List Saying) (coming : List (List ℕ)) (R : Reach) (v : Channels) (pdu : List ℕ) (queue : List Queued) → Standing policy channel past coming R v pdu → (given : Given) → queue_gives queue v ≡ Some given → IsSpelled (Some given) pdu → IsAddressed (Some given) pdu
    → Given_on policy channel past coming R pdu (Some given) (queue_given queue v)
gives-owed policy channel past coming R v pdu [] g given giving spelled addressed = gives_held policy channel past coming R v pdu (find gives v.held) g refl given giving spelled addressed
gives-owed policy channel past coming R v pdu (Answer command ∷ behind) g given giving spelled addressed =
    let one : Signal command ≡ given = cc in
    let w : Channels = queue_given (Answer command ∷ behind) v in
    let spells = subst (λ x. IsSpelled (Some x) pdu) (sym one) spelled in
    subst (λ x. Given_on policy channel past coming R pdu (Some x) w) one
    (given_else policy channel past coming R w pdu (Some (Signal command)) (ap (λ n. eqb n channel.peer) (ap channel_of spells.0 ∙ le16-number 0x0001 (spelling command) (omega arith)) ∙ low-apart channel.peer g.high) (no_words channel past)
    (owes-unmoved policy channel.own (sent_on channel past) (Flight channel.peer coming) R v w refl refl g.owes))
gives-owed policy channel past coming R v pdu (Ask errand ∷ behind) g given giving spelled addressed = by (command_of errand v) giving
  where
    u : Channels
    u = record v { queue = behind }

    counts : Owes policy channel.own (sent_on channel past) (Flight channel.peer coming) R (counted errand u)
    counts =
        let (kept, next_is) = counted-held policy (Waits g.owes.rest) channel.own u errand g.owes.held in
        record { done = g.owes.done; rest = g.owes.rest; sent_is = g.owes.sent_is; reached = g.owes.reached; held = kept; before = λ above. g.owes.before (omega (arith, next_is, above)) }

    by : (found : Option Command) → option_map Signal found ≡ Some given → Given_on policy channel past coming R pdu (Some given) (counted errand u)
    by None is = cc
    by (Some command) is =
        let one : Signal command ≡ given = cc in
        let spells = subst (λ x. IsSpelled (Some x) pdu) (sym one) spelled in
        subst (λ x. Given_on policy channel past coming R pdu (Some x) (counted errand u)) one
        (given_else policy channel past coming R (counted errand u) pdu (Some (Signal command)) (ap (λ n. eqb n channel.peer) (ap channel_of spells.0 ∙ le16-number 0x0001 (spelling command) (omega arith)) ∙ low-apart channel.peer g.high) (no_words channel past) counts)
