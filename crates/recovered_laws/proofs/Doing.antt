-- What becomes of one channel of a host when a PDU comes in for it, an SDU is sent on it, and it gives what it has.
use Rattle.std.proofs.Common.{◌≡◌, ℕ, ◌≤◌, List, length, Bool, true, false, cond, ◌&&◌, Option, Some, None, refl, sym, ap, subst, ◌∙◌, arith}
use Rattle.std.specs.Prelude.{find, option_map, is_some}
use Rattle.channel_laws.specs.l2cap_config.specs.declared.wish.Agreed.{Agreed}
use Rattle.channel_laws.specs.l2cap_config.specs.declared.wish.Wish.{Wish}
use Rattle.channel_laws.specs.ertm_frames.specs.Frames.{PlainFrame}
use Rattle.channel_laws.specs.ertm_model.specs.declared.reason.ErtmReason.{ErtmReason}
use Rattle.channel_laws.specs.ertm_model.specs.Value.{Ertm}
use Rattle.channel_laws.specs.ertm_model.specs.Submitting.{submitted}
use Rattle.channel_laws.specs.ertm_model.specs.Giving.{next_frame, after_frame}
use Rattle.channel_laws.specs.channel_model.specs.Value.{Carrier, Plain, Retransmitting, Setup, Stage, Requested, Connected, Leaving, Closing, Crossed, Held, Channels}
use Rattle.channel_laws.specs.channel_model.specs.Policies.{Policy}
use Rattle.channel_laws.specs.channel_model.specs.Changing.{has_own, held_at, is_granted, is_open, setup_of, with_setup, to_setup, has_fcs_by}
use Rattle.channel_laws.specs.channel_model.specs.Asking.{new_request}
use Rattle.channel_laws.specs.channel_model.specs.Closing.{closes_at}
use Rattle.channel_laws.specs.channel_model.specs.Configuring.{granted_setup}
use Rattle.channel_laws.specs.channel_model.specs.Carrying.{reason_of, settles_machine, read_by, machine_heard, is_taken_with, takes_on, takes_held, takes}
use Rattle.channel_laws.specs.channel_model.specs.Giving.{carrier_given, carrier_spent}
use Rattle.channel_laws.specs.channel_model.specs.Calls.{carrier_with, sends_on, sends_held, sends}
use Rattle.channel_laws.specs.channel_model.proofs.Lookups.{own_of, found-has, found-placed}
use Rattle.channel_laws.specs.channel_model.proofs.Going.{staged}
use Rattle.channel_laws.specs.channel_model.proofs.Walking.{found-own, with-setup, with-found}
use Rattle.channel_laws.proofs.Both.{and-right}
use Rattle.channel_laws.proofs.HandedUp.{heard-agreed}
use Rattle.channel_laws.proofs.Joining.{IsBelow}
use Rattle.channel_laws.proofs.Keeping.{StageKeeps, HeldKeeps}
use Rattle.channel_laws.proofs.Partaking.{Agrees, IsShort, SendsShort, kept-on, keeps-on}
use Rattle.channel_laws.proofs.Taking.{Opens, takes-cases}
use Rattle.recovered_laws.proofs.Twins.{OfEnd, On, Here, here-also}

-- ---- a channel goes on with another setup

pub placed : (policy : Policy) (R : OfEnd) (v : Channels) (held : Held) (setup after : Setup) → IsBelow v → find (has_own held.own) v.held ≡ Some held → setup_of held.stage ≡ Some setup → R (is_open after) after.carrier → Here policy held.own R (to_setup held after v)
placed policy R v held setup after below found has so = record {
  held = subst (HeldKeeps policy (On R)) (sym (with-found v held after found)) (keeps-on (On R) (policy.wish held.psm) held.stage setup after has so);
  before = λ above. let none : held_at held.own v ≡ None = below held.own above in let never : None ≡ Some held = sym none ∙ found in absurd cc;
}

pub here-on : (policy : Policy) (Q : OfEnd) (v : Channels) (held : Held) (setup : Setup) → find (has_own held.own) v.held ≡ Some held → setup_of held.stage ≡ Some setup → Here policy held.own Q v → Q (is_open setup) setup.carrier
here-on policy Q v held setup found has h = kept-on (On Q) (policy.wish held.psm) held.stage setup has (subst (HeldKeeps policy (On Q)) found h.held)

-- ---- a PDU comes in for it

-- its machine hears it
abbrev pub HearsSo : Agreed → List ℕ → (Q R : OfEnd) → Type 0
HearsSo agreed pdu Q R = (opened : Bool) (machine : Ertm) → machine.agreed ≡ agreed → (let after : Ertm = machine_heard (read_by machine pdu) machine in after.closed ≡ None → Q opened (Some (Retransmitting machine)) → R true (Some (Retransmitting after)))

-- or it is not taken
pub record MaySkip (own : ℕ) (pdu : List ℕ) (Q R : OfEnd) (v : Channels) : Type 0 where
  pub none : (opened : Bool) → Q opened None → R opened None
  pub ignored : (held : Held) (setup : Setup) (carrier : Carrier) → held_at own v ≡ Some held → setup_of held.stage ≡ Some setup → setup.carrier ≡ Some carrier → is_taken_with setup.own carrier pdu ≡ false → (opened : Bool) → Q opened (Some carrier) → R opened (Some carrier)

pub same_stage : (R : OfEnd) (wish : Wish) (stage : Stage) (setup : Setup) → setup_of stage ≡ Some setup → R (is_open setup) setup.carrier → StageKeeps (On R) wish stage
same_stage R wish (Requested request) setup has so = cc
same_stage R wish (Connected peer s) setup has so = let same : s ≡ setup = cc in subst (λ (x : Setup). R (is_open x) x.carrier) (sym same) so
same_stage R wish (Leaving peer s request) setup has so = let same : s ≡ setup = cc in subst (λ (x : Setup). R (is_open x) x.carrier) (sym same) so
same_stage R wish (Closing peer request checked) setup has so = tt
same_stage R wish (Crossed peer request) setup has so = tt

-- what has no options so far, or is over
pub bare_stage : (Q R : OfEnd) (wish : Wish) (stage : Stage) → setup_of stage ≡ None → (Q false None → R false None) → StageKeeps (On Q) wish stage → StageKeeps (On R) wish stage
bare_stage Q R wish (Requested request) none also was = also was
bare_stage Q R wish (Connected peer setup) none also was = cc
bare_stage Q R wish (Leaving peer setup request) none also was = cc
bare_stage Q R wish (Closing peer request checked) none also was = tt
bare_stage Q R wish (Crossed peer request) none also was = tt

-- a channel that its machine closes is closed
pub closed_here : (policy : Policy) (R : OfEnd) (u : Channels) (held : Held) (reason : _) (stage : Stage) (setup : Setup) → find (has_own held.own) u.held ≡ Some held → setup_of stage ≡ Some setup
    → HeldKeeps policy (On R) (find (has_own held.own) (closes_at stage reason held u).held) × ((closes_at stage reason held u).next ≡ u.next)
closed_here policy R u held reason (Requested request) setup found has = cc
closed_here policy R u held reason (Connected peer s) setup found has = (subst (HeldKeeps policy (On R)) (sym (found-placed (staged held (Closing peer (new_request u) (has_fcs_by s))) held u.held found)) tt, refl)
closed_here policy R u held reason (Leaving peer s request) setup found has = (subst (HeldKeeps policy (On R)) (sym (found-placed (staged held (Closing peer request (has_fcs_by s))) held u.held found)) tt, refl)
closed_here policy R u held reason (Closing peer request checked) setup found has = cc
closed_here policy R u held reason (Crossed peer request) setup found has = cc

pub machine_hears : (policy : Policy) (agreed : Agreed) (Q R : OfEnd) (v u : Channels) (pdu : List ℕ) (held : Held) (setup : Setup) (machine : Ertm) (closed : Option ErtmReason) → IsBelow v → find (has_own held.own) v.held ≡ Some held → setup_of held.stage ≡ Some setup
    → HearsSo agreed pdu Q R → setup.carrier ≡ Some (Retransmitting machine) → Opens v u held setup → (machine_heard (read_by machine pdu) machine).closed ≡ closed
    → (let after : Ertm = machine_heard (read_by machine pdu) machine in let z : Channels = settles_machine closed after (with_setup held (granted_setup setup)) (granted_setup setup) u in Agrees agreed held.own z → Here policy held.own Q v → Here policy held.own R z)
machine_hears policy agreed Q R v u pdu held setup machine (Some reason) below found has hears is opens shut agrees h =
    let base : Setup = granted_setup setup in
    let at_base : Held = with_setup held base in
    let (keeps, next_is) = closed_here policy R u at_base (reason_of reason) at_base.stage base opens.here (with-setup held.stage setup base has) in
    record {
      held = keeps;
      before = λ above. let none : held_at held.own v ≡ None = below held.own (let same = opens.next_is in omega (arith, above, next_is, same)) in let never : None ≡ Some held = sym none ∙ found in absurd cc;
    }
machine_hears policy agreed Q R v u pdu held setup machine None below found has hears is opens open' agrees h =
    let base : Setup = granted_setup setup in
    let after : Ertm = machine_heard (read_by machine pdu) machine in
    let last : Setup = record base { carrier = Some (Retransmitting after) } in
    let at_base : Held = with_setup held base in
    let z : Channels = to_setup at_base last u in
    let here : find (has_own held.own) z.held ≡ Some (with_setup at_base last) = with-found u at_base last opens.here in
    let has_base : setup_of at_base.stage ≡ Some base = with-setup held.stage setup base has in
    let alike : machine.agreed ≡ agreed = sym (heard-agreed (read_by machine pdu) machine) ∙ agrees (with_setup at_base last) last (Retransmitting after) here (with-setup at_base.stage base last has_base) refl refl in
    let so : R true (Some (Retransmitting after)) = hears (is_open setup) machine alike open' (subst (Q (is_open setup)) is (here-on policy Q v held setup found has h)) in
    record {
      held = subst (HeldKeeps policy (On R)) (sym here) (keeps-on (On R) (policy.wish held.psm) at_base.stage base last has_base so);
      before = λ above. let none : held_at held.own v ≡ None = below held.own (let same_next = opens.next_is in omega (arith, above, same_next)) in let never : None ≡ Some held = sym none ∙ found in absurd cc;
    }

pub takes_by : (policy : Policy) (agreed : Agreed) (Q R : OfEnd) (v : Channels) (pdu : List ℕ) (held : Held) (setup : Option Setup) → IsBelow v → find (has_own held.own) v.held ≡ Some held → setup_of held.stage ≡ setup → HearsSo agreed pdu Q R → MaySkip held.own pdu Q R v
    → Agrees agreed held.own v → Agrees agreed held.own (takes_on setup pdu held v) → Here policy held.own Q v → Here policy held.own R (takes_on setup pdu held v)
takes_by policy agreed Q R v pdu held None below found has hears skip was agrees h = record {
  held = subst (HeldKeeps policy (On R)) (sym found) (bare_stage Q R (policy.wish held.psm) held.stage has (skip.none false) (subst (HeldKeeps policy (On Q)) found h.held));
  before = λ above. skip.none false (h.before above);
}
takes_by policy agreed Q R v pdu held (Some setup) below found has hears skip was agrees h =
    takes-cases (λ z. Agrees agreed held.own z → Here policy held.own R z) v pdu held setup (record {
      none = λ is so. same (subst (R (is_open setup)) (sym is) (skip.none (is_open setup) (subst (Q (is_open setup)) is had)));
      ignored = λ carrier is not so. same (subst (R (is_open setup)) (sym is) (skip.ignored held setup carrier found has is not (is_open setup) (subst (Q (is_open setup)) is had)));
      whole = λ u a waiting is its opens so. absurd (was held setup (Plain a waiting) found has is);
      framed = λ u machine is its opens so. machine_hears policy agreed Q R v u pdu held setup machine (machine_heard (read_by machine pdu) machine).closed below found has hears is opens refl so h;
    }) found has agrees
  where
    had : Q (is_open setup) setup.carrier
    had = here-on policy Q v held setup found has h

    same : R (is_open setup) setup.carrier → Here policy held.own R v
    same so = record { held = subst (HeldKeeps policy (On R)) (sym found) (same_stage R (policy.wish held.psm) held.stage setup has so); before = λ above. skip.none false (h.before above) }

pub here-takes : (policy : Policy) (agreed : Agreed) (own : ℕ) (Q R : OfEnd) (v : Channels) (pdu : List ℕ) → IsBelow v → HearsSo agreed pdu Q R → MaySkip own pdu Q R v → Agrees agreed own v → Agrees agreed own (takes own pdu v) → Here policy own Q v → Here policy own R (takes own pdu v)
here-takes policy agreed own Q R v pdu below hears skip was agrees h = by (held_at own v) refl agrees
  where
    by : (held : Option Held) → held_at own v ≡ held → Agrees agreed own (takes_held held pdu v) → Here policy own R (takes_held held pdu v)
    by None found agrees = record { held = subst (HeldKeeps policy (On R)) (sym found) tt; before = λ above. skip.none false (h.before above) }
    by (Some held) found agrees =
        let same : held.own ≡ own = found-has own_of own v.held held found in
        subst (λ k. Here policy k R (takes_on (setup_of held.stage) pdu held v)) same
        (takes_by policy agreed Q R v pdu held (setup_of held.stage) below (found-own own v held found) refl hears (subst (λ k. MaySkip k pdu Q R v) (sym same) skip) (subst (λ k. Agrees agreed k v) (sym same) was)
        (subst (λ k. Agrees agreed k (takes_on (setup_of held.stage) pdu held v)) (sym same) agrees) (subst (λ k. Here policy k Q v) (sym same) h))

-- ---- an SDU is sent on it

-- its machine takes it, while the channel is open
abbrev pub SubmitsSo : Agreed → List ℕ → (Q R : OfEnd) → Type 0
SubmitsSo agreed sdu Q R = (machine : Ertm) → machine.agreed ≡ agreed → length sdu ≤ machine.agreed.send_mtu → Q true (Some (Retransmitting machine)) → R true (Some (Retransmitting (submitted sdu machine)))

abbrev pub Also : (Q R : OfEnd) → Type 0
Also Q R = (opened : Bool) (carrier : Option Carrier) → Q opened carrier → R opened carrier

pub sends_carrier : (policy : Policy) (agreed : Agreed) (Q R : OfEnd) (v : Channels) (held : Held) (setup : Setup) (sdu : List ℕ) (carrier : Option Carrier) → IsBelow v → find (has_own held.own) v.held ≡ Some held → setup_of held.stage ≡ Some setup → is_open setup ≡ true → setup.carrier ≡ carrier
    → Agrees agreed held.own v → ((c : Carrier) → carrier ≡ Some c → IsShort sdu c) → SubmitsSo agreed sdu Q R → Here policy held.own Q v → (let sent : Setup = record setup { carrier = option_map (λ c. carrier_with c sdu) carrier } in Here policy held.own R (to_setup held sent v))
sends_carrier policy agreed Q R v held setup sdu None below found has opened is agrees short submits h = let never : false ≡ true = sym (ap (λ (c : Option Carrier). is_some c && is_granted setup.own) is) ∙ opened in absurd cc
sends_carrier policy agreed Q R v held setup sdu (Some (Plain a waiting)) below found has opened is agrees short submits h = absurd (agrees held setup (Plain a waiting) found has is)
sends_carrier policy agreed Q R v held setup sdu (Some (Retransmitting machine)) below found has opened is agrees short submits h =
    let sent : Setup = record setup { carrier = Some (Retransmitting (submitted sdu machine)) } in
    let was : Q true (Some (Retransmitting machine)) = subst (λ b. Q b (Some (Retransmitting machine))) opened (subst (Q (is_open setup)) is (here-on policy Q v held setup found has h)) in
    let so : R true (Some (Retransmitting (submitted sdu machine))) = submits machine (agrees held setup (Retransmitting machine) found has is opened) (short (Retransmitting machine) refl) was in
    placed policy R v held setup sent below found has (subst (λ b. R b (Some (Retransmitting (submitted sdu machine)))) (sym (and-right (is_some setup.carrier) (is_granted setup.own) opened)) so)

pub sends_setup : (policy : Policy) (agreed : Agreed) (Q R : OfEnd) (v : Channels) (held : Held) (setup : Setup) (sdu : List ℕ) (opened : Bool) → IsBelow v → find (has_own held.own) v.held ≡ Some held → setup_of held.stage ≡ Some setup → is_open setup ≡ opened
    → Agrees agreed held.own v → ((c : Carrier) → opened ≡ true → setup.carrier ≡ Some c → IsShort sdu c) → SubmitsSo agreed sdu Q R → Also Q R → Here policy held.own Q v
    → (let sent : Setup = record setup { carrier = option_map (λ c. carrier_with c sdu) setup.carrier } in Here policy held.own R (to_setup held (cond opened sent setup) v))
sends_setup policy agreed Q R v held setup sdu true below found has opened agrees short submits also h = sends_carrier policy agreed Q R v held setup sdu setup.carrier below found has opened refl agrees (λ c is. short c refl is) submits h
sends_setup policy agreed Q R v held setup sdu false below found has opened agrees short submits also h = placed policy R v held setup setup below found has (also (is_open setup) setup.carrier (here-on policy Q v held setup found has h))

pub here-sends : (policy : Policy) (agreed : Agreed) (own : ℕ) (Q R : OfEnd) (v : Channels) (sdu : List ℕ) → IsBelow v → Agrees agreed own v → SendsShort sdu own v → SubmitsSo agreed sdu Q R → Also Q R → Here policy own Q v → Here policy own R (sends own sdu v)
here-sends policy agreed own Q R v sdu below agrees short submits also h = by (held_at own v) refl
  where
    on : (held : Held) (setup : Option Setup) → find (has_own held.own) v.held ≡ Some held → setup_of held.stage ≡ setup → held.own ≡ own → Here policy held.own R (sends_on setup sdu held v)
    on held None found has same = subst (λ k. Here policy k R v) (sym same) (here-also policy own Q R v also h)
    on held (Some setup) found has same =
        sends_setup policy agreed Q R v held setup sdu (is_open setup) below found has refl (subst (λ k. Agrees agreed k v) (sym same) agrees)
        (λ c opened is. subst (λ k. SendsShort sdu k v) (sym same) short held setup c found has opened is) submits also (subst (λ k. Here policy k Q v) (sym same) h)

    by : (held : Option Held) → held_at own v ≡ held → Here policy own R (sends_held held sdu v)
    by None found = here-also policy own Q R v also h
    by (Some held) found =
        let same : held.own ≡ own = found-has own_of own v.held held found in
        subst (λ k. Here policy k R (sends_on (setup_of held.stage) sdu held v)) same (on held (setup_of held.stage) (found-own own v held found) refl same)

-- ---- it gives its next frame

abbrev pub GivesSo : (opened : Bool) → PlainFrame → (Q R : OfEnd) → Type 0
GivesSo opened frame Q R = (machine : Ertm) → next_frame machine ≡ Some frame → Q opened (Some (Retransmitting machine)) → R opened (Some (Retransmitting (after_frame machine)))

pub here-gives : (policy : Policy) (Q R : OfEnd) (v : Channels) (held : Held) (setup : Setup) (machine : Ertm) (frame : PlainFrame) → IsBelow v → find (has_own held.own) v.held ≡ Some held → setup_of held.stage ≡ Some setup → setup.carrier ≡ Some (Retransmitting machine) → next_frame machine ≡ Some frame
    → GivesSo (is_open setup) frame Q R → Here policy held.own Q v → Here policy held.own R (carrier_spent (Some setup) held v)
here-gives policy Q R v held setup machine frame below found has is next gives h =
    placed policy R v held setup after below found has
    (subst (λ b. R b after.carrier) (ap (λ (c : Option Carrier). is_some c && is_granted setup.own) is ∙ sym (ap (λ (c : Option Carrier). is_some (option_map carrier_given c) && is_granted setup.own) is)) so)
  where
    after : Setup
    after = record setup { carrier = option_map carrier_given setup.carrier }

    was : Q (is_open setup) (Some (Retransmitting machine))
    was = subst (Q (is_open setup)) is (here-on policy Q v held setup found has h)

    so : R (is_open setup) after.carrier
    so = subst (R (is_open setup)) (sym (ap (option_map carrier_given) is)) (gives machine next was)
