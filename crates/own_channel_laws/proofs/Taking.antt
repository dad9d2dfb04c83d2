-- What a PDU on a channel does to it, by what carries its SDUs.
use Rattle.std.proofs.Common.{◌≡◌, ℕ, List, Bool, true, false, cond, eqb, Option, Some, None, refl, sym, ap, ◌∙◌}
use Rattle.std.specs.Prelude.{find, is_some}
use Rattle.channel_model.specs.ertm_model.specs.declared.reason.ErtmReason.{ErtmReason}
use Rattle.channel_model.specs.ertm_model.specs.Value.{Ertm}
use Rattle.talk_laws.specs.l2cap_config.specs.declared.wish.Agreed.{Agreed}
use Rattle.channel_model.specs.declared.errand.Errand.TheVariants as errands
use Rattle.channel_model.specs.declared.event.CloseReason.{CloseReason}
use Rattle.channel_model.specs.Value.{Own, Unasked, Asking, Granted, Carrier, Plain, Retransmitting, Setup, Stage, Requested, Connected, Leaving, Closing, Crossed, Held, Channels}
use Rattle.channel_model.specs.Changing.{has_own, is_stated, has_fcs_by, held_at, setup_of, with_setup, to_setup, forgets}
use Rattle.channel_model.specs.Asking.{new_request}
use Rattle.channel_model.specs.Closing.{closes_at}
use Rattle.channel_model.specs.Configuring.{opens_if, granted_setup}
use Rattle.channel_model.specs.Carrying.{reason_of, settles_machine, machine_heard, read_by, carries, is_taken_with, opens_with, takes_with, takes_on, takes_held, takes}
use Rattle.channel_model.proofs.Lookups.{own_of, found-has, find-placed, find-others}
use Rattle.channel_model.proofs.Going.{staged}
use Rattle.channel_model.proofs.Walking.{found-own, with-found}
use Rattle.channel_model.proofs.Calling.{granted-same}

-- ---- the own request is shown to be accepted

pub record Opens (v u : Channels) (held : Held) (setup : Setup) : Type 0 where
  pub here : find (has_own held.own) u.held ≡ Some (with_setup held (granted_setup setup))
  pub others : (own : ℕ) → eqb held.own own ≡ false → find (has_own own) u.held ≡ find (has_own own) v.held
  pub next_is : u.next ≡ v.next

grants_opens : (v : Channels) (held : Held) (setup : Setup) (some : Bool) → find (has_own held.own) v.held ≡ Some held
    → Opens v (opens_if some held (to_setup held (granted_setup setup) (forgets (errands.Configuration held.own) v))) held setup
grants_opens v held setup true found = record { here = with-found v held (granted_setup setup) found; others = λ own apart. find-placed (with_setup held (granted_setup setup)) v.held own apart; next_is = refl }
grants_opens v held setup false found = record { here = with-found v held (granted_setup setup) found; others = λ own apart. find-placed (with_setup held (granted_setup setup)) v.held own apart; next_is = refl }

opens_by : (v : Channels) (held : Held) (setup : Setup) (own : Own) → setup.own ≡ own → is_stated own ≡ true → find (has_own held.own) v.held ≡ Some held → setup_of held.stage ≡ Some setup → Opens v (opens_with own held setup v) held setup
opens_by v held setup Unasked own_is stated found is = cc
opens_by v held setup (Asking request options) own_is stated found is = grants_opens v held setup (is_some setup.carrier) found
opens_by v held setup Granted own_is stated found is = record {
  here = found ∙ ap (λ (s : Stage). let h : Held = record held { stage = s } in Some h) (sym (granted-same held.stage setup is own_is));
  others = λ own apart. refl;
  next_is = refl;
}

taken_stated : (own : Own) (carrier : Carrier) (pdu : List ℕ) → is_taken_with own carrier pdu ≡ true → is_stated own ≡ true
taken_stated Unasked carrier pdu is = is
taken_stated (Asking request options) carrier pdu is = refl
taken_stated Granted carrier pdu is = refl

-- ---- what may come of it

-- it is not taken, by what carries; it is an SDU; or the machine hears it
pub record Cases (G : Channels → Type 0) (v : Channels) (pdu : List ℕ) (held : Held) (setup : Setup) : Type 0 where
  pub none : setup.carrier ≡ None → G v
  pub ignored : (carrier : Carrier) → setup.carrier ≡ Some carrier → is_taken_with setup.own carrier pdu ≡ false → G v
  pub whole : (u : Channels) (agreed : Agreed) (waiting : Option (List ℕ)) → setup.carrier ≡ Some (Plain agreed waiting) → is_taken_with setup.own (Plain agreed waiting) pdu ≡ true → Opens v u held setup → G u
  pub framed : (u : Channels) (machine : Ertm) → setup.carrier ≡ Some (Retransmitting machine) → is_taken_with setup.own (Retransmitting machine) pdu ≡ true → Opens v u held setup
      → (let after : Ertm = machine_heard (read_by machine pdu) machine in G (settles_machine after.closed after (with_setup held (granted_setup setup)) (granted_setup setup) u))

taken_case : (G : Channels → Type 0) (v : Channels) (pdu : List ℕ) (held : Held) (setup : Setup) (carrier : Carrier) (taken : Bool) → Cases G v pdu held setup → find (has_own held.own) v.held ≡ Some held → setup_of held.stage ≡ Some setup
    → setup.carrier ≡ Some carrier → is_taken_with setup.own carrier pdu ≡ taken
    → G (cond taken (carries carrier pdu (with_setup held (granted_setup setup)) (granted_setup setup) (opens_with setup.own held setup v)) v)
taken_case G v pdu held setup carrier false cases found is carrier_is taken_is = cases.ignored carrier carrier_is taken_is
taken_case G v pdu held setup (Plain agreed waiting) true cases found is carrier_is taken_is =
    cases.whole (opens_with setup.own held setup v) agreed waiting carrier_is taken_is (opens_by v held setup setup.own refl (taken_stated setup.own (Plain agreed waiting) pdu taken_is) found is)
taken_case G v pdu held setup (Retransmitting machine) true cases found is carrier_is taken_is =
    cases.framed (opens_with setup.own held setup v) machine carrier_is taken_is (opens_by v held setup setup.own refl (taken_stated setup.own (Retransmitting machine) pdu taken_is) found is)

carrier_case : (G : Channels → Type 0) (v : Channels) (pdu : List ℕ) (held : Held) (setup : Setup) (carrier : Option Carrier) → Cases G v pdu held setup → find (has_own held.own) v.held ≡ Some held → setup_of held.stage ≡ Some setup → setup.carrier ≡ carrier
    → G (takes_with carrier pdu held setup v)
carrier_case G v pdu held setup None cases found is carrier_is = cases.none carrier_is
carrier_case G v pdu held setup (Some carrier) cases found is carrier_is = taken_case G v pdu held setup carrier (is_taken_with setup.own carrier pdu) cases found is carrier_is refl

pub takes-cases : (G : Channels → Type 0) (v : Channels) (pdu : List ℕ) (held : Held) (setup : Setup) → Cases G v pdu held setup → find (has_own held.own) v.held ≡ Some held → setup_of held.stage ≡ Some setup → G (takes_on (Some setup) pdu held v)
takes-cases G v pdu held setup cases found is = carrier_case G v pdu held setup setup.carrier cases found is refl

-- ---- other channels

-- no other channel changes, and none comes to be
pub record LeavesOthers (own : ℕ) (v w : Channels) : Type 0 where
  pub others : (other : ℕ) → eqb own other ≡ false → find (has_own other) w.held ≡ find (has_own other) v.held
  pub next_is : w.next ≡ v.next

closed_others : (v : Channels) (held : Held) (reason : CloseReason) (stage : Stage) → LeavesOthers held.own v (closes_at stage reason held v)
closed_others v held reason (Requested request) = record { others = λ other apart. find-others own_of held.own other v.held apart; next_is = refl }
closed_others v held reason (Connected peer setup) = record { others = λ other apart. find-placed (staged held (Closing peer (new_request v) (has_fcs_by setup))) v.held other apart; next_is = refl }
closed_others v held reason (Leaving peer setup request) = record { others = λ other apart. find-placed (staged held (Closing peer request (has_fcs_by setup))) v.held other apart; next_is = refl }
closed_others v held reason (Closing peer request checked) = record { others = λ other apart. refl; next_is = refl }
closed_others v held reason (Crossed peer request) = record { others = λ other apart. refl; next_is = refl }

settled_others : (u : Channels) (machine : Ertm) (closed : Option ErtmReason) (held : Held) (setup : Setup) → LeavesOthers held.own u (settles_machine closed machine held setup u)
settled_others u machine None held setup =
    let after : Setup = record setup { carrier = Some (Retransmitting machine) } in
    record { others = λ other apart. find-placed (with_setup held after) u.held other apart; next_is = refl }
settled_others u machine (Some reason) held setup = closed_others u held (reason_of reason) held.stage

both_leave : (own : ℕ) (v u w : Channels) (held : Held) (setup : Setup) → held.own ≡ own → Opens v u held setup → LeavesOthers held.own u w → LeavesOthers own v w
both_leave own v u w held setup same opens leaves = record {
  others = λ other apart. leaves.others other (ap (λ n. eqb n other) same ∙ apart) ∙ opens.others other (ap (λ n. eqb n other) same ∙ apart);
  next_is = leaves.next_is ∙ opens.next_is;
}

none_leave : (own : ℕ) (v : Channels) → LeavesOthers own v v
none_leave own v = record { others = λ other apart. refl; next_is = refl }

setup_others : (own : ℕ) (v : Channels) (pdu : List ℕ) (held : Held) (setup : Option Setup) → held.own ≡ own → find (has_own held.own) v.held ≡ Some held → setup_of held.stage ≡ setup → LeavesOthers own v (takes_on setup pdu held v)
setup_others own v pdu held None same found is = none_leave own v
setup_others own v pdu held (Some setup) same found is = takes-cases (LeavesOthers own v) v pdu held setup (record {
  none = λ c. none_leave own v;
  ignored = λ carrier c t. none_leave own v;
  whole = λ u agreed waiting c t opens. both_leave own v u u held setup same opens (none_leave held.own u);
  framed = λ u machine c t opens.
      let after : Ertm = machine_heard (read_by machine pdu) machine in
      both_leave own v u (settles_machine after.closed after (with_setup held (granted_setup setup)) (granted_setup setup) u) held setup same opens
      (settled_others u after after.closed (with_setup held (granted_setup setup)) (granted_setup setup));
}) found is

held_others_by : (own : ℕ) (v : Channels) (pdu : List ℕ) (held : Option Held) → find (has_own own) v.held ≡ held → LeavesOthers own v (takes_held held pdu v)
held_others_by own v pdu None is = none_leave own v
held_others_by own v pdu (Some held) is = setup_others own v pdu held (setup_of held.stage) (found-has own_of own v.held held is) (found-own own v held is) refl

pub takes-others : (own : ℕ) (pdu : List ℕ) (v : Channels) → LeavesOthers own v (takes own pdu v)
takes-others own pdu v = held_others_by own v pdu (held_at own v) refl
