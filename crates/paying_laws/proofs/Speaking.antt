-- A channel of service discovery on which an SDU comes up while its host has nothing to give takes the reply, and its host has nothing else to give.
use Rattle.std.proofs.Common.{◌≡◌, ◌≤◌, ℕ, Bool, true, false, cond, eqb, List, [], ◌∷◌, map, find, filter, drop, not, ◌&&◌, Option, Some, None, is_some, option_map, refl, sym, ap, subst, ◌∙◌}
use Rattle.std.specs.List.{AllByRecursion}
use Rattle.std.proofs.lemmas.Bool.{eqb-true}
use Rattle.pair_laws.specs.acl_fragments.specs.Pieces.{channel_of}
use Rattle.pair_laws.specs.bt_base.specs.declared.settings.Settings.{Settings}
use Rattle.pair_laws.specs.l2cap_config.specs.declared.wish.Agreed.{Agreed}
use Rattle.pair_laws.specs.l2cap_config.specs.declared.wish.Mode.TheVariants.{Basic, Enhanced}
use Rattle.pair_laws.specs.channel_model.specs.Calls.{carrier_at, setup_on, open_carrier, carrier_if}
use Rattle.pair_laws.specs.channel_model.specs.Carrying.{Nothing, Received, sdu_with, sdu_at, up_by, up_on, up_at, takes_with, takes_on, takes_held, takes}
use Rattle.pair_laws.specs.channel_model.specs.Changing.{has_own, held_at, setup_of, stage_with, in_place_of, to_setup, with_setup, forgets, is_open, is_granted, is_copy}
use Rattle.pair_laws.specs.channel_model.specs.Configuring.{granted_setup, opens_if, grants}
use Rattle.pair_laws.specs.channel_model.specs.Giving.{Whole, next_given, stage_gives, some_carrier_gives, gives, held_gives, queue_gives}
use Rattle.pair_laws.specs.channel_model.specs.Hearing.{hears, hears_commands, up}
use Rattle.pair_laws.specs.channel_model.specs.Policies.{Policy, policy}
use Rattle.pair_laws.specs.l2cap_signal.specs.Reading.{answers}
use Rattle.pair_laws.specs.channel_model.specs.Value.{Queued, Carrier, Plain, Retransmitting, Own, Unasked, Asking, Granted, Setup, Stage, Requested, Connected, Leaving, Closing, Crossed, Held, Channels}
use Rattle.pair_laws.specs.channel_model.specs.declared.errand.Errand.TheVariants.{Configuration}
use Rattle.pair_laws.specs.channel_laws.specs.channel_model.proofs.Lookups.{own_of, found-has, not_found, found-placed}
use Rattle.pair_laws.specs.channel_laws.specs.Runs.{Occurrence, run_of}
use Rattle.pair_laws.specs.channel_laws.specs.Views.{carrier_mode}
use Rattle.pair_laws.specs.channel_laws.proofs.Holding.{IsRead, is-read}
use Rattle.pair_laws.specs.channel_laws.proofs.Keeping.{HeldKeeps, StageKeeps}
use Rattle.pair_laws.specs.channel_laws.proofs.Ready.{Takes, all-take}
use Rattle.pair_laws.specs.channel_laws.proofs.Running.{all-sound}
use Rattle.pair_laws.specs.channel_laws.proofs.Sound.{CarrierIs}
use Rattle.pair_laws.specs.push_model.specs.Events.{search_psm}

-- ---- nothing is to be given

abbrev AllGiveNone : List Held → Type 0
AllGiveNone hs = AllByRecursion (λ (h : Held). gives h ≡ false) hs

give_none : (hs : List Held) → find gives hs ≡ None → AllGiveNone hs
give_none [] is = tt
give_none (h ∷ hs) is = let both = not_found (gives h) h (find gives hs) is in (both.0, give_none hs both.1)

none_give : (hs : List Held) → AllGiveNone hs → find gives hs ≡ None
none_give [] all = refl
none_give (h ∷ hs) all = ap (λ (b : Bool). cond b (Some h) (find gives hs)) all.0 ∙ none_give hs all.1

found_gives : (n : ℕ) (hs : List Held) (held : Held) → find (has_own n) hs ≡ Some held → AllGiveNone hs → gives held ≡ false
found_gives n [] held is all = cc
found_gives n (h ∷ hs) held is all = by (has_own n h) is (λ later. found_gives n hs held later all.1)
  where
    by : (here : Bool) → cond here (Some h) (find (has_own n) hs) ≡ Some held → (find (has_own n) hs ≡ Some held → gives held ≡ false) → gives held ≡ false
    by true is later = let same : h ≡ held = cc in subst (λ (x : Held). gives x ≡ false) same all.0
    by false is later = later is

placed_give : (next : Held) (hs : List Held) → gives next ≡ false → AllGiveNone hs → AllGiveNone (map (in_place_of next) hs)
placed_give next [] is all = tt
placed_give next (h ∷ hs) is all = (by (eqb h.own next.own), placed_give next hs is all.1)
  where
    by : (here : Bool) → gives (cond here next h) ≡ false
    by true = is
    by false = all.0

gives_found : (hs : List Held) (held : Held) → find gives hs ≡ Some held → gives held ≡ true
gives_found [] held is = cc
gives_found (h ∷ hs) held is = by (gives h) refl is (λ later. gives_found hs held later)
  where
    by : (here : Bool) → gives h ≡ here → cond here (Some h) (find gives hs) ≡ Some held → (find gives hs ≡ Some held → gives held ≡ true) → gives held ≡ true
    by true now is later = let same : h ≡ held = cc in subst (λ (x : Held). gives x ≡ true) same now
    by false now is later = later is

-- a host whose queue is empty and that has nothing to give
pub none-given : (v : Channels) → v.queue ≡ [] → next_given v ≡ None → find gives v.held ≡ None
none-given v empty quiet = by (find gives v.held) refl
  where
    now : held_gives (find gives v.held) ≡ None
    now = ap (λ (queue : List Queued). queue_gives queue v) (sym empty) ∙ quiet

    by : (found : Option Held) → find gives v.held ≡ found → find gives v.held ≡ None
    by None is = is
    by (Some held) is =
        let some : is_some (stage_gives held.stage) ≡ true = gives_found v.held held is in
        let none : stage_gives held.stage ≡ None = ap held_gives (sym is) ∙ now in
        let never : false ≡ true = sym (ap is_some none) ∙ some in cc

pub still-given : (v : Channels) → v.queue ≡ [] → find gives v.held ≡ None → next_given v ≡ None
still-given v empty none = ap (λ (queue : List Queued). queue_gives queue v) empty ∙ ap held_gives none

-- ---- the channel takes an SDU

-- it is open in basic mode, nothing waits there, nor anywhere else
pub record Speaks (own : ℕ) (v : Channels) : Type 0 where
  pub agreed : Agreed
  pub carrier_is : carrier_at own v ≡ Some (Plain agreed None)
  pub most : 48 ≤ agreed.send_mtu
  pub empty : v.queue ≡ []
  pub none : find gives v.held ≡ None

open_at : (own : ℕ) (v : Channels) (held : Held) (setup : Setup) (carrier : Carrier) → held_at own v ≡ Some held → setup_of held.stage ≡ Some setup → setup.carrier ≡ Some carrier → setup.own ≡ Granted → carrier_at own v ≡ Some carrier
open_at own v held setup carrier at has carries granted =
    ap (λ (h : Option Held). open_carrier (setup_on h)) at
    ∙ (ap open_carrier has ∙ (ap (λ (b : Bool). carrier_if b setup) (ap (λ (c : Option Carrier). is_some c && is_granted setup.own) carries ∙ ap is_granted granted) ∙ carries))

waits_none : (agreed : Agreed) (waiting : Option (List ℕ)) (peer : ℕ) → is_some (option_map (Whole peer) waiting) ≡ false → waiting ≡ None
waits_none agreed None peer is = refl
waits_none agreed (Some sdu) peer is = cc

module _ (settings : Settings) (list : List Occurrence) where
  abbrev Q : Policy
  Q = policy settings true

  abbrev v : Channels
  v = (run_of (policy settings true) list).value

  basic_at : (own : ℕ) → (held : Held) → held.psm ≡ 0x0001 → held_at own v ≡ Some held → (setup : Setup) (carrier : Carrier) → setup_of held.stage ≡ Some setup → setup.carrier ≡ Some carrier → carrier_mode carrier ≡ Basic
  basic_at own held psm_is at setup carrier has carries =
      let run = run_of Q list in
      let r : IsRead Q run.said own held setup = is-read Q run.said run.value own held setup at has (all-sound Q list) in
      subst (CarrierIs (Q.wish held.psm)) carries r.agrees.carrier_is ∙ ap (λ (n : ℕ). (Q.wish n).mode) psm_is

  most_at : (own : ℕ) (held : Held) (peer : ℕ) (setup : Setup) (agreed : Agreed) (waiting : Option (List ℕ)) → held_at own v ≡ Some held → held.stage ≡ Connected peer setup → setup.carrier ≡ Some (Plain agreed waiting) → 48 ≤ agreed.send_mtu
  most_at own held peer setup agreed waiting at is carries =
      let takes' : StageKeeps Takes (Q.wish held.psm) held.stage = subst (HeldKeeps Q Takes) at ((all-take Q list).at own) in
      let there : Takes (Q.wish held.psm) false (is_open setup) setup.carrier = subst (StageKeeps Takes (Q.wish held.psm)) is takes' in
      subst (Takes (Q.wish held.psm) false (is_open setup)) carries there

  -- what it is behind a PDU that shows that the peer accepted its options
  granted_speaks : (own : ℕ) (held : Held) (peer : ℕ) (setup : Setup) (agreed : Agreed) → held_at own v ≡ Some held → held.own ≡ own → held.stage ≡ Connected peer setup → setup.carrier ≡ Some (Plain agreed None) → 48 ≤ agreed.send_mtu → v.queue ≡ [] → AllGiveNone v.held
      → Speaks own (grants held setup v)
  granted_speaks own held peer setup agreed at own_is is carries most empty none =
      let granted = granted_setup setup in
      let next = with_setup held granted in
      let stage_is : next.stage ≡ Connected peer granted = ap (stage_with granted) is in
      let found : find (has_own next.own) (map (in_place_of next) v.held) ≡ Some next = found-placed next held v.held (subst (λ (n : ℕ). find (has_own n) v.held ≡ Some held) (sym own_is) at) in
      let there : held_at own (to_setup held granted (forgets (Configuration held.own) v)) ≡ Some next = subst (λ (n : ℕ). find (has_own n) (map (in_place_of next) v.held) ≡ Some next) own_is found in
      let gives_is : gives next ≡ false = ap (λ (s : Stage). is_some (stage_gives s)) stage_is ∙ ap (λ (c : Option Carrier). is_some (some_carrier_gives c peer)) carries in
      let w = to_setup held granted (forgets (Configuration held.own) v) in
      let speaks : Speaks own w = record {
        agreed = agreed;
        carrier_is = open_at own w next granted (Plain agreed None) there (ap setup_of stage_is) carries refl;
        most = most;
        empty = ap (filter (λ (waiting : Queued). not (is_copy (Configuration held.own) waiting))) empty;
        none = none_give (map (in_place_of next) v.held) (placed_give next v.held gives_is none);
      } in
      subst (λ (b : Bool). Speaks own (opens_if b held w)) (sym (ap is_some carries)) (record { agreed = speaks.agreed; carrier_is = speaks.carrier_is; most = speaks.most; empty = speaks.empty; none = speaks.none })

  plain_speaks : (own : ℕ) (pdu sdu : List ℕ) (held : Held) (peer : ℕ) (setup : Setup) (agreed : Agreed) (waiting : Option (List ℕ)) (mine : Own) → held_at own v ≡ Some held → held.own ≡ own → held.stage ≡ Connected peer setup → setup.carrier ≡ Some (Plain agreed waiting) → setup.own ≡ mine → v.queue ≡ [] → AllGiveNone v.held
      → sdu_with (Some (Plain agreed waiting)) mine pdu ≡ Some sdu → Speaks own (takes_with (Some (Plain agreed waiting)) pdu held (record setup { own = mine }) v)
  plain_speaks own pdu sdu held peer setup agreed waiting Unasked at own_is is carries own_state empty none came = cc
  plain_speaks own pdu sdu held peer setup agreed waiting (Asking request options) at own_is is carries own_state empty none came =
      let quiet : is_some (option_map (Whole peer) waiting) ≡ false = sym (ap (λ (s : Stage). is_some (stage_gives s)) is ∙ ap (λ (c : Option Carrier). is_some (some_carrier_gives c peer)) carries) ∙ found_gives own v.held held at none in
      let carries' : setup.carrier ≡ Some (Plain agreed None) = carries ∙ ap (λ (w : Option (List ℕ)). Some (Plain agreed w)) (waits_none agreed waiting peer quiet) in
      subst (λ (s : Setup). Speaks own (grants held s v)) (setup_is setup (Asking request options) own_state)
      (granted_speaks own held peer setup agreed at own_is is carries' (most_at own held peer setup agreed waiting at is carries) empty none)
    where
      setup_is : (s : Setup) (o : Own) → s.own ≡ o → s ≡ (let t : Setup = record s { own = o } in t)
      setup_is s o same = ap (λ (x : Own). let t : Setup = record s { own = x } in t) same
  plain_speaks own pdu sdu held peer setup agreed waiting Granted at own_is is carries own_state empty none came =
      let quiet : is_some (option_map (Whole peer) waiting) ≡ false = sym (ap (λ (s : Stage). is_some (stage_gives s)) is ∙ ap (λ (c : Option Carrier). is_some (some_carrier_gives c peer)) carries) ∙ found_gives own v.held held at none in
      let carries' : setup.carrier ≡ Some (Plain agreed None) = carries ∙ ap (λ (w : Option (List ℕ)). Some (Plain agreed w)) (waits_none agreed waiting peer quiet) in
      record {
        agreed = agreed;
        carrier_is = open_at own v held setup (Plain agreed None) at (ap setup_of is) carries' own_state;
        most = most_at own held peer setup agreed waiting at is carries;
        empty = empty;
        none = none_give v.held none;
      }

  -- an SDU of service discovery came up
  pub came-speaks : (pdu : List ℕ) (own psm : ℕ) (sdu : List ℕ) → v.queue ≡ [] → next_given v ≡ None → eqb psm search_psm ≡ true → up (channel_of pdu) pdu v ≡ Received own psm sdu → Speaks own (hears (policy settings true) (channel_of pdu) pdu v)
  came-speaks pdu own psm sdu empty quiet search came = by (eqb (channel_of pdu) 0x0001) came
    where
      none : AllGiveNone v.held
      none = give_none v.held (none-given v empty quiet)

      psm_one : psm ≡ 0x0001
      psm_one = eqb-true psm search_psm search

      carried : (held : Held) (peer : ℕ) (setup : Setup) (carrier : Option Carrier) → held_at (channel_of pdu) v ≡ Some held → held.own ≡ own → held.psm ≡ psm → held.stage ≡ Connected peer setup → setup.carrier ≡ carrier → sdu_with carrier setup.own pdu ≡ Some sdu
          → Speaks own (takes_with carrier pdu held setup v)
      carried held peer setup None at own_is psm_is is carries sdu_is = cc
      carried held peer setup (Some (Retransmitting m)) at own_is psm_is is carries sdu_is =
          let never : Enhanced ≡ Basic = basic_at (channel_of pdu) held (psm_is ∙ psm_one) at setup (Retransmitting m) (ap setup_of is) carries in cc
      carried held peer setup (Some (Plain agreed waiting)) at own_is psm_is is carries sdu_is =
          let here : held.own ≡ channel_of pdu = found-has own_of (channel_of pdu) v.held held at in
          let same : channel_of pdu ≡ own = sym here ∙ own_is in
          plain_speaks own pdu sdu held peer setup agreed waiting setup.own (subst (λ (n : ℕ). held_at n v ≡ Some held) same at) own_is is carries refl empty none sdu_is

      staged' : (held : Held) (stage : Stage) → held_at (channel_of pdu) v ≡ Some held → held.stage ≡ stage → up_by (sdu_at stage pdu) held ≡ Received own psm sdu → Speaks own (takes_on (setup_of stage) pdu held v)
      staged' held (Requested request) at is came = cc
      staged' held (Leaving peer setup request) at is came = cc
      staged' held (Closing peer request checked) at is came = cc
      staged' held (Crossed peer request) at is came = cc
      staged' held (Connected peer setup) at is came = on (sdu_with setup.carrier setup.own pdu) refl came
        where
          on : (found : Option (List ℕ)) → sdu_with setup.carrier setup.own pdu ≡ found → up_by found held ≡ Received own psm sdu → Speaks own (takes_with setup.carrier pdu held setup v)
          on None found came = cc
          on (Some octets) found came =
              let own_is : held.own ≡ own = cc in
              let psm_is : held.psm ≡ psm = cc in
              let sdu_is : octets ≡ sdu = cc in
              carried held peer setup setup.carrier at own_is psm_is is refl (found ∙ ap (λ (x : List ℕ). Some x) sdu_is)

      held_by : (found : Option Held) → held_at (channel_of pdu) v ≡ found → up_on found pdu ≡ Received own psm sdu → Speaks own (takes_held found pdu v)
      held_by None at came = cc
      held_by (Some held) at came = staged' held held.stage at refl came

      by : (signals : Bool) → cond signals Nothing (up_at (channel_of pdu) pdu v) ≡ Received own psm sdu → Speaks own (cond signals (hears_commands Q (answers (drop 4 pdu)) v) (takes (channel_of pdu) pdu v))
      by true came = cc
      by false came = held_by (held_at (channel_of pdu) v) refl came
