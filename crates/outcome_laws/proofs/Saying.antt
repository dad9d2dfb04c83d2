-- A piece of a PDU with which the push of a client is done or refused, or finds no service: what says so was said by the talk of its link.
use Rattle.std.proofs.Common.{◌≡◌, ℕ, Bool, true, false, cond, eqb, List, [], ◌∷◌, ◌++◌, map, Option, Some, None, refl, sym, ap, subst, ◌∙◌, append-nil, if◌then◌else◌}
use Rattle.std.specs.Prelude.{drop, IfSome}
use Rattle.std.specs.List.{flat_map}
use Rattle.std.specs.Option.{option_map}
use Rattle.std.proofs.lemmas.List.Concat.{flat_map-append}
use Rattle.cause_laws.specs.bt_base.specs.declared.settings.Settings.{Settings}
use Rattle.cause_laws.specs.push_terms.specs.declared.outcome.Outcome.{Outcome}
use Rattle.cause_laws.specs.push_terms.specs.declared.word.Side.TheVariants.{A}
use Rattle.unit_laws.specs.scenario_laws.specs.acl_fragments.specs.Pieces.{channel_of}
use Rattle.unit_laws.specs.scenario_laws.specs.l2cap_signal.specs.Reading.{answers}
use Rattle.unit_laws.specs.scenario_laws.specs.h4_framing.specs.Packets.{Packet}
use Rattle.unit_laws.specs.scenario_laws.specs.capture.specs.declared.flow.Flow.TheVariants.{Into}
use Rattle.unit_laws.specs.scenario_laws.specs.capture.specs.Links.{Link, link_up, linking}
use Rattle.unit_laws.specs.scenario_laws.specs.capture.specs.Moves.{Move}
use Rattle.unit_laws.specs.scenario_laws.specs.capture.specs.Pdus.{Pdu, pdus}
use Rattle.unit_laws.specs.scenario_laws.specs.host_link.specs.Hearing.{PlainNews, Pdu as Whole, news_of}
use Rattle.unit_laws.specs.scenario_laws.specs.host_link.specs.Stands.{Stands, into}
use Rattle.unit_laws.specs.scenario_laws.specs.host_link.specs.declared.role.Role.TheVariants.{Client as Paging}
use Rattle.unit_laws.specs.scenario_laws.specs.link_talk.specs.Channels.{reading}
use Rattle.unit_laws.specs.scenario_laws.specs.link_talk.specs.Sdus.{sdus}
use Rattle.unit_laws.specs.scenario_laws.specs.channel_laws.specs.Views.{read_at}
use Rattle.unit_laws.specs.scenario_laws.specs.link_talk.specs.Sayings.{Saying, Command, Carried, said_by, talk}
use Rattle.cause_laws.specs.channel_model.specs.Carrying.{Nothing, Received, up_at}
use Rattle.cause_laws.specs.channel_model.specs.Hearing.{up}
use Rattle.cause_laws.specs.channel_model.specs.Policies.{policy}
use Rattle.cause_laws.specs.channel_model.specs.Value.{Channels, no_channels}
use Rattle.unit_laws.specs.scenario_laws.specs.channel_laws.specs.Runs.{Occurrence, run_of}
use Rattle.cause_laws.specs.push_model.specs.declared.course.Stage.{Stage}
use Rattle.cause_laws.specs.push_model.specs.declared.course.Stage.TheVariants.{Search, ObjectChannel, Object, ObjectEnd}
use Rattle.cause_laws.specs.push_model.specs.Client.{Client}
use Rattle.cause_laws.specs.push_model.specs.Shown.{sdu_shows}
use Rattle.cause_laws.specs.world_model.specs.Machines.{Heard}
use Rattle.cause_laws.specs.world_model.specs.PerLink.{Linkage}
use Rattle.cause_laws.specs.host_model.specs.Circumstances.{Circumstance}
use Rattle.cause_laws.specs.host_model.specs.Clients.{ClientProfile, client_profile}
use Rattle.cause_laws.specs.host_model.specs.Hosts.{Host, hear}
use Rattle.cause_laws.specs.host_model.specs.Machines.{upper}
use Rattle.cause_laws.specs.host_laws.specs.Leaving.{is_off}
use Rattle.cause_laws.specs.host_laws.proofs.Asking.{hosts_ask}
use Rattle.unit_laws.specs.scenario_laws.specs.Coming.{LastIsUp}
use Rattle.unit_laws.specs.scenario_laws.specs.Parties.{party_of}
use Rattle.unit_laws.specs.scenario_laws.specs.host_laws.specs.OverLinks.{parts}
use Rattle.unit_laws.specs.scenario_laws.proofs.Wishes.{states_frame}
use Rattle.cause_laws.specs.FirstCauses.{is_piece_packet}
use Rattle.cause_laws.specs.Said.{Decision, decision_of, Brings}
use Rattle.cause_laws.proofs.Hearings.{IsReadUp, is_read_up}
use Rattle.cause_laws.proofs.Saying.{Says, sdu_says}
use Rattle.unit_laws.specs.Units.{Lined, Occasion, units, lone_capture, HasSaidAll, Runs, Whatever, ComesInTurn, starting}
use Rattle.unit_laws.specs.Living.{Did, HaveCommands}
use Rattle.unit_laws.proofs.Holding.{talks-on}
use Rattle.unit_laws.proofs.Hearing.{heard_shown, news_adds}
use Rattle.unit_laws.proofs.Living.{LivedCalmly, clients_lived}
use Rattle.unit_laws.proofs.Running.{lines_are_read, lone_moves}
use Rattle.unit_laws.proofs.Shown.{shown}
use Rattle.outcome_laws.proofs.Units.{TellsSo, unit_tells}
use Rattle.outcome_laws.specs.SaidWith.{IsSaidWith}
use Rattle.outcome_laws.proofs.Deciding.{Decides, decides}
use Rattle.outcome_laws.proofs.Links.{OnLast, on_last}

-- ---- a run

abbrev pub One : Type 0
One = Occasion Circumstance

abbrev pub At : Type 0
At = Lined (Host ClientProfile)

-- whatever holds of each
pub anyway : (settings : Settings) (list : List One) (old new : At) → Runs (upper (client_profile settings)) (ComesInTurn (upper (client_profile settings))) list old new → Runs (upper (client_profile settings)) Whatever list old new
anyway settings [] old new is = is
anyway settings (one ∷ list) old new (mid, turn, happens, rest) = (mid, tt, happens, anyway settings list mid new rest)

-- ---- where an SDU shows an outcome

-- a push goes on there
shows_on : (stage : Stage) (psm : ℕ) (sdu : List ℕ) (client : Client) (outcome : Outcome) → sdu_shows stage psm sdu client ≡ Some outcome → is_off stage ≡ false
shows_on Search psm sdu client outcome is = refl
shows_on (ObjectChannel point) psm sdu client outcome is = refl
shows_on Object psm sdu client outcome is = refl
shows_on (ObjectEnd point) psm sdu client outcome is = refl
shows_on stage psm sdu client outcome is = cc

shown_says : (settings : Settings) (ahead : List Saying) (psm : ℕ) (sdu : List ℕ) (outcome : Outcome) (decision : Decision) → decision_of outcome ≡ Some decision → Says settings.transport ahead psm sdu (Some outcome) → Brings settings.transport decision ahead psm sdu
shown_says settings ahead psm sdu outcome decision said says = subst (λ (found : Option Decision). IfSome found (λ one. Brings settings.transport one ahead psm sdu)) said says

-- ---- the PDU

-- it is not for the signalling channel, and no channel is where there are none
not_signal : (pdu : List ℕ) (v : Channels) (own psm : ℕ) (sdu : List ℕ) → up (channel_of pdu) pdu v ≡ Received own psm sdu → eqb (channel_of pdu) 0x0001 ≡ false
not_signal pdu v own psm sdu is = by (eqb (channel_of pdu) 0x0001) is
  where
    by : (signals : Bool) → cond signals Nothing (up_at (channel_of pdu) pdu v) ≡ Received own psm sdu → signals ≡ false
    by true brought = cc
    by false brought = refl

none_up : {X : Type 0} (pdu : List ℕ) (v : Channels) (own psm : ℕ) (sdu : List ℕ) → v ≡ no_channels → up (channel_of pdu) pdu v ≡ Received own psm sdu → X
none_up {X} pdu v own psm sdu none is = by (eqb (channel_of pdu) 0x0001) (ap (λ (w : Channels). up (channel_of pdu) pdu w) (sym none) ∙ is)
  where
    by : (signals : Bool) → cond signals Nothing (up_at (channel_of pdu) pdu no_channels) ≡ Received own psm sdu → X
    by true brought = absurd cc
    by false brought = absurd cc

-- what it adds to the talk of its link
abbrev came_in : List ℕ → Pdu
came_in octets = record { flow = Into; octets = octets }

said_one : (octets : List ℕ) → eqb (channel_of octets) 0x0001 ≡ false → said_by (came_in octets) ≡ Carried Into octets ∷ []
said_one octets apart = ap (λ (b : Bool). if b then map (Command Into) (answers (drop 4 octets)) else Carried Into octets ∷ []) apart

record Grows (before : Link) (octets : List ℕ) (found : Option Link) : Type 0 where
  after : Link
  is : found ≡ Some after
  whole : talk after ≡ talk before ++ Carried Into octets ∷ []

grows : (before : Link) (octets : List ℕ) (found : Option Link) → eqb (channel_of octets) 0x0001 ≡ false → option_map pdus found ≡ Some (pdus before ++ came_in octets ∷ []) → Grows before octets found
grows before octets None apart is = cc
grows before octets (Some after) apart is =
    let same : pdus after ≡ pdus before ++ came_in octets ∷ [] = cc in
    record {
      after = after;
      is = refl;
      whole = ap (flat_map said_by) same
          ∙ (flat_map-append said_by (pdus before) (came_in octets ∷ []) ∙ ap (λ (l : List Saying). talk before ++ l) (append-nil (said_by (came_in octets)) ∙ said_one octets apart));
    }

-- ---- with a piece

module _ (settings : Settings) (occasions : List One) (old : At) (did : Did (client_profile settings) Paging occasions old) (have : HaveCommands A (lone_capture A (units occasions))) where
  abbrev lived : LivedCalmly (client_profile settings) (hosts_ask.clients settings) A occasions old
  lived = clients_lived settings (hosts_ask.clients settings) occasions old did have

  abbrev list : List Occurrence
  list = lived.lives.fed.so.lives.now

  abbrev said : List Saying
  said = (run_of (policy settings false) list).said

  pub none_told : old.upper.channels.events ≡ []
  none_told = lived.lives.fed.so.lives.all_told

  up_is : link_up A (lone_capture A (units occasions)) ≡ (linking (units occasions)).up
  up_is = ap (λ (l : List Move). (linking l).up) (lone_moves A (units occasions))

  -- where it has said all, and its push goes on, its own talk is that of the link
  own_talk : (link : Link) → (linking (units occasions)).up ≡ Some link → HasSaidAll (upper (client_profile settings)) old → is_off old.upper.profile.client.stage ≡ false → said ≡ talk link
  own_talk link up all on =
      let here = up_is ∙ up in
      let talks = talks-on (client_profile settings) (hosts_ask.clients settings) (party_of settings A) (states_frame settings false A) A occasions old lived link here (subst (LastIsUp (parts lived.came.talk)) here lived.came.last) in
      let last = on_last settings lived.came.talk old.upper lived.lives.fed on in
      sym last.keeps ∙ (talks.talk_is ∙ (ap (λ (l : List Saying). talk link ++ l) (talks.none all) ∙ append-nil (talk link)))

  module _ (gifts : List Circumstance) (piece : Packet) (channel : ℕ) (octets : List ℕ) (tells : news_of piece old.line ≡ Whole channel octets) (all : HasSaidAll (upper (client_profile settings)) old) (outcome : Outcome) (decision : Decision) (said_is : decision_of outcome ≡ Some decision)
      (none : old.upper.profile.client.cause ≡ None) (some : (hear (client_profile settings) gifts (Heard octets) old.upper).profile.client.cause ≡ Some outcome) where
    pub it : Decides settings octets old.upper outcome
    it = decides settings gifts octets old.upper outcome decision none some said_is

    on : is_off old.upper.profile.client.stage ≡ false
    on = shows_on old.upper.profile.client.stage it.psm it.sdu old.upper.profile.client outcome it.shows

    last : OnLast settings list old.upper.profile
    last = on_last settings lived.came.talk old.upper lived.lives.fed on

    brought : up (channel_of octets) octets (run_of (policy settings false) list).value ≡ Received it.own it.psm it.sdu
    brought = ap (λ (v : Channels). up (channel_of octets) octets v) (sym lived.lives.fed.so.lives.channels_run) ∙ it.brought

    read : IsReadUp said (party_of settings A) it.psm octets it.sdu
    read = is_read_up (policy settings false) (party_of settings A) list octets it.own it.psm it.sdu (states_frame settings false A) brought

    brings : Brings settings.transport decision said it.psm it.sdu
    brings =
        shown_says settings said it.psm it.sdu outcome decision said_is
        (subst (Says settings.transport said it.psm it.sdu) it.shows
        (sdu_says settings.transport said it.psm it.sdu old.upper.profile.client last.known.over.0 last.known.walk last.known.held old.upper.profile.client.stage last.known.stands))

    stands : Stands (units occasions) old.line
    stands = lines_are_read (upper (client_profile settings)) Paging occasions old (anyway settings occasions (starting (upper (client_profile settings)) Paging) old did)

    adds : (link : Link) → (linking (units occasions)).up ≡ Some link → option_map pdus (linking (units occasions ++ into piece ∷ [])).up ≡ Some (pdus link ++ came_in octets ∷ [])
    adds link up =
        ap (λ (l : Linkage). l.up) ((heard_shown (units occasions) old.line piece stands).adds ∙ ap (λ (news : PlainNews). news_adds news (shown (linking (units occasions)))) tells)
        ∙ ap (λ (u : Option Link). option_map (λ (now : List Pdu). now ++ came_in octets ∷ []) (option_map pdus u)) up

    told_piece : is_piece_packet piece ≡ true
    told_piece = subst (λ (news : PlainNews). TellsSo news piece) tells (unit_tells piece old.line)

    -- it is said so, and that is the SDU which the channels hand up
    pub record SaidAs : Type 0 where
      pub said : IsSaidWith settings decision (units occasions) piece
      pub psm_is : said.entry.channel.psm ≡ it.psm
      pub sdu_is : said.octets ≡ it.sdu

    on_link : (link : Link) → (linking (units occasions)).up ≡ Some link → SaidAs
    on_link link up =
        let same = own_talk link up all on in
        let more = grows link octets (linking (units occasions ++ into piece ∷ [])).up (not_signal octets old.upper.channels it.own it.psm it.sdu it.brought) (adds link up) in
        record {
          said = record {
            is_piece = told_piece;
            before = link;
            up_before = up;
            after = more.after;
            up_after = more.is;
            pdu = octets;
            whole = more.whole;
            entry = read.entry;
            found = subst (λ (l : List Saying). read_at (channel_of octets) (reading l).entries ≡ Some read.entry) same read.found;
            earlier = read.earlier;
            octets = it.sdu;
            later = read.later;
            sdus_are = subst (λ (l : List Saying). sdus (party_of settings A) read.entry.channel Into l ≡ read.earlier ++ it.sdu ∷ read.later) (ap (λ (l : List Saying). l ++ Carried Into octets ∷ []) same ∙ sym more.whole) read.sdus_are;
            brings = subst (λ (psm : ℕ). Brings settings.transport decision (talk link) psm it.sdu) (sym read.psm_is) (subst (λ (l : List Saying). Brings settings.transport decision l it.psm it.sdu) same brings);
          };
          psm_is = read.psm_is;
          sdu_is = refl;
        }

    at : (found : Option Link) → (linking (units occasions)).up ≡ found → SaidAs
    at None is = none_up octets old.upper.channels it.own it.psm it.sdu (lived.off (up_is ∙ is)) it.brought
    at (Some link) is = on_link link is

    pub said_as : SaidAs
    said_as = at (linking (units occasions)).up refl

    pub said_with : IsSaidWith settings decision (units occasions) piece
    said_with = said_as.said
