-- A host without a link has no channels, whatever came to it and whatever its ports are.
use Rattle.std.proofs.Common.{◌≡◌, true, false, List, [], ◌∷◌, ◌++◌, map, Some, None, refl, sym, ap, subst, ◌∙◌, true≢false}
use Rattle.call_laws.specs.bt_host.specs.bt_base.specs.declared.settings.Settings.{Settings}
use Rattle.call_laws.specs.bt_host.specs.capture.specs.Moves.{Move}
use Rattle.call_laws.specs.bt_host.specs.host_link.specs.Hearing.{PlainNews, Nothing, LinkUp, LinkFailed, LinkDown, Pdu, news_of, heard}
use Rattle.call_laws.specs.bt_host.specs.host_link.specs.Lines.{Line}
use Rattle.call_laws.specs.bt_host.specs.host_model.specs.Circumstances.{Circumstance}
use Rattle.call_laws.specs.bt_host.specs.host_model.specs.Hosts.{Host}
use Rattle.call_laws.specs.bt_host.specs.host_model.specs.Machines.{upper}
use Rattle.call_laws.specs.bt_host.specs.host_model.specs.Profiles.{Profile}
use Rattle.call_laws.specs.bt_host.specs.host_model.specs.Servers.{ServerProfile}
use Rattle.call_laws.specs.bt_host.specs.Noting.{Noted}
use Rattle.call_laws.specs.bt_host.specs.NotedHosts.{noted_client, noted_server}
use Rattle.call_laws.specs.bt_host.specs.Shelving.{Shelved, in_memory}
use Rattle.call_laws.specs.bt_host.specs.shelf_model.specs.Held.{given_by, held_by}
use Rattle.call_laws.specs.unit_laws.specs.scenario_laws.specs.host_laws.specs.Acts.{Hears}
use Rattle.call_laws.specs.unit_laws.specs.scenario_laws.specs.world_model.specs.Machines.{Upper, News, Down, Linked, Failed, Heard, TimerFired, Cancelled, Opening}
use Rattle.call_laws.specs.unit_laws.specs.scenario_laws.proofs.Unlinked.{Keeps, Off, act_off}
use Rattle.call_laws.specs.unit_laws.specs.scenario_laws.proofs.UnlinkedClients.{HasNoLink, clients_keep}
use Rattle.call_laws.specs.unit_laws.specs.scenario_laws.proofs.UnlinkedServers.{KnowsNone, servers_keep}
use Rattle.call_laws.specs.unit_laws.specs.Units.{Lined, Occasion, Comes, Learns, Says, Puts, Commands, Waits, units_of, hears_line, IsOwnNews, Happens, Runs}
use Rattle.call_laws.specs.unit_laws.proofs.Lining.{LineAs, heard_line}
use Rattle.call_laws.specs.unit_laws.proofs.Running.{LineAt, happens_line}

module _ {P : Type 0} (A : Profile P) (Q : P → Type 0) (keeps : Keeps A Q) where
  abbrev U : Upper (Host P) Circumstance
  U = upper A

  -- where its link is down
  abbrev pub OffAt : Lined (Host P) → Type 0
  OffAt now = now.line.link ≡ None → Off A Q keeps now.upper

  -- news that leave the link as it is
  abbrev StaysDown : News → Type 0
  StaysDown (Linked event) = ⊥
  StaysDown (Failed status) = Unit {0}
  StaysDown (Heard pdu) = ⊥
  StaysDown TimerFired = Unit {0}
  StaysDown Cancelled = Unit {0}
  StaysDown (Opening name) = Unit {0}

  hears_off : (gifts : List Circumstance) (news : News) (old : Host P) → StaysDown news → Off A Q keeps old → Off A Q keeps (U.hear gifts news old)
  hears_off gifts (Linked event) old stays off = absurd stays
  hears_off gifts (Failed status) old stays off = act_off A Q keeps (Hears gifts (Failed status)) false old (U.hear gifts (Failed status) old) refl tt (λ down. off) refl
  hears_off gifts (Heard pdu) old stays off = absurd stays
  hears_off gifts TimerFired old stays off = act_off A Q keeps (Hears gifts TimerFired) false old (U.hear gifts TimerFired old) refl tt (λ down. off) refl
  hears_off gifts Cancelled old stays off = act_off A Q keeps (Hears gifts Cancelled) false old (U.hear gifts Cancelled old) refl tt (λ down. off) refl
  hears_off gifts (Opening name) old stays off = act_off A Q keeps (Hears gifts (Opening name)) false old (U.hear gifts (Opening name) old) refl tt (λ down. off) refl

  comes_off : (news : PlainNews) (gifts : List Circumstance) (old : Lined (Host P)) (line : Line) → LineAs news old.line line → OffAt old → line.link ≡ None → Off A Q keeps (hears_line U gifts news old.upper)
  comes_off Nothing gifts old line shape off none = off (sym shape.link.link ∙ none)
  comes_off LinkUp gifts old line shape off none = let never : None ≡ Some shape.link.handle = sym none ∙ shape.link.link in absurd cc
  comes_off (LinkFailed status) gifts old line shape off none = hears_off gifts (Failed status) old.upper tt (off (sym shape.link.link ∙ none))
  comes_off (LinkDown reason) gifts old line shape off none =
      act_off A Q keeps (Hears gifts (Linked (Down reason))) true old.upper (U.hear gifts (Linked (Down reason)) old.upper) refl refl (λ down. absurd (true≢false down)) refl
  comes_off (Pdu channel octets) gifts old line shape off none = let never : None ≡ Some shape.link.handle = sym none ∙ (shape.link.stays.link ∙ shape.link.on) in absurd cc

  learns_off : (gifts : List Circumstance) (news : News) (old : Host P) → IsOwnNews news → Off A Q keeps old → Off A Q keeps (U.hear gifts news old)
  learns_off gifts (Linked event) old own off = absurd own
  learns_off gifts (Failed status) old own off = absurd own
  learns_off gifts (Heard pdu) old own off = absurd own
  learns_off gifts TimerFired old own off = hears_off gifts TimerFired old tt off
  learns_off gifts Cancelled old own off = hears_off gifts Cancelled old tt off
  learns_off gifts (Opening name) old own off = hears_off gifts (Opening name) old tt off

  happens_off : (past : List Move) (occasion : Occasion Circumstance) (old new : Lined (Host P)) → Happens U occasion old new → LineAt past old.line → OffAt old → OffAt new
  happens_off past (Comes gifts unit) old new (fault, is) at off =
      subst OffAt (sym is) (λ none. comes_off (news_of unit old.line) gifts old (heard unit old.line) (heard_line unit old.line fault at.fit) off none)
  happens_off past (Learns gifts news) old new (own, is) at off = subst OffAt (sym is) (λ none. learns_off gifts news old.upper own (off none))
  happens_off past (Says pdu) old new says at off = λ none. let never : None ≡ Some says.handle = sym none ∙ (ap (λ (l : Line). l.link) says.line_is ∙ says.link) in absurd cc
  happens_off past (Puts handle piece) old new puts at off = λ none. let never : None ≡ Some handle = sym none ∙ (ap (λ (l : Line). l.link) puts.line_is ∙ puts.link) in absurd cc
  happens_off past (Commands command) old new puts at off = λ none. subst (Off A Q keeps) (sym puts.upper_is) (off (sym (ap (λ (l : Line). l.link) puts.line_is) ∙ none))
  happens_off past Waits old new waits at off = λ none. subst (Off A Q keeps) (sym waits.upper_is) (off (sym (ap (λ (l : Line). l.link) waits.line_is) ∙ none))

  pub runs_off : (R : Occasion Circumstance → Lined (Host P) → Type 0) (past : List Move) (occasions : List (Occasion Circumstance)) (old new : Lined (Host P)) → Runs U R occasions old new → LineAt past old.line → OffAt old → OffAt new
  runs_off R past [] old new is at off = subst OffAt (sym is) off
  runs_off R past (occasion ∷ occasions) old new (mid, so, happens, rest) at off =
      runs_off R (past ++ units_of occasion) occasions mid new rest (happens_line U past occasion old mid happens at) (happens_off past occasion old mid happens at off)

-- ---- both hosts

abbrev pub NoClientLink : Noted Shelved → Type 0
NoClientLink noted = HasNoLink noted.end.pushing

abbrev pub NoServerLink : Noted ServerProfile → Type 0
NoServerLink noted = KnowsNone noted.end

pub noted_client_keeps : (settings : Settings) → Keeps (noted_client settings) NoClientLink
noted_client_keeps settings =
    let keeps = clients_keep settings in
    record {
      first = keeps.first;
      given = λ circumstances noted same. keeps.given (map (given_by noted.end.shelf) (map in_memory circumstances)) noted.end.pushing same;
      down = λ circumstances reason noted. keeps.down (held_by noted.end.shelf (Linked (Down reason)) (map in_memory circumstances)) reason noted.end.pushing;
      aside = λ circumstances news noted aside same. keeps.aside (held_by noted.end.shelf news (map in_memory circumstances)) news noted.end.pushing aside same;
      sent = λ noted same. keeps.sent noted.end.pushing same;
      steps = λ noted same. keeps.steps noted.end.pushing same;
      quiet = λ noted same. keeps.quiet noted.end.pushing same;
    }

pub noted_server_keeps : (settings : Settings) → Keeps (noted_server settings) NoServerLink
noted_server_keeps settings =
    let keeps = servers_keep settings None in
    record {
      first = keeps.first;
      given = λ circumstances noted none. none;
      down = λ circumstances reason noted. keeps.down circumstances reason noted.end;
      aside = λ circumstances news noted aside none. keeps.aside circumstances news noted.end aside none;
      sent = λ noted none. keeps.sent noted.end none;
      steps = λ noted none. keeps.steps noted.end none;
      quiet = λ noted none. keeps.quiet noted.end none;
    }
