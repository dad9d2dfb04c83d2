-- All that a server in code does by itself, and what it makes of a packet, is a run of the server that it is, over units.
use Rattle.std.proofs.Common.{◌≡◌, true, false, List, [], ◌∷◌, ◌++◌, Option, None, inl, refl, sym, subst}
use Rattle.receiving.specs.bt_base.specs.declared.settings.Settings.{Settings}
use Rattle.receiving.specs.bt_base.specs.Objects.{Contents}
use Rattle.receiving.specs.h4_framing.specs.Packets.{Packet, IsPacket}
use Rattle.receiving.specs.host_link.specs.Hearing.{PlainNews, Nothing, LinkUp, LinkFailed, LinkDown, Pdu, fault_of, news_of}
use Rattle.receiving.specs.host_link.specs.Lines.{Line}
use Rattle.noting_laws.specs.world_model.specs.Machines.{Linked, Up, Down, Failed, Heard, Upper}
use Rattle.receiving.specs.host_model.specs.Circumstances.{Circumstance}
use Rattle.receiving.specs.host_model.specs.Hosts.{Host}
use Rattle.receiving.specs.host_model.specs.Machines.{upper}
use Rattle.receiving.specs.host_model.specs.Servers.{ServerProfile, server_profile}
use Rattle.receiving.specs.host_model.proofs.Orderly.{says_octets}
use Rattle.receiving.specs.bt_host.specs.Noting.{Noted}
use Rattle.receiving.specs.bt_host.specs.NotedHosts.{noted_server}
use Rattle.receiving.specs.bt_host.specs.Refusals.{acl_limit}
use Rattle.receiving.specs.bt_host.specs.Stacks.{Standing, Deed, Putting, Saying, Ending, Paging, Commanding, DoesDeed, DoesAll, after_packet}
use Rattle.receiving.specs.bt_host.specs.Uppers.{told_of, hears_told}
use Rattle.noting_laws.specs.Noting.{plain_host}
use Rattle.orderly_laws.specs.unit_laws.specs.Calls.{IsWritable, GoesBy, SaysInOctets, CallsGo}
use Rattle.orderly_laws.specs.unit_laws.specs.Units.{Lined, hears_line, IsToldInTurn}
use Rattle.orderly_laws.specs.unit_laws.proofs.Doing.{goes_none, calls_are_runs}
use Rattle.receiving.specs.Turns.{Stand, HearsOne}
use Rattle.receive_laws.specs.InTurn.{IsToldAtRest}
use Rattle.receive_laws.proofs.Alike.{IsAlike, left, hears_alike, says_alike, silent_alike, IsGranting, hears_granting, says_granting}

abbrev pub lined : Line → Host ServerProfile → Lined (Host ServerProfile)
lined line there = record { line = line; upper = there }

module _ (settings : Settings) (content : Option Contents) where
  abbrev U : Upper (Host ServerProfile) Circumstance
  U = upper (server_profile settings content)

  -- the server that it is goes to where it goes
  pub record Goes (gifts : List (List Circumstance)) (came : List Packet) (old : Lined (Host ServerProfile)) (new : Standing (Noted ServerProfile)) : Type 0 where
    pub there : Host ServerProfile
    pub alike : IsAlike settings content new.host there
    pub goes : GoesBy U gifts came old (lined new.line there)

  octets : SaysInOctets U
  octets host pdu after is = says_octets (server_profile settings content) host pdu after is

  pub calls_at : (line : Line) (there : Host ServerProfile) → IsWritable line → CallsGo U (lined line there)
  calls_at line there writable = (calls_are_runs U).calls (lined line there) octets writable

  -- ---- one thing that it does by itself

  deed_goes : (deed : Deed) (old new : Standing (Noted ServerProfile)) (there : Host ServerProfile) → DoesDeed (noted_server settings) deed old new → IsAlike settings content old.host there → IsWritable old.line → Goes [] [] (lined old.line there) new
  deed_goes Putting old new there does alike writable =
      subst (λ (s : Standing (Noted ServerProfile)). Goes [] [] (lined old.line there) s) (sym does) (record { there = there; alike = alike; goes = (calls_at old.line there writable).puts })
  deed_goes (Saying pdu) old new there does alike writable =
      let after = plain_host new.host in
      record {
        there = after;
        alike = inl refl;
        goes = subst (λ (l : Line). GoesBy U [] [] (lined old.line there) (lined l after)) (sym does.line)
            ((calls_at old.line there writable).says pdu after does.may (says_alike settings content old.host there pdu new.host alike does.next));
      }
  deed_goes Ending old new there does alike writable =
      subst (λ (s : Standing (Noted ServerProfile)). Goes [] [] (lined old.line there) s) (sym does.1) (record { there = there; alike = alike; goes = (calls_at old.line there writable).ends })
  deed_goes Paging old new there does alike writable = let never : false ≡ true = does.0.wants in absurd cc
  deed_goes Commanding old new there does alike writable =
      subst (λ (s : Standing (Noted ServerProfile)). Goes [] [] (lined old.line there) s) (sym does) (record { there = there; alike = alike; goes = (calls_at old.line there writable).commands })

  then_goes : (gifts : List (List Circumstance)) (came : List Packet) (old : Lined (Host ServerProfile)) (mid new : Standing (Noted ServerProfile)) (first : Goes gifts came old mid) → Goes [] [] (lined mid.line first.there) new → Goes gifts came old new
  then_goes gifts came old mid new first second =
      record { there = second.there; alike = second.alike; goes = (calls_are_runs U).joined gifts came old (lined mid.line first.there) (lined new.line second.there) first.goes second.goes }

  pub all_go : (deeds : List Deed) (old new : Standing (Noted ServerProfile)) (there : Host ServerProfile) → DoesAll (noted_server settings) deeds old new → IsAlike settings content old.host there → IsWritable old.line → Goes [] [] (lined old.line there) new
  all_go [] old new there does alike writable =
      subst (λ (s : Standing (Noted ServerProfile)). Goes [] [] (lined old.line there) s) (sym does) (record { there = there; alike = alike; goes = goes_none U (lined old.line there) writable })
  all_go (deed ∷ deeds) old new there (mid, one, more) alike writable =
      let first = deed_goes deed old mid there one alike writable in
      then_goes [] [] (lined old.line there) mid new first (all_go deeds mid new first.there more first.alike first.goes.writable)

  -- ---- a packet

  told_alike : (news : PlainNews) (answers : List Circumstance) (host : Host (Noted ServerProfile)) (there : Host ServerProfile) → IsAlike settings content host there
      → IsAlike settings content (hears_told (noted_server settings) answers (told_of news) host) (hears_line U (left settings content host) news there)
  told_alike Nothing answers host there alike = alike
  told_alike LinkUp answers host there alike = inl (hears_alike settings content answers (Linked Up) host there alike)
  told_alike (LinkFailed status) answers host there alike = inl (hears_alike settings content answers (Failed status) host there alike)
  told_alike (LinkDown reason) answers host there alike = inl (hears_alike settings content answers (Linked (Down reason)) host there alike)
  told_alike (Pdu channel octets) answers host there alike = inl (hears_alike settings content answers (Heard octets) host there alike)

  in_turn : (news : PlainNews) (old : Standing (Noted ServerProfile)) (there : Host ServerProfile) → IsAlike settings content old.host there → IsToldAtRest news old → IsToldInTurn U (lined old.line there) news
  in_turn Nothing old there alike told = tt
  in_turn LinkUp old there alike told = tt
  in_turn (LinkFailed status) old there alike told = record { pieces = told.pieces; none_next = silent_alike settings content old.host there alike told.none_more }
  in_turn (LinkDown reason) old there alike told = tt
  in_turn (Pdu channel _) old there alike told = record { pieces = told.pieces; none_next = silent_alike settings content old.host there alike told.none_more }

  unit_goes : (packet : Packet) (answers : List Circumstance) (old : Standing (Noted ServerProfile)) (there : Host ServerProfile) → IsPacket acl_limit packet → fault_of packet old.line ≡ None → IsToldAtRest (news_of packet old.line) old
      → IsAlike settings content old.host there → IsWritable old.line → Goes (left settings content old.host ∷ []) (packet ∷ []) (lined old.line there) (after_packet (noted_server settings) packet answers old)
  unit_goes packet answers old there is fault told alike writable =
      let gifts = left settings content old.host in
      record {
        there = hears_line U gifts (news_of packet old.line) there;
        alike = told_alike (news_of packet old.line) answers old.host there alike;
        goes = (calls_at old.line there writable).hears acl_limit gifts packet is fault (in_turn (news_of packet old.line) old there alike told);
      }

  -- a packet, and what the host does behind it
  pub packet_goes : (packet : Packet) (before after : Stand (Noted ServerProfile)) (hears : HearsOne (noted_server settings) packet before after) (rest : List Circumstance) (there : Host ServerProfile) (all : List Circumstance) → all ≡ hears.moves.used ++ rest
      → IsPacket acl_limit packet → IsToldAtRest (news_of packet (before all).line) (before all) → IsAlike settings content (before all).host there → IsWritable (before all).line → Goes (left settings content (before all).host ∷ []) (packet ∷ []) (lined (before all).line there) (after rest)
  packet_goes packet before after hears rest there all is packet_is takes alike writable =
      let mid = after_packet (noted_server settings) packet all (before all) in
      let first = unit_goes packet all (before all) there packet_is (hears.fault all) takes alike writable in
      let does = subst (λ (l : List Circumstance). DoesAll (noted_server settings) hears.moves.deeds (after_packet (noted_server settings) packet l (before l)) (after rest)) (sym is) (hears.moves.does rest) in
      then_goes (left settings content (before all).host ∷ []) (packet ∷ []) (lined (before all).line there) mid (after rest) first (all_go hears.moves.deeds mid (after rest) first.there does first.alike first.goes.writable)

  -- ---- what its inbox grants

  deed_granting : (deed : Deed) (old new : Standing (Noted ServerProfile)) → DoesDeed (noted_server settings) deed old new → IsGranting settings content old.host → IsGranting settings content new.host
  deed_granting Putting old new does all = subst (λ (s : Standing (Noted ServerProfile)). IsGranting settings content s.host) (sym does) all
  deed_granting (Saying pdu) old new does all = says_granting settings content old.host pdu new.host does.next all
  deed_granting Ending old new does all = subst (λ (s : Standing (Noted ServerProfile)). IsGranting settings content s.host) (sym does.1) all
  deed_granting Paging old new does all = subst (λ (s : Standing (Noted ServerProfile)). IsGranting settings content s.host) (sym does.1) all
  deed_granting Commanding old new does all = subst (λ (s : Standing (Noted ServerProfile)). IsGranting settings content s.host) (sym does) all

  pub all_granting : (deeds : List Deed) (old new : Standing (Noted ServerProfile)) → DoesAll (noted_server settings) deeds old new → IsGranting settings content old.host → IsGranting settings content new.host
  all_granting [] old new does all = subst (λ (s : Standing (Noted ServerProfile)). IsGranting settings content s.host) (sym does) all
  all_granting (deed ∷ deeds) old new (mid, one, more) all = all_granting deeds mid new more (deed_granting deed old mid one all)

  told_granting : (news : PlainNews) (answers : List Circumstance) (host : Host (Noted ServerProfile)) → IsGranting settings content host → IsGranting settings content (hears_told (noted_server settings) answers (told_of news) host)
  told_granting Nothing answers host all = all
  told_granting LinkUp answers host all = hears_granting settings content answers (Linked Up) host all
  told_granting (LinkFailed status) answers host all = hears_granting settings content answers (Failed status) host all
  told_granting (LinkDown reason) answers host all = hears_granting settings content answers (Linked (Down reason)) host all
  told_granting (Pdu channel octets) answers host all = hears_granting settings content answers (Heard octets) host all

  pub packet_granting : (packet : Packet) (before after : Stand (Noted ServerProfile)) (hears : HearsOne (noted_server settings) packet before after) (rest : List Circumstance) → IsGranting settings content (before (hears.moves.used ++ rest)).host → IsGranting settings content (after rest).host
  packet_granting packet before after hears rest all =
      let answers = hears.moves.used ++ rest in
      all_granting hears.moves.deeds (after_packet (noted_server settings) packet answers (before answers)) (after rest) (hears.moves.does rest) (told_granting (news_of packet (before answers).line) answers (before answers).host all)
