-- With the calls of a maker impulses come to a host, and so its ledger is what its units say.
use Rattle.std.proofs.Common.{◌≡◌, ℕ, List, [], ◌∷◌, ◌++◌, map, Option, Some, None, Ok, refl, sym, ap, ap₂, subst, ◌∙◌, append_assoc, arith}
use Rattle.std.specs.Prelude.{MatchOption, Result, Err}
use Rattle.std.specs.List.{AllByRecursion}
use Rattle.std.proofs.lemmas.List.{append-nil}
use Rattle.std.proofs.lemmas.List.Concat.{flat_map-append}
use Rattle.bt_host.specs.bt_base.specs.declared.settings.Settings.{Settings}
use Rattle.unit_laws.specs.scenario_laws.specs.h4_framing.specs.Packets.{Packet, Command, spellings, IsPacket}
use Rattle.unit_laws.specs.scenario_laws.specs.h4_framing.specs.Stream.{IsUnfinished}
use Rattle.unit_laws.specs.scenario_laws.specs.h4_framing.proofs.OctetLists.{IsOctets-nil, IsOctets-cons}
use Rattle.unit_laws.specs.scenario_laws.specs.h4_framing.proofs.FaultLemmas.{spellings_append}
use Rattle.bt_host.specs.host_link.specs.PuttingOut.{started}
use Rattle.bt_host.specs.host_link.specs.declared.role.Role.{Role}
use Rattle.bt_host.specs.host_link.specs.declared.role.Role.TheVariants.{Client, Server}
use Rattle.bt_host.specs.host_model.specs.Circumstances.{Circumstance}
use Rattle.bt_host.specs.host_model.specs.Profiles.{Profile}
use Rattle.bt_host.specs.declared.feed_refusal.FeedRefusal.{FeedRefusal}
use Rattle.bt_host.specs.NotedHosts.{noted_client, noted_server, client_noting, server_noting}
use Rattle.bt_host.specs.Playing.{fresh_client, fresh_server}
use Rattle.bt_host.specs.Pushing as pushed
use Rattle.bt_host.specs.PushingLaws.{Answers}
use Rattle.bt_host.specs.Refusals.{acl_limit}
use Rattle.bt_host.specs.Serving as served
use Rattle.bt_host.specs.Serving.{Asks}
use Rattle.bt_host.specs.Shells.{Shelled, settings_of, moment_of, FeedsOn}
use Rattle.bt_host.specs.Stacks.{Stacked, Moment, HearsAll, usual_peer}
use Rattle.call_laws.specs.HostCalls.{HostCall, Feed, OnTimer, Push, Cancel, PutOut, Taken, PageDevice, piece_of, fed_in, Calls, HasCalls, impulses_of, AreImpulses}
use Rattle.call_laws.specs.Impulses.{Impulse, Hears, IsDevice, HasImpulses, heard_of, heard_in}
use Rattle.call_laws.specs.Laws.{LendsAsMoved, ClientsLend, ServersLend}
use Rattle.call_laws.proofs.Along.{line_is_read}

heard_all : (packets : List Packet) → heard_in (map Hears packets) ≡ packets
heard_all [] = refl
heard_all (packet ∷ packets) = ap (λ (more : List Packet). packet ∷ more) (heard_all packets)

-- no octet is the beginning of a packet
nothing_held : IsUnfinished acl_limit []
nothing_held = (Command 0 [], (1 ∷ 0 ∷ 0 ∷ 0 ∷ [], (omega arith, omega arith, IsOctets-nil), (λ same. cc), refl))

module _ {E S P : Type 0} (A : Profile S) (Answered : P → List Circumstance → P → Type 0) (pushing : E → P → List Circumstance → S) where
  impulses_then : (xs ys : List Impulse) (old mid new : Stacked E) → HasImpulses A Answered pushing xs old mid → HasImpulses A Answered pushing ys mid new → HasImpulses A Answered pushing (xs ++ ys) old new
  impulses_then [] ys old mid new first second = subst (λ (s : Stacked E). HasImpulses A Answered pushing ys s new) first second
  impulses_then (x ∷ xs) ys old mid new (next, port, port', one, more) second = (next, port, port', one, impulses_then xs ys next mid new more second)

  packets_heard : (packets : List Packet) (old new : Moment E P) → AllByRecursion (IsPacket acl_limit) packets → HearsAll A Answered pushing packets old new → HasImpulses A Answered pushing (map Hears packets) old.stack new.stack
  packets_heard [] old new each hears = ap (λ (m : Moment E P). m.stack) hears
  packets_heard (packet ∷ packets) old new each (mid, one, more) = (mid.stack, old.port, mid.port, (each.0, one), packets_heard packets mid new each.1 more)

module _ {E S P : Type 0} (profile : Settings → Profile S) (Answered : P → List Circumstance → P → Type 0) (Lacked : P → P → Type 0) (pushing : E → P → List Circumstance → S) where
  -- with one call
  record ComesWith (call : HostCall) (old new : Shelled E) : Type 0 where
    packets : List Packet
    has : HasImpulses (profile (settings_of old)) Answered pushing (impulses_of call packets) old.stack new.stack
    whole : old.framing.held ++ piece_of call ≡ spellings (heard_in (impulses_of call packets)) ++ new.framing.held
    unfinished : IsUnfinished acl_limit old.framing.held → IsUnfinished acl_limit new.framing.held
    settings : settings_of new ≡ settings_of old

  abbrev pub done : Result (Unit {0}) FeedRefusal
  done = Ok tt

  -- nothing is refused
  pub fed_by : (Fed Same Left : Type 0) (refusal : Option FeedRefusal) → MatchOption refusal Fed (λ r. (done ≡ Err r) × Same × Left) → Fed
  fed_by Fed Same Left None fed = fed
  fed_by Fed Same Left (Some refusal) (never, same, left) = absurd cc

  fed : (piece : List ℕ) (old new : Shelled E) (port port' : P) → FeedsOn (profile (settings_of old)) Answered Lacked pushing piece old.framing new.framing (moment_of old port) (moment_of new port') (Ok tt) → settings_of new ≡ settings_of old
      → ComesWith (Feed piece) old new
  fed piece old new port port' (mid, goes, takes) same =
      let rest_is = ap (λ f. f.held) takes.taken.framing_is in
      record {
        packets = takes.packets;
        has = (mid.stack, port, mid.port, goes, packets_heard (profile (settings_of old)) Answered pushing takes.packets mid (moment_of new port') takes.taken.read.each takes.hears);
        whole = takes.taken.read.octets ∙ ap₂ (λ (packets : List Packet) (held : List ℕ). spellings packets ++ held) (sym (heard_all takes.packets)) (sym rest_is);
        unfinished = λ before. subst (IsUnfinished acl_limit) (sym rest_is) takes.taken.unfinished;
        settings = same;
      }

  -- nothing is fed
  aside : (call : HostCall) (old new : Shelled E) → piece_of call ≡ [] → heard_in (impulses_of call []) ≡ [] → HasImpulses (profile (settings_of old)) Answered pushing (impulses_of call []) old.stack new.stack → new.framing.held ≡ old.framing.held → settings_of new ≡ settings_of old
      → ComesWith call old new
  aside call old new none silent has held same = record {
    packets = [];
    has = has;
    whole = ap (λ (piece : List ℕ). old.framing.held ++ piece) none ∙ (append-nil old.framing.held ∙ (sym held ∙ ap (λ (packets : List Packet). spellings packets ++ new.framing.held) (sym silent)));
    unfinished = λ before. subst (IsUnfinished acl_limit) (sym held) before;
    settings = same;
  }

  comes_with : (call : HostCall) (old new : Shelled E) (port port' : P) → Calls profile Answered Lacked pushing call old new port port' → ComesWith call old new
  comes_with (Feed piece) old new port port' (feeds, rests) = fed piece old new port port' (fed_by _ (new ≡ old) (port' ≡ port) old.refusal feeds).0 rests.settings
  comes_with OnTimer old new port port' (hears, (rests, stays)) = aside OnTimer old new refl refl (new.stack, port, port', (tt, hears), refl) (ap (λ (h : Shelled E). h.framing.held) stays) rests.settings
  comes_with (Push name) old new port port' (hears, (rests, stays)) = aside (Push name) old new refl refl (new.stack, port, port', (tt, hears), refl) (ap (λ (h : Shelled E). h.framing.held) stays) rests.settings
  comes_with Cancel old new port port' (hears, (rests, stays)) = aside Cancel old new refl refl (new.stack, port, port', (tt, hears), refl) (ap (λ (h : Shelled E). h.framing.held) stays) rests.settings
  comes_with PutOut old new port port' (goes, (rests, stays)) = aside PutOut old new refl refl (new.stack, port, port', goes, refl) (ap (λ (h : Shelled E). h.framing.held) stays) rests.settings
  comes_with (Taken count) old new port port' (few, is) =
      aside (Taken count) old new refl refl (new.stack, port, port', ap (λ (h : Shelled E). h.stack) is, refl) (ap (λ (h : Shelled E). h.framing.held) is) (ap (λ (h : Shelled E). settings_of h) is)
  comes_with (PageDevice address) old new port port' (device, is) =
      aside (PageDevice address) old new refl refl (new.stack, port, port', (device, ap (λ (h : Shelled E). h.stack) is), refl) (ap (λ (h : Shelled E). h.framing.held) is) (ap (λ (h : Shelled E). settings_of h) is)

  -- ---- one after the other

  record Come (calls : List HostCall) (old new : Shelled E) : Type 0 where
    impulses : List Impulse
    come : AreImpulses profile Answered pushing calls old new impulses

  whole_then : (held one more mid last : List ℕ) (xs ys : List Packet) → held ++ one ≡ spellings xs ++ mid → mid ++ more ≡ spellings ys ++ last → held ++ (one ++ more) ≡ spellings (xs ++ ys) ++ last
  whole_then held one more mid last xs ys first second =
      sym (append_assoc held one more)
      ∙ (ap (λ (octets : List ℕ). octets ++ more) first
      ∙ (append_assoc (spellings xs) mid more
      ∙ (ap (λ (octets : List ℕ). spellings xs ++ octets) second ∙ (sym (append_assoc (spellings xs) (spellings ys) last) ∙ ap (λ (octets : List ℕ). octets ++ last) (sym (spellings_append xs ys))))))

  come_along : (calls : List HostCall) (old new : Shelled E) → HasCalls profile Answered Lacked pushing calls old new → Come calls old new
  come_along [] old new has = record {
    impulses = [];
    come = record {
      has = ap (λ (h : Shelled E). h.stack) has;
      come = refl;
      whole = append-nil old.framing.held ∙ sym (ap (λ (h : Shelled E). h.framing.held) has);
      unfinished = λ before. subst (λ (h : Shelled E). IsUnfinished acl_limit h.framing.held) (sym has) before;
    };
  }
  come_along (call ∷ calls) old new (mid, port, port', one, more) =
      let first = comes_with call old mid port port' one in
      let behind = come_along calls mid new more in
      let here = impulses_of call first.packets in
      record {
        impulses = here ++ behind.impulses;
        come = record {
          has = impulses_then (profile (settings_of old)) Answered pushing here behind.impulses old.stack mid.stack new.stack first.has
              (subst (λ (settings : Settings). HasImpulses (profile settings) Answered pushing behind.impulses mid.stack new.stack) first.settings behind.come.has);
          come = (first.packets, behind.impulses, behind.come.come, refl);
          whole = whole_then old.framing.held (piece_of call) (fed_in calls) mid.framing.held new.framing.held (heard_in here) (heard_in behind.impulses) first.whole behind.come.whole
              ∙ ap (λ (packets : List Packet). spellings packets ++ new.framing.held) (sym (flat_map-append heard_of here behind.impulses));
          unfinished = λ before. behind.come.unfinished (first.unfinished before);
        };
      }

  lends : (role : Role) (calls : List HostCall) (first now : Shelled E) → HasCalls profile Answered Lacked pushing calls first now → first.stack.line ≡ started role → IsDevice first.stack.paged → first.framing.held ≡ []
      → LendsAsMoved profile Answered pushing role calls first now
  lends role calls first now has is device none =
      let came = come_along calls first now has in
      let line = line_is_read (profile (settings_of first)) Answered pushing role came.impulses first.stack now.stack came.come.has is device in
      record {
        impulses = came.impulses;
        come = came.come;
        unfinished = came.come.unfinished (subst (IsUnfinished acl_limit) (sym none) nothing_held);
        moves = line.moves;
        move = line.move;
        read = line.read;
      }

pub usual_device : IsDevice usual_peer
usual_device = record { six = refl; octets = IsOctets-cons 0x0B (0 ∷ 0 ∷ 0 ∷ 0 ∷ 0 ∷ []) (omega arith) (IsOctets-cons 0 (0 ∷ 0 ∷ 0 ∷ 0 ∷ []) (omega arith) (IsOctets-cons 0 (0 ∷ 0 ∷ 0 ∷ []) (omega arith) (IsOctets-cons 0 (0 ∷ 0 ∷ []) (omega arith) (IsOctets-cons 0 (0 ∷ []) (omega arith) (IsOctets-cons 0 [] (omega arith) IsOctets-nil))))) }

pub clients_lend : {P : Type 0} → ClientsLend P
clients_lend {P} content faults shortages settings calls now has =
    lends noted_client (Answers content faults shortages) (pushed.Lacks shortages) (client_noting content) Client calls (fresh_client settings) now has refl usual_device refl

pub servers_lend : {P : Type 0} → ServersLend P
servers_lend {P} content faults shortages settings calls now has =
    lends noted_server (Asks faults shortages) (served.Lacks shortages) (server_noting content) Server calls (fresh_server settings) now has refl usual_device refl
