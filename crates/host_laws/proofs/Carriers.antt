-- What a server gains on links of either transport.
use Rattle.std.proofs.Common.{◌≡◌, ℕ, List, [], ◌∷◌, ◌++◌, map, fold, filter_map, length, Bool, true, false, cond, eqb, Option, Some, None, refl, sym, ap, ap₂, ◌∙◌, append_assoc, append-nil}
use Rattle.std.specs.List.{AllByRecursion, AllZip, cons_option}
use Rattle.std.proofs.Math.Seq.{drop-nil}
use Rattle.std.proofs.lemmas.Bool.{eqb-true}
use Rattle.std.proofs.lemmas.List.{map-append}
use Rattle.std.proofs.lemmas.List.Elements.{filter_map-append}
use Rattle.shelf_model.specs.bt_base.specs.declared.settings.Settings.{Settings}
use Rattle.shelf_model.specs.bt_base.specs.declared.settings.Transport.{Transport}
use Rattle.shelf_model.specs.bt_base.specs.declared.settings.Transport.TheVariants.{L2cap, Rfcomm}
use Rattle.shelf_model.specs.bt_base.specs.Objects.{Object, Contents}
use Rattle.shelf_model.specs.capture.specs.declared.flow.Flow.{Flow}
use Rattle.shelf_model.specs.capture.specs.declared.flow.Flow.TheVariants.{Out, Into}
use Rattle.shelf_model.specs.capture.specs.Histories.{each_after, given_by}
use Rattle.shelf_model.specs.capture.proofs.HistoryLaws.{given_by-more}
use Rattle.shelf_model.specs.obex_headers.specs.Runs.{objects_from}
use Rattle.shelf_model.specs.rfcomm_frames.specs.Multiplexing.{Passed}
use Rattle.shelf_model.specs.rfcomm_frames.specs.ObexPackets.{obex_packets}
use Rattle.shelf_model.specs.rfcomm_frames.specs.UserChannel.{user_octets}
use Rattle.shelf_model.specs.rfcomm_frames.specs.declared.connection.Role.TheVariants.{Initiator, Responder}
use Rattle.push_laws.specs.link_talk.specs.declared.party.Party.{Party}
use Rattle.push_laws.specs.link_talk.specs.Sayings.{Saying}
use Rattle.push_laws.specs.link_talk.specs.Gains.{beyond, gained}
use Rattle.push_laws.specs.link_talk.specs.ObjectsHeard.{put_within, spelled_within, objects}
use Rattle.push_laws.specs.link_talk.specs.Packets.{OverRfcomm, passed, packets_over_rfcomm, packet_with, packets_spoken}
use Rattle.push_laws.specs.link_talk.specs.Sdus.{Spoken, spoken_as, spoken_way, spoken_one_way, spoken}
use Rattle.channel_laws.specs.talk_laws.proofs.Objects.{objects-append, objects-grow}
use Rattle.channel_laws.specs.talk_laws.proofs.Passes.{drop_front}
use Rattle.push_laws.specs.push_model.specs.Client.{own_maximum}
use Rattle.push_laws.specs.push_model.specs.Server.{object_psm, rfcomm_psm}
use Rattle.push_laws.specs.Gains as clear
use Rattle.push_laws.specs.Gains.{objects_over, objects_with}
use Rattle.push_laws.specs.Occurrences.{Occurrence, Came, Went, Closed, LinkDown, Asked, Answering}
use Rattle.push_laws.specs.Readings.{came_on, passed_by, packets_over}
use Rattle.push_laws.proofs.Readings.{read, read_more, read_same, read_closed, drop_same}
use Rattle.host_laws.specs.Carriers.{links_from, links_of, move_on, ComesAside, ClosesLast, reader, CarriedLink, IsReadOn, objects_moved, HostsGainByCarriers}
use Rattle.host_laws.specs.Serving.{served}
use Rattle.host_laws.proofs.Gains.{state, state_is}
use Rattle.host_laws.proofs.OneCarrier.{one_carrier_gains}
use Rattle.host_laws.proofs.OneWay.{packets-are_sdus, into_other}
use Rattle.host_laws.proofs.Serving.{hosts_gain}
use Rattle.host_laws.proofs.Spoken.{objects-move}

-- ---- what packets spell that grow

grown : (most : ℕ) (packets more : List (List ℕ)) → spelled_within most packets ++ beyond (spelled_within most packets) (spelled_within most (packets ++ more)) ≡ spelled_within most (packets ++ more)
grown most packets more =
    let old = spelled_within most packets in
    let whole = ap (objects_from []) (map-append (put_within most) packets more) ∙ objects-append [] (map (put_within most) packets) (map (put_within most) more) in
    ap (λ (now : List Object). old ++ beyond old now) whole ∙ (ap (λ (rest : List Object). old ++ rest) (drop_front old _) ∙ sym whole)

none_beyond : (old : List Object) → beyond old [] ≡ []
none_beyond old = drop-nil (length old)

module _ (settings : Settings) (frame : ℕ) where
  abbrev muxed : Party
  muxed = reader settings frame Rfcomm

  -- the packets over RFCOMM of what came and went
  abbrev packets_in : List Spoken → List (List ℕ)
  packets_in moves = packets_over_rfcomm muxed Into moves

  abbrev direct_spelled : List (List ℕ) → List Object
  direct_spelled packets = spelled_within (own_maximum L2cap settings) packets

  abbrev carried_spelled : List Spoken → List Object
  carried_spelled moves = spelled_within (own_maximum Rfcomm settings) (packets_in moves)

  packets_more : (moves : List Spoken) (more : Spoken) → packets_in (moves ++ more ∷ []) ≡ packets_in moves ++ spoken_one_way Into (packet_with muxed OverRfcomm moves more)
  packets_more moves more =
      sym (objects-grow.whole_streams muxed Into (moves ++ more ∷ []))
      ∙ (ap (spoken_one_way Into) (given_by-more (packet_with muxed OverRfcomm) moves more)
      ∙ (filter_map-append (spoken_way Into) (given_by (packet_with muxed OverRfcomm) moves) (packet_with muxed OverRfcomm moves more)
      ∙ ap (λ ps. ps ++ spoken_one_way Into (packet_with muxed OverRfcomm moves more)) (objects-grow.whole_streams muxed Into moves)))

  carried_grown : (moves : List Spoken) (more : Spoken) → carried_spelled moves ++ beyond (carried_spelled moves) (carried_spelled (moves ++ more ∷ [])) ≡ carried_spelled (moves ++ more ∷ [])
  carried_grown moves more =
      ap (λ ps. carried_spelled moves ++ beyond (carried_spelled moves) (spelled_within (own_maximum Rfcomm settings) ps)) (packets_more moves more)
      ∙ (grown (own_maximum Rfcomm settings) (packets_in moves) (spoken_one_way Into (packet_with muxed OverRfcomm moves more)) ∙ ap (spelled_within (own_maximum Rfcomm settings)) (sym (packets_more moves more)))

  -- what goes out brings none
  out_more : (moves : List Spoken) (sdu : List ℕ) → packets_in (moves ++ spoken_as Out sdu ∷ []) ≡ packets_in moves
  out_more moves sdu =
      packets_more moves (spoken_as Out sdu) ∙ (ap (λ ps. packets_in moves ++ ps) (into_other (gained (packets_over_rfcomm muxed Out) moves (spoken_as Out sdu))) ∙ append-nil (packets_in moves))

  none_in : packets_in [] ≡ []
  none_in = sym (objects-grow.whole_streams muxed Into [])

  -- ---- what is gained over both transports

  moves_after : List Spoken → Occurrence → List Spoken
  moves_after moves (Came psm sdu) = cond (eqb psm rfcomm_psm) (moves ++ spoken_as Into sdu ∷ []) moves
  moves_after moves (Went psm sdu) = cond (eqb psm rfcomm_psm) (moves ++ spoken_as Out sdu ∷ []) moves
  moves_after moves (Closed psm) = cond (eqb psm rfcomm_psm) [] moves
  moves_after moves LinkDown = []
  moves_after moves Asked = moves
  moves_after moves (Answering answers) = moves

  abbrev new_with : List (List ℕ) → List Spoken → Occurrence → List Object
  new_with packets moves one = beyond (direct_spelled packets) (direct_spelled (state packets one)) ++ beyond (carried_spelled moves) (carried_spelled (moves_after moves one))

  gain : List (List ℕ) → List Spoken → List Occurrence → List Object
  gain packets moves [] = []
  gain packets moves (one ∷ rest) = new_with packets moves one ++ gain (state packets one) (moves_after moves one) rest

  abbrev packets_behind : List (List ℕ) → List Occurrence → List (List ℕ)
  packets_behind packets list = fold state packets list

  abbrev moves_behind : List Spoken → List Occurrence → List Spoken
  moves_behind moves list = fold moves_after moves list

  gain_both : (packets : List (List ℕ)) (moves : List Spoken) (xs ys : List Occurrence) → gain packets moves (xs ++ ys) ≡ gain packets moves xs ++ gain (packets_behind packets xs) (moves_behind moves xs) ys
  unfolding gain
  gain_both packets moves [] ys = refl
  gain_both packets moves (x ∷ xs) ys =
      ap (λ (rest : List Object). new_with packets moves x ++ rest) (gain_both (state packets x) (moves_after moves x) xs ys)
      ∙ sym (append_assoc (new_with packets moves x) (gain (state packets x) (moves_after moves x) xs) (gain (packets_behind packets (x ∷ xs)) (moves_behind moves (x ∷ xs)) ys))

  -- ---- it is what the server's law has

  abbrev Reads : List Occurrence → List Spoken → Type 0
  Reads past moves = read passed_by rfcomm_psm past ≡ map (passed muxed) moves

  passed_more : (past : List Occurrence) (moves : List Spoken) (more : Spoken) (one : Occurrence) (here : Bool) → Reads past moves
      → ((here ≡ true) → read passed_by rfcomm_psm (past ++ one ∷ []) ≡ read passed_by rfcomm_psm past ++ passed muxed more ∷ []) → (here ≡ false → read passed_by rfcomm_psm (past ++ one ∷ []) ≡ read passed_by rfcomm_psm past)
      → Reads (past ++ one ∷ []) (cond here (moves ++ more ∷ []) moves)
  passed_more past moves more one true reads adds stays = adds refl ∙ (ap (λ (ps : List Passed). ps ++ passed muxed more ∷ []) reads ∙ sym (map-append (passed muxed) moves (more ∷ [])))
  passed_more past moves more one false reads adds stays = stays refl ∙ reads

  reads_more : (past : List Occurrence) (moves : List Spoken) (one : Occurrence) → Reads past moves → Reads (past ++ one ∷ []) (moves_after moves one)
  unfolding moves_after
  reads_more past moves (Came psm sdu) reads =
      let passing : Bool → Option Passed = λ here. cond here (let one : Passed = record { from = Initiator; sdu = sdu } in Some one) None in
      passed_more past moves (spoken_as Into sdu) (Came psm sdu) (eqb psm rfcomm_psm) reads
      (λ is. read_more passed_by rfcomm_psm past (Came psm sdu) refl ∙ ap (λ b. read passed_by rfcomm_psm past ++ cons_option (passing b) []) is)
      (λ is. read_same passed_by rfcomm_psm past (Came psm sdu) refl (ap passing is))
  reads_more past moves (Went psm sdu) reads =
      let passing : Bool → Option Passed = λ here. cond here (let one : Passed = record { from = Responder; sdu = sdu } in Some one) None in
      passed_more past moves (spoken_as Out sdu) (Went psm sdu) (eqb psm rfcomm_psm) reads
      (λ is. read_more passed_by rfcomm_psm past (Went psm sdu) refl ∙ ap (λ b. read passed_by rfcomm_psm past ++ cons_option (passing b) []) is)
      (λ is. read_same passed_by rfcomm_psm past (Went psm sdu) refl (ap passing is))
  reads_more past moves (Closed psm) reads = by (eqb psm rfcomm_psm) refl
    where
      by : (closing : Bool) → eqb psm rfcomm_psm ≡ closing → Reads (past ++ Closed psm ∷ []) (cond closing [] moves)
      by true is = read_closed passed_by rfcomm_psm past (Closed psm) is
      by false is = read_same passed_by rfcomm_psm past (Closed psm) is refl ∙ reads
  reads_more past moves LinkDown reads = read_closed passed_by rfcomm_psm past LinkDown refl
  reads_more past moves Asked reads = read_same passed_by rfcomm_psm past Asked refl refl ∙ reads
  reads_more past moves (Answering answers) reads = read_same passed_by rfcomm_psm past (Answering answers) refl refl ∙ reads

  carried_over : (past : List Occurrence) (moves : List Spoken) → Reads past moves → objects_over settings Rfcomm past ≡ carried_spelled moves
  carried_over past moves reads = ap (λ (ps : List Passed). spelled_within (own_maximum Rfcomm settings) (obex_packets (user_octets 18 Responder Initiator ps))) reads

  gains_after : (past list : List Occurrence) (moves : List Spoken) → Reads past moves → each_after (objects_with settings) past list ≡ gain (packets_over L2cap past) moves list
  unfolding gain
  gains_after past [] moves reads = refl
  gains_after past (one ∷ list) moves reads =
      let next = past ++ one ∷ [] in
      let later = reads_more past moves one reads in
      ap₂ (λ (a b : List Object). a ++ b)
      (ap₂ (λ (a b : List Object). a ++ b) (ap (λ packets. beyond (direct_spelled (packets_over L2cap past)) (direct_spelled packets)) (state_is past one))
      (ap₂ (λ (a b : List Object). beyond a b) (carried_over past moves reads) (carried_over next (moves_after moves one) later)))
      (gains_after next list (moves_after moves one) later ∙ ap (λ packets. gain packets (moves_after moves one) list) (state_is past one))

  -- ---- one link

  abbrev StaysOn : Occurrence → Type 0
  StaysOn (Came psm sdu) = Unit {0}
  StaysOn (Went psm sdu) = Unit {0}
  StaysOn (Closed psm) = Unit {0}
  StaysOn LinkDown = ⊥
  StaysOn Asked = Unit {0}
  StaysOn (Answering answers) = Unit {0}

  joins : (old new other mid rest later : List Object) → old ++ new ≡ mid → other ≡ [] → mid ++ rest ≡ later → old ++ ((new ++ other) ++ rest) ≡ later
  joins old new other mid rest later first none last =
      ap (λ (x : List Object). old ++ (x ++ rest)) (ap (λ (x : List Object). new ++ x) none ∙ append-nil new) ∙ (sym (append_assoc old new rest) ∙ (ap (λ (x : List Object). x ++ rest) first ∙ last))

  abbrev IsOut : Spoken → Type 0
  IsOut one = one.flow ≡ Out

  with_out : (moves : List Spoken) (sdu : List ℕ) → AllByRecursion IsOut moves → AllByRecursion IsOut (moves ++ spoken_as Out sdu ∷ [])
  with_out [] sdu out = (refl, tt)
  with_out (one ∷ moves) sdu out = (out.0, with_out moves sdu out.1)

  outs_add : (past moves : List Spoken) → AllByRecursion IsOut moves → packets_in (past ++ moves) ≡ packets_in past
  outs_add past [] out = ap packets_in (append-nil past)
  outs_add past (one ∷ moves) out =
      let same : one ≡ spoken_as Out one.octets = ap (λ (f : Flow). let s : Spoken = record { flow = f; octets = one.octets } in s) out.0 in
      ap packets_in (sym (append_assoc past (one ∷ []) moves)) ∙ (outs_add (past ++ one ∷ []) moves out.1 ∙ (ap (λ (s : Spoken). packets_in (past ++ s ∷ [])) same ∙ out_more past one.octets))

  outs_none : (moves : List Spoken) → AllByRecursion IsOut moves → carried_spelled moves ≡ []
  outs_none moves out = ap (spelled_within (own_maximum Rfcomm settings)) (outs_add [] moves out ∙ none_in)

  -- over L2CAP

  no_came : (list : List Occurrence) → AllByRecursion (ComesAside object_psm) list → filter_map (came_on object_psm) list ≡ []
  no_came [] aside = refl
  no_came (Came psm sdu ∷ list) aside = by (eqb psm object_psm) refl (no_came list aside.1)
    where
      by : (here : Bool) → eqb psm object_psm ≡ here → filter_map (came_on object_psm) list ≡ [] → cons_option (cond here (Some sdu) None) (filter_map (came_on object_psm) list) ≡ []
      by true is none = absurd (aside.0 (eqb-true psm object_psm is))
      by false is none = none
  no_came (Went psm sdu ∷ list) aside = no_came list aside.1
  no_came (Closed psm ∷ list) aside = no_came list aside.1
  no_came (LinkDown ∷ list) aside = no_came list aside.1
  no_came (Asked ∷ list) aside = no_came list aside.1
  no_came (Answering answers ∷ list) aside = no_came list aside.1

  abbrev DirectGains : List (List ℕ) → List Spoken → List Occurrence → Type 0
  DirectGains packets moves on = direct_spelled packets ++ gain packets moves on ≡ direct_spelled (packets ++ filter_map (came_on object_psm) on)

  same_direct : (packets : List (List ℕ)) (moves moves' : List Spoken) (rest : List Occurrence) (later : List Object) → AllByRecursion IsOut moves → AllByRecursion IsOut moves' → direct_spelled packets ++ gain packets moves' rest ≡ later
      → direct_spelled packets ++ ((beyond (direct_spelled packets) (direct_spelled packets) ++ beyond (carried_spelled moves) (carried_spelled moves')) ++ gain packets moves' rest) ≡ later
  same_direct packets moves moves' rest later out out' goes =
      let old = direct_spelled packets in
      joins old (beyond old old) (beyond (carried_spelled moves) (carried_spelled moves')) old (gain packets moves' rest) later
      (ap (λ (x : List Object). old ++ x) (drop_same old) ∙ append-nil old) (ap (beyond (carried_spelled moves)) (outs_none moves' out') ∙ none_beyond (carried_spelled moves)) goes

  direct_link : (on : List Occurrence) (packets : List (List ℕ)) (moves : List Spoken) → AllByRecursion StaysOn on → AllByRecursion (ComesAside rfcomm_psm) on → ClosesLast object_psm on → AllByRecursion IsOut moves → DirectGains packets moves on
  unfolding gain moves_after
  direct_link [] packets moves stays aside last out = append-nil (direct_spelled packets) ∙ ap direct_spelled (sym (append-nil packets))
  direct_link (Came psm sdu ∷ rest) packets moves stays aside last out =
      by (eqb psm rfcomm_psm) refl (eqb psm object_psm) (direct_link rest (packets ++ sdu ∷ []) moves stays.1 aside.1 last.1 out) (direct_link rest packets moves stays.1 aside.1 last.1 out)
    where
      by : (mux : Bool) → eqb psm rfcomm_psm ≡ mux → (here : Bool) → DirectGains (packets ++ sdu ∷ []) moves rest → DirectGains packets moves rest
          → (let packets' = cond here (packets ++ sdu ∷ []) packets in let moves' = cond mux (moves ++ spoken_as Into sdu ∷ []) moves in
          direct_spelled packets ++ ((beyond (direct_spelled packets) (direct_spelled packets') ++ beyond (carried_spelled moves) (carried_spelled moves')) ++ gain packets' moves' rest)
          ≡ direct_spelled (packets ++ cons_option (cond here (Some sdu) None) (filter_map (came_on object_psm) rest)))
      by true is here more same = absurd (aside.0 (eqb-true psm rfcomm_psm is))
      by false is true more same =
          joins (direct_spelled packets) _ _ (direct_spelled (packets ++ sdu ∷ [])) (gain (packets ++ sdu ∷ []) moves rest) _ (grown (own_maximum L2cap settings) packets (sdu ∷ []))
          (drop_same (carried_spelled moves)) (more ∙ ap direct_spelled (append_assoc packets (sdu ∷ []) (filter_map (came_on object_psm) rest)))
      by false is false more same = same_direct packets moves moves rest _ out out same
  direct_link (Went psm sdu ∷ rest) packets moves stays aside last out =
      by (eqb psm rfcomm_psm) (direct_link rest packets (moves ++ spoken_as Out sdu ∷ []) stays.1 aside.1 last.1 (with_out moves sdu out)) (direct_link rest packets moves stays.1 aside.1 last.1 out)
    where
      by : (mux : Bool) → DirectGains packets (moves ++ spoken_as Out sdu ∷ []) rest → DirectGains packets moves rest
          → (let moves' = cond mux (moves ++ spoken_as Out sdu ∷ []) moves in
          direct_spelled packets ++ ((beyond (direct_spelled packets) (direct_spelled packets) ++ beyond (carried_spelled moves) (carried_spelled moves')) ++ gain packets moves' rest) ≡ direct_spelled (packets ++ filter_map (came_on object_psm) rest))
      by true more same = same_direct packets moves (moves ++ spoken_as Out sdu ∷ []) rest _ out (with_out moves sdu out) more
      by false more same = same_direct packets moves moves rest _ out out same
  direct_link (Closed psm ∷ rest) packets moves stays aside last out =
      by (eqb psm rfcomm_psm) (eqb psm object_psm) refl
      (λ packets' moves' out'. direct_link rest packets' moves' stays.1 aside.1 last.1 out')
    where
      none_out : (mux : Bool) → AllByRecursion IsOut (cond mux [] moves)
      none_out true = tt
      none_out false = out

      by : (mux here : Bool) → eqb psm object_psm ≡ here → ((packets' : List (List ℕ)) (moves' : List Spoken) → AllByRecursion IsOut moves' → DirectGains packets' moves' rest)
          → (let packets' = cond here [] packets in let moves' = cond mux [] moves in
          direct_spelled packets ++ ((beyond (direct_spelled packets) (direct_spelled packets') ++ beyond (carried_spelled moves) (carried_spelled moves')) ++ gain packets' moves' rest) ≡ direct_spelled (packets ++ filter_map (came_on object_psm) rest))
      by mux true is goes =
          let moves' = cond mux [] moves in
          let out' = none_out mux in
          let none = no_came rest (last.0 is) in
          joins (direct_spelled packets) _ _ (direct_spelled packets) (gain [] moves' rest) _ (ap (λ (x : List Object). direct_spelled packets ++ x) (none_beyond (direct_spelled packets)) ∙ append-nil (direct_spelled packets)) (ap (beyond (carried_spelled moves)) (outs_none moves' out') ∙ none_beyond (carried_spelled moves))
          (ap (λ (x : List Object). direct_spelled packets ++ x) (goes [] moves' out' ∙ ap direct_spelled none)
          ∙ (append-nil (direct_spelled packets) ∙ ap direct_spelled (sym (ap (λ ps. packets ++ ps) none ∙ append-nil packets))))
      by mux false is goes = same_direct packets moves (cond mux [] moves) rest _ out (none_out mux) (goes packets (cond mux [] moves) (none_out mux))
  direct_link (LinkDown ∷ rest) packets moves stays aside last out = absurd stays.0
  direct_link (Asked ∷ rest) packets moves stays aside last out = same_direct packets moves moves rest _ out out (direct_link rest packets moves stays.1 aside.1 last.1 out)
  direct_link (Answering answers ∷ rest) packets moves stays aside last out = same_direct packets moves moves rest _ out out (direct_link rest packets moves stays.1 aside.1 last.1 out)

  -- over RFCOMM

  only_out : (list : List Occurrence) → AllByRecursion (ComesAside rfcomm_psm) list → AllByRecursion IsOut (filter_map (move_on rfcomm_psm) list)
  only_out [] aside = tt
  only_out (Came psm sdu ∷ list) aside = by (eqb psm rfcomm_psm) refl (only_out list aside.1)
    where
      by : (here : Bool) → eqb psm rfcomm_psm ≡ here → AllByRecursion IsOut (filter_map (move_on rfcomm_psm) list) → AllByRecursion IsOut (cons_option (cond here (Some (spoken_as Into sdu)) None) (filter_map (move_on rfcomm_psm) list))
      by true is rest = absurd (aside.0 (eqb-true psm rfcomm_psm is))
      by false is rest = rest
  only_out (Went psm sdu ∷ list) aside = by (eqb psm rfcomm_psm) (only_out list aside.1)
    where
      by : (here : Bool) → AllByRecursion IsOut (filter_map (move_on rfcomm_psm) list) → AllByRecursion IsOut (cons_option (cond here (Some (spoken_as Out sdu)) None) (filter_map (move_on rfcomm_psm) list))
      by true rest = (refl, rest)
      by false rest = rest
  only_out (Closed psm ∷ list) aside = only_out list aside.1
  only_out (LinkDown ∷ list) aside = only_out list aside.1
  only_out (Asked ∷ list) aside = only_out list aside.1
  only_out (Answering answers ∷ list) aside = only_out list aside.1

  abbrev CarriedGains : List Spoken → List Occurrence → Type 0
  CarriedGains moves on = carried_spelled moves ++ gain [] moves on ≡ carried_spelled (moves ++ filter_map (move_on rfcomm_psm) on)

  same_carried : (moves : List Spoken) (rest : List Occurrence) (later : List Object) → carried_spelled moves ++ gain [] moves rest ≡ later
      → carried_spelled moves ++ (beyond (carried_spelled moves) (carried_spelled moves) ++ gain [] moves rest) ≡ later
  same_carried moves rest later goes = ap (λ (x : List Object). carried_spelled moves ++ (x ++ gain [] moves rest)) (drop_same (carried_spelled moves)) ∙ goes

  more_carried : (moves : List Spoken) (more : Spoken) (rest : List Occurrence) → CarriedGains (moves ++ more ∷ []) rest
      → carried_spelled moves ++ (beyond (carried_spelled moves) (carried_spelled (moves ++ more ∷ [])) ++ gain [] (moves ++ more ∷ []) rest) ≡ carried_spelled (moves ++ more ∷ filter_map (move_on rfcomm_psm) rest)
  more_carried moves more rest goes =
      sym (append_assoc (carried_spelled moves) (beyond (carried_spelled moves) (carried_spelled (moves ++ more ∷ []))) (gain [] (moves ++ more ∷ []) rest))
      ∙ (ap (λ (x : List Object). x ++ gain [] (moves ++ more ∷ []) rest) (carried_grown moves more) ∙ (goes ∙ ap carried_spelled (append_assoc moves (more ∷ []) (filter_map (move_on rfcomm_psm) rest))))

  none_spelled : carried_spelled [] ≡ []
  none_spelled = outs_none [] tt

  carried_link : (on : List Occurrence) (moves : List Spoken) → AllByRecursion StaysOn on → AllByRecursion (ComesAside object_psm) on → ClosesLast rfcomm_psm on → CarriedGains moves on
  unfolding gain moves_after
  carried_link [] moves stays aside last = append-nil (carried_spelled moves) ∙ ap carried_spelled (sym (append-nil moves))
  carried_link (Came psm sdu ∷ rest) moves stays aside last =
      by (eqb psm object_psm) refl (eqb psm rfcomm_psm) (carried_link rest (moves ++ spoken_as Into sdu ∷ []) stays.1 aside.1 last.1) (carried_link rest moves stays.1 aside.1 last.1)
    where
      by : (direct : Bool) → eqb psm object_psm ≡ direct → (here : Bool) → CarriedGains (moves ++ spoken_as Into sdu ∷ []) rest → CarriedGains moves rest
          → (let packets' : List (List ℕ) = cond direct (sdu ∷ []) [] in let moves' = cond here (moves ++ spoken_as Into sdu ∷ []) moves in
          carried_spelled moves ++ ((beyond (direct_spelled []) (direct_spelled packets') ++ beyond (carried_spelled moves) (carried_spelled moves')) ++ gain packets' moves' rest)
          ≡ carried_spelled (moves ++ cons_option (cond here (Some (spoken_as Into sdu)) None) (filter_map (move_on rfcomm_psm) rest)))
      by true is here more same = absurd (aside.0 (eqb-true psm object_psm is))
      by false is true more same = more_carried moves (spoken_as Into sdu) rest more
      by false is false more same = same_carried moves rest _ same
  carried_link (Went psm sdu ∷ rest) moves stays aside last =
      by (eqb psm rfcomm_psm) (carried_link rest (moves ++ spoken_as Out sdu ∷ []) stays.1 aside.1 last.1) (carried_link rest moves stays.1 aside.1 last.1)
    where
      by : (here : Bool) → CarriedGains (moves ++ spoken_as Out sdu ∷ []) rest → CarriedGains moves rest
          → (let moves' = cond here (moves ++ spoken_as Out sdu ∷ []) moves in
          carried_spelled moves ++ ((beyond (direct_spelled []) (direct_spelled []) ++ beyond (carried_spelled moves) (carried_spelled moves')) ++ gain [] moves' rest)
          ≡ carried_spelled (moves ++ cons_option (cond here (Some (spoken_as Out sdu)) None) (filter_map (move_on rfcomm_psm) rest)))
      by true more same = more_carried moves (spoken_as Out sdu) rest more
      by false more same = same_carried moves rest _ same
  carried_link (Closed psm ∷ rest) moves stays aside last =
      by (eqb psm object_psm) (eqb psm rfcomm_psm) refl (carried_link rest [] stays.1 aside.1 last.1) (carried_link rest moves stays.1 aside.1 last.1)
    where
      closing : eqb psm rfcomm_psm ≡ true → CarriedGains [] rest
          → carried_spelled moves ++ (beyond (carried_spelled moves) (carried_spelled []) ++ gain [] [] rest) ≡ carried_spelled (moves ++ filter_map (move_on rfcomm_psm) rest)
      closing is goes =
          let outs = only_out rest (last.0 is) in
          let nothing : gain [] [] rest ≡ [] = ap (λ (x : List Object). x ++ gain [] [] rest) (sym none_spelled) ∙ (goes ∙ outs_none (filter_map (move_on rfcomm_psm) rest) outs) in
          ap₂ (λ (a b : List Object). carried_spelled moves ++ (a ++ b)) (ap (beyond (carried_spelled moves)) none_spelled ∙ none_beyond (carried_spelled moves)) nothing
          ∙ (append-nil (carried_spelled moves) ∙ ap (spelled_within (own_maximum Rfcomm settings)) (sym (outs_add moves (filter_map (move_on rfcomm_psm) rest) outs)))

      by : (direct here : Bool) → eqb psm rfcomm_psm ≡ here → CarriedGains [] rest → CarriedGains moves rest
          → (let packets' : List (List ℕ) = (let none : List (List ℕ) = [] in cond direct none none) in let moves' = cond here [] moves in
          carried_spelled moves ++ ((beyond (direct_spelled []) (direct_spelled packets') ++ beyond (carried_spelled moves) (carried_spelled moves')) ++ gain packets' moves' rest)
          ≡ carried_spelled (moves ++ filter_map (move_on rfcomm_psm) rest))
      by true true is none same = closing is none
      by false true is none same = closing is none
      by true false is none same = same_carried moves rest _ same
      by false false is none same = same_carried moves rest _ same
  carried_link (LinkDown ∷ rest) moves stays aside last = absurd stays.0
  carried_link (Asked ∷ rest) moves stays aside last = same_carried moves rest _ (carried_link rest moves stays.1 aside.1 last.1)
  carried_link (Answering answers ∷ rest) moves stays aside last = same_carried moves rest _ (carried_link rest moves stays.1 aside.1 last.1)

  -- ---- what it spells

  link_gains : (on : List Occurrence) (link : CarriedLink) → IsReadOn settings frame on link → AllByRecursion StaysOn on → gain [] [] on ≡ objects (reader settings frame link.transport) link.moved
  link_gains on link is stays = by link.transport link.moved is
    where
      by : (transport : Transport) (moved : List Saying) → (let at : CarriedLink = record { transport = transport; moved = moved } in IsReadOn settings frame on at) → gain [] [] on ≡ objects (reader settings frame transport) moved
      by L2cap moved one =
          let party = reader settings frame L2cap in
          direct_link on [] [] stays one.aside one.last tt
          ∙ (ap direct_spelled (one.sdus_are ∙ sym (packets-are_sdus party one.channel one.said one.psm_is))
          ∙ (sym (one_carrier_gains party one.channel one.said one.alone) ∙ objects-move party one.said moved one.waits one.talk_is one.go_out one.is_served))
      by Rfcomm moved one =
          let sdus = spoken muxed one.channel one.said in
          ap (λ (x : List Object). x ++ gain [] [] on) (sym none_spelled)
          ∙ (carried_link on [] stays one.aside one.last
          ∙ (ap carried_spelled one.sdus_are
          ∙ (ap (spelled_within (own_maximum Rfcomm settings)) (sym (objects-grow.whole_streams muxed Into sdus) ∙ ap (λ psm. spoken_one_way Into (packets_spoken muxed psm sdus)) (sym one.psm_is))
          ∙ (sym (one_carrier_gains muxed one.channel one.said one.alone) ∙ objects-move muxed one.said moved one.waits one.talk_is one.go_out one.is_served))))

  -- ---- all links

  stays_with : (now : List Occurrence) (one : Occurrence) → AllByRecursion StaysOn now → StaysOn one → AllByRecursion StaysOn (now ++ one ∷ [])
  stays_with [] one all this = (this, tt)
  stays_with (first ∷ now) one all this = (all.0, stays_with now one all.1 this)

  down_behind : (packets : List (List ℕ)) (moves : List Spoken) (rest : List Occurrence) → gain packets moves (LinkDown ∷ rest) ≡ gain [] [] rest
  unfolding gain moves_after
  down_behind packets moves rest =
      ap₂ (λ (a b : List Object). (a ++ b) ++ gain [] [] rest) (none_beyond (direct_spelled packets)) (ap (beyond (carried_spelled moves)) none_spelled ∙ none_beyond (carried_spelled moves))

  all_links : (list now : List Occurrence) (links : List CarriedLink) → AllByRecursion StaysOn now → AllZip (IsReadOn settings frame) (links_from now list) links → gain [] [] (now ++ list) ≡ objects_moved settings frame links
  all_links [] now [] stays are = absurd are
  all_links [] now (link ∷ []) stays are = ap (gain [] []) (append-nil now) ∙ (link_gains now link are.0 stays ∙ sym (append-nil (objects (reader settings frame link.transport) link.moved)))
  all_links [] now (link ∷ other ∷ links) stays are = absurd are.1
  all_links (LinkDown ∷ list) now [] stays are = absurd are
  all_links (LinkDown ∷ list) now (link ∷ links) stays are =
      gain_both [] [] now (LinkDown ∷ list)
      ∙ ap₂ (λ (a b : List Object). a ++ b) (link_gains now link are.0 stays) (down_behind (packets_behind [] now) (moves_behind [] now) list ∙ all_links list [] links tt are.1)
  all_links (Came psm sdu ∷ list) now links stays are = ap (gain [] []) (sym (append_assoc now (Came psm sdu ∷ []) list)) ∙ all_links list (now ++ Came psm sdu ∷ []) links (stays_with now (Came psm sdu) stays tt) are
  all_links (Went psm sdu ∷ list) now links stays are = ap (gain [] []) (sym (append_assoc now (Went psm sdu ∷ []) list)) ∙ all_links list (now ++ Went psm sdu ∷ []) links (stays_with now (Went psm sdu) stays tt) are
  all_links (Closed psm ∷ list) now links stays are = ap (gain [] []) (sym (append_assoc now (Closed psm ∷ []) list)) ∙ all_links list (now ++ Closed psm ∷ []) links (stays_with now (Closed psm) stays tt) are
  all_links (Asked ∷ list) now links stays are = ap (gain [] []) (sym (append_assoc now (Asked ∷ []) list)) ∙ all_links list (now ++ Asked ∷ []) links (stays_with now Asked stays tt) are
  all_links (Answering answers ∷ list) now links stays are = ap (gain [] []) (sym (append_assoc now (Answering answers ∷ []) list)) ∙ all_links list (now ++ Answering answers ∷ []) links (stays_with now (Answering answers) stays tt) are

-- what the packets spell that came is what the PDUs spell that moved
pub read_by_carriers : (settings : Settings) (frame : ℕ) (list : List Occurrence) (links : List CarriedLink) → AllZip (IsReadOn settings frame) (links_of list) links → clear.objects settings list ≡ objects_moved settings frame links
read_by_carriers settings frame list links are = gains_after settings frame [] list [] refl ∙ all_links settings frame list [] links tt are

pub hosts_gain_by_carriers : HostsGainByCarriers
hosts_gain_by_carriers settings before frame asks marks host lives may links are =
    let content : Option Contents = Some (record { stored = before; pending = None }) in
    hosts_gain settings before asks marks host lives may
    ∙ ap (λ (gained : List Object). Some (before ++ gained)) (read_by_carriers settings frame (served settings content asks marks host lives) links are)
