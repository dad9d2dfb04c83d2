-- What a unit that comes in is to a host: the same to its line as to the links that its units show.
use Rattle.std.proofs.Common.{◌≡◌, ℕ, Bool, true, false, cond, eqb, List, [], ◌∷◌, ◌++◌, drop, slice_index, Option, Some, None, is_none, if◌then◌else◌, refl, sym, ap, subst, ◌∙◌, inl, inr}
use Rattle.std.specs.Option.{option_map}
use Rattle.std.proofs.lemmas.Bool.{cases_Bool, eqb-true}
use Rattle.std.proofs.lemmas.List.{map-append}
use Rattle.byteorder.specs.Endian.{little_number}
use Rattle.scenario_laws.specs.h4_framing.specs.Packets.{Packet, Command, Acl, Sync, Event}
use Rattle.scenario_laws.specs.hci_packets.specs.Events.{PlainEvent, Other, event_refusal}
use Rattle.scenario_laws.specs.acl_fragments.specs.Pieces.{Piece, starts}
use Rattle.scenario_laws.specs.acl_fragments.specs.Answers.{Answer, Pdu as Whole, More, Dropped, answer}
use Rattle.scenario_laws.specs.capture.specs.declared.flow.Flow.TheVariants.{Out, Into}
use Rattle.scenario_laws.specs.capture.specs.Moves.{Move}
use Rattle.scenario_laws.specs.capture.specs.Links.{Link, Linking, Answered, longer, gone_on, ends_with, after_news, after_move, linking}
use Rattle.scenario_laws.specs.capture.specs.Pdus.{Pdu, piece_of, piece_in, pdus}
use Rattle.scenario_laws.specs.capture.proofs.MoreLaws.{links-more}
use Rattle.scenario_laws.specs.host_link.specs.Lines.{Line, longest_pdu}
use Rattle.scenario_laws.specs.host_link.specs.CommandFlows.{is_number}
use Rattle.scenario_laws.specs.host_link.specs.Hearing.{PlainNews, Nothing, LinkUp, LinkFailed, LinkDown, Pdu as News_pdu, connection_news, joined_news, piece_on, piece_news, event_news, news_of}
use Rattle.scenario_laws.specs.host_link.specs.Stands.{Stands, JoinsOn, into}
use Rattle.scenario_laws.specs.host_link.proofs.Standing.{At, here}
use Rattle.scenario_laws.specs.world_model.specs.PerLink.{Linkage, with_moved, link_begins, link_ends}
use Rattle.scenario_laws.specs.world_model.specs.Stations.{whole_in, gives}
use Rattle.scenario_laws.specs.turn_laws.proofs.Linkages.{moved_none}
use Rattle.unit_laws.proofs.Shown.{shown, begun_on, OnUp, always_up, Completes, completes_none, completes_one, goes_on, begun_stays}

-- what news of the line add to the PDUs of the links
abbrev pub news_adds : PlainNews → Linkage → Linkage
news_adds Nothing l = l
news_adds LinkUp l = link_begins l
news_adds (LinkFailed status) l = l
news_adds (LinkDown reason) l = link_ends l
news_adds (News_pdu channel octets) l = with_moved Into (octets ∷ []) l

-- the link stays as it is
abbrev pub KeepsLink : PlainNews → Type 0
KeepsLink Nothing = Unit {0}
KeepsLink LinkUp = ⊥
KeepsLink (LinkFailed status) = Unit {0}
KeepsLink (LinkDown reason) = ⊥
KeepsLink (News_pdu channel octets) = Unit {0}

-- what they say of the links that the units show
pub record ShownBy (news : PlainNews) (old new : Linking) : Type 0 where
  pub adds : shown new ≡ news_adds news (shown old)
  pub begun : KeepsLink news → begun_on new.up ≡ begun_on old.up

-- ---- a unit that is nothing to the link

still : (known : Linking) (move : Move) → ((handle : ℕ) → piece_of handle move.packet ≡ None) → ((handle : ℕ) → piece_in Out handle move ≡ None) → ShownBy Nothing known (gone_on move known)
still known move none never = record {
  adds = goes_on known move [] (always_up (λ link. Completes link move []) known.up (λ link. completes_none link move (none link.handle))) ∙ moved_none move.flow (shown known);
  begun = λ keeps. begun_stays known.up move never;
}

no_news : (link : Option ℕ) (packet : Packet) (line : Line) → ((handle : ℕ) → piece_of handle packet ≡ None) → piece_news (piece_on link packet) line ≡ Nothing
no_news None packet line none = refl
no_news (Some handle) packet line none = ap (λ (found : Option Piece). piece_news found line) (none handle)

quiet_shown : (known : Linking) (line : Line) (packet : Packet) → ((handle : ℕ) → piece_of handle packet ≡ None) → ShownBy (piece_news (piece_on line.link packet) line) known (gone_on (into packet) known)
quiet_shown known line packet none = subst (λ (news : PlainNews). ShownBy news known (gone_on (into packet) known)) (sym (no_news line.link packet line none)) (still known (into packet) none never)
  where
    never : (handle : ℕ) → piece_in Out handle (into packet) ≡ None
    never handle = refl

-- ---- a piece

joined_adds : (judged : Answer) (l : Linkage) → with_moved Into (whole_in judged) l ≡ news_adds (joined_news judged) l
joined_adds (Whole channel octets) l = refl
joined_adds More l = moved_none Into l
joined_adds (Dropped reason) l = moved_none Into l

found_shown : (known : Linking) (link : Link) (line : Line) (word : ℕ) (octets : List ℕ) (found : Option Piece) → known.up ≡ Some link → piece_of link.handle (Acl word octets) ≡ found → At known line
    → ShownBy (piece_news found line) known (gone_on (into (Acl word octets)) known)
found_shown known link line word octets None up is at = record {
  adds = goes_on known (into (Acl word octets)) [] (subst (λ (u : Option Link). OnUp u (λ (l : Link). Completes l (into (Acl word octets)) [])) (sym up) (completes_none link (into (Acl word octets)) is)) ∙ moved_none Into (shown known);
  begun = λ keeps. begun_stays known.up (into (Acl word octets)) (λ handle. refl);
}
found_shown known link line word octets (Some piece) up is at =
    let move = into (Acl word octets) in
    let joining = subst (λ (u : Option Link). JoinsOn u line.joining) up at.joining in
    record {
      adds = goes_on known move (gives longest_pdu line.joining piece) (subst (λ (u : Option Link). OnUp u (λ (l : Link). Completes l move (gives longest_pdu line.joining piece))) (sym up) (completes_one link move piece line.joining is (sym joining)))
          ∙ joined_adds (answer longest_pdu line.joining (starts piece.boundary) piece.octets) (shown known);
      begun = λ keeps. begun_stays known.up move (λ handle. refl);
    }

acl_shown : (known : Linking) (line : Line) (word : ℕ) (octets : List ℕ) (up : Option Link) → known.up ≡ up → At known line → ShownBy (piece_news (piece_on line.link (Acl word octets)) line) known (gone_on (into (Acl word octets)) known)
acl_shown known line word octets None up at =
    let off : None ≡ line.link = ap (option_map (λ (link : Link). link.handle)) (sym up) ∙ at.link in
    subst (λ (link : Option ℕ). ShownBy (piece_news (piece_on link (Acl word octets)) line) known (gone_on (into (Acl word octets)) known)) off (record {
      adds = goes_on known (into (Acl word octets)) [] (subst (λ (u : Option Link). OnUp u (λ (l : Link). Completes l (into (Acl word octets)) [])) (sym up) tt) ∙ moved_none Into (shown known);
      begun = λ keeps. begun_stays known.up (into (Acl word octets)) (λ handle. refl);
    })
acl_shown known line word octets (Some link) up at =
    let on : Some link.handle ≡ line.link = ap (option_map (λ (link : Link). link.handle)) (sym up) ∙ at.link in
    subst (λ (handle : Option ℕ). ShownBy (piece_news (piece_on handle (Acl word octets)) line) known (gone_on (into (Acl word octets)) known)) on
    (found_shown known link line word octets (piece_of link.handle (Acl word octets)) up refl at)

-- ---- events

abbrev links : Bool → List Link → Option Link → Linking
links asked past up = record { asked = asked; past = past; up = up }

-- whether a connection was asked for shows no PDU
unasked : (asked asked' : Bool) (past : List Link) (up up' : Option Link) (news : PlainNews) → ShownBy news (links asked past up) (links asked past up') → ShownBy news (links asked past up) (links asked' past up')
unasked asked asked' past up up' news so = record { adds = so.adds; begun = so.begun }

event_still : (asked asked' : Bool) (past : List Link) (up : Option Link) (code : ℕ) (params : List ℕ) → ShownBy Nothing (links asked past up) (links asked' past (option_map (longer (into (Event code params))) up))
event_still asked asked' past up code params =
    let so = still (links asked past up) (into (Event code params)) (λ handle. refl) (λ handle. refl) in record { adds = so.adds; begun = so.begun }

-- a connection that was not made adds nothing either
event_failed : (asked asked' : Bool) (past : List Link) (up : Option Link) (code status : ℕ) (params : List ℕ) → ShownBy (LinkFailed status) (links asked past up) (links asked' past (option_map (longer (into (Event code params))) up))
event_failed asked asked' past up code status params = let so = event_still asked asked' past up code params in record { adds = so.adds; begun = λ keeps. so.begun tt }

connection_shown : (asked : Bool) (past : List Link) (up : Option Link) (line : Line) (code : ℕ) (params : List ℕ) (status handle : ℕ) → At (links asked past up) line
    → ShownBy (connection_news status line) (links asked past up) (after_news (into (Event code params)) (links asked past up) (Answered status handle))
connection_shown false past up line code params status handle at = rw (← at.asked) (event_still false false past up code params)
connection_shown true past None line code params status handle at =
    let free : is_none line.link ≡ true = ap is_none (sym at.link) in
    elim (cases_Bool (eqb status 0)) [
      | inl success ↦ rw (success, ← at.asked, free) (record { adds = refl; begun = λ keeps. absurd keeps })
      | inr failure ↦ rw (failure, ← at.asked) (event_failed true false past None code status params)
    ]
connection_shown true past (Some link) line code params status handle at =
    let busy : is_none line.link ≡ false = ap is_none (sym at.link) in
    elim (cases_Bool (eqb status 0)) [
      | inl success ↦ rw (success, ← at.asked, busy) (event_still true false past (Some link) code params)
      | inr failure ↦ rw (failure, ← at.asked) (event_failed true false past (Some link) code status params)
    ]

disconnection_shown : (asked : Bool) (past : List Link) (up : Option Link) (line : Line) (code : ℕ) (params : List ℕ) (handle reason : ℕ) → At (links asked past up) line
    → ShownBy (if is_number handle line.link then LinkDown reason else Nothing) (links asked past up) (ends_with handle (into (Event code params)) (links asked past up) up)
disconnection_shown asked past None line code params handle reason at =
    let none : is_number handle line.link ≡ false = ap (is_number handle) (sym at.link) in
    rw none (record { adds = refl; begun = λ keeps. refl })
disconnection_shown asked past (Some link) line code params handle reason at =
    let whose : is_number handle line.link ≡ eqb link.handle handle = ap (is_number handle) (sym at.link) in
    elim (cases_Bool (eqb link.handle handle)) [
      | inl same ↦ rw (whose, same) (record { adds = ap (λ (l : List (List Pdu)). let ended : Linkage = record { past = l; up = None } in ended) (map-append pdus past (link ∷ [])); begun = λ keeps. absurd keeps })
      | inr other ↦ rw (whose, other) (event_still asked asked past (Some link) code params)
    ]

other_news : (a b c d : Bool) (code : ℕ) (params : List ℕ) (line : Line) (one two three four : PlainEvent) → event_news (Some one) line ≡ Nothing → event_news (Some two) line ≡ Nothing → event_news (Some three) line ≡ Nothing → event_news (Some four) line ≡ Nothing
    → event_news (Some (cond a one (cond b two (cond c three (cond d four (Other code params)))))) line ≡ Nothing
other_news true b c d code params line one two three four e f g h = e
other_news false true c d code params line one two three four e f g h = f
other_news false false true d code params line one two three four e f g h = g
other_news false false false true code params line one two three four e f g h = h
other_news false false false false code params line one two three four e f g h = refl

abbrev EventShown : Linking → Line → ℕ → List ℕ → Type 0
EventShown known line code params = ShownBy (news_of (Event code params) line) known (after_move known (into (Event code params)))

made_shown : (known : Linking) (line : Line) (params : List ℕ) → is_none (event_refusal 0x03 params) ≡ true → At known line → EventShown known line 0x03 params
made_shown known line params fine at = rw fine (connection_shown known.asked known.past known.up line 0x03 params (slice_index params 0) (little_number 2 (drop 1 params)) at)

ended_shown : (known : Linking) (line : Line) (params : List ℕ) → is_none (event_refusal 0x05 params) ≡ true → At known line → EventShown known line 0x05 params
ended_shown known line params fine at =
    elim (cases_Bool (eqb (slice_index params 0) 0)) [
      | inl success ↦ rw (fine, success) (disconnection_shown known.asked known.past known.up line 0x05 params (little_number 2 (drop 1 params)) (slice_index params 3) at)
      | inr failure ↦ rw (fine, failure) (event_still known.asked known.asked known.past known.up 0x05 params)
    ]

event_shown : (known : Linking) (line : Line) (code : ℕ) (params : List ℕ) → At known line → EventShown known line code params
event_shown known line code params at =
    let claim : ℕ → Type 0 = λ k. is_none (event_refusal k params) ≡ true → EventShown known line k params in
    elim (cases_Bool (is_none (event_refusal code params))) [
      | inr wrong ↦ rw wrong (event_still known.asked known.asked known.past known.up code params)
      | inl fine ↦
          elim (cases_Bool (eqb code 0x03)) [
            | inl is ↦ subst claim (sym (eqb-true code 0x03 is)) (λ f. made_shown known line params f at) fine
            | inr no3 ↦
                elim (cases_Bool (eqb code 0x05)) [
                  | inl is ↦ subst claim (sym (eqb-true code 0x05 is)) (λ f. ended_shown known line params f at) fine
                  | inr no5 ↦
                      rw (fine, no3, no5)
                      (subst (λ (news : PlainNews). ShownBy news known (gone_on (into (Event code params)) known))
                      (sym (other_news (eqb code 0x04) (eqb code 0x0E) (eqb code 0x0F) (eqb code 0x13) code params line _ _ _ _ refl refl refl refl)) (event_still known.asked known.asked known.past known.up code params))
                ]
          ]
    ]

-- ---- any unit

unit_shown : (known : Linking) (line : Line) (packet : Packet) → At known line → ShownBy (news_of packet line) known (after_move known (into packet))
unit_shown known line (Command opcode params) at = quiet_shown known line (Command opcode params) (λ handle. refl)
unit_shown known line (Acl word octets) at = acl_shown known line word octets known.up refl at
unit_shown known line (Sync word octets) at = quiet_shown known line (Sync word octets) (λ handle. refl)
unit_shown known line (Event code params) at = event_shown known line code params at

pub heard_shown : (past : List Move) (line : Line) (packet : Packet) → Stands past line → ShownBy (news_of packet line) (linking past) (linking (past ++ into packet ∷ []))
heard_shown past line packet stands = subst (λ (known : Linking). ShownBy (news_of packet line) (linking past) known) (sym (links-more past (into packet))) (unit_shown (linking past) line packet (here past line stands))
