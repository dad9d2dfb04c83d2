-- What one unit more adds to the PDUs of the links of a host.
use Rattle.std.proofs.Common.{◌≡◌, ℕ, List, [], ◌∷◌, ◌++◌, map, Option, Some, None, refl, ap, ◌∙◌}
use Rattle.std.specs.Option.{option_map}
use Rattle.std.specs.List.{cons_option}
use Rattle.std.proofs.lemmas.List.{append-nil}
use Rattle.std.proofs.lemmas.List.Elements.{filter_map-append}
use Rattle.scenario_laws.specs.acl_fragments.specs.Pieces.{Piece, starts}
use Rattle.scenario_laws.specs.acl_fragments.specs.Answers.{Answer, Pdu as Whole, More, Dropped, answer, open_after}
use Rattle.scenario_laws.specs.acl_fragments.proofs.Holding.{open_after-append}
use Rattle.scenario_laws.specs.capture.specs.declared.flow.Flow.{Flow}
use Rattle.scenario_laws.specs.capture.specs.declared.flow.Flow.TheVariants.{Out}
use Rattle.scenario_laws.specs.capture.specs.Moves.{Move}
use Rattle.scenario_laws.specs.capture.specs.Links.{Link, Linking, longer, gone_on}
use Rattle.scenario_laws.specs.capture.specs.Pdus.{Pdu, pdu_limit, piece_of, piece_in, pieces, whole_of, completed, completed_by, pdus}
use Rattle.scenario_laws.specs.capture.proofs.MoreLaws.{pdus-more}
use Rattle.scenario_laws.specs.world_model.specs.PerLink.{Linkage, pdus_of, with_moved}
use Rattle.scenario_laws.specs.world_model.specs.Stations.{whole_in, gives, holds}

-- the PDUs of the links, as the units of the host show them
abbrev pub shown : Linking → Linkage
shown known = record { past = map pdus known.past; up = option_map pdus known.up }

-- the octets of the PDU that is going out: of the group that is open there
abbrev pub begun_on : Option Link → List ℕ
begun_on None = []
begun_on (Some link) = open_after (pdu_limit Out) (pieces Out link.handle link.moves)

-- ---- the link that is up goes on

whole_as : (flow : Flow) (judged : Answer) → whole_of flow judged ≡ pdus_of flow (whole_in judged)
whole_as flow (Whole channel octets) = refl
whole_as flow More = refl
whole_as flow (Dropped reason) = refl

-- the PDUs that a unit completes on a link
abbrev pub Completes : Link → Move → List (List ℕ) → Type 0
Completes link move more = completed link.handle link.moves move ≡ pdus_of move.flow more

pub completes_none : (link : Link) (move : Move) → piece_of link.handle move.packet ≡ None → Completes link move []
completes_none link move none = ap (λ (found : Option Piece). completed_by move.flow (pieces move.flow link.handle link.moves) found) none

pub completes_one : (link : Link) (move : Move) (piece : Piece) (held : List ℕ) → piece_of link.handle move.packet ≡ Some piece → open_after (pdu_limit move.flow) (pieces move.flow link.handle link.moves) ≡ held
    → Completes link move (gives (pdu_limit move.flow) held piece)
completes_one link move piece held one is =
    ap (λ (found : Option Piece). completed_by move.flow (pieces move.flow link.handle link.moves) found) one
    ∙ (ap (λ (h : List ℕ). whole_of move.flow (answer (pdu_limit move.flow) h (starts piece.boundary) piece.octets)) is
    ∙ whole_as move.flow (answer (pdu_limit move.flow) held (starts piece.boundary) piece.octets))

-- of the link that is up, if there is one
abbrev pub OnUp : Option Link → (Link → Type 0) → Type 0
OnUp None P = Unit {0}
OnUp (Some link) P = P link

pub always_up : (P : Link → Type 0) (up : Option Link) → ((link : Link) → P link) → OnUp up P
always_up P None all = tt
always_up P (Some link) all = all link

goes_up : (move : Move) (up : Option Link) (more : List (List ℕ)) → OnUp up (λ link. Completes link move more) → option_map pdus (option_map (longer move) up) ≡ option_map (λ now. now ++ pdus_of move.flow more) (option_map pdus up)
goes_up move None more completes = refl
goes_up move (Some link) more completes = ap (λ (l : List Pdu). Some l) (pdus-more link move ∙ ap (λ (l : List Pdu). pdus link ++ l) completes)

pub goes_on : (known : Linking) (move : Move) (more : List (List ℕ)) → OnUp known.up (λ link. Completes link move more) → shown (gone_on move known) ≡ with_moved move.flow more (shown known)
goes_on known move more completes = ap (λ (u : Option (List Pdu)). let l : Linkage = record { past = map pdus known.past; up = u } in l) (goes_up move known.up more completes)

-- ---- what is going out

pieces_more : (flow : Flow) (link : Link) (move : Move) (found : Option Piece) → piece_in flow link.handle move ≡ found → pieces flow link.handle (longer move link).moves ≡ pieces flow link.handle link.moves ++ cons_option found []
pieces_more flow link move found is = filter_map-append (piece_in flow link.handle) link.moves (move ∷ []) ∙ ap (λ (f : Option Piece). pieces flow link.handle link.moves ++ cons_option f []) is

pub begun_stays : (up : Option Link) (move : Move) → ((handle : ℕ) → piece_in Out handle move ≡ None) → begun_on (option_map (longer move) up) ≡ begun_on up
begun_stays None move none = refl
begun_stays (Some link) move none = ap (open_after (pdu_limit Out)) (pieces_more Out link move None (none link.handle) ∙ append-nil (pieces Out link.handle link.moves))

pub begun_more : (link : Link) (move : Move) (piece : Piece) → piece_in Out link.handle move ≡ Some piece → begun_on (Some (longer move link)) ≡ holds (pdu_limit Out) (begun_on (Some link)) piece
begun_more link move piece one = ap (open_after (pdu_limit Out)) (pieces_more Out link move (Some piece) one) ∙ open_after-append (pdu_limit Out) (pieces Out link.handle link.moves) piece
