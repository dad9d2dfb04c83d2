-- What is heard with a packet, and with an entry.
use Rattle.std.proofs.Common.{◌≡◌, ℕ, Bool, true, false, cond, List, [], ◌∷◌, ◌++◌, length, drop, map, fold, Option, Some, None, Ok, Err, refl, sym, ap, subst, ◌∙◌, append_assoc, append-nil, arith}
use Rattle.std.specs.Prelude.{◌==◌, ◌&&◌, option_to_list, is_some, IfSome}
use Rattle.std.specs.List.{flat_map, AllByRecursion}
use Rattle.std.specs.Option.{option_map}
use Rattle.std.proofs.lemmas.Bool.{eqb-true}
use Rattle.std.proofs.Math.Seq.{drop-append_seam}
use Rattle.std.proofs.lemmas.Grind.{flat_map-append}
use Rattle.push_terms.specs.declared.word.Side.TheVariants as sides
use Rattle.h4_framing.specs.Packets.{Packet}
use Rattle.acl_fragments.specs.Pieces.{Piece}
use Rattle.capture.specs.declared.flow.Flow.{Flow}
use Rattle.capture.specs.declared.flow.Flow.TheVariants.{Out, Into}
use Rattle.capture.specs.declared.entry_refusal.EntryRefusal.{EntryRefusal}
use Rattle.capture.specs.Entries.{Entry, IsEntry, IsCapture, entry_octets, capture_octets}
use Rattle.capture.specs.EntryReading.{IsFront}
use Rattle.capture.specs.Moves.{Move, move_of}
use Rattle.capture.specs.Pdus.{piece_of}
use Rattle.capture.proofs.EntryLaws.{one_capture}
use Rattle.link_talk.specs.declared.party.Party.{Party}
use Rattle.link_talk.specs.Sayings.{said_by}
use Rattle.link_talk.specs.Captures.{objects_heard}
use Rattle.link_readers.specs.talk_laws.specs.CapturePass.{HeldLink, HeldLinks, completed_with, octets_with, link_after, new_link, made_with, links_after, states}
use Rattle.link_readers.specs.talk_laws.proofs.CapturePass.{held-more}
use Rattle.object_lines.specs.declared.links.HeldLink.{HeldLink as LentLink}
use Rattle.object_lines.specs.declared.links.HeldLinks.{HeldLinks as LentLinks}
use Rattle.object_lines.specs.declared.objects.Hearer.{Hearer}
use Rattle.object_lines.specs.Tallies.{Told, told, plain_told}
use Rattle.object_lines.specs.Passes.{Telling, no_telling, telling_after, plain_telling}
use Rattle.object_lines.specs.Held.{plain_link, plain_links, JoinsPdus, past_with}
use Rattle.object_lines.specs.Heard.{links_of_b, told_on, IsHeard}
use Rattle.object_lines.proofs.Telling.{captures_told}
use Rattle.object_lines.proofs.Whole.{not_refused}

-- ---- a packet

abbrev held_link : ℕ → (out_ into : List ℕ) → Telling → HeldLink Telling
held_link handle out_ into telling = record { handle = handle; out_ = out_; into = into; state = telling }

abbrev pub out_with : Party → HeldLink Telling → Option Piece → HeldLink Telling
out_with party link piece = held_link link.handle (octets_with Out link.out_ piece) link.into (fold (telling_after party) link.state (flat_map said_by (completed_with Out link.out_ piece)))

abbrev pub into_with : Party → HeldLink Telling → Option Piece → HeldLink Telling
into_with party link piece = held_link link.handle link.out_ (octets_with Into link.into piece) (fold (telling_after party) link.state (flat_map said_by (completed_with Into link.into piece)))

pub after_out : (party : Party) (move : Move) (link : HeldLink Telling) (piece : Option Piece) → move.flow ≡ Out → piece_of link.handle move.packet ≡ piece → out_with party link piece ≡ link_after (telling_after party) move link
after_out party move link piece is one = ap (out_with party link) (sym one) ∙ by move.flow move.packet is
  where
    by : (flow : Flow) (packet : Packet) → flow ≡ Out → out_with party link (piece_of link.handle packet) ≡ link_after (telling_after party) (record { flow = flow; packet = packet }) link
    by Out packet e = refl
    by Into packet e = absurd cc

pub after_into : (party : Party) (move : Move) (link : HeldLink Telling) (piece : Option Piece) → move.flow ≡ Into → piece_of link.handle move.packet ≡ piece → into_with party link piece ≡ link_after (telling_after party) move link
after_into party move link piece is one = ap (into_with party link) (sym one) ∙ by move.flow move.packet is
  where
    by : (flow : Flow) (packet : Packet) → flow ≡ Into → into_with party link (piece_of link.handle packet) ≡ link_after (telling_after party) (record { flow = flow; packet = packet }) link
    by Into packet e = refl
    by Out packet e = absurd cc

pub after_none : (party : Party) (move : Move) (link : HeldLink Telling) → piece_of link.handle move.packet ≡ None → link ≡ link_after (telling_after party) move link
after_none party move link none = by move.flow move.packet none
  where
    by : (flow : Flow) (packet : Packet) → piece_of link.handle packet ≡ None → link ≡ link_after (telling_after party) (record { flow = flow; packet = packet }) link
    by Out packet none = ap (out_with party link) (sym none)
    by Into packet none = ap (into_with party link) (sym none)

pub hears_out : (party : Party) (move : Move) (link : HeldLink Telling) (piece : Piece) (octets : List ℕ) (telling : Telling) → move.flow ≡ Out → piece_of link.handle move.packet ≡ Some piece
    → octets ≡ octets_with Out link.out_ (Some piece) → telling ≡ fold (telling_after party) link.state (flat_map said_by (completed_with Out link.out_ (Some piece)))
    → held_link link.handle octets link.into telling ≡ link_after (telling_after party) move link
hears_out party move link piece octets telling is one holds tells =
    ap (λ out_. held_link link.handle out_ link.into telling) holds ∙ ap (held_link link.handle (octets_with Out link.out_ (Some piece)) link.into) tells ∙ after_out party move link (Some piece) is one

pub hears_into : (party : Party) (move : Move) (link : HeldLink Telling) (piece : Piece) (octets : List ℕ) (telling : Telling) → move.flow ≡ Into → piece_of link.handle move.packet ≡ Some piece
    → octets ≡ octets_with Into link.into (Some piece) → telling ≡ fold (telling_after party) link.state (flat_map said_by (completed_with Into link.into (Some piece)))
    → held_link link.handle link.out_ octets telling ≡ link_after (telling_after party) move link
hears_into party move link piece octets telling is one holds tells =
    ap (λ into. held_link link.handle link.out_ into telling) holds ∙ ap (held_link link.handle link.out_ (octets_with Into link.into (Some piece))) tells ∙ after_into party move link (Some piece) is one

-- where a link is up no other is made
never : (asked zero : Bool) → (asked && zero && false) ≡ false
never true true = refl
never true false = refl
never false true = refl
never false false = refl

pub none_made : (status handle : ℕ) (past : List Telling) (links : LentLinks) → is_some links.up ≡ true → made_with no_telling status handle (plain_links past links) ≡ None
none_made status handle past links some = by links.asked links.up some
  where
    by : (asked : Bool) (up : Option LentLink) → is_some up ≡ true → made_with no_telling status handle (record { asked = asked; past = past; up = option_map plain_link up }) ≡ None
    by asked None e = absurd cc
    by asked (Some link) e = ap (λ test. cond test (Some (new_link no_telling handle)) None) (never asked (status == 0))

-- ---- an entry

none_more : (party : Party) (past : List Entry) (more : Entry) → move_of sides.B more ≡ None → links_of_b party (past ++ more ∷ []) ≡ links_of_b party past
none_more party past more none =
    held-more (telling_after party) no_telling sides.B past more ∙ ap (λ moved. fold (links_after (telling_after party) no_telling) (links_of_b party past) (option_to_list moved)) none

move_more : (party : Party) (past : List Entry) (more : Entry) (move : Move) → move_of sides.B more ≡ Some move → links_of_b party (past ++ more ∷ []) ≡ links_after (telling_after party) no_telling (links_of_b party past) move
move_more party past more move some =
    held-more (telling_after party) no_telling sides.B past more ∙ ap (λ moved. fold (links_after (telling_after party) no_telling) (links_of_b party past) (option_to_list moved)) some

pub heard_same : (party : Party) (past : List Entry) (more : Entry) (hearer : Hearer) → None ≡ move_of sides.B more → IsHeard party past hearer → IsHeard party (past ++ more ∷ []) hearer
heard_same party past more hearer none heard = record {
  links = ap (λ (now : HeldLinks Telling). plain_links now.past hearer.links) (none_more party past more (sym none)) ∙ heard.links ∙ sym (none_more party past more (sym none));
  told = heard.told ∙ ap (λ (now : HeldLinks Telling). told_on now.past) (sym (none_more party past more (sym none)));
}

-- what is told where a link ends
abbrev pub found_with : List Told → Option LentLink → List Told
found_with found None = found
found_with found (Some link) = found ++ map plain_told link.pass.found.items

told_more : (past : List Telling) (ended : Option LentLink) → found_with (told_on past) ended ≡ told_on (past_with past ended)
told_more past None = refl
told_more past (Some link) =
    let more = map plain_told link.pass.found.items in
    ap (λ found. told_on past ++ found) (sym (append-nil more)) ∙ sym (flat_map-append (λ (one : Telling). one.told) past (plain_telling link.pass ∷ []))

pub heard_more : (party : Party) (past : List Entry) (more : Entry) (move : Move) (old new : Hearer) (ended : Option LentLink) → Some move ≡ move_of sides.B more
    → ((tellings : List Telling) → plain_links (past_with tellings ended) new.links ≡ links_after (telling_after party) no_telling (plain_links tellings old.links) move)
    → map plain_told new.found.items ≡ found_with (map plain_told old.found.items) ended
    → IsHeard party past old → IsHeard party (past ++ more ∷ []) new
heard_more party past more move old new ended moved hears tells heard =
    let before = links_of_b party past in
    let now : plain_links (past_with before.past ended) new.links ≡ links_of_b party (past ++ more ∷ []) =
    hears before.past ∙ ap (λ links. links_after (telling_after party) no_telling links move) heard.links ∙ sym (move_more party past more move (sym moved)) in
    let ends : past_with before.past ended ≡ (links_of_b party (past ++ more ∷ [])).past = ap (λ (links : HeldLinks Telling). links.past) now in
    record {
      links = ap (λ tellings. plain_links tellings new.links) (sym ends) ∙ now;
      told = tells ∙ ap (λ found. found_with found ended) heard.told ∙ told_more before.past ended ∙ ap told_on ends;
    }

-- ---- the end

all_tellings : (past : List Telling) (up : Option LentLink) → past_with past up ≡ past ++ option_to_list (option_map (λ (link : HeldLink Telling). link.state) (option_map plain_link up))
all_tellings past None = sym (append-nil past)
all_tellings past (Some link) = refl

pub heard_all : (party : Party) (past : List Entry) (hearer : Hearer) (found : List Told) → found ≡ found_with (map plain_told hearer.found.items) hearer.links.up → IsHeard party past hearer
    → found ≡ map told (objects_heard party sides.B past)
heard_all party past hearer found is heard =
    let before = links_of_b party past in
    is
    ∙ ap (λ found. found_with found hearer.links.up) heard.told
    ∙ told_more before.past hearer.links.up
    ∙ ap told_on (all_tellings before.past hearer.links.up ∙ ap states heard.links)
    ∙ captures_told party sides.B past

-- ---- the octets of a capture

-- the entries at the front of octets were heard, and those octets are left
pub record IsAt (party : Party) (octets rest : List ℕ) (hearer : Hearer) : Type 0 where
  pub past : List Entry
  pub each : AllByRecursion IsEntry past
  pub whole : octets ≡ capture_octets past ++ rest
  pub heard : IsHeard party past hearer
  pub joins : IfSome hearer.links.up JoinsPdus

all_more : (past : List Entry) (entry : Entry) → AllByRecursion IsEntry past → IsEntry entry → AllByRecursion IsEntry (past ++ entry ∷ [])
all_more [] entry each is = (is, tt)
all_more (first ∷ past) entry (now, each) is = (now, all_more past entry each is)

pub at_more : (party : Party) (octets rest : List ℕ) (old new : Hearer) (entry : Entry) (used : ℕ) → IsFront rest (Ok (entry, used)) → IsAt party octets rest old
    → ((past : List Entry) → IsHeard party past old → IsHeard party (past ++ entry ∷ []) new) → IfSome new.links.up JoinsPdus → IsAt party octets (drop used rest) new
at_more party octets rest old new entry used (behind, is, whole, size) at hears joins =
    let left : drop used rest ≡ behind = ap (λ n. drop n rest) size ∙ ap (drop (length (entry_octets entry))) whole ∙ drop-append_seam (entry_octets entry) behind in
    record {
      past = at.past ++ entry ∷ [];
      each = all_more at.past entry at.each is;
      whole =
          at.whole
          ∙ ap (λ xs. capture_octets at.past ++ xs) (whole ∙ ap (λ xs. xs ++ behind) (sym (append-nil (entry_octets entry))))
          ∙ sym (append_assoc (capture_octets at.past) (entry_octets entry ++ []) behind)
          ∙ ap (λ xs. xs ++ behind) (sym (flat_map-append entry_octets at.past (entry ∷ [])))
          ∙ ap (λ xs. capture_octets (at.past ++ entry ∷ []) ++ xs) (sym left);
      heard = hears at.past at.heard;
      joins = joins;
    }

-- a capture was heard to its end
pub at_end : (party : Party) (octets rest : List ℕ) (hearer : Hearer) (entries : List Entry) → rest ≡ [] → IsAt party octets rest hearer → IsCapture octets entries → IsHeard party entries hearer
at_end party octets rest hearer entries none at capture =
    let read : IsCapture octets at.past = record { each = at.each; whole = at.whole ∙ ap (λ xs. capture_octets at.past ++ xs) none ∙ append-nil (capture_octets at.past) } in
    subst (λ past. IsHeard party past hearer) (one_capture octets at.past entries read capture) at.heard

-- where no entry stands the octets are no capture
pub at_fault : (party : Party) (octets rest : List ℕ) (hearer : Hearer) (entries : List Entry) (refusal : EntryRefusal) → (rest ≡ [] → ⊥) → IsFront rest (Err refusal) → IsAt party octets rest hearer → IsCapture octets entries → ⊥
at_fault party octets rest hearer entries refusal more front at capture =
    not_refused octets entries refusal (length (capture_octets at.past)) capture
    (record { entries = at.past; rest = rest; each = at.each; whole = at.whole; more = more; refused = front; stands = refl })

some_left : (rest : List ℕ) → (length rest == 0) ≡ false → rest ≡ [] → ⊥
some_left [] e none = cc
some_left (x ∷ rest) e none = cc

none_left : (rest : List ℕ) → (length rest == 0) ≡ true → rest ≡ []
none_left [] e = refl
none_left (x ∷ rest) e = let none = eqb-true (length (x ∷ rest)) 0 e in absurd (omega arith)

pub at_last : (party : Party) (octets rest : List ℕ) (hearer : Hearer) (entries : List Entry) (found : List Told) → (length rest == 0) ≡ true → IsAt party octets rest hearer → IsCapture octets entries
    → ((past : List Entry) → IsHeard party past hearer → found ≡ map told (objects_heard party sides.B past)) → found ≡ map told (objects_heard party sides.B entries)
at_last party octets rest hearer entries found none at capture tells = tells entries (at_end party octets rest hearer entries (none_left rest none) at capture)

pub at_refused : (party : Party) (octets rest : List ℕ) (hearer : Hearer) (entries : List Entry) (refusal : EntryRefusal) (found : List Told) → (length rest == 0) ≡ false → IsFront rest (Err refusal) → IsAt party octets rest hearer
    → IsCapture octets entries → found ≡ map told (objects_heard party sides.B entries)
at_refused party octets rest hearer entries refusal found more front at capture = absurd (at_fault party octets rest hearer entries refusal (some_left rest more) front at capture)
