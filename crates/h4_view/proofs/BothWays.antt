-- What is kept of links where it is known which way each packet goes.
use Rattle.std.proofs.Common.{◌≡◌, ◌≢◌, ℕ, zero, suc, ◌<◌, List, [], ◌∷◌, ◌++◌, length, get_or, set, true, false, eqb, Option, Some, None, refl, sym, ap, subst, ◌∙◌, append_assoc, inl, inr}
use Rattle.std.specs.List.{AllByRecursion}
use Rattle.std.proofs.lemmas.List.{append-nil, get_or_default, get_or-set_same, get_or-set_other}
use Rattle.std.proofs.lemmas.List.Sums.{fold-append}
use Rattle.std.proofs.lemmas.Grind.{flat_map-append}
use Rattle.std.proofs.lemmas.Bool.Decides.{eqb_tells}
use Rattle.hci_packets.specs.declared.acl.Boundary.{Boundary}
use Rattle.acl_fragments.specs.Pieces.{Piece}
use Rattle.acl_fragments.specs.Joiners.{Held}
use Rattle.h4_framing.specs.Packets.{Command, Acl, Sync, Event}
use Rattle.seen_channels.specs.declared.direction.Direction.{Direction}
use Rattle.seen_channels.specs.declared.direction.Direction.TheVariants.{Out, In}
use Rattle.seen_channels.specs.Tellings.{Learnt, nothing}
use Rattle.seen_channels.specs.Tables.{Keeps}
use Rattle.h4_view.specs.declared.both_links.BothLink.{BothLink}
use Rattle.h4_view.specs.declared.both_links.BothLinks.{BothLinks}
use Rattle.h4_view.specs.Details.{link_of, IsJoinerOf, IsSpare, ClosesBy}
use Rattle.h4_view.specs.Lanes.{learnt_with, LaneKept}
use Rattle.h4_view.specs.Both.{Sent, SentPiece, in_lane, lane, learnt_from, learnt_both, with_sent_piece, with_sent, sent_on, both_text, sent_piece_text, under_by, IsBoth, IsBothOf, KnowsBoth, without_link}

-- ---- one piece more

lane-last : (d : Direction) (pieces : List SentPiece) (s : SentPiece) → lane d (pieces ++ s ∷ []) ≡ lane d pieces ++ in_lane d s.direction s.piece
lane-last d pieces s =
    flat_map-append (λ (sent : SentPiece). in_lane d sent.direction sent.piece) pieces (s ∷ []) ∙ ap (λ (t : List Piece). lane d pieces ++ t) (append-nil (in_lane d s.direction s.piece))

learnt_from-last : (past : List SentPiece) (known : Learnt) (pieces : List SentPiece) (s : SentPiece)
    → learnt_from past known (pieces ++ s ∷ []) ≡ learnt_with (lane s.direction (past ++ pieces)) (learnt_from past known pieces) s.direction s.piece
learnt_from-last past known [] s = ap (λ (t : List SentPiece). learnt_with (lane s.direction t) known s.direction s.piece) (sym (append-nil past))
learnt_from-last past known (p ∷ pieces) s =
    let known' : Learnt = learnt_with (lane p.direction past) known p.direction p.piece in
    learnt_from-last (past ++ p ∷ []) known' pieces s
    ∙ ap (λ (t : List SentPiece). learnt_with (lane s.direction t) (learnt_from (past ++ p ∷ []) known' pieces) s.direction s.piece) (append_assoc past (p ∷ []) pieces)

learnt_both-last : (pieces : List SentPiece) (s : SentPiece) → learnt_both (pieces ++ s ∷ []) ≡ learnt_with (lane s.direction pieces) (learnt_both pieces) s.direction s.piece
learnt_both-last pieces s = learnt_from-last [] nothing pieces s

same_joiner : (pieces pieces' : List Piece) (o : Option Held) → pieces' ≡ pieces → IsJoinerOf pieces o → IsJoinerOf pieces' o
same_joiner pieces pieces' o e is = subst (λ (ps : List Piece). IsJoinerOf ps o) (sym e) is

-- a piece that goes out
pub out_more : (past : List SentPiece) (p : Piece) (old new : BothLink) (text text' : List ℕ) → IsBoth past old → LaneKept (lane Out past) (learnt_both past) Out p text text' new.out new.channels → new.into ≡ old.into
    → (text' ≡ text ++ both_text past Out p) × IsBoth (past ++ record { direction = Out; piece = p } ∷ []) new
out_more past p old new text text' is kept other =
    let s : SentPiece = record { direction = Out; piece = p } in (
      kept.written,
      record {
        out = same_joiner (lane Out past ++ p ∷ []) (lane Out (past ++ s ∷ [])) new.out (lane-last Out past s) kept.joiner;
        into = subst (λ (o : Option Held). IsJoinerOf (lane In (past ++ s ∷ [])) o) (sym other) (same_joiner (lane In past) (lane In (past ++ s ∷ [])) old.into (lane-last In past s ∙ append-nil (lane In past)) is.into);
        channels = subst (λ (l : Learnt). Keeps l new.channels) (sym (learnt_both-last past s)) kept.channels;
      },
    )

-- a piece that comes in
pub in_more : (past : List SentPiece) (p : Piece) (old new : BothLink) (text text' : List ℕ) → IsBoth past old → LaneKept (lane In past) (learnt_both past) In p text text' new.into new.channels → new.out ≡ old.out
    → (text' ≡ text ++ both_text past In p) × IsBoth (past ++ record { direction = In; piece = p } ∷ []) new
in_more past p old new text text' is kept other =
    let s : SentPiece = record { direction = In; piece = p } in (
      kept.written,
      record {
        out = subst (λ (o : Option Held). IsJoinerOf (lane Out (past ++ s ∷ [])) o) (sym other) (same_joiner (lane Out past) (lane Out (past ++ s ∷ [])) old.out (lane-last Out past s ∙ append-nil (lane Out past)) is.out);
        into = same_joiner (lane In past ++ p ∷ []) (lane In (past ++ s ∷ [])) new.into (lane-last In past s) kept.joiner;
        channels = subst (λ (l : Learnt). Keeps l new.channels) (sym (learnt_both-last past s)) kept.channels;
      },
    )

-- ---- one packet more

sent-last : (handle : ℕ) (past : List Sent) (s : Sent) → sent_on handle (past ++ s ∷ []) ≡ with_sent handle (sent_on handle past) s
sent-last handle past s = fold-append (with_sent handle) [] past (s ∷ [])

-- a packet that touches no link, and adds no piece
both_same : (past : List Sent) (links : BothLinks) (s : Sent) → ((handle : ℕ) → with_sent handle (sent_on handle past) s ≡ sent_on handle past) → KnowsBoth past links → KnowsBoth (past ++ s ∷ []) links
both_same past links s same knows = record {
  each = λ handle lt. subst (λ (ps : List SentPiece). IsBothOf ps (get_or links.places.items handle None)) (sym (sent-last handle past s ∙ same handle)) (knows.each handle lt);
  spare = knows.spare;
}

-- a place without a link, wherever it is
none_stands : (places : List (Option BothLink)) (at : ℕ) → get_or (set places at None) at None ≡ None
none_stands [] at = refl
none_stands (place ∷ places) zero = refl
none_stands (place ∷ places) (suc at) = none_stands places at

-- a packet that changes what is kept of one link
both_changed : (past : List Sent) (links links' : BothLinks) (s : Sent) (at : ℕ) (new : Option BothLink) (pieces : List SentPiece) → at < 0x0F00
    → with_sent at (sent_on at past) s ≡ pieces → IsBothOf pieces new → ((handle : ℕ) → handle ≢ at → with_sent handle (sent_on handle past) s ≡ sent_on handle past)
    → get_or (set links.places.items at new) at None ≡ new → links'.places.items ≡ set links.places.items at new → AllByRecursion IsSpare links'.spare.items → KnowsBoth past links → KnowsBoth (past ++ s ∷ []) links'
both_changed past links links' s at new pieces below here is others stands placed spare knows = record {
  each = λ handle lt. elim (eqb_tells handle at) [
    | inl same ↦
        let there : get_or links'.places.items handle None ≡ new =
        ap (λ (ls : List (Option BothLink)). get_or ls handle None) placed
        ∙ ap (λ (k : ℕ). get_or (set links.places.items at new) k None) same.1
        ∙ stands
        in
        let ps : sent_on handle (past ++ s ∷ []) ≡ pieces = sent-last handle past s ∙ ap (λ (k : ℕ). with_sent k (sent_on k past) s) same.1 ∙ here in
        subst (λ (o : Option BothLink). IsBothOf (sent_on handle (past ++ s ∷ [])) o) (sym there) (subst (λ (qs : List SentPiece). IsBothOf qs new) (sym ps) is)
    | inr other ↦
        let there : get_or links'.places.items handle None ≡ get_or links.places.items handle None =
        ap (λ (ls : List (Option BothLink)). get_or ls handle None) placed
        ∙ get_or-set_other links.places.items at handle new None other.1
        in
        let ps : sent_on handle (past ++ s ∷ []) ≡ sent_on handle past = sent-last handle past s ∙ others handle other.1 in
        subst (λ (o : Option BothLink). IsBothOf (sent_on handle (past ++ s ∷ [])) o) (sym there) (subst (λ (qs : List SentPiece). IsBothOf qs (get_or links.places.items handle None)) (sym ps) (knows.each handle lt))
  ];
  spare = spare;
}

eqb_other : (a b : ℕ) → a ≢ b → eqb a b ≡ false
eqb_other a b ne = elim (eqb_tells a b) [ inl same ↦ absurd (ne same.1) | inr other ↦ other.0 ]

eqb_same : (a : ℕ) → eqb a a ≡ true
eqb_same a = elim (eqb_tells a a) [ inl same ↦ same.0 | inr other ↦ absurd (other.1 refl) ]

-- a piece on no handle, and its text
pub stray_both : (past : List Sent) (links : BothLinks) (direction : Direction) (word : ℕ) (octets text text' : List ℕ) → None ≡ link_of word → text' ≡ text ++ sent_piece_text past direction octets None → KnowsBoth past links
    → (text' ≡ text ++ under_by past direction (Acl word octets)) × KnowsBoth (past ++ record { direction = direction; packet = Acl word octets } ∷ []) links
stray_both past links direction word octets text text' link wrote knows = (
  wrote ∙ ap (λ (l : Option (ℕ × Boundary)). text ++ sent_piece_text past direction octets l) link,
  both_same past links (record { direction = direction; packet = Acl word octets }) (λ handle. ap (with_sent_piece handle direction octets (sent_on handle past)) (sym link)) knows,
)

-- a piece of a link, and its text
pub piece_both : (past : List Sent) (links links' : BothLinks) (direction : Direction) (word : ℕ) (octets : List ℕ) (at : ℕ) (boundary : Boundary) (old new : Option BothLink) (text text' : List ℕ) → at < 0x0F00 → at < length links.places.items → Some (at, boundary) ≡ link_of word
    → old ≡ get_or links.places.items at old
    → ((pieces : List SentPiece) → IsBothOf pieces old → AllByRecursion IsSpare links.spare.items
    → (text' ≡ text ++ both_text pieces direction (record { boundary = boundary; octets = octets })) × IsBothOf (pieces ++ record { direction = direction; piece = record { boundary = boundary; octets = octets } } ∷ []) new × AllByRecursion IsSpare links'.spare.items)
    → links'.places.items ≡ set links.places.items at new
    → KnowsBoth past links → (text' ≡ text ++ under_by past direction (Acl word octets)) × KnowsBoth (past ++ record { direction = direction; packet = Acl word octets } ∷ []) links'
piece_both past links links' direction word octets at boundary old new text text' below within link there pushed placed knows =
    let s : Sent = record { direction = direction; packet = Acl word octets } in
    let more : List SentPiece = sent_on at past ++ record { direction = direction; piece = record { boundary = boundary; octets = octets } } ∷ [] in
    let is : old ≡ get_or links.places.items at None = there ∙ get_or_default links.places.items at old None within in
    let pieces = pushed (sent_on at past) (subst (λ (o : Option BothLink). IsBothOf (sent_on at past) o) (sym is) (knows.each at below)) knows.spare in
    let here : with_sent at (sent_on at past) s ≡ more = ap (with_sent_piece at direction octets (sent_on at past)) (sym link) ∙ rw (eqb_same at) refl in
    let others : (other : ℕ) → other ≢ at → with_sent other (sent_on other past) s ≡ sent_on other past = λ other ne. ap (with_sent_piece other direction octets (sent_on other past)) (sym link) ∙ rw (eqb_other at other (λ e. ne (sym e))) refl in
    (pieces.0 ∙ ap (λ (l : Option (ℕ × Boundary)). text ++ sent_piece_text past direction octets l) link, both_changed past links links' s at new more below here pieces.1 others (get_or-set_same links.places.items at new None within) placed pieces.2 knows)

pub command_both : (past : List Sent) (links : BothLinks) (direction : Direction) (opcode : ℕ) (params : List ℕ) → KnowsBoth past links → KnowsBoth (past ++ record { direction = direction; packet = Command opcode params } ∷ []) links
command_both past links direction opcode params knows = both_same past links (record { direction = direction; packet = Command opcode params }) (λ handle. refl) knows

pub sync_both : (past : List Sent) (links : BothLinks) (direction : Direction) (word : ℕ) (octets : List ℕ) → KnowsBoth past links → KnowsBoth (past ++ record { direction = direction; packet = Sync word octets } ∷ []) links
sync_both past links direction word octets knows = both_same past links (record { direction = direction; packet = Sync word octets }) (λ handle. refl) knows

-- an event, by what it tells the end of
pub event_both : (closed : Option ℕ) (past : List Sent) (links links' : BothLinks) (direction : Direction) (code : ℕ) (params : List ℕ) → ClosesBy code params closed
    → links'.places.items ≡ without_link links.places.items closed → links'.spare ≡ links.spare
    → KnowsBoth past links → KnowsBoth (past ++ record { direction = direction; packet = Event code params } ∷ []) links'
event_both None past links links' direction code params by placed spare knows =
    let s : Sent = record { direction = direction; packet = Event code params } in
    let same = both_same past links s (λ handle. rw (by handle) refl) knows in
    record {
      each = λ handle lt. subst (λ (ls : List (Option BothLink)). IsBothOf (sent_on handle (past ++ s ∷ [])) (get_or ls handle None)) (sym placed) (same.each handle lt);
      spare = subst (λ t. AllByRecursion IsSpare t.items) (sym spare) same.spare;
    }
event_both (Some at) past links links' direction code params by placed spare knows =
    both_changed past links links' (record { direction = direction; packet = Event code params }) at None [] by.0 (rw (by.1 at ∙ eqb_same at) refl) refl (λ handle ne. rw (by.1 handle ∙ eqb_other at handle (λ e. ne (sym e))) refl) (none_stands links.places.items at) placed
    (subst (λ t. AllByRecursion IsSpare t.items) (sym spare) knows.spare) knows

-- nothing is kept before the first packet
pub both_none : (links : BothLinks) → links.places.items ≡ [] → links.spare.items ≡ [] → KnowsBoth [] links
both_none links is spare = record {
  each = λ handle lt. subst (λ (ls : List (Option BothLink)). IsBothOf [] (get_or ls handle None)) (sym is) refl;
  spare = subst (λ (js : List Held). AllByRecursion IsSpare js) (sym spare) tt;
}

-- more places for handles without a link change nothing
pub both_placed : (past : List Sent) (links links' : BothLinks) → ((handle : ℕ) → get_or links'.places.items handle None ≡ get_or links.places.items handle None) → links'.spare ≡ links.spare → KnowsBoth past links → KnowsBoth past links'
both_placed past links links' same spare knows = record {
  each = λ handle lt. subst (λ (o : Option BothLink). IsBothOf (sent_on handle past) o) (sym (same handle)) (knows.each handle lt);
  spare = subst (λ t. AllByRecursion IsSpare t.items) (sym spare) knows.spare;
}

-- three parts added one after the other
pub three_added : (t t1 t2 t3 a b c : List ℕ) → t1 ≡ t ++ a → t2 ≡ t1 ++ b → t3 ≡ t2 ++ c → t3 ≡ t ++ ((a ++ b) ++ c)
three_added t t1 t2 t3 a b c e1 e2 e3 =
    let s2 : t2 ≡ t ++ (a ++ b) = e2 ∙ ap (λ (x : List ℕ). x ++ b) e1 ∙ append_assoc t a b in
    e3 ∙ ap (λ (x : List ℕ). x ++ c) s2 ∙ append_assoc t (a ++ b) c
