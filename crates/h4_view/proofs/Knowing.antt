-- What is kept of links after one packet more.
use Rattle.std.proofs.Common.{◌≡◌, ◌≢◌, ℕ, zero, suc, ◌<◌, ◌≤◌, List, [], ◌∷◌, ◌++◌, length, get_or, set, Bool, true, false, cond, nat_lt, eqb, ◌&&◌, Option, Some, None, refl, sym, ap, subst, ◌∙◌, inl, inr, arith}
use Rattle.std.specs.Prelude.{is_none}
use Rattle.std.specs.List.{AllByRecursion}
use Rattle.std.proofs.lemmas.List.{get_or_default, get_or-set_same, get_or-set_other}
use Rattle.std.proofs.lemmas.List.Sums.{fold-append}
use Rattle.std.proofs.lemmas.Bool.Decides.{eqb_tells}
use Rattle.std.proofs.lemmas.Bool.{ltb-false}
use Rattle.hci_packets.specs.declared.refusal.HciRefusal.{HciRefusal}
use Rattle.hci_packets.specs.declared.refusal.HciRefusal.TheVariants.{ShortParams, LongParams, BadHandle}
use Rattle.hci_packets.specs.Refusals.{bad_handle}
use Rattle.hci_packets.specs.Events.{event_refusal}
use Rattle.hci_packets.specs.declared.acl.Boundary.{Boundary}
use Rattle.acl_fragments.specs.Pieces.{Piece}
use Rattle.acl_fragments.specs.Joiners.{Held}
use Rattle.h4_framing.specs.Packets.{Packet, Command, Acl, Sync, Event}
use Rattle.h4_view.specs.declared.links.Link.{Link}
use Rattle.h4_view.specs.declared.links.Links.{Links}
use Rattle.h4_view.specs.Details.{link_of, closed_handle, with_piece, with_packet, pieces_on, IsSpare, IsLinkOf, ClosesBy, forgotten, joined_text, piece_text, under, Knows}

-- the pieces of a handle with one packet more
pub pieces-last : (handle : ℕ) (past : List Packet) (p : Packet) → pieces_on handle (past ++ p ∷ []) ≡ with_packet handle (pieces_on handle past) p
pieces-last handle past p = fold-append (with_packet handle) [] past (p ∷ [])

-- a packet that touches no link, and adds no piece
pub knows_same : (past : List Packet) (links : Links) (p : Packet) → ((handle : ℕ) → with_packet handle (pieces_on handle past) p ≡ pieces_on handle past)
    → Knows past links → Knows (past ++ p ∷ []) links
knows_same past links p same knows = record {
  each = λ handle lt. subst (λ (ps : List Piece). IsLinkOf ps (get_or links.places.items handle None)) (sym (pieces-last handle past p ∙ same handle)) (knows.each handle lt);
  spare = knows.spare;
}

-- a place without a link, wherever it is
none_stands : (places : List (Option Link)) (at : ℕ) → get_or (set places at None) at None ≡ None
none_stands [] at = refl
none_stands (place ∷ places) zero = refl
none_stands (place ∷ places) (suc at) = none_stands places at

-- a packet that changes what is kept of one link
pub knows_changed : (past : List Packet) (links links' : Links) (p : Packet) (at : ℕ) (new : Option Link) (pieces : List Piece) → at < 0x0F00
    → with_packet at (pieces_on at past) p ≡ pieces → IsLinkOf pieces new → ((handle : ℕ) → handle ≢ at → with_packet handle (pieces_on handle past) p ≡ pieces_on handle past)
    → get_or (set links.places.items at new) at None ≡ new → links'.places.items ≡ set links.places.items at new → AllByRecursion IsSpare links'.spare.items → Knows past links → Knows (past ++ p ∷ []) links'
knows_changed past links links' p at new pieces below here is others stands placed spare knows = record {
  each = λ handle lt. elim (eqb_tells handle at) [
    | inl same ↦
        let there : get_or links'.places.items handle None ≡ new =
        ap (λ (ls : List (Option Link)). get_or ls handle None) placed
        ∙ ap (λ (k : ℕ). get_or (set links.places.items at new) k None) same.1
        ∙ stands
        in
        let ps : pieces_on handle (past ++ p ∷ []) ≡ pieces = pieces-last handle past p ∙ ap (λ (k : ℕ). with_packet k (pieces_on k past) p) same.1 ∙ here in
        subst (λ (o : Option Link). IsLinkOf (pieces_on handle (past ++ p ∷ [])) o) (sym there) (subst (λ (qs : List Piece). IsLinkOf qs new) (sym ps) is)
    | inr other ↦
        let there : get_or links'.places.items handle None ≡ get_or links.places.items handle None =
        ap (λ (ls : List (Option Link)). get_or ls handle None) placed
        ∙ get_or-set_other links.places.items at handle new None other.1
        in
        let ps : pieces_on handle (past ++ p ∷ []) ≡ pieces_on handle past = pieces-last handle past p ∙ others handle other.1 in
        subst (λ (o : Option Link). IsLinkOf (pieces_on handle (past ++ p ∷ [])) o) (sym there) (subst (λ (qs : List Piece). IsLinkOf qs (get_or links.places.items handle None)) (sym ps) (knows.each handle lt))
  ];
  spare = spare;
}

eqb_other : (a b : ℕ) → a ≢ b → eqb a b ≡ false
eqb_other a b ne = elim (eqb_tells a b) [ inl same ↦ absurd (ne same.1) | inr other ↦ other.0 ]

eqb_same : (a : ℕ) → eqb a a ≡ true
eqb_same a = elim (eqb_tells a a) [ inl same ↦ same.0 | inr other ↦ absurd (other.1 refl) ]

-- a piece of a link
pub knows_piece : (past : List Packet) (links links' : Links) (word : ℕ) (octets : List ℕ) (at : ℕ) (boundary : Boundary) (new : Option Link) → at < 0x0F00 → at < length links.places.items → link_of word ≡ Some (at, boundary)
    → IsLinkOf (pieces_on at past ++ record { boundary = boundary; octets = octets } ∷ []) new → links'.places.items ≡ set links.places.items at new → AllByRecursion IsSpare links'.spare.items
    → Knows past links → Knows (past ++ Acl word octets ∷ []) links'
knows_piece past links links' word octets at boundary new below within link is placed spare knows =
    let here : with_packet at (pieces_on at past) (Acl word octets) ≡ pieces_on at past ++ record { boundary = boundary; octets = octets } ∷ [] = ap (with_piece at octets (pieces_on at past)) link ∙ rw (eqb_same at) refl in
    let others : (other : ℕ) → other ≢ at → with_packet other (pieces_on other past) (Acl word octets) ≡ pieces_on other past = λ other ne. ap (with_piece other octets (pieces_on other past)) link ∙ rw (eqb_other at other (λ e. ne (sym e))) refl in
    knows_changed past links links' (Acl word octets) at new _ below here is others (get_or-set_same links.places.items at new None within) placed spare knows

-- a piece on no handle
pub knows_stray : (past : List Packet) (links : Links) (word : ℕ) (octets : List ℕ) → link_of word ≡ None → Knows past links → Knows (past ++ Acl word octets ∷ []) links
knows_stray past links word octets link knows = knows_same past links (Acl word octets) (λ handle. ap (with_piece handle octets (pieces_on handle past)) link) knows

-- a piece on no handle, and its text
pub stray_shown : (past : List Packet) (links : Links) (word : ℕ) (octets text text' : List ℕ) → None ≡ link_of word → text' ≡ text ++ piece_text past octets None → Knows past links
    → (text' ≡ text ++ under past (Acl word octets)) × Knows (past ++ Acl word octets ∷ []) links
stray_shown past links word octets text text' link wrote knows = (wrote ∙ ap (λ (l : Option (ℕ × Boundary)). text ++ piece_text past octets l) link, knows_stray past links word octets (sym link) knows)

-- a piece of a link, and its text
pub piece_shown : (past : List Packet) (links links' : Links) (word : ℕ) (octets : List ℕ) (at : ℕ) (boundary : Boundary) (old new : Option Link) (text text' : List ℕ) → at < 0x0F00 → at < length links.places.items → Some (at, boundary) ≡ link_of word
    → old ≡ get_or links.places.items at old
    → ((pieces : List Piece) → IsLinkOf pieces old → AllByRecursion IsSpare links.spare.items
    → (text' ≡ text ++ joined_text pieces (record { boundary = boundary; octets = octets })) × IsLinkOf (pieces ++ record { boundary = boundary; octets = octets } ∷ []) new × AllByRecursion IsSpare links'.spare.items)
    → links'.places.items ≡ set links.places.items at new
    → Knows past links → (text' ≡ text ++ under past (Acl word octets)) × Knows (past ++ Acl word octets ∷ []) links'
piece_shown past links links' word octets at boundary old new text text' below within link there pushed placed knows =
    let is : old ≡ get_or links.places.items at None = there ∙ get_or_default links.places.items at old None within in
    let here = pushed (pieces_on at past) (subst (λ (o : Option Link). IsLinkOf (pieces_on at past) o) (sym is) (knows.each at below)) knows.spare in
    (here.0 ∙ ap (λ (l : Option (ℕ × Boundary)). text ++ piece_text past octets l) link, knows_piece past links links' word octets at boundary new below within (sym link) here.1 placed here.2 knows)

-- a command
pub knows_command : (past : List Packet) (links : Links) (opcode : ℕ) (params : List ℕ) → Knows past links → Knows (past ++ Command opcode params ∷ []) links
knows_command past links opcode params knows = knows_same past links (Command opcode params) (λ handle. refl) knows

-- synchronous data
pub knows_sync : (past : List Packet) (links : Links) (word : ℕ) (octets : List ℕ) → Knows past links → Knows (past ++ Sync word octets ∷ []) links
knows_sync past links word octets knows = knows_same past links (Sync word octets) (λ handle. refl) knows

-- an event, by what it tells the end of
pub knows_by : (closed : Option ℕ) (past : List Packet) (links links' : Links) (code : ℕ) (params : List ℕ) → ClosesBy code params closed → links'.places.items ≡ forgotten links.places.items closed → links'.spare ≡ links.spare
    → Knows past links → Knows (past ++ Event code params ∷ []) links'
knows_by None past links links' code params by placed spare knows =
    let same = knows_same past links (Event code params) (λ handle. rw (by handle) refl) knows in
    record {
      each = λ handle lt. subst (λ (ls : List (Option Link)). IsLinkOf (pieces_on handle (past ++ Event code params ∷ [])) (get_or ls handle None)) (sym placed) (same.each handle lt);
      spare = subst (λ s. AllByRecursion IsSpare s.items) (sym spare) same.spare;
    }
knows_by (Some at) past links links' code params by placed spare knows =
    knows_changed past links links' (Event code params) at None [] by.0 (rw (by.1 at ∙ eqb_same at) refl) refl (λ handle ne. rw (by.1 handle ∙ eqb_other at handle (λ e. ne (sym e))) refl) (none_stands links.places.items at) placed
    (subst (λ s. AllByRecursion IsSpare s.items) (sym spare) knows.spare) knows

-- nothing is kept before the first packet
pub knows_none : (links : Links) → links.places.items ≡ [] → links.spare.items ≡ [] → Knows [] links
knows_none links is spare = record {
  each = λ handle lt. subst (λ (ls : List (Option Link)). IsLinkOf [] (get_or ls handle None)) (sym is) refl;
  spare = subst (λ (js : List Held). AllByRecursion IsSpare js) (sym spare) tt;
}

-- more places for handles without a link change nothing
pub knows_placed : (past : List Packet) (links links' : Links) → ((handle : ℕ) → get_or links'.places.items handle None ≡ get_or links.places.items handle None) → links'.spare ≡ links.spare → Knows past links → Knows past links'
knows_placed past links links' same spare knows = record {
  each = λ handle lt. subst (λ (o : Option Link). IsLinkOf (pieces_on handle past) o) (sym (same handle)) (knows.each handle lt);
  spare = subst (λ s. AllByRecursion IsSpare s.items) (sym spare) knows.spare;
}

passed : {X : Type 0} (b : Bool) (x : X) (o : Option X) → cond b (Some x) o ≡ None → (b ≡ false) × (o ≡ None)
passed true x o e = absurd cc
passed false x o e = (refl, e)

-- an end of a link that is not refused names a handle, in four octets
pub closing_event : (params : List ℕ) → event_refusal 0x05 params ≡ None → (4 ≤ length params) × (closed_handle params < 0x0F00)
closing_event params e =
    let short = passed (nat_lt (length params) 4) ShortParams _ e in
    let long = passed (nat_lt 4 (length params)) LongParams _ short.1 in
    let handle = passed (bad_handle (closed_handle params)) BadHandle None long.1 in
    (ltb-false (length params) 4 short.0, omega (arith, ltb-false 0x0EFF (closed_handle params) handle.0))

-- what an event that is read tells
pub closes_some : (code : ℕ) (params : List ℕ) → code ≡ 0x05 → event_refusal code params ≡ None → ClosesBy code params (Some (closed_handle params))
closes_some code params is accepted =
    let accepted' : event_refusal 0x05 params ≡ None = subst (λ (k : ℕ). event_refusal k params ≡ None) is accepted in
    ((closing_event params accepted').1, λ handle. rw (is, accepted') refl)

pub closes_other : (code : ℕ) (params : List ℕ) → code ≢ 0x05 → ClosesBy code params None
closes_other code params other handle = rw (eqb_other code 0x05 other) refl

refused_no : (o : Option HciRefusal) (a c : Bool) (refusal : HciRefusal) → o ≡ Some refusal → ((a && is_none o) && c) ≡ false
refused_no None a c refusal e = absurd cc
refused_no (Some x) true c refusal e = refl
refused_no (Some x) false c refusal e = refl

pub closes_refused : (code : ℕ) (params : List ℕ) (refusal : HciRefusal) → event_refusal code params ≡ Some refusal → ClosesBy code params None
closes_refused code params refusal refused handle = refused_no (event_refusal code params) (eqb code 0x05) (eqb (closed_handle params) handle) refusal refused
