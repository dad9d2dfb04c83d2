-- What pieces join to: a PDU that is cut comes whole with its last piece, and what is handed over of a frame is what comes of its fate.
use Rattle.std.proofs.Common.{◌≡◌, ◌⊎◌, ℕ, zero, suc, ◌+◌, ◌≤◌, ◌<◌, ◌/◌, ◌%◌, slice_set, slice_index, bit_xor, Bool, true, false, List, [], ◌∷◌, ◌++◌, length, take, drop, nat_lt, if◌then◌else◌, refl, sym, ap, ◌∙◌, append_assoc, length-append, inl, inr, arith, subst, ltb-true, ltb-false}
use Rattle.std.proofs.lemmas.List.{take-append-drop, length-take, take_all, drop_all, length-set}
use Rattle.std.proofs.lemmas.Bool.{cases_lt, le-ltb, eq-eqb, ne_eqb}
use Rattle.byteorder.specs.Numbers.{little_from-append}
use Rattle.world_model.specs.hci_packets.specs.declared.acl.Boundary.{Boundary}
use Rattle.world_model.specs.hci_packets.specs.declared.acl.Boundary.TheVariants.{Continuing, FirstFromController}
use Rattle.world_model.specs.acl_fragments.specs.Pieces.{Piece, starts, pdu_length, channel_of}
use Rattle.world_model.specs.acl_fragments.specs.Cuts.{first_pieces, cut}
use Rattle.world_model.specs.acl_fragments.specs.Answers.{Answer, Pdu, More, start_answer, next_answer, answer, kept}
use Rattle.world_model.specs.acl_fragments.specs.Laws.{IsPdu}
use Rattle.world_model.specs.capture.specs.Frames.{frame_pieces}
use Rattle.world_model.specs.radio_model.specs.declared.fate.Fate.{Fate}
use Rattle.world_model.specs.radio_model.specs.declared.fate.Fate.TheVariants.{Delivered, Lost, Repeated, CutOff, Changed}
use Rattle.world_model.specs.radio_model.specs.Fates.{changed, meets, comes_of}
use Rattle.turn_laws.specs.Premises.{IsFrame}
use Rattle.world_model.specs.Stations.{longest_pdu, whole_in, gives, holds}

-- the PDUs that pieces complete one after the other, and what is held behind them
abbrev pub completions : ℕ → List ℕ → List Piece → List (List ℕ)
completions limit held [] = []
completions limit held (piece ∷ rest) = gives limit held piece ++ completions limit (holds limit held piece) rest

abbrev pub held_behind : ℕ → List ℕ → List Piece → List ℕ
held_behind limit held [] = held
held_behind limit held (piece ∷ rest) = held_behind limit (holds limit held piece) rest

-- a PDU is completed by the last piece alone
abbrev pub EndsOnce : ℕ → List ℕ → List Piece → Type 0
EndsOnce limit held [] = Unit {0}
EndsOnce limit held (piece ∷ rest) = ((gives limit held piece ≡ []) ⊎ (rest ≡ [])) × EndsOnce limit (holds limit held piece) rest

pub completions-append : (limit : ℕ) (held : List ℕ) (one two : List Piece) → completions limit held (one ++ two) ≡ completions limit held one ++ completions limit (held_behind limit held one) two
completions-append limit held [] two = refl
completions-append limit held (piece ∷ one) two =
    ap (λ (l : List (List ℕ)). gives limit held piece ++ l) (completions-append limit (holds limit held piece) one two)
    ∙ sym (append_assoc (gives limit held piece) (completions limit (holds limit held piece) one) (completions limit (held_behind limit (holds limit held piece) one) two))

pub held-append : (limit : ℕ) (held : List ℕ) (one two : List Piece) → held_behind limit held (one ++ two) ≡ held_behind limit (held_behind limit held one) two
held-append limit held [] two = refl
held-append limit held (piece ∷ one) two = held-append limit (holds limit held piece) one two

-- ---- one PDU

length_in-front : (xs ys : List ℕ) → 4 ≤ length xs → pdu_length (xs ++ ys) ≡ pdu_length xs
length_in-front xs ys header = ap (λ n. 4 + n) (little_from-append 2 xs ys (omega arith))

next_whole : (held octets : List ℕ) → 4 ≤ length held → pdu_length held ≡ length held + length octets → next_answer held octets ≡ Pdu (channel_of (held ++ octets)) (held ++ octets)
next_whole held octets header says =
    rw (ne_eqb (length held) 0 (λ none. omega arith), le-ltb (pdu_length held) (length held + length octets) (omega (arith, says)), eq-eqb (pdu_length held) (length held + length octets) says) refl

next_more : (held octets : List ℕ) → 4 ≤ length held → length held + length octets < pdu_length held → next_answer held octets ≡ More
next_more held octets header below =
    rw (ne_eqb (length held) 0 (λ none. omega arith), le-ltb (pdu_length held) (length held + length octets) (omega arith), ne_eqb (pdu_length held) (length held + length octets) (λ same. omega arith)) refl

start_whole : (limit : ℕ) (octets : List ℕ) → IsPdu octets → length octets ≤ limit → start_answer limit octets ≡ Pdu (channel_of octets) octets
start_whole limit octets (header, says) within =
    rw (le-ltb (length octets) 4 header, le-ltb (pdu_length octets) (length octets) (omega (arith, says)), le-ltb limit (pdu_length octets) (omega (arith, says)), eq-eqb (pdu_length octets) (length octets) says) refl

start_more : (limit : ℕ) (octets : List ℕ) → 4 ≤ length octets → pdu_length octets ≤ limit → length octets < pdu_length octets → start_answer limit octets ≡ More
start_more limit octets header within below =
    rw (le-ltb (length octets) 4 header, le-ltb (pdu_length octets) (length octets) (omega arith), le-ltb limit (pdu_length octets) within, ne_eqb (pdu_length octets) (length octets) (λ same. omega arith)) refl

no_pieces : (n size : ℕ) → first_pieces n size Continuing [] ≡ []
no_pieces zero size = refl
no_pieces (suc n) size = refl

-- what pieces come to: one PDU, with the last of them
pub record Comes (limit : ℕ) (held : List ℕ) (pieces : List Piece) (whole : List ℕ) : Type 0 where
  pub completes : completions limit held pieces ≡ whole ∷ []
  pub left : held_behind limit held pieces ≡ []
  pub once : EndsOnce limit held pieces

more_comes : (limit : ℕ) (held : List ℕ) (piece : Piece) (rest : List Piece) (whole next : List ℕ) → answer limit held (starts piece.boundary) piece.octets ≡ More → holds limit held piece ≡ next
    → Comes limit next rest whole → Comes limit held (piece ∷ rest) whole
more_comes limit held piece rest whole next judged left comes =
    let none : gives limit held piece ≡ [] = ap whole_in judged in
    record {
      completes = ap (λ (l : List (List ℕ)). l ++ completions limit (holds limit held piece) rest) none ∙ ap (λ (h : List ℕ). completions limit h rest) left ∙ comes.completes;
      left = ap (λ (h : List ℕ). held_behind limit h rest) left ∙ comes.left;
      once = (inl none, subst (λ (h : List ℕ). EndsOnce limit h rest) (sym left) comes.once);
    }

last_comes : (limit : ℕ) (held : List ℕ) (piece : Piece) (rest : List Piece) (whole : List ℕ) (channel : ℕ) → answer limit held (starts piece.boundary) piece.octets ≡ Pdu channel whole → holds limit held piece ≡ [] → rest ≡ []
    → Comes limit held (piece ∷ rest) whole
last_comes limit held piece rest whole channel judged left none =
    let one : gives limit held piece ≡ whole ∷ [] = ap whole_in judged in
    rw none (record {
      completes = ap (λ (l : List (List ℕ)). l ++ []) one;
      left = left;
      once = (inr refl, tt);
    })

continued : (limit n size : ℕ) (held octets whole : List ℕ) → 1 ≤ size → length octets ≤ n → 0 < length octets → 4 ≤ length held → whole ≡ held ++ octets → pdu_length held ≡ length whole
    → Comes limit held (first_pieces n size Continuing octets) whole
continued limit zero size held octets whole some few there header is says = absurd (omega arith)
continued limit (suc n) size held [] whole some few there header is says = absurd (omega arith)
continued limit (suc n) size held (x ∷ xs) whole some few there header is says =
    let octets : List ℕ = x ∷ xs in
    let now : List ℕ = take size octets in
    let left : List ℕ = drop size octets in
    let piece : Piece = record { boundary = Continuing; octets = now } in
    let later : List Piece = first_pieces n size Continuing left in
    let parts : now ++ left ≡ octets = take-append-drop size octets in
    let count : length held + length octets ≡ length whole = sym (ap length is ∙ length-append held octets) in
    let lengths : length now + length left ≡ length octets = sym (length-append now left) ∙ ap length parts in
    let short = length-take size octets in
    elim (cases_lt size (length octets)) [
      | inl below ↦
          let judged : next_answer held now ≡ More = next_more held now header (omega (arith, short, count, says)) in
          let longer : pdu_length (held ++ now) ≡ length whole = length_in-front held now header ∙ says in
          more_comes limit held piece later whole (held ++ now) judged (ap (λ a. kept a (held ++ now)) judged)
          (continued limit n size (held ++ now) left whole some (omega (arith, short, lengths)) (omega (arith, short, lengths)) (omega (arith, length-append held now))
          (is ∙ (ap (λ ys. held ++ ys) (sym parts) ∙ sym (append_assoc held now left))) longer)
      | inr all ↦
          let same : now ≡ octets = take_all size octets all in
          let none : left ≡ [] = drop_all size octets all in
          let judged : next_answer held now ≡ Pdu (channel_of (held ++ now)) (held ++ now) = next_whole held now header (says ∙ sym count ∙ ap (λ ys. length held + length ys) (sym same)) in
          let joined : held ++ now ≡ whole = ap (λ ys. held ++ ys) same ∙ sym is in
          last_comes limit held piece later whole (channel_of (held ++ now)) (judged ∙ ap (λ (w : List ℕ). Pdu (channel_of (held ++ now)) w) joined)
          (ap (λ a. kept a (held ++ now)) judged) (ap (first_pieces n size Continuing) none ∙ no_pieces n size)
    ]

start_kept : (limit : ℕ) (held : List ℕ) (piece : Piece) (what : Answer) → starts piece.boundary ≡ true → start_answer limit piece.octets ≡ what → answer limit held (starts piece.boundary) piece.octets ≡ what
start_kept limit held piece what start is = rw start is

start_left : (limit : ℕ) (held : List ℕ) (piece : Piece) (what : Answer) → starts piece.boundary ≡ true → start_answer limit piece.octets ≡ what → holds limit held piece ≡ kept what piece.octets
start_left limit held piece what start is = rw start (ap (λ (a : Answer). kept a piece.octets) is)

-- a PDU that is cut, whatever was held before
pub cut_comes : (limit size : ℕ) (boundary : Boundary) (held pdu : List ℕ) → 27 ≤ size → starts boundary ≡ true → IsPdu pdu → length pdu ≤ limit → Comes limit held (cut size boundary pdu) pdu
cut_comes limit size boundary held [] long start is within = absurd (omega (arith, is.0))
cut_comes limit size boundary held (x ∷ xs) long start is within =
    let pdu : List ℕ = x ∷ xs in
    let now : List ℕ = take size pdu in
    let left : List ℕ = drop size pdu in
    let piece : Piece = record { boundary = boundary; octets = now } in
    let later : List Piece = first_pieces (length xs) size Continuing left in
    let parts : now ++ left ≡ pdu = take-append-drop size pdu in
    let lengths : length now + length left ≡ length pdu = sym (length-append now left) ∙ ap length parts in
    let short = length-take size pdu in
    elim (cases_lt size (length pdu)) [
      | inl below ↦
          let header : 4 ≤ length now = omega (arith, short) in
          let says : pdu_length now ≡ length pdu = sym (length_in-front now left header) ∙ (ap pdu_length parts ∙ is.1) in
          let judged : start_answer limit now ≡ More = start_more limit now header (omega (arith, says)) (omega (arith, says, short)) in
          more_comes limit held piece later pdu now (start_kept limit held piece More start judged) (start_left limit held piece More start judged)
          (continued limit (length xs) size now left pdu (omega arith) (omega (arith, short, lengths)) (omega (arith, short, lengths)) header (sym parts) says)
      | inr all ↦
          let same : now ≡ pdu = take_all size pdu all in
          let none : left ≡ [] = drop_all size pdu all in
          let judged : start_answer limit now ≡ Pdu (channel_of pdu) pdu = ap (start_answer limit) same ∙ start_whole limit pdu is within in
          last_comes limit held piece later pdu (channel_of pdu) (start_kept limit held piece (Pdu (channel_of pdu) pdu) start judged)
          (start_left limit held piece (Pdu (channel_of pdu) pdu) start judged) (ap (first_pieces (length xs) size Continuing) none ∙ no_pieces (length xs) size)
    ]

-- ---- fewer pieces

take_nothing : (n : ℕ) (pieces : List Piece) → pieces ≡ [] → take n pieces ≡ []
take_nothing zero pieces none = refl
take_nothing (suc n) [] none = refl
take_nothing (suc n) (piece ∷ pieces) none = cc

pub take_once : (limit n : ℕ) (held : List ℕ) (pieces : List Piece) → EndsOnce limit held pieces → EndsOnce limit held (take n pieces)
take_once limit zero held pieces once = tt
take_once limit (suc n) held [] once = tt
take_once limit (suc n) held (piece ∷ rest) (last, once) =
    (elim last [ inl none ↦ inl none | inr end ↦ inr (take_nothing n rest end) ], take_once limit n (holds limit held piece) rest once)

pub take_none : (limit n : ℕ) (held : List ℕ) (pieces : List Piece) → EndsOnce limit held pieces → n < length pieces → completions limit held (take n pieces) ≡ []
take_none limit zero held pieces once few = refl
take_none limit (suc n) held [] once few = refl
take_none limit (suc n) held (piece ∷ rest) (last, once) few =
    elim last [
      | inl none ↦ ap (λ (l : List (List ℕ)). l ++ completions limit (holds limit held piece) (take n rest)) none ∙ take_none limit n (holds limit held piece) rest once (omega arith)
      | inr end ↦ let length_is = ap length end in absurd (omega (arith, length_is))
    ]

-- ---- what is handed over of a frame

-- the basic header stays
set_header : (xs : List ℕ) (at value : ℕ) → 2 ≤ at → pdu_length (slice_set xs at value) ≡ pdu_length xs
set_header xs zero value high = absurd (omega arith)
set_header xs (suc zero) value high = absurd (omega arith)
set_header [] (suc (suc at)) value high = refl
set_header (x ∷ []) (suc (suc at)) value high = refl
set_header (x ∷ y ∷ rest) (suc (suc at)) value high = refl

changed_pdu : (at mask : ℕ) (frame : List ℕ) → 2 ≤ at → IsPdu frame → IsPdu (changed at mask frame)
changed_pdu at mask frame high (header, says) =
    let one : List ℕ = slice_set frame at (bit_xor (slice_index frame at) (mask / 256)) in
    let value : ℕ = bit_xor (slice_index frame (at + 1)) (mask % 256) in
    let first : length one ≡ length frame = length-set frame at (bit_xor (slice_index frame at) (mask / 256)) in
    let second : length (slice_set one (at + 1) value) ≡ length one = length-set one (at + 1) value in
    let says_first : pdu_length one ≡ pdu_length frame = set_header frame at (bit_xor (slice_index frame at) (mask / 256)) high in
    let says_second : pdu_length (slice_set one (at + 1) value) ≡ pdu_length one = set_header one (at + 1) value (omega arith) in
    (omega (arith, first, second), says_second ∙ says_first ∙ says ∙ sym first ∙ sym second)

changed_length : (at mask : ℕ) (frame : List ℕ) → length (changed at mask frame) ≡ length frame
changed_length at mask frame =
    length-set (slice_set frame at (bit_xor (slice_index frame at) (mask / 256))) (at + 1) (bit_xor (slice_index frame (at + 1)) (mask % 256))
    ∙ length-set frame at (bit_xor (slice_index frame at) (mask / 256))

-- a change that leaves the header
abbrev pub KeepsHeader : Fate → Type 0
KeepsHeader (Changed at mask) = 2 ≤ at
KeepsHeader fate = Unit {0}

pub record MeetsAs (held : List ℕ) (pieces : List Piece) (comes : List (List ℕ)) : Type 0 where
  pub completes : completions longest_pdu held pieces ≡ comes
  pub once : EndsOnce longest_pdu held pieces

whole_as : (size : ℕ) (held frame : List ℕ) → 27 ≤ size → IsFrame frame → MeetsAs held (frame_pieces size frame) (frame ∷ [])
whole_as size held frame long is = let comes = cut_comes longest_pdu size FirstFromController held frame long refl is.pdu is.short in record { completes = comes.completes; once = comes.once }

cut_as : (size count : ℕ) (held frame : List ℕ) (few : Bool) → nat_lt count (length (frame_pieces size frame)) ≡ few → 27 ≤ size → IsFrame frame
    → MeetsAs held (take count (frame_pieces size frame)) (if few then [] else frame ∷ [])
cut_as size count held frame true few long is =
    let whole = whole_as size held frame long is in
    record { completes = take_none longest_pdu count held (frame_pieces size frame) whole.once (ltb-true count (length (frame_pieces size frame)) few); once = take_once longest_pdu count held (frame_pieces size frame) whole.once }
cut_as size count held frame false few long is =
    let whole = whole_as size held frame long is in
    let all : take count (frame_pieces size frame) ≡ frame_pieces size frame = take_all count (frame_pieces size frame) (ltb-false count (length (frame_pieces size frame)) few) in
    rw all whole

pub meets_as : (size : ℕ) (fate : Fate) (checked : Bool) (held frame : List ℕ) → 27 ≤ size → IsFrame frame → KeepsHeader fate → MeetsAs held (meets size fate checked frame).pieces (comes_of size fate checked frame)
meets_as size Delivered checked held frame long is keeps = whole_as size held frame long is
meets_as size Lost checked held frame long is keeps = record { completes = refl; once = tt }
meets_as size Repeated checked held frame long is keeps = whole_as size held frame long is
meets_as size (CutOff count) checked held frame long is keeps = cut_as size count held frame (nat_lt count (length (frame_pieces size frame))) refl long is
meets_as size (Changed at mask) true held frame long is keeps =
    let same = changed_length at mask frame in
    whole_as size held (changed at mask frame) long (record { pdu = changed_pdu at mask frame keeps is.pdu; short = omega (arith, same, is.short) })
meets_as size (Changed at mask) false held frame long is keeps = record { completes = refl; once = tt }
