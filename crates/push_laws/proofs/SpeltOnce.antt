-- Of what is heard of one push its object is spelled, or none.
use Rattle.std.proofs.Common.{ℕ, ◌≡◌, ◌≤◌, ◌+◌, ◌||◌, eqb, Bool, true, false, List, [], ◌∷◌, ◌++◌, map, length, take, Option, Some, None, Result, Ok, Err, refl, sym, ap, ap₂, subst, ◌∙◌, inl, inr, arith, if◌then◌else◌}
use Rattle.std.proofs.lemmas.Bool.{cases_lt, le-ltb, ltb-false}
use Rattle.std.proofs.Math.Seq.{take-append_seam}
use Rattle.std.specs.Prelude.{◌⊎◌, nat_lt, slice_index}
use Rattle.link_talk.specs.bt_base.specs.Objects.{Object}
use Rattle.link_talk.specs.push_terms.specs.declared.outcome.Outcome.{Outcome}
use Rattle.push_model.specs.obex_headers.specs.declared.fault.ObexRefusal.{ObexRefusal}
use Rattle.push_model.specs.obex_headers.specs.declared.fault.ObexRefusal.TheVariants.{Short, AboveMaximum}
use Rattle.push_model.specs.obex_headers.specs.declared.packet.Phase.TheVariants.{Request}
use Rattle.push_model.specs.obex_headers.specs.Packets.{PlainPacket, PlainHeader, fields_len}
use Rattle.push_model.specs.obex_headers.specs.Reading.{◌>>=◌, headers_in, front_at, packet_in}
use Rattle.push_model.specs.obex_headers.specs.Runs.{put_of, objects_from, spelled}
use Rattle.link_talk.specs.ObjectsHeard.{put_within, spelled_within}
use Rattle.push_model.specs.obex_session.specs.Past.{Heard, puts_heard}
use Rattle.push_model.specs.obex_session.specs.PutPackets.{units_in}
use Rattle.push_model.specs.Client.{Client}
use Rattle.push_laws.specs.OneName.{HasOneName}
use Rattle.push_laws.specs.Parties.{IsFrontOf}
use Rattle.push_laws.specs.Sending.{IsSent}
use Rattle.push_laws.specs.Spelled.{IsOnce, IsOfShelf}
use Rattle.push_laws.proofs.Listening.{octets_of as octets_in}
use Rattle.push_laws.proofs.OneName.{Either, one_name_leaves, one_name_front}
use Rattle.push_laws.proofs.OneObject.{sent_named, sent_long, front_spells_none}
use Rattle.push_laws.proofs.Pushing.{Task, Stands, connect_of, sent_of}
use Rattle.push_laws.proofs.Spelling.{no_put_within, spells}
use Rattle.push_laws.proofs.Talks.{Talk, talk_of}
use Rattle.push_laws.proofs.Throughout.{none_before}

-- ---- a packet that is longer than its receiver takes

abbrev Front : Type 0
Front = Result (List ℕ × List ℕ) ObexRefusal

abbrev reads : ℕ → Front → Option PlainPacket
reads code front = put_of (front >>= (λ (parts : List ℕ × List ℕ). headers_in parts.1 >>= (λ (headers : List PlainHeader). Ok (record { code = code; extra = parts.0; headers = headers }))))

refused_both : (code : ℕ) (short : Bool) → reads code (if short then Err Short else Err AboveMaximum) ≡ None
refused_both code true = refl
refused_both code false = refl

above_none : (most : ℕ) (packet : List ℕ) → nat_lt most (length packet) ≡ true → put_within most packet ≡ None
unfolding packet_in front_at
above_none most packet is = rw is (refused_both (slice_index packet 0) (nat_lt (length packet) (3 + fields_len Request (slice_index packet 0))))

within_same : (most : ℕ) (packet : List ℕ) → nat_lt most (length packet) ≡ false → nat_lt 65535 (length packet) ≡ false → put_within most packet ≡ put_within 65535 packet
unfolding packet_in front_at
within_same most packet one other = rw (one, other) refl

-- what counts as refused, being longer
abbrev flagged : ℕ → List (List ℕ) → List Heard
flagged most packets = map (λ (packet : List ℕ). let one : Heard = (packet, nat_lt most (length packet)) in one) packets

flagged_octets : (most : ℕ) (packets : List (List ℕ)) → map octets_in (flagged most packets) ≡ packets
flagged_octets most [] = refl
flagged_octets most (packet ∷ packets) = ap (λ (ps : List (List ℕ)). packet ∷ ps) (flagged_octets most packets)

one_read : (most : ℕ) (packet : List ℕ) → most ≤ 65535 → (if nat_lt most (length packet) then None else put_within 65535 packet) ≡ put_within most packet
one_read most packet fits = by (nat_lt most (length packet)) refl
  where
    by : (above : Bool) → nat_lt most (length packet) ≡ above → (if above then None else put_within 65535 packet) ≡ put_within most packet
    by true is = sym (above_none most packet is)
    by false is = let short : length packet ≤ most = ltb-false most (length packet) is in sym (within_same most packet is (le-ltb 65535 (length packet) (omega arith)))

flagged_read : (most : ℕ) (packets : List (List ℕ)) → most ≤ 65535 → puts_heard 65535 (flagged most packets) ≡ map (put_within most) packets
flagged_read most [] fits = refl
flagged_read most (packet ∷ packets) fits = ap₂ (λ (p : Option PlainPacket) (ps : List (Option PlainPacket)). p ∷ ps) (one_read most packet fits) (flagged_read most packets fits)

-- so of packets of which one at most has a Name it hears what they spell, or nothing
within_or_none : (most : ℕ) (packets : List (List ℕ)) → most ≤ 65535 → HasOneName 65535 packets → Either (spelled_within most packets) (spelled packets)
within_or_none most packets fits once =
    let same = flagged_octets most packets in
    subst (λ (os : List Object). Either os (spelled packets)) (ap (objects_from []) (flagged_read most packets fits))
    (subst (λ (ps : List (List ℕ)). Either (objects_from [] (puts_heard 65535 (flagged most packets))) (spelled ps)) same
    (one_name_leaves 65535 (flagged most packets) (subst (HasOneName 65535) (sym same) once)))

-- ---- a front of what was sent

front_taken : (front behind : List (List ℕ)) → take (length front) (front ++ behind) ≡ front
front_taken front behind = take-append_seam front behind

abbrev IsObject : (name octets : List ℕ) → List Object → Type 0
IsObject name octets spelt = (spelt ≡ []) ⊎ (spelt ≡ record { name = units_in name; octets = octets } ∷ [])

once_of : (most : ℕ) (shelf : List Object) (connect : List ℕ) (wanted : Bool) (name : List ℕ) (size : ℕ) (content : Option (List Object)) (cause : Option Outcome) (sent front : List (List ℕ)) → most ≤ 65535 → length (units_in name) ≤ 100
    → (eqb (slice_index connect 0) 0x02 || eqb (slice_index connect 0) 0x82) ≡ false → IsOfShelf shelf name size content → IsSent connect wanted name size content cause sent → IsFrontOf front sent → IsOnce shelf name (spelled_within most front)
once_of most shelf connect wanted name size content cause sent front fits short other held is (behind, whole) =
    let is' : IsSent connect wanted name size (Some shelf) cause sent = subst (λ (c : Option (List Object)). IsSent connect wanted name size c cause sent) held.content_is is in
    elim (cases_lt 16777215 size) [
      | inl long ↦ inl (front_spells_none most front behind (ap (spelled_within most) (sym whole) ∙ sent_long most connect wanted name size content cause sent (no_put_within most connect other) long is))
      | inr bounded ↦ by (within_or_none most front fits (named is')) (fronts bounded is')
    ]
  where
    named : IsSent connect wanted name size (Some shelf) cause sent → HasOneName 65535 front
    named is' = one_name_front 65535 front behind (subst (HasOneName 65535) whole (sent_named 65535 connect wanted name size (Some shelf) cause sent (no_put_within 65535 connect other) is'))

    fronts : size ≤ 16777215 → IsSent connect wanted name size (Some shelf) cause sent → IsObject name held.octets (spelled front)
    fronts bounded is' =
        let all = spells connect wanted name size shelf held.octets cause sent (no_put_within 65535 connect other) (record { short = omega arith; units = held.units; bounded = bounded }) held.there held.long is' in
        subst (λ (ps : List (List ℕ)). IsObject name held.octets (spelled ps)) (ap (take (length front)) whole ∙ front_taken front behind) (all.front (length front))

    by : Either (spelled_within most front) (spelled front) → IsObject name held.octets (spelled front) → IsOnce shelf name (spelled_within most front)
    by (inl none) once = inl none
    by (inr same) (inl none) = inl (same ∙ none)
    by (inr same) (inr one) = inr (held.octets, held.there, same ∙ one)

-- of what came of what a client sent in a push
pub stands_once : (most : ℕ) (shelf : List Object) (w : Task) (sent front : List (List ℕ)) (client : Client) → most ≤ 65535 → IsOfShelf shelf w.name w.size w.content → Stands w sent (talk_of client) → IsFrontOf front sent → IsOnce shelf w.name (spelled_within most front)
stands_once most shelf w sent front client fits held s is =
    let t : Talk = talk_of client in
    let fixed = s.0 in
    let sent_is : IsSent (connect_of w) w.wanted w.name w.size w.content t.cause sent =
    subst (λ (n : List ℕ). IsSent (connect_of w) w.wanted n w.size w.content t.cause sent) fixed.name_is (subst (λ (n : ℕ). IsSent (connect_of w) w.wanted t.name n w.content t.cause sent) fixed.size_is (sent_of w sent t s)) in
    once_of most shelf (connect_of w) w.wanted w.name w.size w.content t.cause sent front fits (subst (λ (n : List ℕ). length (units_in n) ≤ 100) fixed.name_is fixed.short) refl held sent_is is

-- and where it sent nothing
pub unsent_none : (most : ℕ) (sent front : List (List ℕ)) → sent ≡ [] → IsFrontOf front sent → spelled_within most front ≡ []
unsent_none most sent front none (behind, is) = ap (spelled_within most) (none_before front behind (sym is ∙ none))
