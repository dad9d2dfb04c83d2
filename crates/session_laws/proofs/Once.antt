-- What is heard of one push spells its object once or nothing, and nothing of one above the bound.
use Rattle.std.proofs.Common.{ℕ, ◌≡◌, ◌<◌, ◌⊎◌, ◌&&◌, ◌||◌, true, false, cond, List, [], ◌∷◌, ◌++◌, Option, Some, None, refl, sym, ap, ap₂, ◌∙◌, inl, inr, arith}
use Rattle.std.specs.List.{AllByRecursion}
use Rattle.std.proofs.lemmas.Bool.{cases_lt}
use Rattle.std.proofs.lemmas.List.{append-nil, map-append}
use Rattle.push_laws.specs.link_talk.specs.bt_base.specs.Objects.{Object}
use Rattle.push_laws.specs.link_talk.specs.ObjectsHeard.{spelled_within}
use Rattle.push_laws.specs.link_talk.specs.push_terms.specs.declared.outcome.Outcome.{Outcome}
use Rattle.push_laws.specs.push_model.specs.obex_headers.specs.Packets.{PlainPacket}
use Rattle.push_laws.specs.push_model.specs.obex_headers.specs.Runs.{put_in, heard, is_final, run_headers, breaks, lacks, object_of, objects_from, spelled}
use Rattle.push_laws.specs.push_model.specs.obex_session.specs.Asking.{Asking}
use Rattle.push_laws.specs.push_model.specs.obex_session.specs.ObjectPuts.{HasPut, IsWhole}
use Rattle.push_laws.specs.push_model.specs.obex_session.specs.Pairs.{Pair, connect_packet, past_packets, HearsFront}
use Rattle.push_laws.specs.push_model.specs.obex_session.proofs.PairFronts.{pairs_hear_fronts}
use Rattle.push_laws.specs.push_model.specs.obex_session.proofs.PushLaws.{nones_heard}
use Rattle.push_laws.specs.Sending.{ArePuts}
use Rattle.push_laws.proofs.OneObject.{sent_long, front_spells_none}
use Rattle.push_laws.proofs.Spelling.{no_put_within}
use Rattle.session_laws.specs.Once.{PairsSpellOnce}

-- ---- packets that are no PUT, behind others

abbrev Nones : List (Option PlainPacket) → Type 0
Nones packets = AllByRecursion (λ packet. packet ≡ None) packets

nones : (run : List PlainPacket) (packets : List (Option PlainPacket)) → Nones packets → objects_from run packets ≡ []
nones run [] none = refl
nones run (packet ∷ packets) none = ap (λ (p : Option PlainPacket). objects_from run (p ∷ packets)) none.0 ∙ nones [] packets none.1

nones_behind : (run : List PlainPacket) (packets after : List (Option PlainPacket)) → Nones after → objects_from run (packets ++ after) ≡ objects_from run packets
nones_behind run [] after none = nones run after none
nones_behind run (None ∷ packets) after none = nones_behind [] packets after none
nones_behind run (Some put ∷ packets) after none =
    let headers = run_headers (run ++ put ∷ []) in
    ap₂ (λ (ended on : List Object). cond (breaks headers || (is_final put && lacks headers)) ended (cond (is_final put) (object_of headers ∷ ended) on)) (nones_behind [] packets after none) (nones_behind (run ++ put ∷ []) packets after none)

-- ---- an object above the bound

module _ (name : List ℕ) (size : ℕ) (content : Option (List Object)) (b : Pair) (front : HearsFront name size content b) (long : 16777215 < size) where
  no_outcome : (outcome : Outcome) → None ≡ Some outcome → ⊥
  no_outcome outcome e = cc

  puts : IsWhole b.client.wanted name size front.said content ⊎ ((session : Asking) × (session.wanted ≡ b.client.wanted) × HasPut name size front.said session content) → ArePuts b.client.wanted name size content None front.said false
  puts (inl whole) = inl (whole, refl, λ e. no_outcome _ e, λ e. no_outcome _ e)
  puts (inr (session, wanted, part)) = inr (session, wanted, part, λ e. no_outcome _ e, λ e. absurd (let f : false ≡ true = e in cc))

  abbrev connect : List ℕ
  connect = connect_packet b.client.maximum

  said_none : spelled (connect ∷ front.said) ≡ []
  said_none = sent_long 65535 connect b.client.wanted name size content None (connect ∷ front.said) (no_put_within 65535 connect refl) long
      (inr (record { puts = front.said; gave_up = false; left = false; sent_is = ap (λ (ps : List (List ℕ)). connect ∷ ps) (sym (append-nil front.said)); puts_are = puts front.puts }))

  asked_none : spelled b.asked ≡ []
  asked_none =
      ap spelled front.in_order
      ∙ ap (objects_from []) (map-append put_in (connect ∷ front.said) front.after)
      ∙ nones_behind [] (heard (connect ∷ front.said)) (heard front.after) (nones_heard front.after front.no_puts)
      ∙ said_none

  past_none : spelled (past_packets b.past) ≡ []
  past_none = front_spells_none 65535 (past_packets b.past) b.requests (ap (spelled_within 65535) front.front ∙ asked_none)

-- ---- the law

pub pairs_spell_once : PairsSpellOnce
pairs_spell_once name size content maximum own wanted offered others b short small most least bounded goes objects object units is there long =
    let front : HearsFront name size content b = pairs_hear_fronts name size content maximum own wanted offered others b short small most least bounded goes in
    elim (cases_lt 16777215 size) [
      | inl above ↦ record { once = inl (past_none name size content b front above); above = λ e. past_none name size content b front above }
      | inr within ↦ record {
        once = (front.stores objects object (record { short = omega (arith, short); units = units; bounded = within }) is there long).spells;
        above = λ e. absurd (omega (arith, e, within, long));
      }
    ]
