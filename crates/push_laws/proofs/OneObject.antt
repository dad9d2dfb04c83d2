-- What a client sends in one push has one Name, and spells nothing where its object is too large.
use Rattle.std.proofs.Common.{inl, inr, ◌⊎◌, Bool, true, false, cond, ◌≡◌, ◌<◌, ◌≤◌, ◌+◌, ℕ, ◌&&◌, ◌||◌, arith, List, [], ◌∷◌, ◌++◌, length, map, Option, Some, None, Result, Ok, Err, refl, sym, ap, ap₂, subst, ◌∙◌}
use Rattle.std.specs.Prelude.{slice_index, nat_lt}
use Rattle.std.specs.List.{list_any, AllByRecursion}
use Rattle.std.proofs.lemmas.Bool.{ltb-false}
use Rattle.std.proofs.lemmas.List.{append-nil, length-append, map-append}
use Rattle.std.proofs.lemmas.List.Elements.{filter_map-append}
use Rattle.std.proofs.lemmas.Grind.{flat_map-append}
use Rattle.link_talk.specs.bt_base.specs.Objects.{Object}
use Rattle.link_talk.specs.push_terms.specs.declared.outcome.Outcome.{Outcome}
use Rattle.push_model.specs.obex_headers.specs.declared.fault.ObexRefusal.{ObexRefusal}
use Rattle.push_model.specs.obex_headers.specs.declared.packet.Phase.TheVariants.{Request}
use Rattle.push_model.specs.obex_headers.specs.Packets.{PlainHeader, PlainPacket, IsPacket, packet_octets}
use Rattle.push_model.specs.obex_headers.specs.Reading.{◌>>=◌, headers_in, front_at, packet_in}
use Rattle.push_model.specs.obex_headers.specs.Runs.{put_of, body_of, is_final, is_long, names, bodies, ahead_of_name, joined, run_headers, breaks, lacks, object_of, objects_from}
use Rattle.push_model.specs.obex_headers.proofs.HeaderLaws.{bind_ok}
use Rattle.push_model.specs.obex_headers.proofs.PacketLaws.{front_takes, packet_again}
use Rattle.push_model.specs.obex_session.specs.ObjectPuts.{front_packets}
use Rattle.push_model.specs.obex_session.specs.PutPackets.{units_in, head_of, body_header, put_packet, packets_from}
use Rattle.link_talk.specs.ObjectsHeard.{put_within, spelled_within}
use Rattle.push_laws.specs.OneName.{Unnamed, NoNames, HasOneName}
use Rattle.push_laws.specs.Sending.{end_of, ArePuts, IsSent}
use Rattle.push_laws.proofs.OneName.{headers_more, unnamed_none, bare, bare_unnamed, no_names_join}
use Rattle.push_laws.proofs.Spelling.{no_put_within}

module _ (most : ℕ) where
  -- ---- a packet is read as it was written, or not at all

  ok_same : (a b : PlainPacket) → (let r : Result PlainPacket ObexRefusal = Ok a in r) ≡ Ok b → a ≡ b
  ok_same a b e = cc

  within_of : (packet read : PlainPacket) → packet_in Request most (packet_octets packet) ≡ Ok read → length (packet_octets packet) ≤ most
  unfolding packet_in
  within_of packet read e =
      let octets = packet_octets packet in
      let a = bind_ok (front_at Request most octets) (λ front. headers_in front.1 >>= λ headers. Ok (let p : PlainPacket = record { code = slice_index octets 0; extra = front.0; headers = headers } in p)) read e in
      (front_takes Request most octets a.0 a.1).within

  read_put : (packet : PlainPacket) → IsPacket Request packet → (put_within most (packet_octets packet) ≡ put_of (Ok packet)) ⊎ (put_within most (packet_octets packet) ≡ None)
  read_put packet sound = by (packet_in Request most (packet_octets packet)) refl
    where
      by : (read : Result PlainPacket ObexRefusal) → packet_in Request most (packet_octets packet) ≡ read → (put_within most (packet_octets packet) ≡ put_of (Ok packet)) ⊎ (put_within most (packet_octets packet) ≡ None)
      by (Err refusal) is = inr (ap put_of is)
      by (Ok read) is = inl (ap put_of (packet_again Request most (packet_octets packet) packet (record { sound = sound; within = within_of packet read is; spelling = refl })))

  -- one that has no headers ahead of its body has no Name
  unnamed_of : (read put : Option PlainPacket) → Unnamed put → (read ≡ put) ⊎ (read ≡ None) → Unnamed read
  unnamed_of read put none (inl same) = subst Unnamed (sym same) none
  unnamed_of read put none (inr nothing) = subst Unnamed (sym nothing) tt

  nameless_packets : (parts : List (List ℕ)) (last : List ℕ) → AllByRecursion (IsPacket Request) (packets_from [] parts last) → NoNames most (map packet_octets (packets_from [] parts last))
  nameless_packets [] last sound = (unnamed_of (put_within most (packet_octets (put_packet true [] last))) (Some (put_packet true [] last)) refl (read_put (put_packet true [] last) sound.0), tt)
  nameless_packets (part ∷ parts) last sound = (
    unnamed_of (put_within most (packet_octets (put_packet false [] part))) (Some (put_packet false [] part)) refl (read_put (put_packet false [] part) sound.0),
    nameless_packets parts last sound.1,
  )

  nameless_fronts : (parts : List (List ℕ)) → AllByRecursion (IsPacket Request) (front_packets [] parts) → NoNames most (map packet_octets (front_packets [] parts))
  nameless_fronts [] sound = tt
  nameless_fronts (part ∷ parts) sound = (
    unnamed_of (put_within most (packet_octets (put_packet false [] part))) (Some (put_packet false [] part)) refl (read_put (put_packet false [] part) sound.0),
    nameless_fronts parts sound.1,
  )

  -- ---- what is no PUT

  abbrev NoPuts : List (List ℕ) → Type 0
  NoPuts packets = AllByRecursion (λ (packet : List ℕ). put_within most packet ≡ None) packets

  end_none : (gave_up left : Bool) → NoPuts (end_of gave_up left)
  end_none true true = (no_put_within most _ refl, (no_put_within most _ refl, tt))
  end_none true false = (no_put_within most _ refl, tt)
  end_none false true = (no_put_within most _ refl, tt)
  end_none false false = tt

  none_named : (packets : List (List ℕ)) → NoPuts packets → NoNames most packets
  none_named [] none = tt
  none_named (packet ∷ packets) none = (subst Unnamed (sym none.0) tt, none_named packets none.1)

  none_one : (packets : List (List ℕ)) → NoPuts packets → HasOneName most packets
  none_one [] none = tt
  none_one (packet ∷ packets) none = inl (none.0, none_one packets none.1)

  -- ---- one Name

  whole_named : (ahead : List PlainHeader) (parts : List (List ℕ)) (last : List ℕ) (behind : List (List ℕ)) → AllByRecursion (IsPacket Request) (packets_from ahead parts last) → NoPuts behind
      → HasOneName most (map packet_octets (packets_from ahead parts last) ++ behind)
  whole_named ahead [] last behind sound none = inr (none_named behind none)
  whole_named ahead (part ∷ parts) last behind sound none = inr (no_names_join most (map packet_octets (packets_from [] parts last)) behind (nameless_packets parts last sound.1) (none_named behind none))

  front_named : (ahead : List PlainHeader) (parts : List (List ℕ)) (behind : List (List ℕ)) → AllByRecursion (IsPacket Request) (front_packets ahead parts) → NoPuts behind → HasOneName most (map packet_octets (front_packets ahead parts) ++ behind)
  front_named ahead [] behind sound none = none_one behind none
  front_named ahead (part ∷ parts) behind sound none = inr (no_names_join most (map packet_octets (front_packets [] parts)) behind (nameless_fronts parts sound.1) (none_named behind none))

  pub sent_named : (connect : List ℕ) (wanted : Bool) (name : List ℕ) (size : ℕ) (content : Option (List Object)) (cause : Option Outcome) (sent : List (List ℕ)) → put_within most connect ≡ None → IsSent connect wanted name size content cause sent → HasOneName most sent
  sent_named connect wanted name size content cause sent first (inl none) = subst (HasOneName most) (sym none.0) tt
  sent_named connect wanted name size content cause sent first (inr push) = subst (HasOneName most) (sym push.sent_is) (inl (first, by push.puts_are))
    where
      behind : List (List ℕ)
      behind = end_of push.gave_up push.left

      by : ArePuts wanted name size content cause push.puts push.gave_up → HasOneName most (push.puts ++ end_of push.gave_up push.left)
      by (inl whole) =
          subst (λ (ps : List (List ℕ)). HasOneName most (ps ++ end_of push.gave_up push.left)) (sym whole.0.said_is)
          (whole_named (head_of wanted (units_in name) size) whole.0.parts whole.0.last (end_of push.gave_up push.left) whole.0.sound (end_none push.gave_up push.left))
      by (inr part) =
          let has = part.2 in
          subst (λ (ps : List (List ℕ)). HasOneName most (ps ++ end_of push.gave_up push.left)) (sym has.said_is)
          (front_named (head_of (part.0).wanted (units_in name) size) has.parts (end_of push.gave_up push.left) has.sound (end_none push.gave_up push.left))

  -- ---- too large an object

  or_last : (a b c d : Bool) → d ≡ true → (a || b || c || d) ≡ true
  or_last true b c d e = refl
  or_last false true c d e = refl
  or_last false false true d e = refl
  or_last false false false d e = e

  is_more : (n m : ℕ) → n < m → nat_lt n m ≡ true
  is_more n m more = by (nat_lt n m) refl
    where
      by : (b : Bool) → nat_lt n m ≡ b → nat_lt n m ≡ true
      by true is = is
      by false is = absurd (let few = ltb-false n m is in omega (arith, more, few))

  breaks_long : (headers : List PlainHeader) → 16777215 < length (joined (bodies headers)) → breaks headers ≡ true
  breaks_long headers long =
      or_last (nat_lt 1 (length (names headers))) (list_any is_long (names headers)) (nat_lt 0 (length (bodies (ahead_of_name headers)))) (nat_lt 16777215 (length (joined (bodies headers)))) (is_more 16777215 (length (joined (bodies headers))) long)

  -- the body of a packet
  body_alone : (final : Bool) (part : List ℕ) → bodies (body_header final part ∷ []) ≡ part ∷ []
  body_alone true part = refl
  body_alone false part = refl

  bodies_with : (run : List PlainPacket) (final : Bool) (ahead : List PlainHeader) (part : List ℕ) → bodies ahead ≡ []
      → length (joined (bodies (run_headers (run ++ put_packet final ahead part ∷ [])))) ≡ length (joined (bodies (run_headers run))) + length part
  bodies_with run final ahead part none =
      let put = put_packet final ahead part in
      let headers = headers_more run put in
      let own : bodies put.headers ≡ part ∷ [] = filter_map-append body_of ahead (body_header final part ∷ []) ∙ ap₂ (λ (a b : List (List ℕ)). a ++ b) none (body_alone final part) in
      let all : bodies (run_headers (run ++ put ∷ [])) ≡ bodies (run_headers run) ++ part ∷ [] =
      ap bodies headers ∙ filter_map-append body_of (run_headers run) put.headers ∙ ap (λ (bs : List (List ℕ)). bodies (run_headers run) ++ bs) own in
      ap (λ (bs : List (List ℕ)). length (joined bs)) all
      ∙ ap length (flat_map-append (λ (p : List ℕ). p) (bodies (run_headers run)) (part ∷ []) ∙ ap (λ (xs : List ℕ). joined (bodies (run_headers run)) ++ xs) (append-nil part))
      ∙ length-append (joined (bodies (run_headers run))) part

  ended_none : (b : Bool) (ended behind : List Object) → b ≡ true → ended ≡ [] → cond b ended behind ≡ []
  ended_none true ended behind e none = none
  ended_none false ended behind e none = absurd (let f : false ≡ true = e in cc)

  or_first : (a b : Bool) → a ≡ true → (a || b) ≡ true
  or_first true b e = refl
  or_first false b e = absurd (let f : false ≡ true = e in cc)

  open_none : (b l : Bool) (ended other behind : List Object) → ended ≡ [] → behind ≡ [] → cond (b || (false && l)) ended (cond false other behind) ≡ []
  open_none true l ended other behind none goes = none
  open_none false l ended other behind none goes = goes

  nones : (run : List PlainPacket) (packets : List (List ℕ)) → NoPuts packets → objects_from run (bare most packets) ≡ []
  nones run [] none = refl
  nones run (packet ∷ packets) none = ap (λ (p : Option PlainPacket). objects_from run (p ∷ bare most packets)) none.0 ∙ nones [] packets none.1

  long_none : (run : List PlainPacket) (ahead : List PlainHeader) (parts : List (List ℕ)) (last : List ℕ) (behind : List (List ℕ)) → AllByRecursion (IsPacket Request) (packets_from ahead parts last) → NoPuts behind → bodies ahead ≡ []
      → 16777215 < length (joined (bodies (run_headers run))) + length (joined parts ++ last) → objects_from run (bare most (map packet_octets (packets_from ahead parts last) ++ behind)) ≡ []
  long_none run ahead [] last behind sound none empty long =
      let put = put_packet true ahead last in
      let hs = run_headers (run ++ put ∷ []) in
      let size = bodies_with run true ahead last empty in
      let broken : breaks hs ≡ true = breaks_long hs (omega (arith, long, size)) in
      elim (read_put put sound.0) [
        | inl same ↦ ap (λ (p : Option PlainPacket). objects_from run (p ∷ bare most behind)) same
            ∙ ended_none (breaks hs || (true && lacks hs)) (objects_from [] (bare most behind)) (object_of hs ∷ objects_from [] (bare most behind)) (or_first (breaks hs) (true && lacks hs) broken) (nones [] behind none)
        | inr nothing ↦ ap (λ (p : Option PlainPacket). objects_from run (p ∷ bare most behind)) nothing ∙ nones [] behind none
      ]
  long_none run ahead (part ∷ parts) last behind sound none empty long =
      let put = put_packet false ahead part in
      let hs = run_headers (run ++ put ∷ []) in
      let rest = bare most (map packet_octets (packets_from [] parts last) ++ behind) in
      let size = bodies_with run false ahead part empty in
      let all = length-append (joined (part ∷ parts)) last in
      let first = length-append part (joined parts) in
      let others = length-append (joined parts) last in
      let quiet : objects_from [] rest ≡ [] =
      unnamed_none [] rest refl (bare_unnamed most (map packet_octets (packets_from [] parts last) ++ behind) (no_names_join most (map packet_octets (packets_from [] parts last)) behind (nameless_packets parts last sound.1) (none_named behind none))) in
      elim (read_put put sound.0) [
        | inl same ↦ ap (λ (p : Option PlainPacket). objects_from run (p ∷ rest)) same
            ∙ open_none (breaks hs) (lacks hs) (objects_from [] rest) (object_of hs ∷ objects_from [] rest) (objects_from (run ++ put ∷ []) rest) quiet
            (long_none (run ++ put ∷ []) [] parts last behind sound.1 none refl (omega (arith, long, size, all, first, others)))
        | inr nothing ↦ ap (λ (p : Option PlainPacket). objects_from run (p ∷ rest)) nothing ∙ quiet
      ]

  -- without a final packet
  open_fronts : (run : List PlainPacket) (ahead : List PlainHeader) (parts : List (List ℕ)) (behind : List (List ℕ)) → AllByRecursion (IsPacket Request) (front_packets ahead parts) → NoPuts behind
      → objects_from run (bare most (map packet_octets (front_packets ahead parts) ++ behind)) ≡ []
  open_fronts run ahead [] behind sound none = nones run behind none
  open_fronts run ahead (part ∷ parts) behind sound none =
      let put = put_packet false ahead part in
      let hs = run_headers (run ++ put ∷ []) in
      let rest = bare most (map packet_octets (front_packets [] parts) ++ behind) in
      let quiet = open_fronts [] [] parts behind sound.1 none in
      elim (read_put put sound.0) [
        | inl same ↦ ap (λ (p : Option PlainPacket). objects_from run (p ∷ rest)) same
            ∙ open_none (breaks hs) (lacks hs) (objects_from [] rest) (object_of hs ∷ objects_from [] rest) (objects_from (run ++ put ∷ []) rest) quiet (open_fronts (run ++ put ∷ []) [] parts behind sound.1 none)
        | inr nothing ↦ ap (λ (p : Option PlainPacket). objects_from run (p ∷ rest)) nothing ∙ quiet
      ]

  head_empty : (wanted : Bool) (units : List ℕ) (size : ℕ) → bodies (head_of wanted units size) ≡ []
  head_empty true units size = refl
  head_empty false units size = refl

  pub sent_long : (connect : List ℕ) (wanted : Bool) (name : List ℕ) (size : ℕ) (content : Option (List Object)) (cause : Option Outcome) (sent : List (List ℕ)) → put_within most connect ≡ None → 16777215 < size
      → IsSent connect wanted name size content cause sent → spelled_within most sent ≡ []
  sent_long connect wanted name size content cause sent first long (inl none) = ap (spelled_within most) none.0
  sent_long connect wanted name size content cause sent first long (inr push) =
      ap (spelled_within most) push.sent_is ∙ ap (λ (p : Option PlainPacket). objects_from [] (p ∷ bare most (push.puts ++ end_of push.gave_up push.left))) first ∙ by push.puts_are
    where
      by : ArePuts wanted name size content cause push.puts push.gave_up → objects_from [] (bare most (push.puts ++ end_of push.gave_up push.left)) ≡ []
      by (inl whole) =
          let len = whole.0.len in
          ap (λ (ps : List (List ℕ)). objects_from [] (bare most (ps ++ end_of push.gave_up push.left))) whole.0.said_is
          ∙ long_none [] (head_of wanted (units_in name) size) whole.0.parts whole.0.last (end_of push.gave_up push.left) whole.0.sound (end_none push.gave_up push.left) (head_empty wanted (units_in name) size) (omega (arith, long, len))
      by (inr part) =
          let has = part.2 in
          ap (λ (ps : List (List ℕ)). objects_from [] (bare most (ps ++ end_of push.gave_up push.left))) has.said_is
          ∙ open_fronts [] (head_of (part.0).wanted (units_in name) size) has.parts (end_of push.gave_up push.left) has.sound (end_none push.gave_up push.left)

  -- ---- a front

  some_object : (object : Object) (objects : List Object) → object ∷ objects ≡ [] → ⊥
  some_object object objects e = cc

  front_ways : (b f : Bool) (a a' : List Object) (object : Object) (c c' : List Object) → (a ≡ [] → a' ≡ []) → (c ≡ [] → c' ≡ []) → cond b a (cond f (object ∷ a) c) ≡ [] → cond b a' (cond f (object ∷ a') c') ≡ []
  front_ways true f a a' object c c' x y e = x e
  front_ways false true a a' object c c' x y e = absurd (some_object object a e)
  front_ways false false a a' object c c' x y e = y e

  none_front : (run : List PlainPacket) (front behind : List (Option PlainPacket)) → objects_from run (front ++ behind) ≡ [] → objects_from run front ≡ []
  none_front run [] behind e = refl
  none_front run (None ∷ front) behind e = none_front [] front behind e
  none_front run (Some put ∷ front) behind e =
      let hs = run_headers (run ++ put ∷ []) in
      front_ways (breaks hs || (is_final put && lacks hs)) (is_final put) (objects_from [] (front ++ behind)) (objects_from [] front) (object_of hs) (objects_from (run ++ put ∷ []) (front ++ behind)) (objects_from (run ++ put ∷ []) front)
      (λ none. none_front [] front behind none) (λ none. none_front (run ++ put ∷ []) front behind none) e

  pub front_spells_none : (front behind : List (List ℕ)) → spelled_within most (front ++ behind) ≡ [] → spelled_within most front ≡ []
  front_spells_none front behind e = none_front [] (bare most front) (bare most behind) (ap (objects_from []) (sym (map-append (put_within most) front behind)) ∙ e)
