-- Packets among which is no final PUT spell no object.
use Rattle.std.proofs.Common.{Bool, true, false, cond, ◌||◌, ◌&&◌, ◌≡◌, ◌==◌, ℕ, List, [], ◌∷◌, ◌++◌, map, Option, Some, None, Result, Ok, Err, refl, sym, ap, ◌∙◌}
use Rattle.std.specs.Prelude.{slice_index}
use Rattle.std.specs.List.{AllByRecursion}
use Rattle.tape_laws.specs.bt_base.specs.Objects.{Object}
use Rattle.tape_laws.specs.obex_headers.specs.declared.fault.ObexRefusal.{ObexRefusal}
use Rattle.tape_laws.specs.obex_headers.specs.declared.packet.Phase.TheVariants.{Request}
use Rattle.tape_laws.specs.obex_headers.specs.Packets.{PlainHeader, PlainPacket, packet_octets}
use Rattle.tape_laws.specs.obex_headers.specs.Reading.{packet_in}
use Rattle.tape_laws.specs.obex_headers.specs.Runs.{put_of, is_final, breaks, lacks, run_headers, object_of, objects_from}
use Rattle.tape_laws.specs.obex_session.specs.ObjectPuts.{front_packets}
use Rattle.tape_laws.specs.obex_session.specs.PutPackets.{head_of, units_in}
use Rattle.tape_laws.specs.link_talk.specs.ObjectsHeard.{put_within, spelled_within}
use Rattle.tape_laws.specs.push_laws.specs.Sending.{end_of}
use Rattle.done_laws.proofs.Replies.{code_front}

abbrev pub IsOpen : List ℕ → Type 0
IsOpen packet = (slice_index packet 0 == 0x82) ≡ false

goes_by : (ends final : Bool) (a c : List Object) (object : Object) → final ≡ false → a ≡ [] → c ≡ [] → cond ends a (cond final (object ∷ a) c) ≡ []
goes_by true final a c object f x y = x
goes_by false true a c object f x y = absurd (let g : true ≡ false = f in cc)
goes_by false false a c object f x y = y

module _ (most : ℕ) where
  -- the PUT that is read of such octets is not the final one
  not_final : (packet : List ℕ) (put : PlainPacket) → IsOpen packet → put_within most packet ≡ Some put → is_final put ≡ false
  not_final packet put open_ is = by (packet_in Request most packet) refl is
    where
      same : (a b : PlainPacket) → Some a ≡ Some b → a ≡ b
      same a b e = cc

      read_put : (p : PlainPacket) (here : Bool) → cond here (Some p) None ≡ Some put → p ≡ put
      read_put p true e = same p put e
      read_put p false e = cc

      by : (read : Result PlainPacket ObexRefusal) → packet_in Request most packet ≡ read → put_of read ≡ Some put → is_final put ≡ false
      by (Ok p) r e =
          let it : p ≡ put = read_put p ((p.code == 0x02) || (p.code == 0x82)) e in
          ap (λ (q : PlainPacket). q.code == 0x82) (sym it) ∙ ap (λ (n : ℕ). n == 0x82) (code_front Request most packet p r) ∙ open_
      by (Err refusal) r e = cc

  unfinal_put : (run : List PlainPacket) (put : Option PlainPacket) (packet : List ℕ) (rest : List (Option PlainPacket)) → IsOpen packet → put_within most packet ≡ put → ((later : List PlainPacket) → objects_from later rest ≡ []) → objects_from run (put ∷ rest) ≡ []
  unfinal_put run None packet rest open_ is goes = goes []
  unfinal_put run (Some put) packet rest open_ is goes =
      let hs : List PlainHeader = run_headers (run ++ put ∷ []) in
      goes_by (breaks hs || (is_final put && lacks hs)) (is_final put) (objects_from [] rest) (objects_from (run ++ put ∷ []) rest) (object_of hs) (not_final packet put open_ is) (goes []) (goes (run ++ put ∷ []))

  pub unfinal_none : (run : List PlainPacket) (packets : List (List ℕ)) → AllByRecursion IsOpen packets → objects_from run (map (put_within most) packets) ≡ []
  unfinal_none run [] all = refl
  unfinal_none run (packet ∷ packets) all = unfinal_put run (put_within most packet) packet (map (put_within most) packets) all.0 refl (λ later. unfinal_none later packets all.1)

  pub all_open : (xs ys : List (List ℕ)) → AllByRecursion IsOpen xs → AllByRecursion IsOpen ys → AllByRecursion IsOpen (xs ++ ys)
  all_open [] ys a b = b
  all_open (x ∷ xs) ys a b = (a.0, all_open xs ys a.1 b)

  pub fronts_open : (ahead : List PlainHeader) (parts : List (List ℕ)) → AllByRecursion IsOpen (map packet_octets (front_packets ahead parts))
  fronts_open ahead [] = tt
  fronts_open ahead (part ∷ parts) = (refl, fronts_open [] parts)

  pub ends_open : (gave_up left : Bool) → AllByRecursion IsOpen (end_of gave_up left)
  ends_open true true = (refl, (refl, tt))
  ends_open true false = (refl, tt)
  ends_open false true = (refl, tt)
  ends_open false false = tt

  -- what was sent of a push whose final PUT was not spells nothing
  pub part_spells_none : (connect : List ℕ) (puts sent : List (List ℕ)) (gave_up left wanted : Bool) (name : List ℕ) (parts : List (List ℕ)) (size : ℕ) → (slice_index connect 0 == 0x82) ≡ false → puts ≡ map packet_octets (front_packets (head_of wanted (units_in name) size) parts)
      → sent ≡ connect ∷ (puts ++ end_of gave_up left) → spelled_within most sent ≡ []
  part_spells_none connect puts sent gave_up left wanted name parts size first puts_are sent_is =
      ap (spelled_within most) (sent_is ∙ ap (λ (ps : List (List ℕ)). connect ∷ (ps ++ end_of gave_up left)) puts_are)
      ∙ unfinal_none [] (connect ∷ (map packet_octets (front_packets (head_of wanted (units_in name) size) parts) ++ end_of gave_up left))
      (first, all_open (map packet_octets (front_packets (head_of wanted (units_in name) size) parts)) (end_of gave_up left) (fronts_open (head_of wanted (units_in name) size) parts) (ends_open gave_up left))
