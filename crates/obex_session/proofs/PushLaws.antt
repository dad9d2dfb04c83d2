-- Fronts of a push spell its object, or nothing.
use Rattle.std.proofs.Common.{zero, suc, Bool, true, false, ◌≡◌, ℕ, ◌+◌, ◌-◌, ◌<◌, ◌≤◌, ◌^◌, inl, inr, List, [], ◌∷◌, ◌++◌, length, take, drop, map, Option, Some, None, refl, sym, ap, subst, ◌∙◌, arith, append_assoc}
use Rattle.std.specs.Prelude.{IfSome}
use Rattle.std.specs.List.{flat_map, AllByRecursion}
use Rattle.std.proofs.lemmas.Bool.{cases_lt}
use Rattle.std.proofs.lemmas.List.{append-nil, length-append, length-map, map-append, take-map, take-append-le, take-append-drop, take_all}
use Rattle.std.proofs.lemmas.Grind.{flat_map-append}
use Rattle.std.proofs.Math.Seq.{take-append-add}
use Rattle.bt_base.specs.Objects.{Object}
use Rattle.obex_headers.specs.declared.packet.Phase.TheVariants.{Request}
use Rattle.obex_headers.specs.Packets.{PlainHeader, PlainPacket, IsPacket, packet_octets}
use Rattle.obex_headers.specs.Runs.{put_of, put_in, heard, run_headers, joined, KeepsRules, IsOpen, SpellsObject, puts, Spelling, Broken, stretch_packets, FallsInto, objects_from, spelled}
use Rattle.obex_headers.proofs.RunLaws.{rules_front, stretches_spell}
use Rattle.obex_session.specs.PutPackets.{units_in, head_of, put_packet, packets_from, object_packets}
use Rattle.obex_session.specs.ObjectPuts.{front_packets}
use Rattle.obex_session.specs.Pushes.{IsNoPut, FrontsArePushed}
use Rattle.obex_session.proofs.PutPacketLaws.{head_at, parts_are, all_heard, none_final, heard_again, spelling_of}

-- ---- what is no PUT spells nothing

abbrev Nones : List (Option PlainPacket) → Type 0
Nones ns = AllByRecursion (λ p. p ≡ None) ns

nothing_open : IsOpen []
nothing_open = record { not_final = tt; rules = record { one_name = omega arith; short_name = tt; name_first = refl; bounded = omega arith } }

-- one that is no PUT in front
none_first : (p : Option PlainPacket) (rest : List (Option PlainPacket)) (objects : List Object) → p ≡ None → FallsInto rest objects → FallsInto (p ∷ rest) objects
none_first p rest objects none falls = record {
  stretches = Broken [] None ∷ falls.stretches;
  open_run = falls.open_run;
  are_stretches = ((nothing_open, tt), falls.are_stretches);
  is_open = falls.is_open;
  packets_are = ap (λ (q : Option PlainPacket). q ∷ rest) none ∙ ap (λ (ps : List (Option PlainPacket)). None ∷ ps) falls.packets_are;
  objects_are = falls.objects_are;
}

nones_first : (ns rest : List (Option PlainPacket)) (objects : List Object) → Nones ns → FallsInto rest objects → FallsInto (ns ++ rest) objects
nones_first [] rest objects none falls = falls
nones_first (p ∷ ns) rest objects none falls = none_first p (ns ++ rest) objects none.0 (nones_first ns rest objects none.1 falls)

nothing_falls : FallsInto [] []
nothing_falls = record { stretches = []; open_run = []; are_stretches = tt; is_open = nothing_open; packets_are = refl; objects_are = refl }

nones_fall : (ns : List (Option PlainPacket)) → Nones ns → FallsInto ns []
nones_fall ns none = subst (λ (ps : List (Option PlainPacket)). FallsInto ps []) (append-nil ns) (nones_first ns [] [] none nothing_falls)

-- ---- PUTs that go on, and then none

open_falls : (run : List PlainPacket) (ns : List (Option PlainPacket)) → IsOpen run → Nones ns → FallsInto (puts run ++ ns) []
open_falls run [] open_run none = record { stretches = []; open_run = run; are_stretches = tt; is_open = open_run; packets_are = append-nil (puts run); objects_are = refl }
open_falls run (p ∷ ns) open_run none =
    let rest = nones_fall ns none.1 in
    record {
      stretches = Broken run None ∷ rest.stretches;
      open_run = rest.open_run;
      are_stretches = ((open_run, tt), rest.are_stretches);
      is_open = rest.is_open;
      packets_are = ap (λ (q : Option PlainPacket). puts run ++ q ∷ ns) none.0 ∙ ap (λ (ps : List (Option PlainPacket)). puts run ++ None ∷ ps) rest.packets_are
          ∙ sym (append_assoc (puts run) (None ∷ []) (flat_map stretch_packets rest.stretches ++ puts rest.open_run))
          ∙ sym (append_assoc (puts run ++ None ∷ []) (flat_map stretch_packets rest.stretches) (puts rest.open_run));
      objects_are = rest.objects_are;
    }

whole_falls : (run : List PlainPacket) (object : Object) (ns : List (Option PlainPacket)) → SpellsObject run object → Nones ns → FallsInto (puts run ++ ns) (object ∷ [])
whole_falls run object ns spelling none =
    let rest = nones_fall ns none in
    record {
      stretches = Spelling run object ∷ rest.stretches;
      open_run = rest.open_run;
      are_stretches = (spelling, rest.are_stretches);
      is_open = rest.is_open;
      packets_are = ap (λ (ps : List (Option PlainPacket)). puts run ++ ps) rest.packets_are ∙ sym (append_assoc (puts run) (flat_map stretch_packets rest.stretches) (puts rest.open_run));
      objects_are = ap (λ (os : List Object). object ∷ os) rest.objects_are;
    }

-- ---- fronts

-- how far a front goes into three lists
data Reaches {X : Type 0} (n : ℕ) (a b c : List X) : Type 0 where
  First : n ≤ length a → take n (a ++ (b ++ c)) ≡ take n a → Reaches n a b c
  Second : (m : ℕ) → n ≡ length a + m → m < length b → take n (a ++ (b ++ c)) ≡ a ++ take m b → Reaches n a b c
  Third : (m : ℕ) → n ≡ length a + (length b + m) → take n (a ++ (b ++ c)) ≡ a ++ (b ++ take m c) → Reaches n a b c

reaches : {X : Type 0} (n : ℕ) (a b c : List X) → Reaches n a b c
reaches n a b c = elim (cases_lt (length a) n) [
  | inr less ↦ First less (take-append-le n a (b ++ c) less)
  | inl more ↦
      let m = n - length a in
      let is : n ≡ length a + m = omega arith in
      elim (cases_lt m (length b)) [
        | inl less ↦
            let fits : m ≤ length b = omega arith in
            Second m is less (ap (λ (k : ℕ). take k (a ++ (b ++ c))) is ∙ take-append-add a (b ++ c) m ∙ ap (λ (xs : List _). a ++ xs) (take-append-le m b c fits))
        | inr past ↦
            let k = m - length b in
            let both : n ≡ length a + (length b + k) = omega arith in
            Third k both (ap (λ (j : ℕ). take j (a ++ (b ++ c))) both ∙ take-append-add a (b ++ c) (length b + k) ∙ ap (λ (xs : List _). a ++ xs) (take-append-add b c k))
      ]
]

all_take : {X : Type 0} (P : X → Type 0) (n : ℕ) (xs : List X) → AllByRecursion P xs → AllByRecursion P (take n xs)
all_take P n [] all = nil_take n
  where
    nil_take : (n : ℕ) → AllByRecursion P (take n [])
    nil_take zero = tt
    nil_take (suc n) = tt
all_take P zero (x ∷ xs) all = tt
all_take P (suc n) (x ∷ xs) all = (all.0, all_take P n xs all.1)

pub nones_heard : (packets : List (List ℕ)) → AllByRecursion IsNoPut packets → Nones (heard packets)
nones_heard [] all = tt
nones_heard (packet ∷ packets) all = (all.0, nones_heard packets all.1)

-- ---- the packets of an object

pub front_heard : (ahead : List PlainHeader) (parts : List (List ℕ)) → AllByRecursion (IsPacket Request) (front_packets ahead parts) → heard (map packet_octets (front_packets ahead parts)) ≡ puts (front_packets ahead parts)
front_heard ahead [] sound = refl
front_heard ahead (part ∷ parts) sound =
    ap (λ (p : Option PlainPacket). p ∷ heard (map packet_octets (front_packets [] parts))) (ap put_of (heard_again (put_packet false ahead part) sound.0))
    ∙ ap (λ (ps : List (Option PlainPacket)). Some (put_packet false ahead part) ∷ ps) (front_heard [] parts sound.1)

front_take : (ahead : List PlainHeader) (parts : List (List ℕ)) (m : ℕ) → take m (front_packets ahead parts) ≡ front_packets ahead (take m parts)
front_take ahead [] zero = refl
front_take ahead [] (suc m) = refl
front_take ahead (part ∷ parts) zero = refl
front_take ahead (part ∷ parts) (suc m) = ap (λ (ps : List PlainPacket). put_packet false ahead part ∷ ps) (front_take [] parts m)

length-front : (ahead : List PlainHeader) (parts : List (List ℕ)) → length (front_packets ahead parts) ≡ length parts
length-front ahead [] = refl
length-front ahead (part ∷ parts) = let ih = length-front [] parts in omega (arith, ih)

length-whole : (ahead : List PlainHeader) (parts : List (List ℕ)) (last : List ℕ) → length (packets_from ahead parts last) ≡ length parts + 1
length-whole ahead parts last =
    let all = ap (λ (ps : List PlainPacket). length ps) (parts_are ahead parts last) in
    let both = length-append (front_packets ahead parts) (put_packet true (head_at ahead parts) last ∷ []) in
    let front = length-front ahead parts in
    omega (arith, all, both, front)

length-joined : (m : ℕ) (parts : List (List ℕ)) → length (joined (take m parts)) ≤ length (joined parts)
length-joined m parts =
    let split = ap length (ap joined (sym (take-append-drop m parts)) ∙ flat_map-append (λ part. part) (take m parts) (drop m parts)) in
    let both = length-append (joined (take m parts)) (joined (drop m parts)) in
    omega (arith, split, both)

-- PUTs ahead of the last are a run that goes on
goes_on : (wanted : Bool) (units : List ℕ) (size : ℕ) (parts : List (List ℕ)) → AllByRecursion (λ unit. unit < 2 ^ 16) units → length units ≤ 255 → length (joined parts) ≤ 16777215 → IsOpen (front_packets (head_of wanted units size) parts)
goes_on wanted units size parts fit short bound =
    let head = head_of wanted units size in
    let front = front_packets head parts in
    let whole = spelling_of wanted units size parts [] fit short (subst (λ (os : List ℕ). length os ≤ 16777215) (sym (append-nil (joined parts))) bound) in
    record {
      not_final = none_final head parts;
      rules = rules_front (run_headers front) (run_headers (put_packet true (head_at head parts) [] ∷ []))
          (subst KeepsRules (ap run_headers (parts_are head parts []) ∙ flat_map-append (λ packet. packet.headers) front (put_packet true (head_at head parts) [] ∷ [])) whole.rules);
    }

-- a front of them
part_of : (wanted : Bool) (units : List ℕ) (size : ℕ) (parts : List (List ℕ)) (m : ℕ) → AllByRecursion (λ unit. unit < 2 ^ 16) units → length units ≤ 255 → length (joined parts) ≤ 16777215 → IsOpen (take m (front_packets (head_of wanted units size) parts))
part_of wanted units size parts m fit short bound =
    let less = length-joined m parts in
    subst IsOpen (sym (front_take (head_of wanted units size) parts m)) (goes_on wanted units size (take m parts) fit short (omega (arith, less, bound)))

-- ---- a push

heard_three : (n : ℕ) (before said after : List (List ℕ)) (run : List PlainPacket) → heard said ≡ puts run → heard (take n (before ++ (said ++ after))) ≡ take n (heard before ++ (puts run ++ heard after))
heard_three n before said after run is =
    sym (take-map put_in n (before ++ (said ++ after))) ∙ ap (take n) (map-append put_in before (said ++ after) ∙ ap (λ (ps : List (Option PlainPacket)). heard before ++ ps) (map-append put_in said after ∙ ap (λ (ps : List (Option PlainPacket)). ps ++ heard after) is))

spells_by : (n : ℕ) (before said after : List (List ℕ)) (run : List PlainPacket) (shown : List (Option PlainPacket)) (objects : List Object) → heard said ≡ puts run → take n (heard before ++ (puts run ++ heard after)) ≡ shown → FallsInto shown objects
    → spelled (take n (before ++ (said ++ after))) ≡ objects
spells_by n before said after run shown objects is taken falls = ap (objects_from []) (heard_three n before said after run is ∙ taken) ∙ sym (stretches_spell shown objects falls)

puts_take : (m : ℕ) (run : List PlainPacket) → take m (puts run) ≡ puts (take m run)
puts_take m run = take-map (λ put. Some put) m run

open_only : (run : List PlainPacket) → IsOpen run → FallsInto (puts run) []
open_only run is = subst (λ (ps : List (Option PlainPacket)). FallsInto ps []) (append-nil (puts run)) (open_falls run [] is tt)

pub fronts_are_pushed : FrontsArePushed
fronts_are_pushed = record {
  whole = λ n before said after wanted name size objects object none none' fits whole there len.
      let units = units_in name in
      let head = head_of wanted units size in
      let run = object_packets wanted units size whole.parts whole.last in
      let octets = joined whole.parts ++ whole.last in
      let shown : heard said ≡ puts run = ap heard whole.said_is ∙ all_heard head whole.parts whole.last whole.sound in
      let front : length object ≡ size → octets ≡ take (length octets) object = subst (λ (o : Option (List ℕ)). IfSome o (λ x. length x ≡ size → octets ≡ take (length octets) x)) there whole.fronts in
      let same : octets ≡ object = front len ∙ ap (λ (k : ℕ). take k object) (whole.len ∙ sym len) ∙ take_all (length object) object (omega arith) in
      let bound : length octets ≤ 16777215 = subst (λ (k : ℕ). k ≤ 16777215) (sym whole.len) fits.bounded in
      let fewer : length (joined whole.parts) ≤ 16777215 = (let both = length-append (joined whole.parts) whole.last in omega (arith, both, bound)) in
      let len_before : length (heard before) ≡ length before = length-map before put_in in
      let len_said : length said ≡ length (puts run) = sym (length-map said put_in) ∙ ap (λ (ps : List (Option PlainPacket)). length ps) shown in
      let len_run : length (puts run) ≡ length whole.parts + 1 = length-map run (λ put. Some put) ∙ length-whole head whole.parts whole.last in
      let len_front : length (front_packets head whole.parts) ≡ length whole.parts = length-front head whole.parts in
      elim (reaches n (heard before) (puts run) (heard after)) [
        | First less taken ↦ inl (omega (arith, less, len_before, len_said, len_run), spells_by n before said after run _ [] shown taken (nones_fall (take n (heard before)) (all_take (λ p. p ≡ None) n (heard before) (nones_heard before none))))
        | Second m is less taken ↦
            let few : m ≤ length (front_packets head whole.parts) = omega (arith, less, len_run, len_front) in
            let cut : take m (puts run) ≡ puts (take m (front_packets head whole.parts)) = puts_take m run
            ∙ ap puts (ap (λ (ps : List PlainPacket). take m ps) (parts_are head whole.parts whole.last) ∙ take-append-le m (front_packets head whole.parts) (put_packet true (head_at head whole.parts) whole.last ∷ []) few) in
            inl (
              omega (arith, is, less, len_before, len_said),
              spells_by n before said after run _ [] shown (taken ∙ ap (λ (ps : List (Option PlainPacket)). heard before ++ ps) cut)
                  (nones_first (heard before) (puts (take m (front_packets head whole.parts))) [] (nones_heard before none) (open_only (take m (front_packets head whole.parts)) (part_of wanted units size whole.parts m fits.units fits.short fewer))),
            )
        | Third m is taken ↦
            inr (
              omega (arith, is, len_before, len_said),
              spells_by n before said after run _ (record { name = units; octets = octets } ∷ []) shown taken
                  (nones_first (heard before) (puts run ++ take m (heard after)) (record { name = units; octets = octets } ∷ []) (nones_heard before none)
                  (whole_falls run (record { name = units; octets = octets }) (take m (heard after)) (spelling_of wanted units size whole.parts whole.last fits.units fits.short bound) (all_take (λ p. p ≡ None) m (heard after) (nones_heard after none'))))
                  ∙ ap (λ (o : List ℕ). record { name = units; octets = o } ∷ []) same,
            )
      ];
  part = λ n before said after name size session content none none' fits has.
      let units = units_in name in
      let head = head_of session.wanted units size in
      let run = front_packets head has.parts in
      let shown : heard said ≡ puts run = ap heard has.said_is ∙ front_heard head has.parts has.sound in
      let within = has.within in
      let most = fits.bounded in
      let fewer : length (joined has.parts) ≤ 16777215 = omega (arith, within, most) in
      elim (reaches n (heard before) (puts run) (heard after)) [
        | First less taken ↦ spells_by n before said after run _ [] shown taken (nones_fall (take n (heard before)) (all_take (λ p. p ≡ None) n (heard before) (nones_heard before none)))
        | Second m is less taken ↦
            spells_by n before said after run _ [] shown (taken ∙ ap (λ (ps : List (Option PlainPacket)). heard before ++ ps) (puts_take m run))
            (nones_first (heard before) (puts (take m run)) [] (nones_heard before none) (open_only (take m run) (part_of session.wanted units size has.parts m fits.units fits.short fewer)))
        | Third m is taken ↦
            spells_by n before said after run _ [] shown taken
            (nones_first (heard before) (puts run ++ take m (heard after)) [] (nones_heard before none) (open_falls run (take m (heard after)) (goes_on session.wanted units size has.parts fits.units fits.short fewer) (all_take (λ p. p ≡ None) m (heard after) (nones_heard after none'))))
      ];
}
