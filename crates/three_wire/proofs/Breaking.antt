-- Where a port fails, and how far the trace and the sink have come then.
use Rattle.std.proofs.Common.{◌≡◌, ℕ, ◌⊎◌, Bool, true, false, List, ◌∷◌, ◌++◌, length, take, drop, Option, Some, inl, inr, refl, sym, ap, subst, ◌∙◌}
use Rattle.std.proofs.lemmas.List.{take_at, take_all, append-nil}
use Rattle.std.proofs.lemmas.Bool.{cases_lt}
use Rattle.bt_base.specs.Octets.{be16}
use Rattle.bt_base.specs.Streams.{gained, GainedFront}
use Rattle.bt_base.proofs.PortLaws.{front_none}
use Rattle.wire_packets.specs.Packets.{Packet}
use Rattle.wire_packets.specs.Stepping.{Slipping}
use Rattle.wire_model.specs.declared.link.Way.{Way}
use Rattle.wire_model.specs.declared.link.Way.TheVariants.{Forth}
use Rattle.wire_model.specs.Line.{line}
use Rattle.wire_model.specs.Machine as machine
use Rattle.wire_model.specs.Draws.{loses, drawn_on}
use Rattle.wire_model.specs.Trace.{Crossing, entry, tag_of, unit_octets}
use Rattle.wire_model.specs.Pair.{Crosses, hears_over}
use Rattle.three_wire.specs.Wire.{SaysThen, Puts}
use Rattle.three_wire.specs.Crossing.{HearsWhole, HasUnit, CutsTrace, CutsSink, got_octets}

abbrev pub crossing : Way → Bool → Packet → Crossing
crossing way lost packet = record { way = way; lost = lost; packet = packet }

pub line_of : (packet : Packet) (into into' : List ℕ) (n : ℕ) → Puts packet into into' n → take n into' ≡ line packet
line_of packet into into' n puts = ap (take n) puts.written ∙ take_at (line packet) (drop n into) n (sym puts.count)

entry_of : (way : Way) (lost : Bool) (packet : Packet) (into into' e : List ℕ) (n : ℕ) → Puts packet into into' n → e ≡ tag_of way lost ∷ (be16 (length (take n into')) ++ take n into') → e ≡ entry (crossing way lost packet)
entry_of way lost packet into into' e n puts is = is ∙ ap (λ (octets : List ℕ). tag_of way lost ∷ (be16 (length octets) ++ octets)) (line_of packet into into' n puts)

crosses_over : (from from' to : machine.Wire) (draws : Option ℕ) (lost : Bool) (packet : Packet) → SaysThen from from' packet → lost ≡ loses draws
    → Crosses from to from' (hears_over lost packet to).after draws (drawn_on draws) lost packet (hears_over lost packet to).unit
crosses_over from from' to draws lost packet says is = record { says = says.says; loses = is; hears = refl; gets = refl; draws_on = refl }

pub broken_trace : (way : Way) (from from' to : machine.Wire) (draws : Option ℕ) (sink trace trace' : Option (List ℕ)) (lost : Bool) (packet : Packet) (into into' e : List ℕ) (n : ℕ)
    → SaysThen from from' packet → Puts packet into into' n → lost ≡ loses draws → e ≡ tag_of way lost ∷ (be16 (length (take n into')) ++ take n into') → GainedFront trace trace' e
    → CutsTrace sink sink trace trace' ⊎ CutsSink way from to draws sink sink trace trace'
broken_trace way from from' to draws sink trace trace' lost packet into into' e n says puts is entry_is (m, wrote) =
    let whole = entry_of way lost packet into into' e n puts entry_is in
    let c = crossing way lost packet in
    let at : trace' ≡ gained trace (take m (entry c)) = wrote ∙ ap (λ (x : List ℕ). gained trace (take m x)) whole in
    elim (cases_lt m (length (entry c))) [
      | inl short ↦ inl (record { cut = take m (entry c); is_cut = (c, m, short, refl); writes = at; gives = refl })
      | inr all ↦ inr (record {
        from' = from';
        to' = (hears_over lost packet to).after;
        draws' = drawn_on draws;
        lost = lost;
        packet = packet;
        got = (hears_over lost packet to).unit;
        crosses = crosses_over from from' to draws lost packet says is;
        writes = at ∙ ap (gained trace) (take_all m (entry c) all);
        front = front_none sink (got_octets way (hears_over lost packet to).unit);
      })
    ]

front_of : (sink sink' : Option (List ℕ)) (u : machine.Unit) (got : Option machine.Unit) (octets : List ℕ) → got ≡ Some u → octets ≡ unit_octets u → GainedFront sink sink' octets → GainedFront sink sink' (got_octets Forth got)
front_of sink sink' u got octets is spelled front =
    subst (GainedFront sink sink') (spelled ∙ sym (append-nil (unit_octets u)) ∙ ap (got_octets Forth) (sym is)) front

pub broken_sink : (way : Way) (from from' to to' : machine.Wire) (draws : Option ℕ) (slip : Slipping) (sink sink' trace trace' : Option (List ℕ)) (lost got : Bool) (packet : Packet) (into into' e octets : List ℕ) (n : ℕ)
    → SaysThen from from' packet → Puts packet into into' n → lost ≡ loses draws → e ≡ tag_of way lost ∷ (be16 (length (take n into')) ++ take n into') → trace' ≡ gained trace e
    → lost ≡ false → way ≡ Forth → got ≡ true → HearsWhole packet to to' slip octets got → GainedFront sink sink' octets
    → CutsTrace sink sink' trace trace' ⊎ CutsSink way from to draws sink sink' trace trace'
broken_sink way from from' to to' draws slip sink sink' trace trace' lost got packet into into' e octets n says puts is entry_is wrote delivered forth true_got heard front =
    let whole = entry_of way lost packet into into' e n puts entry_is in
    let over : hears_over lost packet to ≡ machine.hears packet to = ap (λ (b : Bool). hears_over b packet to) delivered in
    let unit : HasUnit true (machine.hears packet to).unit octets = subst (λ (b : Bool). HasUnit b (machine.hears packet to).unit octets) true_got heard.unit in
    inr (record {
      from' = from';
      to' = (hears_over lost packet to).after;
      draws' = drawn_on draws;
      lost = lost;
      packet = packet;
      got = (hears_over lost packet to).unit;
      crosses = crosses_over from from' to draws lost packet says is;
      writes = wrote ∙ ap (gained trace) whole;
      front = subst (λ (w : Way). GainedFront sink sink' (got_octets w (hears_over lost packet to).unit)) (sym forth)
          (front_of sink sink' unit.0 (hears_over lost packet to).unit octets (ap (λ (h : machine.Heard). h.unit) over ∙ unit.1) unit.2 front);
    })
