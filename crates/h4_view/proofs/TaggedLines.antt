-- How the lines of a capture grow with its entries.
use Rattle.std.proofs.Common.{◌≡◌, ℕ, ◌+◌, ◌<◌, ◌≤◌, Bool, true, false, cond, List, [], ◌∷◌, ◌++◌, length, take, codes, decimal, refl, sym, ap, subst, ◌∙◌, append_assoc, arith, length-append}
use Rattle.std.proofs.lemmas.List.{append-nil, take_at}
use Rattle.std.proofs.lemmas.Grind.{flat_map-append}
use Rattle.std.proofs.lemmas.List.Elements.{filter_map-append, filter-append}
use Rattle.h4_framing.specs.Packets.{Packet}
use Rattle.push_terms.specs.declared.word.Side.{Side}
use Rattle.push_terms.specs.declared.word.Side.TheVariants as sides
use Rattle.push_terms.specs.Words.{side_text}
use Rattle.capture.specs.declared.flow.Flow.{Flow}
use Rattle.seen_channels.specs.declared.direction.Direction.{Direction}
use Rattle.capture.specs.Entries.{Entry, Moved, IsEntry, entry_octets, capture_octets}
use Rattle.item_stream.specs.declared.teller.Front.TheVariants.{Item}
use Rattle.item_stream.specs.Running.{input_limit}
use Rattle.item_stream.specs.Telling.{Tells}
use Rattle.h4_view.specs.declared.tagged.TaggedView.{TaggedView}
use Rattle.h4_view.specs.Lines.{packet_text}
use Rattle.h4_view.specs.Both.{Sent, KnowsBoth, under_by}
use Rattle.h4_view.specs.Tagged.{direction_of, flow_text, entry_text, sent_in, sent_of, entry_under, entry_lines, tagged_lines}
use Rattle.h4_view.specs.Keeping.{is_of, of_side, kept_of}
use Rattle.h4_view.specs.TaggedTelling.{KnowsHosts, BehindOffset, EntryShown, HasShown, Finds}
use Rattle.h4_view.proofs.Viewing.{each_more, lines_more}

octets_more : (es : List Entry) (e : Entry) → capture_octets (es ++ e ∷ []) ≡ capture_octets es ++ entry_octets e
octets_more es e = flat_map-append entry_octets es (e ∷ []) ∙ ap (λ (t : List ℕ). capture_octets es ++ t) (append-nil (entry_octets e))

sent_more : (side : Side) (es : List Entry) (e : Entry) (ss : List Sent) → sent_of side (e ∷ []) ≡ ss → sent_of side (es ++ e ∷ []) ≡ sent_of side es ++ ss
sent_more side es e ss is = filter_map-append (sent_in side) es (e ∷ []) ∙ ap (λ (t : List Sent). sent_of side es ++ t) is

-- ---- what an entry tells of links

knows_moved_a : (past : List Entry) (flow : Flow) (p : Packet) (old new : TaggedView) → KnowsHosts past old → KnowsBoth (sent_of sides.A past ++ record { direction = direction_of flow; packet = p } ∷ []) new.a → new.b ≡ old.b
    → KnowsHosts (past ++ Moved sides.A flow p ∷ []) new
knows_moved_a past flow p old new knows a b = record {
  a = subst (λ (ss : List Sent). KnowsBoth ss new.a) (sym (sent_more sides.A past (Moved sides.A flow p) _ refl)) a;
  b = subst (λ (ss : List Sent). KnowsBoth ss new.b) (sym (sent_more sides.B past (Moved sides.A flow p) [] refl ∙ append-nil (sent_of sides.B past))) (subst (λ l. KnowsBoth (sent_of sides.B past) l) (sym b) knows.b);
}

knows_moved_b : (past : List Entry) (flow : Flow) (p : Packet) (old new : TaggedView) → KnowsHosts past old → KnowsBoth (sent_of sides.B past ++ record { direction = direction_of flow; packet = p } ∷ []) new.b → new.a ≡ old.a
    → KnowsHosts (past ++ Moved sides.B flow p ∷ []) new
knows_moved_b past flow p old new knows b a = record {
  a = subst (λ (ss : List Sent). KnowsBoth ss new.a) (sym (sent_more sides.A past (Moved sides.B flow p) [] refl ∙ append-nil (sent_of sides.A past))) (subst (λ l. KnowsBoth (sent_of sides.A past) l) (sym a) knows.a);
  b = subst (λ (ss : List Sent). KnowsBoth ss new.b) (sym (sent_more sides.B past (Moved sides.B flow p) _ refl)) b;
}

knows_other : (past : List Entry) (e : Entry) (view : TaggedView) → sent_of sides.A (e ∷ []) ≡ [] → sent_of sides.B (e ∷ []) ≡ [] → KnowsHosts past view → KnowsHosts (past ++ e ∷ []) view
knows_other past e view a b knows = record {
  a = subst (λ (ss : List Sent). KnowsBoth ss view.a) (sym (sent_more sides.A past e [] a ∙ append-nil (sent_of sides.A past))) knows.a;
  b = subst (λ (ss : List Sent). KnowsBoth ss view.b) (sym (sent_more sides.B past e [] b ∙ append-nil (sent_of sides.B past))) knows.b;
}

-- ---- what an entry adds

-- something, a blank, and what follows
pub behind_blank : (front text t1 t2 text' body under : List ℕ) → t1 ≡ text ++ front → t2 ≡ t1 ++ codes " " → text' ≡ t2 ++ ((body ++ codes "\n") ++ under) → text' ≡ text ++ ((((front ++ codes " ") ++ body) ++ codes "\n") ++ under)
behind_blank front text t1 t2 text' body under e1 e2 e3 =
    let head : List ℕ = front ++ codes " " in
    let start : t2 ≡ text ++ head = e2 ∙ ap (λ (t : List ℕ). t ++ codes " ") e1 ∙ append_assoc text front (codes " ") in
    e3
    ∙ ap (λ (t : List ℕ). t ++ ((body ++ codes "\n") ++ under)) start
    ∙ append_assoc text head ((body ++ codes "\n") ++ under)
    ∙ ap (λ (t : List ℕ). text ++ t) (sym (append_assoc head (body ++ codes "\n") under) ∙ ap (λ (t : List ℕ). t ++ under) (sym (append_assoc head body (codes "\n"))))

pub entry_shown : (e : Entry) (old new : TaggedView) (text t1 t2 text' : List ℕ) → t1 ≡ text ++ decimal old.place → t2 ≡ t1 ++ codes " " → BehindOffset e old new t2 text' → EntryShown e old new text text'
entry_shown e old new text t1 t2 text' e1 e2 behind = (
  behind.0,
  behind.1,
  λ past knows.
      let here = behind.2 past knows in
      (behind_blank (decimal old.place) text t1 t2 text' (entry_text e) (entry_under past e) e1 e2 here.0, here.1),
)

-- a packet of host a
pub of_a : (flow : Flow) (p : Packet) (mark : List ℕ) (d : Direction) (old new : TaggedView) (text text' : List ℕ)
    → ((past : List Sent) → KnowsBoth past old.a → (text' ≡ text ++ ((((mark ++ codes " ") ++ packet_text p) ++ codes "\n") ++ under_by past d p)) × KnowsBoth (past ++ record { direction = d; packet = p } ∷ []) new.a)
    → mark ≡ side_text sides.A ++ flow_text flow → d ≡ direction_of flow → new.b ≡ old.b → new.place ≡ old.place → new.kept ≡ old.kept → BehindOffset (Moved sides.A flow p) old new text text'
of_a flow p mark d old new text text' shown m-is d-is b place kept = (
  place,
  kept,
  λ past knows.
      let Says = λ (w : Direction) (m : List ℕ). (text' ≡ text ++ ((((m ++ codes " ") ++ packet_text p) ++ codes "\n") ++ under_by (sent_of sides.A past) w p)) × KnowsBoth (sent_of sides.A past ++ record { direction = w; packet = p } ∷ []) new.a in
      let here : Says (direction_of flow) (side_text sides.A ++ flow_text flow) = subst (λ (w : Direction). Says w (side_text sides.A ++ flow_text flow)) d-is (subst (λ (m : List ℕ). Says d m) m-is (shown (sent_of sides.A past) knows.a)) in
      (here.0, knows_moved_a past flow p old new knows here.1 b),
)

-- a packet of host b
pub of_b : (flow : Flow) (p : Packet) (mark : List ℕ) (d : Direction) (old new : TaggedView) (text text' : List ℕ)
    → ((past : List Sent) → KnowsBoth past old.b → (text' ≡ text ++ ((((mark ++ codes " ") ++ packet_text p) ++ codes "\n") ++ under_by past d p)) × KnowsBoth (past ++ record { direction = d; packet = p } ∷ []) new.b)
    → mark ≡ side_text sides.B ++ flow_text flow → d ≡ direction_of flow → new.a ≡ old.a → new.place ≡ old.place → new.kept ≡ old.kept → BehindOffset (Moved sides.B flow p) old new text text'
of_b flow p mark d old new text text' shown m-is d-is a place kept = (
  place,
  kept,
  λ past knows.
      let Says = λ (w : Direction) (m : List ℕ). (text' ≡ text ++ ((((m ++ codes " ") ++ packet_text p) ++ codes "\n") ++ under_by (sent_of sides.B past) w p)) × KnowsBoth (sent_of sides.B past ++ record { direction = w; packet = p } ∷ []) new.b in
      let here : Says (direction_of flow) (side_text sides.B ++ flow_text flow) = subst (λ (w : Direction). Says w (side_text sides.B ++ flow_text flow)) d-is (subst (λ (m : List ℕ). Says d m) m-is (shown (sent_of sides.B past) knows.b)) in
      (here.0, knows_moved_b past flow p old new knows here.1 a),
)

-- an entry that is no packet
pub of_none : (e : Entry) (view : TaggedView) (text text' : List ℕ) → text' ≡ text ++ (entry_text e ++ codes "\n") → sent_of sides.A (e ∷ []) ≡ [] → sent_of sides.B (e ∷ []) ≡ [] → ((past : List Entry) → entry_under past e ≡ []) → BehindOffset e view view text text'
of_none e view text text' added a b under = (
  refl,
  refl,
  λ past knows.
      (added ∙ ap (λ (t : List ℕ). text ++ t) (sym (append-nil (entry_text e ++ codes "\n")) ∙ ap (λ (t : List ℕ). (entry_text e ++ codes "\n") ++ t) (sym (under past))), knows_other past e view a b knows),
)

-- the same entry
pub shown_as : (e e' : Entry) (old new : TaggedView) (text text' : List ℕ) → e ≡ e' → EntryShown e' old new text text' → EntryShown e old new text text'
shown_as e e' old new text text' is shown = subst (λ (x : Entry). EntryShown x old new text text') (sym is) shown

-- five parts added one after the other
pub five_added : (t t1 t2 t3 t4 t5 a b c d e : List ℕ) → t1 ≡ t ++ a → t2 ≡ t1 ++ b → t3 ≡ t2 ++ c → t4 ≡ t3 ++ d → t5 ≡ t4 ++ e → t5 ≡ t ++ ((((a ++ b) ++ c) ++ d) ++ e)
five_added t t1 t2 t3 t4 t5 a b c d e e1 e2 e3 e4 e5 =
    let s2 : t2 ≡ t ++ (a ++ b) = e2 ∙ ap (λ (x : List ℕ). x ++ b) e1 ∙ append_assoc t a b in
    let s3 : t3 ≡ t ++ ((a ++ b) ++ c) = e3 ∙ ap (λ (x : List ℕ). x ++ c) s2 ∙ append_assoc t (a ++ b) c in
    let s4 : t4 ≡ t ++ (((a ++ b) ++ c) ++ d) = e4 ∙ ap (λ (x : List ℕ). x ++ d) s3 ∙ append_assoc t ((a ++ b) ++ c) d in
    e5 ∙ ap (λ (x : List ℕ). x ++ e) s4 ∙ append_assoc t (((a ++ b) ++ c) ++ d) e

-- ---- an entry more in a view

one_kept : (e : Entry) (of_it : Bool) → capture_octets (cond of_it (e ∷ []) []) ≡ cond of_it (entry_octets e) []
one_kept e true = append-nil (entry_octets e)
one_kept e false = refl

kept_more : (es : List Entry) (e : Entry) → capture_octets (of_side sides.B (es ++ e ∷ [])) ≡ capture_octets (of_side sides.B es) ++ kept_of sides.B e (entry_octets e)
kept_more es e =
    ap capture_octets (filter-append (is_of sides.B) es (e ∷ []))
    ∙ flat_map-append entry_octets (of_side sides.B es) (of_side sides.B (e ∷ []))
    ∙ ap (λ (t : List ℕ). capture_octets (of_side sides.B es) ++ t) (one_kept e (is_of sides.B e))

some_octets : (e : Entry) → 0 < length (entry_octets e)
some_octets e = omega arith

pub shows_entry : (old mid new : TaggedView) (octets text text' rest : List ℕ) (e : Entry) (n : ℕ) → IsEntry e → octets ≡ entry_octets e ++ rest → n ≡ length (entry_octets e) → EntryShown e old mid text text' → new.a ≡ mid.a → new.b ≡ mid.b
    → new.kept.items ≡ mid.kept.items ++ kept_of sides.B e (take n octets) → (old.place + n ≤ input_limit → new.place ≡ old.place + n) → Tells HasShown Finds old new octets text text' (Item n)
shows_entry old mid new octets text text' rest e n is whole size shown a b kept place =
    let front : take n octets ≡ entry_octets e = ap (take n) whole ∙ take_at (entry_octets e) rest n (sym size) in (
      omega (arith, size, some_octets e),
      omega (arith, ap length whole, length-append (entry_octets e) rest, size),
      λ first before said h.
          let here = shown.2 h.entries h.knows in
          let long : length (before ++ take n octets) ≡ length before + n = length-append before (take n octets) ∙ ap (λ (t : List ℕ). length before + length t) front ∙ ap (λ (k : ℕ). length before + k) (sym size) in (
            entry_lines h.entries old.place e,
            here.0,
            record {
              entries = h.entries ++ e ∷ [];
              each = each_more IsEntry h.entries e h.each is;
              whole = ap (λ (t : List ℕ). t ++ take n octets) h.whole ∙ ap (λ (t : List ℕ). capture_octets h.entries ++ t) front ∙ sym (octets_more h.entries e);
              lines = λ within.
                  let short : length before ≤ input_limit = omega (arith, within, long) in
                  ap (λ (t : List ℕ). t ++ entry_lines h.entries old.place e) (h.lines short)
                  ∙ ap (λ (k : ℕ). tagged_lines [] 0 h.entries ++ entry_lines h.entries k e) (h.place short ∙ ap length h.whole)
                  ∙ sym (lines_more entry_octets entry_lines [] 0 h.entries e ∙ ap (λ (k : ℕ). tagged_lines [] 0 h.entries ++ entry_lines h.entries k e) (omega arith));
              place = λ within.
                  let short : length before ≤ input_limit = omega (arith, within, long) in
                  place (omega (arith, h.place short, within, long)) ∙ ap (λ (k : ℕ). k + n) (h.place short) ∙ sym long;
              knows = record {
                a = subst (λ l. KnowsBoth (sent_of sides.A (h.entries ++ e ∷ [])) l) (sym a) here.1.a;
                b = subst (λ l. KnowsBoth (sent_of sides.B (h.entries ++ e ∷ [])) l) (sym b) here.1.b;
              };
              kept = kept
                  ∙ ap (λ (t : List ℕ). t ++ kept_of sides.B e (take n octets)) (ap (λ k. k.items) shown.1 ∙ h.kept)
                  ∙ ap (λ (t : List ℕ). capture_octets (of_side sides.B h.entries) ++ kept_of sides.B e t) front
                  ∙ sym (kept_more h.entries e);
            },
          ),
    )
