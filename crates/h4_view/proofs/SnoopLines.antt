-- How the lines of a btsnoop file grow with its records.
use Rattle.std.proofs.Common.{◌≡◌, ℕ, ◌+◌, ◌<◌, ◌≤◌, List, [], ◌∷◌, ◌++◌, length, take, map, Some, None, codes, decimal, refl, sym, ap, subst, ◌∙◌, append_assoc, arith, length-append}
use Rattle.std.proofs.lemmas.List.{append-nil, length-take-le}
use Rattle.std.proofs.lemmas.List.Elements.{filter_map-append}
use Rattle.std.specs.List.{flat_map}
use Rattle.h4_framing.specs.Packets.{Packet, spelling, IsPacket}
use Rattle.seen_channels.specs.declared.direction.Direction.{Direction}
use Rattle.btsnoop.specs.declared.fields.Part.{Part}
use Rattle.btsnoop.specs.declared.fields.Part.TheVariants.{Header, Body}
use Rattle.btsnoop.specs.Files.{Record, IsRecord, file_header, record_octets, records_octets}
use Rattle.btsnoop.specs.declared.refusal.SnoopRefusal.{SnoopRefusal}
use Rattle.btsnoop.specs.Fields.{fault_in}
use Rattle.btsnoop.proofs.FieldLemmas.{nothing_unfinished}
use Rattle.btsnoop.proofs.Items.{header_size, record_size}
use Rattle.item_stream.specs.declared.teller.Front.TheVariants.{Item}
use Rattle.item_stream.specs.Running.{input_limit}
use Rattle.item_stream.specs.Telling.{Tells}
use Rattle.h4_view.specs.declared.snoop.SnoopView.{SnoopView}
use Rattle.h4_view.specs.Lines.{packet_text}
use Rattle.h4_view.specs.Both.{Sent, KnowsBoth, under_by}
use Rattle.h4_view.specs.Snoop.{Kept, IsNoPacket, IsKept, direction_of, mark, cut_text, kept_text, sent_in, sent_of, kept_lines, kept_octets, snoop_lines, led_by}
use Rattle.h4_view.specs.SnoopTelling.{RecordShown, HasShown, Finds}
use Rattle.h4_view.proofs.Viewing.{each_more, lines_more}
use Rattle.h4_view.proofs.TaggedLines.{five_added}

abbrev pub item_of : Kept → Record
item_of kept = kept.item

sent_more : (past : List Kept) (kept : Kept) (ss : List Sent) → sent_of (kept ∷ []) ≡ ss → sent_of (past ++ kept ∷ []) ≡ sent_of past ++ ss
sent_more past kept ss is = filter_map-append sent_in past (kept ∷ []) ∙ ap (λ (t : List Sent). sent_of past ++ t) is

-- ---- the octets of records

pub kept_records : (items : List Kept) → records_octets (map item_of items) ≡ flat_map kept_octets items
kept_records [] = refl
kept_records (kept ∷ items) = ap (λ (t : List ℕ). record_octets kept.item ++ t) (kept_records items)

records_more : (items : List Kept) (kept : Kept) → records_octets (map item_of (items ++ kept ∷ [])) ≡ records_octets (map item_of items) ++ record_octets kept.item
records_more [] kept = append-nil (record_octets kept.item)
records_more (x ∷ items) kept = ap (λ (t : List ℕ). record_octets x.item ++ t) (records_more items kept) ∙ sym (append_assoc (record_octets x.item) (records_octets (map item_of items)) (record_octets kept.item))

file_more : (items : List Kept) (kept : Kept) → led_by Body (items ++ kept ∷ []) ≡ led_by Body items ++ record_octets kept.item
file_more items kept = ap (λ (t : List ℕ). file_header ++ t) (records_more items kept) ∙ sym (append_assoc file_header (records_octets (map item_of items)) (record_octets kept.item))

file_size : (items : List Kept) → length (led_by Body items) ≡ 16 + length (flat_map kept_octets items)
file_size items = length-append file_header (records_octets (map item_of items)) ∙ (omega (arith, header_size, ap length (kept_records items)))

-- ---- what a record adds

pub whole_shown : (item : Record) (p : Packet) (d : Direction) (old new : SnoopView) (text t1 t2 t3 t4 text' m : List ℕ) → IsRecord item → IsPacket 65535 p → spelling p ≡ item.octets → d ≡ direction_of item.flags → m ≡ mark d
    → t1 ≡ text ++ decimal old.place → t2 ≡ t1 ++ codes " " → t3 ≡ t2 ++ m → t4 ≡ t3 ++ codes " "
    → ((past : List Sent) → KnowsBoth past old.links → (text' ≡ t4 ++ ((packet_text p ++ codes "\n") ++ under_by past d p)) × KnowsBoth (past ++ record { direction = d; packet = p } ∷ []) new.links)
    → new ≡ record old { links = new.links } → RecordShown item old new text text'
whole_shown item p d old new text t1 t2 t3 t4 text' m is packet spelled d-is m-is e1 e2 e3 e4 shown stays =
    let kept : Kept = record { item = item; packet = Some p } in (
      kept,
      refl,
      (is, (packet, spelled)),
      stays,
      λ past knows.
          let Says = λ (w : Direction). (text' ≡ t4 ++ ((packet_text p ++ codes "\n") ++ under_by (sent_of past) w p)) × KnowsBoth (sent_of past ++ record { direction = w; packet = p } ∷ []) new.links in
          let here : Says (direction_of item.flags) = subst Says d-is (shown (sent_of past) knows) in
          let marked : m ≡ mark (direction_of item.flags) = m-is ∙ ap mark d-is in (
            five_added text t1 t2 t3 t4 text' (decimal old.place) (codes " ") (mark (direction_of item.flags)) (codes " ") (kept_text (sent_of past) (direction_of item.flags) item (Some p)) e1 e2 (e3 ∙ ap (λ (t : List ℕ). t2 ++ t) marked) e4 here.0,
            subst (λ (ss : List Sent). KnowsBoth ss new.links) (sym (sent_more past kept _ refl)) here.1,
          ),
    )

pub cut_shown : (item : Record) (d : Direction) (view : SnoopView) (text t1 t2 t3 t4 t5 text' m : List ℕ) → IsRecord item → IsNoPacket item.octets → d ≡ direction_of item.flags → m ≡ mark d
    → t1 ≡ text ++ decimal view.place → t2 ≡ t1 ++ codes " " → t3 ≡ t2 ++ m → t4 ≡ t3 ++ codes " " → t5 ≡ t4 ++ cut_text item → text' ≡ t5 ++ codes "\n" → RecordShown item view view text text'
cut_shown item d view text t1 t2 t3 t4 t5 text' m is none d-is m-is e1 e2 e3 e4 e5 e6 =
    let kept : Kept = record { item = item; packet = None } in (
      kept,
      refl,
      (is, none),
      refl,
      λ past knows.
          let marked : m ≡ mark (direction_of item.flags) = m-is ∙ ap mark d-is in
          let body : text' ≡ t4 ++ (cut_text item ++ codes "\n") = e6 ∙ ap (λ (t : List ℕ). t ++ codes "\n") e5 ∙ append_assoc t4 (cut_text item) (codes "\n") in (
            five_added text t1 t2 t3 t4 text' (decimal view.place) (codes " ") (mark (direction_of item.flags)) (codes " ") (cut_text item ++ codes "\n") e1 e2 (e3 ∙ ap (λ (t : List ℕ). t2 ++ t) marked) e4 body,
            subst (λ (ss : List Sent). KnowsBoth ss view.links) (sym (sent_more past kept [] refl ∙ append-nil (sent_of past))) knows,
          ),
    )

-- ---- a part more in a view

not_header : (part : Part) → part ≡ Body → part ≡ Header → ⊥
not_header part body header = let e : Body ≡ Header = sym body ∙ header in absurd cc

-- what is shown says nothing of why a file is refused
pub same_shown : (first old new : SnoopView) (before said : List ℕ) → new.part ≡ old.part → new.place ≡ old.place → new.links ≡ old.links → HasShown first old before said → HasShown first new before said
same_shown first old new before said part place links h = record {
  items = h.items;
  each = h.each;
  early = λ e. h.early (sym part ∙ e);
  whole = h.whole ∙ ap (λ (p : Part). led_by p h.items) (sym part);
  lines = h.lines;
  place = λ le. place ∙ h.place le;
  knows = subst (λ l. KnowsBoth (sent_of h.items) l) (sym links) h.knows;
}

-- where a field is wrong there are octets
pub some_fault : (part : Part) (octets : List ℕ) (refusal : SnoopRefusal) (place : ℕ) → fault_in part octets ≡ Some (refusal, place) → 0 < length octets
some_fault part [] refusal place e = let none : fault_in part [] ≡ None = (nothing_unfinished part).sound in absurd cc
some_fault part (x ∷ octets) refusal place e = omega arith

pub shows_header : (old new : SnoopView) (octets text : List ℕ) (n : ℕ) → old.part ≡ Header → n ≤ length octets → take n octets ≡ file_header → new.part ≡ Body → new.links ≡ old.links → (old.place + n ≤ input_limit → new.place ≡ old.place + n)
    → Tells HasShown Finds old new octets text text (Item n)
shows_header old new octets text n header within front body links place =
    let size : n ≡ 16 = sym (length-take-le n octets within) ∙ ap length front ∙ header_size in (
      omega (arith, size),
      within,
      λ first before said h.
          let none : h.items ≡ [] = h.early header in
          let empty : before ≡ [] = h.whole ∙ ap (λ (p : Part). led_by p h.items) header in
          let grown : before ++ take n octets ≡ file_header = ap (λ (t : List ℕ). t ++ take n octets) empty ∙ front in
          let full : length (before ++ take n octets) ≡ 16 = ap length grown ∙ header_size in
          let short : length before ≤ input_limit = omega (arith, ap length empty) in (
            [],
            sym (append-nil text),
            record {
              items = [];
              each = tt;
              early = λ e. refl;
              whole = grown ∙ sym (append-nil file_header) ∙ ap (λ (p : Part). led_by p []) (sym body);
              lines = λ le. append-nil said ∙ h.lines short ∙ ap snoop_lines none;
              place = λ le. place (omega (arith, h.place short, ap length empty, size)) ∙ (omega (arith, h.place short, ap length empty, size, full));
              knows = subst (λ l. KnowsBoth [] l) (sym links) (subst (λ (items : List Kept). KnowsBoth (sent_of items) old.links) none h.knows);
            },
          ),
    )

pub shows_record : (old mid new : SnoopView) (octets text text' : List ℕ) (item : Record) (n : ℕ) → old.part ≡ Body → n ≤ length octets → take n octets ≡ record_octets item → RecordShown item old mid text text' → new.part ≡ mid.part → new.links ≡ mid.links
    → (old.place + n ≤ input_limit → new.place ≡ old.place + n) → Tells HasShown Finds old new octets text text' (Item n)
shows_record old mid new octets text text' item n body within front (kept, is, good, stays, shown) part links place =
    let size : n ≡ 24 + length item.octets = sym (length-take-le n octets within) ∙ ap length front ∙ record_size item in
    let still : new.part ≡ Body = part ∙ ap (λ (v : SnoopView). v.part) stays ∙ body in (
      omega (arith, size),
      within,
      λ first before said h.
          let here = shown h.items h.knows in
          let known : before ≡ led_by Body h.items = h.whole ∙ ap (λ (p : Part). led_by p h.items) body in
          let long : length (before ++ take n octets) ≡ length before + n = length-append before (take n octets) ∙ ap (λ (k : ℕ). length before + k) (length-take-le n octets within) in
          let at : length before ≡ 16 + length (flat_map kept_octets h.items) = ap length known ∙ file_size h.items in (
            kept_lines h.items old.place kept,
            here.0,
            record {
              items = h.items ++ kept ∷ [];
              each = each_more IsKept h.items kept h.each good;
              early = λ e. absurd (not_header new.part still e);
              whole = ap (λ (t : List ℕ). t ++ take n octets) known ∙ ap (λ (t : List ℕ). led_by Body h.items ++ t) (front ∙ ap record_octets (sym is)) ∙ sym (file_more h.items kept) ∙ ap (λ (p : Part). led_by p (h.items ++ kept ∷ [])) (sym still);
              lines = λ le.
                  let short : length before ≤ input_limit = omega (arith, le, long) in
                  ap (λ (t : List ℕ). t ++ kept_lines h.items old.place kept) (h.lines short)
                  ∙ ap (λ (k : ℕ). snoop_lines h.items ++ kept_lines h.items k kept) (h.place short ∙ at)
                  ∙ sym (lines_more kept_octets kept_lines [] 16 h.items kept);
              place = λ le.
                  let short : length before ≤ input_limit = omega (arith, le, long) in
                  place (omega (arith, h.place short, le, long)) ∙ ap (λ (k : ℕ). k + n) (h.place short) ∙ sym long;
              knows = subst (λ l. KnowsBoth (sent_of (h.items ++ kept ∷ [])) l) (sym links) here.1;
            },
          ),
    )
