-- Over L2CAP the packets that were heard on a channel are its SDUs.
use Rattle.std.proofs.Common.{◌≡◌, ℕ, List, [], ◌∷◌, ◌++◌, map, refl, sym, ap, ap₂, ◌∙◌, append-nil}
use Rattle.std.proofs.lemmas.List.Elements.{filter_map-append}
use Rattle.shelf_model.specs.capture.specs.declared.flow.Flow.{Flow}
use Rattle.shelf_model.specs.capture.specs.declared.flow.Flow.TheVariants.{Out, Into}
use Rattle.shelf_model.specs.capture.specs.Histories.{given_by}
use Rattle.shelf_model.specs.capture.proofs.HistoryLaws.{given_by-more}
use Rattle.shelf_model.specs.l2cap_config.specs.declared.wish.Mode.{Mode}
use Rattle.shelf_model.specs.l2cap_config.specs.declared.wish.Mode.TheVariants.{Basic, Enhanced}
use Rattle.push_laws.specs.link_talk.specs.declared.channel.Channel.{Channel}
use Rattle.push_laws.specs.link_talk.specs.declared.party.Party.{Party}
use Rattle.push_laws.specs.link_talk.specs.Sayings.{Saying}
use Rattle.push_laws.specs.link_talk.specs.Gains.{beyond, gained}
use Rattle.push_laws.specs.link_talk.specs.Carriages.{Carriage, one_way, pdus_of, stretch, mode_of}
use Rattle.push_laws.specs.link_talk.specs.Sdus.{longest, sdus_by, sdus_of, sdus, spoken_as, spoken_with, spoken, spoken_way, spoken_one_way}
use Rattle.push_laws.specs.link_talk.specs.Packets.{packets_heard}
use Rattle.push_laws.specs.link_talk.proofs.Ways.{over_l2cap, over_nothing}
use Rattle.channel_laws.specs.talk_laws.specs.Sdus.{heard_so_far, sdus_with}
use Rattle.channel_laws.specs.talk_laws.proofs.Passes.{from_end}
use Rattle.channel_laws.specs.talk_laws.proofs.Sdus.{sdus-more}
use Rattle.push_laws.proofs.Readings.{drop_front}

out_same : (list : List (List ℕ)) → spoken_one_way Out (map (spoken_as Out) list) ≡ list
out_same [] = refl
out_same (x ∷ list) = ap (λ (rest : List (List ℕ)). x ∷ rest) (out_same list)

into_same : (list : List (List ℕ)) → spoken_one_way Into (map (spoken_as Into) list) ≡ list
into_same [] = refl
into_same (x ∷ list) = ap (λ (rest : List (List ℕ)). x ∷ rest) (into_same list)

out_other : (list : List (List ℕ)) → spoken_one_way Out (map (spoken_as Into) list) ≡ []
out_other [] = refl
out_other (x ∷ list) = out_other list

pub into_other : (list : List (List ℕ)) → spoken_one_way Into (map (spoken_as Out) list) ≡ []
into_other [] = refl
into_other (x ∷ list) = into_other list

none_spoken : (most : ℕ) (mode : Mode) → [] ≡ sdus_by most mode []
none_spoken most Basic = refl
none_spoken most Enhanced = refl

-- what a PDU brings of its own way
brought : (most : ℕ) (mode : Mode) (pdus : List (List ℕ)) (pdu : List ℕ) → sdus_by most mode pdus ++ beyond (sdus_by most mode pdus) (sdus_by most mode (pdus ++ pdu ∷ [])) ≡ sdus_by most mode (pdus ++ pdu ∷ [])
brought most mode pdus pdu =
    let more = sdus_with most mode (heard_so_far most pdus) pdu in
    let grown = sdus-more most mode pdus pdu in
    ap (λ (now : List (List ℕ)). sdus_by most mode pdus ++ beyond (sdus_by most mode pdus) now) grown
    ∙ (ap (λ (rest : List (List ℕ)). sdus_by most mode pdus ++ rest) (drop_front (sdus_by most mode pdus) more) ∙ sym grown)

abbrev Ways : Party → Mode → List Carriage → Type 0
Ways party mode carriages = (flow : Flow) → spoken_one_way flow (given_by (spoken_with party mode) carriages) ≡ sdus_of party mode flow carriages

pdus_more : (flow : Flow) (past : List Carriage) (more : Carriage) → pdus_of flow (past ++ more ∷ []) ≡ pdus_of flow past ++ pdus_of flow (more ∷ [])
pdus_more flow past more = filter_map-append (one_way flow) past (more ∷ [])

one_more : (party : Party) (mode : Mode) (past : List Carriage) (way : Flow) (pdu : List ℕ) → Ways party mode past → (flow : Flow)
    → (let more : Carriage = record { flow = way; pdu = pdu } in spoken_one_way flow (given_by (spoken_with party mode) past ++ spoken_with party mode past more) ≡ sdus_of party mode flow (past ++ more ∷ []))
one_more party mode past Out pdu before Out =
    let more : Carriage = record { flow = Out; pdu = pdu } in
    let new = gained (sdus_of party mode Out) past more in
    filter_map-append (spoken_way Out) (given_by (spoken_with party mode) past) (map (spoken_as Out) new)
    ∙ (ap₂ (λ (a b : List (List ℕ)). a ++ b) (before Out) (out_same new ∙ ap (λ pdus. beyond (sdus_of party mode Out past) (sdus_by (longest party Out) mode pdus)) (pdus_more Out past more))
    ∙ (brought (longest party Out) mode (pdus_of Out past) pdu ∙ ap (sdus_by (longest party Out) mode) (sym (pdus_more Out past more))))
one_more party mode past Into pdu before Into =
    let more : Carriage = record { flow = Into; pdu = pdu } in
    let new = gained (sdus_of party mode Into) past more in
    filter_map-append (spoken_way Into) (given_by (spoken_with party mode) past) (map (spoken_as Into) new)
    ∙ (ap₂ (λ (a b : List (List ℕ)). a ++ b) (before Into) (into_same new ∙ ap (λ pdus. beyond (sdus_of party mode Into past) (sdus_by (longest party Into) mode pdus)) (pdus_more Into past more))
    ∙ (brought (longest party Into) mode (pdus_of Into past) pdu ∙ ap (sdus_by (longest party Into) mode) (sym (pdus_more Into past more))))
one_more party mode past Out pdu before Into =
    let more : Carriage = record { flow = Out; pdu = pdu } in
    let new = gained (sdus_of party mode Out) past more in
    filter_map-append (spoken_way Into) (given_by (spoken_with party mode) past) (map (spoken_as Out) new)
    ∙ (ap₂ (λ (a b : List (List ℕ)). a ++ b) (before Into) (into_other new)
    ∙ (append-nil (sdus_of party mode Into past) ∙ ap (sdus_by (longest party Into) mode) (sym (pdus_more Into past more ∙ append-nil (pdus_of Into past)))))
one_more party mode past Into pdu before Out =
    let more : Carriage = record { flow = Into; pdu = pdu } in
    let new = gained (sdus_of party mode Into) past more in
    filter_map-append (spoken_way Out) (given_by (spoken_with party mode) past) (map (spoken_as Into) new)
    ∙ (ap₂ (λ (a b : List (List ℕ)). a ++ b) (before Out) (out_other new)
    ∙ (append-nil (sdus_of party mode Out past) ∙ ap (sdus_by (longest party Out) mode) (sym (pdus_more Out past more ∙ append-nil (pdus_of Out past)))))

ways : (party : Party) (mode : Mode) (carriages : List Carriage) → Ways party mode carriages
ways party mode carriages = from_end (Ways party mode) (λ flow. none_spoken (longest party flow) mode)
    (λ past more before flow. ap (spoken_one_way flow) (given_by-more (spoken_with party mode) past more) ∙ one_more party mode past more.flow more.pdu before flow) carriages

pub packets-are_sdus : (party : Party) (channel : Channel) (said : List Saying) → channel.psm ≡ 0x1001 → packets_heard party channel said ≡ sdus party channel Into said
packets-are_sdus party channel said is = ap (spoken_one_way Into) (sym (over_l2cap party channel.psm (spoken party channel said) is)) ∙ ways party (mode_of channel said) (stretch channel said) Into

pub packets-aside : (party : Party) (channel : Channel) (said : List Saying) → (channel.psm ≡ 0x1001 → ⊥) → (channel.psm ≡ 0x0003 → ⊥) → packets_heard party channel said ≡ []
packets-aside party channel said direct muxed = ap (spoken_one_way Into) (sym (over_nothing party channel.psm (spoken party channel said) direct muxed))
