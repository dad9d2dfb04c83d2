-- What was said and heard adds to the links of a host.
use Rattle.std.proofs.Common.{◌≡◌, ℕ, ◌==◌, ◌&&◌, Bool, true, false, List, [], ◌∷◌, ◌++◌, map, Option, Some, None, refl, ap, ◌∙◌}
use Rattle.std.specs.Option.{option_map}
use Rattle.std.proofs.lemmas.List.{append-nil}
use Rattle.world_model.specs.capture.specs.declared.flow.Flow.{Flow}
use Rattle.world_model.specs.capture.specs.declared.flow.Flow.TheVariants.{Out, Into}
use Rattle.world_model.specs.capture.specs.Pdus.{Pdu}
use Rattle.world_model.specs.radio_model.specs.Controllers.{Answer, Returned, Stated, Called, LinkMade, LinkGone, GivenBack, Controller}
use Rattle.world_model.specs.radio_model.specs.Radio.{frame_limit}
use Rattle.world_model.specs.Talks.{Talk, Unsent}
use Rattle.world_model.specs.PerLink.{Linkage, no_linkage, with_moved, link_begins, link_ends, linkage_after, linkage_from, linkage}
use Rattle.world_model.specs.Stations.{Order, Reset, ReadBuffers, ReadAddress, Scan, Page, Accept, End, Data, gives}

linkage_append : (l : Linkage) (one two : List Talk) → linkage_from l (one ++ two) ≡ linkage_from (linkage_from l one) two
linkage_append l [] two = refl
linkage_append l (talk ∷ one) two = linkage_append (linkage_after l talk) one two

pub linkage_one : (talks : List Talk) (talk : Talk) → linkage (talks ++ talk ∷ []) ≡ linkage_after (linkage talks) talk
linkage_one talks talk = linkage_append no_linkage talks (talk ∷ [])

linkage_unsent : (l : Linkage) (pdus : List (List ℕ)) → linkage_from l (map Unsent pdus) ≡ l
linkage_unsent l [] = refl
linkage_unsent l (pdu ∷ pdus) = linkage_unsent l pdus

-- behind what did not move
pub linkage_ended : (talks : List Talk) (unsent : List (List ℕ)) (talk : Talk) → linkage (talks ++ (map Unsent unsent ++ talk ∷ [])) ≡ linkage_after (linkage talks) talk
linkage_ended talks unsent talk =
    linkage_append no_linkage talks (map Unsent unsent ++ talk ∷ []) ∙ linkage_append (linkage talks) (map Unsent unsent) (talk ∷ [])
    ∙ ap (λ (l : Linkage). linkage_after l talk) (linkage_unsent (linkage talks) unsent)

same_up : (flow : Flow) (up : Option (List Pdu)) → option_map (λ now. now ++ []) up ≡ up
same_up flow None = refl
same_up flow (Some now) = ap (λ (l : List Pdu). Some l) (append-nil now)

pub moved_none : (flow : Flow) (l : Linkage) → with_moved flow [] l ≡ l
moved_none flow l = ap (λ (u : Option (List Pdu)). record l { up = u }) (same_up flow l.up)

-- ---- what each thing that moves adds

abbrev pub as_was : Linkage → Linkage
as_was l = l

abbrev pub said_more : List (List ℕ) → Linkage → Linkage
said_more pdus l = with_moved Out pdus l

abbrev pub heard_more : List (List ℕ) → Linkage → Linkage
heard_more pdus l = with_moved Into pdus l

abbrev pub said_by : Bool → List (List ℕ) → Linkage → Linkage
said_by true pdus l = with_moved Out pdus l
said_by false pdus l = l

abbrev pub order_by : Order → Controller → Linkage → Linkage
order_by (Data handle piece) one l = said_by (one.up && (handle == one.told)) (gives frame_limit one.begun piece) l
order_by Reset one l = l
order_by ReadBuffers one l = l
order_by ReadAddress one l = l
order_by Scan one l = l
order_by Page one l = l
order_by Accept one l = l
order_by (End handle) one l = l

abbrev pub answer_by : Answer → Linkage → Linkage
answer_by (LinkMade handle) l = link_begins l
answer_by (LinkGone handle reason) l = link_ends l
answer_by (Returned opcode params) l = l
answer_by (Stated opcode) l = l
answer_by Called l = l
answer_by (GivenBack handle count) l = l
