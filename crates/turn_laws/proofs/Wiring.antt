-- What lies between the machine of a host and the air: the pieces of its PDUs, its orders, and what comes in, as one host and its
-- controller have them.
use Rattle.std.proofs.Common.{◌≡◌, ◌⊎◌, ℕ, ◌+◌, ◌≤◌, ◌<◌, ◌==◌, ◌||◌, Bool, true, false, List, [], ◌∷◌, ◌++◌, length, None, if◌then◌else◌, refl, sym, ap, ◌∙◌, arith, subst}
use Rattle.std.specs.List.{flat_map, AllByRecursion}
use Rattle.std.proofs.lemmas.Bool.{ne_eqb}
use Rattle.std.proofs.lemmas.List.Concat.{flat_map-append}
use Rattle.world_model.specs.hci_packets.specs.declared.acl.Boundary.TheVariants.{First}
use Rattle.world_model.specs.acl_fragments.specs.Pieces.{Piece}
use Rattle.world_model.specs.acl_fragments.specs.Cuts.{cut}
use Rattle.world_model.specs.radio_model.specs.Radio.{frame_limit}
use Rattle.world_model.specs.Machines.{Upper}
use Rattle.world_model.specs.Stations.{Order, Reset, ReadBuffers, ReadAddress, Scan, Page, Accept, End, Data, asks, longest_pdu, gives, holds}
use Rattle.turn_laws.specs.WorldLaws.{handle_of}
use Rattle.turn_laws.specs.Premises.{IsFrame}
use Rattle.turn_laws.proofs.Joining.{completions, held_behind, EndsOnce, completions-append, held-append, cut_comes}
use Rattle.turn_laws.proofs.Leading.{Tiding, made}

-- ---- pieces that go out

-- the pieces of orders on the link of that handle
abbrev pub piece_at : ℕ → Order → List Piece
piece_at told (Data handle piece) = if handle == told then piece ∷ [] else []
piece_at told order = []

abbrev pub sent : ℕ → List Order → List Piece
sent told orders = flat_map (piece_at told) orders

abbrev pub AllFrames : List (List ℕ) → Type 0
AllFrames frames = AllByRecursion IsFrame frames

-- the PDUs of what flows out of a host while its link is up, behind what its controller has begun to join
abbrev pub flowing : Bool → List ℕ → List Piece → List (List ℕ)
flowing true begun flow = completions frame_limit begun flow
flowing false begun flow = []

pub record Wired (up : Bool) (begun : List ℕ) (queue : List (List ℕ)) (flow : List Piece) : Type 0 where
  -- the pieces are those of whole PDUs
  pub left : up ≡ true → held_behind frame_limit begun flow ≡ []
  pub frames : AllFrames (flowing up begun flow)
  pub air : AllFrames queue

all_append : (one two : List (List ℕ)) → AllFrames one → AllFrames two → AllFrames (one ++ two)
all_append [] two all more = more
all_append (frame ∷ one) two (is, all) more = (is, all_append one two all more)

pub all_left : (one two : List (List ℕ)) → AllFrames (one ++ two) → AllFrames one × AllFrames two
all_left [] two all = (tt, all)
all_left (frame ∷ one) two (is, all) = let rest = all_left one two all in ((is, rest.0), rest.1)

frame_fits : (frame : List ℕ) → IsFrame frame → length frame ≤ frame_limit
frame_fits frame is = let short = is.short in omega arith

-- a PDU is cut behind all that flows
pub taken_wired : (begun : List ℕ) (queue : List (List ℕ)) (flow : List Piece) (size : ℕ) (pdu : List ℕ) → 27 ≤ size → IsFrame pdu → Wired true begun queue flow
    → Wired true begun queue (flow ++ cut size First pdu) × (flowing true begun (flow ++ cut size First pdu) ≡ flowing true begun flow ++ pdu ∷ [])
taken_wired begun queue flow size pdu long is wired =
    let left = wired.left refl in
    let comes = cut_comes frame_limit size First [] pdu long refl is.pdu (frame_fits pdu is) in
    let more : completions frame_limit (held_behind frame_limit begun flow) (cut size First pdu) ≡ pdu ∷ [] = ap (λ (h : List ℕ). completions frame_limit h (cut size First pdu)) left ∙ comes.completes in
    let all : completions frame_limit begun (flow ++ cut size First pdu) ≡ completions frame_limit begun flow ++ pdu ∷ [] =
    completions-append frame_limit begun flow (cut size First pdu) ∙ ap (λ (l : List (List ℕ)). completions frame_limit begun flow ++ l) more in (
      record {
        left = λ up. held-append frame_limit begun flow (cut size First pdu) ∙ ap (λ (h : List ℕ). held_behind frame_limit h (cut size First pdu)) left ∙ comes.left;
        frames = subst AllFrames (sym all) (all_append (completions frame_limit begun flow) (pdu ∷ []) wired.frames (is, tt));
        air = wired.air;
      },
      all,
    )

-- the first piece that flows comes to the controller
pub moved_wired : (begun : List ℕ) (queue : List (List ℕ)) (piece : Piece) (flow : List Piece) → Wired true begun queue (piece ∷ flow)
    → Wired true (holds frame_limit begun piece) queue flow × AllFrames (gives frame_limit begun piece)
moved_wired begun queue piece flow wired =
    let parts = all_left (gives frame_limit begun piece) (completions frame_limit (holds frame_limit begun piece) flow) wired.frames in
    (record { left = wired.left; frames = parts.1; air = wired.air }, parts.0)

pub landed_wired : (up : Bool) (begun : List ℕ) (queue more : List (List ℕ)) (flow : List Piece) → AllFrames more → Wired up begun queue flow → Wired up begun (queue ++ more) flow
landed_wired up begun queue more flow all wired = record { left = wired.left; frames = wired.frames; air = all_append queue more wired.air all }

-- ---- orders

abbrev pub Within : ℕ → List Order → Type 0
Within told [] = Unit {0}
Within told (order ∷ rest) = (handle_of order ≤ told) × Within told rest

pub within-append : (told : ℕ) (one two : List Order) → Within told one → Within told two → Within told (one ++ two)
within-append told [] two all more = more
within-append told (order ∷ one) two (is, all) more = (is, within-append told one two all more)

pub within_more : (told next : ℕ) (orders : List Order) → told ≤ next → Within told orders → Within next orders
within_more told next [] low all = tt
within_more told next (order ∷ rest) low (is, all) = (omega arith, within_more told next rest low all)

abbrev pub end_at : ℕ → Order → Bool
end_at told (End handle) = handle == told
end_at told order = false

abbrev pub has_end : ℕ → List Order → Bool
has_end told [] = false
has_end told (order ∷ rest) = end_at told order || has_end told rest

or_assoc : (a b c : Bool) → (a || (b || c)) ≡ ((a || b) || c)
or_assoc true b c = refl
or_assoc false b c = refl

pub or_true : (a : Bool) → (a || true) ≡ true
or_true true = refl
or_true false = refl

pub has_end-append : (told : ℕ) (one two : List Order) → has_end told (one ++ two) ≡ (has_end told one || has_end told two)
has_end-append told [] two = refl
has_end-append told (order ∷ one) two = ap (λ (b : Bool). end_at told order || b) (has_end-append told one two) ∙ or_assoc (end_at told order) (has_end told one) (has_end told two)

-- nothing is sent on a link that its host has ended
abbrev pub EndsLast : ℕ → List Order → Type 0
EndsLast told [] = Unit {0}
EndsLast told (order ∷ rest) = (end_at told order ≡ true → sent told rest ≡ []) × EndsLast told rest

pub last-append : (told : ℕ) (one : List Order) (order : Order) → (has_end told one ≡ true → piece_at told order ≡ []) → EndsLast told one → EndsLast told (one ++ order ∷ [])
last-append told [] order none last = ((λ ends. refl), tt)
last-append told (first ∷ one) order none (here, last) =
    let sent_is : sent told (one ++ order ∷ []) ≡ sent told one ++ (piece_at told order ++ []) = flat_map-append (piece_at told) one (order ∷ []) in (
      (λ ends. let empty = here ends in let nothing = none (ap (λ (b : Bool). b || has_end told one) ends) in sent_is ∙ ap (λ (l : List Piece). l ++ (piece_at told order ++ [])) empty ∙ ap (λ (l : List Piece). l ++ []) nothing),
      last-append told one order (λ ends. none (ap (λ (b : Bool). end_at told first || b) ends ∙ or_true (end_at told first))) last,
    )

abbrev pub asking : Order → ℕ
asking order = if asks order then 1 else 0

abbrev pub count : List Order → ℕ
count [] = 0
count (order ∷ rest) = asking order + count rest

pub count-append : (one two : List Order) → count (one ++ two) ≡ count one + count two
count-append [] two = omega arith
count-append (order ∷ one) two = let same = count-append one two in omega arith

pub sent_above : (told next : ℕ) (orders : List Order) → told < next → Within told orders → sent next orders ≡ []
sent_above told next [] low all = refl
sent_above told next (Data handle piece ∷ rest) low (is, all) =
    ap (λ (b : Bool). (if b then piece ∷ [] else []) ++ sent next rest) (ne_eqb handle next (λ same. omega arith)) ∙ sent_above told next rest low all
sent_above told next (Reset ∷ rest) low (is, all) = sent_above told next rest low all
sent_above told next (ReadBuffers ∷ rest) low (is, all) = sent_above told next rest low all
sent_above told next (ReadAddress ∷ rest) low (is, all) = sent_above told next rest low all
sent_above told next (Scan ∷ rest) low (is, all) = sent_above told next rest low all
sent_above told next (Page ∷ rest) low (is, all) = sent_above told next rest low all
sent_above told next (Accept ∷ rest) low (is, all) = sent_above told next rest low all
sent_above told next (End handle ∷ rest) low (is, all) = sent_above told next rest low all

pub end_above : (told next : ℕ) (orders : List Order) → told < next → Within told orders → has_end next orders ≡ false
end_above told next [] low all = refl
end_above told next (End handle ∷ rest) low (is, all) =
    ap (λ (b : Bool). b || has_end next rest) (ne_eqb handle next (λ same. omega arith)) ∙ end_above told next rest low all
end_above told next (Data handle piece ∷ rest) low (is, all) = end_above told next rest low all
end_above told next (Reset ∷ rest) low (is, all) = end_above told next rest low all
end_above told next (ReadBuffers ∷ rest) low (is, all) = end_above told next rest low all
end_above told next (ReadAddress ∷ rest) low (is, all) = end_above told next rest low all
end_above told next (Scan ∷ rest) low (is, all) = end_above told next rest low all
end_above told next (Page ∷ rest) low (is, all) = end_above told next rest low all
end_above told next (Accept ∷ rest) low (is, all) = end_above told next rest low all

pub last_above : (told next : ℕ) (orders : List Order) → told < next → Within told orders → EndsLast next orders
last_above told next [] low all = tt
last_above told next (order ∷ rest) low (is, all) = ((λ ends. sent_above told next rest low all), last_above told next rest low all)

-- ---- groups of facts of one host and its controller

-- what comes in comes to a host that listens
pub record IsListening {S G : Type 0} (U : Upper S G) (up : Bool) (told number : ℕ) (upper : S) (pieces : List Piece) : Type 0 where
  pub on : up ≡ true
  pub here : told ≡ number
  pub none_goes : pieces ≡ []
  pub none_next : U.next upper ≡ None
  pub stays : U.leaves_link upper ≡ false

pub record Incoming {S G : Type 0} (U : Upper S G) (up : Bool) (told number : ℕ) (upper : S) (pieces coming : List Piece) (joining : List ℕ) : Type 0 where
  pub once : EndsOnce longest_pdu joining coming
  pub listens : (coming ≡ []) ⊎ IsListening U up told number upper pieces

-- at most one connection is asked for; from the command on, it is awaited
pub record Awaits (extra : ℕ) (rest : List Tiding) (waiting out : List Order) (asked : Bool) : Type 0 where
  pub few : count waiting + (count out + (extra + made rest)) ≤ 1
  pub awaited : 1 ≤ count out + (extra + made rest) → asked ≡ true

-- a host that ends its link has said all
pub record IsLeaving {S G : Type 0} (U : Upper S G) (upper : S) (pieces : List Piece) : Type 0 where
  pub leaves : U.leaves_link upper ≡ true
  pub none_goes : pieces ≡ []
  pub none_next : U.next upper ≡ None

pub record Ends {S G : Type 0} (U : Upper S G) (told : ℕ) (up : Bool) (waiting out : List Order) (pieces : List Piece) (upper : S) : Type 0 where
  pub within_waiting : Within told waiting
  pub within_out : Within told out
  pub leaving : up ≡ true → (has_end told waiting || has_end told out) ≡ true → IsLeaving U upper pieces
  pub last : EndsLast told out
  -- no piece waits among its commands
  pub still : (handle : ℕ) → sent handle waiting ≡ []
