-- A host on its link says all that it has to say: each PDU moves, piece by piece, and each buffer is given back at once.
use Rattle.std.proofs.Common.{◌≡◌, ℕ, zero, suc, ◌-◌, ◌≤◌, ◌==◌, ◌&&◌, nat_le, Bool, true, false, List, [], ◌∷◌, ◌++◌, Option, Some, None, if◌then◌else◌, refl, sym, ap, ap₂, subst, ◌∙◌, append_assoc, append-nil, arith}
use Rattle.std.proofs.lemmas.Bool.{eq-eqb, le-leb}
use Rattle.station_laws.specs.hci_packets.specs.declared.acl.Boundary.TheVariants.{First}
use Rattle.station_laws.specs.acl_fragments.specs.Pieces.{Piece}
use Rattle.station_laws.specs.acl_fragments.specs.Cuts.{cut}
use Rattle.station_laws.specs.push_terms.specs.declared.word.Side.{Side}
use Rattle.station_laws.specs.radio_model.specs.Controllers.{GivenBack, Controller}
use Rattle.station_laws.specs.radio_model.specs.Radio.{frame_limit, with_piece, after_taking}
use Rattle.station_laws.specs.world_model.specs.Machines.{Upper, all_said}
use Rattle.station_laws.specs.world_model.specs.Stations.{Data, Station, Taking, Putting, gives, holds, longest_pdu}
use Rattle.station_laws.specs.turn_laws.specs.Premises.{IsFrame, SaysFrames}
use Rattle.station_laws.specs.turn_laws.proofs.Joining.{completions, held_behind, cut_comes}
use Rattle.station_laws.specs.turn_laws.proofs.Departing.{with_piece_is}
use Rattle.station_laws.specs.turn_laws.proofs.Saying.{all_said_none, all_said_some}
use Rattle.run_laws.proofs.Owning.{Own, own, Trying, Sending, Returning, Hearing, Comes, stays, comes_then}

-- ---- where nothing is under way but these pieces

abbrev pub one_of : (scan told : ℕ) (up : Bool) (begun : List ℕ) (waiting : List (List ℕ)) → Controller
one_of scan told up begun waiting = record { scan = scan; told = told; up = up; taken = 0; begun = begun; waiting = waiting; coming = []; owed = [] }

abbrev pub station_of : {S : Type 0} (upper : S) (size total : ℕ) (link : Option ℕ) (joining : List ℕ) (pieces : List Piece) → Station S
station_of upper size total link joining pieces = record {
  upper = upper;
  waiting = [];
  awaited = None;
  size = size;
  total = total;
  outstanding = 0;
  asked = false;
  link = link;
  ending = false;
  joining = joining;
  pieces = pieces;
  out = [];
}

-- what does not change while a host speaks
pub record Place : Type 0 where
  pub scan : ℕ
  pub number : ℕ
  pub size : ℕ
  pub total : ℕ
  pub joining : List ℕ

abbrev pub speaking : {S : Type 0} → Place → S → List ℕ → List (List ℕ) → List Piece → Own S
speaking p upper begun waiting pieces = own (one_of p.scan p.number true begun waiting) (station_of upper p.size p.total (Some p.number) p.joining pieces)

-- ---- one piece

with_taken : ℕ → Controller → Controller
with_taken taken one = record one { taken = taken }

took : (number : ℕ) (one : Controller) → 1 ≤ number → one.told ≡ number → one.taken ≡ 0 → after_taking number one ≡ record one { taken = 1 }
took number one some told none =
    let here : ((number == one.told) && nat_le 1 one.told) ≡ true = ap₂ (λ (x y : Bool). x && y) (eq-eqb number one.told (sym told)) (le-leb 1 one.told (subst (λ (n : ℕ). 1 ≤ n) (sym told) some)) in
    rw (here, none) refl

flying : (p : Place) (begun : List ℕ) (waiting : List (List ℕ)) (piece : Piece) → 1 ≤ p.number
    → after_taking p.number (with_piece true (Some piece) (one_of p.scan p.number true begun waiting))
    ≡ record (one_of p.scan p.number true (holds frame_limit begun piece) (waiting ++ gives frame_limit begun piece)) { taken = 1 }
flying p begun waiting piece some =
    ap (λ (one : Controller). after_taking p.number one) (with_piece_is true (one_of p.scan p.number true begun waiting) piece)
    ∙ took p.number (one_of p.scan p.number true (holds frame_limit begun piece) (waiting ++ gives frame_limit begun piece)) some refl refl

returned : {S : Type 0} (p : Place) (s : Station S) (b : Bool) → b ≡ true → s.outstanding ≡ 1
    → (if b && nat_le 1 s.outstanding then record s { outstanding = s.outstanding - 1 } else s) ≡ record s { outstanding = 0 }
returned p s b is one = rw (is, one) refl

one_goes : {S G : Type 0} (U : Upper S G) (side : Side) (p : Place) (upper : S) (begun : List ℕ) (waiting : List (List ℕ)) (piece : Piece) (rest : List Piece) → 1 ≤ p.number → 1 ≤ p.total
    → Comes U side true p.number (speaking p upper begun waiting (piece ∷ rest)) (speaking p upper (holds frame_limit begun piece) (waiting ++ gives frame_limit begun piece) rest)
one_goes {S} {G} U side p upper begun waiting piece rest some free =
    let first : Own S = speaking p upper begun waiting (piece ∷ rest) in
    let put : Station S = record (station_of upper p.size p.total (Some p.number) p.joining rest) { outstanding = 1; out = Data p.number piece ∷ [] } in
    let gone : Station S = record (station_of upper p.size p.total (Some p.number) p.joining rest) { outstanding = 1 } in
    let flown : Controller = one_of p.scan p.number true (holds frame_limit begun piece) (waiting ++ gives frame_limit begun piece) in
    let taken : Controller = record flown { taken = 1 } in
    let owing : Controller = record flown { owed = GivenBack p.number 1 ∷ [] } in
    record {
      motions = Trying Putting ∷ Sending piece ∷ Returning ∷ Hearing (GivenBack p.number 1) ∷ [];
      runs = (
        own first.one put,
        (put, record { handle = p.number; link = refl; free = free; piece = piece; rest = rest; first = refl; new_is = refl }, refl),
        (
          own taken gone,
          (refl, refl, refl, [], refl, ap (λ (one : Controller). own one gone) (sym (flying p begun waiting piece some))),
          (
            own owing gone,
            refl,
            (
              own flown (station_of upper p.size p.total (Some p.number) p.joining rest),
              ([], refl, refl, [], ap (λ (s : Station S). own flown (record s { upper = upper })) (sym (returned p gone (p.number == p.number) (eq-eqb p.number p.number refl) refl))),
              refl,
            ),
          ),
        ),
      );
    }

-- ---- all of them

all_go : {S G : Type 0} (U : Upper S G) (side : Side) (p : Place) (upper : S) (pieces : List Piece) (begun : List ℕ) (waiting : List (List ℕ)) → 1 ≤ p.number → 1 ≤ p.total
    → Comes U side true p.number (speaking p upper begun waiting pieces) (speaking p upper (held_behind frame_limit begun pieces) (waiting ++ completions frame_limit begun pieces) [])
all_go {S} U side p upper [] begun waiting some free =
    subst (λ (frames : List (List ℕ)). Comes U side true p.number (speaking p upper begun waiting []) (speaking p upper begun frames [])) (sym (append-nil waiting)) (stays U side true p.number (speaking p upper begun waiting []))
all_go {S} U side p upper (piece ∷ rest) begun waiting some free =
    let later = all_go U side p upper rest (holds frame_limit begun piece) (waiting ++ gives frame_limit begun piece) some free in
    subst (λ (frames : List (List ℕ)). Comes U side true p.number (speaking p upper begun waiting (piece ∷ rest)) (speaking p upper (held_behind frame_limit begun (piece ∷ rest)) frames []))
    (append_assoc waiting (gives frame_limit begun piece) (completions frame_limit (holds frame_limit begun piece) rest))
    (comes_then U side true p.number _ _ _ (one_goes U side p upper begun waiting piece rest some free) later)

-- one PDU
pdu_goes : {S G : Type 0} (U : Upper S G) (side : Side) (p : Place) (upper after : S) (waiting : List (List ℕ)) (pdu : List ℕ) → 1 ≤ p.number → 1 ≤ p.total → 27 ≤ p.size → IsFrame pdu
    → U.next upper ≡ Some (pdu, after) → Comes U side true p.number (speaking p upper [] waiting []) (speaking p after [] (waiting ++ pdu ∷ []) [])
pdu_goes {S} {G} U side p upper after waiting pdu some free long is next =
    let pieces : List Piece = cut p.size First pdu in
    let fits : longest_pdu ≤ frame_limit = omega arith in
    let short = is.short in
    let joins = cut_comes frame_limit p.size First [] pdu long refl is.pdu (omega (arith, short, fits)) in
    let takes : Comes U side true p.number (speaking p upper [] waiting []) (speaking p after [] waiting pieces) = record {
      motions = Trying Taking ∷ [];
      runs = (
        speaking p after [] waiting pieces,
        (
          station_of after p.size p.total (Some p.number) p.joining pieces,
          record { handle = p.number; link = refl; none_waits = refl; free = free; pdu = pdu; after = after; next = next; new_is = refl },
          refl,
        ),
        refl,
      );
    } in
    let goes = all_go U side p after pieces [] waiting some free in
    let comes = subst (λ (frames : List (List ℕ)). Comes U side true p.number (speaking p after [] waiting pieces) (speaking p after (held_behind frame_limit [] pieces) (waiting ++ frames) [])) joins.completes goes in
    let left = subst (λ (begun : List ℕ). Comes U side true p.number (speaking p after [] waiting pieces) (speaking p after begun (waiting ++ pdu ∷ []) [])) joins.left comes in
    comes_then U side true p.number _ _ _ takes left

-- all that it has to say
speaks_by : {S G : Type 0} (U : Upper S G) (side : Side) (p : Place) (next : Option (List ℕ × S)) (count : ℕ) (upper : S) (waiting : List (List ℕ)) → 1 ≤ p.number → 1 ≤ p.total → 27 ≤ p.size → SaysFrames U
    → U.next upper ≡ next → U.left upper ≤ count → Comes U side true p.number (speaking p upper [] waiting []) (speaking p (all_said U upper).after [] (waiting ++ (all_said U upper).said) [])
speaks_by {S} U side p None count upper waiting some free long frames is few =
    let none = all_said_none U upper is in
    subst (λ spoken. Comes U side true p.number (speaking p upper [] waiting []) (speaking p spoken.after [] (waiting ++ spoken.said) [])) (sym none)
    (subst (λ (frames : List (List ℕ)). Comes U side true p.number (speaking p upper [] waiting []) (speaking p upper [] frames [])) (sym (append-nil waiting)) (stays U side true p.number (speaking p upper [] waiting [])))
speaks_by U side p (Some (pdu, after)) zero upper waiting some free long frames is few = let less = U.falls upper pdu after is in absurd (omega arith)
speaks_by {S} U side p (Some (pdu, after)) (suc count) upper waiting some free long frames is few =
    let less = U.falls upper pdu after is in
    let first = pdu_goes U side p upper after waiting pdu some free long (frames upper pdu after is) is in
    let later = speaks_by U side p (U.next after) count after (waiting ++ pdu ∷ []) some free long frames refl (omega arith) in
    subst (λ spoken. Comes U side true p.number (speaking p upper [] waiting []) (speaking p spoken.after [] (waiting ++ spoken.said) [])) (sym (all_said_some U upper pdu after is))
    (subst (λ (frames : List (List ℕ)). Comes U side true p.number (speaking p upper [] waiting []) (speaking p (all_said U after).after [] frames [])) (append_assoc waiting (pdu ∷ []) (all_said U after).said)
    (comes_then U side true p.number _ _ _ first later))

pub speaks_all : {S G : Type 0} (U : Upper S G) (side : Side) (p : Place) (upper : S) (waiting : List (List ℕ)) → 1 ≤ p.number → 1 ≤ p.total → 27 ≤ p.size → SaysFrames U
    → Comes U side true p.number (speaking p upper [] waiting []) (speaking p (all_said U upper).after [] (waiting ++ (all_said U upper).said) [])
speaks_all U side p upper waiting some free long frames = speaks_by U side p (U.next upper) (U.left upper) upper waiting some free long frames refl (omega arith)
