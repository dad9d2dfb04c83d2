-- The account of a host's buffers, as the capture, the controller and the host have it.
use Rattle.std.proofs.Common.{◌≡◌, ℕ, ◌+◌, ◌*◌, ◌%◌, ◌≤◌, ◌<◌, ◌==◌, ◌&&◌, nat_le, min, Bool, true, false, List, [], ◌∷◌, ◌++◌, length, Option, if◌then◌else◌, refl, sym, ap, ◌∙◌, subst, arith}
use Rattle.std.specs.Prelude.{sum_by}
use Rattle.std.proofs.lemmas.Bool.{eq-eqb, eqb-true, le-leb}
use Rattle.turn_laws.specs.h4_framing.specs.Packets.{Packet, Acl}
use Rattle.turn_laws.specs.hci_packets.specs.AclWords.{flag_of}
use Rattle.turn_laws.specs.hci_packets.specs.declared.acl.Boundary.{Boundary}
use Rattle.turn_laws.specs.hci_packets.specs.declared.acl.Boundary.TheVariants.{First, Continuing, FirstFromController}
use Rattle.turn_laws.specs.acl_fragments.specs.Pieces.{Piece}
use Rattle.turn_laws.specs.acl_credits.specs.Histories.{BufferEvent, Sent}
use Rattle.turn_laws.specs.push_terms.specs.declared.word.Side.{Side}
use Rattle.turn_laws.specs.capture.specs.declared.flow.Flow.{Flow}
use Rattle.turn_laws.specs.capture.specs.declared.flow.Flow.TheVariants.{Out}
use Rattle.turn_laws.specs.capture.specs.Entries.{Entry}
use Rattle.turn_laws.specs.capture.specs.Links.{Link, LinkNews, NoNews, link_news, link_up}
use Rattle.turn_laws.specs.capture.specs.Buffers.{events, outstanding_on_link, outstanding_of, all_outstanding}
use Rattle.turn_laws.specs.radio_model.specs.Controllers.{Controller, after_giving_back}
use Rattle.turn_laws.specs.radio_model.specs.Honest.{sent_on, completed_on, all_sent, all_completed}
use Rattle.turn_laws.specs.world_model.specs.Stations.{Order, Data}
use Rattle.turn_laws.proofs.Wiring.{sent}
use Rattle.air_laws.proofs.Knowing.{OnLink, Known}
use Rattle.air_laws.proofs.Counting.{own, sent_more, completed_more, held_with, IsPlain, plain_held, none_held}
use Rattle.air_laws.proofs.Owing.{AllFit, all_fit, keeps_of, back_keeps, gives_fit, one_if, Takes, Else}

pub record Account (limit : ℕ) (side : Side) (past : List Entry) (one : Controller) (out : List Order) (outstanding total : ℕ) : Type 0 where
  -- what was completed, what is about to be, and what is held went out
  pub honest : (handle : ℕ) → all_completed side handle past + keeps_of handle one ≤ all_sent side handle past
  pub few : one.taken ≤ 65535
  pub fits : AllFit limit one.told one.owed
  -- on the link that is up, all that is outstanding comes back
  pub on : one.up ≡ true → all_outstanding side past ≡ keeps_of one.told one
  pub holds : one.up ≡ true → outstanding ≡ all_outstanding side past + length (sent one.told out)
  pub off : one.up ≡ false → (outstanding ≡ 0) × (all_outstanding side past ≡ 0)
  pub within : outstanding ≤ total
  pub total_is : total ≤ min limit 64

by_up : (up : Bool) (held outstanding sent limit : ℕ) → (up ≡ true → outstanding ≡ held + sent) → (up ≡ false → (outstanding ≡ 0) × (held ≡ 0)) → outstanding ≤ min limit 64 → held ≤ min limit 64
by_up true held outstanding sent limit on off within = let same = on refl in omega arith
by_up false held outstanding sent limit on off within = let none = (off refl).1 in omega arith

-- so it is within the buffers
pub account_within : (limit : ℕ) (side : Side) (past : List Entry) (one : Controller) (out : List Order) (outstanding total : ℕ) → Account limit side past one out outstanding total → all_outstanding side past ≤ min limit 64
account_within limit side past one out outstanding total account =
    let within = account.within in
    let most = account.total_is in
    by_up one.up (all_outstanding side past) outstanding (length (sent one.told out)) limit account.holds account.off (omega arith)

pub account_honest : (limit : ℕ) (side : Side) (past : List Entry) (one : Controller) (out : List Order) (outstanding total : ℕ) → Account limit side past one out outstanding total → (handle : ℕ) → all_completed side handle past ≤ all_sent side handle past
account_honest limit side past one out outstanding total account handle = let honest = account.honest handle in omega arith

-- ---- the capture adds nothing to it

pub record SameBooks (side : Side) (past past' : List Entry) : Type 0 where
  pub completed : (handle : ℕ) → all_completed side handle past' ≡ all_completed side handle past
  pub sent : (handle : ℕ) → all_sent side handle past' ≡ all_sent side handle past
  pub held : all_outstanding side past' ≡ all_outstanding side past

pub books_refl : (side : Side) (past : List Entry) → SameBooks side past past
books_refl side past = record { completed = λ handle. refl; sent = λ handle. refl; held = refl }

pub books_plain : (side : Side) (past : List Entry) (flow : Flow) (packet : Packet) (news : LinkNews) → link_news (record { flow = flow; packet = packet }) ≡ news → IsPlain news → events flow packet ≡ [] → SameBooks side past (past ++ own side flow packet ∷ [])
books_plain side past flow packet news is plain none = record {
  completed = λ handle. completed_more side past flow packet handle ∙ ap (λ (l : List BufferEvent). all_completed side handle past + sum_by (completed_on handle) l) none ∙ omega arith;
  sent = λ handle. sent_more side past flow packet handle ∙ ap (λ (l : List BufferEvent). all_sent side handle past + sum_by (sent_on handle) l) none ∙ omega arith;
  held = plain_held side past flow packet news is plain ∙ ap (λ (l : List BufferEvent). held_with l (link_up side past)) none ∙ none_held (link_up side past);
}

pub account_same : (limit : ℕ) (side : Side) (past past' : List Entry) (one one' : Controller) (out out' : List Order) (outstanding total : ℕ) → SameBooks side past past' → Else limit one one' → length (sent one.told out') ≡ length (sent one.told out)
    → Account limit side past one out outstanding total → Account limit side past' one' out' outstanding total
account_same limit side past past' one one' out out' outstanding total books other long account =
    let held = books.held in
    let keeps : (handle : ℕ) → keeps_of handle one' ≡ keeps_of handle one = λ handle. λ i. other.keeps handle i + (if other.told i == handle then other.taken i else 0) in
    record {
      honest = λ handle. let one = books.completed handle in let two = books.sent handle in let three = keeps handle in let before = account.honest handle in omega arith;
      few = let same = other.taken in let few = account.few in omega arith;
      fits = subst (λ (n : ℕ). AllFit limit n one'.owed) (sym other.told) (other.fits account.fits);
      on = λ on. held ∙ account.on (sym other.up ∙ on) ∙ sym (keeps one.told) ∙ ap (λ (n : ℕ). keeps_of n one') (sym other.told);
      holds = λ on. let before = account.holds (sym other.up ∙ on) in let same = ap (λ (n : ℕ). length (sent n out')) other.told in omega arith;
      off = λ off. let before = account.off (sym other.up ∙ off) in (before.0, held ∙ before.1);
      within = account.within;
      total_is = account.total_is;
    }

-- ---- a host puts out a piece

pub account_puts : (limit : ℕ) (side : Side) (past : List Entry) (one : Controller) (out : List Order) (handle : ℕ) (piece : Piece) (outstanding total : ℕ) → one.up ≡ true → one.told ≡ handle → outstanding < total
    → length (sent one.told (out ++ Data handle piece ∷ [])) ≡ length (sent one.told out) + 1 → Account limit side past one out outstanding total → Account limit side past one (out ++ Data handle piece ∷ []) (outstanding + 1) total
account_puts limit side past one out handle piece outstanding total up here free long account = record {
  honest = account.honest;
  few = account.few;
  fits = account.fits;
  on = account.on;
  holds = λ on. let before = account.holds on in omega arith;
  off = λ off. absurd cc;
  within = omega arith;
  total_is = account.total_is;
}

-- ---- a controller gives its packets back

pub account_backs : (limit : ℕ) (side : Side) (past : List Entry) (one : Controller) (out : List Order) (outstanding total : ℕ) → Account limit side past one out outstanding total → Account limit side past (after_giving_back one) out outstanding total
account_backs limit side past one out outstanding total account = record {
  honest = λ handle. let same = back_keeps handle one in let before = account.honest handle in omega arith;
  few = omega arith;
  fits = all_fit limit one.told one.owed _ account.fits (gives_fit limit one.told one.taken account.few);
  on = λ on. account.on on ∙ sym (back_keeps one.told one);
  holds = account.holds;
  off = account.off;
  within = account.within;
  total_is = account.total_is;
}

-- ---- a piece moves out

pub word_is : (handle : ℕ) (boundary : Boundary) → handle ≤ 0x0EFF → (handle + 0x1000 * flag_of boundary) % 0x1000 ≡ handle
word_is handle First low = omega arith
word_is handle Continuing low = omega arith
word_is handle FirstFromController low = omega arith

data_events : (handle : ℕ) (piece : Piece) → handle ≤ 0x0EFF → events Out (Acl (handle + 0x1000 * flag_of piece.boundary) piece.octets) ≡ Sent handle ∷ []
data_events handle piece low = ap (λ (n : ℕ). Sent n ∷ []) (word_is handle piece.boundary low)

sent_by : (same : Bool) → 0 + (if same then 1 else 0) ≡ one_if same
sent_by true = refl
sent_by false = refl

sent_one : (handle other : ℕ) → sum_by (sent_on other) (Sent handle ∷ []) ≡ one_if (handle == other)
sent_one handle other = sent_by (handle == other)

at_least : (ours here : Bool) → (ours ≡ true → here ≡ true) → one_if ours ≤ one_if here
at_least true true same = omega arith
at_least true false same = let yes = same refl in absurd cc
at_least false here same = omega arith

and_both : (a b c : Bool) → ((a && b) && c) ≡ true → (a ≡ true) × (b ≡ true) × (c ≡ true)
and_both true true true is = (refl, refl, refl)
and_both true true false is = absurd cc
and_both true false c is = absurd cc
and_both false b c is = absurd cc

same_handle : (handle told other : ℕ) (least : Bool) → (((handle == told) && least) && (told == other)) ≡ true → (handle == other) ≡ true
same_handle handle told other least is = let parts = and_both (handle == told) least (told == other) is in eq-eqb handle other (eqb-true handle told parts.0 ∙ eqb-true told other parts.2)

more_by : (same : Bool) (n : ℕ) → (if same then n + 1 else n) ≡ n + one_if same
more_by true n = refl
more_by false n = omega arith

data_held : (handle : ℕ) (one : Controller) (known : Option Link) → OnLink one known → held_with (Sent handle ∷ []) known ≡ outstanding_of known + one_if (handle == one.told)
data_held handle one known on =
    ap (λ (k : Option Link). held_with (Sent handle ∷ []) k) on.is
    ∙ ap (λ (n : ℕ). if handle == n then outstanding_on_link on.link + 1 else outstanding_on_link on.link) on.handle_is
    ∙ more_by (handle == one.told) (outstanding_on_link on.link)
    ∙ ap (λ (n : ℕ). n + one_if (handle == one.told)) (ap (λ (k : Option Link). outstanding_of k) (sym on.is))

ours_is : (same : Bool) (told : ℕ) → 1 ≤ told → ((same && nat_le 1 told) && true) ≡ same
ours_is true told least = ap (λ (b : Bool). b && true) (le-leb 1 told least)
ours_is false told least = refl

first_by : (same : Bool) (piece : Piece) (rest : List Piece) → length ((if same then piece ∷ [] else []) ++ rest) ≡ one_if same + length rest
first_by true piece rest = omega arith
first_by false piece rest = omega arith

sent_first : (handle told : ℕ) (piece : Piece) (rest : List Order) → length (sent told (Data handle piece ∷ rest)) ≡ one_if (handle == told) + length (sent told rest)
sent_first handle told piece rest = first_by (handle == told) piece (sent told rest)

pub account_data : (limit : ℕ) (side : Side) (past : List Entry) (one one' : Controller) (handle : ℕ) (piece : Piece) (rest : List Order) (outstanding total : ℕ) → handle ≤ 0x0EFF → Known side past one → (one.up ≡ true → 1 ≤ one.told)
    → Takes limit ((handle == one.told) && nat_le 1 one.told) one one' → Account limit side past one (Data handle piece ∷ rest) outstanding total
    → Account limit side (past ++ own side Out (Acl (handle + 0x1000 * flag_of piece.boundary) piece.octets) ∷ []) one' rest outstanding total
account_data limit side past one one' handle piece rest outstanding total low known least took account =
    let packet : Packet = Acl (handle + 0x1000 * flag_of piece.boundary) piece.octets in
    let is : events Out packet ≡ Sent handle ∷ [] = data_events handle piece low in
    let next : List Entry = past ++ own side Out packet ∷ [] in
    let told = took.told in
    let up_same : one'.up ≡ true → one.up ≡ true = λ on. sym took.up ∙ on in
    let held : one.up ≡ true → all_outstanding side next ≡ all_outstanding side past + one_if (handle == one.told) =
    λ up. plain_held side past Out packet NoNews refl tt ∙ ap (λ (l : List BufferEvent). held_with l (link_up side past)) is ∙ data_held handle one (link_up side past) (known.on up) in
    record {
      honest = λ other.
          let before = account.honest other in
          let sent_is = sent_more side past Out packet other ∙ ap (λ (l : List BufferEvent). all_sent side other past + sum_by (sent_on other) l) is in
          let none = completed_more side past Out packet other ∙ ap (λ (l : List BufferEvent). all_completed side other past + sum_by (completed_on other) l) is in
          let one_is = sent_one handle other in
          let keeps = took.keeps other in
          let most = at_least (((handle == one.told) && nat_le 1 one.told) && (one.told == other)) (handle == other) (same_handle handle one.told other (nat_le 1 one.told)) in
          omega arith;
      few = took.few;
      fits = subst (λ (n : ℕ). AllFit limit n one'.owed) (sym told) took.fits;
      on = λ on.
          let up = up_same on in
          let before = account.on up in
          let now = held up in
          let keeps = took.keeps one.told in
          let ours = ap (λ (b : Bool). one_if (((handle == one.told) && nat_le 1 one.told) && b)) (eq-eqb one.told one.told refl) ∙ ap one_if (ours_is (handle == one.told) one.told (least up)) in
          let at = ap (λ (n : ℕ). keeps_of n one') told in
          omega arith;
      holds = λ on.
          let up = up_same on in
          let before = account.holds up in
          let now = held up in
          let first = sent_first handle one.told piece rest in
          let at = ap (λ (n : ℕ). length (sent n rest)) told in
          omega arith;
      off = λ off.
          let before = account.off (sym took.up ∙ off) in
          (before.0, plain_held side past Out packet NoNews refl tt ∙ ap (λ (k : Option Link). held_with (events Out packet) k) (known.off (sym took.up ∙ off)));
      within = account.within;
      total_is = account.total_is;
    }
