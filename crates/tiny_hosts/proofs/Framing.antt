-- Octets of a packet that come to a tiny host.
use Rattle.std.proofs.Common.{◌≡◌, ◌≢◌, ℕ, ◌<◌, ◌≤◌, List, [], ◌∷◌, ◌++◌, take, drop, length, refl, sym, ap, ◌∙◌, subst, append_assoc, arith}
use Rattle.std.proofs.lemmas.List.{append-nil, take-append-drop}
use Rattle.h4_framing.specs.Packets.{Packet, packet, spelling, IsPacket}
use Rattle.h4_framing.specs.declared.leading.Leading.{Leading}
use Rattle.h4_framing.specs.declared.leading.Leading.TheVariants.{Whole, Partial, Refused}
use Rattle.h4_framing.specs.declared.unit.Unit.{Unit}
use Rattle.h4_framing.specs.Leading.{IsLeading}
use Rattle.h4_framing.specs.Laws.{IsWholeOf}
use Rattle.h4_framing.proofs.ReadingLemmas.{written_is_read}
use Rattle.h4_framing.proofs.SpellingLemmas.{one_spelling}
use Rattle.push_terms.specs.declared.word.Side.{Side}
use Rattle.host_link.specs.Lines.{Line}
use Rattle.line_laws.specs.world_model.specs.Machines.{Upper}
use Rattle.radio_world.specs.Hosts.{Coming, Part, Told, coming_packet, MayBeHeard, Hears}
use Rattle.line_laws.specs.Seeing.{seen, IsSeen}
use Rattle.tiny_hosts.specs.Minds.{Unasked}
use Rattle.tiny_hosts.specs.Hosting.{Tiny, asking, IsReady, HearsComing, Unaltered}

append_empty : (xs ys : List ℕ) → xs ++ ys ≡ [] → ys ≡ []
append_empty [] ys none = none
append_empty (x ∷ xs) ys none = cc

-- a front of a packet, and not the whole of it, is no packet
pub not_whole : (limit : ℕ) (p : Packet) (octets left : List ℕ) (unit : Unit) (n : ℕ) → IsPacket limit p → spelling p ≡ octets ++ left → left ≢ [] → IsLeading limit octets (Whole unit n) → ⊥
not_whole limit p octets left unit n is spelled some leading =
    let split : octets ≡ spelling (packet unit) ++ drop n octets = sym (take-append-drop n octets) ∙ ap (λ xs. xs ++ drop n octets) leading.3 in
    let same : spelling p ++ [] ≡ spelling (packet unit) ++ (drop n octets ++ left) =
    append-nil (spelling p) ∙ spelled ∙ ap (λ xs. xs ++ left) split ∙ append_assoc (spelling (packet unit)) (drop n octets) left in
    let both = one_spelling limit p (packet unit) [] (drop n octets ++ left) is leading.0 same in
    some (append_empty (drop n octets) left (sym both.1))

-- a whole packet is read as it is
pub is_whole : (limit : ℕ) (p : Packet) (octets : List ℕ) (found : Leading) → IsPacket limit p → spelling p ≡ octets → IsLeading limit octets found → IsWholeOf p found
is_whole limit p octets found is spelled leading =
    written_is_read limit p [] found is (subst (λ xs. IsLeading limit xs found) (sym spelled ∙ sym (append-nil (spelling p))) leading)

-- ---- the host

abbrev limit : ℕ
limit = 1021

may_as : {M : Type 0} (mind : M) (line : Line) (coming : Coming) → MayBeHeard (asking mind line) coming → MayBeHeard (seen mind line) coming
may_as mind line (Part handle piece) may = may
may_as mind line (Told answer) may = may

-- the octets that it holds are a whole packet, and it heard that
pub hears_whole : {M P : Type 0} (U : Upper M Unasked) (side : Side) (old : Tiny M) (mind' : M) (line' : Line) (octets found held' : List ℕ) (unit : Unit) (n : ℕ) (port : P)
    → IsSeen side old.mind old.line → found ≡ old.held ++ octets → IsLeading limit found (Whole unit n) → HearsComing U side (packet unit) old.mind mind' old.line line' → held' ≡ []
    → Hears U side Unaltered old.held octets held' (asking old.mind old.line) (asking mind' line') port port (IsReady U side mind' line')
hears_whole {M} U side old mind' line' octets found held' unit n port is same leading hears over = record {
  part = λ coming left packet_is spelled some.
      absurd (not_whole limit (coming_packet side coming) found left unit n packet_is (spelled ∙ sym (append_assoc old.held octets left) ∙ ap (λ xs. xs ++ left) (sym same)) some leading);
  whole = λ coming may packet_is spelled.
      let read = is_whole limit (coming_packet side coming) found (Whole unit n) packet_is (spelled ∙ sym same) leading in
      let went = hears coming is (may_as old.mind old.line coming may) read.0 in
      (over, record { used = []; answered = (refl, refl); efforts = went.1; reacts = λ rest. went.2 rest }, went.0);
}
