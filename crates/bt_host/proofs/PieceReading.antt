-- The packets of a piece, one by one.
use Rattle.std.proofs.Common.{◌≡◌, ℕ, ◌+◌, ◌-◌, List, [], ◌∷◌, ◌++◌, length, take, drop, fold, Option, Some, None, refl, sym, ap, subst, ◌∙◌, append_assoc, length-append, arith}
use Rattle.std.specs.Prelude.{MatchOption}
use Rattle.std.specs.List.{AllByRecursion}
use Rattle.std.proofs.lemmas.List.{append-nil, take-append-drop, take_all, length-drop, length-take-le}
use Rattle.std.proofs.lemmas.Grind.{flat_map-append}
use Rattle.h4_framing.specs.declared.refusal.H4Refusal.{H4Refusal}
use Rattle.h4_framing.specs.declared.unit.Unit.{Unit as Lent}
use Rattle.h4_framing.specs.declared.framer.Taken.TheVariants as taken
use Rattle.h4_framing.specs.Packets.{Packet, packet, spelling, spellings, IsPacket}
use Rattle.h4_framing.specs.Stream.{IsUnfinished, GoesWrong}
use Rattle.h4_framing.specs.Framing.{Framing, counted}
use Rattle.h4_framing.specs.Taking.{Takes}
use Rattle.h4_framing.proofs.ReadingLemmas.{all_append}
use Rattle.host_link.specs.declared.news.ControllerFault.{ControllerFault}
use Rattle.host_link.specs.declared.news.ControllerFault.TheVariants as controller
use Rattle.host_link.specs.Lines.{Line}
use Rattle.bt_host.specs.declared.feed_refusal.FeedRefusal.{FeedRefusal}
use Rattle.bt_host.specs.declared.feed_refusal.FeedRefusal.TheVariants.{Transport, CommandFailed, BadBuffers, NoMemory}
use Rattle.bt_host.specs.Refusals.{acl_limit, Refuses, IsRefused, LeavesFraming, refusal_by}
use Rattle.bt_host.specs.Pieces.{place_behind, IsRead, IsTaken, IsStopped}

spellings-last : (packets : List Packet) (p : Packet) → spellings (packets ++ p ∷ []) ≡ spellings packets ++ spelling p
spellings-last packets p = flat_map-append spelling packets (p ∷ []) ∙ ap (λ (t : List ℕ). spellings packets ++ t) (append-nil (spelling p))

abbrev place_from : ℕ → List Packet → ℕ
place_from place packets = fold (λ place packet. counted place (length (spelling packet))) place packets

place-last : (place : ℕ) (packets : List Packet) (p : Packet) → place_from place (packets ++ p ∷ []) ≡ counted (place_from place packets) (length (spelling p))
place-last place [] p = refl
place-last place (q ∷ packets) p = place-last (counted place (length (spelling q))) packets p

-- so far these packets were read, from what was held and a front of the piece
pub record HasRead (framing mid : Framing) (piece rest : List ℕ) (packets : List Packet) : Type 0 where
  pub each : AllByRecursion (IsPacket acl_limit) packets
  pub eaten : List ℕ
  pub whole : piece ≡ eaten ++ rest
  pub octets : framing.held ++ eaten ≡ spellings packets ++ mid.held
  pub limit : mid.limit ≡ framing.limit
  pub before : mid.before ≡ place_behind framing packets
  pub sound : mid.fault ≡ framing.fault

pub read_none : (framing : Framing) (piece : List ℕ) → HasRead framing framing piece piece []
read_none framing piece = record {
  each = tt;
  eaten = [];
  whole = refl;
  octets = append-nil framing.held;
  limit = refl;
  before = refl;
  sound = refl;
}

-- all octets, as packets and those that are left
left : (framing mid : Framing) (piece rest : List ℕ) (packets : List Packet) → HasRead framing mid piece rest packets → framing.held ++ piece ≡ spellings packets ++ (mid.held ++ rest)
left framing mid piece rest packets read =
    ap (λ (xs : List ℕ). framing.held ++ xs) read.whole
    ∙ sym (append_assoc framing.held read.eaten rest)
    ∙ ap (λ (xs : List ℕ). xs ++ rest) read.octets ∙ append_assoc (spellings packets) mid.held rest

-- the same, where nothing is said of the rest
pub read_so_far : (framing mid : Framing) (piece rest : List ℕ) (packets : List Packet) → HasRead framing mid piece rest packets → IsRead framing piece packets (mid.held ++ rest)
read_so_far framing mid piece rest packets read = record { each = read.each; octets = left framing mid piece rest packets read }

behind_used : (rest : List ℕ) (n : ℕ) → take (length rest - n) (drop n rest) ≡ drop n rest
behind_used rest n = take_all (length rest - n) (drop n rest) (omega (arith, length-drop n rest))

-- one packet more
pub read_packet : (framing mid new : Framing) (piece rest : List ℕ) (packets : List Packet) (unit : Lent) (n : ℕ) → framing.limit ≡ acl_limit → HasRead framing mid piece rest packets → Takes mid rest (taken.Whole unit n) new
    → HasRead framing new piece (take (length rest - n) (drop n rest)) (packets ++ packet unit ∷ [])
read_packet framing mid new piece rest packets unit n bound read takes =
    let p : Packet = packet unit in
    let fits : IsPacket acl_limit p = subst (λ (limit : ℕ). IsPacket limit p) (read.limit ∙ bound) takes.1 in
    let long : length (spelling p) ≡ length mid.held + n = ap length takes.4 ∙ length-append mid.held (take n rest) ∙ ap (λ (k : ℕ). length mid.held + k) (length-take-le n rest takes.3) in
    record {
      each = all_append (IsPacket acl_limit) packets (p ∷ []) read.each (fits, tt);
      eaten = read.eaten ++ take n rest;
      whole =
          read.whole
          ∙ ap (λ (xs : List ℕ). read.eaten ++ xs) (sym (take-append-drop n rest))
          ∙ sym (append_assoc read.eaten (take n rest) (drop n rest))
          ∙ ap (λ (xs : List ℕ). (read.eaten ++ take n rest) ++ xs) (sym (behind_used rest n));
      octets =
          sym (append_assoc framing.held read.eaten (take n rest))
          ∙ ap (λ (xs : List ℕ). xs ++ take n rest) read.octets
          ∙ append_assoc (spellings packets) mid.held (take n rest)
          ∙ ap (λ (xs : List ℕ). spellings packets ++ xs) (sym takes.4)
          ∙ sym (spellings-last packets p)
          ∙ sym (append-nil (spellings (packets ++ p ∷ [])))
          ∙ ap (λ (f : Framing). spellings (packets ++ p ∷ []) ++ f.held) (sym takes.5);
      limit = ap (λ (f : Framing). f.limit) takes.5 ∙ read.limit;
      before =
          ap (λ (f : Framing). f.before) takes.5
          ∙ ap (λ (k : ℕ). counted mid.before k) (sym long)
          ∙ ap (λ (k : ℕ). counted k (length (spelling p))) read.before ∙ sym (place-last framing.before packets p);
      sound = ap (λ (f : Framing). f.fault) takes.5 ∙ read.sound;
    }

abbrev framing : ℕ → ℕ → List ℕ → Option (H4Refusal × ℕ) → Framing
framing limit before held fault = record { limit = limit; before = before; held = held; fault = fault }

same_framing : (one other : Framing) (place : ℕ) (held : List ℕ) → one.limit ≡ other.limit → one.before ≡ place → one.fault ≡ other.fault → record one { held = held } ≡ record other { before = place; held = held }
same_framing one other place held limit before fault =
    ap (λ (n : ℕ). framing n one.before held one.fault) limit
    ∙ ap (λ (n : ℕ). framing other.limit n held one.fault) before
    ∙ ap (λ (f : Option (H4Refusal × ℕ)). framing other.limit place held f) fault

-- the rest of the piece is held
pub read_rest : (framing mid new : Framing) (piece rest : List ℕ) (packets : List Packet) → framing.limit ≡ acl_limit → HasRead framing mid piece rest packets → Takes mid rest taken.More new
    → IsTaken framing new piece packets
read_rest framing mid new piece rest packets bound read takes =
    let held : List ℕ = mid.held ++ rest in
    record {
      rest = held;
      read = record { each = read.each; octets = left framing mid piece rest packets read };
      unfinished = subst (λ (limit : ℕ). IsUnfinished limit held) (read.limit ∙ bound) takes.1;
      framing_is = takes.2 ∙ same_framing mid framing (place_behind framing packets) held read.limit read.before read.sound;
    }

wrong_at : (fault : Option (H4Refusal × ℕ)) (octets : List ℕ) (limit before place : ℕ) (refusal : H4Refusal) → fault ≡ None
    → MatchOption fault ((n : ℕ) × GoesWrong limit octets refusal n × (place ≡ counted before n)) (λ earlier. earlier ≡ (refusal, place))
    → (n : ℕ) × GoesWrong limit octets refusal n × (place ≡ counted before n)
wrong_at None octets limit before place refusal sound wrong = wrong
wrong_at (Some earlier) octets limit before place refusal sound wrong = absurd cc

-- the rest of the piece is no packet
pub read_wrong : (framing mid new : Framing) (piece rest : List ℕ) (packets : List Packet) (line : Line) (refusal : H4Refusal) (place : ℕ) → framing.limit ≡ acl_limit → framing.fault ≡ None
    → HasRead framing mid piece rest packets → Takes mid rest (taken.Refused refusal place) new → IsStopped framing new piece packets line (Transport refusal place)
read_wrong framing mid new piece rest packets line refusal place bound sound read takes =
    let octets : List ℕ = mid.held ++ rest in
    let wrong = wrong_at mid.fault octets mid.limit mid.before place refusal (read.sound ∙ sound) takes.0 in
    record {
      rest = octets;
      read = record { each = read.each; octets = left framing mid piece rest packets read };
      refused = (wrong.0, subst (λ (limit : ℕ). GoesWrong limit octets refusal wrong.0) (read.limit ∙ bound) wrong.1, wrong.2 ∙ ap (λ (n : ℕ). counted n wrong.0) read.before);
      left = ap (λ (f : Framing). f.fault) takes.1;
    }

-- a refused packet
not_so : (fault : ControllerFault) (refusal : H4Refusal) (at place : ℕ) → Transport refusal at ≡ refusal_by fault place → ⊥
not_so (controller.CommandFailed opcode status) refusal at place e = absurd cc
not_so (controller.BadBuffers size count) refusal at place e = absurd cc

refused_by : (framing : Framing) (packets : List Packet) (line : Line) (octets more : List ℕ) (packet : Packet) (place : ℕ) (refusal : FeedRefusal) → octets ≡ spelling packet ++ more → IsPacket acl_limit packet
    → place ≡ place_behind framing packets → Refuses packet line place refusal → (refusal ≡ NoMemory → ⊥) → IsRefused line (place_behind framing packets) octets refusal
refused_by framing packets line octets more packet place (Transport refusal at) is whole here refuses memory = absurd (not_so refuses.fault refusal at place refuses.is)
refused_by framing packets line octets more packet place (CommandFailed opcode status at) is whole here refuses memory =
    record { packet = packet; more = more; octets_are = is; whole = whole; refused = subst (λ (n : ℕ). Refuses packet line n (CommandFailed opcode status at)) here refuses }
refused_by framing packets line octets more packet place (BadBuffers size count at) is whole here refuses memory =
    record { packet = packet; more = more; octets_are = is; whole = whole; refused = subst (λ (n : ℕ). Refuses packet line n (BadBuffers size count at)) here refuses }
refused_by framing packets line octets more packet place NoMemory is whole here refuses memory = absurd (memory refl)

leaves : (refusal : FeedRefusal) (framing : Framing) (packet : Packet) (line : Line) (place : ℕ) → framing.fault ≡ None → framing.held ≡ [] → Refuses packet line place refusal → LeavesFraming refusal framing
leaves (Transport refusal at) framing packet line place sound empty refuses = absurd (not_so refuses.fault refusal at place refuses.is)
leaves (CommandFailed opcode status at) framing packet line place sound empty refuses = (sound, empty)
leaves (BadBuffers size count at) framing packet line place sound empty refuses = (sound, empty)
leaves NoMemory framing packet line place sound empty refuses = tt

pub read_refused : (framing mid new : Framing) (piece rest : List ℕ) (packets : List Packet) (line : Line) (unit : Lent) (n place : ℕ) (refusal : FeedRefusal) → framing.limit ≡ acl_limit → framing.fault ≡ None
    → HasRead framing mid piece rest packets → Takes mid rest (taken.Whole unit n) new → place ≡ mid.before → Refuses (packet unit) line place refusal → (refusal ≡ NoMemory → ⊥)
    → IsStopped framing new piece packets line refusal
read_refused framing mid new piece rest packets line unit n place refusal bound sound read takes here refuses memory =
    let p : Packet = packet unit in
    let more : List ℕ = drop n rest in
    let split : mid.held ++ rest ≡ spelling p ++ more =
    ap (λ (xs : List ℕ). mid.held ++ xs) (sym (take-append-drop n rest)) ∙ sym (append_assoc mid.held (take n rest) more) ∙ ap (λ (xs : List ℕ). xs ++ more) (sym takes.4) in
    record {
      rest = mid.held ++ rest;
      read = record { each = read.each; octets = left framing mid piece rest packets read };
      refused = refused_by framing packets line (mid.held ++ rest) more p place refusal split (subst (λ (limit : ℕ). IsPacket limit p) (read.limit ∙ bound) takes.1) (here ∙ read.before) refuses memory;
      left = leaves refusal new p line place (ap (λ (f : Framing). f.fault) takes.5 ∙ takes.0) (ap (λ (f : Framing). f.held) takes.5) refuses;
    }
