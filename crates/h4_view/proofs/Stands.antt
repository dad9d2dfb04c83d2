-- What a view has come to, between two pieces of its input.
use Rattle.std.proofs.Common.{◌≡◌, ℕ, ◌+◌, ◌≤◌, List, [], ◌++◌, length, Option, Some, None, IfSome, Err, refl, sym, ap, subst, ◌∙◌, append_assoc, arith, length-append}
use Rattle.std.specs.List.{AllByRecursion}
use Rattle.bt_base.specs.Streams.{gained, GainedFront}
use Rattle.bt_base.proofs.PortLaws.{gained-gained, gained-nil, front_whole, front_then}
use Rattle.h4_framing.specs.declared.refusal.H4Refusal.{H4Refusal}
use Rattle.h4_framing.specs.Packets.{Packet, spellings, IsPacket}
use Rattle.h4_framing.specs.Stream.{IsUnfinished, Fault, Reads}
use Rattle.h4_framing.specs.Framing.{Framing, counted}
use Rattle.h4_framing.specs.Accounts.{Accounts}
use Rattle.h4_framing.proofs.AccountLemmas.{new_accounts}
use Rattle.h4_view.specs.declared.refusal.ViewFault.{ViewFault}
use Rattle.h4_view.specs.declared.refusal.ViewFault.TheVariants.{Refused, ReadFault, WriteFault, NoMemory}
use Rattle.h4_view.specs.declared.links.Links.{Links}
use Rattle.h4_view.specs.Lines.{lines}
use Rattle.h4_view.specs.Shows.{Shows}
use Rattle.h4_view.specs.Standing.{Standing}
use Rattle.h4_view.specs.View.{acl_limit, input_limit, BeginsWith, FrontWritten, OfLines, ShowsRead, ShowsAll, Took, IsOfPorts, IsOfSink, IsNewView}
use Rattle.h4_view.proofs.Showing.{lines-append, spellings-append}

-- taken in two goes
pub took_then : (input mid left : Option (List ℕ)) (a b : List ℕ) → Took input mid a → Took mid left b → Took input left (a ++ b)
took_then None None left a b p q = q
took_then None (Some mid) left a b p q = absurd cc
took_then (Some input) None left a b (rest, e, f) q = absurd cc
took_then (Some input) (Some mid) left a b (rest, e, f) (rest', e', f') =
    let same : mid ≡ rest = cc in
    (rest', e ∙ ap (λ (t : List ℕ). a ++ t) (sym same ∙ e') ∙ sym (append_assoc a b rest'), f')

-- what the framer holds stands behind the packets
pub held_behind : (octets : List ℕ) (packets : List Packet) (framing : Framing) → Accounts octets packets framing → framing.fault ≡ None
    → (octets ≡ spellings packets ++ framing.held) × IsUnfinished framing.limit framing.held × (framing.before ≡ counted 0 (length (spellings packets)))
held_behind octets packets framing accounts sound = rw sound at accounts.kept

-- where and why the octets are faulty
pub fault_behind : (octets : List ℕ) (packets : List Packet) (framing : Framing) (refusal : H4Refusal) (at : ℕ) → Accounts octets packets framing → framing.fault ≡ Some (refusal, at)
    → (place : ℕ) × Reads framing.limit octets packets (Fault refusal place) × (at ≡ counted 0 place)
fault_behind octets packets framing refusal at accounts fault = rw fault at accounts.kept

first_of : (fault : Option (H4Refusal × ℕ)) (octets : List ℕ) (packets : List Packet) (framing : Framing) → Accounts octets packets framing → framing.fault ≡ fault → (rest : List ℕ) × (octets ≡ spellings packets ++ rest)
first_of None octets packets framing accounts e = (framing.held, (held_behind octets packets framing accounts e).0)
first_of (Some (refusal, at)) octets packets framing accounts e = let reads = (fault_behind octets packets framing refusal at accounts e).1 in (reads.rest, reads.whole)

-- the packets are the first of the octets
pub packets_first : (octets : List ℕ) (packets : List Packet) (framing : Framing) → Accounts octets packets framing → (rest : List ℕ) × (octets ≡ spellings packets ++ rest)
packets_first octets packets framing accounts = first_of framing.fault octets packets framing accounts refl

-- what is known of the input where it is told
pub told : {P : List ℕ → Type 0} (input : Option (List ℕ)) → ((all : List ℕ) → input ≡ Some all → P all) → IfSome input P
told None h = tt
told (Some all) h = h all refl

-- the octets that were taken are the front of the input
pub taken_front : (input left : Option (List ℕ)) (octets all : List ℕ) → Took input left octets → input ≡ Some all → (rest : List ℕ) × (all ≡ octets ++ rest) × (left ≡ Some rest)
taken_front None left octets all took e = absurd cc
taken_front (Some known) left octets all (rest, whole, left-is) e = let same : known ≡ all = cc in (rest, sym same ∙ whole, left-is)

-- packets that the octets that were taken begin with are the first of the input
pub packets_begin : (octets rest all first : List ℕ) (packets : List Packet) → AllByRecursion (IsPacket acl_limit) packets → octets ≡ spellings packets ++ first → length octets ≤ input_limit → all ≡ octets ++ rest → BeginsWith all packets
packets_begin octets rest all first packets each split within is = record {
  each = each;
  within = omega (arith, ap length split, length-append (spellings packets) first);
  rest = first ++ rest;
  whole = is ∙ ap (λ (t : List ℕ). t ++ rest) split ∙ append_assoc (spellings packets) first rest;
}

-- the packets of the octets that were taken are the first of the input
begins_with : (octets rest all : List ℕ) (packets : List Packet) (framing : Framing) → Accounts octets packets framing → framing.limit ≡ acl_limit → length octets ≤ input_limit → all ≡ octets ++ rest → BeginsWith all packets
begins_with octets rest all packets framing accounts keeps within is =
    let first = packets_first octets packets framing accounts in
    packets_begin octets rest all first.0 packets (subst (λ (k : ℕ). AllByRecursion (IsPacket k) packets) keeps accounts.each) first.1 within is

-- nothing more happens to the sink
pub front_stands : (input left old new : Option (List ℕ)) (framing : Framing) (links : Links) (offset fed : ℕ) → Standing input left old new framing links offset fed → IfSome input (λ all. FrontWritten old new all)
front_stands input left old new framing links offset fed s = told input (λ all e.
    let front = taken_front input left s.octets all s.took e in
    OfLines s.packets (begins_with s.octets front.0 all s.packets framing s.accounts s.keeps (omega (arith, s.count, s.within)) front.1)
    (front_whole old new (lines [] 0 s.packets) s.written))

-- all that was read is shown
read_shown : (input left old new : Option (List ℕ)) (framing : Framing) (links : Links) (offset fed : ℕ) → Standing input left old new framing links offset fed → IfSome input (λ all. ShowsRead all left old new)
read_shown input left old new framing links offset fed s = told input (λ all e.
    let behind = held_behind s.octets s.packets framing s.accounts s.sound in
    record {
      octets = s.octets;
      took = subst (λ (known : Option (List ℕ)). Took known left s.octets) e s.took;
      within = omega (arith, s.count, s.within);
      packets = s.packets;
      each = subst (λ (k : ℕ). AllByRecursion (IsPacket k) s.packets) s.keeps s.accounts.each;
      rest = framing.held;
      whole = behind.0;
      unfinished = subst (λ (k : ℕ). IsUnfinished k framing.held) s.keeps behind.1;
      wrote = s.written;
    })

-- a fault of a port between two pieces, of which nothing was taken
pub fault_shows : (fault : ViewFault) (input left left' old new : Option (List ℕ)) (framing : Framing) (links : Links) (offset fed : ℕ) → Standing input left old new framing links offset fed → IsOfPorts fault → left' ≡ left
    → IfSome input (λ all. ShowsAll all left' old new (Err fault))
fault_shows (Refused refusal place) input left left' old new framing links offset fed s port kept = absurd port
fault_shows ReadFault input left left' old new framing links offset fed s port kept =
    subst (λ (l : Option (List ℕ)). IfSome input (λ all. ShowsRead all l old new)) (sym kept) (read_shown input left old new framing links offset fed s)
fault_shows WriteFault input left left' old new framing links offset fed s port kept = front_stands input left old new framing links offset fed s
fault_shows NoMemory input left left' old new framing links offset fed s port kept = front_stands input left old new framing links offset fed s

-- a fault of the sink leaves a front
pub sink_fault_shows : (fault : ViewFault) (input left old new : Option (List ℕ)) → IsOfSink fault → IfSome input (λ all. FrontWritten old new all) → IfSome input (λ all. ShowsAll all left old new (Err fault))
sink_fault_shows (Refused refusal place) input left old new sink front = absurd sink
sink_fault_shows ReadFault input left old new sink front = absurd sink
sink_fault_shows WriteFault input left old new sink front = front
sink_fault_shows NoMemory input left old new sink front = front

-- the lines of the packets that a piece added, behind those of before
pub lines_then : (offset : ℕ) (packets added : List Packet) → offset ≡ length (spellings packets) → lines [] 0 (packets ++ added) ≡ lines [] 0 packets ++ lines packets offset added
lines_then offset packets added moves = lines-append [] 0 packets added ∙ ap (λ (o : ℕ). lines [] 0 packets ++ lines packets o added) (omega (arith, moves))

-- the piece was shown, and a front of its text was written
pub front_more : (input left left' old new new' : Option (List ℕ)) (framing framing' : Framing) (links links' : Links) (offset offset' fed : ℕ) (text xs : List ℕ) (fault : Option (H4Refusal × ℕ))
    → Standing input left old new framing links offset fed → Took left left' xs → Shows framing framing' links links' offset offset' [] text xs fault → GainedFront new new' text → fed + length xs ≤ input_limit → IfSome input (λ all. FrontWritten old new' all)
front_more input left left' old new new' framing framing' links links' offset offset' fed text xs fault s took shows front within = told input (λ all e.
    let octets : List ℕ = s.octets ++ xs in
    let begin = taken_front input left' octets all (took_then input left left' s.octets xs s.took took) e in
    OfLines (s.packets ++ shows.added)
    (begins_with octets begin.0 all (s.packets ++ shows.added) framing' (shows.accounts s.octets s.packets s.accounts) (shows.keeps ∙ s.keeps) (omega (arith, s.count, length-append s.octets xs)) begin.1)
    (subst (λ (t : List ℕ). GainedFront old new' t) (ap (λ (t : List ℕ). lines [] 0 s.packets ++ t) (shows.adds s.packets s.knows).0 ∙ sym (lines_then offset s.packets shows.added s.moves))
    (front_then old new new' (lines [] 0 s.packets) text s.written front)))

-- the piece was shown and written, and the view goes on
pub standing_more : (input left left' old new new' : Option (List ℕ)) (framing framing' : Framing) (links links' : Links) (offset offset' fed n : ℕ) (text xs : List ℕ)
    → Standing input left old new framing links offset fed → Took left left' xs → Shows framing framing' links links' offset offset' [] text xs None → new' ≡ gained new text → length xs ≡ n → fed + n ≤ input_limit
    → Standing input left' old new' framing' links' offset' (fed + n)
standing_more input left left' old new new' framing framing' links links' offset offset' fed n text xs s took shows wrote size within = record {
  octets = s.octets ++ xs;
  packets = s.packets ++ shows.added;
  took = took_then input left left' s.octets xs s.took took;
  count = omega (arith, length-append s.octets xs, s.count, size);
  within = within;
  accounts = shows.accounts s.octets s.packets s.accounts;
  keeps = shows.keeps ∙ s.keeps;
  sound = shows.answers;
  knows = (shows.adds s.packets s.knows).1;
  moves = omega (arith, shows.moves, s.moves, ap length (spellings-append s.packets shows.added), length-append (spellings s.packets) (spellings shows.added));
  written =
      wrote
      ∙ ap (λ (c : Option (List ℕ)). gained c text) s.written
      ∙ gained-gained old (lines [] 0 s.packets) text
      ∙ ap (λ (t : List ℕ). gained old (lines [] 0 s.packets ++ t)) (shows.adds s.packets s.knows).0
      ∙ ap (gained old) (sym (lines_then offset s.packets shows.added s.moves));
}

took_none : (input : Option (List ℕ)) → Took input input []
took_none None = refl
took_none (Some all) = (all, refl, refl)

accounts_none : (framing : Framing) → framing ≡ record { limit = acl_limit; before = 0; held = []; fault = None } → Accounts [] [] framing
accounts_none framing new = subst (λ (f : Framing). Accounts [] [] f) (sym new) (new_accounts acl_limit)

-- nothing was read yet
pub standing_none : (input old : Option (List ℕ)) (framing : Framing) (links : Links) (offset fed : ℕ) (text : List ℕ) → IsNewView framing links offset fed text → Standing input input old old framing links offset fed
standing_none input old framing links offset fed text new = record {
  octets = [];
  packets = [];
  took = took_none input;
  count = sym new.unread;
  within = omega (arith, new.unread);
  accounts = accounts_none framing new.framer;
  keeps = ap (λ (f : Framing). f.limit) new.framer;
  sound = ap (λ (f : Framing). f.fault) new.framer;
  moves = new.at;
  knows = new.knows;
  written = sym (gained-nil old);
}
