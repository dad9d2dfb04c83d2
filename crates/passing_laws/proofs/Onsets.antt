-- What the beginning of a word makes of the two ends of a channel: a turn of one host.
use Rattle.std.proofs.Common.{◌≡◌, ℕ, ◌+◌, ◌*◌, ◌≤◌, List, [], ◌∷◌, length, Bool, true, false, cond, eqb, Option, Some, refl, sym, ap, ◌∙◌, arith}
use Rattle.std.specs.Prelude.{◌&&◌, not}
use Rattle.std.specs.List.{list_any}
use Rattle.channel_laws.specs.acl_fragments.specs.Pieces.{channel_of}
use Rattle.channel_laws.specs.l2cap_config.specs.declared.wish.Agreed.{Agreed}
use Rattle.channel_laws.specs.ertm_model.specs.Pair.{Sent, End as MachineEnd, Give, Fire, Submit, Pass, Lose, Repeat, Pair as Machines, ByA, ByB, turned as machines_turned}
use Rattle.channel_laws.specs.link_talk.specs.declared.channel.Channel.{Channel}
use Rattle.channel_laws.specs.channel_model.specs.Value.{Carrier, Setup, Held, Channels}
use Rattle.channel_laws.specs.channel_model.specs.Policies.{Policy}
use Rattle.channel_laws.specs.channel_model.specs.Changing.{held_at, setup_of}
use Rattle.channel_laws.specs.channel_model.specs.Giving.{stage_gives, gives}
use Rattle.channel_laws.specs.Adverse.{seen_from}
use Rattle.channel_laws.specs.Common.{mirrored}
use Rattle.channel_laws.specs.Ends.{DoesSo, end_at}
use Rattle.channel_laws.specs.Frames.{IsUttered}
use Rattle.channel_laws.specs.Pairs.{End, Pair, Happening, Acts, Puts, Takes, Repeats, Loses, Damages, takes_first, happens_near, Side, Near, Far, turned, happens_at}
use Rattle.channel_laws.specs.Pipes.{IsCarried}
use Rattle.channel_laws.specs.Tries.{one_if, is_firing}
use Rattle.channel_laws.proofs.Flowing.{sound-of, Common, Fair as Suited}
use Rattle.channel_laws.proofs.Joining.{Terms, Holds, other_terms, IsBelow}
use Rattle.channel_laws.proofs.Pairing.{BothRun}
use Rattle.channel_laws.proofs.Partaking.{IsMate}
use Rattle.channel_laws.proofs.Piped.{under_way}
use Rattle.recovered_laws.proofs.Turning.{Moves, Joint, Fair, near-turns}
use Rattle.recovered_laws.proofs.Paying.{Silent, none_found, not_some, silent_stage, silent_held, BothPrepared, turned_joint}
use Rattle.recovery_laws.specs.Facts.{IsSettled}
use Rattle.recovery_laws.specs.Words.{handed}
use Rattle.recovery_laws.proofs.Within.{Within, within-more, within-swapped, bare-a, bare-b, mild-move}
use Rattle.passing_laws.specs.Words.{is_unprompted, AreSilent, wrong_in, is_first, is_handed, endpoint}
use Rattle.passing_laws.proofs.Known.{Known, to_near, to_far, joint-knows, joint-also}

-- ---- hosts that have nothing to give

pub record Ready (found owed : ℕ) (n f : List (List ℕ)) (p : Machines) : Type 0 where
  pub within : Within found owed p
  pub settled_a : IsSettled p.a
  pub settled_b : IsSettled p.b
  pub known : Known n f p

settled_held : (agreed : Agreed) (e : MachineEnd) (opened : Bool) (carrier : Option Carrier) → Silent carrier → Holds agreed e opened carrier → IsSettled e
settled_held agreed e opened carrier silent holds = let (open', none) = silent_held agreed e opened carrier silent holds in record { is_open = open'; is_silent = none }

silences : (own : ℕ) (v : Channels) → list_any gives v.held ≡ false → (held : Held) (setup : Setup) → held_at own v ≡ Some held → setup_of held.stage ≡ Some setup → Silent setup.carrier
silences own v none held setup found has = silent_stage held.stage setup has (not_some (stage_gives held.stage) (none_found gives v.held none own held found))

pub ready-joint : (t : Terms) (channel : Channel) (pair : Pair) (found owed : ℕ) → IsBelow pair.near.run.value → IsBelow pair.far.run.value → AreSilent pair → Joint t channel (Within found owed) pair
    → Joint t channel (Ready found owed (to_near channel pair) (to_far channel pair)) pair
ready-joint t channel pair found owed below far_below silent h =
    joint-knows t channel pair Silent Silent (Within found owed) (Ready found owed (to_near channel pair) (to_far channel pair)) below far_below
    (λ none machine never. cc) (silences channel.own pair.near.run.value silent.near_none) (λ none machine never. cc) (silences channel.peer pair.far.run.value silent.far_none)
    (λ opened carrier far_opened far_carrier near_so far_so p held within. record {
      within = within;
      settled_a = settled_held t.mine p.a opened carrier near_so held.near_holds;
      settled_b = settled_held t.other p.b far_opened far_carrier far_so held.far_holds;
      known = held.known;
    }) h

-- ---- what it does of its own accord

pub own_moves : (found owed : ℕ) (happening : Happening) → is_unprompted happening ≡ true → Moves happening (Within found owed) (Within found owed)
own_moves found owed (Acts occurrence) own = (
  (λ fires. let never : false ≡ true = sym (ap not fires) ∙ own in absurd cc),
  λ sdu p stands may h. mild-move found owed (ByA (Submit sdu)) p tt stands may h,
)
own_moves found owed (Puts pdu) own = λ p stands may h. mild-move found owed (ByA Give) p tt stands may h
own_moves found owed Takes own = cc
own_moves found owed Repeats own = cc
own_moves found owed Loses own = cc
own_moves found owed (Damages pdu) own = cc

-- ---- a PDU of the channel goes

one_less : (b : Bool) (pdu : List ℕ) (rest : List (List ℕ)) → length (cond b (pdu ∷ rest) rest) ≡ one_if b + length rest
one_less true pdu rest = omega arith
one_less false pdu rest = omega arith

took_long : (own : ℕ) (coming : List (List ℕ)) (end' : End) → end'.coming ≡ coming → length (under_way own coming) ≡ one_if (is_first own coming) + length (under_way own (takes_first coming end').coming)
took_long own [] end' is = let same = ap (λ c. length (under_way own c)) is in omega (arith, same)
took_long own (pdu ∷ rest) end' is = one_less (eqb (channel_of pdu) own) pdu (under_way own rest)

handed_some : (b : Bool) (queue : List Sent) → one_if b ≤ length queue → one_if b ≤ handed Pass queue
handed_some b [] le = omega (arith, le)
handed_some true (sent ∷ queue) le = omega arith
handed_some false (sent ∷ queue) le = omega arith

-- ---- whatever begins it at the near host

module _ (t : Terms) (channel : Channel) (pair : Pair) (found owed : ℕ) (fair : Fair t channel pair) (far_below : IsBelow pair.far.run.value) (silent : AreSilent pair) where
  abbrev Now : Machines → Type 0
  Now p = Ready found owed (to_near channel pair) (to_far channel pair) p

  -- once it is known what is under way then
  abbrev Then : (found' owed' : ℕ) → Happening → Machines → Type 0
  Then found' owed' happening p = Known (to_near channel (happens_near happening pair)) (to_far channel (happens_near happening pair)) p → Within found' owed' p

  now : Joint t channel (Within found owed) pair → Joint t channel (Now) pair
  now h = ready-joint t channel pair found owed fair.sound.core.held_below far_below silent h

  begins : (found' owed' : ℕ) (happening : Happening) → ((p : Machines) → Now p → Then found' owed' happening p) → Moves happening (Now) (Then found' owed' happening) → IsMate t.mine channel.own channel.peer (happens_near happening pair).near.run.value
      → DoesSo IsUttered happening pair.near → IsCarried happening pair.near → Joint t channel (Within found owed) pair → Joint t channel (Within found' owed') (happens_near happening pair)
  begins found' owed' happening stays moves mate uttered passes h =
      joint-also t channel (happens_near happening pair) (Then found' owed' happening) (Within found' owed') (λ p k so. so k)
      (near-turns t channel pair (Now) (Then found' owed' happening) happening fair stays moves mate uttered passes (now h))

  abbrev found_in : Happening → ℕ
  found_in happening = one_if (is_handed happening && is_first channel.own pair.near.coming)

  abbrev Begun : Happening → Type 0
  Begun happening = IsMate t.mine channel.own channel.peer (happens_near happening pair).near.run.value → DoesSo IsUttered happening pair.near → IsCarried happening pair.near → Joint t channel (Within found owed) pair
      → Joint t channel (Within (found + found_in happening) (owed + 256 * wrong_in happening)) (happens_near happening pair)

  acts_so : (occurrence : _) → Begun (Acts occurrence)
  acts_so occurrence =
      begins (found + 0) (owed + 256 * one_if (is_firing occurrence)) (Acts occurrence) (λ p r k. within-more found owed (found + 0) (owed + 256 * one_if (is_firing occurrence)) p (omega arith) (omega arith) r.within) (
        (λ fires p stands may r k.
            let one = ap one_if fires in
            within-more (found + 0) (owed + 256 * 1) (found + 0) (owed + 256 * one_if (is_firing occurrence)) (machines_turned (ByA Fire) p) (omega arith) (omega (arith, one)) (bare-a Fire found owed p tt stands r.settled_a r.settled_b r.within k.open_a k.open_b)),
        λ sdu p stands may r k.
            within-more found owed (found + 0) (owed + 256 * one_if (is_firing occurrence)) (machines_turned (ByA (Submit sdu)) p) (omega arith) (omega arith) (mild-move found owed (ByA (Submit sdu)) p tt stands may r.within),
      )

  puts_so : (pdu : List ℕ) → Begun (Puts pdu)
  puts_so pdu =
      begins (found + 0) (owed + 256 * 0) (Puts pdu) (λ p r k. within-more found owed (found + 0) (owed + 256 * 0) p (omega arith) (omega arith) r.within)
      (λ p stands may r k. within-more found owed (found + 0) (owed + 256 * 0) (machines_turned (ByA Give) p) (omega arith) (omega arith) (mild-move found owed (ByA Give) p tt stands may r.within))

  takes_so : Begun Takes
  takes_so = begins (found + one_if first) (owed + 256 * 0) Takes stays moves
    where
      first : Bool
      first = is_first channel.own pair.near.coming

      long : length (to_near channel pair) ≡ one_if first + length (to_near channel (happens_near Takes pair))
      long = took_long channel.own pair.near.coming pair.near refl

      stays : (p : Machines) → Now p → Then (found + one_if first) (owed + 256 * 0) Takes p
      stays p r k =
          let before = r.known.near_long in
          let after = k.near_long in
          within-more found owed (found + one_if first) (owed + 256 * 0) p (omega (arith, before, after, long)) (omega arith) r.within

      moves : Moves Takes (Now) (Then (found + one_if first) (owed + 256 * 0) Takes)
      moves p stands may r k =
          let before = r.known.near_long in
          let some = handed_some first p.b.queue (omega (arith, before, long)) in
          within-more (found + handed Pass p.b.queue) (owed + 256 * 0) (found + one_if first) (owed + 256 * 0) (machines_turned (ByB Pass) p) (omega (arith, some)) (omega arith)
          (bare-b Pass found owed p tt stands r.settled_a r.settled_b r.within k.open_a k.open_b)

  repeats_so : Begun Repeats
  repeats_so =
      begins (found + 0) (owed + 256 * 1) Repeats (λ p r k. within-more found owed (found + 0) (owed + 256 * 1) p (omega arith) (omega arith) r.within)
      (λ p stands may r k. bare-b Repeat found owed p tt stands r.settled_a r.settled_b r.within k.open_a k.open_b)

  loses_so : Begun Loses
  loses_so =
      begins (found + 0) (owed + 256 * 1) Loses (λ p r k. within-more found owed (found + 0) (owed + 256 * 1) p (omega arith) (omega arith) r.within)
      (λ p stands may r k. bare-b Lose found owed p tt stands r.settled_a r.settled_b r.within k.open_a k.open_b)

  damages_so : (pdu : List ℕ) → Begun (Damages pdu)
  damages_so pdu =
      begins (found + 0) (owed + 256 * 1) (Damages pdu) (λ p r k. within-more found owed (found + 0) (owed + 256 * 1) p (omega arith) (omega arith) r.within)
      (λ p stands may r k. bare-b Lose found owed p tt stands r.settled_a r.settled_b r.within k.open_a k.open_b)

  pub near-begins : (happening : Happening) → Begun happening
  near-begins (Acts occurrence) = acts_so occurrence
  near-begins (Puts pdu) = puts_so pdu
  near-begins Takes = takes_so
  near-begins Repeats = repeats_so
  near-begins Loses = loses_so
  near-begins (Damages pdu) = damages_so pdu

-- ---- at either

-- what is so of both hosts as they stand
pub record Standing (near far : Policy) (t : Terms) (channel : Channel) (pair : Pair) : Type 0 where
  pub suited : Suited t channel
  pub runs : BothRun IsUttered near far pair
  pub ready : BothPrepared t channel pair
  pub common : Common t channel pair

pub near_fair : (near far : Policy) (t : Terms) (channel : Channel) (pair : Pair) → Standing near far t channel pair → Fair t channel pair
near_fair near far t channel pair s =
    record { own_high = s.suited.own_high; peer_high = s.suited.peer_high; suits = s.suited.there; sound = sound-of IsUttered near pair.near s.runs.near_runs; mate = s.common.near_mate; prepared = s.ready.0 }

pub far_fair : (near far : Policy) (t : Terms) (channel : Channel) (pair : Pair) → Standing near far t channel pair → Fair (other_terms t) (mirrored channel) (turned pair)
far_fair near far t channel pair s =
    record { own_high = s.suited.peer_high; peer_high = s.suited.own_high; suits = s.suited.back; sound = sound-of IsUttered far pair.far s.runs.far_runs; mate = s.common.far_mate; prepared = s.ready.1 }

pub side-begins : (near far : Policy) (t : Terms) (channel : Channel) (pair : Pair) (found owed : ℕ) (side : Side) (happening : Happening) → Standing near far t channel pair → AreSilent pair → Common t channel (happens_at side happening pair)
    → DoesSo IsUttered happening (end_at side pair) → IsCarried happening (end_at side pair) → Joint t channel (Within found owed) pair
    → Joint t channel (Within (found + one_if (is_handed happening && is_first (endpoint side channel) (seen_from side pair).near.coming)) (owed + 256 * wrong_in happening)) (happens_at side happening pair)
side-begins near far t channel pair found owed Near happening s silent after uttered passes h =
    near-begins t channel pair found owed (near_fair near far t channel pair s) (far_fair near far t channel pair s).sound.core.held_below silent happening after.near_mate uttered passes h
side-begins near far t channel pair found owed Far happening s silent after uttered passes h =
    let other : Pair = turned pair in
    let more : ℕ = found + one_if (is_handed happening && is_first channel.peer pair.far.coming) in
    let cost : ℕ = owed + 256 * wrong_in happening in
    turned_joint (other_terms t) (mirrored channel) (happens_near happening other) (Within more cost) (Within more cost) (within-swapped more cost)
    (near-begins (other_terms t) (mirrored channel) other found owed (far_fair near far t channel pair s) (near_fair near far t channel pair s).sound.core.held_below (record { near_none = silent.far_none; far_none = silent.near_none }) happening after.far_mate uttered passes
    (turned_joint t channel pair (Within found owed) (Within found owed) (within-swapped found owed) h))

pub side-goes : (near far : Policy) (t : Terms) (channel : Channel) (pair : Pair) (found owed : ℕ) (side : Side) (happening : Happening) → is_unprompted happening ≡ true → Standing near far t channel pair → Common t channel (happens_at side happening pair)
    → DoesSo IsUttered happening (end_at side pair) → IsCarried happening (end_at side pair) → Joint t channel (Within found owed) pair → Joint t channel (Within found owed) (happens_at side happening pair)
side-goes near far t channel pair found owed Near happening own s after uttered passes h =
    near-turns t channel pair (Within found owed) (Within found owed) happening (near_fair near far t channel pair s) (λ p so. so) (own_moves found owed happening own) after.near_mate uttered passes h
side-goes near far t channel pair found owed Far happening own s after uttered passes h =
    let other : Pair = turned pair in
    turned_joint (other_terms t) (mirrored channel) (happens_near happening other) (Within found owed) (Within found owed) (within-swapped found owed)
    (near-turns (other_terms t) (mirrored channel) other (Within found owed) (Within found owed) happening (far_fair near far t channel pair s) (λ p so. so) (own_moves found owed happening own) after.far_mate uttered passes
    (turned_joint t channel pair (Within found owed) (Within found owed) (within-swapped found owed) h))
