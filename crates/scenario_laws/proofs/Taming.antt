-- Each PDU that moves in a run is octets, and on the signalling channel one command.
use Rattle.std.proofs.Common.{◌≡◌, ◌≢◌, ℕ, zero, suc, ◌+◌, ◌≤◌, ◌<◌, Bool, true, false, List, [], ◌∷◌, ◌++◌, map, length, drop, Option, Some, None, refl, sym, ap, subst, ◌∙◌, if◌then◌else◌, arith}
use Rattle.std.specs.Prelude.{nat_lt, ◌/◌, ◌%◌, bit_xor, slice_set, slice_index}
use Rattle.std.specs.List.{AllByRecursion}
use Rattle.std.proofs.lemmas.Nat.{xor_of_8, div_below, mod_below}
use Rattle.host_laws.specs.acl_fragments.specs.Pieces.{channel_of}
use Rattle.radio_world.specs.bt_base.specs.Octets.{IsOctets}
use Rattle.host_laws.specs.l2cap_signal.specs.Reading.{answers}
use Rattle.radio_world.specs.push_terms.specs.Words.{IsWord}
use Rattle.radio_world.specs.push_terms.specs.declared.word.Side.TheVariants.{A, B}
use Rattle.radio_world.specs.push_terms.specs.declared.word.Way.{Way}
use Rattle.radio_world.specs.push_terms.specs.declared.word.Way.TheVariants.{Ab, Ba}
use Rattle.radio_world.specs.push_terms.specs.declared.word.Word.{Word}
use Rattle.radio_world.specs.push_terms.specs.declared.word.Word.TheVariants.{Pass, Lose, Repeat, Damage, Cut, Timer, Drop, Cancel}
use Rattle.radio_world.specs.capture.specs.Frames.{frame_pieces, way_served}
use Rattle.radio_world.specs.radio_model.specs.declared.deed.Deed.{Deed}
use Rattle.radio_world.specs.radio_model.specs.declared.deed.Deed.TheVariants.{Nothing, Meets, Fires, FiresBoth, Breaks, Cancels}
use Rattle.radio_world.specs.radio_model.specs.declared.fate.Fate.{Fate}
use Rattle.radio_world.specs.radio_model.specs.declared.fate.Fate.TheVariants.{Delivered, Lost, Repeated, CutOff, Changed}
use Rattle.radio_world.specs.radio_model.specs.Fates.{changed, meets, comes_of, first_can_meet}
use Rattle.radio_world.specs.radio_model.specs.Words.{first_meets, meets_on, passing, deed_of}
use Rattle.radio_world.specs.capture.specs.Pdus.{Pdu}
use Rattle.host_laws.specs.world_model.specs.Machines.{LinkEvent, Up, Down, News, Linked, Failed, Heard, TimerFired, Cancelled, Opening, Upper}
use Rattle.host_laws.specs.world_model.specs.Talks.{Talk, Told, Said, Unsent, Met, Done}
use Rattle.host_laws.specs.world_model.specs.Carriages.{End, Carriage, Motion, Saying, Departure, Arrival, Telling, DoesMotion, landed, MeetsFate, Doing, Moved, Deeds, Misses, Rises, Falls, Opens, Closes, ActsOn, finds, told, owing, IsDone, Carries, first_carriage}
use Rattle.host_laws.specs.turn_laws.proofs.Recounting.{IsOfScript}
use Rattle.host_laws.specs.Calm.{pdus_in}

-- ---- a PDU

-- it is octets, and on the signalling channel a command
abbrev pub IsTame : List ℕ → Type 0
IsTame pdu = IsOctets pdu × (channel_of pdu ≡ 0x0001 → length (answers (drop 4 pdu)) ≡ 1)

abbrev pub AreTame : List (List ℕ) → Type 0
AreTame pdus = AllByRecursion IsTame pdus

both_tame : (one two : List (List ℕ)) → AreTame one → AreTame two → AreTame (one ++ two)
both_tame [] two all other = other
both_tame (pdu ∷ one) two all other = (all.0, both_tame one two all.1 other)

abbrev pub IsTamePdu : Pdu → Type 0
IsTamePdu pdu = IsTame pdu.octets

abbrev pub IsTameTalk : Talk → Type 0
IsTameTalk one = AllByRecursion IsTamePdu (pdus_in one)

abbrev pub AreTameTalks : List Talk → Type 0
AreTameTalks talk = AllByRecursion IsTameTalk talk

both_talks : (one two : List Talk) → AreTameTalks one → AreTameTalks two → AreTameTalks (one ++ two)
both_talks [] two all other = other
both_talks (talk ∷ one) two all other = (all.0, both_talks one two all.1 other)

one_more : (talk : List Talk) (one : Talk) → AreTameTalks talk → IsTameTalk one → AreTameTalks (talk ++ one ∷ [])
one_more talk one all now = both_talks talk (one ∷ []) all (now, tt)

unsent_tame : (pdus : List (List ℕ)) → AreTame pdus → AreTameTalks (map Unsent pdus)
unsent_tame [] all = tt
unsent_tame (pdu ∷ pdus) all = ((all.0, tt), unsent_tame pdus all.1)

-- ---- a machine

abbrev pub IsTameNews : News → Type 0
IsTameNews (Linked event) = Unit {0}
IsTameNews (Failed status) = Unit {0}
IsTameNews (Heard pdu) = IsTame pdu
IsTameNews TimerFired = Unit {0}
IsTameNews Cancelled = Unit {0}
IsTameNews (Opening name) = Unit {0}

-- what holds of a machine at first and on with tame news: what it says is tame, and it looks for no check word in a command
pub record Tames {S G : Type 0} (U : Upper S G) (Q : S → Type 0) : Type 0 where
  pub first : Q U.first
  pub hears : (gifts : List G) (news : News) (s : S) → IsTameNews news → Q s → Q (U.hear gifts news s)
  pub says : (s t : S) (pdu : List ℕ) → U.next s ≡ Some (pdu, t) → Q s → Q t × IsTame pdu
  pub unchecked : (s : S) → Q s → U.has_check s 0x0001 ≡ false

-- ---- one host

pub record TameEnd {S : Type 0} (Q : S → Type 0) (e : End S) : Type 0 where
  pub upper : Q e.upper
  pub waiting : AreTame e.waiting
  pub queue : AreTame e.queue
  pub coming : AreTame e.coming
  pub talk : AreTameTalks e.talk

landed_tame : (owed : List LinkEvent) (queue : List (List ℕ)) (pdu : List ℕ) → AreTame queue → IsTame pdu → AreTame (landed owed queue pdu)
landed_tame [] queue pdu all now = both_tame queue (pdu ∷ []) all (now, tt)
landed_tame (event ∷ owed) queue pdu all now = all

plain_news : (news : News) → IsTameNews news → IsTameTalk (Told news)
plain_news (Linked event) tame = tt
plain_news (Failed status) tame = tt
plain_news (Heard pdu) tame = (tame, tt)
plain_news TimerFired tame = tt
plain_news Cancelled tame = tt
plain_news (Opening name) tame = tt

told_tame : {S G : Type 0} (U : Upper S G) (Q : S → Type 0) (gifts : List G) (news : News) (e : End S) → Tames U Q → IsTameNews news → TameEnd Q e → TameEnd Q (told U gifts news e)
told_tame U Q gifts news e tames tame so = record { upper = tames.hears gifts news e.upper tame so.upper; waiting = so.waiting; queue = so.queue; coming = so.coming; talk = one_more e.talk (Told news) so.talk (plain_news news tame) }

fired_tame : {S G : Type 0} (U : Upper S G) (Q : S → Type 0) (gifts : List G) (armed : Bool) (e : End S) → Tames U Q → TameEnd Q e → TameEnd Q (if armed then told U gifts TimerFired e else e)
fired_tame U Q gifts true e tames so = told_tame U Q gifts TimerFired e tames tt so
fired_tame U Q gifts false e tames so = so

owing_tame : {S : Type 0} (Q : S → Type 0) (event : LinkEvent) (e : End S) → TameEnd Q e → TameEnd Q (owing event e)
owing_tame Q Up e so = record { upper = so.upper; waiting = so.waiting; queue = so.queue; coming = so.coming; talk = so.talk }
owing_tame Q (Down reason) e so = record { upper = so.upper; waiting = so.waiting; queue = tt; coming = so.coming; talk = so.talk }

motion_tame : {S G : Type 0} (U : Upper S G) (Q : S → Type 0) (motion : Motion) (e e' : End S) → Tames U Q → DoesMotion U motion e e' → TameEnd Q e → TameEnd Q e'
motion_tame U Q (Saying pdu) e e' tames does so =
    let said = tames.says e.upper does.after pdu does.next so.upper in
    rw does.is (record { upper = said.0; waiting = both_tame e.waiting (pdu ∷ []) so.waiting (said.1, tt); queue = so.queue; coming = so.coming; talk = so.talk })
motion_tame U Q (Departure pdu) e e' tames does so =
    let waits : AreTame (pdu ∷ does.left) = subst AreTame does.first so.waiting in
    rw does.is (record { upper = so.upper; waiting = waits.1; queue = landed_tame e.owed e.queue pdu so.queue waits.0; coming = so.coming; talk = one_more e.talk (Said pdu) so.talk (waits.0, tt) })
motion_tame U Q (Arrival pdu) e e' tames does so =
    let comes : AreTame (pdu ∷ []) = subst AreTame does.first so.coming in
    rw does.is (record { upper = tames.hears does.answers (Heard pdu) e.upper comes.0 so.upper; waiting = so.waiting; queue = so.queue; coming = tt; talk = one_more e.talk (Told (Heard pdu)) so.talk (comes.0, tt) })
motion_tame U Q (Telling event) e e' tames does so =
    rw does.is (record {
      upper = tames.hears does.answers (Linked event) e.upper tt so.upper;
      waiting = tt;
      queue = so.queue;
      coming = so.coming;
      talk = both_talks e.talk (map Unsent e.waiting ++ Told (Linked event) ∷ []) so.talk (both_talks (map Unsent e.waiting) (Told (Linked event) ∷ []) (unsent_tame e.waiting so.waiting) (tt, tt));
    })

-- ---- a frame meets its fate

-- a change behind the header leaves the channel
set_same : (at value : ℕ) (xs : List ℕ) → 4 ≤ at → channel_of (slice_set xs at value) ≡ channel_of xs
set_same zero value xs far = absurd (omega arith)
set_same (suc zero) value xs far = absurd (omega arith)
set_same (suc (suc zero)) value xs far = absurd (omega arith)
set_same (suc (suc (suc zero))) value xs far = absurd (omega arith)
set_same (suc (suc (suc (suc at)))) value [] far = refl
set_same (suc (suc (suc (suc at)))) value (a ∷ []) far = refl
set_same (suc (suc (suc (suc at)))) value (a ∷ b ∷ []) far = refl
set_same (suc (suc (suc (suc at)))) value (a ∷ b ∷ c ∷ []) far = refl
set_same (suc (suc (suc (suc at)))) value (a ∷ b ∷ c ∷ d ∷ xs) far = refl

pub changed-channel : (at mask : ℕ) (frame : List ℕ) → 4 ≤ at → channel_of (changed at mask frame) ≡ channel_of frame
changed-channel at mask frame far =
    let one = slice_set frame at (bit_xor (slice_index frame at) (mask / 256)) in
    set_same (at + 1) (bit_xor (slice_index frame (at + 1)) (mask % 256)) one (omega (arith, far)) ∙ set_same at (bit_xor (slice_index frame at) (mask / 256)) frame far

cons_octets : (x : ℕ) (xs : List ℕ) → x < 256 → IsOctets xs → IsOctets (x ∷ xs)
cons_octets x xs small all zero = small
cons_octets x xs small all (suc i) = all i

set_octets : (xs : List ℕ) (at value : ℕ) → IsOctets xs → value < 256 → IsOctets (slice_set xs at value)
set_octets [] zero value all small = all
set_octets [] (suc at) value all small = all
set_octets (x ∷ xs) zero value all small = cons_octets value xs small (λ i. all (suc i))
set_octets (x ∷ xs) (suc at) value all small = cons_octets x (slice_set xs at value) (all 0) (set_octets xs at value (λ i. all (suc i)) small)

-- and octets are octets
changed_octets : (at mask : ℕ) (frame : List ℕ) → mask ≤ 65535 → IsOctets frame → IsOctets (changed at mask frame)
changed_octets at mask frame low all =
    let one = slice_set frame at (bit_xor (slice_index frame at) (mask / 256)) in
    set_octets one (at + 1) (bit_xor (slice_index frame (at + 1)) (mask % 256))
    (set_octets frame at (bit_xor (slice_index frame at) (mask / 256)) all (xor_of_8 (slice_index frame at) (mask / 256) (all at) (div_below mask 256 256 (omega arith) (omega (arith, low)))))
    (xor_of_8 (slice_index frame (at + 1)) (mask % 256) (all (at + 1)) (mod_below mask 256 (omega arith)))

-- behind the header, in two octets
abbrev pub IsBehind : Fate → Type 0
IsBehind (Changed at mask) = (4 ≤ at) × (mask ≤ 65535)
IsBehind fate = Unit {0}

stays_tame : (size : ℕ) (fate : Fate) (checked : Bool) (frame : List ℕ) (rest : List (List ℕ)) → AreTame (frame ∷ rest) → AreTame ((meets size fate checked frame).stays ++ rest)
stays_tame size Delivered checked frame rest all = all.1
stays_tame size Lost checked frame rest all = all.1
stays_tame size Repeated checked frame rest all = all
stays_tame size (CutOff count) checked frame rest all = all.1
stays_tame size (Changed at mask) true frame rest all = all.1
stays_tame size (Changed at mask) false frame rest all = all.1

either_tame : (b : Bool) (one two : List (List ℕ)) → AreTame one → AreTame two → AreTame (if b then one else two)
either_tame true one two all other = all
either_tame false one two all other = other

comes_tame : (size : ℕ) (fate : Fate) (checked : Bool) (frame : List ℕ) → IsBehind fate → (checked ≡ true → channel_of frame ≢ 0x0001) → IsTame frame → AreTame (comes_of size fate checked frame)
comes_tame size Delivered checked frame behind apart tame = (tame, tt)
comes_tame size Lost checked frame behind apart tame = tt
comes_tame size Repeated checked frame behind apart tame = (tame, tt)
comes_tame size (CutOff count) checked frame behind apart tame = either_tame (nat_lt count (length (frame_pieces size frame))) [] (frame ∷ []) tt (tame, tt)
comes_tame size (Changed at mask) true frame behind apart tame = ((changed_octets at mask frame behind.1 tame.0, λ is. absurd (apart refl (sym (changed-channel at mask frame behind.0) ∙ is))), tt)
comes_tame size (Changed at mask) false frame behind apart tame = tt

meets_tame : {S T G H : Type 0} (U : Upper S G) (V : Upper T H) (Q : S → Type 0) (R : T → Type 0) (size : ℕ) (fate : Fate) (e : End S) (f : End T) (e' : End S) (f' : End T) → Tames V R → MeetsFate V size fate e f e' f' → IsBehind fate → TameEnd Q e → TameEnd R f
    → TameEnd Q e' × TameEnd R f'
meets_tame U V Q R size fate e f e' f' tames meeting behind one other =
    let air : AreTame (meeting.frame ∷ meeting.rest) = subst AreTame meeting.is one.queue in (
      rw meeting.one_is (record { upper = one.upper; waiting = one.waiting; queue = stays_tame size fate meeting.checked meeting.frame meeting.rest air; coming = one.coming; talk = one_more e.talk (Met fate meeting.checked) one.talk tt }),
      rw meeting.other_is (record { upper = other.upper; waiting = other.waiting; queue = other.queue; coming = comes_tame size fate meeting.checked meeting.frame behind (apart meeting.checked meeting.frame meeting.checked_is) air.0; talk = other.talk }),
    )
  where
    apart : (checked : Bool) (frame : List ℕ) → checked ≡ V.has_check f.upper (channel_of frame) → checked ≡ true → channel_of frame ≡ 0x0001 → ⊥
    apart checked frame is looks here =
        let never : true ≡ false = sym looks ∙ (is ∙ (ap (V.has_check f.upper) here ∙ tames.unchecked f.upper other.upper)) in cc

-- ---- words

abbrev pub IsBehindDeed : Deed → Type 0
IsBehindDeed Nothing = Unit {0}
IsBehindDeed (Meets way fate) = IsBehind fate
IsBehindDeed (Fires side) = Unit {0}
IsBehindDeed FiresBoth = Unit {0}
IsBehindDeed Breaks = Unit {0}
IsBehindDeed Cancels = Unit {0}

first_behind : (way : Way) (fate : Fate) (frames others : List (List ℕ)) → IsBehind fate → IsBehindDeed (first_meets way fate frames others)
first_behind way fate frames others behind = by (first_can_meet fate frames (length others))
  where
    by : (can : Bool) → IsBehindDeed (if can then Meets way fate else Nothing)
    by true = behind
    by false = tt

on_behind : (way : Way) (fate : Fate) (ab ba : List (List ℕ)) → IsBehind fate → IsBehindDeed (meets_on way fate ab ba)
on_behind Ab fate ab ba behind = first_behind Ab fate ab ba behind
on_behind Ba fate ab ba behind = first_behind Ba fate ba ab behind

passing_behind : (on : Option Way) (ab ba : List (List ℕ)) → IsBehindDeed (passing on ab ba)
passing_behind None ab ba = tt
passing_behind (Some way) ab ba = on_behind way Delivered ab ba tt

pub word-behind : (word : Word) (served : Option Way) (ab ba : List (List ℕ)) (linked : Bool) → IsWord word → IsBehindDeed (deed_of word served ab ba linked)
word-behind Pass served ab ba linked is = passing_behind (way_served served ab ba) ab ba
word-behind (Lose way) served ab ba linked is = on_behind way Lost ab ba tt
word-behind (Repeat way) served ab ba linked is = on_behind way Repeated ab ba tt
word-behind (Damage way place mask) served ab ba linked is = on_behind way (Changed place mask) ab ba (is.0, is.3)
word-behind (Cut way packets) served ab ba linked is = on_behind way (CutOff packets) ab ba tt
word-behind (Timer side) served ab ba linked is = tt
word-behind Drop served ab ba linked is = by linked
  where
    by : (up : Bool) → IsBehindDeed (if up then Breaks else Nothing)
    by true = tt
    by false = tt
word-behind Cancel served ab ba linked is = tt

-- ---- both hosts

pub record TameBoth {S T : Type 0} (Q : S → Type 0) (R : T → Type 0) (c : Carriage S T) : Type 0 where
  pub a : TameEnd Q c.a
  pub b : TameEnd R c.b

module _ {S T G H : Type 0} (U : Upper S G) (V : Upper T H) (Q : S → Type 0) (R : T → Type 0) (one : Tames U Q) (other : Tames V R) where
  deed_tame : (deed : Deed) (old new : Carriage S T) → IsBehindDeed deed → ActsOn U V deed old new → TameBoth Q R old → TameBoth Q R new
  deed_tame Nothing old new behind acts both = absurd acts
  deed_tame (Meets Ab fate) old new behind (e, f, meets, same) both =
      let now = meets_tame U V Q R old.size fate old.a old.b e f other meets behind both.a both.b in rw same (record { a = now.0; b = now.1 })
  deed_tame (Meets Ba fate) old new behind (e, f, meets, same) both =
      let now = meets_tame V U R Q old.size fate old.b old.a f e one meets behind both.b both.a in rw same (record { a = now.1; b = now.0 })
  deed_tame (Fires A) old new behind (armed, g, same) both = rw same (record { a = told_tame U Q g TimerFired old.a one tt both.a; b = both.b })
  deed_tame (Fires B) old new behind (armed, h, same) both = rw same (record { a = both.a; b = told_tame V R h TimerFired old.b other tt both.b })
  deed_tame FiresBoth old new behind (armed, g, h, same) both =
      rw same (record { a = fired_tame U Q g (U.armed old.a.upper) old.a one both.a; b = fired_tame V R h (V.armed old.b.upper) old.b other both.b })
  deed_tame Breaks old new behind same both = rw same (record { a = owing_tame Q (Down 0x08) old.a both.a; b = owing_tame R (Down 0x08) old.b both.b })
  deed_tame Cancels old new behind (may, g, same) both = rw same (record { a = told_tame U Q g Cancelled old.a one tt both.a; b = both.b })

  pub done-tame : (doing : Doing) (old new : Carriage S T) → IsOfScript doing → IsDone U V doing old new → TameBoth Q R old → TameBoth Q R new
  done-tame (Moved A motion) old new script (e, does, same) both = rw same (record { a = motion_tame U Q motion old.a e one does both.a; b = both.b })
  done-tame (Moved B motion) old new script (f, does, same) both = rw same (record { a = both.a; b = motion_tame V R motion old.b f other does both.b })
  done-tame (Deeds word) old new script (rest, acts) both = deed_tame (finds word old) old new (word-behind word old.served old.a.queue old.b.queue old.link script) acts both
  done-tame (Misses word) old new script (rest, nothing, same) both = rw same both
  done-tame Rises old new script (down, idle, going, wants, same) both = rw same (record { a = owing_tame Q Up old.a both.a; b = owing_tame R Up old.b both.b })
  done-tame (Falls A) old new script (up, idle, leaves, same) both = rw same (record { a = owing_tame Q (Down 0x16) old.a both.a; b = owing_tame R (Down 0x13) old.b both.b })
  done-tame (Falls B) old new script (up, idle, leaves, same) both = rw same (record { a = owing_tame Q (Down 0x13) old.a both.a; b = owing_tame R (Down 0x16) old.b both.b })
  done-tame (Opens name) old new script (down, idle, ready, next, g, same) both = rw same (record { a = told_tame U Q g (Opening name) old.a one tt both.a; b = both.b })
  done-tame (Closes outcome) old new script (down, idle_a, idle_b, going, ready, is, same) both =
      let a = both.a in rw same (record { a = record { upper = a.upper; waiting = a.waiting; queue = a.queue; coming = a.coming; talk = one_more old.a.talk (Done outcome) a.talk tt }; b = both.b })

  carries_tame : (doings : List Doing) (old new : Carriage S T) → AllByRecursion IsOfScript doings → Carries U V doings old new → TameBoth Q R old → TameBoth Q R new
  carries_tame [] old new script same both = rw same both
  carries_tame (doing ∷ doings) old new script (mid, does, runs) both = carries_tame doings mid new script.1 runs (done-tame doing old mid script.0 does both)

  pub all_tame : (size : ℕ) (names : List (List ℕ)) (doings : List Doing) (c : Carriage S T) → AllByRecursion IsOfScript doings → Carries U V doings (first_carriage U V size names) c → TameBoth Q R c
  all_tame size names doings c script runs =
      carries_tame doings (first_carriage U V size names) c script runs
      (record { a = record { upper = one.first; waiting = tt; queue = tt; coming = tt; talk = tt }; b = record { upper = other.first; waiting = tt; queue = tt; coming = tt; talk = tt } })
