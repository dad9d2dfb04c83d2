-- A host in code reacts as its station does, and hears what its octets tell.
use Rattle.std.proofs.Common.{◌≡◌, ◌≢◌, ◌∙◌, ℕ, Bool, true, false, List, [], ◌∷◌, ◌++◌, Option, Some, None, refl, sym, ap, subst, append_assoc, if◌then◌else◌}
use Rattle.std.specs.List.{AllByRecursion}
use Rattle.std.proofs.lemmas.List.{append-nil}
use Rattle.h4_framing.specs.Packets.{Packet, Command, Acl, Sync, Event, spelling, spellings, IsPacket}
use Rattle.h4_framing.specs.Stream.{IsUnfinished, GoesWrong}
use Rattle.h4_framing.specs.Framing.{Framing}
use Rattle.h4_framing.proofs.SpellingLemmas.{one_spelling}
use Rattle.h4_framing.proofs.ReadingLemmas.{no_wrong_nothing}
use Rattle.h4_framing.proofs.ExtentLemmas.{wrong_more, packet_right}
use Rattle.shelf_model.specs.acl_fragments.specs.Pieces.{starts}
use Rattle.shelf_model.specs.acl_fragments.specs.Answers as joined
use Rattle.bt_base.specs.declared.settings.Settings.{Settings}
use Rattle.push_terms.specs.declared.word.Side.{Side}
use Rattle.host_link.specs.Lines.{Line}
use Rattle.host_link.specs.Hearing.{PlainNews, fault_of, news_of, heard}
use Rattle.shelf_model.specs.world_model.specs.Machines.{LinkEvent, Up, Down, News, Upper}
use Rattle.shelf_model.specs.world_model.specs.Stations.{Station, longest_pdu, is_handle, whole_in, gives, holds, hears_each, upper_told, event_in, hears_answer, hears_piece, told}
use Rattle.shelf_model.specs.station_laws.specs.Coming.{news_of_link, news_of_pdus}
use Rattle.shelf_model.specs.station_laws.proofs.Answering.{answers_are_heard}
use Rattle.shelf_model.specs.station_laws.proofs.Hearing.{pieces_are_heard}
use Rattle.shelf_model.specs.host_model.specs.Circumstances.{Circumstance}
use Rattle.shelf_model.specs.host_model.specs.Profiles.{Profile}
use Rattle.shelf_model.specs.host_model.specs.Hosts.{Host, hear}
use Rattle.shelf_model.specs.host_model.specs.Settings.{SetHost, set_to, with_settings}
use Rattle.radio_world.specs.Hosts.{Asking, answering, Coming, Part, Told, coming_packet, hears_coming, MayBeHeard, MakesEfforts}
use Rattle.radio_world.specs.Hosts as world
use Rattle.line_laws.specs.Seeing.{seen, IsSeen}
use Rattle.line_laws.proofs.Seeing.{seen_station}
use Rattle.line_laws.proofs.Coming.{heard_is_seen, taken_is_seen}
use Rattle.bt_host.specs.declared.feed_refusal.FeedRefusal.{FeedRefusal}
use Rattle.bt_host.specs.declared.feed_refusal.FeedRefusal.TheVariants.{Transport, CommandFailed, BadBuffers, NoMemory}
use Rattle.bt_host.specs.Refusals.{acl_limit, BeginsRefused, IsRefused}
use Rattle.bt_host.specs.Pieces.{IsTaken, place_behind}
use Rattle.bt_host.specs.Calls.{JoinAnswers}
use Rattle.bt_host.specs.Uppers.{asking, told_of, hears_told}
use Rattle.bt_host.specs.Stacks.{Stacked, Standing, standing, Reacts, with_host, after_packet, Moment, GoesOn, HearsNews, Hears, HearsAll}
use Rattle.bt_host.specs.Shells.{Takes, Stops}
use Rattle.bt_host.specs.Playing.{set_host, playing}
use Rattle.bt_host.proofs.Striving.{Pages, all_efforts, all_go}

-- ---- octets that are of one packet

nothing_behind : (xs ys : List ℕ) → [] ≡ xs ++ ys → (xs ≡ []) × (ys ≡ [])
nothing_behind [] ys is = (refl, sym is)
nothing_behind (x ∷ xs) ys is = absurd cc

some_spelled : (p : Packet) (xs : List ℕ) → spelling p ++ xs ≢ []
some_spelled (Command opcode params) xs is = absurd cc
some_spelled (Acl word octets) xs is = absurd cc
some_spelled (Sync word octets) xs is = absurd cc
some_spelled (Event code params) xs is = absurd cc

none_spelled : (packets : List Packet) → spellings packets ≡ [] → packets ≡ []
none_spelled [] is = refl
none_spelled (p ∷ packets) is = absurd (some_spelled p (spellings packets) is)

-- no packet is whole, or that one alone
pub record OfOne (p : Packet) (packets : List Packet) (rest left : List ℕ) : Type 0 where
  pub packets_are : packets ≡ p ∷ []
  pub rest_is : rest ≡ []
  pub left_is : left ≡ []

one_of : (limit : ℕ) (p : Packet) (packets : List Packet) (rest left : List ℕ) → IsPacket limit p → AllByRecursion (IsPacket limit) packets → spelling p ≡ (spellings packets ++ rest) ++ left → packets ≢ [] → OfOne p packets rest left
one_of limit p [] rest left is each spelled some = absurd (some refl)
one_of limit p (first ∷ packets) rest left is each spelled some =
    let whole : spelling p ++ [] ≡ spelling first ++ ((spellings packets ++ rest) ++ left) =
    append-nil (spelling p) ∙ spelled ∙ ap (λ xs. xs ++ left) (append_assoc (spelling first) (spellings packets) rest) ∙ append_assoc (spelling first) (spellings packets ++ rest) left in
    let same = one_spelling limit p first [] ((spellings packets ++ rest) ++ left) is each.0 whole in
    let behind = nothing_behind (spellings packets ++ rest) left same.1 in
    let between = nothing_behind (spellings packets) rest (sym behind.0) in
    record { packets_are = ap (λ ps. first ∷ ps) (none_spelled packets between.0) ∙ ap (λ q. q ∷ []) (sym same.0); rest_is = between.1; left_is = behind.1 }

-- a part of a packet is no packets, where some is left of it
pub none_whole : (limit : ℕ) (p : Packet) (packets : List Packet) (rest left : List ℕ) → IsPacket limit p → AllByRecursion (IsPacket limit) packets → spelling p ≡ (spellings packets ++ rest) ++ left → left ≢ [] → packets ≡ []
none_whole limit p [] rest left is each spelled some = refl
none_whole limit p (first ∷ packets) rest left is each spelled some = absurd (some (one_of limit p (first ∷ packets) rest left is each spelled (λ none. absurd cc)).left_is)

-- a packet is no part of a packet
not_unfinished : (limit : ℕ) (p : Packet) → IsPacket limit p → IsUnfinished limit (spelling p) → ⊥
not_unfinished limit p is (packet, (more, whole, some, split)) = some (one_spelling limit p packet more [] is whole (split ∙ sym (append-nil (spelling packet)))).1

-- the whole of a packet is that packet
pub one_whole : (limit : ℕ) (p : Packet) (packets : List Packet) (rest : List ℕ) → IsPacket limit p → AllByRecursion (IsPacket limit) packets → spelling p ≡ spellings packets ++ rest → IsUnfinished limit rest → (packets ≡ p ∷ []) × (rest ≡ [])
one_whole limit p [] rest is each spelled unfinished = absurd (not_unfinished limit p is (subst (IsUnfinished limit) (sym spelled) unfinished))
one_whole limit p (first ∷ packets) rest is each spelled unfinished =
    let one = one_of limit p (first ∷ packets) rest [] is each (spelled ∙ sym (append-nil (spellings (first ∷ packets) ++ rest))) (λ none. absurd cc) in
    (one.packets_are, one.rest_is)

-- ---- nothing of a packet is refused, where nothing is wrong with it

none_some : {X : Type 0} (found : Option X) (x : X) → found ≡ None → found ≡ Some x → ⊥
none_some None x none some = absurd cc
none_some (Some y) x none some = absurd cc

nothing_refused : (line : Line) (place : ℕ) (refusal : FeedRefusal) → IsRefused line place [] refusal → ⊥
nothing_refused line place (Transport refusal at) refused = no_wrong_nothing acl_limit refusal refused.0 refused.1
nothing_refused line place (CommandFailed opcode status at) refused = some_spelled refused.packet refused.more (sym refused.octets_are)
nothing_refused line place (BadBuffers size count at) refused = some_spelled refused.packet refused.more (sym refused.octets_are)
nothing_refused line place NoMemory refused = refused

no_refusal : (p : Packet) (line : Line) (place : ℕ) (rest left : List ℕ) (refusal : FeedRefusal) → IsPacket acl_limit p → (left ≡ [] → fault_of p line ≡ None) → spelling p ≡ rest ++ left → BeginsRefused line place rest refusal → ⊥
no_refusal p line place rest left refusal packet sound spelled begins =
    let whole : spelling p ++ [] ≡ spelling begins.packet ++ (begins.more ++ left) =
    append-nil (spelling p) ∙ spelled ∙ ap (λ xs. xs ++ left) begins.octets_are ∙ append_assoc (spelling begins.packet) begins.more left in
    let one = one_spelling acl_limit p begins.packet [] (begins.more ++ left) packet begins.whole whole in
    let behind = nothing_behind begins.more left one.1 in
    none_some (fault_of p line) begins.refused.fault (sound behind.1) (ap (λ (q : Packet). fault_of q line) one.0 ∙ begins.refused.at_fault)

pub stops_none : (p : Packet) (packets : List Packet) (line : Line) (place : ℕ) (rest left : List ℕ) (refusal : FeedRefusal) → IsPacket acl_limit p → AllByRecursion (IsPacket acl_limit) packets
    → spelling p ≡ (spellings packets ++ rest) ++ left → (packets ≡ [] → left ≡ [] → fault_of p line ≡ None) → IsRefused line place rest refusal → ⊥
stops_none p [] line place rest left (Transport refusal at) packet each spelled sound refused =
    packet_right acl_limit p [] refusal refused.0 packet (subst (λ xs. GoesWrong acl_limit xs refusal refused.0) (sym spelled ∙ sym (append-nil (spelling p))) (wrong_more acl_limit rest left refusal refused.0 refused.1))
stops_none p [] line place rest left (CommandFailed opcode status at) packet each spelled sound refused = no_refusal p line place rest left (CommandFailed opcode status at) packet (sound refl) spelled refused
stops_none p [] line place rest left (BadBuffers size count at) packet each spelled sound refused = no_refusal p line place rest left (BadBuffers size count at) packet (sound refl) spelled refused
stops_none p [] line place rest left NoMemory packet each spelled sound refused = refused
stops_none p (first ∷ packets) line place rest left refusal packet each spelled sound refused =
    let one = one_of acl_limit p (first ∷ packets) rest left packet each spelled (λ none. absurd cc) in
    nothing_refused line place refusal (subst (λ xs. IsRefused line place xs refusal) one.rest_is refused)

-- ---- what comes in

told_link : {S : Type 0} (profile : Settings → Profile S) (settings : Settings) (all : List Circumstance) (host : Host S) (event : Option LinkEvent)
    → set_to settings (hears_told (profile settings) all (told_of (news_of_link event)) host) ≡ upper_told (with_settings profile) all event (set_to settings host)
told_link profile settings all host None = refl
told_link profile settings all host (Some Up) = refl
told_link profile settings all host (Some (Down reason)) = refl

abbrev ToldPdus : {S : Type 0} (profile : Settings → Profile S) (settings : Settings) (all : List Circumstance) (host : Host S) → List (List ℕ) → Type 0
ToldPdus profile settings all host pdus = set_to settings (hears_told (profile settings) all (told_of (news_of_pdus pdus)) host) ≡ hears_each (with_settings profile) all pdus (set_to settings host)

told_whole : {S : Type 0} (profile : Settings → Profile S) (settings : Settings) (all : List Circumstance) (host : Host S) (found : joined.Answer) → ToldPdus profile settings all host (whole_in found)
told_whole profile settings all host (joined.Pdu channel octets) = refl
told_whole profile settings all host joined.More = refl
told_whole profile settings all host (joined.Dropped reason) = refl

told_if : {S : Type 0} (profile : Settings → Profile S) (settings : Settings) (all : List Circumstance) (host : Host S) (test : Bool) (found : joined.Answer) → ToldPdus profile settings all host (if test then whole_in found else [])
told_if profile settings all host true found = told_whole profile settings all host found
told_if profile settings all host false found = refl

upper_if : {S G : Type 0} (U : Upper S G) (all : List G) (test : Bool) (pdus : List (List ℕ)) (held : List ℕ) (at : Station S)
    → (if test then record at { upper = hears_each U all pdus at.upper; joining = held } else at).upper ≡ hears_each U all (if test then pdus else []) at.upper
upper_if U all true pdus held at = refl
upper_if U all false pdus held at = refl

-- what its octets tell is said of any machine above
pub seen_again : {S T : Type 0} {side : Side} (upper : S) (other : T) (line : Line) → IsSeen side upper line → IsSeen side other line
seen_again upper other line is = record {
  host = is.host;
  octets = is.octets;
  sends = record { out = is.sends.out; waiting = is.sends.waiting; pieces = is.sends.pieces; link = is.sends.link; size = is.sends.size };
}

module _ {S : Type 0} (profile : Settings → Profile S) (side : Side) where
  abbrev U : Upper (SetHost S) Circumstance
  U = with_settings profile

  -- a packet that may come is heard as the station hears it
  pub record HeardAs (coming : Coming) (settings : Settings) (host : Host S) (line : Line) (all : List Circumstance) : Type 0 where
    pub fault : fault_of (coming_packet side coming) line ≡ None
    pub is_seen : IsSeen side (set_to settings (hears_told (profile settings) all (told_of (news_of (coming_packet side coming) line)) host)) (heard (coming_packet side coming) line)
    pub same : seen (set_to settings (hears_told (profile settings) all (told_of (news_of (coming_packet side coming) line)) host)) (heard (coming_packet side coming) line)
        ≡ hears_coming U side coming all (seen (set_to settings host) line)

  heard_with : (coming : Coming) (settings : Settings) (host : Host S) (line : Line) (all : List Circumstance) (after : Station (SetHost S)) → fault_of (coming_packet side coming) line ≡ None
      → set_to settings (hears_told (profile settings) all (told_of (news_of (coming_packet side coming) line)) host) ≡ after.upper
      → IsSeen side after.upper (heard (coming_packet side coming) line) → seen after.upper (heard (coming_packet side coming) line) ≡ after
      → after ≡ hears_coming U side coming all (seen (set_to settings host) line) → HeardAs coming settings host line all
  heard_with coming settings host line all after fault upper is_seen same is = record {
    fault = fault;
    is_seen = subst (λ (s : SetHost S). IsSeen side s (heard (coming_packet side coming) line)) (sym upper) is_seen;
    same = ap (λ (s : SetHost S). seen s (heard (coming_packet side coming) line)) upper ∙ same ∙ is;
  }

  pub heard_as : (coming : Coming) (settings : Settings) (host : Host S) (line : Line) (all : List Circumstance) → IsSeen side (set_to settings host) line → MayBeHeard (seen (set_to settings host) line) coming → HeardAs coming settings host line all
  heard_as (Told answer) settings host line all is may =
      let at = seen (set_to settings host) line in
      let hears = answers_are_heard U side 0 answer line at (seen_station side (set_to settings host) line is) may in
      let there = (heard_is_seen U side all (set_to settings host) line is).0 answer may in
      heard_with (Told answer) settings host line all (hears_answer U all side answer at) hears.fault
      (ap (λ (n : PlainNews). set_to settings (hears_told (profile settings) all (told_of n) host)) hears.news ∙ told_link profile settings all host (event_in answer at)) there.is_seen there.station_is refl
  heard_as (Part handle piece) settings host line all is may =
      let at = seen (set_to settings host) line in
      let hears = pieces_are_heard U side 0 handle piece line at (seen_station side (set_to settings host) line is) may in
      let there = (heard_is_seen U side all (set_to settings host) line is).1 handle piece may in
      heard_with (Part handle piece) settings host line all (hears_piece U all handle piece at) hears.fault
      (ap (λ (n : PlainNews). set_to settings (hears_told (profile settings) all (told_of n) host)) hears.news
      ∙ told_if profile settings all host (is_handle handle line.link) (joined.answer longest_pdu line.joining (starts piece.boundary) piece.octets)
      ∙ sym (upper_if U all (is_handle handle line.link) (gives longest_pdu line.joining piece) (holds longest_pdu line.joining piece) at)) there.is_seen there.station_is refl

-- ---- it reacts

module _ {E S P : Type 0} (profile : Settings → Profile S) (Answers : P → List Circumstance → P → Type 0) (pushing : E → P → List Circumstance → S) (side : Side) (paged : List ℕ) (pages : Pages profile side paged) where
  abbrev V : Upper (SetHost S) Circumstance
  V = with_settings profile

  -- whatever its port answers from now on, its octets are those of its orders
  abbrev pub AllSeen : P → Stacked E → Type 0
  AllSeen port stack = (rest : List Circumstance) → IsSeen side (set_host pushing port stack rest) stack.line

  abbrev pub ReactsAs : (List Circumstance → Station (SetHost S) → Station (SetHost S)) → (old new : Stacked E) → (port port' : P) → Type 0
  ReactsAs change old new port port' = world.Reacts V side Answers change (playing pushing port old) (playing pushing port' new) port port'

  -- a change that comes, as code and station see it, whatever the port answers
  record Changes (settings : Settings) (change : List Circumstance → Station (SetHost S) → Station (SetHost S)) (before : List Circumstance → Standing S) (old : Asking (SetHost S) Circumstance) (line : Line) : Type 0 where
    line_is : (rest : List Circumstance) → (before rest).line ≡ line
    paged_is : (rest : List Circumstance) → (before rest).paged ≡ paged
    is_seen : (rest : List Circumstance) → IsSeen side (set_to settings (before rest).host) (before rest).line
    same : (rest : List Circumstance) → seen (set_to settings (before rest).host) (before rest).line ≡ change rest (answering rest old)

  reacts_by : (settings : Settings) (change : List Circumstance → Station (SetHost S) → Station (SetHost S)) (before : List Circumstance → Standing S) (old : Asking (SetHost S) Circumstance) (line : Line) (new : Stacked E) (port port' : P)
      → Changes settings change before old line → new.upper.machine.settings ≡ settings → Reacts (profile settings) Answers before (standing pushing port' new) port port'
      → world.Reacts V side Answers change old (playing pushing port' new) port port' × AllSeen port' new
  reacts_by settings change before old line new port port' changes same reacts =
      let goes = λ (rest : List Circumstance).
      all_go profile side paged pages reacts.deeds settings (before (reacts.used ++ rest)) (standing pushing port' new rest) (changes.paged_is (reacts.used ++ rest)) (reacts.reacts rest) (changes.is_seen (reacts.used ++ rest)) in (
        record {
          used = reacts.used;
          answered = reacts.answered;
          efforts = all_efforts paged reacts.deeds line;
          reacts = λ rest.
              subst (λ (s : Settings). MakesEfforts V side (all_efforts paged reacts.deeds line) (change (reacts.used ++ rest) (answering (reacts.used ++ rest) old)) (seen (set_to s (asking pushing port' new.upper rest)) new.line)) (sym same)
              (subst (λ (s : Station (SetHost S)). MakesEfforts V side (all_efforts paged reacts.deeds line) s (seen (set_to settings (asking pushing port' new.upper rest)) new.line)) (changes.same (reacts.used ++ rest))
              (subst (λ (l : Line). MakesEfforts V side (all_efforts paged reacts.deeds l) (seen (set_to settings (before (reacts.used ++ rest)).host) (before (reacts.used ++ rest)).line) (seen (set_to settings (asking pushing port' new.upper rest)) new.line))
              (changes.line_is (reacts.used ++ rest)) (goes rest).makes));
        },
        λ rest. subst (λ (s : Settings). IsSeen side (set_to s (asking pushing port' new.upper rest)) new.line) (sym same) (goes rest).is_seen,
      )

  -- it goes on by itself, once its controller took all
  pub goes_as : (old new : Stacked E) (port port' : P) → old.paged ≡ paged → AllSeen port old → new.upper.machine.settings ≡ old.upper.machine.settings
      → GoesOn (profile old.upper.machine.settings) Answers pushing (record { stack = record old { line = record old.line { out = [] } }; port = port }) (record { stack = new; port = port' })
      → world.Reacts V side Answers (λ used station. station) (record (playing pushing port old) { out = [] }) (playing pushing port' new) port port' × AllSeen port' new
  goes_as old new port port' to is same goes =
      let taken : Stacked E = record old { line = record old.line { out = [] } } in
      reacts_by old.upper.machine.settings (λ used station. station) (standing pushing port taken) (record (playing pushing port old) { out = [] }) taken.line new port port'
      (record { line_is = λ rest. refl; paged_is = λ rest. to; is_seen = λ rest. (taken_is_seen V side (set_host pushing port old rest) old.line (is rest)).is_seen; same = λ rest. refl }) same goes

  -- it is told news that its line does not tell
  pub told_as : (news : News) (old new : Stacked E) (port port' : P) → old.paged ≡ paged → AllSeen port old → new.upper.machine.settings ≡ old.upper.machine.settings
      → HearsNews (profile old.upper.machine.settings) Answers pushing news (record { stack = old; port = port }) (record { stack = new; port = port' })
      → ReactsAs (λ used. told V used news) old new port port' × AllSeen port' new
  told_as news old new port port' to is same hears =
      reacts_by old.upper.machine.settings (λ used. told V used news) (λ rest. with_host (hear (profile old.upper.machine.settings) rest news (asking pushing port old.upper rest)) (standing pushing port old rest)) (playing pushing port old) old.line new port port'
      (record { line_is = λ rest. refl; paged_is = λ rest. to; is_seen = λ rest. seen_again (set_host pushing port old rest) (set_to old.upper.machine.settings (hear (profile old.upper.machine.settings) rest news (asking pushing port old.upper rest))) old.line (is rest); same = λ rest. refl }) same hears

  -- it hears a packet
  pub packet_as : (coming : Coming) (old new : Stacked E) (port port' : P) → old.paged ≡ paged → AllSeen port old → MayBeHeard (playing pushing port old) coming → new.upper.machine.settings ≡ old.upper.machine.settings
      → Hears (profile old.upper.machine.settings) Answers pushing (coming_packet side coming) (record { stack = old; port = port }) (record { stack = new; port = port' })
      → ReactsAs (hears_coming V side coming) old new port port' × AllSeen port' new
  packet_as coming old new port port' to is may same hears =
      let settings = old.upper.machine.settings in
      let heard_by = λ (rest : List Circumstance). heard_as profile side coming settings (asking pushing port old.upper rest) old.line rest (is rest) may in
      reacts_by settings (hears_coming V side coming) (λ rest. after_packet (profile settings) (coming_packet side coming) rest (standing pushing port old rest)) (playing pushing port old) (heard (coming_packet side coming) old.line) new port port'
      (record { line_is = λ rest. refl; paged_is = λ rest. to; is_seen = λ rest. (heard_by rest).is_seen; same = λ rest. (heard_by rest).same }) same hears.reacts

  -- ---- it is fed

  abbrev Now : Stacked E → P → Moment E P
  Now stack port = record { stack = stack; port = port }

  -- what it heard of the whole of a packet
  heard_one : (settings : Settings) (p : Packet) (packets : List Packet) (old new : Moment E P) → packets ≡ p ∷ [] → HearsAll (profile settings) Answers pushing packets old new → Hears (profile settings) Answers pushing p old new
  heard_one settings p packets old new one hears =
      let (mid, first, last) = subst (λ (ps : List Packet). HearsAll (profile settings) Answers pushing ps old new) one hears in
      subst (λ (m : Moment E P). Hears (profile settings) Answers pushing p old m) (sym last) first

  -- and of a part of one
  heard_none : (settings : Settings) (packets : List Packet) (old new : Moment E P) → packets ≡ [] → HearsAll (profile settings) Answers pushing packets old new → new ≡ old
  heard_none settings packets old new none hears = subst (λ (ps : List Packet). HearsAll (profile settings) Answers pushing ps old new) none hears

  part_is : (piece : List ℕ) (framing framing' : Framing) (packets : List Packet) (taken : IsTaken framing framing' piece packets) → packets ≡ [] → framing'.held ≡ framing.held ++ piece
  part_is piece framing framing' packets taken none =
      ap (λ (f : Framing). f.held) taken.framing_is ∙ sym (taken.read.octets ∙ ap (λ (ps : List Packet). spellings ps ++ taken.rest) none)

  regrouped : (p : Packet) (held piece left octets : List ℕ) → spelling p ≡ held ++ (piece ++ left) → held ++ piece ≡ octets → spelling p ≡ octets ++ left
  regrouped p held piece left octets spelled same = spelled ∙ sym (append_assoc held piece left) ∙ ap (λ xs. xs ++ left) same

  module _ (join : JoinAnswers Answers) (piece : List ℕ) (framing framing' : Framing) (old new : Stacked E) (port port' : P) (to : old.paged ≡ paged) (is : AllSeen port old) (same : new.upper.machine.settings ≡ old.upper.machine.settings)
      (takes : Takes (profile old.upper.machine.settings) Answers pushing piece framing framing' (Now old port) (Now new port')) where
    in_part : (coming : Coming) (left : List ℕ) → IsPacket acl_limit (coming_packet side coming) → spelling (coming_packet side coming) ≡ framing.held ++ (piece ++ left) → left ≢ []
        → (framing'.held ≡ framing.held ++ piece) × (Now new port' ≡ Now old port)
    in_part coming left packet spelled some =
        let none = none_whole acl_limit (coming_packet side coming) takes.packets takes.taken.rest left packet takes.taken.read.each
        (regrouped (coming_packet side coming) framing.held piece left (spellings takes.packets ++ takes.taken.rest) spelled takes.taken.read.octets) some in
        (part_is piece framing framing' takes.packets takes.taken none, heard_none old.upper.machine.settings takes.packets (Now old port) (Now new port') none takes.hears)

    whole : (coming : Coming) → MayBeHeard (playing pushing port old) coming → IsPacket acl_limit (coming_packet side coming) → spelling (coming_packet side coming) ≡ framing.held ++ piece
        → (framing'.held ≡ []) × ReactsAs (hears_coming V side coming) old new port port' × AllSeen port' new
    whole coming may packet spelled =
        let one = one_whole acl_limit (coming_packet side coming) takes.packets takes.taken.rest packet takes.taken.read.each (spelled ∙ takes.taken.read.octets) takes.taken.unfinished in
        let (reacts, seen_then) = packet_as coming old new port port' to is may same (heard_one old.upper.machine.settings (coming_packet side coming) takes.packets (Now old port) (Now new port') one.0 takes.hears) in
        (ap (λ (f : Framing). f.held) takes.taken.framing_is ∙ one.1, reacts, seen_then)

    -- it hears what comes whole, and is sound where its octets are those of its orders
    pub fed_as : (Sound : Type 0) → (AllSeen port' new → Sound) → world.Hears V side Answers framing.held piece framing'.held (playing pushing port old) (playing pushing port' new) port port' Sound
    fed_as Sound sound = record {
      part = λ coming left packet spelled some.
          let there = in_part coming left packet spelled some in (
            there.0,
            ap (λ (m : Moment E P). playing pushing m.port m.stack) there.1,
            subst (λ (m : Moment E P). Answers port [] m.port) (sym there.1) (join.none port),
            sound (subst (λ (m : Moment E P). AllSeen m.port m.stack) (sym there.1) is),
          );
      whole = λ coming may packet spelled. let (held, reacts, seen_then) = whole coming may packet spelled in (held, reacts, sound seen_then);
    }

  -- ---- it refuses nothing that may come

  module _ (piece : List ℕ) (framing framing' : Framing) (old new : Stacked E) (port port' : P) (refusal : FeedRefusal) (is : AllSeen port old)
      (stops : Stops (profile old.upper.machine.settings) Answers pushing piece framing framing' (Now old port) (Now new port') refusal) where
    refused_not : (p : Packet) (left : List ℕ) → IsPacket acl_limit p → spelling p ≡ framing.held ++ (piece ++ left) → (left ≡ [] → fault_of p old.line ≡ None) → ⊥
    refused_not p left packet spelled sound =
        stops_none p stops.packets new.line (place_behind framing stops.packets) stops.stopped.rest left refusal packet stops.stopped.read.each
        (regrouped p framing.held piece left (spellings stops.packets ++ stops.stopped.rest) spelled stops.stopped.read.octets)
        (λ none all. ap (λ (m : Moment E P). fault_of p m.stack.line) (heard_none old.upper.machine.settings stops.packets (Now old port) (Now new port') none stops.hears) ∙ sound all) stops.stopped.refused

    -- so it hears what comes, since nothing comes that it refuses
    pub refused_as : (Sound : Type 0) → world.Hears V side Answers framing.held piece framing'.held (playing pushing port old) (playing pushing port' new) port port' Sound
    refused_as Sound = record {
      part = λ coming left packet spelled some. absurd (refused_not (coming_packet side coming) left packet spelled (λ none. absurd (some none)));
      whole = λ coming may packet spelled.
          absurd (refused_not (coming_packet side coming) [] packet (spelled ∙ ap (λ xs. framing.held ++ xs) (sym (append-nil piece)))
          (λ none. (heard_as profile side coming old.upper.machine.settings (asking pushing port old.upper []) old.line [] (is []) may).fault));
    }
