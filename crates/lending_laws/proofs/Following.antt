-- A host in code that goes as another one goes, which is given what its port answers with each thing that it hears: what comes to the one is a run of
-- the other over units.
use Rattle.std.proofs.Common.{◌≡◌, ℕ, false, List, [], ◌∷◌, ◌++◌, map, drop, Some, None, refl, sym, ap, ap₂, subst, ◌∙◌, append_assoc}
use Rattle.std.specs.List.{AllByRecursion}
use Rattle.std.proofs.lemmas.List.{append-nil, map-append}
use Rattle.std.proofs.lemmas.List.Concat.{flat_map-append}
use Rattle.call_laws.specs.unit_laws.specs.scenario_laws.specs.h4_framing.specs.Packets.{Packet, spellings, IsPacket}
use Rattle.call_laws.specs.unit_laws.specs.scenario_laws.specs.h4_framing.proofs.FaultLemmas.{spellings_append}
use Rattle.call_laws.specs.unit_laws.specs.scenario_laws.specs.h4_framing.proofs.ReadingLemmas.{all_append}
use Rattle.call_laws.specs.bt_host.specs.capture.specs.Moves.{Move}
use Rattle.call_laws.specs.bt_host.specs.host_link.specs.Hearing.{PlainNews, Nothing, LinkUp, LinkFailed, LinkDown, Pdu, fault_of, news_of}
use Rattle.call_laws.specs.bt_host.specs.host_link.specs.Lines.{Line, fresh}
use Rattle.call_laws.specs.bt_host.specs.host_link.specs.PuttingOut.{put_pieces, started}
use Rattle.call_laws.specs.bt_host.specs.host_link.specs.Stands.{into, out_of}
use Rattle.call_laws.specs.bt_host.specs.host_link.specs.declared.role.Role.{Role}
use Rattle.call_laws.specs.unit_laws.specs.scenario_laws.specs.world_model.specs.Machines.{News, Linked, Up, Down, Failed, Heard, TimerFired, Cancelled, Opening, Upper}
use Rattle.call_laws.specs.bt_host.specs.host_model.specs.Circumstances.{Circumstance}
use Rattle.call_laws.specs.bt_host.specs.host_model.specs.Hosts.{Host, hear, next, has_more}
use Rattle.call_laws.specs.bt_host.specs.host_model.specs.Profiles.{Profile}
use Rattle.call_laws.specs.bt_host.specs.Refusals.{acl_limit}
use Rattle.call_laws.specs.bt_host.specs.Stacks.{Stacked, Standing, Moment, Deed, Putting, Saying, Ending, Paging, Commanding, DoesDeed, DoesAll, standing, after_packet, with_host}
use Rattle.call_laws.specs.bt_host.specs.Uppers.{asking, told_of, hears_told}
use Rattle.call_laws.specs.unit_laws.specs.Timed.{Tick, Moves, news_ticks, ticks_of, ticks}
use Rattle.call_laws.specs.unit_laws.specs.Units.{Lined, starting, Occasion, Comes, Learns as Hits, Says, Puts, Commands, Waits, units_of, units, IsOwnNews, Runs, HasSaidAll, IsToldInTurn, ComesInTurn, hears_line}
use Rattle.call_laws.specs.unit_laws.specs.Laws.{FiresNone}
use Rattle.call_laws.specs.unit_laws.specs.Calls.{IsWritable, GoesBy, SaysInOctets, CallsGo}
use Rattle.call_laws.specs.unit_laws.proofs.Doing.{runs_then, goes_none, calls_are_runs}
use Rattle.call_laws.specs.Impulses.{Impulse, Hears, Learns, GoesOn, Gives, Pages, IsDevice, Happens, HasImpulses, heard_of, left_of, MovesWith, MovesAlong, MovesFromStart}
use Rattle.call_laws.proofs.Going.{writable_taken}
use Rattle.lending_laws.specs.Comings.{comings_in}
use Rattle.lending_laws.specs.InTurn.{AllIsSaid, IsToldQuietly, ComesQuietly, LeavesPort, ComeQuietly, FiresNot}
use Rattle.lending_laws.proofs.Coming.{comings_both, none_come, one_comes, untimed_by}

-- Where the relation holds the other hears and says what the one does, for some answers of its port, and it holds again.
pub record Follows {S T : Type 0} (A : Profile S) (U : Upper T Circumstance) (IsAs : Host S → T → Type 0) : Type 0 where
  pub octets : SaysInOctets U
  pub hears : (answers : List Circumstance) (news : News) (host : Host S) (there : T) → IsAs host there → (gifts : List Circumstance) × IsAs (hear A answers news host) (U.hear gifts news there)
  pub says : (host : Host S) (there : T) (pdu : List ℕ) (after : Host S) → IsAs host there → next A host ≡ Some (pdu, after) → (now : T) × (U.next there ≡ Some (pdu, now)) × IsAs after now
  pub silent : (host : Host S) (there : T) → IsAs host there → has_more host ≡ false → U.next there ≡ None

pub both_untimed : (one two : List (Occasion Circumstance)) → AllByRecursion FiresNone one → AllByRecursion FiresNone two → AllByRecursion FiresNone (one ++ two)
both_untimed [] two first second = second
both_untimed (occasion ∷ one) two first second = (first.0, both_untimed one two first.1 second)

-- what comes with an impulse
abbrev pub impulse_comings : Impulse → List (Occasion Circumstance)
impulse_comings (Hears packet) = Comes [] packet ∷ []
impulse_comings (Learns news) = Hits [] news ∷ []
impulse_comings GoesOn = []
impulse_comings (Gives count) = []
impulse_comings (Pages address) = []

none_fires : (impulse : Impulse) → FiresNot impulse → AllByRecursion FiresNone (impulse_comings impulse)
none_fires (Hears packet) so = (tt, tt)
none_fires (Learns news) so = (so, tt)
none_fires GoesOn so = tt
none_fires (Gives count) so = tt
none_fires (Pages address) so = tt

pub none_timed : (occasions : List (Occasion Circumstance)) → comings_in occasions ≡ [] → AllByRecursion FiresNone occasions
none_timed occasions none = untimed_by occasions (subst (AllByRecursion FiresNone) (sym none) tt)

pub untimed_with : (impulse : Impulse) (occasions : List (Occasion Circumstance)) → comings_in occasions ≡ impulse_comings impulse → FiresNot impulse → AllByRecursion FiresNone occasions
untimed_with impulse occasions is so = untimed_by occasions (subst (AllByRecursion FiresNone) (sym is) (none_fires impulse so))

-- the timer fires with an impulse
abbrev pub impulse_ticks : Impulse → List Tick
impulse_ticks (Hears packet) = []
impulse_ticks (Learns news) = news_ticks news
impulse_ticks GoesOn = []
impulse_ticks (Gives count) = []
impulse_ticks (Pages address) = []

-- where no timer fires units alone tick
untimed_one : (occasion : Occasion Circumstance) → FiresNone occasion → ticks_of occasion ≡ map Moves (units_of occasion)
untimed_one (Comes gifts unit) calm = refl
untimed_one (Hits gifts (Linked event)) calm = refl
untimed_one (Hits gifts (Failed status)) calm = refl
untimed_one (Hits gifts (Heard pdu)) calm = refl
untimed_one (Hits gifts TimerFired) calm = absurd calm
untimed_one (Hits gifts Cancelled) calm = refl
untimed_one (Hits gifts (Opening name)) calm = refl
untimed_one (Says pdu) calm = refl
untimed_one (Puts handle piece) calm = refl
untimed_one (Commands command) calm = refl
untimed_one Waits calm = refl

untimed_ticks : (occasions : List (Occasion Circumstance)) → AllByRecursion FiresNone occasions → ticks occasions ≡ map Moves (units occasions)
untimed_ticks [] calm = refl
untimed_ticks (occasion ∷ occasions) calm = ap₂ (λ (x y : List Tick). x ++ y) (untimed_one occasion calm.0) (untimed_ticks occasions calm.1) ∙ sym (map-append Moves (units_of occasion) (units occasions))

-- one run behind the other
ticks_then : (begun : List Tick) (one two : List (Occasion Circumstance)) → ticks one ≡ begun ++ map Moves (units one) → ticks two ≡ map Moves (units two) → ticks (one ++ two) ≡ begun ++ map Moves (units (one ++ two))
ticks_then begun one two first second =
    flat_map-append ticks_of one two
    ∙ (ap₂ (λ (x y : List Tick). x ++ y) first second
    ∙ (append_assoc begun (map Moves (units one)) (map Moves (units two))
    ∙ ap (λ (more : List Tick). begun ++ more) (sym (map-append Moves (units one) (units two)) ∙ ap (λ (moves : List Move). map Moves moves) (sym (flat_map-append units_of one two)))))

module _ {S T : Type 0} (A : Profile S) (U : Upper T Circumstance) (IsAs : Host S → T → Type 0) (follows : Follows A U IsAs) where
  abbrev pub lined : Line → T → Lined T
  lined line there = record { line = line; upper = there }

  -- ---- a run

  -- these packets came in, and behind them packets went out, whose octets `out` gained; what came to it, and what ticked before they moved
  pub record Ran (comings : List (Occasion Circumstance)) (begun : List Tick) (came : List Packet) (old new : Lined T) : Type 0 where
    pub occasions : List (Occasion Circumstance)
    pub comings_are : comings_in occasions ≡ comings
    pub runs : Runs U (ComesInTurn U) occasions old new
    pub went : List Packet
    pub each : AllByRecursion (IsPacket 1021) went
    pub units_are : units occasions ≡ map into came ++ map out_of went
    pub ticks_are : ticks occasions ≡ begun ++ map Moves (units occasions)
    pub out : new.line.out ≡ old.line.out ++ spellings went
    pub writable : IsWritable new.line

  ran_by : (comings : List (Occasion Circumstance)) (gifts : List (List Circumstance)) (came : List Packet) (old new : Lined T) (goes : GoesBy U gifts came old new) → comings_in goes.occasions ≡ comings → Ran comings [] came old new
  ran_by comings gifts came old new goes is = record { occasions = goes.occasions; comings_are = is; runs = goes.runs; went = goes.went; each = goes.each; units_are = goes.units_are; ticks_are = untimed_ticks goes.occasions goes.untimed; out = goes.out; writable = goes.writable }

  -- by itself
  ran_alone : (old new : Lined T) → GoesBy U [] [] old new → Ran [] [] [] old new
  ran_alone old new goes = ran_by [] [] [] old new goes (none_come goes.occasions goes.given)

  ran_then : (comings : List (Occasion Circumstance)) (begun : List Tick) (came : List Packet) (old mid new : Lined T) → Ran comings begun came old mid → Ran [] [] [] mid new → Ran comings begun came old new
  ran_then comings begun came old mid new first second = record {
    occasions = first.occasions ++ second.occasions;
    comings_are = comings_both first.occasions second.occasions ∙ (ap₂ (λ (x y : List (Occasion Circumstance)). x ++ y) first.comings_are second.comings_are ∙ append-nil comings);
    runs = runs_then U (ComesInTurn U) first.occasions second.occasions old mid new first.runs second.runs;
    went = first.went ++ second.went;
    each = all_append (IsPacket 1021) first.went second.went first.each second.each;
    units_are = flat_map-append units_of first.occasions second.occasions
        ∙ (ap₂ (λ (x y : List Move). x ++ y) first.units_are second.units_are
        ∙ (append_assoc (map into came) (map out_of first.went) (map out_of second.went) ∙ ap (λ (more : List Move). map into came ++ more) (sym (map-append out_of first.went second.went))));
    ticks_are = ticks_then begun first.occasions second.occasions first.ticks_are second.ticks_are;
    out = second.out
        ∙ (ap (λ (out : List ℕ). out ++ spellings second.went) first.out
        ∙ (append_assoc old.line.out (spellings first.went) (spellings second.went) ∙ ap (λ (more : List ℕ). old.line.out ++ more) (sym (spellings_append first.went second.went))));
    writable = second.writable;
  }

  calls_at : (line : Line) (there : T) → IsWritable line → CallsGo U (lined line there)
  calls_at line there writable = (calls_are_runs U).calls (lined line there) follows.octets writable

  -- the other is where the one is
  record Leads (comings : List (Occasion Circumstance)) (begun : List Tick) (came : List Packet) (old : Standing S) (there : T) (new : Standing S) : Type 0 where
    after : T
    alike : IsAs new.host after
    ran : Ran comings begun came (lined old.line there) (lined new.line after)
    paged : new.paged ≡ old.paged

  -- ---- what it does by itself

  deed_leads : (deed : Deed) (old new : Standing S) (there : T) → DoesDeed A deed old new → IsAs old.host there → IsWritable old.line → IsDevice old.paged → Leads [] [] [] old there new
  deed_leads Putting old new there does alike writable device =
      subst (λ (s : Standing S). Leads [] [] [] old there s) (sym does) (record { after = there; alike = alike; ran = ran_alone (lined old.line there) _ (calls_at old.line there writable).puts; paged = refl })
  deed_leads (Saying pdu) old new there does alike writable device =
      let (now, said, again) = follows.says old.host there pdu new.host alike does.next in
      record {
        after = now;
        alike = again;
        ran = subst (λ (l : Line). Ran [] [] [] (lined old.line there) (lined l now)) (sym does.line) (ran_alone (lined old.line there) _ ((calls_at old.line there writable).says pdu now does.may said));
        paged = does.paged;
      }
  deed_leads Ending old new there does alike writable device =
      subst (λ (s : Standing S). Leads [] [] [] old there s) (sym does.1) (record { after = there; alike = alike; ran = ran_alone (lined old.line there) _ (calls_at old.line there writable).ends; paged = refl })
  deed_leads Paging old new there does alike writable device =
      subst (λ (s : Standing S). Leads [] [] [] old there s) (sym does.1)
      (record { after = there; alike = alike; ran = ran_alone (lined old.line there) _ ((calls_at old.line there writable).pages old.paged device.six device.octets); paged = refl })
  deed_leads Commanding old new there does alike writable device =
      subst (λ (s : Standing S). Leads [] [] [] old there s) (sym does) (record { after = there; alike = alike; ran = ran_alone (lined old.line there) _ (calls_at old.line there writable).commands; paged = refl })

  leads_then : (comings : List (Occasion Circumstance)) (begun : List Tick) (came : List Packet) (old : Standing S) (there : T) (mid new : Standing S) (first : Leads comings begun came old there mid) → Leads [] [] [] mid first.after new → Leads comings begun came old there new
  leads_then comings begun came old there mid new first second = record {
    after = second.after;
    alike = second.alike;
    ran = ran_then comings begun came (lined old.line there) (lined mid.line first.after) (lined new.line second.after) first.ran second.ran;
    paged = second.paged ∙ first.paged;
  }

  all_lead : (deeds : List Deed) (old new : Standing S) (there : T) → DoesAll A deeds old new → IsAs old.host there → IsWritable old.line → IsDevice old.paged → Leads [] [] [] old there new
  all_lead [] old new there does alike writable device =
      subst (λ (s : Standing S). Leads [] [] [] old there s) (sym does) (record { after = there; alike = alike; ran = ran_alone (lined old.line there) _ (goes_none U (lined old.line there) writable); paged = refl })
  all_lead (deed ∷ deeds) old new there (mid, one, more) alike writable device =
      let first = deed_leads deed old mid there one alike writable device in
      leads_then [] [] [] old there mid new first (all_lead deeds mid new first.after more first.alike first.ran.writable (subst IsDevice (sym first.paged) device))

  -- ---- the beginning

  pub starts : (role : Role) → Ran [] [] [] (lined (fresh role) U.first) (lined (started role) U.first)
  starts role =
      let there = U.first in
      let puts = ran_alone (lined (fresh role) there) _ (calls_at (fresh role) there ((calls_are_runs U).fresh role)).puts in
      let mid = put_pieces (fresh role) in
      ran_then [] [] [] (lined (fresh role) there) (lined mid there) (lined (started role) there) puts (ran_alone (lined mid there) _ (calls_at mid there puts.writable).commands)

  -- ---- what comes to it

  told_as : (news : PlainNews) (answers : List Circumstance) (host : Host S) (there : T) → IsAs host there → (gifts : List Circumstance) × IsAs (hears_told A answers (told_of news) host) (hears_line U gifts news there)
  told_as Nothing answers host there alike = ([], alike)
  told_as LinkUp answers host there alike = follows.hears answers (Linked Up) host there alike
  told_as (LinkFailed status) answers host there alike = follows.hears answers (Failed status) host there alike
  told_as (LinkDown reason) answers host there alike = follows.hears answers (Linked (Down reason)) host there alike
  told_as (Pdu channel octets) answers host there alike = follows.hears answers (Heard octets) host there alike

  module _ {E P : Type 0} (Answers : P → List Circumstance → P → Type 0) (pushing : E → P → List Circumstance → S) where
    abbrev pub at : P → Stacked E → List Circumstance → Standing S
    at port stack rest = standing pushing port stack rest

    all_said : (old : Stacked E) (port : P) (rest : List Circumstance) (there : T) → IsAs (at port old rest).host there → AllIsSaid old → HasSaidAll U (lined old.line there)
    all_said old port rest there alike said = record { pieces = said.pieces; none_next = follows.silent (at port old rest).host there alike said.none_more }

    in_turn : (news : PlainNews) (old : Stacked E) (port : P) (rest : List Circumstance) (there : T) → IsAs (at port old rest).host there → IsToldQuietly news old → IsToldInTurn U (lined old.line there) news
    in_turn Nothing old port rest there alike told = tt
    in_turn LinkUp old port rest there alike told = tt
    in_turn (LinkFailed status) old port rest there alike told = all_said old port rest there alike told
    in_turn (LinkDown reason) old port rest there alike told = tt
    in_turn (Pdu channel octets) old port rest there alike told = all_said old port rest there alike told

    unit_leads : (packet : Packet) (old : Stacked E) (port : P) (rest : List Circumstance) (there : T) → IsPacket acl_limit packet → fault_of packet old.line ≡ None → IsToldQuietly (news_of packet old.line) old → IsAs (at port old rest).host there → IsWritable old.line
        → Leads (Comes [] packet ∷ []) [] (packet ∷ []) (at port old rest) there (after_packet A packet rest (at port old rest))
    unit_leads packet old port rest there is fault told alike writable =
        let (gifts, again) = told_as (news_of packet old.line) rest (at port old rest).host there alike in
        let goes = (calls_at old.line there writable).hears acl_limit gifts packet is fault (in_turn (news_of packet old.line) old port rest there alike told) in
        record {
          after = hears_line U gifts (news_of packet old.line) there;
          alike = again;
          ran = ran_by (Comes [] packet ∷ []) (gifts ∷ []) (packet ∷ []) (lined old.line there) _ goes (one_comes goes.occasions gifts packet (map out_of goes.went) goes.given goes.units_are);
          paged = refl;
        }

    news_leads : (news : News) (old : Stacked E) (port : P) (rest : List Circumstance) (there : T) → IsOwnNews news → AllIsSaid old → IsAs (at port old rest).host there → IsWritable old.line
        → Leads (Hits [] news ∷ []) (news_ticks news) [] (at port old rest) there (with_host (hear A rest news (asking pushing port old.upper rest)) (at port old rest))
    news_leads news old port rest there own said alike writable =
        let (gifts, again) = follows.hears rest news (at port old rest).host there alike in
        let after = lined old.line (U.hear gifts news there) in
        record {
          after = U.hear gifts news there;
          alike = again;
          ran = record {
            occasions = Hits gifts news ∷ [];
            comings_are = refl;
            runs = (after, all_said old port rest there alike said, (own, refl), refl);
            went = [];
            each = tt;
            units_are = refl;
            ticks_are = refl;
            out = sym (append-nil old.line.out);
            writable = writable;
          };
          paged = refl;
        }

    -- what its port answered with an impulse
    abbrev pub used_of : (impulse : Impulse) (old new : Moment E P) → Happens A Answers pushing impulse old new → List Circumstance
    used_of (Hears packet) old new one = one.1.reacts.used
    used_of (Learns news) old new one = one.1.used
    used_of GoesOn old new one = one.used
    used_of (Gives count) old new one = []
    used_of (Pages address) old new one = []

    abbrev used_in : (impulses : List Impulse) (old new : Stacked E) → HasImpulses A Answers pushing impulses old new → List Circumstance
    used_in [] old new has = []
    used_in (impulse ∷ impulses) old new (mid, before, after, one, more) = used_of impulse (record { stack = old; port = before }) (record { stack = mid; port = after }) one ++ used_in impulses mid new more

    -- where an impulse leads, and what moves with it
    pub record Led (impulse : Impulse) (old : Stacked E) (there : T) (new : Stacked E) (host : Host S) : Type 0 where
      pub occasions : List (Occasion Circumstance)
      pub comings_are : comings_in occasions ≡ impulse_comings impulse
      pub after : T
      pub alike : IsAs host after
      pub runs : Runs U (ComesInTurn U) occasions (lined old.line there) (lined new.line after)
      pub move : MovesWith impulse old new (units occasions)
      pub ticks_are : ticks occasions ≡ impulse_ticks impulse ++ map Moves (units occasions)
      pub writable : IsWritable new.line
      pub device : IsDevice new.paged

    led_by : (impulse : Impulse) (old new : Stacked E) (there : T) (before : P) (rest : List Circumstance) (last : Standing S) → left_of impulse old.line.out ≡ old.line.out → last.line ≡ new.line → last.paged ≡ new.paged → IsDevice old.paged → Leads (impulse_comings impulse) (impulse_ticks impulse) (heard_of impulse) (at before old rest) there last
        → Led impulse old there new last.host
    led_by impulse old new there before rest last none line paged device leads =
        let ran = leads.ran in
        record {
          occasions = ran.occasions;
          comings_are = ran.comings_are;
          after = leads.after;
          alike = leads.alike;
          runs = subst (λ (l : Line). Runs U (ComesInTurn U) ran.occasions (lined old.line there) (lined l leads.after)) line ran.runs;
          move = record {
            gained = spellings ran.went;
            out = ap (λ (l : Line). l.out) (sym line) ∙ (ran.out ∙ ap (λ (out : List ℕ). out ++ spellings ran.went) (sym none));
            went = ran.went;
            spelled = record { each = ran.each; octets_are = refl };
            moves_are = ran.units_are;
          };
          ticks_are = ran.ticks_are;
          writable = subst IsWritable line ran.writable;
          device = subst IsDevice (sym leads.paged ∙ paged) device;
        }

    pub impulse_led : (impulse : Impulse) (old new : Stacked E) (before after : P) (one : Happens A Answers pushing impulse (record { stack = old; port = before }) (record { stack = new; port = after })) (rest : List Circumstance) (there : T) → ComesQuietly impulse old → LeavesPort impulse before after
        → IsAs (at before old (used_of impulse (record { stack = old; port = before }) (record { stack = new; port = after }) one ++ rest)).host there → IsWritable old.line → IsDevice old.paged → Led impulse old there new (at after new rest).host
    impulse_led (Hears packet) old new before after (is, hears) rest there quiet leaves alike writable device =
        let all = hears.reacts.used ++ rest in
        let first = unit_leads packet old before all there is hears.fault quiet alike writable in
        let behind = all_lead hears.reacts.deeds (after_packet A packet all (at before old all)) (at after new rest) first.after (hears.reacts.reacts rest) first.alike first.ran.writable device in
        led_by (Hears packet) old new there before all (at after new rest) refl refl refl device (leads_then (Comes [] packet ∷ []) [] (packet ∷ []) (at before old all) there (after_packet A packet all (at before old all)) (at after new rest) first behind)
    impulse_led (Learns news) old new before after (own, hears) rest there quiet leaves alike writable device =
        let all = hears.used ++ rest in
        let first = news_leads news old before all there own quiet alike writable in
        let mid = with_host (hear A all news (asking pushing before old.upper all)) (at before old all) in
        let behind = all_lead hears.deeds mid (at after new rest) first.after (hears.reacts rest) first.alike first.ran.writable device in
        led_by (Learns news) old new there before all (at after new rest) refl refl refl device (leads_then (Hits [] news ∷ []) (news_ticks news) [] (at before old all) there mid (at after new rest) first behind)
    impulse_led GoesOn old new before after goes rest there quiet leaves alike writable device =
        let all = goes.used ++ rest in
        led_by GoesOn old new there before all (at after new rest) refl refl refl device (all_lead goes.deeds (at before old all) (at after new rest) there (goes.reacts rest) alike writable device)
    impulse_led (Gives count) old new before after is rest there quiet leaves alike writable device =
        let out = drop count old.line.out in
        let line : Line = record old.line { out = out } in
        subst (λ (s : Stacked E). Led (Gives count) old there s (at after s rest).host) (sym is)
        (subst (λ (p : P). Led (Gives count) old there (record old { line = line }) (at p (record old { line = line }) rest).host) (sym leaves)
        (record {
          occasions = Waits ∷ [];
          comings_are = refl;
          after = there;
          alike = alike;
          runs = (lined line there, tt, record { upper_is = refl; line_is = refl; awaited_is = refl }, refl);
          move = record { gained = []; out = sym (append-nil out); went = []; spelled = record { each = tt; octets_are = refl }; moves_are = refl };
          ticks_are = refl;
          writable = writable_taken old.line out writable;
          device = device;
        }))
    impulse_led (Pages address) old new before after (paged, is) rest there quiet leaves alike writable device =
        subst (λ (s : Stacked E). Led (Pages address) old there s (at after s rest).host) (sym is)
        (subst (λ (p : P). Led (Pages address) old there (record old { paged = address }) (at p (record old { paged = address }) rest).host) (sym leaves)
        (record {
          occasions = [];
          comings_are = refl;
          after = there;
          alike = alike;
          runs = refl;
          move = record { gained = []; out = sym (append-nil old.line.out); went = []; spelled = record { each = tt; octets_are = refl }; moves_are = refl };
          ticks_are = refl;
          writable = writable;
          device = paged;
        }))

    -- ---- one after the other

    record LedAlong (impulses : List Impulse) (old : Stacked E) (there : T) (new : Stacked E) (has : HasImpulses A Answers pushing impulses old new) : Type 0 where
      occasions : List (Occasion Circumstance)
      untimed : AllByRecursion FiresNot impulses → AllByRecursion FiresNone occasions
      port : P
      after : T
      alike : IsAs (at port new []).host after
      runs : Runs U (ComesInTurn U) occasions (lined old.line there) (lined new.line after)
      along : MovesAlong A Answers pushing impulses old new has (units occasions)

    led_along : (impulses : List Impulse) (old new : Stacked E) (has : HasImpulses A Answers pushing impulses old new) (port : P) (there : T) → ComeQuietly A Answers pushing impulses old new has port → IsAs (at port old (used_in impulses old new has ++ [])).host there
        → IsWritable old.line → IsDevice old.paged → LedAlong impulses old there new has
    led_along [] old new has port there quiet alike writable device = record {
      occasions = [];
      untimed = λ so. tt;
      port = port;
      after = there;
      alike = subst (λ (s : Stacked E). IsAs (at port s []).host there) (sym has) alike;
      runs = ap (λ (s : Stacked E). lined s.line there) has;
      along = refl;
    }
    led_along (impulse ∷ impulses) old new (mid, before, later, one, more) port there (same, comes, leaves, quiet) alike writable device =
        let here = used_of impulse (record { stack = old; port = before }) (record { stack = mid; port = later }) one in
        let behind = used_in impulses mid new more ++ [] in
        let from : IsAs (at before old (here ++ behind)).host there =
        subst (λ (p : P). IsAs (at p old (here ++ behind)).host there) (sym same) (subst (λ (all : List Circumstance). IsAs (at port old all).host there) (append_assoc here (used_in impulses mid new more) []) alike) in
        let first = impulse_led impulse old mid before later one behind there comes leaves from writable device in
        let rest = led_along impulses mid new more later first.after quiet first.alike first.writable first.device in
        record {
          occasions = first.occasions ++ rest.occasions;
          untimed = λ so. both_untimed first.occasions rest.occasions (untimed_with impulse first.occasions first.comings_are so.0) (rest.untimed so.1);
          port = rest.port;
          after = rest.after;
          alike = rest.alike;
          runs = runs_then U (ComesInTurn U) first.occasions rest.occasions (lined old.line there) (lined mid.line first.after) (lined new.line rest.after) first.runs rest.runs;
          along = (units first.occasions, units rest.occasions, first.move, rest.along, flat_map-append units_of first.occasions rest.occasions);
        }

    -- ---- from the first moment on

    pub record IsRunOf (role : Role) (impulses : List Impulse) (old new : Stacked E) (has : HasImpulses A Answers pushing impulses old new) : Type 0 where
      pub occasions : List (Occasion Circumstance)
      pub untimed : AllByRecursion FiresNot impulses → AllByRecursion FiresNone occasions
      pub port : P
      pub after : T
      pub alike : IsAs (standing pushing port new []).host after
      pub runs : Runs U (ComesInTurn U) occasions (starting U role) (lined new.line after)
      pub move : MovesFromStart A Answers pushing role impulses old new has (units occasions)

    pub impulses_run : (role : Role) (impulses : List Impulse) (old new : Stacked E) (has : HasImpulses A Answers pushing impulses old new) (port : P) → ComeQuietly A Answers pushing impulses old new has port → old.line ≡ started role → IsDevice old.paged
        → ((rest : List Circumstance) → IsAs (at port old rest).host U.first) → IsRunOf role impulses old new has
    impulses_run role impulses old new has port quiet is device alike =
        let there = U.first in
        let start = starts role in
        let along = led_along impulses old new has port there quiet (alike (used_in impulses old new has ++ [])) (subst IsWritable (sym is) start.writable) device in
        record {
          occasions = start.occasions ++ along.occasions;
          untimed = λ so. both_untimed start.occasions along.occasions (none_timed start.occasions start.comings_are) (along.untimed so);
          port = along.port;
          after = along.after;
          alike = along.alike;
          runs = runs_then U (ComesInTurn U) start.occasions along.occasions (starting U role) (lined (started role) there) (lined new.line along.after) start.runs
              (subst (λ (l : Line). Runs U (ComesInTurn U) along.occasions (lined l there) (lined new.line along.after)) is along.runs);
          move = record {
            first = start.went;
            spelled = record { each = start.each; octets_are = start.out };
            rest = units along.occasions;
            along = along.along;
            moves_are = flat_map-append units_of start.occasions along.occasions ∙ ap (λ (moves : List Move). moves ++ units along.occasions) start.units_are;
          };
        }
