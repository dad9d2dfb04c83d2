-- What was heard on each link, read off what each host was told and said.
use Rattle.std.proofs.Common.{◌≡◌, ℕ, zero, suc, ◌+◌, ◌≤◌, ◌<◌, Bool, true, false, List, [], ◌∷◌, ◌++◌, length, map, drop, Option, Some, None, refl, sym, ap, ◌∙◌, subst, arith, length-append}
use Rattle.std.specs.Prelude.{option_to_list, slice_get}
use Rattle.std.specs.Option.{option_map}
use Rattle.std.proofs.lemmas.List.{append-nil, map-append, drop-append-le}
use Rattle.std.proofs.lemmas.List.Concat.{flat_map-append}
use Rattle.turn_laws.specs.capture.specs.declared.flow.Flow.{Flow}
use Rattle.turn_laws.specs.capture.specs.declared.flow.Flow.TheVariants.{Out, Into}
use Rattle.turn_laws.specs.capture.specs.Pdus.{Pdu}
use Rattle.turn_laws.specs.capture.proofs.HistoryLaws.{each_after-more}
use Rattle.turn_laws.specs.radio_model.specs.declared.fate.Fate.{Fate}
use Rattle.turn_laws.specs.radio_model.specs.declared.fate.Fate.TheVariants.{Delivered, Lost, Repeated, CutOff, Changed}
use Rattle.turn_laws.specs.radio_model.specs.Fates.{meets, comes_of}
use Rattle.turn_laws.specs.radio_model.specs.Flights.{Met, step, position, of_frame, heard, FindsFrames}
use Rattle.turn_laws.specs.radio_model.proofs.Flying.{one_fate_more, one_frame_more}
use Rattle.turn_laws.specs.world_model.specs.Machines.{Up, Down, Linked, Failed, Heard, TimerFired, Cancelled, Opening}
use Rattle.turn_laws.specs.world_model.specs.Talks.{Talk, Told, Said, Unsent, Done}
use Rattle.turn_laws.specs.world_model.specs.Talks as told
use Rattle.turn_laws.specs.world_model.specs.PerLink.{PerLink, heard_after, heard_from, Flown, front_meets, flies, flown_from, Linkage, pdus_of, linkage_after, linkage_from}
use Rattle.air_laws.specs.Heard.{one_way, moved, Comes, EachComes}

-- ---- talk that keeps to its links

abbrev pub Leads : Bool → List Talk → Bool → Type 0
Leads up [] after = after ≡ up
Leads up (Told (Linked Up) ∷ talks) after = (up ≡ false) × Leads true talks after
Leads up (Told (Linked (Down reason)) ∷ talks) after = (up ≡ true) × Leads false talks after
Leads up (Told (Heard pdu) ∷ talks) after = (up ≡ true) × Leads up talks after
Leads up (Said pdu ∷ talks) after = (up ≡ true) × Leads up talks after
Leads up (talk ∷ talks) after = Leads up talks after

-- ---- one direction of a link

pub record Flow1 (size : ℕ) (said queue comes : List (List ℕ)) : Type 0 where
  pub fates : List Met
  pub finds : FindsFrames said fates
  pub within : position fates ≤ length said
  pub waits : drop (position fates) said ≡ queue
  pub is : comes ≡ heard size said fates

pub flow_none : (size : ℕ) → Flow1 size [] [] []
flow_none size = record { fates = []; finds = tt; within = omega arith; waits = refl; is = refl }

flow_said : (size : ℕ) (said queue comes : List (List ℕ)) (frame : List ℕ) → Flow1 size said queue comes → Flow1 size (said ++ frame ∷ []) (queue ++ frame ∷ []) comes
flow_said size said queue comes frame flow =
    let more = one_frame_more size said flow.fates frame flow.finds in
    let long = length-append said (frame ∷ []) in
    let within = flow.within in
    record {
      fates = flow.fates;
      finds = more.2;
      within = omega arith;
      waits = drop-append-le (position flow.fates) said (frame ∷ []) flow.within ∙ ap (λ (l : List (List ℕ)). l ++ frame ∷ []) flow.waits;
      is = flow.is ∙ sym more.0;
    }

at_first : (n : ℕ) (frames : List (List ℕ)) (frame : List ℕ) (rest : List (List ℕ)) → drop n frames ≡ frame ∷ rest → (slice_get frames n ≡ Some frame) × (drop (suc n) frames ≡ rest) × (n < length frames)
at_first zero [] frame rest is = absurd cc
at_first zero (first ∷ frames) frame rest is = (cc, cc, omega arith)
at_first (suc n) [] frame rest is = absurd cc
at_first (suc n) (first ∷ frames) frame rest is = let next = at_first n frames frame rest is in (next.0, next.1, (let low = next.2 in omega arith))

after_step : (fate : Fate) (size : ℕ) (checked : Bool) (n : ℕ) (frames : List (List ℕ)) (frame : List ℕ) (rest : List (List ℕ)) → drop n frames ≡ frame ∷ rest → drop (suc n) frames ≡ rest → n < length frames
    → (drop (n + step fate) frames ≡ (meets size fate checked frame).stays ++ rest) × (n + step fate ≤ length frames)
after_step Repeated size checked n frames frame rest is next low = let same : n + 0 ≡ n = omega arith in (ap (λ (m : ℕ). drop m frames) same ∙ is, omega arith)
after_step Delivered size checked n frames frame rest is next low = let same : n + 1 ≡ suc n = omega arith in (ap (λ (m : ℕ). drop m frames) same ∙ next, omega arith)
after_step Lost size checked n frames frame rest is next low = let same : n + 1 ≡ suc n = omega arith in (ap (λ (m : ℕ). drop m frames) same ∙ next, omega arith)
after_step (CutOff count) size checked n frames frame rest is next low = let same : n + 1 ≡ suc n = omega arith in (ap (λ (m : ℕ). drop m frames) same ∙ next, omega arith)
after_step (Changed at mask) size true n frames frame rest is next low = let same : n + 1 ≡ suc n = omega arith in (ap (λ (m : ℕ). drop m frames) same ∙ next, omega arith)
after_step (Changed at mask) size false n frames frame rest is next low = let same : n + 1 ≡ suc n = omega arith in (ap (λ (m : ℕ). drop m frames) same ∙ next, omega arith)

flow_met : (size : ℕ) (fate : Fate) (checked : Bool) (said comes : List (List ℕ)) (frame : List ℕ) (rest : List (List ℕ)) → Flow1 size said (frame ∷ rest) comes
    → Flow1 size said ((meets size fate checked frame).stays ++ rest) (comes ++ comes_of size fate checked frame)
flow_met size fate checked said comes frame rest flow =
    let met : Met = record { fate = fate; checked = checked } in
    let here = at_first (position flow.fates) said frame rest flow.waits in
    let more = one_fate_more size said flow.fates met in
    let next = after_step fate size checked (position flow.fates) said frame rest flow.waits here.1 here.2 in
    record {
      fates = flow.fates ++ met ∷ [];
      finds = each_after-more (λ past one. position past < length said) flow.fates met flow.finds here.2;
      within = let place = more.2 in let low = next.1 in omega arith;
      waits = ap (λ (m : ℕ). drop m said) more.2 ∙ next.0;
      is = ap (λ (l : List (List ℕ)). l ++ comes_of size fate checked frame) flow.is
          ∙ ap (λ (f : Option (List ℕ)). heard size said flow.fates ++ of_frame (comes_of size fate checked) f) (sym here.0)
          ∙ sym more.0;
    }

-- ---- the PDUs of a link

moved_more : (flow : Flow) (one two : List Pdu) → moved flow (one ++ two) ≡ moved flow one ++ moved flow two
moved_more flow one two = flat_map-append (one_way flow) one two

-- ---- what came of what one host said

-- of each link that ended
abbrev pub Over : ℕ → List (List (List ℕ)) → List (List Pdu) → Type 0
Over size [] [] = Unit {0}
Over size [] (link ∷ links) = ⊥
Over size (comes ∷ others) [] = ⊥
Over size (comes ∷ others) (link ∷ links) = Comes size (moved Out link) comes × Over size others links

over_more : (size : ℕ) (all : List (List (List ℕ))) (links : List (List Pdu)) (comes : List (List ℕ)) (link : List Pdu) → Over size all links → Comes size (moved Out link) comes → Over size (all ++ comes ∷ []) (links ++ link ∷ [])
over_more size [] [] comes link over now = (now, tt)
over_more size [] (one ∷ links) comes link over now = absurd over
over_more size (one ∷ all) [] comes link over now = absurd over
over_more size (one ∷ all) (other ∷ links) comes link over now = (over.0, over_more size all links comes link over.1 now)

-- while no link is up, and while one is
pub record OverOff (size : ℕ) (f : Flown) (past : List (List Pdu)) : Type 0 where
  pub all : List (List (List ℕ))
  pub none : f.air ≡ []
  pub is : f.over.done ++ f.over.now ∷ [] ≡ [] ∷ all
  pub each : Over size all past

pub record OverOn (size : ℕ) (f : Flown) (past : List (List Pdu)) (now : List Pdu) : Type 0 where
  pub all : List (List (List ℕ))
  pub is : f.over.done ≡ [] ∷ all
  pub each : Over size all past
  pub flow : Flow1 size (moved Out now) f.air f.over.now

abbrev pub Flies : ℕ → Bool → Flown → List (List Pdu) → Option (List Pdu) → Type 0
Flies size false f past None = OverOff size f past
Flies size true f past (Some now) = OverOn size f past now
Flies size up f past now = ⊥

off_of : (size : ℕ) (up : Bool) (f : Flown) (past : List (List Pdu)) (now : Option (List Pdu)) → up ≡ false → Flies size up f past now → OverOff size f past
off_of size true f past now off flies = absurd cc
off_of size false f past None off flies = flies
off_of size false f past (Some now) off flies = absurd flies

pub record IsOn (size : ℕ) (f : Flown) (past : List (List Pdu)) (known : Option (List Pdu)) : Type 0 where
  pub now : List Pdu
  pub some : known ≡ Some now
  pub over : OverOn size f past now

on_of : (size : ℕ) (up : Bool) (f : Flown) (past : List (List Pdu)) (now : Option (List Pdu)) → up ≡ true → Flies size up f past now → IsOn size f past now
on_of size true f past (Some now) on flies = record { now = now; some = refl; over = flies }
on_of size true f past None on flies = absurd flies
on_of size false f past now on flies = absurd cc

met_on : (size : ℕ) (fate : Fate) (checked : Bool) (queue : List (List ℕ)) (all : List (List (List ℕ))) (over : PerLink) (past : List (List Pdu)) (now : List Pdu) → over.done ≡ [] ∷ all → Over size all past → Flow1 size (moved Out now) queue over.now
    → OverOn size (front_meets size fate checked queue over) past now
met_on size fate checked [] all over past now is each flow = record { all = all; is = is; each = each; flow = flow }
met_on size fate checked (frame ∷ rest) all over past now is each flow = record { all = all; is = is; each = each; flow = flow_met size fate checked (moved Out now) over.now frame rest flow }

met_off : (size : ℕ) (fate : Fate) (checked : Bool) (queue : List (List ℕ)) (all : List (List (List ℕ))) (over : PerLink) (past : List (List Pdu)) → queue ≡ [] → over.done ++ over.now ∷ [] ≡ [] ∷ all → Over size all past → OverOff size (front_meets size fate checked queue over) past
met_off size fate checked [] all over past none is each = record { all = all; none = refl; is = is; each = each }
met_off size fate checked (frame ∷ rest) all over past none is each = absurd cc

flies_met : (size : ℕ) (fate : Fate) (checked : Bool) (up : Bool) (f : Flown) (past : List (List Pdu)) (now : Option (List Pdu)) → Flies size up f past now → Flies size up (front_meets size fate checked f.air f.over) past now
flies_met size fate checked true f past (Some now) flies = met_on size fate checked f.air flies.all f.over past now flies.is flies.each flies.flow
flies_met size fate checked true f past None flies = absurd flies
flies_met size fate checked false f past None flies = met_off size fate checked f.air flies.all f.over past flies.none flies.is flies.each
flies_met size fate checked false f past (Some now) flies = absurd flies

-- a PDU moved one way
one_said : (now : List Pdu) (pdu : List ℕ) → moved Out (now ++ pdus_of Out (pdu ∷ [])) ≡ moved Out now ++ pdu ∷ []
one_said now pdu = moved_more Out now (pdus_of Out (pdu ∷ []))

none_said : (now : List Pdu) (pdu : List ℕ) → moved Out (now ++ pdus_of Into (pdu ∷ [])) ≡ moved Out now
none_said now pdu = moved_more Out now (pdus_of Into (pdu ∷ [])) ∙ append-nil (moved Out now)

one_heard : (now : List Pdu) (pdu : List ℕ) → moved Into (now ++ pdus_of Into (pdu ∷ [])) ≡ moved Into now ++ pdu ∷ []
one_heard now pdu = moved_more Into now (pdus_of Into (pdu ∷ []))

none_heard : (now : List Pdu) (pdu : List ℕ) → moved Into (now ++ pdus_of Out (pdu ∷ [])) ≡ moved Into now
none_heard now pdu = moved_more Into now (pdus_of Out (pdu ∷ [])) ∙ append-nil (moved Into now)

flies_up : (size : ℕ) (f : Flown) (past : List (List Pdu)) → OverOff size f past → Flies size true (flies size f (Told (Linked Up))) past (Some [])
flies_up size f past over = record { all = over.all; is = over.is; each = over.each; flow = flow_none size }

flies_down : (size : ℕ) (f : Flown) (past : List (List Pdu)) (known : Option (List Pdu)) → IsOn size f past known → OverOff size (record f { air = [] }) (past ++ option_to_list known)
flies_down size f past known on =
    subst (λ (k : Option (List Pdu)). OverOff size (record f { air = [] }) (past ++ option_to_list k)) (sym on.some) (record {
      all = on.over.all ++ f.over.now ∷ [];
      none = refl;
      is = ap (λ (l : List (List (List ℕ))). l ++ f.over.now ∷ []) on.over.is;
      each = over_more size on.over.all past f.over.now on.now on.over.each (record { fates = on.over.flow.fates; finds = on.over.flow.finds; is = on.over.flow.is });
    })

flies_heard : (size : ℕ) (f : Flown) (past : List (List Pdu)) (known : Option (List Pdu)) (pdu : List ℕ) → IsOn size f past known → Flies size true f past (option_map (λ now. now ++ pdus_of Into (pdu ∷ [])) known)
flies_heard size f past known pdu on =
    subst (λ (k : Option (List Pdu)). Flies size true f past (option_map (λ now. now ++ pdus_of Into (pdu ∷ [])) k)) (sym on.some) (record {
      all = on.over.all;
      is = on.over.is;
      each = on.over.each;
      flow = subst (λ (l : List (List ℕ)). Flow1 size l f.air f.over.now) (sym (none_said on.now pdu)) on.over.flow;
    })

flies_said : (size : ℕ) (f : Flown) (past : List (List Pdu)) (known : Option (List Pdu)) (pdu : List ℕ) → IsOn size f past known → Flies size true (record f { air = f.air ++ pdu ∷ [] }) past (option_map (λ now. now ++ pdus_of Out (pdu ∷ [])) known)
flies_said size f past known pdu on =
    subst (λ (k : Option (List Pdu)). Flies size true (record f { air = f.air ++ pdu ∷ [] }) past (option_map (λ now. now ++ pdus_of Out (pdu ∷ [])) k)) (sym on.some) (record {
      all = on.over.all;
      is = on.over.is;
      each = on.over.each;
      flow = subst (λ (l : List (List ℕ)). Flow1 size l (f.air ++ pdu ∷ []) f.over.now) (sym (one_said on.now pdu)) (flow_said size (moved Out on.now) f.air f.over.now pdu on.over.flow);
    })

as_up : (size : ℕ) (up : Bool) (f : Flown) (past : List (List Pdu)) (now : Option (List Pdu)) → up ≡ true → Flies size true f past now → Flies size up f past now
as_up size up f past now is flies = subst (λ (b : Bool). Flies size b f past now) (sym is) flies

pub flies_all : (size : ℕ) (talks : List Talk) (up after : Bool) (f : Flown) (l : Linkage) → Leads up talks after → Flies size up f l.past l.up → Flies size after (flown_from size f talks) (linkage_from l talks).past (linkage_from l talks).up
flies_all size [] up after f l leads flies_now = subst (λ (b : Bool). Flies size b f l.past l.up) (sym leads) flies_now
flies_all size (Told (Linked Up) ∷ talks) up after f l leads flies_now =
    flies_all size talks true after (flies size f (Told (Linked Up))) (linkage_after l (Told (Linked Up))) leads.1 (flies_up size f l.past (off_of size up f l.past l.up leads.0 flies_now))
flies_all size (Told (Linked (Down reason)) ∷ talks) up after f l leads flies_now =
    flies_all size talks false after (flies size f (Told (Linked (Down reason)))) (linkage_after l (Told (Linked (Down reason)))) leads.1 (flies_down size f l.past l.up (on_of size up f l.past l.up leads.0 flies_now))
flies_all size (Told (Heard pdu) ∷ talks) up after f l leads flies_now =
    flies_all size talks up after f (linkage_after l (Told (Heard pdu))) leads.1 (as_up size up f l.past _ leads.0 (flies_heard size f l.past l.up pdu (on_of size up f l.past l.up leads.0 flies_now)))
flies_all size (Said pdu ∷ talks) up after f l leads flies_now =
    flies_all size talks up after (flies size f (Said pdu)) (linkage_after l (Said pdu)) leads.1 (as_up size up (flies size f (Said pdu)) l.past _ leads.0 (flies_said size f l.past l.up pdu (on_of size up f l.past l.up leads.0 flies_now)))
flies_all size (told.Met fate checked ∷ more) up after f l leads flies_now = flies_all size more up after (front_meets size fate checked f.air f.over) l leads (flies_met size fate checked up f l.past l.up flies_now)
flies_all size (Told (Failed status) ∷ talks) up after f l leads flies_now = flies_all size talks up after f l leads flies_now
flies_all size (Told TimerFired ∷ talks) up after f l leads flies_now = flies_all size talks up after f l leads flies_now
flies_all size (Told Cancelled ∷ talks) up after f l leads flies_now = flies_all size talks up after f l leads flies_now
flies_all size (Told (Opening name) ∷ talks) up after f l leads flies_now = flies_all size talks up after f l leads flies_now
flies_all size (Unsent pdu ∷ talks) up after f l leads flies_now = flies_all size talks up after f l leads flies_now
flies_all size (Done outcome ∷ talks) up after f l leads flies_now = flies_all size talks up after f l leads flies_now

-- ---- what one host heard

abbrev pub Hears : Bool → PerLink → List (List Pdu) → Option (List Pdu) → Type 0
Hears false p past None = p.done ++ p.now ∷ [] ≡ [] ∷ map (moved Into) past
Hears true p past (Some now) = (p.done ≡ [] ∷ map (moved Into) past) × (p.now ≡ moved Into now)
Hears up p past now = ⊥

hears_off : (up : Bool) (p : PerLink) (past : List (List Pdu)) (now : Option (List Pdu)) → up ≡ false → Hears up p past now → p.done ++ p.now ∷ [] ≡ [] ∷ map (moved Into) past
hears_off true p past now off hears = absurd cc
hears_off false p past None off hears = hears
hears_off false p past (Some now) off hears = absurd hears

pub record HearsOn (p : PerLink) (past : List (List Pdu)) (known : Option (List Pdu)) : Type 0 where
  pub now : List Pdu
  pub some : known ≡ Some now
  pub done : p.done ≡ [] ∷ map (moved Into) past
  pub heard_now : p.now ≡ moved Into now

hears_on : (up : Bool) (p : PerLink) (past : List (List Pdu)) (now : Option (List Pdu)) → up ≡ true → Hears up p past now → HearsOn p past now
hears_on true p past (Some now) on hears = record { now = now; some = refl; done = hears.0; heard_now = hears.1 }
hears_on true p past None on hears = absurd hears
hears_on false p past now on hears = absurd cc

hears_as : (up : Bool) (p : PerLink) (past : List (List Pdu)) (now : Option (List Pdu)) → up ≡ true → Hears true p past now → Hears up p past now
hears_as up p past now is hears = subst (λ (b : Bool). Hears b p past now) (sym is) hears

hears_down : (p : PerLink) (past : List (List Pdu)) (known : Option (List Pdu)) → HearsOn p past known → p.done ++ p.now ∷ [] ≡ [] ∷ map (moved Into) (past ++ option_to_list known)
hears_down p past known on =
    (λ i. on.done i ++ on.heard_now i ∷ [])
    ∙ ap (λ (l : List (List (List ℕ))). [] ∷ l) (sym (map-append (moved Into) past (on.now ∷ [])))
    ∙ ap (λ (k : Option (List Pdu)). [] ∷ map (moved Into) (past ++ option_to_list k)) (sym on.some)

hears_heard : (p : PerLink) (past : List (List Pdu)) (known : Option (List Pdu)) (pdu : List ℕ) → HearsOn p past known → Hears true (record p { now = p.now ++ pdu ∷ [] }) past (option_map (λ now. now ++ pdus_of Into (pdu ∷ [])) known)
hears_heard p past known pdu on =
    subst (λ (k : Option (List Pdu)). Hears true (record p { now = p.now ++ pdu ∷ [] }) past (option_map (λ now. now ++ pdus_of Into (pdu ∷ [])) k)) (sym on.some)
    (on.done, ap (λ (l : List (List ℕ)). l ++ pdu ∷ []) on.heard_now ∙ sym (one_heard on.now pdu))

hears_said : (p : PerLink) (past : List (List Pdu)) (known : Option (List Pdu)) (pdu : List ℕ) → HearsOn p past known → Hears true p past (option_map (λ now. now ++ pdus_of Out (pdu ∷ [])) known)
hears_said p past known pdu on =
    subst (λ (k : Option (List Pdu)). Hears true p past (option_map (λ now. now ++ pdus_of Out (pdu ∷ [])) k)) (sym on.some) (on.done, on.heard_now ∙ sym (none_heard on.now pdu))

pub hears_all : (talks : List Talk) (up after : Bool) (p : PerLink) (l : Linkage) → Leads up talks after → Hears up p l.past l.up → Hears after (heard_from p talks) (linkage_from l talks).past (linkage_from l talks).up
hears_all [] up after p l leads hears = subst (λ (b : Bool). Hears b p l.past l.up) (sym leads) hears
hears_all (Told (Linked Up) ∷ talks) up after p l leads hears = hears_all talks true after (heard_after p (Told (Linked Up))) (linkage_after l (Told (Linked Up))) leads.1 (hears_off up p l.past l.up leads.0 hears, refl)
hears_all (Told (Linked (Down reason)) ∷ talks) up after p l leads hears = hears_all talks false after p (linkage_after l (Told (Linked (Down reason)))) leads.1 (hears_down p l.past l.up (hears_on up p l.past l.up leads.0 hears))
hears_all (Told (Heard pdu) ∷ talks) up after p l leads hears =
    hears_all talks up after (heard_after p (Told (Heard pdu))) (linkage_after l (Told (Heard pdu))) leads.1 (hears_as up (heard_after p (Told (Heard pdu))) l.past _ leads.0 (hears_heard p l.past l.up pdu (hears_on up p l.past l.up leads.0 hears)))
hears_all (Said pdu ∷ talks) up after p l leads hears = hears_all talks up after p (linkage_after l (Said pdu)) leads.1 (hears_as up p l.past _ leads.0 (hears_said p l.past l.up pdu (hears_on up p l.past l.up leads.0 hears)))
hears_all (told.Met fate checked ∷ more) up after p l leads hears = hears_all more up after p l leads hears
hears_all (Told (Failed status) ∷ talks) up after p l leads hears = hears_all talks up after p l leads hears
hears_all (Told TimerFired ∷ talks) up after p l leads hears = hears_all talks up after p l leads hears
hears_all (Told Cancelled ∷ talks) up after p l leads hears = hears_all talks up after p l leads hears
hears_all (Told (Opening name) ∷ talks) up after p l leads hears = hears_all talks up after p l leads hears
hears_all (Unsent pdu ∷ talks) up after p l leads hears = hears_all talks up after p l leads hears
hears_all (Done outcome ∷ talks) up after p l leads hears = hears_all talks up after p l leads hears

-- ---- link by link

abbrev pub list_of : Linkage → List (List Pdu)
list_of l = l.past ++ option_to_list l.up

first_same : {X : Type 0} (x y : X) (xs ys : List X) → x ∷ xs ≡ y ∷ ys → x ≡ y
first_same x y xs ys is = cc

rest_same : {X : Type 0} (x y : X) (xs ys : List X) → x ∷ xs ≡ y ∷ ys → xs ≡ ys
rest_same x y xs ys is = cc

each_of : (size : ℕ) (all : List (List (List ℕ))) (said others : List (List Pdu)) → map (moved Into) others ≡ all → Over size all said → EachComes size said others
each_of size [] [] [] is over = tt
each_of size [] [] (other ∷ others) is over = absurd cc
each_of size [] (link ∷ said) others is over = absurd over
each_of size (one ∷ all) [] others is over = absurd over
each_of size (one ∷ all) (link ∷ said) [] is over = absurd cc
each_of size (one ∷ all) (link ∷ said) (other ∷ others) is over =
    (subst (λ (l : List (List ℕ)). Comes size (moved Out link) l) (sym (first_same (moved Into other) one (map (moved Into) others) all is)) over.0, each_of size all said others (rest_same (moved Into other) one (map (moved Into) others) all is) over.1)

each_more : (size : ℕ) (said others : List (List Pdu)) (one other : List Pdu) → EachComes size said others → Comes size (moved Out one) (moved Into other) → EachComes size (said ++ one ∷ []) (others ++ other ∷ [])
each_more size [] [] one other each now = (now, tt)
each_more size [] (x ∷ others) one other each now = absurd each
each_more size (x ∷ said) [] one other each now = absurd each
each_more size (x ∷ said) (y ∷ others) one other each now = (each.0, each_more size said others one other each.1 now)

each_none : (size : ℕ) (said others : List (List Pdu)) → EachComes size said others → EachComes size (said ++ []) (others ++ [])
each_none size said others each = subst (λ (l : List (List Pdu)). EachComes size l (others ++ [])) (sym (append-nil said)) (subst (λ (l : List (List Pdu)). EachComes size said l) (sym (append-nil others)) each)

-- what one host said on each link, and what the other heard
pub each_link : (size : ℕ) (up : Bool) (f : Flown) (past others : List (List Pdu)) (now other : Option (List Pdu)) → Flies size up f past now → Hears up f.over others other → EachComes size (past ++ option_to_list now) (others ++ option_to_list other)
each_link size false f past others None None flies hears = each_none size past others (each_of size flies.all past others (rest_same [] [] (map (moved Into) others) flies.all (sym hears ∙ flies.is)) flies.each)
each_link size false f past others None (Some other) flies hears = absurd hears
each_link size false f past others (Some now) other flies hears = absurd flies
each_link size true f past others (Some now) (Some other) flies hears =
    each_more size past others now other (each_of size flies.all past others (rest_same [] [] (map (moved Into) others) flies.all (sym hears.0 ∙ flies.is)) flies.each)
    (record { fates = flies.flow.fates; finds = flies.flow.finds; is = sym hears.1 ∙ flies.flow.is })
each_link size true f past others (Some now) None flies hears = absurd hears
each_link size true f past others None other flies hears = absurd flies
