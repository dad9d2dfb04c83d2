-- The objects of a link on which one channel alone carries packets.
use Rattle.std.proofs.Common.{◌≡◌, List, [], ◌∷◌, ◌++◌, map, fold, Bool, true, false, cond, ◌||◌, eqb, option_to_list, refl, sym, ap, ap₂, subst, ◌∙◌, append-nil}
use Rattle.std.specs.List.{AllByRecursion, flat_map, list_any}
use Rattle.shelf_model.specs.bt_base.specs.Objects.{Object}
use Rattle.shelf_model.specs.capture.proofs.HistoryLaws.{given_by-more}
use Rattle.shelf_model.specs.capture.specs.Histories.{given_by}
use Rattle.shelf_model.specs.capture.specs.declared.flow.Flow.TheVariants.{Into}
use Rattle.push_laws.specs.link_talk.specs.declared.channel.Channel.{Channel}
use Rattle.push_laws.specs.link_talk.specs.declared.party.Party.{Party}
use Rattle.push_laws.specs.link_talk.specs.Sayings.{Saying}
use Rattle.push_laws.specs.link_talk.specs.Senses.{sense}
use Rattle.push_laws.specs.link_talk.specs.Meanings.{Meaning, meant}
use Rattle.push_laws.specs.link_talk.specs.Channels.{Entry, fresh, entry_after, is_owner, with_fresh, made_by, reading}
use Rattle.push_laws.specs.link_talk.specs.Carriages.{Carriage, is_heard, stretch, has_own, mode_of}
use Rattle.push_laws.specs.link_talk.specs.Gains.{beyond}
use Rattle.push_laws.specs.link_talk.specs.Sdus.{spoken_with, spoken_one_way}
use Rattle.push_laws.specs.link_talk.specs.Packets.{packets_spoken}
use Rattle.push_laws.specs.link_talk.specs.ObjectsHeard.{spelled_within, channel_objects, objects_with, objects}
use Rattle.push_laws.specs.link_talk.proofs.OnePass.{reading-more}
use Rattle.push_laws.specs.link_talk.proofs.Growing.{stretch-grows}
use Rattle.channel_laws.specs.talk_laws.proofs.Passes.{from_end}
use Rattle.channel_laws.specs.talk_laws.proofs.Owning.{Alone, alone, none-before, nothing-carried}
use Rattle.channel_laws.specs.talk_laws.proofs.Objects.{objects-grow}
use Rattle.push_laws.proofs.Readings.{drop_front}
use Rattle.host_laws.specs.OneCarrier.{IsAside, IsFor, CarriesAlone, OneCarrierGains}
use Rattle.host_laws.proofs.OneWay.{packets-aside}

-- ---- endpoints that were read before

abbrev AllFor : Channel → List Entry → Type 0
AllFor channel entries = AllByRecursion (λ (entry : Entry). IsFor channel entry.channel) entries

front_for : (channel : Channel) (xs ys : List Entry) → AllFor channel (xs ++ ys) → AllFor channel xs
front_for channel [] ys all = tt
front_for channel (x ∷ xs) ys all = (all.0, front_for channel xs ys all.1)

known_for : (channel new : Channel) (entries : List Entry) (known : Bool) → AllFor channel (cond known entries (entries ++ fresh new ∷ [])) → AllFor channel entries
known_for channel new entries true all = all
known_for channel new entries false all = front_for channel entries (fresh new ∷ []) all

fresh_for : (channel : Channel) (news : List Channel) (entries : List Entry) → AllFor channel (fold with_fresh entries news) → AllFor channel entries
fresh_for channel [] entries all = all
fresh_for channel (new ∷ news) entries all = known_for channel new entries (list_any (is_owner new) entries) (fresh_for channel news (with_fresh entries new) all)

moved_for : (channel : Channel) (more : Meaning) (entries : List Entry) → AllFor channel (map (entry_after more) entries) → AllFor channel entries
moved_for channel more [] all = tt
moved_for channel more (entry ∷ entries) all = (all.0, moved_for channel more entries all.1)

before_for : (channel : Channel) (said : List Saying) (more : Saying) → CarriesAlone channel (said ++ more ∷ []) → CarriesAlone channel said
before_for channel said more all =
    let meaning = meant (reading said).requests (sense more) in
    moved_for channel meaning (reading said).entries
    (fresh_for channel (option_to_list (made_by meaning)) (map (entry_after meaning) (reading said).entries) (subst (λ r. AllFor channel r.entries) (reading-more said more) all))

-- ---- what one saying more brings

abbrev between : Party → (past now : List Saying) → Entry → List Object
between party past now entry = beyond (channel_objects party entry.channel past) (channel_objects party entry.channel now)

aside_none : (party : Party) (channel : Channel) (said : List Saying) → IsAside channel.psm → channel_objects party channel said ≡ []
aside_none party channel said (direct, muxed) = ap (spelled_within party.packet) (packets-aside party channel said direct muxed)

aside_between : (party : Party) (past now : List Saying) (entry : Entry) → IsAside entry.channel.psm → between party past now entry ≡ []
aside_between party past now entry is = ap₂ (λ (a b : List Object). beyond a b) (aside_none party entry.channel past is) (aside_none party entry.channel now is)

none_between : (party : Party) (channel : Channel) (past now : List Saying) (entries : List Entry) → list_any (has_own channel) entries ≡ false → AllFor channel entries → flat_map (between party past now) entries ≡ []
none_between party channel past now [] none all = refl
none_between party channel past now (entry ∷ entries) none all = by (eqb entry.channel.own channel.own) refl none (λ rest. none_between party channel past now entries rest all.1)
  where
    by : (here : Bool) → eqb entry.channel.own channel.own ≡ here → (here || list_any (has_own channel) entries) ≡ false → (list_any (has_own channel) entries ≡ false → flat_map (between party past now) entries ≡ []) → between party past now entry ++ flat_map (between party past now) entries ≡ []
    by true is nothing later = cc
    by false is nothing later = ap₂ (λ (a b : List Object). a ++ b) (aside_between party past now entry (all.0.aside is)) (later nothing)

all_between : (party : Party) (channel : Channel) (past now : List Saying) (entries : List Entry) → Alone entries → AllFor channel entries
    → flat_map (between party past now) entries ≡ cond (list_any (has_own channel) entries) (beyond (channel_objects party channel past) (channel_objects party channel now)) []
all_between party channel past now [] single all = refl
all_between party channel past now (entry ∷ entries) single all = by (eqb entry.channel.own channel.own) refl (all_between party channel past now entries single.1 all.1)
  where
    new : List Object
    new = beyond (channel_objects party channel past) (channel_objects party channel now)

    by : (here : Bool) → eqb entry.channel.own channel.own ≡ here → flat_map (between party past now) entries ≡ cond (list_any (has_own channel) entries) new []
        → between party past now entry ++ flat_map (between party past now) entries ≡ cond (here || list_any (has_own channel) entries) new []
    by true is later =
        let same = all.0.same is in
        ap₂ (λ (a b : List Object). a ++ b) (ap (λ (c : Channel). beyond (channel_objects party c past) (channel_objects party c now)) same)
        (none_between party channel past now entries (ap (λ (c : Channel). list_any (has_own c) entries) (sym same) ∙ single.0) all.1)
        ∙ append-nil new
    by false is later = ap (λ (a : List Object). a ++ flat_map (between party past now) entries) (aside_between party past now entry (all.0.aside is)) ∙ later

-- ---- a channel that is not read

no_stretch : (channel : Channel) (said : List Saying) → list_any (has_own channel) (reading said).entries ≡ false → stretch channel said ≡ []
no_stretch channel said none = from_end (λ past. list_any (has_own channel) (reading past).entries ≡ false → stretch channel past ≡ []) (λ nothing. refl) step said none
  where
    step : (past : List Saying) (more : Saying) → (list_any (has_own channel) (reading past).entries ≡ false → stretch channel past ≡ []) → list_any (has_own channel) (reading (past ++ more ∷ [])).entries ≡ false → stretch channel (past ++ more ∷ []) ≡ []
    step past more before nothing =
        let gone = none-before channel past more nothing in
        stretch-grows channel past more ∙ ap₂ (λ a b. a ++ b) (before gone) (nothing-carried channel is_heard (reading past).entries more gone)

abbrev objects_in : Party → Channel → List Saying → List Carriage → List Object
objects_in party channel said carriages = spelled_within party.packet (spoken_one_way Into (packets_spoken party channel.psm (given_by (spoken_with party (mode_of channel said)) carriages)))

more_none : (party : Party) (channel : Channel) (past : List Saying) (more : Saying) → list_any (has_own channel) (reading past).entries ≡ false → channel_objects party channel (past ++ more ∷ []) ≡ []
more_none party channel past more gone =
    ap (objects_in party channel (past ++ more ∷ [])) (stretch-grows channel past more ∙ ap₂ (λ a b. a ++ b) (no_stretch channel past gone) (nothing-carried channel is_heard (reading past).entries more gone))

past_none : (party : Party) (channel : Channel) (past : List Saying) → list_any (has_own channel) (reading past).entries ≡ false → channel_objects party channel past ≡ []
past_none party channel past gone = ap (objects_in party channel past) (no_stretch channel past gone)

-- ---- all of it

grown : (party : Party) (channel : Channel) (past : List Saying) (more : Saying)
    → channel_objects party channel past ++ beyond (channel_objects party channel past) (channel_objects party channel (past ++ more ∷ [])) ≡ channel_objects party channel (past ++ more ∷ [])
grown party channel past more =
    let grows = objects-grow.objects party channel past more in
    ap (λ (now : List Object). channel_objects party channel past ++ beyond (channel_objects party channel past) now) grows.grown
    ∙ (ap (λ (rest : List Object). channel_objects party channel past ++ rest) (drop_front (channel_objects party channel past) grows.more) ∙ sym grows.grown)

one_more : (party : Party) (channel : Channel) (past : List Saying) (more : Saying) → (CarriesAlone channel past → objects party past ≡ channel_objects party channel past) → CarriesAlone channel (past ++ more ∷ [])
    → objects party (past ++ more ∷ []) ≡ channel_objects party channel (past ++ more ∷ [])
one_more party channel past more before all =
    let now = past ++ more ∷ [] in
    let front = before_for channel past more all in
    given_by-more (objects_with party) past more
    ∙ (ap₂ (λ (a b : List Object). a ++ b) (before front) (all_between party channel past now (reading past).entries (alone past) front)
    ∙ by (list_any (has_own channel) (reading past).entries) refl)
  where
    by : (any : Bool) → list_any (has_own channel) (reading past).entries ≡ any
        → channel_objects party channel past ++ cond any (beyond (channel_objects party channel past) (channel_objects party channel (past ++ more ∷ []))) [] ≡ channel_objects party channel (past ++ more ∷ [])
    by true is = grown party channel past more
    by false is = append-nil (channel_objects party channel past) ∙ (past_none party channel past is ∙ sym (more_none party channel past more is))

pub one_carrier_gains : OneCarrierGains
one_carrier_gains party channel said all = from_end (λ past. CarriesAlone channel past → objects party past ≡ channel_objects party channel past) (λ none. refl) (one_more party channel) said all
