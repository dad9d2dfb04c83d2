-- On each of its links the own talk of a host is covered where what came and went at its server is, and so is what moved there.
use Rattle.std.proofs.Common.{◌≡◌, ℕ, ◌==◌, List, [], ◌∷◌, ◌++◌, map, Bool, true, false, cond, Option, Some, None, refl, sym, ap, ap₂, subst, ◌∙◌, append_assoc, append-nil, fold}
use Rattle.std.specs.Prelude.{drop, option_to_list}
use Rattle.std.specs.List.{AllByRecursion, filter_map, flat_map, cons_option, list_any}
use Rattle.std.proofs.lemmas.List.{map-append}
use Rattle.inbox_laws.specs.bt_base.specs.Objects.{Contents}
use Rattle.inbox_laws.specs.bt_base.specs.declared.settings.Settings.{Settings}
use Rattle.inbox_laws.specs.capture.specs.declared.flow.Flow.TheVariants.{Out, Into}
use Rattle.inbox_laws.specs.acl_fragments.specs.Pieces.{channel_of}
use Rattle.inbox_laws.specs.l2cap_signal.specs.Reading.{Answer, answers}
use Rattle.inbox_laws.specs.link_talk.specs.Channels.{Entry, fresh, entry_after, is_owner, with_fresh, made_by, reading}
use Rattle.inbox_laws.specs.link_talk.specs.Meanings.{Meaning, meant}
use Rattle.inbox_laws.specs.link_talk.specs.Senses.{sense}
use Rattle.inbox_laws.specs.link_talk.specs.declared.channel.Channel.{Channel}
use Rattle.inbox_laws.specs.link_talk.specs.declared.party.Party.{Party}
use Rattle.inbox_laws.specs.link_talk.specs.Packets.{passed}
use Rattle.inbox_laws.specs.link_talk.specs.Sayings.{Saying, Command, Carried, GaveUp, said_by}
use Rattle.inbox_laws.specs.link_talk.specs.Sdus.{Spoken, spoken, spoken_as}
use Rattle.inbox_laws.specs.link_talk.proofs.Growing.{reading-grows}
use Rattle.inbox_laws.specs.push_terms.specs.declared.word.Side.TheVariants as sides
use Rattle.inbox_laws.specs.rfcomm_frames.specs.declared.connection.Role.TheVariants.{Initiator, Responder}
use Rattle.inbox_laws.specs.rfcomm_frames.specs.Multiplexing.{Passed}
use Rattle.inbox_laws.specs.channel_model.specs.Policies.{policy}
use Rattle.inbox_laws.specs.channel_laws.specs.Frames.{AreUttered}
use Rattle.inbox_laws.specs.channel_laws.specs.Runs.{Occurrence, run_of}
use Rattle.inbox_laws.specs.push_model.specs.Server.{rfcomm_psm}
use Rattle.inbox_laws.specs.push_laws.specs.Occurrences as served
use Rattle.inbox_laws.specs.push_laws.specs.Readings.{passed_by}
use Rattle.inbox_laws.specs.host_laws.specs.Carriers.{move_on}
use Rattle.inbox_laws.specs.host_laws.specs.OneCarrier.{IsFor}
use Rattle.inbox_laws.specs.host_laws.specs.OverLinks.{GoesOut}
use Rattle.inbox_laws.specs.scenario_laws.specs.Coming.{out_of}
use Rattle.inbox_laws.specs.scenario_laws.specs.Parties.{party_of}
use Rattle.inbox_laws.specs.host_laws.specs.OneOnLinks.{CarriesOneOn}
use Rattle.inbox_laws.specs.host_laws.specs.Fed.{WovenFed}
use Rattle.inbox_laws.specs.host_laws.specs.Feeds.{Feed}
use Rattle.inbox_laws.specs.host_laws.specs.Serving.{served_from}
use Rattle.inbox_laws.specs.host_laws.proofs.Asking.{hosts_ask}
use Rattle.inbox_laws.specs.host_laws.specs.Seen.{spoken_of}
use Rattle.inbox_laws.specs.host_model.specs.Servers.{ServerProfile, server_profile}
use Rattle.request_laws.proofs.Feeding.{all_both, all_ahead}
use Rattle.request_laws.proofs.Moved.{moves_in, link-moves}
use Rattle.credit_laws.specs.Covered.{IsCovered}
use Rattle.credit_laws.specs.Seen.{IsCoveredOn, AreCovered, IsSaidOut}
use Rattle.credit_laws.proofs.Seeing.{earlier-is_covered}

-- ---- what passed is what came and went

passed_if : (here : Bool) (one : Passed) (rest : List Passed) (spoke : Spoken) (later : List Spoken) (party : Party) → passed party spoke ≡ one → rest ≡ map (passed party) later
    → cons_option (cond here (Some one) None) rest ≡ map (passed party) (cons_option (cond here (Some spoke) None) later)
passed_if true one rest spoke later party is more = ap (λ (p : Passed). p ∷ rest) (sym is) ∙ ap (λ (l : List Passed). passed party spoke ∷ l) more
passed_if false one rest spoke later party is more = more

pub passed_moves : (settings : Settings) (list : List served.Occurrence) → filter_map passed_by list ≡ map (passed (party_of settings sides.B)) (filter_map (move_on rfcomm_psm) list)
passed_moves settings [] = refl
passed_moves settings (served.Came at sdu ∷ rest) = passed_if (at == rfcomm_psm) (record { from = Initiator; sdu = sdu }) (filter_map passed_by rest) (spoken_as Into sdu) (filter_map (move_on rfcomm_psm) rest) (party_of settings sides.B) refl (passed_moves settings rest)
passed_moves settings (served.Went at sdu ∷ rest) = passed_if (at == rfcomm_psm) (record { from = Responder; sdu = sdu }) (filter_map passed_by rest) (spoken_as Out sdu) (filter_map (move_on rfcomm_psm) rest) (party_of settings sides.B) refl (passed_moves settings rest)
passed_moves settings (served.Closed at ∷ rest) = passed_moves settings rest
passed_moves settings (served.LinkDown ∷ rest) = passed_moves settings rest
passed_moves settings (served.Asked ∷ rest) = passed_moves settings rest
passed_moves settings (served.Answering list ∷ rest) = passed_moves settings rest

-- ---- the one channel covers all

abbrev Covers : Party → List Saying → Entry → Type 0
Covers party said entry = entry.channel.psm ≡ 0x0003 → IsCoveredOn party entry.channel said

abbrev Fits : Channel → Entry → Type 0
Fits channel entry = IsFor channel entry.channel

covers_some : (party : Party) (said : List Saying) (channel : Channel) (entries : List Entry) → AllByRecursion (Fits channel) entries → IsCoveredOn party channel said → AllByRecursion (Covers party said) entries
covers_some party said channel [] fit covered = tt
covers_some party said channel (entry ∷ rest) fit covered = (by (entry.channel.own == channel.own) refl, covers_some party said channel rest fit.1 covered)
  where
    by : (b : Bool) → (entry.channel.own == channel.own) ≡ b → Covers party said entry
    by true is = λ psm. subst (λ (c : Channel). IsCoveredOn party c said) (sym (fit.0.same is)) covered
    by false is = λ psm. absurd ((fit.0.aside is).1 psm)

pub part_covered : (settings : Settings) (content : Option Contents) (list : List Occurrence) (feeds : List Feed) (first last : ServerProfile) → WovenFed (server_profile settings content) (hosts_ask.servers settings content) list feeds first last → first.endpoints ≡ []
    → CarriesOneOn rfcomm_psm (policy settings true) list → AreUttered (policy settings true) list → IsCovered 18 Responder (filter_map passed_by (served_from settings content first feeds)) → AreCovered (party_of settings sides.B) (run_of (policy settings true) list).said
part_covered settings content list feeds first last so bare one uttered covered =
    let party = party_of settings sides.B in
    let said = (run_of (policy settings true) list).said in
    let moves : moves_in rfcomm_psm (served_from settings content first feeds) ≡ spoken party one.channel said =
    ap (λ (fs : List Feed). moves_in rfcomm_psm (served_from settings content first fs)) so.feeds_are ∙ link-moves rfcomm_psm settings content party list so.woven.weave first so.woven.list_is bare (λ psm aside is. aside.1 is) one refl uttered in
    let here : IsCoveredOn party one.channel said =
    subst (λ (l : List Spoken). IsCovered 18 Responder (map (passed party) l)) moves (subst (IsCovered 18 Responder) (passed_moves settings (served_from settings content first feeds)) covered) in
    covers_some party said one.channel (reading said).entries one.alone here

-- ---- the channels of a talk stay

abbrev channels_of : List Entry → List Channel
channels_of entries = map (λ (entry : Entry). entry.channel) entries

record Longer (before after : List Channel) : Type 0 where
  more : List Channel
  is : after ≡ before ++ more

each_same : (m : Meaning) (entries : List Entry) → channels_of (map (entry_after m) entries) ≡ channels_of entries
each_same m [] = refl
each_same m (entry ∷ rest) = ap (λ (l : List Channel). entry.channel ∷ l) (each_same m rest)

fresh_longer : (new : List Channel) (entries : List Entry) → Longer (channels_of entries) (channels_of (fold with_fresh entries new))
fresh_longer [] entries = record { more = []; is = sym (append-nil (channels_of entries)) }
fresh_longer (one ∷ new) entries = by (list_any (is_owner one) entries) (fresh_longer new (with_fresh entries one))
  where
    by : (b : Bool) → Longer (channels_of (cond b entries (entries ++ fresh one ∷ []))) (channels_of (fold with_fresh (cond b entries (entries ++ fresh one ∷ [])) new))
        → Longer (channels_of entries) (channels_of (fold with_fresh (cond b entries (entries ++ fresh one ∷ [])) new))
    by true l = l
    by false l = record {
      more = one ∷ l.more;
      is = l.is ∙ (ap (λ (cs : List Channel). cs ++ l.more) (map-append (λ (entry : Entry). entry.channel) entries (fresh one ∷ [])) ∙ append_assoc (channels_of entries) (one ∷ []) l.more);
    }

saying_longer : (said : List Saying) (more : Saying) → Longer (channels_of (reading said).entries) (channels_of (reading (said ++ more ∷ [])).entries)
saying_longer said more =
    let m = meant (reading said).requests (sense more) in
    let l = fresh_longer (option_to_list (made_by m)) (map (entry_after m) (reading said).entries) in
    record {
      more = l.more;
      is = ap (λ r. channels_of r.entries) (reading-grows said more) ∙ (l.is ∙ ap (λ (cs : List Channel). cs ++ l.more) (each_same m (reading said).entries));
    }

said_longer : (said last : List Saying) → Longer (channels_of (reading said).entries) (channels_of (reading (said ++ last)).entries)
said_longer said [] = record { more = []; is = ap (λ (l : List Saying). channels_of (reading l).entries) (append-nil said) ∙ sym (append-nil (channels_of (reading said).entries)) }
said_longer said (one ∷ last) =
    let first = saying_longer said one in
    let then = said_longer (said ++ one ∷ []) last in
    record {
      more = first.more ++ then.more;
      is = ap (λ (l : List Saying). channels_of (reading l).entries) (sym (append_assoc said (one ∷ []) last))
          ∙ (then.is ∙ (ap (λ (cs : List Channel). cs ++ then.more) first.is ∙ append_assoc (channels_of (reading said).entries) first.more then.more));
    }

abbrev CoversOn : Party → List Saying → Channel → Type 0
CoversOn party said channel = channel.psm ≡ 0x0003 → IsCoveredOn party channel said

to_channels : (party : Party) (said : List Saying) (entries : List Entry) → AllByRecursion (Covers party said) entries → AllByRecursion (CoversOn party said) (channels_of entries)
to_channels party said [] all = tt
to_channels party said (entry ∷ rest) all = (all.0, to_channels party said rest all.1)

to_entries : (party : Party) (said last : List Saying) (entries : List Entry) → AllByRecursion IsSaidOut last → AllByRecursion (CoversOn party (said ++ last)) (channels_of entries) → AllByRecursion (Covers party said) entries
to_entries party said last [] out all = tt
to_entries party said last (entry ∷ rest) out all = (λ psm. earlier-is_covered party entry.channel said last out (all.0 psm), to_entries party said last rest out all.1)

pub are_earlier : (party : Party) (said last : List Saying) → AllByRecursion IsSaidOut last → AreCovered party (said ++ last) → AreCovered party said
are_earlier party said last out all =
    let l = said_longer said last in
    let channels = subst (AllByRecursion (CoversOn party (said ++ last))) l.is (to_channels party (said ++ last) (reading (said ++ last)).entries all) in
    to_entries party said last (reading said).entries out (all_ahead (CoversOn party (said ++ last)) (channels_of (reading said).entries) l.more channels).0

-- ---- what moved on a link

pub goes_out : (list : List Saying) → AllByRecursion GoesOut list → AllByRecursion IsSaidOut list
goes_out [] all = tt
goes_out (one ∷ rest) all = (by one all.0, goes_out rest all.1)
  where
    by : (saying : Saying) → GoesOut saying → IsSaidOut saying
    by (Command Out answer) out = out
    by (Command Into answer) out = out
    by (Carried Out pdu) out = out
    by (Carried Into pdu) out = out
    by (GaveUp forgone) out = absurd out

commands_out : (list : List Answer) → AllByRecursion IsSaidOut (map (Command Out) list)
commands_out [] = tt
commands_out (one ∷ rest) = (tt, commands_out rest)

pdu_out : (pdu : List ℕ) → AllByRecursion IsSaidOut (said_by (out_of pdu))
pdu_out pdu = by (channel_of pdu == 0x0001)
  where
    by : (b : Bool) → AllByRecursion IsSaidOut (cond b (map (Command Out) (answers (drop 4 pdu))) (Carried Out pdu ∷ []))
    by true = commands_out (answers (drop 4 pdu))
    by false = (tt, tt)

pub unsent_out : (list : List (List ℕ)) → AllByRecursion IsSaidOut (flat_map said_by (map out_of list))
unsent_out [] = tt
unsent_out (pdu ∷ rest) = all_both IsSaidOut (said_by (out_of pdu)) (flat_map said_by (map out_of rest)) (pdu_out pdu) (unsent_out rest)

-- a talk in two parts, by what moved
pub record Split (said moved waits : List Saying) : Type 0 where
  pub front : List Saying
  pub back : List Saying
  pub all : said ≡ front ++ back
  pub first : spoken_of front ≡ moved
  pub rest : spoken_of back ≡ waits

pub split : (said moved waits : List Saying) → spoken_of said ≡ moved ++ waits → Split said moved waits
split said [] waits is = record { front = []; back = said; all = refl; first = refl; rest = is }
split [] (m ∷ moved) waits is = cc
split (Command flow answer ∷ said) (m ∷ moved) waits is =
    let same : Command flow answer ≡ m = cc in
    let later = split said moved waits cc in
    record { front = Command flow answer ∷ later.front; back = later.back; all = ap (λ (s : List Saying). Command flow answer ∷ s) later.all; first = ap₂ (λ (x : Saying) (s : List Saying). x ∷ s) same later.first; rest = later.rest }
split (Carried flow pdu ∷ said) (m ∷ moved) waits is =
    let same : Carried flow pdu ≡ m = cc in
    let later = split said moved waits cc in
    record { front = Carried flow pdu ∷ later.front; back = later.back; all = ap (λ (s : List Saying). Carried flow pdu ∷ s) later.all; first = ap₂ (λ (x : Saying) (s : List Saying). x ∷ s) same later.first; rest = later.rest }
split (GaveUp forgone ∷ said) (m ∷ moved) waits is =
    let later = split said (m ∷ moved) waits is in
    record { front = GaveUp forgone ∷ later.front; back = later.back; all = ap (λ (s : List Saying). GaveUp forgone ∷ s) later.all; first = later.first; rest = later.rest }

pub unheard_out : (said : List Saying) → AllByRecursion IsSaidOut (spoken_of said) → AllByRecursion IsSaidOut said
unheard_out [] out = tt
unheard_out (Command flow answer ∷ said) out = (out.0, unheard_out said out.1)
unheard_out (Carried flow pdu ∷ said) out = (out.0, unheard_out said out.1)
unheard_out (GaveUp forgone ∷ said) out = (tt, unheard_out said out)
