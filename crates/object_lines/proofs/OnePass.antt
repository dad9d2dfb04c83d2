-- How one saying more is heard on all channels of a link.
use Rattle.std.proofs.Common.{◌≡◌, ℕ, ◌+◌, ◌<◌, Bool, true, false, cond, eqb, List, [], ◌∷◌, ◌++◌, length, take, drop, set, get_or, map, fold, Option, Some, None, refl, sym, ap, subst, ◌∙◌, append_assoc, append-nil}
use Rattle.std.specs.Prelude.{find, option_to_list, IfSome}
use Rattle.std.specs.List.{flat_map, list_any}
use Rattle.std.proofs.lemmas.Bool.{eqb-true, eq-eqb}
use Rattle.std.proofs.lemmas.List.{take_more, map-append, length-map}
use Rattle.std.proofs.lemmas.Grind.{flat_map-append}
use Rattle.link_readers.specs.l2cap_config.specs.declared.wish.Mode.{Mode}
use Rattle.link_readers.specs.l2cap_config.specs.declared.wish.Mode.TheVariants.{Basic}
use Rattle.link_talk.specs.declared.channel.Channel.{Channel}
use Rattle.link_talk.specs.declared.party.Party.{Party}
use Rattle.link_talk.specs.Sayings.{Saying}
use Rattle.link_talk.specs.Senses.{Sense, sense}
use Rattle.link_talk.specs.Requests.{requests_after}
use Rattle.link_talk.specs.Meanings.{Meaning, meant}
use Rattle.link_talk.specs.Channels.{Entry, entry_after, fresh, is_owner, with_fresh, made_by, Reading, read_on}
use Rattle.link_talk.specs.Carriages.{Carriage, is_heard, carried_by, has_own, entry_mode}
use Rattle.link_talk.specs.Packets.{carrier}
use Rattle.link_readers.specs.talk_laws.specs.LinkPass.{KeptChannel, LinkPass, entry_of, held_by, kept_after, kept_with}
use Rattle.link_readers.specs.talk_laws.proofs.Passes.{drop_front}
use Rattle.object_lines.specs.declared.taking.Taken.{Taken}
use Rattle.object_lines.specs.declared.passing.KeptChannel.{KeptChannel as LentChannel}
use Rattle.object_lines.specs.Tallies.{Told}
use Rattle.object_lines.specs.Matters.{Matter, no_matter, told_now, matter_passing, told_passing, matter_step, matter_told}
use Rattle.object_lines.specs.Matter.{carriage}
use Rattle.object_lines.specs.Passes.{Telling, telling_after, has_endpoint, taken_on, taken_mode, kept_heard, told_heard, kept_if_free, kept_behind, kept_entry, kept_entries, plain_kept}
use Rattle.object_lines.proofs.InPlace.{IsDone, done_more, same_at}

-- ---- the channels one by one

-- so many channels have heard it
pub record AreHeard (party : Party) (taken : Option Taken) (more : Meaning) (now all : List LentChannel) (before told : List Told) (i : ℕ) : Type 0 where
  pub kept : IsDone plain_kept (kept_heard party taken more) now all i
  pub tells : told ≡ before ++ flat_map (told_heard party taken) (map plain_kept (take i all))

pub none_heard : (party : Party) (taken : Option Taken) (more : Meaning) (all : List LentChannel) (before : List Told) → AreHeard party taken more all all before before 0
none_heard party taken more all before = record { kept = record { done = refl; left = refl }; tells = sym (append-nil before) }

-- one channel more
pub heard_turn : (party : Party) (taken : Option Taken) (more : Meaning) (now all : List LentChannel) (before told later : List Told) (i : ℕ) (one d : LentChannel) → i < length now → i < length all
    → AreHeard party taken more now all before told i → plain_kept one ≡ kept_heard party taken more (plain_kept (get_or now i d)) → later ≡ told ++ told_heard party taken (plain_kept (get_or now i d))
    → AreHeard party taken more (set now i one) all before later (i + 1)
heard_turn party taken more now all before told later i one d below within heard goes tells = record {
  kept = done_more plain_kept (kept_heard party taken more) now all i one d below within heard.kept goes;
  tells =
      let tell = told_heard party taken in
      let this = plain_kept (get_or all i d) in
      let front = map plain_kept (take i all) in
      tells
      ∙ ap (λ channel. told ++ tell (plain_kept channel)) (same_at now all i d heard.kept.left)
      ∙ ap (λ ts. ts ++ tell this) heard.tells
      ∙ append_assoc before (flat_map tell front) (tell this)
      ∙ ap (λ ts. before ++ (flat_map tell front ++ ts)) (sym (append-nil (tell this)))
      ∙ ap (λ ts. before ++ ts) (sym (flat_map-append tell front (this ∷ [])))
      ∙ ap (λ channels. before ++ flat_map tell channels) (sym (map-append plain_kept (take i all) (get_or all i d ∷ [])) ∙ ap (map plain_kept) (sym (take_more all i d within)));
}

-- ---- the channel that takes a PDU

abbrev Aside : {X : Type 0} → (Mode → List Carriage → X) → Type 0
Aside f = (one other : Mode) → f one [] ≡ f other []

-- a channel that takes a PDU tells what is whole with it
pub told_on_it : (party : Party) (channel : Channel) (taken : Taken) (matter : Matter) (before later : List Told) → taken.own ≡ channel.own
    → later ≡ before ++ told_now party (carrier channel.psm) taken.mode matter (carriage taken.flow taken.pdu.now)
    → later ≡ before ++ told_passing party (carrier channel.psm) (taken_mode (Some taken)) matter (taken_on channel (Some taken))
told_on_it party channel taken matter before later same tells =
    let now = told_now party (carrier channel.psm) taken.mode matter (carriage taken.flow taken.pdu.now) in
    tells
    ∙ ap (λ ts. before ++ ts) (sym (append-nil now))
    ∙ ap (λ b. before ++ told_passing party (carrier channel.psm) taken.mode matter (cond b (carriage taken.flow taken.pdu.now ∷ []) [])) (sym (eq-eqb taken.own channel.own same))

-- the mode of the taker is that of each channel which it is
same_mode : {X : Type 0} (f : Mode → List Carriage → X) → Aside f → (entries : List Entry) (taken : Option Taken) (channel : Channel) → IfSome taken (λ one. one.mode ≡ entry_mode (find (has_endpoint one.own) entries))
    → f (taken_mode taken) (taken_on channel taken) ≡ f (entry_mode (find (has_own channel) entries)) (taken_on channel taken)
same_mode f aside entries None channel modes = aside Basic (entry_mode (find (has_own channel) entries))
same_mode f aside entries (Some taken) channel modes = by (eqb taken.own channel.own) refl
  where
    by : (same : Bool) → eqb taken.own channel.own ≡ same
        → f taken.mode (cond same (carriage taken.flow taken.pdu.now ∷ []) []) ≡ f (entry_mode (find (has_own channel) entries)) (cond same (carriage taken.flow taken.pdu.now ∷ []) [])
    by true is = ap (λ mode. f mode (carriage taken.flow taken.pdu.now ∷ [])) (modes ∙ ap (λ (n : ℕ). entry_mode (find (has_endpoint n) entries)) (eqb-true taken.own channel.own is))
    by false is = aside taken.mode (entry_mode (find (has_own channel) entries))

-- the channel that takes what is said
pub record Takes (entries : List Entry) (saying : Saying) (taken : Option Taken) : Type 0 where
  pub on : (channel : Channel) → taken_on channel taken ≡ carried_by is_heard channel entries saying
  pub modes : IfSome taken (λ one. one.mode ≡ entry_mode (find (has_endpoint one.own) entries))

passes : {X : Type 0} (f : Mode → List Carriage → X) → Aside f → (entries : List Entry) (saying : Saying) (taken : Option Taken) → Takes entries saying taken → (channel : Channel)
    → f (taken_mode taken) (taken_on channel taken) ≡ f (entry_mode (find (has_own channel) entries)) (carried_by is_heard channel entries saying)
passes f aside entries saying taken takes channel =
    same_mode f aside entries taken channel takes.modes ∙ ap (f (entry_mode (find (has_own channel) entries))) (takes.on channel)

-- ---- all channels

all_heard : (party : Party) (held : Reading) (saying : Saying) (taken : Option Taken) → Takes held.entries saying taken → (kept : List (KeptChannel Matter))
    → map (kept_heard party taken (meant held.requests (sense saying))) kept ≡ map (kept_after (matter_step party) held saying) kept
all_heard party held saying taken takes [] = refl
all_heard party held saying taken takes (one ∷ kept) =
    ap (λ state. kept_with state (entry_after (meant held.requests (sense saying)) one.entry) ∷ map (kept_heard party taken (meant held.requests (sense saying))) kept)
    (passes (λ mode. matter_passing party (carrier one.entry.channel.psm) mode one.state) (λ a b. refl) held.entries saying taken takes one.entry.channel)
    ∙ ap (λ rest. kept_after (matter_step party) held saying one ∷ rest) (all_heard party held saying taken takes kept)

all_tell : (party : Party) (held : Reading) (saying : Saying) (taken : Option Taken) → Takes held.entries saying taken → (kept : List (KeptChannel Matter))
    → flat_map (told_heard party taken) kept ≡ flat_map (λ (one : KeptChannel Matter). matter_told party one.entry.channel held one.state saying) kept
all_tell party held saying taken takes [] = refl
all_tell party held saying taken takes (one ∷ kept) =
    ap (λ ts. ts ++ flat_map (told_heard party taken) kept)
    (passes (λ mode. told_passing party (carrier one.entry.channel.psm) mode one.state) (λ a b. refl) held.entries saying taken takes one.entry.channel)
    ∙ ap (λ ts. matter_told party one.entry.channel held one.state saying ++ ts) (all_tell party held saying taken takes kept)

-- ---- a channel that has come to be

all_dropped : {X : Type 0} (xs : List X) → drop (length xs) xs ≡ []
all_dropped xs = ap (drop (length xs)) (sym (append-nil xs)) ∙ drop_front xs []

behind_free : (kept : List (KeptChannel Matter)) (entries : List Entry) (channel : Channel) (taken : Bool)
    → cond taken kept (kept ++ kept_with no_matter (fresh channel) ∷ []) ≡ kept ++ map (kept_with no_matter) (drop (length entries) (cond taken entries (entries ++ fresh channel ∷ [])))
behind_free kept entries channel true = sym (append-nil kept) ∙ ap (λ new. kept ++ map (kept_with no_matter) new) (sym (all_dropped entries))
behind_free kept entries channel false = ap (λ new. kept ++ map (kept_with no_matter) new) (sym (drop_front entries (fresh channel ∷ [])))

behind : (kept : List (KeptChannel Matter)) (entries : List Entry) (made : Option Channel) → map entry_of kept ≡ entries
    → kept_if_free kept made ≡ kept ++ map (kept_with no_matter) (drop (length entries) (fold with_fresh entries (option_to_list made)))
behind kept entries None are = sym (append-nil kept) ∙ ap (λ new. kept ++ map (kept_with no_matter) new) (sym (all_dropped entries))
behind kept entries (Some channel) are =
    ap (λ es. cond (list_any (is_owner channel) es) kept (kept ++ kept_with no_matter (fresh channel) ∷ [])) are
    ∙ behind_free kept entries channel (list_any (is_owner channel) entries)

entries_go : (party : Party) (held : Reading) (saying : Saying) (kept : List (KeptChannel Matter))
    → map entry_of (map (kept_after (matter_step party) held saying) kept) ≡ map (entry_after (meant held.requests (sense saying))) (map entry_of kept)
entries_go party held saying [] = refl
entries_go party held saying (one ∷ kept) = ap (λ rest. entry_after (meant held.requests (sense saying)) one.entry ∷ rest) (entries_go party held saying kept)

-- ---- a saying

pub none_made : (kept : List (KeptChannel Matter)) (more : Meaning) → None ≡ made_by more → kept ≡ kept_behind more kept
none_made kept more makes = ap (kept_if_free kept) makes

pub entries_are : (raw : List LentChannel) → kept_entries raw ≡ map entry_of (map plain_kept raw)
entries_are [] = refl
entries_are (one ∷ raw) = ap (λ rest. kept_entry one ∷ rest) (entries_are raw)

-- whether its endpoints are taken
made_where : (raw : List LentChannel) (more : Meaning) (channel : Channel) (owned : Bool) → Some channel ≡ made_by more → list_any (is_owner channel) (kept_entries raw) ≡ owned
    → cond owned (map plain_kept raw) (map plain_kept raw ++ kept_with no_matter (fresh channel) ∷ []) ≡ kept_behind more (map plain_kept raw)
made_where raw more channel owned makes is =
    ap (λ b. cond b (map plain_kept raw) (map plain_kept raw ++ kept_with no_matter (fresh channel) ∷ [])) (sym is ∙ ap (list_any (is_owner channel)) (entries_are raw))
    ∙ ap (kept_if_free (map plain_kept raw)) makes

pub none_free : (raw lent : List LentChannel) (more : Meaning) (channel : Channel) (owned : Bool) → Some channel ≡ made_by more → lent ≡ raw → owned ≡ list_any (is_owner channel) (kept_entries lent) → owned ≡ true
    → map plain_kept raw ≡ kept_behind more (map plain_kept raw)
none_free raw lent more channel owned makes same is taken = made_where raw more channel true makes (ap (λ es. list_any (is_owner channel) (kept_entries es)) (sym same) ∙ sym is ∙ taken)

pub one_made : (raw lent new : List LentChannel) (one : LentChannel) (more : Meaning) (channel : Channel) (owned : Bool) → Some channel ≡ made_by more → lent ≡ raw → owned ≡ list_any (is_owner channel) (kept_entries lent) → owned ≡ false
    → new ≡ raw ++ one ∷ [] → plain_kept one ≡ kept_with no_matter (fresh channel) → map plain_kept new ≡ kept_behind more (map plain_kept raw)
one_made raw lent new one more channel owned makes same is free grows fresh_is =
    ap (map plain_kept) grows
    ∙ map-append plain_kept raw (one ∷ [])
    ∙ ap (λ last. map plain_kept raw ++ last ∷ []) fresh_is
    ∙ made_where raw more channel false makes (ap (λ es. list_any (is_owner channel) (kept_entries es)) (sym same) ∙ sym is ∙ free)

-- what is lent of the channels tells which takes it
pub takes_of : (raw lent : List LentChannel) (saying : Saying) (taken : Option Taken) → lent ≡ raw → ((channel : Channel) → taken_on channel taken ≡ carried_by is_heard channel (kept_entries lent) saying)
    → IfSome taken (λ one. one.mode ≡ entry_mode (find (has_endpoint one.own) (kept_entries lent))) → Takes (map entry_of (map plain_kept raw)) saying taken
takes_of raw lent saying taken same on modes = subst (λ (es : List Entry). Takes es saying taken) (ap kept_entries same ∙ entries_are raw) (record { on = on; modes = modes })

pub telling_is : (party : Party) (old new : Telling) (saying : Saying) (now : Sense) (more : Meaning) (taken : Option Taken) (kept : List (KeptChannel Matter)) → now ≡ sense saying → more ≡ meant old.pass.requests now
    → Takes (map entry_of old.pass.kept) saying taken → kept ≡ map (kept_heard party taken more) old.pass.kept → new.pass.kept ≡ kept_behind more kept
    → new.told ≡ old.told ++ flat_map (told_heard party taken) old.pass.kept → new.pass.requests ≡ requests_after old.pass.requests now → new ≡ telling_after party old saying
telling_is party old new saying now more taken kept senses means takes heard adds tells asks =
    let held = held_by old.pass in
    let meaning = meant held.requests (sense saying) in
    let means_so : more ≡ meaning = means ∙ ap (meant old.pass.requests) senses in
    let after = map (kept_after (matter_step party) held saying) old.pass.kept in
    let entries = map (entry_after meaning) held.entries in
    let kept_is : kept ≡ after = heard ∙ ap (λ m. map (kept_heard party taken m) old.pass.kept) means_so ∙ all_heard party held saying taken takes old.pass.kept in
    let new_kept : new.pass.kept ≡ after ++ map (kept_with no_matter) (drop (length old.pass.kept) (read_on held saying).entries) =
    adds
    ∙ ap (λ m. kept_behind m kept) means_so
    ∙ ap (kept_behind meaning) kept_is
    ∙ behind after entries (made_by meaning) (entries_go party held saying old.pass.kept)
    ∙ ap (λ n. after ++ map (kept_with no_matter) (drop n (read_on held saying).entries)) (length-map held.entries (entry_after meaning) ∙ length-map old.pass.kept entry_of) in
    ap (λ requests. let one : Telling = record { pass = record { requests = requests; kept = new.pass.kept }; told = new.told } in one) (asks ∙ ap (requests_after old.pass.requests) senses)
    ∙ ap (λ kept. let one : Telling = record { pass = record { requests = (read_on held saying).requests; kept = kept }; told = new.told } in one) new_kept
    ∙ ap (λ told. let one : Telling = record { pass = (telling_after party old saying).pass; told = told } in one) (tells ∙ ap (λ ts. old.told ++ ts) (all_tell party held saying taken takes old.pass.kept))
