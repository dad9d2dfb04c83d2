-- The credits that a host holds on a link, in one pass.
use Rattle.std.proofs.Common.{◌≡◌, List, [], ◌∷◌, ◌++◌, map, fold, Bool, true, false, cond, ◌&&◌, eqb, Option, Some, None, refl, sym, ap, ◌∙◌}
use Rattle.std.specs.Prelude.{option_map}
use Rattle.std.specs.List.{filter_map, list_any, cons_option}
use Rattle.std.specs.Option.{option_or}
use Rattle.std.proofs.lemmas.List.{map-append}
use Rattle.std.proofs.lemmas.List.Elements.{filter_map-append}
use Rattle.std.proofs.lemmas.List.Sums.{fold-append}
use Rattle.link_talk.specs.capture.specs.Histories.{last_of, given_by}
use Rattle.link_talk.specs.l2cap_config.specs.declared.wish.Mode.{Mode}
use Rattle.link_talk.specs.rfcomm_frames.specs.Multiplexing.{Passed, framed}
use Rattle.link_talk.specs.rfcomm_frames.specs.FrameReading.{frame_answer}
use Rattle.link_talk.specs.declared.channel.Channel.{Channel}
use Rattle.link_talk.specs.declared.party.Party.{Party}
use Rattle.link_talk.specs.Sayings.{Saying}
use Rattle.link_talk.specs.Channels.{Entry, is_alive, reading}
use Rattle.link_talk.specs.Carriages.{Carriage, is_heard, carried, stretch, has_own, mode_of}
use Rattle.link_talk.specs.Sdus.{Spoken, spoken, spoken_with}
use Rattle.link_talk.specs.Packets.{passed}
use Rattle.link_talk.specs.Accounts.{carries_rfcomm, multiplexed, credits_on, credits}
use Rattle.link_talk.proofs.Growing.{stretch-grows}
use Rattle.talk_laws.specs.Sdus.{Ears, no_ears, ears_after, ears_so_far}
use Rattle.talk_laws.specs.Packets.{sdus_said}
use Rattle.talk_laws.specs.Accounts.{Credits, no_credits, credits_after, credits_of}
use Rattle.talk_laws.specs.LinkPass.{pass_of, kept_of, pass_back, Follows}
use Rattle.talk_laws.specs.LinkCredits.{Purse, no_purse, frames_of, purse_with, purse_step, purse_on, held_in, credits_in, purse_of, LinkCreditsLookBack, LinkCreditsGrow}
use Rattle.talk_laws.proofs.Owning.{nothing-carried}
use Rattle.talk_laws.proofs.Accounts.{credits_are}
use Rattle.talk_laws.proofs.Waits.{spoken-more}
use Rattle.talk_laws.proofs.Spelling.{stretch_before}
use Rattle.talk_laws.proofs.LinkPass.{pass-more, pass-is}

-- ---- what is held

frames_append : (party : Party) (old new : List Spoken) → frames_of party (old ++ new) ≡ frames_of party old ++ frames_of party new
frames_append party old new =
    ap (filter_map (λ (p : Passed). framed p.from (frame_answer p.sdu))) (map-append (passed party) old new)
    ∙ filter_map-append (λ (p : Passed). framed p.from (frame_answer p.sdu)) (map (passed party) old) (map (passed party) new)

abbrev purse : Ears → Credits → Purse
purse ears credits_ = record { ears = ears; credits = credits_ }

purse_more : (party : Party) (channel : Channel) (said : List Saying) (more : Saying) → purse_of party channel (said ++ more ∷ []) ≡ purse_step party channel (reading said) (purse_of party channel said) more
purse_more party channel said more =
    let heard = carried is_heard channel said more in
    let now = sdus_said party channel said more in
    let count = credits_of party.dlci party.role in
    ap (λ ears. purse ears (count (frames_of party (spoken party channel (said ++ more ∷ []))))) (ap (ears_so_far party) (stretch-grows channel said more) ∙ fold-append (ears_after party) no_ears (stretch channel said) heard)
    ∙ ap (purse (fold (ears_after party) (ears_so_far party (stretch channel said)) heard))
    (ap (λ sdus. count (frames_of party sdus)) (spoken-more party channel said more)
    ∙ (ap count (frames_append party (spoken party channel said) now) ∙ fold-append (credits_after party.dlci party.role) no_credits (frames_of party (spoken party channel said)) (frames_of party now)))

abbrev purse_by : Party → Mode → List Carriage → Purse
purse_by party mode carriages = purse (ears_so_far party carriages) (credits_of party.dlci party.role (frames_of party (given_by (spoken_with party mode) carriages)))

purse_anew : (party : Party) (channel : Channel) (said : List Saying) (more : Saying) → list_any (has_own channel) (reading said).entries ≡ false → purse_of party channel (said ++ more ∷ []) ≡ no_purse
purse_anew party channel said more none =
    purse_more party channel said more
    ∙ (ap (λ now. purse_step party channel (reading said) now more) (ap (purse_by party (mode_of channel said)) (stretch_before channel said none))
    ∙ ap (purse_with party (mode_of channel said) no_purse) (nothing-carried channel is_heard (reading said).entries more none))

purses_follow : (party : Party) → Follows (purse_step party) no_purse (purse_of party)
purses_follow party = record { grows = purse_more party; anew = purse_anew party }

purses_are : (party : Party) (said : List Saying) → pass_of (purse_step party) no_purse said ≡ pass_back (purse_of party) said
purses_are party said = pass-is (purse_step party) no_purse (purse_of party) (purses_follow party) said

-- ---- what it finds

chosen : {X Y : Type 0} (f : X → Y) (test : Bool) (x : X) (xs : List X) (ys : List Y) → ys ≡ map f xs → cons_option (cond test (Some (f x)) None) ys ≡ map f (cons_option (cond test (Some x) None) xs)
chosen f true x xs ys same = ap (λ rest. f x ∷ rest) same
chosen f false x xs ys same = same

purses_on : (party : Party) (said : List Saying) (entries : List Entry) → filter_map purse_on (map (kept_of (purse_of party) said) entries) ≡ map (λ channel. purse_of party channel said) (filter_map carries_rfcomm entries)
purses_on party said [] = refl
purses_on party said (entry ∷ entries) =
    chosen (λ channel. purse_of party channel said) (eqb entry.channel.psm 0x0003 && is_alive entry.life) entry.channel (filter_map carries_rfcomm entries) (filter_map purse_on (map (kept_of (purse_of party) said) entries)) (purses_on party said entries)

last_one : {X Y : Type 0} (f : X → Y) (found : Option X) (x : X) → option_map f (option_or found (Some x)) ≡ option_or (option_map f found) (Some (f x))
last_one f None x = refl
last_one f (Some y) x = refl

last_mapped : {X Y : Type 0} (f : X → Y) (xs : List X) → last_of (map f xs) ≡ option_map f (last_of xs)
last_mapped f [] = refl
last_mapped f (x ∷ xs) = ap (λ o. option_or o (Some (f x))) (last_mapped f xs) ∙ sym (last_one f (last_of xs) x)

on_last : (party : Party) (said : List Saying) (found : Option Channel) → credits_on party said found ≡ held_in (option_map (λ channel. purse_of party channel said) found)
on_last party said None = refl
on_last party said (Some channel) = sym (credits_are party.dlci party.role (map (passed party) (spoken party channel said)))

credits_back : (party : Party) (said : List Saying) → credits party said ≡ credits_in (pass_back (purse_of party) said)
credits_back party said =
    let entries = (reading said).entries in
    let all : Channel → Purse = λ channel. purse_of party channel said in
    on_last party said (multiplexed entries)
    ∙ (ap held_in (sym (last_mapped all (filter_map carries_rfcomm entries)))
    ∙ ap (λ purses. held_in (last_of purses)) (sym (purses_on party said entries)))

pub link-credits_look_back : LinkCreditsLookBack
link-credits_look_back = record { held = purses_are; credits = λ party said. credits_back party said ∙ ap credits_in (sym (purses_are party said)) }

pub link-credits_grow : LinkCreditsGrow
link-credits_grow = record {
  held = λ party said more. sym (pass-more (purse_step party) no_purse (purse_of party) (purses_follow party) said more);
  credits = λ party said more. credits_back party (said ++ more ∷ []) ∙ ap credits_in (sym (pass-more (purse_step party) no_purse (purse_of party) (purses_follow party) said more));
}
