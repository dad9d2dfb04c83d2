-- The answers of service discovery on a link, in one pass.
use Rattle.std.proofs.Common.{◌≡◌, ℕ, List, [], ◌∷◌, ◌++◌, map, fold, Bool, true, false, cond, Option, None, refl, sym, ap, ◌∙◌, append_assoc}
use Rattle.std.specs.List.{flat_map, list_any}
use Rattle.std.proofs.lemmas.List.Sums.{fold-append}
use Rattle.link_talk.specs.capture.specs.Histories.{given_by}
use Rattle.link_talk.specs.l2cap_config.specs.declared.wish.Mode.{Mode}
use Rattle.link_talk.specs.sdp_client.specs.Replies.{PlainPart}
use Rattle.link_talk.specs.declared.channel.Channel.{Channel}
use Rattle.link_talk.specs.declared.party.Party.{Party}
use Rattle.link_talk.specs.Sayings.{Saying}
use Rattle.link_talk.specs.Channels.{Entry, reading}
use Rattle.link_talk.specs.Carriages.{Carriage, is_heard, carried, stretch, has_own, mode_of}
use Rattle.link_talk.specs.Sdus.{Spoken, spoken, spoken_with}
use Rattle.link_talk.specs.ServiceAnswers.{waiting_after, part_with, parts_from, is_last, joined_from, answers_in, channel_answers}
use Rattle.link_talk.proofs.Growing.{stretch-grows}
use Rattle.talk_laws.specs.Sdus.{Ears, no_ears, ears_after, ears_so_far}
use Rattle.talk_laws.specs.Packets.{sdus_said}
use Rattle.talk_laws.specs.LinkPass.{pass_of, kept_of, pass_back, Follows}
use Rattle.talk_laws.specs.LinkAnswers.{unfinished_after, Asking, no_asking, answers_now, asking_by, asking_with, asking_step, answers_on, answers_of, unfinished_of, asking_of, LinkAnswersLookBack, LinkAnswersGrow}
use Rattle.talk_laws.proofs.Owning.{nothing-carried}
use Rattle.talk_laws.proofs.Waits.{spoken-more}
use Rattle.talk_laws.proofs.Spelling.{stretch_before}
use Rattle.talk_laws.proofs.LinkPass.{pass-more, pass-is}

-- ---- some SDUs more

parts_append : (waiting : Option ℕ) (xs ys : List Spoken) → parts_from waiting (xs ++ ys) ≡ parts_from waiting xs ++ parts_from (fold waiting_after waiting xs) ys
parts_append waiting [] ys = refl
parts_append waiting (x ∷ xs) ys =
    let next = waiting_after waiting x in
    ap (λ rest. part_with x.flow waiting x.octets ++ rest) (parts_append next xs ys)
    ∙ sym (append_assoc (part_with x.flow waiting x.octets) (parts_from next xs) (parts_from (fold waiting_after next xs) ys))

joined_by : (last : Bool) (so_far : List ℕ) (part : PlainPart) (parts more : List PlainPart)
    → joined_from [] (parts ++ more) ≡ joined_from [] parts ++ joined_from (unfinished_after [] parts) more
    → joined_from (so_far ++ part.octets) (parts ++ more) ≡ joined_from (so_far ++ part.octets) parts ++ joined_from (unfinished_after (so_far ++ part.octets) parts) more
    → cond last ((so_far ++ part.octets) ∷ joined_from [] (parts ++ more)) (joined_from (so_far ++ part.octets) (parts ++ more))
    ≡ cond last ((so_far ++ part.octets) ∷ joined_from [] parts) (joined_from (so_far ++ part.octets) parts) ++ joined_from (unfinished_after (cond last [] (so_far ++ part.octets)) parts) more
joined_by true so_far part parts more anew on = ap (λ rest. (so_far ++ part.octets) ∷ rest) anew
joined_by false so_far part parts more anew on = on

joined_append : (so_far : List ℕ) (parts more : List PlainPart) → joined_from so_far (parts ++ more) ≡ joined_from so_far parts ++ joined_from (unfinished_after so_far parts) more
joined_append so_far [] more = refl
joined_append so_far (part ∷ parts) more =
    joined_by (is_last part) so_far part parts more (joined_append [] parts more) (joined_append (so_far ++ part.octets) parts more)

unfinished_append : (so_far : List ℕ) (parts more : List PlainPart) → unfinished_after so_far (parts ++ more) ≡ unfinished_after (unfinished_after so_far parts) more
unfinished_append so_far [] more = refl
unfinished_append so_far (part ∷ parts) more = unfinished_append (cond (is_last part) [] (so_far ++ part.octets)) parts more

answers_more : (sdus more : List Spoken) → answers_in (sdus ++ more) ≡ answers_in sdus ++ answers_now (fold waiting_after None sdus) (unfinished_of sdus) more
answers_more sdus more =
    ap (joined_from []) (parts_append None sdus more)
    ∙ joined_append [] (parts_from None sdus) (parts_from (fold waiting_after None sdus) more)

unfinished_more : (sdus more : List Spoken) → unfinished_of (sdus ++ more) ≡ unfinished_after (unfinished_of sdus) (parts_from (fold waiting_after None sdus) more)
unfinished_more sdus more =
    ap (unfinished_after []) (parts_append None sdus more)
    ∙ unfinished_append [] (parts_from None sdus) (parts_from (fold waiting_after None sdus) more)

-- ---- what is held of a channel

abbrev made : Ears → Option ℕ → List ℕ → List (List ℕ) → Asking
made ears waiting unfinished answers = record { ears = ears; waiting = waiting; unfinished = unfinished; answers = answers }

-- by its SDUs
abbrev by_sdus : Ears → List Spoken → Asking
by_sdus ears sdus = made ears (fold waiting_after None sdus) (unfinished_of sdus) (answers_in sdus)

sdus_more : (ears ears' : Ears) (sdus more : List Spoken) → by_sdus ears' (sdus ++ more) ≡ asking_by (by_sdus ears sdus) ears' more
sdus_more ears ears' sdus more =
    let waiting = fold waiting_after (fold waiting_after None sdus) more in
    ap (λ now. made ears' now (unfinished_of (sdus ++ more)) (answers_in (sdus ++ more))) (fold-append waiting_after None sdus more)
    ∙ (ap (λ octets. made ears' waiting octets (answers_in (sdus ++ more))) (unfinished_more sdus more)
    ∙ ap (made ears' waiting (unfinished_after (unfinished_of sdus) (parts_from (fold waiting_after None sdus) more))) (answers_more sdus more))

asking_more : (party : Party) (channel : Channel) (said : List Saying) (more : Saying) → asking_of party channel (said ++ more ∷ []) ≡ asking_step party channel (reading said) (asking_of party channel said) more
asking_more party channel said more =
    let heard = carried is_heard channel said more in
    let old = ears_so_far party (stretch channel said) in
    let new = fold (ears_after party) old heard in
    ap (λ ears. by_sdus ears (spoken party channel (said ++ more ∷ []))) (ap (ears_so_far party) (stretch-grows channel said more) ∙ fold-append (ears_after party) no_ears (stretch channel said) heard)
    ∙ (ap (by_sdus new) (spoken-more party channel said more) ∙ sdus_more old new (spoken party channel said) (sdus_said party channel said more))

abbrev asking_before : Party → Mode → List Carriage → Asking
asking_before party mode carriages = by_sdus (ears_so_far party carriages) (given_by (spoken_with party mode) carriages)

asking_anew : (party : Party) (channel : Channel) (said : List Saying) (more : Saying) → list_any (has_own channel) (reading said).entries ≡ false → asking_of party channel (said ++ more ∷ []) ≡ no_asking
asking_anew party channel said more none =
    asking_more party channel said more
    ∙ (ap (λ asking. asking_step party channel (reading said) asking more) (ap (asking_before party (mode_of channel said)) (stretch_before channel said none))
    ∙ ap (asking_with party (mode_of channel said) no_asking) (nothing-carried channel is_heard (reading said).entries more none))

askings_follow : (party : Party) → Follows (asking_step party) no_asking (asking_of party)
askings_follow party = record { grows = asking_more party; anew = asking_anew party }

askings_are : (party : Party) (said : List Saying) → pass_of (asking_step party) no_asking said ≡ pass_back (asking_of party) said
askings_are party said = pass-is (asking_step party) no_asking (asking_of party) (askings_follow party) said

-- ---- the answers of a link

each_on : (party : Party) (said : List Saying) (entries : List Entry) → flat_map (λ (entry : Entry). channel_answers party said entry.channel) entries ≡ flat_map answers_on (map (kept_of (asking_of party) said) entries)
each_on party said [] = refl
each_on party said (entry ∷ entries) = ap (λ rest. channel_answers party said entry.channel ++ rest) (each_on party said entries)

pub link-answers_look_back : LinkAnswersLookBack
link-answers_look_back = record { held = askings_are; answers = λ party said. each_on party said (reading said).entries ∙ ap answers_of (sym (askings_are party said)) }

pub link-answers_grow : LinkAnswersGrow
link-answers_grow = record {
  sdus = answers_more;
  answers = λ party said more.
      each_on party (said ++ more ∷ []) (reading (said ++ more ∷ [])).entries
      ∙ ap answers_of (sym (pass-more (asking_step party) no_asking (asking_of party) (askings_follow party) said more));
}
