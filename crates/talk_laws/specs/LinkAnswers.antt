-- The answers of service discovery on a link, in one pass (Core 5.1, Volume 3 Part B, 4.2, 4.3 and 4.7).
use Rattle.std.specs.Prelude.{ℕ, ◌≡◌, ◌==◌, List, [], ◌∷◌, ◌++◌, fold, Option, None, if◌then◌else◌}
use Rattle.std.specs.List.{flat_map}
use Rattle.link_talk.specs.l2cap_config.specs.declared.wish.Mode.{Mode}
use Rattle.link_talk.specs.sdp_client.specs.Replies.{PlainPart}
use Rattle.link_talk.specs.declared.channel.Channel.{Channel}
use Rattle.link_talk.specs.declared.party.Party.{Party}
use Rattle.link_talk.specs.Sayings.{Saying}
use Rattle.link_talk.specs.Carriages.{Carriage, is_heard, carried_by, stretch}
use Rattle.link_talk.specs.Sdus.{Spoken, spoken}
use Rattle.link_talk.specs.ServiceAnswers.{waiting_after, parts_from, is_last, joined_from, answers_in, service_answers}
use Rattle.talk_laws.specs.Sdus.{Ears, no_ears, ears_after, ears_so_far, spoken_from}
use Rattle.talk_laws.specs.Waits.{mode_held}
use Rattle.talk_laws.specs.LinkPass.{KeptChannel, LinkPass, ChannelStep, pass_after, pass_of, pass_back}

-- ---- a channel

-- the octets of an answer that is not whole, behind parts
abbrev pub unfinished_after : List ℕ → List PlainPart → List ℕ
unfinished_after so_far [] = so_far
unfinished_after so_far (part ∷ parts) = unfinished_after (if is_last part then [] else so_far ++ part.octets) parts

-- How far the SDUs are joined, the request that waits, the octets of an answer that is not whole, and the answers.
pub record Asking : Type 0 where
  pub ears : Ears
  pub waiting : Option ℕ
  pub unfinished : List ℕ
  pub answers : List (List ℕ)

abbrev pub no_asking : Asking
no_asking = record { ears = no_ears; waiting = None; unfinished = []; answers = [] }

-- the answers that are whole with these SDUs
abbrev pub answers_now : Option ℕ → List ℕ → List Spoken → List (List ℕ)
answers_now waiting unfinished sdus = joined_from unfinished (parts_from waiting sdus)

abbrev pub asking_by : Asking → Ears → List Spoken → Asking
asking_by asking ears sdus =
    record {
      ears = ears;
      waiting = fold waiting_after asking.waiting sdus;
      unfinished = unfinished_after asking.unfinished (parts_from asking.waiting sdus);
      answers = asking.answers ++ answers_now asking.waiting asking.unfinished sdus;
    }

abbrev pub asking_with : Party → Mode → Asking → List Carriage → Asking
asking_with party mode asking carried = asking_by asking (fold (ears_after party) asking.ears carried) (spoken_from party mode asking.ears carried)

abbrev pub asking_step : Party → ChannelStep Asking
asking_step party channel held asking saying = asking_with party (mode_held channel held) asking (carried_by is_heard channel held.entries saying)

-- ---- a link

abbrev pub answers_on : KeptChannel Asking → List (List ℕ)
answers_on one = if one.entry.channel.psm == 0x0001 then one.state.answers else []

abbrev pub answers_of : LinkPass Asking → List (List ℕ)
answers_of pass = flat_map answers_on pass.kept

-- ---- the laws

abbrev pub unfinished_of : List Spoken → List ℕ
unfinished_of sdus = unfinished_after [] (parts_from None sdus)

abbrev pub asking_of : Party → Channel → List Saying → Asking
asking_of party channel said =
    record {
      ears = ears_so_far party (stretch channel said);
      waiting = fold waiting_after None (spoken party channel said);
      unfinished = unfinished_of (spoken party channel said);
      answers = answers_in (spoken party channel said);
    }

pub record LinkAnswersLookBack : Type 0 where
  pub held : (party : Party) (said : List Saying) → pass_of (asking_step party) no_asking said ≡ pass_back (asking_of party) said
  pub answers : (party : Party) (said : List Saying) → service_answers party said ≡ answers_of (pass_of (asking_step party) no_asking said)

-- some SDUs more on a channel, and one saying more on a link
pub record LinkAnswersGrow : Type 0 where
  pub sdus : (sdus more : List Spoken) → answers_in (sdus ++ more) ≡ answers_in sdus ++ answers_now (fold waiting_after None sdus) (unfinished_of sdus) more
  pub answers : (party : Party) (said : List Saying) (more : Saying) → service_answers party (said ++ more ∷ []) ≡ answers_of (pass_after (asking_step party) no_asking (pass_back (asking_of party) said) more)
