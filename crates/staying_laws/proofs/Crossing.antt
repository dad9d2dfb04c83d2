-- Where a channel of a host is one whose end both asked for, the host answered the other one's request.
use Rattle.std.proofs.Common.{◌≡◌, ℕ, List, [], ◌∷◌, ◌++◌, Bool, true, false, cond, eqb, ◌&&◌, Option, Some, None, refl, sym, ap, subst, ◌∙◌, ◌⊎◌, inl, inr}
use Rattle.channel_laws.specs.l2cap_signal.specs.Commands.{disconnection_request}
use Rattle.channel_laws.specs.link_talk.specs.declared.channel.Channel.{Channel}
use Rattle.channel_laws.specs.link_talk.specs.declared.life.Life.{Life}
use Rattle.channel_laws.specs.link_talk.specs.declared.life.Life.TheVariants as lives
use Rattle.channel_laws.specs.link_talk.specs.declared.word.Word.{Word}
use Rattle.channel_laws.specs.link_talk.specs.declared.word.Word.TheVariants as words
use Rattle.channel_laws.specs.link_talk.specs.Channels.{Entry, life_after, word, entry_after, reading, Reading}
use Rattle.channel_laws.specs.link_talk.specs.Meanings.{Meaning, meant}
use Rattle.channel_laws.specs.link_talk.specs.Senses.{sense}
use Rattle.channel_laws.specs.link_talk.specs.Requests.{Requests}
use Rattle.channel_laws.specs.link_talk.specs.Sayings.{Saying}
use Rattle.channel_laws.specs.talk_laws.proofs.Passes.{from_end}
use Rattle.channel_laws.specs.OwnTalk.{spoken, command_with}
use Rattle.channel_laws.specs.Views.{read_at}
use Rattle.channel_laws.proofs.Conversing.{reading-on}
use Rattle.channel_laws.proofs.Saying.{stands-left, stands-right}
use Rattle.disconnection_laws.specs.Ended.{HasAnsweredEnd}
use Rattle.disconnection_laws.proofs.Parting.{Turns, Stays, IsAnswer, IsRequest, alive_after, turns_by, after_by}

crossing : (life : Life) (said : Option Word) → life_after life said ≡ lives.Crossed → (life ≡ lives.Crossed) ⊎ (said ≡ Some words.AnswersEnd)
crossing life None is = inl is
crossing lives.Alive (Some words.AsksEnd) is = cc
crossing lives.Alive (Some words.AnswersEnd) is = inr refl
crossing lives.Alive (Some words.EndAnswered) is = cc
crossing lives.Alive (Some words.EndForgone) is = cc
crossing lives.Leaving (Some words.AsksEnd) is = cc
crossing lives.Leaving (Some words.AnswersEnd) is = inr refl
crossing lives.Leaving (Some words.EndAnswered) is = cc
crossing lives.Leaving (Some words.EndForgone) is = cc
crossing lives.Crossed (Some said) is = inl refl
crossing lives.Over (Some said) is = cc

-- an answer to such a request is no request
no_request : (asked : Requests) (s : Saying) (channel : Channel) (identifier : ℕ) → s ≡ spoken (command_with identifier (disconnection_request channel.peer channel.own)) → word channel (meant asked (sense s)) ≡ Some words.AnswersEnd → ⊥
no_request asked s channel identifier same is = by (eqb channel.own channel.own && eqb channel.peer channel.peer) (subst (λ (t : Saying). word channel (meant asked (sense t)) ≡ Some words.AnswersEnd) same is)
  where
    by : (b : Bool) → cond b (Some words.AsksEnd) None ≡ Some words.AnswersEnd → ⊥
    by true now = cc
    by false now = cc

abbrev HasAnswered : Entry → List Saying → Type 0
HasAnswered entry said = (identifier : ℕ) × HasAnsweredEnd identifier entry.channel.own entry.channel.peer said

abbrev AllCrossed : List Saying → Type 0
AllCrossed said = (own : ℕ) (entry : Entry) → read_at own (reading said).entries ≡ Some entry → entry.life ≡ lives.Crossed → HasAnswered entry said

pub all-crossed : (said : List Saying) → AllCrossed said
all-crossed = from_end AllCrossed (λ own entry found is. cc) step
  where
    step : (said : List Saying) (s : Saying) → AllCrossed said → AllCrossed (said ++ s ∷ [])
    step said s before own after found crossed = by (after_by own (reading said).entries m after (ap (λ (r : Reading). read_at own r.entries) (sym (reading-on said (s ∷ []))) ∙ found))
      where
        m : Meaning
        m = meant (reading said).requests (sense s)

        answers : (entry : Entry) → word entry.channel m ≡ Some words.AnswersEnd → Turns s entry.channel (alive_after entry.channel m) → HasAnswered entry (said ++ s ∷ [])
        answers entry is (Stays same) = let never : lives.Over ≡ lives.Alive = sym (ap (life_after lives.Alive) is) ∙ same in cc
        answers entry is (IsAnswer identifier same) = (identifier, stands-right _ said (s ∷ []) (inl same))
        answers entry is (IsRequest identifier same) = absurd (no_request (reading said).requests s entry.channel identifier same is)

        either : (entry : Entry) → read_at own (reading said).entries ≡ Some entry → (entry.life ≡ lives.Crossed) ⊎ (word entry.channel m ≡ Some words.AnswersEnd) → HasAnswered entry (said ++ s ∷ [])
        either entry old (inl was) = let (identifier, stands) = before own entry old was in (identifier, stands-left _ said (s ∷ []) stands)
        either entry old (inr is) = answers entry is (turns_by (reading said).requests s entry.channel)

        by : ((entry : Entry) × (read_at own (reading said).entries ≡ Some entry) × (entry_after m entry ≡ after)) ⊎ (after.life ≡ lives.Alive) → HasAnswered after (said ++ s ∷ [])
        by (inl (entry, old, goes)) =
            subst (λ (c : Channel). (identifier : ℕ) × HasAnsweredEnd identifier c.own c.peer (said ++ s ∷ [])) (ap (λ (e : Entry). e.channel) goes)
            (either entry old (crossing entry.life (word entry.channel m) (ap (λ (e : Entry). e.life) goes ∙ crossed)))
        by (inr alive) = let never : lives.Alive ≡ lives.Crossed = sym alive ∙ crossed in cc
