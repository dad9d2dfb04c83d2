-- Which PDUs go over a channel.
use Rattle.std.proofs.Common.{◌≡◌, ℕ, List, [], ◌∷◌, Bool, true, false, cond, ◌&&◌, eqb, Option, Some, None, refl, sym, ap, subst, ◌∙◌}
use Rattle.std.specs.Prelude.{find}
use Rattle.std.specs.List.{list_any}
use Rattle.talk_laws.specs.acl_fragments.specs.Pieces.{channel_of}
use Rattle.talk_laws.specs.capture.specs.declared.flow.Flow.{Flow}
use Rattle.talk_laws.specs.capture.specs.declared.flow.Flow.TheVariants.{Into}
use Rattle.std.proofs.lemmas.Bool.{eqb-true}
use Rattle.channel_model.proofs.Lookups.{eqb-same, eqb-away, and_off}
use Rattle.own_channel_laws.specs.Views.{read_at}
use Rattle.own_channel_laws.proofs.Both.{and-right}
use Rattle.own_channel_laws.proofs.Entries.{read-own}
use Rattle.talk_laws.specs.link_talk.specs.declared.channel.Channel.{Channel}
use Rattle.talk_laws.specs.link_talk.specs.Sayings.{Saying, Carried}
use Rattle.talk_laws.specs.link_talk.specs.Channels.{Entry, reading}
use Rattle.talk_laws.specs.link_talk.specs.Carriages.{Carriage, takes, taker, is_on, carried, has_own}
use Rattle.talk_laws.proofs.Owning.{alone, found_one, found_passes}
use Rattle.own_channel_laws.proofs.Awaiting.{any-none, any-other}

-- a PDU goes over the channel that is found, by what counts of a channel
abbrev pub goes_over : (counts : Flow → Entry → Bool) → Flow → List ℕ → Option Entry → Bool
goes_over counts flow pdu None = false
goes_over counts flow pdu (Some entry) = takes counts flow (channel_of pdu) entry

-- where the channel takes none, it carries none
pub carried-none : (counts : Flow → Entry → Bool) (channel : Channel) (said : List Saying) (flow : Flow) (pdu : List ℕ) → goes_over counts flow pdu (find (has_own channel) (reading said).entries) ≡ false → carried counts channel said (Carried flow pdu) ≡ []
carried-none counts channel said flow pdu none = by (taker counts flow pdu (reading said).entries) refl
  where
    one : Carriage
    one = record { flow = flow; pdu = pdu }

    on : (entry : Entry) → taker counts flow pdu (reading said).entries ≡ Some entry → (b : Bool) → has_own channel entry ≡ b → cond b (one ∷ []) [] ≡ []
    on entry is false away = refl
    on entry is true here =
        let found : find (has_own channel) (reading said).entries ≡ Some entry = found_one channel (takes counts flow (channel_of pdu)) (reading said).entries entry (alone said) is here in
        let never : true ≡ false = sym (found_passes (takes counts flow (channel_of pdu)) (reading said).entries entry is) ∙ (sym (ap (goes_over counts flow pdu) found) ∙ none) in absurd cc

    by : (found : Option Entry) → taker counts flow pdu (reading said).entries ≡ found → carried counts channel said (Carried flow pdu) ≡ []
    by None is = ap (λ e. cond (is_on channel e) (one ∷ []) []) is
    by (Some entry) is = ap (λ e. cond (is_on channel e) (one ∷ []) []) is ∙ on entry is (has_own channel entry) refl

-- and where it takes one, and no other does, it carries it
pub carried-one : (counts : Flow → Entry → Bool) (channel : Channel) (said : List Saying) (flow : Flow) (pdu : List ℕ) (entry : Entry) → find (has_own channel) (reading said).entries ≡ Some entry → takes counts flow (channel_of pdu) entry ≡ true
    → ((other : Entry) → taker counts flow pdu (reading said).entries ≡ Some other → takes counts flow (channel_of pdu) other ≡ true → has_own channel other ≡ true)
    → (let one : Carriage = record { flow = flow; pdu = pdu } in carried counts channel said (Carried flow pdu) ≡ one ∷ [])
carried-one counts channel said flow pdu entry found takes_it only = by (taker counts flow pdu (reading said).entries) refl
  where
    one : Carriage
    one = record { flow = flow; pdu = pdu }

    by : (other : Option Entry) → taker counts flow pdu (reading said).entries ≡ other → carried counts channel said (Carried flow pdu) ≡ one ∷ []
    by None is =
        let none : list_any (takes counts flow (channel_of pdu)) (reading said).entries ≡ false = any-none (takes counts flow (channel_of pdu)) (reading said).entries is in
        let never : false ≡ true = sym none ∙ any-other (has_own channel) (takes counts flow (channel_of pdu)) (reading said).entries entry found takes_it in absurd cc
    by (Some other) is =
        ap (λ e. cond (is_on channel e) (one ∷ []) []) is
        ∙ ap (λ b. cond b (one ∷ []) []) (only other is (found_passes (takes counts flow (channel_of pdu)) (reading said).entries other is))

-- ---- what comes in

-- for another endpoint
pub into-else : (counts : Flow → Entry → Bool) (channel : Channel) (said : List Saying) (pdu : List ℕ) → eqb (channel_of pdu) channel.own ≡ false → carried counts channel said (Carried Into pdu) ≡ []
into-else counts channel said pdu away = carried-none counts channel said Into pdu (by (read_at channel.own (reading said).entries) refl)
  where
    by : (found : Option Entry) → read_at channel.own (reading said).entries ≡ found → goes_over counts Into pdu found ≡ false
    by None is = refl
    by (Some entry) is =
        ap (λ n. counts Into entry && eqb n (channel_of pdu)) (read-own channel.own (reading said).entries entry is)
        ∙ (ap (λ t. counts Into entry && t) (eqb-away (channel_of pdu) channel.own away) ∙ and_off (counts Into entry))

-- for its own, by whether the channel counts
abbrev pub counted_in : (counts : Flow → Entry → Bool) → Option Entry → Bool
counted_in counts None = false
counted_in counts (Some entry) = counts Into entry

pub into-here : (counts : Flow → Entry → Bool) (channel : Channel) (said : List Saying) (pdu : List ℕ) → eqb (channel_of pdu) channel.own ≡ true
    → (let one : Carriage = record { flow = Into; pdu = pdu } in carried counts channel said (Carried Into pdu) ≡ cond (counted_in counts (read_at channel.own (reading said).entries)) (one ∷ []) [])
into-here counts channel said pdu same = by (read_at channel.own (reading said).entries) refl
  where
    one : Carriage
    one = record { flow = Into; pdu = pdu }

    mine : (entry : Entry) → read_at channel.own (reading said).entries ≡ Some entry → eqb entry.channel.own (channel_of pdu) ≡ true
    mine entry is = ap (λ n. eqb n (channel_of pdu)) (read-own channel.own (reading said).entries entry is ∙ sym (eqb-true (channel_of pdu) channel.own same)) ∙ eqb-same (channel_of pdu)

    on : (entry : Entry) → read_at channel.own (reading said).entries ≡ Some entry → (now : Bool) → counts Into entry ≡ now → carried counts channel said (Carried Into pdu) ≡ cond now (one ∷ []) []
    on entry is true now =
        carried-one counts channel said Into pdu entry is (ap (λ t. t && eqb entry.channel.own (channel_of pdu)) now ∙ mine entry is)
        (λ other at takes. subst (λ n. eqb other.channel.own n ≡ true) (eqb-true (channel_of pdu) channel.own same) (and-right (counts Into other) (eqb other.channel.own (channel_of pdu)) takes))
    on entry is false now = carried-none counts channel said Into pdu (ap (goes_over counts Into pdu) is ∙ ap (λ t. t && eqb entry.channel.own (channel_of pdu)) now)

    by : (found : Option Entry) → read_at channel.own (reading said).entries ≡ found → carried counts channel said (Carried Into pdu) ≡ cond (counted_in counts found) (one ∷ []) []
    by None is = carried-none counts channel said Into pdu (ap (goes_over counts Into pdu) is)
    by (Some entry) is = on entry is (counts Into entry) refl
