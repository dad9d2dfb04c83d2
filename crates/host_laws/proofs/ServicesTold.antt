-- What was told on a link stays told.
use Rattle.std.proofs.Common.{◌≡◌, ℕ, ◌+◌, List, [], ◌∷◌, ◌++◌, map, fold, Bool, true, false, cond, ◌||◌, ◌&&◌, eqb, Option, Some, None, refl, sym, ap, ap₂, subst, ◌∙◌, append_assoc, append-nil}
use Rattle.std.specs.Prelude.{is_some, option_to_list}
use Rattle.std.specs.List.{list_any, flat_map, filter_map, cons_option}
use Rattle.std.proofs.lemmas.List.Folds.{list_any-append}
use Rattle.shelf_model.specs.bt_base.specs.declared.settings.Transport.{Transport}
use Rattle.shelf_model.specs.bt_base.specs.declared.settings.Transport.TheVariants.{L2cap, Rfcomm}
use Rattle.shelf_model.specs.sdp_elements.specs.declared.target.Target.{Target}
use Rattle.shelf_model.specs.sdp_elements.specs.Targets.{target_in}
use Rattle.shelf_model.specs.rfcomm_frames.specs.Frames.{PlainFrame}
use Rattle.push_laws.specs.link_talk.specs.declared.channel.Channel.{Channel}
use Rattle.push_laws.specs.link_talk.specs.declared.party.Party.{Party}
use Rattle.push_laws.specs.link_talk.specs.Sayings.{Saying}
use Rattle.push_laws.specs.link_talk.specs.Senses.{sense}
use Rattle.push_laws.specs.link_talk.specs.Meanings.{Meaning, meant}
use Rattle.push_laws.specs.link_talk.specs.Channels.{Entry, fresh, entry_after, is_owner, with_fresh, made_by, reading}
use Rattle.push_laws.specs.link_talk.specs.Sdus.{spoken}
use Rattle.push_laws.specs.link_talk.specs.ServiceAnswers.{waiting_after, answers_in, channel_answers, service_answers}
use Rattle.push_laws.specs.link_talk.proofs.OnePass.{reading-more}
use Rattle.channel_laws.specs.talk_laws.specs.LinkAnswers.{answers_now, unfinished_of}
use Rattle.channel_laws.specs.talk_laws.specs.Objects.{GrowsTo}
use Rattle.channel_laws.specs.talk_laws.proofs.LinkAnswers.{link-answers_grow}
use Rattle.channel_laws.specs.talk_laws.proofs.Objects.{objects-grow}
use Rattle.host_laws.specs.Services.{targets_told, is_number, tells_psm, dlci_of, asks_as_told, answers_peer, goes_as_told}

-- ---- tests

abbrev pub holds : {X : Type 0} → (X → Bool) → Option X → Bool
holds test None = false
holds test (Some x) = test x

pub any_option : {Y : Type 0} (test : Y → Bool) (y : Option Y) (ys : List Y) → list_any test (cons_option y ys) ≡ (holds test y || list_any test ys)
any_option test None ys = refl
any_option test (Some y) ys = refl

pub any_kept : {X Y : Type 0} (test : Y → Bool) (what : X → Option Y) (xs : List X) → list_any test (filter_map what xs) ≡ list_any (λ x. holds test (what x)) xs
any_kept test what [] = refl
any_kept test what (x ∷ xs) = any_option test (what x) (filter_map what xs) ∙ ap (λ b. holds test (what x) || b) (any_kept test what xs)

pub any_within : {X Y : Type 0} (test : Y → Bool) (what : X → List Y) (xs : List X) → list_any test (flat_map what xs) ≡ list_any (λ x. list_any test (what x)) xs
any_within test what [] = refl
any_within test what (x ∷ xs) = list_any-append test (what x) (flat_map what xs) ∙ ap (λ b. list_any test (what x) || b) (any_within test what xs)

pub or_left : (a b : Bool) → a ≡ true → (a || b) ≡ true
or_left true b is = refl
or_left false b is = cc

pub or_right : (a b : Bool) → b ≡ true → (a || b) ≡ true
or_right true b is = refl
or_right false b is = is

pub or_goes : (a b c d : Bool) → (a ≡ true → c ≡ true) → (b ≡ true → d ≡ true) → (a || b) ≡ true → (c || d) ≡ true
or_goes true b c d first second is = or_left c d (first refl)
or_goes false b c d first second is = or_right c d (second is)

pub and_goes : (a b c d : Bool) → (a ≡ true → c ≡ true) → (b ≡ true → d ≡ true) → (a && b) ≡ true → (c && d) ≡ true
and_goes true b c d first second is = ap (λ x. x && d) (first refl) ∙ second is
and_goes false b c d first second is = cc

pub any_grown : {X : Type 0} (test : X → Bool) (old new : List X) → GrowsTo old new → list_any test old ≡ true → list_any test new ≡ true
any_grown test old new grows is = ap (list_any test) grows.grown ∙ (list_any-append test old grows.more ∙ or_left (list_any test old) (list_any test grows.more) is)

-- ---- one saying more

module _ (party : Party) (said : List Saying) (more : Saying) where
  abbrev then : List Saying
  then = said ++ more ∷ []

  answers_grow : (channel : Channel) (search : Bool) → GrowsTo (let answers : List (List ℕ) = cond search (answers_in (spoken party channel said)) [] in answers) (cond search (answers_in (spoken party channel then)) [])
  answers_grow channel false = record { more = []; grown = refl }
  answers_grow channel true =
      let grows = objects-grow.spoken party channel said more in
      let sdus = spoken party channel said in
      record { more = answers_now (fold waiting_after None sdus) (unfinished_of sdus) grows.more; grown = ap answers_in grows.grown ∙ link-answers_grow.sdus sdus grows.more }

  module _ (test : List ℕ → Bool) where
    -- an answer of the channel passes
    abbrev passes : List Saying → Channel → Bool
    passes talk channel = list_any test (channel_answers party talk channel)

    abbrev one_passes : List Saying → Entry → Bool
    one_passes talk entry = passes talk entry.channel

    passes_on : (channel : Channel) → passes said channel ≡ true → passes then channel ≡ true
    passes_on channel is = any_grown test (channel_answers party said channel) (channel_answers party then channel) (answers_grow channel (eqb channel.psm 0x0001)) is

    goes_on : (meaning : Meaning) (entries : List Entry) → list_any (one_passes said) entries ≡ true → list_any (one_passes then) (map (entry_after meaning) entries) ≡ true
    goes_on meaning [] is = cc
    goes_on meaning (entry ∷ entries) is =
        or_goes (passes said entry.channel) (list_any (one_passes said) entries) (passes then entry.channel) (list_any (one_passes then) (map (entry_after meaning) entries)) (passes_on entry.channel) (goes_on meaning entries) is

    fresh_on : (entries : List Entry) (channel : Channel) (known : Bool) → list_any (one_passes then) entries ≡ true → list_any (one_passes then) (cond known entries (entries ++ fresh channel ∷ [])) ≡ true
    fresh_on entries channel true is = is
    fresh_on entries channel false is = list_any-append (one_passes then) entries (fresh channel ∷ []) ∙ or_left (list_any (one_passes then) entries) (list_any (one_passes then) (fresh channel ∷ [])) is

    all_on : (channels : List Channel) (entries : List Entry) → list_any (one_passes then) entries ≡ true → list_any (one_passes then) (fold with_fresh entries channels) ≡ true
    all_on [] entries is = is
    all_on (channel ∷ channels) entries is = all_on channels (with_fresh entries channel) (fresh_on entries channel (list_any (is_owner channel) entries) is)

    stays_one : list_any test (service_answers party said) ≡ true → list_any test (service_answers party then) ≡ true
    stays_one is =
        let meaning = meant (reading said).requests (sense more) in
        any_within test (λ (entry : Entry). channel_answers party then entry.channel) (reading then).entries
        ∙ (ap (λ r. list_any (one_passes then) r.entries) (reading-more said more)
        ∙ all_on (option_to_list (made_by meaning)) (map (entry_after meaning) (reading said).entries)
        (goes_on meaning (reading said).entries (sym (any_within test (λ (entry : Entry). channel_answers party said entry.channel) (reading said).entries) ∙ is)))

-- ---- any more

pub answers_stay : (party : Party) (said more : List Saying) (test : List ℕ → Bool) → list_any test (service_answers party said) ≡ true → list_any test (service_answers party (said ++ more)) ≡ true
answers_stay party said [] test is = subst (λ l. list_any test (service_answers party l) ≡ true) (sym (append-nil said)) is
answers_stay party said (one ∷ more) test is =
    subst (λ l. list_any test (service_answers party l) ≡ true) (append_assoc said (one ∷ []) more) (answers_stay party (said ++ one ∷ []) more test (stays_one party said one test is))

-- a target that was told
pub targets-stay : (party : Party) (said more : List Saying) (test : Target → Bool) → list_any test (targets_told party said) ≡ true → list_any test (targets_told party (said ++ more)) ≡ true
targets-stay party said more test is =
    any_kept test target_in (service_answers party (said ++ more))
    ∙ answers_stay party said more (λ answer. holds test (target_in answer)) (sym (any_kept test target_in (service_answers party said)) ∙ is)

pub asks-stay : (party : Party) (transport : Transport) (said more : List Saying) (psm : ℕ) → asks_as_told transport (targets_told party said) psm ≡ true → asks_as_told transport (targets_told party (said ++ more)) psm ≡ true
asks-stay party L2cap said more psm is = or_goes (eqb psm 0x0001) _ (eqb psm 0x0001) _ (λ first. first) (targets-stay party said more (λ (target : Target). is_number psm target.l2cap)) is
asks-stay party Rfcomm said more psm is =
    or_goes (eqb psm 0x0001) _ (eqb psm 0x0001) _ (λ first. first) (and_goes (eqb psm 0x0003) _ (eqb psm 0x0003) _ (λ mux. mux) (targets-stay party said more (λ (target : Target). is_some target.rfcomm))) is

pub goes-stay : (party : Party) (said more : List Saying) (frame : PlainFrame) → goes_as_told (targets_told party said) frame ≡ true → goes_as_told (targets_told party (said ++ more)) frame ≡ true
goes-stay party said more frame is =
    or_goes (answers_peer frame.kind) _ (answers_peer frame.kind) _ (λ first. first)
    (or_goes (eqb frame.dlci 0) _ (eqb frame.dlci 0) _ (λ own. own) (targets-stay party said more (λ (target : Target). is_number frame.dlci (dlci_of target)))) is
